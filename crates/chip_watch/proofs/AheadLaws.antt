-- Frames that are sent together with a later one.
use Rattle.std.proofs.Common.{◌≡◌, ◌∙◌, ℕ, List, [], ◌∷◌, ◌++◌, length, drop, Bool, true, false, refl, sym, ap, subst, arith, append_assoc, append-nil, Option, None, Some, Vec, Global}
use Rattle.std.specs.Prelude.{◌==◌, if◌then◌else◌}
use Rattle.std.proofs.lemmas.Bool.{and_from, and_parts, eqb-true}
use Rattle.std.proofs.lemmas.List.{with_items_is}
use Rattle.std.specs.Vec.{with_items}
use Rattle.chip_model.specs.Exchanges.{Exchange, Exchanged, sends_of, sizes_of, turned}
use Rattle.chip_model.proofs.ExchangeLaws.{turned_append}
use Rattle.chip_model.specs.declared.programmer.Turn.{Turn}
use Rattle.chip_watch.specs.Ahead.{are_silent}
use Rattle.chip_watch.specs.Told.{and_then}

pub no_bytes : (xs : List ℕ) → length xs ≡ 0 → xs ≡ []
no_bytes [] e = refl
no_bytes (x ∷ xs) e = absurd (omega (arith, e))

is_zero : (n : ℕ) → (n == 0) ≡ true → n ≡ 0
is_zero n e = eqb-true n 0 e

-- the part of a batch that was ahead was exchanged as it stood, and the rest is that of the batch
pub record Splits (ahead turns after : List Turn) : Type 0 where
  pub sends : sends_of (drop (length ahead) after) ≡ sends_of turns
  pub sizes : sizes_of (drop (length ahead) after) ≡ sizes_of turns
  pub all : turned after ≡ turned ahead ++ turned (drop (length ahead) after)

same_frame : (sent sent2 received received2 : List ℕ) (rest rest2 : List Exchange) → sent ≡ sent2 → received ≡ received2 → rest ≡ rest2
    → record { sent = sent; received = received } ∷ rest ≡ record { sent = sent2; received = received2 } ∷ rest2
same_frame sent sent2 received received2 rest rest2 e1 e2 e3 = cc

pub first_list : (a b : List ℕ) (more bs : List (List ℕ)) → a ∷ more ≡ b ∷ bs → a ≡ b
first_list a b more bs e = cc

pub rest_list : (a b : List ℕ) (more bs : List (List ℕ)) → a ∷ more ≡ b ∷ bs → more ≡ bs
rest_list a b more bs e = cc

pub first_size : (a b : ℕ) (more bs : List ℕ) → a ∷ more ≡ b ∷ bs → a ≡ b
first_size a b more bs e = cc

pub rest_sizes : (a b : ℕ) (more bs : List ℕ) → a ∷ more ≡ b ∷ bs → more ≡ bs
rest_sizes a b more bs e = cc

pub no_list : (a : List ℕ) (more : List (List ℕ)) → [] ≡ a ∷ more → ⊥
no_list a more e = cc

pub split : (ahead turns after : List Turn) → are_silent ahead ≡ true → sends_of after ≡ sends_of (ahead ++ turns) → sizes_of after ≡ sizes_of (ahead ++ turns) → Splits ahead turns after
split [] turns after quiet sends sizes = record { sends = sends; sizes = sizes; all = refl }
split (a ∷ more) turns [] quiet sends sizes = absurd (no_list _ _ sends)
split (a ∷ more) turns (b ∷ bs) quiet sends sizes =
    let parts = and_parts _ _ quiet in
    let none = is_zero _ parts.0 in
    let same = first_size _ _ _ _ sizes in
    let s = split more turns bs parts.1 (rest_list _ _ _ _ sends) (rest_sizes _ _ _ _ sizes) in
    record {
      sends = s.sends;
      sizes = s.sizes;
      all = same_frame b.send.items a.send.items b.recv.items a.recv.items _ _ (first_list _ _ _ _ sends) (no_bytes _ (same ∙ none) ∙ sym (no_bytes _ none)) s.all;
    }

-- what was ahead and a batch was exchanged
pub told_grows : (old new : Option (List Exchange)) (first more all : List Exchange) → all ≡ first ++ more → Exchanged old new all → Exchanged (and_then old first) (and_then new []) more
told_grows None new first more all e one log is = absurd (cc)
told_grows (Some l) new first more all e one log is =
    let same : l ++ first ≡ log = cc in
    let reached : new ≡ Some (l ++ all) = one l refl in
    ap (λ (n : Option (List Exchange)). and_then n []) reached
    ∙ ap (λ (x : List Exchange). Some x) (append-nil (l ++ all) ∙ (ap (λ (x : List Exchange). l ++ x) e ∙ (sym (append_assoc l first more) ∙ ap (λ (x : List Exchange). x ++ more) same)))

-- a frame more is ahead
pub told_ahead : (old new : Option (List Exchange)) (first more : List Exchange) → new ≡ old → Exchanged (and_then old first) (and_then new (first ++ more)) more
told_ahead None new first more same log is = absurd (cc)
told_ahead (Some l) new first more same log is =
    let e : l ++ first ≡ log = cc in
    ap (λ (n : Option (List Exchange)). and_then n (first ++ more)) same
    ∙ ap (λ (x : List Exchange). Some x) (sym (append_assoc l first more) ∙ ap (λ (x : List Exchange). x ++ more) e)

pub told_nothing : (log : Option (List Exchange)) → and_then log [] ≡ log
told_nothing None = refl
told_nothing (Some l) = ap (λ (x : List Exchange). Some x) (append-nil l)

-- more frames that receive nothing
pub silent_more : (some more : List Turn) → are_silent some ≡ true → are_silent more ≡ true → are_silent (some ++ more) ≡ true
silent_more [] more one two = two
silent_more (t ∷ ts) more one two =
    let parts = and_parts _ _ one in
    and_from _ _ parts.0 (silent_more ts more parts.1 two)

-- the answer of a batch of one frame
pub one_answer : (before : List Turn) (t : Turn) (sent : List ℕ) (count : ℕ) → sends_of (before ++ (t ∷ [])) ≡ sent ∷ [] → sizes_of (before ++ (t ∷ [])) ≡ count ∷ []
    → (turned (before ++ (t ∷ [])) ≡ record { sent = sent; received = t.recv.items } ∷ []) × (length t.recv.items ≡ count)
one_answer [] t sent count e1 e2 = (same_frame _ _ _ _ _ _ (first_list _ _ _ _ e1) refl refl, first_size _ _ _ _ e2)
one_answer (x ∷ []) t sent count e1 e2 = absurd (no_list _ _ (sym (rest_list _ _ _ _ e1)))
one_answer (x ∷ y ∷ ys) t sent count e1 e2 = absurd (no_list _ _ (sym (rest_list _ _ _ _ e1)))

-- and of two
pub two_answers : (before : List Turn) (t u : Turn) (sent sent2 : List ℕ) (count count2 : ℕ) → sends_of ((before ++ (t ∷ [])) ++ (u ∷ [])) ≡ sent ∷ sent2 ∷ []
    → sizes_of ((before ++ (t ∷ [])) ++ (u ∷ [])) ≡ count ∷ count2 ∷ []
    → (turned ((before ++ (t ∷ [])) ++ (u ∷ [])) ≡ record { sent = sent; received = t.recv.items } ∷ record { sent = sent2; received = u.recv.items } ∷ []) × (length t.recv.items ≡ count)
two_answers [] t u sent sent2 count count2 e1 e2 = (
  same_frame _ _ _ _ _ _ (first_list _ _ _ _ e1) refl (same_frame _ _ _ _ _ _ (first_list _ _ _ _ (rest_list _ _ _ _ e1)) refl refl),
  first_size _ _ _ _ e2,
)
two_answers (x ∷ []) t u sent sent2 count count2 e1 e2 = absurd (no_list _ _ (sym (rest_list _ _ _ _ (rest_list _ _ _ _ e1))))
two_answers (x ∷ y ∷ []) t u sent sent2 count count2 e1 e2 = absurd (no_list _ _ (sym (rest_list _ _ _ _ (rest_list _ _ _ _ e1))))
two_answers (x ∷ y ∷ z ∷ zs) t u sent sent2 count count2 e1 e2 = absurd (no_list _ _ (sym (rest_list _ _ _ _ (rest_list _ _ _ _ e1))))

pub silent_one : (t : Turn) → length t.recv.items ≡ 0 → are_silent (t ∷ []) ≡ true
silent_one t e = rw e refl

-- a frame that receives nothing is put to the others
pub put : (log : Option (List Exchange)) (ahead after : List Turn) (t : Turn) (heard : List ℕ) → after ≡ ahead ++ (t ∷ []) → length t.recv.items ≡ 0 → heard ≡ []
    → Exchanged (and_then log (turned ahead)) (and_then log (turned after)) (record { sent = t.send.items; received = heard } ∷ [])
put log ahead after t heard whole none empty =
    let same : record { sent = t.send.items; received = t.recv.items } ∷ [] ≡ record { sent = t.send.items; received = heard } ∷ [] =
    same_frame _ _ _ _ _ _ refl (no_bytes _ none ∙ sym empty) refl in
    let all : turned after ≡ turned ahead ++ (record { sent = t.send.items; received = heard } ∷ []) =
    ap turned whole ∙ (turned_append ahead (t ∷ []) ∙ ap (λ (l : List Exchange). turned ahead ++ l) same) in
    subst (λ (l : List Exchange). Exchanged (and_then log (turned ahead)) (and_then log l) (record { sent = t.send.items; received = heard } ∷ [])) (sym all)
    (told_ahead log log (turned ahead) (record { sent = t.send.items; received = heard } ∷ []) refl)

-- what is split off a batch that was exchanged
pub rest_of : (v : Vec Turn Global) (after : List Turn) (count n : ℕ) (rest : List Turn) → length after ≡ v.len → count ≡ n → rest ≡ drop count (with_items v after).items → rest ≡ drop n after
rest_of v after count n rest long same is = is ∙ (ap (drop count) (with_items_is v after long) ∙ ap (λ (k : ℕ). drop k after) same)

pub heard_one : (old new : Option (List Exchange)) (answered before pushed : List Turn) (last turn : Turn) → answered ≡ before ++ (last ∷ []) → pushed ≡ turn ∷ []
    → sends_of answered ≡ sends_of pushed → sizes_of answered ≡ sizes_of pushed → Exchanged old new (turned answered)
    → Exchanged old new (record { sent = turn.send.items; received = last.recv.items } ∷ []) × (length last.recv.items ≡ length turn.recv.items)
heard_one old new answered before pushed last turn whole pushes sends sizes one =
    let (same, long) = one_answer before last turn.send.items (length turn.recv.items) (ap sends_of (sym whole) ∙ (sends ∙ ap sends_of pushes)) (ap sizes_of (sym whole) ∙ (sizes ∙ ap sizes_of pushes)) in
    (subst (λ (l : List Exchange). Exchanged old new l) (ap turned whole ∙ same) one, long)

pub heard_two : (old new : Option (List Exchange)) (answered mid before pushed : List Turn) (t u first second : Turn) (sent sent2 : List ℕ) (count : ℕ)
    → answered ≡ mid ++ (u ∷ []) → mid ≡ before ++ (t ∷ []) → pushed ≡ first ∷ second ∷ []
    → first.send.items ≡ sent → second.send.items ≡ sent2 → length first.recv.items ≡ count
    → sends_of answered ≡ sends_of pushed → sizes_of answered ≡ sizes_of pushed → Exchanged old new (turned answered)
    → Exchanged old new (record { sent = sent; received = t.recv.items } ∷ record { sent = sent2; received = u.recv.items } ∷ []) × (length t.recv.items ≡ count)
heard_two old new answered mid before pushed t u first second sent sent2 count whole part pushes s1 s2 n sends sizes one =
    let parts : answered ≡ (before ++ (t ∷ [])) ++ (u ∷ []) = whole ∙ ap (λ (l : List Turn). l ++ (u ∷ [])) part in
    let (same, long) = two_answers before t u first.send.items second.send.items (length first.recv.items) (length second.recv.items)
    (ap sends_of (sym parts) ∙ (sends ∙ ap sends_of pushes)) (ap sizes_of (sym parts) ∙ (sizes ∙ ap sizes_of pushes)) in
    let named : record { sent = first.send.items; received = t.recv.items } ∷ record { sent = second.send.items; received = u.recv.items } ∷ [] ≡ record { sent = sent; received = t.recv.items } ∷ record { sent = sent2; received = u.recv.items } ∷ [] =
    same_frame _ _ _ _ _ _ s1 refl (same_frame _ _ _ _ _ _ s2 refl refl) in
    (subst (λ (l : List Exchange). Exchanged old new l) (ap turned parts ∙ (same ∙ named)) one, long ∙ n)

pub silent_pushed : (b : Bool) (ahead after : List Turn) (t : Turn) → are_silent ahead ≡ true → length t.recv.items ≡ 0 → after ≡ (if b then ahead ++ (t ∷ []) else ahead) → are_silent after ≡ true
silent_pushed true ahead after t quiet none is = ap are_silent is ∙ silent_more ahead (t ∷ []) quiet (silent_one t none)
silent_pushed false ahead after t quiet none is = ap are_silent is ∙ quiet
