-- A frame on both sides.
use Rattle.std.proofs.Common.{◌≡◌, ◌⊎◌, inl, inr, ℕ, Bool, true, false, List, [], ◌∷◌, length, take, drop, refl, sym, ap, ◌∙◌, subst, Option, None, Some, IfSome}
use Rattle.std.specs.Prelude.{if◌then◌else◌}
use Rattle.std.proofs.lemmas.Bool.{true≢false}
use Rattle.chip_model.specs.Chip.{Chip, Operation, Idle, Programming, Erasing, Setting, is_idle}
use Rattle.chip_model.specs.Frames.{Command, Enable, Disable, Status1, Status2, Status3, Set, Read, Program, Erase, Id, Sfdp, Unknown, Frame, busy, command_of, done, status, taken}
use Rattle.chip_model.specs.Frames.{ignored as unheard}
use Rattle.chip_model.specs.Exchanges.{Exchange, Exchanged}
use Rattle.chip_model.proofs.ExchangeLaws.{exchanged_none, exchanged_twice}
use Rattle.chip_watch.specs.Asking.{Passes, asked_of, is_put_to_chip}
use Rattle.chip_watch.specs.Changes.{change_of, with_place}
use Rattle.chip_watch.specs.Reading.{change_reads, reads_along}
use Rattle.chip_watch.specs.Watched.{Heard, IsPassedOver, read_back, read_change}
use Rattle.chip_watch.specs.declared.change.Change.{Change}
use Rattle.chip_watch.specs.declared.change.Change.TheVariants as makes

-- what the chip was told of a frame, and what followed
abbrev pub Told : Bool → Chip → Chip → List ℕ → List ℕ → Option (List Exchange) → Option (List Exchange) → Type 0
Told trusts c left sent received old new = (answer : List ℕ) × (more : List Exchange)
    × Passes (command_of sent) answer (take (asked_of (command_of sent) (length received)) received)
    × ((more ≡ read_back trusts c left) ⊎ IsPassedOver left more)
    × Exchanged old new (record { sent = sent; received = answer } ∷ more)

busy_page : (o : Operation) (at : ℕ) → change_of o ≡ makes.Page at → is_idle o ≡ false
busy_page Idle at e = absurd (cc)
busy_page (Programming a bytes) at e = refl
busy_page (Erasing a size) at e = refl
busy_page (Setting value) at e = refl

-- an operation that a frame leaves in progress is the one that was
still : (c left : Chip) (sent received : List ℕ) → is_idle c.operation ≡ false → is_idle left.operation ≡ false → Frame c sent received left → change_of left.operation ≡ change_of c.operation
still c left sent received go goes (taken idle _ _) = absurd (true≢false (sym idle ∙ go))
still c left sent received go goes (busy _ _ _ e) = ap (λ (d : Chip). change_of d.operation) e
still c left sent received go goes (done _ _ _ e) = absurd (true≢false (sym (ap (λ (d : Chip). is_idle d.operation) e) ∙ goes))
still c left sent received go goes (status _ _ _ e) = ap (λ (d : Chip). change_of d.operation) e
still c left sent received go goes (unheard _ _ _ e) = ap (λ (d : Chip). change_of d.operation) e

page_of : (trusts : Bool) (change : Change) (at : ℕ) → makes.Page at ≡ read_change trusts change → change ≡ makes.Page at
page_of true change at e = absurd (cc)
page_of false change at e = sym e

passed_over : (trusts : Bool) (c left : Chip) (sent received page : List ℕ) (at : ℕ) → makes.Page at ≡ read_change trusts (change_of c.operation) → is_idle left.operation ≡ false
    → Frame c sent received left → IsPassedOver left (record { sent = with_place 3 at; received = page } ∷ [])
passed_over trusts c left sent received page at was goes frame =
    let change = page_of trusts (change_of c.operation) at was in
    (at, page, still c left sent received (busy_page c.operation at change) goes frame ∙ change, refl)

no_reads : (e : Exchange) → [] ≡ e ∷ [] → ⊥
no_reads e is = cc

-- the READ that went along is what is read back, or counts for nothing
along_follows : (idle trusts : Bool) (c left : Chip) (sent received page shown : List ℕ) (at : ℕ) (ended : Change) → is_idle left.operation ≡ idle
    → makes.Page at ≡ read_change trusts (change_of c.operation) → shown ≡ left.memory
    → ((m : List ℕ) → change_reads ended m ≡ (if is_idle left.operation then change_reads (makes.Page at) m else []))
    → (ended ≡ makes.None) ⊎ (page ≡ take 256 (drop at shown)) → Frame c sent received left
    → ((record { sent = with_place 3 at; received = page } ∷ []) ≡ read_back trusts c left) ⊎ IsPassedOver left (record { sent = with_place 3 at; received = page } ∷ [])
along_follows false trusts c left sent received page shown at ended goes was whole back read frame = inr (passed_over trusts c left sent received page at was goes frame)
along_follows true trusts c left sent received page shown at ended stops was whole back (inl none) frame =
    absurd (no_reads _ (sym (ap (λ (k : Change). change_reads k left.memory) none) ∙ (back left.memory ∙ ap (λ (b : Bool). if b then change_reads (makes.Page at) left.memory else []) stops)))
along_follows true trusts c left sent received page shown at ended stops was whole back (inr same) frame =
    inl (ap (λ (r : List ℕ). record { sent = with_place 3 at; received = r } ∷ []) (same ∙ ap (λ (m : List ℕ). take 256 (drop at m)) whole)
    ∙ (ap (λ (k : Change). change_reads k left.memory) was
    ∙ sym (ap (λ (b : Bool). if b then change_reads (read_change trusts (change_of c.operation)) left.memory else []) stops)))

-- with a READ along
heard_along : (trusts : Bool) (c left : Chip) (old mid new : Option (List Exchange)) (sent received answer page shown : List ℕ) (at : ℕ) (ended : Change)
    → makes.Page at ≡ read_change trusts (change_of c.operation) → shown ≡ left.memory
    → Passes (command_of sent) answer (take (asked_of (command_of sent) (length received)) received)
    → ((m : List ℕ) → change_reads ended m ≡ (if is_idle left.operation then change_reads (makes.Page at) m else []))
    → (ended ≡ makes.None) ⊎ (page ≡ take 256 (drop at shown)) → Frame c sent received left → new ≡ mid
    → Exchanged old mid (record { sent = sent; received = answer } ∷ record { sent = with_place 3 at; received = page } ∷ [])
    → Told trusts c left sent received old new
heard_along trusts c left old mid new sent received answer page shown at ended was whole passed back read frame same one =
    let more : List Exchange = record { sent = with_place 3 at; received = page } ∷ [] in (
      answer,
      more,
      passed,
      along_follows (is_idle left.operation) trusts c left sent received page shown at ended refl was whole back read frame,
      subst (λ (l : Option (List Exchange)). Exchanged old l (record { sent = sent; received = answer } ∷ more)) (sym same) one,
    )

-- alone
heard_alone : (trusts : Bool) (c left : Chip) (old mid new : Option (List Exchange)) (sent received answer shown : List ℕ) (before ended : Change)
    → before ≡ read_change trusts (change_of c.operation) → shown ≡ left.memory
    → Passes (command_of sent) answer (take (asked_of (command_of sent) (length received)) received)
    → ((m : List ℕ) → change_reads ended m ≡ (if is_idle left.operation then change_reads before m else []))
    → Exchanged old mid (record { sent = sent; received = answer } ∷ []) → Exchanged mid new (change_reads ended shown)
    → Told trusts c left sent received old new
heard_alone trusts c left old mid new sent received answer shown before ended was whole passed back one two =
    let reads : change_reads ended shown ≡ read_back trusts c left =
    ap (λ (m : List ℕ). change_reads ended m) whole
    ∙ (back left.memory ∙ ap (λ (change : Change). if is_idle left.operation then change_reads change left.memory else []) was) in
    (answer, change_reads ended shown, passed, inl reads, exchanged_twice old mid new (record { sent = sent; received = answer } ∷ []) (change_reads ended shown) one two)

pub heard_frame : (along : Option ℕ) (trusts : Bool) (c left : Chip) (old mid new : Option (List Exchange)) (sent received answer page shown : List ℕ) (before ended : Change) (count : ℕ) (command : Command)
    → before ≡ read_change trusts (change_of c.operation)
    → count ≡ asked_of command (length received) → command ≡ command_of sent → Passes command answer (take count received)
    → shown ≡ left.memory → ((m : List ℕ) → change_reads ended m ≡ (if is_idle left.operation then change_reads before m else []))
    → Frame c sent received left → IfSome along (λ at. before ≡ makes.Page at)
    → Exchanged old mid (record { sent = sent; received = answer } ∷ reads_along along page)
    → (along ≡ None → Exchanged mid new (change_reads ended shown))
    → IfSome along (λ at. (new ≡ mid) × ((ended ≡ makes.None) ⊎ (page ≡ take 256 (drop at shown))))
    → Told trusts c left sent received old new
heard_frame None trusts c left old mid new sent received answer page shown before ended count command was asked decoded passed whole back frame is one two three =
    let n : count ≡ asked_of (command_of sent) (length received) = asked ∙ ap (λ (k : Command). asked_of k (length received)) decoded in
    heard_alone trusts c left old mid new sent received answer shown before ended was whole
    (subst (λ (k : ℕ). Passes (command_of sent) answer (take k received)) n (subst (λ (k : Command). Passes k answer (take count received)) decoded passed)) back one (two refl)
heard_frame (Some at) trusts c left old mid new sent received answer page shown before ended count command was asked decoded passed whole back frame is one two three =
    let n : count ≡ asked_of (command_of sent) (length received) = asked ∙ ap (λ (k : Command). asked_of k (length received)) decoded in
    heard_along trusts c left old mid new sent received answer page shown at ended (sym is ∙ was) whole
    (subst (λ (k : ℕ). Passes (command_of sent) answer (take k received)) n (subst (λ (k : Command). Passes k answer (take count received)) decoded passed))
    (subst (λ (k : Change). (m : List ℕ) → change_reads ended m ≡ (if is_idle left.operation then change_reads k m else [])) is back) three.1 frame three.0 one

passes_itself : (k : Command) (xs : List ℕ) → Passes k xs xs
passes_itself Enable xs = refl
passes_itself Disable xs = refl
passes_itself Status1 xs = refl
passes_itself Status2 xs = refl
passes_itself Status3 xs = refl
passes_itself (Set value) xs = refl
passes_itself (Read at) xs = refl
passes_itself (Program at bytes) xs = refl
passes_itself (Erase at size) xs = refl
passes_itself Id xs = refl
passes_itself (Sfdp at) xs = refl
passes_itself Unknown xs = refl

-- a frame that the chip isn't sent
pub unasked : (trusts fresh : Bool) (c left : Chip) (sent received : List ℕ) (log : Option (List Exchange)) → is_put_to_chip fresh c (command_of sent) ≡ false → Heard trusts fresh c sent received left log log
unasked trusts fresh c left sent received log e =
    let answer = take (asked_of (command_of sent) (length received)) received in
    record {
      answer = answer;
      more = read_back trusts c left;
      passes = passes_itself (command_of sent) answer;
      follows = inl refl;
      exchanged = subst (λ (b : Bool). Exchanged log log (if b then record { sent = sent; received = answer } ∷ read_back trusts c left else [])) (sym e) (exchanged_none log log refl);
    }

-- one that it is sent
pub asked_for : (trusts fresh : Bool) (c left : Chip) (sent received : List ℕ) (old new : Option (List Exchange)) → is_put_to_chip fresh c (command_of sent) ≡ true → Told trusts c left sent received old new
    → Heard trusts fresh c sent received left old new
asked_for trusts fresh c left sent received old new e (answer, more, passed, follows, one) = record {
  answer = answer;
  more = more;
  passes = passed;
  follows = follows;
  exchanged = subst (λ (b : Bool). Exchanged old new (if b then record { sent = sent; received = answer } ∷ more else [])) (sym e) one;
}
