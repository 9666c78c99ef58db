-- What is in progress after a frame and a look at it.
use Rattle.std.proofs.Common.{◌≡◌, ℕ, ◌/◌, ◌%◌, Bool, true, false, cond, List, length, refl, sym, ap, ◌∙◌, subst, arith, IfOk, ◌⊎◌, inl, inr}
use Rattle.std.proofs.lemmas.Bool.{cond-true, cond-false, true≢false, false≢true}
use Rattle.sfdp.specs.Params.{params_of}
use Rattle.chip_model.specs.Chip.{Chip, Operation, Idle, Programming, Erasing, Setting, is_idle, completed}
use Rattle.chip_model.specs.Frames.{Command, Frame, after_command, status_1, with_polls}
use Rattle.chip_model.proofs.FrameLaws.{when_idle}
use Rattle.chip_watch.specs.Watched.{interrupted}
use Rattle.chip_watch.specs.declared.change.Change.{Change}
use Rattle.chip_watch.specs.declared.change.Change.TheVariants as makes
use Rattle.chip_watch.specs.Changes.{change_by, change_of}
use Rattle.chip_watch.specs.Shadow.{looked_at}
use Rattle.chip_watch.proofs.SimLaws.{like_after, long_after}
use Rattle.chip_watch.proofs.OverlayLaws.{begins, busy_bit, idle_bit, shadowed, shadowed_after, shadowed_looked}

cases_bool : (b : Bool) → (b ≡ true) ⊎ (b ≡ false)
cases_bool true = inl refl
cases_bool false = inr refl

pub not_true : (b : Bool) → (b ≡ true → ⊥) → b ≡ false
not_true true h = absurd (h refl)
not_true false h = refl

-- the change, the status and the count of status reads fit what is in progress
pub record Fits (change : Change) (status : ℕ) (c : Chip) : Type 0 where
  pub goes : change ≡ change_of c.operation
  pub shown : is_idle c.operation ≡ false → status ≡ status_1 c
  pub asked : is_idle c.operation ≡ false → c.polls ≡ 1

running : (c d : Chip) (status : ℕ) → status ≡ status_1 c → status % 2 ≡ 1 → is_idle c.operation ≡ false
running c d status is one = not_true (is_idle c.operation) (λ t. let z = idle_bit c t in omega (arith, is, one, z))

at_rest : (c d : Chip) (status : ℕ) → status ≡ status_1 c → (status % 2 ≡ 1 → ⊥) → (is_idle c.operation ≡ false → ⊥)
at_rest c d status is other = λ f. other (let one = busy_bit c f in omega (arith, is, one))

not_false : (b : Bool) → (b ≡ false → ⊥) → b ≡ true
not_false true h = refl
not_false false h = absurd (h refl)

pub started : (c0 c1 c2 : Chip) (command : Command) (status : ℕ) → is_idle c0.operation ≡ true → c1 ≡ after_command c0 command → status ≡ status_1 c1
    → c2 ≡ looked_at c1 → status % 2 ≡ 1 → Fits (change_by command (length c0.memory)) status c2 × (is_idle c2.operation ≡ false)
started c0 c1 c2 command status idle one is two odd =
    let go : is_idle c1.operation ≡ false = running c1 c1 status is odd in
    let now : c2 ≡ with_polls c1 1 = two ∙ cond-false _ _ _ go in
    let go0 : is_idle (after_command c0 command).operation ≡ false = ap (λ (d : Chip). is_idle d.operation) (sym one) ∙ go in
    let b = begins c0 command idle in (
      record {
        goes = sym (ap (λ (d : Chip). change_of d.operation) now ∙ (ap (λ (d : Chip). change_of d.operation) one ∙ b.some go0));
        shown = λ r. is ∙ sym (ap status_1 now);
        asked = λ r. ap (λ (d : Chip). d.polls) now;
      },
      ap (λ (d : Chip). is_idle d.operation) now ∙ go,
    )

pub rested : (c0 c1 c2 : Chip) (command : Command) (status other : ℕ) → is_idle c0.operation ≡ true → c1 ≡ after_command c0 command → status ≡ status_1 c1
    → c2 ≡ looked_at c1 → (status % 2 ≡ 1 → ⊥) → Fits makes.None other c2
rested c0 c1 c2 command status other idle one is two even =
    let stop : is_idle c1.operation ≡ true = not_false (is_idle c1.operation) (at_rest c1 c1 status is even) in
    let now : c2 ≡ c1 = two ∙ cond-true _ _ _ stop in
    let stop2 : is_idle c2.operation ≡ true = ap (λ (d : Chip). is_idle d.operation) now ∙ stop in
    let stop0 : is_idle (after_command c0 command).operation ≡ true = ap (λ (d : Chip). is_idle d.operation) (sym one) ∙ stop in
    let b = begins c0 command idle in
    record {
      goes = sym (ap (λ (d : Chip). change_of d.operation) now ∙ (ap (λ (d : Chip). change_of d.operation) one ∙ b.none stop0));
      shown = λ r. absurd (true≢false (sym stop2 ∙ r));
      asked = λ r. absurd (true≢false (sym stop2 ∙ r));
    }

pub none_before : (o : Operation) → is_idle o ≡ true → makes.None ≡ change_of o
none_before Idle i = refl
none_before (Programming at bytes) i = absurd (false≢true i)
none_before (Erasing at size) i = absurd (false≢true i)
none_before (Setting value) i = absurd (false≢true i)

looked_long : (b : Bool) (c : Chip) → length (cond b c (with_polls c 1)).memory ≡ length c.memory
looked_long true c = refl
looked_long false c = refl

pub obeyed_long : (c0 c1 c2 : Chip) (command : Command) → c1 ≡ after_command c0 command → c2 ≡ looked_at c1 → length c2.memory ≡ length c0.memory
obeyed_long c0 c1 c2 command one two =
    ap (λ (d : Chip). length d.memory) two ∙ (looked_long (is_idle c1.operation) c1 ∙ (ap (λ (d : Chip). length d.memory) one ∙ (like_after c0 command).size))

pub obeyed : (c0 c1 c2 : Chip) (t : List ℕ) (a b p : ℕ) (w : Bool) (command : Command) → c1 ≡ after_command c0 command → c2 ≡ looked_at c1 → p ≡ 0
    → a / 64 % 2 ≡ 0 → b / 4 % 2 ≡ 0 → c0.status2 ≡ 0 → c0.status3 ≡ 0
    → shadowed c2 t a b p w ≡ after_command (shadowed c0 t a b p w) command
obeyed c0 c1 c2 t a b p w command one two zero ea eb e2 e3 =
    ap (λ (d : Chip). shadowed d t a b p w) two
    ∙ (shadowed_looked c1 t a b p w
    ∙ (ap (λ (d : Chip). shadowed d t a b p w) one
    ∙ (ap (λ (n : ℕ). shadowed (after_command c0 command) t a b n w) zero
    ∙ (sym (shadowed_after c0 t a b w command ea eb e2 e3)
    ∙ ap (λ (n : ℕ). after_command (shadowed c0 t a b n w) command) (sym zero)))))

pub ended_long : (c0 c1 : Chip) → c1 ≡ completed c0 → length c1.memory ≡ length c0.memory
ended_long c0 c1 one = ap (λ (d : Chip). length d.memory) one ∙ long_after c0.operation c0.memory

abbrev is_none : Change → Bool
is_none makes.None = true
is_none (makes.Page at) = false
is_none (makes.Unit at size) = false
is_none (makes.Status value) = false

some_before : (o : Operation) → is_idle o ≡ false → change_of o ≡ makes.None → ⊥
some_before Idle i e = true≢false i
some_before (Programming at bytes) i e = false≢true (ap is_none e)
some_before (Erasing at size) i e = false≢true (ap is_none e)
some_before (Setting value) i e = false≢true (ap is_none e)

-- what a loss after a frame interrupts: what was in progress before it, or else what it started
pub interrupted_by : (c left : Chip) (sent received : List ℕ) (before now : Change) → before ≡ change_of c.operation → Frame c sent received left
    → ((before ≡ makes.None → ⊥) → now ≡ before) → (before ≡ makes.None → now ≡ change_of left.operation) → now ≡ interrupted c sent
interrupted_by c left sent received before now was frame some none = elim (cases_bool (is_idle c.operation)) [
  | inl idle ↦
      none (was ∙ sym (none_before c.operation idle))
      ∙ (ap (λ (d : Chip). change_of d.operation) (when_idle c left sent received idle frame).1
      ∙ sym (cond-true _ _ _ idle))
  | inr busy ↦ some (λ e. some_before c.operation busy (sym was ∙ e)) ∙ (was ∙ sym (cond-false _ _ _ busy))
]

-- a table fits a memory of the same length
pub longer : (t : List ℕ) (m n : ℕ) → m ≡ n → IfOk (params_of t) (λ p. p.bytes ≡ m) → IfOk (params_of t) (λ p. p.bytes ≡ n)
longer t m n same fits = subst (λ (n : ℕ). IfOk (params_of t) (λ p. p.bytes ≡ n)) same fits
