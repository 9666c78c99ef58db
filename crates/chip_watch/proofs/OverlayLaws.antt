-- A chip with other registers 2 and 3, another table and a count of its own takes frames as the
-- simulated one does.
use Rattle.std.proofs.Common.{◌≡◌, ℕ, ◌+◌, ◌*◌, ◌/◌, ◌%◌, ◌<◌, Bool, true, false, not, cond, ◌&&◌, ◌||◌, List, [], length, refl, sym, ap, ◌∙◌, arith, inl, inr}
use Rattle.std.specs.Prelude.{◌==◌, if◌then◌else◌}
use Rattle.std.proofs.lemmas.Bool.{true≢false, false≢true, cases_lt}
use Rattle.std.proofs.lemmas.List.{get_or_past}
use Rattle.chip_model.specs.Memory.{byte, erased, is_within}
use Rattle.chip_model.specs.Chip.{Chip, Operation, Idle, Programming, Erasing, Setting, is_idle, completed, memory_after, protection_after}
use Rattle.chip_model.specs.Cut.{Cut, TornMemory, TornProtection}
use Rattle.chip_model.proofs.FrameLaws.{none_torn}
use Rattle.chip_model.specs.Frames.{Command, Enable, Disable, Status1, Status2, Status3, Set, Read, Program, Erase, Id, Sfdp, Unknown, after_command, starts, with_enabled, with_polls, if_allowed, is_protected, is_in_part, latched_at, status_1}
use Rattle.chip_model.proofs.MemoryLaws.{length-programmed, length-erased, erased-outside, erased-inside}
use Rattle.chip_watch.specs.declared.change.Change.{Change}
use Rattle.chip_watch.specs.declared.change.Change.TheVariants as makes
use Rattle.chip_watch.specs.Changes.{change_by, change_of}
use Rattle.chip_watch.specs.Shadow.{looked_at, overlaid}

-- the whole chip beside the simulated one
abbrev pub shadowed : Chip → List ℕ → ℕ → ℕ → ℕ → Bool → Chip
shadowed c t a b p w = record (overlaid c t a b p) { powered = w }

-- neither CMP nor WPS is set on both
foreign_same : (x u v y z : ℕ) → u ≡ 0 → v ≡ 0 → y ≡ 0 → z ≡ 0 → ((x == 1) || (u == 1)) || (v == 1) ≡ ((x == 1) || (y == 1)) || (z == 1)
foreign_same x u v y z eu ev ey ez =
    ap (λ (k : ℕ). ((x == 1) || (k == 1)) || (v == 1)) (eu ∙ sym ey) ∙ ap (λ (k : ℕ). ((x == 1) || (y == 1)) || (k == 1)) (ev ∙ sym ez)

protected_same : (c : Chip) (t : List ℕ) (a b p : ℕ) (w : Bool) (i n : ℕ) → a / 64 % 2 ≡ 0 → b / 4 % 2 ≡ 0 → c.status2 ≡ 0 → c.status3 ≡ 0
    → is_protected (shadowed c t a b p w) i n ≡ is_protected c i n
protected_same c t a b p w i n ea eb e2 e3 =
    let z2 : c.status2 / 64 % 2 ≡ 0 = ap (λ (k : ℕ). k / 64 % 2) e2 in
    let z3 : c.status3 / 4 % 2 ≡ 0 = ap (λ (k : ℕ). k / 4 % 2) e3 in
    ap (λ (f : Bool). f || (not (c.protection % 8 == 0) && is_in_part c i n))
    (foreign_same (c.protection / 16 % 2) (a / 64 % 2) (b / 4 % 2) (c.status2 / 64 % 2) (c.status3 / 4 % 2) ea eb z2 z3)

shadowed_cond : (e : Bool) (x y : Chip) (t : List ℕ) (a b p : ℕ) (w : Bool) → cond e (shadowed x t a b p w) (shadowed y t a b p w) ≡ shadowed (cond e x y) t a b p w
shadowed_cond true x y t a b p w = refl
shadowed_cond false x y t a b p w = refl

allowed_same : (c : Chip) (t : List ℕ) (a b : ℕ) (w : Bool) (i n : ℕ) (o : Operation) → a / 64 % 2 ≡ 0 → b / 4 % 2 ≡ 0 → c.status2 ≡ 0 → c.status3 ≡ 0
    → if_allowed (shadowed c t a b 0 w) i n o ≡ shadowed (if_allowed c i n o) t a b 0 w
allowed_same c t a b w i n o ea eb e2 e3 =
    ap (λ (f : Bool). cond (not c.enabled) (shadowed c t a b 0 w) (cond f (shadowed (with_enabled c false) t a b 0 w) (shadowed (starts c o) t a b 0 w)))
    (protected_same c t a b 0 w i n ea eb e2 e3)
    ∙ (ap (λ (d : Chip). cond (not c.enabled) (shadowed c t a b 0 w) d) (shadowed_cond (is_protected c i n) (with_enabled c false) (starts c o) t a b 0 w)
    ∙ shadowed_cond (not c.enabled) c (cond (is_protected c i n) (with_enabled c false) (starts c o)) t a b 0 w)

pub shadowed_after : (c : Chip) (t : List ℕ) (a b : ℕ) (w : Bool) (command : Command) → a / 64 % 2 ≡ 0 → b / 4 % 2 ≡ 0 → c.status2 ≡ 0 → c.status3 ≡ 0
    → after_command (shadowed c t a b 0 w) command ≡ shadowed (after_command c command) t a b 0 w
shadowed_after c t a b w Enable ea eb e2 e3 = refl
shadowed_after c t a b w Disable ea eb e2 e3 = refl
shadowed_after c t a b w Status1 ea eb e2 e3 = refl
shadowed_after c t a b w Status2 ea eb e2 e3 = refl
shadowed_after c t a b w Status3 ea eb e2 e3 = refl
shadowed_after c t a b w (Set value) ea eb e2 e3 = shadowed_cond c.enabled (starts c (Setting value)) c t a b 0 w
shadowed_after c t a b w (Read at) ea eb e2 e3 = refl
shadowed_after c t a b w (Program at bytes) ea eb e2 e3 = allowed_same c t a b w _ 256 _ ea eb e2 e3
shadowed_after c t a b w (Erase at size) ea eb e2 e3 = allowed_same c t a b w _ size _ ea eb e2 e3
shadowed_after c t a b w Id ea eb e2 e3 = refl
shadowed_after c t a b w (Sfdp at) ea eb e2 e3 = refl
shadowed_after c t a b w Unknown ea eb e2 e3 = refl

looked : (i : Bool) (c : Chip) (t : List ℕ) (a b p : ℕ) (w : Bool) → shadowed (cond i c (with_polls c 1)) t a b p w ≡ shadowed c t a b p w
looked true c t a b p w = refl
looked false c t a b p w = refl

-- a status read that only looks doesn't show beside a count of its own
pub shadowed_looked : (c : Chip) (t : List ℕ) (a b p : ℕ) (w : Bool) → shadowed (looked_at c) t a b p w ≡ shadowed c t a b p w
shadowed_looked c t a b p w = looked (is_idle c.operation) c t a b p w

abbrev bits : Bool → Bool → ℕ → ℕ
bits idle enabled p = 4 * p + (if enabled then 2 else 0) + (if idle then 0 else 1)

odd : (idle enabled : Bool) (p : ℕ) → idle ≡ false → bits idle enabled p % 2 ≡ 1
odd false true p i = omega arith
odd false false p i = omega arith
odd true enabled p i = absurd (true≢false i)

even : (idle enabled : Bool) (p : ℕ) → idle ≡ true → bits idle enabled p % 2 ≡ 0
even true true p i = omega arith
even true false p i = omega arith
even false enabled p i = absurd (false≢true i)

-- status register 1 tells whether something is in progress
pub busy_bit : (c : Chip) → is_idle c.operation ≡ false → status_1 c % 2 ≡ 1
busy_bit c i = odd (is_idle c.operation) c.enabled c.protection i

pub idle_bit : (c : Chip) → is_idle c.operation ≡ true → status_1 c % 2 ≡ 0
idle_bit c i = even (is_idle c.operation) c.enabled c.protection i

-- what an idle chip's command leaves in progress
pub record Begins (c : Chip) (command : Command) : Type 0 where
  pub none : is_idle (after_command c command).operation ≡ true → change_of (after_command c command).operation ≡ makes.None
  pub some : is_idle (after_command c command).operation ≡ false → change_of (after_command c command).operation ≡ change_by command (length c.memory)
  pub fresh : is_idle (after_command c command).operation ≡ false → (after_command c command).polls ≡ 0

none_of : (o : Operation) → is_idle o ≡ true → change_of o ≡ makes.None
none_of Idle i = refl
none_of (Programming at bytes) i = absurd (false≢true i)
none_of (Erasing at size) i = absurd (false≢true i)
none_of (Setting value) i = absurd (false≢true i)

-- no more than before is in progress, or this change
record Leads (c : Chip) (change : Change) (new : Chip) : Type 0 where
  pub changes : is_idle new.operation ≡ false → change_of new.operation ≡ change
  pub fresh : is_idle new.operation ≡ false → new.polls ≡ 0

leads_idle : (c : Chip) (change : Change) → is_idle c.operation ≡ true → Leads c change c
leads_idle c change i = record { changes = λ r. absurd (true≢false (sym i ∙ r)); fresh = λ r. absurd (true≢false (sym i ∙ r)) }

leads_cond : (e : Bool) (c : Chip) (change : Change) (x y : Chip) → Leads c change x → Leads c change y → Leads c change (cond e x y)
leads_cond true c change x y p q = p
leads_cond false c change x y p q = q

leads_allowed : (c : Chip) (i n : ℕ) (o : Operation) (change : Change) → is_idle c.operation ≡ true → change_of o ≡ change → Leads c change (if_allowed c i n o)
leads_allowed c i n o change idle same =
    leads_cond (not c.enabled) c change c _ (leads_idle c change idle)
    (leads_cond (is_protected c i n) c change (with_enabled c false) (starts c o)
    (record { changes = λ r. absurd (true≢false (sym idle ∙ r)); fresh = λ r. absurd (true≢false (sym idle ∙ r)) })
    (record { changes = λ r. same; fresh = λ r. refl }))

same_page : (at n : ℕ) → latched_at at n / 256 * 256 ≡ at / 256 * 256
same_page at n = omega arith

leads_idle_with : (c : Chip) (change : Change) (new : Chip) → new.operation ≡ c.operation → is_idle c.operation ≡ true → Leads c change new
leads_idle_with c change new same i =
    let j : is_idle new.operation ≡ true = ap is_idle same ∙ i in
    record { changes = λ r. absurd (true≢false (sym j ∙ r)); fresh = λ r. absurd (true≢false (sym j ∙ r)) }

leads_after : (c : Chip) (command : Command) → is_idle c.operation ≡ true → Leads c (change_by command (length c.memory)) (after_command c command)
leads_after c Enable i = leads_idle_with c _ _ refl i
leads_after c Disable i = leads_idle_with c _ _ refl i
leads_after c Status1 i = leads_idle c _ i
leads_after c Status2 i = leads_idle c _ i
leads_after c Status3 i = leads_idle c _ i
leads_after c (Set value) i = leads_cond c.enabled c _ (starts c (Setting value)) c (record { changes = λ r. refl; fresh = λ r. refl }) (leads_idle c _ i)
leads_after c (Read at) i = leads_idle c _ i
leads_after c (Program at bytes) i = leads_allowed c _ 256 _ _ i (ap (λ (k : ℕ). makes.Page k) (same_page (at % length c.memory) (length bytes)))
leads_after c (Erase at size) i = leads_allowed c _ size _ _ i refl
leads_after c Id i = leads_idle c _ i
leads_after c (Sfdp at) i = leads_idle c _ i
leads_after c Unknown i = leads_idle c _ i

pub begins : (c : Chip) (command : Command) → is_idle c.operation ≡ true → Begins c command
begins c command i =
    let l = leads_after c command i in
    record { none = none_of (after_command c command).operation; some = l.changes; fresh = l.fresh }

erased_small : (m : List ℕ) (a size i : ℕ) → is_within a size i ≡ true → byte (erased m a size) i < 256
erased_small m a size i inner = elim (cases_lt i (length m)) [
  | inl low ↦ (let e = erased-inside m a size i inner low in omega (arith, e))
  | inr high ↦
      let l = length-erased m a size in
      let e = get_or_past (erased m a size) i 0 (omega (arith, l, high)) in
      omega (arith, e)
]

mixed_new : (o : Operation) (m : List ℕ) → TornMemory o m (memory_after o m)
mixed_new Idle m = refl
mixed_new (Programming at bytes) m = record { same_length = length-programmed m at bytes; each = λ i low k. inr refl }
mixed_new (Erasing at size) m = record {
  same_length = length-erased m at size;
  outside = λ i out. erased-outside m at size i out;
  inside = λ i inner. erased_small m at size i inner;
}
mixed_new (Setting value) m = refl

protection_new : (o : Operation) (p : ℕ) → TornProtection o p (protection_after o p)
protection_new Idle p = refl
protection_new (Programming at bytes) p = refl
protection_new (Erasing at size) p = refl
protection_new (Setting value) p = λ k. inr refl

-- an operation that completes just before the power goes
pub cut_when_done : (c : Chip) → c.weak ≡ [] → Cut c (record (completed c) { powered = false })
cut_when_done c steady = record {
  memory = mixed_new c.operation c.memory;
  weak = none_torn c.operation c.memory c.weak steady;
  sfdp = refl;
  protection = protection_new c.operation c.protection;
  status2 = refl;
  status3 = refl;
  enabled = refl;
  operation = refl;
  polls = refl;
  powered = refl;
}
