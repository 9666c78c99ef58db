-- What follows from the definitions of Frames.
use Rattle.std.proofs.Common.{◌≡◌, ℕ, ◌+◌, ◌-◌, ◌*◌, ◌/◌, ◌%◌, ◌<◌, ◌≤◌, ◌⊎◌, Bool, true, false, not, cond, ◌&&◌, ◌||◌, List, [], ◌∷◌, length, drop, refl, sym, ap, ◌∙◌, subst, arith, inl, inr, eqb}
use Rattle.std.proofs.Math.Nat.{mod-eq_of_lt}
use Rattle.std.proofs.lemmas.Bool.{cases_lt, cond-true, cond-false, and_left, and_right, and_from, lt-leb, lt-ltb, le-ltb, le-leb, true≢false, false≢true}
use Rattle.chip_model.specs.Chip.{Chip, Operation, Idle, Programming, Erasing, Setting, is_idle, is_setting, completed, firmed, memory_after, programmed, protection_after}
use Rattle.chip_model.proofs.MemoryLaws.{length-programmed, length-erased}
use Rattle.chip_model.specs.Frames.{Command, Enable, Disable, Status1, Status2, Status3, Set, Read, Program, Erase, Id, Sfdp, Unknown, command_of, program_of, after_command, Receives, is_status, Frame, taken, busy, done, status, ignored, is_foreign, is_in_part, is_protected, is_unprotected, starts, with_enabled, with_polls, if_allowed, latched_at, newly_slow, one_more_poll, QuietCompletes}
use Rattle.chip_model.specs.Cut.{Cut, TornMemory, TornProtection, weakened}
use Rattle.chip_model.specs.Memory.{erased}

-- an idle chip takes every frame
pub when_idle : (c new : Chip) (sent received : List ℕ) → is_idle c.operation ≡ true → Frame c sent received new → Receives c (command_of sent) received × (new ≡ after_command c (command_of sent))
when_idle c new sent received idle f = elim f [
  | taken i a n ↦ (a, n)
  | busy b s a n ↦ absurd (true≢false (sym idle ∙ b))
  | done b s a n ↦ absurd (true≢false (sym idle ∙ b))
  | status b s a n ↦ absurd (true≢false (sym idle ∙ b))
  | ignored b s a n ↦ absurd (true≢false (sym idle ∙ b))
]

-- a status read of an operation in progress
pub when_busy : (c new : Chip) (sent received : List ℕ) → is_idle c.operation ≡ false → command_of sent ≡ Status1 → Frame c sent received new
    → (Receives c Status1 received × (new ≡ with_polls c (one_more_poll c.polls))) ⊎ (Receives (completed c) Status1 received × (new ≡ completed c))
when_busy c new sent received running read f = elim f [
  | taken i a n ↦ absurd (true≢false (sym i ∙ running))
  | busy b s a n ↦ inl (a, n)
  | done b s a n ↦ inr (a, n)
  | status b s a n ↦ elim s [ inl x ↦ cc | inr x ↦ cc ]
  | ignored b s a n ↦ absurd (true≢false (ap is_status (sym read) ∙ s))
]

by_tests : (f p x : Bool) → (not f && p) ≡ true → (f || (not p && x)) ≡ false
by_tests true p x h = absurd (false≢true h)
by_tests false true x h = refl
by_tests false false x h = absurd (false≢true h)

-- an open chip protects nothing
pub open_unprotected : (c : Chip) (a n : ℕ) → is_unprotected c ≡ true → is_protected c a n ≡ false
open_unprotected c a n h = by_tests (is_foreign c) (eqb (c.protection % 8) 0) (is_in_part c a n) h

pub allowed : (c : Chip) (a n : ℕ) (o : Operation) → c.enabled ≡ true → is_unprotected c ≡ true → if_allowed c a n o ≡ starts c o
allowed c a n o e h = cond-false _ _ _ (ap not e) ∙ cond-false _ _ _ (open_unprotected c a n h)

-- an address as three bytes
pub address : (at : ℕ) → at / 65536 * 65536 + at / 256 % 256 * 256 + at % 256 ≡ at
address at = omega arith

-- what a write enable and one page program start
pub started_program : (c : Chip) (at : ℕ) (bytes : List ℕ) → is_unprotected c ≡ true → at < length c.memory → 0 < length bytes → at % 256 + length bytes ≤ 256
    → after_command (with_enabled c true) (command_of (2 ∷ (at / 65536) ∷ (at / 256 % 256) ∷ (at % 256) ∷ bytes)) ≡ starts (with_enabled c true) (Programming at bytes)
started_program c at bytes unprotected within some page =
    let e = with_enabled c true in
    let is_program : program_of (at / 65536 * 65536 + at / 256 % 256 * 256 + at % 256) bytes ≡ Program at bytes =
    cond-true _ _ _ (lt-ltb _ _ some) ∙ ap (λ a. Program a bytes) (address at) in
    let short : length bytes - 256 ≡ 0 = omega arith in
    let here : at % length c.memory ≡ at = mod-eq_of_lt within in
    let place : latched_at at (length bytes) ≡ at = omega arith in
    ap (after_command e) is_program
    ∙ (allowed e _ 256 _ refl unprotected
    ∙ (ap (λ a. starts e (Programming (latched_at a (length bytes)) (drop (length bytes - 256) bytes))) here
    ∙ (ap (λ a. starts e (Programming a (drop (length bytes - 256) bytes))) place
    ∙ ap (λ n. starts e (Programming at (drop n bytes))) short)))

-- what a write enable and one erase of a small unit start
pub started_erase : (c : Chip) (at : ℕ) → is_unprotected c ≡ true → at < length c.memory → at % 4096 ≡ 0
    → after_command (with_enabled c true) (command_of (32 ∷ (at / 65536) ∷ (at / 256 % 256) ∷ (at % 256) ∷ [])) ≡ starts (with_enabled c true) (Erasing at 4096)
started_erase c at unprotected within unit =
    let e = with_enabled c true in
    let here : at % length c.memory / 4096 * 4096 ≡ at = let h : at % length c.memory ≡ at = mod-eq_of_lt within in let k : at / 4096 * 4096 ≡ at = omega arith in ap (λ x. x / 4096 * 4096) h ∙ k in
    ap (λ a. after_command e (Erase a 4096)) (address at)
    ∙ (allowed e _ 4096 _ refl unprotected
    ∙ ap (λ a. starts e (Erasing a 4096)) here)

-- what a write enable and one erase of a large unit start
pub started_large_erase : (c : Chip) (at : ℕ) → is_unprotected c ≡ true → at < length c.memory → at % 65536 ≡ 0
    → after_command (with_enabled c true) (command_of (216 ∷ (at / 65536) ∷ (at / 256 % 256) ∷ (at % 256) ∷ [])) ≡ starts (with_enabled c true) (Erasing at 65536)
started_large_erase c at unprotected within unit =
    let e = with_enabled c true in
    let here : at % length c.memory / 65536 * 65536 ≡ at = let h : at % length c.memory ≡ at = mod-eq_of_lt within in let k : at / 65536 * 65536 ≡ at = omega arith in ap (λ x. x / 65536 * 65536) h ∙ k in
    ap (λ a. after_command e (Erase a 65536)) (address at)
    ∙ (allowed e _ 65536 _ refl unprotected
    ∙ ap (λ a. starts e (Erasing a 65536)) here)

-- what a write enable and one status write start, whatever is protected
pub started_setting : (c : Chip) (value : ℕ) → after_command (with_enabled c true) (command_of (1 ∷ value ∷ [])) ≡ starts (with_enabled c true) (Setting value)
started_setting c value = refl

-- an idle chip's frame makes nothing slow
pub Unhurried : Chip → Chip → Type 0
Unhurried c new = (new.polls ≡ c.polls) ⊎ (new.polls ≡ 0)

pub never_slow : (c new : Chip) → Unhurried c new → newly_slow c new ≡ 0
unfolding Unhurried
never_slow c new h = elim h [
  | inl e ↦ elim (cases_lt c.polls 65535) [
    | inl low ↦ (let k : new.polls < 65535 = omega (arith, e) in cond-false _ _ _ (and_right _ _ (lt-leb _ _ k)))
    | inr high ↦ cond-false _ _ _ (and_left _ _ (le-ltb _ _ high))
  ]
  | inr z ↦ (let k : new.polls < 65535 = omega (arith, z) in cond-false _ _ _ (and_right _ _ (lt-leb _ _ k)))
]

unhurried_cond : (b : Bool) (c x y : Chip) → Unhurried c x → Unhurried c y → Unhurried c (cond b x y)
unhurried_cond true c x y p q = p
unhurried_cond false c x y p q = q

unhurried_allowed : (c : Chip) (a n : ℕ) (o : Operation) → Unhurried c (if_allowed c a n o)
unfolding Unhurried
unhurried_allowed c a n o = unhurried_cond (not c.enabled) c c _ (inl refl) (unhurried_cond (is_protected c a n) c _ _ (inl refl) (inr refl))

pub unhurried : (c : Chip) (command : Command) → Unhurried c (after_command c command)
unfolding Unhurried
unhurried c Enable = inl refl
unhurried c Disable = inl refl
unhurried c Status1 = inl refl
unhurried c Status2 = inl refl
unhurried c Status3 = inl refl
unhurried c (Set value) = unhurried_cond c.enabled c _ c (inr refl) (inl refl)
unhurried c (Read at) = inl refl
unhurried c (Program at bytes) = unhurried_allowed c _ 256 _
unhurried c (Erase at size) = unhurried_allowed c _ size _
unhurried c Id = inl refl
unhurried c (Sfdp at) = inl refl
unhurried c Unknown = inl refl

-- a loss looks at the operation alone, and not at how often its status was read, nor at WEL
pub cut_polls : (c new : Chip) (n : ℕ) → Cut (with_polls c n) new → Cut c new
cut_polls c new n h = record { memory = h.memory; weak = h.weak; sfdp = h.sfdp; protection = h.protection; status2 = h.status2; status3 = h.status3; enabled = h.enabled; operation = h.operation; polls = h.polls; powered = h.powered }

pub cut_enabled : (c new : Chip) (b : Bool) → Cut (with_enabled c b) new → Cut c new
cut_enabled c new b h = record { memory = h.memory; weak = h.weak; sfdp = h.sfdp; protection = h.protection; status2 = h.status2; status3 = h.status3; enabled = h.enabled; operation = h.operation; polls = h.polls; powered = h.powered }

pub idle_not_slow : (c new : Chip) (sent received : List ℕ) → is_idle c.operation ≡ true → Frame c sent received new → newly_slow c new ≡ 0
idle_not_slow c new sent received idle f =
    never_slow c new (subst (λ (d : Chip). Unhurried c d) (sym (when_idle c new sent received idle f).1) (unhurried c (command_of sent)))

-- what operations other than status writes keep, and leave of the kind
pub record KeepsShape (c new : Chip) : Type 0 where
  pub size : length new.memory ≡ length c.memory
  pub protection : new.protection ≡ c.protection
  pub status2 : new.status2 ≡ c.status2
  pub status3 : new.status3 ≡ c.status3
  pub not_setting : is_setting new.operation ≡ false

pub still_open : (c new : Chip) → KeepsShape c new → is_unprotected c ≡ true → is_unprotected new ≡ true
still_open c new k h = rw (k.protection, k.status2, k.status3) h

length_after : (o : Operation) (m : List ℕ) → length (memory_after o m) ≡ length m
length_after Idle m = refl
length_after (Programming at bytes) m = length-programmed m at bytes
length_after (Erasing at size) m = length-erased m at size
length_after (Setting value) m = refl

protection_stays : (o : Operation) (p : ℕ) → is_setting o ≡ false → protection_after o p ≡ p
protection_stays Idle p h = refl
protection_stays (Programming at bytes) p h = refl
protection_stays (Erasing at size) p h = refl
protection_stays (Setting value) p h = absurd (true≢false h)

length_torn : (o : Operation) (m torn : List ℕ) → TornMemory o m torn → length torn ≡ length m
length_torn Idle m torn h = ap length h
length_torn (Programming at bytes) m torn h = h.same_length
length_torn (Erasing at size) m torn h = h.same_length
length_torn (Setting value) m torn h = ap length h

protection_torn : (o : Operation) (p torn : ℕ) → is_setting o ≡ false → TornProtection o p torn → torn ≡ p
protection_torn Idle p torn n h = h
protection_torn (Programming at bytes) p torn n h = h
protection_torn (Erasing at size) p torn n h = h
protection_torn (Setting value) p torn n h = absurd (true≢false n)

pub completed_shape : (c : Chip) → is_setting c.operation ≡ false → KeepsShape c (completed c)
completed_shape c h = record { size = length_after c.operation c.memory; protection = protection_stays c.operation c.protection h; status2 = refl; status3 = refl; not_setting = refl }

pub cut_shape : (c new : Chip) → is_setting c.operation ≡ false → Cut c new → KeepsShape c new
cut_shape c new h k = record { size = length_torn c.operation c.memory new.memory k.memory; protection = protection_torn c.operation c.protection new.protection h k.protection; status2 = k.status2; status3 = k.status3; not_setting = ap is_setting k.operation }

idle_torn : (o : Operation) (m torn : List ℕ) → is_idle o ≡ true → TornMemory o m torn → torn ≡ m
idle_torn Idle m torn i h = h
idle_torn (Programming at bytes) m torn i h = absurd (false≢true i)
idle_torn (Erasing at size) m torn i h = absurd (false≢true i)
idle_torn (Setting value) m torn i h = h

-- a loss without an operation in progress leaves the memory
pub idle_cut : (c new : Chip) → is_idle c.operation ≡ true → Cut c new → new.memory ≡ c.memory
idle_cut c new i h = idle_torn c.operation c.memory new.memory i h.memory

pub idle_not_setting : (o : Operation) → is_idle o ≡ true → is_setting o ≡ false
idle_not_setting Idle i = refl
idle_not_setting (Programming at bytes) i = refl
idle_not_setting (Erasing at size) i = refl
idle_not_setting (Setting value) i = absurd (false≢true i)

-- where no bit is weak, none becomes so
pub firmed_none : (o : Operation) (w : List ℕ) → w ≡ [] → firmed o w ≡ []
unfolding programmed
firmed_none Idle w h = h
firmed_none (Programming at bytes) w h = rw h refl
firmed_none (Erasing at size) w h = rw h refl
firmed_none (Setting value) w h = h

pub none_torn : (o : Operation) (m w : List ℕ) → w ≡ [] → firmed o w ≡ weakened o m w
unfolding programmed erased
none_torn Idle m w h = refl
none_torn (Programming at bytes) m w h = rw h refl
none_torn (Erasing at size) m w h = rw h refl
none_torn (Setting value) m w h = refl

-- on a quiet bus the last status read that is left for an operation finds it completed
pub quiet_completes : QuietCompletes
quiet_completes c new sent received slows running read late f quiet = elim (when_busy c new sent received running read f) [
  | inl one ↦
      let reached : new.polls ≡ 65535 = ap (λ (d : Chip). d.polls) one.1 ∙ ap one_more_poll late in
      let low : c.polls < 65535 = omega (arith, late) in
      let high : 65535 ≤ new.polls = omega (arith, reached) in
      let counted : newly_slow c new ≡ 1 = cond-true _ _ _ (and_from _ _ (lt-ltb _ _ low) (le-leb _ _ high)) in
      absurd (omega (arith, counted, quiet))
  | inr both ↦ both
]
