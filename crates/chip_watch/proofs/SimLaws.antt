-- What frames keep of a calm simulator.
use Rattle.std.proofs.Common.{◌≡◌, ℕ, Bool, true, false, not, cond, ◌&&◌, List, [], length, refl, ap, arith}
use Rattle.std.specs.Prelude.{nat_lt, ◌-◌, ◌==◌}
use Rattle.std.proofs.lemmas.Bool.{and_right}
use Rattle.chip_model.specs.Chip.{Chip, Operation, Idle, Programming, Erasing, Setting, is_idle, memory_after}
use Rattle.chip_model.specs.Frames.{Command, Enable, Disable, Status1, Status2, Status3, Set, Read, Program, Erase, Id, Sfdp, Unknown, command_of, after_command, if_allowed, is_protected}
use Rattle.chip_model.proofs.FrameLaws.{firmed_none}
use Rattle.chip_model.proofs.MemoryLaws.{length-programmed, length-erased}
use Rattle.chip_simulator.specs.Plan.{Armed, counts_frame, one_frame_less, strikes}
use Rattle.chip_simulator.specs.Simulated.{Pace, after_busy, after_frame, paced}

pub never_strikes : (p : Armed) (b : Bool) → p.armed ≡ 0 → strikes p b ≡ false
never_strikes p b e = and_right _ _ (ap (λ (n : ℕ). n == 1) e)

less : (b : Bool) (n : ℕ) → n ≡ 0 → cond b (n - 1) n ≡ 0
less true n e = omega (arith, e)
less false n e = e

pub stays_unarmed : (p : Armed) (b : Bool) → p.armed ≡ 0 → (one_frame_less p b).armed ≡ 0
stays_unarmed p b e = less (counts_frame p b) p.armed e

pub stays_prompt : (p : Pace) (b : Bool) → p ≡ record { next = false; stuck = false } → paced p b ≡ record { next = false; stuck = false }
stays_prompt p true e = ap (λ (q : Pace). paced q true) e
stays_prompt p false e = e

-- of the same size, with the power as it was, and steady where it was
pub record IsLike (c new : Chip) : Type 0 where
  pub size : length new.memory ≡ length c.memory
  pub powered : new.powered ≡ c.powered
  pub steady : c.weak ≡ [] → new.weak ≡ []

like_cond : (b : Bool) (c x y : Chip) → IsLike c x → IsLike c y → IsLike c (cond b x y)
like_cond true c x y p q = p
like_cond false c x y p q = q

like_itself : (c : Chip) → IsLike c c
like_itself c = record { size = refl; powered = refl; steady = λ h. h }

like_allowed : (c : Chip) (a n : ℕ) (o : Operation) → IsLike c (if_allowed c a n o)
like_allowed c a n o = like_cond (not c.enabled) c c _ (like_itself c) (like_cond (is_protected c a n) c _ _ (record { size = refl; powered = refl; steady = λ h. h }) (record { size = refl; powered = refl; steady = λ h. h }))

pub like_after : (c : Chip) (command : Command) → IsLike c (after_command c command)
like_after c Enable = record { size = refl; powered = refl; steady = λ h. h }
like_after c Disable = record { size = refl; powered = refl; steady = λ h. h }
like_after c Status1 = like_itself c
like_after c Status2 = like_itself c
like_after c Status3 = like_itself c
like_after c (Set value) = like_cond c.enabled c _ c (record { size = refl; powered = refl; steady = λ h. h }) (like_itself c)
like_after c (Read at) = like_itself c
like_after c (Program at bytes) = like_allowed c _ 256 _
like_after c (Erase at size) = like_allowed c _ size _
like_after c Id = like_itself c
like_after c (Sfdp at) = like_itself c
like_after c Unknown = like_itself c

pub long_after : (o : Operation) (m : List ℕ) → length (memory_after o m) ≡ length m
long_after Idle m = refl
long_after (Programming at bytes) m = length-programmed m at bytes
long_after (Erasing at size) m = length-erased m at size
long_after (Setting value) m = refl

like_busy : (c : Chip) (command : Command) → IsLike c (after_busy false c command)
like_busy c Status1 = like_cond (nat_lt 0 c.polls && true) c _ _ (record { size = long_after c.operation c.memory; powered = refl; steady = λ h. firmed_none c.operation c.weak h }) (record { size = refl; powered = refl; steady = λ h. h })
like_busy c Enable = like_itself c
like_busy c Disable = like_itself c
like_busy c Status2 = like_itself c
like_busy c Status3 = like_itself c
like_busy c (Set value) = like_itself c
like_busy c (Read at) = like_itself c
like_busy c (Program at bytes) = like_itself c
like_busy c (Erase at size) = like_itself c
like_busy c Id = like_itself c
like_busy c (Sfdp at) = like_itself c
like_busy c Unknown = like_itself c

pub like_frame : (c : Chip) (sent : List ℕ) → IsLike c (after_frame false c sent)
like_frame c sent = like_cond (is_idle c.operation) c _ _ (like_after c (command_of sent)) (like_busy c (command_of sent))
