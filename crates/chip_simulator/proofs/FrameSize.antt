-- No frame and no loss of power changes a memory's size.
use Rattle.std.proofs.Common.{◌≡◌, ℕ, Bool, true, false, not, cond, List, length, refl, ap, ◌∙◌}
use Rattle.chip_model.specs.Chip.{Chip, Operation, Idle, Programming, Erasing, Setting, completed, memory_after}
use Rattle.chip_model.specs.Cut.{Cut, TornMemory}
use Rattle.chip_model.specs.Frames.{Frame, taken, busy, done, status, ignored, Command, Enable, Disable, Status1, Status2, Status3, Set, Read, Program, Erase, Id, Sfdp, Unknown, after_command, if_allowed, is_protected, command_of}
use Rattle.chip_model.proofs.MemoryLaws.{length-programmed, length-erased}

size_cond : (b : Bool) (c x y : Chip) → length x.memory ≡ length c.memory → length y.memory ≡ length c.memory → length (cond b x y).memory ≡ length c.memory
size_cond true c x y p q = p
size_cond false c x y p q = q

size_allowed : (c : Chip) (a n : ℕ) (o : Operation) → length (if_allowed c a n o).memory ≡ length c.memory
size_allowed c a n o = size_cond (not c.enabled) c c _ refl (size_cond (is_protected c a n) c _ _ refl refl)

size_command : (c : Chip) (command : Command) → length (after_command c command).memory ≡ length c.memory
size_command c Enable = refl
size_command c Disable = refl
size_command c Status1 = refl
size_command c Status2 = refl
size_command c Status3 = refl
size_command c (Set value) = size_cond c.enabled c _ c refl refl
size_command c (Read at) = refl
size_command c (Program at bytes) = size_allowed c _ 256 _
size_command c (Erase at size) = size_allowed c _ size _
size_command c Id = refl
size_command c (Sfdp at) = refl
size_command c Unknown = refl

size_after : (o : Operation) (m : List ℕ) → length (memory_after o m) ≡ length m
size_after Idle m = refl
size_after (Programming at bytes) m = length-programmed m at bytes
size_after (Erasing at size) m = length-erased m at size
size_after (Setting value) m = refl

pub size_frame : (c new : Chip) (sent received : List ℕ) → Frame c sent received new → length new.memory ≡ length c.memory
size_frame c new sent received (taken i r e) = ap (λ (d : Chip). length d.memory) e ∙ size_command c (command_of sent)
size_frame c new sent received (busy i k r e) = ap (λ (d : Chip). length d.memory) e
size_frame c new sent received (done i k r e) = ap (λ (d : Chip). length d.memory) e ∙ size_after c.operation c.memory
size_frame c new sent received (status i k r e) = ap (λ (d : Chip). length d.memory) e
size_frame c new sent received (ignored i k r e) = ap (λ (d : Chip). length d.memory) e

size_torn : (o : Operation) (m torn : List ℕ) → TornMemory o m torn → length torn ≡ length m
size_torn Idle m torn h = ap length h
size_torn (Programming at bytes) m torn h = h.same_length
size_torn (Erasing at size) m torn h = h.same_length
size_torn (Setting value) m torn h = ap length h

pub size_cut : (c new : Chip) → Cut c new → length new.memory ≡ length c.memory
size_cut c new h = size_torn c.operation c.memory new.memory h.memory
