-- The chip of a bus whose memory is kept in a file. Source: own.
use Rattle.std.specs.Prelude.{ℕ, Bool, false, true, ◌&&◌, List}
use Rattle.chip_model.specs.Chip.{Chip, Operation, Idle, Programming, Erasing, Setting, is_idle}
use Rattle.chip_simulator.specs.Sim.{chip_in}
use Rattle.chip_simulator.specs.Simulated.{after_frame}
use Rattle.chip_simulator.specs.declared.image.ImageBus.{ImageBus}

abbrev pub image_chip : {F : Type 0} → ImageBus F → Chip
image_chip b = chip_in b.cells

abbrev pub image_cuts : {F : Type 0} → ImageBus F → ℕ
image_cuts b = b.cells.cuts

-- no operation is ever slow
abbrev pub image_slows : {F : Type 0} → ImageBus F → ℕ
image_slows b = 0

-- the file failed: the power can't be turned on again
abbrev pub image_broken : {F : Type 0} → ImageBus F → Bool
image_broken b = b.broken

-- an operation that is to change the memory: a program or an erase
abbrev pub writes_memory : Operation → Bool
writes_memory Idle = false
writes_memory (Programming at bytes) = true
writes_memory (Erasing at size) = true
writes_memory (Setting value) = false

-- the frame completes a program or an erase, which is then written to the file: one is in progress
-- before it and none after it
abbrev pub is_saved : Chip → List ℕ → Bool
is_saved c sent = writes_memory c.operation && is_idle (after_frame false c sent).operation
