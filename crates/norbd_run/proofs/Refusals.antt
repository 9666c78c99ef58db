-- What comes of opening an image is one of its refusals.
use Rattle.std.proofs.Common.{ℕ, List}
use Rattle.chip_simulator.specs.declared.error.SimError.{SimError}
use Rattle.chip_simulator.specs.declared.error.SimError.TheVariants as files
use Rattle.nor_driver.specs.declared.error.ProbeError.TheVariants as probes
use Rattle.flash_disk.specs.Mounting.{RefusedAt}
use Rattle.flash_disk.specs.declared.error.MountError.{MountError}
use Rattle.flash_disk.specs.declared.error.MountError.TheVariants as mounts
use Rattle.norbd_image.specs.Image.{ComesOfHolding}
use Rattle.norbd_image.specs.declared.error.ImageError.{ImageError}
use Rattle.norbd_image.specs.declared.error.ImageError.TheVariants as images
use Rattle.norbd_chip.specs.declared.fault.ChipFault.{ChipFault}
use Rattle.norbd_chip.specs.declared.fault.ChipFault.TheVariants as chips
use Rattle.norbd_run.specs.Chips.{told_of_chip}
use Rattle.norbd_run.specs.Formatting.{told_as}
use Rattle.norbd_run.specs.Listening.{IsRefusal, told_of_file, told_of_mount}
use Rattle.norbd_run.specs.Opening.{IsReason}

pub held_is_refusal : (e : ImageError) → ComesOfHolding e → IsRefusal (told_as e)
held_is_refusal images.OutOfMemory h = tt
held_is_refusal (images.File kind) h = tt
held_is_refusal images.NotAFile h = tt
held_is_refusal images.InUse h = tt
held_is_refusal images.Formatted h = absurd h
held_is_refusal images.NotEmpty h = absurd h
held_is_refusal (images.Refused e) h = absurd h

pub file_is_refusal : (length : ℕ) (e : SimError) → IsRefusal (told_of_file length e)
file_is_refusal length files.BadSize = tt
file_is_refusal length files.OutOfMemory = tt
file_is_refusal length files.File = tt

pub chip_is_refusal : (e : ChipFault) → IsRefusal (told_of_chip e)
chip_is_refusal chips.NoMemory = tt
chip_is_refusal (chips.Failed cause) = tt
chip_is_refusal chips.BadTable = tt
chip_is_refusal chips.WrongId = tt
chip_is_refusal chips.Protected = tt
chip_is_refusal chips.Slow = tt

pub mount-reason : (e : MountError) (m m' : List ℕ) → RefusedAt e m m' → IsReason (told_of_mount e) m
mount-reason (mounts.Probe probes.Cut) m m' h = tt
mount-reason (mounts.Probe probes.Slow) m m' h = tt
mount-reason (mounts.Probe probes.WrongId) m m' h = tt
mount-reason (mounts.Probe (probes.Sfdp e)) m m' h = tt
mount-reason (mounts.Probe probes.Protected) m m' h = tt
mount-reason mounts.OutOfMemory m m' h = tt
mount-reason mounts.NotFormatted m m' h = h.0
mount-reason mounts.Corrupt m m' h = h.corrupt
