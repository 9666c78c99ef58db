-- A chip in memory is accepted, so that a format of it is refused for a loss of power alone.
use Rattle.std.proofs.Common.{◌≡◌, ℕ, List, length, arith, refl, subst}
use Rattle.std.specs.Prelude.{Err}
use Rattle.chip_model.specs.Chip.{Chip}
use Rattle.chip_model.specs.Geometry.{IsChipSize}
use Rattle.nor_driver.specs.Probe.{told}
use Rattle.nor_driver.specs.declared.error.ProbeError.{ProbeError}
use Rattle.nor_driver.specs.declared.error.ProbeError.TheVariants as probes
use Rattle.chip_simulator.specs.Sim.{fresh_chip}
use Rattle.chip_simulator.proofs.Accepted.{table_accepted}
use Rattle.flash_disk.specs.Formatted.{AnswersAsTold, FormatFails}
use Rattle.flash_disk.proofs.Accepting.{told-accepted}
use Rattle.norbd_image.specs.declared.error.ImageError.TheVariants.{Refused}
use Rattle.norbd_image.specs.Image.{ComesOfFormat}

refused : (e : ProbeError) (m : List ℕ) (cuts cuts' : ℕ) → IsChipSize (length m) → AnswersAsTold (Err e) (told (fresh_chip m)) → FormatFails e cuts 0 cuts' 0 → ComesOfFormat (Refused e)
refused probes.Cut m cuts cuts' size told_as fails = tt
refused probes.Slow m cuts cuts' size told_as fails = (let h = fails.1 in absurd (omega (arith, h)))
refused probes.WrongId m cuts cuts' size told_as fails =
    let t = table_accepted (length m) size in
    let a = told-accepted (fresh_chip m) t.0 size refl t.1 t.2 in
    absurd (cc (a, told_as))
refused (probes.Sfdp e) m cuts cuts' size told_as fails =
    let t = table_accepted (length m) size in
    let a = told-accepted (fresh_chip m) t.0 size refl t.1 t.2 in
    absurd (cc (a, told_as))
refused probes.Protected m cuts cuts' size told_as fails =
    let t = table_accepted (length m) size in
    let a = told-accepted (fresh_chip m) t.0 size refl t.1 t.2 in
    absurd (cc (a, told_as))

pub refused-of : (e : ProbeError) (c : Chip) (m : List ℕ) (cuts cuts' : ℕ) → c ≡ fresh_chip m → IsChipSize (length m) → AnswersAsTold (Err e) (told c) → FormatFails e cuts 0 cuts' 0 → ComesOfFormat (Refused e)
refused-of e c m cuts cuts' same size told_as fails = refused e m cuts cuts' size (subst (λ (x : Chip). AnswersAsTold (Err e) (told x)) same told_as) fails
