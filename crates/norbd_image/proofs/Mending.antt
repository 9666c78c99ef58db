-- A chip in memory is accepted, and what its mount refuses.
use Rattle.std.proofs.Common.{◌≡◌, ℕ, ◌*◌, List, length, true, arith, ap, subst, refl, Ok}
use Rattle.sfdp.specs.declared.params.Params.{Params}
use Rattle.chip_model.specs.Chip.{Chip}
use Rattle.chip_model.specs.Geometry.{IsChipSize, sector_count}
use Rattle.nor_driver.specs.Probe.{probe_answer, told, unless_protected}
use Rattle.nor_driver.specs.declared.error.ProbeError.TheVariants as probes
use Rattle.sector_map.proofs.Marking.{laid-formatted}
use Rattle.sector_map.specs.Maps.{IsMountable}
use Rattle.chip_simulator.specs.Sim.{fresh_chip}
use Rattle.chip_simulator.proofs.Accepted.{table_accepted}
use Rattle.flash_disk.specs.Formatted.{format_answer}
use Rattle.flash_disk.specs.Mounting.{RefusedAs, RefusedAt, RefusedFor}
use Rattle.flash_disk.specs.declared.error.MountError.{MountError}
use Rattle.flash_disk.specs.declared.error.MountError.TheVariants.{Probe, OutOfMemory, NotFormatted, Corrupt}
use Rattle.flash_disk.proofs.Accepting.{told-accepted}
use Rattle.norbd_image.specs.Mended.{ComesOfMemory, MendFails}

accepted : (m : List ℕ) → IsChipSize (length m) → (p : Params) × (probe_answer (told (fresh_chip m)) ≡ Ok p)
accepted m size =
    let t = table_accepted (length m) size in
    let a : format_answer (told (fresh_chip m)) ≡ Ok t.0 = told-accepted (fresh_chip m) t.0 size refl t.1 t.2 in
    (t.0, ap (unless_protected true) a)

fails : (e : MountError) (m m' : List ℕ) (cuts cuts' : ℕ) → IsChipSize (length m) → RefusedFor e cuts 0 cuts' 0 → RefusedAt e m m' → RefusedAs e (fresh_chip m) → MendFails m e
fails (Probe probes.Cut) m m' cuts cuts' size counts left answers = tt
fails (Probe probes.Slow) m m' cuts cuts' size counts left answers = (let h = counts.1 in absurd (omega (arith, h)))
fails (Probe probes.WrongId) m m' cuts cuts' size counts left answers = (let a = (accepted m size).1 in absurd (cc (a, answers)))
fails (Probe (probes.Sfdp e)) m m' cuts cuts' size counts left answers = (let a = (accepted m size).1 in absurd (cc (a, answers)))
fails (Probe probes.Protected) m m' cuts cuts' size counts left answers = (let a = (accepted m size).1 in absurd (cc (a, answers)))
fails OutOfMemory m m' cuts cuts' size counts left answers = tt
fails NotFormatted m m' cuts cuts' size counts left answers = left.0
fails Corrupt m m' cuts cuts' size counts left answers = left.corrupt

-- what a mount of a chip with this memory refuses
pub fails-on : (e : MountError) (c : Chip) (m m' : List ℕ) (cuts cuts' : ℕ) → c ≡ fresh_chip m → IsChipSize (length m) → RefusedFor e cuts 0 cuts' 0 → RefusedAt e c.memory m' → RefusedAs e c → MendFails m e
fails-on e c m m' cuts cuts' same size counts left answers =
    fails e m m' cuts cuts' size counts (subst (λ (x : Chip). RefusedAt e x.memory m') same left) (subst (λ (x : Chip). RefusedAs e x) same answers)

-- a healthy memory is refused for want of memory or a loss of power alone
pub comes-of-memory : (e : MountError) (m : List ℕ) → IsMountable m → MendFails m e → ComesOfMemory e
comes-of-memory (Probe e) m healthy failed = failed
comes-of-memory OutOfMemory m healthy failed = tt
comes-of-memory NotFormatted m healthy failed = laid-formatted m healthy.superblock failed
comes-of-memory Corrupt m healthy failed = failed healthy

-- a chip's number of sectors says its size
pub same-chip-size : (a b : ℕ) → IsChipSize a → IsChipSize b → 512 * sector_count a ≡ 512 * sector_count b → a ≡ b
same-chip-size a b p q e = omega (arith, p.whole, q.whole, p.least, q.least, p.most, q.most, e)
