use Rattle.std.proofs.Common.{◌≡◌, ◌*◌, ◌∙◌, ℕ, arith, length, refl, sym, ap, subst}
use Rattle.chip_model.specs.Chip.{Chip}
use Rattle.chip_model.specs.Geometry.{IsChipSize, sector_count}
use Rattle.chip_simulator.specs.Sim.{chip_of, cuts_of}
use Rattle.flash_disk.specs.Contents.{contents_of}
use Rattle.norbd_script.proofs.Simulating.{fresh-accepted, simulates}
use Rattle.norbd_script.proofs.simulated.run_simulated.Goals as goal

pub returns-clause-says : goal.returns-clause-says
returns-clause-says g c =
    let items = c.in-Ok.erased.items in
    let long : length items ≡ 1024 * c.args.kib = (let e = c.in-Ok.ensures.len in omega (arith, e, c.in-Ok.erased.ok)) in
    let size : IsChipSize (length items) = subst (λ (n : ℕ). IsChipSize n) (sym long) c.requires.size in
    let is = c.in-Ok-new.ensures.chip in
    let old : Chip = chip_of c.in-Ok-new.chip in
    let new : Chip = chip_of c.run_formatted-chip.result.0 in
    let a = fresh-accepted (chip_of c.in-Ok-new.chip) items is size in
    simulates (sector_count (1024 * c.args.kib)) (sector_count (length old.memory)) (contents_of old.memory) (contents_of new.memory) (cuts_of c.in-Ok-new.chip) (cuts_of c.run_formatted-chip.result.0) (sector_count (length new.memory)) _ _ _ _ c.run_formatted-chip.result.1 (chip_of c.in-Ok-new.chip) a.0 (ap (λ (x : Chip). sector_count (length x.memory)) is ∙ ap (λ n. sector_count n) long) c.in-Ok-new.ensures.cuts a.1
    c.run_formatted-chip.ensures.told c.run_formatted-chip.ensures.says

pub returns-in_default-clause-says : goal.returns-in_default-clause-says
returns-in_default-clause-says g c = (refl, refl)

pub returns-in_default-clause-reads : goal.returns-in_default-clause-reads
returns-in_default-clause-reads g c = refl

pub returns-in_default-clause-writes : goal.returns-in_default-clause-writes
returns-in_default-clause-writes g c = refl
