use Rattle.std.proofs.Common.{◌≡◌, ◌∙◌, length, true, ap, sym, subst}
use Rattle.chip_model.specs.Chip.{Chip, is_idle}
use Rattle.chip_simulator.specs.Sim.{chip_of}
use Rattle.flash_disk.specs.Contents.{contents_of}
use Rattle.sector_map.specs.Maps.{IsMountable}
use Rattle.sector_slots.specs.Slots.{IsClean}
use Rattle.flash_disk.proofs.Sectors.{length-contents}
use Rattle.norbd_image.proofs.Holding.{changes-on}
use Rattle.norbd_image.proofs.Mending.{fails-on}
use Rattle.norbd_image.proofs.both.replayed.Goals as goal

pub returns-in-Ok-replay-clause-holds : goal.returns-in-Ok-replay-clause-holds
returns-in-Ok-replay-clause-holds c =
    let same = c.in-Ok.ensures.chip in
    let idle : is_idle (chip_of c.in-Ok.chip).operation ≡ true = ap (λ (x : Chip). is_idle x.operation) same in
    let from = c.in-Ok-mount.ensures.from idle in
    let m : (chip_of c.in-Ok.chip).memory ≡ c.args.image.items = ap (λ (x : Chip). x.memory) same in
    changes-on c.args.image.items c.args.log.now _ _
    (c.in-Ok-true.ensures.contents ∙ (from.contents ∙ ap contents_of m))
    (c.in-Ok-replay.ensures.contents (c.in-Ok-true.ensures.sound ∙ c.in-Ok-true.field-0-test))

pub returns-in-Ok-replay-clause-size : goal.returns-in-Ok-replay-clause-size
returns-in-Ok-replay-clause-size c =
    let same = c.in-Ok.ensures.chip in
    let idle : is_idle (chip_of c.in-Ok.chip).operation ≡ true = ap (λ (x : Chip). is_idle x.operation) same in
    let from = c.in-Ok-mount.ensures.from idle in
    let m : (chip_of c.in-Ok.chip).memory ≡ c.args.image.items = ap (λ (x : Chip). x.memory) same in
    c.replay.ensures.goes.size ∙ (ap length (c.in-Ok-true.ensures.contents ∙ (from.contents ∙ ap contents_of m)) ∙ length-contents c.args.image.items)

pub returns-in-Err-clause-refused : goal.returns-in-Err-clause-refused
returns-in-Err-clause-refused c =
    let same = c.in-Ok.ensures.chip in
    let idle : is_idle (chip_of c.in-Ok.chip).operation ≡ true = ap (λ (x : Chip). is_idle x.operation) same in
    let e = c.in-Err.ensures in
    fails-on c.in-Err.error (chip_of c.in-Ok.chip) c.args.image.items _ _ _ same c.requires e.refused (e.left idle) (e.told idle)

pub returns-in-Ok-false-clause-refused : goal.returns-in-Ok-false-clause-refused
returns-in-Ok-false-clause-refused c =
    let same = c.in-Ok.ensures.chip in
    let idle : is_idle (chip_of c.in-Ok.chip).operation ≡ true = ap (λ (x : Chip). is_idle x.operation) same in
    let m : (chip_of c.in-Ok.chip).memory ≡ c.args.image.items = ap (λ (x : Chip). x.memory) same in
    let from = c.in-Ok-mount.ensures.from idle in
    let keeps = c.in-Ok-mount.ensures.keeps idle in (
      subst (λ v. IsMountable v) m from.mountable,
      λ clean. c.in-Ok-false.ensures.not_clean c.in-Ok-false.field-0-test (keeps.clean (subst (λ v. IsClean v) (sym m) clean)),
    )
