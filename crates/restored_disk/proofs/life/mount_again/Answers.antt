use Rattle.std.proofs.Common.{◌∙◌, length, refl, sym, ap}
use Rattle.block_device.specs.Facts.{Facts}
use Rattle.flash_disk.specs.Contents.{contents_of}
use Rattle.restored_disk.proofs.Lives.{next-begins, reads-at, refused-goes, refused-keeps, refused-size, size-drawn}
use Rattle.restored_disk.proofs.life.mount_again.Goals as goal

pub mount_as-requires-clause-known : goal.mount_as-requires-clause-known
mount_as-requires-clause-known g c sound =
    let life = length c.args.ended.now.items in
    let firm = g.P.Provenance.firm in
    let next = c.power_cycle-bus.ensures.next c.requires.begins.idle in
    let b = next-begins firm (g.B.PowerCycle.draw life) (g.B.SpiBus.chip c.args.bus) (g.B.SpiBus.chip c.power_cycle-bus.result) (reads-at firm g.B.PowerCycle.draw life c.requires.served) next c.requires.begins in
    record { idle = b.idle; clean = b.clean }

pub mount_as-requires-clause-firmly : goal.mount_as-requires-clause-firmly
mount_as-requires-clause-firmly g c is =
    let life = length c.args.ended.now.items in
    let firm = g.P.Provenance.firm in
    let next = c.power_cycle-bus.ensures.next c.requires.begins.idle in
    let b = next-begins firm (g.B.PowerCycle.draw life) (g.B.SpiBus.chip c.args.bus) (g.B.SpiBus.chip c.power_cycle-bus.result) (reads-at firm g.B.PowerCycle.draw life c.requires.served) next c.requires.begins in
    record {
      firmness_is = refl;
      cuts_are = c.power_cycle-bus.ensures.cuts ∙ sym c.requires.counted;
      slows_are = c.power_cycle-bus.ensures.slows ∙ c.requires.slows;
      idle = b.idle;
      fit = b.fit is;
    }

pub known_clean-requires : goal.known_clean-requires
known_clean-requires g c =
    let life = length c.args.ended.now.items in
    let firm = g.P.Provenance.firm in
    let next = c.power_cycle-bus.ensures.next c.requires.begins.idle in
    let b = next-begins firm (g.B.PowerCycle.draw life) (g.B.SpiBus.chip c.args.bus) (g.B.SpiBus.chip c.power_cycle-bus.result) (reads-at firm g.B.PowerCycle.draw life c.requires.served) next c.requires.begins in
    record { clean = (c.in-Ok.ensures.keeps b.idle).clean b.clean }

pub returns-in-Ok-clause-contents : goal.returns-in-Ok-clause-contents
returns-in-Ok-clause-contents g c =
    let next = c.power_cycle-bus.ensures.next c.requires.begins.idle in
    c.adopt.ensures.contents ∙ (ap (λ (x : Facts). x.contents) c.known_clean.ensures.facts ∙ ((c.in-Ok.ensures.from next.idle).contents ∙ ap contents_of next.memory))

pub returns-in-Err-clause-size : goal.returns-in-Err-clause-size
returns-in-Err-clause-size g c =
    let life = length c.args.ended.now.items in
    let firm = g.P.Provenance.firm in
    let draw = g.B.PowerCycle.draw life in
    let old = g.B.SpiBus.chip c.args.bus in
    let next = c.power_cycle-bus.ensures.next c.requires.begins.idle in
    let b = next-begins firm draw old (g.B.SpiBus.chip c.power_cycle-bus.result) (reads-at firm g.B.PowerCycle.draw life c.requires.served) next c.requires.begins in
    refused-size c.in-Err.error (g.B.SpiBus.chip c.power_cycle-bus.result).memory (g.B.SpiBus.chip c.in-Err.bus).memory (c.in-Err.ensures.left b.idle) b.mountable
    ∙ (ap (λ m. length (contents_of m)) next.memory ∙ size-drawn draw (record { shown = old.memory; weak = old.weak }))

pub returns-in-Err-clause-cut : goal.returns-in-Err-clause-cut
returns-in-Err-clause-cut g c cut =
    let life = length c.args.ended.now.items in
    let firm = g.P.Provenance.firm in
    let draw = g.B.PowerCycle.draw life in
    let new = g.B.SpiBus.chip c.power_cycle-bus.result in
    let bus = c.power_cycle-bus.result in
    let next = c.power_cycle-bus.ensures.next c.requires.begins.idle in
    let b = next-begins firm draw (g.B.SpiBus.chip c.args.bus) new (reads-at firm g.B.PowerCycle.draw life c.requires.served) next c.requires.begins in
    let x = refused-keeps c.in-Err.error new.memory (g.B.SpiBus.chip c.in-Err.bus).memory (g.B.SpiBus.cuts bus) (g.B.SpiBus.slows bus) (g.B.SpiBus.cuts c.in-Err.bus) (g.B.SpiBus.slows c.in-Err.bus) (sym c.told.ensures ∙ cut) b.mountable (c.in-Err.ensures.left b.idle) c.in-Err.ensures.refused in
    (x.0 ∙ c.power_cycle-bus.ensures.slows, x.1 ∙ ap contents_of next.memory)

pub returns-in-Err-clause-again : goal.returns-in-Err-clause-again
returns-in-Err-clause-again g c cut steady =
    let life = length c.args.ended.now.items in
    let firm = g.P.Provenance.firm in
    let draw = g.B.PowerCycle.draw life in
    let new = g.B.SpiBus.chip c.power_cycle-bus.result in
    let next = c.power_cycle-bus.ensures.next c.requires.begins.idle in
    let b = next-begins firm draw (g.B.SpiBus.chip c.args.bus) new (reads-at firm g.B.PowerCycle.draw life c.requires.served) next c.requires.begins in
    refused-goes c.in-Err.error firm new (g.B.SpiBus.chip c.in-Err.bus) (sym c.told.ensures ∙ cut) b (c.in-Err.ensures.left b.idle) c.in-Err.ensures.idle (c.in-Err.ensures.stays b.idle b.accepted)
