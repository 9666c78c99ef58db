use Rattle.std.proofs.Common.{◌∙◌, length, refl, sym}
use Rattle.chip_model.specs.Geometry.{sector_count}
use Rattle.flash_disk.specs.Contents.{contents_of}
use Rattle.norbd_script.proofs.Chain.{new_stay, of_formatted, past_format}
use Rattle.norbd_script.specs.Lives.{IsHealthyChip, OnBus}
use Rattle.norbd_script.proofs.Staying.{refused_mount}
use Rattle.norbd_script.proofs.running.run_new.Goals as goal

pub returns-in-Ok-clause-says : goal.returns-in-Ok-clause-says
returns-in-Ok-clause-says g c =
    let formatted = c.requires.formatted in
    let old = g.B.SpiBus.chip c.args.bus in
    new_stay (sector_count (length old.memory)) (contents_of old.memory) (g.B.SpiBus.cuts c.args.bus) (g.B.SpiBus.slows c.args.bus) _ g.P.Provenance.slows _ _ (c.in-Ok.ensures.from formatted.idle).contents
    c.in-Ok.ensures.opened.cuts_are c.in-Ok.ensures.opened.slows_are formatted.contents c.run_on.ensures.past c.run_on.ensures.says

pub returns-in-Ok-clause-past : goal.returns-in-Ok-clause-past
returns-in-Ok-clause-past g c = past_format _ c.run_on.ensures.past

pub returns-in-Err-clause-says : goal.returns-in-Err-clause-says
returns-in-Err-clause-says g c =
    let formatted = c.requires.formatted in
    ((refl, refl), c.in-Err.ensures.refused, of_formatted c.in-Err.error (g.B.SpiBus.chip c.args.bus) (g.B.SpiBus.chip c.in-Err.bus).memory formatted.mountable formatted.accepted (c.in-Err.ensures.left formatted.idle) (c.in-Err.ensures.told formatted.idle))

pub returns-in-Ok-clause-healthy : goal.returns-in-Ok-clause-healthy
returns-in-Ok-clause-healthy g c quiet =
    let o = c.in-Ok.ensures.opened in
    (c.run_on.ensures.says.left (o.slows_are ∙ sym c.requires.counted) (quiet ∙ sym o.slows_are)).healthy

pub returns-in-Ok-clause-clean : goal.returns-in-Ok-clause-clean
returns-in-Ok-clause-clean g c quiet =
    let o = c.in-Ok.ensures.opened in
    (c.run_on.ensures.says.left (o.slows_are ∙ sym c.requires.counted) (quiet ∙ sym o.slows_are)).clean

pub returns-in-Err-clause-healthy : goal.returns-in-Err-clause-healthy
returns-in-Err-clause-healthy g c quiet =
    let formatted = c.requires.formatted in
    let old : OnBus = record { chip = g.B.SpiBus.chip c.args.bus; cuts = g.B.SpiBus.cuts c.args.bus; slows = g.B.SpiBus.slows c.args.bus } in
    let new : OnBus = record { chip = g.B.SpiBus.chip c.in-Err.bus; cuts = g.B.SpiBus.cuts c.in-Err.bus; slows = g.B.SpiBus.slows c.in-Err.bus } in
    let e = c.in-Err.ensures in
    let well : IsHealthyChip old.chip = record { idle = formatted.idle; accepted = formatted.accepted; mountable = formatted.mountable } in
    ((refused_mount c.in-Err.error old new (g.S.Source.remaining c.args.reader.now) (g.W.Sink.written c.args.writer.now) e.refused e.left e.told e.idle e.stays).stays well quiet).healthy

pub returns-in-Err-clause-clean : goal.returns-in-Err-clause-clean
returns-in-Err-clause-clean g c quiet =
    let formatted = c.requires.formatted in
    let old : OnBus = record { chip = g.B.SpiBus.chip c.args.bus; cuts = g.B.SpiBus.cuts c.args.bus; slows = g.B.SpiBus.slows c.args.bus } in
    let new : OnBus = record { chip = g.B.SpiBus.chip c.in-Err.bus; cuts = g.B.SpiBus.cuts c.in-Err.bus; slows = g.B.SpiBus.slows c.in-Err.bus } in
    let e = c.in-Err.ensures in
    let well : IsHealthyChip old.chip = record { idle = formatted.idle; accepted = formatted.accepted; mountable = formatted.mountable } in
    ((refused_mount c.in-Err.error old new (g.S.Source.remaining c.args.reader.now) (g.W.Sink.written c.args.writer.now) e.refused e.left e.told e.idle e.stays).stays well quiet).clean formatted.clean
