use Rattle.std.proofs.Common.{sym, ap, subst, ◌∙◌}
use Rattle.chip_model.specs.Wavering.{Bits}
use Rattle.nor_driver.specs.State.{NorState}
use Rattle.erase_journal.specs.Weak.{AreInterruptedJournals}
use Rattle.sector_slots.specs.Fit.{IsFitForFirmMount}
use Rattle.sector_slots.specs.Weak.{IsHalfChip}
use Rattle.sector_map.specs.Marking.{is_unmarked}
use Rattle.flash_disk.proofs.Bits.{found-bits}
use Rattle.flash_disk.proofs.disk.FlashDisk.mount_as.Goals as goal

pub returns-in-Ok-clause-journals : goal.returns-in-Ok-clause-journals
returns-in-Ok-clause-journals g c firmly idle unmarked h =
    let e = found-bits (g.B.SpiBus.chip c.args.bus) (g.B.SpiBus.cuts c.args.bus) (g.B.SpiBus.slows c.args.bus) _ idle c.in-Ok.ensures.found in
    c.open.ensures.journals firmly (ap (λ (b : Bits). is_unmarked b.shown) e ∙ unmarked) (subst (λ (b : Bits). AreInterruptedJournals b) (sym e) h)

pub returns-in-Ok-clause-store : goal.returns-in-Ok-clause-store
returns-in-Ok-clause-store g c firmly idle unmarked h =
    let e = found-bits (g.B.SpiBus.chip c.args.bus) (g.B.SpiBus.cuts c.args.bus) (g.B.SpiBus.slows c.args.bus) _ idle c.in-Ok.ensures.found in
    c.open.ensures.store firmly (ap (λ (b : Bits). is_unmarked b.shown) e ∙ unmarked) (subst (λ (b : Bits). IsHalfChip b) (sym e) h)

pub open-requires-clause-firmly : goal.open-requires-clause-firmly
open-requires-clause-firmly g c is =
    let h = c.requires.firmly is in
    let found = c.in-Ok.ensures.found in
    let e = found-bits (g.B.SpiBus.chip c.args.bus) (g.B.SpiBus.cuts c.args.bus) (g.B.SpiBus.slows c.args.bus) _ h.idle found in
    record {
      firmness_is = h.firmness_is;
      cuts_are = ap (λ (z : NorState). z.cuts) found.state_is ∙ h.cuts_are;
      slows_are = ap (λ (z : NorState). z.slows) found.state_is ∙ h.slows_are;
      fit = subst (λ (b : Bits). IsFitForFirmMount b) (sym e) h.fit;
    }
