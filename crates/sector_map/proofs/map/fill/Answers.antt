use Rattle.std.proofs.Common.{◌≡◌, ◌∙◌, false, ap, sym, subst, length, None, Err}
use Rattle.std.proofs.lemmas.List.{with_items_is}
use Rattle.chip_model.specs.Geometry.{sector_count}
use Rattle.erase_journal.specs.Journals.{IsHealthy}
use Rattle.nor_driver.specs.State.{NorState, bits_in, IsNorReady, Refuses}
use Rattle.erase_journal.specs.Weak.{AreRecoveredJournals}
use Rattle.sector_slots.specs.Weak.{IsHalfStore}
use Rattle.sector_map.specs.Marking.{is_unmarked}
use Rattle.sector_map.specs.Maps.{IsServing, shown_with}
use Rattle.sector_map.specs.Filling.{Filled, FillCut, FillsFirmly}
use Rattle.sector_map.proofs.FirmBegins.{begun-since, begun-firm}
use Rattle.sector_map.proofs.Restoring.{served-after}
use Rattle.sector_map.proofs.Retiring.{single-tabled}
use Rattle.sector_map.proofs.Opening.{filled, fill-cut}
use Rattle.sector_map.proofs.map.fill.Goals as goal

pub invariant_of-result : goal.invariant_of-result
invariant_of-result g c =
    let items = with_items_is c.args.tables.table c.mount_slots.new.table (c.mount_slots.ensures.size ∙ c.as_mut_slice.ensures.len) in
    let now = c.mount_slots.new.stock in
    record {
      counted = c.requires.table ∙ ap (λ n. sector_count n) (sym (c.mount_slots.ensures.same_size ∙ ap (λ s. length s.memory) c.new-stock.ensures.same));
      standing = subst (λ z. IsServing z now.slots now.indexed) (sym items)
          (served-after c.mount_slots.new.table c.new-stock.result.slots now.slots now.indexed (c.in-Ok-true.ensures.sound (cc c.in-Ok-true.is)) c.in-Ok-true.ensures.ends
          (subst (λ s. IsNorReady s) (sym c.new-stock.ensures.same) c.requires.ready) (c.in-Ok-true.ensures.indexed (cc c.in-Ok-true.is)));
      since = begun-since _ _ _ c.args.firmness c.new-stock.result.slots now.slots (λ is. subst (λ s. FillsFirmly g.P.Provenance.cuts g.P.Provenance.slows c.args.firmness s) (sym c.new-stock.ensures.same) (c.requires.firmly is)) c.in-Ok-true.ensures.ends.kept;
      firm = begun-firm _ _ _ c.args.firmness c.new-stock.result.slots now.slots now.blocks.items (λ is. subst (λ s. FillsFirmly g.P.Provenance.cuts g.P.Provenance.slows c.args.firmness s) (sym c.new-stock.ensures.same) (c.requires.firmly is))
          (λ is chip. c.in-Ok-true.ensures.disk is chip (cc c.in-Ok-true.is));
    }

pub returns-in-Ok-true-clause-ok : goal.returns-in-Ok-true-clause-ok
returns-in-Ok-true-clause-ok g c =
    subst (λ z. Filled z (shown_with None c.mount_slots.new.stock.slots)) c.new-stock.ensures.same
    (filled c.mount_slots.new.table c.new-stock.result.slots c.mount_slots.new.stock.slots (c.in-Ok-true.ensures.sound (cc c.in-Ok-true.is)) c.in-Ok-true.ensures.ends)

pub returns-in-Err-Cut-clause-fails : goal.returns-in-Err-Cut-clause-fails
returns-in-Err-Cut-clause-fails g c =
    let healthy = subst (λ s. IsHealthy s.memory) (sym c.new-stock.ensures.same) c.requires.healthy in
    let is = c.in-Err-Cut.is ∙ ap Err c.in-Err-Cut.field-0-is in
    subst (λ z. FillCut z (g.N.Nor.state c.uncover-in-Err-Cut.result)) c.new-stock.ensures.same
    (fill-cut c.new-stock.result.slots c.mount_slots.new.stock.slots (g.N.Nor.state c.uncover-in-Err-Cut.result) (c.mount_slots.ensures.cut is healthy) (c.mount_slots.ensures.healthy is healthy)
    (subst (λ e. Refuses e c.new-stock.result.slots c.mount_slots.new.stock.slots) c.in-Err-Cut.field-0-is c.in-Err-Cut.ensures.ends) (subst (λ s. IsNorReady s) (sym c.new-stock.ensures.same) c.requires.ready) c.uncover-in-Err-Cut.ensures)

pub returns-in-Ok-true-clause-journals : goal.returns-in-Ok-true-clause-journals
returns-in-Ok-true-clause-journals g c firmly unmarked h =
    let e = sym c.new-stock.ensures.same in
    c.in-Ok-true.ensures.journals firmly (subst (λ (s : NorState). is_unmarked s.memory ≡ false) e unmarked) (subst (λ (s : NorState). AreRecoveredJournals (bits_in s)) e h) (cc c.in-Ok-true.is)

pub returns-in-Ok-true-clause-store : goal.returns-in-Ok-true-clause-store
returns-in-Ok-true-clause-store g c firmly unmarked h =
    let e = sym c.new-stock.ensures.same in
    c.in-Ok-true.ensures.store firmly (subst (λ (s : NorState). is_unmarked s.memory ≡ false) e unmarked) (subst (λ (s : NorState). IsHalfStore (bits_in s)) e h) (cc c.in-Ok-true.is)

pub returns-in-Ok-true-clause-settled : goal.returns-in-Ok-true-clause-settled
returns-in-Ok-true-clause-settled g c =
    let now = c.mount_slots.new.stock in
    let served = served-after c.mount_slots.new.table c.new-stock.result.slots now.slots now.indexed (c.in-Ok-true.ensures.sound (cc c.in-Ok-true.is)) c.in-Ok-true.ensures.ends
    (subst (λ s. IsNorReady s) (sym c.new-stock.ensures.same) c.requires.ready) (c.in-Ok-true.ensures.indexed (cc c.in-Ok-true.is)) in
    record { journals = served.settled; blocks = served.blocks; single = single-tabled c.mount_slots.new.table now.slots.memory served.tabled }
