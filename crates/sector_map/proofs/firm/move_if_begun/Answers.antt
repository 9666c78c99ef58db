use Rattle.std.proofs.Common.{◌∙◌, ap, length, sym, subst}
use Rattle.std.proofs.lemmas.Result.{err_from_is_err_and}
use Rattle.chip_model.specs.Geometry.{sector_count}
use Rattle.erase_journal.specs.Journals.{IsHealthy}
use Rattle.erase_journal.proofs.SettledLaws.{settled-healthy, settled-after}
use Rattle.erase_journal.proofs.Firmly.{refuses-firmly}
use Rattle.sector_slots.specs.Blocks.{AreSettled}
use Rattle.erase_journal.specs.Steps.{RefusesFirmly}
use Rattle.nor_driver.proofs.CallLaws.{fails-as}
use Rattle.erase_journal.specs.Steps.{SucceedsSettled}
use Rattle.sector_map.proofs.Mending.{mends-same}
use Rattle.sector_map.proofs.Moving.{begun-at, begun-copyable, afresh-cut, afresh-mends, afresh-moved, afresh-number, afresh-repairs, still-repairs}
use Rattle.nor_driver.specs.State.{bits_in}
use Rattle.nor_layout.specs.Kinds.{is_group}
use Rattle.sector_slots.specs.Slots.{data_blocks, kind_at, IsSpareIn}
use Rattle.sector_stock.specs.Copy.{OthersStay}
use Rattle.sector_slots.specs.Weak.{block_place}
use Rattle.erase_journal.proofs.WeakLaws.{are-firm-stays}
use Rattle.sector_map.proofs.MountFirmly.{still-moves, afresh-moves}
use Rattle.std.proofs.Common.{false, ◌≡◌, ◌<◌, List, ℕ}
use Rattle.sector_map.proofs.firm.move_if_begun.Goals as goal

pub returns-in_err-begun-clause-cut : goal.returns-in_err-begun-clause-cut
returns-in_err-begun-clause-cut g c is healthy = mends-same (g.S.SlotCalls.state c.args.stock.now).memory (g.S.SlotCalls.state c.has_begun.new.self).memory c.has_begun.ensures.same

pub returns-in_err-begun-clause-healthy : goal.returns-in_err-begun-clause-healthy
returns-in_err-begun-clause-healthy g c is healthy = subst (λ z. IsHealthy z) (sym c.has_begun.ensures.same) healthy

pub returns-then-not-begun-clause-ok : goal.returns-then-not-begun-clause-ok
returns-then-not-begun-clause-ok g c = still-repairs c.args.table.now (g.S.SlotCalls.state c.args.stock.now).memory (g.S.SlotCalls.state c.has_begun.new.self).memory c.requires.mended c.has_begun.ensures.same

pub lowest_spare-requires : goal.lowest_spare-requires
lowest_spare-requires g c = record { blocks = subst (λ z. AreSettled z) (sym c.has_begun.ensures.same) c.requires.mended.blocks }

pub returns-in_err-target-clause-cut : goal.returns-in_err-target-clause-cut
returns-in_err-target-clause-cut g c is healthy = mends-same (g.S.SlotCalls.state c.args.stock.now).memory (g.S.SlotCalls.state c.lowest_spare.new.slots).memory (c.lowest_spare.ensures.same ∙ c.has_begun.ensures.same)

pub returns-in_err-target-clause-healthy : goal.returns-in_err-target-clause-healthy
returns-in_err-target-clause-healthy g c is healthy = subst (λ z. IsHealthy z) (sym (c.lowest_spare.ensures.same ∙ c.has_begun.ensures.same)) healthy

pub move_afresh-requires-clause-source : goal.move_afresh-requires-clause-source
move_afresh-requires-clause-source g c = (begun-at c.args.table.now c.args.block c.in_ok-target.target (g.S.SlotCalls.state c.args.stock.now).memory (g.S.SlotCalls.state c.has_begun.new.self).memory (g.S.SlotCalls.state c.lowest_spare.new.slots).memory c.requires.mended c.requires.number (c.in_ok-begun.ensures.begun c.if-not-begun.false) c.has_begun.ensures.same c.in_ok-target.ensures.spare c.lowest_spare.ensures.same).number

pub move_afresh-requires-clause-target : goal.move_afresh-requires-clause-target
move_afresh-requires-clause-target g c = (begun-at c.args.table.now c.args.block c.in_ok-target.target (g.S.SlotCalls.state c.args.stock.now).memory (g.S.SlotCalls.state c.has_begun.new.self).memory (g.S.SlotCalls.state c.lowest_spare.new.slots).memory c.requires.mended c.requires.number (c.in_ok-begun.ensures.begun c.if-not-begun.false) c.has_begun.ensures.same c.in_ok-target.ensures.spare c.lowest_spare.ensures.same).spare.number

pub move_afresh-requires-clause-copyable : goal.move_afresh-requires-clause-copyable
move_afresh-requires-clause-copyable g c ready = begun-copyable c.args.table.now c.args.block c.in_ok-target.target (g.S.SlotCalls.state c.lowest_spare.new.slots).memory (begun-at c.args.table.now c.args.block c.in_ok-target.target (g.S.SlotCalls.state c.args.stock.now).memory (g.S.SlotCalls.state c.has_begun.new.self).memory (g.S.SlotCalls.state c.lowest_spare.new.slots).memory c.requires.mended c.requires.number (c.in_ok-begun.ensures.begun c.if-not-begun.false) c.has_begun.ensures.same c.in_ok-target.ensures.spare c.lowest_spare.ensures.same)

pub returns-in_err-move_afresh-clause-cut : goal.returns-in_err-move_afresh-clause-cut
returns-in_err-move_afresh-clause-cut g c is healthy =
    let p = err_from_is_err_and c.from_residual-in_err-move_afresh.result c.from_residual-in_err-move_afresh.ensures.1 in
    afresh-cut c.args.table.now c.args.block c.in_ok-target.target (g.S.SlotCalls.state c.args.stock.now).memory (g.S.SlotCalls.state c.lowest_spare.new.slots).memory (g.S.SlotCalls.state c.move_afresh.new.slots).memory (c.lowest_spare.ensures.same ∙ c.has_begun.ensures.same) (begun-at c.args.table.now c.args.block c.in_ok-target.target (g.S.SlotCalls.state c.args.stock.now).memory (g.S.SlotCalls.state c.has_begun.new.self).memory (g.S.SlotCalls.state c.lowest_spare.new.slots).memory c.requires.mended c.requires.number (c.in_ok-begun.ensures.begun c.if-not-begun.false) c.has_begun.ensures.same c.in_ok-target.ensures.spare c.lowest_spare.ensures.same) healthy (c.in_err-move_afresh.ensures.cut (cc (p.1, p.2)))

pub returns-in_err-move_afresh-clause-healthy : goal.returns-in_err-move_afresh-clause-healthy
returns-in_err-move_afresh-clause-healthy g c is healthy =
    let p = err_from_is_err_and c.from_residual-in_err-move_afresh.result c.from_residual-in_err-move_afresh.ensures.1 in
    c.in_err-move_afresh.ensures.healthy (cc (p.1, p.2)) (subst (λ z. IsHealthy z) (sym (c.lowest_spare.ensures.same ∙ c.has_begun.ensures.same)) healthy)

pub follow_block-requires-clause-number : goal.follow_block-requires-clause-number
follow_block-requires-clause-number g c = afresh-number (g.S.SlotCalls.state c.lowest_spare.new.slots).memory (g.S.SlotCalls.state c.move_afresh.new.slots).memory c.in_ok-target.target (afresh-moved c.args.table.now c.args.block c.in_ok-target.target (g.S.SlotCalls.state c.lowest_spare.new.slots).memory (g.S.SlotCalls.state c.move_afresh.new.slots).memory (begun-at c.args.table.now c.args.block c.in_ok-target.target (g.S.SlotCalls.state c.args.stock.now).memory (g.S.SlotCalls.state c.has_begun.new.self).memory (g.S.SlotCalls.state c.lowest_spare.new.slots).memory c.requires.mended c.requires.number (c.in_ok-begun.ensures.begun c.if-not-begun.false) c.has_begun.ensures.same c.in_ok-target.ensures.spare c.lowest_spare.ensures.same) c.in_ok-move_afresh.ensures.ok) (begun-at c.args.table.now c.args.block c.in_ok-target.target (g.S.SlotCalls.state c.args.stock.now).memory (g.S.SlotCalls.state c.has_begun.new.self).memory (g.S.SlotCalls.state c.lowest_spare.new.slots).memory c.requires.mended c.requires.number (c.in_ok-begun.ensures.begun c.if-not-begun.false) c.has_begun.ensures.same c.in_ok-target.ensures.spare c.lowest_spare.ensures.same).spare

pub follow_block-requires-clause-size : goal.follow_block-requires-clause-size
follow_block-requires-clause-size g c = let h = afresh-moved c.args.table.now c.args.block c.in_ok-target.target (g.S.SlotCalls.state c.lowest_spare.new.slots).memory (g.S.SlotCalls.state c.move_afresh.new.slots).memory (begun-at c.args.table.now c.args.block c.in_ok-target.target (g.S.SlotCalls.state c.args.stock.now).memory (g.S.SlotCalls.state c.has_begun.new.self).memory (g.S.SlotCalls.state c.lowest_spare.new.slots).memory c.requires.mended c.requires.number (c.in_ok-begun.ensures.begun c.if-not-begun.false) c.has_begun.ensures.same c.in_ok-target.ensures.spare c.lowest_spare.ensures.same) c.in_ok-move_afresh.ensures.ok in (begun-at c.args.table.now c.args.block c.in_ok-target.target (g.S.SlotCalls.state c.args.stock.now).memory (g.S.SlotCalls.state c.has_begun.new.self).memory (g.S.SlotCalls.state c.lowest_spare.new.slots).memory c.requires.mended c.requires.number (c.in_ok-begun.ensures.begun c.if-not-begun.false) c.has_begun.ensures.same c.in_ok-target.ensures.spare c.lowest_spare.ensures.same).mended.tabled.size ∙ ap (λ n. sector_count n) (sym h.chip.same_length)

pub follow_block-requires-clause-sound : goal.follow_block-requires-clause-sound
follow_block-requires-clause-sound g c = (afresh-moved c.args.table.now c.args.block c.in_ok-target.target (g.S.SlotCalls.state c.lowest_spare.new.slots).memory (g.S.SlotCalls.state c.move_afresh.new.slots).memory (begun-at c.args.table.now c.args.block c.in_ok-target.target (g.S.SlotCalls.state c.args.stock.now).memory (g.S.SlotCalls.state c.has_begun.new.self).memory (g.S.SlotCalls.state c.lowest_spare.new.slots).memory c.requires.mended c.requires.number (c.in_ok-begun.ensures.begun c.if-not-begun.false) c.has_begun.ensures.same c.in_ok-target.ensures.spare c.lowest_spare.ensures.same) c.in_ok-move_afresh.ensures.ok).sound

pub follow_block-requires-clause-single : goal.follow_block-requires-clause-single
follow_block-requires-clause-single g c = (afresh-moved c.args.table.now c.args.block c.in_ok-target.target (g.S.SlotCalls.state c.lowest_spare.new.slots).memory (g.S.SlotCalls.state c.move_afresh.new.slots).memory (begun-at c.args.table.now c.args.block c.in_ok-target.target (g.S.SlotCalls.state c.args.stock.now).memory (g.S.SlotCalls.state c.has_begun.new.self).memory (g.S.SlotCalls.state c.lowest_spare.new.slots).memory c.requires.mended c.requires.number (c.in_ok-begun.ensures.begun c.if-not-begun.false) c.has_begun.ensures.same c.in_ok-target.ensures.spare c.lowest_spare.ensures.same) c.in_ok-move_afresh.ensures.ok).single

pub follow_block-requires-clause-blocks : goal.follow_block-requires-clause-blocks
follow_block-requires-clause-blocks g c = (afresh-moved c.args.table.now c.args.block c.in_ok-target.target (g.S.SlotCalls.state c.lowest_spare.new.slots).memory (g.S.SlotCalls.state c.move_afresh.new.slots).memory (begun-at c.args.table.now c.args.block c.in_ok-target.target (g.S.SlotCalls.state c.args.stock.now).memory (g.S.SlotCalls.state c.has_begun.new.self).memory (g.S.SlotCalls.state c.lowest_spare.new.slots).memory c.requires.mended c.requires.number (c.in_ok-begun.ensures.begun c.if-not-begun.false) c.has_begun.ensures.same c.in_ok-target.ensures.spare c.lowest_spare.ensures.same) c.in_ok-move_afresh.ensures.ok).blocks

pub returns-in_err-follow_block-clause-cut : goal.returns-in_err-follow_block-clause-cut
returns-in_err-follow_block-clause-cut g c is healthy =
    afresh-mends c.args.table.now c.args.block c.in_ok-target.target (g.S.SlotCalls.state c.args.stock.now).memory (g.S.SlotCalls.state c.lowest_spare.new.slots).memory (g.S.SlotCalls.state c.move_afresh.new.slots).memory (g.S.SlotCalls.state c.follow_block.new.slots).memory (c.lowest_spare.ensures.same ∙ c.has_begun.ensures.same) (begun-at c.args.table.now c.args.block c.in_ok-target.target (g.S.SlotCalls.state c.args.stock.now).memory (g.S.SlotCalls.state c.has_begun.new.self).memory (g.S.SlotCalls.state c.lowest_spare.new.slots).memory c.requires.mended c.requires.number (c.in_ok-begun.ensures.begun c.if-not-begun.false) c.has_begun.ensures.same c.in_ok-target.ensures.spare c.lowest_spare.ensures.same) c.in_ok-move_afresh.ensures.ok c.follow_block.ensures.same

pub returns-in_err-follow_block-clause-healthy : goal.returns-in_err-follow_block-clause-healthy
returns-in_err-follow_block-clause-healthy g c is healthy = subst (λ z. IsHealthy z) (sym c.follow_block.ensures.same) (settled-healthy (g.S.SlotCalls.state c.move_afresh.new.slots).memory c.in_ok-move_afresh.ensures.ends.settled)

pub returns-clause-ok : goal.returns-clause-ok
returns-clause-ok g c =
    afresh-repairs c.args.table.now c.follow_block.new.table c.args.block c.in_ok-target.target (g.S.SlotCalls.state c.args.stock.now).memory (g.S.SlotCalls.state c.lowest_spare.new.slots).memory (g.S.SlotCalls.state c.move_afresh.new.slots).memory (g.S.SlotCalls.state c.follow_block.new.slots).memory (c.lowest_spare.ensures.same ∙ c.has_begun.ensures.same) (begun-at c.args.table.now c.args.block c.in_ok-target.target (g.S.SlotCalls.state c.args.stock.now).memory (g.S.SlotCalls.state c.has_begun.new.self).memory (g.S.SlotCalls.state c.lowest_spare.new.slots).memory c.requires.mended c.requires.number (c.in_ok-begun.ensures.begun c.if-not-begun.false) c.has_begun.ensures.same c.in_ok-target.ensures.spare c.lowest_spare.ensures.same) c.in_ok-move_afresh.ensures.ok c.follow_block.ensures.same c.in_ok-follow_block.ensures.ok

pub returns-in_err-target-clause-ends : goal.returns-in_err-target-clause-ends
returns-in_err-target-clause-ends g c =
    let s0 = g.S.SlotCalls.state c.args.stock.now in
    let s1 = g.S.SlotCalls.state c.has_begun.new.self in
    let s2 = g.S.SlotCalls.state c.lowest_spare.new.slots in
    fails-as c.from_residual-in_err-target.result _ (λ _. SucceedsSettled s0 s2) (λ e. RefusesFirmly e s0 s2) c.from_residual-in_err-target.ensures.1
    (refuses-firmly _ s0 s1 s2 c.in_ok-begun.ensures.ends c.in_err-target.ensures.ends)

pub returns-in_err-move_afresh-clause-ends : goal.returns-in_err-move_afresh-clause-ends
returns-in_err-move_afresh-clause-ends g c =
    let s0 = g.S.SlotCalls.state c.args.stock.now in
    let s1 = g.S.SlotCalls.state c.has_begun.new.self in
    let s2 = g.S.SlotCalls.state c.lowest_spare.new.slots in
    let s3 = g.S.SlotCalls.state c.move_afresh.new.slots in
    fails-as c.from_residual-in_err-move_afresh.result _ (λ _. SucceedsSettled s0 s3) (λ e. RefusesFirmly e s0 s3) c.from_residual-in_err-move_afresh.ensures.1
    (refuses-firmly _ s0 s2 s3 (settled-after s0 s1 s2 c.in_ok-begun.ensures.ends c.in_ok-target.ensures.ends) c.in_err-move_afresh.ensures.ends)

pub returns-in_err-follow_block-clause-ends : goal.returns-in_err-follow_block-clause-ends
returns-in_err-follow_block-clause-ends g c =
    let s0 = g.S.SlotCalls.state c.args.stock.now in
    let s1 = g.S.SlotCalls.state c.has_begun.new.self in
    let s2 = g.S.SlotCalls.state c.lowest_spare.new.slots in
    let s3 = g.S.SlotCalls.state c.move_afresh.new.slots in
    let s4 = g.S.SlotCalls.state c.follow_block.new.slots in
    fails-as c.from_residual-in_err-follow_block.result _ (λ _. SucceedsSettled s0 s4) (λ e. RefusesFirmly e s0 s4) c.from_residual-in_err-follow_block.ensures.1
    (refuses-firmly _ s0 s3 s4 (settled-after s0 s2 s3 (settled-after s0 s1 s2 c.in_ok-begun.ensures.ends c.in_ok-target.ensures.ends) c.in_ok-move_afresh.ensures.ends) c.in_err-follow_block.ensures.ends)

pub returns-clause-ends : goal.returns-clause-ends
returns-clause-ends g c =
    let s0 = g.S.SlotCalls.state c.args.stock.now in
    let s1 = g.S.SlotCalls.state c.has_begun.new.self in
    let s2 = g.S.SlotCalls.state c.lowest_spare.new.slots in
    let s3 = g.S.SlotCalls.state c.move_afresh.new.slots in
    let s4 = g.S.SlotCalls.state c.follow_block.new.slots in
    settled-after s0 s3 s4 (settled-after s0 s2 s3 (settled-after s0 s1 s2 c.in_ok-begun.ensures.ends c.in_ok-target.ensures.ends) c.in_ok-move_afresh.ensures.ends) c.in_ok-follow_block.ensures.ends

pub returns-then-not-begun-clause-moves : goal.returns-then-not-begun-clause-moves
returns-then-not-begun-clause-moves g c =
    still-moves (g.S.SlotCalls.state c.args.stock.now) (g.S.SlotCalls.state c.has_begun.new.self) c.args.block c.in_ok-begun.ensures.ends.kept.bits c.has_begun.ensures.same (c.in_ok-begun.ensures.not_begun c.if-not-begun.true)

pub returns-clause-moves : goal.returns-clause-moves
returns-clause-moves g c =
    let s0 = g.S.SlotCalls.state c.args.stock.now in
    let s1 = g.S.SlotCalls.state c.has_begun.new.self in
    let s2 = g.S.SlotCalls.state c.lowest_spare.new.slots in
    let s3 = g.S.SlotCalls.state c.move_afresh.new.slots in
    let s4 = g.S.SlotCalls.state c.follow_block.new.slots in
    let s = c.args.block in
    let t = c.in_ok-target.target in
    let at = begun-at c.args.table.now s t s0.memory s1.memory s2.memory c.requires.mended c.requires.number (c.in_ok-begun.ensures.begun c.if-not-begun.false) c.has_begun.ensures.same c.in_ok-target.ensures.spare c.lowest_spare.ensures.same in
    let able = begun-copyable c.args.table.now s t s2.memory at in
    let e = c.in_ok-move_afresh.ensures in
    let copied = (e.ok able).copies.slots in
    let all = settled-after s0 s3 s4 (settled-after s0 s2 s3 (settled-after s0 s1 s2 c.in_ok-begun.ensures.ends c.in_ok-target.ensures.ends) e.ends) c.in_ok-follow_block.ensures.ends in
    let last = c.in_ok-follow_block.ensures.ends.kept.bits in
    let same : s4.memory ≡ s3.memory = c.follow_block.ensures.same in
    let first : s2.memory ≡ s0.memory = c.lowest_spare.ensures.same ∙ c.has_begun.ensures.same in
    afresh-moves s0 s4 s t all.kept.bits (ap (λ m. length m) same ∙ (copied.same_length ∙ ap (λ m. length m) first)) (subst (λ (z : List ℕ). OthersStay s t z s4.memory) first (subst (λ (z : List ℕ). OthersStay s t s2.memory z) (sym same) (e.others able)))
    (are-firm-stays (bits_in s3) (bits_in s4) (block_place s) 4096 last e.firm) (are-firm-stays (bits_in s3) (bits_in s4) (block_place t) 4096 last e.target)
    (subst (λ (z : List ℕ). IsSpareIn z s) (sym same) copied.erased) (subst (λ (z : List ℕ). s < data_blocks z) (sym same) (let n = copied.same_length in rw n at.number)) (subst (λ (z : List ℕ). is_group (kind_at z t) ≡ false) (sym same) (ap is_group copied.settled))
