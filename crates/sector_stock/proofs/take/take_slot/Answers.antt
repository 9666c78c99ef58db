use Rattle.std.proofs.Common.{◌≡◌, refl, ◌∙◌, sym, subst, length, arith}
use Rattle.sector_stock.proofs.Even.{may-within}
use Rattle.std.specs.Prelude.{IfSome}
use Rattle.sector_slots.specs.Blocks.{IsReserveOf}
use Rattle.sector_stock.proofs.RoomLaws.{never-full}
use Rattle.sector_stock.specs.Takes.{was_copied, HasFewerBelow}
use Rattle.sector_stock.proofs.Moved.{none-dead-in, index-dead}
use Rattle.sector_slots.specs.Slots.{data_blocks}
use Rattle.sector_stock.specs.Takes.{CopiesLeastWorn, IsErasedOnce, FillsUp}
use Rattle.sector_stock.specs.Index.{erases_of}
use Rattle.sector_stock.proofs.Worn.{counted-moved, copies-least}
use Rattle.sector_stock.specs.Room.{HasNoneFree}
use Rattle.sector_stock.proofs.FirmCopies.{copied-trusted}
use Rattle.nor_driver.specs.State.{bits_in}
use Rattle.sector_stock.proofs.TakeLosses.{spare-copied, spare-given}
use Rattle.std.proofs.lemmas.Result.{err_from_is_err_and}
use Rattle.erase_journal.proofs.SettledLaws.{settled-healthy}
use Rattle.sector_stock.proofs.take.take_slot.Goals as goal

pub unreachable-requires : goal.unreachable-requires
unreachable-requires g c =
    let m = (g.S.SlotCalls.state c.args.slots.now).memory in
    never-full c.args.at.now.reserve m c.requires.sized c.requires.room c.requires.index.reserve (c.in_default.ensures.found m c.requires.index)
    (none-dead-in m c.args.states.now c.args.blocks.now c.args.at.now c.requires.index c.in_default-most_dead.ensures.found)

pub unreachable-requires-in_default-free_slot : goal.unreachable-requires-in_default-free_slot
unreachable-requires-in_default-free_slot g c =
    c.in_ok-copied.ensures.free (c.in_default-free_slot.ensures.found (g.S.SlotCalls.state c.copy_most.new.slots).memory c.in_ok-copied.ensures.index)

pub returns-clause-ok : goal.returns-clause-ok
returns-clause-ok g c =
    let m = (g.S.SlotCalls.state c.args.slots.now).memory in
    was_copied c.in_ok-copied.copied refl (record { reserve = c.args.at.now.reserve; is_spare = c.requires.index.reserve; none = c.in_default.ensures.found m c.requires.index }) c.in_ok-copied.ensures.ok
    (c.in-Some-free_slot.ensures.found (g.S.SlotCalls.state c.copy_most.new.slots).memory c.in_ok-copied.ensures.index)

pub returns-clause-lowest : goal.returns-clause-lowest
returns-clause-lowest g c by = c.in-Some-free_slot.ensures.lowest (c.in_ok-copied.ensures.policy ∙ (c.most_dead.ensures.policy ∙ (c.in_default.ensures.policy ∙ by))) (g.S.SlotCalls.state c.copy_most.new.slots).memory c.in_ok-copied.ensures.index

pub returns-clause-numbers : goal.returns-clause-numbers
returns-clause-numbers g c by d e =
    let m = (g.S.SlotCalls.state c.args.slots.now).memory in
    let first = c.in_default.ensures.policy ∙ by in
    subst (λ o. IfSome o (λ x. HasFewerBelow x.source m × IsReserveOf x.target m)) e
    (c.in_ok-copied.ensures.numbers (c.most_dead.ensures.policy ∙ first) (c.in-Some-most_dead.ensures.lowest first))

pub returns-clause-worn : goal.returns-clause-worn
returns-clause-worn g c by d e =
    let m = (g.S.SlotCalls.state c.args.slots.now).memory in
    let q : d ≡ c.in_ok-copied.copied = cc in
    let n = c.requires.index.listed.block_size in
    let low = c.in-Some-most_dead.ensures.found.0 in
    let done = c.in_ok-copied.ensures in
    let first = c.in_default.ensures.policy ∙ by in
    subst (λ k. CopiesLeastWorn (erases_of c.args.blocks.now) c.args.at.now.reserve c.free_slot-2.new.at.reserve k m) (sym q)
    (copies-least c.in-Some-most_dead.source c.args.at.now.reserve c.free_slot-2.new.at.reserve c.in_ok-copied.copied m c.args.states.now c.args.blocks.now c.requires.index.listed (omega (arith, low, n)) (c.in-Some-most_dead.ensures.level first)
    done.target.0 (done.target.1 ∙ (c.most_dead.ensures.reserve ∙ c.in_default.ensures.reserve)) (c.in-Some-free_slot.ensures.reserve ∙ done.next (c.most_dead.ensures.policy ∙ first)))

pub returns-clause-counted : goal.returns-clause-counted
returns-clause-counted g c =
    let m = (g.S.SlotCalls.state c.args.slots.now).memory in
    let done = c.in_ok-copied.ensures in
    subst (λ k. IsErasedOnce (data_blocks m) k (erases_of c.args.blocks.now) (erases_of c.copy_most.new.blocks)) (sym done.target.0)
    (counted-moved c.in-Some-most_dead.source c.most_dead.new.at.reserve m c.args.states.now c.args.blocks.now c.copy_most.new.blocks c.requires.index.listed done.fits done.blocks)

pub returns-clause-fills : goal.returns-clause-fills
returns-clause-fills g c by =
    let m = (g.S.SlotCalls.state c.args.slots.now).memory in
    let m1 = (g.S.SlotCalls.state c.copy_most.new.slots).memory in
    let done = c.in_ok-copied.ensures in
    let first = c.in_default.ensures.policy ∙ by in
    let newest = done.newest ∙ (c.most_dead.ensures.newest ∙ c.in_default.ensures.newest m c.requires.index refl) in
    subst (λ n. FillsUp n c.free_slot-2.new.at.reserve (erases_of c.copy_most.new.blocks) c.in-Some-free_slot.slot m1) newest
    (subst (λ r. FillsUp c.copy_most.new.at.newest r (erases_of c.copy_most.new.blocks) c.in-Some-free_slot.slot m1) (sym c.in-Some-free_slot.ensures.reserve)
    (c.in-Some-free_slot.ensures.fills (done.policy ∙ (c.most_dead.ensures.policy ∙ first)) m1 done.index))

pub copy_most-requires-clause-may : goal.copy_most-requires-clause-may
copy_most-requires-clause-may g c by =
    may-within c.in-Some-most_dead.source (length c.args.blocks.now) (erases_of c.args.blocks.now) c.in-Some-most_dead.ensures.found.0 (c.requires.even (sym (c.most_dead.ensures.policy ∙ c.in_default.ensures.policy) ∙ by))

pub returns-clause-index : goal.returns-clause-index
returns-clause-index g c =
    index-dead (g.S.SlotCalls.state c.copy_most.new.slots).memory c.copy_most.new.states c.copy_most.new.blocks c.copy_most.new.at c.free_slot-2.new.at c.in-Some-free_slot.ensures.ahead c.in-Some-free_slot.ensures.reserve c.in-Some-free_slot.ensures.policy c.in_ok-copied.ensures.index

pub returns-clause-trusted : goal.returns-clause-trusted
returns-clause-trusted g c trusted =
    let m = (g.S.SlotCalls.state c.args.slots.now).memory in
    let m1 = (g.S.SlotCalls.state c.copy_most.new.slots).memory in
    let done = c.in_ok-copied.ensures in
    let none = subst (λ r. HasNoneFree r m) (sym (c.most_dead.ensures.reserve ∙ c.in_default.ensures.reserve)) (c.in_default.ensures.found m c.requires.index) in
    copied-trusted c.in-Some-most_dead.source c.most_dead.new.at.reserve c.in-Some-free_slot.slot m m1 c.args.states.now c.copy_most.new.states c.args.blocks.now c.copy_most.new.blocks c.args.at.now c.copy_most.new.at c.requires.index done.index done.blocks
    none (c.in-Some-free_slot.ensures.found m1 done.index)

pub returns-clause-spare : goal.returns-clause-spare
returns-clause-spare g c given trusts h =
    let m = (g.S.SlotCalls.state c.args.slots.now).memory in
    let s1 = g.S.SlotCalls.state c.copy_most.new.slots in
    let done = c.in_ok-copied.ensures in
    let none = subst (λ r. HasNoneFree r m) (sym (c.most_dead.ensures.reserve ∙ c.in_default.ensures.reserve)) (c.in_default.ensures.found m c.requires.index) in
    spare-copied c.in-Some-most_dead.source c.most_dead.new.at.reserve c.in-Some-free_slot.slot m (bits_in s1) c.args.states.now c.copy_most.new.states c.args.blocks.now c.copy_most.new.blocks c.args.at.now c.copy_most.new.at c.requires.room.blocks.rest done.ok.shifts.blocks.rest
    c.requires.index done.index done.blocks none (c.in-Some-free_slot.ensures.found s1.memory done.index) (done.disk h)

pub returns-in_err-copied-clause-cut : goal.returns-in_err-copied-clause-cut
returns-in_err-copied-clause-cut g c is =
    let p = err_from_is_err_and c.from_residual.result c.from_residual.ensures.1 in
    c.in_err-copied.ensures.cut (cc (p.1, p.2)) (settled-healthy (g.S.SlotCalls.state c.args.slots.now).memory c.requires.settled)

pub copy_most-requires-clause-index : goal.copy_most-requires-clause-index
copy_most-requires-clause-index g c =
    index-dead (g.S.SlotCalls.state c.args.slots.now).memory c.args.states.now c.args.blocks.now c.args.at.now c.most_dead.new.at c.most_dead.ensures.ahead (c.most_dead.ensures.reserve ∙ c.in_default.ensures.reserve) (c.most_dead.ensures.policy ∙ c.in_default.ensures.policy) c.requires.index

pub returns-clause-first : goal.returns-clause-first
returns-clause-first g c = c.in-Some-free_slot.ensures.first (g.S.SlotCalls.state c.copy_most.new.slots).memory c.in_ok-copied.ensures.index

pub returns-in-Some-clause-spare : goal.returns-in-Some-clause-spare
returns-in-Some-clause-spare g c given trusts h =
    let b = bits_in (g.S.SlotCalls.state c.args.slots.now) in
    let said = c.in-Some.ensures in
    spare-given c.in-Some.slot b c.args.states.now c.args.blocks.now c.args.at.now c.requires.room.blocks.rest c.requires.index said.number
    (λ by. said.lowest by b.shown c.requires.index) (λ by. said.fills by b.shown c.requires.index) trusts h
