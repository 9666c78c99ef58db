use Rattle.std.specs.Prelude.{◌⊎◌, IfSome}
use Rattle.std.proofs.Common.{◌≡◌, ◌∙◌, None, Some, inl, inr, ap, sym, subst, length, arith}
use Rattle.std.proofs.lemmas.Result.{IfOk-weaker, err_from_is_err_and}
use Rattle.erase_journal.proofs.SettledLaws.{settled-healthy}
use Rattle.sector_stock.proofs.Moved.{none-dead-in, index-dead, filled}
use Rattle.sector_stock.specs.Room.{HasNoneDead}
use Rattle.sector_stock.specs.Takes.{HasNoGroups, HasMostDead, HasFewerBelow, TidiesStock}
use Rattle.sector_stock.specs.declared.given.Copied.{Copied}
use Rattle.sector_slots.specs.Slots.{data_blocks}
use Rattle.sector_stock.specs.Takes.{CopiesLeastWorn, IsErasedOnce}
use Rattle.sector_stock.specs.Index.{erases_of}
use Rattle.sector_stock.proofs.Even.{may-within}
use Rattle.sector_stock.proofs.Worn.{counted-moved, copies-least}
use Rattle.sector_stock.proofs.take.tidy_block.Goals as goal

pub convert_lowest-requires-clause-none : goal.convert_lowest-requires-clause-none
convert_lowest-requires-clause-none g c = none-dead-in (g.S.SlotCalls.state c.args.slots.now).memory c.args.states.now c.args.blocks.now c.args.at.now c.requires.index c.in-None.ensures.found

pub returns-in-None-clause-none : goal.returns-in-None-clause-none
returns-in-None-clause-none g c =
    let m = (g.S.SlotCalls.state c.args.slots.now).memory in
    let m1 = (g.S.SlotCalls.state c.convert_lowest.new.slots).memory in
    let dead = none-dead-in m c.args.states.now c.args.blocks.now c.args.at.now c.requires.index c.in-None.ensures.found in
    IfOk-weaker c.convert_lowest.result (λ copied. copied ≡ None → HasNoGroups m × (m1 ≡ m)) (λ copied. copied ≡ None → HasNoneDead m × HasNoGroups m × (m1 ≡ m))
    (λ copied h e. let q = h e in (dead, q.0, q.1)) c.convert_lowest.ensures.none

pub returns-in-None-clause-most : goal.returns-in-None-clause-most
returns-in-None-clause-most g c =
    let m = (g.S.SlotCalls.state c.args.slots.now).memory in
    let m1 = (g.S.SlotCalls.state c.convert_lowest.new.slots).memory in
    let dead = none-dead-in m c.args.states.now c.args.blocks.now c.args.at.now c.requires.index c.in-None.ensures.found in
    IfOk-weaker c.convert_lowest.result (λ copied. (d : Copied) → copied ≡ Some d → TidiesStock d.source d.target m m1) (λ copied. (d : Copied) → copied ≡ Some d → HasNoneDead m ⊎ HasMostDead d.source m)
    (λ copied h d e. inl dead) c.convert_lowest.ensures.copied

pub returns-in_ok-copied-in-Some-clause-lowest : goal.returns-in_ok-copied-in-Some-clause-lowest
returns-in_ok-copied-in-Some-clause-lowest g c by d e =
    let m = (g.S.SlotCalls.state c.args.slots.now).memory in
    inr (subst (λ o. IfSome o (λ x. HasFewerBelow x.source m)) e
    (c.in_ok-copied-in-Some.ensures.numbers (c.most_dead.ensures.policy ∙ by) (c.in-Some.ensures.lowest by)).0)

pub returns-in-None-clause-lowest : goal.returns-in-None-clause-lowest
returns-in-None-clause-lowest g c by =
    let m = (g.S.SlotCalls.state c.args.slots.now).memory in
    let m1 = (g.S.SlotCalls.state c.convert_lowest.new.slots).memory in
    let dead = none-dead-in m c.args.states.now c.args.blocks.now c.args.at.now c.requires.index c.in-None.ensures.found in
    IfOk-weaker c.convert_lowest.result (λ copied. (d : Copied) → copied ≡ Some d → TidiesStock d.source d.target m m1) (λ copied. (d : Copied) → copied ≡ Some d → HasNoneDead m ⊎ HasFewerBelow d.source m)
    (λ copied h d e. inl dead) c.convert_lowest.ensures.copied

pub copy_most-requires-clause-index : goal.copy_most-requires-clause-index
copy_most-requires-clause-index g c =
    let m = (g.S.SlotCalls.state c.args.slots.now).memory in
    index-dead m c.args.states.now c.args.blocks.now c.args.at.now c.most_dead.new.at c.most_dead.ensures.ahead c.most_dead.ensures.reserve c.most_dead.ensures.policy c.requires.index

pub convert_lowest-requires-clause-index : goal.convert_lowest-requires-clause-index
convert_lowest-requires-clause-index g c =
    let m = (g.S.SlotCalls.state c.args.slots.now).memory in
    index-dead m c.args.states.now c.args.blocks.now c.args.at.now c.most_dead.new.at c.most_dead.ensures.ahead c.most_dead.ensures.reserve c.most_dead.ensures.policy c.requires.index

pub returns-in_ok-copied-in-Some-clause-worn : goal.returns-in_ok-copied-in-Some-clause-worn
returns-in_ok-copied-in-Some-clause-worn g c by d e =
    let m = (g.S.SlotCalls.state c.args.slots.now).memory in
    let q : d ≡ c.in_ok-copied-in-Some.copied = cc in
    let n = c.requires.index.listed.block_size in
    let low = c.in-Some.ensures.found.0 in
    let done = c.in_ok-copied-in-Some.ensures in
    inl (subst (λ k. CopiesLeastWorn (erases_of c.args.blocks.now) c.args.at.now.reserve c.fill_copy.new.at.reserve k m) (sym q)
    (copies-least c.in-Some.source c.args.at.now.reserve c.fill_copy.new.at.reserve c.in_ok-copied-in-Some.copied m c.args.states.now c.args.blocks.now c.requires.index.listed (omega (arith, low, n)) (c.in-Some.ensures.level by)
    done.target.0 (done.target.1 ∙ c.most_dead.ensures.reserve) (ap (λ a. a.reserve) c.fill_copy.ensures ∙ done.next (c.most_dead.ensures.policy ∙ by))))

pub returns-in_ok-copied-in-Some-clause-counted : goal.returns-in_ok-copied-in-Some-clause-counted
returns-in_ok-copied-in-Some-clause-counted g c =
    let m = (g.S.SlotCalls.state c.args.slots.now).memory in
    let done = c.in_ok-copied-in-Some.ensures in
    subst (λ k. IsErasedOnce (data_blocks m) k (erases_of c.args.blocks.now) (erases_of c.copy_most.new.blocks)) (sym done.target.0)
    (counted-moved c.in-Some.source c.most_dead.new.at.reserve m c.args.states.now c.args.blocks.now c.copy_most.new.blocks c.requires.index.listed done.fits done.blocks)

pub returns-in-None-clause-worn : goal.returns-in-None-clause-worn
returns-in-None-clause-worn g c by =
    let m = (g.S.SlotCalls.state c.args.slots.now).memory in
    let m1 = (g.S.SlotCalls.state c.convert_lowest.new.slots).memory in
    let dead = none-dead-in m c.args.states.now c.args.blocks.now c.args.at.now c.requires.index c.in-None.ensures.found in
    IfOk-weaker c.convert_lowest.result (λ copied. (d : Copied) → copied ≡ Some d → TidiesStock d.source d.target m m1)
    (λ copied. (d : Copied) → copied ≡ Some d → CopiesLeastWorn (erases_of c.args.blocks.now) c.args.at.now.reserve c.convert_lowest.new.at.reserve d m ⊎ HasNoneDead m)
    (λ copied h d e. inr dead) c.convert_lowest.ensures.copied

pub returns-in-None-clause-reserve : goal.returns-in-None-clause-reserve
returns-in-None-clause-reserve g c =
    IfOk-weaker c.convert_lowest.result (λ copied. (d : Copied) → copied ≡ Some d → d.target ≡ c.most_dead.new.at.reserve) (λ copied. (d : Copied) → copied ≡ Some d → d.target ≡ c.args.at.now.reserve)
    (λ copied h d e. h d e ∙ c.most_dead.ensures.reserve) c.convert_lowest.ensures.reserve

pub copy_most-requires-clause-may : goal.copy_most-requires-clause-may
copy_most-requires-clause-may g c by =
    may-within c.in-Some.source (length c.args.blocks.now) (erases_of c.args.blocks.now) c.in-Some.ensures.found.0 (c.requires.even (sym c.most_dead.ensures.policy ∙ by))

pub convert_lowest-requires-clause-even : goal.convert_lowest-requires-clause-even
convert_lowest-requires-clause-even g c by = c.requires.even (sym c.most_dead.ensures.policy ∙ by)

pub returns-in_ok-copied-in-Some-clause-index : goal.returns-in_ok-copied-in-Some-clause-index
returns-in_ok-copied-in-Some-clause-index g c =
    filled _ (g.S.SlotCalls.state c.copy_most.new.slots).memory c.copy_most.new.states c.copy_most.new.blocks c.copy_most.new.at c.fill_copy.new.at c.fill_copy.ensures c.in_ok-copied-in-Some.ensures.index

pub returns-in_err-copied-in-Some-clause-cut : goal.returns-in_err-copied-in-Some-clause-cut
returns-in_err-copied-in-Some-clause-cut g c is =
    let p = err_from_is_err_and c.from_residual.result c.from_residual.ensures.1 in
    c.in_err-copied-in-Some.ensures.cut (cc (p.1, p.2)) (settled-healthy (g.S.SlotCalls.state c.args.slots.now).memory c.requires.settled)
