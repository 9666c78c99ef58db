use Rattle.std.proofs.Common.{◌∙◌, ◌≡◌, Some, length, refl, sym, ap, subst, inl, inr}
use Rattle.sector_stock.specs.Index.{in_block, IsWholeBlock, IsIndexOf}
use Rattle.sector_stock.proofs.Moved.{index-chosen, index-dead, dead-left, turned}
use Rattle.sector_stock.specs.declared.given.Copied.{Copied}
use Rattle.sector_stock.specs.declared.policy.Wanted.TheVariants as wanteds
use Rattle.sector_stock.specs.Policies.{IsLeastWorn}
use Rattle.sector_stock.specs.Takes.{MovesLeastWorn, IsErasedOnce}
use Rattle.sector_stock.specs.Index.{erases_of}
use Rattle.sector_slots.specs.Slots.{data_blocks}
use Rattle.sector_stock.proofs.Even.{may-within}
use Rattle.sector_stock.proofs.Worn.{counted-moved, moves-least}
use Rattle.std.proofs.lemmas.Result.{err_from_is_err_and}
use Rattle.erase_journal.proofs.SettledLaws.{settled-healthy}
use Rattle.sector_stock.proofs.policy.level_block.Goals as goal

pub move_used-requires-clause-index : goal.move_used-requires-clause-index
move_used-requires-clause-index g c =
    let due = c.in-Some.ensures.due in
    index-chosen c.in-Some.due.target (g.S.SlotCalls.state c.args.slots.now).memory c.args.states.now c.args.blocks.now c.args.at.now c.choose_reserve.new.at c.requires.room c.requires.index due.target due.whole c.choose_reserve.ensures.reserve c.choose_reserve.ensures.ahead
    (λ p. (let q = c.in-Some.ensures.lowest (sym c.in-Some.ensures.policy ∙ (sym c.choose_reserve.ensures.policy ∙ p)) in cc)) (c.choose_reserve.ensures.policy ∙ c.in-Some.ensures.policy)

pub returns-clause-left : goal.returns-clause-left
returns-clause-left g c d is none =
    let due = c.in-Some.ensures.due in
    let m = (g.S.SlotCalls.state c.args.slots.now).memory in
    let index : IsIndexOf c.args.states.now c.args.blocks.now c.choose_reserve.new.at m =
    index-chosen c.in-Some.due.target m c.args.states.now c.args.blocks.now c.args.at.now c.choose_reserve.new.at c.requires.room c.requires.index due.target due.whole c.choose_reserve.ensures.reserve c.choose_reserve.ensures.ahead
    (λ p. (let q = c.in-Some.ensures.lowest (sym c.in-Some.ensures.policy ∙ (sym c.choose_reserve.ensures.policy ∙ p)) in cc)) (c.choose_reserve.ensures.policy ∙ c.in-Some.ensures.policy) in
    dead-left c.in-Some.due.source c.choose_reserve.new.at.reserve due.worst m (g.S.SlotCalls.state c.move_used.new.slots).memory c.args.states.now c.move_used.new.states c.args.blocks.now c.move_used.new.blocks c.choose_reserve.new.at c.move_used.new.at index c.in_ok-moved.ensures.index due.is_worst c.in_ok-moved.ensures.blocks
    (subst (λ k. IsWholeBlock (in_block c.args.blocks.now k)) (sym c.choose_reserve.ensures.reserve) due.whole) due.more none

pub returns-clause-index : goal.returns-clause-index
returns-clause-index g c =
    turned _ _ _ (g.S.SlotCalls.state c.move_used.new.slots).memory c.move_used.new.states c.move_used.new.blocks c.move_used.new.at c.end_turn.new.at c.end_turn.ensures c.in_ok-moved.ensures.index

some-is : (a b : Copied) → ◌≡◌ (Some a) (Some b) → b.source ≡ a.source
some-is a b e = let q : b ≡ a = cc in ap (λ k. k.source) q

pub returns-clause-least : goal.returns-clause-least
returns-clause-least g c by d e =
    let m = (g.S.SlotCalls.state c.args.slots.now).memory in
    let is = some-is c.in_ok-moved.moved d e ∙ c.in_ok-moved.ensures.target.0 in
    let h = subst (λ n. IsLeastWorn wanteds.Resting n c.args.blocks.now (length c.args.blocks.now) c.in-Some.due.source) c.in-Some.ensures.newest c.in-Some.ensures.least in
    subst (λ k. MovesLeastWorn (erases_of c.args.blocks.now) c.args.at.now.newest k m) (sym is) (moves-least c.in-Some.due.source c.args.at.now.newest m c.args.states.now c.args.blocks.now c.requires.index.listed h)

pub returns-clause-counted : goal.returns-clause-counted
returns-clause-counted g c =
    let m = (g.S.SlotCalls.state c.args.slots.now).memory in
    subst (λ k. IsErasedOnce (data_blocks m) k (erases_of c.args.blocks.now) (erases_of c.move_used.new.blocks)) (sym c.in_ok-moved.ensures.target.0)
    (counted-moved c.in-Some.due.source c.choose_reserve.new.at.reserve m c.args.states.now c.args.blocks.now c.move_used.new.blocks c.requires.index.listed c.in_ok-moved.ensures.fits c.in_ok-moved.ensures.blocks)

pub move_used-requires-clause-may : goal.move_used-requires-clause-may
move_used-requires-clause-may g c by =
    let source = c.in-Some.ensures.due.source in
    may-within c.in-Some.due.source (length c.args.blocks.now) (erases_of c.args.blocks.now) source (c.requires.even (sym (c.choose_reserve.ensures.policy ∙ c.in-Some.ensures.policy) ∙ by))

pub returns-in_default-clause-index : goal.returns-in_default-clause-index
returns-in_default-clause-index g c =
    let m = (g.S.SlotCalls.state c.args.slots.now).memory in
    let new = c.move_due.new.at in
    let said = c.in_default.ensures in
    elim said.reserve as (λ _. IsIndexOf c.args.states.now c.args.blocks.now new m) [
      | inl same ↦ index-dead m c.args.states.now c.args.blocks.now c.args.at.now new said.ahead same said.policy c.requires.index
      | inr other ↦ index-chosen new.reserve m c.args.states.now c.args.blocks.now c.args.at.now new c.requires.room c.requires.index other.number other.whole refl said.ahead (λ p. other.level (sym said.policy ∙ p)) said.policy
    ]

pub returns-in_err-moved-clause-cut : goal.returns-in_err-moved-clause-cut
returns-in_err-moved-clause-cut g c is =
    let p = err_from_is_err_and c.from_residual.result c.from_residual.ensures.1 in
    c.in_err-moved.ensures.cut (cc (p.1, p.2)) (settled-healthy (g.S.SlotCalls.state c.args.slots.now).memory c.requires.settled)
