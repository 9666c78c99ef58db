use Rattle.std.proofs.Common.{subst, MatchOption}
use Rattle.sector_stock.specs.IndexSteps.{HasNoFreeState, IsFirstFreeState}
use Rattle.sector_stock.proofs.Finding.{found-free, given-free, none-free-in, only-some, found-filled, none-there, found-first}
use Rattle.sector_stock.proofs.index.free_slot.Goals as goal

pub returns-in-Some-clause-found : goal.returns-in-Some-clause-found
returns-in-Some-clause-found c m index =
    given-free c.first_place.result c.in-Some.block m c.args.states.now c.args.blocks.now c.args.at.now index c.in-Some.ensures.found c.first_place.ensures.found

pub returns-in-Some-clause-lowest : goal.returns-in-Some-clause-lowest
returns-in-Some-clause-lowest c by m index =
    only-some c.first_place.result c.args.at.now.reserve m (found-free c.first_place.result c.in-Some.block m c.args.states.now c.args.blocks.now c.args.at.now by index (c.in-Some.ensures.lowest by) c.first_place.ensures.found)

pub returns-in-None-clause-found : goal.returns-in-None-clause-found
returns-in-None-clause-found c m index = none-free-in m c.args.states.now c.args.blocks.now c.args.at.now index c.in-None.ensures.found

pub returns-in-Some-clause-fills : goal.returns-in-Some-clause-fills
returns-in-Some-clause-fills c by m index =
    found-filled c.first_place.result c.in-Some.block m c.args.states.now c.args.blocks.now c.args.at.now index c.in-Some.ensures.found (c.in-Some.ensures.level by) c.first_place.ensures.found

pub returns-in-Some-clause-newest : goal.returns-in-Some-clause-newest
returns-in-Some-clause-newest c m index none =
    absurd (none-there c.in-Some.block c.args.at.now.reserve m c.args.states.now c.args.blocks.now index.listed c.in-Some.ensures.found
    (subst (λ o. MatchOption o (HasNoFreeState c.args.states.now c.in-Some.block) (λ w. IsFirstFreeState c.args.states.now c.in-Some.block w)) none c.first_place.ensures.found))

pub returns-in-Some-clause-first : goal.returns-in-Some-clause-first
returns-in-Some-clause-first c m index =
    found-first c.first_place.result c.in-Some.block c.args.at.now.reserve m c.args.states.now c.args.blocks.now index.listed c.in-Some.ensures.found c.first_place.ensures.found
