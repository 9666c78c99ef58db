use Rattle.std.proofs.Common.{refl, ◌∙◌, rules}
use Rattle.std.proofs.lemmas.List.{take_rest}
use Rattle.nbd_connection.proofs.Piecing.{start, none_left, piece_stays, underway_more, piece_closes, piece_fails, piece_loses}
use Rattle.nbd_connection.proofs.piece.answer_piece.Goals as goal

pub loop-rest-init : goal.loop-rest-init
loop-rest-init g c = (refl, refl, c.requires.fits, refl, λ h. h, start _ _ _ _ _)

pub loop-rest-preserved : goal.loop-rest-preserved
loop-rest-preserved g c =
    let i = c.loop-rest.invariant in
    let e = c.take_turn-used.ensures in (
      e.session ∙ i.0,
      e.memory ∙ i.1,
      e.fits,
      e.export ∙ i.3,
      λ h. e.open (search rules),
      rw take_rest (underway_more _ _ _ _ _ _ _ _ _ _ c.take_turn-used.result i.0 i.4 i.5 e.turned c.in-Open.is),
    )

pub returns-in-Closed-clause-pieced : goal.returns-in-Closed-clause-pieced
returns-in-Closed-clause-pieced g c =
    let i = c.loop-rest.invariant in
    piece_closes _ _ _ _ _ _ _ _ _ _ c.take_turn-used.result i.0 i.4 i.5 c.take_turn-used.ensures.turned c.in-Closed.is

pub returns-in-OutputFailed-clause-pieced : goal.returns-in-OutputFailed-clause-pieced
returns-in-OutputFailed-clause-pieced g c =
    let i = c.loop-rest.invariant in
    piece_fails _ _ _ _ _ _ _ _ _ _ c.take_turn-used.result i.0 i.4 i.5 c.take_turn-used.ensures.turned c.in-OutputFailed.is

pub returns-in-Lost-clause-pieced : goal.returns-in-Lost-clause-pieced
returns-in-Lost-clause-pieced g c =
    let i = c.loop-rest.invariant in
    piece_loses _ _ _ _ _ _ _ _ _ _ c.take_turn-used.result i.0 i.4 i.5 c.take_turn-used.ensures.turned c.in-Lost.is

pub returns-clause-pieced : goal.returns-clause-pieced
returns-clause-pieced g c =
    piece_stays _ _ _ _ _ _ _ _ c.loop-rest.invariant.5 (none_left c.loop-rest.rest.now c.loop-rest-test.ensures)
