use Rattle.std.proofs.Common.{[], ◌∷◌, ◌++◌, length, refl, sym, ◌∙◌, inl, inr, arith}
use Rattle.nbd_share.specs.declared.door.Point.TheVariants.{Tidy}
use Rattle.nbd_worker.proofs.Sweeping.{length-one, sweeps-more, tidyings-one}
use Rattle.nbd_worker.proofs.keeping.keeper.Goals as goal

pub loop-round-init : goal.loop-round-init
loop-round-init g c = ([], [], refl, g.met.G.Gate.none c.args.gate.now, refl, refl)

pub returns-then-load : goal.returns-then-load
returns-then-load g c =
    let i = c.loop-round.invariant in
    record {
      answers = i.0;
      last = c.loop-round.door;
      points = i.1 ++ Tidy ∷ [];
      sweeps = i.2;
      stops = refl;
      gate = c.pass.ensures c.args.gate.now i.1 i.3;
      once = inl (tidyings-one i.1 (length i.0) i.4);
    }

pub returns-in-Err : goal.returns-in-Err
returns-in-Err g c =
    let i = c.loop-round.invariant in
    record {
      answers = i.0;
      last = c.loop-round.door;
      points = i.1 ++ Tidy ∷ [];
      sweeps = i.2;
      stops = c.in-Err.ensures;
      gate = c.pass.ensures c.args.gate.now i.1 i.3;
      once = inl (tidyings-one i.1 (length i.0) i.4);
    }

pub loop-round-preserved : goal.loop-round-preserved
loop-round-preserved g c =
    let i = c.loop-round.invariant in (
      i.0 ++ c.in-Ok.field-0 ∷ [],
      i.1 ++ Tidy ∷ [],
      sweeps-more g.T.Door.tidies c.args.door.now c.loop-round.door c.tidy.new.self i.0 c.in-Ok.field-0 i.2 c.in-Ok.ensures,
      c.pass.ensures c.args.gate.now i.1 i.3,
      tidyings-one i.1 (length i.0) i.4 ∙ sym (length-one i.0 c.in-Ok.field-0),
      length-one i.0 c.in-Ok.field-0 ∙ omega (arith, i.5),
    )

pub returns : goal.returns
returns g c =
    let i = c.loop-round.invariant in
    record {
      answers = i.0;
      last = c.loop-round.door;
      points = i.1;
      sweeps = i.2;
      stops = refl;
      gate = i.3;
      once = inr (i.4, omega (arith, i.5, c.loop-round-test.false));
    }
