use Rattle.std.proofs.Common.{◌∙◌, sym, subst, length, take, ◌-◌, arith}
use Rattle.std.proofs.lemmas.List.{length-take-le}
use Rattle.std.proofs.lemmas.Result.{err_from_is_err_and}
use Rattle.std.specs.Io.KnownBytes.{Consumes}
use Rattle.nbd_station.proofs.Filling.{consumes_twice, consumes_kept, filled, long_enough}
use Rattle.nbd_station.proofs.script.fill.Goals as goal

pub loop-used-preserved : goal.loop-used-preserved
loop-used-preserved g c =
    let i = c.loop-used.invariant in
    let e = c.in_ok-n.ensures in
    let used = c.loop-used.used in
    let k = length c.loop-used.into - used in (
      long_enough used c.in_ok-n.n k c.loop-used.into c.read.new.into i.0 e.bound.0,
      subst (λ l. Consumes (g.S.Source.remaining c.args.reader.now) (g.S.Source.remaining c.read.new.self) l) (sym (filled used c.in_ok-n.n k c.loop-used.into c.read.new.into i.0 e.bound.0))
          (consumes_twice _ _ _ _ _ i.1 (let b = e.bytes in b.0)),
      e.faults ∙ i.2,
    )

pub returns-in_err-n-clause-bytes : goal.returns-in_err-n-clause-bytes
returns-in_err-n-clause-bytes g c =
    let i = c.loop-used.invariant in
    let used = c.loop-used.used in
    let p = err_from_is_err_and c.from_residual.result c.from_residual.ensures.1 in
    rw p.1 (take used c.loop-used.into, consumes_kept _ _ _ _ i.1 c.in_err-n.ensures.bytes, omega (arith, length-take-le used c.loop-used.into i.0))
