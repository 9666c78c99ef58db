use Rattle.std.proofs.Common.{◌≡◌, take, subst, arith, refl}
use Rattle.std.proofs.lemmas.List.{take_all, length-take-le}
use Rattle.std.specs.Io.KnownBytes.{Consumes}
use Rattle.nbd_station.proofs.Refusing.{short_head, no_head}
use Rattle.nbd_station.proofs.script.read_form.Goals as goal

pub returns-then-n-lt-SCRIPT_HEAD_LEN-clause-form : goal.returns-then-n-lt-SCRIPT_HEAD_LEN-clause-form
returns-then-n-lt-SCRIPT_HEAD_LEN-clause-form g c =
    let b = c.in-Ok.ensures.bytes in
    let n = length-take-le c.in-Ok.n c.fill.new.into b.1 in (
      take c.in-Ok.n c.fill.new.into,
      b.0,
      short_head (g.S.Source.remaining c.fill.new.reader) (take c.in-Ok.n c.fill.new.into) (omega (arith, n, c.if-n-eq0.false)) (omega (arith, n, c.if-n-lt-SCRIPT_HEAD_LEN.true))
          (b.2 (omega (arith, c.if-n-lt-SCRIPT_HEAD_LEN.true, c.fill.auto.into))),
    )

pub returns-in-None-clause-form : goal.returns-in-None-clause-form
returns-in-None-clause-form g c =
    let into = c.fill.new.into in
    let b = c.in-Ok.ensures.bytes in
    let all : take c.in-Ok.n into ≡ into = take_all c.in-Ok.n into (omega (arith, c.fill.auto.into, c.if-n-lt-SCRIPT_HEAD_LEN.false)) in (
      into,
      subst (λ l. Consumes (g.S.Source.remaining c.args.reader.now) (g.S.Source.remaining c.fill.new.reader) l) all b.0,
      no_head (g.S.Source.remaining c.fill.new.reader) into c.fill.auto.into (c.in-None.ensures.none refl),
    )
