use Rattle.std.proofs.Common.{◌≡◌, inl, inr, refl, take, subst, arith, ◌∙◌}
use Rattle.std.proofs.lemmas.List.{length-take-le, take_all}
use Rattle.std.specs.Io.KnownBytes.{Consumes}
use Rattle.nbd_station.proofs.script.run_arm.Goals as goal

pub returns-then-n-lt-ARM_LEN-clause-does : goal.returns-then-n-lt-ARM_LEN-clause-does
returns-then-n-lt-ARM_LEN-clause-does g c =
    let into = c.fill.new.into in
    let b = c.in-Ok.ensures.bytes in
    let few = length-take-le c.in-Ok.n into (omega (arith, c.fill.auto.into, c.if-n-lt-ARM_LEN.true)) in
    (take c.in-Ok.n into, b.0, inl (omega (arith, few, c.if-n-lt-ARM_LEN.true), b.2 (omega (arith, c.fill.auto.into, c.if-n-lt-ARM_LEN.true))))

pub returns-in-Some-clause-does : goal.returns-in-Some-clause-does
returns-in-Some-clause-does g c =
    let into = c.fill.new.into in
    let b = c.in-Ok.ensures.bytes in
    let all : take c.in-Ok.n into ≡ into = take_all c.in-Ok.n into (omega (arith, c.fill.auto.into, c.if-n-lt-ARM_LEN.false)) in
    (c.in-Some.count, c.in-Some.kind, c.in-Some.mask, c.in-Some.ensures.kind, subst (λ l. Consumes (g.S.Source.remaining c.args.reader.now) (g.S.Source.remaining c.fill.new.reader) l) (all ∙ c.in-Some.ensures.bytes) b.0)

pub returns-in-None-clause-does : goal.returns-in-None-clause-does
returns-in-None-clause-does g c =
    let into = c.fill.new.into in
    let b = c.in-Ok.ensures.bytes in
    let all : take c.in-Ok.n into ≡ into = take_all c.in-Ok.n into (omega (arith, c.fill.auto.into, c.if-n-lt-ARM_LEN.false)) in
    (into, subst (λ l. Consumes (g.S.Source.remaining c.args.reader.now) (g.S.Source.remaining c.fill.new.reader) l) all b.0, inr (omega (arith, c.fill.auto.into), c.in-None.ensures.none refl))
