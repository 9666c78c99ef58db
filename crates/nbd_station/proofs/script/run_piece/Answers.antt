use Rattle.std.proofs.Common.{◌≡◌, take, subst, arith}
use Rattle.std.proofs.lemmas.List.{take_all}
use Rattle.std.specs.Io.KnownBytes.{Consumes}
use Rattle.nbd_station.proofs.script.run_piece.Goals as goal

pub returns-in-Ok-step-clause-does : goal.returns-in-Ok-step-clause-does
returns-in-Ok-step-clause-does g c =
    let into = c.fill.new.into in
    let b = c.in-Ok.ensures.bytes in
    let all : take c.in-Ok.n into ≡ into = take_all c.in-Ok.n into (omega (arith, c.fill.auto.into, c.if-n-bytes.false)) in
    (record { ref_ptr = c.args.bytes.ref_ptr; now = into }, c.fill.auto.into, subst (λ l. Consumes (g.S.Source.remaining c.args.reader.now) (g.S.Source.remaining c.fill.new.reader) l) all b.0, c.in-Ok-step.ensures.moves)

pub returns-in-Err-step-clause-does : goal.returns-in-Err-step-clause-does
returns-in-Err-step-clause-does g c =
    let into = c.fill.new.into in
    let b = c.in-Ok.ensures.bytes in
    let all : take c.in-Ok.n into ≡ into = take_all c.in-Ok.n into (omega (arith, c.fill.auto.into, c.if-n-bytes.false)) in
    (record { ref_ptr = c.args.bytes.ref_ptr; now = into }, c.fill.auto.into, subst (λ l. Consumes (g.S.Source.remaining c.args.reader.now) (g.S.Source.remaining c.fill.new.reader) l) all b.0, c.in-Err-step.ensures.hangs)
