use Rattle.std.proofs.Common.{sym, ap, ◌∙◌, subst, arith}
use Rattle.nbd_wire.specs.declared.phase.Phase.TheVariants.{Transmitting}
use Rattle.block_device.specs.Facts.{Facts}
use Rattle.nbd_worker.proofs.Plain.{never-lost}
use Rattle.nbd_worker.specs.declared.attending.End.{End}
use Rattle.nbd_worker.specs.Connection.{Connection}
use Rattle.nbd_worker.specs.ConnectionState.{reading, setting, state_at}
use Rattle.nbd_worker.specs.Plain.{IsServerQuiet, of_server}
use Rattle.nbd_worker.proofs.alone.exchange_plain.Goals as goal

pub returns-clause-plain : goal.returns-clause-plain
returns-clause-plain g c input tells =
    let before = sym c.disk.ensures in
    let after = sym c.disk-2.ensures in
    let quiet : IsServerQuiet c.args.server.now = record { sound = ap (λ (f : Facts). f.sound) before; cut = ap (λ (f : Facts). f.cut) before; slow = ap (λ (f : Facts). f.slow) before } in
    c.exchange_alone-ended.ensures.plain input tells quiet (ap (λ (f : Facts). f.cuts) after ∙ sym (ap (λ (f : Facts). f.cuts) before)) (ap (λ (f : Facts). f.slows) after ∙ sym (ap (λ (f : Facts). f.slows) before))

pub returns-clause-lost : goal.returns-clause-lost
returns-clause-lost g c e =
    let before = sym c.disk.ensures in
    let after = sym c.disk-2.ensures in
    let quiet : IsServerQuiet c.args.server.now = record { sound = ap (λ (f : Facts). f.sound) before; cut = ap (λ (f : Facts). f.cut) before; slow = ap (λ (f : Facts). f.slow) before } in
    let cuts = ap (λ (f : Facts). f.cuts) after ∙ sym (ap (λ (f : Facts). f.cuts) before) in
    let slows = ap (λ (f : Facts). f.slows) after ∙ sym (ap (λ (f : Facts). f.slows) before) in
    let new = c.exchange_alone-ended.new in
    let first = state_at c.args.server.now c.args.pass c.args.gate.now (g.K.Sink.written c.args.writer.now) (g.K.Sink.faults c.args.writer.now) in
    let last = state_at new.server c.exchange_alone-ended.result.0 new.gate (g.K.Sink.written new.writer) (g.K.Sink.faults new.writer) in
    let read = reading (g.S.Source.remaining c.args.reader.now) (g.S.Source.remaining new.reader) (g.S.Source.faults c.args.reader.now) (g.S.Source.faults new.reader) in
    let P : End → Type 0 = λ x. Connection (of_server g.R.Recorder.KEEPS) g.G.Gate.passes (setting Transmitting g.L.OneServer.export) first last read x in
    never-lost g.R.Recorder.KEEPS g.G.Gate.passes (setting Transmitting g.L.OneServer.export) first last read quiet (omega (arith, cuts)) (omega (arith, slows)) (subst P e c.exchange_alone-ended.ensures.says)

pub returns-clause-says : goal.returns-clause-says
returns-clause-says g c = c.exchange_alone-ended.ensures.says

pub returns-clause-input : goal.returns-clause-input
returns-clause-input g c =
    let says = c.exchange_alone-ended.ensures.says in
    (says.text, says.took, says.reader)

pub returns-clause-output : goal.returns-clause-output
returns-clause-output g c = c.exchange_alone-ended.ensures.says.writer
