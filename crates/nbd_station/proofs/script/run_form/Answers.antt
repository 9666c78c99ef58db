use Rattle.std.proofs.lemmas.List.{length-take-le}
use Rattle.std.proofs.Common.{arith, subst, refl}
use Rattle.nbd_station.specs.declared.event.Event.TheVariants.{Open, Gone, Tidy, Restore}
use Rattle.nbd_station.specs.declared.script.Form.TheVariants.{Open as OpenForm, Gone as GoneForm, Tidy as TidyForm, Restore as RestoreForm}
use Rattle.nbd_station.specs.ScriptSteps.{IsForm, ItemMoves, ItemHangs}
use Rattle.nbd_station.proofs.Scripting.{alone, piece_form, arm_form}
use Rattle.nbd_station.proofs.script.run_form.Goals as goal

pub returns-in-Ok-clause-does : goal.returns-in-Ok-clause-does
returns-in-Ok-clause-does g c =
    alone c.args.form (OpenForm c.in-Open.who) (Open c.in-Open.who) (g.S.Source.remaining c.args.reader.now) (λ i. ItemMoves i c.args.hub.now c.step.new.self (g.W.Sink.written c.args.out.now) (g.W.Sink.written c.step.new.out))
    c.in-Open.is (λ h. h) c.requires.form refl c.in-Ok.ensures.moves

pub returns-in-Err-clause-does : goal.returns-in-Err-clause-does
returns-in-Err-clause-does g c =
    alone c.args.form (OpenForm c.in-Open.who) (Open c.in-Open.who) (g.S.Source.remaining c.args.reader.now) (λ i. ItemHangs i c.args.hub.now c.step.new.self (g.W.Sink.written c.args.out.now) (g.W.Sink.written c.step.new.out))
    c.in-Open.is (λ h. h) c.requires.form refl c.in-Err.ensures.hangs

pub returns-in-Ok-step-clause-does : goal.returns-in-Ok-step-clause-does
returns-in-Ok-step-clause-does g c =
    alone c.args.form (GoneForm c.in-Gone.who) (Gone c.in-Gone.who) (g.S.Source.remaining c.args.reader.now) (λ i. ItemMoves i c.args.hub.now c.step-in-Gone.new.self (g.W.Sink.written c.args.out.now) (g.W.Sink.written c.step-in-Gone.new.out))
    c.in-Gone.is (λ h. h) c.requires.form refl c.in-Ok-step.ensures.moves

pub returns-in-Err-step-clause-does : goal.returns-in-Err-step-clause-does
returns-in-Err-step-clause-does g c =
    alone c.args.form (GoneForm c.in-Gone.who) (Gone c.in-Gone.who) (g.S.Source.remaining c.args.reader.now) (λ i. ItemHangs i c.args.hub.now c.step-in-Gone.new.self (g.W.Sink.written c.args.out.now) (g.W.Sink.written c.step-in-Gone.new.out))
    c.in-Gone.is (λ h. h) c.requires.form refl c.in-Err-step.ensures.hangs

pub returns-in-Ok-step-2-clause-does : goal.returns-in-Ok-step-2-clause-does
returns-in-Ok-step-2-clause-does g c =
    alone c.args.form TidyForm Tidy (g.S.Source.remaining c.args.reader.now) (λ i. ItemMoves i c.args.hub.now c.step-in-Tidy.new.self (g.W.Sink.written c.args.out.now) (g.W.Sink.written c.step-in-Tidy.new.out))
    c.in-Tidy.is (λ h. tt) c.requires.form refl c.in-Ok-step-2.ensures.moves

pub returns-in-Err-step-2-clause-does : goal.returns-in-Err-step-2-clause-does
returns-in-Err-step-2-clause-does g c =
    alone c.args.form TidyForm Tidy (g.S.Source.remaining c.args.reader.now) (λ i. ItemHangs i c.args.hub.now c.step-in-Tidy.new.self (g.W.Sink.written c.args.out.now) (g.W.Sink.written c.step-in-Tidy.new.out))
    c.in-Tidy.is (λ h. tt) c.requires.form refl c.in-Err-step-2.ensures.hangs

pub returns-in-Ok-step-3-clause-does : goal.returns-in-Ok-step-3-clause-does
returns-in-Ok-step-3-clause-does g c =
    alone c.args.form RestoreForm Restore (g.S.Source.remaining c.args.reader.now) (λ i. ItemMoves i c.args.hub.now c.step-in-Restore.new.self (g.W.Sink.written c.args.out.now) (g.W.Sink.written c.step-in-Restore.new.out))
    c.in-Restore.is (λ h. tt) c.requires.form refl c.in-Ok-step-3.ensures.moves

pub returns-in-Err-step-3-clause-does : goal.returns-in-Err-step-3-clause-does
returns-in-Err-step-3-clause-does g c =
    alone c.args.form RestoreForm Restore (g.S.Source.remaining c.args.reader.now) (λ i. ItemHangs i c.args.hub.now c.step-in-Restore.new.self (g.W.Sink.written c.args.out.now) (g.W.Sink.written c.step-in-Restore.new.out))
    c.in-Restore.is (λ h. tt) c.requires.form refl c.in-Err-step-3.ensures.hangs

pub returns-in-Piece-clause-does : goal.returns-in-Piece-clause-does
returns-in-Piece-clause-does g c =
    let allowed = subst IsForm c.in-Piece.is c.requires.form in
    piece_form c.args.form c.in-Piece.who c.in-Piece.len _ c.args.hub.now c.run_piece.new.hub _ _ c.run_piece.result _ _ c.in-Piece.is c.requires.form
    (length-take-le c.in-Piece.len c.args.piece.now (omega (arith, allowed.1, c.requires.piece))) c.run_piece.ensures.does

pub returns-in-Arm-clause-does : goal.returns-in-Arm-clause-does
returns-in-Arm-clause-does g c =
    arm_form c.args.form c.args.hub.now c.run_arm.new.hub _ _ c.run_arm.result _ c.in-Arm.is c.run_arm.ensures.same c.run_arm.ensures.does
