use Rattle.std.proofs.Common.{◌≡◌, Bool, true, rules, subst}
use Rattle.nbd_history.specs.Notes.{first_noted}
use Rattle.nbd_share.specs.Doing.{Executes, NotesLost}
use Rattle.nbd_share.proofs.Chronicles.{latched_more, notes_so, recorded_more, told_more}
use Rattle.nbd_share.proofs.chronicle.Chronicle.execute.Goals as goal

pub invariant_of-self : goal.invariant_of-self
invariant_of-self g c =
    let inv = c.self.invariant in
    let x = c.execute-done.ensures.executes in
    let by : c.args.hand.now.by ≡ c.args.pass.now.connection = search rules in
    let keeping : g.R.Recorder.KEEPS ≡ true → Executes g.R.Recorder.KEEPS c.self.inside.shared c.execute-done.new.self c.args.pass.now c.execute-done.new.pass c.args.command.now c.args.data.now c.execute-done.result
    → Executes true c.self.inside.shared c.execute-done.new.self c.args.pass.now c.execute-done.new.pass c.args.command.now c.args.data.now c.execute-done.result = λ k.
    subst (λ (b : Bool). Executes b c.self.inside.shared c.execute-done.new.self c.args.pass.now c.execute-done.new.pass c.args.command.now c.args.data.now c.execute-done.result) k in
    let notes : NotesLost c.self.inside.shared.lost (first_noted c.self.inside.noted) (first_noted c.note_lost.new.noted) c.args.command.now c.args.data.now c.execute-done.result =
    notes_so c.self.inside.shared.lost c.is_lost-was_lost.result c.self.inside.noted c.note_lost.new.noted c.of-noted.result c.args.command.now c.args.data.now c.execute-done.result
    c.is_lost-was_lost.ensures c.of-noted.ensures c.note_lost.ensures.replied c.note_lost.ensures.lost in
    record {
      latched = λ s. latched_more g.R.Recorder.KEEPS c.self.inside.shared c.execute-done.new.self c.args.pass.now c.execute-done.new.pass c.args.command.now c.args.data.now c.execute-done.result (inv.latched s) x;
      recorded = λ k. recorded_more c.self.inside.shared c.execute-done.new.self c.args.pass.now c.execute-done.new.pass c.args.command.now c.args.data.now c.execute-done.result
          c.self.inside.keeper c.add_row.new.keeper c.args.hand.now c.add_row.new.hand (inv.recorded k) by (keeping k x) c.add_row.ensures;
      history = λ s. told_more g.R.Recorder.KEEPS g.L.OneServer.export g.L.OneServer.base c.self.inside.shared c.execute-done.new.self c.args.pass.now c.execute-done.new.pass c.args.command.now c.args.data.now c.execute-done.result
          c.self.inside.keeper c.add_row.new.keeper (first_noted c.self.inside.noted) (first_noted c.note_lost.new.noted) c.args.hand.now c.add_row.new.hand (inv.history s) (inv.latched s) c.requires.accepted c.requires.lent x c.add_row.ensures notes;
    }

pub returns-clause-notes : goal.returns-clause-notes
returns-clause-notes g c =
    rw (← c.self.view_is) (notes_so c.self.inside.shared.lost c.is_lost-was_lost.result c.self.inside.noted c.note_lost.new.noted c.of-noted.result c.args.command.now c.args.data.now c.execute-done.result
    c.is_lost-was_lost.ensures c.of-noted.ensures c.note_lost.ensures.replied c.note_lost.ensures.lost)

pub returns-clause-history : goal.returns-clause-history
returns-clause-history g c = λ s. told_more g.R.Recorder.KEEPS g.L.OneServer.export g.L.OneServer.base c.self.inside.shared c.execute-done.new.self c.args.pass.now c.execute-done.new.pass c.args.command.now c.args.data.now c.execute-done.result
    c.self.inside.keeper c.add_row.new.keeper (first_noted c.self.inside.noted) (first_noted c.note_lost.new.noted) c.args.hand.now c.add_row.new.hand (c.self.invariant.history s) (c.self.invariant.latched s) c.requires.accepted c.requires.lent c.execute-done.ensures.executes c.add_row.ensures
    (notes_so c.self.inside.shared.lost c.is_lost-was_lost.result c.self.inside.noted c.note_lost.new.noted c.of-noted.result c.args.command.now c.args.data.now c.execute-done.result
    c.is_lost-was_lost.ensures c.of-noted.ensures c.note_lost.ensures.replied c.note_lost.ensures.lost)
