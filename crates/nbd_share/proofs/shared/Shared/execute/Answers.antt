use Rattle.std.proofs.Common.{◌≡◌, true, false, List, ◌∙◌, ap, length, refl, sym, inl, inr, Some, rules}
use Rattle.std.proofs.lemmas.Bool.{both_ways}
use Rattle.nbd_share.specs.declared.recorder.Interrupted.{Interrupted}
use Rattle.nbd_share.specs.declared.recorder.Row.{Row}
use Rattle.nbd_share.proofs.Kept.{has_power, interrupted-same, kept-lost, kept-row-ok, kept-row-slow, was_quiet}
use Rattle.nbd_share.proofs.shared.Shared.execute.Goals as goal

pub invariant_of-self-in-Ok : goal.invariant_of-self-in-Ok
invariant_of-self-in-Ok g c =
    let inv = c.self.invariant in let p = c.prepare.ensures in let r = c.in-Ok.ensures in let n = c.note.ensures in
    let was = c.self.inside in
    let D = g.D.Disk in let R = g.R.Recorder in
    record {
      sectors = r.goes.size ∙ inv.sectors;
      parts = inv.parts;
      counted = n.counted;
      fits = n.fits (rw p.rows inv.fits);
      lost = λ l. absurd (both_ways _ c.if-lost.false l);
      latched = λ k s. absurd (both_ways _ r.latches.1 s);
      kept = λ k. kept-row-ok R.KEEPS g.L.OneServer.export (D.facts was.disk) (D.facts c.run.new.disk)
          (R.base was.recorder) (R.base c.prepare.new.self) (R.base c.note.new.recorder) (R.rows was.recorder) (R.rows c.prepare.new.self) (R.rows c.note.new.recorder)
          (R.interrupted was.recorder) (R.interrupted c.prepare.new.self) (R.interrupted c.note.new.recorder) c.args.command.now c.args.pass.now.connection c.args.data.now c.run.new.bytes
          k (inv.kept k) c.requires.accepted c.run.auto.bytes c.requires.lent r.kept r.sound r.contents r.reply r.latches.0 r.latches.1 r.latches.2 r.latches.3
          p.base n.base p.interrupted n.interrupted p.rows n.rows;
      trusted = λ t. r.sound ∙ inv.trusted t;
      based = λ k t. n.base ∙ p.base ∙ inv.based k t;
    }

pub invariant_of-self-in-Err-Slow : goal.invariant_of-self-in-Err-Slow
invariant_of-self-in-Err-Slow g c =
    let inv = c.self.invariant in let p = c.prepare.ensures in let r = c.in-Err-Slow.ensures in let n = c.note-in-Err-Slow.ensures in
    let was = c.self.inside in
    let D = g.D.Disk in let R = g.R.Recorder in
    let s = rw c.in-Err-Slow.field-0-is at r.latches in
    record {
      sectors = r.goes.size ∙ inv.sectors;
      parts = inv.parts;
      counted = n.counted;
      fits = n.fits (rw p.rows inv.fits);
      lost = λ l. absurd (both_ways _ c.if-lost.false l);
      latched = λ k e. absurd (both_ways _ s.3 e);
      kept = λ k. kept-row-slow R.KEEPS g.L.OneServer.export (D.facts was.disk) (D.facts c.run.new.disk)
          (R.base was.recorder) (R.base c.prepare.new.self) (R.base c.note-in-Err-Slow.new.recorder) (R.rows was.recorder) (R.rows c.prepare.new.self) (R.rows c.note-in-Err-Slow.new.recorder)
          (R.interrupted was.recorder) (R.interrupted c.prepare.new.self) (R.interrupted c.note-in-Err-Slow.new.recorder) c.args.command.now c.args.pass.now.connection c.args.data.now c.run.new.bytes
          k (inv.kept k) c.requires.accepted c.run.auto.bytes c.requires.lent r.sound s.0 s.1 s.3 s.4
          p.base n.base p.interrupted n.interrupted p.rows n.rows;
      trusted = λ t. r.sound ∙ inv.trusted t;
      based = λ k t. n.base ∙ p.base ∙ inv.based k t;
    }

pub invariant_of-self-in-Err-Cut : goal.invariant_of-self-in-Err-Cut
invariant_of-self-in-Err-Cut g c =
    let inv = c.self.invariant in let p = c.prepare.ensures in let r = c.in-Err-Cut.ensures in let i = c.interrupt.ensures in
    let was = c.self.inside in
    let D = g.D.Disk in let R = g.R.Recorder in
    let s = rw c.in-Err-Cut.field-0-is at r.latches in
    let left = rw c.in-Err-Cut.field-0-is at r.contents in
    let had : R.KEEPS ≡ true → (D.facts was.disk).cut ≡ false = λ k. has_power _ _ (inv.latched k) c.if-lost.false in
    record {
      sectors = r.goes.size ∙ inv.sectors;
      parts = inv.parts;
      counted = inv.counted ∙ sym (ap (λ (rows : List Row). length rows) (i.rows ∙ p.rows));
      fits = rw (i.rows, p.rows) inv.fits;
      lost = λ _. s.1;
      latched = λ _ _. refl;
      kept = λ k. kept-lost R.KEEPS g.L.OneServer.export (D.facts was.disk) (D.facts c.run.new.disk)
          (R.base was.recorder) (R.base c.prepare.new.self) (R.base c.interrupt.new.self) (R.rows was.recorder) (R.rows c.prepare.new.self) (R.rows c.interrupt.new.self)
          (R.interrupted was.recorder) (R.interrupted c.interrupt.new.self) c.args.command.now c.args.data.now c.run.new.bytes
          k (inv.kept k) r.kept r.sound left (had k) (was_quiet _ _ _ _ s.0 (had k)) s.1 s.2
          p.base i.base p.rows i.rows i.interrupted;
      trusted = λ t. r.sound ∙ inv.trusted t;
      based = λ k t. i.base ∙ p.base ∙ inv.based k t;
    }

pub returns-in-Err-Cut : goal.returns-in-Err-Cut
returns-in-Err-Cut g c =
    let p = c.prepare.ensures in let r = c.in-Err-Cut.ensures in let i = c.interrupt.ensures in
    let R = g.R.Recorder in
    let s = rw c.in-Err-Cut.field-0-is at r.latches in
    let left = rw c.in-Err-Cut.field-0-is at r.contents in
    rw (← c.self.view_is) record {
      executes = record {
        replied = tt;
        loses = record {
          rows = i.rows ∙ p.rows;
          counts = refl {a = c.args.pass.now.count};
          latched = s.1;
          cause = elim s.0 [ inl stood ↦ inl stood | inr came ↦ inr came.2 ];
          lost = refl;
          quiet = was_quiet _ _ _ _ s.0;
          left = left;
          interrupted = λ k _. i.interrupted k ∙ ap (λ (x : Interrupted). Some x) (interrupted-same c.args.command.now c.args.data.now c.run.new.bytes r.kept);
        };
        connection = refl {a = c.args.pass.now.connection};
        base = i.base ∙ p.base;
        sound = r.sound;
        goes = r.goes;
        given = refl {a = c.self.inside.counts.given};
        returned = (refl {a = c.self.inside.counts.returned}, refl {a = c.self.inside.counts.counted});
        closed = refl {a = c.self.inside.counts.closed};
        no_rows = g.met.R.Recorder.nothing c.interrupt.new.self;
        stays_lost = λ l. absurd (both_ways _ c.if-lost.false l);
      };
    }

pub returns-then-is_err : goal.returns-then-is_err
returns-then-is_err g c = search rules

pub returns-in-Ok : goal.returns-in-Ok
returns-in-Ok g c = search rules

pub returns-in-Err-Slow : goal.returns-in-Err-Slow
returns-in-Err-Slow g c = search rules
