use Rattle.std.proofs.Common.{◌≡◌, true, false, sym, subst, ◌∙◌, arith}
use Rattle.std.proofs.lemmas.Result.{err_from_is_err_and}
use Rattle.nor_driver.proofs.CallLaws.{fails-as, kept-after, ready-after, refuses-since}
use Rattle.erase_journal.specs.Journals.{is_open_entry}
use Rattle.erase_journal.proofs.Reopening.{IsClosing, closing-step, closing-skip, closing-cut, closing-end}
use Rattle.erase_journal.proofs.open_entries.close_opened.Goals as goal
use Rattle.nor_driver.specs.State.{Refuses}
use Rattle.erase_journal.specs.Steps.{SucceedsSettled}
use Rattle.erase_journal.proofs.open_entries.close_opened.Goals.{in-Some+in_ok-close_entry, in_default}

pub returns-in_err-close_entry-clause-cut : goal.returns-in_err-close_entry-clause-cut
returns-in_err-close_entry-clause-cut g c is =
    let p = err_from_is_err_and c.from_residual.result c.from_residual.ensures.1 in
    let old = (g.N.Nor.state c.args.nor.now).memory in
    let low = c.loop-entry-test.true in
    let opened : is_open_entry old c.loop-entry.entry ≡ true = sym (c.requires.read c.loop-entry.entry low) ∙ c.in-Some.ensures.none in
    closing-cut c.loop-entry.entry old (g.N.Nor.state c.loop-entry.nor).memory (g.N.Nor.state c.close_entry.new.nor).memory c.loop-entry.invariant.closing low opened (c.in_err-close_entry.ensures.cut (cc (p.1, p.2)))

pub loop-entry-preserved : goal.loop-entry-preserved
loop-entry-preserved g c =
    let a = g.N.Nor.state c.args.nor.now in
    let b = g.N.Nor.state c.loop-entry.nor in
    let h = c.loop-entry.invariant in
    let low = c.loop-entry-test.true in
    elim c.match-open_block.branch [
      | in-Some+in_ok-close_entry w ↦
          let d = g.N.Nor.state w.close_entry.new.nor in
          let opened : is_open_entry a.memory c.loop-entry.entry ≡ true = sym (c.requires.read c.loop-entry.entry low) ∙ w.in-Some.ensures.none in
          let k = w.in_ok-close_entry.ensures.ends.kept in
          rw w.nor-is (record {
            size = w.in_ok-close_entry.ensures.size ∙ h.size;
            ready = ready-after b d k h.ready;
            closing = closing-step c.loop-entry.entry a.memory b.memory d.memory h.closing low opened w.in_ok-close_entry.ensures.ok;
            kept = kept-after a b d h.kept k;
          })
      | in_default w ↦
          let closed : is_open_entry a.memory c.loop-entry.entry ≡ false = sym (c.requires.read c.loop-entry.entry low) ∙ (rw w.in_default.is at c.open_block.ensures.none) in
          rw w.nor-is (record {
            size = h.size;
            ready = h.ready;
            closing = closing-skip c.loop-entry.entry a.memory b.memory h.closing low closed;
            kept = h.kept;
          })
    ]

pub returns-clause-ends : goal.returns-clause-ends
returns-clause-ends g c =
    let a = (g.N.Nor.state c.args.nor.now).memory in
    let b = (g.N.Nor.state c.loop-entry.nor).memory in
    let all : c.loop-entry.entry ≡ 512 = (let e = c.loop-entry.auto.entry-end in let f = c.loop-entry-test.false in omega arith) in
    record {
      ready = c.requires.ready;
      kept = c.loop-entry.invariant.kept;
      settled = closing-end a b (subst (λ n. IsClosing n a b) all c.loop-entry.invariant.closing);
    }

pub returns-in_err-close_entry-clause-ends : goal.returns-in_err-close_entry-clause-ends
returns-in_err-close_entry-clause-ends g c =
    let s0 = g.N.Nor.state c.args.nor.now in
    let s1 = g.N.Nor.state c.loop-entry.nor in
    let s2 = g.N.Nor.state c.close_entry.new.nor in
    fails-as c.from_residual.result _ (λ _. SucceedsSettled s0 s2) (λ e. Refuses e s0 s2) c.from_residual.ensures.1
    (refuses-since _ s0 s1 s2 c.requires.ready c.loop-entry.invariant.kept c.in_err-close_entry.ensures.ends)
