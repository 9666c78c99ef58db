use Rattle.std.proofs.Common.{◌∙◌, arith}
use Rattle.nor_driver.specs.State.{bits_in, Refuses}
use Rattle.nor_driver.proofs.CallLaws.{fails-as, kept-after, ready-after, refuses-since}
use Rattle.erase_journal.specs.Steps.{SucceedsSettled}
use Rattle.erase_journal.proofs.Renewal.{same-blocks-on}
use Rattle.erase_journal.proofs.Uses.{keeps-on}
use Rattle.erase_journal.proofs.FirmJournals.{page-good}
use Rattle.erase_journal.proofs.Torn.{same-after}
use Rattle.erase_journal.proofs.firm.close_entries.Goals as goal

pub returns-in_err-close_page-clause-ends : goal.returns-in_err-close_page-clause-ends
returns-in_err-close_page-clause-ends g c =
    let s0 = g.N.Nor.state c.args.nor.now in
    let s1 = g.N.Nor.state c.loop-page.nor in
    let s2 = g.N.Nor.state c.close_page.new.nor in
    fails-as c.from_residual.result _ (λ _. SucceedsSettled s0 s2) (λ e. Refuses e s0 s2) c.from_residual.ensures.1
    (refuses-since _ s0 s1 s2 c.requires.ready c.loop-page.invariant.kept c.in_err-close_page.ensures.ends)

pub loop-page-preserved : goal.loop-page-preserved
loop-page-preserved g c =
    let s0 = g.N.Nor.state c.args.nor.now in
    let s1 = g.N.Nor.state c.loop-page.nor in
    let s2 = g.N.Nor.state c.close_page.new.nor in
    record {
      size = c.in_ok-close_page.ensures.size ∙ c.loop-page.invariant.size;
      ready = ready-after s1 s2 c.in_ok-close_page.ensures.ends.kept c.loop-page.invariant.ready;
      settled = c.in_ok-close_page.ensures.ends.settled;
      blocks = same-blocks-on s0.memory s1.memory s2.memory c.loop-page.invariant.blocks c.in_ok-close_page.ensures.blocks;
      uses = keeps-on s0.memory s1.memory s2.memory c.loop-page.invariant.uses c.in_ok-close_page.ensures.uses;
      closed = page-good (bits_in s1) (bits_in s2) c.loop-page.page c.in_ok-close_page.ensures.ends.kept.bits c.in_ok-close_page.ensures.clears c.in_ok-close_page.ensures.uses.entries c.in_ok-close_page.ensures.closed c.loop-page-test.true c.loop-page.invariant.closed;
      aside = λ i from. same-after (bits_in s0) (bits_in s1) (bits_in s2) i (c.loop-page.invariant.aside i from) (c.close_page.ensures.data i from);
      kept = kept-after s0 s1 s2 c.loop-page.invariant.kept c.in_ok-close_page.ensures.ends.kept;
    }

pub returns-clause-closed : goal.returns-clause-closed
returns-clause-closed g c i low used = c.loop-page.invariant.closed i (omega (arith, c.loop-page-test.false, low)) used

pub returns-in_err-close_page-clause-data : goal.returns-in_err-close_page-clause-data
returns-in_err-close_page-clause-data g c i from = same-after (bits_in (g.N.Nor.state c.args.nor.now)) (bits_in (g.N.Nor.state c.loop-page.nor)) (bits_in (g.N.Nor.state c.close_page.new.nor)) i (c.loop-page.invariant.aside i from) (c.close_page.ensures.data i from)

pub returns-clause-data : goal.returns-clause-data
returns-clause-data g c = c.loop-page.invariant.aside
