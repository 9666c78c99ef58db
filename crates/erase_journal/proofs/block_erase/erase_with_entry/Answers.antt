use Rattle.std.proofs.lemmas.Result.{err_from_is_err_and}
use Rattle.nor_driver.specs.State.{Refuses}
use Rattle.nor_driver.proofs.CallLaws.{fails-as, kept-after, refuses-after}
use Rattle.erase_journal.specs.Steps.{SucceedsSettled}
use Rattle.erase_journal.proofs.EntryCalls.{interrupted-after}
use Rattle.erase_journal.specs.Journals.{unused}
use Rattle.erase_journal.specs.Spending.{once_used}
use Rattle.erase_journal.proofs.Uses.{used-then}
use Rattle.erase_journal.proofs.Lasting.{same-on}
use Rattle.erase_journal.proofs.Knowing.{used-known}
use Rattle.nor_driver.specs.State.{bits_in}
use Rattle.erase_journal.proofs.Torn.{interrupted-since}
use Rattle.erase_journal.proofs.block_erase.erase_with_entry.Goals as goal

pub returns-in_err-entry-clause-cut : goal.returns-in_err-entry-clause-cut
returns-in_err-entry-clause-cut g c is healthy =
    let p = err_from_is_err_and c.from_residual.result c.from_residual.ensures.1 in
    c.in_err-entry.ensures.cut (cc (p.1, p.2)) healthy

pub returns-in_err-finish_entry-clause-cut : goal.returns-in_err-finish_entry-clause-cut
returns-in_err-finish_entry-clause-cut g c is healthy =
    let p = err_from_is_err_and c.from_residual-in_err-finish_entry.result c.from_residual-in_err-finish_entry.ensures.1 in
    interrupted-after c.args.block (g.N.Nor.state c.args.nor.now).memory (g.N.Nor.state c.open_entry.new.nor).memory (g.N.Nor.state c.finish_entry.new.nor).memory c.in_ok-entry.ensures.erased (c.in_err-finish_entry.ensures.cut (cc (p.1, p.2))) c.requires.data c.requires.range

pub returns-clause-numbers : goal.returns-clause-numbers
returns-clause-numbers g c =
    same-on (once_used (unused (g.N.Nor.state c.args.nor.now).memory)) (unused (g.N.Nor.state c.open_entry.new.nor).memory) (unused (g.N.Nor.state c.finish_entry.new.nor).memory) c.in_ok-entry.ensures.used.numbers c.in_ok-finish_entry.ensures.uses.numbers

pub returns-clause-known : goal.returns-clause-known
returns-clause-known g c =
    let known = c.args.known.now in
    used-known known c.once_used.result c.in_ok-entry.entry (g.N.Nor.state c.args.nor.now).memory (g.N.Nor.state c.finish_entry.new.nor).memory (c.requires.known c.in_ok-entry.ensures.ends.ready) c.in_ok-entry.ensures.opened.within c.in_ok-entry.ensures.lowest
    (used-then c.in_ok-entry.entry (g.N.Nor.state c.args.nor.now).memory (g.N.Nor.state c.open_entry.new.nor).memory (g.N.Nor.state c.finish_entry.new.nor).memory c.in_ok-entry.ensures.opened.within c.in_ok-entry.ensures.used c.in_ok-finish_entry.ensures.uses)
    c.once_used.ensures.unused c.once_used.ensures.packed.0

pub returns-in_err-finish_entry-clause-ends : goal.returns-in_err-finish_entry-clause-ends
returns-in_err-finish_entry-clause-ends g c =
    let s0 = g.N.Nor.state c.args.nor.now in
    let s1 = g.N.Nor.state c.open_entry.new.nor in
    let s2 = g.N.Nor.state c.finish_entry.new.nor in
    fails-as c.from_residual-in_err-finish_entry.result _ (λ _. SucceedsSettled s0 s2) (λ e. Refuses e s0 s2) c.from_residual-in_err-finish_entry.ensures.1
    (refuses-after _ s0 s1 s2 c.in_ok-entry.ensures.ends c.in_err-finish_entry.ensures.ends)

pub returns-clause-ends : goal.returns-clause-ends
returns-clause-ends g c =
    let s0 = g.N.Nor.state c.args.nor.now in
    let s1 = g.N.Nor.state c.open_entry.new.nor in
    let s2 = g.N.Nor.state c.finish_entry.new.nor in
    record {
      ready = c.in_ok-entry.ensures.ends.ready;
      kept = kept-after s0 s1 s2 c.in_ok-entry.ensures.ends.kept c.in_ok-finish_entry.ensures.ends.kept;
      settled = c.in_ok-finish_entry.ensures.ends.settled;
    }

pub returns-in_err-finish_entry-clause-cut_bits : goal.returns-in_err-finish_entry-clause-cut_bits
returns-in_err-finish_entry-clause-cut_bits g c is settled h =
    let p = err_from_is_err_and c.from_residual-in_err-finish_entry.result c.from_residual-in_err-finish_entry.ensures.1 in
    interrupted-since (bits_in (g.N.Nor.state c.args.nor.now)) (bits_in (g.N.Nor.state c.open_entry.new.nor)) (bits_in (g.N.Nor.state c.finish_entry.new.nor)) c.args.block c.requires.data c.in_ok-entry.ensures.data
    (c.in_err-finish_entry.ensures.cut_bits (cc (p.1, p.2)) (c.in_ok-entry.ensures.stays h))

pub returns-in_err-entry-clause-opens : goal.returns-in_err-entry-clause-opens
returns-in_err-entry-clause-opens g c is =
    let p = err_from_is_err_and c.from_residual.result c.from_residual.ensures.1 in
    c.in_err-entry.ensures.opens (cc (p.1, p.2))

pub returns-in_err-finish_entry-clause-opens : goal.returns-in_err-finish_entry-clause-opens
returns-in_err-finish_entry-clause-opens g c is settled h =
    let p = err_from_is_err_and c.from_residual-in_err-finish_entry.result c.from_residual-in_err-finish_entry.ensures.1 in
    c.in_err-finish_entry.ensures.opens (cc (p.1, p.2)) (c.in_ok-entry.ensures.stays h)
