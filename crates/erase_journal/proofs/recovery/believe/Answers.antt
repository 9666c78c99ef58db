use Rattle.std.proofs.lemmas.Result.{IfErr-weaker, on_ok_weaker}
use Rattle.nor_driver.specs.State.{bits_in, Refuses}
use Rattle.nor_driver.proofs.CallLaws.{refuses-since}
use Rattle.nor_layout.specs.Journals.{journal_at}
use Rattle.erase_journal.proofs.WeakLaws.{zeros-firm-stay}
use Rattle.erase_journal.proofs.recovery.believe.Goals as goal

pub returns-else-opened-eq0-clause-firm : goal.returns-else-opened-eq0-clause-firm
returns-else-opened-eq0-clause-firm g c = λ is.
    let s1 = g.N.Nor.state c.program_votes_again.new.nor in
    let s2 = g.N.Nor.state c.program_pages_again.new.nor in
    on_ok_weaker c.program_pages_again.result
    (λ kept. λ j. zeros-firm-stay (bits_in s1) (bits_in s2) (journal_at j) 2048 kept.bits c.program_pages_again.ensures.same (c.in_ok-program_votes_again-in-Firm.ensures.firm j))
    c.program_pages_again.ensures.kept

pub returns-else-opened-eq0-clause-fails : goal.returns-else-opened-eq0-clause-fails
returns-else-opened-eq0-clause-fails g c =
    let s0 = g.N.Nor.state c.args.nor.now in
    let s1 = g.N.Nor.state c.program_votes_again.new.nor in
    let s2 = g.N.Nor.state c.program_pages_again.new.nor in
    IfErr-weaker c.program_pages_again.result (λ e. Refuses e s1 s2) (λ e. Refuses e s0 s2) (λ e r. refuses-since e s0 s1 s2 c.requires.ready c.in_ok-program_votes_again-in-Firm.ensures.kept r)
    c.program_pages_again.ensures.fails
