use Rattle.nor_driver.specs.State.{Succeeds, Refuses}
use Rattle.nor_driver.proofs.CallLaws.{fails-as, refuses-after, succeeds-after}
use Rattle.erase_journal.proofs.read.read_tally.Goals as goal

pub returns-in_err-j1_for_2-clause-ends : goal.returns-in_err-j1_for_2-clause-ends
returns-in_err-j1_for_2-clause-ends g c =
    let s0 = g.N.Nor.state c.args.nor.now in
    let s1 = g.N.Nor.state c.read_votes.new.nor in
    let s2 = g.N.Nor.state c.read_votes-2.new.nor in
    let d1 = c.in_ok-j0_for_1.ensures.ends in
    let d2 = succeeds-after s0 s1 s2 d1 c.in_ok-j0_for_2.ensures.ends in
    let s3 = g.N.Nor.state c.read_votes-3.new.nor in
    fails-as c.from_residual-in_err-j1_for_2.result _ (λ _. Succeeds s0 s3) (λ e. Refuses e s0 s3) c.from_residual-in_err-j1_for_2.ensures.1
    (refuses-after _ s0 s2 s3 d2 c.in_err-j1_for_2.ensures.ends)

pub returns-in_err-j1_for_0-clause-ends : goal.returns-in_err-j1_for_0-clause-ends
returns-in_err-j1_for_0-clause-ends g c =
    let s0 = g.N.Nor.state c.args.nor.now in
    let s1 = g.N.Nor.state c.read_votes.new.nor in
    let s2 = g.N.Nor.state c.read_votes-2.new.nor in
    let s3 = g.N.Nor.state c.read_votes-3.new.nor in
    let d1 = c.in_ok-j0_for_1.ensures.ends in
    let d2 = succeeds-after s0 s1 s2 d1 c.in_ok-j0_for_2.ensures.ends in
    let d3 = succeeds-after s0 s2 s3 d2 c.in_ok-j1_for_2.ensures.ends in
    let s4 = g.N.Nor.state c.read_votes-4.new.nor in
    fails-as c.from_residual-in_err-j1_for_0.result _ (λ _. Succeeds s0 s4) (λ e. Refuses e s0 s4) c.from_residual-in_err-j1_for_0.ensures.1
    (refuses-after _ s0 s3 s4 d3 c.in_err-j1_for_0.ensures.ends)

pub returns-in_err-j2_for_0-clause-ends : goal.returns-in_err-j2_for_0-clause-ends
returns-in_err-j2_for_0-clause-ends g c =
    let s0 = g.N.Nor.state c.args.nor.now in
    let s1 = g.N.Nor.state c.read_votes.new.nor in
    let s2 = g.N.Nor.state c.read_votes-2.new.nor in
    let s3 = g.N.Nor.state c.read_votes-3.new.nor in
    let s4 = g.N.Nor.state c.read_votes-4.new.nor in
    let d1 = c.in_ok-j0_for_1.ensures.ends in
    let d2 = succeeds-after s0 s1 s2 d1 c.in_ok-j0_for_2.ensures.ends in
    let d3 = succeeds-after s0 s2 s3 d2 c.in_ok-j1_for_2.ensures.ends in
    let d4 = succeeds-after s0 s3 s4 d3 c.in_ok-j1_for_0.ensures.ends in
    let s5 = g.N.Nor.state c.read_votes-5.new.nor in
    fails-as c.from_residual-in_err-j2_for_0.result _ (λ _. Succeeds s0 s5) (λ e. Refuses e s0 s5) c.from_residual-in_err-j2_for_0.ensures.1
    (refuses-after _ s0 s4 s5 d4 c.in_err-j2_for_0.ensures.ends)

pub returns-in_err-j2_for_1-clause-ends : goal.returns-in_err-j2_for_1-clause-ends
returns-in_err-j2_for_1-clause-ends g c =
    let s0 = g.N.Nor.state c.args.nor.now in
    let s1 = g.N.Nor.state c.read_votes.new.nor in
    let s2 = g.N.Nor.state c.read_votes-2.new.nor in
    let s3 = g.N.Nor.state c.read_votes-3.new.nor in
    let s4 = g.N.Nor.state c.read_votes-4.new.nor in
    let s5 = g.N.Nor.state c.read_votes-5.new.nor in
    let d1 = c.in_ok-j0_for_1.ensures.ends in
    let d2 = succeeds-after s0 s1 s2 d1 c.in_ok-j0_for_2.ensures.ends in
    let d3 = succeeds-after s0 s2 s3 d2 c.in_ok-j1_for_2.ensures.ends in
    let d4 = succeeds-after s0 s3 s4 d3 c.in_ok-j1_for_0.ensures.ends in
    let d5 = succeeds-after s0 s4 s5 d4 c.in_ok-j2_for_0.ensures.ends in
    let s6 = g.N.Nor.state c.read_votes-6.new.nor in
    fails-as c.from_residual-in_err-j2_for_1.result _ (λ _. Succeeds s0 s6) (λ e. Refuses e s0 s6) c.from_residual-in_err-j2_for_1.ensures.1
    (refuses-after _ s0 s5 s6 d5 c.in_err-j2_for_1.ensures.ends)

pub returns-in_err-entries-clause-ends : goal.returns-in_err-entries-clause-ends
returns-in_err-entries-clause-ends g c =
    let s0 = g.N.Nor.state c.args.nor.now in
    let s1 = g.N.Nor.state c.read_votes.new.nor in
    let s2 = g.N.Nor.state c.read_votes-2.new.nor in
    let s3 = g.N.Nor.state c.read_votes-3.new.nor in
    let s4 = g.N.Nor.state c.read_votes-4.new.nor in
    let s5 = g.N.Nor.state c.read_votes-5.new.nor in
    let s6 = g.N.Nor.state c.read_votes-6.new.nor in
    let d1 = c.in_ok-j0_for_1.ensures.ends in
    let d2 = succeeds-after s0 s1 s2 d1 c.in_ok-j0_for_2.ensures.ends in
    let d3 = succeeds-after s0 s2 s3 d2 c.in_ok-j1_for_2.ensures.ends in
    let d4 = succeeds-after s0 s3 s4 d3 c.in_ok-j1_for_0.ensures.ends in
    let d5 = succeeds-after s0 s4 s5 d4 c.in_ok-j2_for_0.ensures.ends in
    let d6 = succeeds-after s0 s5 s6 d5 c.in_ok-j2_for_1.ensures.ends in
    let s7 = g.N.Nor.state c.read_entries.new.nor in
    fails-as c.from_residual-in_err-entries.result _ (λ _. Succeeds s0 s7) (λ e. Refuses e s0 s7) c.from_residual-in_err-entries.ensures.1
    (refuses-after _ s0 s6 s7 d6 c.in_err-entries.ensures.ends)

pub returns-clause-ends : goal.returns-clause-ends
returns-clause-ends g c =
    let s0 = g.N.Nor.state c.args.nor.now in
    let s1 = g.N.Nor.state c.read_votes.new.nor in
    let s2 = g.N.Nor.state c.read_votes-2.new.nor in
    let s3 = g.N.Nor.state c.read_votes-3.new.nor in
    let s4 = g.N.Nor.state c.read_votes-4.new.nor in
    let s5 = g.N.Nor.state c.read_votes-5.new.nor in
    let s6 = g.N.Nor.state c.read_votes-6.new.nor in
    let s7 = g.N.Nor.state c.read_entries.new.nor in
    let d1 = c.in_ok-j0_for_1.ensures.ends in
    let d2 = succeeds-after s0 s1 s2 d1 c.in_ok-j0_for_2.ensures.ends in
    let d3 = succeeds-after s0 s2 s3 d2 c.in_ok-j1_for_2.ensures.ends in
    let d4 = succeeds-after s0 s3 s4 d3 c.in_ok-j1_for_0.ensures.ends in
    let d5 = succeeds-after s0 s4 s5 d4 c.in_ok-j2_for_0.ensures.ends in
    let d6 = succeeds-after s0 s5 s6 d5 c.in_ok-j2_for_1.ensures.ends in
    let d7 = succeeds-after s0 s6 s7 d6 c.in_ok-entries.ensures.ends in
    d7
