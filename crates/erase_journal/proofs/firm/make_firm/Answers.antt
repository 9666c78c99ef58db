use Rattle.std.proofs.Common.{subst, rules}
use Rattle.std.proofs.lemmas.Result.{err_from_is_err_and, on_ok_weaker}
use Rattle.nor_driver.specs.State.{bits_in, Refuses}
use Rattle.nor_driver.proofs.CallLaws.{fails-as, kept-after, ready-after, refuses-since}
use Rattle.erase_journal.specs.declared.unused.Unused.{Unused}
use Rattle.erase_journal.specs.Journals.{unused}
use Rattle.erase_journal.specs.Spending.{GivesUpEach}
use Rattle.erase_journal.specs.Steps.{SucceedsSettled}
use Rattle.erase_journal.proofs.Lasting.{same-unused}
use Rattle.erase_journal.proofs.Renewal.{same-blocks-on, stands-on}
use Rattle.erase_journal.proofs.SettledLaws.{settled-healthy, settles-since}
use Rattle.erase_journal.proofs.FirmJournals.{each-few-stays, each-recovered-stays, free-firm-stays, free-most, last-firm}
use Rattle.erase_journal.proofs.Sparing.{each-free, maintains-free, no-fewer-on, refills-all-free, spares-all-free}
use Rattle.erase_journal.proofs.WeakLaws.{are-firm-stays}
use Rattle.erase_journal.proofs.firm.make_firm.Goals as goal

pub returns-in_err-refill_each-clause-cut : goal.returns-in_err-refill_each-clause-cut
returns-in_err-refill_each-clause-cut g c is healthy =
    let m0 = (g.N.Nor.state c.args.nor.now).memory in
    let m3 = (g.N.Nor.state c.close_entries.new.nor).memory in
    let m4 = (g.N.Nor.state c.give_up_each.new.nor).memory in
    let m5 = (g.N.Nor.state c.refill_each.new.nor).memory in
    let s3 = rw (c.in_ok-program_pages_again.ensures.same, c.in_ok-program_super_again.ensures.same) at c.in_ok-close_entries.ensures.blocks in
    let s4 = same-blocks-on m0 m3 m4 s3 c.in_ok-give_up_each.ensures.blocks in
    let p = err_from_is_err_and c.from_residual-in_err-refill_each.result c.from_residual-in_err-refill_each.ensures.1 in
    stands-on m0 m4 m5 s4 (c.in_err-refill_each.ensures.cut (cc (p.1, p.2)))

pub returns-in_err-rest-clause-cut : goal.returns-in_err-rest-clause-cut
returns-in_err-rest-clause-cut g c is healthy =
    let m0 = (g.N.Nor.state c.args.nor.now).memory in
    let m3 = (g.N.Nor.state c.close_entries.new.nor).memory in
    let m4 = (g.N.Nor.state c.give_up_each.new.nor).memory in
    let m5 = (g.N.Nor.state c.refill_each.new.nor).memory in
    let m6 = (g.N.Nor.state c.rest.new.nor).memory in
    let s3 = rw (c.in_ok-program_pages_again.ensures.same, c.in_ok-program_super_again.ensures.same) at c.in_ok-close_entries.ensures.blocks in
    let s4 = same-blocks-on m0 m3 m4 s3 c.in_ok-give_up_each.ensures.blocks in
    let s5 = same-blocks-on m0 m4 m5 s4 c.in_ok-refill_each.ensures.blocks in
    let p = err_from_is_err_and c.from_residual-in_err-rest.result c.from_residual-in_err-rest.ensures.1 in
    stands-on m0 m5 m6 s5 (c.in_err-rest.ensures.cut (cc (p.1, p.2)) (settled-healthy m5 c.in_ok-refill_each.ensures.settled))

pub returns-in_err-spare_each-clause-cut : goal.returns-in_err-spare_each-clause-cut
returns-in_err-spare_each-clause-cut g c is healthy =
    let m0 = (g.N.Nor.state c.args.nor.now).memory in
    let m3 = (g.N.Nor.state c.close_entries.new.nor).memory in
    let m4 = (g.N.Nor.state c.give_up_each.new.nor).memory in
    let m5 = (g.N.Nor.state c.refill_each.new.nor).memory in
    let m6 = (g.N.Nor.state c.rest.new.nor).memory in
    let m7 = (g.N.Nor.state c.spare_each.new.nor).memory in
    let s3 = rw (c.in_ok-program_pages_again.ensures.same, c.in_ok-program_super_again.ensures.same) at c.in_ok-close_entries.ensures.blocks in
    let s4 = same-blocks-on m0 m3 m4 s3 c.in_ok-give_up_each.ensures.blocks in
    let s5 = same-blocks-on m0 m4 m5 s4 c.in_ok-refill_each.ensures.blocks in
    let s6 = same-blocks-on m0 m5 m6 s5 c.in_ok-rest.ensures.blocks in
    let p = err_from_is_err_and c.from_residual-in_err-spare_each.result c.from_residual-in_err-spare_each.ensures.1 in
    stands-on m0 m6 m7 s6 (c.in_err-spare_each.ensures.cut (cc (p.1, p.2)))

pub returns-clause-cut : goal.returns-clause-cut
returns-clause-cut g c is healthy =
    let m0 = (g.N.Nor.state c.args.nor.now).memory in
    let m3 = (g.N.Nor.state c.close_entries.new.nor).memory in
    let m4 = (g.N.Nor.state c.give_up_each.new.nor).memory in
    let m5 = (g.N.Nor.state c.refill_each.new.nor).memory in
    let m6 = (g.N.Nor.state c.rest.new.nor).memory in
    let m7 = (g.N.Nor.state c.spare_each.new.nor).memory in
    let m8 = (g.N.Nor.state c.give_up_entry.new.nor).memory in
    let s3 = rw (c.in_ok-program_pages_again.ensures.same, c.in_ok-program_super_again.ensures.same) at c.in_ok-close_entries.ensures.blocks in
    let s4 = same-blocks-on m0 m3 m4 s3 c.in_ok-give_up_each.ensures.blocks in
    let s5 = same-blocks-on m0 m4 m5 s4 c.in_ok-refill_each.ensures.blocks in
    let s6 = same-blocks-on m0 m5 m6 s5 c.in_ok-rest.ensures.blocks in
    let s7 = same-blocks-on m0 m6 m7 s6 c.in_ok-spare_each.ensures.blocks in
    stands-on m0 m7 m8 s7 (c.give_up_entry.ensures.cut is (settled-healthy m7 (c.in_ok-spare_each.ensures.restful.settled)))

pub returns-clause-spends : goal.returns-clause-spends
returns-clause-spends g c =
    let m0 = (g.N.Nor.state c.args.nor.now).memory in
    let m3 = (g.N.Nor.state c.close_entries.new.nor).memory in
    let m4 = (g.N.Nor.state c.give_up_each.new.nor).memory in
    let m5 = (g.N.Nor.state c.refill_each.new.nor).memory in
    let m6 = (g.N.Nor.state c.rest.new.nor).memory in
    let m7 = (g.N.Nor.state c.spare_each.new.nor).memory in
    let uses = rw (c.in_ok-program_pages_again.ensures.same, c.in_ok-program_super_again.ensures.same) at c.in_ok-close_entries.ensures.uses in
    on_ok_weaker c.give_up_entry.result (λ n. record {
      given = unused m4;
      full = unused m5;
      rest = unused m6;
      spared = unused m7;
      gives = subst (λ (u : Unused). GivesUpEach u (unused m4)) (same-unused (unused m0) (unused m3) uses.numbers) c.in_ok-give_up_each.ensures.gives;
      refills = c.in_ok-refill_each.ensures.refills;
      maintains = c.in_ok-rest.ensures.maintains (search rules);
      spares = c.in_ok-spare_each.ensures.spares;
      entry = n;
    }) c.give_up_entry.ensures.numbers

pub returns-in_err-close_entries-clause-ends : goal.returns-in_err-close_entries-clause-ends
returns-in_err-close_entries-clause-ends g c =
    let s0 = g.N.Nor.state c.args.nor.now in
    let s1 = g.N.Nor.state c.program_super_again.new.nor in
    let s2 = g.N.Nor.state c.program_pages_again.new.nor in
    let s3 = g.N.Nor.state c.close_entries.new.nor in
    let k2 = kept-after s0 s1 s2 c.in_ok-program_super_again.ensures.ends.kept c.in_ok-program_pages_again.ensures.kept in
    fails-as c.from_residual-in_err-close_entries.result _ (λ _. SucceedsSettled s0 s3) (λ e. Refuses e s0 s3) c.from_residual-in_err-close_entries.ensures.1
    (refuses-since _ s0 s2 s3 c.in_ok-program_super_again.ensures.ends.ready k2 c.in_err-close_entries.ensures.ends)

pub returns-in_err-give_up_each-clause-ends : goal.returns-in_err-give_up_each-clause-ends
returns-in_err-give_up_each-clause-ends g c =
    let s0 = g.N.Nor.state c.args.nor.now in
    let s1 = g.N.Nor.state c.program_super_again.new.nor in
    let s2 = g.N.Nor.state c.program_pages_again.new.nor in
    let s3 = g.N.Nor.state c.close_entries.new.nor in
    let s4 = g.N.Nor.state c.give_up_each.new.nor in
    let k2 = kept-after s0 s1 s2 c.in_ok-program_super_again.ensures.ends.kept c.in_ok-program_pages_again.ensures.kept in
    let k3 = kept-after s0 s2 s3 k2 c.in_ok-close_entries.ensures.ends.kept in
    fails-as c.from_residual-in_err-give_up_each.result _ (λ _. SucceedsSettled s0 s4) (λ e. Refuses e s0 s4) c.from_residual-in_err-give_up_each.ensures.1
    (refuses-since _ s0 s3 s4 c.in_ok-program_super_again.ensures.ends.ready k3 c.in_err-give_up_each.ensures.fails)

pub returns-in_err-refill_each-clause-ends : goal.returns-in_err-refill_each-clause-ends
returns-in_err-refill_each-clause-ends g c =
    let s0 = g.N.Nor.state c.args.nor.now in
    let s1 = g.N.Nor.state c.program_super_again.new.nor in
    let s2 = g.N.Nor.state c.program_pages_again.new.nor in
    let s3 = g.N.Nor.state c.close_entries.new.nor in
    let s4 = g.N.Nor.state c.give_up_each.new.nor in
    let s5 = g.N.Nor.state c.refill_each.new.nor in
    let k2 = kept-after s0 s1 s2 c.in_ok-program_super_again.ensures.ends.kept c.in_ok-program_pages_again.ensures.kept in
    let k3 = kept-after s0 s2 s3 k2 c.in_ok-close_entries.ensures.ends.kept in
    let k4 = kept-after s0 s3 s4 k3 c.in_ok-give_up_each.ensures.kept in
    fails-as c.from_residual-in_err-refill_each.result _ (λ _. SucceedsSettled s0 s5) (λ e. Refuses e s0 s5) c.from_residual-in_err-refill_each.ensures.1
    (refuses-since _ s0 s4 s5 c.in_ok-program_super_again.ensures.ends.ready k4 c.in_err-refill_each.ensures.fails)

pub returns-in_err-rest-clause-ends : goal.returns-in_err-rest-clause-ends
returns-in_err-rest-clause-ends g c =
    let s0 = g.N.Nor.state c.args.nor.now in
    let s1 = g.N.Nor.state c.program_super_again.new.nor in
    let s2 = g.N.Nor.state c.program_pages_again.new.nor in
    let s3 = g.N.Nor.state c.close_entries.new.nor in
    let s4 = g.N.Nor.state c.give_up_each.new.nor in
    let s5 = g.N.Nor.state c.refill_each.new.nor in
    let s6 = g.N.Nor.state c.rest.new.nor in
    let k2 = kept-after s0 s1 s2 c.in_ok-program_super_again.ensures.ends.kept c.in_ok-program_pages_again.ensures.kept in
    let k3 = kept-after s0 s2 s3 k2 c.in_ok-close_entries.ensures.ends.kept in
    let k4 = kept-after s0 s3 s4 k3 c.in_ok-give_up_each.ensures.kept in
    let k5 = kept-after s0 s4 s5 k4 c.in_ok-refill_each.ensures.kept in
    fails-as c.from_residual-in_err-rest.result _ (λ _. SucceedsSettled s0 s6) (λ e. Refuses e s0 s6) c.from_residual-in_err-rest.ensures.1
    (refuses-since _ s0 s5 s6 c.in_ok-program_super_again.ensures.ends.ready k5 c.in_err-rest.ensures.fails)

pub returns-in_err-spare_each-clause-ends : goal.returns-in_err-spare_each-clause-ends
returns-in_err-spare_each-clause-ends g c =
    let s0 = g.N.Nor.state c.args.nor.now in
    let s1 = g.N.Nor.state c.program_super_again.new.nor in
    let s2 = g.N.Nor.state c.program_pages_again.new.nor in
    let s3 = g.N.Nor.state c.close_entries.new.nor in
    let s4 = g.N.Nor.state c.give_up_each.new.nor in
    let s5 = g.N.Nor.state c.refill_each.new.nor in
    let s6 = g.N.Nor.state c.rest.new.nor in
    let s7 = g.N.Nor.state c.spare_each.new.nor in
    let k2 = kept-after s0 s1 s2 c.in_ok-program_super_again.ensures.ends.kept c.in_ok-program_pages_again.ensures.kept in
    let k3 = kept-after s0 s2 s3 k2 c.in_ok-close_entries.ensures.ends.kept in
    let k4 = kept-after s0 s3 s4 k3 c.in_ok-give_up_each.ensures.kept in
    let k5 = kept-after s0 s4 s5 k4 c.in_ok-refill_each.ensures.kept in
    let k6 = kept-after s0 s5 s6 k5 c.in_ok-rest.ensures.kept in
    fails-as c.from_residual-in_err-spare_each.result _ (λ _. SucceedsSettled s0 s7) (λ e. Refuses e s0 s7) c.from_residual-in_err-spare_each.ensures.1
    (refuses-since _ s0 s6 s7 c.in_ok-program_super_again.ensures.ends.ready k6 c.in_err-spare_each.ensures.fails)

pub returns-clause-ends : goal.returns-clause-ends
returns-clause-ends g c =
    let s0 = g.N.Nor.state c.args.nor.now in
    let s1 = g.N.Nor.state c.program_super_again.new.nor in
    let s2 = g.N.Nor.state c.program_pages_again.new.nor in
    let s3 = g.N.Nor.state c.close_entries.new.nor in
    let s4 = g.N.Nor.state c.give_up_each.new.nor in
    let s5 = g.N.Nor.state c.refill_each.new.nor in
    let s6 = g.N.Nor.state c.rest.new.nor in
    let s7 = g.N.Nor.state c.spare_each.new.nor in
    let s8 = g.N.Nor.state c.give_up_entry.new.nor in
    let k2 = kept-after s0 s1 s2 c.in_ok-program_super_again.ensures.ends.kept c.in_ok-program_pages_again.ensures.kept in
    let k3 = kept-after s0 s2 s3 k2 c.in_ok-close_entries.ensures.ends.kept in
    let k4 = kept-after s0 s3 s4 k3 c.in_ok-give_up_each.ensures.kept in
    let k5 = kept-after s0 s4 s5 k4 c.in_ok-refill_each.ensures.kept in
    let k6 = kept-after s0 s5 s6 k5 c.in_ok-rest.ensures.kept in
    let k7 = kept-after s0 s6 s7 k6 c.in_ok-spare_each.ensures.kept in
    settles-since c.give_up_entry.result s0 s7 s8 c.in_ok-program_super_again.ensures.ends.ready k7 c.give_up_entry.ensures.ends

pub returns-clause-blocks : goal.returns-clause-blocks
returns-clause-blocks g c =
    let m0 = (g.N.Nor.state c.args.nor.now).memory in
    let m3 = (g.N.Nor.state c.close_entries.new.nor).memory in
    let m4 = (g.N.Nor.state c.give_up_each.new.nor).memory in
    let m5 = (g.N.Nor.state c.refill_each.new.nor).memory in
    let m6 = (g.N.Nor.state c.rest.new.nor).memory in
    let m7 = (g.N.Nor.state c.spare_each.new.nor).memory in
    let m8 = (g.N.Nor.state c.give_up_entry.new.nor).memory in
    let b3 = rw (c.in_ok-program_pages_again.ensures.same, c.in_ok-program_super_again.ensures.same) at c.in_ok-close_entries.ensures.blocks in
    let b4 = same-blocks-on m0 m3 m4 b3 c.in_ok-give_up_each.ensures.blocks in
    let b5 = same-blocks-on m0 m4 m5 b4 c.in_ok-refill_each.ensures.blocks in
    let b6 = same-blocks-on m0 m5 m6 b5 c.in_ok-rest.ensures.blocks in
    let b7 = same-blocks-on m0 m6 m7 b6 c.in_ok-spare_each.ensures.blocks in
    on_ok_weaker c.give_up_entry.result (λ b. same-blocks-on m0 m7 m8 b7 b) c.give_up_entry.ensures.blocks

pub returns-clause-firm : goal.returns-clause-firm
returns-clause-firm g c h =
    let s0 = g.N.Nor.state c.args.nor.now in
    let s1 = g.N.Nor.state c.program_super_again.new.nor in
    let s2 = g.N.Nor.state c.program_pages_again.new.nor in
    let s3 = g.N.Nor.state c.close_entries.new.nor in
    let s4 = g.N.Nor.state c.give_up_each.new.nor in
    let s5 = g.N.Nor.state c.refill_each.new.nor in
    let s6 = g.N.Nor.state c.rest.new.nor in
    let s7 = g.N.Nor.state c.spare_each.new.nor in
    let ready = c.in_ok-program_super_again.ensures.ends.ready in
    let k2 = kept-after s0 s1 s2 c.in_ok-program_super_again.ensures.ends.kept c.in_ok-program_pages_again.ensures.kept in
    let k3 = kept-after s0 s2 s3 k2 c.in_ok-close_entries.ensures.ends.kept in
    let k4 = c.in_ok-give_up_each.ensures.kept in
    let k5 = c.in_ok-refill_each.ensures.kept in
    let k6 = c.in_ok-rest.ensures.kept in
    let k7 = c.in_ok-spare_each.ensures.kept in
    let k35 = kept-after s3 s4 s5 k4 k5 in
    let k36 = kept-after s3 s5 s6 k35 k6 in
    let k37 = kept-after s3 s6 s7 k36 k7 in
    let ready6 = ready-after s0 s6 (kept-after s0 s3 s6 k3 k36) ready in
    let h0 = c.requires.settled ready in
    let h3 = c.in_ok-close_entries.ensures.ends.settled in
    let h4 = c.in_ok-give_up_each.ensures.settled in
    let h5 = c.in_ok-refill_each.ensures.settled in
    let h6 = (c.in_ok-rest.ensures.restful ready6).settled in
    let h7 = c.in_ok-spare_each.ensures.restful.settled in
    let v3 = each-recovered-stays (bits_in s0) (bits_in s3) k3.bits h0 h3 h.votes in
    let v4 = c.in_ok-give_up_each.ensures.firm v3 in
    let v5 = each-few-stays (bits_in s4) (bits_in s5) k5.bits h4 h5 v4 in
    let v6 = each-few-stays (bits_in s5) (bits_in s6) k6.bits h5 h6 v5 in
    let v7 = c.in_ok-spare_each.ensures.firm v6 in
    let uses = rw (c.in_ok-program_pages_again.ensures.same, c.in_ok-program_super_again.ensures.same) at c.in_ok-close_entries.ensures.uses in
    let free = free-firm-stays (bits_in s0) (bits_in s3) k3.bits uses.entries h.entries in
    let n4 = each-free (unused s3.memory) (unused s4.memory) c.in_ok-give_up_each.ensures.gives in
    let n5 = refills-all-free (unused s5.memory) (unused s4.memory) (free-most s4.memory) c.in_ok-refill_each.ensures.refills in
    let n6 = maintains-free (unused s6.memory) (unused s5.memory) (free-most s5.memory) (c.in_ok-rest.ensures.maintains (ready-after s0 s5 (kept-after s0 s3 s5 k3 k35) ready)) in
    let n7 = spares-all-free (unused s7.memory) (unused s6.memory) (free-most s6.memory) c.in_ok-spare_each.ensures.spares in
    last-firm c.give_up_entry.result (bits_in s3) s7 (g.N.Nor.state c.give_up_entry.new.nor) c.give_up_entry.ensures.ends c.give_up_entry.ensures.gives h7
    (are-firm-stays (bits_in s0) (bits_in s7) 0 16 (kept-after s0 s3 s7 k3 k37).bits h.superblock) v7 k37.bits c.in_ok-close_entries.ensures.closed free (no-fewer-on s3.memory s4.memory s5.memory s6.memory s7.memory n4 n5 n6 n7)
