use Rattle.std.proofs.Common.{ap, ◌∙◌, subst, rules}
use Rattle.nor_driver.specs.State.{Succeeds, Refuses}
use Rattle.nor_driver.proofs.CallLaws.{fails-as, kept-after, refuses-since}
use Rattle.erase_journal.specs.declared.phase.ErasePhase.TheVariants.{Doomed}
use Rattle.erase_journal.specs.Votes.{once_erased}
use Rattle.erase_journal.specs.Journals.{settled, unused, unused_of}
use Rattle.erase_journal.specs.Spending.{Maintains, at_rest}
use Rattle.erase_journal.proofs.Lasting.{Last-erased, same-on, same-refl}
use Rattle.erase_journal.proofs.Uses.{maintains-on}
use Rattle.std.proofs.lemmas.Result.{err_from_is_err_and}
use Rattle.nor_driver.specs.State.{bits_in}
use Rattle.erase_journal.proofs.FirmJournals.{firm-journals-stay}
use Rattle.erase_journal.proofs.Standing.{same-loses}
use Rattle.chip_model.specs.Memory.{byte}
use Rattle.erase_journal.proofs.Torn.{same-after}
use Rattle.erase_journal.proofs.Unopened.{same-opens}
use Rattle.erase_journal.proofs.maintain.maintain.Goals as goal

pub doom-requires-clause-may : goal.doom-requires-clause-may
doom-requires-clause-may g c =
    let u = unused (g.N.Nor.state c.loop-journal.nor).memory in
    let e = c.unused.ensures ∙ ap (λ s. unused_of s) c.loop-journal.invariant.tally in
    let tired = rw c.in-Some.is at (rw e at c.lowest_tired.ensures) in
    let settled = c.loop-journal.invariant.settled in
    record { settled = settled; lasts = Last-erased c.in-Some.journal u settled.sound.lasts tired }

pub loop-journal-preserved : goal.loop-journal-preserved
loop-journal-preserved g c =
    let u = unused (g.N.Nor.state c.loop-journal.nor).memory in
    let v = unused (g.N.Nor.state c.renew.new.nor).memory in
    let e = c.unused.ensures ∙ ap (λ s. unused_of s) c.loop-journal.invariant.tally in
    let tired = rw c.in-Some.is at (rw e at c.lowest_tired.ensures) in
    let n = same-on (once_erased c.in-Some.journal u) (settled (Doomed c.in-Some.journal) (unused (g.N.Nor.state c.doom.new.nor).memory)) v c.in_ok-doom.ensures.ok.numbers c.in_ok-renew.ensures.ok.numbers in
    let same = ap unused c.in_ok-tally-2.ensures.same in
    let s0 = g.N.Nor.state c.args.nor.now in
    let s1 = g.N.Nor.state c.loop-journal.nor in
    let s2 = g.N.Nor.state c.doom.new.nor in
    let s3 = g.N.Nor.state c.renew.new.nor in
    let s4 = g.N.Nor.state c.read_tally-in-Some.new.nor in
    record {
      size = search rules;
      settled = search rules;
      blocks = search rules;
      maintains = λ rest h. c.loop-journal.invariant.maintains rest (maintains-on rest u v c.in-Some.journal tired n (subst (λ w. Maintains rest w) same h));
      since = kept-after s0 s3 s4 (kept-after s0 s2 s3 (kept-after s0 s1 s2 c.loop-journal.invariant.since c.in_ok-doom.ensures.ends.kept) c.in_ok-renew.ensures.ends.kept) c.in_ok-tally-2.ensures.ends.kept;
      aside = λ i from. same-after (bits_in s0) (bits_in s3) (bits_in s4) i (same-after (bits_in s0) (bits_in s2) (bits_in s3) i (same-after (bits_in s0) (bits_in s1) (bits_in s2) i (c.loop-journal.invariant.aside i from) (c.in_ok-doom.ensures.data i from)) (c.in_ok-renew.ensures.data i from)) (ap (λ m. byte m i) c.in_ok-tally-2.ensures.same, ap (λ m. byte m i) c.in_ok-tally-2.ensures.weak);
      tally = search rules;
    }

pub returns-clause-maintains : goal.returns-clause-maintains
returns-clause-maintains g c =
    let u = unused (g.N.Nor.state c.loop-journal.nor).memory in
    let e = c.unused.ensures ∙ ap (λ s. unused_of s) c.loop-journal.invariant.tally in
    let r = rw c.in_default.is at (rw e at c.lowest_tired.ensures) in
    c.loop-journal.invariant.maintains u (at_rest u r.0 r.1 r.2 (same-refl u))

pub returns-in_err-doom-clause-ends : goal.returns-in_err-doom-clause-ends
returns-in_err-doom-clause-ends g c =
    let s0 = g.N.Nor.state c.args.nor.now in
    let s1 = g.N.Nor.state c.loop-journal.nor in
    let s2 = g.N.Nor.state c.doom.new.nor in
    fails-as c.from_residual-in_err-doom.result _ (λ _. Succeeds s0 s2) (λ e. Refuses e s0 s2) c.from_residual-in_err-doom.ensures.1
    (refuses-since _ s0 s1 s2 c.in_ok-tally.ensures.ends.ready c.loop-journal.invariant.since c.in_err-doom.ensures.ends)

pub returns-in_err-renew-clause-ends : goal.returns-in_err-renew-clause-ends
returns-in_err-renew-clause-ends g c =
    let s0 = g.N.Nor.state c.args.nor.now in
    let s1 = g.N.Nor.state c.loop-journal.nor in
    let s2 = g.N.Nor.state c.doom.new.nor in
    let s3 = g.N.Nor.state c.renew.new.nor in
    let k = kept-after s0 s1 s2 c.loop-journal.invariant.since c.in_ok-doom.ensures.ends.kept in
    fails-as c.from_residual-in_err-renew.result _ (λ _. Succeeds s0 s3) (λ e. Refuses e s0 s3) c.from_residual-in_err-renew.ensures.1
    (refuses-since _ s0 s2 s3 c.in_ok-tally.ensures.ends.ready k c.in_err-renew.ensures.ends)

pub returns-in_err-tally-2-clause-ends : goal.returns-in_err-tally-2-clause-ends
returns-in_err-tally-2-clause-ends g c =
    let s0 = g.N.Nor.state c.args.nor.now in
    let s1 = g.N.Nor.state c.loop-journal.nor in
    let s2 = g.N.Nor.state c.doom.new.nor in
    let s3 = g.N.Nor.state c.renew.new.nor in
    let s4 = g.N.Nor.state c.read_tally-in-Some.new.nor in
    let k = kept-after s0 s2 s3 (kept-after s0 s1 s2 c.loop-journal.invariant.since c.in_ok-doom.ensures.ends.kept) c.in_ok-renew.ensures.ends.kept in
    fails-as c.from_residual-in_err-tally-2.result _ (λ _. Succeeds s0 s4) (λ e. Refuses e s0 s4) c.from_residual-in_err-tally-2.ensures.1
    (refuses-since _ s0 s3 s4 c.in_ok-tally.ensures.ends.ready k c.in_err-tally-2.ensures.ends)

pub returns-in_err-tally-clause-loses : goal.returns-in_err-tally-clause-loses
returns-in_err-tally-clause-loses g c is = same-loses (g.N.Nor.state c.args.nor.now) (g.N.Nor.state c.read_tally.new.nor) c.in_err-tally.ensures.same c.in_err-tally.ensures.weak

pub returns-in_err-doom-clause-loses : goal.returns-in_err-doom-clause-loses
returns-in_err-doom-clause-loses g c is settled h =
    let p = err_from_is_err_and c.from_residual-in_err-doom.result c.from_residual-in_err-doom.ensures.1 in
    let h1 = firm-journals-stay (bits_in (g.N.Nor.state c.args.nor.now)) (bits_in (g.N.Nor.state c.loop-journal.nor)) c.loop-journal.invariant.since.bits settled c.loop-journal.invariant.settled h in
    c.in_err-doom.ensures.loses (cc (p.1, p.2)) h1

pub returns-in_err-renew-clause-loses : goal.returns-in_err-renew-clause-loses
returns-in_err-renew-clause-loses g c is settled h =
    let p = err_from_is_err_and c.from_residual-in_err-renew.result c.from_residual-in_err-renew.ensures.1 in
    let h1 = firm-journals-stay (bits_in (g.N.Nor.state c.args.nor.now)) (bits_in (g.N.Nor.state c.loop-journal.nor)) c.loop-journal.invariant.since.bits settled c.loop-journal.invariant.settled h in
    c.in_err-renew.ensures.loses (cc (p.1, p.2)) (c.in_ok-doom.ensures.stays h1)

pub returns-in_err-tally-2-clause-loses : goal.returns-in_err-tally-2-clause-loses
returns-in_err-tally-2-clause-loses g c is settled h =
    let h1 = firm-journals-stay (bits_in (g.N.Nor.state c.args.nor.now)) (bits_in (g.N.Nor.state c.loop-journal.nor)) c.loop-journal.invariant.since.bits settled c.loop-journal.invariant.settled h in
    same-loses (g.N.Nor.state c.renew.new.nor) (g.N.Nor.state c.read_tally-in-Some.new.nor) c.in_err-tally-2.ensures.same c.in_err-tally-2.ensures.weak
    (record { sound = c.in_ok-renew.ensures.ok.sound; none = c.in_ok-renew.ensures.none }) (c.in_ok-renew.ensures.stays (c.in_ok-doom.ensures.stays h1))

pub returns-in_err-doom-clause-data : goal.returns-in_err-doom-clause-data
returns-in_err-doom-clause-data g c i from = same-after (bits_in (g.N.Nor.state c.args.nor.now)) (bits_in (g.N.Nor.state c.loop-journal.nor)) (bits_in (g.N.Nor.state c.doom.new.nor)) i (c.loop-journal.invariant.aside i from) (c.doom.ensures.data i from)

pub returns-in_err-renew-clause-data : goal.returns-in_err-renew-clause-data
returns-in_err-renew-clause-data g c i from =
    let s0 = bits_in (g.N.Nor.state c.args.nor.now) in
    let s1 = bits_in (g.N.Nor.state c.loop-journal.nor) in
    let s2 = bits_in (g.N.Nor.state c.doom.new.nor) in
    let s3 = bits_in (g.N.Nor.state c.renew.new.nor) in
    same-after s0 s2 s3 i (same-after s0 s1 s2 i (c.loop-journal.invariant.aside i from) (c.doom.ensures.data i from)) (c.renew.ensures.data i from)

pub returns-in_err-tally-2-clause-data : goal.returns-in_err-tally-2-clause-data
returns-in_err-tally-2-clause-data g c i from =
    let s0 = bits_in (g.N.Nor.state c.args.nor.now) in
    let s1 = bits_in (g.N.Nor.state c.loop-journal.nor) in
    let s2 = bits_in (g.N.Nor.state c.doom.new.nor) in
    let s3 = bits_in (g.N.Nor.state c.renew.new.nor) in
    let s4 = bits_in (g.N.Nor.state c.read_tally-in-Some.new.nor) in
    same-after s0 s3 s4 i (same-after s0 s2 s3 i (same-after s0 s1 s2 i (c.loop-journal.invariant.aside i from) (c.doom.ensures.data i from)) (c.renew.ensures.data i from)) (ap (λ m. byte m i) c.read_tally-in-Some.ensures.same, ap (λ m. byte m i) c.read_tally-in-Some.ensures.weak)

pub returns-clause-data : goal.returns-clause-data
returns-clause-data g c = c.loop-journal.invariant.aside

pub returns-in_err-tally-clause-opens : goal.returns-in_err-tally-clause-opens
returns-in_err-tally-clause-opens g c is = same-opens (g.N.Nor.state c.args.nor.now) (g.N.Nor.state c.read_tally.new.nor) c.in_err-tally.ensures.same c.in_err-tally.ensures.weak

pub returns-in_err-doom-clause-opens : goal.returns-in_err-doom-clause-opens
returns-in_err-doom-clause-opens g c is settled h =
    let p = err_from_is_err_and c.from_residual-in_err-doom.result c.from_residual-in_err-doom.ensures.1 in
    let h1 = firm-journals-stay (bits_in (g.N.Nor.state c.args.nor.now)) (bits_in (g.N.Nor.state c.loop-journal.nor)) c.loop-journal.invariant.since.bits settled c.loop-journal.invariant.settled h in
    c.in_err-doom.ensures.opens (cc (p.1, p.2)) h1

pub returns-in_err-renew-clause-opens : goal.returns-in_err-renew-clause-opens
returns-in_err-renew-clause-opens g c is settled h =
    let p = err_from_is_err_and c.from_residual-in_err-renew.result c.from_residual-in_err-renew.ensures.1 in
    let h1 = firm-journals-stay (bits_in (g.N.Nor.state c.args.nor.now)) (bits_in (g.N.Nor.state c.loop-journal.nor)) c.loop-journal.invariant.since.bits settled c.loop-journal.invariant.settled h in
    c.in_err-renew.ensures.opens (cc (p.1, p.2)) (c.in_ok-doom.ensures.stays h1)

pub returns-in_err-tally-2-clause-opens : goal.returns-in_err-tally-2-clause-opens
returns-in_err-tally-2-clause-opens g c is settled h =
    let h1 = firm-journals-stay (bits_in (g.N.Nor.state c.args.nor.now)) (bits_in (g.N.Nor.state c.loop-journal.nor)) c.loop-journal.invariant.since.bits settled c.loop-journal.invariant.settled h in
    same-opens (g.N.Nor.state c.renew.new.nor) (g.N.Nor.state c.read_tally-in-Some.new.nor) c.in_err-tally-2.ensures.same c.in_err-tally-2.ensures.weak
    (record { sound = c.in_ok-renew.ensures.ok.sound; none = c.in_ok-renew.ensures.none }) (c.in_ok-renew.ensures.stays (c.in_ok-doom.ensures.stays h1))
