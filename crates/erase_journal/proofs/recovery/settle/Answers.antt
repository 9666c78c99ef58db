use Rattle.std.proofs.Common.{◌≡◌, ◌<◌, List, ℕ, sym, subst, ap, ◌∙◌}
use Rattle.std.specs.Int.{bit_at}
use Rattle.chip_model.specs.Memory.{byte}
use Rattle.nor_driver.specs.State.{NorState, bits_in, Succeeds, Refuses}
use Rattle.nor_driver.proofs.Firmer.{firmer-on}
use Rattle.erase_journal.specs.Journals.{IsSettled, entries_for}
use Rattle.erase_journal.proofs.Blocks.{opened-idle}
use Rattle.erase_journal.proofs.Still.{firmer-still}
use Rattle.nor_driver.proofs.CallLaws.{fails-as, kept-after, refuses-after, refuses-since}
use Rattle.erase_journal.proofs.Resuming.{continued}
use Rattle.erase_journal.proofs.WeakLaws.{firm-stays}
use Rattle.erase_journal.proofs.recovery.settle.Goals as goal

pub returns-clause-continues : goal.returns-clause-continues
returns-clause-continues g c =
    continued c.args.firmness c.in_ok-unused.unused (g.N.Nor.state c.args.nor.now).memory (g.N.Nor.state c.refresh.new.nor).memory (g.N.Nor.state c.resume.new.nor).memory
    c.in-Some.phase (rw c.in_ok-tally.ensures.tally at c.in-Some.ensures) (rw (c.in_ok-believe.ensures.same, c.in_ok-tally.ensures.same) at c.in_ok-unused.ensures.spends) c.in_ok-unused.ensures.numbers c.in_ok-resume.ensures.numbers

pub returns-clause-settles : goal.returns-clause-settles
returns-clause-settles g c = λ firm.
    let s0 = g.N.Nor.state c.args.nor.now in
    let s2 = g.N.Nor.state c.believe.new.nor in
    let s3 = g.N.Nor.state c.refresh.new.nor in
    let s4 = g.N.Nor.state c.resume.new.nor in
    let since = kept-after s2 s3 s4 c.in_ok-unused.ensures.kept c.in_ok-resume.ensures.ends.kept in
    let same : s2.memory ≡ s0.memory = c.in_ok-believe.ensures.same ∙ c.in_ok-tally.ensures.same in
    record {
      phase = c.in-Some.phase;
      sound = rw c.in_ok-tally.ensures.tally at c.in-Some.ensures;
      bytes = c.in_ok-tally.ensures.bytes;
      erased = λ x is. c.in_ok-resume.ensures.firm x is;
      zeros = λ j i k from to low zero. firm-stays (bits_in s2) (bits_in s4) i k since.bits (c.in_ok-believe.ensures.firm firm j i k from to low (ap (λ (m : List ℕ). bit_at (byte m i) k) same ∙ zero));
    }

pub returns-in_err-believe-clause-ends : goal.returns-in_err-believe-clause-ends
returns-in_err-believe-clause-ends g c =
    let s0 = g.N.Nor.state c.args.nor.now in
    let s1 = g.N.Nor.state c.read_tally.new.nor in
    let s2 = g.N.Nor.state c.believe.new.nor in
    fails-as c.from_residual-in_err-believe.result _ (λ _. Succeeds s0 s2) (λ e. Refuses e s0 s2) c.from_residual-in_err-believe.ensures.1
    (refuses-after _ s0 s1 s2 c.in_ok-tally.ensures.ends c.in_err-believe.ensures.fails)

pub returns-in_err-unused-clause-ends : goal.returns-in_err-unused-clause-ends
returns-in_err-unused-clause-ends g c =
    let s0 = g.N.Nor.state c.args.nor.now in
    let s1 = g.N.Nor.state c.read_tally.new.nor in
    let s2 = g.N.Nor.state c.believe.new.nor in
    let s3 = g.N.Nor.state c.refresh.new.nor in
    let k = kept-after s0 s1 s2 c.in_ok-tally.ensures.ends.kept c.in_ok-believe.ensures.kept in
    fails-as c.from_residual-in_err-unused.result _ (λ _. Succeeds s0 s3) (λ e. Refuses e s0 s3) c.from_residual-in_err-unused.ensures.1
    (refuses-since _ s0 s2 s3 c.in_ok-tally.ensures.ends.ready k c.in_err-unused.ensures.fails)

pub returns-in_err-resume-clause-ends : goal.returns-in_err-resume-clause-ends
returns-in_err-resume-clause-ends g c =
    let s0 = g.N.Nor.state c.args.nor.now in
    let s1 = g.N.Nor.state c.read_tally.new.nor in
    let s2 = g.N.Nor.state c.believe.new.nor in
    let s3 = g.N.Nor.state c.refresh.new.nor in
    let s4 = g.N.Nor.state c.resume.new.nor in
    let k = kept-after s0 s2 s3 (kept-after s0 s1 s2 c.in_ok-tally.ensures.ends.kept c.in_ok-believe.ensures.kept) c.in_ok-unused.ensures.kept in
    fails-as c.from_residual-in_err-resume.result _ (λ _. Succeeds s0 s4) (λ e. Refuses e s0 s4) c.from_residual-in_err-resume.ensures.1
    (refuses-since _ s0 s3 s4 c.in_ok-tally.ensures.ends.ready k c.in_err-resume.ensures.ends)

pub returns-clause-ends : goal.returns-clause-ends
returns-clause-ends g c =
    let s0 = g.N.Nor.state c.args.nor.now in
    let s1 = g.N.Nor.state c.read_tally.new.nor in
    let s2 = g.N.Nor.state c.believe.new.nor in
    let s3 = g.N.Nor.state c.refresh.new.nor in
    let s4 = g.N.Nor.state c.resume.new.nor in
    let k = kept-after s0 s2 s3 (kept-after s0 s1 s2 c.in_ok-tally.ensures.ends.kept c.in_ok-believe.ensures.kept) c.in_ok-unused.ensures.kept in
    record { ready = c.in_ok-tally.ensures.ends.ready; kept = kept-after s0 s3 s4 k c.in_ok-resume.ensures.ends.kept }

pub returns-in_err-tally-clause-rests : goal.returns-in_err-tally-clause-rests
returns-in_err-tally-clause-rests g c h =
    (c.in_err-tally.ensures.same, firmer-still (bits_in (g.N.Nor.state c.args.nor.now)) (bits_in (g.N.Nor.state c.read_tally.new.nor)) c.in_err-tally.ensures.same c.in_err-tally.ensures.weak)

pub returns-in_default-clause-rests : goal.returns-in_default-clause-rests
returns-in_default-clause-rests g c h =
    (c.in_ok-tally.ensures.same, firmer-still (bits_in (g.N.Nor.state c.args.nor.now)) (bits_in (g.N.Nor.state c.read_tally.new.nor)) c.in_ok-tally.ensures.same c.in_ok-tally.ensures.weak)

pub returns-in_err-believe-clause-rests : goal.returns-in_err-believe-clause-rests
returns-in_err-believe-clause-rests g c h =
    let b0 = bits_in (g.N.Nor.state c.args.nor.now) in
    let b1 = bits_in (g.N.Nor.state c.read_tally.new.nor) in
    let b2 = bits_in (g.N.Nor.state c.believe.new.nor) in
    (c.in_err-believe.ensures.same ∙ c.in_ok-tally.ensures.same, firmer-on b0 b1 b2 (firmer-still b0 b1 c.in_ok-tally.ensures.same c.in_ok-tally.ensures.weak) c.in_err-believe.ensures.firmer)

pub returns-in_err-unused-clause-rests : goal.returns-in_err-unused-clause-rests
returns-in_err-unused-clause-rests g c h =
    let s2 = g.N.Nor.state c.believe.new.nor in
    let b0 = bits_in (g.N.Nor.state c.args.nor.now) in
    let b1 = bits_in (g.N.Nor.state c.read_tally.new.nor) in
    let b2 = bits_in s2 in
    let b3 = bits_in (g.N.Nor.state c.refresh.new.nor) in
    let same : s2.memory ≡ b0.shown = c.in_ok-believe.ensures.same ∙ c.in_ok-tally.ensures.same in
    let is = c.in_err-unused.ensures.rests (subst IsSettled (sym same) h) in
    let m = ap (λ (s : NorState). s.memory) is in
    (m ∙ same, firmer-on b0 b2 b3 (firmer-on b0 b1 b2 (firmer-still b0 b1 c.in_ok-tally.ensures.same c.in_ok-tally.ensures.weak) c.in_ok-believe.ensures.firmer) (firmer-still b2 b3 m (ap (λ (s : NorState). s.weak) is)))

pub returns-in_err-resume-clause-rests : goal.returns-in_err-resume-clause-rests
returns-in_err-resume-clause-rests g c h =
    let s2 = g.N.Nor.state c.believe.new.nor in
    let b0 = bits_in (g.N.Nor.state c.args.nor.now) in
    let b1 = bits_in (g.N.Nor.state c.read_tally.new.nor) in
    let b2 = bits_in s2 in
    let b3 = bits_in (g.N.Nor.state c.refresh.new.nor) in
    let b4 = bits_in (g.N.Nor.state c.resume.new.nor) in
    let same : s2.memory ≡ b0.shown = c.in_ok-believe.ensures.same ∙ c.in_ok-tally.ensures.same in
    let is = c.in_ok-unused.ensures.rests (subst IsSettled (sym same) h) in
    let m = ap (λ (s : NorState). s.memory) is in
    let end = c.in_err-resume.ensures.rests (subst IsSettled (sym (m ∙ same)) h) in
    (end.0 ∙ (m ∙ same), firmer-on b0 b3 b4 (firmer-on b0 b2 b3 (firmer-on b0 b1 b2 (firmer-still b0 b1 c.in_ok-tally.ensures.same c.in_ok-tally.ensures.weak) c.in_ok-believe.ensures.firmer) (firmer-still b2 b3 m (ap (λ (s : NorState). s.weak) is))) (firmer-still b3 b4 end.0 end.1))

pub returns-clause-rests : goal.returns-clause-rests
returns-clause-rests g c h =
    let s2 = g.N.Nor.state c.believe.new.nor in
    let b0 = bits_in (g.N.Nor.state c.args.nor.now) in
    let b1 = bits_in (g.N.Nor.state c.read_tally.new.nor) in
    let b2 = bits_in s2 in
    let b3 = bits_in (g.N.Nor.state c.refresh.new.nor) in
    let b4 = bits_in (g.N.Nor.state c.resume.new.nor) in
    let same : s2.memory ≡ b0.shown = c.in_ok-believe.ensures.same ∙ c.in_ok-tally.ensures.same in
    let is = c.in_ok-unused.ensures.rests (subst IsSettled (sym same) h) in
    let m = ap (λ (s : NorState). s.memory) is in
    let end = c.in_ok-resume.ensures.rests (subst IsSettled (sym (m ∙ same)) h) in
    (end.0 ∙ (m ∙ same), firmer-on b0 b3 b4 (firmer-on b0 b2 b3 (firmer-on b0 b1 b2 (firmer-still b0 b1 c.in_ok-tally.ensures.same c.in_ok-tally.ensures.weak) c.in_ok-believe.ensures.firmer) (firmer-still b2 b3 m (ap (λ (s : NorState). s.weak) is))) (firmer-still b3 b4 end.0 end.1))

pub returns-clause-erased : goal.returns-clause-erased
returns-clause-erased g c b is =
    let m = (g.N.Nor.state c.args.nor.now).memory in
    let same : (g.N.Nor.state c.believe.new.nor).memory ≡ m = c.in_ok-believe.ensures.same ∙ c.in_ok-tally.ensures.same in
    let idle = opened-idle c.in-Some.phase m b (rw c.in_ok-tally.ensures.tally at c.in-Some.ensures) is in
    c.in_ok-resume.ensures.erased idle.0 b (c.in_ok-unused.ensures.opened idle.0 b (subst (λ (n : List ℕ). 0 < entries_for n b) (sym same) idle.1))
