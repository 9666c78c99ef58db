use Rattle.std.proofs.Common.{arith}
use Rattle.erase_journal.proofs.Scans.{unused-count}
use Rattle.std.proofs.lemmas.Result.{on_ok_weaker}
use Rattle.nor_driver.proofs.CallLaws.{succeeds-then, refuses-then, ends-of}
use Rattle.erase_journal.proofs.Effects.{bit-give_up}
use Rattle.erase_journal.proofs.VoteCalls.{set-ok, set-cut}
use Rattle.std.proofs.Common.{inr, ap, ◌+◌, ◌∙◌}
use Rattle.chip_model.specs.Memory.{byte}
use Rattle.erase_journal.proofs.Torn.{program-aside}
use Rattle.erase_journal.proofs.votes.give_up_vote.Goals as goal

pub unreachable-requires : goal.unreachable-requires
unreachable-requires g c =
    let h = rw c.in_default.is at c.in_ok-found.ensures.found in
    omega (arith, h, unused-count (g.N.Nor.state c.args.nor.now).memory c.args.region)

pub returns-clause-ok : goal.returns-clause-ok
returns-clause-ok g c =
    let state = g.N.Nor.state in
    let h = rw c.in-Some.is at c.in_ok-found.ensures.found in
    on_ok_weaker c.program.result (set-ok (state c.args.nor.now).memory (state c.find_vote.new.nor).memory (state c.program.new.self).memory c.args.region c.in-Some.place 255 253
    c.in_ok-found.ensures.same c.requires.range h.0 h.1 h.2) (rw c.vote_byte.ensures.exact at c.program.ensures.ok)

pub returns-clause-cut : goal.returns-clause-cut
returns-clause-cut g c is_cut =
    let state = g.N.Nor.state in
    let h = rw c.in-Some.is at c.in_ok-found.ensures.found in
    set-cut (state c.args.nor.now).memory (state c.find_vote.new.nor).memory (state c.program.new.self).memory c.args.region c.in-Some.place 255 253
    c.in_ok-found.ensures.same c.requires.range h.0 h.1 h.2 1 bit-give_up (rw c.vote_byte.ensures.exact at (c.program.ensures.cut is_cut))

pub returns-clause-ends : goal.returns-clause-ends
returns-clause-ends g c =
    let state = g.N.Nor.state in
    ends-of c.program.result (state c.args.nor.now) (state c.program.new.self)
    (succeeds-then (state c.args.nor.now) (state c.find_vote.new.nor) (state c.program.new.self) c.program.result c.in_ok-found.ensures.ends c.program.ensures.kept)
    (refuses-then (state c.args.nor.now) (state c.find_vote.new.nor) (state c.program.new.self) c.program.result c.in_ok-found.ensures.ends c.program.ensures.fails)

pub returns-clause-data : goal.returns-clause-data
returns-clause-data g c low i from =
    let state = g.N.Nor.state in
    let h = rw c.in-Some.is at c.in_ok-found.ensures.found in
    let p = h.0 in
    let s = program-aside c.program.result (state c.find_vote.new.nor) (state c.program.new.self) (c.args.region + c.in-Some.place) _ c.program.ensures.firm c.program.ensures.cut_bits c.program.ensures.slow c.program.ensures.slow_bits i (inr (omega (arith, low, from, p))) in
    (s.0 ∙ ap (λ m. byte m i) c.in_ok-found.ensures.same, s.1 ∙ ap (λ m. byte m i) c.in_ok-found.ensures.weak)
