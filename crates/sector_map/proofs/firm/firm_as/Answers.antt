use Rattle.sector_map.proofs.Alike.{begun-answer, firm-after, firm-journals}
use Rattle.std.proofs.Common.{inr}
use Rattle.std.proofs.lemmas.Result.{on_ok_weaker}
use Rattle.erase_journal.proofs.FirmJournals.{firm-journals-perhaps}
use Rattle.sector_map.proofs.MapCalls.{perhaps-after, plainly-fails}
use Rattle.sector_map.proofs.firm.firm_as.Goals as goal

pub returns-in_ok-firm-in-Firm-clause-none : goal.returns-in_ok-firm-in-Firm-clause-none
returns-in_ok-firm-in-Firm-clause-none g c is =
    begun-answer c.firm_heads.result (g.S.SlotCalls.state c.args.slots.now).memory (g.S.SlotCalls.state c.firm.new.self).memory c.in_ok-firm-in-Firm.ensures.blocks c.firm_heads.ensures.none

pub returns-in_ok-firm-in-Firm-clause-fails : goal.returns-in_ok-firm-in-Firm-clause-fails
returns-in_ok-firm-in-Firm-clause-fails g c =
    let s0 = g.S.SlotCalls.state c.args.slots.now in
    let s1 = g.S.SlotCalls.state c.firm.new.self in
    let s2 = g.S.SlotCalls.state c.firm_heads.new.slots in
    plainly-fails c.firm_heads.result s0 s1 s2 c.in_ok-firm-in-Firm.ensures.ends c.firm_heads.ensures.fails

pub returns-in_ok-firm-in-Firm-clause-journals : goal.returns-in_ok-firm-in-Firm-clause-journals
returns-in_ok-firm-in-Firm-clause-journals g c firmly h =
    let s1 = g.S.SlotCalls.state c.firm.new.self in
    let s2 = g.S.SlotCalls.state c.firm_heads.new.slots in
    on_ok_weaker c.firm_heads.result (λ done. firm-journals-perhaps s1 s2 done c.in_ok-firm-in-Firm.ensures.ends.settled (c.in_ok-firm-in-Firm.ensures.journals h)) c.firm_heads.ensures.done

pub returns-in_ok-firm-in-Firm-clause-cut : goal.returns-in_ok-firm-in-Firm-clause-cut
returns-in_ok-firm-in-Firm-clause-cut g c is healthy =
    let m0 = (g.S.SlotCalls.state c.args.slots.now).memory in
    let m1 = (g.S.SlotCalls.state c.firm.new.self).memory in
    firm-after m0 m1 (g.S.SlotCalls.state c.firm_heads.new.slots).memory (firm-journals m0 m1 c.in_ok-firm-in-Firm.ensures.blocks) (c.firm_heads.ensures.cut is)

pub returns-in_ok-firm-in-Firm-clause-done : goal.returns-in_ok-firm-in-Firm-clause-done
returns-in_ok-firm-in-Firm-clause-done g c =
    let s0 = g.S.SlotCalls.state c.args.slots.now in
    let s1 = g.S.SlotCalls.state c.firm.new.self in
    let s2 = g.S.SlotCalls.state c.firm_heads.new.slots in
    on_ok_weaker c.firm_heads.result (λ d. inr (perhaps-after s0 s1 s2 c.in_ok-firm-in-Firm.ensures.ends d)) c.firm_heads.ensures.done
