use Rattle.nor_driver.specs.State.{Refuses}
use Rattle.nor_driver.proofs.CallLaws.{fails-as, kept-after, ready-back, refuses-perhaps}
use Rattle.erase_journal.specs.Steps.{SucceedsSettled}
use Rattle.std.proofs.Common.{subst, sym, inl, inr}
use Rattle.std.proofs.lemmas.Result.{err_from_is_err_and}
use Rattle.chip_model.specs.Wavering.{Bits}
use Rattle.nor_driver.specs.State.{NorState}
use Rattle.nor_driver.proofs.CallLaws.{ready-after}
use Rattle.erase_journal.specs.Steps.{LosesFirmly}
use Rattle.erase_journal.proofs.Standing.{loses-after}
use Rattle.nor_driver.specs.State.{bits_in}
use Rattle.erase_journal.specs.Journals.{IsSettled}
use Rattle.erase_journal.specs.Weak.{AreFirmJournals}
use Rattle.erase_journal.proofs.Torn.{interrupted-since}
use Rattle.erase_journal.proofs.FirmJournals.{firm-journals-stay}
use Rattle.erase_journal.specs.Torn.{OpensOnly}
use Rattle.erase_journal.proofs.Unopened.{none-only, opens-after}
use Rattle.erase_journal.proofs.block_erase.erase_block.Goals as goal

pub returns-in_err-erase_with_entry-clause-ends : goal.returns-in_err-erase_with_entry-clause-ends
returns-in_err-erase_with_entry-clause-ends g c =
    let s0 = g.N.Nor.state c.args.nor.now in
    let s1 = g.N.Nor.state c.rest.new.nor in
    let s2 = g.N.Nor.state c.erase_with_entry.new.nor in
    fails-as c.from_residual-in_err-erase_with_entry.result _ (λ _. SucceedsSettled s0 s2) (λ e. Refuses e s0 s2) c.from_residual-in_err-erase_with_entry.ensures.1
    (refuses-perhaps _ s0 s1 s2 c.in_ok-rest.ensures.idle c.in_ok-rest.ensures.kept c.in_err-erase_with_entry.ensures.ends)

pub returns-clause-ends : goal.returns-clause-ends
returns-clause-ends g c =
    let s0 = g.N.Nor.state c.args.nor.now in
    let s1 = g.N.Nor.state c.rest.new.nor in
    let s2 = g.N.Nor.state c.erase_with_entry.new.nor in
    let k = c.in_ok-rest.ensures.kept in
    let s = c.in_ok-erase_with_entry.ensures.ends in
    record { ready = ready-back s0 s1 k s.ready; kept = kept-after s0 s1 s2 k s.kept; settled = s.settled }

pub returns-in_err-erase_with_entry-clause-loses : goal.returns-in_err-erase_with_entry-clause-loses
returns-in_err-erase_with_entry-clause-loses g c is =
    let p = err_from_is_err_and c.from_residual-in_err-erase_with_entry.result c.from_residual-in_err-erase_with_entry.ensures.1 in
    let s0 = g.N.Nor.state c.args.nor.now in
    let s1 = g.N.Nor.state c.rest.new.nor in
    let s2 = g.N.Nor.state c.erase_with_entry.new.nor in
    let loses = c.in_err-erase_with_entry.ensures.loses (cc (p.1, p.2)) in
    elim c.in_ok-rest.ensures.idle [
      | inl ready ↦ loses-after s0 s1 s2 c.in_ok-rest.ensures.kept.bits (c.in_ok-rest.ensures.restful (ready-after s0 s1 c.in_ok-rest.ensures.kept ready)).settled loses
      | inr same ↦ subst (λ (z : NorState). LosesFirmly z s2) same loses
    ]

pub returns-in_err-erase_with_entry-clause-cut_bits : goal.returns-in_err-erase_with_entry-clause-cut_bits
returns-in_err-erase_with_entry-clause-cut_bits g c is settled h =
    let p = err_from_is_err_and c.from_residual-in_err-erase_with_entry.result c.from_residual-in_err-erase_with_entry.ensures.1 in
    let s0 = g.N.Nor.state c.args.nor.now in
    let s1 = g.N.Nor.state c.rest.new.nor in
    let s2 = g.N.Nor.state c.erase_with_entry.new.nor in
    let then = c.in_err-erase_with_entry.ensures.cut_bits (cc (p.1, p.2)) in
    elim c.in_ok-rest.ensures.idle [
      | inl ready ↦
          let s = (c.in_ok-rest.ensures.restful (ready-after s0 s1 c.in_ok-rest.ensures.kept ready)).settled in
          interrupted-since (bits_in s0) (bits_in s1) (bits_in s2) c.args.block c.requires.data c.in_ok-rest.ensures.data (then s (firm-journals-stay (bits_in s0) (bits_in s1) c.in_ok-rest.ensures.kept.bits settled s h))
      | inr same ↦ interrupted-since (bits_in s0) (bits_in s1) (bits_in s2) c.args.block c.requires.data c.in_ok-rest.ensures.data (then (subst (λ (z : NorState). IsSettled z.memory) (sym same) settled) (subst (λ (z : NorState). AreFirmJournals (bits_in z)) (sym same) h))
    ]

pub returns-in_err-rest-clause-opens : goal.returns-in_err-rest-clause-opens
returns-in_err-rest-clause-opens g c is settled h =
    let p = err_from_is_err_and c.from_residual.result c.from_residual.ensures.1 in
    none-only c.args.block (bits_in (g.N.Nor.state c.rest.new.nor)) (c.in_err-rest.ensures.opens (cc (p.1, p.2)) settled h)

pub returns-in_err-erase_with_entry-clause-opens : goal.returns-in_err-erase_with_entry-clause-opens
returns-in_err-erase_with_entry-clause-opens g c is settled h =
    let p = err_from_is_err_and c.from_residual-in_err-erase_with_entry.result c.from_residual-in_err-erase_with_entry.ensures.1 in
    let s0 = g.N.Nor.state c.args.nor.now in
    let s1 = g.N.Nor.state c.rest.new.nor in
    let s2 = g.N.Nor.state c.erase_with_entry.new.nor in
    let then = c.in_err-erase_with_entry.ensures.opens (cc (p.1, p.2)) in
    elim c.in_ok-rest.ensures.idle [
      | inl ready ↦ opens-after (λ (b : Bits). OpensOnly c.args.block b) s0 s1 s2 c.in_ok-rest.ensures.kept.bits (c.in_ok-rest.ensures.restful (ready-after s0 s1 c.in_ok-rest.ensures.kept ready)).settled then settled h
      | inr same ↦ then (subst (λ (z : NorState). IsSettled z.memory) (sym same) settled) (subst (λ (z : NorState). AreFirmJournals (bits_in z)) (sym same) h)
    ]
