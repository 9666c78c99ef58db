use Rattle.chip_model.specs.Wavering.{Bits}
use Rattle.std.proofs.Common.{◌≡◌, ◌+◌, ◌∙◌, arith, length, ap, subst, sym}
use Rattle.std.specs.Prelude.{slice_range}
use Rattle.std.proofs.lemmas.Result.{err_from_is_err_and}
use Rattle.nor_driver.specs.State.{changed_whole}
use Rattle.erase_journal.specs.Steps.{RefusesFirmly}
use Rattle.erase_journal.specs.Journals.{IsHealthy}
use Rattle.erase_journal.proofs.BlockLaws.{length-block}
use Rattle.sector_slots.specs.Firm.{KeepsHead, AreDeadForGood}
use Rattle.sector_slots.specs.Slots.{data_block}
use Rattle.nor_driver.proofs.CallLaws.{fails-as}
use Rattle.erase_journal.specs.Steps.{SucceedsSettled}
use Rattle.erase_journal.proofs.SettledLaws.{settled-after}
use Rattle.erase_journal.proofs.Firmly.{refuses-firmly}
use Rattle.nor_driver.specs.State.{bits_in}
use Rattle.journal_slots.proofs.Killing.{head-zeros, head-for-good, blank-zeros, blank-for-good, head-kept, begun-holds, none-begun, blank-begun}
use Rattle.erase_journal.proofs.Drawing.{same-bits}
use Rattle.sector_slots.specs.Torn.{not_begun}
use Rattle.journal_slots.proofs.Torn.{head-interrupted}
use Rattle.journal_slots.proofs.firm.firm_head.Goals as goal

pub returns-in_err-program_bytes-clause-cut : goal.returns-in_err-program_bytes-clause-cut
returns-in_err-program_bytes-clause-cut g c is =
    let p = err_from_is_err_and c.from_residual-in_err-program_bytes.result c.from_residual-in_err-program_bytes.ensures.1 in
    let m = c.args.journal.now.memory in
    let m1 = c.read.new.self.memory in
    let same : m1 ≡ m = c.in_ok-read.ensures.same in
    let n = length-block m (c.args.block + 4) (omega (arith, c.requires.number)) in
    subst (λ z. KeepsHead c.args.block z c.program_bytes.new.journal.memory) same
    (head-kept c.args.block m1 c.program_bytes.new.journal.memory c.read.new.into c.firm_bytes.new.head (ap (λ z. length (data_block z c.args.block)) same ∙ n) (omega (arith, c.firm_bytes.ensures.size))
    (subst (λ z. c.read.new.into ≡ slice_range (data_block z c.args.block) 0 44) (sym same) c.in_ok-read.ensures.ok) c.firm_bytes.ensures.bytes c.firm_bytes.ensures.each c.in_err-program_bytes.ensures.only (c.in_err-program_bytes.ensures.cut (cc (p.1, p.2))))

pub returns-in_err-program_bytes-clause-healthy : goal.returns-in_err-program_bytes-clause-healthy
returns-in_err-program_bytes-clause-healthy g c is healthy =
    let p = err_from_is_err_and c.from_residual-in_err-program_bytes.result c.from_residual-in_err-program_bytes.ensures.1 in
    c.in_err-program_bytes.ensures.healthy (cc (p.1, p.2)) (subst (λ z. IsHealthy z) (sym c.in_ok-read.ensures.same) healthy)

pub returns-clause-kept : goal.returns-clause-kept
returns-clause-kept g c =
    let m = c.args.journal.now.memory in
    let m1 = c.read.new.self.memory in
    let same : m1 ≡ m = c.in_ok-read.ensures.same in
    let n = length-block m (c.args.block + 4) (omega (arith, c.requires.number)) in
    subst (λ z. KeepsHead c.args.block z c.program_bytes.new.journal.memory) same
    (head-kept c.args.block m1 c.program_bytes.new.journal.memory c.read.new.into c.firm_bytes.new.head (ap (λ z. length (data_block z c.args.block)) same ∙ n) (omega (arith, c.firm_bytes.ensures.size))
    (subst (λ z. c.read.new.into ≡ slice_range (data_block z c.args.block) 0 44) (sym same) c.in_ok-read.ensures.ok) c.firm_bytes.ensures.bytes c.firm_bytes.ensures.each c.in_ok-program_bytes.ensures.only (changed_whole c.in_ok-program_bytes.ensures.ok))

pub returns-clause-begun : goal.returns-clause-begun
returns-clause-begun g c is = begun-holds (data_block c.args.journal.now.memory c.args.block) c.read.new.into c.in_ok-read.ensures.ok (c.is_begun-begun.ensures.slots is) (c.is_begun-begun.ensures.begun is)

pub returns-clause-not_begun : goal.returns-clause-not_begun
returns-clause-not_begun g c is = none-begun (data_block c.args.journal.now.memory c.args.block) c.read.new.into c.in_ok-read.ensures.ok (c.is_begun-begun.ensures.not_begun is)

pub returns-then-is_blank-clause-not_begun : goal.returns-then-is_blank-clause-not_begun
returns-then-is_blank-clause-not_begun g c is = blank-begun (data_block c.args.journal.now.memory c.args.block) c.read.new.into c.in_ok-read.ensures.ok (c.is_blank.ensures.blank c.if-is_blank.true)

pub returns-in_err-program_bytes-clause-ends : goal.returns-in_err-program_bytes-clause-ends
returns-in_err-program_bytes-clause-ends g c =
    let s0 = c.args.journal.now in
    let s1 = c.read.new.self in
    let s2 = c.program_bytes.new.journal in
    fails-as c.from_residual-in_err-program_bytes.result _ (λ _. SucceedsSettled s0 s2) (λ e. RefusesFirmly e s0 s2) c.from_residual-in_err-program_bytes.ensures.1
    (refuses-firmly _ s0 s1 s2 c.in_ok-read.ensures.ends c.in_err-program_bytes.ensures.ends)

pub returns-clause-ends : goal.returns-clause-ends
returns-clause-ends g c =
    let s0 = c.args.journal.now in
    let s1 = c.read.new.self in
    let s2 = c.program_bytes.new.journal in
    settled-after s0 s1 s2 c.in_ok-read.ensures.ends c.in_ok-program_bytes.ensures.ends

pub returns-clause-zeros : goal.returns-clause-zeros
returns-clause-zeros g c =
    let m = c.args.journal.now.memory in
    let s1 = c.read.new.self in
    let s2 = c.program_bytes.new.journal in
    let same : s1.memory ≡ m = c.in_ok-read.ensures.same in
    let n = length-block m (c.args.block + 4) (omega (arith, c.requires.number)) in
    head-zeros c.args.block (bits_in s1) (bits_in s2) c.read.new.into c.firm_bytes.new.head (ap (λ z. length (data_block z c.args.block)) same ∙ n) (omega (arith, c.firm_bytes.ensures.size))
    (subst (λ z. c.read.new.into ≡ slice_range (data_block z c.args.block) 0 44) (sym same) c.in_ok-read.ensures.ok) c.firm_bytes.ensures.each c.in_ok-program_bytes.ensures.ends.settled c.in_ok-program_bytes.ensures.ok (ap (λ (x : Bits). x.weak) c.in_ok-program_bytes.ensures.firm)

pub returns-clause-for_good : goal.returns-clause-for_good
returns-clause-for_good g c =
    let m = c.args.journal.now.memory in
    let s1 = c.read.new.self in
    let s2 = c.program_bytes.new.journal in
    let same : s1.memory ≡ m = c.in_ok-read.ensures.same in
    let n = length-block m (c.args.block + 4) (omega (arith, c.requires.number)) in
    subst (λ z. AreDeadForGood c.args.block z (bits_in s2)) same
    (head-for-good c.args.block (bits_in s1) (bits_in s2) c.read.new.into c.firm_bytes.new.head (ap (λ z. length (data_block z c.args.block)) same ∙ n) (omega (arith, c.firm_bytes.ensures.size))
    (subst (λ z. c.read.new.into ≡ slice_range (data_block z c.args.block) 0 44) (sym same) c.in_ok-read.ensures.ok) c.firm_bytes.ensures.each c.in_ok-program_bytes.ensures.ends.settled c.in_ok-program_bytes.ensures.ok (ap (λ (x : Bits). x.weak) c.in_ok-program_bytes.ensures.firm)
    c.firm_bytes.ensures.dead c.firm_bytes.ensures.begun)

pub returns-then-is_blank-clause-zeros : goal.returns-then-is_blank-clause-zeros
returns-then-is_blank-clause-zeros g c =
    let s1 = c.read.new.self in
    blank-zeros c.args.block s1.memory s1.weak c.read.new.into c.in_ok-read.ensures.ends.settled (subst (λ z. c.read.new.into ≡ slice_range (data_block z c.args.block) 0 44) (sym c.in_ok-read.ensures.same) c.in_ok-read.ensures.ok) (c.is_blank.ensures.blank c.if-is_blank.true)

pub returns-then-is_blank-clause-for_good : goal.returns-then-is_blank-clause-for_good
returns-then-is_blank-clause-for_good g c =
    blank-for-good c.args.block c.args.journal.now.memory (bits_in c.read.new.self) c.read.new.into c.in_ok-read.ensures.ok (c.is_blank.ensures.blank c.if-is_blank.true)

pub returns-in_err-program_bytes-clause-cut_bits : goal.returns-in_err-program_bytes-clause-cut_bits
returns-in_err-program_bytes-clause-cut_bits g c is =
    let p = err_from_is_err_and c.from_residual-in_err-program_bytes.result c.from_residual-in_err-program_bytes.ensures.1 in
    let s0 = c.args.journal.now in
    let s1 = c.read.new.self in
    head-interrupted c.args.block s0.memory s0.weak s1.memory s1.weak (bits_in c.program_bytes.new.journal) c.read.new.into c.firm_bytes.new.head c.in_ok-read.ensures.same c.in_ok-read.ensures.weak
    c.in_ok-read.ensures.ends.settled (omega (arith, c.firm_bytes.ensures.size)) c.in_ok-read.ensures.ok c.firm_bytes.ensures.each (c.in_err-program_bytes.ensures.cut_bits (cc (p.1, p.2)))

pub returns-in_err-read-clause-cut_bits : goal.returns-in_err-read-clause-cut_bits
returns-in_err-read-clause-cut_bits g c is = not_begun (same-bits c.read.new.self.memory c.args.journal.now.memory c.read.new.self.weak c.args.journal.now.weak c.in_err-read.ensures.same c.in_err-read.ensures.weak)
