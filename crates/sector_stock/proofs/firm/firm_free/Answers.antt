use Rattle.std.proofs.Common.{◌/◌, refl, ◌∙◌, arith}
use Rattle.std.proofs.lemmas.Result.{err_from_is_err_and}
use Rattle.erase_journal.specs.Steps.{RefusesFirmly}
use Rattle.nor_driver.proofs.CallLaws.{fails-as, kept-none}
use Rattle.erase_journal.specs.Steps.{SucceedsSettled}
use Rattle.erase_journal.proofs.SettledLaws.{settled-healthy, settled-after}
use Rattle.erase_journal.proofs.Firmly.{refuses-firmly}
use Rattle.nor_driver.specs.State.{bits_in}
use Rattle.sector_stock.proofs.Copying.{after-keeps}
use Rattle.sector_stock.proofs.Losing.{loses-later}
use Rattle.sector_stock.proofs.Moved.{index-dead}
use Rattle.sector_stock.proofs.Firming.{firm-none, firm-after, firm-room, trusts-none, trusts-after, none-suspect, suspects-fewer}
use Rattle.sector_stock.proofs.Trusting.{made-none, made-after}
use Rattle.sector_stock.proofs.firm.firm_free.Goals as goal

pub loop-slot-init : goal.loop-slot-init
loop-slot-init g c = record {
  index = c.requires.index;
  room = c.requires.room;
  firm = firm-none (g.S.SlotCalls.state c.args.slots.now).memory c.requires.room.blocks;
  trusts = trusts-none c.args.blocks.now;
  made = made-none (g.S.SlotCalls.state c.args.slots.now).memory c.args.blocks.now;
  weak = λ h. h;
  disk = λ h. h;
  none = λ t. refl;
  policy = refl;
  size = refl;
  states_size = refl;
  blocks_size = refl;
  since = record { ready = c.requires.ready; kept = kept-none (g.S.SlotCalls.state c.args.slots.now); settled = c.requires.settled };
}

pub firm_one-requires-clause-index : goal.firm_one-requires-clause-index
firm_one-requires-clause-index g c =
    index-dead (g.S.SlotCalls.state c.loop-slot.slots).memory c.loop-slot.states c.loop-slot.blocks c.loop-slot.at c.next_suspect.new.at c.next_suspect.ensures.ahead c.next_suspect.ensures.reserve c.next_suspect.ensures.policy c.loop-slot.invariant.index

pub firm_one-requires-clause-room : goal.firm_one-requires-clause-room
firm_one-requires-clause-room g c = c.loop-slot.invariant.room

pub firm_one-requires-clause-number : goal.firm_one-requires-clause-number
firm_one-requires-clause-number g c = (c.in-Some.ensures.found (g.S.SlotCalls.state c.loop-slot.slots).memory c.loop-slot.invariant.index c.loop-slot.invariant.room.blocks.rest).number

pub firm_one-requires-clause-free : goal.firm_one-requires-clause-free
firm_one-requires-clause-free g c = (c.in-Some.ensures.found (g.S.SlotCalls.state c.loop-slot.slots).memory c.loop-slot.invariant.index c.loop-slot.invariant.room.blocks.rest).free

pub firm_one-requires-clause-first : goal.firm_one-requires-clause-first
firm_one-requires-clause-first g c = c.in-Some.ensures.first (g.S.SlotCalls.state c.loop-slot.slots).memory c.loop-slot.invariant.index

pub returns-clause-index : goal.returns-clause-index
returns-clause-index g c =
    index-dead (g.S.SlotCalls.state c.loop-slot.slots).memory c.loop-slot.states c.loop-slot.blocks c.loop-slot.at c.next_suspect.new.at c.next_suspect.ensures.ahead c.next_suspect.ensures.reserve c.next_suspect.ensures.policy c.loop-slot.invariant.index

pub returns-in_err-firm_one-clause-none : goal.returns-in_err-firm_one-clause-none
returns-in_err-firm_one-clause-none g c trusted =
    let i = c.loop-slot.invariant in
    let n = i.blocks_size in
    let low = c.in-Some.ensures.number in
    absurd (none-suspect (c.in-Some.slot / 7) c.args.blocks.now c.loop-slot.blocks i.trusts trusted (omega (arith, low, n)) c.in-Some.ensures.suspect)

pub returns-in_err-firm_one-clause-cut : goal.returns-in_err-firm_one-clause-cut
returns-in_err-firm_one-clause-cut g c is =
    let p = err_from_is_err_and c.from_residual.result c.from_residual.ensures.1 in
    let i = c.loop-slot.invariant in
    after-keeps (g.S.SlotCalls.state c.args.slots.now).memory (g.S.SlotCalls.state c.loop-slot.slots).memory (g.S.SlotCalls.state c.firm_one.new.slots).memory i.firm.keeps
    (c.in_err-firm_one.ensures.cut (cc (p.1, p.2)) (settled-healthy (g.S.SlotCalls.state c.loop-slot.slots).memory i.since.settled))

pub returns-in_err-firm_one-clause-healthy : goal.returns-in_err-firm_one-clause-healthy
returns-in_err-firm_one-clause-healthy g c is =
    let p = err_from_is_err_and c.from_residual.result c.from_residual.ensures.1 in
    c.in_err-firm_one.ensures.healthy (cc (p.1, p.2)) (settled-healthy (g.S.SlotCalls.state c.loop-slot.slots).memory c.loop-slot.invariant.since.settled)

pub loop-slot-preserved : goal.loop-slot-preserved
loop-slot-preserved g c =
    let a = (g.S.SlotCalls.state c.args.slots.now).memory in
    let b = (g.S.SlotCalls.state c.loop-slot.slots).memory in
    let d = (g.S.SlotCalls.state c.firm_one.new.slots).memory in
    let i = c.loop-slot.invariant in
    let e = c.in_ok-firm_one.ensures in
    let n = i.blocks_size in
    let low = c.in-Some.ensures.number in
    record {
      index = e.index;
      room = firm-room b d i.room e.ok;
      firm = firm-after a b d i.firm e.ok;
      trusts = trusts-after c.args.blocks.now c.loop-slot.blocks c.firm_one.new.blocks i.trusts e.trusts;
      made = made-after c.args.blocks.now c.loop-slot.blocks c.firm_one.new.blocks a b d i.trusts e.trusts i.made e.made;
      weak = λ h. e.firm (i.weak h);
      disk = λ h. e.disk (i.disk h);
      none = λ trusted. absurd (none-suspect (c.in-Some.slot / 7) c.args.blocks.now c.loop-slot.blocks i.trusts trusted (omega (arith, low, n)) c.in-Some.ensures.suspect);
      policy = e.policy ∙ (c.next_suspect.ensures.policy ∙ i.policy);
      size = e.size ∙ i.size;
      states_size = e.states_size ∙ i.states_size;
      blocks_size = e.blocks_size ∙ i.blocks_size;
      since = settled-after (g.S.SlotCalls.state c.args.slots.now) (g.S.SlotCalls.state c.loop-slot.slots) (g.S.SlotCalls.state c.firm_one.new.slots) i.since e.ends;
    }

pub returns-clause-next : goal.returns-clause-next
returns-clause-next g c = c.next_suspect.ensures.next (g.S.SlotCalls.state c.loop-slot.slots).memory c.loop-slot.invariant.index c.in_default.is

pub returns-clause-spare : goal.returns-clause-spare
returns-clause-spare g c = c.next_suspect.ensures.spare (g.S.SlotCalls.state c.loop-slot.slots).memory c.loop-slot.invariant.index c.in_default.is

pub loop-slot-smaller : goal.loop-slot-smaller
loop-slot-smaller g c = suspects-fewer (c.in-Some.slot / 7) c.loop-slot.blocks c.firm_one.new.blocks c.in_ok-firm_one.ensures.trusts c.in-Some.ensures.number c.in-Some.ensures.suspect c.in_ok-firm_one.ensures.trusted

pub returns-in_err-firm_one-clause-ends : goal.returns-in_err-firm_one-clause-ends
returns-in_err-firm_one-clause-ends g c =
    let s0 = g.S.SlotCalls.state c.args.slots.now in
    let s1 = g.S.SlotCalls.state c.loop-slot.slots in
    let s2 = g.S.SlotCalls.state c.firm_one.new.slots in
    fails-as c.from_residual.result _ (λ _. SucceedsSettled s0 s2) (λ e. RefusesFirmly e s0 s2) c.from_residual.ensures.1
    (refuses-firmly _ s0 s1 s2 c.loop-slot.invariant.since c.in_err-firm_one.ensures.ends)

pub returns-in_err-firm_one-clause-cut_bits : goal.returns-in_err-firm_one-clause-cut_bits
returns-in_err-firm_one-clause-cut_bits g c is h =
    let p = err_from_is_err_and c.from_residual.result c.from_residual.ensures.1 in
    let i = c.loop-slot.invariant in
    loses-later (g.S.SlotCalls.state c.args.slots.now).memory (g.S.SlotCalls.state c.loop-slot.slots).memory (bits_in (g.S.SlotCalls.state c.firm_one.new.slots)) i.firm.keeps
    (c.in_err-firm_one.ensures.cut_bits (cc (p.1, p.2)) (i.disk h))
