use Rattle.std.proofs.Common.{◌∙◌, ◌<◌, ◌/◌, sym, subst, true}
use Rattle.std.proofs.lemmas.List.{with_items_is}
use Rattle.std.specs.Vec.{with_items}
use Rattle.sector_stock.specs.Index.{IsStocked, IsAhead, in_block}
use Rattle.sector_stock.proofs.Writing.{dead-room, retire-indexed, stocked-indexed}
use Rattle.sector_slots.specs.Slots.{data_blocks}
use Rattle.sector_stock.specs.Takes.{KeepsErases}
use Rattle.nor_driver.specs.State.{bits_in}
use Rattle.sector_stock.specs.Index.{erases_of, IsFirmIn}
use Rattle.sector_stock.proofs.Trusting.{retired-firm}
use Rattle.sector_stock.proofs.Worn.{counted-dead}
use Rattle.std.proofs.lemmas.Result.{err_from_is_err_and}
use Rattle.sector_stock.specs.Losses.{IsFirmDiskIn}
use Rattle.sector_map.proofs.SetLosses.{gone-disk, retire-loses}
use Rattle.sector_map.proofs.stock.StockReclaim.release.Goals as goal

pub mark_dead-requires-clause-room : goal.mark_dead-requires-clause-room
mark_dead-requires-clause-room g c =
    let s = c.args.self.now in
    let ready = c.in_ok-retire.ensures.ends.ready in
    subst (λ b. (in_block b (c.args.slot / 7)).dead < 7) (sym c.as_mut_slice-2.ensures.value)
    (dead-room c.args.slot s.slots.memory s.states.items s.blocks.items s.at (s.stocked.index (c.requires.indexed ready)) c.requires.number (c.requires.live ready).0)

pub invariant_of-self-2 : goal.invariant_of-self-2
invariant_of-self-2 g c =
    let s = c.args.self.now in
    let ready = c.in_ok-retire.ensures.ends.ready in
    let live = c.requires.live ready in
    let m = s.slots.memory in
    let m1 = c.retire.new.self.memory in
    let marked = rw (c.as_mut_slice.ensures.value, c.as_mut_slice-2.ensures.value) at c.mark_dead.ensures.marked in
    let ahead = subst (λ b. IsAhead b s.at → IsAhead c.mark_dead.new.blocks c.mark_dead.new.at) c.as_mut_slice-2.ensures.value c.mark_dead.ensures.ahead in
    let index = retire-indexed c.args.slot m m1 s.states.items c.mark_dead.new.slots s.blocks.items c.mark_dead.new.blocks s.at c.mark_dead.new.at (s.stocked.index (c.requires.indexed ready)) c.requires.number live.0
    (c.in_ok-retire.ensures.ok live) c.in_ok-retire.ensures.only marked ahead c.mark_dead.ensures.reserve c.mark_dead.ensures.policy in
    let states = with_items_is s.states c.mark_dead.new.slots (marked.slot_size ∙ sym s.states.ok.0) in
    let blocks = with_items_is s.blocks c.mark_dead.new.blocks (marked.block_size ∙ sym s.blocks.ok.0) in
    record {
      stocked = subst (λ xs. IsStocked xs (with_items s.blocks c.mark_dead.new.blocks).items c.mark_dead.new.at true m1) (sym states)
          (subst (λ ys. IsStocked c.mark_dead.new.slots ys c.mark_dead.new.at true m1) (sym blocks)
          (stocked-indexed s.states.items c.mark_dead.new.slots s.blocks.items c.mark_dead.new.blocks s.at c.mark_dead.new.at s.indexed m m1 c.in_ok-retire.ensures.chip.same_length marked.slot_size marked.block_size s.stocked index));
    }

pub returns-clause-counted : goal.returns-clause-counted
returns-clause-counted g c =
    let s = c.args.self.now in
    let marked = rw (c.as_mut_slice.ensures.value, c.as_mut_slice-2.ensures.value) at c.mark_dead.ensures.marked in
    let blocks = with_items_is s.blocks c.mark_dead.new.blocks (marked.block_size ∙ sym s.blocks.ok.0) in
    subst (λ ys. KeepsErases (data_blocks s.slots.memory) (erases_of s.blocks.items) (erases_of ys)) (sym blocks)
    (counted-dead c.args.slot (data_blocks s.slots.memory) _ s.states.items c.mark_dead.new.slots s.blocks.items c.mark_dead.new.blocks s.stocked.blocks_size marked)

pub returns-clause-firm : goal.returns-clause-firm
returns-clause-firm g c h =
    let s = c.args.self.now in
    let s1 = c.retire.new.self in
    let ends = c.in_ok-retire.ensures.ends in
    let live = c.requires.live ends.ready in
    let marked = rw (c.as_mut_slice.ensures.value, c.as_mut_slice-2.ensures.value) at c.mark_dead.ensures.marked in
    let blocks = with_items_is s.blocks c.mark_dead.new.blocks (marked.block_size ∙ sym s.blocks.ok.0) in
    subst (λ ys. IsFirmIn (bits_in s1) ys) (sym blocks)
    (retired-firm c.args.slot (bits_in s.slots) (bits_in s1) s.states.items c.mark_dead.new.slots s.blocks.items c.mark_dead.new.blocks _ ends.kept.bits s.stocked.blocks_size live.0 (c.in_ok-retire.ensures.ok live) c.in_ok-retire.ensures.for_good c.in_ok-retire.ensures.only marked h)

pub returns-clause-disk : goal.returns-clause-disk
returns-clause-disk g c h t =
    let s = c.args.self.now in
    let s1 = c.retire.new.self in
    let ends = c.in_ok-retire.ensures.ends in
    let live = c.requires.live ends.ready in
    let gone = c.in_ok-retire.ensures.ok live in
    let marked = rw (c.as_mut_slice.ensures.value, c.as_mut_slice-2.ensures.value) at c.mark_dead.ensures.marked in
    let blocks = with_items_is s.blocks c.mark_dead.new.blocks (marked.block_size ∙ sym s.blocks.ok.0) in
    let firm = retired-firm c.args.slot (bits_in s.slots) (bits_in s1) s.states.items c.mark_dead.new.slots s.blocks.items c.mark_dead.new.blocks _ ends.kept.bits s.stocked.blocks_size live.0 gone c.in_ok-retire.ensures.for_good c.in_ok-retire.ensures.only marked h.store in
    subst (λ ys. IsFirmDiskIn (bits_in s1) ys) (sym blocks)
    (gone-disk c.args.slot s.slots s1 s.blocks.items h t c.requires.number c.in_ok-retire.ensures.only gone ends c.mark_dead.new.blocks (c.in_ok-retire.ensures.clean live h.clean) firm)

pub returns-in_err-retire-clause-cut_bits : goal.returns-in_err-retire-clause-cut_bits
returns-in_err-retire-clause-cut_bits g c is h t =
    let p = err_from_is_err_and c.from_residual.result c.from_residual.ensures.1 in
    retire-loses c.args.slot (bits_in c.args.self.now.slots) (bits_in c.retire.new.self) c.args.self.now.blocks.items h t c.requires.number (c.in_err-retire.ensures.cut_bits (cc (p.1, p.2)))
