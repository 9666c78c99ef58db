use Rattle.std.proofs.Common.{◌≢◌, ◌∙◌, ◌<◌, ◌≤◌, ◌/◌, ℕ, length, sym, subst, true, arith}
use Rattle.std.proofs.lemmas.Result.{err_from_is_err_and}
use Rattle.std.proofs.lemmas.List.{with_items_is}
use Rattle.std.specs.Vec.{with_items}
use Rattle.sector_stock.specs.Index.{IsStocked, IsWholeBlock, in_block}
use Rattle.sector_stock.proofs.Moved.{numbers-in, spare-whole}
use Rattle.sector_stock.proofs.Writing.{free-some, put-indexed, stocked-indexed}
use Rattle.sector_slots.specs.Slots.{data_blocks}
use Rattle.sector_stock.specs.Takes.{KeepsErases}
use Rattle.nor_driver.specs.State.{bits_in}
use Rattle.sector_stock.specs.Index.{erases_of, IsFirmIn}
use Rattle.sector_stock.proofs.Trusting.{written-firm}
use Rattle.sector_stock.proofs.Worn.{counted-live}
use Rattle.sector_stock.specs.Losses.{IsFirmDiskIn}
use Rattle.sector_map.proofs.SetLosses.{put-loses, written-disk, written-place}
use Rattle.sector_map.proofs.stock.StockReclaim.write.Goals as goal

pub returns-in_err-put-clause-cut_live : goal.returns-in_err-put-clause-cut_live
returns-in_err-put-clause-cut_live g c is free =
    let p = err_from_is_err_and c.from_residual.result c.from_residual.ensures.1 in
    c.in_err-put.ensures.cut_live (cc (p.1, p.2)) free

pub mark_written-requires-clause-some : goal.mark_written-requires-clause-some
mark_written-requires-clause-some g c =
    let s = c.args.self.now in
    let ready = c.in_ok-put.ensures.ends.ready in
    subst (λ b. 0 < (in_block b (c.args.slot / 7)).free) (sym c.as_mut_slice-2.ensures.value)
    (free-some c.args.slot s.slots.memory s.states.items s.blocks.items s.at (s.stocked.index (c.requires.indexed ready)) c.requires.number (c.requires.free ready))

pub mark_written-requires-clause-numbers : goal.mark_written-requires-clause-numbers
mark_written-requires-clause-numbers g c =
    let s = c.args.self.now in
    let ready = c.in_ok-put.ensures.ends.ready in
    subst (λ b. (d : ℕ) → d < length b → (in_block b d).dead ≤ 7) (sym c.as_mut_slice-2.ensures.value)
    (λ d low. (let h = numbers-in d s.slots.memory s.states.items s.blocks.items s.at (s.stocked.index (c.requires.indexed ready)) low in omega (arith, h)))

pub mark_written-requires-clause-spare : goal.mark_written-requires-clause-spare
mark_written-requires-clause-spare g c =
    let s = c.args.self.now in
    let ready = c.in_ok-put.ensures.ends.ready in
    let index = s.stocked.index (c.requires.indexed ready) in
    let n = index.listed.block_size in
    let o = c.requires.outside ready in
    let low = o.is_spare.number in
    subst (λ b. (d : ℕ) × (d < length b) × IsWholeBlock (in_block b d) × (d ≢ c.args.slot / 7)) (sym c.as_mut_slice-2.ensures.value)
    (o.reserve, omega (arith, low, n), spare-whole s.slots.memory s.states.items s.blocks.items o.reserve o.rest index.listed o.is_spare.number o.is_spare.spare, o.apart)

pub invariant_of-self-2 : goal.invariant_of-self-2
invariant_of-self-2 g c =
    let s = c.args.self.now in
    let ready = c.in_ok-put.ensures.ends.ready in
    let free = c.requires.free ready in
    let m = s.slots.memory in
    let m1 = c.put.new.self.memory in
    let marked = rw (c.as_mut_slice.ensures.value, c.as_mut_slice-2.ensures.value) at c.mark_written.ensures.marked in
    let after = c.mark_written.ensures.at in
    let index = put-indexed c.args.slot c.args.tag m m1 s.states.items c.mark_written.new.slots s.blocks.items c.mark_written.new.blocks s.at c.mark_written.new.at (s.stocked.index (c.requires.indexed ready)) c.requires.number free
    (c.in_ok-put.ensures.live free) c.in_ok-put.ensures.only (c.requires.outside ready) marked after c.mark_written.ensures.policy in
    let states = with_items_is s.states c.mark_written.new.slots (marked.slot_size ∙ sym s.states.ok.0) in
    let blocks = with_items_is s.blocks c.mark_written.new.blocks (marked.block_size ∙ sym s.blocks.ok.0) in
    record {
      stocked = subst (λ xs. IsStocked xs (with_items s.blocks c.mark_written.new.blocks).items c.mark_written.new.at true m1) (sym states)
          (subst (λ ys. IsStocked c.mark_written.new.slots ys c.mark_written.new.at true m1) (sym blocks)
          (stocked-indexed s.states.items c.mark_written.new.slots s.blocks.items c.mark_written.new.blocks s.at c.mark_written.new.at s.indexed m m1 c.in_ok-put.ensures.chip.same_length marked.slot_size marked.block_size s.stocked index));
    }

pub returns-clause-counted : goal.returns-clause-counted
returns-clause-counted g c =
    let s = c.args.self.now in
    let marked = rw (c.as_mut_slice.ensures.value, c.as_mut_slice-2.ensures.value) at c.mark_written.ensures.marked in
    let blocks = with_items_is s.blocks c.mark_written.new.blocks (marked.block_size ∙ sym s.blocks.ok.0) in
    subst (λ ys. KeepsErases (data_blocks s.slots.memory) (erases_of s.blocks.items) (erases_of ys)) (sym blocks)
    (counted-live c.args.slot (data_blocks s.slots.memory) _ s.states.items c.mark_written.new.slots s.blocks.items c.mark_written.new.blocks s.stocked.blocks_size marked)

pub returns-clause-firm : goal.returns-clause-firm
returns-clause-firm g c trusted h =
    let s = c.args.self.now in
    let s1 = c.put.new.self in
    let ends = c.in_ok-put.ensures.ends in
    let marked = rw (c.as_mut_slice.ensures.value, c.as_mut_slice-2.ensures.value) at c.mark_written.ensures.marked in
    let blocks = with_items_is s.blocks c.mark_written.new.blocks (marked.block_size ∙ sym s.blocks.ok.0) in
    subst (λ ys. IsFirmIn (bits_in s1) ys) (sym blocks)
    (written-firm c.args.slot (bits_in s.slots) (bits_in s1) s.states.items c.mark_written.new.slots s.blocks.items c.mark_written.new.blocks _ ends.kept.bits s.stocked.blocks_size (c.requires.free ends.ready) c.in_ok-put.ensures.only marked trusted h)

pub returns-clause-disk : goal.returns-clause-disk
returns-clause-disk g c h t =
    let s = c.args.self.now in
    let s1 = c.put.new.self in
    let ends = c.in_ok-put.ensures.ends in
    let free = c.requires.free ends.ready in
    let marked = rw (c.as_mut_slice.ensures.value, c.as_mut_slice-2.ensures.value) at c.mark_written.ensures.marked in
    let blocks = with_items_is s.blocks c.mark_written.new.blocks (marked.block_size ∙ sym s.blocks.ok.0) in
    let firm = written-firm c.args.slot (bits_in s.slots) (bits_in s1) s.states.items c.mark_written.new.slots s.blocks.items c.mark_written.new.blocks _ ends.kept.bits s.stocked.blocks_size free c.in_ok-put.ensures.only marked t.trusted h.store in
    subst (λ ys. IsFirmDiskIn (bits_in s1) ys) (sym blocks)
    (written-disk c.args.slot c.args.tag s.slots s1 s.blocks.items h t ends c.args.content.now c.requires.number free c.in_ok-put.ensures.only (c.in_ok-put.ensures.ok (free, h.clean)) c.mark_written.new.blocks (c.in_ok-put.ensures.clean (free, h.clean)) firm)

pub returns-clause-written : goal.returns-clause-written
returns-clause-written g c h t = written-place c.args.slot c.args.tag c.args.self.now.slots c.put.new.self c.args.self.now.blocks.items h t c.in_ok-put.ensures.ends

pub returns-in_err-put-clause-cut_bits : goal.returns-in_err-put-clause-cut_bits
returns-in_err-put-clause-cut_bits g c is h t =
    let p = err_from_is_err_and c.from_residual.result c.from_residual.ensures.1 in
    put-loses c.args.slot c.args.tag c.args.content.now (bits_in c.args.self.now.slots) (bits_in c.put.new.self) c.args.self.now.blocks.items t c.requires.size (λ i. omega (arith, c.type_inv.content i)) (c.in_err-put.ensures.cut_bits (cc (p.1, p.2)))
