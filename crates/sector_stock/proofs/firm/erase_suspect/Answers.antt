use Rattle.std.proofs.Common.{◌≡◌, ◌≢◌, ◌<◌, ℕ, refl, ap, arith, inl}
use Rattle.std.proofs.lemmas.Result.{err_from_is_err_and}
use Rattle.nor_driver.specs.State.{bits_in}
use Rattle.sector_slots.specs.Slots.{data_blocks}
use Rattle.sector_slots.proofs.FirmLaws.{wholly-block}
use Rattle.sector_stock.specs.Index.{in_block}
use Rattle.sector_stock.proofs.Moved.{whole-spare}
use Rattle.sector_stock.proofs.Renewing.{spare-erasable, spare-cut_keeps}
use Rattle.sector_stock.proofs.Firming.{erased-firm, index-erased, index-trusted, trusts-one}
use Rattle.sector_stock.proofs.Trusting.{firm-but, made-one}
use Rattle.sector_stock.proofs.FirmLosses.{erased-disk, erase-loses}
use Rattle.sector_stock.proofs.firm.erase_suspect.Goals as goal

pub erase-requires-clause-dead : goal.erase-requires-clause-dead
erase-requires-clause-dead g c ready =
    let m = (g.S.SlotCalls.state c.args.slots.now).memory in
    let index = c.requires.index in
    let n = index.listed.block_size in
    let low = c.requires.number in
    let here : c.args.block < data_blocks m = omega (arith, low, n) in
    spare-erasable c.args.block m c.requires.room.blocks.rest here (whole-spare m c.args.states.now c.args.blocks.now c.args.block c.requires.room.blocks.rest index.listed here c.requires.whole)

pub returns-in_err-erase-clause-cut : goal.returns-in_err-erase-clause-cut
returns-in_err-erase-clause-cut g c is healthy =
    let p = err_from_is_err_and c.from_residual.result c.from_residual.ensures.1 in
    let m = (g.S.SlotCalls.state c.args.slots.now).memory in
    let index = c.requires.index in
    let n = index.listed.block_size in
    let low = c.requires.number in
    let here : c.args.block < data_blocks m = omega (arith, low, n) in
    spare-cut_keeps c.args.block m (g.S.SlotCalls.state c.erase.new.self).memory here (whole-spare m c.args.states.now c.args.blocks.now c.args.block c.requires.room.blocks.rest index.listed here c.requires.whole)
    (c.in_err-erase.ensures.cut (cc (p.1, p.2)) healthy)

pub returns-clause-ok : goal.returns-clause-ok
returns-clause-ok g c =
    let m = (g.S.SlotCalls.state c.args.slots.now).memory in
    let index = c.requires.index in
    let n = index.listed.block_size in
    let low = c.requires.number in
    let here : c.args.block < data_blocks m = omega (arith, low, n) in
    erased-firm c.args.block m (g.S.SlotCalls.state c.erase.new.self).memory c.requires.room here (whole-spare m c.args.states.now c.args.blocks.now c.args.block c.requires.room.blocks.rest index.listed here c.requires.whole) c.in_ok-erase.ensures.ok

pub returns-clause-trusts : goal.returns-clause-trusts
returns-clause-trusts g c = trusts-one c.args.block c.args.blocks.now c.args.blocks.now c.trust.new.blocks refl c.requires.number c.requires.suspect (omega arith) refl (λ d low ne. refl) c.trust.ensures

pub returns-clause-index : goal.returns-clause-index
returns-clause-index g c =
    let m = (g.S.SlotCalls.state c.args.slots.now).memory in
    let m1 = (g.S.SlotCalls.state c.erase.new.self).memory in
    let index = c.requires.index in
    let n = index.listed.block_size in
    let low = c.requires.number in
    let here : c.args.block < data_blocks m = omega (arith, low, n) in
    index-trusted c.args.block m1 c.args.states.now c.args.blocks.now c.trust.new.blocks c.args.at.now c.trust.ensures
    (index-erased c.args.block m m1 c.args.states.now c.args.blocks.now c.args.at.now c.requires.room here (whole-spare m c.args.states.now c.args.blocks.now c.args.block c.requires.room.blocks.rest index.listed here c.requires.whole) c.in_ok-erase.ensures.ok index)

pub returns-clause-made : goal.returns-clause-made
returns-clause-made g c =
    let m = (g.S.SlotCalls.state c.args.slots.now).memory in
    let m1 = (g.S.SlotCalls.state c.erase.new.self).memory in
    let n = c.requires.index.listed.block_size in
    let same : (d : ℕ) → d < data_blocks m → d ≢ c.args.block → (in_block c.trust.new.blocks d).suspect ≡ (in_block c.args.blocks.now d).suspect = λ d low ne. ap (λ b. b.suspect) (c.trust.ensures.others d (omega (arith, low, n)) ne) in
    made-one c.args.block m m1 c.args.blocks.now c.trust.new.blocks n c.in_ok-erase.ensures.ok.only c.requires.suspect (ap (λ b. b.suspect) c.trust.ensures.here) same (inl c.in_ok-erase.ensures.ok.erased)

pub returns-clause-firm : goal.returns-clause-firm
returns-clause-firm g c h =
    let s0 = g.S.SlotCalls.state c.args.slots.now in
    let s1 = g.S.SlotCalls.state c.erase.new.self in
    let n = c.requires.index.listed.block_size in
    let same : (d : ℕ) → d < data_blocks s0.memory → d ≢ c.args.block → (in_block c.trust.new.blocks d).suspect ≡ (in_block c.args.blocks.now d).suspect = λ d low ne. ap (λ b. b.suspect) (c.trust.ensures.others d (omega (arith, low, n)) ne) in
    firm-but (bits_in s0) (bits_in s1) c.in_ok-erase.ensures.ends.kept.bits c.args.block c.args.blocks.now c.trust.new.blocks c.in_ok-erase.ensures.ok.only same
    (λ sure. wholly-block (bits_in s1) (in_block c.trust.new.blocks c.args.block).suspect c.args.block c.in_ok-erase.ensures.firm) h

pub returns-clause-disk : goal.returns-clause-disk
returns-clause-disk g c h =
    let s0 = g.S.SlotCalls.state c.args.slots.now in
    let s1 = g.S.SlotCalls.state c.erase.new.self in
    let index = c.requires.index in
    let n = index.listed.block_size in
    let low = c.requires.number in
    let here : c.args.block < data_blocks s0.memory = omega (arith, low, n) in
    let done = c.in_ok-erase.ensures in
    erased-disk c.args.block s0 s1 c.args.blocks.now c.trust.new.blocks h c.requires.room here (whole-spare s0.memory c.args.states.now c.args.blocks.now c.args.block c.requires.room.blocks.rest index.listed here c.requires.whole) done.ends done.ok done.firm
    (returns-clause-firm g c h.store)

pub returns-in_err-erase-clause-cut_bits : goal.returns-in_err-erase-clause-cut_bits
returns-in_err-erase-clause-cut_bits g c is h =
    let p = err_from_is_err_and c.from_residual.result c.from_residual.ensures.1 in
    let s0 = g.S.SlotCalls.state c.args.slots.now in
    let s1 = g.S.SlotCalls.state c.erase.new.self in
    let index = c.requires.index in
    let n = index.listed.block_size in
    let low = c.requires.number in
    let here : c.args.block < data_blocks s0.memory = omega (arith, low, n) in
    let cut = c.in_err-erase.ensures in
    erase-loses c.args.block s0 s1 c.args.blocks.now h c.requires.room.blocks.rest here (whole-spare s0.memory c.args.states.now c.args.blocks.now c.args.block c.requires.room.blocks.rest index.listed here c.requires.whole) cut.size cut.beside (cut.cut_bits (cc (p.1, p.2))) (cut.opens (cc (p.1, p.2)))
