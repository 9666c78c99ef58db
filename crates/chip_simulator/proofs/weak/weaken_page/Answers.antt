use Rattle.std.proofs.Common.{◌≡◌, ◌<◌, ◌+◌, ◌*◌, ◌/◌, ◌∙◌, ap, sym, List, ℕ, arith, length}
use Rattle.std.specs.Prelude.{set, bit_or, bit_xor}
use Rattle.chip_model.specs.Memory.{byte, changed}
use Rattle.chip_simulator.proofs.WeakLaws.{part_none, part_next, part_more, part_place, weaker_place, weaken_paged}
use Rattle.chip_simulator.proofs.weak.weaken_page.Goals as goal

pub loop-k-init : goal.loop-k-init
loop-k-init c = part_none (weaker_place c.args.memory.now c.args.at c.args.bytes.now) c.args.weak.now (c.args.at / 256 * 256)

pub loop-k-preserved : goal.loop-k-preserved
loop-k-preserved c =
    let f = weaker_place c.args.memory.now c.args.at c.args.bytes.now in
    let w = c.args.weak.now in
    let page = c.args.at / 256 * 256 in
    let low : page + c.loop-k.k < length w = omega arith in
    let y = bit_or (byte c.loop-k.weak (page + c.loop-k.k)) (bit_xor (byte c.args.memory.now (page + c.loop-k.k)) c.programmed_byte.result) in
    let e : y ≡ f (page + c.loop-k.k) (byte w (page + c.loop-k.k)) =
    ap (λ z. bit_or (byte c.loop-k.weak (page + c.loop-k.k)) (bit_xor (byte c.args.memory.now (page + c.loop-k.k)) z)) c.programmed_byte.ensures
    ∙ ap (λ x. f (page + c.loop-k.k) x) (ap (λ (xs : List ℕ). byte xs (page + c.loop-k.k)) c.loop-k.invariant ∙ part_next f w page c.loop-k.k low) in
    ap (λ (xs : List ℕ). set xs (page + c.loop-k.k) y) c.loop-k.invariant ∙ part_more f w page c.loop-k.k y e

pub returns : goal.returns
returns c =
    let m = c.args.memory.now in
    let w = c.args.weak.now in
    let end : c.loop-k.k ≡ 256 = omega arith in
    c.loop-k.invariant
    ∙ (ap (λ n. changed (part_place (weaker_place m c.args.at c.args.bytes.now) (c.args.at / 256 * 256) n) w) end
    ∙ weaken_paged m w c.args.at c.args.bytes.now c.requires.sizes)
