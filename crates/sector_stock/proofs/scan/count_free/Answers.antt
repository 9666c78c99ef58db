use Rattle.std.proofs.Common.{◌≡◌, sym, subst, arith}
use Rattle.sector_stock.specs.Index.{is_free_state, states_count}
use Rattle.sector_stock.proofs.Filling.{count-zero, count-next, one-most}
use Rattle.sector_stock.proofs.scan.count_free.Goals as goal

pub loop-place-init : goal.loop-place-init
loop-place-init c = record { counted = sym (count-zero is_free_state c.args.states.now c.args.block); most = omega arith }

pub loop-place-preserved : goal.loop-place-preserved
loop-place-preserved c =
    let next = count-next is_free_state c.args.states.now c.args.block c.loop-place.place in
    let one = c.one_free-count.ensures in
    let so-far = c.loop-place.invariant.counted in
    let most = c.loop-place.invariant.most in
    record {
      counted = omega (arith, next, one, so-far);
      most = omega (arith, one, most, one-most);
    }

pub returns : goal.returns
returns c =
    let seven : c.loop-place.place ≡ 7 = omega (arith, c.loop-place-test.false, c.loop-place.auto.place-end) in
    subst (λ k. c.loop-place.count ≡ states_count is_free_state c.args.states.now c.args.block k) seven c.loop-place.invariant.counted
