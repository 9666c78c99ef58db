use Rattle.std.proofs.Common.{◌≡◌, ◌∙◌, ◌+◌, ◌*◌, suc, subst, arith}
use Rattle.std.specs.Prelude.{true}
use Rattle.sector_slots.specs.Slots.{read_header}
use Rattle.sector_map.specs.Table.{IsTabled, Heads}
use Rattle.sector_map.proofs.Tables.{head-entered, head-corrupt, head-size}
use Rattle.sector_map.proofs.scan.enter_heads.Goals as goal

pub returns-then-not-enter_head-clause-corrupt : goal.returns-then-not-enter_head-clause-corrupt
returns-then-not-enter_head-clause-corrupt c is f total count heads low t size sound =
    let n = 7 * c.args.block + c.loop-place.place in
    let h = subst (λ z. Heads c.loop-place.table n (read_header c.args.heads.now c.loop-place.place) z c.enter_head.new.table) c.if-not-enter_head.true c.enter_head.ensures in
    let at = heads c.loop-place.place c.loop-place-test.true in
    head-corrupt c.loop-place.table c.enter_head.new.table n (read_header c.args.heads.now c.loop-place.place) h f at.0 total count (omega (arith, low, c.loop-place-test.true)) at.1
    (c.loop-place.invariant.tabled f heads t) (c.loop-place.invariant.size ∙ size) sound

pub loop-place-preserved : goal.loop-place-preserved
loop-place-preserved c =
    let n = 7 * c.args.block + c.loop-place.place in
    let h = subst (λ z. Heads c.loop-place.table n (read_header c.args.heads.now c.loop-place.place) z c.enter_head.new.table) c.if-not-enter_head.false c.enter_head.ensures in
    let next : suc n ≡ 7 * c.args.block + (c.loop-place.place + 1) = omega arith in
    record {
      size = head-size c.loop-place.table c.enter_head.new.table n (read_header c.args.heads.now c.loop-place.place) true h ∙ c.loop-place.invariant.size;
      tabled = λ f heads t.
          let at = heads c.loop-place.place c.loop-place-test.true in
          subst (λ k. IsTabled c.enter_head.new.table f k) next
          (head-entered c.loop-place.table c.enter_head.new.table n (read_header c.args.heads.now c.loop-place.place) h f at.0 at.1 (c.loop-place.invariant.tabled f heads t));
    }
