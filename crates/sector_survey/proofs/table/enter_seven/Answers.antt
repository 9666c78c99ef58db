use Rattle.std.proofs.Common.{◌≡◌, ◌∙◌, ◌+◌, ◌*◌, suc, subst, arith, sym}
use Rattle.std.specs.Prelude.{true}
use Rattle.sector_slots.specs.Slots.{read_header}
use Rattle.sector_map.specs.Table.{IsTabled, Heads}
use Rattle.sector_map.proofs.Tables.{head-entered, head-size}
use Rattle.sector_survey.proofs.Faults.{head-fault, heads-again, heads-same}
use Rattle.sector_survey.proofs.table.enter_seven.Goals as goal

pub head_fault-requires : goal.head_fault-requires
head_fault-requires c =
    let n = 7 * c.args.block + c.loop-place.place in
    let h = subst (λ z. Heads c.loop-place.table n (read_header c.args.heads.now c.loop-place.place) z c.enter_head.new.table) c.if-not-enter_head.true c.enter_head.ensures in
    heads-again c.loop-place.table c.enter_head.new.table n (read_header c.args.heads.now c.loop-place.place) h

pub returns-then-not-enter_head-clause-fault : goal.returns-then-not-enter_head-clause-fault
returns-then-not-enter_head-clause-fault c f total count heads low t size =
    let n = 7 * c.args.block + c.loop-place.place in
    let h = subst (λ z. Heads c.loop-place.table n (read_header c.args.heads.now c.loop-place.place) z c.enter_head.new.table) c.if-not-enter_head.true c.enter_head.ensures in
    let same = heads-same c.loop-place.table c.enter_head.new.table n (read_header c.args.heads.now c.loop-place.place) h in
    let at = heads c.loop-place.place c.loop-place-test.true in
    let tabled : IsTabled c.enter_head.new.table f n = subst (λ z. IsTabled z f n) (sym same) (c.loop-place.invariant.tabled f heads t) in
    head-fault c.head_fault.result c.enter_head.new.table f n total count (read_header c.args.heads.now c.loop-place.place) at.0 c.head_fault.ensures (omega (arith, low, c.loop-place-test.true)) at.1 tabled
    (head-size c.loop-place.table c.enter_head.new.table n (read_header c.args.heads.now c.loop-place.place) _ h ∙ (c.loop-place.invariant.size ∙ size))

pub loop-place-preserved : goal.loop-place-preserved
loop-place-preserved c =
    let n = 7 * c.args.block + c.loop-place.place in
    let h = subst (λ z. Heads c.loop-place.table n (read_header c.args.heads.now c.loop-place.place) z c.enter_head.new.table) c.if-not-enter_head.false c.enter_head.ensures in
    let next : suc n ≡ 7 * c.args.block + (c.loop-place.place + 1) = omega arith in
    record {
      size = head-size c.loop-place.table c.enter_head.new.table n (read_header c.args.heads.now c.loop-place.place) true h ∙ c.loop-place.invariant.size;
      tabled = λ f heads t.
          let at = heads c.loop-place.place c.loop-place-test.true in
          subst (λ k. IsTabled c.enter_head.new.table f k) next
          (head-entered c.loop-place.table c.enter_head.new.table n (read_header c.args.heads.now c.loop-place.place) h f at.0 at.1 (c.loop-place.invariant.tabled f heads t));
    }
