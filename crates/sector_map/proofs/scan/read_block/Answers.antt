use Rattle.std.proofs.Common.{◌+◌, ◌*◌, sym, subst, arith, inl, inr}
use Rattle.std.specs.Prelude.{true, false}
use Rattle.sector_slots.specs.Slots.{slot_at, slot_count, kind_at}
use Rattle.sector_map.specs.Table.{IsTabled}
use Rattle.sector_map.specs.Found.{block_counts}
use Rattle.sector_map.proofs.Tables.{tabled-skipped}
use Rattle.sector_map.proofs.Founds.{spare-heads, block-spare, heads-of, skips-of, kind-counts, bool-cases, some-bool}
use Rattle.sector_map.proofs.scan.read_block.Goals as goal

pub returns-then-not-enter_counted-clause-corrupt : goal.returns-then-not-enter_counted-clause-corrupt
returns-then-not-enter_counted-clause-corrupt g c is count size tabled sound =
    let m = (g.S.SlotCalls.state c.args.slots.now).memory in
    let p = c.enter_counted.ensures.corrupt (cc c.if-not-enter_counted.true) in
    p.1 (slot_at m) (slot_count m) count (heads-of c.args.found m c.args.block c.head.new.into c.requires.found c.requires.number (kind-counts c.args.found c.args.block c.in_ok-kind.kind (kind_at m c.args.block) true c.in_ok-kind.ensures.ok p.0) c.in_ok-kind.ensures.slots)
    (omega (arith, c.requires.number)) tabled size sound

pub returns-clause-entered : goal.returns-clause-entered
returns-clause-entered g c spare is tabled =
    let m = (g.S.SlotCalls.state c.args.slots.now).memory in
    elim (bool-cases (block_counts c.args.found c.in_ok-kind.kind c.args.block)) as (λ _. IsTabled c.enter_counted.new.table (slot_at m) (7 * c.args.block + 7)) [
      | inl here ↦ c.enter_counted.ensures.sound (cc c.if-not-enter_counted.false) here (slot_at m) (heads-of c.args.found m c.args.block c.head.new.into c.requires.found c.requires.number (kind-counts c.args.found c.args.block c.in_ok-kind.kind (kind_at m c.args.block) true c.in_ok-kind.ensures.ok here) c.in_ok-kind.ensures.slots) tabled
      | inr none ↦ subst (λ z. IsTabled z (slot_at m) (7 * c.args.block + 7)) (sym (c.enter_counted.ensures.skips (cc c.if-not-enter_counted.false) none))
          (tabled-skipped c.args.table.now (slot_at m) (7 * c.args.block) 7 (skips-of c.args.found m c.args.block c.requires.found (kind-counts c.args.found c.args.block c.in_ok-kind.kind (kind_at m c.args.block) false c.in_ok-kind.ensures.ok none)) tabled)
    ]

pub returns-clause-spare : goal.returns-clause-spare
returns-clause-spare g c e =
    let is = some-bool c.is_wholly_free.result true e in
    spare-heads (g.S.SlotCalls.state c.args.slots.now).memory c.args.block c.in_ok-kind.kind c.head.new.into c.in_ok-kind.ensures.ok c.in_ok-kind.ensures.slots (c.is_wholly_free.ensures.plain (cc is)) (c.is_wholly_free.ensures.free (cc is))

pub returns-clause-not_spare : goal.returns-clause-not_spare
returns-clause-not_spare g c e s =
    let is = some-bool c.is_wholly_free.result false e in
    block-spare (g.S.SlotCalls.state c.args.slots.now).memory c.args.block c.in_ok-kind.kind c.head.new.into c.in_ok-kind.ensures.ok c.in_ok-kind.ensures.slots (c.is_wholly_free.ensures.not_free (cc is)) s
