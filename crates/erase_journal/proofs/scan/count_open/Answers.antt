use Rattle.std.proofs.Common.{◌≡◌, sym, arith, inl, inr, lit≤}
use Rattle.std.proofs.lemmas.Bool.{cases_lt}
use Rattle.std.proofs.lemmas.Bool.Decides.{nat_tests}
use Rattle.erase_journal.specs.Scans.{named_in}
use Rattle.erase_journal.proofs.Scans.{open_blocks_in-zero, open_blocks_in-skip, open_blocks_in-old, open_blocks_in-new}
use Rattle.erase_journal.proofs.scan.count_open.Goals as goal
use Rattle.erase_journal.proofs.scan.count_open.Goals.{in-Some+then-not-is_named, in-Some+else-not-is_named, in_default}

pub loop-entry-init : goal.loop-entry-init
loop-entry-init c = (sym (open_blocks_in-zero c.args.bytes.now c.args.blocks), lit≤ tt)

pub loop-entry-preserved : goal.loop-entry-preserved
loop-entry-preserved c =
    let xs = c.args.bytes.now in
    let n = c.loop-entry.entry in
    let h = c.loop-entry.invariant in
    elim c.match-open_block.branch [
      | in-Some+then-not-is_named w ↦
          let fresh : named_in xs c.args.blocks n w.in-Some.block ≡ 0 = elim (cases_lt 0 (named_in xs c.args.blocks n w.in-Some.block)) [
            | inl some ↦ absurd (let t = w.is_named.ensures.1 some in let f = w.if-not-is_named.true in grind (arith, nat_tests))
            | inr none ↦ omega arith
          ] in
          let e = open_blocks_in-new xs c.args.blocks n w.in-Some.ensures.none (rw w.in-Some.ensures.block at fresh) in
          let more = w.opened-is in
          (omega (arith, e, more, h), omega (arith, more, h))
      | in-Some+else-not-is_named w ↦
          let named = w.is_named.ensures.0 (let f = w.if-not-is_named.false in grind (arith, nat_tests)) in
          let e = open_blocks_in-old xs c.args.blocks n w.in-Some.ensures.none (rw w.in-Some.ensures.block at named) in
          let same = w.opened-is in
          (omega (arith, e, same, h), omega (arith, same, h))
      | in_default w ↦
          let e = open_blocks_in-skip xs c.args.blocks n (rw w.in_default.is at c.open_block.ensures.none) in
          let same = w.opened-is in
          (omega (arith, e, same, h), omega (arith, same, h))
    ]
