use Rattle.std.proofs.Common.{◌≤◌, ◌+◌, ◌∙◌, ap, sym, List, ℕ, arith, get_or, length}
use Rattle.std.specs.Prelude.{set}
use Rattle.std.proofs.lemmas.List.{take_all}
use Rattle.chip_model.specs.Memory.{placed}
use Rattle.chip_model.proofs.MemoryLaws.{placed-nothing}
use Rattle.chip_simulator.specs.Mask.{torn_byte}
use Rattle.chip_simulator.proofs.RunLaws.{placed_more}
use Rattle.chip_simulator.proofs.frame.tear_run.Goals as goal

pub loop-k-init : goal.loop-k-init
loop-k-init c = sym (placed-nothing (torn_byte c.args.mask) c.args.memory.now c.args.from)

pub loop-k-preserved : goal.loop-k-preserved
loop-k-preserved c =
    ap (λ (xs : List ℕ). set xs (c.args.from + c.loop-k.k) ((torn_byte c.args.mask) (get_or xs (c.args.from + c.loop-k.k) 0) (get_or c.args.bytes.now c.loop-k.k 0))) c.loop-k.invariant
    ∙ placed_more (torn_byte c.args.mask) c.args.memory.now c.args.from c.args.bytes.now c.loop-k.k c.loop-k-test.true (omega arith)

pub returns : goal.returns
returns c =
    let le : length c.args.bytes.now ≤ c.loop-k.k = omega arith in
    c.loop-k.invariant ∙ ap (λ (b : List ℕ). placed (torn_byte c.args.mask) c.args.memory.now c.args.from b) (take_all c.loop-k.k c.args.bytes.now le)
