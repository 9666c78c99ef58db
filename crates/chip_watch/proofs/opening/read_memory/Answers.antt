use Rattle.std.proofs.Common.{◌≡◌, ◌∙◌, ◌*◌, ◌+◌, ℕ, ap, arith, subst}
use Rattle.chip_model.specs.Exchanges.{Exchanged}
use Rattle.chip_watch.specs.Reading.{piece_reads}
use Rattle.chip_watch.specs.Told.{frames_told}
use Rattle.chip_watch.proofs.opening.read_memory.Goals as goal

pub loop-batch-preserved : goal.loop-batch-preserved
loop-batch-preserved g c =
    let log = g.P.Programmer.exchanged in
    let i = c.loop-batch.batch in
    let m = c.read_pieces.new.memory.items in
    let e = c.in_ok-read_pieces.ensures in
    let up : 8 * i + 8 ≡ 8 * (i + 1) = omega arith in
    record {
      long = e.long ∙ ap (λ (n : ℕ). 4096 * n) up;
      read = subst (λ (n : ℕ). Exchanged (frames_told log c.args.wire.now) (frames_told log c.read_pieces.new.wire) (piece_reads m 0 n)) up
          (e.read (frames_told log c.args.wire.now) c.loop-batch.invariant.read);
    }
