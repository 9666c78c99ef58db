use Rattle.std.proofs.Common.{rules, ◌≡◌, sym, ◌∙◌, ap, subst, [], ◌∷◌, List, ℕ, ◌+◌, ◌*◌, length, ◌++◌}
use Rattle.std.proofs.lemmas.List.{length-append}
use Rattle.chip_model.specs.declared.programmer.Turn.{Turn}
use Rattle.chip_watch.specs.Changes.{with_place}
use Rattle.chip_watch.specs.Reading.{ArePieces}
use Rattle.chip_watch.proofs.ReadingLaws.{one_more_turn}
use Rattle.chip_watch.proofs.pieces.piece_turns.Goals as goal

pub loop-piece-preserved : goal.loop-piece-preserved
loop-piece-preserved c =
    let ts : List Turn = c.loop-piece.turns.items in
    let t : Turn = c.in-Some.turn in
    let pushed : c.push.new.self.items ≡ ts ++ (t ∷ []) = search rules in
    let longer : length (ts ++ (t ∷ [])) ≡ length ts + 1 = length-append ts (t ∷ []) in
    let many : length ts ≡ c.loop-piece.piece = c.loop-piece.invariant.count in
    let place : 4096 * (c.args.first + c.loop-piece.piece) ≡ 4096 * (c.args.first + length ts) = ap (λ (n : ℕ). 4096 * (c.args.first + n)) (sym many) in
    let sends : t.send.items ≡ with_place 3 (4096 * (c.args.first + length ts)) = c.in-Some.ensures.sent ∙ (c.with_place.ensures ∙ ap (with_place 3) place) in
    record {
      pieces = subst (ArePieces c.args.first) (sym pushed) (one_more_turn ts t c.args.first c.loop-piece.invariant.pieces sends c.in-Some.ensures.size);
      count = ap length pushed ∙ (longer ∙ ap (λ (n : ℕ). n + 1) many);
    }
