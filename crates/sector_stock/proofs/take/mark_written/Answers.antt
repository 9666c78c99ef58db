use Rattle.std.proofs.Common.{◌≤◌, ◌/◌, sym, ap, subst, arith, inl, inr}
use Rattle.std.proofs.lemmas.Bool.{cases_eq}
use Rattle.sector_stock.specs.Index.{in_block, IsWholeBlock}
use Rattle.sector_stock.proofs.take.mark_written.Goals as goal

pub first_cursors-requires-clause-numbers : goal.first_cursors-requires-clause-numbers
first_cursors-requires-clause-numbers c d low =
    let m = c.mark_live.ensures.marked in
    let n = m.block_size in
    elim (cases_eq d (c.args.slot / 7)) as (λ _. (in_block c.mark_live.new.blocks d).dead ≤ 7) [
      | inl e ↦ let p = c.requires.numbers (c.args.slot / 7) c.requires.block in let q = ap (λ b. b.dead) m.its_block in let r = ap (λ a. (in_block c.mark_live.new.blocks a).dead) e in omega (arith, p, q, r)
      | inr ne ↦ let p = c.requires.numbers d (omega (arith, low, n)) in let q = ap (λ b. b.dead) (m.other_blocks d (omega (arith, low, n)) ne) in omega (arith, p, q)
    ]

pub first_cursors-requires-clause-spare : goal.first_cursors-requires-clause-spare
first_cursors-requires-clause-spare c =
    let m = c.mark_live.ensures.marked in
    let n = m.block_size in
    let s = c.requires.spare in
    let low = s.1 in
    (s.0, omega (arith, low, n), subst (λ b. IsWholeBlock b) (sym (m.other_blocks s.0 low s.3)) s.2)
