use Rattle.std.proofs.Common.{◌≡◌, refl, subst, length, arith}
use Rattle.sector_stock.specs.Takes.{TidiesStock, converts}
use Rattle.sector_stock.specs.Index.{erases_of}
use Rattle.sector_stock.proofs.Even.{may-within}
use Rattle.sector_stock.proofs.Converting.{group-listed, other-listed, no-groups}
use Rattle.std.proofs.lemmas.Result.{err_from_is_err_and}
use Rattle.erase_journal.proofs.SettledLaws.{settled-healthy}
use Rattle.sector_stock.proofs.take.convert_lowest.Goals as goal

pub convert_block-requires-clause-group : goal.convert_block-requires-clause-group
convert_block-requires-clause-group g c =
    let n = c.requires.index.listed.block_size in
    let low = c.in-Some.ensures.0 in
    group-listed (g.S.SlotCalls.state c.args.slots.now).memory c.args.states.now c.args.blocks.now c.in-Some.source c.requires.index.listed (omega (arith, n, low)) c.in-Some.ensures.1

pub returns-in-None-clause-none : goal.returns-in-None-clause-none
returns-in-None-clause-none g c e = (no-groups (g.S.SlotCalls.state c.args.slots.now).memory c.args.states.now c.args.blocks.now c.requires.index.listed c.in-None.ensures, refl)

pub convert_block-requires-clause-may : goal.convert_block-requires-clause-may
convert_block-requires-clause-may g c by = may-within c.in-Some.source (length c.args.blocks.now) (erases_of c.args.blocks.now) c.in-Some.ensures.0 (c.requires.even by)

pub returns-in_ok-converted-in-Some-clause-copied : goal.returns-in_ok-converted-in-Some-clause-copied
returns-in_ok-converted-in-Some-clause-copied g c d e =
    let m = (g.S.SlotCalls.state c.args.slots.now).memory in
    let m1 = (g.S.SlotCalls.state c.convert_block.new.slots).memory in
    let q : c.in_ok-converted-in-Some.converted ≡ d = cc in
    let is = c.in_ok-converted-in-Some.ensures.source in
    let n = c.requires.index.listed.block_size in
    let inside = c.in-Some.ensures.0 in
    subst (λ k. TidiesStock k.source k.target m m1) q
    (converts c.requires.none (λ b below. other-listed m c.args.states.now c.args.blocks.now b c.requires.index.listed (omega (arith, below, is, n, inside)) (c.in-Some.ensures.2 b (omega (arith, below, is)))) c.in_ok-converted-in-Some.ensures.ok)

pub returns-in_err-converted-in-Some-clause-cut : goal.returns-in_err-converted-in-Some-clause-cut
returns-in_err-converted-in-Some-clause-cut g c is =
    let p = err_from_is_err_and c.from_residual.result c.from_residual.ensures.1 in
    c.in_err-converted-in-Some.ensures.cut (cc (p.1, p.2)) (settled-healthy (g.S.SlotCalls.state c.args.slots.now).memory c.requires.settled)
