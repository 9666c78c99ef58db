use Rattle.std.proofs.Common.{◌≡◌, ◌≤◌, ◌+◌, ◌-◌, ◌*◌, ℕ, List, length, take, drop, ap, arith, ◌∙◌, sym}
use Rattle.std.proofs.lemmas.List.{drop-drop, length-drop}
use Rattle.disk_log.proofs.Entries.{placing-first, entry-there, placing-next, placing-failed, placing-done}
use Rattle.disk_log.proofs.placing.write_blocks.Goals as goal

long-of : (count : ℕ) (body : List ℕ) → 8 + 4104 * count ≤ length body → 4104 * count ≤ length (drop 8 body)
long-of count body long = rw (length-drop 8 body) (omega (arith, long))

entry-of : (k : ℕ) (body : List ℕ) → take (8 + 4104 * k + 4104 - (8 + 4104 * k)) (drop (8 + 4104 * k) body) ≡ take 4104 (drop (4104 * k) (drop 8 body))
entry-of k body =
    (let n : 8 + 4104 * k + 4104 - (8 + 4104 * k) ≡ 4104 = omega arith in
    ap (λ v. take v (drop (8 + 4104 * k) body)) n ∙ ap (λ v. take 4104 v) (sym (drop-drop (4104 * k) 8 body)))

pub loop-k-init : goal.loop-k-init
loop-k-init g c = placing-first c.args.count (drop 8 c.args.body.now) (g.F.ImageFiles.medium c.args.files.now)

pub write_entry-requires-clause-there : goal.write_entry-requires-clause-there
write_entry-requires-clause-there g c =
    entry-there c.args.count (drop 8 c.args.body.now) (long-of c.args.count c.args.body.now c.requires.long) c.loop-k.k c.loop-k-test.true _ (entry-of c.loop-k.k c.args.body.now)
    c.args.len _ _ c.requires.there c.loop-k.invariant

pub loop-k-preserved : goal.loop-k-preserved
loop-k-preserved g c =
    placing-next c.args.count (drop 8 c.args.body.now) (long-of c.args.count c.args.body.now c.requires.long) c.loop-k.k c.loop-k-test.true _ (entry-of c.loop-k.k c.args.body.now)
    _ _ _ _ _ _ c.loop-k.invariant c.in_ok-write_entry.ensures

pub returns-in_err-write_entry : goal.returns-in_err-write_entry
returns-in_err-write_entry g c =
    placing-failed c.args.count (drop 8 c.args.body.now) (long-of c.args.count c.args.body.now c.requires.long) c.loop-k.k c.loop-k-test.true _ (entry-of c.loop-k.k c.args.body.now)
    _ _ _ _ _ _ c.from_residual.ensures.0 _ _ _ c.loop-k.invariant c.in_err-write_entry.ensures

pub returns : goal.returns
returns g c = placing-done _ _ _ c.args.count (drop 8 c.args.body.now) c.loop-k.k _ _ c.loop-k-test.false c.loop-k.invariant
