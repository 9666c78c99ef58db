use Rattle.std.proofs.Common.{◌≡◌, ◌≤◌, ◌+◌, ◌-◌, ◌*◌, ◌++◌, ◌∙◌, take, drop, length, ap, sym, arith, refl, subst}
use Rattle.std.proofs.lemmas.Bool.{not-false}
use Rattle.std.proofs.lemmas.Slice.Eq.{bytes_eq-Decides}
use Rattle.disk_log.specs.Checkpoints.{with_blocks}
use Rattle.disk_log.proofs.Places.{Collected, collected-same, collected-next, collected-all}
use Rattle.disk_log.proofs.checkpoint.changed_blocks.Goals as goal
use Rattle.disk_log.proofs.checkpoint.changed_blocks.Goals.{then-ne+in_ok-push_entry, else-ne}

pub loop-k-init : goal.loop-k-init
unfolding with_blocks
loop-k-init c = record {
  count = 0;
  few = omega arith;
  len = c.in_ok-push_sum.ensures.len;
  sum = c.in_ok-push_sum.ensures.sum ∙ c.image_sum.ensures;
  blocks = refl;
}

pub loop-k-preserved : goal.loop-k-preserved
loop-k-preserved c =
    let k = c.loop-k.k in
    let low = c.loop-k-test.true in
    let n : 4096 * k + 4096 - 4096 * k ≡ 4096 = omega arith in
    let fits : 4096 * (k + 1) ≤ length c.args.is.now = omega arith in
    elim c.if-ne.branch [
      | then-ne+in_ok-push_entry w ↦
          (let e = w.in_ok-push_entry.ensures in
          let grown : c.loop-k.body.items ++ (e.0 ++ take 4096 (drop (4096 * k) c.args.is.now)) ≡ c.if-ne.body.items =
          ap (λ v. c.loop-k.body.items ++ (e.0 ++ take v (drop (4096 * k) c.args.is.now))) (sym n) ∙ (sym e.3 ∙ ap (λ v. v.items) (sym w.body-is)) in
          subst (λ v. Collected c.args.was.now c.args.is.now v (k + 1)) grown
          (collected-next c.args.was.now c.args.is.now c.loop-k.body.items e.0 k c.loop-k.invariant c.requires.same fits e.1 e.2))
      | else-ne w ↦
          (let same = (bytes_eq-Decides _ _).0 (not-false _ (sym c.ne.ensures ∙ w.if-ne.false)) in
          subst (λ v. Collected c.args.was.now c.args.is.now v.items (k + 1)) (sym w.body-is)
          (collected-same c.args.was.now c.args.is.now c.loop-k.body.items k c.loop-k.invariant fits
          (ap (λ v. take v (drop (4096 * k) c.args.is.now)) (sym n) ∙ (same ∙ ap (λ v. take v (drop (4096 * k) c.args.was.now)) n))))
    ]

pub returns : goal.returns
returns c = collected-all c.args.was.now c.args.is.now c.loop-k.body.items c.loop-k.k c.loop-k.invariant c.requires.same c.requires.len (omega (arith, c.loop-k-test.false)) (omega (arith, c.loop-k.auto.k-end))
