use Rattle.std.proofs.Common.{◌≡◌, ◌+◌, ◌-◌, ◌*◌, subst, arith, take, drop}
use Rattle.std.specs.Bool.{Decides}
use Rattle.std.proofs.lemmas.Slice.Eq.{slice_eq-Decides}
use Rattle.std.proofs.lemmas.Bool.Decides.{Decides-eqb}
use Rattle.block_device.specs.Contents.{sector}
use Rattle.norbd_transfer.proofs.comparing.is_same.Goals as goal

pub returns : goal.returns
unfolding sector
returns c =
    let k = c.args.k in
    let r = c.eq.result in
    let these = c.args.these.now in
    let those = c.args.those.now in
    let long : k * 512 + 512 - k * 512 ≡ 512 = omega arith in
    let begin : k * 512 ≡ 512 * k = omega arith in
    let same : Decides r (take (k * 512 + 512 - k * 512) (drop (k * 512) these) ≡ take (k * 512 + 512 - k * 512) (drop (k * 512) those)) =
    slice_eq-Decides Decides-eqb _ _ r c.eq.ensures in
    subst (λ n. Decides r (take 512 (drop n these) ≡ take 512 (drop n those))) begin
    (subst (λ n. Decides r (take n (drop (k * 512) these) ≡ take n (drop (k * 512) those))) long same)
