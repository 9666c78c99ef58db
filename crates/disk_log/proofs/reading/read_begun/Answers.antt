use Rattle.std.proofs.Common.{◌≡◌, ◌+◌, ◌∙◌, sym, refl, inl, inr, subst}
use Rattle.std.specs.Prelude.{All}
use Rattle.std.proofs.lemmas.Bool.{not-true, not-false}
use Rattle.std.proofs.lemmas.List.{take_rest}
use Rattle.disk_log.proofs.Held.{head-long}
use Rattle.disk_log.specs.Logs.{IsBare}
use Rattle.disk_log.proofs.Replays.{no-both}
use Rattle.disk_log.proofs.Finding.{none-changes, read-low, read-rest, read-sum, read-test, placed-reads, sums-same, sums-differ}
use Rattle.disk_log.proofs.reading.read_begun.Goals as goal

pub returns-then-is_checkpoint : goal.returns-then-is_checkpoint
returns-then-is_checkpoint c =
    let end = c.read_changes-end.ensures in
    let log = c.args.log.now in
    let len = c.read_changes-end.result.len in
    let sum = c.read_changes-end.result.sum in
    let long = head-long log c.requires.head in
    let there = read-test c.args.sectors log c.args.own sum len c.requires.head c.requires.own long end.low end.rest end.sum _ _ (take_rest log (16 + len)) c.is_checkpoint.ensures ∙ c.if-is_checkpoint.true in
    placed-reads c.args.sectors log c.args.image.now _ _ (16 + len) _ c.requires.head there
    (read-low c.args.sectors log c.args.own sum len c.requires.head c.requires.own long end.low end.rest end.sum)
    (take_rest log (16 + len))
    (read-rest c.args.sectors log c.args.own sum len c.requires.head c.requires.own long end.low end.rest end.sum)
    c.read_placed.ensures c.read_placed.auto.image

pub returns-then-is_bare : goal.returns-then-is_bare
returns-then-is_bare c =
    let end = c.read_changes-end.ensures in
    let log = c.args.log.now in
    let len = c.read_changes-end.result.len in
    let sum = c.read_changes-end.result.sum in
    let long = head-long log c.requires.head in
    let none = read-test c.args.sectors log c.args.own sum len c.requires.head c.requires.own long end.low end.rest end.sum _ _ (take_rest log (16 + len)) c.is_checkpoint.ensures ∙ c.if-is_checkpoint.false in
    let bare = c.is_bare.ensures.0 c.if-is_bare.true in
    let changes = (none-changes c.args.sectors log c.args.own len c.requires.head c.requires.own end.none).0 bare.0 in
    (inr (changes, subst (λ v. All (λ byte. byte ≡ 0) v) (take_rest log 16) bare.1), changes, none, refl)

pub returns-then-ne : goal.returns-then-ne
returns-then-ne c =
    let end = c.read_changes-end.ensures in
    let log = c.args.log.now in
    let len = c.read_changes-end.result.len in
    let sum = c.read_changes-end.result.sum in
    let long = head-long log c.requires.head in
    let none = read-test c.args.sectors log c.args.own sum len c.requires.head c.requires.own long end.low end.rest end.sum _ _ (take_rest log (16 + len)) c.is_checkpoint.ensures ∙ c.if-is_checkpoint.false in
    let bare : IsBare c.args.sectors log → ⊥ = λ b. no-both _ (c.is_bare.ensures.1 (
      (none-changes c.args.sectors log c.args.own len c.requires.head c.requires.own end.none).1 b.0,
      subst (λ v. All (λ byte. byte ≡ 0) v) (sym (take_rest log 16)) b.1,
    )) c.if-is_bare.false in
    (c.requires.head, refl, inl (none, bare, λ q. sums-differ _ _ (sym (not-true _ (sym c.if-ne.ensures))) (c.image_sum.ensures ∙ (sym q ∙ sym c.requires.own))))

pub returns : goal.returns
returns c =
    let end = c.read_changes-end.ensures in
    let log = c.args.log.now in
    let len = c.read_changes-end.result.len in
    let sum = c.read_changes-end.result.sum in
    let long = head-long log c.requires.head in
    let none = read-test c.args.sectors log c.args.own sum len c.requires.head c.requires.own long end.low end.rest end.sum _ _ (take_rest log (16 + len)) c.is_checkpoint.ensures ∙ c.if-is_checkpoint.false in (
      c.requires.head,
      none,
      sym c.requires.own ∙ (sym (sums-same _ _ (sym (not-false _ (sym c.if-ne.ensures)))) ∙ c.image_sum.ensures),
      read-low c.args.sectors log c.args.own sum len c.requires.head c.requires.own long end.low end.rest end.sum,
      read-rest c.args.sectors log c.args.own sum len c.requires.head c.requires.own long end.low end.rest end.sum,
      read-sum c.args.sectors log c.args.own sum len c.requires.head c.requires.own long end.low end.rest end.sum,
      refl,
    )
