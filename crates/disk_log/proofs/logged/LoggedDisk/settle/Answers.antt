use Rattle.std.proofs.Common.{◌≡◌, ◌∙◌, List, ℕ, length, sym, subst, ap, refl, arith, rules}
use Rattle.disk_log.specs.Checkpoints.{IsImageLen}
use Rattle.disk_log.specs.Logs.{IsBegunLog}
use Rattle.disk_log.specs.declared.logged.Standing.TheVariants as standings
use Rattle.disk_log.specs.Power.{IsInOrder}
use Rattle.disk_log.proofs.Disks.{to-files, of-files, kept-settled-on, ready-of, counts-of, same-facts, cut-latches, settled-held, settled-begun, settled-sectors, settled-alone, unsettled-alone, unready-alone, untouched-alone, unsettled-told, unsettled-same}
use Rattle.disk_log.proofs.logged.LoggedDisk.settle.Goals as goal

pub invariant_of-self-in-Ok : goal.invariant_of-self-in-Ok
invariant_of-self-in-Ok g c =
    let self = c.args.self.now in
    let e = ready-of self.standing _ (sym c.standing_error.ensures ∙ c.in_ok-standing_error.was) in
    let r = g.D.ImageDisk.represents in
    let is = c.image-image.result.now in
    let contents = (g.D.Disk.facts self.disk).contents in
    let f = g.F.ImageFiles.medium self.files in
    let f' = g.F.ImageFiles.medium c.settle_files.new.files in
    let sum = c.settle_files.new.sum in
    let items = c.copy_from_slice.ensures.items in
    let x = c.if-image-len.false in
    let y = c.len.ensures in
    let len : length c.copy_from_slice.new.self.items ≡ length self.image.items = (let z : length is ≡ length self.image.items = search rules in ap (λ (v : List ℕ). length v) items ∙ z) in
    record {
      few = self.few;
      len = subst (λ n. IsImageLen n) (sym len) self.len;
      size = self.size;
      told = ap (λ (v : List ℕ). length v) (settled-held _ _ r self.sectors is contents f f' sum c.image-image.ensures _ c.in-Ok.ensures.settles) ∙ self.size;
      ready = self.ready;
      counted = λ _. settled-sectors _ _ r self.sectors is contents f f' sum c.image-image.ensures _ c.in-Ok.ensures.settles (self.counted e);
      begun = λ _ m q. subst (λ v. IsBegunLog m v sum) (sym items) (settled-begun _ _ r self.sectors is contents f f' sum c.image-image.ensures _ c.in-Ok.ensures.settles m q);
      same = λ _ s. settled-held _ _ r self.sectors is contents f f' sum c.image-image.ensures _ c.in-Ok.ensures.settles;
      kept = λ s. of-files (λ m. IsInOrder r m) f' (kept-settled-on r is contents f f' c.image-image.ensures (self.same e s) (to-files (λ m. IsInOrder r m) f (self.kept s)) c.in-Ok.ensures.kept);
    }

pub invariant_of-self-in-Err : goal.invariant_of-self-in-Err
invariant_of-self-in-Err g c =
    let self = c.args.self.now in
    let e = ready-of self.standing _ (sym c.standing_error.ensures ∙ c.in_ok-standing_error.was) in
    let r = g.D.ImageDisk.represents in
    let is = c.image-image.result.now in
    let contents = (g.D.Disk.facts self.disk).contents in
    let f = g.F.ImageFiles.medium self.files in
    let f' = g.F.ImageFiles.medium c.settle_files.new.files in
    record {
      few = self.few;
      len = self.len;
      size = self.size;
      told = unsettled-told _ _ r self.sectors is contents f f' c.settle_files.new.sum c.image-image.ensures _ c.in-Err.ensures.settles self.size self.told;
      ready = λ x. cc;
      counted = λ x. cc;
      begun = λ x. cc;
      same = λ x. cc;
      kept = λ s. of-files (λ m. IsInOrder r m) f' (kept-settled-on r is contents f f' c.image-image.ensures (self.same e s) (to-files (λ m. IsInOrder r m) f (self.kept s)) c.in-Err.ensures.kept);
    }

pub returns-in-Err-clause-settled : goal.returns-in-Err-clause-settled
returns-in-Err-clause-settled g c =
    let self = c.args.self.now in
    let e = ready-of self.standing _ (sym c.standing_error.ensures ∙ c.in_ok-standing_error.was) in
    let r = g.D.ImageDisk.represents in
    let is = c.image-image.result.now in
    let facts = g.D.Disk.facts self.disk in
    let f = g.F.ImageFiles.medium self.files in
    let f' = g.F.ImageFiles.medium c.settle_files.new.files in
    let more = c.tick-in-Err.ensures in
    let told = unsettled-told _ _ r self.sectors is facts.contents f f' c.settle_files.new.sum c.image-image.ensures _ c.in-Err.ensures.settles self.size self.told in
    record {
      contents = λ sound. unsettled-same _ _ r self.sectors is facts.contents f f' c.settle_files.new.sum c.image-image.ensures _ c.in-Err.ensures.settles (self.same e sound);
      sound = refl;
      goes = counts-of r f f' self.standing standings.Cut self.lost c.tick-in-Err.new.self self.waits self.waits self.sectors facts facts self.told told (omega (arith, more)) (same-facts facts);
      latches = cut-latches (Unit {0}) r f f' self.standing self.lost c.tick-in-Err.new.self self.waits self.waits facts facts e more (omega arith);
    }

pub returns-in-Ok-clause-alone : goal.returns-in-Ok-clause-alone
returns-in-Ok-clause-alone g c =
    settled-alone _ _ g.D.ImageDisk.represents c.args.self.now.sectors c.image-image.result.now (g.D.Disk.facts c.args.self.now.disk).contents (g.F.ImageFiles.medium c.args.self.now.files)
    (g.F.ImageFiles.medium c.settle_files.new.files) c.settle_files.new.sum c.image-image.ensures _ c.in-Ok.ensures.settles _ _

pub returns-in-Err-clause-alone : goal.returns-in-Err-clause-alone
returns-in-Err-clause-alone g c =
    unsettled-alone _ _ g.D.ImageDisk.represents c.args.self.now.sectors c.image-image.result.now (g.D.Disk.facts c.args.self.now.disk).contents (g.F.ImageFiles.medium c.args.self.now.files)
    (g.F.ImageFiles.medium c.settle_files.new.files) c.settle_files.new.sum c.image-image.ensures _ c.in-Err.ensures.settles _ _ _

pub returns-then-image-len-clause-alone : goal.returns-then-image-len-clause-alone
returns-then-image-len-clause-alone g c = untouched-alone _ _ _ _ _

pub returns-in_err-standing_error-clause-alone : goal.returns-in_err-standing_error-clause-alone
returns-in_err-standing_error-clause-alone g c = unready-alone _ _ _ _ c.from_residual.ensures.0 _
