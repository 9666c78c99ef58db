use Rattle.std.proofs.Common.{◌≤◌, ◌+◌, ◌*◌, ◌∙◌, [], ℕ, length, sym, arith}
use Rattle.std.specs.Prelude.{replicate}
use Rattle.std.proofs.lemmas.List.{length-replicate}
use Rattle.disk_log.specs.Records.{Change, record_change}
use Rattle.disk_log.specs.declared.logged.Standing.TheVariants as standings
use Rattle.disk_log.specs.Power.{IsInOrder}
use Rattle.disk_log.proofs.Disks.{to-files, of-files, in-range, ready-of, counts-of, kept-added, added-begun, added-sectors, told-added, same-added, told-not-added, outcome-not-added, cut-latches}
use Rattle.disk_log.proofs.logged.LoggedDisk.put_zeros.Goals as goal

pub zero-requires : goal.zero-requires
zero-requires g c = in-range _ _ _ _ (c.args.self.now.size ∙ sym c.args.self.now.told) c.requires

pub invariant_of-self : goal.invariant_of-self
invariant_of-self g c =
    let self = c.args.self.now in
    let wrote = c.in-Ok.ensures in
    let e = ready-of self.standing _ (sym c.standing_error.ensures ∙ c.in_ok-standing_error.was) in
    let within = c.requires.within in
    let told = self.told in
    let change : Change = record_change 1 c.args.first c.args.count [] in
    let fits : 512 * c.args.first + length (replicate (512 * c.args.count) 0) ≤ 512 * self.sectors = rw (length-replicate {A = ℕ} (512 * c.args.count) 0) (omega (arith, within, told)) in
    let f = g.F.ImageFiles.medium self.files in
    let f' = g.F.ImageFiles.medium c.append_change.new.files in
    let r = g.D.ImageDisk.represents in
    let size = wrote.goes.size ∙ self.size in
    record {
      few = self.few;
      len = self.len;
      size = size;
      told = told-added _ _ r change self.sectors self.image.items self.sum fits f f' (self.counted e) (self.begun e) c.append_change.new.sum _ c.in-Ok-append_change.ensures.adds _ _ size told;
      ready = λ _. wrote.latches.1;
      counted = λ _. added-sectors _ _ r change self.sectors self.image.items self.sum fits f f' (self.counted e) (self.begun e) c.append_change.new.sum _ c.in-Ok-append_change.ensures.adds;
      begun = λ _. added-begun _ _ r change self.sectors self.image.items self.sum fits f f' (self.counted e) (self.begun e) c.append_change.new.sum _ c.in-Ok-append_change.ensures.adds;
      same = λ _ sound. same-added _ _ r change self.sectors self.image.items self.sum fits f f' (self.counted e) (self.begun e) c.append_change.new.sum _ c.in-Ok-append_change.ensures.adds _ _
          (self.same e (sym wrote.sound ∙ sound)) (wrote.contents (sym wrote.sound ∙ sound));
      kept = λ sound. of-files (λ m. IsInOrder r m) f' (kept-added (Unit {0}) (Unit {0}) r change self.sectors self.image.items self.sum fits f f' (self.counted e) (self.begun e) (to-files (λ m. IsInOrder r m) f (self.kept (sym wrote.sound ∙ sound))) c.in-Ok-append_change.ensures.kept);
    }

pub invariant_of-self-in-Err-append_change : goal.invariant_of-self-in-Err-append_change
invariant_of-self-in-Err-append_change g c =
    let self = c.args.self.now in
    let wrote = c.in-Ok.ensures in
    let e = ready-of self.standing _ (sym c.standing_error.ensures ∙ c.in_ok-standing_error.was) in
    let within = c.requires.within in
    let told = self.told in
    let change : Change = record_change 1 c.args.first c.args.count [] in
    let fits : 512 * c.args.first + length (replicate (512 * c.args.count) 0) ≤ 512 * self.sectors = rw (length-replicate {A = ℕ} (512 * c.args.count) 0) (omega (arith, within, told)) in
    let f = g.F.ImageFiles.medium self.files in
    let f' = g.F.ImageFiles.medium c.append_change.new.files in
    let r = g.D.ImageDisk.represents in
    let size = wrote.goes.size ∙ self.size in
    record {
      few = self.few;
      len = self.len;
      size = size;
      told = told-not-added _ _ r change self.sectors self.image.items self.sum fits f f' (self.counted e) (self.begun e) c.append_change.new.sum _ c.in-Err-append_change.ensures.adds _ _ size told;
      ready = λ x. cc;
      counted = λ x. cc;
      begun = λ x. cc;
      same = λ x. cc;
      kept = λ sound. of-files (λ m. IsInOrder r m) f' (kept-added (Unit {0}) (Unit {0}) r change self.sectors self.image.items self.sum fits f f' (self.counted e) (self.begun e) (to-files (λ m. IsInOrder r m) f (self.kept (sym wrote.sound ∙ sound))) c.in-Err-append_change.ensures.kept);
    }

pub returns-in-Err-append_change : goal.returns-in-Err-append_change
returns-in-Err-append_change g c =
    let self = c.args.self.now in
    let wrote = c.in-Ok.ensures in
    let e = ready-of self.standing _ (sym c.standing_error.ensures ∙ c.in_ok-standing_error.was) in
    let within = c.requires.within in
    let told = self.told in
    let change : Change = record_change 1 c.args.first c.args.count [] in
    let fits : 512 * c.args.first + length (replicate (512 * c.args.count) 0) ≤ 512 * self.sectors = rw (length-replicate {A = ℕ} (512 * c.args.count) 0) (omega (arith, within, told)) in
    let f = g.F.ImageFiles.medium self.files in
    let f' = g.F.ImageFiles.medium c.append_change.new.files in
    let r = g.D.ImageDisk.represents in
    let size = wrote.goes.size ∙ self.size in
    let more = c.tick.ensures in
    let cuts = wrote.goes.cuts in
    let told' = told-not-added _ _ r change self.sectors self.image.items self.sum fits f f' (self.counted e) (self.begun e) c.append_change.new.sum _ c.in-Err-append_change.ensures.adds _ _ size told in
    record {
      contents = λ sound. outcome-not-added _ _ r change self.sectors self.image.items self.sum fits f f' (self.counted e) (self.begun e) c.append_change.new.sum _ c.in-Err-append_change.ensures.adds _ _
          told (wrote.contents sound);
      sound = wrote.sound;
      goes = counts-of r f f' self.standing standings.Cut self.lost c.tick.new.self self.waits self.waits self.sectors _ _ told told' (omega (arith, more)) wrote.goes;
      latches = cut-latches (Unit {0}) r f f' self.standing self.lost c.tick.new.self self.waits self.waits (g.D.Disk.facts self.disk) (g.D.Disk.facts c.zero.new.self) e more cuts;
    }
