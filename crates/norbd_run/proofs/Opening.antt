-- An image of layout 1 of which a free block isn't erased isn't clean.
use Rattle.std.proofs.Common.{◌≡◌, ◌∙◌, ℕ, ◌*◌, ◌-◌, Bool, true, false, List, length, ap, arith, inl, inr, refl, subst}
use Rattle.std.specs.Prelude.{Option, Some, None, IfErr, IfOk, IfSome, Result, Ok, Err, drop, is_some, take}
use Rattle.std.proofs.Math.Seq.{take-length}
use Rattle.std.proofs.lemmas.Bool.{true≢false, false≢true}
use Rattle.erase_journal.specs.Journals.{IsHealthy}
use Rattle.block_device.specs.Contents.{bytes_at}
use Rattle.chip_model.specs.Geometry.{sector_count}
use Rattle.nor_layout.specs.declared.layout.Layout.{Layout}
use Rattle.sector_slots.specs.Blocks.{AreAtRest}
use Rattle.sector_slots.specs.Slots.{data_blocks, kind_at}
use Rattle.nor_layout.specs.Layouts.{layout_of}
use Rattle.nor_layout.specs.declared.superblock.SuperError.TheVariants as supers
use Rattle.sector_map.specs.Maps.{IsMountable, geometry_of, is_layout}
use Rattle.sector_survey.specs.Cleanness.{HasCleanGroups, IsCleanImage, IsFirstDirty, IsOfGroups, Judges, is_clean}
use Rattle.sector_survey.specs.Reports.{CleannessTells}
use Rattle.sector_survey.specs.Verdicts.{Tells}
use Rattle.sector_survey.specs.declared.clean.Cleanness.{Cleanness}
use Rattle.sector_survey.specs.declared.verdict.Verdict.{Verdict}
use Rattle.sector_survey.specs.declared.verdict.Verdict.TheVariants.{Mountable}
use Rattle.sector_survey.proofs.Cleaning.{first-is-dirty, judges}
use Rattle.norbd_line.specs.declared.fault.Fault.{Fault}
use Rattle.norbd_run.specs.Opening.{IsCheckedClean, IsReason}

pub dirty-reason : (found : Option ℕ) (m : List ℕ) → is_some found ≡ true → IfSome found (λ at. IsOfGroups m × IsFirstDirty m at) → IsCleanImage m → ⊥
dirty-reason None m some h clean = absurd (false≢true some)
dirty-reason (Some at) m some h clean = first-is-dirty m at h.1 (clean.1 h.0)

pub none-clean : (found : Option ℕ) (m : List ℕ) → is_some found ≡ false → (found ≡ None → IsHealthy m → HasCleanGroups m) → IsMountable m → HasCleanGroups m
none-clean None m none h mountable = h refl mountable.store.journals
none-clean (Some at) m none h mountable = absurd (true≢false none)

-- what a report on an image that would be mounted says of what reads as free
pub report-judges : (v : Verdict) (o : Option Cleanness) (layout : Layout) (says : Cleanness) (m : List ℕ) → Tells v m → CleannessTells v o m → v ≡ Mountable layout → o ≡ Some says
    → IsMountable m × Judges (is_clean says) m
report-judges v o layout says m tells clean is some =
    let told = subst (λ z. Tells z m) is tells in
    let said = subst (λ z. CleannessTells (Mountable layout) z m) some (subst (λ z. CleannessTells z o m) is clean) in
    (told.mountable, judges says layout m told.layout said)

pub judged-clean : (m : List ℕ) → IsMountable m → IsCleanImage m → (sectors : ℕ) → sectors ≡ sector_count (length m) → IsCheckedClean sectors m
judged-clean m mountable clean sectors is = record {
  mountable = mountable;
  sectors_are = is;
  slots = λ rest. clean.0;
  groups = clean.1;
}

pub judged-copying : (m : List ℕ) → IsMountable m → (AreAtRest (kind_at m) (data_blocks m) → ⊥) × HasCleanGroups m → (sectors : ℕ) → sectors ≡ sector_count (length m) → IsCheckedClean sectors m
judged-copying m mountable clean sectors is = record {
  mountable = mountable;
  sectors_are = is;
  slots = λ rest. absurd (clean.0 rest);
  groups = clean.1;
}

-- the whole of a disk, which is its first part
pub whole-disk : {T E : Type 0} (items : T → List ℕ) (r : Result T E) (d all : List ℕ) (first end : ℕ) → IfOk r (λ b. items b ≡ bytes_at d (512 * first) (512 * (end - first)))
    → first ≡ 0 → 512 * end ≡ length d → d ≡ all → IfOk r (λ b. items b ≡ all)
whole-disk items (Ok b) d all first end h zero full is =
    let n : 512 * (end - first) ≡ length d = omega (arith, zero, full) in
    let from : 512 * first ≡ 0 = omega (arith, zero) in
    h ∙ (ap (λ k. take k (drop (512 * first) d)) n ∙ (ap (λ k. take (length d) (drop k d)) from ∙ (take-length d ∙ is)))
whole-disk items (Err e) d all first end h zero full is = tt

-- a reason that is known of any bytes is one of these
pub any-reason : {T : Type 0} (r : Result T Fault) (m : List ℕ) → IfErr r (λ e. (x : List ℕ) → IsReason e x) → IfErr r (λ e. IsReason e m)
any-reason (Ok b) m h = tt
any-reason (Err e) m h = h m
