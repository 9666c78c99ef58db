-- What one stay of a chip in a station says: the mount, the check and the run together.
use Rattle.std.proofs.Common.{arith, ◌≡◌, ℕ, ◌*◌, ◌≤◌, ◌<◌, true, false, List, length, Option, refl, sym, ◌∙◌, ap, subst, inl, inr}
use Rattle.std.specs.Prelude.{Bool, Result, Ok, Err}
use Rattle.block_device.specs.declared.disk.DiskError.{DiskError}
use Rattle.block_device.specs.declared.disk.DiskError.TheVariants as errors
use Rattle.block_device.specs.Facts.{Facts, IsDiskReady, Latches}
use Rattle.chip_model.specs.Chip.{Chip, is_idle}
use Rattle.chip_model.specs.Geometry.{sector_count}
use Rattle.nor_driver.specs.Probe.{IsAcceptedChip}
use Rattle.nor_driver.specs.declared.error.ProbeError.TheVariants as probes
use Rattle.sector_slots.specs.Slots.{IsClean}
use Rattle.sector_map.proofs.Marking.{disk-laid}
use Rattle.sector_map.specs.Maps.{IsMountable, KeepsEach}
use Rattle.flash_disk.specs.Contents.{contents_of}
use Rattle.flash_disk.specs.Mounting.{CallCounts, IsIdleAfter, Opened, OpenedFrom, RefusedAt, RefusedAs, RefusedFor}
use Rattle.flash_disk.specs.declared.error.MountError.{MountError}
use Rattle.flash_disk.specs.declared.error.MountError.TheVariants as mounts
use Rattle.flash_disk.proofs.Sectors.{length-contents}
use Rattle.norbd_script.specs.declared.error.RunFault.{RunFault}
use Rattle.norbd_script.specs.declared.error.RunFault.TheVariants.{Format, Mount, NotClean, OutOfMemory, Script}
use Rattle.norbd_script.specs.Lives.{IsHealthyChip, MountSays, OnBus, RunsMounted, Stay, StaySays, StaysHealthy, as_seen}
use Rattle.norbd_script.specs.Running.{IsPastMount, RunsOn}
use Rattle.norbd_script.proofs.Chain.{GivenBack, of_formatted}

past_mount : (r : Result (Unit {0}) RunFault) (c c' : Chip) → IsPastMount r → IsHealthyChip c → MountSays r c c'
past_mount (Ok v) c c' past healthy = healthy
past_mount (Err (Format e)) c c' past healthy = absurd past
past_mount (Err (Mount e)) c c' past healthy = absurd past
past_mount (Err NotClean) c c' past healthy = absurd past
past_mount (Err OutOfMemory) c c' past healthy = healthy
past_mount (Err (Script e)) c c' past healthy = healthy

-- a mount that was refused
abbrev refused_stay : Option (List ℕ) → Option (List ℕ) → MountError → Stay
refused_stay r was e = record { input = r; was = was; answer = Err (Mount e); left = r; is = was }

counts-of : (e : MountError) (a b c d : ℕ) → RefusedFor e a b c d → (a ≤ c) × (b ≤ d)
counts-of (mounts.Probe probes.Cut) a b c d f = (let x = f.0 in let y = f.1 in (omega (arith, x), omega (arith, y)))
counts-of (mounts.Probe probes.Slow) a b c d f = (let x = f.0 in let y = f.1 in (omega (arith, x), omega (arith, y)))
counts-of (mounts.Probe probes.WrongId) a b c d f = (let x = f.0 in let y = f.1 in (omega (arith, x), omega (arith, y)))
counts-of (mounts.Probe (probes.Sfdp e)) a b c d f = (let x = f.0 in let y = f.1 in (omega (arith, x), omega (arith, y)))
counts-of (mounts.Probe probes.Protected) a b c d f = (let x = f.0 in let y = f.1 in (omega (arith, x), omega (arith, y)))
counts-of mounts.OutOfMemory a b c d f = (let x = f.0 in let y = f.1 in (omega (arith, x), omega (arith, y)))
counts-of mounts.NotFormatted a b c d f = (let x = f.0 in let y = f.1 in (omega (arith, x), omega (arith, y)))
counts-of mounts.Corrupt a b c d f = (let x = f.0 in let y = f.1 in (omega (arith, x), omega (arith, y)))

-- what a refused mount leaves of a healthy chip's memory, where no operation was slow
pub record Unharmed (m m' : List ℕ) : Type 0 where
  pub mountable : IsMountable m'
  pub contents : contents_of m' ≡ contents_of m
  pub sectors : sector_count (length m') ≡ sector_count (length m)
  pub clean : IsClean m → IsClean m'

unharmed-same : (m m' : List ℕ) → IsMountable m → m' ≡ m → Unharmed m m'
unharmed-same m m' healthy same = subst (λ z. Unharmed m z) (sym same) (record { mountable = healthy; contents = refl; sectors = refl; clean = λ c. c })

pub unharmed-kept : (m m' : List ℕ) → IsMountable m → KeepsEach m m' → contents_of m' ≡ contents_of m → Unharmed m m'
unharmed-kept m m' healthy k same = record {
  mountable = record { superblock = disk-laid m m' k.disk healthy.superblock; store = k.store };
  contents = same;
  sectors = ap (λ n. sector_count n) k.disk.same_length;
  clean = k.clean;
}

unharmed : (e : MountError) (c c' : Chip) (a b x y : ℕ) → IsHealthyChip c → RefusedFor e a b x y → y ≡ b → RefusedAt e c.memory c'.memory → RefusedAs e c → Unharmed c.memory c'.memory
unharmed (mounts.Probe probes.Cut) c c' a b x y healthy for quiet at told = (let k = at healthy.mountable in unharmed-kept c.memory c'.memory healthy.mountable k.keeps k.contents)
unharmed (mounts.Probe probes.Slow) c c' a b x y healthy for quiet at told = (let h = for.1 in absurd (omega (arith, h, quiet)))
unharmed (mounts.Probe probes.WrongId) c c' a b x y healthy for quiet at told = unharmed-same c.memory c'.memory healthy.mountable at
unharmed (mounts.Probe (probes.Sfdp e)) c c' a b x y healthy for quiet at told = unharmed-same c.memory c'.memory healthy.mountable at
unharmed (mounts.Probe probes.Protected) c c' a b x y healthy for quiet at told = unharmed-same c.memory c'.memory healthy.mountable at
unharmed mounts.OutOfMemory c c' a b x y healthy for quiet at told = unharmed-same c.memory c'.memory healthy.mountable at
unharmed mounts.NotFormatted c c' a b x y healthy for quiet at told = unharmed-same c.memory c'.memory healthy.mountable at.1
unharmed mounts.Corrupt c c' a b x y healthy for quiet at told = absurd (at.corrupt healthy.mountable)

idle-after : (e : MountError) (c : Chip) (a b x y : ℕ) → IsIdleAfter e c → RefusedFor e a b x y → y ≡ b → is_idle c.operation ≡ true
idle-after (mounts.Probe probes.Cut) c a b x y idle for quiet = idle
idle-after (mounts.Probe probes.Slow) c a b x y idle for quiet = (let h = for.1 in absurd (omega (arith, h, quiet)))
idle-after (mounts.Probe probes.WrongId) c a b x y idle for quiet = idle
idle-after (mounts.Probe (probes.Sfdp e)) c a b x y idle for quiet = idle
idle-after (mounts.Probe probes.Protected) c a b x y idle for quiet = idle
idle-after mounts.OutOfMemory c a b x y idle for quiet = idle
idle-after mounts.NotFormatted c a b x y idle for quiet = idle
idle-after mounts.Corrupt c a b x y idle for quiet = idle

healthy-by : (c c' : Chip) → Unharmed c.memory c'.memory → is_idle c'.operation ≡ true → IsAcceptedChip c' → StaysHealthy c c'
healthy-by c c' u idle accepted = record { healthy = record { idle = idle; accepted = accepted; mountable = u.mountable }; sectors = u.sectors; clean = u.clean }

pub refused_mount : (e : MountError) (old new : OnBus) (r was : Option (List ℕ)) → RefusedFor e old.cuts old.slows new.cuts new.slows
    → (is_idle old.chip.operation ≡ true → RefusedAt e old.chip.memory new.chip.memory) → (is_idle old.chip.operation ≡ true → RefusedAs e old.chip) → IsIdleAfter e new.chip
    → (is_idle old.chip.operation ≡ true → IsAcceptedChip old.chip → IsAcceptedChip new.chip) → RunsMounted old (refused_stay r was e) new
refused_mount e old new r was for at told idle accepted = record {
  cuts = (counts-of e old.cuts old.slows new.cuts new.slows for).0;
  slows = (counts-of e old.cuts old.slows new.cuts new.slows for).1;
  mounts = λ i. (at i, told i);
  says = λ h. (
    (refl, refl),
    (λ quiet. (unharmed e old.chip new.chip old.cuts old.slows new.cuts new.slows h for quiet (at h.idle) (told h.idle)).contents),
    of_formatted e old.chip new.chip.memory h.mountable h.accepted (at h.idle) (told h.idle),
    for,
  );
  stays = λ h quiet. healthy-by old.chip new.chip (unharmed e old.chip new.chip old.cuts old.slows new.cuts new.slows h for quiet (at h.idle) (told h.idle))
      (idle-after e new.chip old.cuts old.slows new.cuts new.slows idle for quiet) (accepted h.idle h.accepted);
}

-- A disk with these facts was mounted from a chip, and checked: the memory of that mount, and the
-- facts after the check.
pub record Checked (old : OnBus) (m : List ℕ) (f : Facts) : Type 0 where
  pub cuts : old.cuts ≤ f.cuts
  pub slows : old.slows ≤ f.slows
  pub from : is_idle old.chip.operation ≡ true → IsHealthyChip old.chip
  pub keeps : is_idle old.chip.operation ≡ true → KeepsEach old.chip.memory m
  pub contents : is_idle old.chip.operation ≡ true → f.contents ≡ contents_of old.chip.memory

pub checked-by : (old : OnBus) (m : List ℕ) (sound : Bool) (f0 f : Facts) → Opened sound old.cuts old.slows f0 → (is_idle old.chip.operation ≡ true → OpenedFrom old.chip.memory f0) → (is_idle old.chip.operation ≡ true → IsAcceptedChip old.chip)
    → (is_idle old.chip.operation ≡ true → KeepsEach old.chip.memory m) → f0.cuts ≤ f.cuts → f0.slows ≤ f.slows → f.contents ≡ f0.contents → Checked old m f
checked-by old m sound f0 f opened from accepted keeps cuts slows same = record {
  cuts = (let x = opened.cuts_are in omega (arith, x, cuts));
  slows = (let x = opened.slows_are in omega (arith, x, slows));
  from = λ i. record { idle = i; accepted = accepted i; mountable = (from i).mountable };
  keeps = keeps;
  contents = λ i. same ∙ (from i).contents;
}

-- what a check leaves, by its answer
pub check_ok : (sound : Bool) (f0 f : Facts) → Latches f0 (Ok sound) f → f.slow ≡ false
check_ok sound f0 f l = l.1.1

pub check_cut : (e : DiskError) (f0 f : Facts) (k : ℕ) → e ≡ errors.Cut → Latches {T = Bool} f0 (Err e) f → CallCounts {T = Bool} (Err e) f0 f → IsDiskReady f0 → f0.cuts ≡ k → (k < f.cuts) × (f.slows ≡ f0.slows) × (f.slow ≡ false)
check_cut e f0 f k is latched counts ready at =
    let l = subst (λ x. Latches {T = Bool} f0 (Err x) f) is latched in
    let n = subst (λ x. CallCounts {T = Bool} (Err x) f0 f) is counts in
    (elim l.0 as (λ _. k < f.cuts) [ inl stood ↦ absurd (let no = ready.0 in cc (stood, no)) | inr came ↦ (let more = came.1 in omega (arith, more, at)) ], n, l.2 ∙ ready.1)

pub check_slow : (e : DiskError) (f0 f : Facts) (k : ℕ) → e ≡ errors.Slow → Latches {T = Bool} f0 (Err e) f → CallCounts {T = Bool} (Err e) f0 f → IsDiskReady f0 → f0.slows ≡ k → (f.cuts ≡ f0.cuts) × (k < f.slows)
check_slow e f0 f k is latched counts ready at =
    let l = subst (λ x. Latches {T = Bool} f0 (Err x) f) is latched in
    let n = subst (λ x. CallCounts {T = Bool} (Err x) f0 f) is counts in
    (n, elim l.1 as (λ _. k < f.slows) [ inl stood ↦ absurd (let no = ready.1 in cc (stood, no)) | inr more ↦ omega (arith, more, at) ])

-- the script was run, or there was no memory for the station
pub run_checked : (old new : OnBus) (m : List ℕ) (f : Facts) (p : ℕ) (stay : Stay) → Checked old m f → f.cuts ≡ old.cuts → f.slows ≡ old.slows → p ≡ old.slows → IsPastMount stay.answer → RunsOn f p stay new → RunsMounted old stay new
run_checked old new m f p stay k cuts slows at past runs =
    let size : IsHealthyChip old.chip → length f.contents ≡ 512 * sector_count (length old.chip.memory) = λ h. ap length (k.contents h.idle) ∙ length-contents old.chip.memory in
    record {
      cuts = (let x = k.cuts in let y = runs.cuts in omega (arith, x, y));
      slows = (let x = k.slows in let y = runs.slows in omega (arith, x, y));
      mounts = λ i. past_mount stay.answer old.chip new.chip past (k.from i);
      says = λ h.
          let n = sector_count (length old.chip.memory) in
          subst (λ x. StaySays (record { sectors = n; contents = contents_of old.chip.memory; cuts = old.cuts; slows = x }) stay (as_seen new)) slows
          (subst (λ x. StaySays (record { sectors = n; contents = contents_of old.chip.memory; cuts = x; slows = f.slows }) stay (as_seen new)) cuts
          (subst (λ x. StaySays (record { sectors = n; contents = x; cuts = f.cuts; slows = f.slows }) stay (as_seen new)) (k.contents h.idle) (runs.says n (size h))));
      stays = λ h quiet.
          let left = runs.left (slows ∙ sym at) (quiet ∙ sym slows) in
          record { healthy = left.healthy; sectors = runs.size (sector_count (length old.chip.memory)) (size h); clean = λ c. left.clean };
    }

-- the disk was handed back after the check
module _ (old new : OnBus) (m : List ℕ) (f : Facts) (p : ℕ) (r was : Option (List ℕ)) (k : Checked old m f) (back : GivenBack f p new) (there : new.chip.memory ≡ m) where
  kept : is_idle old.chip.operation ≡ true → KeepsEach old.chip.memory new.chip.memory
  kept i = subst (λ z. KeepsEach old.chip.memory z) (sym there) (k.keeps i)

  array : is_idle old.chip.operation ≡ true → contents_of new.chip.memory ≡ contents_of old.chip.memory
  array i = back.contents ∙ k.contents i

  well : IsHealthyChip old.chip → f.slow ≡ false → StaysHealthy old.chip new.chip
  well h quick = healthy-by old.chip new.chip (unharmed-kept old.chip.memory new.chip.memory h.mountable (kept h.idle) (array h.idle)) (back.idle quick) back.accepted

  more_cuts : old.cuts ≤ new.cuts
  more_cuts = (let x = k.cuts in let y = back.cuts in omega (arith, x, y))

  more_slows : old.slows ≤ new.slows
  more_slows = (let x = k.slows in let y = back.slow_count in omega (arith, x, y))

  pub not_clean : f.cuts ≡ old.cuts → f.slows ≡ old.slows → f.slow ≡ false → (IsClean m → ⊥) → RunsMounted old (record { input = r; was = was; answer = Err NotClean; left = r; is = was }) new
  not_clean cuts slows quick dirty = record {
    cuts = more_cuts;
    slows = more_slows;
    mounts = λ i. (k.from i, λ clean. dirty ((k.keeps i).clean clean));
    says = λ h. ((refl, refl), (λ quiet. array h.idle), back.cuts ∙ cuts, back.slow_count ∙ slows);
    stays = λ h quiet. well h quick;
  }

  pub cut_in_check : old.cuts < f.cuts → f.slows ≡ old.slows → f.slow ≡ false → RunsMounted old (refused_stay r was (mounts.Probe probes.Cut)) new
  cut_in_check cut slows quick = record {
    cuts = more_cuts;
    slows = more_slows;
    mounts = λ i. ((λ healthy. record { keeps = kept i; contents = array i }), tt);
    says = λ h. ((refl, refl), (λ quiet. array h.idle), tt, ((let y = back.cuts in omega (arith, cut, y)), back.slow_count ∙ slows));
    stays = λ h quiet. well h quick;
  }

  pub slow_in_check : f.cuts ≡ old.cuts → old.slows < f.slows → RunsMounted old (refused_stay r was (mounts.Probe probes.Slow)) new
  slow_in_check cuts slow = record {
    cuts = more_cuts;
    slows = more_slows;
    mounts = λ i. ((kept i).disk.same_length, tt);
    says = λ h. ((refl, refl), (λ quiet. array h.idle), tt, (back.cuts ∙ cuts, (let y = back.slow_count in omega (arith, slow, y))));
    stays = λ h quiet. (let y = back.slow_count in absurd (omega (arith, slow, y, quiet)));
  }
