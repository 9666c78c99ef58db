-- A chip that is given back at the end of its lives, as the next power-on finds it.
use Rattle.std.proofs.Common.{◌≡◌, ◌⊎◌, ℕ, ◌+◌, ◌<◌, true, false, List, length, refl, sym, ◌∙◌, ap, subst, arith, inl, inr}
use Rattle.std.specs.Prelude.{Bool, if◌then◌else◌, not}
use Rattle.chip_model.specs.Chip.{Chip, is_idle}
use Rattle.chip_model.specs.Wavering.{Bits, bits_of}
use Rattle.nor_driver.specs.Probe.{IsAcceptedChip}
use Rattle.nor_driver.proofs.Stays.{accepted_shape}
use Rattle.sector_slots.specs.Fit.{IsFitForFirmMount}
use Rattle.sector_slots.specs.Slots.{IsClean}
use Rattle.sector_map.specs.Maps.{IsMountable}
use Rattle.block_device.specs.Facts.{Facts}
use Rattle.flash_disk.specs.Contents.{contents_of}
use Rattle.restored_disk.specs.Lives.{Draw, HaveLost, IsFoundNext}
use Rattle.norbd_script.specs.Lives.{IsHealthyChip, OnBus, RunsMounted, Stay}
use Rattle.norbd_script.specs.NextLife.{CountsLosses, SteadyLivesAreMounted, found}
use Rattle.norbd_script.specs.Running.{RunsOn}
use Rattle.norbd_script.proofs.Living.{not-setting}
use Rattle.norbd_script.proofs.Chain.{GivenBack}

-- A chip that lives left, as the next power-on finds it: it holds these contents, and a life can
-- begin with it; where it was mounted firmly from a fit chip it is fit for the next firm mount.
pub record IsLeftBy (firm : Bool) (contents : List ℕ) (c : Chip) : Type 0 where
  pub contents_are : contents_of c.memory ≡ contents
  pub healthy : IsHealthyChip c
  pub clean : IsClean c.memory
  pub fit : firm ≡ true → IsFitForFirmMount (bits_of c)

-- the chip as the next power-on finds it is a healthy one, too
healthy-found : (draw : (b : Bits) → Draw b) (c : Chip) → is_idle c.operation ≡ true → IsAcceptedChip c → IsMountable (found draw c).memory → IsHealthyChip (found draw c)
healthy-found draw c idle accepted mountable = record {
  idle = idle;
  accepted = accepted_shape c (found draw c) (record { size = (draw (bits_of c)).drawn.same_length; protection = refl; status2 = refl; status3 = refl; not_setting = not-setting c.operation idle }) refl accepted;
  mountable = mountable;
}

pub left-by-lives : (firm : Bool) (draw : (b : Bits) → Draw b) (contents : List ℕ) (c : Chip) → is_idle c.operation ≡ true → IsAcceptedChip c → IsFoundNext firm draw contents (bits_of c) → IsLeftBy firm contents (found draw c)
left-by-lives firm draw contents c idle accepted x = record {
  contents_are = x.contents_are;
  healthy = healthy-found draw c idle accepted x.mountable;
  clean = x.clean;
  fit = x.fit;
}

not-slow : (slow : Bool) (p slows counted : ℕ) → (slow ≡ true → p < slows) → counted ≡ slows → counted ≡ p → slow ≡ false
not-slow false p slows counted more same quiet = refl
not-slow true p slows counted more same quiet = (let m = more refl in absurd (omega (arith, m, same, quiet)))

known-disk : (mounted refused : Bool) (Reads : Type 0) → mounted ≡ not refused → (mounted ≡ true) ⊎ Reads → (refused ≡ false) ⊎ Reads
known-disk mounted false Reads same known = inl refl
known-disk mounted true Reads same (inl is) = absurd (let no = same in cc (is, no))
known-disk mounted true Reads same (inr reads) = inr reads

-- what a disk of lives gave back, where no operation was slow and the chip is known
pub at-end : (firm : Bool) (draws : ℕ → (b : Bits) → Draw b) (life lives p counted : ℕ) (refused mounted : Bool) (f : Facts) (c : Chip) → (f.slow ≡ true → p < f.slows) → counted ≡ f.slows → counted ≡ p → mounted ≡ not refused → (mounted ≡ true) ⊎ (firm ≡ false) → life ≡ lives
    → ((refused ≡ false) ⊎ (firm ≡ false) → f.slow ≡ false → is_idle c.operation ≡ true) → ((refused ≡ false) ⊎ ((firm ≡ false) × (f.slow ≡ false)) → IsAcceptedChip c) → ((refused ≡ false) ⊎ (firm ≡ false) → f.slow ≡ false → IsFoundNext firm (draws lives) f.contents (bits_of c)) → IsLeftBy firm f.contents (found (draws life) c)
at-end firm draws life lives p counted refused mounted f c slow same quiet is known at idle accepted next =
    let quick = not-slow f.slow p f.slows counted slow same quiet in
    let k = known-disk mounted refused (firm ≡ false) is known in
    left-by-lives firm (draws life) f.contents c (idle k quick) (accepted (elim k [ inl here ↦ inl here | inr steady ↦ inr (steady, quick) ])) (subst (λ n. IsFoundNext firm (draws n) f.contents (bits_of c)) (sym at) (next k quick))

-- how many losses are counted then
pub counts-of : {B : Type 0} (firm : Bool) (count : B → ℕ) (items : List (B × Unit {0})) (cuts lives : ℕ) (refused mounted : Bool) (f : Facts) → HaveLost count items → length items ≡ lives → (lives ≡ 0 → cuts ≡ 0 → f.cuts ≡ 0) → mounted ≡ not refused → (mounted ≡ true) ⊎ (firm ≡ false)
    → (firm ≡ true → refused ≡ false → f.cuts ≡ lives + (if f.cut then 1 else 0)) → (refused ≡ false → f.cut ≡ true → 0 < cuts) → CountsLosses firm count items cuts f.cuts
counts-of firm count items cuts lives refused mounted f ended at first is known told lost = record {
  ended = ended;
  each = λ firmly.
      let there = there-is refused firm firmly (known-disk mounted refused (firm ≡ false) is known) in
      elim-cut f.cut (told firmly there) (lost there);
  none = λ empty none. first (sym at ∙ ap length empty) none;
}
  where
    there-is : (r f : Bool) → f ≡ true → (r ≡ false) ⊎ (f ≡ false) → r ≡ false
    there-is r f is-firm (inl here) = here
    there-is r f is-firm (inr is-not) = absurd (cc (is-firm, is-not))

    elim-cut : (cut : Bool) → f.cuts ≡ lives + (if cut then 1 else 0) → (cut ≡ true → 0 < cuts) → (f.cuts ≡ length items) ⊎ ((f.cuts ≡ length items + 1) × (0 < cuts))
    elim-cut true told lost = inr ((let a = at in omega (arith, told, a)), lost refl)
    elim-cut false told lost = inl (let a = at in omega (arith, told, a))

-- a chip that lives left, as one that a disk with these facts gave back
pub given-back : (firm : Bool) (f : Facts) (slows : ℕ) (c : Chip) (count : ℕ) → count ≡ f.slows → IsLeftBy firm f.contents c → GivenBack f slows (record { chip = c; cuts = f.cuts; slows = count })
given-back firm f slows c count slow left = record {
  contents = left.contents_are;
  cuts = refl;
  slow_count = slow;
  accepted = left.healthy.accepted;
  idle = λ quick. left.healthy.idle;
  clean = λ quick sound. left.clean;
  mountable = λ same. left.healthy.mountable;
}

-- the disk that is handed back is the one with these facts
pub back-as : (f f' : Facts) (p : ℕ) (new : OnBus) → f' ≡ f → GivenBack f' p new → GivenBack f p new
back-as f f' p new same back = subst (λ x. GivenBack x p new) same back

-- a run on a disk with the same facts
pub lives-run : (f f0 : Facts) (p : ℕ) (stay : Stay) (new : OnBus) → f ≡ f0 → RunsOn f p stay new → RunsOn f0 p stay new
lives-run f f0 p stay new same runs = subst (λ x. RunsOn x p stay new) same runs

pub steady-lives : SteadyLivesAreMounted
steady-lives draws before life firm old stay c cuts slows ends =
    subst (λ m. RunsMounted old stay (record { chip = record c { memory = m }; cuts = cuts; slows = slows })) (before life (bits_of c)) ends.runs
