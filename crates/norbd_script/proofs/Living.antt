-- Any number of stays of a chip are its life.
use Rattle.std.proofs.Common.{◌≡◌, true, false, ℕ, List, length, [], ◌∷◌, refl, sym, ◌∙◌, ap, subst}
use Rattle.chip_model.specs.Chip.{Chip, Operation, Idle, Programming, Erasing, Setting, is_idle, is_setting}
use Rattle.chip_model.specs.Cut.{TornMemory, weakened}
use Rattle.chip_model.specs.Geometry.{sector_count}
use Rattle.chip_model.specs.Wavering.{bits_of}
use Rattle.nor_driver.proofs.Stays.{accepted_cut, accepted_woken}
use Rattle.sector_slots.specs.Fit.{IsFitForFirmMount}
use Rattle.sector_slots.specs.Slots.{IsClean}
use Rattle.sector_map.specs.Maps.{IsMountable}
use Rattle.flash_disk.specs.Contents.{contents_of}
use Rattle.norbd_script.specs.Lives.{CallsAreALife, IsHealthyChip, LeftAlone, keeps_power, loses_power, regains_power, Lives, StaySays, StaysHealthy, as_seen, seen_with}
use Rattle.norbd_script.specs.NextLife.{FirmLivesAreALife}

torn-none : (op : Operation) (m m' : List ℕ) → is_idle op ≡ true → TornMemory op m m' → m' ≡ m
torn-none Idle m m' idle torn = torn
torn-none (Programming at bytes) m m' idle torn = cc
torn-none (Erasing at size) m m' idle torn = cc
torn-none (Setting value) m m' idle torn = cc

weakened-none : (op : Operation) (m w : List ℕ) → is_idle op ≡ true → weakened op m w ≡ w
weakened-none Idle m w idle = refl
weakened-none (Programming at bytes) m w idle = cc
weakened-none (Erasing at size) m w idle = cc
weakened-none (Setting value) m w idle = cc

pub not-setting : (op : Operation) → is_idle op ≡ true → is_setting op ≡ false
not-setting Idle idle = refl
not-setting (Programming at bytes) idle = refl
not-setting (Erasing at size) idle = refl
not-setting (Setting value) idle = cc

-- what is left of a healthy chip to which no frame is sent
record Left (c c' : Chip) : Type 0 where
  memory : c'.memory ≡ c.memory
  healthy : IsHealthyChip c'

left-by : (c c' : Chip) → LeftAlone c c' → IsHealthyChip c → Left c c'
left-by c c' (keeps_power same) h = subst (λ z. Left c z) (sym same) (record { memory = refl; healthy = h })
left-by c c' (loses_power cut) h =
    let memory = torn-none c.operation c.memory c'.memory h.idle cut.memory in
    record {
      memory = memory;
      healthy = record {
        idle = ap is_idle cut.operation;
        accepted = accepted_cut c c' (not-setting c.operation h.idle) cut h.accepted;
        mountable = subst (λ m. IsMountable m) (sym memory) h.mountable;
      };
    }
left-by c c' (regains_power woken) h =
    let memory : c'.memory ≡ c.memory = ap (λ (z : Chip). z.memory) woken.on ∙ torn-none c.operation c.memory woken.off.memory h.idle woken.left.memory in
    record {
      memory = memory;
      healthy = record {
        idle = ap (λ (z : Chip). is_idle z.operation) woken.on ∙ ap is_idle woken.left.operation;
        accepted = accepted_woken c c' (not-setting c.operation h.idle) woken h.accepted;
        mountable = subst (λ m. IsMountable m) (sym memory) h.mountable;
      };
    }

left-well : (c c' : Chip) → Left c c' → StaysHealthy c c'
left-well c c' l = record {
  healthy = l.healthy;
  sectors = ap (λ m. sector_count (length m)) l.memory;
  clean = λ clean. subst (λ m. IsClean m) (sym l.memory) clean;
}

well-after : (c d e : Chip) → StaysHealthy c d → StaysHealthy d e → StaysHealthy c e
well-after c d e a b = record { healthy = b.healthy; sectors = b.sectors ∙ a.sectors; clean = λ clean. b.clean (a.clean clean) }

pub calls-are-a-life : CallsAreALife
calls-are-a-life c c' [] all h =
    let left = left-by c c' all h in
    (ap contents_of left.memory, left-well c c' left)
calls-are-a-life c c' (run ∷ runs) all h =
    let b = run.before in
    let left = left-by c b.chip all.0 h in
    let well = all.1.stays left.healthy all.2 in
    let rest = calls-are-a-life run.after.chip c' runs all.3 well.healthy in
    let sectors : sector_count (length run.after.chip.memory) ≡ sector_count (length c.memory) = well.sectors ∙ ap (λ m. sector_count (length m)) left.memory in (
      (
        subst (λ m. StaySays (seen_with (sector_count (length m)) (contents_of m) b) run.stay (as_seen run.after)) left.memory (all.1.says left.healthy),
        subst (λ n. Lives n (contents_of run.after.chip.memory) runs (contents_of c'.memory)) sectors rest.0,
      ),
      well-after c b.chip c' (left-well c b.chip left) (well-after b.chip run.after.chip c' well rest.1),
    )

-- the bits of a healthy chip to which no frame is sent
weak-by : (c c' : Chip) → LeftAlone c c' → is_idle c.operation ≡ true → c'.weak ≡ c.weak
weak-by c c' (keeps_power same) idle = ap (λ (z : Chip). z.weak) same
weak-by c c' (loses_power cut) idle = cut.weak ∙ weakened-none c.operation c.memory c.weak idle
weak-by c c' (regains_power woken) idle = ap (λ (z : Chip). z.weak) woken.on ∙ (woken.left.weak ∙ weakened-none c.operation c.memory c.weak idle)

fit-by : (c c' : Chip) → c'.memory ≡ c.memory → c'.weak ≡ c.weak → IsFitForFirmMount (bits_of c) → IsFitForFirmMount (bits_of c')
fit-by c c' memory weak fit =
    subst (λ m. IsFitForFirmMount (record { shown = m; weak = c'.weak })) (sym memory) (subst (λ w. IsFitForFirmMount (record { shown = c.memory; weak = w })) (sym weak) fit)

pub firm-lives : FirmLivesAreALife
firm-lives c c' [] all h fit =
    let left = left-by c c' all h in
    (ap contents_of left.memory, left-well c c' left, fit-by c c' left.memory (weak-by c c' all h.idle) fit)
firm-lives c c' (run ∷ runs) all h fit =
    let b = run.before in
    let left = left-by c b.chip all.0 h in
    let well = all.1.runs.stays left.healthy all.2 in
    let rest = firm-lives run.after.chip c' runs all.3 well.healthy (all.1.fit refl) in
    let sectors : sector_count (length run.after.chip.memory) ≡ sector_count (length c.memory) = well.sectors ∙ ap (λ m. sector_count (length m)) left.memory in (
      (
        subst (λ m. StaySays (seen_with (sector_count (length m)) (contents_of m) b) run.stay (as_seen run.after)) left.memory (all.1.runs.says left.healthy),
        subst (λ n. Lives n (contents_of run.after.chip.memory) runs (contents_of c'.memory)) sectors rest.0,
      ),
      well-after c b.chip c' (left-well c b.chip left) (well-after b.chip run.after.chip c' well rest.1),
      rest.2,
    )
