-- The lives of a chip, each from a power-on to the first loss of power, and its disk in them.
-- Source: own.
use Rattle.std.specs.Prelude.{◌≡◌, ℕ, ◌<◌, Bool, true, false, List, [], ◌∷◌, Option}
use Rattle.std.specs.Prelude.{None, Some, refl, if◌then◌else◌, not, ◌&&◌, ◌||◌}
use Rattle.chip_model.specs.Chip.{Chip, is_idle}
use Rattle.chip_model.specs.Wavering.{Bits, Drawn, bits_of}
use Rattle.nor_driver.specs.Probe.{IsAcceptedChip}
use Rattle.nor_driver.specs.State.{NorState, bits_in}
use Rattle.block_device.specs.declared.disk.DiskError.{DiskError}
use Rattle.block_device.specs.declared.disk.DiskError.TheVariants.{Cut, Slow}
use Rattle.block_device.specs.Facts.{Facts, IsDiskReady}
use Rattle.nor_driver.specs.declared.error.ProbeError.TheVariants as probes
use Rattle.sector_slots.specs.Fit.{IsFitForFirmMount}
use Rattle.sector_slots.specs.Slots.{IsClean}
use Rattle.sector_map.specs.Maps.{IsMountable}
use Rattle.flash_disk.specs.declared.error.MountError.{MountError}
use Rattle.flash_disk.specs.declared.error.MountError.TheVariants as refusals
use Rattle.flash_disk.specs.Contents.{AtEachDraw, contents_of, wanted_work}

-- what a chip with these bits reads as after a power-on
pub record Draw (b : Bits) : Type 0 where
  pub later : List ℕ
  pub drawn : Drawn b.weak b.shown later

-- as it did before
abbrev pub as_before : (b : Bits) → Draw b
as_before b = record {
  later = b.shown;
  drawn = record { same_length = refl; firm = λ i k firm. refl };
}

-- Each life has its own draw, by how many lives came before it. Whatever its bits are, a chip reads
-- as before at each power-on.
abbrev pub ReadsAsBefore : (ℕ → (b : Bits) → Draw b) → Type 0
ReadsAsBefore draws = (life : ℕ) (b : Bits) → (draws life b).later ≡ b.shown

-- What is known of a chip that is served in one life after another: it was fit for the firm mount
-- that its first life began with, or else it reads as before at each power-on.
abbrev pub IsFirmOrSteady : Bool → (ℕ → (b : Bits) → Draw b) → Type 0
IsFirmOrSteady firm draws = firm ≡ false → ReadsAsBefore draws

-- The next life of a chip on which nothing was in progress: its weak bits read as drawn, and stay
-- weak; and one that a probe accepts is accepted.
pub record IsNextLife (draw : (b : Bits) → Draw b) (old new : Chip) : Type 0 where
  pub memory : new.memory ≡ (draw (bits_of old)).later
  pub weak : new.weak ≡ old.weak
  pub idle : is_idle new.operation ≡ true
  pub accepted : IsAcceptedChip old → IsAcceptedChip new

-- A chip whose life has ended, and on which the next one can begin: nothing is in progress, a probe
-- accepts it, and its memory is that of a clean disk; and where that was mounted firmly it is fit
-- for the next firm mount, however the weak bits read.
pub record CanGoOn (firm : Bool) (c : Chip) : Type 0 where
  pub idle : is_idle c.operation ≡ true
  pub accepted : IsAcceptedChip c
  pub clean : IsClean c.memory
  pub mountable : IsMountable c.memory
  pub fit : firm ≡ true → AtEachDraw (bits_of c) (λ _. Unit {0})

-- each of these lives ended with a loss of power, which its bus had counted
abbrev pub HaveLost : {B : Type 0} → (B → ℕ) → List (B × Unit {0}) → Type 0
HaveLost count [] = Unit {0}
HaveLost count (ended ∷ more) = (0 < count ended.0) × HaveLost count more

-- what was counted where a life began
abbrev pub begun_at : {B : Type 0} → (B → ℕ) → List (B × Unit {0}) → ℕ
begun_at count [] = 0
begun_at count (begun ∷ _) = count begun.0

-- what is made of something, where it is there
abbrev pub given : {A : Type 0} {R : Type 0} → Option A → (A → R) → R → R
given (Some x) of none = of x
given None of none = none

-- Where the disk of a chip is: mounted, with what is known of it and the chip's bits; or a mount
-- was refused.
pub record Place : Type 0 where
  pub mounted : Bool
  pub facts : Facts
  pub bits : Bits

-- what is known of the disk on a chip, by its fields
abbrev pub disk_facts : Bool → Bool → Bool → Bool → NorState → Bool → Facts
disk_facts known checked doubtful lazy map cut = record {
  sound = (known || checked) && not doubtful;
  contents = contents_of map.memory;
  cuts = map.cuts;
  slows = map.slows;
  cut = cut;
  slow = map.is_slow;
  work = wanted_work lazy map.memory;
}

-- where it is then
abbrev pub on_chip : Bool → Bool → Bool → Bool → NorState → Bool → Place
on_chip known checked doubtful lazy map cut = record {
  mounted = true;
  facts = disk_facts known checked doubtful lazy map cut;
  bits = bits_in map;
}

-- A chip whose mount was refused, by its memory and by how many slow operations were counted. Its
-- contents, the slow operations and the work are all that is read of its facts.
abbrev pub off_chip : List ℕ → ℕ → Place
off_chip m slows = record {
  mounted = false;
  facts = record {
    sound = true;
    contents = contents_of m;
    cuts = 0;
    slows = slows;
    cut = true;
    slow = false;
    work = 0;
  };
  bits = record { shown = m; weak = [] };
}

abbrev pub stands_cut : Option DiskError → Bool
stands_cut (Some Cut) = true
stands_cut _ = false

abbrev pub stands_slow : Option DiskError → Bool
stands_slow (Some Slow) = true
stands_slow _ = false

-- the loss that stands counts one
abbrev pub lost_now : Option DiskError → ℕ
lost_now standing = if stands_cut standing then 1 else 0

-- What is known of the disk of a chip in its lives, by what stands, by how many losses it told, and
-- by its place: once the power is lost in a call its contents are those that the next power-on
-- finds.
abbrev pub lives_facts : ((b : Bits) → Draw b) → Option DiskError → ℕ → Place → Facts
lives_facts draw standing losses p = record {
  sound = true;
  contents = if p.mounted && stands_cut standing then contents_of (draw p.bits).later
      else p.facts.contents;
  cuts = losses;
  slows = p.facts.slows;
  cut = stands_cut standing;
  slow = stands_slow standing;
  work = p.facts.work;
}

-- what is known of it, whether the last mount was refused, and how many lives came before this one
-- in which the chip was mounted
pub record Lived : Type 0 where
  pub facts : Facts
  pub refused : Bool
  pub lives : ℕ

-- a call in which no mount is tried and no life begins
pub record StaysInLife (old new : Lived) : Type 0 where
  pub refused : new.refused ≡ old.refused
  pub lives : new.lives ≡ old.lives

-- What stands, of the disk at its place: nothing, and it is mounted and lost no power in this life;
-- or a loss of power, which where it is mounted its bus counted in this life; or a slow operation,
-- which was counted.
abbrev pub StandsInLife : Bool → ℕ → Option DiskError → Place → Type 0
StandsInLife firm slows None p =
    (p.mounted ≡ true) × (p.facts.sound ≡ true) × IsDiskReady p.facts × (p.facts.cuts ≡ 0)
    × (p.facts.slows ≡ slows)
StandsInLife firm slows (Some Cut) p = p.mounted ≡ true
    → (p.facts.sound ≡ true) × (p.facts.slow ≡ false) × (0 < p.facts.cuts)
    × (p.facts.slows ≡ slows) × (firm ≡ true → AtEachDraw p.bits (λ _. Unit {0}))
StandsInLife firm slows (Some Slow) p = slows < p.facts.slows

-- In the first life the disk is mounted, and where no loss stands none was answered.
abbrev pub StandsInFirst : Option DiskError → ℕ → Bool → Type 0
StandsInFirst standing losses mounted =
    (mounted ≡ true) × (stands_cut standing ≡ false → losses ≡ 0)

-- What a chip whose mount was refused is like, which has counted so many slow operations: one that
-- reads as before can go on.
abbrev pub WaitsForPower : Bool → ℕ → Option DiskError → Chip → ℕ → Type 0
WaitsForPower firm slows (Some Cut) c counted = firm ≡ false → CanGoOn false c × (counted ≡ slows)
WaitsForPower firm slows _ c counted = Unit {0}

-- What the next power-on finds of a chip with these bits: these contents, on a clean disk that can
-- be mounted; and where that was mounted firmly it is fit for the next firm mount.
pub record IsFoundNext (firm : Bool) (draw : (b : Bits) → Draw b) (contents : List ℕ)
    (b : Bits) : Type 0 where
  pub contents_are : contents_of (draw b).later ≡ contents
  pub mountable : IsMountable (draw b).later
  pub clean : IsClean (draw b).later
  pub fit : firm ≡ true → IsFitForFirmMount (record { shown = (draw b).later; weak = b.weak })

-- what refuses a mount, as an error of a disk
abbrev pub mount_told : MountError → DiskError
mount_told (refusals.Probe probes.Slow) = Slow
mount_told _ = Cut
