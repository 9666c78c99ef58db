-- What is read at a power-on after a loss of power in a call of a map: a map is mounted of it, and its contents are those of before, or those with the sector that the call wrote.
use Rattle.std.proofs.Common.{◌≡◌, ◌≢◌, ℕ, ◌+◌, ◌*◌, ◌<◌, ◌⊎◌, true, List, length, refl, sym, ap, ◌∙◌, subst, arith, inl, inr}
use Rattle.chip_model.specs.Geometry.{sector_count}
use Rattle.chip_model.specs.declared.geometry.Geometry.{Geometry}
use Rattle.chip_model.specs.Memory.{byte}
use Rattle.chip_model.specs.Wavering.{Bits, Drawn}
use Rattle.nor_layout.specs.Layouts.{layout_of}
use Rattle.erase_journal.specs.Blocks.{SameChip}
use Rattle.erase_journal.specs.Weak.{AreInterruptedAtEachDraw}
use Rattle.erase_journal.proofs.Cuts.{same-cut}
use Rattle.erase_journal.proofs.Draws.{firm-byte}
use Rattle.erase_journal.proofs.SettledLaws.{settled-healthy}
use Rattle.sector_slots.specs.Fit.{IsFitForFirmMount}
use Rattle.sector_slots.specs.Slots.{IsClean}
use Rattle.sector_slots.specs.Sectors.{HoldsSectors, IsSoundMap, sector_at, with_sector}
use Rattle.sector_slots.proofs.BlankLaws.{sound-holds, holds-sound}
use Rattle.sector_slots.proofs.ChipBlocks.{rest-sources}
use Rattle.sector_slots.proofs.ChipLosses.{unchanged}
use Rattle.sector_slots.proofs.SectorsKept.{losses-keep}
use Rattle.sector_map.specs.Losses.{HoldsFirmDisk, KeepsAtLoss, SetsAtLoss, StandsAtEachDraw, before_it, in_it, after_it}
use Rattle.sector_map.specs.Maps.{IsLaidOut, IsMountable, geometry_of, is_layout}
use Rattle.sector_map.proofs.MapCalls.{keeps-none, with-there, with-other}
use Rattle.sector_map.proofs.Marking.{kept-laid}
use Rattle.sector_map.proofs.Places.{holds-computed}
use Rattle.firm_chip.proofs.FitChips.{losses-fit}
use Rattle.block_device.specs.Contents.{replaced}
use Rattle.flash_disk.specs.Contents.{AtEachDraw, contents_of}
use Rattle.flash_disk.proofs.Sectors.{contents-same, sector-put}

-- memories of one length, of which the second holds the sectors of the first
held-same : (m later : List ℕ) (f : ℕ → List ℕ) → length later ≡ length m → HoldsSectors f later → ((h : ℕ) → h < sector_count (length m) → f h ≡ sector_at m h) → contents_of later ≡ contents_of m
held-same m later f size holds same =
    contents-same m later size (λ h low. holds-computed later f h holds (subst (λ n. h < sector_count n) (sym size) low) ∙ same h low)

-- or these with another one
held-put : (m later : List ℕ) (f : ℕ → List ℕ) (g : ℕ) (x : List ℕ) → length later ≡ length m → HoldsSectors f later → g < sector_count (length m) → length x ≡ 512 → f g ≡ x
    → ((h : ℕ) → h < sector_count (length m) → h ≢ g → f h ≡ sector_at m h) → contents_of later ≡ replaced (contents_of m) (512 * g) x
held-put m later f g x size holds low long there others =
    sector-put m later g x size low long (holds-computed later f g holds (subst (λ n. g < sector_count n) (sym size) low) ∙ there)
    (λ h inside other. holds-computed later f h holds (subst (λ n. h < sector_count n) (sym size) inside) ∙ others h inside other)

-- A call that writes no sector.
pub keeps-draw : (m : List ℕ) (b : Bits) (later : List ℕ) → length b.shown ≡ length m → IsClean m → KeepsAtLoss m b → Drawn b.weak b.shown later → IsSoundMap later × (contents_of later ≡ contents_of m)
keeps-draw m b later size clean k d =
    let a = k.before.shown in
    let holds : HoldsSectors (sector_at a) later = losses-keep.change k.before k.suspect b (sector_at a) k.disk k.change (sound-holds a k.disk.sound) later d in
    (holds-sound later (sector_at a) holds, held-same m later (sector_at a) (d.same_length ∙ size) holds (k.keeps.sectors clean))

-- One that writes x into sector g.
pub sets-draw : (m : List ℕ) (b : Bits) (later : List ℕ) (g : ℕ) (x : List ℕ) → length b.shown ≡ length m → IsClean m → g < sector_count (length m) → length x ≡ 512 → SetsAtLoss g x m b → Drawn b.weak b.shown later
    → IsSoundMap later × ((contents_of later ≡ contents_of m) ⊎ (contents_of later ≡ replaced (contents_of m) (512 * g) x))
sets-draw m b later g x size clean low long (before_it k) d = let p = keeps-draw m b later size clean k d in (p.0, inl p.1)
sets-draw m b later g x size clean low long (in_it before suspect tag disk keeps number w) d =
    let a = before.shown in
    let len : length later ≡ length m = d.same_length ∙ size in
    let new = with_sector (sector_at a) tag.number x in
    elim (losses-keep.write before suspect tag x b (sector_at a) disk w (sound-holds a disk.sound) later d) as (λ _. IsSoundMap later × ((contents_of later ≡ contents_of m) ⊎ (contents_of later ≡ replaced (contents_of m) (512 * g) x))) [
      | inl holds ↦ (holds-sound later (sector_at a) holds, inl (held-same m later (sector_at a) len holds (keeps.sectors clean)))
      | inr holds ↦ (
        holds-sound later new holds,
        inr (held-put m later new g x len holds low long
            (subst (λ q. with_sector (sector_at a) q x g ≡ x) (sym number) (with-there (sector_at a) g x))
            (λ h inside other. subst (λ q. with_sector (sector_at a) q x h ≡ sector_at m h) (sym number) (with-other (sector_at a) g h x other ∙ keeps.sectors clean h inside))),
      )
    ]
sets-draw m b later g x size clean low long (after_it before suspect disk sets change) d =
    let a = before.shown in
    let holds : HoldsSectors (sector_at a) later = losses-keep.change before suspect b (sector_at a) disk change (sound-holds a disk.sound) later d in
    (holds-sound later (sector_at a) holds, inr (held-put m later (sector_at a) g x (d.same_length ∙ size) holds low long (sets.there clean) (sets.others clean)))

-- a map is mounted of it
pub draw-mounts : (m : List ℕ) (b : Bits) (later : List ℕ) → SameChip m b.shown → IsLaidOut m → AreInterruptedAtEachDraw b → IsSoundMap later → Drawn b.weak b.shown later → IsMountable later
draw-mounts m b later chip laid journals sound d =
    let j = journals later d in
    let same : (k : ℕ) → k < 16 → byte later k ≡ byte m k = λ k low.
    let z : 0 + k ≡ k = omega arith in
    firm-byte b.shown b.weak later k d (subst (λ q. byte b.weak q ≡ 0) z (j.1.superblock k low)) ∙ chip.superblock k (omega (arith, low)) in
    record {
      superblock = subst (λ n. is_layout (layout_of later (geometry_of n)) ≡ true) (sym (d.same_length ∙ chip.same_length)) (ap is_layout (kept-laid m later (geometry_of (length m)) same) ∙ laid);
      store = record { journals = j.0; slots = sound };
    }

-- a memory that is the same
pub same-chip : (m m' : List ℕ) → m' ≡ m → SameChip m m'
same-chip m m' same = record { same_length = ap length same; superblock = λ k low. ap (λ z. byte z k) same }

-- it is fit for a firm mount, where a call wrote no sector
pub keeps-fit : (m : List ℕ) (b : Bits) (later : List ℕ) → KeepsAtLoss m b → StandsAtEachDraw b → Drawn b.weak b.shown later → IsFitForFirmMount (record { shown = later; weak = b.weak })
keeps-fit m b later k s d = losses-fit.change k.before k.suspect b later k.disk k.change s.layout s.journals d

-- or wrote one
pub sets-fit : (m : List ℕ) (b : Bits) (later : List ℕ) (g : ℕ) (x : List ℕ) → SetsAtLoss g x m b → StandsAtEachDraw b → Drawn b.weak b.shown later → IsFitForFirmMount (record { shown = later; weak = b.weak })
sets-fit m b later g x (before_it k) s d = keeps-fit m b later k s d
sets-fit m b later g x (in_it before suspect tag disk keeps number w) s d = losses-fit.write before suspect tag x b later disk w s.layout s.journals d
sets-fit m b later g x (after_it before suspect disk sets change) s d = losses-fit.change before suspect b later disk change s.layout s.journals d

-- so it is at each draw, of a call that writes no sector
pub keeps-each : (m : List ℕ) (b : Bits) → SameChip m b.shown → IsClean m → IsLaidOut m → KeepsAtLoss m b → StandsAtEachDraw b → AtEachDraw b (λ later. later ≡ contents_of m)
keeps-each m b chip clean laid k s later d =
    let p = keeps-draw m b later chip.same_length clean k d in
    (draw-mounts m b later chip laid s.journals p.0 d, keeps-fit m b later k s d, p.1)

-- nor was one interrupted
pub stops-each : (b : Bits) → IsLaidOut b.shown → HoldsFirmDisk b → AtEachDraw b (λ later. later ≡ contents_of b.shown)
stops-each b laid h =
    let disk = h.disk in
    let healthy = settled-healthy b.shown disk.settled in
    keeps-each b.shown b (same-chip b.shown b.shown refl) disk.clean laid (record {
      before = b;
      suspect = h.suspect;
      disk = disk;
      keeps = keeps-none b.shown (record { journals = healthy; slots = disk.sound });
      change = unchanged b b h.suspect disk (rest-sources b.shown h.rest) refl;
    }) (record { layout = h.layout; journals = same-cut b disk.journals healthy })

-- the same of a chip with these bits, whose memory is known by another name
pub stops-there : (a : Bits) (m w n : List ℕ) → m ≡ a.shown → w ≡ a.weak → m ≡ n → IsLaidOut n → HoldsFirmDisk a → AtEachDraw (record { shown = m; weak = w }) (λ later. later ≡ contents_of n)
stops-there a m w n shown weak same laid h =
    subst (λ z. AtEachDraw (record { shown = m; weak = w }) (λ later. later ≡ contents_of z)) same
    (stops-each (record { shown = m; weak = w }) (subst (λ z. IsLaidOut z) (sym same) laid)
    (subst (λ z. HoldsFirmDisk (record { shown = z; weak = w })) (sym shown) (subst (λ z. HoldsFirmDisk (record { shown = a.shown; weak = z })) (sym weak) h)))
