-- What the calls of a map leave, from what those of its store leave.
use Rattle.std.proofs.Common.{◌≡◌, ◌≢◌, ℕ, zero, suc, ◌-◌, ◌<◌, ◌⊎◌, Bool, true, false, List, length, refl, sym, ap, ◌∙◌, subst, arith, inl, inr, eq-eqb}
use Rattle.std.specs.Prelude.{Option, Some, None, IfSome, Result, Ok, Err, OnOk, IfOk, IsFalse, IfErr, slice_index_or}
use Rattle.std.proofs.lemmas.Bool.{ne_eqb}
use Rattle.chip_model.specs.Geometry.{sector_count, block_count}
use Rattle.nor_driver.specs.State.{NorState, IsNorReady, Refuses}
use Rattle.erase_journal.specs.Steps.{RefusesFirmly}
use Rattle.nor_driver.specs.declared.error.NorError.{NorError}
use Rattle.nor_driver.proofs.CallLaws.{ready-after}
use Rattle.erase_journal.specs.Blocks.{SameChip}
use Rattle.erase_journal.specs.Places.{how_many}
use Rattle.erase_journal.specs.Steps.{SucceedsSettled, EndsFirmly}
use Rattle.sector_slots.proofs.CopyLaws.{how_many-zero, how_many-suc}
use Rattle.erase_journal.specs.Journals.{IsHealthy, IsSettled}
use Rattle.sector_slots.specs.Slots.{Slot, Free, Live, NoGeneration, Dead, Outside, slot_at, slot_count, data_blocks, kind_at, is_group, IsClean}
use Rattle.sector_slots.specs.Blocks.{AreSettled}
use Rattle.sector_slots.specs.Sectors.{sector_at, with_sector, IsSingle, IsSoundMap, HoldsSectors, HasSlotsAlone}
use Rattle.erase_journal.proofs.SettledLaws.{refuses-settled, settled-healthy, settled-after}
use Rattle.erase_journal.proofs.Firmly.{refuses-plainly}
use Rattle.sector_slots.proofs.StepLaws.{chip-after}
use Rattle.sector_stock.specs.declared.given.Copied.{Copied}
use Rattle.sector_stock.specs.Copy.{Stays, SameSectors}
use Rattle.sector_stock.specs.Room.{HasRoom, HasNoneDead, IsSpareBlock}
use Rattle.sector_stock.specs.Index.{is_dead, is_live_group}
use Rattle.sector_stock.specs.Takes.{TidiesStock, copies, converts, Converts, Takes, IsGivable, CopiesInto, MovesInto, was_free, was_copied, HasNoGroups, work_of}
use Rattle.sector_slots.proofs.BlankLaws.{holds-sound, sound-holds}
use Rattle.sector_map.specs.Marking.{SameDisk}
use Rattle.sector_map.proofs.Marking.{disk-after}
use Rattle.sector_map.specs.Scan.{TableFollows, FollowsBlock}
use Rattle.sector_map.specs.Replace.{HeldBy, IsInSlots, IsReplaceable, Rewrites, RewriteLeaves}
use Rattle.sector_map.specs.Table.{IsTableOf, KeptOne, holder}
use Rattle.sector_map.specs.Maps.{IsStore, KeepsMap, KeepsEach, Sets, SetLeaves, IsServing, Wrote, KeptServing}
use Rattle.sector_map.specs.declared.table.Held.{Held}
use Rattle.sector_map.specs.declared.table.LiveSlots.{LiveSlots}
use Rattle.sector_map.specs.declared.table.LiveSlots.TheVariants.{Absent}
use Rattle.sector_map.proofs.Places.{holds-computed}
use Rattle.sector_map.proofs.MapSteps.{table-follows}
use Rattle.sector_map.proofs.Retiring.{single-tabled, table-holder, refuses-perhaps, succeeds-perhaps}
use Rattle.sector_map.proofs.Mounting.{table-room}
use Rattle.sector_map.proofs.Following.{Relocates, shifts-relocate, converts-relocate, alone-kept, relocates-sound, relocates-single-at, relocates-own, relocates-table}

pub on-chip : (m m' : List ℕ) (g : ℕ) → SameChip m m' → g < sector_count (length m) → g < sector_count (length m')
on-chip m m' g chip low = subst (λ n. g < sector_count n) (sym chip.same_length) low

pub served-room : (table : List LiveSlots) (state : NorState) (indexed : Bool) → IsServing table state indexed → HasRoom state.memory
served-room table state indexed s = table-room table state.memory s.tabled s.blocks s.store.slots.groups.layout

-- nothing changed
pub keeps-none : (m : List ℕ) → IsStore m → KeepsMap m m
keeps-none m store = record { chip = record { same_length = refl; superblock = λ k low. refl }; store = store; alone = λ a. a; sectors = λ c g low. refl; clean = λ c. c }

-- a call after one that writes no sector
pub keeps-after : (a b c : List ℕ) → KeepsMap a b → KeepsMap b c → KeepsMap a c
keeps-after a b c p q = record {
  chip = chip-after a b c p.chip q.chip;
  store = q.store;
  alone = λ h. q.alone (p.alone h);
  sectors = λ h g low. q.sectors (p.clean h) g (on-chip a b g p.chip low) ∙ p.sectors h g low;
  clean = λ h. q.clean (p.clean h);
}

pub sets-after : (g : ℕ) (x a b c : List ℕ) → KeepsMap a b → Sets g x b c → Sets g x a c
sets-after g x a b c p q = record {
  chip = chip-after a b c p.chip q.chip;
  store = q.store;
  alone = λ h. q.alone (p.alone h);
  there = λ h. q.there (p.clean h);
  others = λ h s low other. q.others (p.clean h) s (on-chip a b s p.chip low) other ∙ p.sectors h s low;
  clean = λ h. q.clean (p.clean h);
}

pub leaves-after : (g : ℕ) (x a b c : List ℕ) → KeepsMap a b → SetLeaves g x b c → SetLeaves g x a c
leaves-after g x a b c p (inl q) = inl (keeps-after a b c p q)
leaves-after g x a b c p (inr q) = inr (sets-after g x a b c p q)

pub wrote-after : (g : ℕ) (x : List ℕ) (table between : List LiveSlots) (a b c : NorState) (i j : Bool) → KeptServing between a b i → Wrote g x table b c j → Wrote g x table a c j
wrote-after g x table between a b c i j p q = record { sets = sets-after g x a.memory b.memory c.memory p.keeps q.sets; served = q.served }

pub kept-after : (table between : List LiveSlots) (a b c : NorState) (i j : Bool) → KeptServing between a b i → KeptServing table b c j → KeptServing table a c j
kept-after table between a b c i j p q = record { keeps = keeps-after a.memory b.memory c.memory p.keeps q.keeps; served = q.served }

-- a block was moved for its wear, or nothing changed; and then nothing was left to be tidied
not-moved : (a b : List ℕ) → (b ≡ a) ⊎ (HasNoneDead b → ⊥) → HasNoneDead b → b ≡ a
not-moved a b (inl e) none = e
not-moved a b (inr n) none = absurd (n none)

pub both-ok : (result : Result Bool NorError) (a b d : List ℕ) → (b ≡ a) ⊎ (HasNoneDead b → ⊥) → IfOk result (λ more. IsFalse more → HasNoneDead b) → IfOk result (λ more. IsFalse more → d ≡ b) → IfOk result (λ more. IsFalse more → d ≡ a)
both-ok (Ok more) a b d left empty same = λ f. same f ∙ not-moved a b left (empty f)
both-ok (Err e) a b d left empty same = tt

pub none-moved-work : (result : Result Bool NorError) (a b : List ℕ) → (b ≡ a) ⊎ (HasNoneDead b → ⊥) → IfOk result (λ more. IsFalse more → HasNoneDead b) → IfOk result (λ more. IsFalse more → work_of b ≡ 0) → IfOk result (λ more. IsFalse more → work_of a ≡ 0)
none-moved-work (Ok more) a b left empty none = λ f. ap work_of (sym (not-moved a b left (empty f))) ∙ none f
none-moved-work (Err e) a b left empty none = tt

pub keeps-holds : (m m' : List ℕ) → SameChip m m' → IsHealthy m' → IsSoundMap m' → (HasSlotsAlone m → HasSlotsAlone m') → (IsClean m → HoldsSectors (sector_at m) m') → (IsClean m → IsClean m') → KeepsMap m m'
keeps-holds m m' chip healthy sound alone holds clean = record {
  chip = chip;
  store = record { journals = healthy; slots = sound };
  alone = alone;
  sectors = λ c g low. holds-computed m' (sector_at m) g (holds c) (on-chip m m' g chip low);
  clean = clean;
}

pub keeps-each : (m m' : List ℕ) → SameDisk m m' → IsHealthy m' → HoldsSectors (sector_at m) m' → (IsClean m → IsClean m') → KeepsEach m m'
keeps-each m m' disk healthy holds clean = record {
  disk = disk;
  store = record { journals = healthy; slots = holds-sound m' (sector_at m) holds };
  sectors = λ g low. holds-computed m' (sector_at m) g holds (subst (λ n. g < sector_count n) (sym disk.same_length) low);
  clean = clean;
}

pub each-after : (a b c : List ℕ) → KeepsEach a b → KeepsEach b c → KeepsEach a c
each-after a b c p q = record {
  disk = disk-after a b c p.disk q.disk;
  store = q.store;
  sectors = λ g low. q.sectors g (subst (λ n. g < sector_count n) (sym p.disk.same_length) low) ∙ p.sectors g low;
  clean = λ h. q.clean (p.clean h);
}

-- what taking a slot, a conversion, or a step of tidying, leaves
pub record Moved (m b : List ℕ) : Type 0 where
  pub chip : SameChip m b
  pub sound : IsSoundMap b
  pub single : IsSingle b
  pub blocks : AreSettled b
  pub alone : HasSlotsAlone m → HasSlotsAlone b
  pub own : (g : ℕ) → IsInSlots g m → IsInSlots g b
  pub sectors : IsClean m → SameSectors m b
  pub clean : IsClean m → IsClean b

-- and the blocks between which it moves slots
pub record Steps (c : Copied) (m b : List ℕ) : Type 0 where
  pub relocates : Relocates c.source c.target m b
  pub reserve : IsSpareBlock c.target m
  pub sectors : IsClean m → SameSectors m b
  pub clean : IsClean m → IsClean b

pub reserve-slots : (m : List ℕ) (t : ℕ) → IsSpareBlock t m → is_group (kind_at m t) ≡ false
reserve-slots m t r = ap is_group r.spare.plain

pub steps-moved : (c : Copied) (m b : List ℕ) → Steps c m b → IsSoundMap m → IsSingle m → Moved m b
steps-moved c m b h sound single = record {
  chip = h.relocates.chip;
  sound = relocates-sound c.source c.target m b h.relocates sound single;
  single = relocates-single-at c.source c.target m b h.relocates single;
  blocks = h.relocates.blocks;
  alone = alone-kept m b h.relocates.chip h.relocates.groups;
  own = λ g. relocates-own c.source c.target m b g h.relocates (reserve-slots m c.target h.reserve);
  sectors = h.sectors;
  clean = h.clean;
}

pub none-moved : (m b : List ℕ) → b ≡ m → IsSoundMap m → IsSingle m → AreSettled m → Moved m b
none-moved m b e sound single blocks = subst (λ z. Moved m z) (sym e) (record {
  chip = record { same_length = refl; superblock = λ k low. refl };
  sound = sound;
  single = single;
  blocks = blocks;
  alone = λ a. a;
  own = λ g o. o;
  sectors = λ c sectors holds. holds;
  clean = λ c. c;
})

pub copies-steps : (c : Copied) (m b : List ℕ) → CopiesInto c.source c.target m b → Steps c m b
copies-steps c m b h = record { relocates = shifts-relocate c.source c.target m b h.shifts; reserve = h.target; sectors = h.shifts.sectors; clean = h.shifts.clean }

pub moves-steps : (c : Copied) (m b : List ℕ) → MovesInto c.source c.target m b → Steps c m b
moves-steps c m b h = record { relocates = shifts-relocate c.source c.target m b h.shifts; reserve = h.target; sectors = h.shifts.sectors; clean = h.shifts.clean }

pub converts-steps : (c : Copied) (m b : List ℕ) → Converts c.source c.target m b → AreSettled m → IsSoundMap m → Steps c m b
converts-steps c m b h blocks sound = record { relocates = converts-relocate c.source c.target m b h blocks sound.slots.whole; reserve = h.target; sectors = h.sectors; clean = h.clean }

pub tidies-steps : (c : Copied) (m b : List ℕ) → TidiesStock c.source c.target m b → AreSettled m → IsSoundMap m → Steps c m b
tidies-steps c m b (copies h) blocks sound = copies-steps c m b h
tidies-steps c m b (converts none low h) blocks sound = converts-steps c m b h blocks sound

pub takes-moved : (w : ℕ) (o : Option Copied) (m b : List ℕ) → Takes w o m b → IsSoundMap m → IsSingle m → AreSettled m → Moved m b
takes-moved w o m b (was_free n e low) sound single blocks = none-moved m b e sound single blocks
takes-moved w o m b (was_copied c is none h low) sound single blocks = steps-moved c m b (copies-steps c m b h) sound single

pub takes-low : (w : ℕ) (o : Option Copied) (m b : List ℕ) → Takes w o m b → IsGivable w b
takes-low w o m b (was_free n e low) = low
takes-low w o m b (was_copied c is none h low) = low

pub steps-table : (c : Copied) (m b : List ℕ) (old new : List LiveSlots) → Steps c m b → IsSoundMap m → IsSingle m → IsTableOf old m → FollowsBlock c.target old new b → IsTableOf new b
steps-table c m b old new h sound single t f = relocates-table c.source c.target m b old new h.relocates h.reserve.number sound single t f

pub takes-table : (w : ℕ) (o : Option Copied) (m b : List ℕ) (old new : List LiveSlots) → Takes w o m b → TableFollows o old new b → IsSoundMap m → IsSingle m → IsTableOf old m → IsTableOf new b
takes-table w o m b old new (was_free n e low) f sound single t =
    let same : new ≡ old = subst (λ z. TableFollows z old new b) n f in
    subst (λ z. IsTableOf z b) (sym same) (subst (λ z. IsTableOf old z) (sym e) t)
takes-table w o m b old new (was_copied c is none h low) f sound single t = steps-table c m b old new (copies-steps c m b h) sound single t (subst (λ z. TableFollows z old new b) is f)

pub steps-target : (c : Copied) (m b : List ℕ) → Steps c m b → c.target < data_blocks b
steps-target c m b h = subst (λ n. c.target < block_count n - 4) (sym h.relocates.chip.same_length) h.reserve.number

pub moved-keeps : (m b : List ℕ) → Moved m b → IsHealthy b → IsSoundMap m → KeepsMap m b
moved-keeps m b h healthy sound = keeps-holds m b h.chip healthy h.sound h.alone (λ c. h.sectors c (sector_at m) (sound-holds m sound)) h.clean

pub stays-keeps : (m b : List ℕ) → Stays m b → IsHealthy b → IsSoundMap m → KeepsMap m b
stays-keeps m b h healthy sound = keeps-holds m b h.chip healthy (h.sound sound) h.alone (λ c. (h.exact c).sectors (sector_at m) (sound-holds m sound)) (λ c. (let k = h.exact c in k.clean c))

-- a written sector, and another
pub with-there : (f : ℕ → List ℕ) (g : ℕ) (x : List ℕ) → with_sector f g x g ≡ x
with-there f g x = rw (eq-eqb g g refl) refl

pub with-other : (f : ℕ → List ℕ) (g h : ℕ) (x : List ℕ) → h ≢ g → with_sector f g x h ≡ f h
with-other f g h x other = rw (ne_eqb h g other) refl

pub holds-sets : (g : ℕ) (y x m b m' : List ℕ) → Moved m b → SameChip b m' → HoldsSectors (with_sector (sector_at b) g y) m' → (HasSlotsAlone b → HasSlotsAlone m') → IsHealthy m' → (IsClean b → y ≡ x) → (IsClean b → IsClean m') → IsSoundMap m → g < sector_count (length m)
    → Sets g x m m'
holds-sets g y x m b m' moved chip holds alone healthy exact clean sound low =
    let both = chip-after m b m' moved.chip chip in
    record {
      chip = both;
      store = record { journals = healthy; slots = holds-sound m' (with_sector (sector_at b) g y) holds };
      alone = λ a. alone (moved.alone a);
      there = λ h. holds-computed m' (with_sector (sector_at b) g y) g holds (on-chip m m' g both low) ∙ (with-there (sector_at b) g y ∙ exact (moved.clean h));
      others = λ c h in_range other. holds-computed m' (with_sector (sector_at b) g y) h holds (on-chip m m' h both in_range)
          ∙ (with-other (sector_at b) g h y other ∙ holds-computed b (sector_at m) h (moved.sectors c (sector_at m) (sound-holds m sound)) (on-chip m b h moved.chip in_range));
      clean = λ h. clean (moved.clean h);
    }

holds-still : (m b m' : List ℕ) → Moved m b → SameChip b m' → HoldsSectors (sector_at b) m' → (HasSlotsAlone b → HasSlotsAlone m') → IsHealthy m' → (IsClean b → IsClean m') → IsSoundMap m → KeepsMap m m'
holds-still m b m' moved chip holds alone healthy clean sound =
    let both = chip-after m b m' moved.chip chip in
    record {
      chip = both;
      store = record { journals = healthy; slots = holds-sound m' (sector_at b) holds };
      alone = λ a. alone (moved.alone a);
      sectors = λ c g low. holds-computed m' (sector_at b) g holds (on-chip m m' g both low) ∙ holds-computed b (sector_at m) g (moved.sectors c (sector_at m) (sound-holds m sound)) (on-chip m b g moved.chip low);
      clean = λ h. clean (moved.clean h);
    }

-- a sector was written into the slot that was taken
pub wrote : (g : ℕ) (x : List ℕ) (o : Held) (a b c : NorState) (table table' : List LiveSlots) (indexed : Bool) → Moved a.memory b.memory → Rewrites g x o b.memory c.memory → SucceedsSettled a c → IsSoundMap a.memory → g < sector_count (length a.memory)
    → IsTableOf table b.memory → KeptOne table g o table' → IsNorReady a → indexed ≡ true → Wrote g x table' a c indexed
wrote g x o a b c table table' indexed moved r done sound low t s ready index =
    let healthy = settled-healthy c.memory done.settled in
    let sets = holds-sets g r.content x a.memory b.memory c.memory moved r.replaces.chip r.replaces.sectors r.replaces.alone healthy r.exact r.clean sound low in
    record {
      sets = sets;
      served = record {
        ready = ready-after a c done.kept ready;
        settled = done.settled;
        store = sets.store;
        blocks = r.replaces.blocks;
        tabled = table-follows table table' b.memory c.memory g r.content o r.replaces t s;
        index = index;
      };
    }

-- or that was cut
pub write-cut : (g : ℕ) (x m b m' : List ℕ) → Moved m b → RewriteLeaves g x b m' → IsHealthy m' → IsSoundMap m → g < sector_count (length m) → SetLeaves g x m m'
write-cut g x m b m' moved l healthy sound low = elim l.leaves.sectors as (λ _. SetLeaves g x m m') [
  | inl old ↦ inl (holds-still m b m' moved l.leaves.chip old l.leaves.alone healthy l.clean sound)
  | inr new ↦ inr (holds-sets g l.content x m b m' moved l.leaves.chip new l.leaves.alone healthy l.exact l.clean sound low)
]

-- what a write asks of the slot that was taken
pub taken-replaceable : (w g : ℕ) (o : Option Held) (b : List ℕ) → IsGivable w b → IsSoundMap b → IsSingle b → AreSettled b → g < sector_count (length b) → HeldBy o g b → IsInSlots g b → IsReplaceable w g o b
taken-replaceable w g o b low sound single blocks within held own = record {
  free = low.free;
  place = record { reserve = low.reserve; number = low.is_spare.number; spare = low.is_spare.spare; apart = low.apart };
  outside = record { rest = blocks.rest; reserve = low.reserve; is_spare = low.is_spare; apart = low.apart };
  sound = sound;
  single = single;
  blocks = blocks;
  sector = within;
  held = held;
  own = own;
}

pub held-number : (o : Option Held) (g : ℕ) (m : List ℕ) → HeldBy o g m → IfSome o (λ h. h.slot < slot_count m)
held-number None g m none = tt
held-number (Some h) g m (x, l) = l.number

-- a step of tidying, or a conversion
pub stepped : (c : Copied) (a b d : NorState) (old new : List LiveSlots) (indexed : Bool) → IsServing old a indexed → Steps c a.memory b.memory → d.memory ≡ b.memory → FollowsBlock c.target old new b.memory → SucceedsSettled a d
    → (index : Bool) → index ≡ true → KeptServing new a d index
stepped c a b d old new indexed s step same f done index is =
    let single = single-tabled old a.memory s.tabled in
    let moved = steps-moved c a.memory b.memory step s.store.slots single in
    let keeps : KeepsMap a.memory d.memory = subst (λ z. KeepsMap a.memory z) (sym same) (moved-keeps a.memory b.memory moved (subst (λ z. IsHealthy z) same (settled-healthy d.memory done.settled)) s.store.slots) in
    record {
      keeps = keeps;
      served = record {
        ready = ready-after a d done.kept s.ready;
        settled = done.settled;
        store = keeps.store;
        blocks = subst (λ z. AreSettled z) (sym same) moved.blocks;
        tabled = subst (λ z. IsTableOf new z) (sym same) (steps-table c a.memory b.memory old new step s.store.slots single s.tabled f);
        index = is;
      };
    }

-- nothing was to be done
pub kept-none : (table : List LiveSlots) (a : NorState) (indexed : Bool) → IsServing table a indexed → KeptServing table a a indexed
kept-none table a indexed s = record { keeps = keeps-none a.memory s.store; served = s }

-- a slot was taken, and the table follows
pub record AtSlot (w : ℕ) (table : List LiveSlots) (m b : List ℕ) : Type 0 where
  pub moved : Moved m b
  pub tabled : IsTableOf table b
  pub low : IsGivable w b

pub at-slot : (w : ℕ) (o : Option Copied) (a : NorState) (indexed : Bool) (b b' : List ℕ) (table table' : List LiveSlots) → IsServing table a indexed → Takes w o a.memory b → b' ≡ b → TableFollows o table table' b → AtSlot w table' a.memory b'
at-slot w o a indexed b b' table table' s taken same f =
    let single = single-tabled table a.memory s.tabled in
    subst (λ z. AtSlot w table' a.memory z) (sym same) (record {
      moved = takes-moved w o a.memory b taken s.store.slots single s.blocks;
      tabled = takes-table w o a.memory b table table' taken f s.store.slots single s.tabled;
      low = takes-low w o a.memory b taken;
    })

pub served-moved : (w : ℕ) (o : Option Copied) (a : NorState) (indexed : Bool) (b : List ℕ) (table : List LiveSlots) → IsServing table a indexed → Takes w o a.memory b → Moved a.memory b
served-moved w o a indexed b table s taken = takes-moved w o a.memory b taken s.store.slots (single-tabled table a.memory s.tabled) s.blocks

pub served-steps : (c : Copied) (a : NorState) (indexed : Bool) (b : List ℕ) (table : List LiveSlots) → IsServing table a indexed → Steps c a.memory b → Moved a.memory b
served-steps c a indexed b table s h = steps-moved c a.memory b h s.store.slots (single-tabled table a.memory s.tabled)

pub served-tidies : (c : Copied) (a : NorState) (indexed : Bool) (b : List ℕ) (table : List LiveSlots) → IsServing table a indexed → TidiesStock c.source c.target a.memory b → Steps c a.memory b
served-tidies c a indexed b table s h = tidies-steps c a.memory b h s.blocks s.store.slots

pub served-moves : (c : Copied) (a : NorState) (indexed : Bool) (b : List ℕ) (table : List LiveSlots) → IsServing table a indexed → MovesInto c.source c.target a.memory b → Steps c a.memory b
served-moves c a indexed b table s h = moves-steps c a.memory b h

pub served-converts : (c : Copied) (a : NorState) (indexed : Bool) (b : List ℕ) (table : List LiveSlots) → IsServing table a indexed → Converts c.source c.target a.memory b → Steps c a.memory b
served-converts c a indexed b table s h = converts-steps c a.memory b h s.blocks s.store.slots

pub slot-held : (w g : ℕ) (table : List LiveSlots) (m b : List ℕ) (o : Option Held) → AtSlot w table m b → g < length table → o ≡ holder (slice_index_or table g Absent) → HeldBy o g b
slot-held w g table m b o h low e = subst (λ z. HeldBy z g b) (sym e) (table-holder table b g h.tabled low)

pub slot-replaceable : (w g : ℕ) (table : List LiveSlots) (m b : List ℕ) (o : Option Held) → AtSlot w table m b → IsInSlots g m → g < length table → o ≡ holder (slice_index_or table g Absent) → IsReplaceable w g o b
slot-replaceable w g table m b o h own low e = taken-replaceable w g o b h.low h.moved.sound h.moved.single h.moved.blocks (subst (λ n. g < n) h.tabled.size low) (slot-held w g table m b o h low e) (h.moved.own g own)

pub same-moved-keeps : (a : NorState) (b b' : List ℕ) → Moved a.memory b → b' ≡ b → IsSettled b → IsSoundMap a.memory → KeepsMap a.memory b'
same-moved-keeps a b b' moved same settled sound = subst (λ z. KeepsMap a.memory z) (sym same) (moved-keeps a.memory b moved (settled-healthy b settled) sound)

-- no slot is dead
none-count : (p : ℕ → Bool) (n : ℕ) → ((k : ℕ) → k < n → p k ≡ false) → how_many p n ≡ 0
none-count p zero none = how_many-zero p
none-count p (suc n) none = how_many-suc p n ∙ (rw (none n (omega arith)) (let h = none-count p n (λ k low. none k (omega (arith, low))) in omega (arith, h)))

not-dead : (s : Slot) → s ≢ Dead → is_dead s ≡ false
not-dead Free ne = refl
not-dead (Live tag x) ne = refl
not-dead NoGeneration ne = refl
not-dead Dead ne = absurd (ne refl)
not-dead Outside ne = refl

pub no-work : (m : List ℕ) → HasNoneDead m → HasNoGroups m → work_of m ≡ 0
no-work m none groups =
    let dead = none-count (λ s. is_dead (slot_at m s)) (slot_count m) (λ s low. not-dead (slot_at m s) (none s low)) in
    let live = none-count (λ c. is_live_group (kind_at m c)) (data_blocks m) groups in
    omega (arith, dead, live)

pub perhaps-after : (a b c : NorState) → SucceedsSettled a b → (c ≡ b) ⊎ SucceedsSettled b c → SucceedsSettled a c
perhaps-after a b c s (inl e) = subst (λ z. SucceedsSettled a z) (sym e) s
perhaps-after a b c s (inr t) = settled-after a b c s t

-- one call after another, whose answer is the answer
pub after-ok : {T : Type 0} (r : Result T NorError) (P Q : Type 0) → (P → Q) → OnOk r P → OnOk r Q
after-ok (Ok v) P Q f h = f h
after-ok (Err e) P Q f h = tt

pub after-fails : {T : Type 0} (r : Result T NorError) (a b c : NorState) → (b ≡ a) ⊎ SucceedsSettled a b → IfErr r (λ e. RefusesFirmly e b c) → IfErr r (λ e. RefusesFirmly e a c)
after-fails (Ok v) a b c p h = tt
after-fails (Err e) a b c p h = refuses-perhaps e a b c p h

-- where a mount's own calls say nothing of firm journals
pub plainly-fails : {T : Type 0} (r : Result T NorError) (a b c : NorState) → SucceedsSettled a b → IfErr r (λ e. RefusesFirmly e b c) → IfErr r (λ e. Refuses e a c)
plainly-fails (Ok v) a b c p h = tt
plainly-fails (Err e) a b c p h = refuses-settled e a b c p (refuses-plainly e b c h)

pub after-ends : {T : Type 0} (r : Result T NorError) (a b c : NorState) → (b ≡ a) ⊎ SucceedsSettled a b → EndsFirmly r b c → EndsFirmly r a c
after-ends (Ok v) a b c p h = succeeds-perhaps a b c p h
after-ends (Err e) a b c p h = refuses-perhaps e a b c p h
