-- What a mount of a chip leaves, from what the superblock, the journals and the slots say.
use Rattle.std.proofs.Common.{◌≡◌, ℕ, zero, suc, ◌*◌, ◌<◌, ◌-◌, ◌⊎◌, false, true, List, length, refl, sym, ap, ◌∙◌, subst, arith, inl, inr}
use Rattle.std.specs.Prelude.{Option, None, Result, Ok, Err, IfOk, IfErr}
use Rattle.chip_model.specs.Geometry.{block_count}
use Rattle.nor_driver.specs.State.{NorState, IsNorReady, OnlyMemoryChanges, NorFails, Refuses}
use Rattle.nor_driver.specs.declared.error.NorError.{NorError}
use Rattle.nor_driver.specs.declared.error.NorError.TheVariants as errors
use Rattle.nor_layout.specs.Layouts.{layout_of}
use Rattle.nor_layout.specs.declared.superblock.SuperError.TheVariants as refusals
use Rattle.erase_journal.specs.Blocks.{SameBlocks}
use Rattle.erase_journal.specs.Journals.{IsHealthy}
use Rattle.erase_journal.specs.Recovery.{Recovers, RecoveryCorrupt, RecoveryCut, IsBehind}
use Rattle.erase_journal.specs.Steps.{SucceedsSettled, KeepsBlocks}
use Rattle.sector_slots.specs.Slots.{Slot, slot_at, slot_count, SameSlots}
use Rattle.sector_slots.specs.Sectors.{IsSoundMap, sector_at, winner, newer, content_in}
use Rattle.nor_layout.specs.Superblock.{mixed_in}
use Rattle.sector_slots.proofs.BlankLaws.{same-blocks_slots}
use Rattle.nor_driver.proofs.CallLaws.{kept-after}
use Rattle.erase_journal.proofs.SettledLaws.{settled-healthy}
use Rattle.sector_slots.proofs.BlankLaws.{blocks-holds, holds-sound, sound-holds}
use Rattle.sector_map.specs.Marking.{IsUnmarked, mixed_mark}
use Rattle.sector_map.specs.Table.{Mounts, MountCut}
use Rattle.sector_map.specs.Maps.{IsMountable, IsLaidOut, geometry_of, KeepsEach, Mounted, MountWasCorrupt, MountWasCut, MountFails, shown_with, is_slow_in}
use Rattle.sector_map.specs.Filling.{Filled, FillCut, FillFails}
use Rattle.sector_map.specs.declared.table.LiveSlots.{LiveSlots}
use Rattle.sector_map.specs.declared.error.MapError.{MapError}
use Rattle.sector_map.specs.declared.error.MapError.TheVariants as mounts
use Rattle.sector_map.proofs.MapCalls.{each-after}
use Rattle.sector_map.proofs.Marking.{laid-formatted}
use Rattle.sector_map.proofs.Restoring.{blocks-keep, left-keeps, mounts-keeps, mount-cut-keeps}

pub filled : (t : List LiveSlots) (a c : NorState) → Mounts a.memory t c.memory → SucceedsSettled a c → Filled a (shown_with None c)
filled t a c h done = record {
  slots = h.sound;
  keeps = mounts-keeps a.memory c.memory t h done.settled;
  marked = h.marked;
  kept = record { bits = done.kept.bits; cuts = done.kept.cuts; slows = done.kept.slows; powered = done.kept.powered; is_slow = sym done.ready.1; has_large = done.kept.has_large };
}

pub fill-cut : (a c d : NorState) → MountCut a.memory c.memory → IsHealthy c.memory → Refuses errors.Cut a c → IsNorReady a → IsBehind c d → FillCut a d
fill-cut a c d cut healthy f ready behind = record {
  came = elim f.fails.0 as (λ _. a.cuts < d.cuts) [ inl came ↦ (let e = behind.cuts in omega (arith, came, e)) | inr off ↦ (let e = ready.0 in let g = off.0 in absurd (cc (e, g))) ];
  slows = behind.slows ∙ f.fails.1;
  powered = behind.powered ∙ f.fails.2;
  quick = λ q. behind.quick (f.fails.3 ∙ q);
  size = ap length behind.memory ∙ cut.disk.same_length;
  keeps = λ sound. subst (λ z. KeepsEach a.memory z) (sym behind.memory) (mount-cut-keeps a.memory c.memory cut healthy sound);
  first = λ u. subst (λ z. (z ≡ a.memory) ⊎ (mixed_in z ≡ mixed_mark)) (sym behind.memory) (cut.first u);
}

-- the same blocks, seen from the other side
blocks-back : (m m' : List ℕ) → SameBlocks m m' → SameBlocks m' m
blocks-back m m' s =
    let n = s.chip.same_length in
    record {
      chip = record { same_length = sym n; superblock = λ k low. sym (s.chip.superblock k low) };
      each = λ b high low. sym (s.each b high (subst (λ k. b < block_count k) n low));
    }

same-back : (m m' : List ℕ) → SameBlocks m m' → IsSoundMap m' → IsSoundMap m
same-back m m' s sound = holds-sound m (sector_at m') (blocks-holds m' m (sector_at m') (blocks-back m m' s) (sound-holds m' sound))

-- the same slots make the same sectors, corrupt or not
winner-same : (f f' : ℕ → Slot) (n g : ℕ) → ((s : ℕ) → s < n → f' s ≡ f s) → winner f' n g ≡ winner f n g
unfolding winner
winner-same f f' zero g same = refl
winner-same f f' (suc n) g same =
    ap (λ s. newer g s (winner f' n g)) (same n (omega arith)) ∙ ap (λ w. newer g (f n) w) (winner-same f f' n g (λ s low. same s (omega (arith, low))))

same-slots-sectors : (m m' : List ℕ) → SameSlots m m' → (g : ℕ) → sector_at m' g ≡ sector_at m g
same-slots-sectors m m' s g =
    ap content_in (ap (λ n. winner (slot_at m') (7 * (block_count n - 4)) g) s.chip.same_length ∙ winner-same (slot_at m) (slot_at m') (slot_count m) g s.each)

recovered-keeps : (a b : NorState) → Recovers a b → IsSoundMap a.memory → KeepsEach a.memory b.memory
recovered-keeps a b r sound = blocks-keep a.memory b.memory r.blocks (settled-healthy b.memory r.settled) sound

-- the superblock of recovered journals is as it was
unmarked-still : (m m' : List ℕ) → SameBlocks m m' → IsUnmarked m → IsUnmarked m'
unmarked-still m m' s u = record { layout = s.chip.superblock 8 (omega arith) ∙ u.layout; mixed = s.chip.superblock 15 (omega arith) ∙ u.mixed }

pub recovered-mounted : (a b c : NorState) → IsLaidOut a.memory → Recovers a b → Filled b c → Mounted a c
recovered-mounted a b c super r f =
    let sound = same-back a.memory b.memory r.blocks f.slots in
    record {
      mountable = record { superblock = super; store = record { journals = r.healthy; slots = sound } };
      keeps = each-after a.memory b.memory c.memory (recovered-keeps a b r sound) f.keeps;
      marked = λ u. f.marked (unmarked-still a.memory b.memory r.blocks u);
      ready = r.ready;
      kept = kept-after a b c r.kept f.kept;
    }

pub recovered-fails : (e : MapError) (a b c : NorState) → IsLaidOut a.memory → Recovers a b → FillFails e b c → MountFails e a c
recovered-fails mounts.Cut a b c super r f = record {
  came = (let g = f.came in let k = r.kept.cuts in inl (omega (arith, g, k)));
  slows = f.slows ∙ r.kept.slows;
  powered = f.powered;
  quick = λ q. f.quick (r.kept.is_slow ∙ q);
  size = f.size ∙ r.blocks.chip.same_length;
  keeps = λ m. let k = recovered-keeps a b r m.store.slots in each-after a.memory b.memory c.memory k (f.keeps k.store.slots);
  first = λ m u. elim (f.first (unmarked-still a.memory b.memory r.blocks u)) as (λ _. SameBlocks a.memory c.memory ⊎ (mixed_in c.memory ≡ mixed_mark)) [ inl e ↦ inl (subst (λ z. SameBlocks a.memory z) (sym e) r.blocks) | inr now ↦ inr now ];
}
recovered-fails mounts.Slow a b c super r f = record {
  came = (let g = f.came in let k = r.kept.slows in inl (omega (arith, g, k)));
  cuts = f.cuts ∙ r.kept.cuts;
  size = f.size ∙ r.blocks.chip.same_length;
}
recovered-fails mounts.Corrupt a b c super r f =
    let blocks : SameBlocks a.memory c.memory = subst (λ z. SameBlocks a.memory z) (sym f.same) r.blocks in
    record {
      corrupt = λ m. f.corrupt (recovered-keeps a b r m.store.slots).store.slots;
      formatted = laid-formatted a.memory super;
      cuts = f.cuts ∙ r.kept.cuts;
      slows = f.slows ∙ r.kept.slows;
      quick = λ q. f.quick (r.kept.is_slow ∙ q);
      leaves = inr (r.healthy, blocks);
      size = blocks.chip.same_length;
      sectors = λ g. same-slots-sectors a.memory c.memory (same-blocks_slots a.memory c.memory blocks) g;
    }
recovered-fails mounts.OutOfMemory a b c super r f = absurd f
recovered-fails mounts.NotFormatted a b c super r f = absurd f

left-blocks : (m m' : List ℕ) → (m' ≡ m) ⊎ KeepsBlocks m m' → SameBlocks m m'
left-blocks m m' h = elim h as (λ _. SameBlocks m m') [
  | inl e ↦ subst (λ z. SameBlocks m z) (sym e) (record { chip = record { same_length = refl; superblock = λ k low. refl }; each = λ b low high. refl })
  | inr s ↦ s.blocks
]

pub recovery-cut : (a b : NorState) → RecoveryCut a b → MountWasCut a b
recovery-cut a b r = record {
  came = elim r.fails.0 as (λ _. (a.cuts < b.cuts) ⊎ (a.powered ≡ false)) [ inl came ↦ inl came | inr off ↦ inr off.0 ];
  slows = r.fails.1;
  powered = r.fails.2;
  quick = λ q. r.fails.3 ∙ q;
  size = elim r.leaves as (λ _. length b.memory ≡ length a.memory) [ inl e ↦ ap length e | inr s ↦ s.blocks.chip.same_length ];
  keeps = λ m. left-keeps a.memory b.memory r.leaves m.store;
  first = λ m u. inl (left-blocks a.memory b.memory r.leaves);
}

pub recovery-corrupt : (a b : NorState) → IsLaidOut a.memory → RecoveryCorrupt a b → MountWasCorrupt a b
recovery-corrupt a b super r = record {
  corrupt = λ m. r.corrupt m.store.journals;
  formatted = laid-formatted a.memory super;
  cuts = r.kept.cuts;
  slows = r.kept.slows;
  quick = λ q. r.kept.is_slow ∙ q;
  leaves = inl r.same;
  size = ap (λ (m : List ℕ). length m) r.same;
  sectors = λ s. ap (λ (m : List ℕ). sector_at m s) r.same;
}

-- the superblock wasn't read, for a loss of power
pub look-was-cut : (a b : NorState) → NorFails errors.Cut a b → b.memory ≡ a.memory → MountWasCut a b
look-was-cut a b f same = record {
  came = elim f.0 as (λ _. (a.cuts < b.cuts) ⊎ (a.powered ≡ false)) [ inl came ↦ inl came | inr off ↦ inr off.0 ];
  slows = f.1;
  powered = f.2;
  quick = λ q. f.3 ∙ q;
  size = ap length same;
  keeps = λ m. left-keeps a.memory b.memory (inl same) m.store;
  first = λ m u. inl (left-blocks a.memory b.memory (inl same));
}

-- after the superblock was read
at-memory : (a b : NorState) → b.memory ≡ a.memory → (P : List ℕ → Type 0) → P a.memory → P b.memory
at-memory a b e P h = subst P (sym e) h

mount-fails-after : (e : MapError) (a b c : NorState) → b.memory ≡ a.memory → OnlyMemoryChanges a b → MountFails e b c → MountFails e a c
mount-fails-after mounts.Cut a b c same k f = record {
  came = elim f.came as (λ _. (a.cuts < c.cuts) ⊎ (a.powered ≡ false)) [ inl came ↦ (let g = k.cuts in inl (omega (arith, came, g))) | inr off ↦ inr (sym k.powered ∙ off) ];
  slows = f.slows ∙ k.slows;
  powered = f.powered;
  quick = λ q. f.quick (k.is_slow ∙ q);
  size = f.size ∙ ap length same;
  keeps = λ m. subst (λ z. KeepsEach z c.memory) same (f.keeps (at-memory a b same (λ z. IsMountable z) m));
  first = λ m u. subst (λ z. SameBlocks z c.memory ⊎ (mixed_in c.memory ≡ mixed_mark)) same (f.first (at-memory a b same (λ z. IsMountable z) m) (at-memory a b same (λ z. IsUnmarked z) u));
}
mount-fails-after mounts.Slow a b c same k f = record {
  came = elim f.came as (λ _. (a.slows < c.slows) ⊎ (a.is_slow ≡ true)) [ inl came ↦ (let g = k.slows in inl (omega (arith, came, g))) | inr slow ↦ inr (sym k.is_slow ∙ slow) ];
  cuts = f.cuts ∙ k.cuts;
  size = f.size ∙ ap length same;
}
mount-fails-after mounts.Corrupt a b c same k f = record {
  corrupt = λ m. f.corrupt (at-memory a b same (λ z. IsMountable z) m);
  formatted = λ bare. f.formatted (at-memory a b same (λ z. layout_of z (geometry_of (length z)) ≡ Err refusals.NotFormatted) bare);
  cuts = f.cuts ∙ k.cuts;
  slows = f.slows ∙ k.slows;
  quick = λ q. f.quick (k.is_slow ∙ q);
  leaves = subst (λ z. (c.memory ≡ z) ⊎ (IsHealthy z × SameBlocks z c.memory)) same f.leaves;
  size = f.size ∙ ap length same;
  sectors = λ g. f.sectors g ∙ ap (λ z. sector_at z g) same;
}
mount-fails-after mounts.OutOfMemory a b c same k f = record { same = f.same ∙ same; kept = kept-after a b c k f.kept }
mount-fails-after mounts.NotFormatted a b c same k f = (
  subst (λ z. layout_of z (geometry_of (length z)) ≡ Err refusals.NotFormatted) same f.0,
  record { same = f.1.same ∙ same; kept = kept-after a b c k f.1.kept },
)

pub looked-fails : {T N : Type 0} (st : N → NorState) (r : Result T (N × MapError)) (a b : NorState) → b.memory ≡ a.memory → OnlyMemoryChanges a b → IfErr r (λ e. MountFails e.1 b (st e.0)) → IfErr r (λ e. MountFails e.1 a (st e.0))
looked-fails st (Ok v) a b same k f = tt
looked-fails st (Err e) a b same k f = mount-fails-after e.1 a b (st e.0) same k f

pub looked-mounted : {T E : Type 0} (st : T → NorState) (r : Result T E) (a b : NorState) → b.memory ≡ a.memory → IsNorReady a → OnlyMemoryChanges a b → IfOk r (λ map. Mounted b (st map)) → IfOk r (λ map. Mounted a (st map))
looked-mounted st (Ok v) a b same ready k h = record {
  mountable = subst (λ m. IsMountable m) same h.mountable;
  keeps = subst (λ m. KeepsEach m (st v).memory) same h.keeps;
  marked = λ u. h.marked (subst (λ m. IsUnmarked m) (sym same) u);
  ready = ready;
  kept = kept-after a b (st v) k h.kept;
}
looked-mounted st (Err e) a b same ready k h = tt

pub filled-mounted : {T E : Type 0} (st : T → NorState) (r : Result T E) (a b : NorState) → IsLaidOut a.memory → Recovers a b → IfOk r (λ map. Filled b (st map)) → IfOk r (λ map. Mounted a (st map))
filled-mounted st (Ok v) a b super r f = recovered-mounted a b (st v) super r f
filled-mounted st (Err e) a b super r f = tt

pub filled-fails : {T N : Type 0} (st : N → NorState) (r : Result T (N × MapError)) (a b : NorState) → IsLaidOut a.memory → Recovers a b → IfErr r (λ e. FillFails e.1 b (st e.0)) → IfErr r (λ e. MountFails e.1 a (st e.0))
filled-fails st (Ok v) a b super r f = tt
filled-fails st (Err e) a b super r f = recovered-fails e.1 a b (st e.0) super r f

-- what a map shows of a call that its store answered Ok
pub shown-succeeds : (o : Option NorError) (a b : NorState) → o ≡ None → SucceedsSettled a b → SucceedsSettled (shown_with o a) (shown_with o b)
shown-succeeds o a b e s = record {
  ready = (s.ready.0, ap is_slow_in e);
  kept = record { bits = s.kept.bits; cuts = s.kept.cuts; slows = s.kept.slows; powered = s.kept.powered; is_slow = refl; has_large = s.kept.has_large };
  settled = s.settled;
}
