-- What a restore of a map leaves, and what stands.
use Rattle.std.proofs.Common.{◌≡◌, ℕ, ◌+◌, ◌<◌, ◌⊎◌, Bool, true, false, List, length, refl, sym, ap, ◌∙◌, subst, arith, inl, inr, Ok, Err}
use Rattle.std.specs.Prelude.{Option, Some, None, Result, IfOk, IfErr, OnOk, IsTrue, IsFalse, slice_index_or}
use Rattle.std.specs.Result.{IsErrOf}
use Rattle.chip_model.specs.Geometry.{sector_count}
use Rattle.nor_layout.specs.Kinds.{kind_of}
use Rattle.nor_driver.specs.State.{NorState, bits_in, IsNorReady, Refuses}
use Rattle.nor_driver.proofs.Firmer.{firmer-none, interrupted-none}
use Rattle.nor_driver.proofs.CallLaws.{first-ready}
use Rattle.nor_driver.specs.declared.error.NorError.{NorError}
use Rattle.nor_driver.specs.declared.error.NorError.TheVariants as errors
use Rattle.erase_journal.specs.Blocks.{SameBlocks}
use Rattle.erase_journal.specs.Journals.{IsHealthy, IsSettled}
use Rattle.erase_journal.specs.Recovery.{Restored, RestoreCut, RestoreCorrupt}
use Rattle.erase_journal.specs.Steps as steps
use Rattle.erase_journal.specs.Steps.{RefusesFirmly, SucceedsSettled}
use Rattle.erase_journal.proofs.Standing.{same-loses}
use Rattle.sector_slots.specs.Slots.{slot_in, data_blocks, data_block, kind_at, raw_slot, IsClean}
use Rattle.sector_slots.specs.Sectors.{IsSoundMap, sector_at}
use Rattle.sector_slots.proofs.BlankLaws.{counted-same}
use Rattle.sector_slots.proofs.CleanLaws.{clean-blocks}
use Rattle.erase_journal.proofs.SettledLaws.{settled-healthy}
use Rattle.sector_slots.proofs.BlankLaws.{blocks-holds, sound-holds}
use Rattle.sector_map.proofs.Marking.{chip-disk}
use Rattle.sector_map.specs.Replace.{HeldBy}
use Rattle.sector_map.specs.Table.{IsTableOf, Mounts, MountCut, holder}
use Rattle.sector_map.specs.Maps.{IsStore, KeepsEach, KeepsMap, SetLeaves, IsServing, KnownWhile, is_slow_in, shown_with}
use Rattle.sector_map.specs.Filling.{Renewed, RenewCorrupt, RenewCut, RenewFails}
use Rattle.sector_map.specs.declared.table.Held.{Held}
use Rattle.sector_map.specs.declared.table.LiveSlots.{LiveSlots}
use Rattle.sector_map.specs.declared.table.LiveSlots.TheVariants.{Absent}
use Rattle.sector_map.proofs.Retiring.{table-holder}
use Rattle.sector_map.proofs.MapCalls.{keeps-each, each-after, keeps-none}

-- the same blocks
pub blocks-clean : (m m' : List ℕ) → SameBlocks m m' → IsClean m → IsClean m'
blocks-clean m m' same clean =
    let each : (d : ℕ) → d < data_blocks m → data_block m' d ≡ data_block m d = λ d low. same.each (d + 4) (omega arith) (omega (arith, low)) in
    clean-blocks m m' same.chip each (λ w low. counted-same (kind_at m) (kind_at m') (raw_slot m) (raw_slot m') (data_blocks m) w (λ d h. ap kind_of (each d h)) (λ d i h small. ap (λ b. slot_in b i) (each d h)) low) clean

pub blocks-keep : (m m' : List ℕ) → SameBlocks m m' → IsHealthy m' → IsSoundMap m → KeepsEach m m'
blocks-keep m m' same healthy sound =
    let holds = blocks-holds m m' (sector_at m) same (sound-holds m sound) in
    keeps-each m m' (chip-disk m m' same.chip) healthy holds (blocks-clean m m' same)

-- a table was made
pub mounts-keeps : (m m' : List ℕ) (table : List LiveSlots) → Mounts m table m' → IsSettled m' → KeepsEach m m'
mounts-keeps m m' table h settled = keeps-each m m' h.disk (settled-healthy m' settled) h.sectors h.clean

pub mount-cut-keeps : (m m' : List ℕ) → MountCut m m' → IsHealthy m' → IsSoundMap m → KeepsEach m m'
mount-cut-keeps m m' h healthy sound = keeps-each m m' h.disk healthy (h.sectors sound) h.clean

pub served-after : (t : List LiveSlots) (b c : NorState) (indexed : Bool) → Mounts b.memory t c.memory → SucceedsSettled b c → IsNorReady b → indexed ≡ true → IsServing t c indexed
served-after t b c indexed h done ready is = record {
  ready = (done.kept.powered ∙ ready.0, done.kept.is_slow ∙ ready.1);
  settled = done.settled;
  store = (mounts-keeps b.memory c.memory t h done.settled).store;
  blocks = h.blocks;
  tabled = h.tabled;
  index = is;
}

pub renew-ok : (r : Result Bool NorError) (t : List LiveSlots) (a b c : NorState) (indexed : Bool) → Restored a b → IfOk r (λ s. IsTrue s → Mounts b.memory t c.memory) → IfOk r (λ s. IsTrue s → indexed ≡ true) → OnOk r (SucceedsSettled b c)
    → IfOk r (λ s. IsTrue s → Renewed t a c indexed)
renew-ok (Ok s) t a b c indexed r made index done = λ is.
    let h = made is in
    let k = mounts-keeps b.memory c.memory t h done.settled in
    record {
      cuts = done.kept.cuts ∙ r.cuts;
      slows = done.kept.slows ∙ r.slows;
      served = served-after t b c indexed h done r.ready (index is);
      size = h.disk.same_length ∙ r.size;
      keeps = λ quick store. each-after a.memory b.memory c.memory (blocks-keep a.memory b.memory (r.blocks quick) (settled-healthy b.memory r.settled) store.slots) k;
    }
renew-ok (Err e) t a b c indexed r made index done = tt

pub renew-corrupt : (r : Result Bool NorError) (a b c : NorState) → Restored a b → IfOk r (λ s. IsFalse s → (IsSoundMap b.memory → ⊥) × (c.memory ≡ b.memory)) → OnOk r (SucceedsSettled b c) → IfOk r (λ s. IsFalse s → RenewCorrupt a c)
renew-corrupt (Ok s) a b c r made done = λ is.
    let h = made is in
    record {
      cuts = done.kept.cuts ∙ r.cuts;
      slows = done.kept.slows ∙ r.slows;
      powered = done.kept.powered ∙ r.ready.0;
      size = ap length h.1 ∙ r.size;
      still = λ store. h.0 (subst (λ z. IsSoundMap z) h.1 store.slots);
      corrupt = λ quick store. h.0 (blocks-keep a.memory b.memory (r.blocks quick) (settled-healthy b.memory r.settled) store.slots).store.slots;
    }
renew-corrupt (Err e) a b c r made done = tt

pub renew-fails : (r : Result Bool NorError) (a b c : NorState) → Restored a b
    → (IsErrOf r errors.Cut → IsHealthy b.memory → MountCut b.memory c.memory) → (IsErrOf r errors.Cut → IsHealthy b.memory → IsHealthy c.memory) → length c.memory ≡ length b.memory → IfErr r (λ e. Refuses e b c) → IfErr r (λ e. RenewFails e a c)
renew-fails (Ok s) a b c r cut healthy size refuses = tt
renew-fails (Err errors.Cut) a b c r cut healthy size f = record {
  cuts = elim f.fails.0 as (λ _. a.cuts < c.cuts) [ inl came ↦ (let e = r.cuts in omega (arith, came, e)) | inr off ↦ (let e = r.ready.0 in let g = off.0 in absurd (cc (e, g))) ];
  slows = f.fails.1 ∙ r.slows;
  powered = f.fails.2;
  size = size ∙ r.size;
  quick = λ q. f.fails.3 ∙ r.ready.1;
  keeps = λ quick store.
      let sound = settled-healthy b.memory r.settled in
      let k = blocks-keep a.memory b.memory (r.blocks quick) sound store.slots in
      each-after a.memory b.memory c.memory k (mount-cut-keeps b.memory c.memory (cut refl sound) (healthy refl sound) k.store.slots);
}
renew-fails (Err errors.Slow) a b c r cut healthy size f = record {
  slows = elim f.fails.0 as (λ _. a.slows < c.slows) [ inl came ↦ (let e = r.slows in omega (arith, came, e)) | inr slow ↦ (let e = r.ready.1 in let g = slow.0 in absurd (cc (e, g))) ];
  cuts = f.fails.1 ∙ r.cuts;
  powered = f.fails.2 ∙ r.ready.0;
  size = size ∙ r.size;
}

pub left-keeps : (m m' : List ℕ) → (m' ≡ m) ⊎ steps.KeepsBlocks m m' → IsStore m → KeepsEach m m'
left-keeps m m' h store = elim h as (λ _. KeepsEach m m') [
  | inl e ↦ subst (λ z. KeepsEach m z) (sym e) (blocks-keep m m (record { chip = record { same_length = refl; superblock = λ k low. refl }; each = λ b low high. refl }) store.journals store.slots)
  | inr s ↦ blocks-keep m m' s.blocks s.healthy store.slots
]

pub restore-cut : (a b : NorState) → RestoreCut a b → RenewCut a b
restore-cut a b r = record {
  cuts = r.cuts;
  slows = r.slows;
  powered = r.powered;
  size = r.size;
  quick = r.quick;
  keeps = λ quick store. left-keeps a.memory b.memory (r.leaves quick) store;
}

pub restore-corrupt : (a b : NorState) → RestoreCorrupt a b → RenewCorrupt a b
restore-corrupt a b r = record {
  cuts = r.cuts;
  slows = r.slows;
  powered = r.powered;
  size = r.size;
  still = λ store. r.still store.journals;
  corrupt = λ quick store. r.corrupt quick store.journals;
}

-- What stands.
pub served-none : (o : Option NorError) (table : List LiveSlots) (s : NorState) (indexed : Bool) → o ≡ None → KnownWhile o table s indexed → IsServing table s indexed
served-none None table s indexed e h = h
served-none (Some errors.Cut) table s indexed e h = absurd (cc e)
served-none (Some errors.Slow) table s indexed e h = absurd (cc e)

-- the store of a map that nothing is latched in
pub known-store : (o : Option NorError) (table : List LiveSlots) (a : NorState) (i : Bool) → o ≡ None → KnownWhile o table a i → IsStore a.memory
known-store o table a i e h = (served-none o table a i e h).store

pub known-same : (o : Option NorError) (table : List LiveSlots) (a : NorState) (i : Bool) (m' : List ℕ) → o ≡ None → KnownWhile o table a i → m' ≡ a.memory → IsStore m'
known-same o table a i m' e h same = subst (λ z. IsStore z) (sym same) (known-store o table a i e h)

pub known-keeps : (o : Option NorError) (table : List LiveSlots) (a : NorState) (i : Bool) (m' : List ℕ) → o ≡ None → KnownWhile o table a i → m' ≡ a.memory → KeepsMap a.memory m'
known-keeps o table a i m' e h same = subst (λ z. KeepsMap a.memory z) (sym same) (keeps-none a.memory (known-store o table a i e h))

pub behind-store : (o : Option NorError) (table : List LiveSlots) (a b : NorState) (i : Bool) → KnownWhile o table a i → is_slow_in o ≡ false → b.memory ≡ a.memory → IsStore b.memory
behind-store None table a b i h quick same = known-same None table a i b.memory refl h same
behind-store (Some errors.Cut) table a b i h quick same = subst (λ z. IsStore z) (sym same) h.store
behind-store (Some errors.Slow) table a b i h quick same = absurd (let q : true ≡ false = quick in cc)

-- What is known after a call: its table is that of what it left;
pub known-served : (o : Option NorError) (table : List LiveSlots) (a : NorState) (i : Bool) → o ≡ None → IsServing table a i → KnownWhile o table a i
known-served None table a i e h = h
known-served (Some error) table a i e h = absurd (cc e)

pub known-after : (o : Option NorError) (table now : List LiveSlots) (a b : NorState) (i j : Bool) (items : List LiveSlots) → items ≡ now → o ≡ None → IsServing now b j → KnownWhile o items b j
known-after o table now a b i j items same e served = subst (λ z. KnownWhile o z b j) (sym same) (known-served o now b j e served)

-- or it is latched
pub known-latched : (o : Option NorError) (error : NorError) (table items : List LiveSlots) (a b : NorState) (i j : Bool) → o ≡ None → KnownWhile o table a i → RefusesFirmly error a b → (error ≡ errors.Cut → IsStore b.memory) → KnownWhile (Some error) items b j
known-latched o errors.Cut table items a b i j e h f store = record { off = f.fails.2; quick = f.fails.3 ∙ (served-none o table a i e h).ready.1; store = store refl }
known-latched o errors.Slow table items a b i j e h f store = tt

-- what is latched is answered, and nothing is done
pub latched-refuses : (o : Option NorError) (error : NorError) (table : List LiveSlots) (a : NorState) (i : Bool) → o ≡ Some error → KnownWhile o table a i → RefusesFirmly error (shown_with o a) (shown_with o a)
latched-refuses None error table a i e h = absurd (cc e)
latched-refuses (Some errors.Cut) errors.Cut table a i e h =
    let b = bits_in a in
    record { fails = (inr (h.off, refl), refl, h.off, refl, refl, interrupted-none b b (firmer-none b)); first = (refl, λ off. refl); journals = λ is. same-loses (shown_with (Some errors.Cut) a) (shown_with (Some errors.Cut) a) refl refl }
latched-refuses (Some errors.Cut) errors.Slow table a i e h = absurd (cc e)
latched-refuses (Some errors.Slow) errors.Cut table a i e h = absurd (cc e)
latched-refuses (Some errors.Slow) errors.Slow table a i e h = record { fails = (inr (refl, refl), refl, refl, refl, refl, firmer-none (bits_in a)); first = (λ quick. absurd (let q : true ≡ false = quick in cc), λ slow. refl); journals = λ is. absurd (cc is) }

-- what a map shows of a call that its store refused
pub shown-refuses : (o : Option NorError) (error : NorError) (table : List LiveSlots) (a b : NorState) (i : Bool) → o ≡ None → KnownWhile o table a i → RefusesFirmly error a b → RefusesFirmly error (shown_with o a) (shown_with (Some error) b)
shown-refuses o errors.Cut table a b i e h r =
    let ready = (served-none o table a i e h).ready in
    record { fails = (r.fails.0, r.fails.1, r.fails.2, sym (ap is_slow_in e), r.fails.4, r.fails.5); first = first-ready errors.Cut (shown_with o a) (shown_with (Some errors.Cut) b) (ready.0, ap is_slow_in e); journals = r.journals }
shown-refuses o errors.Slow table a b i e h r =
    let ready = (served-none o table a i e h).ready in
    record {
      fails = (
        elim r.fails.0 as (λ _. (a.slows < b.slows) ⊎ ((is_slow_in o ≡ true) × (b.slows ≡ a.slows))) [ inl came ↦ inl came | inr slow ↦ absurd (cc (ready.1, slow.0)) ],
        r.fails.1,
        r.fails.2,
        refl,
        r.fails.4,
        r.fails.5,
      );
      first = first-ready errors.Slow (shown_with o a) (shown_with (Some errors.Slow) b) (ready.0, ap is_slow_in e);
      journals = λ is. absurd (cc is);
    }

pub leaves-store : (g : ℕ) (x m m' : List ℕ) → SetLeaves g x m m' → IsStore m'
leaves-store g x m m' (inl k) = k.store
leaves-store g x m m' (inr s) = s.store

pub cut-store : (o : Option NorError) (error : NorError) (table : List LiveSlots) (s : NorState) (indexed : Bool) → o ≡ Some error → error ≡ errors.Cut → KnownWhile o table s indexed → IsStore s.memory
cut-store None error table s indexed e c h = absurd (cc e)
cut-store (Some errors.Cut) error table s indexed e c h = h.store
cut-store (Some errors.Slow) error table s indexed e c h = absurd (cc (e, c))

-- the slot that the table names
pub held-in : (table read : List LiveSlots) (m : List ℕ) (g : ℕ) (o : Option Held) → read ≡ table → o ≡ holder (slice_index_or read g Absent) → IsTableOf table m → g < sector_count (length m) → HeldBy o g m
held-in table read m g o same e t low =
    let within : g < length table = subst (λ n. g < n) (sym t.size) low in
    subst (λ q. HeldBy q g m) (sym (e ∙ ap (λ z. holder (slice_index_or z g Absent)) same)) (table-holder table m g t within)
