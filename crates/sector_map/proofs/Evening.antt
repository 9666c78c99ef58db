-- A block that was renewed, and a round in which all that lag behind are.
use Rattle.std.proofs.Common.{◌≡◌, ◌≢◌, ◌⊎◌, ℕ, ◌+◌, ◌-◌, ◌<◌, ◌≤◌, Bool, true, false, List, length, refl, sym, ap, ◌∙◌, subst, arith, inl, inr}
use Rattle.std.specs.Prelude.{Option, Some, None, min, ◌/◌, IsTrue, IsFalse, Result, Ok, Err, OnOk}
use Rattle.nor_driver.specs.declared.error.NorError.{NorError}
use Rattle.std.proofs.lemmas.Bool.{cases_eq}
use Rattle.chip_model.specs.Geometry.{block_count, sector_count}
use Rattle.nor_driver.specs.State.{NorState}
use Rattle.nor_driver.proofs.CallLaws.{kept-none as same-kept, ready-after}
use Rattle.nor_layout.specs.declared.header.Generation.{Generation}
use Rattle.erase_journal.specs.Steps.{SucceedsSettled}
use Rattle.erase_journal.proofs.SettledLaws.{settled-healthy, settled-after}
use Rattle.sector_slots.specs.Slots.{slot_at, slot_count, data_blocks, is_group}
use Rattle.sector_slots.specs.Blocks.{AreSettled}
use Rattle.sector_slots.specs.Sectors.{LiveAt, IsSingle, IsSoundMap, sector_at}
use Rattle.sector_slots.proofs.BlankLaws.{holds-sound, sound-holds}
use Rattle.sector_stock.specs.declared.given.Copied.{Copied}
use Rattle.sector_stock.specs.Index.{AreWithin, erases_of}
use Rattle.sector_stock.specs.declared.index.BlockState.{BlockState}
use Rattle.sector_stock.proofs.Even.{even-kept}
use Rattle.sector_slots.specs.Copying.{HoldsNothing, SameLive}
use Rattle.sector_slots.proofs.MoveLaws.{same-back}
use Rattle.sector_map.specs.Replace.{IsInSlots}
use Rattle.sector_stock.specs.Takes.{Renews, erases, moves, converts_group, ErasesSpare, IsErasedOnce, IsLeastErased, KeepsErases, MakesFirm, work_of}
use Rattle.sector_stock.specs.declared.policy.Policy.{Policy}
use Rattle.sector_map.specs.Maps.{IsServing, KeptServing, Nearer, IsEven}
use Rattle.sector_map.specs.declared.table.LiveSlots.{LiveSlots}
use Rattle.sector_map.proofs.MapCalls.{Moved, Steps, moves-steps, converts-steps, moved-keeps, kept-none, kept-after}
use Rattle.sector_map.proofs.Mounting.{live-tabled}
use Rattle.sector_map.proofs.Retiring.{single-tabled}

-- what a renewal did: it copied a block, or erased a wholly free one
some-steps : (s : ℕ) (c : Copied) (m b : List ℕ) → Renews s (Some c) m b → AreSettled m → IsSoundMap m → Steps c m b
some-steps s c m b (erases none h) blocks sound = absurd (let e : Some c ≡ None = none in cc)
some-steps s c m b (moves d is to h) blocks sound = let e : c ≡ d = cc in subst (λ k. Steps k m b) (sym e) (moves-steps d m b h)
some-steps s c m b (converts_group d is to h) blocks sound = let e : c ≡ d = cc in subst (λ k. Steps k m b) (sym e) (converts-steps d m b h blocks sound)

pub renews-steps : (s : ℕ) (c : Copied) (o : Option Copied) (m b : List ℕ) → o ≡ Some c → Renews s o m b → AreSettled m → IsSoundMap m → Steps c m b
renews-steps s c o m b is h blocks sound = some-steps s c m b (subst (λ a. Renews s a m b) is h) blocks sound

none-spare : (s : ℕ) (m b : List ℕ) → Renews s None m b → ErasesSpare s m b
none-spare s m b (erases none h) = h
none-spare s m b (moves d is to h) = absurd (let e : None ≡ Some d = is in cc)
none-spare s m b (converts_group d is to h) = absurd (let e : None ≡ Some d = is in cc)

pub renews-spare : (s : ℕ) (o : Option Copied) (m b : List ℕ) → o ≡ None → Renews s o m b → ErasesSpare s m b
renews-spare s o m b is h = none-spare s m b (subst (λ a. Renews s a m b) is h)

-- a live slot was one
live-before : (s w g : ℕ) (k : Generation) (x m b : List ℕ) → ErasesSpare s m b → LiveAt (slot_at b) (slot_count b) w g k x → LiveAt (slot_at m) (slot_count m) w g k x
live-before s w g k x m b h l =
    let n : data_blocks b ≡ data_blocks m = ap (λ c. block_count c - 4) h.chip.same_length in
    let inside = l.number in
    let low : w < slot_count m = omega (arith, inside, n) in
    record { number = low; is = sym (h.slots w low) ∙ l.is }

spare-moved : (s : ℕ) (m b : List ℕ) → ErasesSpare s m b → IsSoundMap m → IsSingle m → Moved m b
spare-moved s m b h sound single =
    let n : data_blocks b ≡ data_blocks m = ap (λ c. block_count c - 4) h.chip.same_length in
    record {
      chip = h.chip;
      sound = holds-sound b (sector_at m) (h.sectors (sector_at m) (sound-holds m sound));
      single = record { one = λ w v g j k x y l r. single.one w v g j k x y (live-before s w g j x m b h l) (live-before s v g k y m b h r) };
      blocks = h.blocks;
      alone = λ a c inside. let low : c < data_blocks m = omega (arith, inside, n) in ap is_group (h.kinds c low) ∙ a c low;
      own = λ g o w k x l.
          let was = live-before s w g k x m b h l in
          let inside = was.number in
          ap is_group (h.kinds (w / 7) (omega (arith, inside))) ∙ o w k x was;
      sectors = λ c. h.sectors;
      clean = h.clean;
    }

pub spare-kept : (s : ℕ) (a b : NorState) (table : List LiveSlots) (i j : Bool) → IsServing table a i → ErasesSpare s a.memory b.memory → SucceedsSettled a b → j ≡ true → KeptServing table a b j
spare-kept s a b table i j served h done is =
    let moved = spare-moved s a.memory b.memory h served.store.slots (single-tabled table a.memory served.tabled) in
    let keeps = moved-keeps a.memory b.memory moved (settled-healthy b.memory done.settled) served.store.slots in
    record {
      keeps = keeps;
      served = record {
        ready = ready-after a b done.kept served.ready;
        settled = done.settled;
        store = keeps.store;
        blocks = moved.blocks;
        tabled = record {
          size = served.tabled.size ∙ ap (λ c. sector_count c) (sym h.chip.same_length);
          tabled = live-tabled table a.memory b.memory h.chip.same_length (λ w low. inl (h.slots w low)) served.tabled.tabled;
          single = served.tabled.single;
        };
        index = is;
      };
    }

-- A free slot was made firm: no sector moved.
firm-live : (m b : List ℕ) → MakesFirm m b → SameLive (slot_at m) (slot_at b) (slot_count m)
firm-live m b h s low = elim (h.slots s low) [ inl e ↦ inl e | inr d ↦ inr (subst (λ q. HoldsNothing q) (sym d.0) tt, subst (λ q. HoldsNothing q) (sym d.1) tt) ]

firm-before : (w g : ℕ) (k : Generation) (x m b : List ℕ) → MakesFirm m b → LiveAt (slot_at b) (slot_count b) w g k x → LiveAt (slot_at m) (slot_count m) w g k x
firm-before w g k x m b h l =
    let n : data_blocks b ≡ data_blocks m = ap (λ c. block_count c - 4) h.keeps.chip.same_length in
    let inside = l.number in
    let low : w < slot_count m = omega (arith, inside, n) in
    same-back (slot_at m) (slot_at b) (slot_count m) (firm-live m b h) w g k x (record { number = low; is = l.is })

pub firm-own : (m b : List ℕ) → MakesFirm m b → (g : ℕ) → IsInSlots g m → IsInSlots g b
firm-own m b h g o w k x l =
    let was = firm-before w g k x m b h l in
    let inside = was.number in
    ap is_group (h.kinds (w / 7) (omega (arith, inside))) ∙ o w k x was

firm-moved : (m b : List ℕ) → MakesFirm m b → IsSoundMap m → IsSingle m → Moved m b
firm-moved m b h sound single = record {
  chip = h.keeps.chip;
  sound = holds-sound b (sector_at m) (h.keeps.sectors (sector_at m) (sound-holds m sound));
  single = record { one = λ w v g j k x y l r. single.one w v g j k x y (firm-before w g j x m b h l) (firm-before v g k y m b h r) };
  blocks = h.blocks;
  alone = h.keeps.alone;
  own = firm-own m b h;
  sectors = λ c. h.keeps.sectors;
  clean = h.keeps.clean;
}

pub firm-kept : (a b : NorState) (table : List LiveSlots) (i j : Bool) → IsServing table a i → MakesFirm a.memory b.memory → SucceedsSettled a b → j ≡ true → KeptServing table a b j
firm-kept a b table i j served h done is =
    let moved = firm-moved a.memory b.memory h served.store.slots (single-tabled table a.memory served.tabled) in
    let keeps = moved-keeps a.memory b.memory moved (settled-healthy b.memory done.settled) served.store.slots in
    record {
      keeps = keeps;
      served = record {
        ready = ready-after a b done.kept served.ready;
        settled = done.settled;
        store = keeps.store;
        blocks = moved.blocks;
        tabled = record {
          size = served.tabled.size ∙ ap (λ c. sector_count c) (sym h.keeps.chip.same_length);
          tabled = live-tabled table a.memory b.memory h.keeps.chip.same_length (firm-live a.memory b.memory h) served.tabled.tabled;
          single = served.tabled.single;
        };
        index = is;
      };
    }

-- no erase was counted
pub firm-even : (k : ℕ) (p q : Policy) (m b : List ℕ) (blocks blocks' : List BlockState) → length b ≡ length m → q ≡ p → KeepsErases (data_blocks m) (erases_of blocks) (erases_of blocks') → IsEven k p (data_blocks m) blocks → IsEven k q (data_blocks b) blocks'
firm-even k p q m b blocks blocks' e same kept even by =
    subst (λ n. AreWithin k (block_count n - 4) (erases_of blocks')) (sym e) (even-kept k (data_blocks m) (erases_of blocks) (erases_of blocks') kept (even (sym same ∙ by)))

-- nothing has happened yet
pub settled-none : (a : NorState) (table : List LiveSlots) (i : Bool) → IsServing table a i → SucceedsSettled a a
settled-none a table i h = record { ready = h.ready; kept = same-kept a; settled = h.settled }

-- what two clauses say of an answer
pub ok-both : {T : Type 0} (r : Result T NorError) (P Q R : Type 0) → (P → Q → R) → OnOk r P → OnOk r Q → OnOk r R
ok-both (Ok v) P Q R f p q = f p q
ok-both (Err e) P Q R f p q = tt

-- of n blocks none was erased less than f times, and one was erased so often
pub record IsFewest (f n : ℕ) (erases : ℕ → ℕ) : Type 0 where
  pub least : (c : ℕ) → c < n → f ≤ erases c
  pub block : ℕ
  pub number : block < n
  pub is : erases block ≡ f

pub fewest-of : (b n : ℕ) (now : ℕ → ℕ) → IsLeastErased b n now → IsFewest (now b) n now
fewest-of b n now h = record { least = h.least; block = b; number = h.number; is = refl }

-- where one block that none was erased less often than is renewed, the counts lie no further apart
pub even-renewed : (k s n m : ℕ) (old new : ℕ → ℕ) → m ≡ n → IsLeastErased s n old → IsErasedOnce n s old new → AreWithin (k + 1) n old → AreWithin (k + 1) m new
even-renewed k s n m old new e h once even c d lc ld =
    let here : new s ≡ min (old s + 1) 65535 = once.here in
    let rises = once.rises in
    let inside : d < n = omega (arith, ld, e) in
    let within : c < n = omega (arith, lc, e) in
    elim (cases_eq d s) as (λ _. new c ≤ new d + (k + 1)) [
      | inl f ↦
          let other : new d ≡ new s = ap new f in
          elim (cases_eq c s) as (λ _. new c ≤ new d + (k + 1)) [
            | inl g ↦ let own : new c ≡ new s = ap new g in omega (arith, own, other)
            | inr ng ↦
                let own = once.others c within ng in
                let p : old c ≤ old s + (k + 1) = subst (λ a. old c ≤ old a + (k + 1)) f (even c d within inside) in
                omega (arith, own, other, p, rises)
          ]
      | inr nf ↦
          let other = once.others d inside nf in
          elim (cases_eq c s) as (λ _. new c ≤ new d + (k + 1)) [
            | inl g ↦ let own : new c ≡ new s = ap new g in let p = h.least d inside in omega (arith, own, other, here, p)
            | inr ng ↦ let own = once.others c within ng in let p = even c d within inside in omega (arith, own, other, p)
          ]
    ]

-- The counts of n blocks in a round, of which the first k were looked at: none is below f, those are above it, and none rose but to f + 1.
pub record Round (f n k : ℕ) (old now : ℕ → ℕ) : Type 0 where
  pub least : (c : ℕ) → c < n → f ≤ now c
  pub passed : (c : ℕ) → c < n → c < k → f < now c
  pub most : (c : ℕ) → c < n → (now c ≤ old c) ⊎ (now c ≤ f + 1)

pub round-none : (f n : ℕ) (old : ℕ → ℕ) → IsFewest f n old → Round f n 0 old old
round-none f n old h = record { least = h.least; passed = λ c low none. absurd (omega (arith, none)); most = λ c low. inl (omega arith) }

pub round-quiet : (f n k : ℕ) (old now : ℕ → ℕ) → now k ≢ f → Round f n k old now → Round f n (k + 1) old now
round-quiet f n k old now other h = record {
  least = h.least;
  passed = λ c low below. elim (cases_eq c k) as (λ _. f < now c) [
    | inl e ↦ (let p = h.least c low in let q : now c ≢ f = subst (λ a. now a ≢ f) (sym e) other in omega (arith, p, q))
    | inr ne ↦ h.passed c low (omega (arith, below, ne))
  ];
  most = h.most;
}

pub round-renewed : (f n k : ℕ) (old now new : ℕ → ℕ) → f < 65535 → now k ≡ f → IsErasedOnce n k now new → Round f n k old now → Round f n (k + 1) old new
round-renewed f n k old now new fits is once h =
    let here : new k ≡ min (now k + 1) 65535 = once.here in
    let more : new k ≡ f + 1 = omega (arith, here, is, fits) in
    record {
      least = λ c low. elim (cases_eq c k) as (λ _. f ≤ new c) [
        | inl e ↦ (let q : new c ≡ new k = ap new e in omega (arith, q, more))
        | inr ne ↦ (let q = once.others c low ne in let p = h.least c low in omega (arith, p, q))
      ];
      passed = λ c low below. elim (cases_eq c k) as (λ _. f < new c) [
        | inl e ↦ (let q : new c ≡ new k = ap new e in omega (arith, q, more))
        | inr ne ↦ (let q = once.others c low ne in let p = h.passed c low (omega (arith, below, ne)) in omega (arith, p, q))
      ];
      most = λ c low. elim (cases_eq c k) as (λ _. (new c ≤ old c) ⊎ (new c ≤ f + 1)) [
        | inl e ↦ (let q : new c ≡ new k = ap new e in inr (omega (arith, q, more)))
        | inr ne ↦ (let q = once.others c low ne in elim (h.most c low) as (λ _. (new c ≤ old c) ⊎ (new c ≤ f + 1)) [ inl p ↦ inl (omega (arith, p, q)) | inr p ↦ inr (omega (arith, p, q)) ])
      ];
    }

pub round-nearer : (f n k : ℕ) (old now : ℕ → ℕ) → n ≤ k → IsFewest f n old → Round f n k old now → Nearer n old now
round-nearer f n k old now all h r j even c d lc ld =
    let low = r.passed d ld (omega (arith, ld, all)) in
    let top = even c h.block lc h.number in
    let own = h.is in
    elim (r.most c lc) as (λ _. now c ≤ now d + j) [ inl p ↦ omega (arith, p, top, own, low) | inr p ↦ omega (arith, p, low) ]

-- counts that lie within j of each other do so within more
pub even-wider : (j k n : ℕ) (now : ℕ → ℕ) → j ≤ k → AreWithin j n now → AreWithin k n now
even-wider j k n now more even c d lc ld = let p = even c d lc ld in omega (arith, p, more)

-- How far a round has come, over a map whose table and stock were these before it.
pub record Renewing (f n k : ℕ) (before table : List LiveSlots) (a b : NorState) (i : Bool) (p q : Policy) (old now : ℕ → ℕ) : Type 0 where
  pub kept : KeptServing table a b i
  pub since : SucceedsSettled a b
  pub policy : q ≡ p
  pub round : Round f n k old now
  pub work : work_of b.memory ≤ work_of a.memory
  pub size : length table ≡ length before

pub renewing-none : (f n : ℕ) (table : List LiveSlots) (a : NorState) (i : Bool) (p : Policy) (old : ℕ → ℕ) → IsServing table a i → IsFewest f n old → Renewing f n 0 table table a a i p p old old
renewing-none f n table a i p old served h = record { kept = kept-none table a i served; since = settled-none a table i served; policy = refl; round = round-none f n old h; work = omega arith; size = refl }

pub renewing-quiet : (f n k : ℕ) (before table : List LiveSlots) (a b : NorState) (i : Bool) (p q : Policy) (old now : ℕ → ℕ) → now k ≢ f → Renewing f n k before table a b i p q old now → Renewing f n (k + 1) before table a b i p q old now
renewing-quiet f n k before table a b i p q old now other h = record { kept = h.kept; since = h.since; policy = h.policy; round = round-quiet f n k old now other h.round; work = h.work; size = h.size }

pub renewing-more : (f n k : ℕ) (before table next : List LiveSlots) (a b c : NorState) (i j : Bool) (p q r : Policy) (old now new : ℕ → ℕ) → f < 65535 → now k ≡ f → IsErasedOnce n k now new → KeptServing next b c j → SucceedsSettled b c → r ≡ q
    → work_of c.memory ≤ work_of b.memory → length next ≡ length table → Renewing f n k before table a b i p q old now → Renewing f n (k + 1) before next a c j p r old new
renewing-more f n k before table next a b c i j p q r old now new fits is once kept done same less size h =
    let work = h.work in
    record { kept = kept-after next table a b c i j h.kept kept; since = settled-after a b c h.since done; policy = same ∙ h.policy; round = round-renewed f n k old now new fits is once h.round; work = omega (arith, work, less); size = size ∙ h.size }

-- the next round
pub within-next : (r n m k : ℕ) (old now new : ℕ → ℕ) → r < 3 → m ≡ n → k ≡ m → ((c : ℕ) → now c ≡ old c) → Nearer m now new → AreWithin (32 - r) n old → AreWithin (32 - (r + 1)) k new
within-next r n m k old now new low e f same nearer even c d lc ld =
    let p = nearer (31 - r) (λ a b la lb. (let q = even a b (omega (arith, la, e)) (omega (arith, lb, e)) in let x = same a in let y = same b in omega (arith, q, x, y, low))) c d (omega (arith, lc, f)) (omega (arith, ld, f)) in
    omega (arith, p, low)

-- a tidying after wear was levelled
pub tidied-less : (more : Bool) (before mid after : ℕ) → 0 < before → mid ≤ before → (IsTrue more → after < mid) → (IsFalse more → mid ≡ 0) → (IsFalse more → after ≡ mid) → after < before
tidied-less true before mid after some low less none same = let p = less refl in omega (arith, p, low)
tidied-less false before mid after some low less none same = let e = none refl in let f = same refl in omega (arith, e, f, some)
