-- Memories whose data blocks read alike: what was read of the one is so of the other.
use Rattle.std.proofs.Common.{◌≡◌, ◌≢◌, ℕ, ◌+◌, ◌-◌, ◌<◌, ◌≤◌, Bool, true, false, List, length, refl, sym, ap, ◌∙◌, subst, arith, inl, inr, Ok, Err}
use Rattle.std.specs.Prelude.{◌/◌, ◌%◌, ◌||◌, Result, IfOk, IsFalse}
use Rattle.std.proofs.lemmas.Bool.{cases_eq}
use Rattle.chip_model.specs.Geometry.{block_count}
use Rattle.nor_driver.specs.declared.error.NorError.{NorError}
use Rattle.nor_layout.specs.declared.kind.Kind.{Kind}
use Rattle.nor_layout.specs.Kinds.{kind_of}
use Rattle.erase_journal.specs.Blocks.{SameBlocks}
use Rattle.sector_slots.specs.Slots.{slot_in, counted, Slot, content_bytes, data_blocks, data_block, kind_at, raw_slot, slot_at, slot_count, IsSpareIn, IsClean}
use Rattle.sector_slots.specs.Blocks.{IsAtRest, IsUncommitted, AreSettled, IsSettledBlocks, HasGroupRoom}
use Rattle.sector_slots.specs.Firm.{KeepsHead, HoldsBegun}
use Rattle.sector_slots.specs.Laws.{IsMarked}
use Rattle.sector_slots.proofs.BlankLaws.{counted-same, same-holds}
use Rattle.sector_slots.proofs.GroupLaws.{room-same}
use Rattle.sector_slots.proofs.StepLaws.{chip-after}
use Rattle.sector_map.specs.Firm.{ReadsAlike, StaysAlike, HasNoneBegun}
use Rattle.sector_map.specs.Found.{FoundIn, FoundBelow, RoomSeen}
use Rattle.sector_map.specs.Table.{IsTabled, Mends, Repairs}
use Rattle.sector_map.specs.declared.found.Found.{Found}
use Rattle.sector_map.specs.declared.found.Found.TheVariants.{AtRest, Void, Committed}
use Rattle.sector_map.specs.declared.table.LiveSlots.{LiveSlots}
use Rattle.sector_map.proofs.Mounting.{live-tabled}
use Rattle.sector_map.proofs.Mending.{mends-after}

-- where each block is as it was
each-alike : (m m' : List ℕ) → length m' ≡ length m → ((d : ℕ) → d < data_blocks m → data_block m' d ≡ data_block m d) → ReadsAlike m m'
each-alike m m' n each = record {
  same_length = n;
  kinds = λ c low. ap kind_of (each c low);
  slots = λ c i low small. ap (λ b. slot_in b i) (each c low);
  contents = λ c i low small. ap (λ b. content_bytes b i) (each c low);
  spare = λ c low s. each c low;
}

marked-alike : (m m' : List ℕ) → IsMarked m m' → ReadsAlike m m'
marked-alike m m' h = each-alike m m' h.same_length h.each

pub blocks-alike : (m m' : List ℕ) → SameBlocks m m' → ReadsAlike m m'
blocks-alike m m' h = each-alike m m' h.chip.same_length (λ d low. h.each (d + 4) (omega arith) (omega (arith, low)))

head-alike : (c : ℕ) (m m' : List ℕ) → KeepsHead c m m' → ReadsAlike m m'
head-alike c m m' h =
    let other : (d : ℕ) → d < data_blocks m → d ≢ c → data_block m' d ≡ data_block m d = λ d low ne. h.only.others (d + 4) (omega arith) (omega (arith, low)) (λ e. ne (omega (arith, e))) in
    record {
      same_length = h.only.chip.same_length;
      kinds = λ d low. elim (cases_eq d c) as (λ _. kind_at m' d ≡ kind_at m d) [ inl e ↦ subst (λ z. kind_at m' z ≡ kind_at m z) (sym e) h.kind | inr ne ↦ ap kind_of (other d low ne) ];
      slots = λ d i low small. elim (cases_eq d c) as (λ _. raw_slot m' d i ≡ raw_slot m d i) [ inl e ↦ subst (λ z. raw_slot m' z i ≡ raw_slot m z i) (sym e) (h.slots i small) | inr ne ↦ ap (λ b. slot_in b i) (other d low ne) ];
      contents = λ d i low small. elim (cases_eq d c) as (λ _. content_bytes (data_block m' d) i ≡ content_bytes (data_block m d) i) [
        | inl e ↦ subst (λ z. content_bytes (data_block m' z) i ≡ content_bytes (data_block m z) i) (sym e) (h.contents i small)
        | inr ne ↦ ap (λ b. content_bytes b i) (other d low ne)
      ];
      spare = λ d low s. elim (cases_eq d c) as (λ _. data_block m' d ≡ data_block m d) [
        | inl e ↦ subst (λ z. data_block m' z ≡ data_block m z) (sym e) (h.spare (subst (λ z. IsSpareIn m z) e s))
        | inr ne ↦ other d low ne
      ];
    }

-- one after another
alike-spare : (a b : List ℕ) (d : ℕ) → ReadsAlike a b → d < data_blocks a → IsSpareIn a d → IsSpareIn b d
alike-spare a b d p low s = record { plain = p.kinds d low ∙ s.plain; free = λ i small. p.slots d i low small ∙ s.free i small }

alike-after : (a b c : List ℕ) → ReadsAlike a b → ReadsAlike b c → ReadsAlike a c
alike-after a b c p q =
    let n = p.same_length in
    record {
      same_length = q.same_length ∙ n;
      kinds = λ d low. q.kinds d (omega (arith, low, n)) ∙ p.kinds d low;
      slots = λ d i low small. q.slots d i (omega (arith, low, n)) small ∙ p.slots d i low small;
      contents = λ d i low small. q.contents d i (omega (arith, low, n)) small ∙ p.contents d i low small;
      spare = λ d low s. q.spare d (omega (arith, low, n)) (alike-spare a b d p low s) ∙ p.spare d low s;
    }

-- What was read of the blocks stands.
abbrev slots_sized : List ℕ → ℕ → ℕ → Slot
slots_sized m' n = counted (kind_at m') (raw_slot m') (block_count n - 4)

pub alike-slot : (m m' : List ℕ) → ReadsAlike m m' → (s : ℕ) → s < slot_count m → slot_at m' s ≡ slot_at m s
alike-slot m m' h s low = ap (λ n. slots_sized m' n s) h.same_length ∙ counted-same (kind_at m) (kind_at m') (raw_slot m) (raw_slot m') (data_blocks m) s h.kinds h.slots low

pub alike-tabled : (table : List LiveSlots) (m m' : List ℕ) → ReadsAlike m m' → IsTabled table (slot_at m) (slot_count m) → IsTabled table (slot_at m') (slot_count m')
alike-tabled table m m' h t = live-tabled table m m' h.same_length (λ s low. inl (alike-slot m m' h s low)) t

found-same : (found : Found) (kind kind' : ℕ → Kind) (n : ℕ) → ((d : ℕ) → d < n → kind' d ≡ kind d) → FoundBelow found kind n n → FoundBelow found kind' n n
found-same AtRest kind kind' n same h = record { rest = λ d low. subst (λ z. IsAtRest z) (sym (same d low)) (h.rest d low) }
found-same (Void t) kind kind' n same h = record {
  number = h.number;
  void = same t h.number ∙ h.void;
  others = λ d low. subst (λ z. IsUncommitted z) (sym (same d low)) (h.others d low);
}
found-same (Committed s t) kind kind' n same h = record {
  number = h.number;
  committed = same t h.number ∙ h.committed;
  source = h.source;
  other = h.other;
  others = λ d low ne. subst (λ z. IsUncommitted z) (sym (same d low)) (h.others d low ne);
}

pub alike-found : (found : Found) (m m' : List ℕ) → ReadsAlike m m' → FoundIn found m → FoundIn found m'
alike-found found m m' h f = subst (λ n. FoundBelow found (kind_at m') (block_count n - 4) (block_count n - 4)) (sym h.same_length) (found-same found (kind_at m) (kind_at m') (data_blocks m) h.kinds f)

pub settled-same : (m m' : List ℕ) → ReadsAlike m m' → AreSettled m → IsSettledBlocks (kind_at m') (raw_slot m') (data_blocks m)
settled-same m m' h s = record {
  rest = λ d low. subst (λ z. IsAtRest z) (sym (h.kinds d low)) (s.rest d low);
  reserve = s.reserve;
  number = s.number;
  spare = alike-spare m m' s.reserve h s.number s.spare;
}

pub alike-room : (found : Found) (spare : Bool) (m m' : List ℕ) → ReadsAlike m m' → RoomSeen found spare m → RoomSeen found spare m'
alike-room AtRest true m m' h r = subst (λ n. IsSettledBlocks (kind_at m') (raw_slot m') (block_count n - 4)) (sym h.same_length) (settled-same m m' h r)
alike-room AtRest false m m' h r = subst (λ n. HasGroupRoom (kind_at m') (block_count n - 4)) (sym h.same_length) (room-same (kind_at m) (kind_at m') (data_blocks m) h.kinds r)
alike-room (Void t) spare m m' h r = tt
alike-room (Committed s t) spare m m' h r = tt

alike-clean : (m m' : List ℕ) → ReadsAlike m m' → IsClean m → IsClean m'
alike-clean m m' h clean =
    let n = h.same_length in
    record {
      slots = λ s high free.
          let low : s < slot_count m = omega (arith, high, n) in
          h.contents (s / 7) (s % 7) (omega (arith, low)) (omega arith) ∙ clean.slots s low (sym (alike-slot m m' h s low) ∙ free);
      spare = λ d high s.
          let low : d < data_blocks m = omega (arith, high, n) in
          let was : IsSpareIn m d = record { plain = sym (h.kinds d low) ∙ s.plain; free = λ i small. sym (h.slots d i low small) ∙ s.free i small } in
          h.spare d low was ∙ clean.spare d low was;
    }

-- What was programmed again, one after another.
pub firm-none : (m : List ℕ) → StaysAlike m m
firm-none m = record { chip = record { same_length = refl; superblock = λ k low. refl }; blocks = each-alike m m refl (λ d low. refl) }

pub firm-after : (a b c : List ℕ) → StaysAlike a b → StaysAlike b c → StaysAlike a c
firm-after a b c p q = record { chip = chip-after a b c p.chip q.chip; blocks = alike-after a b c p.blocks q.blocks }

pub firm-journals : (m m' : List ℕ) → SameBlocks m m' → StaysAlike m m'
firm-journals m m' h = record { chip = h.chip; blocks = blocks-alike m m' h }

pub firm-head : (c : ℕ) (a b d : List ℕ) → StaysAlike a b → KeepsHead c b d → StaysAlike a d
firm-head c a b d p h = firm-after a b d p (record { chip = h.only.chip; blocks = head-alike c b d h })

pub firm-mends : (m m' : List ℕ) → StaysAlike m m' → Mends m m'
firm-mends m m' h = record {
  chip = h.chip;
  sectors = λ sectors holds. same-holds m m' sectors h.chip h.blocks.kinds h.blocks.slots holds;
  clean = alike-clean m m' h.blocks;
}

-- in a mount they come after the mark
pub marked-firm : (a b c : List ℕ) → IsMarked a b → StaysAlike b c → ReadsAlike a c
marked-firm a b c h f = alike-after a b c (marked-alike a b h) f.blocks

pub firm-repairs : (table : List LiveSlots) (a b c : List ℕ) → StaysAlike a b → Repairs b table c → Repairs a table c
firm-repairs table a b c h r = record { mends = mends-after a b c (firm-mends a b h) r.mends; tabled = r.tabled; blocks = r.blocks }

-- Of the first k blocks none has a begun slot, unless one was seen; the later ones are as they were.
abbrev pub NoneBegun : Bool → ℕ → List ℕ → Type 0
NoneBegun begun k m = begun ≡ false → (c : ℕ) → c < k → HoldsBegun (data_block m c) → ⊥

abbrev pub LaterKept : ℕ → List ℕ → List ℕ → Type 0
LaterKept k m b = (c : ℕ) → c < data_blocks m → k ≤ c → data_block b c ≡ data_block m c

pub later-none : (m : List ℕ) → LaterKept 0 m m
later-none m c low high = refl

pub begun-none : (begun : Bool) (m : List ℕ) → NoneBegun begun 0 m
begun-none begun m e c low h = omega (arith, low)

pub later-head : (k : ℕ) (m b d : List ℕ) → length b ≡ length m → LaterKept k m b → KeepsHead k b d → LaterKept (k + 1) m d
later-head k m b d n later h c low high = h.only.others (c + 4) (omega arith) (omega (arith, low, n)) (λ e. omega (arith, e, high)) ∙ later c low (omega (arith, high))

none-both : (a b : Bool) → (a || b) ≡ false → (a ≡ false) × (b ≡ false)
none-both true b e = (let q : true ≡ false = e in absurd cc)
none-both false b e = (refl, e)

pub begun-more : (before here now : Bool) (k : ℕ) (m b : List ℕ) → k < data_blocks m → now ≡ (before || here) → NoneBegun before k m → LaterKept k m b → (here ≡ false → HoldsBegun (data_block b k) → ⊥) → NoneBegun now (k + 1) m
begun-more before here now k m b inside is none later not_here e c low h =
    let p = none-both before here (sym is ∙ e) in
    elim (cases_eq c k) [
      | inl q ↦ not_here p.1 (subst (λ z. HoldsBegun z) (sym (later k inside (omega arith))) (subst (λ z. HoldsBegun (data_block m z)) q h))
      | inr ne ↦ none p.0 c (omega (arith, low, ne)) h
    ]

pub begun-all : (begun : Bool) (k : ℕ) (m : List ℕ) → k ≡ data_blocks m → NoneBegun begun k m → begun ≡ false → HasNoneBegun m
begun-all begun k m n none e c low h = none e c (omega (arith, low, n)) h

pub begun-before : (m m' : List ℕ) → SameBlocks m m' → HasNoneBegun m' → HasNoneBegun m
begun-before m m' same none c low h =
    let n = same.chip.same_length in
    none c (omega (arith, low, n)) (subst (λ z. HoldsBegun z) (sym (same.each (c + 4) (omega arith) (omega (arith, low)))) h)

pub begun-answer : (r : Result Bool NorError) (m m' : List ℕ) → SameBlocks m m' → IfOk r (λ b. IsFalse b → HasNoneBegun m') → IfOk r (λ b. IsFalse b → HasNoneBegun m)
begun-answer (Ok b) m m' same h = λ e. begun-before m m' same (h e)
begun-answer (Err e) m m' same h = tt
