-- A data block as it reads at the next power-on: what reads as free of it is erased, where it was before the call that a loss of power interrupted.
use Rattle.std.proofs.Common.{◌≡◌, ◌≢◌, ℕ, ◌+◌, ◌*◌, ◌<◌, ◌≤◌, ◌⊎◌, Bool, true, false, List, length, refl, sym, ap, ◌∙◌, subst, arith, inl, inr}
use Rattle.std.specs.Prelude.{◌/◌, ◌%◌, ◌==◌}
use Rattle.std.proofs.lemmas.Bool.{cases_eq, ne_eqb, true≢false}
use Rattle.chip_model.specs.Memory.{byte}
use Rattle.chip_model.specs.Wavering.{Bits, Drawn}
use Rattle.nor_layout.specs.declared.kind.Kind.{Kind}
use Rattle.nor_layout.specs.declared.kind.Kind.TheVariants as kinds
use Rattle.erase_journal.specs.Blocks.{blank, is_opened}
use Rattle.erase_journal.specs.Torn.{SameBlock}
use Rattle.erase_journal.specs.Weak.{AreFirm}
use Rattle.erase_journal.proofs.BlockLaws.{byte-blank}
use Rattle.erase_journal.proofs.Counts.{how_many-find}
use Rattle.erase_journal.proofs.Draws.{firm-byte}
use Rattle.sector_slots.specs.Slots.{Free, blank_sector, content_bytes, copies, data_block, data_blocks, is_copy_of, is_void, kind_at, raw_slot, IsClean, IsSpareIn}
use Rattle.sector_slots.specs.Sectors.{zeros}
use Rattle.sector_slots.specs.Blocks.{AreAtRest, IsTarget}
use Rattle.sector_slots.specs.Losses.{IsFirmDisk}
use Rattle.sector_slots.specs.Weak.{IsSureBlock, IsSureSlot, block_place, dead, fading, firm, sector_place}
use Rattle.sector_slots.proofs.BlankLaws.{blank-content}
use Rattle.sector_slots.proofs.ChipRooms.{either-opened, firm-kind, same-blocks, still-left, still-read}
use Rattle.sector_slots.proofs.ChipSectors.{opened-blank}
use Rattle.sector_slots.proofs.CopyLaws.{at-rest-copies, committed-copies, copies-none, counted-source, counted-void, source-copies}
use Rattle.sector_slots.proofs.FirmLaws.{slot_number}
use Rattle.sector_slots.proofs.HalfBlocks.{IsAnyPlace, IsBesideSlot, IsBlockRead, beside-any, dead-reads, drawn-group, torn-free}
use Rattle.sector_slots.proofs.HeadLaws.{committed-plain, void-plain}
use Rattle.sector_slots.proofs.LeftLaws.{AreBesideEdges, IsLeft, left-byte, left-torn, not-free-live, taken-mark, with_loss}
use Rattle.sector_slots.proofs.SlotLaws.{counted-raw}
use Rattle.sector_slots.proofs.UnopenedLaws.{AreOpenedErasable}
use Rattle.journal_slots.proofs.Places as places
use Rattle.firm_chip.specs.FirmChips.{AreFirmly, IsOfSlots, content_place, data_place}
use Rattle.firm_chip.proofs.Heads.{spare-blank}
use Rattle.firm_chip.proofs.Slots.{IsThere, erased-content}
use Rattle.firm_chip.proofs.Spans.{byte-there}
use Rattle.firm_chip.proofs.Stores.{free-clean, not-void}

-- Of a block that counts the data of each free slot is erased, and the whole block where it is wholly free.
pub record IsCleanBlock (v : List ℕ) (e : ℕ) : Type 0 where
  pub slots : kind_at v e ≢ kinds.Void → copies (kind_at v) (data_blocks v) e ≡ 0 → (i : ℕ) → i < 7 → raw_slot v e i ≡ Free → content_bytes (data_block v e) i ≡ blank_sector
  pub spare : IsSpareIn v e → data_block v e ≡ blank

pub all-clean : (v : List ℕ) → ((e : ℕ) → e < data_blocks v → IsCleanBlock v e) → IsClean v
all-clean v each = record {
  slots = λ s low free.
      let e = s / 7 in
      (each e (omega (arith, low))).slots
      (λ void. let q : 0 ≡ 4 = ap slot_number (sym free ∙ counted-void (kind_at v) (raw_slot v) (data_blocks v) s (ap is_void void)) in omega (arith, q))
      (elim (cases_eq (copies (kind_at v) (data_blocks v) e) 0) as (λ _. copies (kind_at v) (data_blocks v) e ≡ 0) [
        | inl none ↦ none
        | inr some ↦ absurd (let q : 0 ≡ 4 = ap slot_number (sym free ∙ counted-source (kind_at v) (raw_slot v) (data_blocks v) s some) in omega (arith, q))
      ])
      (s % 7) (omega arith) (counted-raw v s Free free (λ x. let q : 0 ≡ 4 = ap slot_number x in omega (arith, q)));
  spare = λ e low is. (each e low).spare is;
}

-- a block that is erased, and one that is void
pub erased-clean : (v : List ℕ) (e : ℕ) → data_block v e ≡ blank → IsCleanBlock v e
erased-clean v e is = record { slots = λ other none i low free. ap (λ b. content_bytes b i) is ∙ blank-content i low; spare = λ _. is }

pub void-block-clean : (v : List ℕ) (e : ℕ) → kind_at v e ≡ kinds.Void → IsCleanBlock v e
void-block-clean v e is = record { slots = λ other none i low free. absurd (other is); spare = λ s. absurd (void-plain (kind_at v e) is s.plain) }

same-test : (b s : ℕ) → (s == b) ≡ true → s ≡ b
same-test b s e = elim (cases_eq s b) as (λ _. s ≡ b) [ inl is ↦ is | inr other ↦ absurd (true≢false (sym e ∙ ne_eqb s b other)) ]

copy-committed : (b : ℕ) (k : Kind) → is_copy_of b k ≡ true → k ≡ kinds.Committed b
copy-committed b kinds.Plain e = absurd (true≢false (sym e))
copy-committed b kinds.Void e = absurd (true≢false (sym e))
copy-committed b (kinds.Committed source) e = ap (λ s. kinds.Committed s) (same-test b source e)
copy-committed b kinds.Settled e = absurd (true≢false (sym e))
copy-committed b (kinds.Group tag) e = absurd (true≢false (sym e))
copy-committed b kinds.DeadGroup e = absurd (true≢false (sym e))
copy-committed b kinds.SpoiltGroup e = absurd (true≢false (sym e))
copy-committed b kinds.Unknown e = absurd (true≢false (sym e))

-- a block that has a copy
find-copy : (kind : ℕ → Kind) (n c : ℕ) → copies kind n c ≢ 0 → (t : ℕ) × (t < n) × (kind t ≡ kinds.Committed (c + 4))
unfolding copies
find-copy kind n c some = let f = how_many-find (λ d. is_copy_of (c + 4) (kind d)) n (omega (arith, some)) in (f.0, f.1, copy-committed (c + 4) (kind f.0) f.2)

-- The block counted before, or was wholly free.
abbrev pub HasCounted : List ℕ → ℕ → Type 0
HasCounted m e = (copies (kind_at m) (data_blocks m) e ≡ 0) ⊎ IsSpareIn m e

-- each block that counts at the next power-on
abbrev pub HaveCounted : List ℕ → List ℕ → Type 0
HaveCounted m v = (e : ℕ) → e < data_blocks m → copies (kind_at v) (data_blocks v) e ≡ 0 → HasCounted m e

module _ (P : ℕ → Type 0) (a new : Bits) (suspect : ℕ → Bool) (disk : IsFirmDisk a suspect) (e : ℕ) (low : e < data_blocks a.shown) (left : IsLeft P a new e) (beside : AreBesideEdges P) (v : List ℕ) (d : Drawn new.weak new.shown v) (r : IsBlockRead P (with_loss a new) v e) where
  read-there : IsThere v e
  read-there = record {
    number = (let n = d.same_length in let l = left.same_length in omega (arith, low, n, l));
    bytes = r.is_own;
    slots = drawn-group P (with_loss a new) v e r;
  }

  sure : IsSureBlock a (suspect e) e
  sure = disk.store e low

  -- the sector of a slot that was free is firm
  sure-sector : (i : ℕ) → i < 7 → raw_slot a.shown e i ≡ Free → IsSureSlot a e i → AreFirm a.weak (sector_place e i) 512
  sure-sector i li free (firm x y) = y
  sure-sector i li free (dead h) = absurd (let q : 0 ≡ 3 = ap slot_number (sym free ∙ dead-reads a.shown e i h.bit r.was_own r.slots li h.from h.below h.reads) in omega (arith, q))
  sure-sector i li free (fading h) = absurd (not-free-live (raw_slot a.shown e i) h.tag zeros h.live free)

  free-sector : (i : ℕ) → i < 7 → raw_slot a.shown e i ≡ Free → AreFirm a.weak (sector_place e i) 512
  free-sector i li free = elim (sure.slots i li) as (λ _. AreFirm a.weak (sector_place e i) 512) [ inl s ↦ sure-sector i li free s | inr q ↦ q.1.sector ]

  -- A byte that the call left, and that is firm, reads as it did.
  left-reads : (k : ℕ) → k < 4096 → P k → byte a.weak (block_place e + k) ≡ 0 → byte v (block_place e + k) ≡ byte (data_block a.shown e) k
  left-reads k small stays f =
      firm-byte new.shown new.weak v (block_place e + k) d (left-byte P a new e left (block_place e + k) k refl small stays ∙ f)
      ∙ ((left.same k small stays).0 ∙ sym (byte-there a.shown e k (block_place e + k) r.was_own small refl))

  -- a sector that was erased is
  sector-stays : (i : ℕ) → i < 7 → ((j : ℕ) → j < 512 → P (512 * (i + 1) + j)) → raw_slot a.shown e i ≡ Free → content_bytes (data_block a.shown e) i ≡ blank_sector → content_bytes (data_block v e) i ≡ blank_sector
  sector-stays i li stays free was = erased-content v e i read-there li (λ j small.
      let z : block_place e + (512 * (i + 1) + j) ≡ content_place (7 * e + i) + j = omega (arith, li) in
      let w : sector_place e i + j ≡ block_place e + (512 * (i + 1) + j) = omega arith in
      ap (λ p. byte v p) (sym z)
      ∙ (left-reads (512 * (i + 1) + j) (omega (arith, li, small)) (stays j small) (ap (λ p. byte a.weak p) (sym w) ∙ free-sector i li free j small) ∙ places.blank-content (data_block a.shown e) i was j small))

  -- so is the whole block where it was, and reads as wholly free
  blank-edge : (at n : ℕ) → at + n ≤ 4096 → ((k : ℕ) → k < n → P (at + k)) → data_block a.shown e ≡ blank → AreFirm new.weak (block_place e + at) n → AreFirmly new.shown new.weak (block_place e + at) n 255
  blank-edge at n fits stays was f = record {
    firm = f;
    reads = λ k small.
        let inside : at + k < 4096 = omega (arith, fits, small) in
        let z : block_place e + (at + k) ≡ block_place e + at + k = omega arith in
        ap (λ p. byte new.shown p) (sym z)
        ∙ ((left.same (at + k) inside (stays k small)).0 ∙ (sym (byte-there a.shown e (at + k) (block_place e + (at + k)) r.was_own inside refl) ∙ (ap (λ b. byte b (at + k)) was ∙ byte-blank (at + k) inside)));
  }

  blank-start : data_block a.shown e ≡ blank → AreFirmly new.shown new.weak (data_place e) 4 255
  blank-start was = record {
    firm = r.edges.start;
    reads = λ k small.
        let inside : k < 4096 = omega (arith, small) in
        (left.same k inside (beside.start k small)).0 ∙ (sym (byte-there a.shown e k (block_place e + k) r.was_own inside refl) ∙ (ap (λ b. byte b k) was ∙ byte-blank k inside));
  }

  of-slots : data_block a.shown e ≡ blank → IsOfSlots new.shown new.weak e
  of-slots was = record {
    start = blank-start was;
    after_mark = blank-edge 8 8 (omega arith) beside.after_mark was r.edges.after_mark;
    after_descriptors = blank-edge 44 468 (omega arith) beside.after_descriptors was r.edges.after_descriptors;
  }

  -- Each slot that reads as free was, and its sector was left.
  abbrev pub FreeStays : Type 0
  FreeStays = (i : ℕ) → i < 7 → raw_slot v e i ≡ Free → (raw_slot a.shown e i ≡ Free) × ((j : ℕ) → j < 512 → P (512 * (i + 1) + j))

  -- one that was left whole
  pub slot-stays : (i : ℕ) → i < 7 → IsBesideSlot P i → raw_slot v e i ≡ Free → (raw_slot a.shown e i ≡ Free) × ((j : ℕ) → j < 512 → P (512 * (i + 1) + j))
  slot-stays i li s free = (torn-free P (with_loss a new) v e r i li (left-torn P a new e left v (suspect e) i li s sure) free, s.rest.sector)

  was-erased : kind_at a.shown e ≢ kinds.Void → HasCounted a.shown e → (i : ℕ) → i < 7 → raw_slot a.shown e i ≡ Free → content_bytes (data_block a.shown e) i ≡ blank_sector
  was-erased other (inl none) i li free = free-clean a.shown e i disk.clean low li (not-void (kind_at a.shown e) other) none free
  was-erased other (inr is) i li free = ap (λ b. content_bytes b i) (disk.clean.spare e low is) ∙ blank-content i li

  -- the slots of a block whose free slots were erased
  pub erased-stays : FreeStays → ((i : ℕ) → i < 7 → raw_slot a.shown e i ≡ Free → content_bytes (data_block a.shown e) i ≡ blank_sector) → (i : ℕ) → i < 7 → raw_slot v e i ≡ Free → content_bytes (data_block v e) i ≡ blank_sector
  erased-stays each erased i li free = (let was = each i li free in sector-stays i li was.1 was.0 (erased i li was.0))

  -- So a block is clean that counts, or is wholly free, only where it did, or was.
  pub kept-clean : (kind_at v e ≢ kinds.Void → kind_at a.shown e ≢ kinds.Void) → (kind_at v e ≡ kinds.Plain → kind_at a.shown e ≡ kinds.Plain) → (copies (kind_at v) (data_blocks v) e ≡ 0 → HasCounted a.shown e) → FreeStays → IsCleanBlock v e
  kept-clean counts plain counted each = record {
    slots = λ other none. erased-stays each (was-erased (counts other) (counted none));
    spare = λ s.
        let is : IsSpareIn a.shown e = record { plain = plain s.plain; free = λ i li. (each i li (s.free i li)).0 } in
        let was = disk.clean.spare e low is in
        spare-blank new.shown new.weak v e d read-there (of-slots was) (erased-stays each (λ i li free. ap (λ b. content_bytes b i) was ∙ blank-content i li)) s;
  }

  pub same-clean : kind_at v e ≡ kind_at a.shown e → (copies (kind_at v) (data_blocks v) e ≡ 0 → HasCounted a.shown e) → FreeStays → IsCleanBlock v e
  same-clean same counted each = kept-clean (λ other void. other (same ∙ void)) (λ plain. sym same ∙ plain) counted each

  -- one that was wholly free, and whose mark may be torn
  pub spare-clean : IsSpareIn a.shown e → FreeStays → IsCleanBlock v e
  spare-clean is each = kept-clean (λ other void. void-plain (kind_at a.shown e) void is.plain) (λ plain. is.plain) (λ none. inr is) each

any-edges : AreBesideEdges IsAnyPlace
any-edges = record { start = λ k low. tt; after_mark = λ k low. tt; after_descriptors = λ k low. tt }

module _ (a new : Bits) (suspect : ℕ → Bool) (disk : IsFirmDisk a suspect) (size : length new.shown ≡ length a.shown) (v : List ℕ) (d : Drawn new.weak new.shown v) where
  -- a block of which an erase goes on is clean
  pub unless-opened : (e : ℕ) → (is_opened v (e + 4) ≡ false → IsCleanBlock v e) → IsCleanBlock v e
  unless-opened e shut = elim (either-opened (is_opened v (e + 4))) as (λ _. IsCleanBlock v e) [ inl is ↦ erased-clean v e (opened-blank v (e + 4) is) | inr not ↦ shut not ]

  -- so is one in which nothing was changed
  pub untouched-clean : (e : ℕ) → e < data_blocks a.shown → SameBlock (e + 4) a new → (copies (kind_at v) (data_blocks v) e ≡ 0 → HasCounted a.shown e) → IsCleanBlock v e
  untouched-clean e low same counted = unless-opened e (λ shut.
      let left = still-left a new suspect disk size v d e low same shut in
      let r = still-read a new suspect disk size v d e low same shut in
      let each = λ (i : ℕ) (li : i < 7). slot-stays IsAnyPlace a new suspect disk e low left any-edges v d r i li (beside-any i) in
      elim (disk.store e low).mark as (λ _. IsCleanBlock v e) [
        | inl f ↦ same-clean IsAnyPlace a new suspect disk e low left any-edges v d r (firm-kind a new suspect disk size v d e low same shut f) counted each
        | inr q ↦ spare-clean IsAnyPlace a new suspect disk e low left any-edges v d r q.1.spare each
      ])

  -- The chip is clean where each block is, of the old number of them.
  pub each-clean : ((e : ℕ) → e < data_blocks a.shown → IsCleanBlock v e) → IsClean v
  each-clean each = all-clean v (λ e low. each e (subst (λ n. e < n) (same-blocks a new suspect disk size v d) low))

  -- One block was changed.
  pub one-clean : (c : ℕ) → ((e : ℕ) → e ≢ c → SameBlock (e + 4) a new) → HaveCounted a.shown v → IsCleanBlock v c → IsClean v
  one-clean c same counted here = each-clean (λ e low. elim (cases_eq e c) as (λ _. IsCleanBlock v e) [
    | inl is ↦ subst (λ q. IsCleanBlock v q) (sym is) here
    | inr other ↦ untouched-clean e low (same e other) (counted e low)
  ])

  -- A committed copy is one at the next power-on, where it was left and no erase of it goes on.
  copy-stays : AreOpenedErasable a.shown v → (t b : ℕ) → t < data_blocks a.shown → kind_at a.shown t ≡ kinds.Committed b → SameBlock (t + 4) a new → kind_at v t ≡ kind_at a.shown t
  copy-stays erasable t b inside is same = elim (either-opened (is_opened v (t + 4))) as (λ _. kind_at v t ≡ kind_at a.shown t) [
    | inl going ↦ absurd ((erasable t inside going).copy b is)
    | inr shut ↦ firm-kind a new suspect disk size v d t inside same shut (taken-mark a (suspect t) t (λ s. committed-plain (kind_at a.shown t) b is s.plain) (disk.store t inside))
  ]

  -- So each block that counts then did, where each committed copy was left.
  pub copies-stay : AreOpenedErasable a.shown v → ((t b : ℕ) → t < data_blocks a.shown → kind_at a.shown t ≡ kinds.Committed b → SameBlock (t + 4) a new) → HaveCounted a.shown v
  copies-stay erasable same e low none = elim (cases_eq (copies (kind_at a.shown) (data_blocks a.shown) e) 0) as (λ _. HasCounted a.shown e) [
    | inl z ↦ inl z
    | inr some ↦
        let f = find-copy (kind_at a.shown) (data_blocks a.shown) e some in
        let stays = copy-stays erasable f.0 (e + 4) f.1 f.2 (same f.0 (e + 4) f.1 f.2) in
        absurd (source-copies e f.0 (data_blocks v) (kind_at v) (subst (λ n. f.0 < n) (sym (same-blocks a new suspect disk size v d)) f.1) (stays ∙ f.2) none)
  ]

-- while nothing is copied, or before the commit, no block has a copy
pub rest-counted : (m v : List ℕ) → AreAtRest (kind_at m) (data_blocks m) → HaveCounted m v
rest-counted m v rest e low none = inl (copies-none (kind_at m) (data_blocks m) e (λ c inside. at-rest-copies (e + 4) (kind_at m c) (rest c inside)))

pub void-counted : (m v : List ℕ) (t : ℕ) → IsTarget t (data_blocks m) (kind_at m) → kind_at m t ≡ kinds.Void → HaveCounted m v
void-counted m v t target is e low none = inl (copies-none (kind_at m) (data_blocks m) e (λ c inside. elim (cases_eq c t) as (λ _. is_copy_of (e + 4) (kind_at m c) ≡ false) [
  | inl at ↦ ap (λ q. is_copy_of (e + 4) (kind_at m q)) at ∙ ap (λ k. is_copy_of (e + 4) k) is
  | inr other ↦ at-rest-copies (e + 4) (kind_at m c) (target.others c inside other)
]))

-- of a committed copy whose source is wholly free
pub source-counted : (m v : List ℕ) (s t : ℕ) → IsTarget t (data_blocks m) (kind_at m) → kind_at m t ≡ kinds.Committed (s + 4) → IsSpareIn m s → HaveCounted m v
source-counted m v s t target is free e low none = elim (cases_eq e s) as (λ _. HasCounted m e) [
  | inl at ↦ inr (subst (λ q. IsSpareIn m q) (sym at) free)
  | inr other ↦ inl (committed-copies s t (data_blocks m) (kind_at m) e target is other)
]
