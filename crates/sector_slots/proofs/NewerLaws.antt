-- A slot was retired of which a newer one holds the sector: cut, the newer one holds it at each draw.
use Rattle.std.proofs.Common.{◌≡◌, ◌≢◌, ℕ, ◌+◌, ◌-◌, ◌*◌, ◌<◌, ◌⊎◌, Bool, false, List, [], ◌∷◌, sym, ap, ◌∙◌, subst, arith, inl, inr}
use Rattle.std.specs.Prelude.{◌/◌, ◌%◌}
use Rattle.chip_model.specs.Geometry.{block_count}
use Rattle.chip_model.specs.Wavering.{Bits, Drawn}
use Rattle.nor_layout.specs.declared.header.Tag.{Tag}
use Rattle.nor_layout.specs.Headers.{next_generation}
use Rattle.erase_journal.specs.Blocks.{is_opened}
use Rattle.erase_journal.specs.Journals.{IsSettled}
use Rattle.erase_journal.specs.Weak.{AreFirm, AreFirmJournals}
use Rattle.erase_journal.proofs.Losses.{beside-one}
use Rattle.sector_slots.specs.Half.{HasFirmNewer, IsHalfAtEachDraw, IsKnownBlock}
use Rattle.sector_slots.specs.Slots.{Free, Live, kind_at, raw_slot, data_blocks, is_copy_of, is_void}
use Rattle.sector_slots.specs.Sectors.{generation_in, HasSlotsAlone, zeros}
use Rattle.sector_slots.specs.Blocks.{AreAtRest}
use Rattle.sector_slots.specs.Torn.{StateInterrupted}
use Rattle.sector_slots.specs.Weak.{block_place, mark_place, descriptor_place, IsDoubtfulMark, IsFirmStore, HasNewer}
use Rattle.sector_slots.proofs.CopyLaws.{copies-none, counted-in, at-rest-copies, at-rest-counts}
use Rattle.sector_slots.proofs.SectorLaws.{never-round}
use Rattle.sector_slots.proofs.TornBits.{program-length}
use Rattle.sector_slots.proofs.HalfBlocks.{IsBlockRead, IsBesideSlot, drawn-kind, drawn-idle, drawn-firm}
use Rattle.sector_slots.proofs.LeftLaws.{IsLeft, AreBesideEdges, with_loss, left-read, left-mark, left-idle, left-descriptor, left-sector, not-free-live, taken-mark}
use Rattle.sector_slots.proofs.TornBlocks.{half-retired}
use Rattle.sector_slots.proofs.UnopenedLaws.{program-unopened}

-- the places of block e beside the state of slot p of block c
abbrev Away : ℕ → ℕ → ℕ → ℕ → Type 0
Away c p e k = block_place e + k ≢ descriptor_place c p

away-edges : (c p e : ℕ) → p < 7 → AreBesideEdges (Away c p e)
away-edges c p e low = record {
  start = λ k small q. omega (arith, q, low, small);
  after_mark = λ k small q. omega (arith, q, low, small);
  after_descriptors = λ k small q. omega (arith, q, low, small);
}

away-slot : (c p e i : ℕ) → p < 7 → i < 7 → (e ≡ c → i ≢ p) → IsBesideSlot (Away c p e) i
away-slot c p e i low li other = record {
  state = λ q. (let here : e ≡ c = omega (arith, q, low, li) in other here (omega (arith, q, here)));
  rest = record {
    descriptor = λ j from small q. omega (arith, q, low, li, from, small);
    sector = λ j small q. omega (arith, q, low, li, small);
  };
}

module _ (a new : Bits) (suspect : ℕ → Bool) (c p : ℕ) (tag : Tag) (x : List ℕ) (low : p < 7) (live : raw_slot a.shown c p ≡ Live tag x) (settled : IsSettled a.shown) (rest : AreAtRest (kind_at a.shown) (data_blocks a.shown)) (alone : HasSlotsAlone a.shown) (store : IsFirmStore a suspect) (l : StateInterrupted (descriptor_place c p) 248 a new)
    (v : List ℕ) (d : Drawn new.weak new.shown v) (shut : (e : ℕ) → e < data_blocks a.shown → is_opened v (e + 4) ≡ false) where
  away-left : (e : ℕ) → IsLeft (Away c p e) a new e
  away-left e = record { same_length = program-length a new (descriptor_place c p) (248 ∷ []) l; same = λ k small other. beside-one a new (descriptor_place c p) 248 l (block_place e + k) other }

  away-read : (e : ℕ) → e < data_blocks a.shown → IsBlockRead (Away c p e) (with_loss a new) v e
  away-read e inside = left-read (Away c p e) a new e (away-left e) v (away-edges c p e low) settled (alone e inside) (store e inside).edges d (shut e inside)

  away-mark : (e k : ℕ) → k < 4 → Away c p e (4 + k)
  away-mark e k small q = omega (arith, q, low, small)

  -- a mark that is firm
  same-kind : (e : ℕ) → e < data_blocks a.shown → AreFirm a.weak (mark_place e) 4 → kind_at v e ≡ kind_at a.shown e
  same-kind e inside f = drawn-kind (Away c p e) (with_loss a new) v e (away-read e inside) (λ k small. away-mark e k small) (left-mark (Away c p e) a new e (away-left e) (λ k small. away-mark e k small) f)

  -- no block is a committed copy
  no-copy : (e number : ℕ) → e < data_blocks a.shown → is_copy_of number (kind_at v e) ≡ false
  no-copy e number inside = elim (store e inside).mark as (λ _. is_copy_of number (kind_at v e) ≡ false) [
    | inl f ↦ ap (λ k. is_copy_of number k) (same-kind e inside f) ∙ at-rest-copies number (kind_at a.shown e) (rest e inside)
    | inr q ↦
        let other : e ≢ c = λ here. not-free-live (raw_slot a.shown c p) tag x live (subst (λ z. raw_slot a.shown z p ≡ Free) here (q.1.spare.free p low)) in
        let h : IsDoubtfulMark (with_loss a new) e = left-idle (Away c p e) a new e (away-left e) (λ z. omega (arith, z, low)) (λ i li. away-slot c p e i low li (λ here. absurd (other here))) q.1 in
        elim (drawn-idle (Away c p e) (with_loss a new) v e (away-read e inside) (λ z. omega (arith, z, low)) h) as (λ _. is_copy_of number (kind_at v e) ≡ false) [
          | inl plain ↦ ap (λ k. is_copy_of number k) plain
          | inr torn ↦ ap (λ k. is_copy_of number k) torn
        ]
  ]

  -- the newer slot, and that its block counts
  module _ (h : HasFirmNewer a tag) where
    apart : h.block ≡ c → h.place ≢ p
    apart here at =
        let same : raw_slot a.shown c p ≡ raw_slot a.shown h.block h.place = ap (λ z. raw_slot a.shown z p) (sym here) ∙ ap (λ z. raw_slot a.shown h.block z) (sym at) in
        let next : tag.generation ≡ next_generation tag.generation = ap generation_in (sym live ∙ (same ∙ h.live)) in
        never-round tag.generation tag.generation next next

    newer-mark : AreFirm a.weak (mark_place h.block) 4
    newer-mark = taken-mark a (suspect h.block) h.block (λ is. not-free-live (raw_slot a.shown h.block h.place) (record { number = tag.number; generation = next_generation tag.generation }) h.content h.live (is.free h.place h.within)) (store h.block h.number)

    newer-slot : raw_slot v h.block h.place ≡ Live (record { number = tag.number; generation = next_generation tag.generation }) h.content
    newer-slot =
        let P = Away c p h.block in
        let beside = away-slot c p h.block h.place low h.within apart in
        drawn-firm P (with_loss a new) v h.block (away-read h.block h.number) h.place h.within beside
        (left-descriptor P a new h.block (away-left h.block) h.place h.within beside h.descriptor)
        (left-sector P a new h.block (away-left h.block) h.place h.within beside.rest h.sector) ∙ h.live

    newer-drawn : HasNewer v tag
    newer-drawn =
        let s = 7 * h.block + h.place in
        let within = h.within in
        let at : s / 7 ≡ h.block = omega (arith, within) in
        let place : s % 7 ≡ h.place = omega (arith, within) in
        let n : data_blocks v ≡ data_blocks a.shown = ap (λ k. block_count k - 4) (d.same_length ∙ program-length a new (descriptor_place c p) (248 ∷ []) l) in
        let number = h.number in
        let counts : is_void (kind_at v (s / 7)) ≡ false = ap (λ e. is_void (kind_at v e)) at ∙ (ap is_void (same-kind h.block h.number newer-mark) ∙ at-rest-counts (kind_at a.shown h.block) (rest h.block h.number)) in
        record {
          slot = s;
          content = h.content;
          live = record {
            number = omega (arith, number, within, n);
            is =
                counted-in (kind_at v) (raw_slot v) (data_blocks v) s counts (copies-none (kind_at v) (data_blocks v) (s / 7) (λ e inside. no-copy e (s / 7 + 4) (omega (arith, inside, n))))
                ∙ (ap (λ e. raw_slot v e (s % 7)) at ∙ (ap (λ i. raw_slot v h.block i) place ∙ newer-slot));
          };
        }

-- A live slot was retired in a firm store with firm journals, while nothing is copied or erased: a newer slot that is firm holds its sector, or it is zeros.
pub half-superseded : (a new : Bits) (suspect : ℕ → Bool) (c p : ℕ) (tag : Tag) (x : List ℕ) → c < data_blocks a.shown → p < 7 → IsKnownBlock a c → AreAtRest (kind_at a.shown) (data_blocks a.shown) → HasSlotsAlone a.shown → AreFirmJournals a → IsFirmStore a suspect
    → raw_slot a.shown c p ≡ Live tag x → HasFirmNewer a tag ⊎ (x ≡ zeros) → StateInterrupted (descriptor_place c p) 248 a new → IsHalfAtEachDraw c new
half-superseded a new suspect c p tag x inside low known rest alone journals store live newer l = half-retired a new (suspect c) c p tag x low known (store c inside) live
    (λ v d. elim newer [
      | inl h ↦ inl (newer-drawn a new suspect c p tag x low live known.settled rest alone store l v d (λ e below. program-unopened a new (descriptor_place c p) (248 ∷ []) (omega arith) known.settled journals l v d (e + 4)) h)
      | inr e ↦ inr e
    ])
    l
