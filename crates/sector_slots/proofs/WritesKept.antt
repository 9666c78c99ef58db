-- A loss of power in a write of a sector: at the next power-on the sectors are as before, or with the new one, however the weak bits read.
use Rattle.std.proofs.Common.{◌≡◌, ◌≢◌, ℕ, ◌+◌, ◌*◌, ◌<◌, ◌≤◌, ◌⊎◌, Bool, false, List, length, refl, sym, ap, ◌∙◌, subst, arith, inl, inr, if◌then◌else◌}
use Rattle.std.specs.Prelude.{◌/◌, ◌%◌, ◌==◌}
use Rattle.std.proofs.lemmas.Bool.{cases_eq, eq-eqb, ne_eqb, true≢false}
use Rattle.chip_model.specs.Geometry.{sector_count}
use Rattle.chip_model.specs.Wavering.{Bits, Drawn}
use Rattle.nor_layout.specs.declared.header.Tag.{Tag}
use Rattle.nor_layout.specs.declared.kind.Kind.{Kind}
use Rattle.nor_layout.specs.Headers.{next_generation}
use Rattle.erase_journal.specs.Torn.{SameBlock}
use Rattle.erase_journal.specs.Weak.{AreFirm}
use Rattle.sector_slots.specs.Half.{IsKnownBlock}
use Rattle.sector_slots.specs.Slots.{Slot, Free, Live, Dead, counted, data_blocks, kind_at, raw_slot}
use Rattle.sector_slots.specs.Sectors.{HoldsSectors, IsSingle, LiveAt, OthersKept, generation_in, with_sector}
use Rattle.sector_slots.specs.Copying.{HoldsNothing}
use Rattle.sector_slots.specs.Losses.{IsFirmDisk, IsHalfChipAtEachDraw, WriteInterrupted}
use Rattle.sector_slots.specs.Weak.{IsSureBlock, block_place, descriptor_place}
use Rattle.sector_slots.proofs.ChipBlocks.{disk-known, free-descriptor, free-sector, put-length, rest-sources}
use Rattle.sector_slots.proofs.ChipKept.{reads-hold, sound-one, untouched-reads}
use Rattle.sector_slots.proofs.ChipLosses.{write-half}
use Rattle.sector_slots.proofs.ChipSectors.{IsNewerFirm, SlotRead, as_before, dead-quiet, quiet, slot-read, slot-reads}
use Rattle.sector_slots.proofs.CopyLaws.{free-quiet, rest-counted}
use Rattle.sector_slots.proofs.FadeLaws.{BlockReads, SlotReads, alike, counted-alike, same_slot}
use Rattle.sector_slots.proofs.HalfBlocks.{IsBlockRead, drawn-kind}
use Rattle.sector_slots.proofs.LeftLaws.{IsLeft, left-mark, left-read, trusted-mark, with_loss}
use Rattle.sector_slots.proofs.PutLosses.{put-place, put-slot, put-unopened}
use Rattle.sector_slots.proofs.SectorLaws.{moved-back, next-of, put-done}
use Rattle.sector_slots.proofs.SectorLosses.{number_in, one-hold, plain-idle}
use Rattle.sector_slots.proofs.TornBlocks.{BesidePlace, place-edges, place-mark, place-slot, put-apart, sure-free, trusted-slot}
use Rattle.sector_slots.proofs.UnopenedLaws.{AreOpenedErasable}

-- One slot is another.
abbrev with_slot : (ℕ → ℕ → Slot) → ℕ → Slot → ℕ → ℕ → Slot
with_slot slots w s e i = if 7 * e + i == w then s else slots e i

slot-here : (slots : ℕ → ℕ → Slot) (c p : ℕ) (s : Slot) → with_slot slots (7 * c + p) s c p ≡ s
slot-here slots c p s = rw (eq-eqb (7 * c + p) (7 * c + p) refl) refl

slot-other : (slots : ℕ → ℕ → Slot) (w e i : ℕ) (s : Slot) → 7 * e + i ≢ w → with_slot slots w s e i ≡ slots e i
slot-other slots w e i s other = rw (ne_eqb (7 * e + i) w other) refl

module _ (a new : Bits) (suspect : ℕ → Bool) (tag : Tag) (content : List ℕ) (disk : IsFirmDisk a suspect) (single : IsSingle a.shown) (w : WriteInterrupted a suspect tag content new) (sectors : ℕ → List ℕ) (holds : HoldsSectors sectors a.shown) (v : List ℕ) (d : Drawn new.weak new.shown v) where
  abbrev c : ℕ
  c = w.block

  abbrev p : ℕ
  p = w.place

  abbrev n : ℕ
  n = data_blocks a.shown

  abbrev K : ℕ → Kind
  K = kind_at a.shown

  abbrev S : ℕ → ℕ → Slot
  S = raw_slot a.shown

  abbrev f : ℕ → Slot
  f = counted K S n

  low : c < n
  low = w.free.number

  within : p < 7
  within = w.free.within

  size : length new.shown ≡ length a.shown
  size = put-length a new c p tag content w.put

  half : IsHalfChipAtEachDraw new
  half = write-half a suspect tag content new disk w

  erasable : AreOpenedErasable a.shown v
  erasable e le is = absurd (true≢false (sym is ∙ put-unopened a new c p tag content disk.settled disk.journals w.put v d (e + 4)))

  others : (e : ℕ) → e ≢ c → SameBlock (e + 4) a new
  others e away = put-apart a new c p e tag content w.size within away w.put

  known : IsKnownBlock a c
  known = disk-known a suspect disk (rest-sources a.shown w.rest) c low

  sure : IsSureBlock a false c
  sure = subst (λ q. IsSureBlock a q c) w.trusted (disk.store c low)

  kept : IsLeft (BesidePlace p) a new c
  kept = record {
    same_length = size;
    same = λ k small beside. put-place a new c p tag content w.size w.put (block_place c + k)
        (elim beside.0 as (λ _. (block_place c + k < descriptor_place c p) ⊎ (descriptor_place c p + 4 ≤ block_place c + k)) [ inl before ↦ inl (omega (arith, before)) | inr after ↦ inr (omega (arith, after)) ])
        (elim beside.1 [ inl before ↦ inl (omega (arith, before)) | inr after ↦ inr (omega (arith, after)) ]);
  }

  read : IsBlockRead (BesidePlace p) (with_loss a new) v c
  read = left-read (BesidePlace p) a new c kept v (place-edges p within) disk.settled (disk.alone c low) sure.edges d (put-unopened a new c p tag content disk.settled disk.journals w.put v d (c + 4))

  same-kind : kind_at v c ≡ kind_at a.shown c
  same-kind = drawn-kind (BesidePlace p) (with_loss a new) v c read (λ k small. place-mark p k small) (left-mark (BesidePlace p) a new c kept (λ k small. place-mark p k small) (trusted-mark a c sure))

  other-read : (i : ℕ) → i < 7 → i ≢ p → SlotRead a v c i
  other-read i li away = slot-read (BesidePlace p) a new c kept v read i li (place-slot p i within li away) false sure

  -- the slot is free, or dead
  undone-hold : (raw_slot v c p ≡ Free) ⊎ (raw_slot v c p ≡ Dead) → HoldsSectors sectors v
  undone-hold undone = one-hold a new suspect disk size half sectors holds v d erasable c others (alike same-kind (λ i li. slot-reads a v K S disk.newer c i li refl (elim (cases_eq i p) as (λ _. SlotRead a v c i) [
    | inr away ↦ other-read i li away
    | inl is ↦ subst (λ q. SlotRead a v c q) (sym is) (elim undone [
      | inl free ↦ as_before (free ∙ sym w.free.free)
      | inr dead ↦ quiet (free-quiet (raw_slot a.shown c p) w.free.free) (dead-quiet (raw_slot v c p) dead)
    ])
  ])))

  -- or it is live with the sector
  abbrev W : ℕ
  W = 7 * c + p

  abbrev S1 : ℕ → ℕ → Slot
  S1 = with_slot S W (Live tag content)

  abbrev f1 : ℕ → Slot
  f1 = counted K S1 n

  bound : W < 7 * n
  bound = let l = low in let q = within in omega (arith, l, q)

  slots-kept : OthersKept (7 * n) W f f1
  slots-kept = record { each = λ s ls away. counted-alike K K S S1 n s refl (slot-other S W (s / 7) (s % 7) (Live tag content) (λ q. away (omega (arith, q)))) refl }

  was-free : f W ≡ Free
  was-free =
      let q = within in
      let at : W / 7 ≡ c = omega (arith, q) in
      let place : W % 7 ≡ p = omega (arith, q) in
      rest-counted K S n W w.rest bound ∙ (ap (λ x. S x (W % 7)) at ∙ (ap (λ x. S c x) place ∙ w.free.free))

  is-live : f1 W ≡ Live tag content
  is-live =
      let q = within in
      let at : W / 7 ≡ c = omega (arith, q) in
      let place : W % 7 ≡ p = omega (arith, q) in
      rest-counted K S1 n W w.rest bound ∙ (ap (λ x. S1 x (W % 7)) at ∙ (ap (λ x. S1 c x) place ∙ slot-here S c p (Live tag content)))

  newer : IsNewerFirm a f1 (7 * n)
  newer s t g j k x y lx ly away = elim (cases_eq s W) as (λ _. AreFirm a.weak (descriptor_place (s / 7) (s % 7)) 4 ⊎ (k ≡ next_generation j)) [
    | inl is ↦
        let q = within in
        let at : c ≡ s / 7 = omega (arith, q, is) in
        let place : p ≡ s % 7 = omega (arith, q, is) in
        let firm = (sure-free a c p within known w.free.free (trusted-slot a c p within sure)).0 in
        inl (subst (λ z. AreFirm a.weak (descriptor_place (s / 7) z) 4) place (subst (λ z. AreFirm a.weak (descriptor_place z p) 4) at firm))
    | inr sw ↦
        let old = moved-back f f1 (7 * n) W s g j x slots-kept sw lx in
        elim (cases_eq t W) as (λ _. AreFirm a.weak (descriptor_place (s / 7) (s % 7)) 4 ⊎ (k ≡ next_generation j)) [
          | inl tw ↦
              let both : Live (record { number = g; generation = k }) y ≡ Live tag content = sym ly.is ∙ (ap f1 tw ∙ is-live) in
              let number : g ≡ tag.number = ap number_in both in
              let generation : k ≡ tag.generation = ap generation_in both in
              inr (generation ∙ next-of f (7 * n) tag.number tag.generation single w.next s j x (subst (λ z. LiveAt f (7 * n) s z j x) number old))
          | inr nt ↦ absurd (away (single.one s t g j k x y old (moved-back f f1 (7 * n) W t g k y slots-kept nt ly)))
        ]
  ]

  done-hold : raw_slot v c p ≡ Live tag content → HoldsSectors (with_sector sectors tag.number content) v
  done-hold done = reads-hold v new.weak (length a.shown) K S1 (with_sector sectors tag.number content) (d.same_length ∙ size) (half v d)
      (λ e le. elim (cases_eq e c) as (λ _. BlockReads K (kind_at v) S1 (raw_slot v) n e) [
        | inl here ↦ subst (λ q. BlockReads K (kind_at v) S1 (raw_slot v) n q) (sym here) (alike same-kind (λ i li. elim (cases_eq i p) as (λ _. SlotReads (S1 c i) (raw_slot v c i) f1 (7 * n) (7 * c + i)) [
          | inl is ↦ subst (λ q. SlotReads (S1 c q) (raw_slot v c q) f1 (7 * n) (7 * c + q)) (sym is) (same_slot (done ∙ sym (slot-here S c p (Live tag content))))
          | inr away ↦ slot-reads a v K S1 newer c i li (slot-other S W c i (Live tag content) (λ q. away (omega (arith, q)))) (other-read i li away)
        ]))
        | inr away ↦ untouched-reads a new suspect disk size v d erasable K S1 newer e le (others e away) refl
            (λ i li. slot-other S W e i (Live tag content) (λ q. let l = within in away (omega (arith, q, l, li))))
            (λ er i li. let l = within in subst (λ s. HoldsNothing s) (sym (slots-kept.each (7 * e + i) (omega (arith, le, li)) (λ q. away (omega (arith, q, l, li))))) (plain-idle a suspect e disk le er i li))
      ]) (sound-one a.shown disk.sound.blocks)
      (put-done f f1 (7 * n) W tag.number tag.generation (sector_count (length a.shown)) content sectors bound w.sector was-free slots-kept is-live single w.next holds.slots)

  pub write-hold : HoldsSectors sectors v ⊎ HoldsSectors (with_sector sectors tag.number content) v
  write-hold =
      elim (put-slot a c p within low known sure w.free.free (free-descriptor a suspect c p disk low within w.free.free) (free-sector a suspect c p disk w.rest low within w.free.free) tag content w.size w.bytes new w.put v d read (d.same_length ∙ size)) [
        | inl undone ↦ inl (undone-hold undone)
        | inr done ↦ inr (done-hold done)
      ]
