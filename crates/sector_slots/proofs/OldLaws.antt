-- A chip of layout 1 that is healthy and clean is sound and clean as a mixed one.
use Rattle.std.proofs.Common.{◌≡◌, ◌≢◌, ℕ, ◌+◌, ◌*◌, ◌<◌, ◌&&◌, Bool, true, false, cond, List, length, refl, sym, ap, ◌∙◌, subst, arith, inl, inr}
use Rattle.std.specs.Prelude.{◌/◌, ◌%◌, ◌==◌, nat_lt}
use Rattle.std.proofs.lemmas.Bool.{lt-ltb}
use Rattle.chip_model.specs.Geometry.{IsChipSize, group_count}
use Rattle.chip_model.specs.Memory.{byte}
use Rattle.nor_layout.specs.declared.header.Generation.{Generation}
use Rattle.nor_layout.specs.declared.header.Header.{Header}
use Rattle.nor_layout.specs.declared.header.Header.TheVariants as headers
use Rattle.nor_layout.specs.declared.header.Tag.{Tag}
use Rattle.nor_layout.specs.declared.kind.Kind.{Kind}
use Rattle.nor_layout.specs.declared.kind.Kind.TheVariants as kinds
use Rattle.nor_layout.specs.Headers.{header_of, next_generation}
use Rattle.nor_layout.specs.Kinds.{kind_of, mark_of, group_kind}
use Rattle.erase_journal.specs.Blocks.{blank}
use Rattle.sector_slots.specs.Slots.{Free, Live, NoGeneration, group_tag, is_group, slot_in, content_bytes, data_blocks, data_block, kind_at, raw_slot, slot_at, slot_count}
use Rattle.sector_slots.specs.Blocks.{IsAtRest, AreAtRest, AreSound, settled, crowded, dead_group, two_blocks}
use Rattle.sector_slots.specs.Sectors.{LiveAt, generation_in}
use Rattle.sector_slots.specs.Groups.{block_header, IsLiveWith, AreSoundGroups, HasRoomForGroups, free_block, dead_block, twice, IsCleanOfGroups, GroupChipsAreSound}
use Rattle.sector_slots.proofs.CopyLaws.{rest-counted}
use Rattle.sector_slots.proofs.SectorLaws.{number_in, kind_in}
use Rattle.sector_slots.proofs.GroupLaws.{group-slot, dead-slot}
use Rattle.sector_slots.proofs.BlankLaws.{blank-kind, blank-slot, blank-content, erased-spare}

-- what a header that isn't free makes of a block
headed : (t : Bool) (m : Kind) (x h : Header) → cond t headers.Free x ≡ h → h ≢ headers.Free → cond t m (group_kind (cond t headers.Free x)) ≡ group_kind h
headed true m x h e n = absurd (n (sym e))
headed false m x h e n = ap group_kind e

kind-headed : (b : List ℕ) (h : Header) → header_of b ≡ h → h ≢ headers.Free → kind_of b ≡ group_kind h
kind-headed b h e n = headed ((byte b 0 == 255) && (byte b 1 == 255) && (byte b 2 == 255) && (byte b 3 == 255)) (mark_of b) _ h e n

abbrev header_kind : Header → ℕ
header_kind headers.Free = 0
header_kind (headers.Live tag) = 1
header_kind headers.NoGeneration = 2
header_kind headers.Dead = 3

live-kind : (b : List ℕ) (tag : Tag) → header_of b ≡ headers.Live tag → nat_lt tag.number 9362 ≡ true → kind_of b ≡ kinds.Group tag
live-kind b tag e small = kind-headed b (headers.Live tag) e (λ f. (let q : 1 ≡ 0 = ap header_kind f in omega (arith, q))) ∙ ap (λ t. cond t (kinds.Group tag) kinds.SpoiltGroup) small

dead-kind : (b : List ℕ) → header_of b ≡ headers.Dead → kind_of b ≡ kinds.DeadGroup
dead-kind b e = kind-headed b headers.Dead e (λ f. (let q : 3 ≡ 0 = ap header_kind f in omega (arith, q)))

small-true : (a b : ℕ) → a < b → nat_lt a b ≡ true
small-true a b low = lt-ltb a b low

abbrev next-of : Generation → Generation
next-of k = next_generation k

-- what each block is
data BlockIs (m : List ℕ) (c : ℕ) : Type 0 where
  is_blank : data_block m c ≡ blank → BlockIs m c
  is_live : (tag : Tag) → block_header m c ≡ headers.Live tag → kind_at m c ≡ kinds.Group tag → BlockIs m c
  is_dead : kind_at m c ≡ kinds.DeadGroup → BlockIs m c

small-groups : (m : List ℕ) → IsChipSize (length m) → group_count (length m) < 9362
small-groups m size = let q = size.most in omega (arith, q)

block-by : (m : List ℕ) (c : ℕ) (h : Header) → block_header m c ≡ h → IsChipSize (length m) → AreSoundGroups m → IsCleanOfGroups m → c < data_blocks m → BlockIs m c
block-by m c headers.Free e size sound clean low = is_blank (clean c low e)
block-by m c (headers.Live tag) e size sound clean low =
    let g = sound.group c tag (record { number = low; is = e }) in
    let limit = small-groups m size in
    is_live tag e (live-kind (data_block m c) tag e (small-true tag.number 9362 (omega (arith, g, limit))))
block-by m c headers.NoGeneration e size sound clean low = absurd (sound.whole c low e)
block-by m c headers.Dead e size sound clean low = is_dead (dead-kind (data_block m c) e)

block-is : (m : List ℕ) (c : ℕ) → IsChipSize (length m) → AreSoundGroups m → IsCleanOfGroups m → c < data_blocks m → BlockIs m c
block-is m c size sound clean low = block-by m c (block_header m c) refl size sound clean low

rest-by : (m : List ℕ) (c : ℕ) → BlockIs m c → IsAtRest (kind_at m c)
rest-by m c (is_blank e) = subst (λ k. IsAtRest k) (sym (ap kind_of e ∙ blank-kind)) tt
rest-by m c (is_live tag h e) = subst (λ k. IsAtRest k) (sym e) tt
rest-by m c (is_dead e) = subst (λ k. IsAtRest k) (sym e) tt

-- a live place is one of a block that is live with a group
pub record LivePlace (m : List ℕ) (w g : ℕ) (k : Generation) : Type 0 where
  pub tag : Tag
  pub live : IsLiveWith m (w / 7) tag
  pub kind : kind_at m (w / 7) ≡ kinds.Group tag
  pub number : g ≡ 7 * tag.number + w % 7
  pub generation : k ≡ tag.generation

live-by : (m : List ℕ) (w g : ℕ) (k : Generation) (x : List ℕ) → BlockIs m (w / 7) → w / 7 < data_blocks m → raw_slot m (w / 7) (w % 7) ≡ Live (record { number = g; generation = k }) x → LivePlace m w g k
live-by m w g k x (is_blank e) low l = (let free : raw_slot m (w / 7) (w % 7) ≡ Free = ap (λ b. slot_in b (w % 7)) e ∙ blank-slot (w % 7) (omega arith) in let q : 0 ≡ 1 = ap kind_in (sym free ∙ l) in absurd (omega (arith, q)))
live-by m w g k x (is_live tag h e) low l =
    let here : Live (group_tag tag (w % 7)) (content_bytes (data_block m (w / 7)) (w % 7)) ≡ Live (record { number = g; generation = k }) x = sym (group-slot (data_block m (w / 7)) (w % 7) tag e) ∙ l in
    record { tag = tag; live = record { number = low; is = h }; kind = e; number = sym (ap number_in here); generation = sym (ap generation_in here) }
live-by m w g k x (is_dead e) low l = (let q : 3 ≡ 1 = ap kind_in (sym (dead-slot (data_block m (w / 7)) (w % 7) e) ∙ l) in absurd (omega (arith, q)))

whole-by : (m : List ℕ) (w : ℕ) → BlockIs m (w / 7) → raw_slot m (w / 7) (w % 7) ≢ NoGeneration
whole-by m w (is_blank e) n = (let free : raw_slot m (w / 7) (w % 7) ≡ Free = ap (λ b. slot_in b (w % 7)) e ∙ blank-slot (w % 7) (omega arith) in let q : 0 ≡ 2 = ap kind_in (sym free ∙ n) in omega (arith, q))
whole-by m w (is_live tag h e) n = (let q : 1 ≡ 2 = ap kind_in (sym (group-slot (data_block m (w / 7)) (w % 7) tag e) ∙ n) in omega (arith, q))
whole-by m w (is_dead e) n = (let q : 3 ≡ 2 = ap kind_in (sym (dead-slot (data_block m (w / 7)) (w % 7) e) ∙ n) in omega (arith, q))

blank-by : (m : List ℕ) (w : ℕ) → BlockIs m (w / 7) → raw_slot m (w / 7) (w % 7) ≡ Free → data_block m (w / 7) ≡ blank
blank-by m w (is_blank e) f = e
blank-by m w (is_live tag h e) f = (let q : 1 ≡ 0 = ap kind_in (sym (group-slot (data_block m (w / 7)) (w % 7) tag e) ∙ f) in absurd (omega (arith, q)))
blank-by m w (is_dead e) f = (let q : 3 ≡ 0 = ap kind_in (sym (dead-slot (data_block m (w / 7)) (w % 7) e) ∙ f) in absurd (omega (arith, q)))

plain-by : (m : List ℕ) (c : ℕ) → BlockIs m c → raw_slot m c 0 ≡ Free → data_block m c ≡ blank
plain-by m c (is_blank e) f = e
plain-by m c (is_live tag h e) f = (let q : 1 ≡ 0 = ap kind_in (sym (group-slot (data_block m c) 0 tag e) ∙ f) in absurd (omega (arith, q)))
plain-by m c (is_dead e) f = (let q : 3 ≡ 0 = ap kind_in (sym (dead-slot (data_block m c) 0 e) ∙ f) in absurd (omega (arith, q)))

room-by : (m : List ℕ) → IsChipSize (length m) → AreSoundGroups m → IsCleanOfGroups m → AreAtRest (kind_at m) (data_blocks m) → HasRoomForGroups m → AreSound m
room-by m size sound clean rest (free_block c low e) = settled (record { rest = rest; reserve = c; number = low; spare = erased-spare m c (clean c low e) })
room-by m size sound clean rest (dead_block c low e) = crowded rest (dead_group c low (dead-kind (data_block m c) e))
room-by m size sound clean rest (twice c d a b lc ld other same) =
    let limit = small-groups m size in
    let ga = sound.group c a lc in
    let gb = sound.group d b ld in
    crowded rest (two_blocks c d a b lc.number ld.number other (live-kind (data_block m c) a lc.is (small-true a.number 9362 (omega (arith, ga, limit)))) (live-kind (data_block m d) b ld.is (small-true b.number 9362 (omega (arith, gb, limit)))) same)

pub old-sound : GroupChipsAreSound
old-sound m size layout sound room clean =
    let n = data_blocks m in
    let is : (c : ℕ) → c < n → BlockIs m c = λ c low. block-is m c size sound clean low in
    let rest : AreAtRest (kind_at m) n = λ d low. rest-by m d (is d low) in
    let raw : (w : ℕ) → w < slot_count m → slot_at m w ≡ raw_slot m (w / 7) (w % 7) = λ w low. rest-counted (kind_at m) (raw_slot m) n w rest low in
    let place : (w g : ℕ) (k : Generation) (x : List ℕ) → LiveAt (slot_at m) (slot_count m) w g k x → LivePlace m w g k =
    λ w g k x l. (let low = l.number in live-by m w g k x (is (w / 7) (omega (arith, low))) (omega (arith, low)) (sym (raw w low) ∙ l.is)) in (
      record {
        slots = record {
          sector = λ s g k x l. (let p = place s g k x l in let q = sound.group (s / 7) p.tag p.live in let e = p.number in omega (arith, q, e));
          neighbours = λ s t g j k x y a b other.
              let p = place s g j x a in
              let q = place t g k y b in
              let e = p.number in
              let f = q.number in
              elim (sound.neighbours (s / 7) (t / 7) p.tag q.tag p.live q.live (λ h. other (omega (arith, h, e, f))) (omega (arith, e, f))) [
                | inl h ↦ inl (p.generation ∙ (h ∙ ap next-of (sym q.generation)))
                | inr h ↦ inr (q.generation ∙ (h ∙ ap next-of (sym p.generation)))
              ];
          two = λ r s t g i j k x y z a b c.
              let p = place r g i x a in
              let q = place s g j y b in
              let o = place t g k z c in
              let e = p.number in
              let f = q.number in
              let h = o.number in
              elim (sound.two (r / 7) (s / 7) (t / 7) p.tag q.tag o.tag p.live q.live o.live (omega (arith, e, f)) (omega (arith, f, h))) [
                | inl u ↦ inl (omega (arith, u, e, f))
                | inr v ↦ elim v [ inl u ↦ inr (inl (omega (arith, u, f, h))) | inr u ↦ inr (inr (omega (arith, u, e, h))) ]
              ];
          whole = λ s low e. whole-by m s (is (s / 7) (omega (arith, low))) (sym (raw s low) ∙ e);
        };
        blocks = room-by m size sound clean rest room;
        groups = record {
          sectors = record { apart = λ s t g j k x y a b. (let p = place s g j x a in let q = place t g k y b in ap is_group p.kind ∙ sym (ap is_group q.kind)) };
          layout = λ two. absurd (layout two);
        };
      },
      record {
        slots = λ s low f. (let e = blank-by m s (is (s / 7) (omega (arith, low))) (sym (raw s low) ∙ f) in ap (λ b. content_bytes b (s % 7)) e ∙ blank-content (s % 7) (omega arith));
        spare = λ c low spare. plain-by m c (is c low) (spare.free 0 (omega arith));
      },
    )
