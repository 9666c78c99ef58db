-- The blocks of a healthy and clean chip of layout 1, and what their places are as slots.
use Rattle.std.proofs.Common.{◌≡◌, ◌≢◌, ℕ, ◌+◌, ◌*◌, ◌<◌, ◌&&◌, Bool, true, false, cond, List, length, refl, sym, ap, ◌∙◌, subst, arith}
use Rattle.std.specs.Prelude.{◌/◌, ◌%◌, ◌==◌}
use Rattle.std.proofs.lemmas.Bool.{lt-ltb}
use Rattle.chip_model.specs.Geometry.{IsChipSize}
use Rattle.chip_model.specs.Memory.{byte}
use Rattle.nor_layout.specs.declared.header.Generation.{Generation}
use Rattle.nor_layout.specs.declared.header.Header.{Header}
use Rattle.nor_layout.specs.declared.header.Header.TheVariants as headers
use Rattle.nor_layout.specs.declared.header.Tag.{Tag}
use Rattle.nor_layout.specs.declared.kind.Kind.{Kind}
use Rattle.nor_layout.specs.declared.kind.Kind.TheVariants as kinds
use Rattle.nor_layout.specs.Headers.{header_of}
use Rattle.nor_layout.specs.Kinds.{kind_of, mark_of, group_kind}
use Rattle.erase_journal.specs.Blocks.{blank}
use Rattle.sector_slots.specs.Slots.{Free, Live, group_tag, slot_in, content_bytes, data_blocks, data_block, kind_at, raw_slot, slot_at, slot_count}
use Rattle.sector_slots.specs.Blocks.{IsAtRest}
use Rattle.sector_slots.specs.Sectors.{LiveAt, content_in, generation_in}
use Rattle.sector_slots.specs.Groups.{block_header, IsLiveWith, AreSoundGroups, IsCleanOfGroups}
use Rattle.sector_slots.proofs.CopyLaws.{rest-counted}
use Rattle.sector_slots.proofs.SectorLaws.{number_in, kind_in}
use Rattle.sector_slots.proofs.GroupLaws.{group-slot, dead-slot}
use Rattle.sector_slots.proofs.BlankLaws.{blank-kind, blank-slot}

-- what a header that isn't free makes of a block
headed : (t : Bool) (m : Kind) (x h : Header) → cond t headers.Free x ≡ h → h ≢ headers.Free → cond t m (group_kind (cond t headers.Free x)) ≡ group_kind h
headed true m x h e n = absurd (n (sym e))
headed false m x h e n = ap group_kind e

kind-headed : (b : List ℕ) (h : Header) → header_of b ≡ h → h ≢ headers.Free → kind_of b ≡ group_kind h
kind-headed b h e n = headed ((byte b 0 == 255) && (byte b 1 == 255) && (byte b 2 == 255) && (byte b 3 == 255)) (mark_of b) _ h e n

abbrev header_kind : Header → ℕ
header_kind headers.Free = 0
header_kind (headers.Live tag) = 1
header_kind headers.NoGeneration = 2
header_kind headers.Dead = 3

-- each block is erased, or live with a group, or dead
data GroupBlock (m : List ℕ) (c : ℕ) : Type 0 where
  is_blank : data_block m c ≡ blank → GroupBlock m c
  is_live : (tag : Tag) → block_header m c ≡ headers.Live tag → kind_at m c ≡ kinds.Group tag → GroupBlock m c
  is_dead : kind_at m c ≡ kinds.DeadGroup → GroupBlock m c

live-kind : (m : List ℕ) (c : ℕ) (tag : Tag) → IsChipSize (length m) → AreSoundGroups m → IsLiveWith m c tag → kind_at m c ≡ kinds.Group tag
live-kind m c tag size sound l =
    let most = size.most in
    let low = sound.group c tag l in
    let small : tag.number < 9362 = omega (arith, most, low) in
    kind-headed (data_block m c) (headers.Live tag) l.is (λ f. (let q : 1 ≡ 0 = ap header_kind f in omega (arith, q)))
    ∙ ap (λ t. cond t (kinds.Group tag) kinds.SpoiltGroup) (lt-ltb tag.number 9362 small)

block-by : (m : List ℕ) (c : ℕ) (h : Header) → block_header m c ≡ h → IsChipSize (length m) → AreSoundGroups m → IsCleanOfGroups m → c < data_blocks m → GroupBlock m c
block-by m c headers.Free e size sound clean low = is_blank (clean c low e)
block-by m c (headers.Live tag) e size sound clean low = is_live tag e (live-kind m c tag size sound (record { number = low; is = e }))
block-by m c headers.NoGeneration e size sound clean low = absurd (sound.whole c low e)
block-by m c headers.Dead e size sound clean low = is_dead (kind-headed (data_block m c) headers.Dead e (λ f. (let q : 3 ≡ 0 = ap header_kind f in omega (arith, q))))

rest-by : (m : List ℕ) (c : ℕ) → GroupBlock m c → IsAtRest (kind_at m c)
rest-by m c (is_blank e) = subst (λ k. IsAtRest k) (sym (ap kind_of e ∙ blank-kind)) tt
rest-by m c (is_live tag h e) = subst (λ k. IsAtRest k) (sym e) tt
rest-by m c (is_dead e) = subst (λ k. IsAtRest k) (sym e) tt

-- A live slot is a place of a block that is live with a group.
pub record GroupPlace (m : List ℕ) (w g : ℕ) (k : Generation) (x : List ℕ) : Type 0 where
  pub tag : Tag
  pub live : IsLiveWith m (w / 7) tag
  pub number : g ≡ 7 * tag.number + w % 7
  pub generation : k ≡ tag.generation
  pub content : x ≡ content_bytes (data_block m (w / 7)) (w % 7)

place-by : (m : List ℕ) (w g : ℕ) (k : Generation) (x : List ℕ) → GroupBlock m (w / 7) → w / 7 < data_blocks m → raw_slot m (w / 7) (w % 7) ≡ Live (record { number = g; generation = k }) x → GroupPlace m w g k x
place-by m w g k x (is_blank e) low l = (let free : raw_slot m (w / 7) (w % 7) ≡ Free = ap (λ b. slot_in b (w % 7)) e ∙ blank-slot (w % 7) (omega arith) in let q : 0 ≡ 1 = ap kind_in (sym free ∙ l) in absurd (omega (arith, q)))
place-by m w g k x (is_live tag h e) low l =
    let here : Live (group_tag tag (w % 7)) (content_bytes (data_block m (w / 7)) (w % 7)) ≡ Live (record { number = g; generation = k }) x = sym (group-slot (data_block m (w / 7)) (w % 7) tag e) ∙ l in
    record {
      tag = tag;
      live = record { number = low; is = h };
      number = sym (ap number_in here);
      generation = sym (ap generation_in here);
      content = sym (ap content_in here);
    }
place-by m w g k x (is_dead e) low l = (let q : 3 ≡ 1 = ap kind_in (sym (dead-slot (data_block m (w / 7)) (w % 7) e) ∙ l) in absurd (omega (arith, q)))

module _ (m : List ℕ) (size : IsChipSize (length m)) (sound : AreSoundGroups m) (clean : IsCleanOfGroups m) where
  block-is : (c : ℕ) → c < data_blocks m → GroupBlock m c
  block-is c low = block-by m c (block_header m c) refl size sound clean low

  raw : (w : ℕ) → w < slot_count m → slot_at m w ≡ raw_slot m (w / 7) (w % 7)
  raw w low = rest-counted (kind_at m) (raw_slot m) (data_blocks m) w (λ d below. rest-by m d (block-is d below)) low

  pub live-place : (w g : ℕ) (k : Generation) (x : List ℕ) → LiveAt (slot_at m) (slot_count m) w g k x → GroupPlace m w g k x
  live-place w g k x l = (let low = l.number in place-by m w g k x (block-is (w / 7) (omega (arith, low))) (omega (arith, low)) (sym (raw w low) ∙ l.is))

  -- and each place of such a block is a live slot
  pub place-live : (c i g : ℕ) (tag : Tag) → IsLiveWith m c tag → i < 7 → tag.number ≡ g → LiveAt (slot_at m) (slot_count m) (7 * c + i) (7 * g + i) tag.generation (content_bytes (data_block m c) i)
  place-live c i g tag l small same =
      let low = l.number in
      let within : 7 * c + i < slot_count m = omega (arith, low, small) in
      let block : (7 * c + i) / 7 ≡ c = omega (arith, small) in
      let place : (7 * c + i) % 7 ≡ i = omega (arith, small) in
      record {
        number = within;
        is = raw (7 * c + i) within
            ∙ (ap (λ a. raw_slot m a ((7 * c + i) % 7)) block
            ∙ (ap (λ a. raw_slot m c a) place
            ∙ (group-slot (data_block m c) i tag (live-kind m c tag size sound l)
            ∙ ap (λ n. Live (record { number = 7 * n + i; generation = tag.generation }) (content_bytes (data_block m c) i)) same)));
      }
