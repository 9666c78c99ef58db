-- A chip of layout 1 has room for one more block: it has more blocks than groups.
use Rattle.std.proofs.Common.{◌≡◌, ℕ, zero, suc, ◌-◌, ◌<◌, ◌≤◌, ◌⊎◌, List, length, refl, sym, ap, ◌∙◌, subst, arith, inl, inr}
use Rattle.std.proofs.lemmas.Bool.{cases_eq}
use Rattle.chip_model.specs.Geometry.{IsChipSize, group_count}
use Rattle.nor_layout.specs.declared.header.Header.{Header}
use Rattle.nor_layout.specs.declared.header.Header.TheVariants as headers
use Rattle.nor_layout.specs.declared.header.Tag.{Tag}
use Rattle.sector_slots.specs.Slots.{data_blocks}
use Rattle.sector_slots.specs.Groups.{block_header, IsLiveWith, AreSoundGroups, HasRoomForGroups, free_block, dead_block, twice}
use Rattle.sector_map.proofs.Pigeonhole.{pigeonhole}

-- One is free or dead, or two are live with one group.
abbrev number_of : Header → ℕ
number_of headers.Free = 0
number_of (headers.Live tag) = tag.number
number_of headers.NoGeneration = 0
number_of headers.Dead = 0

abbrev AllLive : List ℕ → ℕ → Type 0
AllLive m n = (c : ℕ) → c < n → (tag : Tag) × (block_header m c ≡ headers.Live tag)

live-here : (h : Header) (m : List ℕ) (n : ℕ) → block_header m n ≡ h → n < data_blocks m → AreSoundGroups m → AllLive m n → HasRoomForGroups m ⊎ AllLive m (suc n)
live-here headers.Free m n e low sound all = inl (free_block n low e)
live-here (headers.Live tag) m n e low sound all = inr (λ c below. elim (cases_eq c n) [ inl q ↦ (tag, ap (λ z. block_header m z) q ∙ e) | inr other ↦ all c (omega (arith, below, other)) ])
live-here headers.NoGeneration m n e low sound all = absurd (sound.whole n low e)
live-here headers.Dead m n e low sound all = inl (dead_block n low e)

room-or : (m : List ℕ) (n : ℕ) → n ≤ data_blocks m → AreSoundGroups m → HasRoomForGroups m ⊎ AllLive m n
room-or m zero fits sound = inr (λ c low. absurd (omega (arith, low)))
room-or m (suc n) fits sound = elim (room-or m n (omega (arith, fits)) sound) [
  | inl room ↦ inl room
  | inr all ↦ live-here (block_header m n) m n refl (omega (arith, fits)) sound all
]

number-live : (m : List ℕ) (c : ℕ) (p : (tag : Tag) × (block_header m c ≡ headers.Live tag)) → number_of (block_header m c) ≡ p.0.number
number-live m c p = ap number_of p.1

same-number : (m : List ℕ) (c d : ℕ) (p : (tag : Tag) × (block_header m c ≡ headers.Live tag)) (q : (tag : Tag) × (block_header m d ≡ headers.Live tag)) → number_of (block_header m c) ≡ number_of (block_header m d) → p.0.number ≡ q.0.number
same-number m c d p q same = sym (number-live m c p) ∙ (same ∙ number-live m d q)

all-twice : (m : List ℕ) (n k : ℕ) → data_blocks m ≡ suc n → k ≤ n → ((tag : Tag) (c : ℕ) → IsLiveWith m c tag → tag.number < k) → AllLive m (data_blocks m) → HasRoomForGroups m
all-twice m n k whole more within all =
    let low : (c : ℕ) → c < suc n → c < data_blocks m = λ c below. omega (arith, below, whole) in
    let t = pigeonhole (λ c. number_of (block_header m c)) k n more (λ c below.
    let p = all c (low c below) in
    subst (λ z. z < k) (sym (number-live m c p)) (within p.0 c (record { number = low c below; is = p.1 }))) in
    let a = all t.first (low t.first t.low) in
    let b = all t.second (low t.second t.high) in
    twice t.first t.second a.0 b.0 (record { number = low t.first t.low; is = a.1 }) (record { number = low t.second t.high; is = b.1 }) t.apart (same-number m t.first t.second a b t.same)

pub has-room : (m : List ℕ) → IsChipSize (length m) → AreSoundGroups m → HasRoomForGroups m
has-room m size sound =
    let least = size.least in
    elim (room-or m (data_blocks m) (omega arith) sound) [
      | inl room ↦ room
      | inr all ↦ all-twice m (data_blocks m - 1) (group_count (length m)) (omega (arith, least)) (omega (arith, least)) (λ tag c l. sound.group c tag l) all
    ]
