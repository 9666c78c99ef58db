-- What a firm recovery leaves of votes whose bits may be weak.
use Rattle.std.proofs.Common.{◌≡◌, ◌≢◌, ℕ, ◌+◌, ◌/◌, ◌<◌, ◌≤◌, ◌⊎◌, false, not, ◌||◌, List, sym, ap, ◌∙◌, arith, inl, inr}
use Rattle.std.specs.Prelude.{◌%◌, ◌==◌, bit_and}
use Rattle.std.specs.Int.{bit_at}
use Rattle.std.proofs.lemmas.Nat.{and_le_r}
use Rattle.std.proofs.lemmas.Bool.{cases_lt, cases_eq}
use Rattle.std.proofs.lemmas.Nat.Bits.{bit_at-lt, bit_at-zero, bit_at_and, bit_at_above, bit_at_ones, same_from_bits}
use Rattle.chip_model.specs.Memory.{byte}
use Rattle.chip_model.specs.Wavering.{Bits}
use Rattle.nor_driver.specs.State.{IsFirmer}
use Rattle.erase_journal.specs.Journals.{votes_at}
use Rattle.erase_journal.specs.Weak.{IsLowestUnused, IsRecoveredVote, firm, given_up, is_firm, lowest}
use Rattle.erase_journal.proofs.Counts.{how_many-none}
use Rattle.erase_journal.proofs.WeakLaws.{firm-stays}

-- a byte that is a vote, and which one
abbrev pub IsVoteByte : ℕ → Type 0
IsVoteByte x = (x ≡ 255) ⊎ (x ≡ 254) ⊎ (x ≡ 252) ⊎ (x ≡ 253)

vote-byte : (x : ℕ) → not (x == 255 || x == 254 || x == 252 || x == 253) ≡ false → IsVoteByte x
vote-byte x h = elim (cases_eq x 255) [
  | inl e ↦ inl e
  | inr n255 ↦ elim (cases_eq x 254) [
    | inl e ↦ inr (inl e)
    | inr n254 ↦ elim (cases_eq x 252) [
      | inl e ↦ inr (inr (inl e))
      | inr n252 ↦ elim (cases_eq x 253) [
        | inl e ↦ inr (inr (inr e))
        | inr n253 ↦ absurd (grind (arith, h, n255, n254, n252, n253))
      ]
    ]
  ]
]

pub votes-are : (m : List ℕ) (place : ℕ) → (votes_at m place).wrong ≡ 0 → (k : ℕ) → k < 1024 → IsVoteByte (byte m (place + k))
unfolding votes_at
votes-are m place none k low = vote-byte (byte m (place + k)) (how_many-none (λ i. not (byte m (place + i) == 255 || byte m (place + i) == 254 || byte m (place + i) == 252 || byte m (place + i) == 253)) 1024 none k low)

-- numbers whose bits from one on are 0
pub below-four : (x : ℕ) → ((l : ℕ) → 2 ≤ l → bit_at x l ≡ 0) → x < 4
below-four x h =
    let e : x ≡ bit_and x 3 = same_from_bits x (bit_and x 3) (λ l. elim (cases_lt l 2) [
      | inl low ↦ (let a = bit_at_and x 3 l in let b = bit_at_ones 2 l low in let c = bit_at-lt x l in omega (arith, a, b, c))
      | inr high ↦ (let a = bit_at_and x 3 l in let b = h l high in omega (arith, a, b))
    ]) in
    omega (arith, e, and_le_r x 3)

below-two : (x : ℕ) → ((l : ℕ) → 1 ≤ l → bit_at x l ≡ 0) → x < 2
below-two x h =
    let e : x ≡ bit_and x 1 = same_from_bits x (bit_and x 1) (λ l. elim (cases_lt l 1) [
      | inl low ↦ (let a = bit_at_and x 1 l in let b = bit_at_ones 1 l low in let c = bit_at-lt x l in omega (arith, a, b, c))
      | inr high ↦ (let a = bit_at_and x 1 l in let b = h l high in omega (arith, a, b))
    ]) in
    omega (arith, e, and_le_r x 1)

-- a used vote has bit 0 or bit 1 0, and an unused one neither
used-zero : (x : ℕ) → IsVoteByte x → x ≢ 255 → (bit_at x 0 ≡ 0) ⊎ (bit_at x 1 ≡ 0)
used-zero x v used = elim v [
  | inl e ↦ absurd (used e)
  | inr more ↦ elim more [
    | inl e ↦ inl (ap (λ y. bit_at y 0) e)
    | inr more ↦ elim more [
      | inl e ↦ inl (ap (λ y. bit_at y 0) e)
      | inr e ↦ inr (ap (λ y. bit_at y 1) e)
    ]
  ]
]

pub not-unused : (x l : ℕ) → l < 8 → bit_at x l ≡ 0 → x ≢ 255
not-unused x l low zero e = let one = bit_at_ones 8 l low in let f = ap (λ y. bit_at y l) e in omega (arith, one, f, zero)

-- a vote that isn't unused isn't, while a bit of one of its unit is weak still
pub still-used : (a b : Bits) (place i k l : ℕ) → place % 1024 ≡ 0 → IsFirmer a b → i < 1024 → k < 1024 → bit_at (byte b.weak (place + k)) l ≡ 1 → IsVoteByte (byte a.shown (place + i))
    → byte a.shown (place + i) ≢ 255 → byte b.shown (place + i) ≢ 255
still-used a b place i k l aligned f inside low weak vote used =
    let here : (place + i) / 4096 ≡ (place + k) / 4096 = omega (arith, aligned, low, inside) in
    elim (used-zero (byte a.shown (place + i)) vote used) [
      | inl zero ↦ not-unused (byte b.shown (place + i)) 0 (omega arith) (f.zeros (place + k) l (place + i) 0 weak here zero)
      | inr zero ↦ not-unused (byte b.shown (place + i)) 1 (omega arith) (f.zeros (place + k) l (place + i) 1 weak here zero)
    ]

-- what a settled memory has for a vote: unused, closed or given up
abbrev pub IsSettledByte : ℕ → Type 0
IsSettledByte x = (x ≡ 255) ⊎ (x ≡ 252) ⊎ (x ≡ 253)

module _ (old new : Bits) (place k : ℕ) (aligned : place % 1024 ≡ 0) (low : k < 1024) (f : IsFirmer old new) (bits : byte old.weak (place + k) < 4) (half : byte old.shown (place + k) ≡ 255 → (byte old.weak (place + k) ≡ 0) ⊎ IsLowestUnused old.shown place k)
    (zeros : (l : ℕ) → l < 8 → bit_at (byte old.shown (place + k)) l ≡ 0 → bit_at (byte new.weak (place + k)) l ≡ 0)
    (votes : (i : ℕ) → i < 1024 → IsVoteByte (byte old.shown (place + i))) where
  -- the bits from bit 2 on are firm
  high : (l : ℕ) → 2 ≤ l → bit_at (byte new.weak (place + k)) l ≡ 0
  high l from = firm-stays old new (place + k) l f (bit_at_above (byte old.weak (place + k)) 2 l bits from)

  stays-used : (l i : ℕ) → bit_at (byte new.weak (place + k)) l ≡ 1 → i < 1024 → byte old.shown (place + i) ≢ 255 → byte new.shown (place + i) ≢ 255
  stays-used l i weak inside = still-used old new place i k l aligned f inside low weak (votes i inside)

  -- one with a weak bit that is unused now was, and is the lowest one
  still-lowest : (l : ℕ) → bit_at (byte new.weak (place + k)) l ≡ 1 → byte new.shown (place + k) ≡ 255 → IsRecoveredVote new place k
  still-lowest l weak unused = elim (cases_eq (byte old.shown (place + k)) 255) [
    | inr used ↦ absurd (stays-used l k weak low used unused)
    | inl was ↦ elim (half was) [
      | inl firmly ↦
          let z = bit_at-zero l in
          let e = ap (λ x. bit_at x l) firmly in
          let w = f.weak (place + k) l weak in
          absurd (omega (arith, z, e, w))
      | inr first ↦ lowest (below-four (byte new.weak (place + k)) high) (record { unused = unused; below = λ i under. stays-used l i weak (omega (arith, under, low)) (first.below i under) })
    ]
  ]

  -- a weak bit reads 1, as it did
  reads-one : (l : ℕ) → l < 8 → bit_at (byte new.weak (place + k)) l ≡ 1 → bit_at (byte new.shown (place + k)) l ≡ 1
  reads-one l small weak =
      let two = bit_at-lt (byte old.shown (place + k)) l in
      elim (cases_eq (bit_at (byte old.shown (place + k)) l) 0) [
        | inl zero ↦ (let z = zeros l small zero in absurd (omega (arith, z, weak)))
        | inr one ↦ f.reads (place + k) l 1 weak (omega (arith, two, one))
      ]

  pub recovered : IsSettledByte (byte new.shown (place + k)) → IsRecoveredVote new place k
  recovered settled = elim (cases_eq (bit_at (byte new.weak (place + k)) 1) 0) [
    | inr one ↦
        let two = bit_at-lt (byte new.weak (place + k)) 1 in
        let weak : bit_at (byte new.weak (place + k)) 1 ≡ 1 = omega (arith, two, one) in
        let reads = reads-one 1 (omega arith) weak in
        elim settled [
          | inl unused ↦ still-lowest 1 weak unused
          | inr used ↦ elim used [
            | inl e ↦ (let z = ap (λ x. bit_at x 1) e in absurd (omega (arith, z, reads)))
            | inr e ↦ (let z = ap (λ x. bit_at x 1) e in absurd (omega (arith, z, reads)))
          ]
        ]
    | inl firm1 ↦ elim (cases_eq (bit_at (byte new.weak (place + k)) 0) 0) [
      | inl firm0 ↦ is_firm (firm (same_from_bits (byte new.weak (place + k)) 0 (λ l. elim (cases_lt l 2) [
        | inr from ↦ high l from ∙ sym (bit_at-zero l)
        | inl under ↦ elim (cases_eq l 0) [
          | inl e ↦ ap (λ x. bit_at (byte new.weak (place + k)) x) e ∙ (firm0 ∙ sym (bit_at-zero l))
          | inr n ↦ (let e : l ≡ 1 = omega (arith, n, under) in ap (λ x. bit_at (byte new.weak (place + k)) x) e ∙ (firm1 ∙ sym (bit_at-zero l)))
        ]
      ])))
      | inr one ↦
          let two = bit_at-lt (byte new.weak (place + k)) 0 in
          let weak : bit_at (byte new.weak (place + k)) 0 ≡ 1 = omega (arith, two, one) in
          let reads = reads-one 0 (omega arith) weak in
          let small : byte new.weak (place + k) < 2 = below-two (byte new.weak (place + k)) (λ l from. elim (cases_eq l 1) [
            | inl e ↦ ap (λ x. bit_at (byte new.weak (place + k)) x) e ∙ firm1
            | inr n ↦ high l (omega (arith, n, from))
          ]) in
          elim settled [
            | inl unused ↦ still-lowest 0 weak unused
            | inr used ↦ elim used [
              | inl e ↦ (let z = ap (λ x. bit_at x 0) e in absurd (omega (arith, z, reads)))
              | inr e ↦ is_firm (given_up (omega (arith, small)) (omega (arith, e)) (omega (arith, e)))
            ]
          ]
    ]
  ]
