-- The blocks that open entries name: none, or one.
use Rattle.std.proofs.Common.{◌≡◌, ℕ, ◌<◌, ◌≤◌, Bool, true, false, ◌&&◌, List, length, refl, arith, inl, inr}
use Rattle.std.specs.Prelude.{nat_lt, ◌==◌}
use Rattle.std.proofs.lemmas.Bool.{cases_lt}
use Rattle.std.proofs.lemmas.Bool.Decides.{nat_tests}
use Rattle.chip_model.specs.Geometry.{block_count}
use Rattle.erase_journal.specs.Journals.{entry_block, is_open_entry, open_blocks, entries_for}
use Rattle.erase_journal.proofs.Counts.{how_many-none, how_many-some, how_many-two, how_many-one, how_many-each_fails, how_many-find}

pub true-or-false : (b : Bool) → (b ≡ true → ⊥) → b ≡ false
true-or-false true other = absurd (other refl)
true-or-false false other = refl

-- an open entry names a block of the chip
pub within-chip : (m : List ℕ) (i : ℕ) → is_open_entry m i ≡ true → entry_block m i < block_count (length m)
within-chip m i opened = grind (arith, nat_tests)

pub named-some : (i c : ℕ) (m : List ℕ) → i < 512 → is_open_entry m i ≡ true → entry_block m i ≡ c → 0 < entries_for m c
unfolding entries_for
named-some i c m low opened names = how_many-some (λ j. is_open_entry m j && entry_block m j == c) 512 i low (grind (arith, nat_tests))

pub named-none : (m : List ℕ) (b : ℕ) → ((k : ℕ) → k < 512 → is_open_entry m k ≡ true → entry_block m k ≡ b → ⊥) → entries_for m b ≡ 0
unfolding entries_for
named-none m b h = how_many-each_fails (λ j. is_open_entry m j && entry_block m j == b) 512
    (λ k low. true-or-false (is_open_entry m k && entry_block m k == b) (λ both. h k low (grind (arith, nat_tests)) (grind (arith, nat_tests))))

tested : (m : List ℕ) (b : ℕ) → 0 < entries_for m b → nat_lt 0 (entries_for m b) ≡ true
tested m b some = grind (arith, nat_tests)

-- none is open
pub none-open : (m : List ℕ) → open_blocks m ≡ 0 → (k : ℕ) → k < 512 → is_open_entry m k ≡ false
unfolding open_blocks
none-open m none k low = true-or-false (is_open_entry m k) (λ opened.
    let some = tested m (entry_block m k) (named-some k (entry_block m k) m low opened refl) in
    let no = how_many-none (λ b. nat_lt 0 (entries_for m b)) (block_count (length m)) none (entry_block m k) (within-chip m k opened) in
    cc)

pub none-named : (m : List ℕ) (b : ℕ) → open_blocks m ≡ 0 → entries_for m b ≡ 0
none-named m b none = named-none m b (λ k low opened names. let no = none-open m none k low in cc)

pub none-blocks : (m : List ℕ) → ((k : ℕ) → k < 512 → is_open_entry m k ≡ false) → open_blocks m ≡ 0
unfolding open_blocks
none-blocks m none = how_many-each_fails (λ b. nat_lt 0 (entries_for m b)) (block_count (length m))
    (λ b low. let z = named-none m b (λ k small opened names. let no = none k small in cc) in grind (arith, nat_tests))

pub some-blocks : (m : List ℕ) (k : ℕ) → k < 512 → is_open_entry m k ≡ true → 1 ≤ open_blocks m
some-blocks m k low opened = elim (cases_lt 0 (open_blocks m)) [
  | inl some ↦ omega arith
  | inr none ↦ let no = none-open m (omega arith) k low in absurd (cc)
]

-- those that are name one block
pub one-block : (m : List ℕ) (c : ℕ) → ((k : ℕ) → k < 512 → is_open_entry m k ≡ true → entry_block m k ≡ c) → open_blocks m ≤ 1
unfolding open_blocks
one-block m c h = how_many-one (λ b. nat_lt 0 (entries_for m b)) (block_count (length m)) c
    (λ b low other. let z = named-none m b (λ k small opened names. let e = h k small opened in other (omega arith)) in grind (arith, nat_tests))

two-blocks : (m : List ℕ) (i k : ℕ) → open_blocks m ≤ 1 → i < 512 → k < 512 → is_open_entry m i ≡ true → is_open_entry m k ≡ true → entry_block m i < entry_block m k → ⊥
unfolding open_blocks
two-blocks m i k one low small opened also less =
    let a = tested m (entry_block m i) (named-some i (entry_block m i) m low opened refl) in
    let b = tested m (entry_block m k) (named-some k (entry_block m k) m small also refl) in
    let two = how_many-two (λ b. nat_lt 0 (entries_for m b)) (block_count (length m)) (entry_block m i) (entry_block m k) less (within-chip m k also) a b in
    omega arith

pub same-block : (m : List ℕ) (i k : ℕ) → open_blocks m ≤ 1 → i < 512 → k < 512 → is_open_entry m i ≡ true → is_open_entry m k ≡ true → entry_block m i ≡ entry_block m k
same-block m i k one low small opened also = elim (cases_lt (entry_block m i) (entry_block m k)) [
  | inl less ↦ absurd (two-blocks m i k one low small opened also less)
  | inr not_less ↦ elim (cases_lt (entry_block m k) (entry_block m i)) [
    | inl more ↦ absurd (two-blocks m k i one small low also opened more)
    | inr not_more ↦ omega arith
  ]
]

-- any two that are name the same block
some-named : (m : List ℕ) → 0 < open_blocks m → (b : ℕ) × (0 < entries_for m b)
unfolding open_blocks
some-named m some = let f = how_many-find (λ b. nat_lt 0 (entries_for m b)) (block_count (length m)) some in let t = f.2 in (f.0, grind (arith, nat_tests))

pub some-open : (m : List ℕ) (b : ℕ) → 0 < entries_for m b → (i : ℕ) × (i < 512) × (is_open_entry m i ≡ true) × (entry_block m i ≡ b)
unfolding entries_for
some-open m b some = let f = how_many-find (λ i. is_open_entry m i && entry_block m i == b) 512 some in let t = f.2 in (f.0, f.1, grind (arith, nat_tests), grind (arith, nat_tests))

pub any-two : (m : List ℕ) → ((i k : ℕ) → i < 512 → k < 512 → is_open_entry m i ≡ true → is_open_entry m k ≡ true → entry_block m i ≡ entry_block m k) → open_blocks m ≤ 1
any-two m h = elim (cases_lt 0 (open_blocks m)) [
  | inl some ↦ (let n = some-named m some in let i = some-open m n.0 n.1 in one-block m (entry_block m i.0) (λ k small opened. h k i.0 small i.1 opened i.2))
  | inr none ↦ omega arith
]
