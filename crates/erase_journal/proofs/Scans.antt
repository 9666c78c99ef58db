-- Laws of the counts that a scan makes.
use Rattle.std.proofs.Common.{◌≡◌, ◌≢◌, ℕ, ◌+◌, ◌<◌, true, false, not, ◌||◌, ◌&&◌, List, length, get_or, get_or-take, get_or-drop, Option, Some, None, ◌-◌, ◌*◌, ◌/◌, refl, sym, ap, ◌∙◌, arith, inl, inr, add-one, if◌then◌else◌}
use Rattle.std.specs.Prelude.{◌==◌, nat_lt, MatchOption, slice_range}
use Rattle.std.proofs.lemmas.Bool.{cases_eq}
use Rattle.chip_model.specs.Memory.{byte}
use Rattle.nor_layout.specs.Entries.{block_in, is_open}
use Rattle.erase_journal.specs.Journals.{votes_at, free_entries, open_blocks, entries_for, is_free_entry, is_open_entry, entry_bytes, entry_block}
use Rattle.erase_journal.specs.declared.scan.VoteCounts.{VoteCounts}
use Rattle.erase_journal.specs.declared.scan.OpenEntry.{OpenEntry}
use Rattle.std.proofs.lemmas.Bool.Decides.{nat_tests}
use Rattle.erase_journal.specs.Scans.{count_equal, count_wrong, count_at, IsFound, free_in, is_free_in, IsFreeAnswer, entry_in, open_in, is_open_in, named_in, open_blocks_in, IsOpenAnswer}
use Rattle.erase_journal.proofs.Counts.{how_many-zero, how_many-suc, how_many-same, how_many-none, how_many-some, how_many-change, how_many-each_fails}
use Rattle.erase_journal.proofs.Opened.{none-blocks}

pub count_equal-zero : (xs : List ℕ) (value : ℕ) → count_equal xs value 0 ≡ 0
unfolding count_equal
count_equal-zero xs value = how_many-zero (λ k. byte xs k == value)

pub count_equal-next : (xs : List ℕ) (value n : ℕ) → count_equal xs value (n + 1) ≡ (if get_or xs n 0 == value then 1 else 0) + count_equal xs value n
unfolding count_equal
count_equal-next xs value n = rw add-one (how_many-suc (λ k. byte xs k == value) n)

pub count_wrong-zero : (xs : List ℕ) → count_wrong xs 0 ≡ 0
unfolding count_wrong
count_wrong-zero xs = how_many-zero (λ k. not (byte xs k == 255 || byte xs k == 254 || byte xs k == 252 || byte xs k == 253))

pub count_wrong-next : (xs : List ℕ) (n : ℕ) → count_wrong xs (n + 1) ≡ (if not (get_or xs n 0 == 255 || get_or xs n 0 == 254 || get_or xs n 0 == 252 || get_or xs n 0 == 253) then 1 else 0) + count_wrong xs n
unfolding count_wrong
count_wrong-next xs n = rw add-one (how_many-suc (λ k. not (byte xs k == 255 || byte xs k == 254 || byte xs k == 252 || byte xs k == 253)) n)

pub free_in-zero : (xs : List ℕ) → free_in xs 0 ≡ 0
unfolding free_in
free_in-zero xs = how_many-zero (is_free_in xs)

pub free_in-next : (xs : List ℕ) (n : ℕ) → free_in xs (n + 1) ≡ (if is_free_in xs n then 1 else 0) + free_in xs n
unfolding free_in
free_in-next xs n = rw add-one (how_many-suc (is_free_in xs) n)

pub open_in-zero : (xs : List ℕ) (blocks : ℕ) → open_in xs blocks 0 ≡ 0
unfolding open_in
open_in-zero xs blocks = how_many-zero (is_open_in xs blocks)

pub open_in-next : (xs : List ℕ) (blocks n : ℕ) → open_in xs blocks (n + 1) ≡ (if is_open_in xs blocks n then 1 else 0) + open_in xs blocks n
unfolding open_in
open_in-next xs blocks n = rw add-one (how_many-suc (is_open_in xs blocks) n)

pub named_in-zero : (xs : List ℕ) (blocks b : ℕ) → named_in xs blocks 0 b ≡ 0
unfolding named_in
named_in-zero xs blocks b = how_many-zero (λ i. is_open_in xs blocks i && block_in (entry_in xs i) == b)

pub named_in-next : (xs : List ℕ) (blocks n b : ℕ) → named_in xs blocks (n + 1) b ≡ (if is_open_in xs blocks n && block_in (entry_in xs n) == b then 1 else 0) + named_in xs blocks n b
unfolding named_in
named_in-next xs blocks n b = rw add-one (how_many-suc (λ i. is_open_in xs blocks i && block_in (entry_in xs i) == b) n)

pub named-found : (xs : List ℕ) (blocks n k b : ℕ) → k < n → is_open_in xs blocks k ≡ true → block_in (entry_in xs k) ≡ b → 0 < named_in xs blocks n b
unfolding named_in
named-found xs blocks n k b low opened names = how_many-some (λ i. is_open_in xs blocks i && block_in (entry_in xs i) == b) n k low (grind (arith, nat_tests))

pub open_blocks_in-zero : (xs : List ℕ) (blocks : ℕ) → open_blocks_in xs blocks 0 ≡ 0
unfolding open_blocks_in
open_blocks_in-zero xs blocks = how_many-each_fails (λ b. nat_lt 0 (named_in xs blocks 0 b)) blocks (λ b low. rw (named_in-zero xs blocks b) refl)

-- an entry that isn't open, one for a block that had one, and the first for a block
pub open_blocks_in-skip : (xs : List ℕ) (blocks n : ℕ) → is_open_in xs blocks n ≡ false → open_blocks_in xs blocks (n + 1) ≡ open_blocks_in xs blocks n
unfolding open_blocks_in
open_blocks_in-skip xs blocks n closed = how_many-same (λ b. nat_lt 0 (named_in xs blocks (n + 1) b)) (λ b. nat_lt 0 (named_in xs blocks n b)) blocks
    (λ b low. let e = rw closed at (named_in-next xs blocks n b) in grind (arith, nat_tests))

pub open_blocks_in-old : (xs : List ℕ) (blocks n : ℕ) → is_open_in xs blocks n ≡ true → 0 < named_in xs blocks n (block_in (entry_in xs n)) → open_blocks_in xs blocks (n + 1) ≡ open_blocks_in xs blocks n
unfolding open_blocks_in
open_blocks_in-old xs blocks n opened named = how_many-same (λ b. nat_lt 0 (named_in xs blocks (n + 1) b)) (λ b. nat_lt 0 (named_in xs blocks n b)) blocks
    (λ b low. let e = rw opened at (named_in-next xs blocks n b) in elim (cases_eq b (block_in (entry_in xs n))) [
      | inl same ↦ (let more = rw (sym same) at named in grind (arith, nat_tests))
      | inr other ↦ grind (arith, nat_tests)
    ])

open-within : (xs : List ℕ) (blocks n : ℕ) → is_open_in xs blocks n ≡ true → block_in (entry_in xs n) < blocks
open-within xs blocks n opened = grind (arith, nat_tests)

pub open_blocks_in-new : (xs : List ℕ) (blocks n : ℕ) → is_open_in xs blocks n ≡ true → named_in xs blocks n (block_in (entry_in xs n)) ≡ 0 → open_blocks_in xs blocks (n + 1) ≡ open_blocks_in xs blocks n + 1
unfolding open_blocks_in
open_blocks_in-new xs blocks n opened fresh =
    let c = how_many-change (λ b. nat_lt 0 (named_in xs blocks n b)) (λ b. nat_lt 0 (named_in xs blocks (n + 1) b)) blocks (block_in (entry_in xs n)) (open-within xs blocks n opened)
    (λ b low other. let e = rw opened at (named_in-next xs blocks n b) in grind (arith, nat_tests)) in
    let e = rw opened at (named_in-next xs blocks n (block_in (entry_in xs n))) in
    grind (arith, nat_tests)

pub ruleset scan_steps = (nat_tests, named_in-zero, named_in-next, free_in-zero, free_in-next, open_in-zero, open_in-next, count_equal-zero, count_equal-next, count_wrong-zero, count_wrong-next)

-- A buffer that holds a region.
region-byte : (m : List ℕ) (region k : ℕ) → k < 1024 → byte (slice_range m region (region + 1024)) k ≡ byte m (region + k)
region-byte m region k low = let e : region + 1024 - region ≡ 1024 = omega arith in let l : k < region + 1024 - region = omega arith in rw (get_or-take, get_or-drop) refl

region-count : (m : List ℕ) (region value : ℕ) → count_equal (slice_range m region (region + 1024)) value 1024 ≡ count_at m region value
unfolding count_equal count_at
region-count m region value = how_many-same (λ k. byte (slice_range m region (region + 1024)) k == value) (λ k. byte m (region + k) == value) 1024
    (λ k low. rw (region-byte m region k low) refl)

-- none of the first n is this one
none-equal : (xs : List ℕ) (value n : ℕ) → count_equal xs value n ≡ 0 → (k : ℕ) → k < n → byte xs k ≢ value
unfolding count_equal
none-equal xs value n none k low is = let f = how_many-none (λ k. byte xs k == value) n none k low in grind (arith, nat_tests)

none-free : (xs : List ℕ) (n : ℕ) → free_in xs n ≡ 0 → (k : ℕ) → k < n → is_free_in xs k ≡ false
unfolding free_in
none-free xs n none k low = how_many-none (is_free_in xs) n none k low

-- What the lowest place in the buffer says of the memory.
pub found-in : (m bytes : List ℕ) (region value : ℕ) (found : Option ℕ) → bytes ≡ slice_range m region (region + 1024) → length bytes ≡ 1024
    → MatchOption found (count_equal bytes value (length bytes) ≡ 0) (λ at. (at < length bytes) × (get_or bytes at 0 ≡ value))
    → MatchOption found (Unit {0}) (λ at. count_equal bytes value at ≡ 0) → IsFound m region value found
found-in m bytes region value None same size h first = sym (region-count m region value) ∙ (rw (size, same) at h)
found-in m bytes region value (Some at) same size h first = let low : at < 1024 = omega (arith, h.0) in (
  low,
  sym (region-byte m region at low) ∙ (rw same at h.1),
  λ k below is. none-equal bytes value at first k below (rw same (region-byte m region k (omega arith) ∙ is)),
)

pub unused-count : (m : List ℕ) (region : ℕ) → (votes_at m region).unused ≡ count_at m region 255
unfolding votes_at count_at
unused-count m region = refl

pub opened-count : (m : List ℕ) (region : ℕ) → (votes_at m region).opened ≡ count_at m region 254
unfolding votes_at count_at
opened-count m region = refl

-- A buffer that holds the entries.
buffer-byte : (m : List ℕ) (k : ℕ) → k < 2048 → byte (slice_range m 6144 8192) k ≡ byte m (6144 + k)
buffer-byte m k low = rw (get_or-take, get_or-drop) refl

buffer-free : (m : List ℕ) (i : ℕ) → i < 512 → is_free_in (slice_range m 6144 8192) i ≡ is_free_entry m i
buffer-free m i low =
    let e0 : 6144 + 4 * i + 0 ≡ 6144 + 4 * i = omega arith in
    let e1 : 6144 + 4 * i + 1 ≡ 6144 + (4 * i + 1) = omega arith in
    let e2 : 6144 + 4 * i + 2 ≡ 6144 + (4 * i + 2) = omega arith in
    let e3 : 6144 + 4 * i + 3 ≡ 6144 + (4 * i + 3) = omega arith in
    rw (buffer-byte m (4 * i) (omega arith), buffer-byte m (4 * i + 1) (omega arith), buffer-byte m (4 * i + 2) (omega arith), buffer-byte m (4 * i + 3) (omega arith), e0, e1, e2, e3) refl

buffer-count : (m : List ℕ) → free_in (slice_range m 6144 8192) 512 ≡ free_entries m
unfolding free_in free_entries
buffer-count m = how_many-same (is_free_in (slice_range m 6144 8192)) (is_free_entry m) 512 (λ i low. buffer-free m i low)

pub free-found : (m bytes : List ℕ) (found : Option ℕ) → bytes ≡ slice_range m 6144 8192
    → MatchOption found (free_in bytes 512 ≡ 0) (λ i. (i < 512) × (is_free_in bytes i ≡ true))
    → MatchOption found (Unit {0}) (λ i. free_in bytes i ≡ 0) → IsFreeAnswer m found
free-found m bytes None same h first = sym (buffer-count m) ∙ (rw same at h)
free-found m bytes (Some i) same h first = (
  h.0,
  sym (buffer-free m i h.0) ∙ (rw same at h.1),
  λ k below. sym (buffer-free m k (omega (arith, h.0))) ∙ (rw same at (none-free bytes i first k below)),
)

-- an open entry of the buffer, of a memory of so many blocks
buffer-entry : (m : List ℕ) (i : ℕ) → i < 512 → entry_in (slice_range m 6144 8192) i ≡ entry_bytes m i
buffer-entry m i low =
    let e0 : 6144 + 4 * i + 0 ≡ 6144 + 4 * i = omega arith in
    let e1 : 6144 + 4 * i + 1 ≡ 6144 + (4 * i + 1) = omega arith in
    let e2 : 6144 + 4 * i + 2 ≡ 6144 + (4 * i + 2) = omega arith in
    let e3 : 6144 + 4 * i + 3 ≡ 6144 + (4 * i + 3) = omega arith in
    rw (buffer-byte m (4 * i) (omega arith), buffer-byte m (4 * i + 1) (omega arith), buffer-byte m (4 * i + 2) (omega arith), buffer-byte m (4 * i + 3) (omega arith), e0, e1, e2, e3) refl

buffer-block : (m : List ℕ) (i : ℕ) → i < 512 → block_in (entry_in (slice_range m 6144 8192) i) ≡ entry_block m i
buffer-block m i low = ap (λ b. block_in b) (buffer-entry m i low)

pub buffer-open : (m : List ℕ) (i : ℕ) → i < 512 → is_open_in (slice_range m 6144 8192) (length m / 4096) i ≡ is_open_entry m i
buffer-open m i low = ap (λ b. is_open (length m / 4096) b) (buffer-entry m i low)

-- none is open in the buffer, and so none in the memory
open-none : (m : List ℕ) → open_in (slice_range m 6144 8192) (length m / 4096) 512 ≡ 0 → open_blocks m ≡ 0
unfolding open_in
open-none m none = none-blocks m (λ k low. sym (buffer-open m k low) ∙ how_many-none (is_open_in (slice_range m 6144 8192) (length m / 4096)) 512 none k low)

named-count : (m : List ℕ) (b : ℕ) → named_in (slice_range m 6144 8192) (length m / 4096) 512 b ≡ entries_for m b
unfolding named_in entries_for
named-count m b = how_many-same (λ i. is_open_in (slice_range m 6144 8192) (length m / 4096) i && block_in (entry_in (slice_range m 6144 8192) i) == b) (λ i. is_open_entry m i && entry_block m i == b) 512
    (λ i low. let o = buffer-open m i low in let b = buffer-block m i low in rw (o, b) refl)

open-count : (m : List ℕ) → open_blocks_in (slice_range m 6144 8192) (length m / 4096) 512 ≡ open_blocks m
unfolding open_blocks_in open_blocks
open-count m = how_many-same (λ b. nat_lt 0 (named_in (slice_range m 6144 8192) (length m / 4096) 512 b)) (λ b. nat_lt 0 (entries_for m b)) (length m / 4096) (λ b low. rw (named-count m b) refl)

pub open-found : (m bytes : List ℕ) (blocks : ℕ) (found : Option OpenEntry) → bytes ≡ slice_range m 6144 8192 → blocks ≡ length m / 4096
    → MatchOption found (open_in bytes blocks 512 ≡ 0) (λ o. (o.entry < 512) × (is_open_in bytes blocks o.entry ≡ true) × (block_in (entry_in bytes o.entry) ≡ o.block))
    → IsOpenAnswer m found
open-found m bytes blocks None same count h = open-none m (rw (same, count) at h)
open-found m bytes blocks (Some o) same count h =
    (h.0, sym (buffer-open m o.entry h.0) ∙ (rw (same, count) at h.1), sym (buffer-block m o.entry h.0) ∙ (rw same at h.2))

-- counts that agree field by field
counts-same : (c v : VoteCounts) → c.unused ≡ v.unused → c.opened ≡ v.opened → c.wrong ≡ v.wrong → c ≡ v
counts-same c v e f g =
    let counts : ℕ → ℕ → ℕ → VoteCounts = λ x y z. record { unused = x; opened = y; wrong = z } in
    ap (λ x. counts x c.opened c.wrong) e ∙ (ap (λ y. counts v.unused y c.wrong) f ∙ ap (λ z. counts v.unused v.opened z) g)

region-wrong : (m : List ℕ) (region : ℕ) → count_wrong (slice_range m region (region + 1024)) 1024 ≡ (votes_at m region).wrong
unfolding count_wrong votes_at
region-wrong m region = how_many-same (λ k. not (byte (slice_range m region (region + 1024)) k == 255 || byte (slice_range m region (region + 1024)) k == 254 || byte (slice_range m region (region + 1024)) k == 252 || byte (slice_range m region (region + 1024)) k == 253))
    (λ k. not (byte m (region + k) == 255 || byte m (region + k) == 254 || byte m (region + k) == 252 || byte m (region + k) == 253)) 1024
    (λ k low. rw (region-byte m region k low) refl)

pub votes-counted : (m bytes : List ℕ) (region : ℕ) (c : VoteCounts) → bytes ≡ slice_range m region (region + 1024) → length bytes ≡ 1024
    → c.unused ≡ count_equal bytes 255 (length bytes) → c.opened ≡ count_equal bytes 254 (length bytes) → c.wrong ≡ count_wrong bytes (length bytes)
    → c ≡ votes_at m region
votes-counted m bytes region c same size e f g = counts-same c (votes_at m region)
    ((rw (size, same) at e) ∙ (region-count m region 255 ∙ sym (unused-count m region)))
    ((rw (size, same) at f) ∙ (region-count m region 254 ∙ sym (opened-count m region)))
    ((rw (size, same) at g) ∙ region-wrong m region)

pub free-counted : (m bytes : List ℕ) (n : ℕ) → bytes ≡ slice_range m 6144 8192 → n ≡ free_in bytes 512 → n ≡ free_entries m
free-counted m bytes n same e = (rw same at e) ∙ buffer-count m

pub open-counted : (m bytes : List ℕ) (blocks n : ℕ) → bytes ≡ slice_range m 6144 8192 → blocks ≡ length m / 4096 → n ≡ open_blocks_in bytes blocks 512 → n ≡ open_blocks m
open-counted m bytes blocks n same count e = (rw (same, count) at e) ∙ open-count m
