-- The journals of a chip that is erased but for its superblock.
use Rattle.std.proofs.Common.{◌≡◌, ℕ, ◌+◌, ◌*◌, ◌<◌, ◌≤◌, not, ◌||◌, List, length, refl, sym, ◌∙◌, arith}
use Rattle.std.specs.Prelude.{◌==◌}
use Rattle.std.proofs.lemmas.Grind.{same_number_lists}
use Rattle.chip_model.specs.Memory.{byte}
use Rattle.chip_model.specs.Geometry.{IsChipSize, block_count}
use Rattle.chip_model.specs.Parts.{part}
use Rattle.chip_model.proofs.PartLaws.{part-whole, get-part}
use Rattle.nor_layout.specs.declared.journal.JournalId.TheVariants.{J0, J1, J2}
use Rattle.nor_layout.specs.Journals.{first_at, second_at}
use Rattle.erase_journal.specs.declared.scan.VoteCounts.{VoteCounts}
use Rattle.erase_journal.specs.Journals.{votes_at, free_entries, open_blocks, is_free_entry, IsSettled}
use Rattle.erase_journal.specs.Blocks.{block, blank, IsErasedBehind}
use Rattle.erase_journal.proofs.BlockLaws.{length-blank, byte-blank}
use Rattle.erase_journal.proofs.Counts.{how_many-all, how_many-each_fails}
use Rattle.erase_journal.proofs.Opened.{none-blocks}
use Rattle.erase_journal.proofs.Blocks.{plain-none}

-- a region of unused votes alone
pub record AllUnused (v : VoteCounts) : Type 0 where
  pub unused : v.unused ≡ 1024
  pub opened : v.opened ≡ 0
  pub wrong : v.wrong ≡ 0

blank-votes : (m : List ℕ) (at : ℕ) → ((k : ℕ) → k < 1024 → byte m (at + k) ≡ 255) → AllUnused (votes_at m at)
unfolding votes_at
blank-votes m at ff = record {
  unused = how_many-all (λ k. byte m (at + k) == 255) 1024 (λ k low. rw (ff k low) refl);
  opened = how_many-each_fails (λ k. byte m (at + k) == 254) 1024 (λ k low. rw (ff k low) refl);
  wrong = how_many-each_fails (λ k. not (byte m (at + k) == 255 || byte m (at + k) == 254 || byte m (at + k) == 252 || byte m (at + k) == 253)) 1024 (λ k low. rw (ff k low) refl);
}

blank-free : (m : List ℕ) → ((k : ℕ) → 6144 ≤ k → k < 8192 → byte m k ≡ 255) → free_entries m ≡ 512
unfolding free_entries
blank-free m ff = how_many-all (is_free_entry m) 512 (λ i low.
    rw (ff (6144 + 4 * i + 0) (omega arith) (omega arith), ff (6144 + 4 * i + 1) (omega arith) (omega arith), ff (6144 + 4 * i + 2) (omega arith) (omega arith), ff (6144 + 4 * i + 3) (omega arith) (omega arith)) refl)

blank-open : (m : List ℕ) → ((k : ℕ) → 6144 ≤ k → k < 8192 → byte m k ≡ 255) → open_blocks m ≡ 0
blank-open m ff = none-blocks m (λ i low. rw (ff (6144 + 4 * i + 0) (omega arith) (omega arith)) refl)

pub erased-settled : (m : List ℕ) → IsChipSize (length m) → IsErasedBehind m → IsSettled m
erased-settled m size ff =
    let votes : (at : ℕ) → 4096 ≤ at → at + 1024 ≤ 16384 → AllUnused (votes_at m at) =
    λ at low high. blank-votes m at (λ k small. let least = size.least in ff (at + k) (omega arith) (omega arith)) in
    let entries : (k : ℕ) → 6144 ≤ k → k < 8192 → byte m k ≡ 255 = λ k low high. let least = size.least in ff k (omega arith) (omega arith) in
    let a = votes (second_at J1) (omega arith) (omega arith) in
    let b = votes (first_at J2) (omega arith) (omega arith) in
    let c = votes (second_at J2) (omega arith) (omega arith) in
    let d = votes (first_at J0) (omega arith) (omega arith) in
    let e = votes (second_at J0) (omega arith) (omega arith) in
    let f = votes (first_at J1) (omega arith) (omega arith) in
    let none = blank-open m entries in
    let free = blank-free m entries in
    record {
      sound = record { phase = grind arith; lasts = grind arith };
      none = none;
    }

pub erased-blocks : (m : List ℕ) → IsChipSize (length m) → IsErasedBehind m → (b : ℕ) → 4 ≤ b → b < block_count (length m) → block m b ≡ blank
erased-blocks m size ff b low high =
    let settled = erased-settled m size ff in
    let whole : length (part 4096 m b) ≡ 4096 = part-whole 4096 m b (omega arith) in
    (plain-none m settled.none).own b
    ∙ same_number_lists (part 4096 m b) blank (whole ∙ sym length-blank) (λ k small.
    let inside : k < 4096 = omega (arith, whole) in
    get-part 4096 m b k inside ∙ (ff (4096 * b + k) (omega arith) (omega arith) ∙ sym (byte-blank k inside)))
