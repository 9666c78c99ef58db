-- What the crates above need of blocks: their lengths, and a memory against itself.
use Rattle.std.proofs.Common.{◌≡◌, ℕ, ◌<◌, ◌&&◌, cond, Bool, true, false, List, length, arith}
use Rattle.std.specs.Prelude.{nat_lt}
use Rattle.std.proofs.lemmas.List.{length-replicate, get_or-replicate}
use Rattle.chip_model.specs.Memory.{byte}
use Rattle.chip_model.specs.Parts.{part}
use Rattle.chip_model.proofs.PartLaws.{part-whole}
use Rattle.chip_model.specs.Geometry.{block_count}
use Rattle.erase_journal.specs.Journals.{entries_for}
use Rattle.erase_journal.specs.Blocks.{blank, block, is_believed0}

pub length-blank : length blank ≡ 4096
unfolding blank
length-blank = length-replicate {A = ℕ} 4096 255

pub byte-blank : (k : ℕ) → k < 4096 → byte blank k ≡ 255
unfolding blank
byte-blank k low = get_or-replicate {A = ℕ} 4096 k 255 0 low

either-long : (t : Bool) (a b : List ℕ) → length a ≡ 4096 → length b ≡ 4096 → length (cond t a b) ≡ 4096
either-long true a b p q = p
either-long false a b p q = q

-- a block has 4,096 bytes
pub length-block : (m : List ℕ) (b : ℕ) → b < block_count (length m) → length (block m b) ≡ 4096
unfolding block
length-block m b low = either-long (is_believed0 m && nat_lt 0 (entries_for m b)) blank (part 4096 m b) length-blank (part-whole 4096 m b (omega arith))
