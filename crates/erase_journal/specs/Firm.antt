-- What a firm recovery makes of the entries that are used. Source: own.
use Rattle.std.specs.Prelude.{◌≡◌, ◌⊎◌, ℕ, ◌+◌, ◌*◌, false, List}
use Rattle.chip_model.specs.Memory.{byte}
use Rattle.erase_journal.specs.Scans.{is_free_in}

-- Entry i of a buffer is as it was; but where it is used and its last byte is FFh, which an open
-- entry has, that may be another one.
pub record LeavesEntry (i : ℕ) (b b' : List ℕ) : Type 0 where
  pub b0 : byte b' (4 * i) ≡ byte b (4 * i)
  pub b1 : byte b' (4 * i + 1) ≡ byte b (4 * i + 1)
  pub b2 : byte b' (4 * i + 2) ≡ byte b (4 * i + 2)
  pub last : (byte b' (4 * i + 3) ≡ byte b (4 * i + 3))
      ⊎ ((byte b (4 * i + 3) ≡ 255) × (is_free_in b i ≡ false))
