-- What a chip tells of itself, and what a probe answers. Source: datasheet of the W25Q128JV, "Read
-- JEDEC ID (9Fh)" and "Status Registers", for the id bytes and the bits; JESD216 for the table;
-- own: the order of the checks and the sizes that are served.
use Rattle.std.specs.Prelude.{◌≡◌, ℕ, ◌+◌, ◌/◌, ◌%◌, Bool, not, ◌&&◌, if◌then◌else◌, nat_le, ◌==◌}
use Rattle.std.specs.Prelude.{true, List, is_ok, Result, Ok, Err}
use Rattle.sfdp.specs.Params.{params_of}
use Rattle.sfdp.specs.declared.params.Params.{Params}
use Rattle.sfdp.specs.declared.error.SfdpError.{SfdpError}
use Rattle.chip_model.specs.Chip.{Chip}
use Rattle.chip_model.specs.Frames.{Id, answer_byte, id_from, is_unprotected, status_1}
use Rattle.chip_model.specs.Cut as losses
use Rattle.spi_frames.specs.declared.frames.Register.{Register}
use Rattle.spi_frames.specs.declared.frames.Register.TheVariants as registers
use Rattle.nor_driver.specs.Steps.{Woken}
use Rattle.nor_driver.specs.declared.error.ProbeError.{ProbeError}
use Rattle.nor_driver.specs.declared.error.ProbeError.TheVariants as refusals

pub record Readings : Type 0 where
  -- the three id bytes: the maker, the kind of memory, and the exponent of the size
  pub maker : ℕ
  pub kind : ℕ
  pub exponent : ℕ
  -- the 256 SFDP bytes
  pub sfdp : List ℕ
  pub status1 : ℕ
  pub status2 : ℕ
  pub status3 : ℕ

-- what a chip tells by 9Fh, 5Ah, 05h, 35h and 15h
abbrev pub told : Chip → Readings
told c = record {
  maker = answer_byte c Id 0;
  kind = answer_byte c Id 1;
  exponent = answer_byte c Id 2;
  sfdp = c.sfdp;
  status1 = status_1 c;
  status2 = c.status2;
  status3 = c.status3;
}

-- a status register's byte
abbrev pub status_of : Chip → Register → ℕ
status_of c registers.First = status_1 c
status_of c registers.Second = c.status2
status_of c registers.Third = c.status3

-- EFh 40h (Winbond, serial NOR flash), and a size from 64 KiB (10h) to 16 MiB (18h)
abbrev pub is_served_id : ℕ → ℕ → ℕ → Bool
is_served_id maker kind exponent =
    (maker == 239) && (kind == 64) && nat_le 16 exponent && nat_le exponent 24

-- BP0 to BP2 (bits 2 to 4 of status register 1), SEC (its bit 6), CMP (bit 6 of register 2) and WPS
-- (bit 2 of register 3) are 0
abbrev pub is_unprotected_by : ℕ → ℕ → ℕ → Bool
is_unprotected_by status1 status2 status3 =
    (status1 / 4 % 8 == 0) && not (status1 / 64 % 2 == 1) && not (status2 / 64 % 2 == 1)
    && not (status3 / 4 % 2 == 1)

-- the registers tell of a chip, whatever is in progress, whether nothing of it is protected
abbrev pub RegistersTellProtection : Type 0
RegistersTellProtection = (c : Chip)
    → is_unprotected_by (status_1 c) c.status2 c.status3 ≡ is_unprotected c

-- the table is accepted, or its refusal; and the exponent is that of its size: the least k with 2 ^
-- k >= size
abbrev pub sized : ℕ → Result Params SfdpError → Result Params ProbeError
sized exponent (Err e) = Err (refusals.Sfdp e)
sized exponent (Ok p) = if not (exponent == id_from 9 16 p.bytes) then Err refusals.WrongId
    else Ok p

abbrev pub unless_protected : Bool → Result Params ProbeError → Result Params ProbeError
unless_protected free (Err e) = Err e
unless_protected free (Ok p) = if not free then Err refusals.Protected else Ok p

-- the checks of the id and of the table
abbrev pub identity : Readings → Result Params ProbeError
identity t = if not (is_served_id t.maker t.kind t.exponent) then Err refusals.WrongId
    else sized t.exponent (params_of t.sfdp)

-- the checks of a probe in their order: id, table, size, protection. The first that fails gives its
-- refusal; where none fails the answer is what the table says
abbrev pub probe_answer : Readings → Result Params ProbeError
probe_answer t = unless_protected (is_unprotected_by t.status1 t.status2 t.status3) (identity t)

-- what the chip tells passes the checks of a probe
abbrev pub IsAcceptedChip : Chip → Type 0
IsAcceptedChip c = is_ok (probe_answer (told c)) ≡ true

-- the checks of the id and of the table answered of the chip as it is since its power came
pub record AnswersIdentity (answer : Result Params ProbeError) (c new : Chip) : Type 0 where
  pub woken : Woken c new
  pub table : answer ≡ identity (told new)

-- what these checks leave of the chip and the count of cuts, by their answer
abbrev pub Identifies : Result Params ProbeError → Chip → ℕ → Chip → ℕ → Type 0
Identifies (Ok p) c cuts new cuts' = AnswersIdentity (Ok p) c new × (cuts' ≡ cuts)
Identifies (Err refusals.Cut) c cuts new cuts' = losses.Cut c new × (cuts' ≡ cuts + 1)
Identifies (Err refusals.Slow) c cuts new cuts' = ⊥
Identifies (Err refusals.WrongId) c cuts new cuts' =
    AnswersIdentity (Err refusals.WrongId) c new × (cuts' ≡ cuts)
Identifies (Err (refusals.Sfdp e)) c cuts new cuts' =
    AnswersIdentity (Err (refusals.Sfdp e)) c new × (cuts' ≡ cuts)
Identifies (Err refusals.Protected) c cuts new cuts' = ⊥

-- a probe answered of the chip as it is since its power came
pub record AnswersProbe (answer : Result Params ProbeError) (c new : Chip) : Type 0 where
  pub woken : Woken c new
  pub table : answer ≡ probe_answer (told new)

-- what a probe leaves of the chip and the counts, by its answer: a Cut only where a loss of power
-- came in it, and never a Slow
abbrev pub Probes : Result Params ProbeError → Chip → ℕ → ℕ → Chip → ℕ → ℕ → Type 0
Probes (Ok p) c cuts slows new cuts' slows' =
    AnswersProbe (Ok p) c new × (cuts' ≡ cuts) × (slows' ≡ slows)
Probes (Err refusals.Cut) c cuts slows new cuts' slows' =
    losses.Cut c new × (cuts' ≡ cuts + 1) × (slows' ≡ slows)
Probes (Err refusals.Slow) c cuts slows new cuts' slows' = ⊥
Probes (Err refusals.WrongId) c cuts slows new cuts' slows' =
    AnswersProbe (Err refusals.WrongId) c new × (cuts' ≡ cuts) × (slows' ≡ slows)
Probes (Err (refusals.Sfdp e)) c cuts slows new cuts' slows' =
    AnswersProbe (Err (refusals.Sfdp e)) c new × (cuts' ≡ cuts) × (slows' ≡ slows)
Probes (Err refusals.Protected) c cuts slows new cuts' slows' =
    AnswersProbe (Err refusals.Protected) c new × (cuts' ≡ cuts) × (slows' ≡ slows)
