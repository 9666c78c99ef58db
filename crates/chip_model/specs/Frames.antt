-- One frame: the bytes that are sent and then the bytes that are received, on a powered chip.
-- Source: datasheet of the W25Q128JV, the instruction set table, the descriptions of the
-- instructions, and "Status Registers" for the bits and for the table of block protection. Own:
-- addresses modulo the chip's size, reads that wrap at its end, frames of another length or code
-- (ignored), what a busy chip ignores, changes of a protected place, and the limit of 65,535 status
-- reads.
use Rattle.std.specs.Prelude.{◌≡◌, ℕ, zero, suc, ◌+◌, ◌-◌, ◌*◌, ◌/◌, ◌%◌, ◌^◌, ◌<◌, ◌⊎◌, Bool}
use Rattle.std.specs.Prelude.{false, true, not, ◌&&◌, ◌||◌, if◌then◌else◌, nat_lt, nat_le, ◌==◌}
use Rattle.std.specs.Prelude.{List, [], ◌∷◌, length, drop}
use Rattle.chip_model.specs.Memory.{byte}
use Rattle.chip_model.specs.Chip.{Chip, Operation, Programming, Erasing, Setting, is_idle}
use Rattle.chip_model.specs.Chip.{completed}

-- what a frame asks
pub data Command : Type 0 where
  Enable : Command  -- 06h, write enable
  Disable : Command  -- 04h, write disable
  Status1 : Command  -- 05h, 35h, 15h: a status register
  Status2 : Command
  Status3 : Command
  Set : (value : ℕ) → Command  -- 01h, write status register 1
  Read : (at : ℕ) → Command  -- 03h
  Program : (at : ℕ) (bytes : List ℕ) → Command  -- 02h
  Erase : (at size : ℕ) → Command  -- 20h, D8h
  Id : Command  -- 9Fh
  Sfdp : (at : ℕ) → Command  -- 5Ah
  Unknown : Command  -- every other frame

-- nothing follows
abbrev pub with_nothing : List ℕ → Command → Command
with_nothing [] command = command
with_nothing (b ∷ bs) command = Unknown

-- one byte follows
abbrev pub with_byte : List ℕ → (ℕ → Command) → Command
with_byte [] f = Unknown
with_byte (b ∷ bs) f = with_nothing bs (f b)

-- three bytes of address follow, the most significant first, and then the rest
abbrev pub with_third : ℕ → ℕ → List ℕ → (ℕ → List ℕ → Command) → Command
with_third a b [] f = Unknown
with_third a b (c ∷ rest) f = f (a * 65536 + b * 256 + c) rest

abbrev pub with_second : ℕ → List ℕ → (ℕ → List ℕ → Command) → Command
with_second a [] f = Unknown
with_second a (b ∷ rest) f = with_third a b rest f

abbrev pub with_address : List ℕ → (ℕ → List ℕ → Command) → Command
with_address [] f = Unknown
with_address (a ∷ rest) f = with_second a rest f

-- a program has at least one byte
abbrev pub program_of : ℕ → List ℕ → Command
program_of at bytes = if nat_lt 0 (length bytes) then Program at bytes else Unknown

-- the instruction table: a code, and what is sent after it
abbrev pub command_for : ℕ → List ℕ → Command
command_for code rest =
    if code == 6 then with_nothing rest Enable else
    if code == 4 then with_nothing rest Disable else
    if code == 5 then with_nothing rest Status1 else
    if code == 53 then with_nothing rest Status2 else
    if code == 21 then with_nothing rest Status3 else
    if code == 1 then with_byte rest Set else
    if code == 3 then with_address rest (λ at more. with_nothing more (Read at)) else
    if code == 2 then with_address rest program_of else
    if code == 32 then with_address rest (λ at more. with_nothing more (Erase at 4096)) else
    if code == 216 then with_address rest (λ at more. with_nothing more (Erase at 65536)) else
    if code == 159 then with_nothing rest Id else
    if code == 90 then with_address rest (λ at more. with_byte more (λ dummy. Sfdp at)) else
    Unknown

abbrev pub command_of : List ℕ → Command
command_of [] = Unknown
command_of (code ∷ rest) = command_for code rest

-- the least k from there on with 2 ^ k >= size, in that many steps
abbrev pub id_from : ℕ → ℕ → ℕ → ℕ
id_from zero k size = k
id_from (suc n) k size = if nat_le size (2 ^ k) then k else id_from n (k + 1) size

-- EFh (Winbond), 40h, and the size's exponent: 18h for 16 MiB, 10h for 64 KiB
abbrev pub id_byte : ℕ → ℕ → ℕ
id_byte size k = if k == 0 then 239 else if k == 1 then 64 else if k == 2 then id_from 9 16 size
    else 255

-- status register 1
abbrev pub status_1 : Chip → ℕ
status_1 c = 4 * c.protection + (if c.enabled then 2 else 0)
    + (if is_idle c.operation then 0 else 1)

-- the byte at place k of the answer of a chip that takes the frame
abbrev pub answer_byte : Chip → Command → ℕ → ℕ
answer_byte c Status1 k = status_1 c
answer_byte c Status2 k = c.status2
answer_byte c Status3 k = c.status3
answer_byte c (Read at) k = byte c.memory ((at + k) % length c.memory)
answer_byte c Id k = id_byte (length c.memory) k
answer_byte c (Sfdp at) k = byte c.sfdp ((at + k) % 256)
answer_byte c _ k = 255

-- SEC, CMP or WPS is set
abbrev pub is_foreign : Chip → Bool
is_foreign c = (c.protection / 16 % 2 == 1) || (c.status2 / 64 % 2 == 1) || (c.status3 / 4 % 2 == 1)

-- the part of the chip that BP0 to BP2 and TB protect reaches into the `size` bytes at a: 1/64 of
-- the chip for 001, doubled with each further number, up to the whole for 111; at the upper end
-- where TB is 0, at the lower end where it is 1
abbrev pub is_in_part : Chip → ℕ → ℕ → Bool
is_in_part c a size =
    if c.protection / 8 % 2 == 0
    then nat_lt (length c.memory - length c.memory / 2 ^ (7 - c.protection % 8)) (a + size)
    else nat_lt a (length c.memory / 2 ^ (7 - c.protection % 8))

-- where SEC, CMP or WPS is set the whole chip counts as protected (own)
abbrev pub is_protected : Chip → ℕ → ℕ → Bool
is_protected c a size = is_foreign c || (not (c.protection % 8 == 0) && is_in_part c a size)

-- the operation is in progress from now on
abbrev pub starts : Chip → Operation → Chip
starts c o = record c { operation = o; polls = 0 }

abbrev pub with_enabled : Chip → Bool → Chip
with_enabled c b = record c { enabled = b }

abbrev pub with_polls : Chip → ℕ → Chip
with_polls c n = record c { polls = n }

-- a change of the n places from a on: ignored without WEL; where one of them is protected, WEL is
-- cleared and that is all
abbrev pub if_allowed : Chip → ℕ → ℕ → Operation → Chip
if_allowed c a n o = if not c.enabled then c else if is_protected c a n then with_enabled c false
    else starts c o

-- of n bytes that begin at this address only the last 256 count; the first of them falls here
abbrev pub latched_at : ℕ → ℕ → ℕ
latched_at at n = at / 256 * 256 + (at % 256 + (n - 256)) % 256

-- the chip after a frame that it takes
abbrev pub after_command : Chip → Command → Chip
after_command c Enable = with_enabled c true
after_command c Disable = with_enabled c false
after_command c (Set value) = if c.enabled then starts c (Setting value) else c
after_command c (Program at bytes) =
    if_allowed c (at % length c.memory / 256 * 256) 256
    (Programming (latched_at (at % length c.memory) (length bytes))
    (drop (length bytes - 256) bytes))
after_command c (Erase at size) =
    if_allowed c (at % length c.memory / size * size) size
    (Erasing (at % length c.memory / size * size) size)
after_command c _ = c

-- the bytes received, as many as the bus asks for
abbrev pub Receives : Chip → Command → List ℕ → Type 0
Receives c command received = (k : ℕ) → k < length received
    → byte received k ≡ answer_byte c command k

abbrev pub is_status : Command → Bool
is_status Status1 = true
is_status Status2 = true
is_status Status3 = true
is_status _ = false

-- the status reads of an operation that answered BUSY 1 are counted up to 65,535
abbrev pub one_more_poll : ℕ → ℕ
one_more_poll n = if nat_lt n 65535 then n + 1 else n

-- One frame. An idle chip takes it. While an operation is in progress, a read of status 1 answers
-- BUSY 1, or the operation has completed and it answers of the chip after it; the other status
-- registers are read, and every other frame is ignored. The only free choice is at which read of
-- status 1 an operation completes.
pub data Frame (c : Chip) (sent received : List ℕ) (new : Chip) : Type 0 where
  taken : is_idle c.operation ≡ true → Receives c (command_of sent) received
      → new ≡ after_command c (command_of sent) → Frame c sent received new
  busy : is_idle c.operation ≡ false → command_of sent ≡ Status1 → Receives c Status1 received
      → new ≡ with_polls c (one_more_poll c.polls) → Frame c sent received new
  done : is_idle c.operation ≡ false → command_of sent ≡ Status1
      → Receives (completed c) Status1 received → new ≡ completed c → Frame c sent received new
  status : is_idle c.operation ≡ false → (command_of sent ≡ Status2) ⊎ (command_of sent ≡ Status3)
      → Receives c (command_of sent) received → new ≡ c → Frame c sent received new
  ignored : is_idle c.operation ≡ false → is_status (command_of sent) ≡ false
      → Receives c Unknown received → new ≡ c → Frame c sent received new

-- how many operations became slow in this frame: 1 where the 65,535th status read of an operation
-- answered BUSY 1, else 0
abbrev pub newly_slow : Chip → Chip → ℕ
newly_slow c new = if nat_lt c.polls 65535 && nat_le 65535 new.polls then 1 else 0

-- BP, SEC, CMP and WPS are all 0: nothing is protected
abbrev pub is_unprotected : Chip → Bool
is_unprotected c = not (is_foreign c) && (c.protection % 8 == 0)

-- A bus is quiet in a run where its count of slow operations doesn't rise in it: each operation is
-- then completed by its 65,535th status read at the latest.
abbrev pub IsBusQuiet : ℕ → ℕ → Type 0
IsBusQuiet slows slows' = slows' ≡ slows

-- so on a quiet bus the last status read that is left for an operation finds it completed
abbrev pub QuietCompletes : Type 0
QuietCompletes = (c new : Chip) (sent received : List ℕ) (slows : ℕ) → is_idle c.operation ≡ false
    → command_of sent ≡ Status1
    → c.polls ≡ 65534 → Frame c sent received new → IsBusQuiet slows (slows + newly_slow c new)
    → Receives (completed c) Status1 received × (new ≡ completed c)
