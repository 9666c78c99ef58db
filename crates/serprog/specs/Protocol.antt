-- The bytes of serprog's commands and of their answers. Source: flashrom, serprog-protocol.txt,
-- version 1.
use Rattle.std.specs.Prelude.{ℕ, ◌/◌, ◌%◌, ◌^◌, Bool, ◌==◌, List, [], ◌∷◌, ◌++◌, length}
use Rattle.std.specs.Prelude.{get_or}
use Rattle.chip_model.specs.declared.programmer.Turn.{Turn}

-- 24 bits, the least significant byte first
abbrev pub three_bytes : ℕ → List ℕ
three_bytes n = n % 256 ∷ n / 256 % 256 ∷ n / 65536 % 256 ∷ []

-- O_SPIOP, 13h: how many bytes are sent to the chip, how many are received from it, and then the
-- bytes that are sent
abbrev pub spiop : List ℕ → ℕ → List ℕ
spiop sent received = (19 ∷ (three_bytes (length sent) ++ three_bytes received)) ++ sent

-- ACK, 06h, and then what was asked for
abbrev pub acknowledged : List ℕ → List ℕ
acknowledged told = 6 ∷ told

-- the answer to Q_CMDMAP has a bit for each command: bit k mod 8 of byte k / 8 for the command k
abbrev pub is_offered : List ℕ → ℕ → Bool
is_offered map command = get_or map (command / 8) 0 / 2 ^ (command % 8) % 2 == 1

-- the commands that are these turns, one after another
abbrev pub spiops : List Turn → List ℕ
spiops [] = []
spiops (t ∷ ts) = spiop t.send.items (length t.recv.items) ++ spiops ts

-- what comes back where each of them is answered
abbrev pub answers : List Turn → List ℕ
answers [] = []
answers (t ∷ ts) = acknowledged t.recv.items ++ answers ts
