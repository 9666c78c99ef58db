-- What a programmer with a chip on a bus answers to the commands of serprog. Source: flashrom,
-- serprog-protocol.txt, version 1: the codes, the parameters, ACK (06h) and NAK (15h), and what
-- follows ACK. Own: which commands are offered, the name, the lengths that are told, that any
-- frequency is taken, and that the state of the pins changes nothing.
use Rattle.std.specs.Prelude.{◌≡◌, ℕ, ◌/◌, ◌%◌, Bool, true, not, ◌||◌, ◌&&◌, ◌==◌, nat_le}
use Rattle.std.specs.Prelude.{if◌then◌else◌, List, [], ◌∷◌, ◌++◌, length, replicate, Option}
use Rattle.std.specs.Io.KnownBytes.{Appends, Consumes}
use Rattle.chip_model.specs.Chip.{Chip}
use Rattle.serprog.specs.Protocol.{acknowledged, spiop}
use Rattle.serprog_chip.specs.Beyond.{AnswersFrame, LeavesFrame}
use Rattle.serprog_chip.specs.declared.answering.Trouble.{Trouble}
use Rattle.serprog_chip.specs.declared.request.Request.{Request}
use Rattle.serprog_chip.specs.declared.request.Request.TheVariants as asks

-- 32 bits, the least significant byte first
abbrev pub long_bytes : ℕ → List ℕ
long_bytes n = n % 256 ∷ n / 256 % 256 ∷ n / 65536 % 256 ∷ n / 16777216 % 256 ∷ []

-- the bytes of a command
abbrev pub text_of : Request → List ℕ
text_of asks.Nop = 0 ∷ []
text_of asks.Interface = 1 ∷ []
text_of asks.Commands = 2 ∷ []
text_of asks.Name = 3 ∷ []
text_of asks.SerialBuffer = 4 ∷ []
text_of asks.Buses = 5 ∷ []
text_of asks.SendLimit = 8 ∷ []
text_of asks.SyncNop = 16 ∷ []
text_of asks.ReceiveLimit = 17 ∷ []
text_of (asks.SetBus buses) = 18 ∷ buses ∷ []
text_of (asks.Frame sent receives) = spiop sent.now receives
text_of (asks.SetFrequency hertz) = 20 ∷ long_bytes hertz
text_of (asks.SetPins state) = 21 ∷ state ∷ []
text_of (asks.Unknown code) = code ∷ []

-- the commands that are offered: 00h to 05h, 08h, and 10h to 15h
abbrev pub is_listed : ℕ → Bool
is_listed code = nat_le code 5 || (code == 8) || (nat_le 16 code && nat_le code 21)

-- only a command that isn't offered is an unknown one
abbrev pub is_proper : Request → Bool
is_proper (asks.Unknown code) = not (is_listed code)
is_proper _ = true

-- ACK (06h) and NAK (15h)
abbrev pub ack : List ℕ
ack = 6 ∷ []

abbrev pub nak : List ℕ
nak = 21 ∷ []

-- the answer to Q_CMDMAP: a bit for each command that is offered
abbrev pub command_map : List ℕ
command_map = 63 ∷ 1 ∷ 63 ∷ replicate 29 0

-- "norbd chip" in ASCII, filled up with zeros to 16 bytes
abbrev pub chip_name : List ℕ
chip_name = 110 ∷ 111 ∷ 114 ∷ 98 ∷ 100 ∷ 32 ∷ 99 ∷ 104 ∷ 105 ∷ 112 ∷ replicate 6 0

-- the answer to a command that reaches no chip: version 1; a serial buffer of FFFFh bytes, which
-- says that the line holds back what comes too fast; SPI alone, bit 3, as a bus; frames of 65,536
-- bytes each way; NAK and ACK to SYNCNOP
abbrev pub serprog_reply : Request → List ℕ
serprog_reply asks.Nop = ack
serprog_reply asks.Interface = acknowledged (1 ∷ 0 ∷ [])
serprog_reply asks.Commands = acknowledged command_map
serprog_reply asks.Name = acknowledged chip_name
serprog_reply asks.SerialBuffer = acknowledged (255 ∷ 255 ∷ [])
serprog_reply asks.Buses = acknowledged (8 ∷ [])
serprog_reply asks.SendLimit = acknowledged (0 ∷ 0 ∷ 1 ∷ [])
serprog_reply asks.SyncNop = nak ++ ack
serprog_reply asks.ReceiveLimit = acknowledged (0 ∷ 0 ∷ 1 ∷ [])
serprog_reply (asks.SetBus buses) = if buses / 8 % 2 == 1 then ack else nak
serprog_reply (asks.SetFrequency hertz) = if hertz == 0 then nak
    else acknowledged (long_bytes hertz)
serprog_reply (asks.SetPins state) = ack
serprog_reply _ = nak

-- The answer to a command, and the chip after it: O_SPIOP is one frame, whose received bytes follow
-- ACK, as the model has it or, of what the model ignores, as `AnswersFrame` has it; of the other
-- commands the chip learns nothing.
abbrev pub SerprogAnswers : Chip → Request → List ℕ → Chip → Type 0
SerprogAnswers c (asks.Frame sent receives) told left = (received : List ℕ)
    × (told ≡ acknowledged received) × (length received ≡ receives)
    × AnswersFrame c sent.now received left
SerprogAnswers c request told left = (told ≡ serprog_reply request) × (left ≡ c)

-- A command without an answer: such a frame, or the chip learned of nothing.
abbrev pub SerprogLeaves : Chip → ℕ → Request → Trouble → Chip → ℕ → Type 0
SerprogLeaves c cuts (asks.Frame sent receives) trouble left cuts' =
    LeavesFrame c cuts sent.now trouble left cuts'
SerprogLeaves c cuts request trouble left cuts' = (left ≡ c) × (cuts' ≡ cuts)

-- One command: its bytes are taken off the one stream, and its answer is written to the other.
abbrev pub Serves : Chip → Option (List ℕ) → Option (List ℕ) → Option (List ℕ) → Option (List ℕ)
    → Chip → Type 0
Serves c taken taken' written written' left = (request : Request) × (told : List ℕ)
    × (is_proper request ≡ true) × Consumes taken taken' (text_of request)
    × SerprogAnswers c request told left × Appends written written' told
