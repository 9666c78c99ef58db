-- What one call of the parser says of the unit begun, and of each text that the parser represents
-- (own).
use Rattle.std.specs.Prelude.{ℕ, ◌≡◌, List, [], ◌∷◌, ◌++◌}
use Rattle.nbd_wire.specs.declared.export.Export.{Export}
use Rattle.nbd_wire.specs.Numbers.{REQUEST_LEN}
use Rattle.nbd_wire.specs.declared.phase.Phase.{Phase}
use Rattle.nbd_wire.specs.declared.phase.Phase.TheVariants.{Transmitting}
use Rattle.nbd_wire.specs.Units.{Splits, after}
use Rattle.nbd_wire.specs.Parser.{ParserState, Waits, Completes}
use Rattle.nbd_wire.specs.declared.next.Next.{Next}
use Rattle.nbd_wire.specs.declared.next.Next.TheVariants.{More, Reply, Run, Close}
use Rattle.nbd_transmission.specs.declared.transmission.Refusal.{Refusal}
use Rattle.nbd_transmission.specs.Taking.{answer_to}

-- the bytes are a unit, and this is its answer
abbrev pub TransmissionAnswersUnit : ParserState → List ℕ → Next Refusal → ParserState → Type 0
TransmissionAnswersUnit old unit next new =
    Completes REQUEST_LEN old unit new × (next ≡ answer_to old.export unit)

-- More where all bytes of the unit begun that have come are no unit yet; any other answer where
-- they are one.
abbrev pub TransmissionAdvances : ParserState → List ℕ → Next Refusal → ParserState → Type 0
TransmissionAdvances old rest More new = Waits REQUEST_LEN old rest new
TransmissionAdvances old rest (Run c) new = TransmissionAnswersUnit old rest (Run c) new
TransmissionAdvances old rest (Reply refusal) new =
    TransmissionAnswersUnit old rest (Reply refusal) new
TransmissionAdvances old rest Close new = TransmissionAnswersUnit old rest Close new

-- the new text has one unit more than the old one, ends with it, and this is its answer
pub record TransmissionOneMore (start : Phase) (export : Export) (new : List ℕ)
    (next : Next Refusal) (units : List (List ℕ)) : Type 0 where
  pub unit : List ℕ
  pub split : Splits start new (units ++ unit ∷ []) [] (after Transmitting unit)
  pub answer : next ≡ answer_to export unit

-- More where the new text has the old text's units and no other; any other answer where it has one
-- more.
abbrev pub TransmissionNextOrMore : Phase → Export → List ℕ → Next Refusal → List (List ℕ)
    → Type 0
TransmissionNextOrMore start export new More units =
    (rest : List ℕ) × Splits start new units rest Transmitting
TransmissionNextOrMore start export new (Run c) units =
    TransmissionOneMore start export new (Run c) units
TransmissionNextOrMore start export new (Reply refusal) units =
    TransmissionOneMore start export new (Reply refusal) units
TransmissionNextOrMore start export new Close units =
    TransmissionOneMore start export new Close units

-- how a text that grows from old to new is answered, whose units lead from the phase start to the
-- transmission
abbrev pub TransmissionAnswers : Phase → Export → List ℕ → List ℕ → Next Refusal → Type 0
TransmissionAnswers start export old new next = (units : List (List ℕ)) (rest : List ℕ)
    → Splits start old units rest Transmitting → TransmissionNextOrMore start export new next units
