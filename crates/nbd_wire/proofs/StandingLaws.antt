-- A step of a parser on the unit begun is a step on each text that the parser represents.
use Rattle.std.proofs.Common.{◌≡◌, ℕ, List, [], ◌∷◌, ◌++◌, refl}
use Rattle.nbd_wire.specs.declared.phase.Phase.{Phase}
use Rattle.nbd_wire.specs.declared.phase.Phase.TheVariants.{Closed}
use Rattle.nbd_wire.specs.Units.{IsPartial, after, Splits}
use Rattle.nbd_wire.specs.Parser.{ParserState, HoldsRest, ParserRepresents, Waits, Completes}
use Rattle.nbd_wire.proofs.UnitLaws.{Splits_one, Splits_more, Splits_unit, partial_nil}

-- the rest of a cutting is no unit yet
pub rest_is_partial : (p : Phase) (text : List ℕ) (us : List (List ℕ)) (r : List ℕ) (q : Phase) → Splits p text us r q → IsPartial q r
rest_is_partial p text [] r q a = a.2
rest_is_partial p text (u ∷ us) r q a = rest_is_partial (after p u) a.0 us r q a.3

-- a parser that holds nothing represents the text without bytes
pub stands_for_nothing : (room : ℕ) (held : ParserState) → HoldsRest room held [] → ParserRepresents room held.phase held []
stands_for_nothing room held keeps =
    record { units = []; rest = []; split = (refl, refl, partial_nil held.phase); keeps = λ _. keeps }

-- what is held is the rest of the one cutting
pub holds_the_rest : (room : ℕ) (start : Phase) (held : ParserState) (text : List ℕ) (units : List (List ℕ)) (rest : List ℕ) → (held.phase ≡ Closed → ⊥) → ParserRepresents room start held text → Splits start text units rest held.phase → HoldsRest room held rest
holds_the_rest room start held text units rest is_open s split =
    let same = Splits_one start text units s.units rest s.rest held.phase held.phase split s.split in
    rw same.1 (s.keeps is_open)

pub stands_waiting : (room : ℕ) (start : Phase) (old new : ParserState) (text used : List ℕ) (s : ParserRepresents room start old text) → Waits room old (s.rest ++ used) new → ParserRepresents room start new (text ++ used)
stands_waiting room start old new text used s w = record {
  units = s.units;
  rest = s.rest ++ used;
  split = rw w.phase (Splits_more start text used s.units s.rest old.phase s.split w.partial);
  keeps = λ _. w.keeps;
}

pub stands_completed : (room : ℕ) (start : Phase) (old new : ParserState) (text used : List ℕ) (s : ParserRepresents room start old text) → Completes room old (s.rest ++ used) new → ParserRepresents room start new (text ++ used)
stands_completed room start old new text used s c = record {
  units = s.units ++ (s.rest ++ used) ∷ [];
  rest = [];
  split = rw c.phase (Splits_unit start text used s.units s.rest old.phase s.split c.is_unit);
  keeps = λ _. c.keeps;
}
