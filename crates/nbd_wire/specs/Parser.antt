-- For which texts of a connection a parser stands that takes them piece by piece: it keeps the
-- first bytes of the unit begun and a count, and never the text (own). Source: own.
use Rattle.std.specs.Prelude.{ℕ, ◌≡◌, List, [], length, take}
use Rattle.nbd_wire.specs.declared.export.Export.{Export}
use Rattle.nbd_wire.specs.declared.phase.Phase.{Phase}
use Rattle.nbd_wire.specs.declared.phase.Phase.TheVariants.{Closed}
use Rattle.nbd_wire.specs.Units.{IsUnit, IsPartial, Splits, after}

-- what a parser holds of a connection to this export
pub record ParserState : Type 0 where
  pub export : Export
  pub phase : Phase
  -- the first bytes of the unit begun, as many as there is room for
  pub kept : List ℕ
  -- how many bytes of the unit begun have come
  pub count : ℕ

-- A rest is held so. Its bytes beyond the room may be any.
pub record HoldsRest (room : ℕ) (held : ParserState) (rest : List ℕ) : Type 0 where
  pub kept : take room rest ≡ held.kept
  pub count : length rest ≡ held.count

-- a text whose units lead from the phase start to the phase held, and whose rest is held
pub record ParserRepresents (room : ℕ) (start : Phase) (held : ParserState)
    (text : List ℕ) : Type 0 where
  pub units : List (List ℕ)
  pub rest : List ℕ
  pub split : Splits start text units rest held.phase
  pub keeps : (held.phase ≡ Closed → ⊥) → HoldsRest room held rest

-- A step of a parser, by all bytes of the unit begun that have come with it: they are no unit yet,
-- and are held;
pub record Waits (room : ℕ) (old : ParserState) (rest : List ℕ) (new : ParserState) : Type 0 where
  pub partial : IsPartial old.phase rest
  pub phase : new.phase ≡ old.phase
  pub keeps : HoldsRest room new rest

-- or they are a unit, and nothing of the next one is held.
pub record Completes (room : ℕ) (old : ParserState) (unit : List ℕ)
    (new : ParserState) : Type 0 where
  pub is_unit : IsUnit old.phase unit
  pub phase : new.phase ≡ after old.phase unit
  pub keeps : HoldsRest room new []
