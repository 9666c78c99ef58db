-- The definitions at worked rows, whose bytes are written out by hand from the formats. Nothing cites them: they are there to be
-- computed.
use Rattle.std.specs.Prelude.{◌≡◌, ℕ, true, List, [], ◌∷◌, ◌++◌, None, Some, replicate}
use Rattle.std.proofs.Common.{refl, arith, inl, inr}
use Rattle.nbd_wire.specs.Commands.{default_export}
use Rattle.nbd_handshake.specs.Greeting.{greeting_bytes}
use Rattle.nbd_station.specs.declared.event.Event.TheVariants.{Open, Gone, Tidy, Restore}
use Rattle.nbd_station.specs.Records.{DONE, LOST, NO_ONE, entry, replied}
use Rattle.nbd_station.specs.Script.{Happens, Arms, line_of}
use Rattle.nbd_station.specs.World.{World, Step, Loss, dark}
use Rattle.nbd_station.specs.Transcript.{Transcript}

-- an event that is done, and one that is lost
done : entry 0 DONE [] ≡ 0 ∷ 65 ∷ 0 ∷ 0 ∷ 0 ∷ 0 ∷ []
done = refl

lost : entry NO_ONE LOST [] ≡ 255 ∷ 76 ∷ 0 ∷ 0 ∷ 0 ∷ 0 ∷ []
lost = refl

-- the greeting: 18 bytes
greeting : replied 0 greeting_bytes
    ≡ 0 ∷ 68 ∷ 0 ∷ 0 ∷ 0 ∷ 18 ∷ 78 ∷ 66 ∷ 68 ∷ 77 ∷ 65 ∷ 71 ∷ 73 ∷ 67 ∷ 73 ∷ 72 ∷ 65 ∷ 86 ∷ 69 ∷ 79 ∷ 80 ∷ 84 ∷ 0 ∷ 3 ∷ []
unfolding greeting_bytes
greeting = refl

-- a reply without bytes has no record
nothing : replied 0 [] ≡ []
nothing = refl

-- the records of a script: an Open, a Tidy, and the 16th change armed with the mask 00h
open_line : line_of (Happens (Open 0)) ≡ 79 ∷ 0 ∷ 0 ∷ 0 ∷ 0 ∷ 0 ∷ []
open_line = refl

tidy_line : line_of (Happens Tidy) ≡ 84 ∷ 255 ∷ 0 ∷ 0 ∷ 0 ∷ 0 ∷ []
tidy_line = refl

arming_line : line_of (Arms 16 1 0) ≡ 67 ∷ 255 ∷ 0 ∷ 0 ∷ 0 ∷ 6 ∷ 0 ∷ 0 ∷ 0 ∷ 16 ∷ 1 ∷ 0 ∷ []
arming_line = refl

-- a disk of one sector, on which connection 0 is opened_world
abbrev closed_world : World
closed_world = record { export = default_export 1; disk = replicate 512 0; power = true; texts = replicate 8 None }

abbrev opened_world : World
opened_world = record { export = default_export 1; disk = replicate 512 0; power = true; texts = Some [] ∷ replicate 7 None }

opens : Step closed_world (Open 0) (replied 0 greeting_bytes ++ (0 ∷ 65 ∷ 0 ∷ 0 ∷ 0 ∷ 0 ∷ [])) opened_world
opens = inl (omega arith, refl, refl, refl)

-- connection 8 is none, and connection 3 isn't open
no_such : Step opened_world (Open 8) (8 ∷ 78 ∷ 0 ∷ 0 ∷ 0 ∷ 0 ∷ []) opened_world
no_such = inr (inl (omega arith), (refl, refl))

not_open : Step opened_world (Gone 3) (3 ∷ 78 ∷ 0 ∷ 0 ∷ 0 ∷ 0 ∷ []) opened_world
not_open = (refl, refl)

-- after a loss an Open is lost, and a Restore turns the power on
dark_open : Step (dark opened_world (replicate 512 0)) (Open 1) (1 ∷ 76 ∷ 0 ∷ 0 ∷ 0 ∷ 0 ∷ []) (dark opened_world (replicate 512 0))
dark_open = (refl, refl)

lit : Step (dark opened_world (replicate 512 0)) Restore (255 ∷ 65 ∷ 0 ∷ 0 ∷ 0 ∷ 0 ∷ []) closed_world
lit = (refl, refl)

-- an Open and a Tidy in which the power goes, where one loss was counted
loses : Transcript 4 closed_world (Open 0 ∷ Tidy ∷ []) (replied 0 greeting_bytes ++ (0 ∷ 65 ∷ 0 ∷ 0 ∷ 0 ∷ 0 ∷ 255 ∷ 76 ∷ 0 ∷ 0 ∷ 0 ∷ 0 ∷ [])) 5 (dark opened_world (replicate 512 0))
unfolding greeting_bytes
loses = (
  replied 0 greeting_bytes ++ (0 ∷ 65 ∷ 0 ∷ 0 ∷ 0 ∷ 0 ∷ []),
  255 ∷ 76 ∷ 0 ∷ 0 ∷ 0 ∷ 0 ∷ [],
  4,
  opened_world,
  refl,
  inl (opens, omega arith),
  (255 ∷ 76 ∷ 0 ∷ 0 ∷ 0 ∷ 0 ∷ [], [], 5, dark opened_world (replicate 512 0), refl, inr ((refl, refl, refl), omega arith), (refl, refl, refl)),
)

-- an Open is never lost
never : (out : List ℕ) (w : World) → Loss closed_world (Open 0) out w → ⊥
never out w h = h
