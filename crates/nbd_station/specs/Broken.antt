-- What is written where the output fails. Source: own.
use Rattle.std.specs.Prelude.{◌≡◌, ◌⊎◌, ◌<◌, length, ℕ, List, [], ◌∷◌, ◌++◌, MatchOption}
use Rattle.nbd_session.specs.Parts.{Part}
use Rattle.nbd_station.specs.declared.event.Event.{Event}
use Rattle.nbd_station.specs.declared.event.Event.TheVariants.{Open, Piece, Gone, Tidy, Restore}
use Rattle.nbd_station.specs.Answers.{after_parts, replies, reply_of_part}
use Rattle.nbd_station.specs.Records.{replied}
use Rattle.nbd_station.specs.World.{World, Lacked, hung_up, text_at}
use Rattle.nbd_station.specs.Transcript.{Move, Transcript}

-- Of the parts that a piece brings the first were answered and their replies taken whole. Of the
-- reply to the next one only a beginning was taken. These parts were applied, and no other; then
-- every connection was closed. So each part that was acknowledged was applied.
pub record Begun (w : World) (who : ℕ) (text bytes out : List ℕ) (w' : World) : Type 0 where
  pub before : List Part
  pub part : Part
  pub rest : List Part
  pub lacked : Lacked w.export text bytes (before ++ part ∷ rest)
  pub first : List ℕ
  pub unsent : List ℕ
  pub missing : 0 < length unsent
  pub reply_is : replied who
      (reply_of_part w.export (after_parts w.export w.disk before) part) ≡ first ++ unsent
  pub out_is : out ≡ replies w.export who w.disk before ++ first
  pub world : w'
      ≡ hung_up (record w { disk = after_parts w.export w.disk (before ++ part ∷ []) })

abbrev pub BegunBy : World → Event → List ℕ → World → Type 0
BegunBy w (Open who) out w' = ⊥
BegunBy w (Piece who bytes) out w' =
    MatchOption (text_at w who) ⊥ (λ text. Begun w who text bytes.now out w')
BegunBy w (Gone who) out w' = ⊥
BegunBy w Tidy out w' = ⊥
BegunBy w Restore out w' = ⊥

-- The output fails in an event: what it took is a beginning of what a move writes, and not all of
-- it. The disk is that after the move, or that after the units of a piece whose replies were taken
-- and the next one, and every connection is closed.
pub record Breaks (cuts : ℕ) (w : World) (event : Event) (out : List ℕ) (cuts' : ℕ)
    (w' : World) : Type 0 where
  pub unsent : List ℕ
  pub missing : 0 < length unsent
  pub end : World
  pub move : Move cuts w event (out ++ unsent) cuts' end
  pub reached : (w' ≡ hung_up end) ⊎ BegunBy w event out w'

-- The same in a list of events: the records of the first events were wholly taken, and the output
-- failed in the next.
pub record Stops (cuts : ℕ) (w : World) (events : List Event) (out : List ℕ) (cuts' : ℕ)
    (w' : World) : Type 0 where
  pub before : List Event
  pub event : Event
  pub later : List Event
  pub whole : List ℕ
  pub part : List ℕ
  pub between : ℕ
  pub mid : World
  pub events_are : events ≡ before ++ event ∷ later
  pub out_is : out ≡ whole ++ part
  pub transcript : Transcript cuts w before whole between mid
  pub breaks : Breaks between mid event part cuts' w'
