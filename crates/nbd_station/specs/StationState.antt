-- What contracts see of a station, and for which worlds it stands. Source: own.
use Rattle.std.specs.Prelude.{◌≡◌, ◌*◌, length, replicate, ℕ, Bool, true, false, not, List, [], ◌∷◌}
use Rattle.std.specs.Prelude.{map, Option, None, Some}
use Rattle.nbd_wire.specs.Commands.{default_export}
use Rattle.nbd_wire.specs.declared.export.Export.{Export}
use Rattle.block_device.specs.Facts.{Facts}
use Rattle.nbd_wire.specs.declared.phase.Phase.TheVariants.{AwaitingFlags}
use Rattle.nbd_session.specs.Sessions.{SessionState, SessionRepresents, is_closed}
use Rattle.nbd_station.specs.World.{World}

pub record StationState : Type 0 where
  pub disk : Facts
  pub export : Export
  pub power : Bool
  -- the sessions of the eight connections, and whether each is open
  pub sessions : List SessionState
  pub is_open : List Bool

-- how many bytes of memory the buffer of each session takes
abbrev pub memories : StationState → List ℕ
memories station = map (λ line. line.memory) station.sessions

-- a session that is not over, and represents a text
abbrev pub ServesText : SessionState → List ℕ → Type 0
ServesText line text = (is_closed line ≡ false) × SessionRepresents AwaitingFlags line text

-- a connection is closed, or its session represents its text
abbrev pub ConnectionRepresents : Bool → SessionState → Option (List ℕ) → Type 0
ConnectionRepresents false line None = Unit {0}
ConnectionRepresents false line (Some text) = ⊥
ConnectionRepresents true line None = ⊥
ConnectionRepresents true line (Some text) = ServesText line text

unfoldable pub ConnectionsRepresent : List SessionState → List Bool → List (Option (List ℕ))
    → Type 0
ConnectionsRepresent [] [] [] = Unit {0}
ConnectionsRepresent (line ∷ lines) (b ∷ bs) (text ∷ texts) =
    ConnectionRepresents b line text × ConnectionsRepresent lines bs texts
ConnectionsRepresent _ _ _ = ⊥

-- The disk is sound, no slow operation is latched, and it and the power are those of the world.
pub record DiskRepresents (station : StationState) (w : World) : Type 0 where
  pub sound : station.disk.sound ≡ true
  pub slow : station.disk.slow ≡ false
  pub cut : station.disk.cut ≡ not station.power
  pub export : w.export ≡ station.export
  pub contents : w.disk ≡ station.disk.contents
  pub power : w.power ≡ station.power

-- a station represents each world with its disk, its power, and for each connection a text that its
-- session represents
pub record StationRepresents (station : StationState) (w : World) : Type 0 where
  pub disk : DiskRepresents station w
  pub texts : ConnectionsRepresent station.sessions station.is_open w.texts

-- A station that was just made of a disk: where that is sound and no slow operation is latched, it
-- represents its contents, with power where no Cut is latched, and with every connection closed.
pub record IsNew (disk : Facts) (station : StationState) : Type 0 where
  pub disk_is : station.disk ≡ disk
  pub size : length disk.contents ≡ 512 * station.export.sectors
  pub served : station.export ≡ default_export station.export.sectors
  pub represents : disk.sound ≡ true → disk.slow ≡ false
      → StationRepresents station (record {
        export = station.export;
        disk = disk.contents;
        power = not disk.cut;
        texts = replicate 8
            None;
      })
