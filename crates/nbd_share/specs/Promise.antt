-- What every door promises of `execute`. Source: own.
use Rattle.std.specs.Prelude.{◌≡◌, ℕ, List, Bool, true}
use Rattle.nbd_wire.specs.declared.command.Command.{Command}
use Rattle.nbd_wire.specs.Numbers.{ENOMEM}
use Rattle.nbd_share.specs.declared.shared.Done.{Done}
use Rattle.nbd_share.specs.Doing.{HoldsReply, IfReplied, OnLost, one_more}
use Rattle.nbd_share.specs.PassState.{PassState}
use Rattle.nbd_share.specs.State.{Reply}

-- An answer holds this command and these bytes; 0 and EIO count where rows are kept, ENOMEM comes
-- only there and doesn't.
pub record CountsReply (keeps : Bool) (pass pass' : PassState) (command : Command) (bytes : List ℕ)
    (a : Reply) : Type 0 where
  pub holds : HoldsReply command bytes a
  pub counted : (a.error ≡ ENOMEM → ⊥) → pass'.count ≡ one_more keeps pass.count
  pub memory : a.error ≡ ENOMEM → (pass'.count ≡ pass.count) × (keeps ≡ true)

pub record Promise (keeps : Bool) (pass pass' : PassState) (command : Command) (bytes : List ℕ)
    (done : Done) : Type 0 where
  pub replied : IfReplied done (CountsReply keeps pass pass' command bytes)
  pub lost : OnLost done (pass'.count ≡ pass.count)
  pub connection : pass'.connection ≡ pass.connection
