-- What a value of which nothing is seen leaves behind may go to another thread.
use Rattle.std.proofs.Common.{Bool, true, false}
use denote.Exit.{if_kept, unseen, Last, left}
use base.Shift.{Keyless}

pub quiet : {D : Type 0} (b : Bool) (x : D) (w : Last (if_kept b (unseen {D = D}) (unseen {D = D})) x) → Keyless (left (if_kept b (unseen {D = D}) (unseen {D = D})) x w)
quiet true x w = tt
quiet false x w = tt
