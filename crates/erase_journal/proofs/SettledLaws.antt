-- One call after another where no erase goes on after them.
use Rattle.std.proofs.Common.{List, ℕ}
use Rattle.std.specs.Prelude.{Result, Ok, Err, OnOk, IfErr}
use Rattle.nor_driver.specs.State.{NorState, IsNorReady, OnlyMemoryChanges, Succeeds, Refuses}
use Rattle.nor_driver.specs.declared.error.NorError.{NorError}
use Rattle.nor_driver.proofs.CallLaws.{kept-after, refuses-since}
use Rattle.erase_journal.specs.declared.phase.ErasePhase.TheVariants.{Idle}
use Rattle.erase_journal.specs.Journals.{IsHealthy, IsSettled}
use Rattle.erase_journal.specs.Steps.{SucceedsSettled, EndsSettled}

pub settled-healthy : (m : List ℕ) → IsSettled m → IsHealthy m
settled-healthy m h = (Idle, h.sound)

pub settled-after : (a b c : NorState) → SucceedsSettled a b → SucceedsSettled b c → SucceedsSettled a c
settled-after a b c p q = record { ready = p.ready; kept = kept-after a b c p.kept q.kept; settled = q.settled }

pub refuses-settled : (e : NorError) (a b c : NorState) → SucceedsSettled a b → Refuses e b c → Refuses e a c
refuses-settled e a b c s r = refuses-since e a b c s.ready s.kept r

-- the one call whose answer is returned as it is
pub settled-of : (old new : NorState) (r : Result (Unit {0}) NorError) → OnOk r (IsNorReady old) → OnOk r (OnlyMemoryChanges old new) → OnOk r (IsSettled new.memory) → OnOk r (SucceedsSettled old new)
settled-of old new (Ok x) ready kept settled = record { ready = ready; kept = kept; settled = settled }
settled-of old new (Err e) ready kept settled = settled

-- the last of some calls, whose answer is returned as it is
pub settled-then : (a b c : NorState) (r : Result (Unit {0}) NorError) → Succeeds a b → OnOk r (SucceedsSettled b c) → OnOk r (SucceedsSettled a c)
settled-then a b c (Ok x) s t = record { ready = s.ready; kept = kept-after a b c s.kept t.kept; settled = t.settled }
settled-then a b c (Err e) s t = t

-- how a call ends, by its two answers
pub ends-settled : {T : Type 0} (r : Result T NorError) (a b : NorState) → OnOk r (SucceedsSettled a b) → IfErr r (λ e. Refuses e a b) → EndsSettled r a b
ends-settled (Ok x) a b d f = d
ends-settled (Err e) a b d f = f

-- a call whose answer is returned as it is, after others that answered Ok
pub settles-since : {T : Type 0} (r : Result T NorError) (a b c : NorState) → IsNorReady a → OnlyMemoryChanges a b → EndsSettled r b c → EndsSettled r a c
settles-since (Ok x) a b c ready k h = record { ready = ready; kept = kept-after a b c k h.kept; settled = h.settled }
settles-since (Err e) a b c ready k h = refuses-since e a b c ready k h
