-- A call that asks nothing of a memory that isn't ready, and one that is.
use Rattle.std.proofs.Common.{◌≡◌, ◌⊎◌, Bool, true, false}
use Rattle.std.specs.Prelude.{Result, Ok, Err, OnOk, IfErr}
use Rattle.std.specs.Result.{IsErrOf}
use Rattle.nor_driver.specs.State.{NorState, IsNorReady, Refuses, AnswersWhatIsLatched}
use Rattle.nor_driver.proofs.CallLaws.{first-cut, first-or-ready}
use Rattle.nor_driver.specs.declared.error.NorError.{NorError}
use Rattle.nor_driver.specs.declared.error.NorError.TheVariants as errors
use Rattle.erase_journal.specs.declared.known.Known.{Known}
use Rattle.erase_journal.specs.Journals.{IsSettled}
use Rattle.erase_journal.specs.Steps.{SucceedsSettled}
use Rattle.erase_journal.specs.Recovery.{seen}
use Rattle.erase_journal.specs.Known.{IsKnown}

-- a call that was cut found the memory ready, or changed nothing
pub cut-or-ready : (old new : NorState) (r : Result (Unit {0}) NorError) → AnswersWhatIsLatched old r new → IsErrOf r errors.Cut → IsNorReady old ⊎ (new ≡ old)
cut-or-ready old new r latches is = first-or-ready errors.Cut old new (first-cut old new (rw is at latches))

-- what an answer says where the memory was ready
pub on-ready : {P Q : Type 0} (old : NorState) (r : Result (Unit {0}) NorError) → OnOk r (IsNorReady old) → (IsNorReady old → P → Q) → OnOk r P → OnOk r Q
on-ready old (Ok x) ready f p = f ready p
on-ready old (Err e) ready f p = p

-- What a journal keeps of its memory where it is ready, after a call that answered r.
pub still-kept : (sound : Bool) (known : Known) (old new : NorState) (r : Result (Unit {0}) NorError) → (IsNorReady (seen sound old) → IsSettled old.memory × IsKnown known old.memory)
    → OnOk r (SucceedsSettled old new) → OnOk r (IsKnown known old.memory → IsKnown known new.memory) → IfErr r (λ e. Refuses e old new)
    → IsNorReady (seen sound new) → IsSettled new.memory × IsKnown known new.memory
still-kept true known old new (Ok x) h done k fails now = (done.settled, k (h done.ready).1)
still-kept true known old new (Err errors.Cut) h done k fails now = absurd (let off = fails.fails.2 in let on = now.0 in cc)
still-kept true known old new (Err errors.Slow) h done k fails now = absurd (let slow = fails.fails.3 in let quick = now.1 in cc)
still-kept false known old new r h done k fails now = absurd (let quick = now.1 in cc)
