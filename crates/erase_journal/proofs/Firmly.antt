-- One call after another where a loss of power leaves of firm journals what a firm recovery wants.
use Rattle.std.proofs.Common.{◌≡◌, ℕ, List, Bool, true, false, ap, subst, sym}
use Rattle.std.specs.Prelude.{Result, Ok, Err, OnOk, IfErr, IsErrOf}
use Rattle.nor_driver.specs.State.{NorState, EndsReady, IsNorReady, Refuses}
use Rattle.nor_driver.specs.declared.error.NorError.{NorError}
use Rattle.nor_driver.specs.declared.error.NorError.TheVariants as errors
use Rattle.erase_journal.specs.Journals.{IsSettled}
use Rattle.erase_journal.specs.Recovery.{seen}
use Rattle.erase_journal.specs.Steps.{EndsFirmly, EndsSettled, LosesFirmly, RefusesFirmly, SucceedsSettled}
use Rattle.erase_journal.proofs.SettledLaws.{refuses-settled, settled-after}
use Rattle.erase_journal.proofs.Standing.{loses-after}

pub refuses-plainly : (e : NorError) (a b : NorState) → RefusesFirmly e a b → Refuses e a b
refuses-plainly e a b r = record { fails = r.fails; first = r.first }

pub ends-plainly : {T : Type 0} (r : Result T NorError) (a b : NorState) → EndsFirmly r a b → EndsSettled r a b
ends-plainly (Ok x) a b h = h
ends-plainly (Err e) a b h = refuses-plainly e a b h

pub ends-firmly : {T : Type 0} (r : Result T NorError) (a b : NorState) → EndsSettled r a b → (IsErrOf r errors.Cut → LosesFirmly a b) → EndsFirmly r a b
ends-firmly (Ok x) a b h l = h
ends-firmly (Err e) a b h l = record { fails = h.fails; first = h.first; journals = λ is. l (ap Err is) }

-- a call that failed after others that answered Ok
pub refuses-firmly : (e : NorError) (a b c : NorState) → SucceedsSettled a b → RefusesFirmly e b c → RefusesFirmly e a c
refuses-firmly e a b c s r =
    let p = refuses-settled e a b c s (refuses-plainly e b c r) in
    record { fails = p.fails; first = p.first; journals = λ is. loses-after a b c s.kept.bits s.settled (r.journals is) }

-- what a journal shows of a call, where its journals were healthy
pub seen-firmly : {T : Type 0} (sound : Bool) (r : Result T NorError) (a b : NorState) → sound ≡ true → EndsFirmly r a b → EndsFirmly r (seen sound a) (seen sound b)
seen-firmly true r a b e h = h
seen-firmly false r a b e h = absurd (cc)

-- a read, while no erase goes on
pub reads-settled : {T : Type 0} (K : Type 0) (sound : Bool) (r : Result T NorError) (a b : NorState) → sound ≡ true → (IsNorReady (seen sound a) → IsSettled a.memory × K) → b.memory ≡ a.memory → EndsReady r a b → EndsSettled r a b
reads-settled K true (Ok x) a b e s same h = record { ready = h.ready; kept = h.kept; settled = subst (λ (m : List ℕ). IsSettled m) (sym same) (s h.ready).0 }
reads-settled K true (Err y) a b e s same h = h
reads-settled K false r a b e s same h = absurd (cc)

-- how a call ends, by its two answers
pub ends-firm : {T : Type 0} (r : Result T NorError) (a b : NorState) → OnOk r (SucceedsSettled a b) → IfErr r (λ e. RefusesFirmly e a b) → EndsFirmly r a b
ends-firm (Ok x) a b d f = d
ends-firm (Err e) a b d f = f

-- a call whose answer is returned as it is, after others that answered Ok
pub firmly-since : {T : Type 0} (r : Result T NorError) (a b c : NorState) → SucceedsSettled a b → EndsFirmly r b c → EndsFirmly r a c
firmly-since (Ok x) a b c s h = settled-after a b c s h
firmly-since (Err e) a b c s h = refuses-firmly e a b c s h
