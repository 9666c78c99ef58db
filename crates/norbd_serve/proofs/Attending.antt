-- What is said of a connection that was served.
use Rattle.std.proofs.Common.{◌≡◌, ℕ, List, [], Some, subst, sym}
use Rattle.nbd_history.specs.Notes.{Sight}
use Rattle.nbd_wire.specs.declared.phase.Phase.TheVariants.{AwaitingFlags}
use Rattle.nbd_share.specs.declared.door.Point.{Point}
use Rattle.nbd_share.specs.declared.recorder.Row.{Row}
use Rattle.nbd_share.specs.Locking.{ExecutesLocked, Start}
use Rattle.nbd_share.specs.PassState.{PassState}
use Rattle.nbd_worker.proofs.ToldParts.{told_parts}
use Rattle.nbd_worker.specs.Connection.{Connection}
use Rattle.nbd_worker.specs.ConnectionState.{Reading, setting, state_at, through}
use Rattle.norbd_serve.specs.Serving.{Attended, Attends, Entitled, state_after, state_before}

-- where the hand, the pass and the bytes that were written are known before it, and the hand and
-- these bytes after it
pub attends : {G : Type 0} (start : Start) (passes : G → G → List Point → Type 0) (rights : Entitled) (gate : G) (result : Attended G)
    (door : Sight Row) (pass : PassState) (written : List ℕ) (failed : ℕ) (door' : Sight Row) (written' : List ℕ) (failures : ℕ) (read : Reading)
    → door ≡ rights.hand → pass ≡ rights.pass → written ≡ [] → failed ≡ 0 → result.hand ≡ door' → result.sent ≡ written'
    → Connection (through (ExecutesLocked start) start.keeps) passes (setting AwaitingFlags start.export)
    (state_at door pass gate (Some written) failed) (state_at door' result.pass result.gate (Some written') failures) read result.end
    → Attends start passes rights gate result
attends start passes rights gate result door pass written failed door' written' failures read d p w f d' w' says =
    let C = λ (v : Sight Row) (q : PassState) (x : List ℕ) (k : ℕ) (v' : Sight Row) (x' : List ℕ).
    Connection (through (ExecutesLocked start) start.keeps) passes (setting AwaitingFlags start.export)
    (state_at v q gate (Some x) k) (state_at v' result.pass result.gate (Some x') failures) read result.end in
    let now : Connection (through (ExecutesLocked start) start.keeps) passes (setting AwaitingFlags start.export) (state_before rights gate) (state_after result failures) read result.end =
    subst (λ v. C v rights.pass [] 0 result.hand result.sent) d
    (subst (λ q. C door q [] 0 result.hand result.sent) p
    (subst (λ x. C door pass x 0 result.hand result.sent) w
    (subst (λ k. C door pass written k result.hand result.sent) f
    (subst (λ v. C door pass written failed v result.sent) (sym d')
    (subst (λ x. C door pass written failed door' x) (sym w') says))))) in
    record { failures = failures; read = read; says = now; rows = told_parts start (state_before rights gate).place now.over.last now.over.parts now.over.out now.over.runs }
