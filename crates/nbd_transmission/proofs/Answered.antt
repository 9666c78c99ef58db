-- What follows from an answer and from the request table.
use Rattle.std.proofs.Common.{◌≡◌, ℕ, ◌≤◌, ◌&&◌, Bool, true, false, cond, Option, Some, None, refl, arith}
use Rattle.std.specs.Prelude.{is_none}
use Rattle.nbd_wire.specs.declared.export.Export.{Export}
use Rattle.nbd_wire.specs.declared.command.Request.{Request}
use Rattle.nbd_wire.specs.declared.command.Command.{Command}
use Rattle.nbd_wire.specs.declared.phase.Phase.TheVariants.{Transmitting, Closed}
use Rattle.nbd_wire.specs.Commands.{command_kind, command_in, is_write, is_disconnect, judge_of}
use Rattle.nbd_wire.proofs.CommandLaws.{accepted_short, write_lends_data}
use Rattle.nbd_wire.specs.Units.{payload_len, after_request}
use Rattle.nbd_wire.specs.declared.next.Next.{Next}
use Rattle.nbd_wire.specs.declared.next.Next.TheVariants.{More, Close}
use Rattle.nbd_transmission.specs.declared.transmission.Refusal.{Refusal}
use Rattle.nbd_transmission.specs.Taking.{verdict, answer_of, phase_of, IsJudged, is_accepted_write}

-- the answer closes exactly where the unit does
after_by : (c : Command) (b : Bool) (v : Option ℕ) → cond b Closed Transmitting ≡ phase_of (cond b Close (verdict c v))
after_by c true v = refl
after_by c false None = refl
after_by c false (Some e) = refl

pub after_is_phase_of : (export : Export) (r : Option Request) → after_request r ≡ phase_of (answer_of export r)
after_is_phase_of export None = refl
after_is_phase_of export (Some r) = after_by (command_in r) (is_disconnect (command_kind r.kind)) (judge_of (command_in r) export)

-- a unit's answer is not More
not_more_by : (c : Command) (b : Bool) (v : Option ℕ) → cond b Close (verdict c v) ≡ More → ⊥
not_more_by c true v e = cc
not_more_by c false None e = cc
not_more_by c false (Some v) e = cc

pub answer_is_no_more : (export : Export) (r : Option Request) → answer_of export r ≡ More → ⊥
answer_is_no_more export None e = cc
answer_is_no_more export (Some r) e = not_more_by (command_in r) (is_disconnect (command_kind r.kind)) (judge_of (command_in r) export) e

-- a command that runs is an accepted one
accepted_by : (export : Export) (c : Command) (b : Bool) (v : Option ℕ) → is_disconnect c.kind ≡ b → judge_of c export ≡ v → IsJudged export (cond b Close (verdict c v))
accepted_by export c true v kind judged = tt
accepted_by export c false None kind judged = (judged, kind)
accepted_by export c false (Some e) kind judged = judged

pub answer_is_accepted : (export : Export) (r : Option Request) (next : Next Refusal) → next ≡ answer_of export r → IsJudged export next
answer_is_accepted export r next e = rw e (of r) where
  of : (r : Option Request) → IsJudged export (answer_of export r)
  of None = tt
  of (Some r) = accepted_by export (command_in r) (is_disconnect (command_kind r.kind)) (judge_of (command_in r) export) refl refl

-- ---- an accepted WRITE is no longer than the export says

both : (a b : Bool) → (a && b) ≡ true → (a ≡ true) × (b ≡ true)
both true b h = (refl, h)
both false b h = cc

none_of : (o : Option ℕ) → is_none o ≡ true → o ≡ None
none_of None h = refl
none_of (Some e) h = cc

pub accepted_is_short : (export : Export) (r : Option Request) → is_accepted_write export r ≡ true → payload_len r ≤ export.max_len
accepted_is_short export None h = omega arith
accepted_is_short export (Some r) h =
    let parts = both (is_write (command_kind r.kind)) (is_none (judge_of (command_in r) export)) h in
    let short = accepted_short (command_in r) export (write_lends_data (command_kind r.kind) parts.0) (none_of (judge_of (command_in r) export) parts.1) in
    rw parts.0 short
