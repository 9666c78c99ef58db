-- No command changes a read-only export.
use Rattle.std.proofs.Common.{◌≡◌, ℕ, ◌||◌, Bool, true, false, cond, List, [], ◌∷◌, Option, Some, None, refl, ap, ◌∙◌, drop, replicate}
use Rattle.nbd_wire.specs.declared.export.Export.{Export}
use Rattle.nbd_wire.specs.declared.command.Request.{Request}
use Rattle.nbd_wire.specs.declared.command.Command.{Command}
use Rattle.nbd_wire.specs.Heads.{request_at}
use Rattle.nbd_wire.specs.Commands.{command_kind, command_in, is_write, is_zeroing, is_disconnect, judge_of}
use Rattle.nbd_wire.proofs.CommandLaws.{accepted_keeps}
use Rattle.nbd_transmission.specs.Apply.{with_bytes, applied_unless, request_applied, after_units}

neither : (w z : Bool) (written zeroed contents : List ℕ) → (w || z) ≡ false → cond w written (cond z zeroed contents) ≡ contents
neither true z written zeroed contents h = cc
neither false true written zeroed contents h = cc
neither false false written zeroed contents h = refl

applied_nothing : (export : Export) (c : Command) (contents payload : List ℕ) (v : Option ℕ) → export.read_only ≡ true → judge_of c export ≡ v → applied_unless v contents c payload ≡ contents
applied_nothing export c contents payload (Some e) closed judged = refl
applied_nothing export c contents payload None closed judged =
    neither (is_write c.kind) (is_zeroing c.kind) (with_bytes contents c.offset payload) (with_bytes contents c.offset (replicate c.length 0)) contents (accepted_keeps c export closed judged)

request_nothing : (export : Export) (contents : List ℕ) (r : Option Request) (payload : List ℕ) → export.read_only ≡ true → request_applied export contents r payload ≡ contents
request_nothing export contents None payload closed = refl
request_nothing export contents (Some r) payload closed = by_test (is_disconnect (command_kind r.kind)) where
  by_test : (b : Bool) → cond b contents (applied_unless (judge_of (command_in r) export) contents (command_in r) payload) ≡ contents
  by_test true = refl
  by_test false = applied_nothing export (command_in r) contents payload (judge_of (command_in r) export) closed refl

pub units_change_nothing : (export : Export) (contents : List ℕ) (units : List (List ℕ)) → export.read_only ≡ true → after_units export contents units ≡ contents
units_change_nothing export contents [] closed = refl
units_change_nothing export contents (unit ∷ units) closed =
    ap (λ now. after_units export now units) (request_nothing export contents (request_at unit) (drop 28 unit) closed) ∙ units_change_nothing export contents units closed
