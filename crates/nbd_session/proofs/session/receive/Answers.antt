use Rattle.std.proofs.Common.{◌+◌, ◌-◌, ◌≤◌, ◌++◌, ℕ, List, length, take, drop, length-append, ap, ◌∙◌, arith}
use Rattle.nbd_session.proofs.Lines.{part_used, part_len, payload_put}
use Rattle.nbd_session.proofs.session.receive.Goals as goal

pub returns-clause-stored : goal.returns-clause-stored
returns-clause-stored c =
    let used = c.take-taken.result.used in
    let n = c.take-taken.result.payload in
    let bytes = c.args.bytes.now in
    let h = c.requires.holding in
    let grown = ap (λ (l : List ℕ). length l) (c.take-taken.ensures.part h.rest h.phase h.keeps) in
    let short = c.take-taken.ensures.room h.rest h.phase h.keeps in
    let fits : c.args.filled ≤ c.args.parser.now.export.max_len = omega (arith, grown, short, h.filled_is, length-append {A = ℕ}) in
    payload_put c.args.store.now c.put-end.new.out (take (used - (used - n)) (drop (used - n) bytes)) c.args.filled n c.put-end.result (omega arith) (c.put-end.ensures.end ∙ ap (λ (m : ℕ). 16 + c.args.filled + m) (part_len used n bytes c.take-taken.ensures.payload c.take-taken.ensures.used)) c.put-end.ensures.bytes
    ∙ ap (λ (l : List ℕ). take c.args.filled (drop 16 c.args.store.now) ++ l) (part_used used n bytes c.take-taken.ensures.payload)
