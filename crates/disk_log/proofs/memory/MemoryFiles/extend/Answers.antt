use Rattle.std.proofs.Common.{take, drop, sym, ap, List, ℕ, Some}
use Rattle.std.proofs.lemmas.List.{take-append-drop}
use Rattle.disk_log.specs.Memory.{medium_of}
use Rattle.disk_log.proofs.memory.MemoryFiles.extend.Goals as goal

pub returns-in-Ok-2 : goal.returns-in-Ok-2
returns-in-Ok-2 c =
    let n = c.done-n.result in
    (take n c.args.bytes.now, drop n c.args.bytes.now, sym (take-append-drop n c.args.bytes.now), ap (λ (v : List ℕ). Some (record (medium_of c.args.self.now) { log = v })) c.in-Ok-2.ensures.items)
