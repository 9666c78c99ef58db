use Rattle.std.proofs.Common.{◌≡◌, ◌++◌, ◌∙◌, ap, List, ℕ, Option, Some}
use Rattle.std.proofs.lemmas.List.{append_assoc}
use Rattle.disk_log.specs.Logs.{Medium}
use Rattle.disk_log.specs.Memory.{medium_of}
use Rattle.disk_log.proofs.memory.MemoryFilesImageFiles.append.Goals as goal

-- a beginning of the first bytes is one of both
part-of : (head bytes : List ℕ) (m : Medium) (new : Option Medium) → (taken rest : List ℕ) × (head ≡ taken ++ rest) × (new ≡ Some (record m { log = m.log ++ taken }))
    → (taken rest : List ℕ) × (head ++ bytes ≡ taken ++ rest) × (new ≡ Some (record m { log = m.log ++ taken }))
part-of head bytes m new (taken, rest, same, is) = (taken, rest ++ bytes, ap (λ v. v ++ bytes) same ∙ append_assoc taken rest bytes, is)

pub returns-in-Err : goal.returns-in-Err
returns-in-Err c = part-of c.args.head.now c.args.bytes.now (medium_of c.args.self.now) _ c.in-Err.ensures
