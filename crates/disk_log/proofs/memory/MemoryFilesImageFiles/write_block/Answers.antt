use Rattle.std.proofs.Common.{◌≡◌, ◌≤◌, ◌+◌, ◌*◌, length, take, arith, List, ℕ, ap, Some, false}
use Rattle.std.proofs.lemmas.List.{length-take-le}
use Rattle.block_device.specs.Contents.{replaced}
use Rattle.disk_log.specs.Checkpoints.{KeepsOthers}
use Rattle.disk_log.specs.Memory.{medium_of}
use Rattle.disk_log.proofs.Places.{keeps-others}
use Rattle.disk_log.proofs.memory.MemoryFilesImageFiles.write_block.Goals as goal

wider : (at n : ℕ) (xs bytes : List ℕ) → length bytes ≡ 4096 → n ≤ 4096 → at + 4096 ≤ length xs → KeepsOthers at 4096 xs (replaced xs at (take n bytes))
wider at n xs bytes len most fits =
    let l = length-take-le n bytes (omega (arith, len, most)) in
    let k = keeps-others at xs (take n bytes) (omega (arith, l, most, fits)) in
    record { size = k.size; before = k.before; behind = λ i high. k.behind i (omega (arith, l, most, high)) }

pub returns-else-n-eq-IMAGE_BLOCK_LEN : goal.returns-else-n-eq-IMAGE_BLOCK_LEN
returns-else-n-eq-IMAGE_BLOCK_LEN c = (
  replaced c.args.self.now.image.items (4096 * c.args.block) (take c.done-n.result c.args.bytes.now),
  wider (4096 * c.args.block) c.done-n.result c.args.self.now.image.items c.args.bytes.now c.requires.len c.done-n.ensures c.requires.logged.fits,
  ap (λ (v : List ℕ). Some (record (medium_of c.args.self.now) { image = v; settled = false })) c.put.ensures,
)
