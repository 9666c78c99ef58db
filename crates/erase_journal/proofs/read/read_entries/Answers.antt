use Rattle.std.proofs.Common.{◌≡◌, ◌+◌, ◌*◌, ap, sym, ◌∙◌, ◌/◌, arith}
use Rattle.chip_model.specs.Memory.{byte}
use Rattle.erase_journal.proofs.Data.{slice-byte}
use Rattle.erase_journal.proofs.Scans.{free-counted, open-counted}
use Rattle.erase_journal.proofs.read.read_entries.Goals as goal

pub returns-clause-free : goal.returns-clause-free
returns-clause-free g c = free-counted (g.N.Nor.state c.args.nor.now).memory c.read.new.into c.count_free.result (rw c.entry_place.ensures at c.in_ok-read.ensures.ok) c.count_free.ensures.free

pub returns-clause-opened : goal.returns-clause-opened
returns-clause-opened g c = open-counted (g.N.Nor.state c.args.nor.now).memory c.read.new.into (c.bytes.result / 4096) c.count_open.result (rw c.entry_place.ensures at c.in_ok-read.ensures.ok)
    (ap (λ n. n / 4096) c.bytes.ensures) c.count_open.ensures

pub returns-clause-bytes : goal.returns-clause-bytes
returns-clause-bytes g c i j low small =
    let m = (g.N.Nor.state c.args.nor.now).memory in
    let read = rw c.entry_place.ensures at c.in_ok-read.ensures.ok in
    let at : 6144 + 4 * i + j ≡ 6144 + (4 * i + j) = omega arith in
    let e = ap (λ k. byte m k) at ∙ sym (ap (λ x. byte x (4 * i + j)) read ∙ slice-byte m 6144 2048 (4 * i + j) (omega (arith, low, small))) in
    let b = c.count_free.ensures.bytes (4 * i + j) in
    omega (arith, e, b)
