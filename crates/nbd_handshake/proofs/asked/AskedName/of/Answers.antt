use Rattle.std.proofs.Common.{ℕ, refl, arith, ap, ◌∙◌, ◌≡◌, length, take, zero-add, sym}
use Rattle.nbd_handshake.proofs.Names.{kept_name}
use Rattle.nbd_handshake.proofs.asked.AskedName.of.Goals as goal

pub returns : goal.returns
returns c =
    let count = c.fill-count.ensures.count in
    let size : length c.fill-count.new.buffer ≡ 64 = c.fill-count.auto.buffer in
    let same = ap (λ (n : ℕ). take n c.fill-count.new.buffer) (sym (zero-add c.fill-count.result)) ∙ c.fill-count.ensures.bytes in
    record { len = refl; first = kept_name c.fill-count.new.buffer c.args.name.now c.fill-count.result size (omega arith) same }
