use Rattle.std.proofs.Common.{◌+◌, ◌-◌, length, drop, arith}
use Rattle.std.proofs.lemmas.Slice.{drop-put_mid}
use Rattle.std.proofs.lemmas.List.{length-take, length-drop}
use Rattle.nbd_wire.proofs.buffer.put.Goals as goal

pub returns-clause-rest : goal.returns-clause-rest
returns-clause-rest c =
    let a = c.args.at in
    let n = length c.args.bytes.now in
    let room = c.requires in
    let len = c.copy_from_slice.ensures.len in
    drop-put_mid a (a + n - a) c.args.out.now c.copy_from_slice.new.self (a + n) (omega arith) (omega arith) (omega (arith, len, length-take (a + n - a) (drop a c.args.out.now), length-drop a c.args.out.now))
