use Rattle.std.proofs.Common.{arith, ◌∙◌}
use Rattle.nbd_wire.proofs.BufferLaws.{same_behind}
use Rattle.nbd_wire.proofs.option_reply.write_option_reply.Goals as goal

pub returns-clause-rest : goal.returns-clause-rest
returns-clause-rest c =
    let first = c.put-end.ensures.end in
    let second = c.put.ensures.end in
    c.put.ensures.rest ∙ same_behind c.put-end.result c.put.result c.put-end.new.out c.args.out.now (omega arith) c.put-end.ensures.rest
