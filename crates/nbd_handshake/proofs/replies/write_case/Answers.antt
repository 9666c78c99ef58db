use Rattle.std.proofs.Common.{arith, ◌∙◌}
use Rattle.nbd_wire.proofs.BufferLaws.{same_behind}
use Rattle.nbd_handshake.proofs.replies.write_case.Goals as goal

pub returns-else-no_zeroes-clause-rest : goal.returns-else-no_zeroes-clause-rest
returns-else-no_zeroes-clause-rest c =
    let first = c.put-end.ensures.end in
    let second = c.put.ensures.end in
    c.put.ensures.rest ∙ same_behind c.put-end.result c.put.result c.put-end.new.out c.args.reply.now (omega arith) c.put-end.ensures.rest

pub returns-in-Listed-clause-rest : goal.returns-in-Listed-clause-rest
returns-in-Listed-clause-rest c =
    let first = c.write_option_reply-end.ensures.end in
    let second = c.write_option_reply-in-Listed.ensures.end in
    c.write_option_reply-in-Listed.ensures.rest ∙ same_behind c.write_option_reply-end.result c.write_option_reply-in-Listed.result c.write_option_reply-end.new.out c.args.reply.now (omega arith) c.write_option_reply-end.ensures.rest

pub returns-in-Described-clause-rest : goal.returns-in-Described-clause-rest
returns-in-Described-clause-rest c =
    let first = c.write_option_reply-end-in-Described.ensures.end in
    let second = c.write_option_reply-end-in-Described-2.ensures.end in
    let third = c.write_option_reply-in-Described.ensures.end in
    c.write_option_reply-in-Described.ensures.rest
    ∙ same_behind c.write_option_reply-end-in-Described-2.result c.write_option_reply-in-Described.result c.write_option_reply-end-in-Described-2.new.out c.write_option_reply-end-in-Described.new.out (omega arith) c.write_option_reply-end-in-Described-2.ensures.rest
    ∙ same_behind c.write_option_reply-end-in-Described.result c.write_option_reply-in-Described.result c.write_option_reply-end-in-Described.new.out c.args.reply.now (omega arith) c.write_option_reply-end-in-Described.ensures.rest
