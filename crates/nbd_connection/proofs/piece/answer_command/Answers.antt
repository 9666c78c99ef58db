use Rattle.nbd_connection.proofs.piece.answer_command.Goals as goal

pub returns-clause-represents : goal.returns-clause-represents
returns-clause-represents g c start text h =
    let given = c.buffer_laws.ensures.running (g.P.Peer.export c.args.peer.now) c.args.command.now c.args.session.now c.answer.new.lent c.requires.running in
    given.represents start text h
