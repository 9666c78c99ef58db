use Rattle.nbd_wire.proofs.Spelled.{request_of_halves}
use Rattle.nbd_wire.proofs.command.Request.write.Goals as goal

pub returns : goal.returns
returns c =
    request_of_halves c.args.self.now c.write_to_kind.new.out c.write_from_cookie.new.out c.args.out.now c.requires c.write_to_kind.ensures c.write_from_cookie.ensures
