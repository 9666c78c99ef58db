use Rattle.std.proofs.Common.{◌≡◌, ◌+◌, ◌<◌, length, arith, rules}
use Rattle.nbd_session.proofs.Lends.{lent_fits}
use Rattle.nbd_session.proofs.session.Session.buffer.Goals as goal

pub slice_mut-requires-clause-in_bounds : goal.slice_mut-requires-clause-in_bounds
slice_mut-requires-clause-in_bounds c =
    let fits = lent_fits c.self.inside.export c.self.inside.running c.self.invariant.runs in
    let len = c.lent_len-len.ensures in
    let size = c.self.invariant.size in
    omega (arith, fits, len, size)

pub returns : goal.returns
returns c =
    let room = lent_fits c.self.inside.export c.self.inside.running c.self.invariant.runs in
    let len = c.lent_len-len.ensures in
    let size = c.self.invariant.size in
    let most = c.self.invariant.most in
    let lent : length c.slice_mut.result.now ≡ c.lent_len-len.result = search rules in
    let fits : 16 + length c.slice_mut.result.now < 4294967296 = omega (arith, room, len, size, most, lent) in
    search rules
