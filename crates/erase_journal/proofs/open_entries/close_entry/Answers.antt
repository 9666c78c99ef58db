use Rattle.std.proofs.Common.{◌+◌, ◌*◌, arith}
use Rattle.std.proofs.lemmas.Result.{on_ok_weaker}
use Rattle.nor_driver.proofs.CallLaws.{succeeds-of, refuses-of, ends-of}
use Rattle.erase_journal.proofs.Effects.{bit-done, program-changes, program-leaves}
use Rattle.erase_journal.proofs.Reopening.{open-byte}
use Rattle.erase_journal.proofs.open_entries.close_entry.Goals as goal

pub returns-clause-ok : goal.returns-clause-ok
returns-clause-ok g c =
    let m = (g.N.Nor.state c.args.nor.now).memory in
    on_ok_weaker c.program.result (λ e. rw e (program-changes m (6144 + 4 * c.args.entry) 252 248 (let size = c.requires.size in let low = c.requires.within in omega arith) (open-byte m c.args.entry c.requires.opened)))
    (rw c.entry_place.ensures at c.program.ensures.ok)

pub returns-clause-cut : goal.returns-clause-cut
returns-clause-cut g c is =
    let m = (g.N.Nor.state c.args.nor.now).memory in
    program-leaves 2 m (6144 + 4 * c.args.entry) 252 248 (g.N.Nor.state c.program.new.self).memory (let size = c.requires.size in let low = c.requires.within in omega arith) (open-byte m c.args.entry c.requires.opened) bit-done
    (rw c.entry_place.ensures at (c.program.ensures.cut is))

pub returns-clause-ends : goal.returns-clause-ends
returns-clause-ends g c =
    ends-of c.program.result (g.N.Nor.state c.args.nor.now) (g.N.Nor.state c.program.new.self)
    (succeeds-of (g.N.Nor.state c.args.nor.now) (g.N.Nor.state c.program.new.self) c.program.result c.program.ensures.ready c.program.ensures.kept)
    (refuses-of (g.N.Nor.state c.args.nor.now) (g.N.Nor.state c.program.new.self) c.program.result c.program.ensures.fails c.program.ensures.latches)
