use Rattle.chip_watch.specs.Watched.{shadow_chip}
use Rattle.chip_watch.proofs.OpeningLaws.{opened}
use Rattle.chip_watch.specs.Told.{frames_told}
use Rattle.chip_watch.proofs.opening.open_shadow.Goals as goal

pub returns-clause-read : goal.returns-clause-read
returns-clause-read g c =
    let log = g.P.Programmer.exchanged in
    let r = c.in_ok-registers.registers in
    let e = c.at_rest.ensures in
    opened (shadow_chip c.at_rest.result) (frames_told log c.args.wire.now) (frames_told log c.rest.new.self) (frames_told log c.read_registers.new.wire)
    (frames_told log c.read_table.new.wire) (frames_told log c.read_memory.new.wire) r.first r.second r.third c.in_ok-table.table c.in_ok-memory.memory.items c.in-Ok-size_in.size
    e.first e.second e.third e.table e.memory c.in_ok-memory.ensures.long
    c.in-Ok.ensures c.in_ok-registers.ensures.read c.in_ok-table.ensures.read c.in_ok-memory.ensures.read
