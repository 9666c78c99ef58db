use Rattle.std.proofs.Common.{◌+◌, arith}
use Rattle.erase_journal.proofs.BlockLaws.{length-block}
use Rattle.sector_slots.specs.Slots.{data_block}
use Rattle.journal_slots.proofs.Cleaning.{whole-read}
use Rattle.sector_survey.proofs.Erasing.{byte-tells}
use Rattle.sector_survey.proofs.groups.dirty_byte.Goals as goal

pub returns-clause-told : goal.returns-clause-told
returns-clause-told g c =
    let m = c.args.journal.now.memory in
    let n = length-block m (c.args.block + 4) (omega (arith, c.requires.number)) in
    byte-tells c.written_in_free.result c.read.new.into m c.args.block c.requires.number n
    (whole-read (data_block m c.args.block) c.read.new.into n c.in_ok-read.ensures.ok)
    c.written_in_free.ensures.none c.written_in_free.ensures.free c.written_in_free.ensures.some c.written_in_free.ensures.before
