use Rattle.std.proofs.Common.{arith}
use Rattle.firm_chip.proofs.chip.is_firm.Goals as goal

pub returns : goal.returns
returns c is = record {
  same_length = omega (arith, c.if-weak-memory.false);
  superblock = c.are_firm.ensures (cc c.if-not-are_firm.false);
  votes = c.are_journals_firm.ensures (cc c.if-not-are_journals_firm.false);
  entries = c.are_entries_firm.ensures (cc c.if-not-are_entries_firm.false);
  blocks = c.are_blocks_firm.ensures (cc c.if-not-are_blocks_firm.false);
  room = c.has_room.ensures (cc c.if-not-has_room.false);
  alone = c.are_fading_alone.ensures is;
}
