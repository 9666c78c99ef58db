use Rattle.std.proofs.Common.{◌+◌, subst}
use Rattle.erase_journal.specs.Weak.{AreFirm}
use Rattle.firm_chip.specs.FirmChips.{marked}
use Rattle.firm_chip.proofs.block.is_firm_block.Goals as goal

pub returns-then-are_slots_firm : goal.returns-then-are_slots_firm
returns-then-are_slots_firm c _ =
    marked (c.is_of_slots.ensures (cc c.if-not-is_of_slots.false))
    (subst (λ at. AreFirm c.args.weak.now (at + 4) 4) c.data_place.ensures (c.are_firm.ensures (cc c.if-are_firm.true)))
    (c.are_slots_firm.ensures (cc c.if-are_slots_firm.true))
