use Rattle.journal_slots.proofs.Cleaning.{place-erased, place-not_erased}
use Rattle.journal_slots.proofs.clean.is_sector_erased.Goals as goal

pub returns-clause-erased : goal.returns-clause-erased
returns-clause-erased c is = place-erased c.args.bytes.now c.args.place c.requires.size c.requires.place (c.is_erased.ensures.erased is)

pub returns-clause-not_erased : goal.returns-clause-not_erased
returns-clause-not_erased c is e = place-not_erased c.args.bytes.now c.args.place (c.is_erased.ensures.not_erased is) e
