use Rattle.std.proofs.Common.{sym, subst}
use Rattle.sector_slots.specs.Blocks.{AreAtRest}
use Rattle.sector_slots.specs.Slots.{IsClean, kind_at, data_blocks}
use Rattle.journal_slots.proofs.Cleaning.{blocks-clean, clean-blocks, if-ok}
use Rattle.journal_slots.proofs.store.SectorSlots.is_clean.Goals as goal

pub returns-clause-clean : goal.returns-clause-clean
returns-clause-clean g c = if-ok c.read_clean.result _ _ (λ b f is. subst (λ s. IsClean s.memory) c.self.view_is (blocks-clean c.self.inside.journal.memory (f is))) c.read_clean.ensures.clean

pub returns-clause-not_clean : goal.returns-clause-not_clean
returns-clause-not_clean g c = if-ok c.read_clean.result _ _ (λ b f is rest clean. f is (clean-blocks c.self.inside.journal.memory (subst (λ s. AreAtRest (kind_at s.memory) (data_blocks s.memory)) (sym c.self.view_is) rest) (subst (λ s. IsClean s.memory) (sym c.self.view_is) clean))) c.read_clean.ensures.not_clean
