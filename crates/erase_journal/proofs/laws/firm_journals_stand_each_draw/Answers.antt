use Rattle.erase_journal.proofs.Cuts.{same-cut}
use Rattle.erase_journal.proofs.Drawing.{bits_drawn}
use Rattle.erase_journal.proofs.Draws.{firm-drawn}
use Rattle.erase_journal.proofs.Losses.{firm-interrupted}
use Rattle.erase_journal.proofs.laws.firm_journals_stand_each_draw.Goals as goal

pub returns : goal.returns
returns c = λ b v h d. (λ healthy. (same-cut b h healthy v d).0, firm-drawn b v d h, firm-interrupted (bits_drawn v b) (firm-drawn b v d h))
