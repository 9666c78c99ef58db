use Rattle.erase_journal.proofs.recovery.resume_doomed.Goals as goal

pub returns-clause-ends : goal.returns-clause-ends
returns-clause-ends g c = record {
  ready = c.in_ok-renew.ensures.ends.ready;
  kept = c.in_ok-renew.ensures.ends.kept;
  settled = record { sound = c.in_ok-renew.ensures.ok.sound; none = c.in_ok-renew.ensures.none };
}

pub returns-clause-numbers : goal.returns-clause-numbers
returns-clause-numbers g c = c.in_ok-renew.ensures.ok.numbers
