use Rattle.norbd_run.proofs.plain.run_plain.Goals as goal

pub recording-requires-clause-base : goal.recording-requires-clause-base
recording-requires-clause-base g c t = absurd (cc (c.requires.unsaid, t))
