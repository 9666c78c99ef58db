use Rattle.bench_disk.proofs.measure_case.time_over.Goals as goal

pub new-server-requires-clause-sound : goal.new-server-requires-clause-sound
new-server-requires-clause-sound g c t = absurd (cc (c.requires.unsaid, t))
