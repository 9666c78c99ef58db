-- What a run on a chip in memory says: it is accepted, and no operation of it is slow.
use Rattle.std.proofs.Common.{◌≡◌, ℕ, List, length, Option, refl, sym, subst, arith}
use Rattle.std.specs.Prelude.{Result, Ok, Err}
use Rattle.sfdp.specs.declared.params.Params.{Params}
use Rattle.chip_model.specs.Chip.{Chip}
use Rattle.chip_model.specs.Geometry.{IsChipSize}
use Rattle.nor_driver.specs.Probe.{Readings, told}
use Rattle.nor_driver.specs.declared.error.ProbeError.{ProbeError}
use Rattle.nor_driver.specs.declared.error.ProbeError.TheVariants as probes
use Rattle.chip_simulator.specs.Sim.{fresh_chip}
use Rattle.chip_simulator.proofs.Accepted.{table_accepted}
use Rattle.flash_disk.specs.Formatted.{AnswersAsTold, FormatFails, format_answer}
use Rattle.flash_disk.specs.Mounting.{RefusedFor}
use Rattle.flash_disk.specs.declared.error.MountError.{MountError}
use Rattle.flash_disk.specs.declared.error.MountError.TheVariants as mounts
use Rattle.flash_disk.proofs.Accepting.{told-accepted}
use Rattle.nbd_station.specs.declared.event.Event.{Event}
use Rattle.nbd_station.specs.declared.event.ScriptError.TheVariants.{Input, BadRecord, Output}
use Rattle.nbd_station.specs.Script.{events_of}
use Rattle.norbd_script.specs.declared.error.RunFault.{RunFault}
use Rattle.norbd_script.specs.declared.error.RunFault.TheVariants.{Format, Mount, NotClean, OutOfMemory, Script}
use Rattle.norbd_script.specs.Answered.{Seen, AnswersEvents, BreaksEvents, AnswersScript, FormatsAsTold, IsOfFormatted, new_world}
use Rattle.norbd_script.specs.Simulated.{AnswersFrom, BreaksFrom, IsPrompt, IsOfPrompt, SimulatesScript}

-- a format accepts it
pub fresh-accepted : (c : Chip) (m : List ℕ) → c ≡ fresh_chip m → IsChipSize (length m) → (p : Params) × (format_answer (told c) ≡ Ok p)
fresh-accepted c m is size =
    let t = table_accepted (length m) size in
    (t.0, subst (λ (x : Chip). format_answer (told x) ≡ Ok t.0) (sym is) (told-accepted (fresh_chip m) t.0 size refl t.1 t.2))

prompt-format : (e : ProbeError) (t : Readings) (p : Params) (cuts cuts' : ℕ) → format_answer t ≡ Ok p → AnswersAsTold (Err e) t → FormatFails e cuts 0 cuts' 0 → IsPrompt e
prompt-format probes.Cut t p cuts cuts' good tells fails = tt
prompt-format probes.Slow t p cuts cuts' good tells fails = (let h = fails.1 in absurd (omega (arith, h)))
prompt-format probes.WrongId t p cuts cuts' good tells fails = absurd (cc (good, tells))
prompt-format (probes.Sfdp e) t p cuts cuts' good tells fails = absurd (cc (good, tells))
prompt-format probes.Protected t p cuts cuts' good tells fails = absurd (cc (good, tells))

prompt-mount : (e : MountError) (cuts cuts' : ℕ) → IsOfFormatted e → RefusedFor e cuts 0 cuts' 0 → IsOfPrompt e
prompt-mount (mounts.Probe probes.Cut) cuts cuts' of for = tt
prompt-mount (mounts.Probe probes.Slow) cuts cuts' of for = (let h = for.1 in absurd (omega (arith, h)))
prompt-mount (mounts.Probe probes.WrongId) cuts cuts' of for = of
prompt-mount (mounts.Probe (probes.Sfdp e)) cuts cuts' of for = of
prompt-mount (mounts.Probe probes.Protected) cuts cuts' of for = of
prompt-mount mounts.OutOfMemory cuts cuts' of for = tt
prompt-mount mounts.NotFormatted cuts cuts' of for = of
prompt-mount mounts.Corrupt cuts cuts' of for = of

module _ (n : ℕ) (was_there is_there : List ℕ) (cuts : ℕ) (after : ℕ) (r was r' is : Option (List ℕ)) where
  abbrev old : Seen
  old = record { sectors = n; contents = was_there; cuts = 0; slows = 0 }

  abbrev new : Seen
  new = record { sectors = after; contents = is_there; cuts = cuts; slows = 0 }

  from-answers : (events : List Event) → AnswersEvents (new_world n) old new events was is → AnswersFrom n events was is
  from-answers events a = (let x = a refl in (x.0, x.1, cuts, x.2, x.3))

  from-breaks : (events : List Event) → BreaksEvents (new_world n) old new events was is → BreaksFrom n events was is
  from-breaks events a = (let x = a refl in (x.0, x.1, cuts, x.2, x.3))

  simulated : (result : Result (Unit {0}) RunFault) (t : Readings) (p : Params) → format_answer t ≡ Ok p → FormatsAsTold result t → AnswersScript old new r was result r' is → SimulatesScript n r was result r' is
  simulated (Ok v) t p good tells x = (x.0, x.1, x.2, x.3, from-answers (events_of x.0) x.4)
  simulated (Err (Script Input)) t p good tells x = (x.0, x.1, x.2, x.3, from-answers (events_of x.0) x.4, x.5)
  simulated (Err (Script BadRecord)) t p good tells x = (x.0, x.1, x.2, x.3, from-answers (events_of x.0) x.4, x.5)
  simulated (Err (Script Output)) t p good tells x = (x.0, x.1, x.2, from-breaks (events_of x.0) x.3)
  simulated (Err (Format e)) t p good tells x = (x.0, prompt-format e t p 0 cuts good tells x.1)
  simulated (Err (Mount e)) t p good tells x = (x.0, prompt-mount e 0 cuts x.2 x.1)
  simulated (Err NotClean) t p good tells x = x
  simulated (Err OutOfMemory) t p good tells x = x.0

-- from a chip of so many sectors on whose bus nothing was counted
pub simulates : (n m : ℕ) (was_there is_there : List ℕ) (k cuts after : ℕ) (r was r' is : Option (List ℕ)) (result : Result (Unit {0}) RunFault) (c : Chip) (p : Params) → m ≡ n → k ≡ 0 → format_answer (told c) ≡ Ok p → FormatsAsTold result (told c)
    → AnswersScript (record { sectors = m; contents = was_there; cuts = k; slows = 0 }) (record { sectors = after; contents = is_there; cuts = cuts; slows = 0 }) r was result r' is → SimulatesScript n r was result r' is
simulates n m was_there is_there k cuts after r was r' is result c p size none good tells x =
    simulated n was_there is_there cuts after r was r' is result (told c) p good tells
    (subst (λ (z : ℕ). AnswersScript (record { sectors = z; contents = was_there; cuts = 0; slows = 0 }) (record { sectors = after; contents = is_there; cuts = cuts; slows = 0 }) r was result r' is) size
    (subst (λ (z : ℕ). AnswersScript (record { sectors = m; contents = was_there; cuts = z; slows = 0 }) (record { sectors = after; contents = is_there; cuts = cuts; slows = 0 }) r was result r' is) none x))
