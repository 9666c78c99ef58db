-- a run of a station that was just made of a sound disk
use Rattle.std.proofs.Common.{arith, ◌≡◌, ℕ, ◌*◌, true, false, List, length, Option, None, refl, sym, ◌∙◌, ap, subst, replicate}
use Rattle.std.specs.Prelude.{not, is_ok, Result, Ok, Err}
use Rattle.std.proofs.lemmas.Bool.{false≢true}
use Rattle.std.proofs.lemmas.List.{length-replicate}
use Rattle.block_device.specs.Facts.{Facts, CountsNeverFall, IsDiskReady}
use Rattle.nbd_station.specs.declared.event.Event.{Event}
use Rattle.nbd_station.specs.declared.event.ScriptError.{ScriptError}
use Rattle.nbd_station.specs.declared.event.ScriptError.TheVariants.{Input, BadRecord, Output}
use Rattle.nbd_station.specs.StationState.{StationState, IsNew, StationRepresents}
use Rattle.nbd_station.specs.Broken.{Stops}
use Rattle.nbd_station.specs.Running.{Runs, Ends}
use Rattle.nbd_station.specs.Script.{ScriptSays, events_of}
use Rattle.nbd_station.specs.Transcript.{Transcript}
use Rattle.norbd_script.specs.declared.error.RunFault.{RunFault}
use Rattle.norbd_script.specs.declared.error.RunFault.TheVariants.{Format, Mount, NotClean, OutOfMemory, Script}
use Rattle.sector_slots.specs.Slots.{IsClean}
use Rattle.sector_map.proofs.Marking.{laid-formatted}
use Rattle.sector_map.specs.Maps.{IsMountable}
use Rattle.chip_model.specs.Chip.{Chip, is_idle}
use Rattle.chip_model.specs.Geometry.{sector_count}
use Rattle.nor_driver.specs.Probe.{IsAcceptedChip, Readings, probe_answer, told}
use Rattle.nor_driver.specs.declared.error.ProbeError.{ProbeError}
use Rattle.nor_driver.specs.declared.error.ProbeError.TheVariants as probes
use Rattle.flash_disk.specs.Contents.{contents_of}
use Rattle.flash_disk.specs.Formatted.{AnswersAsTold}
use Rattle.flash_disk.specs.Mounting.{RefusedAt, RefusedAs}
use Rattle.flash_disk.specs.declared.error.MountError.{MountError}
use Rattle.flash_disk.specs.declared.error.MountError.TheVariants as mounts
use Rattle.flash_disk.proofs.Sectors.{length-contents}
use Rattle.nbd_wire.specs.declared.export.Export.{Export}
use Rattle.nbd_wire.specs.Commands.{default_export}
use Rattle.norbd_script.specs.Answered.{Seen, AnswersEvents, BreaksEvents, AnswersLines, AnswersScript, FormatLeft, FormatsAsTold, IsOfFormatted, IsPastFormat, mounted}
use Rattle.norbd_script.specs.Lives.{Answers, OnBus, Stay, as_seen}
use Rattle.norbd_script.specs.Running.{IsLeftWell, IsPastMount, RunsOn, seen_of}

-- a chip that was handed back by a disk with these facts, which was mounted at so many slow
-- operations
pub record GivenBack (f : Facts) (slows : ℕ) (new : OnBus) : Type 0 where
  pub contents : contents_of new.chip.memory ≡ f.contents
  pub cuts : new.cuts ≡ f.cuts
  pub slow_count : new.slows ≡ f.slows
  pub accepted : IsAcceptedChip new.chip
  pub idle : f.slow ≡ false → is_idle new.chip.operation ≡ true
  pub clean : f.slow ≡ false → f.sound ≡ true → IsClean new.chip.memory
  pub mountable : f.slows ≡ slows → IsMountable new.chip.memory

pub left-of : (f : Facts) (slows : ℕ) (new : OnBus) → GivenBack f slows new → f.sound ≡ true → f.slow ≡ false → f.slows ≡ slows → IsLeftWell new
left-of f slows new back sound quick counted = record {
  healthy = record { idle = back.idle quick; accepted = back.accepted; mountable = back.mountable counted };
  clean = back.clean quick sound;
}

pub size-of : (f : Facts) (slows n : ℕ) (new : OnBus) → GivenBack f slows new → length f.contents ≡ 512 * n → sector_count (length new.chip.memory) ≡ n
size-of f slows n new back sized =
    let a : length (contents_of new.chip.memory) ≡ length f.contents = ap length back.contents in
    let b = length-contents new.chip.memory in
    omega (arith, a, b, sized)

module _ (f : Facts) (p : ℕ) (b b' : StationState) (new : OnBus) (sound : f.sound ≡ true) (ready : IsDiskReady f) (made : IsNew f b) (goes : CountsNeverFall b.disk b'.disk) (back : GivenBack b'.disk p new) where
  abbrev new' : Seen
  new' = as_seen new

  quietly : new.slows ≡ f.slows → b'.disk.slows ≡ b.disk.slows
  quietly quiet = sym back.slow_count ∙ (quiet ∙ sym (ap (λ (x : Facts). x.slows) made.disk_is))

  cuts_from : b.disk.cuts ≡ f.cuts
  cuts_from = ap (λ (x : Facts). x.cuts) made.disk_is

  module _ (n : ℕ) (sized : length f.contents ≡ 512 * n) where
    sectors_are : b.export.sectors ≡ n
    sectors_are = (let s = made.size in omega (arith, s, sized))

    export_is : b.export ≡ default_export n
    export_is = made.served ∙ ap default_export sectors_are

    represents : StationRepresents b (mounted n f.contents)
    represents =
        subst (λ p. StationRepresents b (record { export = default_export n; disk = f.contents; power = not p; texts = replicate 8 None })) ready.0
        (subst (λ (k : Export). StationRepresents b (record { export = k; disk = f.contents; power = not f.cut; texts = replicate 8 None })) export_is (made.represents sound ready.1))

    answered : (events : List Event) (was is : Option (List ℕ)) → Runs b b' events was is → AnswersEvents (mounted n f.contents) (seen_of n f) new' events was is
    answered events was is run = λ quiet.
        let r = run (quietly quiet) (mounted n f.contents) represents in (
          r.0,
          r.1,
          r.2,
          subst (λ k. Transcript k (mounted n f.contents) events r.1 new.cuts r.0) cuts_from (subst (λ k. Transcript b.disk.cuts (mounted n f.contents) events r.1 k r.0) (sym back.cuts) r.3),
          r.4.disk.contents ∙ sym back.contents,
        )

    broken : (events : List Event) (was is : Option (List ℕ)) → Ends b b' events was is → BreaksEvents (mounted n f.contents) (seen_of n f) new' events was is
    broken events was is ends = λ quiet.
        let r = ends (quietly quiet) (mounted n f.contents) represents in (
          r.0,
          r.1,
          r.2,
          subst (λ k. Stops k (mounted n f.contents) events r.1 new.cuts r.0) cuts_from (subst (λ k. Stops b.disk.cuts (mounted n f.contents) events r.1 k r.0) (sym back.cuts) r.3),
          r.4.disk.contents ∙ sym back.contents,
        )

    said : (r was r' is : Option (List ℕ)) (e : Result (Unit {0}) ScriptError) → ScriptSays b b' r was e r' is → AnswersLines (mounted n f.contents) (seen_of n f) new' r was e r' is
    said r was r' is (Ok v) s = (s.0, s.1, s.2, s.3, answered (events_of s.0) was is s.4)
    said r was r' is (Err Input) s = (s.0, s.1, s.2, s.3, answered (events_of s.0) was is s.4, s.5)
    said r was r' is (Err BadRecord) s = (s.0, s.1, s.2, s.3, answered (events_of s.0) was is s.4, s.5)
    said r was r' is (Err Output) s = (s.0, s.1, s.2, broken (events_of s.0) was is s.3)

  -- the disk is sound in the end, and nothing slow is latched
  abbrev ends_well : (w : StationState) → Type 0
  ends_well w = (w.disk.sound ≡ true) × (w.disk.slow ≡ false)

  at_end : (r was r' is : Option (List ℕ)) (e : Result (Unit {0}) ScriptError) → ScriptSays b b' r was e r' is → new.slows ≡ f.slows → ends_well b'
  at_end r was r' is (Ok v) s quiet = (let x = s.4 (quietly quiet) _ (made.represents sound ready.1) in (x.4.disk.sound, x.4.disk.slow))
  at_end r was r' is (Err Input) s quiet = (let x = s.4 (quietly quiet) _ (made.represents sound ready.1) in (x.4.disk.sound, x.4.disk.slow))
  at_end r was r' is (Err BadRecord) s quiet = (let x = s.4 (quietly quiet) _ (made.represents sound ready.1) in (x.4.disk.sound, x.4.disk.slow))
  at_end r was r' is (Err Output) s quiet = (let x = s.3 (quietly quiet) _ (made.represents sound ready.1) in (x.4.disk.sound, x.4.disk.slow))

  same_size : (n : ℕ) → length f.contents ≡ 512 * n → length b'.disk.contents ≡ 512 * n
  same_size n sized = goes.size ∙ (ap (λ (x : Facts). length x.contents) made.disk_is ∙ sized)

  abbrev as_answer : Result (Unit {0}) ScriptError → Result (Unit {0}) RunFault
  as_answer (Ok v) = Ok tt
  as_answer (Err e) = Err (Script e)

  stay_of : (n : ℕ) (r was r' is : Option (List ℕ)) (e : Result (Unit {0}) ScriptError) → AnswersLines (mounted n f.contents) (seen_of n f) new' r was e r' is → Answers (seen_of n f) new' r was (as_answer e) r' is
  stay_of n r was r' is (Ok v) x = x
  stay_of n r was r' is (Err e) x = x

  ran : (r was r' is : Option (List ℕ)) (e : Result (Unit {0}) ScriptError) → ScriptSays b b' r was e r' is → RunsOn f p (record { input = r; was = was; answer = as_answer e; left = r'; is = is }) new
  ran r was r' is e s = record {
    cuts = (let x = goes.cuts in let y = back.cuts in let z = cuts_from in omega (arith, x, y, z));
    slows = (let x = goes.slows in let y = back.slow_count in let z : b.disk.slows ≡ f.slows = ap (λ (x : Facts). x.slows) made.disk_is in omega (arith, x, y, z));
    size = λ n sized. size-of b'.disk p n new back (same_size n sized);
    says = λ n sized. stay_of n r was r' is e (said n sized r was r' is e s);
    left = λ counted quiet.
        let x = at_end r was r' is e s quiet in
        left-of b'.disk p new back x.0 x.1 (sym back.slow_count ∙ (quiet ∙ counted));
  }

  pub ran_ok : (r was r' is : Option (List ℕ)) → ScriptSays b b' r was (Ok tt) r' is → RunsOn f p (record { input = r; was = was; answer = Ok tt; left = r'; is = is }) new
  ran_ok r was r' is s = ran r was r' is (Ok tt) s

  pub ran_err : (r was r' is : Option (List ℕ)) (e : ScriptError) → ScriptSays b b' r was (Err e) r' is → RunsOn f p (record { input = r; was = was; answer = Err (Script e); left = r'; is = is }) new
  ran_err r was r' is e s = ran r was r' is (Err e) s

-- where there was no memory for the station
pub ran_nothing : (f : Facts) (p : ℕ) (new : OnBus) (r was : Option (List ℕ)) → f.sound ≡ true → IsDiskReady f → GivenBack f p new → RunsOn f p (record { input = r; was = was; answer = Err OutOfMemory; left = r; is = was }) new
ran_nothing f p new r was sound ready back = record {
  cuts = (let y = back.cuts in omega (arith, y));
  slows = (let y = back.slow_count in omega (arith, y));
  size = λ n sized. size-of f p n new back sized;
  says = λ n sized. ((refl, refl), (λ quiet. back.contents), back.cuts, back.slow_count);
  left = λ counted quiet. left-of f p new back sound ready.1 counted;
}

-- a stay that begins from a disk of zeros
pub from_zeros : (n : ℕ) (f : Facts) (new : Seen) (r was r' is : Option (List ℕ)) (e : Result (Unit {0}) RunFault) → f.contents ≡ replicate (512 * n) 0 → IsPastMount e → Answers (seen_of n f) new r was e r' is → AnswersScript (seen_of n f) new r was e r' is
from_zeros n f new r was r' is (Ok v) zeros past x = subst (λ d. AnswersLines (mounted n d) (seen_of n f) new r was (Ok tt) r' is) zeros x
from_zeros n f new r was r' is (Err (Format e)) zeros past x = absurd past
from_zeros n f new r was r' is (Err (Mount e)) zeros past x = absurd past
from_zeros n f new r was r' is (Err NotClean) zeros past x = absurd past
from_zeros n f new r was r' is (Err OutOfMemory) zeros past x = (x.0, x.2, x.3)
from_zeros n f new r was r' is (Err (Script e)) zeros past x = subst (λ d. AnswersLines (mounted n d) (seen_of n f) new r was (Err e) r' is) zeros x

-- a stay of a chip that was just formatted
pub new_stay : (n : ℕ) (d : List ℕ) (k s : ℕ) (f : Facts) (p : ℕ) (stay : Stay) (new : OnBus) → f.contents ≡ d → f.cuts ≡ k → f.slows ≡ s → d ≡ replicate (512 * n) 0 → IsPastMount stay.answer → RunsOn f p stay new
    → AnswersScript (record { sectors = n; contents = d; cuts = k; slows = s }) (as_seen new) stay.input stay.was stay.answer stay.left stay.is
new_stay n d k s f p stay new same cuts slows zeros past runs =
    let sized : length f.contents ≡ 512 * n = ap length (same ∙ zeros) ∙ length-replicate {A = ℕ} (512 * n) 0 in
    subst (λ (x : ℕ). AnswersScript (record { sectors = n; contents = d; cuts = k; slows = x }) (as_seen new) stay.input stay.was stay.answer stay.left stay.is) slows
    (subst (λ (x : ℕ). AnswersScript (record { sectors = n; contents = d; cuts = x; slows = f.slows }) (as_seen new) stay.input stay.was stay.answer stay.left stay.is) cuts
    (subst (λ (x : List ℕ). AnswersScript (record { sectors = n; contents = x; cuts = f.cuts; slows = f.slows }) (as_seen new) stay.input stay.was stay.answer stay.left stay.is) same
    (from_zeros n f (as_seen new) stay.input stay.was stay.left stay.is stay.answer (same ∙ zeros) past (runs.says n sized))))

-- a healthy chip that passes the checks of a probe is refused neither for these nor as not formatted
-- or corrupt
accepts-none : (c : Chip) (e : ProbeError) → IsAcceptedChip c → probe_answer (told c) ≡ Err e → ⊥
accepts-none c e accepted refused = false≢true (sym (ap is_ok refused) ∙ accepted)

pub of_formatted : (e : MountError) (c : Chip) (m' : List ℕ) → IsMountable c.memory → IsAcceptedChip c → RefusedAt e c.memory m' → RefusedAs e c → IsOfFormatted e
of_formatted (mounts.Probe probes.Cut) c m' healthy accepted left refused = tt
of_formatted (mounts.Probe probes.Slow) c m' healthy accepted left refused = tt
of_formatted (mounts.Probe probes.WrongId) c m' healthy accepted left refused = accepts-none c probes.WrongId accepted refused
of_formatted (mounts.Probe (probes.Sfdp e)) c m' healthy accepted left refused = accepts-none c (probes.Sfdp e) accepted refused
of_formatted (mounts.Probe probes.Protected) c m' healthy accepted left refused = accepts-none c probes.Protected accepted refused
of_formatted mounts.OutOfMemory c m' healthy accepted left refused = tt
of_formatted mounts.NotFormatted c m' healthy accepted left refused = laid-formatted c.memory healthy.superblock left.0
of_formatted mounts.Corrupt c m' healthy accepted left refused = left.corrupt healthy

-- behind the format
pub past_format : (r : Result (Unit {0}) RunFault) → IsPastMount r → IsPastFormat r
past_format (Ok v) past = tt
past_format (Err (Format e)) past = absurd past
past_format (Err (Mount e)) past = tt
past_format (Err NotClean) past = tt
past_format (Err OutOfMemory) past = tt
past_format (Err (Script e)) past = tt

pub formats_past : (r : Result (Unit {0}) RunFault) (t : Readings) → IsPastFormat r → AnswersAsTold (Ok tt) t → FormatsAsTold r t
formats_past (Ok v) t past ok = ok
formats_past (Err (Format e)) t past ok = absurd past
formats_past (Err (Mount e)) t past ok = ok
formats_past (Err NotClean) t past ok = ok
formats_past (Err OutOfMemory) t past ok = ok
formats_past (Err (Script e)) t past ok = ok

pub left_past : (r : Result (Unit {0}) RunFault) (m m' : List ℕ) → IsPastFormat r → FormatLeft r m m'
left_past (Ok v) m m' past = tt
left_past (Err (Format e)) m m' past = absurd past
left_past (Err (Mount e)) m m' past = tt
left_past (Err NotClean) m m' past = tt
left_past (Err OutOfMemory) m m' past = tt
left_past (Err (Script e)) m m' past = tt
