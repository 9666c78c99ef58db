-- a piece, by what became of the parts that its text gained
use Rattle.std.proofs.Common.{◌≡◌, inl, inr, ℕ, ◌<◌, Bool, true, false, List, [], ◌∷◌, ◌++◌, sym, ◌∙◌, ap, append_assoc, refl, arith, subst}
use Rattle.std.specs.Prelude.{Result, Ok, Err, OnOk}
use Rattle.std.proofs.lemmas.Bool.{false≢true}
use Rattle.std.proofs.lemmas.List.{append-nil}
use Rattle.std.specs.Io.KnownBytes.{Appends}
use Rattle.std.proofs.KnownBytes.{Appends-trans}
use Rattle.block_device.specs.declared.disk.DiskError.{DiskError}
use Rattle.block_device.specs.declared.disk.DiskError.TheVariants.{Cut, Slow}
use Rattle.block_device.specs.Contents.{Outcome}
use Rattle.block_device.specs.Facts.{CountsNeverFall}
use Rattle.nbd_wire.specs.declared.command.Command.{Command}
use Rattle.nbd_wire.specs.declared.export.Export.{Export}
use Rattle.nbd_wire.specs.declared.phase.Phase.TheVariants.{AwaitingFlags}
use Rattle.nbd_wire.specs.Commands.{touches_chip}
use Rattle.nbd_wire.specs.Lent.{payload_in}
use Rattle.nbd_transmission.specs.Apply.{applied, reply_to}
use Rattle.nbd_session.specs.Sessions.{SessionState, is_closed}
use Rattle.nbd_session.specs.Parts.{Part, Told, ForDisk, Last, Gains}
use Rattle.nbd_session.proofs.PartLaws.{gains_both, gains_end, parts_begin}
use Rattle.nbd_connection.specs.declared.piece.PieceOutcome.{PieceOutcome}
use Rattle.nbd_connection.specs.declared.piece.PieceOutcome.TheVariants.{Open, Closed, OutputFailed, Lost as LostPiece}
use Rattle.nbd_connection.specs.Turning.{PartBy, PartsBy, LosesPart, PieceTaken}
use Rattle.nbd_station.specs.Answers.{reply_of_part, after_part, after_parts, replies}
use Rattle.nbd_station.specs.Records.{replied}
use Rattle.nbd_station.specs.Responding.{Post, WritesBy, CommandRuns, CommandReplied, PostAnswers, PostTells, PostTakes}
use Rattle.nbd_station.specs.Telling.{SlowComes}
use Rattle.nbd_station.specs.StationState.{ServesText}
use Rattle.nbd_station.specs.Turning.{PieceState, IsRunQuiet, Pieced}
use Rattle.nbd_station.proofs.Pieces.{appends_none, goes_still, goes_twice, quiet_first, quiet_then, replies_more, after_more}
use Rattle.nbd_station.proofs.Telling.{Grows, slow_still, slow_twice, grows_still, grows_twice}

-- ---- what holds whatever the disk is

record PostKeeps (a b : Post) : Type 0 where
  who : b.who ≡ a.who
  export : b.export ≡ a.export
  sound : b.disk.sound ≡ a.disk.sound
  goes : CountsNeverFall a.disk b.disk
  slow : SlowComes a.disk b.disk

keeps_still : (a : Post) → PostKeeps a a
keeps_still a = record { who = refl; export = refl; sound = refl; goes = goes_still a.disk; slow = slow_still a.disk }

keeps_twice : (a b c : Post) → PostKeeps a b → PostKeeps b c → PostKeeps a c
keeps_twice a b c x y = record {
  who = y.who ∙ x.who;
  export = y.export ∙ x.export;
  sound = y.sound ∙ x.sound;
  goes = goes_twice a.disk b.disk c.disk x.goes y.goes;
  slow = slow_twice a.disk b.disk c.disk x.goes.slows y.goes.slows x.slow y.slow;
}

run_slow : (a b : Post) (c : Command) (bytes : List ℕ) (r : Result (Unit {0}) DiskError) → CommandRuns a b c bytes r → SlowComes a.disk b.disk
run_slow a b c bytes (Ok v) x = λ h. inl (sym x.latches.2 ∙ h)
run_slow a b c bytes (Err Cut) x = λ h. inl (sym x.latches.2 ∙ h)
run_slow a b c bytes (Err Slow) x = λ h. x.latches.2

keeps_run : (a b : Post) (c : Command) (bytes : List ℕ) (r : Result (Unit {0}) DiskError) → CommandRuns a b c bytes r → PostKeeps a b
keeps_run a b c bytes r x = record { who = x.who; export = x.export; sound = x.sound; goes = x.goes; slow = run_slow a b c bytes r x }

keeps_told : (a b : Post) (reply : List ℕ) (taken : Bool) → PostTells a b reply taken → PostKeeps a b
keeps_told a b reply taken x = record {
  who = x.0;
  export = x.1;
  sound = ap (λ d. d.sound) x.2;
  goes = subst (λ d. CountsNeverFall a.disk d) (sym x.2) (goes_still a.disk);
  slow = subst (λ d. SlowComes a.disk d) (sym x.2) (slow_still a.disk);
}

keeps_part : (a b : Post) (part : Part) (taken : Bool) → PartBy PostAnswers PostTells a b part taken → PostKeeps a b
keeps_part a b (Told reply) taken x = keeps_told a b reply taken x
keeps_part a b (ForDisk c payload) true x = keeps_run a b c x.bytes _ x.run.runs
keeps_part a b (ForDisk c payload) false x = keeps_run a b c x.bytes _ x.run.runs
keeps_part a b (Last reply) taken x = keeps_told a b reply taken x

keeps_lost : (a b : Post) (part : Part) → LosesPart PostAnswers a b part → PostKeeps a b
keeps_lost a b (Told reply) x = absurd x
keeps_lost a b (ForDisk c payload) x = keeps_run a b c x.bytes _ x.run.0
keeps_lost a b (Last reply) x = absurd x

keeps_parts : (a b : Post) (parts : List Part) → PartsBy PostAnswers PostTells a b parts → PostKeeps a b
keeps_parts a b [] x = subst (λ p. PostKeeps a p) (sym x) (keeps_still a)
keeps_parts a b (part ∷ more) x = keeps_twice a x.0 b (keeps_part a x.0 part true x.1) (keeps_parts x.0 b more x.2)

-- parts that lead to a peer lead to an equal one
whole : (a b mid : Post) (parts : List Part) → PartsBy PostAnswers PostTells a mid parts → b ≡ mid → PartsBy PostAnswers PostTells a b parts
whole a b mid parts runs same = subst (λ p. PartsBy PostAnswers PostTells a p parts) (sym same) runs

keeps_piece : (a b : Post) (line line' : SessionState) (bytes : List ℕ) (progress : PieceOutcome) → PieceTaken PostAnswers PostTells a b line line' bytes progress → PostKeeps a b
keeps_piece a b line line' bytes Open x = keeps_parts a b x.reached.parts (whole a b x.reached.peer x.reached.parts x.runs x.ends.1)
keeps_piece a b line line' bytes Closed x = keeps_parts a b x.reached.parts (whole a b x.reached.peer x.reached.parts x.runs x.ends.1)
keeps_piece a b line line' bytes OutputFailed x =
    keeps_twice a x.reached.peer b (keeps_parts a x.reached.peer x.reached.parts x.runs) (keeps_part x.reached.peer b x.ends.1.part false x.ends.1.ends)
keeps_piece a b line line' bytes LostPiece x = keeps_twice a x.reached.peer b (keeps_parts a x.reached.peer x.reached.parts x.runs) (keeps_lost x.reached.peer b x.ends.1.part x.ends.1.ends)

-- ---- what is written, and whether a write failed

abbrev Sent : Post → Post → Type 0
Sent a b = Grows a.written b.written × (b.faults ≡ a.faults)

part_sent : (a b : Post) (part : Part) → PartBy PostAnswers PostTells a b part true → Sent a b
part_sent a b (Told reply) x = ((_, x.3.0), x.3.1)
part_sent a b (ForDisk c payload) x = ((_, x.run.wrote.0), x.run.wrote.1)
part_sent a b (Last reply) x = ((_, x.3.0), x.3.1)

sent_twice : (a b c : Post) → Sent a b → Sent b c → Sent a c
sent_twice a b c x y = (grows_twice a.written b.written c.written x.0 y.0, y.1 ∙ x.1)

parts_sent : (a b : Post) (parts : List Part) → PartsBy PostAnswers PostTells a b parts → Sent a b
parts_sent a b [] x = subst (λ p. Sent a p) (sym x) (grows_still a.written, refl)
parts_sent a b (part ∷ more) x = sent_twice a x.0 b (part_sent a x.0 part x.1) (parts_sent x.0 b more x.2)

lost_sent : (a b : Post) (part : Part) → LosesPart PostAnswers a b part → Sent a b
lost_sent a b (Told reply) x = absurd x
lost_sent a b (ForDisk c payload) x = (subst (λ w. Grows a.written w) (sym x.run.1) (grows_still a.written), x.run.2)
lost_sent a b (Last reply) x = absurd x

part_failed : (a b : Post) (part : Part) → PartBy PostAnswers PostTells a b part false → a.faults < b.faults
part_failed a b (Told reply) x = x.3.1
part_failed a b (ForDisk c payload) x = x.run.wrote.1
part_failed a b (Last reply) x = x.3.1

piece_failed : (a b : Post) (line line' : SessionState) (bytes : List ℕ) → PieceTaken PostAnswers PostTells a b line line' bytes OutputFailed → a.faults < b.faults
piece_failed a b line line' bytes x =
    subst (λ (n : ℕ). n < b.faults) (parts_sent a x.reached.peer x.reached.parts x.runs).1 (part_failed x.reached.peer b x.ends.1.part x.ends.1.ends)

-- ---- a quiet run

-- a part is answered as a plain array of sectors does
record PartPlain (a b : Post) (part : Part) (taken : Bool) : Type 0 where
  power : b.disk.cut ≡ false
  slow : b.disk.slow ≡ false
  contents : b.disk.contents ≡ after_part a.export a.disk.contents part
  wrote : WritesBy a (replied a.who (reply_of_part a.export a.disk.contents part)) taken b

told_plain : (a b : Post) (reply : List ℕ) (taken : Bool) → PostTells a b reply taken → IsRunQuiet a.disk b.disk
    → (b.disk.cut ≡ false) × (b.disk.slow ≡ false) × (b.disk.contents ≡ a.disk.contents)
told_plain a b reply taken x quiet = (ap (λ d. d.cut) x.2 ∙ quiet.cut, ap (λ d. d.slow) x.2 ∙ quiet.slow, ap (λ d. d.contents) x.2)

run_plain : (a b : Post) (c : Command) (bytes reply : List ℕ) (r : Result (Unit {0}) DiskError) → CommandRuns a b c bytes r → b.disk.cut ≡ false
    → OnOk r (a.disk.sound ≡ true → reply ≡ reply_to a.export a.disk.contents c) → IsRunQuiet a.disk b.disk
    → (b.disk.slow ≡ false) × (b.disk.contents ≡ applied a.export a.disk.contents c (payload_in c bytes)) × (reply ≡ reply_to a.export a.disk.contents c)
run_plain a b c bytes reply (Ok v) x power says quiet = (x.latches.2 ∙ quiet.slow, rw x.accepted (x.leaves quiet.sound), says quiet.sound)
run_plain a b c bytes reply (Err Cut) x power says quiet = absurd (false≢true (sym power ∙ x.latches.1))
run_plain a b c bytes reply (Err Slow) x power says quiet =
    elim x.latches.2 [ inl h ↦ absurd (false≢true (sym quiet.slow ∙ h)) | inr h ↦ (let same = quiet.slows in absurd (omega (arith, h, same))) ]

replied_plain : (a b : Post) (c : Command) (bytes payload : List ℕ) (taken : Bool) → payload_in c bytes ≡ payload → CommandReplied a b c bytes taken → IsRunQuiet a.disk b.disk
    → PartPlain a b (ForDisk c payload) taken
replied_plain a b c bytes payload taken same x quiet =
    let plain = run_plain a b c bytes x.reply x.result x.runs x.power x.ok quiet in
    record {
      power = x.power;
      slow = plain.0;
      contents = plain.1 ∙ ap (λ (l : List ℕ). applied a.export a.disk.contents c l) same;
      wrote = subst (λ l. WritesBy a (replied a.who l) taken b) plain.2 x.wrote;
    }

part_plain : (a b : Post) (part : Part) (taken : Bool) → PartBy PostAnswers PostTells a b part taken → IsRunQuiet a.disk b.disk → PartPlain a b part taken
part_plain a b (Told reply) taken x quiet = let p = told_plain a b reply taken x quiet in record { power = p.0; slow = p.1; contents = p.2; wrote = x.3 }
part_plain a b (ForDisk c payload) true x quiet = replied_plain a b c x.bytes payload true x.payload_is x.run quiet
part_plain a b (ForDisk c payload) false x quiet = replied_plain a b c x.bytes payload false x.payload_is x.run quiet
part_plain a b (Last reply) taken x quiet = let p = told_plain a b reply taken x quiet in record { power = p.0; slow = p.1; contents = p.2; wrote = x.3 }

-- parts are answered so, one after another
record PartsPlain (a b : Post) (parts : List Part) : Type 0 where
  power : b.disk.cut ≡ false
  slow : b.disk.slow ≡ false
  contents : b.disk.contents ≡ after_parts a.export a.disk.contents parts
  out : List ℕ
  appends : Appends a.written b.written out
  out_is : out ≡ replies a.export a.who a.disk.contents parts

parts_plain : (a b : Post) (parts : List Part) → PartsBy PostAnswers PostTells a b parts → IsRunQuiet a.disk b.disk → PartsPlain a b parts
parts_plain a b [] x quiet = subst (λ p. PartsPlain a p []) (sym x) (record {
  power = quiet.cut;
  slow = quiet.slow;
  contents = refl;
  out = [];
  appends = appends_none a.written;
  out_is = refl;
})
parts_plain a b (part ∷ more) x quiet =
    let mid = x.0 in
    let first = keeps_part a mid part true x.1 in
    let next = keeps_parts mid b more x.2 in
    let one = part_plain a mid part true x.1 (quiet_first a.disk mid.disk b.disk quiet first.goes next.goes) in
    let rest = parts_plain mid b more x.2 (quiet_then a.disk mid.disk b.disk quiet first.goes next.goes first.sound one.power one.slow) in
    let reply = replied a.who (reply_of_part a.export a.disk.contents part) in
    record {
      power = rest.power;
      slow = rest.slow;
      contents = rest.contents ∙ (ap (λ (n : Export). after_parts n mid.disk.contents more) first.export ∙ ap (λ (d : List ℕ). after_parts a.export d more) one.contents);
      out = reply ++ rest.out;
      appends = Appends-trans a.written mid.written b.written reply rest.out one.wrote.0 rest.appends;
      out_is = ap (λ (l : List ℕ). reply ++ l) (rest.out_is ∙ (ap (λ (n : Export). replies n mid.who mid.disk.contents more) first.export
          ∙ (ap (λ (w : ℕ). replies a.export w mid.disk.contents more) first.who ∙ ap (λ (d : List ℕ). replies a.export a.who d more) one.contents)));
    }

-- ---- the text

-- the parts that a text gains with the bytes used, and those that the rest brings
whole_text : (text used rest bytes : List ℕ) → bytes ≡ used ++ rest → (text ++ used) ++ rest ≡ text ++ bytes
whole_text text used rest bytes same = append_assoc text used rest ∙ ap (λ (l : List ℕ). text ++ l) (sym same)

gains_rest : (n : Export) (text done unit others ahead bytes : List ℕ) (before : List Part) (part : Part) → bytes ≡ done ++ ahead → ahead ≡ unit ++ others
    → Gains AwaitingFlags n text (text ++ done) before → Gains AwaitingFlags n (text ++ done) ((text ++ done) ++ unit) (part ∷ [])
    → (later : List Part) × Gains AwaitingFlags n text (text ++ bytes) (before ++ part ∷ later)
gains_rest n text done unit others ahead bytes before part same is one two =
    let mid = text ++ done in
    let here = mid ++ unit in
    let later = parts_begin AwaitingFlags n here others in
    let end : here ++ others ≡ text ++ bytes = append_assoc mid unit others ∙ (ap (λ (l : List ℕ). mid ++ l) (sym is) ∙ whole_text text done ahead bytes same) in
    let more = gains_both AwaitingFlags n mid here (here ++ others) (part ∷ []) later.0 two later.1 in
    (later.0, subst (λ l. Gains AwaitingFlags n text l (before ++ part ∷ later.0)) end (gains_both AwaitingFlags n text mid (here ++ others) before (part ∷ later.0) one more))

abbrev state : Post → SessionState → PieceState
state a line = record { disk = a.disk; line = line; written = a.written }

-- ---- a piece

module _ (a b : Post) (line line' : SessionState) (bytes : List ℕ) (same : a.export ≡ line.export) (quiet : IsRunQuiet a.disk b.disk) where
  replies_here : (parts : List Part) → replies a.export a.who a.disk.contents parts ≡ replies line.export a.who a.disk.contents parts
  replies_here parts = ap (λ (n : Export). replies n a.who a.disk.contents parts) same

  after_here : (parts : List Part) → after_parts a.export a.disk.contents parts ≡ after_parts line.export a.disk.contents parts
  after_here parts = ap (λ (n : Export). after_parts n a.disk.contents parts) same

  piece_stays : (is_closed line ≡ false → is_closed line' ≡ false) → PieceTaken PostAnswers PostTells a b line line' bytes Open → Pieced a.who (state a line) (state b line') Open bytes
  piece_stays stays x =
      let r = x.reached in
      let plain = parts_plain a b r.parts (whole a b r.peer r.parts x.runs x.ends.1) quiet in
      let all : r.done ≡ bytes = sym (x.bytes_are ∙ (ap (λ (l : List ℕ). r.done ++ l) x.ends.2 ∙ append-nil r.done)) in
      record {
        power = plain.power;
        slow = plain.slow;
        says = λ text serves. (
          plain.out,
          plain.appends,
          (
            (
              r.parts,
              x.ends.0,
              record {
                lacked = subst (λ l. Gains AwaitingFlags line.export text (text ++ l) r.parts) all (x.gains AwaitingFlags text serves.0 serves.1);
                out_is = plain.out_is ∙ replies_here r.parts;
                disk_is = plain.contents ∙ after_here r.parts;
              },
            ),
            subst (λ l. ServesText line' (text ++ l)) all (stays serves.0, x.ends.3 AwaitingFlags text serves.0 serves.1),
          ),
        );
      }

  piece_shut : PieceTaken PostAnswers PostTells a b line line' bytes Closed → Pieced a.who (state a line) (state b line') Closed bytes
  piece_shut x =
      let r = x.reached in
      let plain = parts_plain a b r.parts (whole a b r.peer r.parts x.runs x.ends.1) quiet in
      record {
        power = plain.power;
        slow = plain.slow;
        says = λ text serves. (
          plain.out,
          plain.appends,
          (
            r.parts,
            x.ends.0,
            record {
              lacked = subst (λ l. Gains AwaitingFlags line.export text l r.parts) (whole_text text r.done r.ahead bytes x.bytes_are)
                  (gains_end AwaitingFlags line.export text (text ++ r.done) r.ahead r.parts (x.gains AwaitingFlags text serves.0 serves.1) x.ends.0);
              out_is = plain.out_is ∙ replies_here r.parts;
              disk_is = plain.contents ∙ after_here r.parts;
            },
          ),
        );
      }

  -- the posts before and after the part in which a piece ends
  ends_quiet : (mid : Post) (before : List Part) (runs : PartsBy PostAnswers PostTells a mid before) → PostKeeps mid b
      → PartsPlain a mid before × IsRunQuiet mid.disk b.disk
  ends_quiet mid before runs next =
      let first = keeps_parts a mid before runs in
      let plain = parts_plain a mid before runs (quiet_first a.disk mid.disk b.disk quiet first.goes next.goes) in
      (plain, quiet_then a.disk mid.disk b.disk quiet first.goes next.goes first.sound plain.power plain.slow)

  lost_plain : (mid : Post) (before : List Part) (part : Part) → PartsBy PostAnswers PostTells a mid before → LosesPart PostAnswers mid b part
      → (c : Command) × (payload : List ℕ) × (part ≡ ForDisk c payload) × (touches_chip c.kind ≡ true) × (b.disk.cut ≡ true) × (mid.disk.cuts < b.disk.cuts) × (b.disk.slow ≡ false)
      × (b.written ≡ mid.written) × Outcome mid.disk.contents (applied mid.export mid.disk.contents c payload) b.disk.contents
  lost_plain mid before (Told reply) runs x = absurd x
  lost_plain mid before (Last reply) runs x = absurd x
  lost_plain mid before (ForDisk c payload) runs x =
      let run = x.run.0 in
      let q = (ends_quiet mid before runs (keeps_run mid b c x.bytes _ run)).1 in
      let came : (touches_chip c.kind ≡ true) × (mid.disk.cuts < b.disk.cuts) = elim run.latches.0 [ inl h ↦ absurd (false≢true (sym q.cut ∙ h)) | inr h ↦ (h.0, h.2) ] in
      let left : Outcome mid.disk.contents (applied mid.export mid.disk.contents c (payload_in c x.bytes)) b.disk.contents = rw run.accepted (run.leaves q.sound) in (
        c,
        payload,
        refl,
        came.0,
        run.latches.1,
        came.1,
        run.latches.2 ∙ q.slow,
        x.run.1,
        subst (λ (l : List ℕ). Outcome mid.disk.contents (applied mid.export mid.disk.contents c l) b.disk.contents) x.payload_is left,
      )

  piece_lost : PieceTaken PostAnswers PostTells a b line line' bytes LostPiece → Pieced a.who (state a line) (state b line') LostPiece bytes
  piece_lost x =
      let r = x.reached in
      let d = x.ends.1 in
      let lost = lost_plain r.peer r.parts d.part x.runs d.ends in
      let first = keeps_parts a r.peer r.parts x.runs in
      let plain = (ends_quiet r.peer r.parts x.runs (keeps_lost r.peer b d.part d.ends)).0 in
      let cuts = first.goes.cuts in
      let c = lost.0 in
      let payload = lost.1 in
      let here = after_parts line.export a.disk.contents r.parts in
      let had : r.peer.disk.contents ≡ here = plain.contents ∙ after_here r.parts in
      let outcome = subst (λ (l : List ℕ). Outcome l (applied line.export l c payload) b.disk.contents) had
      (subst (λ (n : Export). Outcome r.peer.disk.contents (applied n r.peer.disk.contents c payload) b.disk.contents) (first.export ∙ same) lost.8) in
      record {
        power = (lost.4, let rose = lost.5 in omega (arith, cuts, rose));
        slow = lost.6;
        says = λ text serves.
            let all = gains_rest line.export text r.done d.unit d.others r.ahead bytes r.parts d.part x.bytes_are d.ahead_is
            (x.gains AwaitingFlags text serves.0 serves.1) (d.gains AwaitingFlags text serves.0 serves.1) in (
              plain.out,
              subst (λ w. Appends a.written w plain.out) (sym lost.7) plain.appends,
              record {
                before = r.parts;
                command = c;
                payload = payload;
                rest = all.0;
                lacked = subst (λ p. Gains AwaitingFlags line.export text (text ++ bytes) (r.parts ++ p ∷ all.0)) lost.2 all.1;
                touches = lost.3;
                out_is = plain.out_is ∙ replies_here r.parts;
                outcome = outcome;
              },
            );
      }

  piece_halts : PieceTaken PostAnswers PostTells a b line line' bytes OutputFailed → Pieced a.who (state a line) (state b line') OutputFailed bytes
  piece_halts x =
      let r = x.reached in
      let d = x.ends.1 in
      let first = keeps_parts a r.peer r.parts x.runs in
      let q = ends_quiet r.peer r.parts x.runs (keeps_part r.peer b d.part false d.ends) in
      let plain = q.0 in
      let one = part_plain r.peer b d.part false d.ends q.1 in
      let here = after_parts line.export a.disk.contents r.parts in
      let had : r.peer.disk.contents ≡ here = plain.contents ∙ after_here r.parts in
      let lacks = one.wrote.0 in
      let said : replied r.peer.who (reply_of_part r.peer.export r.peer.disk.contents d.part) ≡ replied a.who (reply_of_part line.export here d.part) =
      ap (λ (w : ℕ). replied w (reply_of_part r.peer.export r.peer.disk.contents d.part)) first.who
      ∙ (ap (λ (n : Export). replied a.who (reply_of_part n r.peer.disk.contents d.part)) (first.export ∙ same) ∙ ap (λ (l : List ℕ). replied a.who (reply_of_part line.export l d.part)) had) in
      let told : replied a.who (reply_of_part line.export here d.part) ≡ lacks.0 ++ lacks.1 = sym said ∙ lacks.2 in
      let before : plain.out ≡ replies line.export a.who a.disk.contents r.parts = plain.out_is ∙ replies_here r.parts in
      record {
        power = one.power;
        slow = one.slow;
        says = λ text serves.
            let all = gains_rest line.export text r.done d.unit d.others r.ahead bytes r.parts d.part x.bytes_are d.ahead_is
            (x.gains AwaitingFlags text serves.0 serves.1) (d.gains AwaitingFlags text serves.0 serves.1) in (
              plain.out ++ lacks.0,
              Appends-trans a.written r.peer.written b.written plain.out lacks.0 plain.appends lacks.3,
              record {
                before = r.parts;
                part = d.part;
                rest = all.0;
                first = lacks.0;
                unsent = lacks.1;
                missing = lacks.4;
                lacked = all.1;
                out_is = replies_more line.export a.who a.disk.contents r.parts d.part
                    ∙ (ap (λ (l : List ℕ). l ++ replied a.who (reply_of_part line.export here d.part)) (sym before) ∙ (ap (λ (l : List ℕ). plain.out ++ l) told ∙ sym (append_assoc plain.out lacks.0 lacks.1)));
                split = ap (λ (l : List ℕ). l ++ lacks.0) before;
                reply_is = told;
                disk_is = one.contents ∙ (ap (λ (n : Export). after_part n r.peer.disk.contents d.part) (first.export ∙ same)
                    ∙ (ap (λ (l : List ℕ). after_part line.export l d.part) had ∙ sym (after_more line.export a.disk.contents r.parts d.part)));
              },
            );
      }

-- ---- by its end

module _ (a b : Post) (line line' : SessionState) (bytes : List ℕ) (same : a.export ≡ line.export) where
  takes_open : (is_closed line ≡ false → is_closed line' ≡ false) → PieceTaken PostAnswers PostTells a b line line' bytes Open → PostTakes a b line line' bytes Open
  takes_open stays x =
      let keeps = keeps_piece a b line line' bytes Open x in
      let sent = parts_sent a b x.reached.parts (whole a b x.reached.peer x.reached.parts x.runs x.ends.1) in
      record {
        sound = keeps.sound;
        goes = keeps.goes;
        slow = keeps.slow;
        wrote = sent.0;
        faults = sent.1;
        says = λ quiet. piece_stays a b line line' bytes same quiet stays x;
      }

  takes_closed : PieceTaken PostAnswers PostTells a b line line' bytes Closed → PostTakes a b line line' bytes Closed
  takes_closed x =
      let keeps = keeps_piece a b line line' bytes Closed x in
      let sent = parts_sent a b x.reached.parts (whole a b x.reached.peer x.reached.parts x.runs x.ends.1) in
      record {
        sound = keeps.sound;
        goes = keeps.goes;
        slow = keeps.slow;
        wrote = sent.0;
        faults = sent.1;
        says = λ quiet. piece_shut a b line line' bytes same quiet x;
      }

  takes_lost : PieceTaken PostAnswers PostTells a b line line' bytes LostPiece → PostTakes a b line line' bytes LostPiece
  takes_lost x =
      let keeps = keeps_piece a b line line' bytes LostPiece x in
      let sent = sent_twice a x.reached.peer b (parts_sent a x.reached.peer x.reached.parts x.runs) (lost_sent x.reached.peer b x.ends.1.part x.ends.1.ends) in
      record {
        sound = keeps.sound;
        goes = keeps.goes;
        slow = keeps.slow;
        wrote = sent.0;
        faults = sent.1;
        says = λ quiet. piece_lost a b line line' bytes same quiet x;
      }

  takes_failed : PieceTaken PostAnswers PostTells a b line line' bytes OutputFailed → PostTakes a b line line' bytes OutputFailed
  takes_failed x =
      let keeps = keeps_piece a b line line' bytes OutputFailed x in
      record {
        sound = keeps.sound;
        goes = keeps.goes;
        slow = keeps.slow;
        wrote = tt;
        faults = piece_failed a b line line' bytes x;
        says = λ quiet. piece_halts a b line line' bytes same quiet x;
      }

  pub takes : (progress : PieceOutcome) → (progress ≡ Open → is_closed line ≡ false → is_closed line' ≡ false) → PieceTaken PostAnswers PostTells a b line line' bytes progress → PostTakes a b line line' bytes progress
  takes Open stays x = takes_open (stays refl) x
  takes Closed stays x = takes_closed x
  takes OutputFailed stays x = takes_failed x
  takes LostPiece stays x = takes_lost x
