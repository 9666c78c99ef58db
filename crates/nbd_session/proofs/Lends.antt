-- The bytes that are lent to a command.
use Rattle.std.proofs.Common.{◌≡◌, ℕ, ◌+◌, ◌≤◌, Bool, true, false, List, [], ◌++◌, take, drop, Option, Some, None, refl, sym, ap, ◌∙◌, arith, zero, suc, length-append, length, ◌∷◌}
use Rattle.std.specs.Prelude.{if◌then◌else◌}
use Rattle.std.proofs.lemmas.List.{take-append-drop, drop_at, take_at, length-drop, length-take, length-take-le}
use Rattle.nbd_wire.specs.declared.export.Export.{Export}
use Rattle.nbd_wire.specs.declared.command.Command.{Command}
use Rattle.nbd_wire.specs.Commands.{lends_data}
use Rattle.nbd_wire.specs.declared.phase.Phase.{Phase}
use Rattle.nbd_wire.proofs.CommandLaws.{accepted_short}
use Rattle.nbd_session.specs.Lent.{lent_now, IsRunnable}
use Rattle.nbd_session.specs.Lending.{given_back, written_over}
use Rattle.nbd_session.specs.Sessions.{room_of, SessionState, SessionRepresents, StageRepresents}
use Rattle.nbd_session.specs.declared.stage.Stage.{Stage}
use Rattle.nbd_session.specs.declared.stage.Stage.TheVariants.{Negotiating, Requesting, Ended}

-- ---- how many bytes are lent

short_of : (b : Bool) (n m : ℕ) → (b ≡ true → n ≤ m) → (if b then n else 0) ≤ m
short_of true n m h = h refl
short_of false n m h = omega arith

pub lent_fits : (n : Export) (running : Option Command) → IsRunnable n running → lent_now running ≤ n.max_len
lent_fits n None h = omega arith
lent_fits n (Some c) h = short_of (lends_data c.kind) c.length n.max_len (λ moves. accepted_short c n moves h.0)

-- ---- a session that differs only in front of its room represents the same texts

pub stands_beside : (start : Phase) (line : SessionState) (text bytes : List ℕ) (running : Option Command) (replied : ℕ) → drop 16 bytes ≡ drop 16 line.bytes → SessionRepresents start line text → SessionRepresents start (record line { running = running; bytes = bytes; replied = replied }) text
stands_beside start line text bytes running replied same h = by_stage line.stage h where
  by_stage : (stage : Stage) → StageRepresents start stage line text → StageRepresents start stage (record line { running = running; bytes = bytes; replied = replied }) text
  by_stage Negotiating h = h
  by_stage Requesting h = record { parser = h.parser; payload = ap (λ (l : List ℕ). take line.filled l) same ∙ h.payload }
  by_stage Ended h = h

-- ---- the bytes that were lent, given back

-- what is written over a part as long is there
over_part : (old bytes : List ℕ) (n : ℕ) → 16 + n ≤ length old → length bytes ≡ n → take n (drop 16 (written_over old bytes)) ≡ bytes
over_part old bytes n fits len =
    let front : length (take 16 old) ≡ 16 = length-take-le 16 old (omega arith) in
    let behind = bytes ++ drop (length bytes) (drop 16 old) in
    let whole = take 16 old ++ behind in
    let sizes : length whole ≡ length old = omega (arith, length-append (take 16 old) behind, length-append bytes (drop (length bytes) (drop 16 old)), length-drop (length bytes) (drop 16 old), length-drop 16 old) in
    let all : take (length old) (whole ++ drop (length whole) old) ≡ whole = take_at whole (drop (length whole) old) (length old) sizes in
    ap (λ (l : List ℕ). take n (drop 16 l)) all ∙ ap (λ (l : List ℕ). take n l) (drop_at (take 16 old) behind 16 front) ∙ take_at bytes (drop (length bytes) (drop 16 old)) n len

nothing : (bytes : List ℕ) → length bytes ≡ 0 → bytes ≡ []
nothing [] e = refl
nothing (x ∷ bytes) e = cc

pub room_given : (line : SessionState) (bytes : List ℕ) → length (room_of line) ≡ lent_now line.running → length bytes ≡ length (room_of line) → room_of (given_back line bytes) ≡ bytes
room_given line bytes whole len = by_len (lent_now line.running) whole (len ∙ whole) where
  by_len : (n : ℕ) → length (take n (drop 16 line.bytes)) ≡ n → length bytes ≡ n → take n (drop 16 (written_over line.bytes bytes)) ≡ bytes
  by_len zero e same = sym (nothing bytes same)
  by_len (suc n) e same =
      let fits : 16 + suc n ≤ length line.bytes = omega (arith, length-take (suc n) (drop 16 line.bytes), length-drop 16 line.bytes) in
      over_part line.bytes bytes (suc n) fits same

pub stands_given : (start : Phase) (line : SessionState) (text bytes : List ℕ) → line.filled ≡ 0 → SessionRepresents start line text → SessionRepresents start (given_back line bytes) text
stands_given start line text bytes none h = by_stage line.stage h where
  by_stage : (stage : Stage) → StageRepresents start stage line text → StageRepresents start stage (given_back line bytes) text
  by_stage Negotiating h = h
  by_stage Requesting h = record { parser = h.parser; payload = ap (λ (m : ℕ). take m (drop 16 (written_over line.bytes bytes))) none ∙ sym (ap (λ (m : ℕ). take m (drop 16 line.bytes)) none) ∙ h.payload }
  by_stage Ended h = h

-- where nothing is lent, nothing changes
pub given_nothing : (line : SessionState) (bytes : List ℕ) → line.running ≡ None → length bytes ≡ length (room_of line) → given_back line bytes ≡ line
given_nothing line bytes idle len =
    let none : bytes ≡ [] = nothing bytes (len ∙ ap (λ (o : Option Command). length (take (lent_now o) (drop 16 line.bytes))) idle) in
    let same = ap (λ (w : List ℕ). take (length line.bytes) (w ++ drop (length w) line.bytes)) (take-append-drop 16 line.bytes) ∙ take_at line.bytes (drop (length line.bytes) line.bytes) (length line.bytes) refl in
    ap (given_back line) none ∙ ap (λ (b : List ℕ). record line { bytes = b }) same
