-- the moves of a station
use Rattle.std.proofs.Common.{◌≡◌, ◌⊎◌, inl, inr, ℕ, Bool, true, false, List, [], ◌++◌, length, Option, None, Some, replicate, ◌<◌, ◌≤◌, arith, refl, sym, ◌∙◌, ap, append_assoc, subst, get_or, set}
use Rattle.std.specs.Borrow.{Bor}
use Rattle.std.specs.Prelude.{not, MatchBool, MatchOption, Result, Ok, Err}
use Rattle.std.specs.Io.KnownBytes.{Appends}
use Rattle.nbd_wire.specs.declared.export.Export.{Export}
use Rattle.block_device.specs.Facts.{Facts}
use Rattle.block_device.specs.Streams.{Sends, FailsToSend}
use Rattle.std.proofs.KnownBytes.{Appends-trans}
use Rattle.nbd_handshake.specs.Greeting.{greeting_bytes}
use Rattle.nbd_session.specs.Sessions.{SessionState}
use Rattle.nbd_station.specs.Records.{DONE, LOST, ABSENT, NO_ONE, entry, replied}
use Rattle.nbd_station.specs.declared.event.Event.{Event}
use Rattle.nbd_station.specs.declared.event.Event.TheVariants.{Open, Piece, Gone, Tidy, Restore}
use Rattle.nbd_station.specs.World.{World, Powered, Unpowered, dark, hung_up, text_at, with_text}
use Rattle.nbd_station.specs.Transcript.{Move}
use Rattle.nbd_station.specs.StationState.{StationState, DiskRepresents, StationRepresents, ServesText}
use Rattle.nbd_station.specs.Moving.{Does, Halts}
use Rattle.nbd_station.proofs.Pieces.{longer, appends_none}
use Rattle.nbd_station.proofs.Lines.{lines_set, lines_dark, lines_past, lines_none, lines_some, lines_close}

abbrev pub station : Facts → Export → Bool → List SessionState → List Bool → StationState
station f n on ss bs = record { disk = f; export = n; power = on; sessions = ss; is_open = bs }

-- an event whose last record is this one: what was told before it, and the move
abbrev pub Leads : StationState → StationState → Event → Option (List ℕ) → Option (List ℕ) → List ℕ → Type 0
Leads old new e was mid last = new.disk.slows ≡ old.disk.slows → (w : World) → StationRepresents old w →
    (told : List ℕ) × Appends was mid told × (w' : World) × Move old.disk.cuts w e (told ++ last) new.disk.cuts w' × StationRepresents new w'

hung : (b : StationState) (w : World) → DiskRepresents b w → DiskRepresents b (hung_up w)
hung b w s = record { sound = s.sound; slow = s.slow; cut = s.cut; export = s.export; contents = s.contents; power = s.power }

-- an event whose records end with this one, by what became of the output
pub does_by : {T E : Type 0} (old new : StationState) (e : Event) (was mid is : Option (List ℕ)) (last : List ℕ) (r : Result T E) (f f' : ℕ)
    → Leads old new e was mid last → Sends mid f last r is f' → Does old new e was r is
does_by old new e was mid is last (Ok v) f f' leads sent = λ same w s.
    let l = leads same w s in
    (l.2, l.0 ++ last, Appends-trans was mid is l.0 last l.1 sent.0, l.3, l.4)
does_by old new e was mid is last (Err x) f f' leads sent = λ same w s.
    let l = leads same w s in
    let t = sent.0 in (
      hung_up l.2,
      l.0 ++ t.0,
      Appends-trans was mid is l.0 t.0 l.1 t.3,
      record {
        unsent = t.1;
        missing = t.4;
        end = l.2;
        move = subst (λ o. Move old.disk.cuts w e o new.disk.cuts l.2) (ap (λ v. l.0 ++ v) t.2 ∙ sym (append_assoc l.0 t.0 t.1)) l.3;
        reached = inl refl;
      },
      (let d = l.4 in hung new l.2 d.disk),
    )

-- an event of one record
pub simply : (old new : StationState) (e : Event) (was : Option (List ℕ)) (last : List ℕ)
    → (new.disk.slows ≡ old.disk.slows → (w : World) → StationRepresents old w → (w' : World) × Move old.disk.cuts w e last new.disk.cuts w' × StationRepresents new w')
    → Leads old new e was was last
simply old new e was last m = λ same w s. let x = m same w s in ([], appends_none was, x.0, x.1, x.2)

step_off : (b : Bool) (P Q : Type 0) → b ≡ false → Q → MatchBool b P Q
step_off false P Q e q = q
step_off true P Q e q = absurd (cc)

pub step_on : (b : Bool) (P Q : Type 0) → b ≡ true → P → MatchBool b P Q
step_on false P Q e p = absurd (cc)
step_on true P Q e p = p

-- without power
pub refused : (b : StationState) (e : Event) (who : ℕ) (was : Option (List ℕ)) → b.power ≡ false → ((w : World) → Unpowered w e (entry who LOST []) w) → Leads b b e was was (entry who LOST [])
refused b e who was off un = simply b b e was (entry who LOST []) (λ same w s.
    let d = s.disk in
    let p : w.power ≡ false = d.power ∙ off in
    (w, inl (step_off w.power (Powered w e (entry who LOST []) w) (Unpowered w e (entry who LOST []) w) p (un w), omega arith), s))

-- an event that changes nothing
pub ignored : (b : StationState) (e : Event) (who : ℕ) (kind : ℕ) (was : Option (List ℕ)) → b.power ≡ true → ((w : World) → StationRepresents b w → Powered w e (entry who kind []) w) → Leads b b e was was (entry who kind [])
ignored b e who kind was on po = simply b b e was (entry who kind []) (λ same w s.
    let d = s.disk in
    let p : w.power ≡ true = d.power ∙ on in
    (w, inl (step_on w.power (Powered w e (entry who kind []) w) (Unpowered w e (entry who kind []) w) p (po w s), omega arith), s))

module _ (f f' : Facts) (n : Export) (on : Bool) (ss : List SessionState) (bs : List Bool) (was : Option (List ℕ)) where
  pub tidied : on ≡ true → (f.sound ≡ true → f'.contents ≡ f.contents) → f'.sound ≡ f.sound → f.cuts ≤ f'.cuts → f'.cut ≡ false → f'.slow ≡ false
      → Leads (station f n on ss bs) (station f' n on ss bs) Tidy was was (entry NO_ONE DONE [])
  tidied power kept sound cuts cut slow = simply (station f n on ss bs) (station f' n on ss bs) Tidy was (entry NO_ONE DONE []) (λ same w s.
      let d = s.disk in
      let p : w.power ≡ true = d.power ∙ power in (
        w,
        inl (rw p (refl, refl), cuts),
        record {
          disk = record { sound = sound ∙ d.sound; slow = slow; cut = cut ∙ ap not (sym power); export = d.export; contents = d.contents ∙ sym (kept d.sound); power = d.power };
          texts = s.texts;
        },
      ))

  pub tidy_lost : length ss ≡ 8 → on ≡ true → (f.sound ≡ true → f'.contents ≡ f.contents) → f'.sound ≡ f.sound
      → (f.cut ≡ true) ⊎ (((f.cut ≡ false) × (f.slow ≡ false)) × (f.cuts < f'.cuts)) → f'.cut ≡ true → f'.slow ≡ f.slow
      → Leads (station f n on ss bs) (station f' n false ss (replicate 8 false)) Tidy was was (entry NO_ONE LOST [])
  tidy_lost eight power kept sound cause cut slow = simply (station f n on ss bs) (station f' n false ss (replicate 8 false)) Tidy was (entry NO_ONE LOST []) (λ same w s.
      let d = s.disk in
      let off : f.cut ≡ false = d.cut ∙ ap not power in
      let rose : f.cuts < f'.cuts = elim cause [ inl h ↦ absurd (cc) | inr h ↦ h.1 ] in (
        dark w w.disk,
        inr ((d.power ∙ power, refl, refl), rose),
        record {
          disk = record { sound = sound ∙ d.sound; slow = slow ∙ d.slow; cut = cut; export = d.export; contents = d.contents ∙ sym (kept d.sound); power = refl };
          texts = lines_dark 8 ss eight;
        },
      ))

  pub restored : (f.sound ≡ true → f.slow ≡ false → f'.contents ≡ f.contents) → (f.slow ≡ false → f'.sound ≡ f.sound) → f.cuts ≤ f'.cuts → f'.cut ≡ false → f'.slow ≡ false
      → Leads (station f n on ss bs) (station f' n true ss bs) Restore was was (entry NO_ONE DONE [])
  restored kept sound cuts cut slow = simply (station f n on ss bs) (station f' n true ss bs) Restore was (entry NO_ONE DONE []) (λ same w s.
      let d = s.disk in
      by_power on w d.power s d) where
        by_power : (b : Bool) → (w : World) → w.power ≡ b → StationRepresents (station f n on ss bs) w → DiskRepresents (station f n on ss bs) w
            → (w' : World) × Move f.cuts w Restore (entry NO_ONE DONE []) f'.cuts w' × StationRepresents (station f' n true ss bs) w'
        by_power true w p s d = (
          w,
          inl (rw p (refl, refl), cuts),
          record {
            disk = record { sound = sound d.slow ∙ d.sound; slow = slow; cut = cut; export = d.export; contents = d.contents ∙ sym (kept d.sound d.slow); power = p };
            texts = s.texts;
          },
        )
        by_power false w p s d = (
          record w { power = true },
          inl (rw p (refl, refl), cuts),
          record {
            disk = record { sound = sound d.slow ∙ d.sound; slow = slow; cut = cut; export = d.export; contents = d.contents ∙ sym (kept d.sound d.slow); power = refl };
            texts = s.texts;
          },
        )

  pub restore_lost : length ss ≡ 8 → (f.sound ≡ true → f.slow ≡ false → f'.contents ≡ f.contents) → (f.slow ≡ false → f'.sound ≡ f.sound) → f.cuts < f'.cuts → f'.cut ≡ true → f'.slow ≡ f.slow
      → Leads (station f n on ss bs) (station f' n false ss (replicate 8 false)) Restore was was (entry NO_ONE LOST [])
  restore_lost eight kept sound rose cut slow = simply (station f n on ss bs) (station f' n false ss (replicate 8 false)) Restore was (entry NO_ONE LOST []) (λ same w s.
      let d = s.disk in (
        dark w w.disk,
        inr ((refl, refl), rose),
        record {
          disk = record { sound = sound d.slow ∙ d.sound; slow = slow ∙ d.slow; cut = cut; export = d.export; contents = d.contents ∙ sym (kept d.sound d.slow); power = refl };
          texts = lines_dark 8 ss eight;
        },
      ))

-- the same of the station that is seen
pub does_seen : {T E : Type 0} (view old new : StationState) (e : Event) (was is : Option (List ℕ)) (r : Result T E) → view ≡ old → Does view new e was r is → Does old new e was r is
does_seen view old new e was is r same d = subst (λ b. Does b new e was r is) same d

pub seen_power : (view old : StationState) (b : Bool) → view ≡ old → view.power ≡ b → old.power ≡ b
seen_power view old b same p = subst (λ (v : StationState). v.power ≡ b) same p

no_text : (b : StationState) (c : ℕ) (w : World) → length b.sessions ≡ 8 → (8 ≤ c) ⊎ (get_or b.is_open c false ≡ false) → StationRepresents b w → text_at w c ≡ None
no_text b c w eight cause s = elim cause [
  | inl h ↦ (let le : length b.sessions ≤ c = omega arith in lines_past b.sessions b.is_open w.texts c s.texts le)
  | inr h ↦ lines_none b.sessions b.is_open w.texts c s.texts h
]

by_text : {T : Type 0} (o : Option T) (P : Type 0) (Q : T → Type 0) → o ≡ None → P → MatchOption o P Q
by_text None P Q e p = p
by_text (Some t) P Q e p = absurd (cc)

pub by_some : {T : Type 0} (o : Option T) (t : T) (P : Type 0) (Q : T → Type 0) → o ≡ Some t → Q t → MatchOption o P Q
by_some o t P Q e q = subst (λ x. MatchOption x P Q) (sym e) q

pub gone_none : (b : StationState) (c : ℕ) (was : Option (List ℕ)) → length b.sessions ≡ 8 → b.power ≡ true → (8 ≤ c) ⊎ (get_or b.is_open c false ≡ false)
    → Leads b b (Gone c) was was (entry c ABSENT [])
gone_none b c was eight on cause = ignored b (Gone c) c ABSENT was on (λ w s. by_text (text_at w c) _ _ (no_text b c w eight cause s) (refl, refl))

pub piece_none : (b : StationState) (c : ℕ) (bytes : Bor (List ℕ)) (was : Option (List ℕ)) → length b.sessions ≡ 8 → b.power ≡ true → (8 ≤ c) ⊎ (get_or b.is_open c false ≡ false)
    → Leads b b (Piece c bytes) was was (entry c ABSENT [])
piece_none b c bytes was eight on cause = ignored b (Piece c bytes) c ABSENT was on (λ w s. by_text (text_at w c) _ _ (no_text b c w eight cause s) (refl, refl))

pub open_none : (b : StationState) (c : ℕ) (was : Option (List ℕ)) → b.power ≡ true → (8 ≤ c) ⊎ (get_or b.is_open c false ≡ true)
    → Leads b b (Open c) was was (entry c ABSENT [])
open_none b c was on cause = ignored b (Open c) c ABSENT was on (λ w s.
    let why : (8 ≤ c) ⊎ (text_at w c ≡ None → ⊥) = elim cause [ inl h ↦ inl h | inr h ↦ inr (λ e. let some = (lines_some b.sessions b.is_open w.texts c s.texts h).1 in cc) ] in
    inr (why, (refl, refl)))

module _ (f : Facts) (n : Export) (on : Bool) (ss : List SessionState) (bs : List Bool) (c : ℕ) (power : on ≡ true) where
  pub gone_done : (was : Option (List ℕ)) → get_or bs c false ≡ true → Leads (station f n on ss bs) (station f n on ss (set bs c false)) (Gone c) was was (entry c DONE [])
  gone_done was here = simply (station f n on ss bs) (station f n on ss (set bs c false)) (Gone c) was (entry c DONE []) (λ same w s.
      let d = s.disk in
      let lit : w.power ≡ true = d.power ∙ power in
      let some = lines_some ss bs w.texts c s.texts here in (
        with_text w c None,
        inl (
          step_on w.power (Powered w (Gone c) (entry c DONE []) (with_text w c None)) (Unpowered w (Gone c) (entry c DONE []) (with_text w c None)) lit
              (by_some (text_at w c) some.0 _ _ some.1 (refl, refl)),
          omega arith,
        ),
        record {
          disk = record { sound = d.sound; slow = d.slow; cut = d.cut; export = d.export; contents = d.contents; power = d.power };
          texts = lines_close ss bs w.texts c s.texts;
        },
      ))

  -- a connection is opened: its greeting is told, and then that it is done
  pub open_done : (was mid : Option (List ℕ)) (s' : SessionState) (reply : List ℕ) → c < 8 → get_or bs c false ≡ false → ServesText s' [] → reply ≡ greeting_bytes → Appends was mid (replied c reply)
      → Leads (station f n on ss bs) (station f n on (set ss c s') (set bs c true)) (Open c) was mid (entry c DONE [])
  open_done was mid s' reply lt shut serves greeting one = λ same w s.
      let d = s.disk in
      let lit : w.power ≡ true = d.power ∙ power in
      let none : text_at w c ≡ None = lines_none ss bs w.texts c s.texts shut in
      let out = replied c reply ++ entry c DONE [] in (
        replied c reply,
        one,
        with_text w c (Some []),
        inl (
          step_on w.power (Powered w (Open c) out (with_text w c (Some []))) (Unpowered w (Open c) out (with_text w c (Some []))) lit
              (inl (lt, none, ap (λ l. replied c l ++ entry c DONE []) greeting, refl)),
          omega arith,
        ),
        record {
          disk = record { sound = d.sound; slow = d.slow; cut = d.cut; export = d.export; contents = d.contents; power = d.power };
          texts = lines_set ss bs w.texts c s' true (Some []) s.texts serves;
        },
      )

  -- the output fails in its greeting
  pub open_halts : (was is : Option (List ℕ)) (s' : SessionState) (reply : List ℕ) (t t' : ℕ) → c < 8 → get_or bs c false ≡ false → ServesText s' [] → reply ≡ greeting_bytes → FailsToSend was t (replied c reply) is t'
      → Halts (station f n on ss bs) (station f n on (set ss c s') (set bs c true)) (Open c) was is
  open_halts was is s' reply t t' lt shut serves greeting failed = λ same w s.
      let d = s.disk in
      let lit : w.power ≡ true = d.power ∙ power in
      let none : text_at w c ≡ None = lines_none ss bs w.texts c s.texts shut in
      let x = failed.0 in
      let end = with_text w c (Some []) in
      let out = x.0 ++ (x.1 ++ entry c DONE []) in
      let whole : out ≡ replied c greeting_bytes ++ entry c DONE [] =
      sym (append_assoc x.0 x.1 (entry c DONE [])) ∙ (ap (λ l. l ++ entry c DONE []) (sym x.2) ∙ ap (λ l. replied c l ++ entry c DONE []) greeting) in (
        hung_up end,
        x.0,
        x.3,
        record {
          unsent = x.1 ++ entry c DONE [];
          missing = longer x.1 (entry c DONE []) x.4;
          end = end;
          move = inl (step_on w.power (Powered w (Open c) out end) (Unpowered w (Open c) out end) lit (inl (lt, none, whole, refl)), omega arith);
          reached = inl refl;
        },
        record { sound = d.sound; slow = d.slow; cut = d.cut; export = d.export; contents = d.contents; power = d.power },
      )

-- the same where nothing changed
pub does_same : {T E : Type 0} (view old : StationState) (e : Event) (was is : Option (List ℕ)) (r : Result T E) → view ≡ old → Does view view e was r is → Does old old e was r is
does_same view old e was is r same d = subst (λ b. Does b b e was r is) same d

pub halts_seen : (view old new : StationState) (e : Event) (was is : Option (List ℕ)) → view ≡ old → Halts view new e was is → Halts old new e was is
halts_seen view old new e was is same d = subst (λ b. Halts b new e was is) same d
