-- a run goes on by one event, or ends in it
use Rattle.std.proofs.Common.{◌≡◌, inl, inr, ℕ, Bool, true, false, List, [], ◌∷◌, ◌++◌, length, Option, None, Some, replicate, zero, suc, ◌<◌, ◌≤◌, arith, refl, sym, ◌∙◌, ap, append_assoc, subst, get_or, take, drop, ◌+◌}
use Rattle.std.specs.Prelude.{MatchOption, not, ◌*◌}
use Rattle.std.proofs.lemmas.List.{append-nil, take_more}
use Rattle.std.proofs.KnownBytes.{Appends-trans}
use Rattle.nbd_station.specs.declared.event.Event.{Event}
use Rattle.nbd_station.specs.declared.event.Event.TheVariants.{Open, Piece, Gone, Tidy, Restore}
use Rattle.nbd_station.specs.World.{World, text_at}
use Rattle.nbd_station.specs.Transcript.{Move, Transcript}
use Rattle.nbd_wire.specs.Commands.{default_export}
use Rattle.block_device.specs.Facts.{Facts}
use Rattle.nbd_station.specs.StationState.{StationState, IsNew, ConnectionsRepresent}
use Rattle.nbd_station.specs.Broken.{Breaks, Begun, BegunBy}
use Rattle.nbd_station.specs.Running.{Runs, Ends}
use Rattle.nbd_station.specs.Moving.{Moves, Halts, HangsUp}
use Rattle.nbd_station.proofs.Pieces.{appends_none}
use Rattle.nbd_station.proofs.Lines.{lines_dark}

-- a transcript goes on by one event
pub transcript_more : (c c' c'' : ℕ) (w w' w'' : World) (es : List Event) (e : Event) (x y : List ℕ)
    → Transcript c w es x c' w' → Move c' w' e y c'' w'' → Transcript c w (es ++ e ∷ []) (x ++ y) c'' w''
transcript_more c c' c'' w w' w'' [] e x y t m =
    (y, [], c'', w'', ap (λ l. l ++ y) t.0 ∙ sym (append-nil y), subst (λ k. Move k w e y c'' w'') t.1 (subst (λ v. Move c' v e y c'' w'') t.2 m), (refl, refl, refl))
transcript_more c c' c'' w w' w'' (f ∷ es) e x y t m =
    let i = transcript_more t.2 c' c'' t.3 w' w'' es e t.1 y t.6 m in
    (t.0, t.1 ++ y, t.2, t.3, ap (λ l. l ++ y) t.4 ∙ append_assoc t.0 t.1 y, t.5, i)

pub runs_none : (b : StationState) (is : Option (List ℕ)) → Runs b b [] is is
runs_none b is = λ same w s. (w, [], appends_none is, (refl, refl, refl), s)

-- a run goes on by one event
pub runs_more : (old mid new : StationState) (es : List Event) (e : Event) (was is now : Option (List ℕ))
    → old.disk.slows ≤ mid.disk.slows → mid.disk.slows ≤ new.disk.slows → Runs old mid es was is → Moves mid new e is now → Runs old new (es ++ e ∷ []) was now
runs_more old mid new es e was is now a b run move = λ same w s.
    let one : mid.disk.slows ≡ old.disk.slows = omega arith in
    let two : new.disk.slows ≡ mid.disk.slows = omega arith in
    let r = run one w s in
    let m = move two r.0 r.4 in
    (m.0, r.1 ++ m.1, Appends-trans was is now r.1 m.1 r.2 m.2, transcript_more old.disk.cuts mid.disk.cuts new.disk.cuts w r.0 m.0 es e r.1 m.1 r.3 m.3, m.4)

pub runs_more_at : (old mid new : StationState) (es : List Event) (i : ℕ) (d : Event) (was is now : Option (List ℕ))
    → i < length es → old.disk.slows ≤ mid.disk.slows → mid.disk.slows ≤ new.disk.slows → Runs old mid (take i es) was is → Moves mid new (get_or es i d) is now
    → Runs old new (take (i + 1) es) was now
runs_more_at old mid new es i d was is now lt a b run move =
    subst (λ l. Runs old new l was now) (sym (take_more es i d lt)) (runs_more old mid new (take i es) (get_or es i d) was is now a b run move)

-- the event at a place, with those before and behind it
split_event : (es : List Event) (i : ℕ) (d : Event) → i < length es → es ≡ take i es ++ get_or es i d ∷ drop (suc i) es
split_event [] i d lt = absurd (omega arith)
split_event (e ∷ es) zero d lt = refl
split_event (e ∷ es) (suc i) d lt = ap (λ l. e ∷ l) (split_event es i d (omega arith))

-- the output fails in an event of a run
pub ends_at : (old mid new : StationState) (es : List Event) (i : ℕ) (d : Event) (was is now : Option (List ℕ))
    → i < length es → old.disk.slows ≤ mid.disk.slows → mid.disk.slows ≤ new.disk.slows → Runs old mid (take i es) was is → HangsUp mid new (get_or es i d) is now
    → Ends old new es was now
ends_at old mid new es i d was is now lt a b run hangs = λ same w s.
    let one : mid.disk.slows ≡ old.disk.slows = omega arith in
    let two : new.disk.slows ≡ mid.disk.slows = omega arith in
    let r = run one w s in
    let m = hangs two r.0 r.4 in (
      m.0,
      r.1 ++ m.1,
      Appends-trans was is now r.1 m.1 r.2 m.2,
      record {
        before = take i es;
        event = get_or es i d;
        later = drop (suc i) es;
        whole = r.1;
        part = m.1;
        between = mid.disk.cuts;
        mid = r.0;
        events_are = split_event es i d lt;
        out_is = refl;
        transcript = r.3;
        breaks = m.3;
      },
      m.4,
    )

-- where the output fails, every connection of the world that is left is closed
begun_hung : (o : Option (List ℕ)) (w w' : World) (c : ℕ) (bytes out : List ℕ) → MatchOption o ⊥ (λ text. Begun w c text bytes out w') → w'.texts ≡ replicate 8 None
begun_hung None w w' c bytes out b = absurd b
begun_hung (Some text) w w' c bytes out b = ap (λ (v : World). v.texts) b.world

begun_by_hung : (e : Event) (w w' : World) (out : List ℕ) → BegunBy w e out w' → w'.texts ≡ replicate 8 None
begun_by_hung (Open c) w w' out b = absurd b
begun_by_hung (Piece c bytes) w w' out b = begun_hung (text_at w c) w w' c bytes.now out b
begun_by_hung (Gone c) w w' out b = absurd b
begun_by_hung Tidy w w' out b = absurd b
begun_by_hung Restore w w' out b = absurd b

breaks_hung : (c c' : ℕ) (w w' : World) (e : Event) (out : List ℕ) → Breaks c w e out c' w' → w'.texts ≡ replicate 8 None
breaks_hung c c' w w' e out b = elim b.reached [ inl h ↦ ap (λ (v : World). v.texts) h | inr h ↦ begun_by_hung e w w' out h ]

-- so the station represents that world once it closed them too
pub hangs_up : (old mid new : StationState) (e : Event) (was is : Option (List ℕ)) → length mid.sessions ≡ 8 → new ≡ record mid { is_open = replicate 8 false } → Halts old mid e was is → HangsUp old new e was is
hangs_up old mid new e was is eight same h =
    subst (λ b. HangsUp old b e was is) (sym same) (λ quiet w s.
    let x = h quiet w s in
    let d = x.4 in (
      x.0,
      x.1,
      x.2,
      x.3,
      record {
        disk = record { sound = d.sound; slow = d.slow; cut = d.cut; export = d.export; contents = d.contents; power = d.power };
        texts = subst (λ t. ConnectionsRepresent mid.sessions (replicate 8 false) t) (sym (breaks_hung old.disk.cuts mid.disk.cuts w x.0 e x.1 x.3)) (lines_dark 8 mid.sessions eight);
      },
    ))

not_not : (b : Bool) → not (not b) ≡ b
not_not true = refl
not_not false = refl

-- a station just made
pub is_new : (f : Facts) (b : StationState) → b.disk ≡ f → length f.contents ≡ 512 * b.export.sectors → b.export ≡ default_export b.export.sectors → f.cut ≡ not b.power → length b.sessions ≡ 8 → b.is_open ≡ replicate 8 false → IsNew f b
is_new f b same size served power eight shut = record {
  disk_is = same;
  size = size;
  served = served;
  represents = λ sound slow. record {
    disk = record {
      sound = ap (λ (x : Facts). x.sound) same ∙ sound;
      slow = ap (λ (x : Facts). x.slow) same ∙ slow;
      cut = ap (λ (x : Facts). x.cut) same ∙ power;
      export = refl;
      contents = ap (λ (x : Facts). x.contents) (sym same);
      power = ap not power ∙ not_not b.power;
    };
    texts = subst (λ bs. ConnectionsRepresent b.sessions bs (replicate 8 None)) (sym shut) (lines_dark 8 b.sessions eight);
  };
}
