-- a piece, as a move of a station
use Rattle.std.proofs.Common.{◌≡◌, inl, inr, ℕ, Bool, true, false, List, [], ◌∷◌, ◌++◌, length, Option, None, Some, replicate, ◌<◌, ◌≤◌, arith, refl, sym, ◌∙◌, ap, append_assoc, subst, get_or, set}
use Rattle.std.specs.Borrow.{Bor}
use Rattle.std.specs.Prelude.{not, MatchBool, if◌then◌else◌}
use Rattle.nbd_wire.specs.declared.export.Export.{Export}
use Rattle.block_device.specs.Contents.{Outcome}
use Rattle.block_device.specs.Facts.{Facts}
use Rattle.nbd_transmission.specs.Apply.{applied}
use Rattle.nbd_session.specs.Sessions.{SessionState}
use Rattle.nbd_session.specs.Parts.{Part, ForDisk, closed}
use Rattle.nbd_station.specs.Records.{DONE, SHUT, LOST, entry, replied}
use Rattle.nbd_station.specs.declared.event.Event.TheVariants.{Piece}
use Rattle.nbd_connection.specs.declared.piece.PieceOutcome.TheVariants.{Open, Closed, OutputFailed, Lost}
use Rattle.nbd_station.specs.Answers.{after_parts, replies, after_part, reply_of_part}
use Rattle.nbd_station.specs.World.{World, Powered, Unpowered, AnswersPiece, PieceInterrupted, Lacked, dark, hung_up, text_at}
use Rattle.nbd_station.specs.StationState.{StationRepresents, ServesText}
use Rattle.nbd_station.specs.Moving.{Halts}
use Rattle.nbd_station.specs.Turning.{PieceState, IsRunQuiet, LostParts, Pieced}
use Rattle.nbd_station.proofs.Pieces.{longer}
use Rattle.nbd_station.proofs.Lines.{lines_put, lines_set, lines_dark, text_of}
use Rattle.nbd_station.proofs.Moving.{station, Leads, step_on, by_some}

abbrev pub state : Facts → SessionState → Option (List ℕ) → PieceState
state f line written = record { disk = f; line = line; written = written }

replies_append : (n : Export) (who : ℕ) (d : List ℕ) (xs ys : List Part) → replies n who d (xs ++ ys) ≡ replies n who d xs ++ replies n who (after_parts n d xs) ys
replies_append n who d [] ys = refl
replies_append n who d (x ∷ xs) ys =
    ap (λ l. replied who (reply_of_part n d x) ++ l) (replies_append n who (after_part n d x) xs ys)
    ∙ sym (append_assoc (replied who (reply_of_part n d x)) (replies n who (after_part n d x) xs) (replies n who (after_parts n (after_part n d x) xs) ys))

-- some parts are answered in a world with this disk
answers_in : (w : World) (who : ℕ) (n : Export) (d text bytes told disk : List ℕ) (more : List Part) (b : Bool)
    → w.export ≡ n → w.disk ≡ d → Lacked n text bytes more → told ≡ replies n who d more → disk ≡ after_parts n d more → closed more ≡ b
    → AnswersPiece w who text bytes (told ++ entry who (if b then SHUT else DONE) [])
    (record { export = w.export; disk = disk; power = true; texts = set w.texts who (if b then None else Some (text ++ bytes)) })
answers_in w who n d text bytes told disk more b export same lacked out after shut =
    let said : told ≡ replies w.export who w.disk more = out ∙ (ap (λ m. replies m who d more) (sym export) ∙ ap (λ k. replies w.export who k more) (sym same)) in
    let left : disk ≡ after_parts w.export w.disk more = after ∙ (ap (λ m. after_parts m d more) (sym export) ∙ ap (λ k. after_parts w.export k more) (sym same)) in
    record {
      more = more;
      lacked = subst (λ m. Lacked m text bytes more) (sym export) lacked;
      wrote = ap (λ t. t ++ entry who (if b then SHUT else DONE) []) said ∙ ap (λ x. replies w.export who w.disk more ++ entry who (if x then SHUT else DONE) []) (sym shut);
      world = ap (λ k. record { export = w.export; disk = k; power = true; texts = set w.texts who (if b then None else Some (text ++ bytes)) }) left
          ∙ ap (λ x. record { export = w.export; disk = after_parts w.export w.disk more; power = true; texts = set w.texts who (if x then None else Some (text ++ bytes)) }) (sym shut);
    }

-- one is interrupted
interrupted_in : (w : World) (who : ℕ) (n : Export) (d text bytes told disk : List ℕ) (o : PieceState) → o.line.export ≡ n → o.disk.contents ≡ d
    → w.export ≡ n → w.disk ≡ d → LostParts who o text bytes told disk → PieceInterrupted w who text bytes (told ++ entry who LOST []) (dark w disk)
interrupted_in w who n d text bytes told disk o on od export same x =
    let m : o.line.export ≡ w.export = on ∙ sym export in
    let k : o.disk.contents ≡ w.disk = od ∙ sym same in
    record {
      before = x.before;
      command = x.command;
      payload = x.payload;
      rest = x.rest;
      disk = disk;
      lacked = subst (λ j. Lacked j text bytes (x.before ++ ForDisk x.command x.payload ∷ x.rest)) m x.lacked;
      touches = x.touches;
      outcome = subst (λ j. Outcome (after_parts j w.disk x.before) (applied j (after_parts j w.disk x.before) x.command x.payload) disk) m
          (subst (λ e. Outcome (after_parts o.line.export e x.before) (applied o.line.export (after_parts o.line.export e x.before) x.command x.payload) disk) k x.outcome);
      wrote = ap (λ t. t ++ entry who LOST []) (x.out_is ∙ (ap (λ j. replies j who o.disk.contents x.before) m ∙ ap (λ e. replies w.export who e x.before) k));
      world = refl;
    }

module _ (f f' : Facts) (n : Export) (on : Bool) (ss : List SessionState) (bs : List Bool) (was is : Option (List ℕ)) (c : ℕ) (bytes : Bor (List ℕ)) (d s s' : SessionState)
    (eight : length ss ≡ 8) (power : on ≡ true) (lt : c < 8) (at : get_or ss c d ≡ s) (here : get_or bs c false ≡ true) (export : s.export ≡ n)
    (sound : f'.sound ≡ f.sound) (cuts : f.cuts ≤ f'.cuts) where
  is_quiet : f'.slows ≡ f.slows → (w : World) → StationRepresents (station f n on ss bs) w → IsRunQuiet f f'
  is_quiet same w st = let k = st.disk in record { sound = k.sound; cut = k.cut ∙ ap not power; slow = k.slow; slows = same }

  text_here : (w : World) → StationRepresents (station f n on ss bs) w → (u : List ℕ) × (text_at w c ≡ Some u) × ServesText s u
  text_here w st = let inside : c < length ss = omega arith in text_of ss bs w.texts c d s st.texts inside at here

  pub piece_shut : (IsRunQuiet f f' → Pieced c (state f s was) (state f' s' is) Closed bytes.now)
      → Leads (station f n on ss bs) (station f' n on (set ss c s') (set bs c false)) (Piece c bytes) was is (entry c SHUT [])
  piece_shut goes = λ same w st.
      let k = st.disk in
      let lit : w.power ≡ true = k.power ∙ power in
      let l = text_here w st in
      let g = goes (is_quiet same w st) in
      let x = g.says l.0 l.2 in
      let a = x.2.2 in
      let w' : World = record { export = w.export; disk = f'.contents; power = true; texts = set w.texts c None } in
      let out = x.0 ++ entry c SHUT [] in (
        x.0,
        x.1,
        w',
        inl (
          step_on w.power (Powered w (Piece c bytes) out w') (Unpowered w (Piece c bytes) out w') lit
              (by_some (text_at w c) l.0 _ _ l.1 (answers_in w c n f.contents l.0 bytes.now x.0 f'.contents x.2.0 true k.export k.contents
              (subst (λ m. Lacked m l.0 bytes.now x.2.0) export a.lacked) (a.out_is ∙ ap (λ m. replies m c f.contents x.2.0) export) (a.disk_is ∙ ap (λ m. after_parts m f.contents x.2.0) export) x.2.1)),
          cuts,
        ),
        record {
          disk = record { sound = sound ∙ k.sound; slow = g.slow; cut = g.power ∙ ap not (sym power); export = k.export; contents = refl; power = sym power };
          texts = lines_set ss bs w.texts c s' false None st.texts tt;
        },
      )

  pub piece_stays : (IsRunQuiet f f' → Pieced c (state f s was) (state f' s' is) Open bytes.now)
      → Leads (station f n on ss bs) (station f' n on (set ss c s') bs) (Piece c bytes) was is (entry c DONE [])
  piece_stays goes = λ same w st.
      let k = st.disk in
      let lit : w.power ≡ true = k.power ∙ power in
      let l = text_here w st in
      let g = goes (is_quiet same w st) in
      let x = g.says l.0 l.2 in
      let y = x.2.0 in
      let a = y.2 in
      let w' : World = record { export = w.export; disk = f'.contents; power = true; texts = set w.texts c (Some (l.0 ++ bytes.now)) } in
      let out = x.0 ++ entry c DONE [] in (
        x.0,
        x.1,
        w',
        inl (
          step_on w.power (Powered w (Piece c bytes) out w') (Unpowered w (Piece c bytes) out w') lit
              (by_some (text_at w c) l.0 _ _ l.1 (answers_in w c n f.contents l.0 bytes.now x.0 f'.contents y.0 false k.export k.contents
              (subst (λ m. Lacked m l.0 bytes.now y.0) export a.lacked) (a.out_is ∙ ap (λ m. replies m c f.contents y.0) export) (a.disk_is ∙ ap (λ m. after_parts m f.contents y.0) export) y.1)),
          cuts,
        ),
        record {
          disk = record { sound = sound ∙ k.sound; slow = g.slow; cut = g.power ∙ ap not (sym power); export = k.export; contents = refl; power = sym power };
          texts = lines_put ss bs w.texts c s' (l.0 ++ bytes.now) st.texts here x.2.1;
        },
      )

  pub piece_lost : length (set ss c s') ≡ 8 → (IsRunQuiet f f' → Pieced c (state f s was) (state f' s' is) Lost bytes.now)
      → Leads (station f n on ss bs) (station f' n false (set ss c s') (replicate 8 false)) (Piece c bytes) was is (entry c LOST [])
  piece_lost still goes = λ same w st.
      let k = st.disk in
      let lit : w.power ≡ true = k.power ∙ power in
      let l = text_here w st in
      let g = goes (is_quiet same w st) in
      let x = g.says l.0 l.2 in (
        x.0,
        x.1,
        dark w f'.contents,
        inr ((lit, by_some (text_at w c) l.0 _ _ l.1 (interrupted_in w c n f.contents l.0 bytes.now x.0 f'.contents (state f s was) export refl k.export k.contents x.2)), g.power.1),
        record {
          disk = record { sound = sound ∙ k.sound; slow = g.slow; cut = g.power.0; export = k.export; contents = refl; power = refl };
          texts = lines_dark 8 (set ss c s') still;
        },
      )

  -- the output fails in a reply of the piece
  pub piece_stops : (IsRunQuiet f f' → Pieced c (state f s was) (state f' s' is) OutputFailed bytes.now)
      → Halts (station f n on ss bs) (station f' n on (set ss c s') bs) (Piece c bytes) was is
  piece_stops goes = λ same w st.
      let k = st.disk in
      let lit : w.power ≡ true = k.power ∙ power in
      let l = text_here w st in
      let g = goes (is_quiet same w st) in
      let x = g.says l.0 l.2 in
      let h = x.2 in
      let front = h.before ++ h.part ∷ [] in
      let all = front ++ h.rest in
      let mid = after_parts n f.contents front in
      let tail = replies n c mid h.rest in
      let whole : h.before ++ h.part ∷ h.rest ≡ all = sym (append_assoc h.before (h.part ∷ []) h.rest) in
      let lacked : Lacked n l.0 bytes.now all = subst (λ m. Lacked m l.0 bytes.now all) export (subst (λ v. Lacked s.export l.0 bytes.now v) whole h.lacked) in
      let out_is : replies n c f.contents front ≡ x.0 ++ h.unsent = subst (λ m. replies m c f.contents front ≡ x.0 ++ h.unsent) export h.out_is in
      let disk_is : f'.contents ≡ mid = subst (λ m. f'.contents ≡ after_parts m f.contents front) export h.disk_is in
      let b = closed all in
      let last = entry c (if b then SHUT else DONE) [] in
      let end : World = record { export = w.export; disk = after_parts n f.contents all; power = true; texts = set w.texts c (if b then None else Some (l.0 ++ bytes.now)) } in
      let unsent = h.unsent ++ (tail ++ last) in
      let told : replies n c f.contents all ++ last ≡ x.0 ++ unsent =
      ap (λ v. v ++ last) (replies_append n c f.contents front h.rest ∙ ap (λ v. v ++ tail) out_is)
      ∙ (append_assoc (x.0 ++ h.unsent) tail last ∙ append_assoc x.0 h.unsent (tail ++ last)) in
      let step = step_on w.power (Powered w (Piece c bytes) (replies n c f.contents all ++ last) end) (Unpowered w (Piece c bytes) (replies n c f.contents all ++ last) end) lit
      (by_some (text_at w c) l.0 _ _ l.1 (answers_in w c n f.contents l.0 bytes.now (replies n c f.contents all) (after_parts n f.contents all) all b k.export k.contents lacked refl refl refl)) in
      let left : World = hung_up (record w { disk = after_parts w.export w.disk front }) in (
        left,
        x.0,
        x.1,
        record {
          unsent = unsent;
          missing = longer h.unsent (tail ++ last) h.missing;
          end = end;
          move = inl (subst (λ o. MatchBool w.power (Powered w (Piece c bytes) o end) (Unpowered w (Piece c bytes) o end)) told step, cuts);
          reached = inr (by_some (text_at w c) l.0 _ _ l.1 (record {
            before = h.before;
            part = h.part;
            rest = h.rest;
            lacked = subst (λ m. Lacked m l.0 bytes.now (h.before ++ h.part ∷ h.rest)) (export ∙ sym k.export) h.lacked;
            first = h.first;
            unsent = h.unsent;
            missing = h.missing;
            reply_is = ap (λ v. replied c (reply_of_part w.export (after_parts w.export v h.before) h.part)) k.contents
                ∙ (ap (λ m. replied c (reply_of_part m (after_parts m f.contents h.before) h.part)) (k.export ∙ sym export) ∙ h.reply_is);
            out_is = h.split
                ∙ (ap (λ m. replies m c f.contents h.before ++ h.first) (export ∙ sym k.export)
                ∙ ap (λ v. replies w.export c v h.before ++ h.first) (sym k.contents));
            world = refl;
          }));
        },
        record {
          sound = sound ∙ k.sound;
          slow = g.slow;
          cut = g.power ∙ ap not (sym power);
          export = k.export;
          contents = ap (λ m. after_parts m w.disk front) k.export ∙ (ap (λ v. after_parts n v front) k.contents ∙ sym disk_is);
          power = k.power;
        },
      )
