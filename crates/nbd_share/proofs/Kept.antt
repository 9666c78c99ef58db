-- What a row more leaves of the history.
use Rattle.std.proofs.Common.{◌≡◌, ◌⊎◌, ℕ, List, [], ◌∷◌, ◌++◌, length, Bool, true, false, ◌||◌, ◌==◌, refl, sym, ap, ◌∙◌, subst, inl, inr, Option, Some, None}
use Rattle.nbd_wire.specs.declared.export.Export.{Export}
use Rattle.block_device.specs.Contents.{Outcome}
use Rattle.block_device.specs.Facts.{Facts}
use Rattle.nbd_wire.specs.declared.command.Command.{Command}
use Rattle.nbd_wire.specs.declared.command.CommandKind.{CommandKind}
use Rattle.nbd_wire.specs.declared.command.CommandKind.TheVariants.{Read, Write, Disconnect, Flush, Trim, WriteZeroes, Unknown}
use Rattle.nbd_wire.specs.Commands.{is_read, judge_of, touches_chip}
use Rattle.nbd_transmission.specs.Apply.{data_of, data_of_kind, changed_by, changed_kind}
use Rattle.nbd_share.specs.declared.recorder.Row.{Row}
use Rattle.nbd_share.specs.declared.recorder.Interrupted.{Interrupted}
use Rattle.nbd_wire.specs.Lent.{lent_len, lent_len_of, payload_in_of, payload_len_of, reply_in, data_in_of}
use Rattle.nbd_share.specs.History.{row_of, interrupted_of, after_row, replay, has_failed, MayComeNext, IsLegal, rows_with}
use Rattle.nbd_share.specs.State.{IsKept}

replay-push : (d : List ℕ) (rows : List Row) (r : Row) → replay d (rows ++ r ∷ []) ≡ after_row (replay d rows) r
replay-push d [] r = refl
replay-push d (x ∷ xs) r = replay-push (after_row d x) xs r

failed-push : (b : Bool) (rows : List Row) (r : Row) → has_failed b (rows ++ r ∷ []) ≡ (has_failed b rows || r.error == 5)
failed-push b [] r = refl
failed-push b (x ∷ xs) r = failed-push (b || x.error == 5) xs r

legal-push : (n : Export) (d : List ℕ) (failed : Bool) (rs : List Row) (r : Row) → IsLegal n d failed rs → MayComeNext n (replay d rs) (has_failed failed rs) r → IsLegal n d failed (rs ++ r ∷ [])
legal-push n d failed [] r h f = (f, tt)
legal-push n d failed (x ∷ xs) r h f = (h.0, legal-push n (after_row d x) (failed || x.error == 5) xs r h.1 f)

or-false : (b : Bool) → (b || false) ≡ b
or-false true = refl
or-false false = refl

-- the row keeps a WRITE's payload, and no other command takes any
pub changed-payload : (k : CommandKind) (d : List ℕ) (c : Command) (bytes bytes' : List ℕ) → (is_read k ≡ false → bytes' ≡ bytes) → changed_kind k d c (payload_in_of k bytes') ≡ changed_kind k d c bytes
changed-payload Read d c bytes bytes' h = refl
changed-payload Write d c bytes bytes' h = ap (λ (p : List ℕ). changed_kind Write d c p) (h refl)
changed-payload Disconnect d c bytes bytes' h = refl
changed-payload Flush d c bytes bytes' h = refl
changed-payload Trim d c bytes bytes' h = refl
changed-payload WriteZeroes d c bytes bytes' h = refl
changed-payload (Unknown n) d c bytes bytes' h = refl

pub payload-length : (k : CommandKind) (c : Command) (bytes bytes' : List ℕ) → length bytes' ≡ length bytes → length bytes ≡ lent_len_of k c → length (payload_in_of k bytes') ≡ payload_len_of k c
payload-length Read c bytes bytes' same long = refl
payload-length Write c bytes bytes' same long = same ∙ long
payload-length Disconnect c bytes bytes' same long = refl
payload-length Flush c bytes bytes' same long = refl
payload-length Trim c bytes bytes' same long = refl
payload-length WriteZeroes c bytes bytes' same long = refl
payload-length (Unknown n) c bytes bytes' same long = refl

-- the data of an accepted command that moves none is the same on all contents
data-same : (k : CommandKind) (c : Command) (d e : List ℕ) (bytes : List ℕ) → (touches_chip k ≡ true → e ≡ d) → data_in_of k bytes ≡ data_of_kind k d c → data_in_of k bytes ≡ data_of_kind k e c
data-same Read c d e bytes same h = h ∙ ap (λ (x : List ℕ). data_of_kind Read x c) (sym (same refl))
data-same Write c d e bytes same h = h
data-same Disconnect c d e bytes same h = h
data-same Flush c d e bytes same h = h
data-same Trim c d e bytes same h = h
data-same WriteZeroes c d e bytes same h = h
data-same (Unknown n) c d e bytes same h = h

pub not_both : (b : Bool) → b ≡ true → b ≡ false → ⊥
not_both b t f = cc

-- where a Cut would have made the server lost, none stood
pub has_power : (cut lost : Bool) → (cut ≡ true → lost ≡ true) → lost ≡ false → cut ≡ false
has_power true lost h e = absurd (not_both lost (h refl) e)
has_power false lost h e = refl

-- where a Cut was latched, or came where no Slow was latched: without the first no Slow was latched
pub was_quiet : (cut slow : Bool) (A B : Type 0) → (cut ≡ true) ⊎ (A × (slow ≡ false) × B) → cut ≡ false → slow ≡ false
was_quiet cut slow A B (inl stood) e = absurd (not_both cut stood e)
was_quiet cut slow A B (inr came) e = came.1

-- a row with error 0
pub kept-ok : (n : Export) (f f' : Facts) (base : List ℕ) (rows : List Row) (int : Option Interrupted) (c : Command) (conn : ℕ) (bytes bytes' : List ℕ)
    → IsKept n f base rows int → judge_of c n ≡ None → length bytes' ≡ length bytes → length bytes ≡ lent_len c → (is_read c.kind ≡ false → bytes' ≡ bytes)
    → f'.sound ≡ f.sound → (f.sound ≡ true → f'.contents ≡ changed_by f.contents c bytes) → (f.sound ≡ true → reply_in c 0 bytes' ≡ data_of f.contents c)
    → f.cut ≡ false → f'.cut ≡ false → f'.slow ≡ f.slow → (touches_chip c.kind ≡ true → f.slow ≡ false)
    → IsKept n f' base (rows ++ row_of conn c 0 bytes' ∷ []) int
kept-ok n f f' base rows int c conn bytes bytes' kept accepted same long untouched sound changed replied no_cut no_cut' slow quiet = record {
  legal = λ s. legal-push n base false rows (row_of conn c 0 bytes') (kept.legal (sym sound ∙ s)) (record {
    accepted = accepted;
    payload = payload-length c.kind c bytes bytes' same long;
    error = inl refl;
    answered = λ e. data-same c.kind c f.contents (replay base rows) bytes' (λ m. sym (kept.replayed (sym sound ∙ s) no_cut (quiet m))) (replied (sym sound ∙ s));
    refused = λ e. cc;
    later = λ h m. absurd (not_both f.slow (kept.failed h) (quiet m));
  });
  replayed = λ s _ e.
      let here : f.contents ≡ replay base rows = kept.replayed (sym sound ∙ s) no_cut (sym slow ∙ e) in
      changed (sym sound ∙ s) ∙ ap (λ (x : List ℕ). changed_by x c bytes) here ∙ sym (changed-payload c.kind (replay base rows) c bytes bytes' untouched) ∙ sym (replay-push base rows (row_of conn c 0 bytes'));
  cut = λ _ e. absurd (not_both f'.cut e no_cut');
  alone = λ e. absurd (not_both f'.cut e no_cut');
  failed = λ h. slow ∙ kept.failed (sym (or-false _) ∙ sym (failed-push false rows (row_of conn c 0 bytes')) ∙ h);
  whole = λ _. kept.whole no_cut;
}

-- a row with error 5
pub kept-slow : (n : Export) (f f' : Facts) (base : List ℕ) (rows : List Row) (int : Option Interrupted) (c : Command) (conn : ℕ) (bytes bytes' : List ℕ)
    → IsKept n f base rows int → judge_of c n ≡ None → length bytes' ≡ length bytes → length bytes ≡ lent_len c
    → f'.sound ≡ f.sound → touches_chip c.kind ≡ true → f.cut ≡ false → f'.cut ≡ false → f'.slow ≡ true
    → IsKept n f' base (rows ++ row_of conn c 5 bytes' ∷ []) int
kept-slow n f f' base rows int c conn bytes bytes' kept accepted same long sound moving no_cut no_cut' slow = record {
  legal = λ s. legal-push n base false rows (row_of conn c 5 bytes') (kept.legal (sym sound ∙ s)) (record {
    accepted = accepted;
    payload = payload-length c.kind c bytes bytes' same long;
    error = inr refl;
    answered = λ e. cc;
    refused = λ e. (moving, refl);
    later = λ h m. refl;
  });
  replayed = λ s _ e. absurd (not_both f'.slow slow e);
  cut = λ _ e. absurd (not_both f'.cut e no_cut');
  alone = λ e. absurd (not_both f'.cut e no_cut');
  failed = λ h. slow;
  whole = λ _. kept.whole no_cut;
}

payload-same : (k : CommandKind) (bytes bytes' : List ℕ) → (is_read k ≡ false → bytes' ≡ bytes) → payload_in_of k bytes' ≡ payload_in_of k bytes
payload-same Read bytes bytes' h = refl
payload-same Write bytes bytes' h = h refl
payload-same Disconnect bytes bytes' h = refl
payload-same Flush bytes bytes' h = refl
payload-same Trim bytes bytes' h = refl
payload-same WriteZeroes bytes bytes' h = refl
payload-same (Unknown n) bytes bytes' h = refl

-- what is kept of a command that a Cut interrupted is its own payload
pub interrupted-same : (c : Command) (bytes bytes' : List ℕ) → (is_read c.kind ≡ false → bytes' ≡ bytes) → interrupted_of c bytes' ≡ interrupted_of c bytes
interrupted-same c bytes bytes' h = ap (λ (p : List ℕ). record { command = c; payload = p }) (payload-same c.kind bytes bytes' h)

-- a command that a Cut interrupted
kept-cut : (n : Export) (f f' : Facts) (base : List ℕ) (rows : List Row) (int : Option Interrupted) (c : Command) (bytes bytes' : List ℕ)
    → IsKept n f base rows int → (is_read c.kind ≡ false → bytes' ≡ bytes)
    → f'.sound ≡ f.sound → (f.sound ≡ true → Outcome f.contents (changed_by f.contents c bytes) f'.contents)
    → f.cut ≡ false → f.slow ≡ false → f'.cut ≡ true → f'.slow ≡ f.slow
    → IsKept n f' base rows (Some (interrupted_of c bytes'))
kept-cut n f f' base rows int c bytes bytes' kept untouched sound left no_cut quiet cut slow = record {
  legal = λ s. kept.legal (sym sound ∙ s);
  replayed = λ _ e _. absurd (not_both f'.cut cut e);
  cut = λ s _.
      let here : f.contents ≡ replay base rows = kept.replayed (sym sound ∙ s) no_cut quiet in
      let meant : changed_by f.contents c bytes ≡ changed_by (replay base rows) c (payload_in_of c.kind bytes') =
      sym (changed-payload c.kind f.contents c bytes bytes' untouched) ∙ ap (λ (x : List ℕ). changed_kind c.kind x c (payload_in_of c.kind bytes')) here in
      subst (λ (x : List ℕ). Outcome x (changed_by (replay base rows) c (payload_in_of c.kind bytes')) f'.contents) here
      (subst (λ (x : List ℕ). Outcome f.contents x f'.contents) meant (left (sym sound ∙ s)));
  alone = λ _. slow ∙ quiet;
  failed = λ h. slow ∙ kept.failed h;
  whole = λ e. absurd (not_both f'.cut cut e);
}

-- the same, where rows are kept, of what the calls leave
pub kept-row-ok : (keeps : Bool) (n : Export) (f f' : Facts) (base base₁ base' : List ℕ) (rows rows₁ rows' : List Row) (int int₁ int' : Option Interrupted) (c : Command) (conn : ℕ) (bytes bytes' : List ℕ)
    → keeps ≡ true → IsKept n f base rows int → judge_of c n ≡ None → length bytes' ≡ length bytes → length bytes ≡ lent_len c → (is_read c.kind ≡ false → bytes' ≡ bytes)
    → f'.sound ≡ f.sound → (f.sound ≡ true → f'.contents ≡ changed_by f.contents c bytes) → (f.sound ≡ true → reply_in c 0 bytes' ≡ data_of f.contents c)
    → f.cut ≡ false → f'.cut ≡ false → f'.slow ≡ f.slow → (touches_chip c.kind ≡ true → f.slow ≡ false)
    → base₁ ≡ base → base' ≡ base₁ → int₁ ≡ int → int' ≡ int₁ → rows₁ ≡ rows → rows' ≡ rows_with keeps rows₁ (row_of conn c 0 bytes')
    → IsKept n f' base' rows' int'
kept-row-ok keeps n f f' base base₁ base' rows rows₁ rows' int int₁ int' c conn bytes bytes' k kept accepted same long untouched sound changed replied no_cut no_cut' slow quiet eb eb' ei ei' er er' =
    let row = row_of conn c 0 bytes' in
    let rows_is : rows' ≡ rows ++ row ∷ [] = er' ∙ ap (λ (b : Bool). rows_with b rows₁ row) k ∙ ap (λ (rs : List Row). rs ++ row ∷ []) er in
    rw (eb', eb, ei', ei, rows_is) (kept-ok n f f' base rows int c conn bytes bytes' kept accepted same long untouched sound changed replied no_cut no_cut' slow quiet)

pub kept-row-slow : (keeps : Bool) (n : Export) (f f' : Facts) (base base₁ base' : List ℕ) (rows rows₁ rows' : List Row) (int int₁ int' : Option Interrupted) (c : Command) (conn : ℕ) (bytes bytes' : List ℕ)
    → keeps ≡ true → IsKept n f base rows int → judge_of c n ≡ None → length bytes' ≡ length bytes → length bytes ≡ lent_len c
    → f'.sound ≡ f.sound → touches_chip c.kind ≡ true → f.cut ≡ false → f'.cut ≡ false → f'.slow ≡ true
    → base₁ ≡ base → base' ≡ base₁ → int₁ ≡ int → int' ≡ int₁ → rows₁ ≡ rows → rows' ≡ rows_with keeps rows₁ (row_of conn c 5 bytes')
    → IsKept n f' base' rows' int'
kept-row-slow keeps n f f' base base₁ base' rows rows₁ rows' int int₁ int' c conn bytes bytes' k kept accepted same long sound moving no_cut no_cut' slow eb eb' ei ei' er er' =
    let row = row_of conn c 5 bytes' in
    let rows_is : rows' ≡ rows ++ row ∷ [] = er' ∙ ap (λ (b : Bool). rows_with b rows₁ row) k ∙ ap (λ (rs : List Row). rs ++ row ∷ []) er in
    rw (eb', eb, ei', ei, rows_is) (kept-slow n f f' base rows int c conn bytes bytes' kept accepted same long sound moving no_cut no_cut' slow)

pub kept-lost : (keeps : Bool) (n : Export) (f f' : Facts) (base base₁ base' : List ℕ) (rows rows₁ rows' : List Row) (int int' : Option Interrupted) (c : Command) (bytes bytes' : List ℕ)
    → keeps ≡ true → IsKept n f base rows int → (is_read c.kind ≡ false → bytes' ≡ bytes)
    → f'.sound ≡ f.sound → (f.sound ≡ true → Outcome f.contents (changed_by f.contents c bytes) f'.contents)
    → f.cut ≡ false → f.slow ≡ false → f'.cut ≡ true → f'.slow ≡ f.slow
    → base₁ ≡ base → base' ≡ base₁ → rows₁ ≡ rows → rows' ≡ rows₁ → (keeps ≡ true → int' ≡ Some (interrupted_of c bytes'))
    → IsKept n f' base' rows' int'
kept-lost keeps n f f' base base₁ base' rows rows₁ rows' int int' c bytes bytes' k kept untouched sound left no_cut quiet cut slow eb eb' er er' ei =
    rw (eb', eb, ei k, er', er) (kept-cut n f f' base rows int c bytes bytes' kept untouched sound left no_cut quiet cut slow)
