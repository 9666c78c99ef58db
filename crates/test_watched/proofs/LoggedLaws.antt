-- What is known of frames that are told is an equation of lists.
use Rattle.std.proofs.Common.{◌≡◌, ◌∙◌, ℕ, zero, suc, ◌*◌, ◌/◌, ◌++◌, List, [], ◌∷◌, length, take, Bool, true, false}
use Rattle.std.proofs.Common.{Option, Some, refl, sym, ap, append_assoc, append-nil}
use Rattle.std.proofs.Math.Seq.{take-length}
use Rattle.std.specs.Prelude.{if◌then◌else◌, ◌&&◌, ◌⊎◌}
use Rattle.chip_model.specs.Chip.{Chip, Operation, Idle, is_idle}
use Rattle.chip_model.specs.Exchanges.{Exchange, Exchanged}
use Rattle.chip_model.specs.Frames.{Frame, Read, Receives, busy, command_of, done, status, taken}
use Rattle.chip_model.specs.Frames.{ignored as unheard}
use Rattle.chip_watch.specs.Asking.{Passes, asked_of, is_put_to_chip, heeds}
use Rattle.chip_watch.specs.Changes.{change_of, with_place}
use Rattle.chip_watch.specs.Opening.{Opens}
use Rattle.chip_watch.specs.Reading.{Compared, change_reads, piece_reads}
use Rattle.chip_watch.specs.Settling.{Makes, Resumes, Rests, Steadies, are_waits, frame_of, register_reads, sent_alone, table_read}
use Rattle.chip_watch.specs.Watched.{Heard, IsPassedOver, read_back}
use Rattle.chip_watch.specs.declared.change.Change.{Change}
use Rattle.chip_watch.specs.declared.change.Change.TheVariants as makes
use Rattle.test_watched.specs.Logged.{AreCompared, AreMaking, AreOpening, Resumed, Steadied}

same_list : (some other : List Exchange) → Some some ≡ Some other → some ≡ other
same_list some other e = cc

-- frames more than these
told : (old : List Exchange) (mid new : Option (List Exchange)) (more : List Exchange) → mid ≡ Some old → Exchanged mid new more → new ≡ Some (old ++ more)
told old mid new more e one = one old e

pub heeded : (b : Bool) (old new more : List Exchange) → Exchanged (Some old) (Some new) (if b then more else []) → b ≡ true → new ≡ old ++ more
heeded true old new more one e = same_list _ _ (one old refl)
heeded false old new more one e = absurd (cc)

pub ignored : (b : Bool) (old new more : List Exchange) → Exchanged (Some old) (Some new) (if b then more else []) → b ≡ false → new ≡ old
ignored true old new more one e = absurd (cc)
ignored false old new more one e = same_list _ _ (one old refl) ∙ append-nil old

pub opened : (c : Chip) (old new : List Exchange) → old ≡ [] → Opens c (Some old) (Some new) → AreOpening c new
opened c old new none o =
    let start : Some old ≡ Some [] = ap (λ (l : List Exchange). Some l) none in
    let waits = o.rests.0 in
    let e1 = told [] (Some old) o.rested waits start o.rests.2 in
    let e2 = told waits o.rested o.registered (register_reads c) e1 o.registers in
    let e3 = told _ o.registered o.tabled (table_read c ∷ []) e2 o.table in
    let e4 = told _ o.tabled (Some new) (piece_reads c.memory 0 (length c.memory / 4096)) e3 o.memory in
    record { waits = waits; rests = o.rests.1; read = same_list _ _ e4 ∙ simp append_assoc }

pub steadied : (c : Chip) (change : Change) (old new : List Exchange) → Steadies c change (Some old) (Some new) → Steadied c change old new
steadied c change old new s =
    let waits = s.rests.0 in
    let e1 = told old (Some old) s.rested waits refl s.rests.2 in
    let e2 = told _ s.rested s.shown (change_reads change c.memory) e1 s.shows in
    let e3 = told _ s.shown (Some new) (register_reads c) e2 s.registers in
    record { waits = waits; rests = s.rests.1; read = same_list _ _ e3 ∙ simp append_assoc }

-- the pieces that were compared, and all frames up to them
compared : (m : List ℕ) (change : Change) (n : ℕ) (old : List Exchange) (before new : Option (List Exchange)) → before ≡ Some old → Compared m change n before new
    → (reads : List Exchange) × AreCompared m change n reads × (new ≡ Some (old ++ reads))
compared m change zero old before new e same = ([], refl, same ∙ (e ∙ ap (λ (l : List Exchange). Some l) (sym (append-nil old))))
compared m change (suc n) old before new e (mid, received, earlier, one, long, agrees) =
    let (reads, are, reached) = compared m change n old before mid e earlier in
    let piece : Exchange = record { sent = with_place 3 (4096 * n); received = received } in (
      reads ++ (piece ∷ []),
      (reads, received, are, refl, long, agrees),
      told (old ++ reads) mid new (piece ∷ []) reached one ∙ ap (λ (l : List Exchange). Some l) (append_assoc old reads (piece ∷ [])),
    )

-- write enable, a frame and waits
making : (frame : List ℕ) (old : List Exchange) (before after : Option (List Exchange)) → before ≡ Some old
    → ((mid : Option (List Exchange)) × Exchanged before mid (sent_alone (6 ∷ []) ∷ sent_alone frame ∷ []) × Rests mid after)
    → (frames : List Exchange) × ((waits : List Exchange) × (are_waits waits ≡ true) × (frames ≡ sent_alone (6 ∷ []) ∷ sent_alone frame ∷ waits)) × (after ≡ Some (old ++ frames))
making frame old before after e (mid, sent, rests) =
    let waits = rests.0 in
    let first : List Exchange = sent_alone (6 ∷ []) ∷ sent_alone frame ∷ [] in (
      sent_alone (6 ∷ []) ∷ sent_alone frame ∷ waits,
      (waits, rests.1, refl),
      told (old ++ first) mid after waits (told old before mid first e sent) rests.2 ∙ ap (λ (l : List Exchange). Some l) (append_assoc old first waits),
    )

made : (m : List ℕ) (change : Change) (old : List Exchange) (before after : Option (List Exchange)) → before ≡ Some old → Makes change m before after
    → (frames : List Exchange) × AreMaking change m frames × (after ≡ Some (old ++ frames))
made m makes.None old before after e same = ([], refl, same ∙ (e ∙ ap (λ (l : List Exchange). Some l) (sym (append-nil old))))
made m (makes.Page at) old before after e steps = making (frame_of (makes.Page at) m) old before after e steps
made m (makes.Unit at size) old before after e steps = making (frame_of (makes.Unit at size) m) old before after e steps
made m (makes.Status value) old before after e steps = making (frame_of (makes.Status value) m) old before after e steps

pub resumed : (c : Chip) (change : Change) (old new : List Exchange) → Resumes c change (Some old) (Some new) → Resumed c change old new
resumed c change old new r =
    let waits = r.rests.0 in
    let e1 = told old (Some old) r.rested waits refl r.rests.2 in
    let e2 = told _ r.rested r.tabled (table_read c ∷ []) e1 r.table in
    let (reads, are, e3) = compared c.memory change (length c.memory / 4096) _ r.tabled r.compared e2 r.memory in
    let (frames, again, e4) = made c.memory change _ r.compared r.made e3 r.again in
    let e5 = told _ r.made r.shown (change_reads change c.memory) e4 r.shows in
    let e6 = told _ r.shown (Some new) (register_reads c) e5 r.registers in
    record { waits = waits; compared = reads; made = frames; rests = r.rests.1; memory = are; again = again; all = same_list _ _ e6 ∙ simp append_assoc }

-- what a frame added that the chip was sent
pub asked_for : (trusts fresh : Bool) (c left : Chip) (sent received : List ℕ) (old new : List Exchange) → Heard trusts fresh c sent received left (Some old) (Some new) → is_put_to_chip fresh c (command_of sent) ≡ true
    → (answer : List ℕ) × (more : List Exchange) × Passes (command_of sent) answer (take (asked_of (command_of sent) (length received)) received)
    × ((more ≡ read_back trusts c left) ⊎ IsPassedOver left more) × (new ≡ old ++ (record { sent = sent; received = answer } ∷ more))
asked_for trusts fresh c left sent received old new h e = (h.answer, h.more, h.passes, h.follows, heeded (is_put_to_chip fresh c (command_of sent)) old new _ h.exchanged e)

-- and one that it wasn't
pub unasked : (trusts fresh : Bool) (c left : Chip) (sent received : List ℕ) (old new : List Exchange) → Heard trusts fresh c sent received left (Some old) (Some new) → is_put_to_chip fresh c (command_of sent) ≡ false
    → new ≡ old
unasked trusts fresh c left sent received old new h e = ignored (is_put_to_chip fresh c (command_of sent)) old new _ h.exchanged e

pub none_ahead : (frames ahead : List Exchange) → ahead ≡ [] → frames ++ ahead ≡ frames
none_ahead frames ahead e = ap (λ (l : List Exchange). frames ++ l) e ∙ append-nil frames

-- the READ of the bytes from 3000h on
abbrev pub read_3000 : List ℕ
read_3000 = 3 ∷ 0 ∷ 48 ∷ 0 ∷ []

never : (b : Bool) → (b && false) ≡ false
never true = refl
never false = refl

pub answered_before : (trusts fresh : Bool) (c left : Chip) (received : List ℕ) (old new : List Exchange) → fresh ≡ true → Heard trusts fresh c read_3000 received left (Some old) (Some new) → new ≡ old
answered_before trusts fresh c left received old new e heard =
    unasked trusts fresh c left read_3000 received old new heard (ap (λ (b : Bool). is_put_to_chip b c (command_of read_3000)) e ∙ never (heeds c (command_of read_3000)))

pub same_chip : (c left : Chip) (received : List ℕ) → c.operation ≡ Idle → Frame c read_3000 received left → (left ≡ c) × Receives c (Read 12288) received
same_chip c left received idle (taken _ told e) = (e, told)
same_chip c left received idle (busy is _ _ _) = absurd (cc)
same_chip c left received idle (done is _ _ _) = absurd (cc)
same_chip c left received idle (status is _ _ _) = absurd (cc)
same_chip c left received idle (unheard is _ _ _) = absurd (cc)
