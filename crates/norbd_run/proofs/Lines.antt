-- What `serve` tells, step by step.
use Rattle.std.proofs.Common.{◌≡◌, ℕ, List, [], ◌++◌, Bool, Option, Result, Ok, Err, IfErr, IfOk, IsOkAnd, String, refl, sym, subst, ◌∙◌, ◌⊎◌, inl, inr}
use Rattle.std.specs.String.{string_bytes}
use Rattle.std.specs.Io.KnownBytes.{Appends}
use Rattle.std.proofs.KnownBytes.{Appends-nil, Appends-trans}
use Rattle.block_device.specs.Streams.{FailsToSend}
use Rattle.block_device.proofs.Streams.{Fails-first, Sends-twice}
use Rattle.norbd_serve.specs.declared.fault.ServeFault.{ServeFault}
use Rattle.norbd_serve.specs.declared.fault.ServeFault.TheVariants as serves
use Rattle.norbd_run.specs.Checking.{CheckTells, Says, checked_text, last_text}
use Rattle.norbd_run.specs.Chips.{ChipTells, chip_text}
use Rattle.norbd_run.specs.Moving.{MoveFails, ReadTells, WriteTells, WritesBytes, replacing_text, written_text}
use Rattle.norbd_run.specs.Rescuing.{EndsWith, RescueTells, SavesFrom, WritesRescued}
use Rattle.flash_disk.specs.Contents.{contents_of}
use Rattle.sector_rescue.specs.Rescue.{rescued}
use Rattle.sector_rescue.specs.declared.doubt.Doubt.{Doubt}
use Rattle.norbd_run.specs.Settling.{SettleTells, renewed_text}
use Rattle.norbd_run.specs.Showing.{ShowTells}
use Rattle.norbd_run.specs.Looking.{StatusTells}
use Rattle.norbd_status.specs.Status.{told_status}
use Rattle.norbd_status.specs.declared.status.Status.{Status}
use Rattle.norbd_run.specs.Listening.{HasBegun, IsPlaceRefusal, IsRefusal, TellsServing, WritesText, ended_text, serving_text, told_of_serving}
use Rattle.norbd_line.specs.declared.fault.Cause.TheVariants.{Accept}
use Rattle.norbd_line.specs.declared.fault.Fault.{Fault}
use Rattle.norbd_line.specs.declared.line.Place.{Place}
use Rattle.norbd_line.specs.declared.fault.Fault.TheVariants as faults
use Rattle.norbd_line.specs.declared.fault.Fault.TheVariants.{NoMemory, OutputFailed}

-- a fault of serving comes when nothing was told, or the first line
pub serving-failed : (T : Type 0) (place : Place) (conns : ℕ) (keeps : Bool) (old new : Option (List ℕ)) (f g : ℕ) (fault : ServeFault) → HasBegun place old f new g
    → TellsServing {T = T} place conns keeps old f (Err (told_of_serving fault)) new g
serving-failed T place conns keeps old new f g serves.NoMemory h = h
serving-failed T place conns keeps old new f g serves.NoSocket h = h
serving-failed T place conns keeps old new f g serves.NoThread h = h
serving-failed T place conns keeps old new f g serves.Lost h = h
serving-failed T place conns keeps old new f g serves.Unsynced h = h

-- nothing was told yet
pub silent : (place : Place) (old : Option (List ℕ)) (f : ℕ) → HasBegun place old f old f
silent place old f = inl (Appends-nil old, refl)

-- the place can't be had, and nothing was told
pub place-refused : (T : Type 0) (place : Place) (conns : ℕ) (keeps : Bool) (old : Option (List ℕ)) (f : ℕ) (e : Fault) → IsPlaceRefusal e
    → TellsServing {T = T} place conns keeps old f (Err e) old f
place-refused T place conns keeps old f faults.BadAddress h = (Appends-nil old, refl)
place-refused T place conns keeps old f (faults.NoSocket cause) h = silent place old f
place-refused T place conns keeps old f (faults.Words error) h = absurd h
place-refused T place conns keeps old f faults.NoMemory h = absurd h
place-refused T place conns keeps old f (faults.BadSize kib) h = absurd h
place-refused T place conns keeps old f faults.BadSync h = absurd h
place-refused T place conns keeps old f faults.BadTidy h = absurd h
place-refused T place conns keeps old f faults.NotText h = absurd h
place-refused T place conns keeps old f faults.EmptyName h = absurd h
place-refused T place conns keeps old f faults.InputFailed h = absurd h
place-refused T place conns keeps old f faults.OutputFailed h = absurd h
place-refused T place conns keeps old f (faults.ImageFailed cause) h = absurd h
place-refused T place conns keeps old f faults.InUse h = absurd h
place-refused T place conns keeps old f faults.Formatted h = absurd h
place-refused T place conns keeps old f faults.NotEmpty h = absurd h
place-refused T place conns keeps old f faults.WrongId h = absurd h
place-refused T place conns keeps old f faults.BadSfdp h = absurd h
place-refused T place conns keeps old f faults.Protected h = absurd h
place-refused T place conns keeps old f faults.Slow h = absurd h
place-refused T place conns keeps old f faults.BadRecord h = absurd h
place-refused T place conns keeps old f faults.NotFormatted h = absurd h
place-refused T place conns keeps old f faults.Corrupt h = absurd h
place-refused T place conns keeps old f faults.NotClean h = absurd h
place-refused T place conns keeps old f (faults.BadImageSize length) h = absurd h
place-refused T place conns keeps old f faults.NoThread h = absurd h
place-refused T place conns keeps old f (faults.BadRange count) h = absurd h
place-refused T place conns keeps old f (faults.BadInput length) h = absurd h

same-bytes : {Z X : Type 0} (text : Result (String Z) X) (s : List ℕ) (P : List ℕ → Type 0) → IfOk text (λ t. string_bytes t ≡ s) → IsOkAnd text (λ t. P (string_bytes t)) → P s
same-bytes (Ok t) s P is h = subst P is h
same-bytes (Err e) s P is h = absurd h

-- the first line was told
pub begun : {Z X : Type 0} (text : Result (String Z) X) (place : Place) (sectors : ℕ) (old new : Option (List ℕ)) (f g : ℕ) → IfOk text (λ t. string_bytes t ≡ serving_text sectors place)
    → IsOkAnd text (λ t. Appends old new (string_bytes t)) × (g ≡ f) → HasBegun place old f new g
begun text place sectors old new f g is h = inr (sectors, same-bytes text (serving_text sectors place) (λ x. Appends old new x) is h.0, h.1)

-- it could not be told
pub first-failed : {Z X : Type 0} (T : Type 0) (text : Result (String Z) X) (place : Place) (conns sectors : ℕ) (keeps : Bool) (old new : Option (List ℕ)) (f g : ℕ) (e : Fault) → IfOk text (λ t. string_bytes t ≡ serving_text sectors place)
    → WritesText {T = T} text old f (Err e) new g → TellsServing {T = T} place conns keeps old f (Err e) new g
first-failed T text place conns sectors keeps old new f g e is h = elim h [
  | inl none ↦ subst (λ x. TellsServing {T = T} place conns keeps old f (Err x) new g) (sym none.0)
      (inl (subst (λ x. Appends old x []) (sym none.1) (Appends-nil old), none.2))
  | inr failed ↦ subst (λ x. TellsServing {T = T} place conns keeps old f (Err x) new g) (sym failed.0)
      (sectors, 0, Fails-first old new f g (serving_text sectors place) (ended_text keeps conns 0) (same-bytes text (serving_text sectors place) (λ x. FailsToSend old f x new g) is failed.1))
]

-- no other handle of the socket for the status was had
pub no-status : (T : Type 0) (place : Place) (conns : ℕ) (keeps : Bool) (old new : Option (List ℕ)) (f g : ℕ) (e : Fault) → (e ≡ NoMemory) ⊎ (e ≡ faults.NoSocket Accept) → HasBegun place old f new g
    → TellsServing {T = T} place conns keeps old f (Err e) new g
no-status T place conns keeps old new f g e (inl is) h = subst (λ x. TellsServing {T = T} place conns keeps old f (Err x) new g) (sym is) h
no-status T place conns keeps old new f g e (inr is) h = subst (λ x. TellsServing {T = T} place conns keeps old f (Err x) new g) (sym is) h

abbrev failed-with : (T : Type 0) → Fault → Result T Fault
failed-with T e = Err e

-- the last lines
pub ended : {Z Y X W T : Type 0} (one : Result (String Z) X) (two : Result (String Y) W) (place : Place) (conns sectors rows : ℕ) (keeps : Bool) (old mid new : Option (List ℕ)) (f g h : ℕ) (result : Result T Fault)
    → IfOk one (λ t. string_bytes t ≡ serving_text sectors place) → IfOk two (λ t. string_bytes t ≡ ended_text keeps conns rows)
    → IsOkAnd one (λ t. Appends old mid (string_bytes t)) × (g ≡ f) → WritesText two mid g result new h → TellsServing place conns keeps old f result new h
ended one two place conns sectors rows keeps old mid new f g h (Ok u) is are first last =
    let begin = same-bytes one (serving_text sectors place) (λ x. Appends old mid x) is first.0 in
    let end = same-bytes two (ended_text keeps conns rows) (λ x. Appends mid new x) are last.0 in
    (sectors, rows, Appends-trans old mid new (serving_text sectors place) (ended_text keeps conns rows) begin end, last.1 ∙ first.1)
ended {T = T} one two place conns sectors rows keeps old mid new f g h (Err e) is are first last =
    let begin = same-bytes one (serving_text sectors place) (λ x. Appends old mid x) is first.0 in
    elim last [
      | inl none ↦ subst (λ x. TellsServing {T = T} place conns keeps old f (Err x) new h) (sym none.0)
          (inr (sectors, subst (λ x. Appends old x (serving_text sectors place)) (sym none.1) begin, none.2 ∙ first.1))
      | inr failed ↦ subst (λ x. TellsServing {T = T} place conns keeps old f (Err x) new h) (sym failed.0) (
        sectors,
        rows,
        Sends-twice old mid new f g h (serving_text sectors place) (ended_text keeps conns rows) (failed-with T e) (begin, first.1) (same-bytes two (ended_text keeps conns rows) (λ x. FailsToSend mid g x new h) are failed.1),
      )
    ]

-- the report on an image could not be written
pub report-failed : (T U : Type 0) (mends tells_json : Bool) (bytes : List ℕ) (old new : Option (List ℕ)) (f g : ℕ) (e : Fault) → WritesBytes {T = U} bytes old f (Err e) new g → CheckTells {T = T} mends tells_json old f (Err e) new g
report-failed T U mends tells_json bytes old new f g e h = inr (h.0, (bytes, h.1))

-- it was, and the image is refused
pub report-refused : (T : Type 0) {U : Type 0} (mends tells_json : Bool) (bytes : List ℕ) (old new : Option (List ℕ)) (f g : ℕ) (u : U) (e : Fault) → WritesBytes bytes old f (Ok u) new g → IsRefusal e → CheckTells {T = T} mends tells_json old f (Err e) new g
report-refused T mends tells_json bytes old new f g u e h refused = inl (refused, inr (bytes, h.0, h.1))

-- and the line about it
pub checked : {Z X T U : Type 0} (mends tells_json : Bool) (s : Says mends) (bytes : List ℕ) (text : Result (String Z) X) (old mid new : Option (List ℕ)) (f g h : ℕ) (u : U) (result : Result T Fault)
    → WritesBytes bytes old f (Ok u) mid g → IfOk text (λ t. string_bytes t ≡ last_text tells_json s.mended s.sectors) → WritesText text mid g result new h → CheckTells mends tells_json old f result new h
checked mends tells_json s bytes text old mid new f g h u (Ok v) one is two =
    let last = last_text tells_json s.mended s.sectors in
    (bytes, s, Appends-trans old mid new bytes last one.0 (same-bytes text last (λ x. Appends mid new x) is two.0), two.1 ∙ one.1)
checked {T = T} mends tells_json s bytes text old mid new f g h u (Err e) one is two = elim two [
  | inl none ↦ inl (subst IsRefusal (sym none.0) tt, inr (bytes, subst (λ x. Appends old x bytes) (sym none.1) one.0, none.2 ∙ one.1))
  | inr failed ↦
      let last = last_text tells_json s.mended s.sectors in
      inr (failed.0, (bytes ++ last, Sends-twice old mid new f g h bytes last (failed-with T e) (one.0, one.1) (same-bytes text last (λ x. FailsToSend mid g x new h) is failed.1)))
]

-- the line alone
pub checked-alone : {Z X T : Type 0} (mends tells_json : Bool) (s : Says mends) (text : Result (String Z) X) (old new : Option (List ℕ)) (f h : ℕ) (result : Result T Fault)
    → IfOk text (λ t. string_bytes t ≡ last_text tells_json s.mended s.sectors) → WritesText text old f result new h → CheckTells mends tells_json old f result new h
checked-alone mends tells_json s text old new f h result is two = checked {U = Unit {0}} mends tells_json s [] text old old new f f h (tt {0}) result (Appends-nil old, refl) is two

-- a picture
pub shown : {T : Type 0} (bytes : List ℕ) (old new : Option (List ℕ)) (f g : ℕ) (result : Result T Fault) → WritesBytes bytes old f result new g → ShowTells old f result new g
shown bytes old new f g (Ok u) h = (bytes, h.0, h.1)
shown bytes old new f g (Err e) h = inr (inr (h.0, (bytes, h.1)))

-- a picture that could not be written
pub show-failed : (T U : Type 0) (bytes : List ℕ) (old new : Option (List ℕ)) (f g : ℕ) (e : Fault) → WritesBytes {T = U} bytes old f (Err e) new g → ShowTells {T = T} old f (Err e) new g
show-failed T U bytes old new f g e h = inr (inr (h.0, (bytes, h.1)))

-- the picture of a corrupt image
pub corrupt_shown : (T : Type 0) (bytes : List ℕ) (old new : Option (List ℕ)) (f g : ℕ) → Appends old new bytes × (g ≡ f) → ShowTells {T = T} old f (Err faults.Corrupt) new g
corrupt_shown T bytes old new f g h = inr (inl (refl, (bytes, h.0, h.1)))

-- sectors that are read
pub moved : {T : Type 0} (bytes : List ℕ) (old new : Option (List ℕ)) (f g : ℕ) (result : Result T Fault) → WritesBytes bytes old f result new g → ReadTells old f result new g
moved bytes old new f g (Ok u) h = (bytes, h.0, h.1)
moved bytes old new f g (Err e) h = inr (h.0, (bytes, h.1))

-- the first line of `write` could not be told
pub before-failed : {Z X : Type 0} (T U : Type 0) (text : Result (String Z) X) (first end : ℕ) (old new : Option (List ℕ)) (f g : ℕ) (e : Fault) → IfOk text (λ t. string_bytes t ≡ replacing_text first end)
    → WritesText {T = U} text old f (Err e) new g → WriteTells {T = T} old f (Err e) new g
before-failed T U text first end old new f g e is h = elim h [
  | inl none ↦ inl (none.1, none.2)
  | inr failed ↦ inr (inr (failed.0, (first, end, Fails-first old new f g (replacing_text first end) (written_text first end) (same-bytes text (replacing_text first end) (λ x. FailsToSend old f x new g) is failed.1))))
]

-- it was, and then came a refusal
pub then-refused : {Z X U : Type 0} (T : Type 0) (text : Result (String Z) X) (first end : ℕ) (old new : Option (List ℕ)) (f g : ℕ) (u : U) (e : Fault) → IfOk text (λ t. string_bytes t ≡ replacing_text first end)
    → WritesText text old f (Ok u) new g → WriteTells {T = T} old f (Err e) new g
then-refused T text first end old new f g u e is h = inr (inl (first, end, same-bytes text (replacing_text first end) (λ x. Appends old new x) is h.0, h.1))

-- and the second line
pub replaced-told : {Z Y X W T U : Type 0} (one : Result (String Z) X) (two : Result (String Y) W) (first end : ℕ) (old mid new : Option (List ℕ)) (f g h : ℕ) (u : U) (result : Result T Fault)
    → IfOk one (λ t. string_bytes t ≡ replacing_text first end) → IfOk two (λ t. string_bytes t ≡ written_text first end)
    → WritesText one old f (Ok u) mid g → WritesText two mid g result new h → WriteTells old f result new h
replaced-told one two first end old mid new f g h u (Ok v) is are before after =
    let begin = same-bytes one (replacing_text first end) (λ x. Appends old mid x) is before.0 in
    let last = same-bytes two (written_text first end) (λ x. Appends mid new x) are after.0 in
    (first, end, Appends-trans old mid new (replacing_text first end) (written_text first end) begin last, after.1 ∙ before.1)
replaced-told {T = T} one two first end old mid new f g h u (Err e) is are before after =
    let begin = same-bytes one (replacing_text first end) (λ x. Appends old mid x) is before.0 in
    elim after [
      | inl none ↦ inr (inl (first, end, subst (λ x. Appends old x (replacing_text first end)) (sym none.1) begin, none.2 ∙ before.1))
      | inr failed ↦ inr (inr (failed.0, (first, end, Sends-twice old mid new f g h (replacing_text first end) (written_text first end) (failed-with T e) (begin, before.1) (same-bytes two (written_text first end) (λ x. FailsToSend mid g x new h) are failed.1))))
    ]

-- the line about a chip that answers could not be written
pub chip-failed : {Z X : Type 0} (T : Type 0) (text : Result (String Z) X) (port kib : ℕ) (old new : Option (List ℕ)) (f g : ℕ) (e : Fault) → IfOk text (λ t. string_bytes t ≡ chip_text kib port)
    → WritesText {T = T} text old f (Err e) new g → ChipTells {T = T} port old f (Err e) new g
chip-failed T text port kib old new f g e is h = elim h [
  | inl none ↦ inl (none.1, none.2)
  | inr failed ↦ inr (inr (failed.0, (kib, same-bytes text (chip_text kib port) (λ x. FailsToSend old f x new g) is failed.1)))
]

-- it was written, whatever comes then
pub chip-told : {Z X : Type 0} (T : Type 0) (text : Result (String Z) X) (port kib : ℕ) (old new : Option (List ℕ)) (f g : ℕ) (done : Result T Fault) → IfOk text (λ t. string_bytes t ≡ chip_text kib port)
    → IsOkAnd text (λ t. Appends old new (string_bytes t)) → g ≡ f → ChipTells port old f done new g
chip-told T text port kib old new f g (Ok x) is h same = (kib, same-bytes text (chip_text kib port) (λ s. Appends old new s) is h, same)
chip-told T text port kib old new f g (Err e) is h same = inr (inl (kib, same-bytes text (chip_text kib port) (λ s. Appends old new s) is h, same))

-- the image is refused, and nothing was told
pub image-refused : (T : Type 0) (place : Place) (conns : ℕ) (keeps : Bool) (old : Option (List ℕ)) (f : ℕ) (e : Fault) → IsRefusal e
    → TellsServing {T = T} place conns keeps old f (Err e) old f
image-refused T place conns keeps old f faults.NoMemory h = silent place old f
image-refused T place conns keeps old f (faults.ImageFailed cause) h = silent place old f
image-refused T place conns keeps old f faults.InUse h = (Appends-nil old, refl)
image-refused T place conns keeps old f faults.Formatted h = absurd h
image-refused T place conns keeps old f faults.NotEmpty h = absurd h
image-refused T place conns keeps old f (faults.BadImageSize length) h = (Appends-nil old, refl)
image-refused T place conns keeps old f faults.NotFormatted h = (Appends-nil old, refl)
image-refused T place conns keeps old f faults.Corrupt h = (Appends-nil old, refl)
image-refused T place conns keeps old f faults.NotClean h = (Appends-nil old, refl)
image-refused T place conns keeps old f faults.WrongId h = (Appends-nil old, refl)
image-refused T place conns keeps old f faults.BadSfdp h = (Appends-nil old, refl)
image-refused T place conns keeps old f faults.Protected h = (Appends-nil old, refl)
image-refused T place conns keeps old f faults.Slow h = (Appends-nil old, refl)
image-refused T place conns keeps old f (faults.Words error) h = absurd h
image-refused T place conns keeps old f (faults.BadSize kib) h = absurd h
image-refused T place conns keeps old f faults.BadSync h = absurd h
image-refused T place conns keeps old f faults.BadTidy h = absurd h
image-refused T place conns keeps old f faults.BadAddress h = absurd h
image-refused T place conns keeps old f faults.NotText h = absurd h
image-refused T place conns keeps old f faults.EmptyName h = absurd h
image-refused T place conns keeps old f faults.InputFailed h = absurd h
image-refused T place conns keeps old f faults.OutputFailed h = absurd h
image-refused T place conns keeps old f faults.BadRecord h = absurd h
image-refused T place conns keeps old f (faults.NoSocket cause) h = absurd h
image-refused T place conns keeps old f faults.NoThread h = absurd h
image-refused T place conns keeps old f (faults.BadRange count) h = absurd h
image-refused T place conns keeps old f (faults.BadInput length) h = absurd h

-- ---- what a rescue writes

pub rescue_written : {T : Type 0} (m bytes : List ℕ) (doubts : List Doubt) (old new : Option (List ℕ)) (f g : ℕ) (end r : Result T Fault) → SavesFrom m end bytes doubts → EndsWith end bytes old f r new g → WritesRescued m old f r new g
rescue_written m bytes doubts old new f g (Ok u) r saved (inl h) = rw h.0 (saved.0, subst (λ (x : List ℕ). Appends old new x) saved.1 h.1, h.2)
rescue_written m bytes doubts old new f g (Ok u) r saved (inr h) = rw h.0 (inr (inr (refl, inl (subst (λ (x : List ℕ). FailsToSend old f x new g) saved.1 h.1))))
rescue_written m bytes doubts old new f g (Err e) r saved (inl h) = rw h.0 (inr (inl (saved.0, saved.1, subst (λ (x : List ℕ). Appends old new x) saved.2 h.1, h.2)))
rescue_written m bytes doubts old new f g (Err e) r saved (inr h) = rw h.0 (inr (inr (refl, inr (subst (λ (x : List ℕ). FailsToSend old f x new g) saved.2 h.1))))

pub rescue_told : {T : Type 0} (m : List ℕ) (old new : Option (List ℕ)) (f g : ℕ) (r : Result T Fault) → WritesRescued m old f r new g → RescueTells old f r new g
rescue_told m old new f g (Ok u) h = (contents_of m, h.1, h.2)
rescue_told m old new f g (Err e) (inl h) = inl (h.0.0, h.1)
rescue_told m old new f g (Err e) (inr (inl h)) = inr (inl (h.0, (rescued m, h.2, h.3)))
rescue_told m old new f g (Err e) (inr (inr h)) = elim h.1 [ inl x ↦ inr (inr (h.0, (contents_of m, x))) | inr x ↦ inr (inr (h.0, (rescued m, x))) ]

-- what is told of a status
pub status-told : {Z X T : Type 0} (tells_json : Bool) (s : Status) (text : Result (String Z) X) (old new : Option (List ℕ)) (f g : ℕ) (result : Result T Fault)
    → IfOk text (λ t. string_bytes t ≡ told_status tells_json s) → WritesText text old f result new g → StatusTells tells_json old f result new g
status-told tells_json s text old new f g (Ok u) is h = (s, same-bytes text (told_status tells_json s) (λ x. Appends old new x) is h.0, h.1)
status-told tells_json s text old new f g (Err e) is h = elim h [
  | inl none ↦ inl (inl none.0, (none.1, none.2))
  | inr failed ↦ inr (failed.0, (s, same-bytes text (told_status tells_json s) (λ x. FailsToSend old f x new g) is failed.1))
]

-- the line about a chip that is settled
pub settle-told : {Z X T : Type 0} (blocks : ℕ) (text : Result (String Z) X) (old new : Option (List ℕ)) (f g : ℕ) (result : Result T Fault)
    → IfOk text (λ t. string_bytes t ≡ renewed_text blocks) → WritesText text old f result new g → SettleTells old f result new g
settle-told blocks text old new f g (Ok u) is h = (blocks, same-bytes text (renewed_text blocks) (λ x. Appends old new x) is h.0, h.1)
settle-told blocks text old new f g (Err e) is h = elim h [
  | inl none ↦ inl (subst MoveFails (sym none.0) tt, (none.1, none.2))
  | inr failed ↦ inr (failed.0, (blocks, same-bytes text (renewed_text blocks) (λ x. FailsToSend old f x new g) is failed.1))
]
