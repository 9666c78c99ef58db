-- why a record is refused: no record of an allowed item begins with its bytes
use Rattle.std.proofs.Common.{arith, ◌≡◌, ◌≢◌, ℕ, ◌<◌, ◌^◌, List, [], ◌∷◌, ◌++◌, length, length-append, take, drop, get_or, Option, Some, refl, sym, ◌∙◌, ap, subst, append_assoc}
use Rattle.std.proofs.lemmas.List.{take_at, drop_at, append-nil}
use Rattle.std.proofs.lemmas.Nat.{from_be_bytes-to_be_bytes_4}
use Rattle.std.specs.Int.{to_be_bytes, from_be_bytes, w32}
use Rattle.std.specs.Io.KnownBytes.{IsAtEnd}
use Rattle.nbd_station.specs.declared.event.Event.TheVariants.{Open, Piece, Gone, Tidy, Restore}
use Rattle.nbd_station.specs.declared.script.Form.{Form}
use Rattle.nbd_station.specs.declared.script.Form.TheVariants.{Open as OpenForm, Piece as PieceForm, Gone as GoneForm, Tidy as TidyForm, Restore as RestoreForm, Arm as ArmForm}
use Rattle.nbd_station.specs.Script.{Item, Happens, Arms, IsAllowed, NoRecord, IsBad, line_of}
use Rattle.nbd_station.specs.ScriptSteps.{IsForm, ArmsNothing, record_head}

-- the form of an item's record, and the bytes behind its head
abbrev form_for : Item → Form
form_for (Happens (Open who)) = OpenForm who
form_for (Happens (Piece who bytes)) = PieceForm who (length bytes.now)
form_for (Happens (Gone who)) = GoneForm who
form_for (Happens Tidy) = TidyForm
form_for (Happens Restore) = RestoreForm
form_for (Arms count kind mask) = ArmForm

abbrev body_of : Item → List ℕ
body_of (Happens (Open who)) = []
body_of (Happens (Piece who bytes)) = bytes.now
body_of (Happens (Gone who)) = []
body_of (Happens Tidy) = []
body_of (Happens Restore) = []
body_of (Arms count kind mask) = to_be_bytes w32 count ++ kind ∷ mask ∷ []

-- how many bytes stand behind a head
abbrev pub body_len : Form → ℕ
body_len (OpenForm who) = 0
body_len (PieceForm who n) = n
body_len (GoneForm who) = 0
body_len TidyForm = 0
body_len RestoreForm = 0
body_len ArmForm = 6

is_form : (item : Item) → IsAllowed item → IsForm (form_for item)
is_form (Happens (Open who)) h = h
is_form (Happens (Piece who bytes)) h = h
is_form (Happens (Gone who)) h = h
is_form (Happens Tidy) h = tt
is_form (Happens Restore) h = tt
is_form (Arms count kind mask) h = tt

parted : (item : Item) (tail : List ℕ) → line_of item ++ tail ≡ record_head (form_for item) ++ (body_of item ++ tail)
parted (Happens (Open who)) tail = refl
parted (Happens (Piece who bytes)) tail = refl
parted (Happens (Gone who)) tail = refl
parted (Happens Tidy) tail = refl
parted (Happens Restore) tail = refl
parted (Arms count kind mask) tail = refl

body_long : (item : Item) → length (body_of item) ≡ body_len (form_for item)
body_long (Happens (Open who)) = refl
body_long (Happens (Piece who bytes)) = refl
body_long (Happens (Gone who)) = refl
body_long (Happens Tidy) = refl
body_long (Happens Restore) = refl
body_long (Arms count kind mask) = refl

pub head_long : (form : Form) → length (record_head form) ≡ 6
head_long (OpenForm who) = refl
head_long (PieceForm who n) = refl
head_long (GoneForm who) = refl
head_long TidyForm = refl
head_long RestoreForm = refl
head_long ArmForm = refl

len_in : (form : Form) → drop 2 (record_head form) ≡ to_be_bytes w32 (body_len form)
len_in (OpenForm who) = refl
len_in (PieceForm who n) = refl
len_in (GoneForm who) = refl
len_in TidyForm = refl
len_in RestoreForm = refl
len_in ArmForm = refl

small : (form : Form) → IsForm form → body_len form < 2 ^ 32
small (OpenForm who) h = omega arith
small (PieceForm who n) h = omega (arith, h.1)
small (GoneForm who) h = omega arith
small TidyForm h = omega arith
small RestoreForm h = omega arith
small ArmForm h = omega arith

-- heads that are the same announce as many bytes
same_len : (f f' : Form) → IsForm f → IsForm f' → record_head f ≡ record_head f' → body_len f ≡ body_len f'
same_len f f' h h' e =
    sym (from_be_bytes-to_be_bytes_4 (body_len f) (small f h))
    ∙ (ap (from_be_bytes w32) (sym (len_in f) ∙ (ap (drop 2) e ∙ len_in f'))
    ∙ from_be_bytes-to_be_bytes_4 (body_len f') (small f' h'))

-- six bytes in front are the head of the record that stands there, and what follows is what follows it
module _ (six left tail : List ℕ) (item : Item) (long : length six ≡ 6) (e : six ++ left ≡ line_of item ++ tail) where
  both : six ++ left ≡ record_head (form_for item) ++ (body_of item ++ tail)
  both = e ∙ parted item tail

  head_is : six ≡ record_head (form_for item)
  head_is = sym (take_at six left 6 long) ∙ (ap (take 6) both ∙ take_at (record_head (form_for item)) (body_of item ++ tail) 6 (head_long (form_for item)))

  left_is : left ≡ body_of item ++ tail
  left_is = sym (drop_at six left 6 long) ∙ (ap (drop 6) both ∙ drop_at (record_head (form_for item)) (body_of item ++ tail) 6 (head_long (form_for item)))

at_end : (r : Option (List ℕ)) (left : List ℕ) → IsAtEnd r → r ≡ Some left → left ≡ []
at_end r left e h = subst IsAtEnd h e

-- at the end of the input, bytes that hold no record are a bad one
bad_at_end : (r : Option (List ℕ)) (bytes : List ℕ) → 0 < length bytes → NoRecord bytes → IsAtEnd r → IsBad bytes r
bad_at_end r bytes some none end = (some, λ left h. subst NoRecord (sym (ap (λ l. bytes ++ l) (at_end r left end h) ∙ append-nil bytes)) none)

-- fewer bytes than a head has
pub few_bytes : (taken : List ℕ) → length taken < 6 → NoRecord taken
few_bytes taken short = λ item ok tail e.
    let n : length taken ≡ length (record_head (form_for item) ++ (body_of item ++ tail)) = ap length (e ∙ parted item tail) in
    omega (arith, short, n, length-append (record_head (form_for item)) (body_of item ++ tail), head_long (form_for item))

-- the input ends inside a head
pub short_head : (r : Option (List ℕ)) (taken : List ℕ) → 0 < length taken → length taken < 6 → IsAtEnd r → IsBad taken r
short_head r taken some short end = bad_at_end r taken some (few_bytes taken short) end

-- it is the head of no form
pub no_head : (r : Option (List ℕ)) (six : List ℕ) → length six ≡ 6 → ((form : Form) → IsForm form → six ≢ record_head form) → IsBad six r
no_head r six long none = (omega (arith, long), λ left h item ok tail e. none (form_for item) (is_form item ok) (head_is six left tail item long e))

-- fewer bytes than a head announces
pub few_behind : (form : Form) (taken : List ℕ) → IsForm form → length taken < body_len form → NoRecord (record_head form ++ taken)
few_behind form taken ok short = λ item fine tail e.
    let same = same_len form (form_for item) ok (is_form item fine) (head_is (record_head form) taken tail item (head_long form) e) in
    let n : length taken ≡ length (body_of item ++ tail) = ap length (left_is (record_head form) taken tail item (head_long form) e) in
    omega (arith, short, n, same, length-append (body_of item) tail, body_long item)

-- the input ends inside the bytes that a head announces
pub short_body : (r : Option (List ℕ)) (form : Form) (taken : List ℕ) → IsForm form → length taken < body_len form → IsAtEnd r → IsBad (record_head form ++ taken) r
short_body r form taken ok short end =
    bad_at_end r (record_head form ++ taken) (omega (arith, length-append (record_head form) taken, head_long form)) (few_behind form taken ok short) end

abbrev kind_byte : List ℕ → ℕ
kind_byte bytes = get_or bytes 0 0

-- only the record of an arming has its head
arms_only : (six left tail : List ℕ) (item : Item) → length six ≡ 6 → ArmsNothing six → IsAllowed item → record_head ArmForm ≡ record_head (form_for item) → six ++ left ≡ body_of item ++ tail → ⊥
arms_only six left tail (Happens (Open who)) long none ok h e = omega (arith, ap kind_byte h)
arms_only six left tail (Happens (Piece who bytes)) long none ok h e = omega (arith, ap kind_byte h)
arms_only six left tail (Happens (Gone who)) long none ok h e = omega (arith, ap kind_byte h)
arms_only six left tail (Happens Tidy) long none ok h e = omega (arith, ap kind_byte h)
arms_only six left tail (Happens Restore) long none ok h e = omega (arith, ap kind_byte h)
arms_only six left tail (Arms count kind mask) long none ok h e =
    none count kind mask ok (sym (take_at six left 6 long) ∙ (ap (take 6) e ∙ take_at (to_be_bytes w32 count ++ kind ∷ mask ∷ []) tail 6 refl))

-- six bytes that say of no arming what it is
pub no_arming : (r : Option (List ℕ)) (six : List ℕ) → length six ≡ 6 → ArmsNothing six → IsBad (record_head ArmForm ++ six) r
no_arming r six long none = (
  omega (arith, length-append (record_head ArmForm) six, long),
  λ left h item ok tail e.
      let e' : record_head ArmForm ++ (six ++ left) ≡ line_of item ++ tail = sym (append_assoc (record_head ArmForm) six left) ∙ e in
      arms_only six left tail item long none ok (head_is (record_head ArmForm) (six ++ left) tail item refl e') (left_is (record_head ArmForm) (six ++ left) tail item refl e'),
)
