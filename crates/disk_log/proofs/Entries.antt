-- A checkpoint that is being placed.
use Rattle.std.proofs.Common.{◌≡◌, ℕ, suc, ◌+◌, ◌-◌, ◌*◌, ◌<◌, ◌≤◌, Bool, true, false, List, [], inl, inr, length, take, drop, ap, sym, ◌∙◌, arith, refl, subst, Option, Some, None, Result, Ok, Err}
use Rattle.std.specs.Result.{IsErr}
use Rattle.std.proofs.lemmas.List.{length-drop, length-take-le}
use Rattle.std.proofs.lemmas.Bool.{cases_lt}
use Rattle.disk_log.specs.Records.{count_in, replayed}
use Rattle.disk_log.specs.Checkpoints.{HasBlock, entry_number, bytes_of_entry, with_blocks, with_block}
use Rattle.disk_log.specs.Logs.{log_changes, contents_in, Medium}
use Rattle.disk_log.specs.Files.{SyncsImage, WritesBlock, CutsLog, IsLogged, IsNeedless, OfFiles}
use Rattle.disk_log.specs.Settling.{HasBlocks, HasEntryOf, PlacesEntry, PlacesBlocks, EmptiesLog}
use Rattle.disk_log.proofs.Places.{with-it, without-it, number-taken, block-taken, with-len, keeps-block, placed-over, put-next, put-all, has-first, has-later}
use Rattle.disk_log.proofs.Held.{told-checkpoint}

some-is : {X : Type 0} (x y : X) → Some x ≡ Some y → x ≡ y
some-is x y e = cc

-- what a fact of files that tell says of them
pub of-some : (fact : Medium → Type 0) (files : Option Medium) (m : Medium) → OfFiles files fact → files ≡ Some m → fact m
of-some fact None m f e = cc
of-some fact (Some m') m f e = subst fact (some-is m' m e) f

-- with a checkpoint the files hold what the image represents once its blocks are placed
pub holds-placed : (m : Medium) (len count : ℕ) (entries image : List ℕ) (represents : List ℕ → List ℕ) → HasBlocks m len count entries
    → contents_in represents m.sectors image m.log ≡ represents (with_blocks count entries image)
holds-placed m len count entries image represents h =
    told-checkpoint represents image (log_changes m.sectors m.log) h.whole
    ∙ ap (λ v. represents v)
    (ap (λ v. with_blocks v (drop 32 (log_changes m.sectors m.log).rest) image) h.count_is
    ∙ ap (λ v. with_blocks count v image) h.there)

-- an entry is written, or not in the image
pub entry-logged : (files : Option Medium) (len : ℕ) (entry : List ℕ) → OfFiles files (λ m. HasEntryOf m len entry) → 4096 * entry_number entry + 4096 ≤ len
    → OfFiles files (λ m. IsLogged m (entry_number entry) (bytes_of_entry entry))
entry-logged None len entry h fits = h
entry-logged (Some m) len entry h fits = (let size = h.size in record { fits = omega (arith, size, fits); safe = h.safe; whole = h.whole; there = h.there })

pub entry-skipped : (T E : Type 0) (t : T) (files : Option Medium) (len : ℕ) (entry : List ℕ) → OfFiles files (λ m. HasEntryOf m len entry) → len < 4096 * entry_number entry + 4096
    → PlacesEntry {T = T} {E = E} entry files (Ok t) files
entry-skipped T E t None len entry h out = refl
entry-skipped T E t (Some m) len entry h out =
    (let size = h.size in (m.settled, ap (λ v. Some (record m { image = v })) (sym (without-it m.image entry (omega (arith, size, out))))))

pub entry-written : (T E : Type 0) (t : T) (old new : Option Medium) (len : ℕ) (entry : List ℕ) → OfFiles old (λ m. HasEntryOf m len entry) → 4096 * entry_number entry + 4096 ≤ len
    → WritesBlock {T = T} {E = E} (entry_number entry) (bytes_of_entry entry) old (Ok t) new → PlacesEntry {T = T} {E = E} entry old (Ok t) new
entry-written T E t None new len entry h fits w = w
entry-written T E t (Some m) new len entry h fits w =
    (let size = h.size in (false, w ∙ ap (λ v. Some (record m { image = v; settled = false })) (sym (with-it m.image entry (omega (arith, size, fits))))))

pub entry-failed : (T E : Type 0) (f : E) (old new : Option Medium) (len : ℕ) (entry : List ℕ) → OfFiles old (λ m. HasEntryOf m len entry) → 4096 * entry_number entry + 4096 ≤ len
    → WritesBlock {T = T} {E = E} (entry_number entry) (bytes_of_entry entry) old (Err f) new → PlacesEntry {T = T} {E = E} entry old (Err f) new
entry-failed T E f None new len entry h fits w = w
entry-failed T E f (Some m) new len entry h fits (image, keeps, is) = (let size = h.size in (image, omega (arith, size, fits), keeps, is))

pub entry-wrote : (T E : Type 0) (r : Result T E) (old new : Option Medium) (len : ℕ) (entry : List ℕ) → OfFiles old (λ m. HasEntryOf m len entry) → 4096 * entry_number entry + 4096 ≤ len
    → WritesBlock {T = T} {E = E} (entry_number entry) (bytes_of_entry entry) old r new → PlacesEntry {T = T} {E = E} entry old r new
entry-wrote T E (Ok t) old new len entry h fits w = entry-written T E t old new len entry h fits w
entry-wrote T E (Err f) old new len entry h fits w = entry-failed T E f old new len entry h fits w

-- So many blocks are placed: with the rest the image is what it is to be, and also with all of them.
pub record Partly (count : ℕ) (entries : List ℕ) (m : Medium) (k : ℕ) (new : Option Medium) : Type 0 where
  pub image : List ℕ
  pub settled : Bool
  pub size : length image ≡ length m.image
  pub again : with_blocks count entries image ≡ with_blocks count entries m.image
  pub onward : with_blocks (count - k) (drop (4104 * k) entries) image ≡ with_blocks count entries m.image
  pub is : new ≡ Some (record m { image = image; settled = settled })

abbrev pub Placing : ℕ → List ℕ → Option Medium → ℕ → Option Medium → Type 0
Placing count entries None k new = new ≡ None
Placing count entries (Some m) k new = Partly count entries m k new

pub placing-first : (count : ℕ) (entries : List ℕ) (files : Option Medium) → Placing count entries files 0 files
placing-first count entries None = refl
placing-first count entries (Some m) = record { image = m.image; settled = m.settled; size = refl; again = refl; onward = ap (λ n. with_blocks n entries m.image) (omega arith); is = refl }

module _ (count : ℕ) (entries : List ℕ) (long : 4104 * count ≤ length entries) (k : ℕ) (low : k < count) (e : List ℕ) (same : e ≡ take 4104 (drop (4104 * k) entries)) where
  rest-long : 4104 ≤ length (drop (4104 * k) entries)
  rest-long = rw (length-drop (4104 * k) entries) (omega (arith, long, low))

  entry-long : 4104 ≤ length e
  entry-long = (let l = ap (λ v. length v) same ∙ length-take-le 4104 (drop (4104 * k) entries) rest-long in omega (arith, l))

  has-it : HasBlock count entries (entry_number e) (bytes_of_entry e)
  has-it =
      let b : List ℕ = drop (4104 * k) entries in
      let more : suc (count - (k + 1)) ≡ count - k = omega (arith, low) in
      let all : k + (count - k) ≡ count = omega (arith, low) in
      let n : entry_number b ≡ entry_number e = sym (ap (λ v. entry_number v) same ∙ number-taken b) in
      let y : bytes_of_entry b ≡ bytes_of_entry e = sym (ap (λ v. bytes_of_entry v) same ∙ block-taken b) in
      let first : HasBlock (suc (count - (k + 1))) b (entry_number b) (bytes_of_entry b) = has-first (count - (k + 1)) b in
      let here : HasBlock (count - k) b (entry_number b) (bytes_of_entry b) = subst (λ j. HasBlock j b (entry_number b) (bytes_of_entry b)) more first in
      let later : HasBlock (k + (count - k)) entries (entry_number b) (bytes_of_entry b) = has-later k (count - k) entries (entry_number b) (bytes_of_entry b) here in
      let there : HasBlock count entries (entry_number b) (bytes_of_entry b) = subst (λ j. HasBlock j entries (entry_number b) (bytes_of_entry b)) all later in
      let named : HasBlock count entries (entry_number e) (bytes_of_entry b) = subst (λ v. HasBlock count entries v (bytes_of_entry b)) n there in
      subst (λ v. HasBlock count entries (entry_number e) v) y named

  pub entry-there : (len : ℕ) (old mid : Option Medium) → OfFiles old (λ m. HasBlocks m len count entries) → Placing count entries old k mid → OfFiles mid (λ m. HasEntryOf m len e)
  entry-there len None mid h p = subst (λ v. OfFiles v (λ m. HasEntryOf m len e)) (sym p) tt
  entry-there len (Some m) mid h p =
      let at : HasBlock (count_in (log_changes m.sectors m.log).rest) entries (entry_number e) (bytes_of_entry e) =
      subst (λ v. HasBlock v entries (entry_number e) (bytes_of_entry e)) (sym h.count_is) has-it in
      let held : HasBlock (count_in (log_changes m.sectors m.log).rest) (drop 32 (log_changes m.sectors m.log).rest) (entry_number e) (bytes_of_entry e) =
      subst (λ v. HasBlock (count_in (log_changes m.sectors m.log).rest) v (entry_number e) (bytes_of_entry e)) (sym h.there) at in
      subst (λ v. OfFiles v (λ m. HasEntryOf m len e)) (sym p.is) (record { size = p.size ∙ h.size; safe = h.safe; whole = h.whole; there = held })

  pub placing-next : (T E : Type 0) (t : T) (old mid new : Option Medium) → Placing count entries old k mid
      → PlacesEntry {T = T} {E = E} e mid (Ok t) new → Placing count entries old (k + 1) new
  placing-next T E t None mid new p w = subst (λ v. PlacesEntry {T = T} {E = E} e v (Ok t) new) p w
  placing-next T E t (Some m) mid new p w =
      let x = subst (λ v. PlacesEntry {T = T} {E = E} e v (Ok t) new) p.is w in
      record {
        image = with_block p.image e;
        settled = x.0;
        size = with-len p.image e entry-long ∙ p.size;
        again = elim (cases_lt (length p.image) (4096 * entry_number e + 4096)) [
          | inl out ↦ ap (λ v. with_blocks count entries v) (without-it p.image e out) ∙ p.again
          | inr fits ↦ placed-over count entries (entry_number e) (bytes_of_entry e) p.image (with_block p.image e) long has-it fits (keeps-block p.image e entry-long fits) ∙ p.again
        ];
        onward = put-next k count entries p.image (with_block p.image e) (with_blocks count entries m.image) low (ap (λ v. with_block p.image v) same) p.onward;
        is = x.1;
      }

  pub placing-failed : (T U E F : Type 0) (f : E) (r : Result U F) → IsErr r → (old mid new : Option Medium) → Placing count entries old k mid
      → PlacesEntry {T = T} {E = E} e mid (Err f) new → PlacesBlocks {T = U} {E = F} count entries old r new
  placing-failed T U E F f (Ok u) bad old mid new p w = absurd (cc bad)
  placing-failed T U E F f (Err h) bad None mid new p w = subst (λ v. PlacesEntry {T = T} {E = E} e v (Err f) new) p w
  placing-failed T U E F f (Err h) bad (Some m) mid new p w =
      let x = subst (λ v. PlacesEntry {T = T} {E = E} e v (Err f) new) p.is w in
      (x.0, false, placed-over count entries (entry_number e) (bytes_of_entry e) p.image x.0 long has-it x.1 x.2 ∙ p.again, x.3)

pub placing-done : (T E : Type 0) (t : T) (count : ℕ) (entries : List ℕ) (k : ℕ) (old new : Option Medium) → count ≤ k → Placing count entries old k new
    → PlacesBlocks {T = T} {E = E} count entries old (Ok t) new
placing-done T E t count entries k None new high p = p
placing-done T E t count entries k (Some m) new high p =
    let done : p.image ≡ with_blocks count entries m.image = sym (put-all k count (drop (4104 * k) entries) p.image high) ∙ p.onward in
    (p.settled, ap (λ v. with_blocks count entries v) (sym done) ∙ p.again, p.is ∙ ap (λ v. Some (record m { image = v; settled = p.settled })) done)

-- once they are placed and on the medium, the log is needless
pub empty-holds : (represents : List ℕ → List ℕ) (n : ℕ) (image log : List ℕ) → log ≡ [] → contents_in represents n image log ≡ represents image
unfolding replayed
empty-holds represents n image log e = ap (λ v. contents_in represents n image v) e ∙ none
  where
    none : contents_in represents n image [] ≡ represents image
    none = refl

-- What the three steps leave, the first two of which went well.
pub emptied : (U E : Type 0) (u : U) (count : ℕ) (entries : List ℕ) (len : ℕ) (r : Result U E) (old one two new : Option Medium) → OfFiles old (λ m. HasBlocks m len count entries)
    → PlacesBlocks {T = U} {E = E} count entries old (Ok u) one → SyncsImage {T = U} {E = E} one (Ok u) two → CutsLog {T = U} {E = E} 0 two r new
    → EmptiesLog {T = U} {E = E} count entries old r new
emptied U E u count entries len r None one two new h p s c =
    let s' = subst (λ v. SyncsImage {T = U} {E = E} v (Ok u) two) p s in
    nothing r s' (subst (λ v. CutsLog {T = U} {E = E} 0 v r new) s' c)
  where
    nothing : (r : Result U E) → two ≡ None → CutsLog {T = U} {E = E} 0 None r new → EmptiesLog {T = U} {E = E} count entries None r new
    nothing r e c = c
emptied U E u count entries len (Ok v) (Some m) one two new h p s c =
    let s' = subst (λ v. SyncsImage {T = U} {E = E} v (Ok u) two) p.2 s in
    subst (λ w. CutsLog {T = U} {E = E} 0 w (Ok v) new) s' c
emptied U E u count entries len (Err f) (Some m) one two new h p s c =
    let s' = subst (λ v. SyncsImage {T = U} {E = E} v (Ok u) two) p.2 s in
    let c' = subst (λ v. CutsLog {T = U} {E = E} 0 v (Err f) new) s' c in (
      record m { image = with_blocks count entries m.image; log = c'.0; safe = c'.1; settled = true },
      c'.3,
      λ represents. elim c'.2 [
        | inl e ↦ ap (λ v. contents_in represents m.sectors (with_blocks count entries m.image) v) e.0
            ∙ (holds-placed m len count entries (with_blocks count entries m.image) represents h
            ∙ (ap (λ v. represents v) p.1 ∙ sym (holds-placed m len count entries m.image represents h)))
        | inr e ↦ empty-holds represents m.sectors (with_blocks count entries m.image) c'.0 e.0
            ∙ sym (holds-placed m len count entries m.image represents h)
      ],
    )

-- what lets the log be cut
pub needless : (U E : Type 0) (u : U) (count : ℕ) (entries : List ℕ) (len : ℕ) (old one two : Option Medium) → OfFiles old (λ m. HasBlocks m len count entries)
    → PlacesBlocks {T = U} {E = E} count entries old (Ok u) one → SyncsImage {T = U} {E = E} one (Ok u) two → OfFiles two (λ m. IsNeedless 0 m)
needless U E u count entries len None one two h p s =
    let s' = subst (λ v. SyncsImage {T = U} {E = E} v (Ok u) two) p s in
    subst (λ v. OfFiles v (λ m. IsNeedless 0 m)) (sym s') tt
needless U E u count entries len (Some m) one two h p s =
    let s' = subst (λ v. SyncsImage {T = U} {E = E} v (Ok u) two) p.2 s in
    subst (λ v. OfFiles v (λ m. IsNeedless 0 m)) (sym s') (record {
      low = omega arith;
      settled = refl;
      same = λ represents. empty-holds represents m.sectors (with_blocks count entries m.image) [] refl
          ∙ (ap (λ v. represents v) (sym p.1) ∙ sym (holds-placed m len count entries (with_blocks count entries m.image) represents h));
    })

-- where a step before failed, they hold what they did
pub unplaced : (T U E F : Type 0) (f : E) (count : ℕ) (entries : List ℕ) (len : ℕ) (r : Result U F) → IsErr r → (old new : Option Medium) → OfFiles old (λ m. HasBlocks m len count entries)
    → PlacesBlocks {T = T} {E = E} count entries old (Err f) new → EmptiesLog {T = U} {E = F} count entries old r new
unplaced T U E F f count entries len (Ok u) bad old new h p = absurd (cc bad)
unplaced T U E F f count entries len (Err g) bad None new h p = p
unplaced T U E F f count entries len (Err g) bad (Some m) new h p = (
  record m { image = p.0; settled = p.1 },
  p.3,
  λ represents.
      holds-placed m len count entries p.0 represents h
      ∙ (ap (λ v. represents v) p.2 ∙ sym (holds-placed m len count entries m.image represents h)),
)

pub unsynced : (T U E F : Type 0) (t : T) (f : E) (count : ℕ) (entries : List ℕ) (len : ℕ) (r : Result U F) → IsErr r → (old one new : Option Medium) → OfFiles old (λ m. HasBlocks m len count entries)
    → PlacesBlocks {T = T} {E = E} count entries old (Ok t) one → SyncsImage {T = T} {E = E} one (Err f) new → EmptiesLog {T = U} {E = F} count entries old r new
unsynced T U E F t f count entries len (Ok u) bad old one new h p s = absurd (cc bad)
unsynced T U E F t f count entries len (Err g) bad None one new h p s = subst (λ v. SyncsImage {T = T} {E = E} v (Err f) new) p s
unsynced T U E F t f count entries len (Err g) bad (Some m) one new h p s =
    let s' = subst (λ v. SyncsImage {T = T} {E = E} v (Err f) new) p.2 s in (
      record m { image = with_blocks count entries m.image; settled = s'.0 },
      s'.1,
      λ represents.
          holds-placed m len count entries (with_blocks count entries m.image) represents h
          ∙ (ap (λ v. represents v) p.1 ∙ sym (holds-placed m len count entries m.image represents h)),
    )
