-- What follows of parts of a list that is written.
use Rattle.std.proofs.Common.{◌≡◌, ℕ, ◌+◌, ◌-◌, ◌*◌, ◌<◌, ◌≤◌, ◌⊎◌, false, List, length, get_or, sym, ap, ◌∙◌, subst, arith, inl, inr}
use Rattle.std.specs.Prelude.{drop, min, replicate}
use Rattle.std.proofs.lemmas.List.{ext_get_or, get_or-take, get_or-drop, length-take, length-drop, length-replicate, get_or-replicate}
use Rattle.std.proofs.lemmas.Bool.{cases_lt}
use Rattle.chip_model.specs.Memory.{byte, erased, is_within, place_of, placed, IsMixed, Torn, TornErase}
use Rattle.chip_model.specs.Parts.{part}
use Rattle.chip_model.proofs.BitLaws.{mixed_same}
use Rattle.chip_model.proofs.MemoryLaws.{length-placed, get-placed, place-in, place-below, place-above, placed-outside, length-erased, erased-inside, erased-outside, within, not-within-below, not-within-above}

pub length-part : (size : ℕ) (d : List ℕ) (k : ℕ) → length (part size d k) ≡ min size (length d - size * k)
unfolding part
length-part size d k = length-take size (drop (size * k) d) ∙ ap (λ n. min size n) (length-drop (size * k) d)

pub get-part : (size : ℕ) (d : List ℕ) (k i : ℕ) → i < size → byte (part size d k) i ≡ byte d (size * k + i)
unfolding part
get-part size d k i h = get_or-take size (drop (size * k) d) i 0 h ∙ get_or-drop (size * k) d i 0

-- the same part, where its places are the same
pub part-same : (size : ℕ) (d e : List ℕ) (k : ℕ) → length e ≡ length d → ((i : ℕ) → i < size → byte e (size * k + i) ≡ byte d (size * k + i)) → part size e k ≡ part size d k
part-same size d e k len same =
    let le = length-part size e k in
    let ld = length-part size d k in
    ext_get_or 0 (part size e k) (part size d k) (le ∙ (ap (λ n. min size (n - size * k)) len ∙ sym ld)) (λ i h.
    let low : i < size = omega (arith, le) in
    get-part size e k i low ∙ (same i low ∙ sym (get-part size d k i low)))

-- the parts that a write leaves
pub part-outside : (op : ℕ → ℕ → ℕ) (size : ℕ) (d : List ℕ) (a : ℕ) (x : List ℕ) (k : ℕ) → (size * k + size ≤ a) ⊎ (a + length x ≤ size * k) → part size (placed op d a x) k ≡ part size d k
part-outside op size d a x k out = part-same size d (placed op d a x) k (length-placed op d a x) (λ i h.
    placed-outside op d a x (size * k + i) (elim out as (λ _. (size * k + i < a) ⊎ (a + length x ≤ size * k + i)) [ inl low ↦ inl (omega arith) | inr high ↦ inr (omega arith) ]))

-- and that an interrupted write leaves
pub part-outside_torn : (op : ℕ → ℕ → ℕ) (size : ℕ) (d : List ℕ) (a : ℕ) (x t : List ℕ) (k : ℕ) → (size * k + size ≤ a) ⊎ (a + length x ≤ size * k) → size * k + size ≤ length d
    → Torn d (placed op d a x) t → part size t k ≡ part size d k
part-outside_torn op size d a x t k out fits h = part-same size d t k h.same_length (λ i low.
    let here : (size * k + i < a) ⊎ (a + length x ≤ size * k + i) = elim out as (λ _. (size * k + i < a) ⊎ (a + length x ≤ size * k + i)) [ inl l ↦ inl (omega arith) | inr r ↦ inr (omega arith) ] in
    mixed_same (byte d (size * k + i)) (byte t (size * k + i))
    (subst (λ y. IsMixed (byte d (size * k + i)) y (byte t (size * k + i))) (placed-outside op d a x (size * k + i) here) (h.each (size * k + i) (omega arith))))

-- a part that an erase leaves, whole or interrupted
away : (size k a n i : ℕ) → (size * k + size ≤ a) ⊎ (a + n ≤ size * k) → i < size → is_within a n (size * k + i) ≡ false
away size k a n i out low = elim out [ inl l ↦ not-within-below a n (size * k + i) (omega arith) | inr r ↦ not-within-above a n (size * k + i) (omega arith) ]

pub part-outside_erased : (size : ℕ) (d : List ℕ) (a n k : ℕ) → (size * k + size ≤ a) ⊎ (a + n ≤ size * k) → part size (erased d a n) k ≡ part size d k
part-outside_erased size d a n k out = part-same size d (erased d a n) k (length-erased d a n) (λ i h. erased-outside d a n (size * k + i) (away size k a n i out h))

pub part-outside_torn_erase : (size : ℕ) (d : List ℕ) (a n k : ℕ) (t : List ℕ) → (size * k + size ≤ a) ⊎ (a + n ≤ size * k) → TornErase d a n t → part size t k ≡ part size d k
part-outside_torn_erase size d a n k t out h = part-same size d t k h.same_length (λ i low. h.outside (size * k + i) (away size k a n i out low))

pub part-whole : (size : ℕ) (d : List ℕ) (k : ℕ) → size * k + size ≤ length d → length (part size d k) ≡ size
part-whole size d k h = length-part size d k ∙ (let e : min size (length d - size * k) ≡ size = omega arith in e)

shifted : (op : ℕ → ℕ → ℕ) (base off : ℕ) (x : List ℕ) (i v : ℕ) → place_of op (base + off) x (base + i) v ≡ place_of op off x i v
shifted op base off x i v = elim (cases_lt i off) [
  | inl low ↦ place-below op (base + off) x (base + i) v (omega arith) ∙ sym (place-below op off x i v low)
  | inr from ↦ elim (cases_lt i (off + length x)) [
    | inl inner ↦
        let e : base + i - (base + off) ≡ i - off = omega arith in
        place-in op (base + off) x (base + i) v (omega arith) (omega arith) ∙ (ap (λ j. op v (get_or x j 0)) e ∙ sym (place-in op off x i v from inner))
    | inr above ↦ place-above op (base + off) x (base + i) v (omega arith) ∙ sym (place-above op off x i v above)
  ]
]

-- a write within a part is a write of the part
pub part-placed : (op : ℕ → ℕ → ℕ) (size : ℕ) (d : List ℕ) (k off : ℕ) (x : List ℕ) → size * k + size ≤ length d → part size (placed op d (size * k + off) x) k ≡ placed op (part size d k) off x
part-placed op size d k off x fits =
    let w = placed op d (size * k + off) x in
    let lw : length w ≡ length d = length-placed op d (size * k + off) x in
    let l1 : length (part size w k) ≡ size = part-whole size w k (omega (arith, lw)) in
    let l2 : length (part size d k) ≡ size = part-whole size d k fits in
    let l3 : length (placed op (part size d k) off x) ≡ size = length-placed op (part size d k) off x ∙ l2 in
    ext_get_or 0 (part size w k) (placed op (part size d k) off x) (l1 ∙ sym l3) (λ i h.
    let low : i < size = omega (arith, l1) in
    get-part size w k i low
    ∙ (get-placed op d (size * k + off) x (size * k + i) 0 (omega arith)
    ∙ (shifted op (size * k) off x i (byte d (size * k + i))
    ∙ (ap (λ v. place_of op off x i v) (sym (get-part size d k i low))
    ∙ sym (get-placed op (part size d k) off x i 0 (omega (arith, l2)))))))

-- and torn it is torn
pub part-torn : (op : ℕ → ℕ → ℕ) (size : ℕ) (d : List ℕ) (k off : ℕ) (x t : List ℕ) → size * k + size ≤ length d → Torn d (placed op d (size * k + off) x) t → Torn (part size d k) (placed op (part size d k) off x) (part size t k)
part-torn op size d k off x t fits h =
    let l2 : length (part size d k) ≡ size = part-whole size d k fits in
    let lt : length t ≡ length d = h.same_length in
    let l1 : length (part size t k) ≡ size = part-whole size t k (omega (arith, lt)) in
    record {
      same_length = l1 ∙ sym l2;
      each = λ i q.
          let low : i < size = omega (arith, l2) in
          subst (λ z. IsMixed z (byte (placed op (part size d k) off x) i) (byte (part size t k) i)) (sym (get-part size d k i low))
          (subst (λ z. IsMixed (byte d (size * k + i)) (byte z i) (byte (part size t k) i)) (part-placed op size d k off x fits)
          (subst (λ z. IsMixed (byte d (size * k + i)) z (byte (part size t k) i)) (sym (get-part size (placed op d (size * k + off) x) k i low))
          (subst (λ z. IsMixed (byte d (size * k + i)) (byte (placed op d (size * k + off) x) (size * k + i)) z) (sym (get-part size t k i low))
          (h.each (size * k + i) (omega arith)))));
    }

-- an erased part is FFh throughout
pub part-erased : (size : ℕ) (d : List ℕ) (k : ℕ) → size * k + size ≤ length d → part size (erased d (size * k) size) k ≡ replicate size 255
part-erased size d k fits =
    let len : length (part size (erased d (size * k) size) k) ≡ size = part-whole size (erased d (size * k) size) k (omega (arith, length-erased d (size * k) size)) in
    ext_get_or 0 (part size (erased d (size * k) size) k) (replicate size 255) (len ∙ sym (length-replicate {A = ℕ} size 255)) (λ i h.
    let low : i < size = omega (arith, len) in
    get-part size (erased d (size * k) size) k i low
    ∙ (erased-inside d (size * k) size (size * k + i) (within (size * k) size (size * k + i) (omega arith) (omega arith)) (omega arith)
    ∙ sym (get_or-replicate {A = ℕ} size i 255 0 low)))
