-- What the bytes of a data block of slots say of its mark and of its slots.
use Rattle.std.proofs.Common.{◌≡◌, ◌≢◌, ℕ, zero, suc, ◌+◌, ◌*◌, ◌<◌, ◌≤◌, ◌⊎◌, Bool, true, false, ◌&&◌, cond, List, length, refl, sym, ap, ◌∙◌, subst, arith, inl, inr}
use Rattle.std.specs.Prelude.{drop, Option, Some, None, ◌==◌, nat_lt}
use Rattle.std.specs.Int.{bit_at}
use Rattle.std.proofs.lemmas.Bool.{cases_eq, ne_eqb, true≢false}
use Rattle.std.proofs.lemmas.Bool.Decides.{nat_tests}
use Rattle.std.proofs.lemmas.List.{get_or-drop}
use Rattle.std.proofs.lemmas.Nat.Bits.{bit_at_ones}
use Rattle.chip_model.specs.Memory.{byte}
use Rattle.chip_model.proofs.PartLaws.{part-same}
use Rattle.nor_layout.specs.declared.header.Generation.{Generation}
use Rattle.nor_layout.specs.declared.header.Generation.TheVariants as generations
use Rattle.nor_layout.specs.declared.header.Header.{Header}
use Rattle.nor_layout.specs.declared.header.Header.TheVariants as headers
use Rattle.nor_layout.specs.declared.header.Tag.{Tag}
use Rattle.nor_layout.specs.declared.kind.Kind.{Kind}
use Rattle.nor_layout.specs.declared.kind.Kind.TheVariants as kinds
use Rattle.nor_layout.specs.Headers.{header_of, live_of, generation_of, generation_byte}
use Rattle.nor_layout.specs.Kinds.{kind_of, group_kind, mark_of}
use Rattle.sector_slots.specs.Half.{HasMark}
use Rattle.sector_slots.specs.Slots.{Free, Live, Dead, Outside, slot_with, slot_in, descriptor_in, header_in, written_in, content_bytes, is_group}
use Rattle.sector_slots.specs.Blocks.{IsAtRest}
use Rattle.sector_slots.proofs.GroupLaws.{descriptor-slot, place-four}
use Rattle.sector_slots.proofs.FirmLaws.{slot_number}

-- what four bytes say
pub header-bytes : (b h : List ℕ) → byte b 0 ≡ byte h 0 → byte b 1 ≡ byte h 1 → byte b 2 ≡ byte h 2 → byte b 3 ≡ byte h 3 → header_of b ≡ header_of h
header-bytes b h e0 e1 e2 e3 = rw (e0, e1, e2, e3) refl

abbrev pub header_number : Header → ℕ
header_number headers.Free = 0
header_number (headers.Live tag) = 1
header_number headers.NoGeneration = 2
header_number headers.Dead = 3

no-free : (t : Bool) (o : Option Generation) (n : ℕ) → header_number (cond t (live_of o n) headers.Dead) ≡ 0 → ⊥
no-free true (Some g) n e = omega (arith, e)
no-free true None n e = omega (arith, e)
no-free false o n e = omega (arith, e)

pub dead-four : (h : List ℕ) → byte h 0 ≢ 255 → byte h 0 ≢ 252 → header_of h ≡ headers.Dead
dead-four h n m = rw (ne_eqb (byte h 0) 255 n, ne_eqb (byte h 0) 252 m) refl

pub not-four : (h : List ℕ) (j : ℕ) → j < 4 → byte h j ≢ 255 → ((byte h 0 == 255) && (byte h 1 == 255) && (byte h 2 == 255) && (byte h 3 == 255)) ≡ false
not-four h zero low n = grind (arith, nat_tests)
not-four h (suc zero) low n = grind (arith, nat_tests)
not-four h (suc (suc zero)) low n = grind (arith, nat_tests)
not-four h (suc (suc (suc zero))) low n = grind (arith, nat_tests)
not-four h (suc (suc (suc (suc j)))) low n = absurd (omega (arith, low))

-- those of a free one are FFh
free-four : (h : List ℕ) → header_number (header_of h) ≡ 0 → (j : ℕ) → j < 4 → byte h j ≡ 255
free-four h e j low = elim (cases_eq (byte h j) 255) as (λ _. byte h j ≡ 255) [
  | inl is ↦ is
  | inr n ↦ absurd (no-free (byte h 0 == 252) (generation_of (byte h 1)) _ (rw (not-four h j low n) at e))
]

-- four bytes of which the first isn't that of a live slot
either-header : (a c : Bool) (h : Header) → c ≡ false → (cond a headers.Free (cond c h headers.Dead) ≡ headers.Free) ⊎ (cond a headers.Free (cond c h headers.Dead) ≡ headers.Dead)
either-header true c h e = inl refl
either-header false c h e = inr (rw e refl)

pub unlive-four : (t : List ℕ) → byte t 0 ≢ 252 → (header_of t ≡ headers.Free) ⊎ (header_of t ≡ headers.Dead)
unlive-four t n = either-header ((byte t 0 == 255) && (byte t 1 == 255) && (byte t 2 == 255) && (byte t 3 == 255)) (byte t 0 == 252) _ (ne_eqb (byte t 0) 252 n)

pub first-live : (h : List ℕ) → header_number (header_of h) ≡ 1 → byte h 0 ≡ 252
first-live h e = elim (cases_eq (byte h 0) 252) as (λ _. byte h 0 ≡ 252) [
  | inl f ↦ f
  | inr n ↦ elim (unlive-four h n) as (λ _. byte h 0 ≡ 252) [
    | inl free ↦ (let q : 0 ≡ 1 = sym (ap header_number free) ∙ e in absurd (omega (arith, q)))
    | inr none ↦ (let q : 3 ≡ 1 = sym (ap header_number none) ∙ e in absurd (omega (arith, q)))
  ]
]

-- a slot by its bytes
with-number : (h : Header) (x : List ℕ) → slot_number (slot_with h x) ≡ header_number h
with-number headers.Free x = refl
with-number (headers.Live tag) x = refl
with-number headers.NoGeneration x = refl
with-number headers.Dead x = refl

with-inside : (h : Header) (x : List ℕ) → slot_with h x ≢ Outside
with-inside h x e = from h (sym (with-number h x) ∙ ap slot_number e) where
  from : (h : Header) → header_number h ≡ 4 → ⊥
  from headers.Free q = omega (arith, q)
  from (headers.Live tag) q = omega (arith, q)
  from headers.NoGeneration q = omega (arith, q)
  from headers.Dead q = omega (arith, q)

pub slot-inside : (b : List ℕ) (i : ℕ) → slot_in b i ≢ Outside
unfolding slot_in
slot-inside b i e = with-inside (descriptor_in b i) (content_bytes b i) e

-- of a block of slots
pub slot-written : (b : List ℕ) (i : ℕ) → is_group (kind_of b) ≡ false → slot_in b i ≡ slot_with (written_in b i) (content_bytes b i)
unfolding slot_in
slot-written b i g = ap (λ h. slot_with h (content_bytes b i)) (descriptor-slot b i g)

slot-header : (b : List ℕ) (i : ℕ) → is_group (kind_of b) ≡ false → slot_number (slot_in b i) ≡ header_number (written_in b i)
slot-header b i g = ap slot_number (slot-written b i g) ∙ with-number (written_in b i) (content_bytes b i)

state-byte : (b : List ℕ) (i : ℕ) → byte (drop (16 + 4 * i) b) 0 ≡ byte b (16 + 4 * i)
state-byte b i = let z : 16 + 4 * i + 0 ≡ 16 + 4 * i = omega arith in get_or-drop (16 + 4 * i) b 0 0 ∙ ap (λ k. byte b k) z

pub slot-dead : (b : List ℕ) (i : ℕ) → is_group (kind_of b) ≡ false → byte b (16 + 4 * i) ≢ 255 → byte b (16 + 4 * i) ≢ 252 → slot_in b i ≡ Dead
slot-dead b i g n m = slot-written b i g ∙ ap (λ h. slot_with h (content_bytes b i)) (dead-four (drop (16 + 4 * i) b) (λ q. n (sym (state-byte b i) ∙ q)) (λ q. m (sym (state-byte b i) ∙ q)))

pub slot-unlive : (b : List ℕ) (i : ℕ) → is_group (kind_of b) ≡ false → byte b (16 + 4 * i) ≢ 252 → (slot_in b i ≡ Free) ⊎ (slot_in b i ≡ Dead)
slot-unlive b i g n = elim (unlive-four (drop (16 + 4 * i) b) (λ q. n (sym (state-byte b i) ∙ q))) [
  | inl e ↦ inl (slot-written b i g ∙ ap (λ h. slot_with h (content_bytes b i)) e)
  | inr e ↦ inr (slot-written b i g ∙ ap (λ h. slot_with h (content_bytes b i)) e)
]

pub live-state : (b : List ℕ) (i : ℕ) (tag : Tag) (x : List ℕ) → is_group (kind_of b) ≡ false → slot_in b i ≡ Live tag x → byte b (16 + 4 * i) ≡ 252
live-state b i tag x g e = sym (state-byte b i) ∙ first-live (drop (16 + 4 * i) b) (sym (slot-header b i g) ∙ ap slot_number e)

pub free-bytes : (b : List ℕ) (i : ℕ) → is_group (kind_of b) ≡ false → slot_in b i ≡ Free → (j : ℕ) → j < 4 → byte b (16 + 4 * i + j) ≡ 255
free-bytes b i g e j low = sym (get_or-drop (16 + 4 * i) b j 0) ∙ free-four (drop (16 + 4 * i) b) (sym (slot-header b i g) ∙ ap slot_number e) j low

pub free-state : (b : List ℕ) (i : ℕ) → is_group (kind_of b) ≡ false → slot_in b i ≡ Free → byte b (16 + 4 * i) ≡ 255
free-state b i g e = (let z : 16 + 4 * i ≡ 16 + 4 * i + 0 = omega arith in ap (λ k. byte b k) z) ∙ free-bytes b i g e 0 (omega arith)

-- one that is committed, with a generation
generation-back : (g : Generation) → generation_of (generation_byte g) ≡ Some g
generation-back generations.Zero = refl
generation-back generations.One = refl
generation-back generations.Two = refl
generation-back generations.Three = refl

live-four : (h : List ℕ) (g : Generation) → byte h 0 ≡ 252 → byte h 1 ≡ generation_byte g → header_number (header_of h) ≡ 1
live-four h g e f = rw (e, f, generation-back g) refl

pub committed-slot : (b : List ℕ) (i : ℕ) (g : Generation) → is_group (kind_of b) ≡ false → byte b (16 + 4 * i) ≡ 252 → byte b (16 + 4 * i + 1) ≡ generation_byte g → slot_number (slot_in b i) ≡ 1
committed-slot b i g none e f = slot-header b i none ∙ live-four (drop (16 + 4 * i) b) g (state-byte b i ∙ e) (get_or-drop (16 + 4 * i) b 1 0 ∙ f)

-- A slot is said by its four bytes and its 512.
pub slot-bytes : (b t : List ℕ) (i : ℕ) → length t ≡ length b → ((j : ℕ) → j < 4 → byte t j ≡ byte b j) → ((j : ℕ) → j < 4 → byte t (16 + 4 * i + j) ≡ byte b (16 + 4 * i + j)) → ((j : ℕ) → j < 512 → byte t (512 * (i + 1) + j) ≡ byte b (512 * (i + 1) + j))
    → slot_in t i ≡ slot_in b i
unfolding slot_in descriptor_in
slot-bytes b t i n mark head rest =
    let at = λ (x : List ℕ) (j : ℕ). get_or-drop (16 + 4 * i) x j 0 in
    let h = header-bytes (drop (16 + 4 * i) t) (drop (16 + 4 * i) b) (at t 0 ∙ (head 0 (omega arith) ∙ sym (at b 0))) (at t 1 ∙ (head 1 (omega arith) ∙ sym (at b 1)))
    (at t 2 ∙ (head 2 (omega arith) ∙ sym (at b 2))) (at t 3 ∙ (head 3 (omega arith) ∙ sym (at b 3))) in
    let c = part-same 512 b t (i + 1) n rest in
    let k = place-four b t (written_in b i) i (mark 0 (omega arith)) (mark 1 (omega arith)) (mark 2 (omega arith)) (mark 3 (omega arith)) in
    ap (λ x. slot_with (header_in (kind_of t) x i) (content_bytes t i)) h ∙ (ap (λ x. slot_with x (content_bytes t i)) k ∙ ap (λ x. slot_with (descriptor_in b i) x) c)

-- the bits of the states
live-bit : (k : ℕ) → 2 ≤ k → k < 8 → bit_at 252 k ≡ 1
live-bit zero from below = absurd (omega (arith, from))
live-bit (suc zero) from below = absurd (omega (arith, from))
live-bit (suc (suc zero)) from below = refl
live-bit (suc (suc (suc zero))) from below = refl
live-bit (suc (suc (suc (suc zero)))) from below = refl
live-bit (suc (suc (suc (suc (suc zero))))) from below = refl
live-bit (suc (suc (suc (suc (suc (suc zero)))))) from below = refl
live-bit (suc (suc (suc (suc (suc (suc (suc zero))))))) from below = refl
live-bit (suc (suc (suc (suc (suc (suc (suc (suc k)))))))) from below = absurd (omega (arith, below))

-- a state in which a bit reads 0 that a free one and a live one have
pub killed-state : (v k : ℕ) → 2 ≤ k → k < 8 → bit_at v k ≡ 0 → (v ≢ 255) × (v ≢ 252)
killed-state v k from below none = (
  λ e. (let one = bit_at_ones 8 k below in let q = ap (λ x. bit_at x k) e in omega (arith, one, q, none)),
  λ e. (let one = live-bit k from below in let q = ap (λ x. bit_at x k) e in omega (arith, one, q, none)),
)

-- the kind is that of the first eight bytes
pub kind-eight : (b h : List ℕ) → ((k : ℕ) → k < 8 → byte b k ≡ byte h k) → kind_of b ≡ kind_of h
kind-eight b h e = rw (e 0 (omega arith), e 1 (omega arith), e 2 (omega arith), e 3 (omega arith), e 4 (omega arith), e 5 (omega arith), e 6 (omega arith), e 7 (omega arith)) refl

either-kind : (t : Bool) → (cond t kinds.Plain kinds.Void ≡ kinds.Plain) ⊎ (cond t kinds.Plain kinds.Void ≡ kinds.Void)
either-kind true = inl refl
either-kind false = inr refl

pub idle-kind : (b : List ℕ) → ((k : ℕ) → k < 4 → byte b k ≡ 255) → (byte b 4 ≡ 255) ⊎ (byte b 4 ≡ 254) → (kind_of b ≡ kinds.Plain) ⊎ (kind_of b ≡ kinds.Void)
idle-kind b e (inl f) = rw (e 0 (omega arith), e 1 (omega arith), e 2 (omega arith), e 3 (omega arith), f) (either-kind ((byte b 5 == 255) && (byte b 6 == 255) && (byte b 7 == 255)))
idle-kind b e (inr f) = inr (rw (e 0 (omega arith), e 1 (omega arith), e 2 (omega arith), e 3 (omega arith), f) refl)

-- a block of slots with a mark begins with four FFh
pub marked-slots : (k : Kind) → HasMark k → is_group k ≡ false
marked-slots kinds.Plain p = refl
marked-slots kinds.Void p = refl
marked-slots (kinds.Committed source) p = refl
marked-slots kinds.Settled p = refl
marked-slots (kinds.Group tag) p = absurd p
marked-slots kinds.DeadGroup p = absurd p
marked-slots kinds.SpoiltGroup p = absurd p
marked-slots kinds.Unknown p = refl

-- as one of slots into which nothing is being copied
pub rest-marked : (k : Kind) → IsAtRest k → is_group k ≡ false → HasMark k
rest-marked kinds.Plain rest slots = tt
rest-marked kinds.Void rest slots = tt
rest-marked (kinds.Committed source) rest slots = tt
rest-marked kinds.Settled rest slots = tt
rest-marked (kinds.Group tag) rest slots = absurd (true≢false slots)
rest-marked kinds.DeadGroup rest slots = absurd (true≢false slots)
rest-marked kinds.SpoiltGroup rest slots = absurd (true≢false slots)
rest-marked kinds.Unknown rest slots = absurd rest

either-group : (t : Bool) (tag : Tag) → HasMark (cond t (kinds.Group tag) kinds.SpoiltGroup) → ⊥
either-group true tag p = p
either-group false tag p = p

group-marked : (h : Header) → HasMark (group_kind h) → ⊥
group-marked headers.Free p = p
group-marked (headers.Live tag) p = either-group (nat_lt tag.number 9362) tag p
group-marked headers.NoGeneration p = p
group-marked headers.Dead p = p

cond-marked : (t : Bool) (m g : Kind) → t ≡ false → HasMark (cond t m g) → HasMark g
cond-marked true m g e p = absurd (true≢false e)
cond-marked false m g e p = p

pub marked-four : (b : List ℕ) → HasMark (kind_of b) → (k : ℕ) → k < 4 → byte b k ≡ 255
marked-four b p k low = elim (cases_eq (byte b k) 255) as (λ _. byte b k ≡ 255) [ inl q ↦ q | inr n ↦ absurd (group-marked (header_of b) (cond-marked _ (mark_of b) (group_kind (header_of b)) (not-four b k low n) p)) ]

-- and a plain one with eight
abbrev IsPlainKind : Kind → Type 0
IsPlainKind kinds.Plain = Unit {0}
IsPlainKind kinds.Void = ⊥
IsPlainKind (kinds.Committed b) = ⊥
IsPlainKind kinds.Settled = ⊥
IsPlainKind (kinds.Group tag) = ⊥
IsPlainKind kinds.DeadGroup = ⊥
IsPlainKind kinds.SpoiltGroup = ⊥
IsPlainKind kinds.Unknown = ⊥

not-plain : (b : List ℕ) (k : Kind) → kind_of b ≡ kinds.Plain → kind_of b ≡ k → IsPlainKind k
not-plain b k e f = subst (λ q. IsPlainKind q) (sym e ∙ f) tt

no-mark : (x y z : Bool) (source : ℕ) → IsPlainKind (cond x kinds.Void (cond y (kinds.Committed source) (cond z kinds.Settled kinds.Unknown))) → ⊥
no-mark true y z source h = h
no-mark false true z source h = h
no-mark false false true source h = h
no-mark false false false source h = h

pub plain-start : (b : List ℕ) → kind_of b ≡ kinds.Plain → (k : ℕ) → k < 4 → byte b k ≡ 255
plain-start b e k low = marked-four b (subst (λ q. HasMark q) (sym e) tt) k low

byte-0 : (b : List ℕ) → kind_of b ≡ kinds.Plain → byte b 0 ≡ 255
byte-0 b e = plain-start b e 0 (omega arith)

byte-1 : (b : List ℕ) → kind_of b ≡ kinds.Plain → byte b 1 ≡ 255
byte-1 b e = plain-start b e 1 (omega arith)

byte-2 : (b : List ℕ) → kind_of b ≡ kinds.Plain → byte b 2 ≡ 255
byte-2 b e = plain-start b e 2 (omega arith)

byte-3 : (b : List ℕ) → kind_of b ≡ kinds.Plain → byte b 3 ≡ 255
byte-3 b e = plain-start b e 3 (omega arith)

pub byte-4 : (b : List ℕ) → kind_of b ≡ kinds.Plain → byte b 4 ≡ 255
byte-4 b e = elim (cases_eq (byte b 4) 255) as (λ _. byte b 4 ≡ 255) [
  | inl q ↦ q
  | inr n ↦
      let p : IsPlainKind (kind_of b) = subst (λ q. IsPlainKind q) (sym e) tt in
      absurd (no-mark (byte b 4 == 254) (byte b 4 == 252) (byte b 4 == 248) _ (rw (byte-0 b e, byte-1 b e, byte-2 b e, byte-3 b e, ne_eqb (byte b 4) 255 n) at p))
]

byte-5 : (b : List ℕ) → kind_of b ≡ kinds.Plain → byte b 5 ≡ 255
byte-5 b e = elim (cases_eq (byte b 5) 255) as (λ _. byte b 5 ≡ 255) [ inl q ↦ q | inr n ↦ absurd (not-plain b kinds.Void e (rw (byte-0 b e, byte-1 b e, byte-2 b e, byte-3 b e, byte-4 b e, ne_eqb (byte b 5) 255 n) refl)) ]

byte-6 : (b : List ℕ) → kind_of b ≡ kinds.Plain → byte b 6 ≡ 255
byte-6 b e = elim (cases_eq (byte b 6) 255) as (λ _. byte b 6 ≡ 255) [ inl q ↦ q | inr n ↦ absurd (not-plain b kinds.Void e (rw (byte-0 b e, byte-1 b e, byte-2 b e, byte-3 b e, byte-4 b e, byte-5 b e, ne_eqb (byte b 6) 255 n) refl)) ]

byte-7 : (b : List ℕ) → kind_of b ≡ kinds.Plain → byte b 7 ≡ 255
byte-7 b e = elim (cases_eq (byte b 7) 255) as (λ _. byte b 7 ≡ 255) [ inl q ↦ q | inr n ↦ absurd (not-plain b kinds.Void e (rw (byte-0 b e, byte-1 b e, byte-2 b e, byte-3 b e, byte-4 b e, byte-5 b e, byte-6 b e, ne_eqb (byte b 7) 255 n) refl)) ]

-- so are the four of its mark
pub plain-mark : (b : List ℕ) → kind_of b ≡ kinds.Plain → (k : ℕ) → k < 4 → byte b (4 + k) ≡ 255
plain-mark b e zero low = byte-4 b e
plain-mark b e (suc zero) low = byte-5 b e
plain-mark b e (suc (suc zero)) low = byte-6 b e
plain-mark b e (suc (suc (suc zero))) low = byte-7 b e
plain-mark b e (suc (suc (suc (suc k)))) low = absurd (omega (arith, low))

-- the kind of a block by the state of its mark
pub void-kind : (b : List ℕ) → ((k : ℕ) → k < 4 → byte b k ≡ 255) → byte b 4 ≡ 254 → kind_of b ≡ kinds.Void
void-kind b e f = rw (e 0 (omega arith), e 1 (omega arith), e 2 (omega arith), e 3 (omega arith), f) refl

abbrev pub source_in : Kind → ℕ
source_in kinds.Plain = 0
source_in kinds.Void = 0
source_in (kinds.Committed source) = source
source_in kinds.Settled = 0
source_in (kinds.Group tag) = 0
source_in kinds.DeadGroup = 0
source_in kinds.SpoiltGroup = 0
source_in kinds.Unknown = 0

pub committed-kind : (b : List ℕ) → ((k : ℕ) → k < 4 → byte b k ≡ 255) → byte b 4 ≡ 252 → kind_of b ≡ kinds.Committed (source_in (kind_of b))
committed-kind b e f = rw (e 0 (omega arith), e 1 (omega arith), e 2 (omega arith), e 3 (omega arith), f) refl

pub settled-kind : (b : List ℕ) → ((k : ℕ) → k < 4 → byte b k ≡ 255) → byte b 4 ≡ 248 → kind_of b ≡ kinds.Settled
settled-kind b e f = rw (e 0 (omega arith), e 1 (omega arith), e 2 (omega arith), e 3 (omega arith), f) refl

-- one that is void, or committed, isn't plain
abbrev IsVoidKind : Kind → Type 0
IsVoidKind kinds.Plain = ⊥
IsVoidKind kinds.Void = Unit {0}
IsVoidKind (kinds.Committed source) = ⊥
IsVoidKind kinds.Settled = ⊥
IsVoidKind (kinds.Group tag) = ⊥
IsVoidKind kinds.DeadGroup = ⊥
IsVoidKind kinds.SpoiltGroup = ⊥
IsVoidKind kinds.Unknown = ⊥

pub void-plain : (k : Kind) → k ≡ kinds.Void → k ≡ kinds.Plain → ⊥
void-plain k v p = subst (λ q. IsVoidKind q) (sym v ∙ p) tt

abbrev IsCommittedKind : Kind → Type 0
IsCommittedKind kinds.Plain = ⊥
IsCommittedKind kinds.Void = ⊥
IsCommittedKind (kinds.Committed source) = Unit {0}
IsCommittedKind kinds.Settled = ⊥
IsCommittedKind (kinds.Group tag) = ⊥
IsCommittedKind kinds.DeadGroup = ⊥
IsCommittedKind kinds.SpoiltGroup = ⊥
IsCommittedKind kinds.Unknown = ⊥

pub committed-plain : (k : Kind) (source : ℕ) → k ≡ kinds.Committed source → k ≡ kinds.Plain → ⊥
committed-plain k source e p = subst (λ q. IsCommittedKind q) (sym e ∙ p) tt

pub committed-void : (k : Kind) (source : ℕ) → k ≡ kinds.Committed source → k ≡ kinds.Void → ⊥
committed-void k source e v = subst (λ q. IsCommittedKind q) (sym e ∙ v) tt

none-committed : (plain full begun committed settled : Bool) (source : ℕ) → committed ≡ false → IsCommittedKind (cond plain kinds.Plain (cond full kinds.Void (cond begun kinds.Void (cond committed (kinds.Committed source) (cond settled kinds.Settled kinds.Unknown))))) → ⊥
none-committed true full begun committed settled source e h = h
none-committed false true begun committed settled source e h = h
none-committed false false true committed settled source e h = h
none-committed false false false true settled source e h = true≢false e
none-committed false false false false true source e h = h
none-committed false false false false false source e h = h

-- the state of a committed one
pub committed-state : (b : List ℕ) (source : ℕ) → kind_of b ≡ kinds.Committed source → byte b 4 ≡ 252
committed-state b source e = elim (cases_eq (byte b 4) 252) as (λ _. byte b 4 ≡ 252) [
  | inl is ↦ is
  | inr n ↦
      let p : IsCommittedKind (kind_of b) = subst (λ k. IsCommittedKind k) (sym e) tt in
      let four = marked-four b (subst (λ k. HasMark k) (sym e) tt) in
      absurd (none-committed ((byte b 4 == 255) && (byte b 5 == 255) && (byte b 6 == 255) && (byte b 7 == 255)) (byte b 4 == 255) (byte b 4 == 254) (byte b 4 == 252) (byte b 4 == 248) _ (ne_eqb (byte b 4) 252 n)
      (rw (four 0 (omega arith), four 1 (omega arith), four 2 (omega arith), four 3 (omega arith)) at p))
]
