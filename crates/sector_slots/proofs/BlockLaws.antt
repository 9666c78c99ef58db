-- What the steps of a copying, and writes of single slots, do to the blocks: sound ones stay sound.
use Rattle.std.proofs.Common.{◌≡◌, ◌≢◌, ℕ, zero, suc, ◌+◌, ◌-◌, ◌<◌, ◌≤◌, ◌⊎◌, refl, sym, ap, ◌∙◌, subst, arith, inl, inr}
use Rattle.std.specs.Prelude.{◌↔◌}
use Rattle.std.proofs.lemmas.Bool.{cases_eq}
use Rattle.nor_layout.specs.declared.kind.Kind.{Kind}
use Rattle.nor_layout.specs.declared.kind.Kind.TheVariants as kinds
use Rattle.sector_slots.specs.Slots.{Slot, IsSpare}
use Rattle.sector_slots.specs.Blocks.{IsAtRest, IsUncommitted, IsCopying, AreAtRest, IsTarget, IsCutTarget, IsSettledBlocks, SoundBlocks, settled, crowded, copying, BlocksHaveNoFault}
use Rattle.sector_slots.specs.Copying.{OnlyData, BeginsCopy, CopiesIn, Commits, ErasesSource, Settles, ErasesVoid}
use Rattle.sector_slots.proofs.CopyLaws.{committed-source}

pub rest-of : (k k' : Kind) → k' ≡ k → IsAtRest k → IsAtRest k'
rest-of k k' e h = subst (λ a. IsAtRest a) (sym e) h

pub plain-rest : (k : Kind) → k ≡ kinds.Plain → IsAtRest k
plain-rest k e = subst (λ a. IsAtRest a) (sym e) tt

-- begin
pub begin-target : (t n : ℕ) (kind kind' : ℕ → Kind) (slots slots' : ℕ → ℕ → Slot) → BeginsCopy t n kind kind' slots slots' → IsTarget t n kind'
begin-target t n kind kind' slots slots' h = record {
  number = h.number;
  copying = subst (λ k. IsCopying k t n) (sym h.now) tt;
  others = λ d low other. rest-of (kind d) (kind' d) (h.only.same_kind d low other) (h.rest d low);
}

-- copy
pub copy-target : (t n : ℕ) (kind kind' : ℕ → Kind) (slots slots' : ℕ → ℕ → Slot) → CopiesIn t n kind kind' slots slots' → IsTarget t n kind'
copy-target t n kind kind' slots slots' h = record {
  number = h.target.number;
  copying = subst (λ k. IsCopying k t n) (sym h.now) tt;
  others = λ d low other. rest-of (kind d) (kind' d) (h.only.same_kind d low other) (h.target.others d low other);
}

-- commit
pub commit-target : (s t n : ℕ) (kind kind' : ℕ → Kind) (slots slots' : ℕ → ℕ → Slot) → Commits s t n kind kind' slots slots' → IsTarget t n kind'
commit-target s t n kind kind' slots slots' h = record {
  number = h.target.number;
  copying = subst (λ k. IsCopying k t n) (sym h.now) (s, (refl, (h.number, h.other)));
  others = λ d low other. rest-of (kind d) (kind' d) (h.only.same_kind d low other) (h.target.others d low other);
}

-- erase of the source
pub erase_source-target : (s t n : ℕ) (kind kind' : ℕ → Kind) (slots slots' : ℕ → ℕ → Slot) → ErasesSource s t n kind kind' slots slots' → IsTarget t n kind'
erase_source-target s t n kind kind' slots slots' h =
    let place = committed-source s t n kind h.target h.was in
    record {
      number = h.target.number;
      copying = subst (λ k. IsCopying k t n) (sym (h.only.same_kind t h.target.number (λ e. place.1 (sym e)))) h.target.copying;
      others = λ d low other. elim (cases_eq d s) as (λ _. IsAtRest (kind' d)) [
        | inl e ↦ plain-rest (kind' d) (ap kind' e ∙ h.now.plain)
        | inr ne ↦ rest-of (kind d) (kind' d) (h.only.same_kind d low ne) (h.target.others d low other)
      ];
    }

-- settle
pub settle-settled : (s t n : ℕ) (kind kind' : ℕ → Kind) (slots slots' : ℕ → ℕ → Slot) → Settles s t n kind kind' slots slots' → IsSettledBlocks kind' slots' n
settle-settled s t n kind kind' slots slots' h =
    let place = committed-source s t n kind h.target h.was in
    record {
      rest = λ d low. elim (cases_eq d t) as (λ _. IsAtRest (kind' d)) [
        | inl e ↦ subst (λ k. IsAtRest k) (sym (ap kind' e ∙ h.now)) tt
        | inr ne ↦ rest-of (kind d) (kind' d) (h.only.same_kind d low ne) (h.target.others d low ne)
      ];
      reserve = s;
      number = place.0;
      spare = record {
        plain = h.only.same_kind s place.0 place.1 ∙ h.source.plain;
        free = λ i low. h.only.same_slots s i place.0 place.1 ∙ h.source.free i low;
      };
    }

-- erase of a void block, where no other block was void or committed
pub erase_void-settled : (t n : ℕ) (kind kind' : ℕ → Kind) (slots slots' : ℕ → ℕ → Slot) → ErasesVoid t n kind kind' slots slots' → ((d : ℕ) → d < n → d ≢ t → IsAtRest (kind d)) → IsSettledBlocks kind' slots' n
erase_void-settled t n kind kind' slots slots' h others = record {
  rest = λ d low. elim (cases_eq d t) as (λ _. IsAtRest (kind' d)) [
    | inl e ↦ plain-rest (kind' d) (ap kind' e ∙ h.now.plain)
    | inr ne ↦ rest-of (kind d) (kind' d) (h.only.same_kind d low ne) (others d low ne)
  ];
  reserve = t;
  number = h.number;
  spare = h.now;
}

-- a write into, or a retirement in, another block than a wholly free one
pub write-settled : (c r n : ℕ) (kind kind' : ℕ → Kind) (slots slots' : ℕ → ℕ → Slot) → r < n → IsSpare kind slots r → r ≢ c → AreAtRest kind n → OnlyData c n kind kind' slots slots' → kind' c ≡ kind c
    → IsSettledBlocks kind' slots' n
write-settled c r n kind kind' slots slots' low spare other rest only same = record {
  rest = λ d h. elim (cases_eq d c) as (λ _. IsAtRest (kind' d)) [
    | inl e ↦ rest-of (kind d) (kind' d) (ap kind' e ∙ (same ∙ ap kind (sym e))) (rest d h)
    | inr ne ↦ rest-of (kind d) (kind' d) (only.same_kind d h ne) (rest d h)
  ];
  reserve = r;
  number = low;
  spare = record { plain = only.same_kind r low other ∙ spare.plain; free = λ i h. only.same_slots r i low other ∙ spare.free i h };
}

-- the corrupt cases one by one
rest-known : (k : Kind) → IsAtRest k → k ≢ kinds.Unknown
rest-known k h e = subst (λ a. IsAtRest a) e h

copying-known : (k : Kind) (t n : ℕ) → IsCopying k t n → k ≢ kinds.Unknown
copying-known k t n h e = subst (λ a. IsCopying a t n) e h

rest-committed : (k : Kind) (b : ℕ) → IsAtRest k → k ≢ kinds.Committed b
rest-committed k b h e = subst (λ a. IsAtRest a) e h

copying-committed : (k : Kind) (t n b : ℕ) → IsCopying k t n → k ≡ kinds.Committed b → (4 ≤ b) × (b < n + 4) × (b ≢ t + 4)
copying-committed k t n b h e =
    let p : IsCopying (kinds.Committed b) t n = subst (λ a. IsCopying a t n) e h in
    let q = p.1.0 in
    let low = p.1.1.0 in
    (omega (arith, q), omega (arith, q, low), λ same. p.1.1.1 (omega (arith, q, same)))

pub both : (k : Kind) (t n : ℕ) → IsAtRest k → IsCopying k t n → ⊥
both kinds.Plain t n r c = c
both kinds.Void t n r c = r
both (kinds.Committed b) t n r c = r
both kinds.Settled t n r c = c
both (kinds.Group tag) t n r c = c
both kinds.DeadGroup t n r c = c
both kinds.SpoiltGroup t n r c = c
both kinds.Unknown t n r c = c

-- a block at rest isn't committed
pub rest-uncommitted : (k : Kind) → IsAtRest k → IsUncommitted k
rest-uncommitted kinds.Plain r = tt
rest-uncommitted kinds.Void r = tt
rest-uncommitted (kinds.Committed b) r = r
rest-uncommitted kinds.Settled r = tt
rest-uncommitted (kinds.Group tag) r = tt
rest-uncommitted kinds.DeadGroup r = tt
rest-uncommitted kinds.SpoiltGroup r = tt
rest-uncommitted kinds.Unknown r = r

pub target-cut : (t n : ℕ) (kind : ℕ → Kind) → IsTarget t n kind → IsCutTarget t n kind
target-cut t n kind h = record { number = h.number; copying = h.copying; others = λ d low other. rest-uncommitted (kind d) (h.others d low other) }

pub uncommitted-known : (k : Kind) → IsUncommitted k → k ≢ kinds.Unknown
uncommitted-known k h e = subst (λ a. IsUncommitted a) e h

pub uncommitted-not : (k : Kind) (b : ℕ) → IsUncommitted k → k ≢ kinds.Committed b
uncommitted-not k b h e = subst (λ a. IsUncommitted a) e h

known-uncommitted : (k : Kind) → k ≢ kinds.Unknown → ((b : ℕ) → k ≢ kinds.Committed b) → IsUncommitted k
known-uncommitted kinds.Plain known none = tt
known-uncommitted kinds.Void known none = tt
known-uncommitted (kinds.Committed b) known none = none b refl
known-uncommitted kinds.Settled known none = tt
known-uncommitted (kinds.Group tag) known none = tt
known-uncommitted kinds.DeadGroup known none = tt
known-uncommitted kinds.SpoiltGroup known none = tt
known-uncommitted kinds.Unknown known none = known refl

to-no-fault : (kind : ℕ → Kind) (slots : ℕ → ℕ → Slot) (n : ℕ) → SoundBlocks kind slots n → BlocksHaveNoFault kind slots n
to-no-fault kind slots n (settled h) = record {
  known = λ c low. rest-known (kind c) (h.rest c low);
  one = λ c d a b lc ld other p q. rest-committed (kind c) a (h.rest c lc) p;
  source = λ c b low e. absurd (rest-committed (kind c) b (h.rest c low) e);
  spare = λ rest. inl (h.reserve, (h.number, h.spare));
}
to-no-fault kind slots n (crowded rest room) = record {
  known = λ c low. rest-known (kind c) (rest c low);
  one = λ c d a b lc ld other p q. rest-committed (kind c) a (rest c lc) p;
  source = λ c b low e. absurd (rest-committed (kind c) b (rest c low) e);
  spare = λ all. inr room;
}
to-no-fault kind slots n (copying t h) = record {
  known = λ c low. elim (cases_eq c t) [ inl e ↦ copying-known (kind c) t n (subst (λ a. IsCopying (kind a) t n) (sym e) h.copying) | inr ne ↦ uncommitted-known (kind c) (h.others c low ne) ];
  one = λ c d a b lc ld other p q. elim (cases_eq c t) as (λ _. ⊥) [ inl e ↦ uncommitted-not (kind d) b (h.others d ld (λ same. other (e ∙ sym same))) q | inr ne ↦ uncommitted-not (kind c) a (h.others c lc ne) p ];
  source = λ c b low q. elim (cases_eq c t) as (λ _. (4 ≤ b) × (b < n + 4) × (b ≢ c + 4)) [
    | inl e ↦ copying-committed (kind c) c n b (subst (λ a. IsCopying (kind a) a n) (sym e) h.copying) q
    | inr ne ↦ absurd (uncommitted-not (kind c) b (h.others c low ne) q)
  ];
  spare = λ rest. absurd (both (kind t) t n (rest t h.number) h.copying);
}

-- each block is at rest, or unknown, or is being copied into
kind-cases : (kind : ℕ → Kind) (slots : ℕ → ℕ → Slot) (n c : ℕ) → BlocksHaveNoFault kind slots n → c < n → (k : Kind) → kind c ≡ k → IsAtRest k ⊎ IsCopying k c n
kind-cases kind slots n c h low kinds.Plain e = inl tt
kind-cases kind slots n c h low kinds.Void e = inr tt
kind-cases kind slots n c h low (kinds.Committed b) e =
    let p = h.source c b low e in
    let p0 = p.0 in
    let p1 = p.1 in
    inr (b - 4, (omega (arith, p0), (omega (arith, p0, p1), λ q. p.2 (omega (arith, q, p0)))))
kind-cases kind slots n c h low kinds.Settled e = inl tt
kind-cases kind slots n c h low (kinds.Group tag) e = inl tt
kind-cases kind slots n c h low kinds.DeadGroup e = inl tt
kind-cases kind slots n c h low kinds.SpoiltGroup e = inl tt
kind-cases kind slots n c h low kinds.Unknown e = absurd (h.known c low e)

-- of the first m blocks, all are at rest, or one is being copied into
some-copying : (kind : ℕ → Kind) (slots : ℕ → ℕ → Slot) (n m : ℕ) → BlocksHaveNoFault kind slots n → m ≤ n → ((d : ℕ) → d < m → IsAtRest (kind d)) ⊎ ((t : ℕ) × ((t < n) × IsCopying (kind t) t n))
some-copying kind slots n zero h low = inl (λ d none. absurd (omega (arith, none)))
some-copying kind slots n (suc m) h low = elim (kind-cases kind slots n m h (omega (arith, low)) (kind m) refl) [
  | inr c ↦ inr (m, (omega (arith, low), c))
  | inl r ↦ elim (some-copying kind slots n m h (omega (arith, low))) as (λ _. ((d : ℕ) → d < suc m → IsAtRest (kind d)) ⊎ ((t : ℕ) × ((t < n) × IsCopying (kind t) t n))) [
    | inr c ↦ inr c
    | inl all ↦ inl (λ d below. elim (cases_eq d m) as (λ _. IsAtRest (kind d)) [ inl e ↦ subst (λ a. IsAtRest (kind a)) (sym e) r | inr ne ↦ all d (omega (arith, below, ne)) ])
  ]
]

-- of the first m blocks, one is committed, or none
committed-cases : (k : Kind) → ((b : ℕ) × (k ≡ kinds.Committed b)) ⊎ ((b : ℕ) → k ≢ kinds.Committed b)
committed-cases kinds.Plain = inr (λ b e. uncommitted-not kinds.Plain b tt e)
committed-cases kinds.Void = inr (λ b e. uncommitted-not kinds.Void b tt e)
committed-cases (kinds.Committed b) = inl (b, refl)
committed-cases kinds.Settled = inr (λ b e. uncommitted-not kinds.Settled b tt e)
committed-cases (kinds.Group tag) = inr (λ b e. uncommitted-not (kinds.Group tag) b tt e)
committed-cases kinds.DeadGroup = inr (λ b e. uncommitted-not kinds.DeadGroup b tt e)
committed-cases kinds.SpoiltGroup = inr (λ b e. uncommitted-not kinds.SpoiltGroup b tt e)
committed-cases kinds.Unknown = inr (λ b e. cc)

some-committed : (kind : ℕ → Kind) (m : ℕ) → ((t : ℕ) × ((t < m) × ((b : ℕ) × (kind t ≡ kinds.Committed b)))) ⊎ ((d b : ℕ) → d < m → kind d ≢ kinds.Committed b)
some-committed kind zero = inr (λ d b none. absurd (omega (arith, none)))
some-committed kind (suc m) = elim (committed-cases (kind m)) [
  | inl p ↦ inl (m, (omega arith, p))
  | inr here ↦ elim (some-committed kind m) as (λ _. ((t : ℕ) × ((t < suc m) × ((b : ℕ) × (kind t ≡ kinds.Committed b)))) ⊎ ((d b : ℕ) → d < suc m → kind d ≢ kinds.Committed b)) [
    | inl p ↦ (let low = p.1.0 in inl (p.0, (omega (arith, low), p.1.1)))
    | inr none ↦ inr (λ d b low e. elim (cases_eq d m) as (λ _. ⊥) [ inl same ↦ here b (ap kind (sym same) ∙ e) | inr other ↦ none d b (omega (arith, low, other)) e ])
  ]
]

busy-committed : (k : Kind) (t n b : ℕ) → k ≡ kinds.Committed b → IsAtRest k ⊎ IsCopying k t n → IsCopying k t n
busy-committed k t n b e (inl r) = absurd (rest-committed k b r e)
busy-committed k t n b e (inr c) = c

from-no-fault : (kind : ℕ → Kind) (slots : ℕ → ℕ → Slot) (n : ℕ) → BlocksHaveNoFault kind slots n → SoundBlocks kind slots n
from-no-fault kind slots n h = elim (some-committed kind n) [
  | inl c ↦ copying c.0 (record {
    number = c.1.0;
    copying = busy-committed (kind c.0) c.0 n c.1.1.0 c.1.1.1 (kind-cases kind slots n c.0 h c.1.0 (kind c.0) refl);
    others = λ d low other. known-uncommitted (kind d) (h.known d low) (λ b e. h.one c.0 d c.1.1.0 b c.1.0 low (λ same. other (sym same)) c.1.1.1 e);
  })
  | inr none ↦ elim (some-copying kind slots n n h (omega arith)) as (λ _. SoundBlocks kind slots n) [
    | inl rest ↦ elim (h.spare rest) as (λ _. SoundBlocks kind slots n) [ inl p ↦ settled (record { rest = rest; reserve = p.0; number = p.1.0; spare = p.1.1 }) | inr room ↦ crowded rest room ]
    | inr c ↦ copying c.0 (record {
      number = c.1.0;
      copying = c.1.1;
      others = λ d low other. known-uncommitted (kind d) (h.known d low) (λ b e. none d b low e);
    })
  ]
]

pub sound-no_fault : (kind : ℕ → Kind) (slots : ℕ → ℕ → Slot) (n : ℕ) → SoundBlocks kind slots n ↔ BlocksHaveNoFault kind slots n
sound-no_fault kind slots n = (to-no-fault kind slots n, from-no-fault kind slots n)

-- erase of a void block, whatever goes on beside it
erase_void-no_fault : (t n : ℕ) (kind kind' : ℕ → Kind) (slots slots' : ℕ → ℕ → Slot) → ErasesVoid t n kind kind' slots slots' → BlocksHaveNoFault kind slots n → BlocksHaveNoFault kind' slots' n
erase_void-no_fault t n kind kind' slots slots' h s =
    let old : (c b : ℕ) → c < n → kind' c ≡ kinds.Committed b → kind c ≡ kinds.Committed b =
    λ c b low e. elim (cases_eq c t) as (λ _. kind c ≡ kinds.Committed b) [
      | inl same ↦ absurd (rest-committed (kind' c) b (plain-rest (kind' c) (ap kind' same ∙ h.now.plain)) e)
      | inr other ↦ sym (h.only.same_kind c low other) ∙ e
    ] in
    record {
      known = λ c low. elim (cases_eq c t) as (λ _. kind' c ≢ kinds.Unknown) [
        | inl same ↦ rest-known (kind' c) (plain-rest (kind' c) (ap kind' same ∙ h.now.plain))
        | inr other ↦ λ e. s.known c low (sym (h.only.same_kind c low other) ∙ e)
      ];
      one = λ c d a b lc ld other p q. s.one c d a b lc ld other (old c a lc p) (old d b ld q);
      source = λ c b low e. s.source c b low (old c b low e);
      spare = λ rest. inl (t, (h.number, h.now));
    }

pub erase_void-sound : (t n : ℕ) (kind kind' : ℕ → Kind) (slots slots' : ℕ → ℕ → Slot) → ErasesVoid t n kind kind' slots slots' → SoundBlocks kind slots n → SoundBlocks kind' slots' n
erase_void-sound t n kind kind' slots slots' h s = from-no-fault kind' slots' n (erase_void-no_fault t n kind kind' slots slots' h (to-no-fault kind slots n s))
