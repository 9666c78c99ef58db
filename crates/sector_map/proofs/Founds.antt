-- The kinds of the blocks, read one by one.
use Rattle.std.proofs.Common.{◌≡◌, ◌≢◌, ℕ, suc, ◌+◌, ◌-◌, ◌*◌, ◌<◌, ◌≤◌, ◌⊎◌, Bool, true, false, List, refl, sym, ap, ◌∙◌, subst, arith, inl, inr}
use Rattle.std.specs.Prelude.{Option, Some, None, if◌then◌else◌, ◌/◌, ◌%◌, ◌==◌, ◌&&◌, ◌||◌, not, nat_le}
use Rattle.std.proofs.lemmas.Bool.{cases_eq, eq-eqb, ne_eqb}
use Rattle.std.proofs.lemmas.Bool.Decides.{leb_tells}
use Rattle.nor_layout.specs.declared.header.Tag.{Tag}
use Rattle.nor_layout.specs.declared.kind.Kind.{Kind}
use Rattle.nor_layout.specs.declared.kind.Kind.TheVariants as kinds
use Rattle.sector_slots.specs.Slots.{Slot, Free, Outside, counted, is_void, is_copy_of, slot_in, slot_with, descriptor_in, content_bytes, read_header, is_group, kind_at, data_block, data_blocks, raw_slot, slot_at, IsSpareIn, copies as copies_of}
use Rattle.nor_layout.specs.declared.header.Header.{Header}
use Rattle.nor_layout.specs.declared.header.Header.TheVariants as headers
use Rattle.sector_slots.proofs.SectorLaws.{kind_in}
use Rattle.sector_slots.specs.Blocks.{IsAtRest, IsUncommitted, IsCopying, IsCutTarget, SoundBlocks, BlocksHaveNoFault}
use Rattle.sector_slots.proofs.BlockLaws.{sound-no_fault, rest-uncommitted}
use Rattle.sector_slots.proofs.CopyLaws.{counted-in, counted-void, counted-source, at-rest-counts, at-rest-copies, copies-none, source-copies}
use Rattle.sector_map.specs.Scan.{HeadsOf}
use Rattle.sector_map.specs.Found.{FoundIn, VoidBelow, CommittedBelow, FoundBelow, noted_void, noted_source, noted_copy, noted_kind, noted_where, block_counts}
use Rattle.sector_map.specs.declared.found.Found.{Found}
use Rattle.sector_map.specs.declared.found.Found.TheVariants.{AtRest, Void, Committed}

some-found : (a b : Found) → (Some a ≡ Some b) → a ≡ b
some-found a b e = cc

none-found : (b : Found) → (None ≡ Some b) → ⊥
none-found b e = cc

plain-rest : (k : Kind) → k ≡ kinds.Plain → IsAtRest k
plain-rest k e = subst (λ a. IsAtRest a) (sym e) tt

settled-rest : (k : Kind) → k ≡ kinds.Settled → IsAtRest k
settled-rest k e = subst (λ a. IsAtRest a) (sym e) tt

group-rest : (k : Kind) (tag : Tag) → k ≡ kinds.Group tag → IsAtRest k
group-rest k tag e = subst (λ a. IsAtRest a) (sym e) tt

dead-rest : (k : Kind) → k ≡ kinds.DeadGroup → IsAtRest k
dead-rest k e = subst (λ a. IsAtRest a) (sym e) tt

spoilt-rest : (k : Kind) → k ≡ kinds.SpoiltGroup → IsAtRest k
spoilt-rest k e = subst (λ a. IsAtRest a) (sym e) tt

void-uncommitted : (k : Kind) → k ≡ kinds.Void → IsUncommitted k
void-uncommitted k e = subst (λ a. IsUncommitted a) (sym e) tt

-- one more block that isn't committed
others-more : (kind : ℕ → Kind) (k : ℕ) (P : ℕ → Type 0) → IsUncommitted (kind k) → ((d : ℕ) → d < k → P d → IsUncommitted (kind d)) → (d : ℕ) → d < suc k → P d → IsUncommitted (kind d)
others-more kind k P here below d low p = elim (cases_eq d k) as (λ _. IsUncommitted (kind d)) [ inl e ↦ subst (λ a. IsUncommitted (kind a)) (sym e) here | inr ne ↦ below d (omega (arith, low, ne)) p ]

void-more : (t : ℕ) (kind : ℕ → Kind) (k : ℕ) → IsUncommitted (kind k) → VoidBelow t kind k → VoidBelow t kind (suc k)
void-more t kind k here h = record {
  number = (let low = h.number in omega (arith, low));
  void = h.void;
  others = λ d low. others-more kind k (λ _. Unit {0}) here (λ a l p. h.others a l) d low tt;
}

committed-more : (s t : ℕ) (kind : ℕ → Kind) (k n : ℕ) → IsUncommitted (kind k) → CommittedBelow s t kind k n → CommittedBelow s t kind (suc k) n
committed-more s t kind k n here h = record {
  number = (let low = h.number in omega (arith, low));
  committed = h.committed;
  source = h.source;
  other = h.other;
  others = others-more kind k (λ d. d ≢ t) here h.others;
}

-- one more block at rest
rest-more : (found : Found) (kind : ℕ → Kind) (k n : ℕ) → IsAtRest (kind k) → FoundBelow found kind k n → FoundBelow found kind (suc k) n
rest-more AtRest kind k n here h = record { rest = λ d low. elim (cases_eq d k) as (λ _. IsAtRest (kind d)) [ inl e ↦ subst (λ a. IsAtRest (kind a)) (sym e) here | inr ne ↦ h.rest d (omega (arith, low, ne)) ] }
rest-more (Void t) kind k n here h = void-more t kind k (rest-uncommitted (kind k) here) h
rest-more (Committed s t) kind k n here h = committed-more s t kind k n (rest-uncommitted (kind k) here) h

-- one more void block
one-void : (found : Found) (kind : ℕ → Kind) (k n : ℕ) → kind k ≡ kinds.Void → FoundBelow found kind k n → FoundBelow (noted_void found k) kind (suc k) n
one-void AtRest kind k n here h = record {
  number = omega arith;
  void = here;
  others = λ d low. others-more kind k (λ _. Unit {0}) (void-uncommitted (kind k) here) (λ a l p. rest-uncommitted (kind a) (h.rest a l)) d low tt;
}
one-void (Void t) kind k n here h = void-more t kind k (void-uncommitted (kind k) here) h
one-void (Committed s t) kind k n here h = committed-more s t kind k n (void-uncommitted (kind k) here) h

same-found : (found found' : Found) (kind : ℕ → Kind) (k n : ℕ) → IsAtRest (kind k) → Some found ≡ Some found' → FoundBelow found kind k n → FoundBelow found' kind (suc k) n
same-found found found' kind k n here e h = subst (λ z. FoundBelow z kind (suc k) n) (some-found found found' e) (rest-more found kind k n here h)

-- the mark of a committed block
abbrev is_fit : ℕ → ℕ → ℕ → Bool
is_fit b block n = nat_le 4 b && nat_le b (n + 3) && not (b == block + 4)

record Fits (b block n : ℕ) : Type 0 where
  least : 4 ≤ b
  most : b < n + 4
  other : b ≢ block + 4

fit-cases : (b block n : ℕ) → (is_fit b block n ≡ true × Fits b block n) ⊎ (is_fit b block n ≡ false × (Fits b block n → ⊥))
fit-cases b block n = elim (leb_tells 4 b) as (λ _. (is_fit b block n ≡ true × Fits b block n) ⊎ (is_fit b block n ≡ false × (Fits b block n → ⊥))) [
  | inl p ↦ elim (leb_tells b (n + 3)) as (λ _. (is_fit b block n ≡ true × Fits b block n) ⊎ (is_fit b block n ≡ false × (Fits b block n → ⊥))) [
    | inl q ↦ elim (cases_eq b (block + 4)) as (λ _. (is_fit b block n ≡ true × Fits b block n) ⊎ (is_fit b block n ≡ false × (Fits b block n → ⊥))) [
      | inl same ↦ inr (rw (p.0, q.0, eq-eqb b (block + 4) same) refl, λ f. f.other same)
      | inr other ↦ inl (rw (p.0, q.0, ne_eqb b (block + 4) other) refl, record { least = p.1; most = (let low = q.1 in omega (arith, low)); other = other })
    ]
    | inr q ↦ inr (rw (p.0, q.0) refl, λ f. (let most = f.most in let high = q.1 in omega (arith, most, high)))
  ]
  | inr p ↦ inr (rw p.0 refl, λ f. (let least = f.least in let high = p.1 in omega (arith, least, high)))
]

-- one more committed block, where none was before
source-step : (b : ℕ) (found' : Found) (kind : ℕ → Kind) (k n : ℕ) → kind k ≡ kinds.Committed b → noted_source k b n ≡ Some found' → ((d : ℕ) → d < k → IsUncommitted (kind d)) → FoundBelow found' kind (suc k) n
source-step b found' kind k n here e h = elim (fit-cases b k n) [
  | inl fit ↦
      let q : Some (Committed (b - 4) k) ≡ Some found' = rw fit.0 at e in
      let fits = fit.1 in
      let least = fits.least in
      let most = fits.most in
      let back : b ≡ (b - 4) + 4 = omega (arith, least) in
      subst (λ z. FoundBelow z kind (suc k) n) (some-found (Committed (b - 4) k) found' q) (record {
        number = omega arith;
        committed = here ∙ ap (λ z. kinds.Committed z) back;
        source = omega (arith, least, most);
        other = λ same. fits.other (omega (arith, same, least));
        others = λ d low other. h d (omega (arith, low, other));
      })
  | inr unfit ↦ (let q : None ≡ Some found' = rw unfit.0 at e in absurd (none-found found' q))
]

copy-step : (found : Found) (b : ℕ) (found' : Found) (kind : ℕ → Kind) (k n : ℕ) → kind k ≡ kinds.Committed b → noted_copy found k b n ≡ Some found' → FoundBelow found kind k n → FoundBelow found' kind (suc k) n
copy-step AtRest b found' kind k n here e h = source-step b found' kind k n here e (λ d low. rest-uncommitted (kind d) (h.rest d low))
copy-step (Void t) b found' kind k n here e h = source-step b found' kind k n here e h.others
copy-step (Committed s t) b found' kind k n here e h = absurd (none-found found' e)

kind-step : (q : Kind) (found found' : Found) (kind : ℕ → Kind) (k n : ℕ) → kind k ≡ q → noted_kind found k q n ≡ Some found' → FoundBelow found kind k n → FoundBelow found' kind (suc k) n
kind-step kinds.Plain found found' kind k n here e h = same-found found found' kind k n (plain-rest (kind k) here) e h
kind-step kinds.Void found found' kind k n here e h = subst (λ z. FoundBelow z kind (suc k) n) (some-found (noted_void found k) found' e) (one-void found kind k n here h)
kind-step (kinds.Committed b) found found' kind k n here e h = copy-step found b found' kind k n here e h
kind-step kinds.Settled found found' kind k n here e h = same-found found found' kind k n (settled-rest (kind k) here) e h
kind-step (kinds.Group tag) found found' kind k n here e h = same-found found found' kind k n (group-rest (kind k) tag here) e h
kind-step kinds.DeadGroup found found' kind k n here e h = same-found found found' kind k n (dead-rest (kind k) here) e h
kind-step kinds.SpoiltGroup found found' kind k n here e h = same-found found found' kind k n (spoilt-rest (kind k) here) e h
kind-step kinds.Unknown found found' kind k n here e h = absurd (none-found found' e)

pub found-step : (found found' : Found) (kind : ℕ → Kind) (k n : ℕ) → noted_kind found k (kind k) n ≡ Some found' → FoundBelow found kind k n → FoundBelow found' kind (suc k) n
found-step found found' kind k n e h = kind-step (kind k) found found' kind k n refl e h

-- a block of a group is refused where none may be
where-cases : (groups here : Bool) (o : Option Found) (found : Found) → (if here && not groups then None else o) ≡ Some found → (o ≡ Some found) × (groups ≡ false → here ≡ false)
where-cases true true o found e = (e, λ q. absurd (let h : true ≡ false = q in cc))
where-cases true false o found e = (e, λ q. refl)
where-cases false true o found e = absurd (none-found found e)
where-cases false false o found e = (e, λ q. refl)

where-none : (groups here : Bool) (o : Option Found) → (if here && not groups then None else o) ≡ None → (o ≡ None) ⊎ ((groups ≡ false) × (here ≡ true))
where-none true true o e = inl e
where-none true false o e = inl e
where-none false true o e = inr (refl, refl)
where-none false false o e = inl e

pub allowed-noted : (groups : Bool) (found found' : Found) (k : ℕ) (q : Kind) (n : ℕ) → noted_where groups found k q n ≡ Some found' → noted_kind found k q n ≡ Some found'
allowed-noted groups found found' k q n e = (where-cases groups (is_group q) (noted_kind found k q n) found' e).0

pub alone-more : (groups : Bool) (found found' : Found) (kind : ℕ → Kind) (k n : ℕ) → noted_where groups found k (kind k) n ≡ Some found' → (groups ≡ false → (d : ℕ) → d < k → is_group (kind d) ≡ false) → groups ≡ false → (d : ℕ) → d < suc k → is_group (kind d) ≡ false
alone-more groups found found' kind k n e below none d low = elim (cases_eq d k) as (λ _. is_group (kind d) ≡ false) [
  | inl same ↦ ap (λ a. is_group (kind a)) same ∙ (where-cases groups (is_group (kind k)) (noted_kind found k (kind k) n) found' e).1 none
  | inr other ↦ below none d (omega (arith, low, other))
]

true-false : true ≡ false → ⊥
true-false e = cc

-- a block that is refused for its kind is a fault
source-fault : (b : ℕ) (kind : ℕ → Kind) (slots : ℕ → ℕ → Slot) (k n : ℕ) → kind k ≡ kinds.Committed b → noted_source k b n ≡ None → k < n → BlocksHaveNoFault kind slots n → ⊥
source-fault b kind slots k n here e low h = elim (fit-cases b k n) [
  | inl fit ↦ (let q : Some (Committed (b - 4) k) ≡ None = rw fit.0 at e in absurd (none-found (Committed (b - 4) k) (sym q)))
  | inr unfit ↦
      let p = h.source k b low here in
      unfit.1 (record { least = p.0; most = p.1; other = p.2 })
]

copy-fault : (found : Found) (b : ℕ) (kind : ℕ → Kind) (slots : ℕ → ℕ → Slot) (k n : ℕ) → kind k ≡ kinds.Committed b → noted_copy found k b n ≡ None → k < n → FoundBelow found kind k n → BlocksHaveNoFault kind slots n → ⊥
copy-fault AtRest b kind slots k n here e low f h = source-fault b kind slots k n here e low h
copy-fault (Void t) b kind slots k n here e low f h = source-fault b kind slots k n here e low h
copy-fault (Committed s t) b kind slots k n here e low f h = (let below = f.number in h.one k t b (s + 4) low (omega (arith, low, below)) (λ same. omega (arith, same, below)) here f.committed)

none-fault : (q : Kind) (found : Found) (kind : ℕ → Kind) (slots : ℕ → ℕ → Slot) (k n : ℕ) → kind k ≡ q → noted_kind found k q n ≡ None → k < n → FoundBelow found kind k n → BlocksHaveNoFault kind slots n → ⊥
none-fault kinds.Plain found kind slots k n here e low f h = none-found found (sym e)
none-fault kinds.Void found kind slots k n here e low f h = none-found (noted_void found k) (sym e)
none-fault (kinds.Committed b) found kind slots k n here e low f h = copy-fault found b kind slots k n here e low f h
none-fault kinds.Settled found kind slots k n here e low f h = none-found found (sym e)
none-fault (kinds.Group tag) found kind slots k n here e low f h = none-found found (sym e)
none-fault kinds.DeadGroup found kind slots k n here e low f h = none-found found (sym e)
none-fault kinds.SpoiltGroup found kind slots k n here e low f h = none-found found (sym e)
none-fault kinds.Unknown found kind slots k n here e low f h = h.known k low here

found-fault : (found : Found) (kind : ℕ → Kind) (slots : ℕ → ℕ → Slot) (k n : ℕ) → noted_kind found k (kind k) n ≡ None → k < n → FoundBelow found kind k n → SoundBlocks kind slots n → ⊥
found-fault found kind slots k n e low f s = none-fault (kind k) found kind slots k n refl e low f ((sound-no_fault kind slots n).0 s)

pub where-fault : (groups : Bool) (found : Found) (kind : ℕ → Kind) (slots : ℕ → ℕ → Slot) (k n : ℕ) → noted_where groups found k (kind k) n ≡ None → k < n → FoundBelow found kind k n → SoundBlocks kind slots n
    → (groups ≡ false → (d : ℕ) → d < n → is_group (kind d) ≡ false) → ⊥
where-fault groups found kind slots k n e low f s alone = elim (where-none groups (is_group (kind k)) (noted_kind found k (kind k) n) e) [
  | inl none ↦ found-fault found kind slots k n none low f s
  | inr p ↦ true-false (sym p.1 ∙ alone p.0 k low)
]

-- what is found of all blocks
pub void-target : (t n : ℕ) (kind : ℕ → Kind) → VoidBelow t kind n → IsCutTarget t n kind
void-target t n kind h = record { number = h.number; copying = subst (λ k. IsCopying k t n) (sym h.void) tt; others = λ d low other. h.others d low }

pub committed-target : (s t n : ℕ) (kind : ℕ → Kind) → CommittedBelow s t kind n n → IsCutTarget t n kind
committed-target s t n kind h = record { number = h.number; copying = subst (λ k. IsCopying k t n) (sym h.committed) (s, (refl, (h.source, h.other))); others = h.others }

-- Which slots count.
not-true : (a b : ℕ) → not (a == b) ≡ true → a ≢ b
not-true a b e same = let h : false ≡ true = sym (ap not (eq-eqb a b same)) ∙ e in cc

not-false : (a b : ℕ) → not (a == b) ≡ false → a ≡ b
not-false a b e = elim (cases_eq a b) [ inl same ↦ same | inr other ↦ (let h : true ≡ false = sym (ap not (ne_eqb a b other)) ∙ e in cc) ]

not-void : (v : Bool) → not v ≡ true → v ≡ false
not-void true e = sym e
not-void false e = refl

is-void : (v : Bool) → not v ≡ false → v ≡ true
is-void true e = refl
is-void false e = sym e

both-true : (a b : Bool) → (a && b) ≡ true → (a ≡ true) × (b ≡ true)
both-true true b e = (refl, e)
both-true false b e = absurd (let q : false ≡ true = e in cc)

both-false : (a b : Bool) → (a && b) ≡ false → (a ≡ false) ⊎ (b ≡ false)
both-false true b e = inr e
both-false false b e = inl refl

uncommitted-copies : (b : ℕ) (k : Kind) → IsUncommitted k → is_copy_of b k ≡ false
uncommitted-copies b kinds.Plain h = refl
uncommitted-copies b kinds.Void h = refl
uncommitted-copies b (kinds.Committed s) h = absurd h
uncommitted-copies b kinds.Settled h = refl
uncommitted-copies b (kinds.Group tag) h = refl
uncommitted-copies b kinds.DeadGroup h = refl
uncommitted-copies b kinds.SpoiltGroup h = refl
uncommitted-copies b kinds.Unknown h = absurd h

source-alone : (s t n : ℕ) (kind : ℕ → Kind) (c : ℕ) → CommittedBelow s t kind n n → c ≢ s → copies_of kind n c ≡ 0
source-alone s t n kind c h other = copies-none kind n c (λ d low. elim (cases_eq d t) as (λ _. is_copy_of (c + 4) (kind d) ≡ false) [
  | inl e ↦ ap (λ a. is_copy_of (c + 4) (kind a)) e ∙ (ap (λ k. is_copy_of (c + 4) k) h.committed ∙ ne_eqb (s + 4) (c + 4) (λ q. other (omega (arith, q))))
  | inr ne ↦ uncommitted-copies (c + 4) (kind d) (h.others d low ne)
])

pub found-counted : (found : Found) (kind : ℕ → Kind) (slots : ℕ → ℕ → Slot) (n w : ℕ) → FoundBelow found kind n n → w / 7 < n → block_counts found (kind (w / 7)) (w / 7) ≡ true → counted kind slots n w ≡ slots (w / 7) (w % 7)
found-counted AtRest kind slots n w h low e = counted-in kind slots n w (at-rest-counts (kind (w / 7)) (h.rest (w / 7) low)) (copies-none kind n (w / 7) (λ d l. at-rest-copies (w / 7 + 4) (kind d) (h.rest d l)))
found-counted (Void t) kind slots n w h low e =
    counted-in kind slots n w (not-void (is_void (kind (w / 7))) e) (copies-none kind n (w / 7) (λ d l. uncommitted-copies (w / 7 + 4) (kind d) (h.others d l)))
found-counted (Committed s t) kind slots n w h low e =
    let p = both-true (not (is_void (kind (w / 7)))) (not (w / 7 == s)) e in
    counted-in kind slots n w (not-void (is_void (kind (w / 7))) p.0) (source-alone s t n kind (w / 7) h (not-true (w / 7) s p.1))

pub found-skipped : (found : Found) (kind : ℕ → Kind) (slots : ℕ → ℕ → Slot) (n w : ℕ) → FoundBelow found kind n n → block_counts found (kind (w / 7)) (w / 7) ≡ false → counted kind slots n w ≡ Outside
found-skipped AtRest kind slots n w h e = counted-void kind slots n w (is-void (is_void (kind (w / 7))) e)
found-skipped (Void t) kind slots n w h e = counted-void kind slots n w (is-void (is_void (kind (w / 7))) e)
found-skipped (Committed s t) kind slots n w h e = elim (both-false (not (is_void (kind (w / 7)))) (not (w / 7 == s)) e) as (λ _. counted kind slots n w ≡ Outside) [
  | inl v ↦ counted-void kind slots n w (is-void (is_void (kind (w / 7))) v)
  | inr same ↦ counted-source kind slots n w (λ z. source-copies s t n kind h.number h.committed (ap (λ c. copies_of kind n c) (sym (not-false (w / 7) s same)) ∙ z))
]

-- a slot is free where its descriptor is
with-free : (h : Header) (x : List ℕ) → slot_with h x ≡ Free → h ≡ headers.Free
with-free headers.Free x e = refl
with-free (headers.Live tag) x e = (let q : 1 ≡ 0 = ap kind_in e in absurd (omega (arith, q)))
with-free headers.NoGeneration x e = (let q : 2 ≡ 0 = ap kind_in e in absurd (omega (arith, q)))
with-free headers.Dead x e = (let q : 3 ≡ 0 = ap kind_in e in absurd (omega (arith, q)))

pub head-free : (b : List ℕ) (i : ℕ) → descriptor_in b i ≡ headers.Free → slot_in b i ≡ Free
unfolding slot_in
head-free b i e = ap (λ h. slot_with h (content_bytes b i)) e

pub free-head : (b : List ℕ) (i : ℕ) → slot_in b i ≡ Free → descriptor_in b i ≡ headers.Free
unfolding slot_in
free-head b i e = with-free (descriptor_in b i) (content_bytes b i) e

pub slot-head : (b : List ℕ) (i : ℕ) → slot_in b i ≡ slot_with (descriptor_in b i) (content_bytes b i)
unfolding slot_in
slot-head b i = refl

-- whether a block is wholly free
pub spare-heads : (m : List ℕ) (c : ℕ) (kind : Kind) (heads : List Header) → kind ≡ kind_at m c → ((i : ℕ) → i < 7 → read_header heads i ≡ descriptor_in (data_block m c) i) → kind ≡ kinds.Plain
    → ((i : ℕ) → i < 7 → read_header heads i ≡ headers.Free) → IsSpareIn m c
spare-heads m c kind heads e each plain free = record { plain = sym e ∙ plain; free = λ i low. head-free (data_block m c) i (sym (each i low) ∙ free i low) }

pub heads-spare : (m : List ℕ) (c : ℕ) (heads : List Header) → ((i : ℕ) → i < 7 → read_header heads i ≡ descriptor_in (data_block m c) i) → IsSpareIn m c → (i : ℕ) → i < 7 → read_header heads i ≡ headers.Free
heads-spare m c heads each s i low = each i low ∙ free-head (data_block m c) i (s.free i low)

-- whether a block counts, by the kind that was read of it
pub kind-counts : (found : Found) (block : ℕ) (kind kind' : Kind) (counts : Bool) → kind ≡ kind' → block_counts found kind block ≡ counts → block_counts found kind' block ≡ counts
kind-counts found block kind kind' counts e h = subst (λ k. block_counts found k block ≡ counts) e h

-- the descriptors of a block that counts are those of its slots
pub heads-of : (found : Found) (m : List ℕ) (c : ℕ) (heads : List Header) → FoundIn found m → c < data_blocks m → block_counts found (kind_at m c) c ≡ true → ((i : ℕ) → i < 7 → read_header heads i ≡ descriptor_in (data_block m c) i) → HeadsOf heads (slot_at m) c
heads-of found m c heads h low counting each i small =
    let block : (7 * c + i) / 7 ≡ c = omega (arith, small) in
    let place : (7 * c + i) % 7 ≡ i = omega (arith, small) in
    let here = found-counted found (kind_at m) (raw_slot m) (data_blocks m) (7 * c + i) h (omega (arith, low, small)) (ap (λ d. block_counts found (kind_at m d) d) block ∙ counting) in
    (content_bytes (data_block m c) i, here ∙ (ap (λ d. raw_slot m d ((7 * c + i) % 7)) block ∙ (ap (λ j. raw_slot m c j) place ∙ (slot-head (data_block m c) i ∙ ap (λ z. slot_with z (content_bytes (data_block m c) i)) (sym (each i small))))))

pub skips-of : (found : Found) (m : List ℕ) (c : ℕ) → FoundIn found m → block_counts found (kind_at m c) c ≡ false → (i : ℕ) → i < 7 → slot_at m (7 * c + i) ≡ Outside
skips-of found m c h none i small =
    let block : (7 * c + i) / 7 ≡ c = omega (arith, small) in
    found-skipped found (kind_at m) (raw_slot m) (data_blocks m) (7 * c + i) h (ap (λ d. block_counts found (kind_at m d) d) block ∙ none)

-- whether one of the first k blocks is wholly free
abbrev pub SpareSeen : Bool → List ℕ → ℕ → Type 0
SpareSeen true m k = (c : ℕ) × ((c < k) × IsSpareIn m c)
SpareSeen false m k = (c : ℕ) → c < k → IsSpareIn m c → ⊥

pub seen-none : (m : List ℕ) → SpareSeen false m 0
seen-none m c low s = omega (arith, low)

pub seen-here : (m : List ℕ) (k : ℕ) → IsSpareIn m k → SpareSeen true m (suc k)
seen-here m k s = (k, (omega arith, s))

pub seen-still : (m : List ℕ) (k : ℕ) → SpareSeen true m k → SpareSeen true m (suc k)
seen-still m k s = let low = s.1.0 in (s.0, (omega (arith, low), s.1.1))

pub seen-not : (m : List ℕ) (k : ℕ) → (IsSpareIn m k → ⊥) → SpareSeen false m k → SpareSeen false m (suc k)
seen-not m k none before c low s = elim (cases_eq c k) [ inl e ↦ none (subst (λ a. IsSpareIn m a) e s) | inr ne ↦ before c (omega (arith, low, ne)) s ]

pub seen-next : (a b : Bool) (m : List ℕ) (k : ℕ) → SpareSeen a m k → (b ≡ true → IsSpareIn m k) → (b ≡ false → IsSpareIn m k → ⊥) → SpareSeen (a || b) m (suc k)
seen-next true b m k h here none = seen-still m k h
seen-next false true m k h here none = seen-here m k (here refl)
seen-next false false m k h here none = seen-not m k (none refl) h

pub block-spare : (m : List ℕ) (c : ℕ) (kind : Kind) (heads : List Header) → kind ≡ kind_at m c → ((i : ℕ) → i < 7 → read_header heads i ≡ descriptor_in (data_block m c) i) → (kind ≡ kinds.Plain → ((i : ℕ) → i < 7 → read_header heads i ≡ headers.Free) → ⊥)
    → IsSpareIn m c → ⊥
block-spare m c kind heads e each none s = none (e ∙ s.plain) (heads-spare m c heads each s)

pub bool-cases : (t : Bool) → (t ≡ true) ⊎ (t ≡ false)
bool-cases true = inl refl
bool-cases false = inr refl

pub some-bool : (a b : Bool) → (Some a ≡ Some b) → a ≡ b
some-bool a b e = cc
