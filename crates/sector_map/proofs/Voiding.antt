-- The void blocks are erased, one after another.
use Rattle.std.proofs.Common.{◌≡◌, ◌≢◌, ℕ, suc, ◌+◌, ◌<◌, ◌≤◌, ◌⊎◌, true, false, List, refl, sym, ap, ◌∙◌, subst, arith, inl, inr}
use Rattle.std.proofs.lemmas.Bool.{cases_eq}
use Rattle.nor_driver.specs.State.{NorState}
use Rattle.erase_journal.specs.Steps.{RefusesFirmly}
use Rattle.nor_driver.specs.declared.error.NorError.{NorError}
use Rattle.nor_layout.specs.declared.kind.Kind.{Kind}
use Rattle.nor_layout.specs.declared.kind.Kind.TheVariants as kinds
use Rattle.nor_layout.specs.Kinds.{kind_of}
use Rattle.erase_journal.specs.Journals.{IsHealthy}
use Rattle.erase_journal.specs.Steps.{SucceedsSettled}
use Rattle.erase_journal.proofs.SettledLaws.{settled-healthy, settled-after}
use Rattle.erase_journal.proofs.Firmly.{refuses-firmly}
use Rattle.sector_slots.specs.Slots.{Slot, is_void, slot_in, data_blocks, data_block, kind_at, slot_at, slot_count, IsSpareIn}
use Rattle.sector_slots.specs.Blocks.{IsAtRest, IsUncommitted, IsCopying}
use Rattle.sector_slots.specs.Copying.{SameLive, HoldsNothing}
use Rattle.sector_slots.specs.Sectors.{IsSoundMap, IsSingle}
use Rattle.sector_stock.specs.Copy.{KeepsSectors, EndsCopy, EndsVoid, IsVoidIn, IsCommittedIn}
use Rattle.sector_stock.proofs.Copying.{after-keeps}
use Rattle.sector_stock.proofs.Losing.{same-keeps}
use Rattle.sector_map.specs.Found.{FoundIn}
use Rattle.sector_map.specs.Mending.{EndsVoids}
use Rattle.sector_map.specs.declared.found.Found.TheVariants.{Void, Committed}
use Rattle.sector_map.proofs.Mending.{mends-sound, kept-mends}

-- slots that represent the same, after one another
live-chain : (f g h : ℕ → Slot) (n : ℕ) → SameLive f g n → SameLive g h n → SameLive f h n
live-chain f g h n p q s low = elim (p s low) as (λ _. (h s ≡ f s) ⊎ (HoldsNothing (f s) × HoldsNothing (h s))) [
  | inl a ↦ elim (q s low) as (λ _. (h s ≡ f s) ⊎ (HoldsNothing (f s) × HoldsNothing (h s))) [
    | inl b ↦ inl (b ∙ a)
    | inr b ↦ inr (subst (λ z. HoldsNothing z) a b.0, b.1)
  ]
  | inr a ↦ elim (q s low) as (λ _. (h s ≡ f s) ⊎ (HoldsNothing (f s) × HoldsNothing (h s))) [
    | inl b ↦ inr (a.0, subst (λ z. HoldsNothing z) (sym b) a.1)
    | inr b ↦ inr (a.0, b.1)
  ]
]

live-after : (a b c : List ℕ) → KeepsSectors a b → SameLive (slot_at a) (slot_at b) (slot_count a) → SameLive (slot_at b) (slot_at c) (slot_count b) → SameLive (slot_at a) (slot_at c) (slot_count a)
live-after a b c k p q =
    let size = k.chip.same_length in
    live-chain (slot_at a) (slot_at b) (slot_at c) (slot_count a) p (λ s low. q s (omega (arith, low, size)))

-- a wholly free block stays so where its bytes do
spare-same : (m m' : List ℕ) (d : ℕ) → data_block m' d ≡ data_block m d → IsSpareIn m d → IsSpareIn m' d
spare-same m m' d e s = record { plain = ap kind_of e ∙ s.plain; free = λ i low. ap (λ b. slot_in b i) e ∙ s.free i low }

-- What the loop keeps.
pub record Voiding (k : ℕ) (a b : NorState) : Type 0 where
  pub since : (b ≡ a) ⊎ SucceedsSettled a b
  pub keeps : KeepsSectors a.memory b.memory
  pub single : IsSingle a.memory → IsSingle b.memory
  pub erased : (d : ℕ) → d < data_blocks a.memory → d < k → kind_at a.memory d ≡ kinds.Void → IsSpareIn b.memory d
  pub others : (d : ℕ) → d < data_blocks a.memory → kind_at a.memory d ≢ kinds.Void → kind_at b.memory d ≡ kind_at a.memory d
  pub later : (d : ℕ) → d < data_blocks a.memory → k ≤ d → kind_at b.memory d ≡ kind_at a.memory d
  pub live : SameLive (slot_at a.memory) (slot_at b.memory) (slot_count a.memory)

pub voiding-none : (a : NorState) → Voiding 0 a a
voiding-none a = record {
  since = inl refl;
  keeps = same-keeps a.memory;
  single = λ one. one;
  erased = λ d low none. absurd (omega (arith, none));
  others = λ d low ne. refl;
  later = λ d low high. refl;
  live = λ s low. inl refl;
}

perhaps-settled : (a b c : NorState) → (b ≡ a) ⊎ SucceedsSettled a b → SucceedsSettled b c → SucceedsSettled a c
perhaps-settled a b c (inl e) s = subst (λ z. SucceedsSettled z c) e s
perhaps-settled a b c (inr t) s = settled-after a b c t s

-- after the kind was read
pub voiding-still : (k : ℕ) (a b c : NorState) → c.memory ≡ b.memory → SucceedsSettled b c → Voiding k a b → Voiding k a c
voiding-still k a b c same s r = record {
  since = inr (perhaps-settled a b c r.since s);
  keeps = subst (λ z. KeepsSectors a.memory z) (sym same) r.keeps;
  single = λ one. subst (λ z. IsSingle z) (sym same) (r.single one);
  erased = λ d low below e. subst (λ z. IsSpareIn z d) (sym same) (r.erased d low below e);
  others = λ d low ne. ap (λ z. kind_at z d) same ∙ r.others d low ne;
  later = λ d low high. ap (λ z. kind_at z d) same ∙ r.later d low high;
  live = subst (λ z. SameLive (slot_at a.memory) (slot_at z) (slot_count a.memory)) (sym same) r.live;
}

-- one more block, which isn't void
pub voiding-quiet : (k next : ℕ) (a b c : NorState) (kind : Kind) → next ≡ suc k → c.memory ≡ b.memory → SucceedsSettled b c → k < data_blocks a.memory → kind ≡ kind_at b.memory k → is_void kind ≡ false → Voiding k a b → Voiding next a c
voiding-quiet k next a b c kind e same s low is none r0 =
    let r = voiding-still k a b c same s r0 in
    subst (λ z. Voiding z a c) (sym e) (record {
      since = r.since;
      keeps = r.keeps;
      single = r.single;
      erased = λ d within below v. elim (cases_eq d k) as (λ _. IsSpareIn c.memory d) [
        | inl q ↦ (let w : true ≡ false = sym (ap is_void (is ∙ (r0.later k low (omega arith) ∙ (ap (λ z. kind_at a.memory z) (sym q) ∙ v)))) ∙ none in absurd cc)
        | inr ne ↦ r.erased d within (omega (arith, below, ne)) v
      ];
      others = r.others;
      later = λ d within high. r.later d within (omega (arith, high));
      live = r.live;
    })

void-is : (k : Kind) → is_void k ≡ true → k ≡ kinds.Void
void-is kinds.Plain e = absurd cc
void-is kinds.Void e = refl
void-is (kinds.Committed b) e = absurd cc
void-is kinds.Settled e = absurd cc
void-is (kinds.Group tag) e = absurd cc
void-is kinds.DeadGroup e = absurd cc
void-is kinds.SpoiltGroup e = absurd cc
void-is kinds.Unknown e = absurd cc

-- a void one
pub voiding-void : (k : ℕ) (a b c : NorState) (kind : Kind) → c.memory ≡ b.memory → k < data_blocks a.memory → kind ≡ kind_at b.memory k → is_void kind ≡ true → Voiding k a b → IsVoidIn k c.memory
voiding-void k a b c kind same low is here r =
    let size = r.keeps.chip.same_length in
    subst (λ z. IsVoidIn k z) (sym same) (record { number = omega (arith, low, size); void = sym is ∙ void-is kind here })

pub voiding-sound : (k : ℕ) (a b c : NorState) → c.memory ≡ b.memory → IsSoundMap a.memory → Voiding k a b → IsSoundMap c.memory
voiding-sound k a b c same sound r = subst (λ z. IsSoundMap z) (sym same) (mends-sound a.memory b.memory (kept-mends a.memory b.memory r.keeps) sound)

not-void : (m : List ℕ) (d k : ℕ) → kind_at m k ≡ kinds.Void → kind_at m d ≢ kinds.Void → d ≢ k
not-void m d k v ne e = ne (ap (λ z. kind_at m z) e ∙ v)

pub voiding-more : (k next : ℕ) (a b0 b c : NorState) → next ≡ suc k → b.memory ≡ b0.memory → SucceedsSettled b0 b → k < data_blocks a.memory → IsVoidIn k b.memory → EndsVoid k b.memory c.memory → SucceedsSettled b c → Voiding k a b0 → Voiding next a c
voiding-more k next a b0 b c e same s0 low void h s r0 =
    let r = voiding-still k a b0 b same s0 r0 in
    let size = r.keeps.chip.same_length in
    let was : kind_at a.memory k ≡ kinds.Void = sym (r.later k low (omega arith)) ∙ void.void in
    let stays : (d : ℕ) → d < data_blocks a.memory → d ≢ k → kind_at c.memory d ≡ kind_at b.memory d = λ d within ne. ap kind_of (h.blocks d (omega (arith, within, size)) ne) in
    subst (λ z. Voiding z a c) (sym e) (record {
      since = inr (perhaps-settled a b c r.since s);
      keeps = after-keeps a.memory b.memory c.memory r.keeps h.keeps;
      single = λ one. h.single (r.single one);
      erased = λ d within below v. elim (cases_eq d k) as (λ _. IsSpareIn c.memory d) [
        | inl q ↦ subst (λ z. IsSpareIn c.memory z) (sym q) h.erased
        | inr ne ↦ spare-same b.memory c.memory d (h.blocks d (omega (arith, within, size)) ne) (r.erased d within (omega (arith, below, ne)) v)
      ];
      others = λ d within ne. stays d within (not-void a.memory d k was ne) ∙ r.others d within ne;
      later = λ d within high. stays d within (λ q. omega (arith, q, high)) ∙ r.later d within (omega (arith, high));
      live = live-after a.memory b.memory c.memory r.keeps r.live h.live;
    })

pub voiding-cut : (k : ℕ) (a b c d : NorState) → c.memory ≡ b.memory → KeepsSectors c.memory d.memory → Voiding k a b → KeepsSectors a.memory d.memory
voiding-cut k a b c d same h r = after-keeps a.memory b.memory d.memory r.keeps (subst (λ z. KeepsSectors z d.memory) same h)

pub voiding-healthy : (k : ℕ) (a b : NorState) → Voiding k a b → IsHealthy a.memory → IsHealthy b.memory
voiding-healthy k a b r h = elim r.since as (λ _. IsHealthy b.memory) [ inl e ↦ subst (λ z. IsHealthy z.memory) (sym e) h | inr s ↦ settled-healthy b.memory s.settled ]

pub voiding-refuses : (k : ℕ) (e : NorError) (a b c : NorState) → Voiding k a b → RefusesFirmly e b c → RefusesFirmly e a c
voiding-refuses k e a b c r f = elim r.since as (λ _. RefusesFirmly e a c) [ inl q ↦ subst (λ z. RefusesFirmly e z c) q f | inr s ↦ refuses-firmly e a b c s f ]

pub voiding-done : (k : ℕ) (a b : NorState) → k ≡ data_blocks a.memory → Voiding k a b → EndsVoids a.memory b.memory
voiding-done k a b e r = record {
  keeps = r.keeps;
  single = r.single;
  erased = λ d low v. r.erased d low (omega (arith, low, e)) v;
  others = r.others;
  live = r.live;
}

-- What goes on then.
void-cases : (k : Kind) → (k ≡ kinds.Void) ⊎ (k ≢ kinds.Void)
void-cases kinds.Plain = inr (λ e. cc)
void-cases kinds.Void = inl refl
void-cases (kinds.Committed b) = inr (λ e. cc)
void-cases kinds.Settled = inr (λ e. cc)
void-cases (kinds.Group tag) = inr (λ e. cc)
void-cases kinds.DeadGroup = inr (λ e. cc)
void-cases kinds.SpoiltGroup = inr (λ e. cc)
void-cases kinds.Unknown = inr (λ e. cc)

unvoid-rest : (k : Kind) → IsUncommitted k → k ≢ kinds.Void → IsAtRest k
unvoid-rest kinds.Plain h ne = tt
unvoid-rest kinds.Void h ne = absurd (ne refl)
unvoid-rest (kinds.Committed b) h ne = h
unvoid-rest kinds.Settled h ne = tt
unvoid-rest (kinds.Group tag) h ne = tt
unvoid-rest kinds.DeadGroup h ne = tt
unvoid-rest kinds.SpoiltGroup h ne = tt
unvoid-rest kinds.Unknown h ne = h

-- a block that wasn't committed is at rest
ended-rest : (m m' : List ℕ) (d : ℕ) → EndsVoids m m' → d < data_blocks m → IsUncommitted (kind_at m d) → IsAtRest (kind_at m' d)
ended-rest m m' d h low u = elim (void-cases (kind_at m d)) as (λ _. IsAtRest (kind_at m' d)) [
  | inl v ↦ subst (λ z. IsAtRest z) (sym (h.erased d low v).plain) tt
  | inr ne ↦ subst (λ z. IsAtRest z) (sym (h.others d low ne)) (unvoid-rest (kind_at m d) u ne)
]

pub voids-end : (t : ℕ) (m m' : List ℕ) → FoundIn (Void t) m → EndsVoids m m' → EndsCopy m m'
voids-end t m m' f h =
    let size = h.keeps.chip.same_length in
    let number = f.number in
    record {
      whole = record {
        chip = h.keeps.chip;
        sectors = h.keeps.sectors;
        single = h.single;
        blocks = record {
          rest = λ d high. (let low : d < data_blocks m = omega (arith, high, size) in ended-rest m m' d h low (f.others d low));
          reserve = t;
          number = omega (arith, number, size);
          spare = h.erased t f.number f.void;
        };
        alone = h.keeps.alone;
        clean = h.keeps.clean;
      };
      live = h.live;
    }

committed-not_void : (k : Kind) (b : ℕ) → k ≡ kinds.Committed b → k ≢ kinds.Void
committed-not_void k b e v = let q : kinds.Committed b ≡ kinds.Void = sym e ∙ v in cc

pub voids-committed : (s t : ℕ) (m m' : List ℕ) → FoundIn (Committed s t) m → IsSoundMap m → EndsVoids m m' → IsCommittedIn s t m'
voids-committed s t m m' f sound h =
    let size = h.keeps.chip.same_length in
    let number = f.number in
    let source = f.source in
    let committed : kind_at m' t ≡ kinds.Committed (s + 4) = h.others t f.number (committed-not_void (kind_at m t) (s + 4) f.committed) ∙ f.committed in
    record {
      target = record {
        number = omega (arith, number, size);
        copying = subst (λ k. IsCopying k t (data_blocks m')) (sym committed) (s, (refl, (omega (arith, source, size), f.other)));
        others = λ d high other. (let low : d < data_blocks m = omega (arith, high, size) in ended-rest m m' d h low (f.others d low other));
      };
      committed = committed;
      sound = mends-sound m m' (kept-mends m m' h.keeps) sound;
    }

pub voids-then_copy : (a b c : List ℕ) → EndsVoids a b → EndsCopy b c → EndsCopy a c
voids-then_copy a b c h e =
    let k = after-keeps a b c h.keeps (record { chip = e.whole.chip; sectors = e.whole.sectors; alone = e.whole.alone; clean = e.whole.clean }) in
    record {
      whole = record {
        chip = k.chip;
        sectors = k.sectors;
        single = λ one. e.whole.single (h.single one);
        blocks = e.whole.blocks;
        alone = k.alone;
        clean = k.clean;
      };
      live = live-after a b c h.keeps h.live e.live;
    }
