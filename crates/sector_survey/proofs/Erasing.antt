-- The free blocks of layout 1, looked at and erased one after the other.
use Rattle.std.proofs.Common.{◌≡◌, ◌≢◌, ℕ, ◌+◌, ◌-◌, ◌<◌, ◌≤◌, List, length, refl, sym, ap, ◌∙◌, subst, arith, inl, inr}
use Rattle.std.specs.Prelude.{Option, Some, None, IfSome, is_some, true, false}
use Rattle.std.proofs.lemmas.Bool.{cases_eq, true≢false, false≢true}
use Rattle.chip_model.specs.Memory.{byte}
use Rattle.chip_model.specs.Geometry.{block_count}
use Rattle.nor_layout.specs.declared.header.Header.TheVariants as headers
use Rattle.nor_layout.specs.Headers.{header_of}
use Rattle.erase_journal.specs.Blocks.{blank, WithErased}
use Rattle.journal_slots.proofs.Cleaning.{erased-is-blank}
use Rattle.sector_slots.specs.Slots.{data_block, data_blocks}
use Rattle.sector_slots.specs.Groups.{block_header}
use Rattle.sector_survey.specs.Cleanness.{FreeBlockTells, HasFreeErased}

-- of the first n data blocks those that read as free are erased, and all else is as it was
pub record ErasedTo (n : ℕ) (m m' : List ℕ) : Type 0 where
  pub size : length m' ≡ length m
  pub superblock : (k : ℕ) → k < 4096 → byte m' k ≡ byte m k
  pub free : (c : ℕ) → c < n → block_header m c ≡ headers.Free → data_block m' c ≡ blank
  pub later : (c : ℕ) → n ≤ c → c < data_blocks m → data_block m' c ≡ data_block m c
  pub others : (c : ℕ) → c < data_blocks m → block_header m c ≢ headers.Free → data_block m' c ≡ data_block m c

pub erased-none : (m : List ℕ) → ErasedTo 0 m m
erased-none m = record {
  size = refl;
  superblock = λ k low. refl;
  free = λ c low is. absurd (omega (arith, low));
  later = λ c from low. refl;
  others = λ c low is. refl;
}

-- one more that isn't free, or is erased
pub erased-skip : (n : ℕ) (m m' : List ℕ) → n < data_blocks m → ErasedTo n m m' → FreeBlockTells None m' n → ErasedTo (n + 1) m m'
erased-skip n m m' inside e tells =
    let here : data_block m' n ≡ data_block m n = e.later n (omega arith) inside in
    record {
      size = e.size;
      superblock = e.superblock;
      free = λ c low is. elim (cases_eq c n) as (λ _. data_block m' c ≡ blank) [
        | inl same ↦ subst (λ q. data_block m' q ≡ blank) (sym same) (tells (ap (λ b. header_of b) here ∙ subst (λ q. block_header m q ≡ headers.Free) same is))
        | inr other ↦ e.free c (omega (arith, low, other)) is
      ];
      later = λ c from low. e.later c (omega (arith, from)) low;
      others = e.others;
    }

-- one more, which reads as free and is erased now
pub erased-more : (n k : ℕ) (m m' m2 : List ℕ) → n < data_blocks m → ErasedTo n m m' → FreeBlockTells (Some k) m' n → WithErased (n + 4) m' m2 → ErasedTo (n + 1) m m2
erased-more n k m m' m2 inside e tells w =
    let here : data_block m' n ≡ data_block m n = e.later n (omega arith) inside in
    let free : block_header m n ≡ headers.Free = sym (ap (λ b. header_of b) here) ∙ tells.0.free in
    let blocks : data_blocks m' ≡ data_blocks m = ap (λ n. block_count n - 4) e.size in
    record {
      size = w.only.chip.same_length ∙ e.size;
      superblock = λ k low. w.only.chip.superblock k low ∙ e.superblock k low;
      free = λ c low is. elim (cases_eq c n) as (λ _. data_block m2 c ≡ blank) [
        | inl same ↦ subst (λ q. data_block m2 q ≡ blank) (sym same) w.erased
        | inr other ↦ w.only.others (c + 4) (omega arith) (omega (arith, low, inside, blocks)) (λ q. other (omega (arith, q))) ∙ e.free c (omega (arith, low, other)) is
      ];
      later = λ c from low. w.only.others (c + 4) (omega arith) (omega (arith, low, blocks)) (λ q. absurd (omega (arith, q, from))) ∙ e.later c (omega (arith, from)) low;
      others = λ c low is. elim (cases_eq c n) as (λ _. data_block m2 c ≡ data_block m c) [
        | inl same ↦ absurd (is (subst (λ q. block_header m q ≡ headers.Free) (sym same) free))
        | inr other ↦ w.only.others (c + 4) (omega arith) (omega (arith, low, blocks)) (λ q. other (omega (arith, q))) ∙ e.others c low is
      ];
    }

-- what was read of a block
pub byte-tells : (o : Option ℕ) (x m : List ℕ) (c : ℕ) → c < data_blocks m → length (data_block m c) ≡ 4096 → x ≡ data_block m c
    → (o ≡ None → header_of x ≡ headers.Free → (k : ℕ) → k < 4096 → byte x k ≡ 255)
    → IfSome o (λ _. header_of x ≡ headers.Free) → IfSome o (λ k. (k < 4096) × (byte x k ≢ 255))
    → IfSome o (λ k. (j : ℕ) → j < k → byte x j ≡ 255) → FreeBlockTells o m c
byte-tells None x m c inside n e none free some before =
    λ is. erased-is-blank (data_block m c) n (λ k low. sym (ap (λ b. byte b k) e) ∙ none refl (ap (λ b. header_of b) e ∙ is) k (omega (arith, low, n)))
byte-tells (Some k) x m c inside n e none free some before = (
  record {
    number = inside;
    inside = some.0;
    free = sym (ap (λ b. header_of b) e) ∙ free;
    written = λ q. some.1 (ap (λ b. byte b k) e ∙ q);
  },
  λ j low. sym (ap (λ b. byte b j) e) ∙ before j low,
)

pub tells-none : (o : Option ℕ) (m : List ℕ) (c : ℕ) → ((k : ℕ) → o ≡ Some k → ⊥) → FreeBlockTells o m c → FreeBlockTells None m c
tells-none None m c none h = h
tells-none (Some k) m c none h = absurd (none k refl)

pub tells-unless : (o : Option ℕ) (m : List ℕ) (c : ℕ) → is_some o ≡ false → FreeBlockTells o m c → FreeBlockTells None m c
tells-unless None m c none h = h
tells-unless (Some k) m c none h = absurd (true≢false none)

pub erased-some : (n : ℕ) (o : Option ℕ) (m m' m2 : List ℕ) → n < data_blocks m → is_some o ≡ true → ErasedTo n m m' → FreeBlockTells o m' n → WithErased (n + 4) m' m2 → ErasedTo (n + 1) m m2
erased-some n None m m' m2 inside is e h w = absurd (false≢true is)
erased-some n (Some k) m m' m2 inside is e h w = erased-more n k m m' m2 inside e h w

pub erased-all : (m m' : List ℕ) → ErasedTo (data_blocks m) m m' → HasFreeErased m m'
erased-all m m' e = record {
  size = e.size;
  superblock = e.superblock;
  free = e.free;
  others = e.others;
}
