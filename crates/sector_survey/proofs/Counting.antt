-- How many descriptors are free and live, counted one by one, and the summaries of blocks.
use Rattle.std.proofs.Common.{◌≡◌, ℕ, ◌+◌, ◌-◌, ◌<◌, List, [], ◌∷◌, ◌++◌, length, sym, ap, ◌∙◌, subst, arith, inl, inr, add-one, if◌then◌else◌}
use Rattle.std.specs.Prelude.{Result, Ok, Err, IfOk, Option, Some, None, MatchOption, slice_index_or}
use Rattle.std.proofs.Math.ListN.{get_or-append}
use Rattle.std.proofs.Math.Seq.{get_or-append_right}
use Rattle.std.proofs.lemmas.Bool.{cases_eq}
use Rattle.std.proofs.lemmas.Bool.Decides.{nat_tests}
use Rattle.nor_layout.specs.declared.header.Header.{Header}
use Rattle.erase_journal.specs.Blocks.{SameBlocks}
use Rattle.erase_journal.specs.Journals.{IsHealthy}
use Rattle.erase_journal.specs.Places.{how_many}
use Rattle.erase_journal.proofs.Counts.{how_many-zero, how_many-suc, how_many-same}
use Rattle.sector_slots.specs.Slots.{data_block, descriptor_in, read_header}
use Rattle.sector_survey.specs.Summaries.{free_heads, live_heads, is_free_head, is_live_head, IsSummaryOf, AreSummaries, no_summary}
use Rattle.sector_survey.specs.declared.summary.BlockSummary.{BlockSummary}
use Rattle.sector_survey.proofs.Verdicts.{count-same, block-same, kind-same}

pub free_heads-zero : (heads : List Header) → free_heads heads 0 ≡ 0
unfolding free_heads
free_heads-zero heads = how_many-zero (λ i. is_free_head (read_header heads i))

pub free_heads-next : (heads : List Header) (n : ℕ) → free_heads heads (n + 1) ≡ (if is_free_head (read_header heads n) then 1 else 0) + free_heads heads n
unfolding free_heads
free_heads-next heads n = rw add-one (how_many-suc (λ i. is_free_head (read_header heads i)) n)

pub live_heads-zero : (heads : List Header) → live_heads heads 0 ≡ 0
unfolding live_heads
live_heads-zero heads = how_many-zero (λ i. is_live_head (read_header heads i))

pub live_heads-next : (heads : List Header) (n : ℕ) → live_heads heads (n + 1) ≡ (if is_live_head (read_header heads n) then 1 else 0) + live_heads heads n
unfolding live_heads
live_heads-next heads n = rw add-one (how_many-suc (λ i. is_live_head (read_header heads i)) n)

pub ruleset head_steps = (nat_tests, free_heads-zero, free_heads-next, live_heads-zero, live_heads-next)

pub free-of : (m : List ℕ) (c : ℕ) (heads : List Header) → ((i : ℕ) → i < 7 → read_header heads i ≡ descriptor_in (data_block m c) i) → free_heads heads 7 ≡ how_many (λ i. is_free_head (descriptor_in (data_block m c) i)) 7
unfolding free_heads
free-of m c heads each = how_many-same (λ i. is_free_head (read_header heads i)) (λ i. is_free_head (descriptor_in (data_block m c) i)) 7 (λ i low. ap is_free_head (each i low))

pub live-of : (m : List ℕ) (c : ℕ) (heads : List Header) → ((i : ℕ) → i < 7 → read_header heads i ≡ descriptor_in (data_block m c) i) → live_heads heads 7 ≡ how_many (λ i. is_live_head (descriptor_in (data_block m c) i)) 7
unfolding live_heads
live-of m c heads each = how_many-same (λ i. is_live_head (read_header heads i)) (λ i. is_live_head (descriptor_in (data_block m c) i)) 7 (λ i low. ap is_live_head (each i low))

-- one more summary
pub summary-more : (old new : List BlockSummary) (s : BlockSummary) (m : List ℕ) (k : ℕ) → new ≡ old ++ (s ∷ []) → length old ≡ k → IsSummaryOf s m k → ((c : ℕ) → c < k → IsSummaryOf (slice_index_or old c no_summary) m c)
    → (c : ℕ) → c < k + 1 → IsSummaryOf (slice_index_or new c no_summary) m c
summary-more old new s m k e size here before c low = subst (λ z. IsSummaryOf (slice_index_or z c no_summary) m c) (sym e) (elim (cases_eq c k) as (λ _. IsSummaryOf (slice_index_or (old ++ (s ∷ [])) c no_summary) m c) [
  | inl same ↦
      let at : slice_index_or (old ++ (s ∷ [])) c no_summary ≡ slice_index_or (s ∷ []) (c - length old) no_summary = get_or-append_right old (s ∷ []) c no_summary (omega (arith, same, size)) in
      let first : slice_index_or (s ∷ []) (c - length old) no_summary ≡ s = ap (λ i. slice_index_or (s ∷ []) i no_summary) (let z : c - length old ≡ 0 = omega (arith, same, size) in z) in
      subst (λ z. IsSummaryOf z m c) (sym (at ∙ first)) (subst (λ i. IsSummaryOf s m i) (sym same) here)
  | inr other ↦
      let less : c < k = omega (arith, low, other) in
      subst (λ z. IsSummaryOf z m c) (sym (get_or-append old (s ∷ []) no_summary c (omega (arith, less, size)))) (before c less)
])

-- the summaries of a memory whose journals were recovered are those of the memory before
pub summaries-back : (all : List BlockSummary) (m m' : List ℕ) → SameBlocks m m' → AreSummaries all m' → AreSummaries all m
summaries-back all m m' s h = record {
  size = h.size ∙ count-same m m' s;
  each = λ c low.
      let x = h.each c (subst (λ n. c < n) (sym (count-same m m' s)) low) in
      let b = block-same m m' c s low in
      record {
        kind = x.kind ∙ kind-same m m' c s low;
        free = x.free ∙ ap (λ z. how_many (λ i. is_free_head (descriptor_in z i)) 7) b;
        live = x.live ∙ ap (λ z. how_many (λ i. is_live_head (descriptor_in z i)) 7) b;
      };
}

summaries-option : {T : Type 0} (items : T → List BlockSummary) (o : Option T) (m m' : List ℕ) → SameBlocks m m' → MatchOption o ⊥ (λ all. AreSummaries (items all) m') → MatchOption o (IsHealthy m → ⊥) (λ all. AreSummaries (items all) m)
summaries-option items None m m' s h = absurd h
summaries-option items (Some all) m m' s h = summaries-back (items all) m m' s h

pub summaries-if : {T E : Type 0} (items : T → List BlockSummary) (r : Result (Option T) E) (m m' : List ℕ) → SameBlocks m m' → IfOk r (λ o. MatchOption o ⊥ (λ all. AreSummaries (items all) m')) → IfOk r (λ o. MatchOption o (IsHealthy m → ⊥) (λ all. AreSummaries (items all) m))
summaries-if items (Ok o) m m' s h = summaries-option items o m m' s h
summaries-if items (Err e) m m' s h = tt
