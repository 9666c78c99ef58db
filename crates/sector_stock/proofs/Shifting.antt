-- One more place of a block is shifted.
use Rattle.std.proofs.Common.{◌≡◌, ◌≢◌, ℕ, ◌+◌, ◌*◌, ◌<◌, ◌≤◌, List, length, sym, ap, ◌∙◌, arith, inl, inr, slice_set}
use Rattle.std.proofs.lemmas.Bool.{cases_eq}
use Rattle.std.proofs.lemmas.List.{get_or-set_same, get_or-set_other, length-set}
use Rattle.sector_stock.specs.declared.index.SlotState.{SlotState}
use Rattle.sector_stock.specs.declared.index.SlotState.TheVariants as states
use Rattle.sector_stock.specs.Index.{copied_state, in_slots, Shifted}

pub shifted-more : (k s t : ℕ) (old now : List SlotState) (state : SlotState) → k < 7 → s ≢ t → 7 * s + 7 ≤ length old → 7 * t + 7 ≤ length old → state ≡ copied_state (in_slots now (7 * s + k)) → Shifted k s t old now
    → Shifted (k + 1) s t old (slice_set (slice_set now (7 * t + k) state) (7 * s + k) states.Free)
shifted-more k s t old now state low other fs ft e h =
    let n = h.size in
    let mid = slice_set now (7 * t + k) state in
    let ln : length mid ≡ length now = length-set now (7 * t + k) state in
    let all : length (slice_set mid (7 * s + k) states.Free) ≡ length mid = length-set mid (7 * s + k) states.Free in
    let apart : 7 * t + k ≢ 7 * s + k = λ q. other (omega (arith, q)) in
    let was : in_slots now (7 * s + k) ≡ in_slots old (7 * s + k) = h.others (7 * s + k) (omega (arith, fs, low)) (λ i small. (λ q. other (omega (arith, q, small, low)), λ q. omega (arith, q, small))) in
    record {
      size = all ∙ (ln ∙ n);
      target = λ i small. elim (cases_eq i k) as (λ _. in_slots (slice_set mid (7 * s + k) states.Free) (7 * t + i) ≡ copied_state (in_slots old (7 * s + i))) [
        | inl q ↦ ap (λ a. in_slots (slice_set mid (7 * s + k) states.Free) (7 * t + a)) q
            ∙ (get_or-set_other mid (7 * s + k) (7 * t + k) states.Free states.Free apart
            ∙ (get_or-set_same now (7 * t + k) state states.Free (omega (arith, ft, n, low))
            ∙ (e ∙ (ap copied_state was ∙ ap (λ a. copied_state (in_slots old (7 * s + a))) (sym q)))))
        | inr ne ↦ get_or-set_other mid (7 * s + k) (7 * t + i) states.Free states.Free (λ q. other (omega (arith, q, small, low)))
            ∙ (get_or-set_other now (7 * t + k) (7 * t + i) state states.Free (λ q. ne (omega (arith, q)))
            ∙ h.target i (omega (arith, small, ne)))
      ];
      source = λ i small. elim (cases_eq i k) as (λ _. in_slots (slice_set mid (7 * s + k) states.Free) (7 * s + i) ≡ states.Free) [
        | inl q ↦ ap (λ a. in_slots (slice_set mid (7 * s + k) states.Free) (7 * s + a)) q ∙ get_or-set_same mid (7 * s + k) states.Free states.Free (omega (arith, fs, n, ln, low))
        | inr ne ↦ get_or-set_other mid (7 * s + k) (7 * s + i) states.Free states.Free (λ q. ne (omega (arith, q)))
            ∙ (get_or-set_other now (7 * t + k) (7 * s + i) state states.Free (λ q. other (omega (arith, q, small, low)))
            ∙ h.source i (omega (arith, small, ne)))
      ];
      others = λ w high out.
          let p = out k (omega arith) in
          get_or-set_other mid (7 * s + k) w states.Free states.Free p.1 ∙ (get_or-set_other now (7 * t + k) w state states.Free p.0 ∙ h.others w high (λ i small. out i (omega (arith, small))));
    }
