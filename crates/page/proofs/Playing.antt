-- How the play of a step follows from what the disk says, and the story from the steps.
use Rattle.std.proofs.Common.{◌≡◌, ◌≢◌, ◌⊎◌, ℕ, zero, suc, ◌+◌, ◌<◌, ◌==◌, ◌&&◌, ◌||◌, not, Bool, List, true, false, refl, sym, ap, subst, ◌∙◌, arith, inl, inr, length}
use Rattle.std.proofs.lemmas.Bool.{eqb-false}
use Rattle.chip_model.specs.Memory.{byte}
use Rattle.block_device.specs.Facts.{Facts, CountsNeverFall}
use Rattle.std.specs.Prelude.{slice_set}
use Rattle.std.proofs.lemmas.List.{get_or-set_same, get_or-set_other}
use Rattle.page.specs.Story.{StepDoes, Story, power_after, power_at, step_at}
use Rattle.page.specs.Steps.{PlaysStep, is_unarmed}
use Rattle.page.specs.declared.step.Step.{Step}
use Rattle.page.specs.declared.step.Power.{Power}

-- an answer that tells of no loss that wasn't armed
unarmed_not : (armed on r : Bool) → (not armed && (on || r)) ≡ false → (armed ≡ true) ⊎ ((on ≡ false) × (r ≡ false))
unarmed_not true on r e = inl refl
unarmed_not false true r e = absurd (cc e)
unarmed_not false false true e = absurd (cc e)
unarmed_not false false false e = inr (refl, refl)

not_off : (b : Bool) → not b ≡ false → b ≡ true
not_off true e = refl
not_off false e = absurd (cc e)

is_lost : (s : Step) (p : Power) → is_unarmed s 76 p ≡ false → (p.armed ≡ true) ⊎ ((p.on ≡ false) × (s.what ≢ 82))
is_lost s p e = elim (unarmed_not p.armed p.on (s.what == 82) e) [ inl h ↦ inl h | inr h ↦ inr (h.0, λ is. eqb-false s.what 82 h.1 is) ]

pub does_of : (s : Step) (a : ℕ) (p : Power) (f f' : Facts) → a ≢ 69 → is_unarmed s a p ≡ false → p.on ≡ not f.cut → PlaysStep s a f f' → StepDoes s a p f.contents f'.contents
does_of s a p f f' quick asked on plays = record {
  answers = elim plays.answers [ inl h ↦ inl h | inr h ↦ elim h [ inl i ↦ inr (inl i) | inr i ↦ elim i [ inl j ↦ inr (inr j) | inr j ↦ absurd (quick j) ] ] ];
  unknown = plays.unknown;
  known = plays.known;
  lost = λ e. is_lost s p (subst (λ x. is_unarmed s x p ≡ false) e asked);
  off = λ off known no not_arm. plays.off (not_off f.cut (sym on ∙ off)) known no not_arm;
  done = plays.done;
  torn = plays.torn;
  refused = plays.refused;
}

-- the power after a step is that of the facts
pub on_after : (s : Step) (a : ℕ) (p : Power) (f f' : Facts) → a ≢ 69 → p.on ≡ not f.cut → PlaysStep s a f f' → (power_after s a p).on ≡ not f'.cut
on_after s a p f f' quick on plays =
    ap (λ o. (power_after s a (record { on = o; armed = p.armed })).on) on ∙ sym (plays.power quick p.armed)

-- the power before a step, and a story, are of the answers before it alone
power_same : (script a b : List ℕ) (k : ℕ) → ((i : ℕ) → i < k → byte b i ≡ byte a i) → power_at script b k ≡ power_at script a k
power_same script a b zero same = refl
power_same script a b (suc k) same =
    ap (λ x. power_after (step_at script k) x (power_at script b k)) (same k (omega arith))
    ∙ ap (λ p. power_after (step_at script k) (byte a k) p) (power_same script a b k (λ i low. same i (omega (arith, low))))

story_same : (first script a b : List ℕ) (k : ℕ) (c : List ℕ) → ((i : ℕ) → i < k → byte b i ≡ byte a i) → Story first script a k c → Story first script b k c
unfolding Story
story_same first script a b zero c same s = s
story_same first script a b (suc k) c same s = (
  s.0,
  story_same first script a b k s.0 (λ i low. same i (omega (arith, low))) s.1,
  subst (λ p. StepDoes (step_at script k) (byte b k) p s.0 c) (sym (power_same script a b k (λ i low. same i (omega (arith, low)))))
      (subst (λ x. StepDoes (step_at script k) x (power_at script a k) s.0 c) (sym (same k (omega arith))) s.2),
)

pub story_start : (first script answers : List ℕ) → Story first script answers 0 first
unfolding Story
story_start first script answers = refl

set_below : (answers : List ℕ) (k x : ℕ) → (i : ℕ) → i < k → byte (slice_set answers k x) i ≡ byte answers i
set_below answers k x i less = get_or-set_other answers k i x 0 (λ is. absurd (omega (arith, less, is)))

pub story_step : (first script answers : List ℕ) (k x : ℕ) (c c' : List ℕ) → k < length answers → Story first script answers k c
    → StepDoes (step_at script k) x (power_at script answers k) c c' → Story first script (slice_set answers k x) (k + 1) c'
unfolding Story
story_step first script answers k x c c' low s d =
    let e : suc k ≡ k + 1 = omega arith in
    subst (λ n. Story first script (slice_set answers k x) n c') e (
      c,
      story_same first script answers (slice_set answers k x) k c (set_below answers k x) s,
      subst (λ p. StepDoes (step_at script k) (byte (slice_set answers k x) k) p c c') (sym (power_same script answers (slice_set answers k x) k (set_below answers k x)))
          (subst (λ y. StepDoes (step_at script k) y (power_at script answers k) c c') (sym (get_or-set_same answers k x 0 low)) d),
    )

pub power_step : (script answers : List ℕ) (k x : ℕ) → k < length answers
    → power_after (step_at script k) x (power_at script answers k) ≡ power_at script (slice_set answers k x) (k + 1)
power_step script answers k x low =
    let e : suc k ≡ k + 1 = omega arith in
    let here : x ≡ byte (slice_set answers k x) k = sym (get_or-set_same answers k x 0 low) in
    ap (λ y. power_after (step_at script k) y (power_at script answers k)) here
    ∙ ap (λ p. power_after (step_at script k) (byte (slice_set answers k x) k) p) (sym (power_same script answers (slice_set answers k x) k (set_below answers k x)))
    ∙ ap (λ n. power_at script (slice_set answers k x) n) e

pub goes_on : (a b c : Facts) → CountsNeverFall a b → CountsNeverFall b c → CountsNeverFall a c
goes_on a b c p q = record {
  size = q.size ∙ p.size;
  cuts = (let x = p.cuts in let y = q.cuts in omega (arith, x, y));
  slows = (let x = p.slows in let y = q.slows in omega (arith, x, y));
}

pub goes_same : (a b : Facts) → b ≡ a → CountsNeverFall a b
goes_same a b e = subst (λ x. CountsNeverFall a x) (sym e) (record { size = refl; cuts = omega arith; slows = omega arith })
