-- How the rows of a tape go on.
use Rattle.std.proofs.Common.{◌≡◌, ℕ, zero, suc, ◌+◌, ◌*◌, ◌<◌, ◌≤◌, List, [], ◌∷◌, ◌++◌, true, false, Bool, refl, sym, ap, subst, ◌∙◌, arith, inl, inr, length, take, drop, replicate, length-append}
use Rattle.std.proofs.lemmas.List.{take-append-drop, length-drop, length-take-le, take-append-le, drop-append-le, take_all}
use Rattle.std.proofs.Math.Logic.{∥∥₁_map}
use Rattle.chip_model.specs.Parts.{part}
use Rattle.chip_model.specs.Chip.{Chip}
use Rattle.chip_model.specs.Cut.{Loses, falls, was_off, PowersOn}
use Rattle.chip_simulator.specs.Plan.{one_frame_less, strikes}
use Rattle.chip_simulator.specs.Simulated.{is_accepted}
use Rattle.chip_simulator.specs.Sim.{fresh_chip}
use Rattle.page.specs.Tape.{Bus, Run, Happens, lost, off, row_put, row_shown}

is_empty : (xs : List ℕ) → length xs ≡ 0 → xs ≡ []
is_empty [] e = refl
is_empty (x ∷ xs) e = absurd (cc e)

-- a part that lies in the first of two lists
part_left : (k n : ℕ) (xs ys : List ℕ) → n + k ≤ length xs → take k (drop n (xs ++ ys)) ≡ take k (drop n xs)
part_left k n xs ys fits =
    ap (λ v. take k v) (drop-append-le n xs ys (omega (arith, fits)))
    ∙ take-append-le k (drop n xs) ys (rw (length-drop n xs) (omega (arith, fits)))

-- a part that lies in a beginning
part_of_beginning : (k n at : ℕ) (xs : List ℕ) → n + k ≤ at → at ≤ length xs → take k (drop n (take at xs)) ≡ take k (drop n xs)
part_of_beginning k n at xs fits long =
    sym (part_left k n (take at xs) (drop at xs) (rw (length-take-le at xs long) fits))
    ∙ ap (λ v. take k (drop n v)) (take-append-drop at xs)

drop_all : (n : ℕ) (xs ys : List ℕ) → length xs ≡ n → drop n (xs ++ ys) ≡ ys
drop_all n xs ys e =
    drop-append-le n xs ys (omega (arith, e))
    ∙ ap (λ v. v ++ ys) (is_empty (drop n xs) (length-drop n xs ∙ omega (arith, e)))

module _ (rows row : List ℕ) (k : ℕ) (eight : length row ≡ 8) (room : 8 * k + 8 ≤ length rows) where
  length_front : length (take (8 * k) rows) ≡ 8 * k
  length_front = length-take-le (8 * k) rows (omega (arith, room))

  length_both : length (take (8 * k) rows ++ row) ≡ 8 * k + 8
  length_both = length-append (take (8 * k) rows) row ∙ omega (arith, length_front, eight)

  pub put_here : part 8 (row_put rows k row) k ≡ row
  unfolding part
  put_here =
      part_left 8 (8 * k) (take (8 * k) rows ++ row) (drop (8 * k + 8) rows) (omega (arith, length_both))
      ∙ (ap (λ v. take 8 v) (drop_all (8 * k) (take (8 * k) rows) row length_front)
      ∙ take_all 8 row (omega (arith, eight)))

  pub put_before : (j : ℕ) → j < k → part 8 (row_put rows k row) j ≡ part 8 rows j
  unfolding part
  put_before j below =
      part_left 8 (8 * j) (take (8 * k) rows ++ row) (drop (8 * k + 8) rows) (omega (arith, length_both, below))
      ∙ (part_left 8 (8 * j) (take (8 * k) rows) row (omega (arith, length_front, below))
      ∙ part_of_beginning 8 (8 * j) (8 * k) rows (omega (arith, below)) (omega (arith, room)))

-- a run is of the rows before its end alone
run_same : (a b : List ℕ) (k : ℕ) (bus : Bus) → ((j : ℕ) → j < k → part 8 b j ≡ part 8 a j) → Run a k bus → Run b k bus
unfolding Run
run_same a b zero bus same r = r
run_same a b (suc k) bus same r = (
  r.0,
  run_same a b k r.0 (λ j low. same j (omega (arith, low))) r.1,
  subst (λ x. Happens x r.0 bus) (sym (same k (omega arith))) r.2,
)

run_more : (rows row : List ℕ) (k : ℕ) (old new : Bus) → length row ≡ 8 → 8 * k + 8 ≤ length rows → Happens row old new
    → Run rows k old → Run (row_put rows k row) (k + 1) new
unfolding Run
run_more rows row k old new eight room happens run =
    let e : suc k ≡ k + 1 = omega arith in
    subst (λ n. Run (row_put rows k row) n new) e (
      old,
      run_same rows (row_put rows k row) k old (λ j below. put_before rows row k eight room j below) run,
      subst (λ x. Happens x old new) (sym (put_here rows row k eight room)) happens,
    )

-- a row is noted, as far as there is room
pub noted : (rows rows' row : List ℕ) (k k' : ℕ) (old new : Bus) → length rows ≡ 524288 → length row ≡ 8
    → (8 * k' ≤ 524288 → k' ≡ k + 1) → (8 * k + 8 ≤ length rows → rows' ≡ row_put rows k row)
    → (8 * k ≤ 524288 → ∥ Run rows k old ∥₁) → Happens row old new → 8 * k' ≤ 524288 → ∥ Run rows' k' new ∥₁
noted rows rows' row k k' old new long eight next put run happens low =
    let e = next low in
    let room : 8 * k + 8 ≤ length rows = omega (arith, low, e, long) in
    ∥∥₁_map (run (omega (arith, low, e))) (λ r.
    subst (λ n. Run rows' n new) (sym e)
    (subst (λ x. Run x (k + 1) new) (sym (put room)) (run_more rows row k old new eight room happens r)))

true_unless : (b : Bool) → (b ≡ false → false ≡ true) → b ≡ true
true_unless true n = refl
true_unless false n = n refl

-- a frame that wasn't answered
pub not_answered : (sent row : List ℕ) (old new : Bus) (cuts cuts' : ℕ) → row ≡ row_shown sent [] 1 → Loses old.chip cuts sent new.chip cuts'
    → (old.chip.powered ≡ true → strikes old.armed (is_accepted old.chip sent) ≡ false → false ≡ true)
    → (old.chip.powered ≡ true → new.armed ≡ one_frame_less old.armed (is_accepted old.chip sent))
    → (old.chip.powered ≡ false → new.armed ≡ old.armed) → Happens row old new
not_answered sent row old new cuts cuts' is (falls on inside more) spared less still =
    lost sent is (true_unless (strikes old.armed (is_accepted old.chip sent)) (spared on)) inside (less on)
not_answered sent row old new cuts cuts' is (was_off is_off same equal) spared less still = off sent is is_off same (still is_off)

-- the power comes on where that isn't counted as a loss
pub comes_on : (c c' : Chip) (cuts cuts' : ℕ) → cuts' ≡ cuts → PowersOn c cuts c' cuts' → PowersOn c 0 c' 0
comes_on c c' cuts cuts' e p = record {
  off = p.off;
  left = p.left;
  on = elim p.on [ inl h ↦ inl (h.0, refl) | inr h ↦ absurd (omega (arith, e, h.1)) ];
}

pub run_begins : (rows : List ℕ) (bus : Bus) → bus.chip ≡ fresh_chip (replicate 65536 255) → bus.armed.armed ≡ 0 → Run rows 0 bus
unfolding Run
run_begins rows bus fresh unarmed = (fresh, unarmed)
