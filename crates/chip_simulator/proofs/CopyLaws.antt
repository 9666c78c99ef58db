-- A part of a list that is overwritten by bytes that wrap.
use Rattle.std.proofs.Common.{◌≡◌, ℕ, ◌<◌, ◌≤◌, ◌+◌, ◌-◌, ◌%◌, ◌∙◌, List, ◌++◌, length, take, drop, sym, ap, arith, inl, inr}
use Rattle.std.proofs.lemmas.Bool.{cases_lt}
use Rattle.std.proofs.lemmas.List.{get_or-take, get_or-drop, length-take-le, length-append}
use Rattle.std.proofs.Math.ListN.{get_or-append}
use Rattle.std.proofs.Math.Seq.{get_or-append_right}
use Rattle.std.proofs.Math.Nat.{mod-add-mod, mod-eq_of_lt}
use Rattle.chip_model.specs.Memory.{byte}

-- the places before the part
before_part : (xs ys rest : List ℕ) (a k : ℕ) → a ≤ length xs → k < a → byte (take a xs ++ (ys ++ rest)) k ≡ byte xs k
before_part xs ys rest a k fits low =
    let l : length (take a xs) ≡ a = length-take-le a xs fits in
    get_or-append (take a xs) (ys ++ rest) 0 k (omega (arith, l)) ∙ get_or-take a xs k 0 low

-- the places of the part
in_part : (xs ys rest : List ℕ) (a k : ℕ) → a ≤ length xs → a ≤ k → k < a + length ys → byte (take a xs ++ (ys ++ rest)) k ≡ byte ys (k - a)
in_part xs ys rest a k fits from low =
    let l : length (take a xs) ≡ a = length-take-le a xs fits in
    let here : k - a < length ys = omega arith in
    get_or-append_right (take a xs) (ys ++ rest) k 0 (omega (arith, l))
    ∙ (ap (λ n. byte (ys ++ rest) (k - n)) l
    ∙ get_or-append ys rest 0 (k - a) here)

pub copied_length : (xs ys rest : List ℕ) (a : ℕ) → a ≤ length xs → a + length ys ≤ length (take a xs ++ (ys ++ rest))
copied_length xs ys rest a fits =
    let l : length (take a xs) ≡ a = length-take-le a xs fits in
    let two = length-append (take a xs) (ys ++ rest) in
    let three = length-append ys rest in
    omega (arith, l, two, three)

-- the bytes so far, and those that the part now holds
pub copied : (xs ys rest memory : List ℕ) (at a n m k : ℕ) → a ≤ length xs → m ≡ n → ys ≡ take m (drop ((at + a) % length memory) memory) → length ys ≡ n
    → (at + a) % length memory + n ≤ length memory
    → ((j : ℕ) → j < a → byte xs j ≡ byte memory ((at + j) % length memory)) → k < a + n → byte (take a xs ++ (ys ++ rest)) k ≡ byte memory ((at + k) % length memory)
copied xs ys rest memory at a n m k fits whole is len room old low = elim (cases_lt k a) [
  | inl before ↦ before_part xs ys rest a k fits before ∙ old k before
  | inr from ↦
      let place = (at + a) % length memory in
      let j = k - a in
      let few : j < m = omega (arith, whole) in
      let inside : place + j < length memory = omega arith in
      let sum : at + a + j ≡ at + k = omega arith in
      let target : (at + k) % length memory ≡ place + j =
      ap (λ s. s % length memory) (sym sum) ∙ (sym (mod-add-mod (at + a) (length memory) j) ∙ mod-eq_of_lt inside) in
      in_part xs ys rest a k fits from (omega (arith, len))
      ∙ (ap (λ (zs : List ℕ). byte zs j) is
      ∙ (get_or-take m (drop place memory) j 0 few
      ∙ (get_or-drop place memory j 0
      ∙ ap (λ s. byte memory s) (sym target))))
]

-- one run, which doesn't wrap
pub one_run : (ys memory : List ℕ) (at n i : ℕ) → ys ≡ take n (drop at memory) → i < n → at + i < length memory → byte ys i ≡ byte memory ((at + i) % length memory)
one_run ys memory at n i is few inside =
    ap (λ (zs : List ℕ). byte zs i) is
    ∙ (get_or-take n (drop at memory) i 0 few
    ∙ (get_or-drop at memory i 0
    ∙ ap (λ s. byte memory s) (sym (mod-eq_of_lt inside))))
