-- The digits and the count of one word, as `split_once`, `parse` and `decode` answer them.
use Rattle.std.proofs.Common.{◌≡◌, ℕ, ◌+◌, ◌<◌, ◌^◌, ◌⊎◌, ◌&&◌, ◌==◌, inl, inr, Bool, true, false, cond, List, [], ◌∷◌, ◌++◌, Option, Some, None, Result, Ok, Err, Bor, MatchResult, length, take, refl, sym, ap, subst, ◌∙◌, lit<, arith, nat_lt}
use Rattle.std.specs.Option.{unwrap_or}
use Rattle.std.specs.List.{repeat, position_or_len, before_first, after_first}
use Rattle.std.specs.Str.{all_ascii_digits}
use Rattle.std.specs.Str.Parse.{digits_value, without_leading_plus, ParsesUnsigned, AllDigits}
use Rattle.std.proofs.lemmas.Bool.{and_from, and_parts, lt-ltb, ltb-true, le-ltb}
use Rattle.std.proofs.lemmas.List.{take_all}
use Rattle.std.proofs.lemmas.Str.Parse.{IsNumeralModel, numerals_by_value, tells_all_ascii_digits}
use Rattle.std.proofs.lemmas.Str.Pattern.{IsSplitOnceResult, split_once_first}
use Rattle.hex.specs.declared.error.FromHexError.{FromHexError}
use Rattle.hex.specs.declared.error.FromHexError.TheVariants as errors
use Rattle.hex.specs.Hex.{decode_of}
use Rattle.test_kit.specs.declared.spelling.SpellingError.{SpellingError}
use Rattle.test_kit.specs.declared.spelling.SpellingError.TheVariants.{NoMemory, NoDigits, NoCount}
use Rattle.test_kit.specs.Spelled.{small_number, count_of, fault_from, repeated, word_bytes}

digits : IsNumeralModel (λ ds. all_ascii_digits ds ≡ true) (digits_value 10)
digits = numerals_by_value _ tells_all_ascii_digits

-- whether digits write a number that is small enough
abbrev is_number : List ℕ → Bool
is_number ds = nat_lt 0 (length ds) && (all_ascii_digits ds && nat_lt (digits_value 10 ds) (2 ^ 32))

pub number_from_parse : {E : Type 0} (text : List ℕ) (r : Result ℕ E) → ParsesUnsigned 32 10 text r → MatchResult r (λ n. small_number (without_leading_plus text) ≡ Some n) (λ _. small_number (without_leading_plus text) ≡ None)
number_from_parse text (Ok n) h =
    let ds = without_leading_plus text in
    let is : is_number ds ≡ true = and_from _ _ (lt-ltb 0 (length ds) h.0.0.0) (and_from _ _ (digits.from ds h.0.0.1) (lt-ltb _ _ h.0.1)) in
    ap (λ t. cond t (Some (digits_value 10 ds)) None) is ∙ ap (λ m. Some m) (sym h.1)
number_from_parse text (Err e) h =
    let ds = without_leading_plus text in
    let isn't : is_number ds ≡ false = no (is_number ds) (λ is. let p = and_parts _ _ is in let q = and_parts _ _ p.1 in h ((ltb-true 0 (length ds) p.0, digits.to ds q.0), ltb-true _ _ q.1)) in
    ap (λ t. cond t (Some (digits_value 10 ds)) None) isn't
  where
    no : (b : Bool) → (b ≡ true → ⊥) → b ≡ false
    no true h = absurd (h refl)
    no false h = refl

-- what `split_once` at a star answers, or the word and a count of 1
pub parts : (word : List ℕ) (r : Option (Bor (List ℕ) × Bor (List ℕ))) (others u : Bor (List ℕ) × Bor (List ℕ)) → u ≡ unwrap_or r others → IsSplitOnceResult 42 word r → others.0.now ≡ word → others.1.now ≡ 49 ∷ []
    → (u.0.now ≡ before_first (λ c. c == 42) word) × (count_of word ≡ small_number (without_leading_plus u.1.now))
parts word None others u is h whole once =
    let at = split_once_first 42 word None h (lit< tt) in (
      ap (λ p. p.0.now) is ∙ whole ∙ sym (ap (λ n. take n word) at ∙ take_all (length word) word (omega arith)),
      ap (λ t. cond t (small_number (without_leading_plus (after_first (λ c. c == 42) word))) (Some 1)) (le-ltb _ _ (omega arith))
          ∙ ap (λ t. small_number (without_leading_plus t)) (sym (ap (λ p. p.1.now) is ∙ once)),
    )
parts word (Some x) others u is h whole once =
    let at = split_once_first 42 word (Some x) h (lit< tt) in (
      ap (λ p. p.0.now) is ∙ at.1,
      ap (λ t. cond t (small_number (without_leading_plus (after_first (λ c. c == 42) word))) (Some 1)) (lt-ltb _ _ at.0)
          ∙ ap (λ t. small_number (without_leading_plus t)) (sym (ap (λ p. p.1.now) is ∙ at.2)),
    )

-- a word by its parts: its count is refused, its digits are, or neither
module _ {E : Type 0} (word digits text : List ℕ) (is : (digits ≡ before_first (λ c. c == 42) word) × (count_of word ≡ small_number (without_leading_plus text))) (r : Result ℕ E) (parsed : ParsesUnsigned 32 10 text r) where
  pub no_count : (e : E) → r ≡ Err e → word_bytes word ≡ Err NoCount
  no_count e refused =
      let none : small_number (without_leading_plus text) ≡ None = subst (λ (q : Result ℕ E). MatchResult q (λ n. small_number (without_leading_plus text) ≡ Some n) (λ _. small_number (without_leading_plus text) ≡ None)) refused (number_from_parse text r parsed) in
      ap (λ n. repeated n (decode_of (before_first (λ c. c == 42) word))) (is.1 ∙ none)

  counted : (n : ℕ) → r ≡ Ok n → (d : Result (List ℕ) FromHexError) → decode_of digits ≡ d → word_bytes word ≡ repeated (Some n) d
  counted n read d decoded =
      let some : small_number (without_leading_plus text) ≡ Some n = subst (λ (q : Result ℕ E). MatchResult q (λ n. small_number (without_leading_plus text) ≡ Some n) (λ _. small_number (without_leading_plus text) ≡ None)) read (number_from_parse text r parsed) in
      ap (λ m. repeated m (decode_of (before_first (λ c. c == 42) word))) (is.1 ∙ some) ∙ ap (λ t. repeated (Some n) (decode_of t)) (sym is.0) ∙ ap (λ q. repeated (Some n) q) decoded

  pub no_digits : (n : ℕ) → r ≡ Ok n → (e : FromHexError) → (e ≡ errors.OutOfMemory) ⊎ (decode_of digits ≡ Err e) → (fault_from e ≡ NoMemory) ⊎ (word_bytes word ≡ Err (fault_from e))
  no_digits n read errors.OutOfMemory h = inl refl
  no_digits n read errors.OddLength (inl p) = inl (ap fault_from p)
  no_digits n read errors.OddLength (inr d) = inr (counted n read _ d)
  no_digits n read errors.InvalidStringLength (inl p) = inl (ap fault_from p)
  no_digits n read errors.InvalidStringLength (inr d) = inr (counted n read _ d)
  no_digits n read (errors.InvalidHexCharacter c i) (inl p) = inl (ap fault_from p)
  no_digits n read (errors.InvalidHexCharacter c i) (inr d) = inr (counted n read _ d)

  pub spells : (n : ℕ) → r ≡ Ok n → (bytes : List ℕ) → decode_of digits ≡ Ok bytes → (old new : List ℕ) → new ≡ old ++ repeat n bytes → MatchResult (word_bytes word) (λ spelled. new ≡ old ++ spelled) (λ _. ⊥)
  spells n read bytes decoded old new e = subst (λ (q : Result (List ℕ) SpellingError). MatchResult q (λ spelled. new ≡ old ++ spelled) (λ _. ⊥)) (sym (counted n read _ decoded)) e
