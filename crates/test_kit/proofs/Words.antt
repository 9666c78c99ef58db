-- The words of a text, spelled one after the other as a loop does.
use Rattle.std.proofs.Common.{◌≡◌, ℕ, ◌+◌, ◌<◌, ◌≤◌, List, [], ◌∷◌, ◌++◌, ◌⊎◌, inl, inr, Result, Ok, Err, MatchResult, length, get_or, drop, refl, sym, ap, subst, ◌∙◌, append_assoc, arith}
use Rattle.std.proofs.lemmas.List.{append-nil, at_drop_more, at_drop_all}
use Rattle.test_kit.specs.declared.spelling.SpellingError.{SpellingError}
use Rattle.test_kit.specs.declared.spelling.SpellingError.TheVariants.{NoMemory}
use Rattle.test_kit.specs.Spelled.{with_front, followed, word_bytes, bytes_of_words}

regroup : (front word : List ℕ) (rest : Result (List ℕ) SpellingError) → with_front front (with_front word rest) ≡ with_front (front ++ word) rest
regroup front word (Ok bytes) = ap (λ items. Ok items) (sym (append_assoc front word bytes))
regroup front word (Err e) = refl

at_word : (front : List ℕ) (word : List ℕ) (words : List (List ℕ)) → with_front front (bytes_of_words (word ∷ words)) ≡ with_front front (followed (word_bytes word) (bytes_of_words words))
unfolding bytes_of_words
at_word front word words = refl

pub goes_on : (front more : List ℕ) (words : List (List ℕ)) (n : ℕ) (word : List ℕ) → n < length words → word ≡ get_or words n word → (r : Result (List ℕ) SpellingError) → word_bytes word ≡ r
    → MatchResult r (λ bytes. more ≡ front ++ bytes) (λ _. ⊥) → with_front front (bytes_of_words (drop n words)) ≡ bytes_of_words words → with_front more (bytes_of_words (drop (n + 1) words)) ≡ bytes_of_words words
goes_on front more words n word inside is (Ok bytes) spells e so_far =
    let rest = drop (n + 1) words in
    ap (λ items. with_front items (bytes_of_words rest)) e
    ∙ sym (regroup front bytes (bytes_of_words rest))
    ∙ ap (λ r. with_front front (followed r (bytes_of_words rest))) (sym spells)
    ∙ sym (at_word front word rest)
    ∙ ap (λ w. with_front front (bytes_of_words (w ∷ rest))) is
    ∙ sym (at_drop_more (λ ws. with_front front (bytes_of_words ws)) words n word inside)
    ∙ so_far
goes_on front more words n word inside is (Err fault) spells e so_far = absurd e

ends : (front : List ℕ) (words : List (List ℕ)) (n : ℕ) (word : List ℕ) (fault : SpellingError) → n < length words → word ≡ get_or words n word → word_bytes word ≡ Err fault
    → with_front front (bytes_of_words (drop n words)) ≡ bytes_of_words words → bytes_of_words words ≡ Err fault
ends front words n word fault inside is spells so_far =
    let rest = drop (n + 1) words in
    sym so_far
    ∙ at_drop_more (λ ws. with_front front (bytes_of_words ws)) words n word inside
    ∙ ap (λ w. with_front front (bytes_of_words (w ∷ rest))) (sym is)
    ∙ at_word front word rest
    ∙ ap (λ r. with_front front (followed r (bytes_of_words rest))) spells

pub refused : (front : List ℕ) (words : List (List ℕ)) (n : ℕ) (word : List ℕ) (fault : SpellingError) → n < length words → word ≡ get_or words n word → (fault ≡ NoMemory) ⊎ (word_bytes word ≡ Err fault)
    → with_front front (bytes_of_words (drop n words)) ≡ bytes_of_words words → (fault ≡ NoMemory) ⊎ (bytes_of_words words ≡ Err fault)
refused front words n word fault inside is (inl memory) so_far = inl memory
refused front words n word fault inside is (inr spells) so_far = inr (ends front words n word fault inside is spells so_far)

pub is_done : (front : List ℕ) (words : List (List ℕ)) (n : ℕ) → length words ≤ n → with_front front (bytes_of_words (drop n words)) ≡ bytes_of_words words → bytes_of_words words ≡ Ok front
unfolding bytes_of_words
is_done front words n past so_far =
    sym so_far ∙ at_drop_all (λ ws. with_front front (bytes_of_words ws)) words n past ∙ ap (λ items. Ok items) (append-nil front)
