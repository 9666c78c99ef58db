-- The bytes that a text spells. Source: own; digits as `hex` reads them, counts as `parse` does.
use Rattle.std.specs.Prelude.{ℕ, Bool, ◌^◌, ◌==◌, ◌&&◌, if◌then◌else◌, nat_lt}
use Rattle.std.specs.Prelude.{List, [], ◌∷◌, ◌++◌, length, Option, Some, None, Result, Ok, Err}
use Rattle.std.specs.List.{repeat, slice_split, before_first, after_first, position_or_len}
use Rattle.std.specs.Str.{all_ascii_digits}
use Rattle.std.specs.Str.Parse.{digits_value, without_leading_plus}
use Rattle.hex.specs.declared.error.FromHexError.{FromHexError}
use Rattle.hex.specs.declared.error.FromHexError.TheVariants.{InvalidHexCharacter, OddLength}
use Rattle.hex.specs.declared.error.FromHexError.TheVariants.{InvalidStringLength, OutOfMemory}
use Rattle.hex.specs.Hex.{decode_of}
use Rattle.test_kit.specs.declared.spelling.SpellingError.{SpellingError}
use Rattle.test_kit.specs.declared.spelling.SpellingError.TheVariants.{NoMemory, NoDigits, NoCount}

-- a space, between two words, and the mark between a word's digits and its count
abbrev pub space : ℕ
space = 32

abbrev pub star : ℕ
star = 42

-- the words of a text: what stands before, between and behind its spaces
abbrev pub text_words : List ℕ → List (List ℕ)
text_words text = slice_split (λ c. c == space) text

-- the number that decimal digits write, if it is below 2^32; a plus may stand before them
abbrev pub small_number : List ℕ → Option ℕ
small_number digits =
    if nat_lt 0 (length digits)
    && (all_ascii_digits digits && nat_lt (digits_value 10 digits) (2 ^ 32))
    then Some (digits_value 10 digits) else None

-- whether a star is among a word's characters
abbrev pub has_star : List ℕ → Bool
has_star word = nat_lt (position_or_len (λ c. c == star) word) (length word)

-- how often a word's bytes come: as often as the number behind its first star says, or once
abbrev pub count_of : List ℕ → Option ℕ
count_of word =
    if has_star word
    then small_number (without_leading_plus (after_first (λ c. c == star) word)) else Some 1

-- the fault of a word whose digits could not be decoded: want of memory, or no digits
abbrev pub fault_from : FromHexError → SpellingError
fault_from OutOfMemory = NoMemory
fault_from OddLength = NoDigits
fault_from InvalidStringLength = NoDigits
fault_from (InvalidHexCharacter c index) = NoDigits

-- so many times the bytes that digits spell, or what is wrong with the word: first its count
abbrev pub repeated : Option ℕ → Result (List ℕ) FromHexError → Result (List ℕ) SpellingError
repeated None digits = Err NoCount
repeated (Some n) (Ok bytes) = Ok (repeat n bytes)
repeated (Some n) (Err e) = Err NoDigits

-- the bytes of a word
abbrev pub word_bytes : List ℕ → Result (List ℕ) SpellingError
word_bytes word = repeated (count_of word) (decode_of (before_first (λ c. c == star) word))

-- bytes with others behind them
abbrev pub with_front : List ℕ → Result (List ℕ) SpellingError → Result (List ℕ) SpellingError
with_front front (Ok bytes) = Ok (front ++ bytes)
with_front front (Err e) = Err e

-- the bytes of a word, with those of the words behind it
abbrev pub followed : Result (List ℕ) SpellingError → Result (List ℕ) SpellingError
    → Result (List ℕ) SpellingError
followed (Ok bytes) rest = with_front bytes rest
followed (Err e) rest = Err e

-- the bytes of words, one after the other, or what is wrong with the first that spells none
unfoldable pub bytes_of_words : List (List ℕ) → Result (List ℕ) SpellingError
bytes_of_words [] = Ok []
bytes_of_words (word ∷ rest) = followed (word_bytes word) (bytes_of_words rest)

-- the bytes that a text spells
abbrev pub spelled : List ℕ → Result (List ℕ) SpellingError
spelled text = bytes_of_words (text_words text)
