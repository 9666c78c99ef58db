-- Rows of what texts spell: the magics of proto.md, section "Newstyle negotiation", and counts.
use Rattle.std.proofs.Common.{◌≡◌, [], ◌∷◌, Ok, Err, codes, refl}
use Rattle.hex.specs.Hex.{decode_pairs}
use Rattle.test_kit.specs.declared.spelling.SpellingError.TheVariants.{NoDigits, NoCount}
use Rattle.test_kit.specs.Spelled.{bytes_of_words, spelled}

-- `NBDMAGIC`
nbdmagic : spelled (codes "4e42 444d 41474943") ≡ Ok (codes "NBDMAGIC")
unfolding bytes_of_words decode_pairs
nbdmagic = refl

-- `IHAVEOPT`, in digits of either case
ihaveopt : spelled (codes "49484156 454F5054") ≡ Ok (codes "IHAVEOPT")
unfolding bytes_of_words decode_pairs
ihaveopt = refl

counts : spelled (codes "4142*2 00*3 ff*0") ≡ Ok (65 ∷ 66 ∷ 65 ∷ 66 ∷ 0 ∷ 0 ∷ 0 ∷ [])
unfolding bytes_of_words decode_pairs
counts = refl

empty : spelled [] ≡ Ok []
unfolding bytes_of_words decode_pairs
empty = refl

odd : spelled (codes "00 123 zz") ≡ Err NoDigits
unfolding bytes_of_words decode_pairs
odd = refl

other_digit : spelled (codes "0g") ≡ Err NoDigits
unfolding bytes_of_words decode_pairs
other_digit = refl

no_number : spelled (codes "00 11* 123") ≡ Err NoCount
unfolding bytes_of_words decode_pairs
no_number = refl

too_large : spelled (codes "00*4294967296") ≡ Err NoCount
unfolding bytes_of_words decode_pairs
too_large = refl
