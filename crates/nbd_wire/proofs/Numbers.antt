-- The bytes of the number that bytes spell are those bytes.
use Rattle.std.proofs.Common.{◌≡◌, ℕ, zero, suc, ◌+◌, ◌^◌, ◌<◌, ◌≤◌, List, [], ◌∷◌, length, get_or, take, drop, refl, sym, ap, ◌∙◌, inl, inr, arith}
use Rattle.std.specs.Int.{byte_at, bytes_high_first}
use Rattle.std.proofs.Math.Nat.{mod-lt, mod-eq_of_lt}
use Rattle.std.proofs.lemmas.Bool.{cases_lt}
use Rattle.std.proofs.lemmas.Nat.{same_from_place}
use Rattle.std.proofs.lemmas.List.{append-nil, length-take-le, get_or-take, get_or_past, get_or-drop, length-take}
use Rattle.byteorder.specs.Endian.{big_from}
use Rattle.byteorder.specs.Numbers.{big_from-cons, big_from-lt, big_from-bytes, big_from-take, length-bytes_high_first}

abbrev pub IsBytes : List ℕ → Type 0
IsBytes bytes = (i : ℕ) → get_or bytes i 0 < 256

IsBytes-rest : (b : ℕ) (bytes : List ℕ) → IsBytes (b ∷ bytes) → IsBytes bytes
IsBytes-rest b bytes h i = h (suc i)

pub IsBytes-drop : (n : ℕ) (bytes : List ℕ) → IsBytes bytes → IsBytes (drop n bytes)
IsBytes-drop n bytes h i = rw get_or-drop (h (n + i))

pub IsBytes-take : (n : ℕ) (bytes : List ℕ) → IsBytes bytes → IsBytes (take n bytes)
IsBytes-take n bytes h i =
    elim (cases_lt i n) [
      | inl lt ↦ rw (get_or-take n bytes i 0 lt) (h i)
      | inr le ↦ rw (get_or_past (take n bytes) i 0 (omega (arith, length-take n bytes))) (omega arith)
    ]

byte_at-lt : (k x : ℕ) → byte_at k x < 256
byte_at-lt zero x = mod-lt x (omega arith)
byte_at-lt (suc k) x = mod-lt _ (omega arith)

IsBytes-bytes : (n x : ℕ) → IsBytes (bytes_high_first n x)
IsBytes-bytes zero x i = omega arith
IsBytes-bytes (suc n) x zero = byte_at-lt n x
IsBytes-bytes (suc n) x (suc i) = IsBytes-bytes n x i

-- two lists of n bytes that spell one number are one list
same_from_number : (n : ℕ) (xs ys : List ℕ) → length xs ≡ n → length ys ≡ n → IsBytes xs → IsBytes ys → big_from 0 n xs ≡ big_from 0 n ys → xs ≡ ys
same_from_number zero [] [] lx ly hx hy e = refl
same_from_number zero (x ∷ xs) ys lx ly hx hy e = absurd (omega arith)
same_from_number zero [] (y ∷ ys) lx ly hx hy e = absurd (omega arith)
same_from_number (suc n) [] ys lx ly hx hy e = absurd (omega arith)
same_from_number (suc n) (x ∷ xs) [] lx ly hx hy e = absurd (omega arith)
same_from_number (suc n) (x ∷ xs) (y ∷ ys) lx ly hx hy e =
    let ex = big_from-cons 0 n x xs in
    let ey = big_from-cons 0 n y ys in
    let bx = big_from-lt 0 n xs (IsBytes-rest x xs hx) in
    let by = big_from-lt 0 n ys (IsBytes-rest y ys hy) in
    let split = same_from_place x (big_from 0 n xs) y (big_from 0 n ys) (256 ^ n) bx by (omega arith) in
    let rest = same_from_number n xs ys (omega arith) (omega arith) (IsBytes-rest x xs hx) (IsBytes-rest y ys hy) split.1 in
    let head = split.0 in
    cc

pub bytes-number : (n : ℕ) (xs : List ℕ) → n ≤ length xs → IsBytes xs → bytes_high_first n (big_from 0 n xs) ≡ take n xs
bytes-number n xs long fits =
    let x = big_from 0 n xs in
    let same : big_from 0 n (bytes_high_first n x) ≡ big_from 0 n (take n xs) =
    ap (big_from 0 n) (sym (append-nil (bytes_high_first n x))) ∙ big_from-bytes n x [] ∙ mod-eq_of_lt (big_from-lt 0 n xs fits) ∙ sym (big_from-take 0 n n xs (omega arith)) in
    same_from_number n (bytes_high_first n x) (take n xs) (length-bytes_high_first n x) (length-take-le n xs long) (IsBytes-bytes n x) (IsBytes-take n xs fits) same
