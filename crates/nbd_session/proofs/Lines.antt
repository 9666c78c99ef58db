-- Bytes in the one buffer, over plain lists.
use Rattle.std.proofs.Common.{◌≡◌, ℕ, ◌+◌, ◌-◌, ◌≤◌, List, ◌++◌, length, take, drop, sym, ap, ◌∙◌, arith}
use Rattle.std.proofs.lemmas.List.{drop-take, drop-append-le, length-take-le, length-drop}

-- the part that is put next is the end of the bytes used
pub part_used : (used n : ℕ) (piece : List ℕ) → n ≤ used → take (used - (used - n)) (drop (used - n) piece) ≡ drop (used - n) (take used piece)
part_used used n piece le =
    let a : used - (used - n) ≡ n = omega arith in
    let b : used - n + n ≡ used = omega arith in
    rw a (sym (drop-take (used - n) n piece) ∙ ap (λ (m : ℕ). drop (used - n) (take m piece)) b)

-- a payload grows by what is put behind it
pub payload_put : (old new part : List ℕ) (filled n total : ℕ) → 16 + filled ≤ length old → total ≡ 16 + filled + n → take total new ≡ take (16 + filled) old ++ part → take (filled + n) (drop 16 new) ≡ take filled (drop 16 old) ++ part
payload_put old new part filled n total fits total-is put =
    let e : 16 + (filled + n) ≡ total = omega arith in
    sym (drop-take 16 (filled + n) new) ∙ ap (λ (m : ℕ). drop 16 (take m new)) e ∙ ap (λ (l : List ℕ). drop 16 l) put
    ∙ drop-append-le 16 (take (16 + filled) old) part (omega (arith, length-take-le (16 + filled) old fits))
    ∙ ap (λ (l : List ℕ). l ++ part) (drop-take 16 filled old)

pub part_len : (used n : ℕ) (piece : List ℕ) → n ≤ used → used ≤ length piece → length (take (used - (used - n)) (drop (used - n) piece)) ≡ n
part_len used n piece le within =
    let a : used - (used - n) ≡ n = omega arith in
    rw a (length-take-le n (drop (used - n) piece) (omega (arith, length-drop (used - n) piece)))
