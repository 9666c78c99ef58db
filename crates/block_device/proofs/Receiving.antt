-- What a buffer holds after one more read.
use Rattle.std.proofs.Common.{◌≡◌, ℕ, ◌+◌, ◌≤◌, List, ◌++◌, length, take, ap, ◌∙◌, arith, Option}
use Rattle.std.proofs.lemmas.List.{length-take-le, length-append, take-append-le}
use Rattle.std.proofs.Math.Seq.{take-append-add}
use Rattle.std.specs.Io.KnownBytes.{Consumes}
use Rattle.std.proofs.KnownBytes.{Consumes-trans}

-- some bytes from place a on were replaced by ys, of which n came
pub one_more_read : (xs ys rest : List ℕ) (a n : ℕ) → a ≤ length xs → n ≤ length ys → take (a + n) (take a xs ++ (ys ++ rest)) ≡ take a xs ++ take n ys
one_more_read xs ys rest a n fits some =
    let long : length (take a xs) ≡ a = length-take-le a xs fits in
    ap (λ (k : ℕ). take (k + n) (take a xs ++ (ys ++ rest))) (omega (arith, long))
    ∙ (take-append-add (take a xs) (ys ++ rest) n ∙ ap (λ (l : List ℕ). take a xs ++ l) (take-append-le n ys rest some))

pub still_within : (xs ys rest : List ℕ) (a n : ℕ) → a ≤ length xs → n ≤ length ys → a + n ≤ length (take a xs ++ (ys ++ rest))
still_within xs ys rest a n fits some =
    let long = length-take-le a xs fits in
    let all = length-append (take a xs) (ys ++ rest) in
    let part = length-append ys rest in
    omega (arith, long, all, part)

pub consumes_more : (old mid new : Option (List ℕ)) (xs ys rest : List ℕ) (a n : ℕ) → a ≤ length xs → n ≤ length ys
    → Consumes old mid (take a xs) → Consumes mid new (take n ys) → Consumes old new (take (a + n) (take a xs ++ (ys ++ rest)))
consumes_more old mid new xs ys rest a n fits some one two =
    rw (one_more_read xs ys rest a n fits some) (Consumes-trans old mid new (take a xs) (take n ys) one two)
