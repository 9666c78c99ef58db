-- What was sent grows by one call after another.
use Rattle.std.proofs.Common.{◌≡◌, ℕ, ◌<◌, List, [], ◌∷◌, ◌++◌, length, Option, Result, Ok, Err, arith, append_assoc, sym, ◌∙◌, ap}
use Rattle.std.specs.Io.KnownBytes.{Appends}
use Rattle.std.proofs.KnownBytes.{Appends-trans}
use Rattle.block_device.specs.Streams.{FailsToSend, Sends}

-- sending two pieces, one after the other
pub Sends-twice : {T E : Type 0} (old mid new : Option (List ℕ)) (f f' f'' : ℕ) (x y : List ℕ) (r : Result T E)
    → Appends old mid x × (f' ≡ f) → Sends mid f' y r new f'' → Sends old f (x ++ y) r new f''
Sends-twice old mid new f f' f'' x y (Ok v) one two = (Appends-trans old mid new x y one.0 two.0, two.1 ∙ one.1)
Sends-twice old mid new f f' f'' x y (Err e) one two =
    ((x ++ two.0.0, two.0.1, ap (λ v. x ++ v) two.0.2 ∙ sym (append_assoc x two.0.0 two.0.1), Appends-trans old mid new x two.0.0 one.0 two.0.3, two.0.4), rw (sym one.1) two.1)

more : (xs ys : List ℕ) → 0 < length xs → 0 < length (xs ++ ys)
more [] ys some = absurd (omega arith)
more (x ∷ xs) ys some = omega arith

-- failing in the first of two pieces
pub Fails-first : (old mid : Option (List ℕ)) (f f' : ℕ) (x y : List ℕ) → FailsToSend old f x mid f' → FailsToSend old f (x ++ y) mid f'
Fails-first old mid f f' x y one =
    ((one.0.0, one.0.1 ++ y, ap (λ v. v ++ y) one.0.2 ∙ append_assoc one.0.0 one.0.1 y, one.0.3, more one.0.1 y one.0.4), one.1)
