-- Exchanges that follow one another.
use Rattle.std.proofs.Common.{◌≡◌, refl, List, [], ◌∷◌, ◌++◌, Option, Some, ap, sym, ◌∙◌, append_assoc, append-nil, ℕ, zero, suc, ◌<◌, length, get_or, set, arith}
use Rattle.chip_model.specs.Exchanges.{Exchange, Exchanged, sends_of, sizes_of, turned}
use Rattle.chip_model.specs.declared.programmer.Turn.{Turn}

pub exchanged_twice : (old mid new : Option (List Exchange)) (some more : List Exchange) → Exchanged old mid some → Exchanged mid new more → Exchanged old new (some ++ more)
exchanged_twice old mid new some more one two log e = two (log ++ some) (one log e) ∙ ap (λ (l : List Exchange). Some l) (append_assoc log some more)

pub exchanged_none : (old new : Option (List Exchange)) → new ≡ old → Exchanged old new []
exchanged_none old new same log e = same ∙ (e ∙ ap (λ (l : List Exchange). Some l) (sym (append-nil log)))

-- the frames of turns that follow others
pub turned_append : (some more : List Turn) → turned (some ++ more) ≡ turned some ++ turned more
turned_append [] more = refl
turned_append (t ∷ ts) more = ap (λ (l : List Exchange). record { sent = t.send.items; received = t.recv.items } ∷ l) (turned_append ts more)

-- a turn whose answer was filled sends what it sent
pub sends_set : (turns : List Turn) (i : ℕ) (t d : Turn) → i < length turns → t.send.items ≡ (get_or turns i d).send.items → sends_of (set turns i t) ≡ sends_of turns
sends_set [] i t d lt same = refl
sends_set (x ∷ xs) zero t d lt same = ap (λ (l : List ℕ). l ∷ sends_of xs) same
sends_set (x ∷ xs) (suc i) t d lt same =
    let below : i < length xs = omega (arith, lt) in
    ap (λ (l : List (List ℕ)). x.send.items ∷ l) (sends_set xs i t d below same)

-- and receives as many bytes
pub sizes_set : (turns : List Turn) (i : ℕ) (t d : Turn) → i < length turns → length t.recv.items ≡ length (get_or turns i d).recv.items → sizes_of (set turns i t) ≡ sizes_of turns
sizes_set [] i t d lt same = refl
sizes_set (x ∷ xs) zero t d lt same = ap (λ (n : ℕ). n ∷ sizes_of xs) same
sizes_set (x ∷ xs) (suc i) t d lt same =
    let below : i < length xs = omega (arith, lt) in
    ap (λ (l : List ℕ). length x.recv.items ∷ l) (sizes_set xs i t d below same)
