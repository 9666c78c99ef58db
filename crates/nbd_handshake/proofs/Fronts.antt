-- What is kept of a rest, and what it tells.
use Rattle.std.proofs.Common.{◌≡◌, ℕ, ◌+◌, ◌-◌, ◌≤◌, min, List, ◌++◌, length, take, drop, sym, ap, ◌∙◌, arith}
use Rattle.std.proofs.lemmas.List.{length-take, take-append-drop, append_assoc, length-drop}
use Rattle.std.proofs.Math.Seq.{take-add}
use Rattle.nbd_wire.specs.declared.phase.Phase.{Phase}
use Rattle.nbd_wire.specs.Units.{head_len, tail_len}
use Rattle.nbd_wire.proofs.Cutting.{tail_front}
use Rattle.nbd_handshake.specs.Fronts.{HasFront}

pub front_of_kept : (buffer rest : List ℕ) (count : ℕ) → length buffer ≡ 8208 → take 8208 rest ≡ take (min count 8208) buffer → length rest ≡ count → HasFront buffer count rest
front_of_kept buffer rest count size front len = record { front = rw size front; len = len }

pub kept_of_front : (buffer rest : List ℕ) (count : ℕ) → length buffer ≡ 8208 → HasFront buffer count rest → take 8208 rest ≡ take (min count 8208) buffer
kept_of_front buffer rest count size h = rw size at h.front

-- two pieces, one after the other
pub joined_text : (rest bytes : List ℕ) (n m : ℕ) → (rest ++ take n bytes) ++ take (n + m - n) (drop n bytes) ≡ rest ++ take (n + m) bytes
joined_text rest bytes n m =
    let e : n + m - n ≡ m = omega arith in
    rw e (append_assoc rest (take n bytes) (take m (drop n bytes)) ∙ ap (λ (t : List ℕ). rest ++ t) (sym (take-add n m bytes)))

pub joined : (rest bytes buffer : List ℕ) (count n m : ℕ) → n + m ≤ length bytes → HasFront buffer (count + length (take (n + m - n) (drop n bytes))) ((rest ++ take n bytes) ++ take (n + m - n) (drop n bytes)) → HasFront buffer (count + m) (rest ++ take (n + m) bytes)
joined rest bytes buffer count n m long h =
    let e : length (take (n + m - n) (drop n bytes)) ≡ m = omega (arith, length-take (n + m - n) (drop n bytes), length-drop n bytes) in
    rw (e, joined_text rest bytes n m) at h

-- the head in the buffer tells the tail
pub front_tail : (p : Phase) (buffer rest : List ℕ) (count : ℕ) → HasFront buffer count rest → length buffer ≡ 8208 → head_len p ≤ 16 → head_len p ≤ count → tail_len p rest ≡ tail_len p buffer
front_tail p buffer rest count h size small whole =
    let b = length buffer in
    let len = h.len in
    let left : tail_len p rest ≡ tail_len p (take b rest) = ap (tail_len p) (sym (take-append-drop b rest)) ∙ tail_front p (take b rest) (drop b rest) (omega (arith, length-take b rest)) in
    let j = min count b in
    let right : tail_len p buffer ≡ tail_len p (take j buffer) = ap (tail_len p) (sym (take-append-drop j buffer)) ∙ tail_front p (take j buffer) (drop j buffer) (omega (arith, length-take j buffer)) in
    left ∙ ap (tail_len p) h.front ∙ sym right
