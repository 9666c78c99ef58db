-- the replies to parts, and calls of a disk one after another
use Rattle.std.proofs.Common.{◌≡◌, ℕ, ◌<◌, ◌≤◌, false, List, [], ◌∷◌, ◌++◌, length, Option, None, Some, sym, ◌∙◌, ap, append_assoc, refl, arith}
use Rattle.std.proofs.lemmas.List.{append-nil}
use Rattle.std.specs.Io.KnownBytes.{Appends}
use Rattle.nbd_wire.specs.declared.export.Export.{Export}
use Rattle.block_device.specs.Facts.{Facts, CountsNeverFall}
use Rattle.nbd_session.specs.Parts.{Part}
use Rattle.nbd_station.specs.Answers.{reply_of_part, after_part, after_parts, replies}
use Rattle.nbd_station.specs.Records.{replied}
use Rattle.nbd_station.specs.Turning.{IsRunQuiet}

pub appends_none : (is : Option (List ℕ)) → Appends is is []
appends_none None = tt
appends_none (Some xs) = sym (append-nil xs)

pub goes_twice : (a b c : Facts) → CountsNeverFall a b → CountsNeverFall b c → CountsNeverFall a c
goes_twice a b c x y = record { size = y.size ∙ x.size; cuts = omega (arith, x.cuts, y.cuts); slows = omega (arith, x.slows, y.slows) }

pub goes_still : (a : Facts) → CountsNeverFall a a
goes_still a = record { size = refl; cuts = omega arith; slows = omega arith }

quiet_both : (old mid new : ℕ) → old ≤ mid → mid ≤ new → new ≡ old → (mid ≡ old) × (new ≡ mid)
quiet_both old mid new a b e = (omega arith, omega arith)

pub replies_more : (n : Export) (who : ℕ) (d : List ℕ) (more : List Part) (p : Part) → replies n who d (more ++ p ∷ []) ≡ replies n who d more ++ replied who (reply_of_part n (after_parts n d more) p)
replies_more n who d [] p = append-nil (replied who (reply_of_part n d p))
replies_more n who d (q ∷ more) p =
    ap (λ l. replied who (reply_of_part n d q) ++ l) (replies_more n who (after_part n d q) more p)
    ∙ sym (append_assoc (replied who (reply_of_part n d q)) (replies n who (after_part n d q) more) (replied who (reply_of_part n (after_parts n (after_part n d q) more) p)))

pub after_more : (n : Export) (d : List ℕ) (more : List Part) (p : Part) → after_parts n d (more ++ p ∷ []) ≡ after_part n (after_parts n d more) p
after_more n d [] p = refl
after_more n d (q ∷ more) p = after_more n (after_part n d q) more p

-- quiet from the start to the end of two calls: up to the first end, and from there on
pub quiet_first : (a b c : Facts) → IsRunQuiet a c → CountsNeverFall a b → CountsNeverFall b c → IsRunQuiet a b
quiet_first a b c q x y = record { sound = q.sound; cut = q.cut; slow = q.slow; slows = (quiet_both a.slows b.slows c.slows x.slows y.slows q.slows).0 }

pub quiet_then : (a b c : Facts) → IsRunQuiet a c → CountsNeverFall a b → CountsNeverFall b c → b.sound ≡ a.sound → b.cut ≡ false → b.slow ≡ false → IsRunQuiet b c
quiet_then a b c q x y sound cut slow = record { sound = sound ∙ q.sound; cut = cut; slow = slow; slows = (quiet_both a.slows b.slows c.slows x.slows y.slows q.slows).1 }

-- what is followed by something is not empty either
pub longer : (xs ys : List ℕ) → 0 < length xs → 0 < length (xs ++ ys)
longer [] ys some = absurd (omega arith)
longer (x ∷ xs) ys some = omega arith
