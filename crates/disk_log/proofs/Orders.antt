-- The order in which the two files are written.
use Rattle.std.proofs.Common.{◌≡◌, ℕ, ◌+◌, ◌<◌, ◌≤◌, Bool, true, false, List, [], ◌++◌, inl, inr, length, drop, ap, sym, ◌∙◌, arith, refl, subst, Option, Some, None, Result, Ok, Err}
use Rattle.std.specs.Prelude.{◌/◌}
use Rattle.std.proofs.lemmas.List.{append-nil, length-append}
use Rattle.disk_log.specs.Records.{begins_checkpoint, record_change}
use Rattle.disk_log.specs.Checkpoints.{with_blocks}
use Rattle.disk_log.specs.Logs.{LogReading, log_changes, log_reading, has_head, head_sum, has_checkpoint, Medium, IsBegunLog}
use Rattle.disk_log.specs.Power.{IsInOrder}
use Rattle.disk_log.specs.Files.{Extends, SyncsImage, CutsLog, OfFiles}
use Rattle.disk_log.specs.Settling.{HasBlocks, PlacesBlocks, AreInOrder, StaysInOrder, SettlesInOrder}
use Rattle.disk_log.proofs.Growing.{Made}
use Rattle.disk_log.proofs.Held.{nothing-behind, whole-changes, part-none, read-false}

neither : (t : Bool) → t ≡ true → t ≡ false → ⊥
neither true e f = cc
neither false e f = cc

-- no checkpoint is in the log
pub alone-kept : (m : Medium) → m.safe ≤ length m.log → m.settled ≡ true → has_checkpoint m.sectors m.log ≡ false → (represents : List ℕ → List ℕ) → IsInOrder represents m
alone-kept m low settled none represents = record { low = low; order = λ x. (settled, λ e. absurd (neither (has_checkpoint m.sectors m.log) e none)) }

-- one is, and all of the log is on the medium
pub placed-kept : (m : Medium) → m.safe ≡ length m.log → has_checkpoint m.sectors m.log ≡ true → (represents : List ℕ → List ℕ) → IsInOrder represents m
placed-kept m safe has represents = record { low = omega (arith, safe); order = λ x. absurd (x has safe) }

pub begun-none : (m : Medium) (image : List ℕ) (last : ℕ × ℕ) → IsBegunLog m image last → has_checkpoint m.sectors m.log ≡ false
begun-none m image last b = nothing-behind (log_changes m.sectors m.log).sum (log_changes m.sectors m.log).rest (whole-changes m.sectors m.log last b.head b.whole)

pub kept-settled : (m : Medium) (image : List ℕ) (last : ℕ × ℕ) (represents : List ℕ → List ℕ) → IsBegunLog m image last → IsInOrder represents m → m.settled ≡ true
kept-settled m image last represents b k = (k.order (λ has safe. neither (has_checkpoint m.sectors m.log) has (begun-none m image last b))).0

pub headless-none : (n : ℕ) (log : List ℕ) → has_head log ≡ false → has_checkpoint n log ≡ false
headless-none n log e =
    ap (λ (r : LogReading). begins_checkpoint r.sum r.rest) (read-false (has_head log) (log_reading n (head_sum log) (drop 16 log)) (record { changes = []; sum = (0, 0); rest = [] }) e)
    ∙ nothing-behind (0, 0) [] refl

-- a record of a change is appended, or a part of it
module _ (head body : List ℕ) (kind first count : ℕ) (before next : ℕ × ℕ) (made : Made head body kind first count before next) (two : kind < 2)
    (len : first + length (record_change kind first count body).bytes / 512 ≡ first + count) where
  taken-kept : (m : Medium) (image : List ℕ) (represents : List ℕ → List ℕ) (taken rest : List ℕ) (new : Option Medium) → IsInOrder represents m → IsBegunLog m image before
      → first + length (record_change kind first count body).bytes / 512 ≤ m.sectors → head ++ body ≡ taken ++ rest → new ≡ Some (record m { log = m.log ++ taken })
      → OfFiles new (λ m. IsInOrder represents m)
  taken-kept m image represents taken rest new k b inside same e =
      let low = k.low in
      let l = length-append m.log taken in
      subst (λ v. OfFiles v (λ m. IsInOrder represents m)) (sym e)
      (alone-kept (record m { log = m.log ++ taken }) (omega (arith, low, l)) (kept-settled m image before represents b k)
      (part-none m image before b head body kind first count next made taken rest two (rw (sym len) inside) same) represents)

  pub added-kept : (T E : Type 0) (r : Result T E) (old new : Option Medium) → Extends {T = T} {E = E} old (head ++ body) r new → StaysInOrder (record_change kind first count body) before old new
  added-kept T E (Ok t) None new e represents image k = subst (λ v. OfFiles v (λ m. IsInOrder represents m)) (sym e) tt
  added-kept T E (Err f) None new e represents image k = subst (λ v. OfFiles v (λ m. IsInOrder represents m)) (sym e) tt
  added-kept T E (Ok t) (Some m) new e represents image k = taken-kept m image represents (head ++ body) [] new k.0 k.1 k.2 (sym (append-nil (head ++ body))) e
  added-kept T E (Err f) (Some m) new (taken, rest, same, e) represents image k = taken-kept m image represents taken rest new k.0 k.1 k.2 same e

-- the blocks of a checkpoint are placed, and the log is cut
module _ (U E : Type 0) (count : ℕ) (entries : List ℕ) (len : ℕ) (old one two new : Option Medium) (h : OfFiles old (λ m. HasBlocks m len count entries)) where
  pub unplaced-kept : (f : E) → PlacesBlocks {T = U} {E = E} count entries old (Err f) new → AreInOrder new
  unplaced-kept f = go old h
    where
      go : (o : Option Medium) → OfFiles o (λ m. HasBlocks m len count entries) → PlacesBlocks {T = U} {E = E} count entries o (Err f) new → AreInOrder new
      go None h p represents = subst (λ v. OfFiles v (λ m. IsInOrder represents m)) (sym p) tt
      go (Some m) h p represents = subst (λ v. OfFiles v (λ m. IsInOrder represents m)) (sym p.3) (placed-kept (record m { image = p.0; settled = p.1 }) h.safe h.whole represents)

  pub unsynced-kept : (u : U) (f : E) → PlacesBlocks {T = U} {E = E} count entries old (Ok u) one → SyncsImage {T = U} {E = E} one (Err f) new → AreInOrder new
  unsynced-kept u f = go old h
    where
      go : (o : Option Medium) → OfFiles o (λ m. HasBlocks m len count entries) → PlacesBlocks {T = U} {E = E} count entries o (Ok u) one → SyncsImage {T = U} {E = E} one (Err f) new → AreInOrder new
      go None h p s represents = subst (λ v. OfFiles v (λ m. IsInOrder represents m)) (sym (subst (λ v. SyncsImage {T = U} {E = E} v (Err f) new) p s)) tt
      go (Some m) h p s represents =
          let s' = subst (λ v. SyncsImage {T = U} {E = E} v (Err f) new) p.2 s in
          subst (λ v. OfFiles v (λ m. IsInOrder represents m)) (sym s'.1) (placed-kept (record m { image = with_blocks count entries m.image; settled = s'.0 }) h.safe h.whole represents)

  pub emptied-kept : (u : U) (r : Result U E) → PlacesBlocks {T = U} {E = E} count entries old (Ok u) one → SyncsImage {T = U} {E = E} one (Ok u) two → CutsLog {T = U} {E = E} 0 two r new → AreInOrder new
  emptied-kept u r = go old h r
    where
      go : (o : Option Medium) → OfFiles o (λ m. HasBlocks m len count entries) → (r : Result U E) → PlacesBlocks {T = U} {E = E} count entries o (Ok u) one → SyncsImage {T = U} {E = E} one (Ok u) two
          → CutsLog {T = U} {E = E} 0 two r new → AreInOrder new
      go None h (Ok v) p s c represents =
          subst (λ v. OfFiles v (λ m. IsInOrder represents m)) (sym (subst (λ w. CutsLog {T = U} {E = E} 0 w (Ok v) new) (subst (λ v. SyncsImage {T = U} {E = E} v (Ok u) two) p s) c)) tt
      go None h (Err f) p s c represents =
          subst (λ v. OfFiles v (λ m. IsInOrder represents m)) (sym (subst (λ w. CutsLog {T = U} {E = E} 0 w (Err f) new) (subst (λ v. SyncsImage {T = U} {E = E} v (Ok u) two) p s) c)) tt
      go (Some m) h (Ok v) p s c represents =
          let c' = subst (λ w. CutsLog {T = U} {E = E} 0 w (Ok v) new) (subst (λ v. SyncsImage {T = U} {E = E} v (Ok u) two) p.2 s) c in
          subst (λ v. OfFiles v (λ m. IsInOrder represents m)) (sym c')
          (alone-kept (record m { image = with_blocks count entries m.image; log = []; safe = 0; settled = true }) (omega arith) refl refl represents)
      go (Some m) h (Err f) p s c represents =
          let c' = subst (λ w. CutsLog {T = U} {E = E} 0 w (Err f) new) (subst (λ v. SyncsImage {T = U} {E = E} v (Ok u) two) p.2 s) c in
          let m' : Medium = record m { image = with_blocks count entries m.image; log = c'.0; safe = c'.1; settled = true } in
          subst (λ v. OfFiles v (λ m. IsInOrder represents m)) (sym c'.3) (elim c'.2 [
            | inl e ↦ placed-kept m' (e.1 ∙ (h.safe ∙ ap (λ v. length v) (sym e.0))) (ap (λ v. has_checkpoint m.sectors v) e.0 ∙ h.whole) represents
            | inr e ↦ alone-kept m' e.1 refl (ap (λ v. has_checkpoint m.sectors v) e.0) represents
          ])

-- settling goes on, or ends
pub still-kept : (is : List ℕ) (files : Option Medium) → SettlesInOrder is files files
still-kept is None represents k = tt
still-kept is (Some m) represents k = k.0
