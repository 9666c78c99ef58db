-- A write that was cut, and the same write once more.
use Rattle.std.proofs.Common.{◌≡◌, ◌⊎◌, ℕ, ◌+◌, ◌-◌, ◌*◌, ◌<◌, ◌≤◌, List, length, Result, Ok, Err, inl, inr, sym, ◌∙◌, ap, subst, arith}
use Rattle.std.proofs.lemmas.Bool.{cases_lt}
use Rattle.block_device.specs.declared.disk.DiskError.{DiskError}
use Rattle.block_device.specs.declared.disk.DiskError.TheVariants.{Cut, Slow}
use Rattle.block_device.specs.Contents.{InRange, Outcome, ReplacedBySector, SectorsDecide, WritesSectors, replaced, sector}
use Rattle.block_device.specs.Facts.{Writes}

-- what a write leaves that answered this error, where it is a Cut
pub outcome_of : (T : Type 0) → (first : ℕ) (bytes old new : List ℕ) (e : DiskError) → e ≡ Cut → Writes {T = T} first bytes old (Err e) new → Outcome old (replaced old (512 * first) bytes) new
outcome_of T first bytes old new Cut is done = done
outcome_of T first bytes old new Slow is done = absurd (cc is)

-- each sector of the two is the same
same_sector : (first k s : ℕ) (old bytes mid meant again : List ℕ) → WritesSectors first k bytes old meant → WritesSectors first k bytes mid again → Outcome old meant mid
    → (s < first) ⊎ (first ≤ s) → (s < first + k) ⊎ (first + k ≤ s) → sector again s ≡ sector meant s
same_sector first k s old bytes mid meant again one two left (inl before) there =
    two.before s before ∙ (elim (left.each s) [ inl h ↦ h | inr h ↦ h ∙ one.before s before ] ∙ sym (one.before s before))
same_sector first k s old bytes mid meant again one two left (inr above) (inr behind) =
    two.behind s behind ∙ (elim (left.each s) [ inl h ↦ h | inr h ↦ h ∙ one.behind s behind ] ∙ sym (one.behind s behind))
same_sector first k s old bytes mid meant again one two left (inr above) (inl within) =
    let at : first + (s - first) ≡ s = omega (arith, above) in
    let few : s - first < k = omega (arith, above, within) in
    ap (λ (n : ℕ). sector again n) (sym at) ∙ (two.written (s - first) few ∙ (sym (one.written (s - first) few) ∙ ap (λ (n : ℕ). sector meant n) at))

-- a write over what an interrupted write of the same bytes left makes what the write would have made
same_made : SectorsDecide → ReplacedBySector → (n first k : ℕ) (old bytes mid : List ℕ) → length old ≡ 512 * n → length bytes ≡ 512 * k → InRange old first (length bytes)
    → Outcome old (replaced old (512 * first) bytes) mid → replaced mid (512 * first) bytes ≡ replaced old (512 * first) bytes
same_made decide replaces n first k old bytes mid whole part range left =
    let there : InRange mid first (length bytes) = record { within = subst (λ m. 512 * first + length bytes ≤ m) (sym left.size) range.within; whole = range.whole } in
    let one = replaces old bytes first k part range in
    let two = replaces mid bytes first k part there in
    decide n (replaced mid (512 * first) bytes) (replaced old (512 * first) bytes) (two.size ∙ (left.size ∙ whole)) (one.size ∙ whole)
    (λ s below. same_sector first k s old bytes mid (replaced old (512 * first) bytes) (replaced mid (512 * first) bytes) one two left (cases_lt s first) (cases_lt s (first + k)))

pub writes_again : SectorsDecide → ReplacedBySector → (n first k : ℕ) (old bytes cut mid new : List ℕ) {T : Type 0} (r : Result T DiskError) → length old ≡ 512 * n → length bytes ≡ 512 * k → InRange old first (length bytes)
    → Outcome old (replaced old (512 * first) bytes) cut → mid ≡ cut → Writes first bytes mid r new → Writes first bytes old r new
writes_again decide replaces n first k old bytes cut mid new (Ok x) whole part range left same done =
    done ∙ (ap (λ m. replaced m (512 * first) bytes) same ∙ same_made decide replaces n first k old bytes cut whole part range left)
writes_again decide replaces n first k old bytes cut mid new (Err Cut) whole part range left same done =
    let made : replaced mid (512 * first) bytes ≡ replaced old (512 * first) bytes =
    ap (λ m. replaced m (512 * first) bytes) same ∙ same_made decide replaces n first k old bytes cut whole part range left in
    record {
      size = done.size ∙ (ap length same ∙ left.size);
      each = λ s. elim (done.each s) [ inl h ↦ elim (left.each s) [ inl g ↦ inl (h ∙ (ap (λ m. sector m s) same ∙ g)) | inr g ↦ inr (h ∙ (ap (λ m. sector m s) same ∙ g)) ] | inr h ↦ inr (h ∙ ap (λ m. sector m s) made) ];
    }
writes_again decide replaces n first k old bytes cut mid new (Err Slow) whole part range left same done = tt
