-- What a program or an erase keeps of the chip, and leaves of its memory.
use Rattle.std.proofs.Common.{[], ◌∷◌, ◌/◌, ◌≡◌, ℕ, ◌+◌, ◌%◌, ◌<◌, ◌≤◌, ◌⊎◌, Bool, true, false, List, length, refl, sym, ap, ◌∙◌, subst, arith, inl, inr, Result, Ok, Err}
use Rattle.std.proofs.Math.Nat.{mod-eq_of_lt}
use Rattle.std.proofs.lemmas.Bool.{false≢true}
use Rattle.std.proofs.lemmas.List.{length-take, length-drop, ext_get_or, get_or-take, get_or-drop}
use Rattle.std.specs.Prelude.{◌||◌, slice_range, drop, get_or, ◌-◌, OnOk, OnErr}
use Rattle.chip_model.specs.Chip.{Chip, Operation, Idle, Programming, Erasing, Setting, is_idle, completed, memory_after, firmed, programmed}
use Rattle.chip_model.specs.Cut.{Cut, TornMemory, weakened}
use Rattle.chip_model.specs.Wavering.{Bits, bits_of}
use Rattle.chip_model.specs.Memory.{and_at, erased, with_differences, Torn, TornErase, TornAnd}
use Rattle.chip_model.proofs.MemoryLaws.{programmed_in_page}
use Rattle.chip_model.specs.Frames.{command_of, Receives, is_unprotected, starts, with_enabled, with_polls}
use Rattle.chip_model.proofs.FrameLaws.{KeepsShape, completed_shape, cut_shape, idle_cut, idle_not_setting, started_program, started_erase, started_large_erase, address}
use Rattle.chip_model.specs.Chip.{is_setting}
use Rattle.nor_driver.specs.State.{NorFails, IsFirmer, Interrupted, Leaves, as_before, torn_in_it, changed_whole, program_bits, TornProgramBits, erase_bits, TornEraseBits}
use Rattle.nor_driver.specs.Shown.{shown}
use Rattle.nor_driver.specs.declared.error.NorError.TheVariants as errors
use Rattle.nor_driver.specs.Steps.{TornIn, Woken, Lost, fell, was_off, started, StartsChange, ChangeInterrupted, not_begun, torn, whole, no_power}
use Rattle.nor_driver.proofs.Firmer.{firmer-none, firmer-done, interrupted-none, interrupted-in}

-- the shape of a chip that is another
pub same_shape : (c new : Chip) → new ≡ c → is_setting c.operation ≡ false → KeepsShape c new
same_shape c new same h = subst (λ (d : Chip). KeepsShape c d) (sym same) (record { size = refl; protection = refl; status2 = refl; status3 = refl; not_setting = h })

-- a whole change
pub done_shape : (c : Chip) (sent : List ℕ) (b : StartsChange c sent) → KeepsShape c (completed (started c sent))
done_shape c sent b =
    let s = completed_shape (starts (with_enabled c true) b.operation) b.in_memory in
    subst (λ (d : Chip). KeepsShape c (completed d)) (sym b.is) (record { size = s.size; protection = s.protection; status2 = s.status2; status3 = s.status3; not_setting = s.not_setting })

-- a change that never ended
pub slow_shape : (c : Chip) (sent : List ℕ) (n : ℕ) (b : StartsChange c sent) → KeepsShape c (with_polls (started c sent) n)
slow_shape c sent n b =
    subst (λ (d : Chip). KeepsShape c (with_polls d n)) (sym b.is) (record { size = refl; protection = refl; status2 = refl; status3 = refl; not_setting = b.in_memory })

pub slow_memory : (c : Chip) (sent : List ℕ) (b : StartsChange c sent) → (started c sent).memory ≡ c.memory
slow_memory c sent b = ap (λ (d : Chip). d.memory) b.is

-- a change leaves the table, as long as it lasts and once it has ended
pub started_table : (c : Chip) (sent : List ℕ) (b : StartsChange c sent) → (started c sent).sfdp ≡ c.sfdp
started_table c sent b = ap (λ (d : Chip). d.sfdp) b.is

-- what a power that comes anew keeps, where it came and where it didn't
woken_shape : (c new : Chip) → is_setting c.operation ≡ false → Woken c new → KeepsShape c new
woken_shape c new n w =
    let k = cut_shape c w.off n w.left in
    subst (λ (d : Chip). KeepsShape c d) (sym w.on) (record { size = k.size; protection = k.protection; status2 = k.status2; status3 = k.status3; not_setting = k.not_setting })

pub waked_shape : {T E : Type 0} (r : Result T E) (c new : Chip) → is_setting c.operation ≡ false → OnOk r (Woken c new) → OnErr r (Cut c new) → KeepsShape c new
waked_shape (Ok x) c new n woken lost = woken_shape c new n woken
waked_shape (Err e) c new n woken lost = cut_shape c new n lost

pub waked_idle : {T E : Type 0} (r : Result T E) (c new : Chip) → OnOk r (Woken c new) → OnErr r (Cut c new) → is_idle new.operation ≡ true
waked_idle (Ok x) c new woken lost = ap (λ (d : Chip). is_idle d.operation) woken.on ∙ ap is_idle woken.left.operation
waked_idle (Err e) c new woken lost = ap is_idle lost.operation

-- two chips whose memories and weak bits are the same
pub same_bits : (a b : Bits) → b.shown ≡ a.shown → b.weak ≡ a.weak → b ≡ a
same_bits a b p q = ap (λ (m : List ℕ). record { shown = m; weak = b.weak }) p ∙ ap (λ (w : List ℕ). record { shown = a.shown; weak = w }) q

-- a loss without an operation in progress leaves the bits
idle_weak : (o : Operation) (m w : List ℕ) → is_idle o ≡ true → weakened o m w ≡ w
idle_weak Idle m w i = refl
idle_weak (Programming at bytes) m w i = absurd (false≢true i)
idle_weak (Erasing at size) m w i = absurd (false≢true i)
idle_weak (Setting value) m w i = refl

idle_bits : (c new : Chip) → is_idle c.operation ≡ true → Cut c new → bits_of new ≡ bits_of c
idle_bits c new i k = same_bits (bits_of c) (bits_of new) (idle_cut c new i k) (k.weak ∙ idle_weak c.operation c.memory c.weak i)

-- a frame that changes nothing wasn't answered
pub lost_fails : (c new : Chip) (cuts cuts' slows slows' : ℕ) (slow large : Bool) → is_idle c.operation ≡ true → Lost c cuts new cuts' → slows' ≡ slows
    → NorFails errors.Cut (shown c cuts slows slow large) (shown new cuts' slows' slow large)
lost_fails c new cuts cuts' slows slows' slow large idle lost same_slows = elim lost [
  | fell on k n ↦
      let i = interrupted-none (bits_of c) (bits_of new) (subst (λ (b : Bits). IsFirmer (bits_of c) b) (sym (idle_bits c new idle k)) (firmer-none (bits_of c))) in
      (inl (omega (arith, n)), same_slows, k.powered, refl, refl, i)
  | was_off off same n ↦
      let i = interrupted-none (bits_of c) (bits_of new) (subst (λ (b : Bits). IsFirmer (bits_of c) b) (sym (ap bits_of same)) (firmer-none (bits_of c))) in
      (inr (off, n), same_slows, ap (λ (d : Chip). d.powered) same ∙ off, refl, refl, i)
]

-- what a loss of power leaves of a change that begins
pub record AfterLoss (c : Chip) (begun : Chip) (new : Chip) : Type 0 where
  pub shape : KeepsShape c new
  pub table : new.sfdp ≡ c.sfdp
  pub idle : is_idle new.operation ≡ true
  pub powered : new.powered ≡ false
  pub leaves : Leaves c.memory (TornMemory begun.operation begun.memory) (completed begun).memory new.memory
  pub bits : Leaves (bits_of c) (TornIn begun) (bits_of (completed begun)) (bits_of new)
  pub interrupted : Interrupted (bits_of c) (bits_of new)

after_start : (c : Chip) (cuts : ℕ) (sent : List ℕ) (new : Chip) (cuts' : ℕ) → is_idle c.operation ≡ true → (b : StartsChange c sent) → ChangeInterrupted c cuts sent new cuts'
    → AfterLoss c (starts (with_enabled c true) b.operation) new
after_start c cuts sent new cuts' idle b i = elim i [
  | not_begun on k n ↦ record {
    shape = cut_shape c new (idle_not_setting c.operation idle) k;
    table = k.sfdp;
    idle = ap is_idle k.operation;
    powered = k.powered;
    leaves = as_before (idle_cut c new idle k);
    bits = as_before (idle_bits c new idle k);
    interrupted = interrupted-none (bits_of c) (bits_of new) (subst (λ (b : Bits). IsFirmer (bits_of c) b) (sym (idle_bits c new idle k)) (firmer-none (bits_of c)));
  }
  | torn on k n ↦
      let t : Cut (starts (with_enabled c true) b.operation) new = subst (λ (d : Chip). Cut d new) b.is k in
      let s = cut_shape (starts (with_enabled c true) b.operation) new b.in_memory t in
      record {
        shape = record { size = s.size; protection = s.protection; status2 = s.status2; status3 = s.status3; not_setting = s.not_setting };
        table = t.sfdp;
        idle = ap is_idle t.operation;
        powered = t.powered;
        leaves = torn_in_it t.memory;
        bits = torn_in_it (t.memory, t.weak);
        interrupted = interrupted-in b.operation (bits_of c) (bits_of new) b.unit t.memory t.weak;
      }
  | whole on k n ↦
      let e = completed (starts (with_enabled c true) b.operation) in
      let t : Cut e new = subst (λ (d : Chip). Cut (completed d) new) b.is k in
      let s = cut_shape e new refl t in
      let q = completed_shape (starts (with_enabled c true) b.operation) b.in_memory in
      record {
        shape = record { size = s.size ∙ q.size; protection = s.protection ∙ q.protection; status2 = s.status2; status3 = s.status3; not_setting = s.not_setting };
        table = t.sfdp;
        idle = ap is_idle t.operation;
        powered = t.powered;
        leaves = changed_whole t.memory;
        bits = changed_whole (same_bits (bits_of e) (bits_of new) t.memory t.weak);
        interrupted = interrupted-none (bits_of c) (bits_of new) (subst (λ (x : Bits). IsFirmer (bits_of c) x) (sym (same_bits (bits_of e) (bits_of new) t.memory t.weak)) (firmer-done b.operation (bits_of c) b.unit));
      }
  | no_power off same n ↦ record {
    shape = same_shape c new same (idle_not_setting c.operation idle);
    table = ap (λ (d : Chip). d.sfdp) same;
    idle = ap (λ (d : Chip). is_idle d.operation) same ∙ idle;
    powered = ap (λ (d : Chip). d.powered) same ∙ off;
    leaves = as_before (ap (λ (d : Chip). d.memory) same);
    bits = as_before (ap bits_of same);
    interrupted = interrupted-none (bits_of c) (bits_of new) (subst (λ (b : Bits). IsFirmer (bits_of c) b) (sym (ap bits_of same)) (firmer-none (bits_of c)));
  }
]

pub after_loss : (c : Chip) (cuts : ℕ) (sent : List ℕ) (new : Chip) (cuts' : ℕ) → is_idle c.operation ≡ true → StartsChange c sent → ChangeInterrupted c cuts sent new cuts' → AfterLoss c (started c sent) new
after_loss c cuts sent new cuts' idle b i = subst (λ (d : Chip). AfterLoss c d new) (sym b.is) (after_start c cuts sent new cuts' idle b i)

-- the power went in the call, or was off
pub cause : (c : Chip) (cuts : ℕ) (sent : List ℕ) (new : Chip) (cuts' : ℕ) → ChangeInterrupted c cuts sent new cuts' → (cuts < cuts') ⊎ ((c.powered ≡ false) × (cuts' ≡ cuts))
cause c cuts sent new cuts' i = elim i [
  | not_begun on k n ↦ inl (omega (arith, n))
  | torn on k n ↦ inl (omega (arith, n))
  | whole on k n ↦ inl (omega (arith, n))
  | no_power off same n ↦ inr (off, n)
]

-- a flag that is down leaves the other
pub when_down : (a b : Bool) → a ≡ false → (a || b) ≡ true → b ≡ true
when_down a b h k = subst (λ (x : Bool). (x || b) ≡ true) h k

-- what begins leaves of the memory, told of the operation
pub done_memory : (c : Chip) (sent : List ℕ) (b : StartsChange c sent) → (completed (started c sent)).memory ≡ memory_after b.operation c.memory
done_memory c sent b = ap (λ (d : Chip). (completed d).memory) b.is

pub cut_memory : (c : Chip) (sent m : List ℕ) (b : StartsChange c sent) → Leaves c.memory (TornMemory (started c sent).operation (started c sent).memory) (completed (started c sent)).memory m
    → Leaves c.memory (TornMemory b.operation c.memory) (memory_after b.operation c.memory) m
cut_memory c sent m b h = subst (λ (d : Chip). Leaves c.memory (TornMemory d.operation d.memory) (completed d).memory m) b.is h

-- the same of the bits
done_weak : (c : Chip) (sent : List ℕ) (b : StartsChange c sent) → (completed (started c sent)).weak ≡ firmed b.operation c.weak
done_weak c sent b = ap (λ (d : Chip). (completed d).weak) b.is

done_bits : (c : Chip) (sent : List ℕ) (b : StartsChange c sent) → bits_of (completed (started c sent)) ≡ record { shown = memory_after b.operation c.memory; weak = firmed b.operation c.weak }
done_bits c sent b = ap (λ (d : Chip). bits_of (completed d)) b.is

pub done_firmer : (c new : Chip) (sent : List ℕ) (b : StartsChange c sent) → new ≡ completed (started c sent) → IsFirmer (bits_of c) (bits_of new)
done_firmer c new sent b is = subst (λ (x : Bits). IsFirmer (bits_of c) x) (sym (ap bits_of is ∙ done_bits c sent b)) (firmer-done b.operation (bits_of c) b.unit)

cut_bits : (c : Chip) (sent : List ℕ) (n : Bits) (b : StartsChange c sent) → Leaves (bits_of c) (TornIn (started c sent)) (bits_of (completed (started c sent))) n
    → Leaves (bits_of c) (TornIn (starts (with_enabled c true) b.operation)) (bits_of (completed (starts (with_enabled c true) b.operation))) n
cut_bits c sent n b h = subst (λ (d : Chip). Leaves (bits_of c) (TornIn d) (bits_of (completed d)) n) b.is h

-- the frame of a program that a driver allows
pub record IsProgram (c : Chip) (sent : List ℕ) (at : ℕ) (bytes : List ℕ) : Type 0 where
  pub unprotected : is_unprotected c ≡ true
  pub range : at + length bytes ≤ length c.memory
  pub some : 0 < length bytes
  pub page : at % 256 + length bytes ≤ 256
  pub frame : sent ≡ 2 ∷ (at / 65536) ∷ (at / 256 % 256) ∷ (at % 256) ∷ bytes

abbrev pub begins_program : (c : Chip) (sent : List ℕ) (at : ℕ) (bytes : List ℕ) → IsProgram c sent at bytes → StartsChange c sent
begins_program c sent at bytes p = record {
  operation = Programming at bytes;
  is = ap (started c) p.frame ∙ started_program c at bytes p.unprotected (omega (arith, p.range, p.some)) p.some p.page;
  running = refl;
  in_memory = refl;
  unit = tt;
}

pub program_done : (c : Chip) (sent : List ℕ) (at : ℕ) (bytes : List ℕ) → IsProgram c sent at bytes → (completed (started c sent)).memory ≡ and_at c.memory at bytes
program_done c sent at bytes p = done_memory c sent (begins_program c sent at bytes p) ∙ programmed_in_page c.memory at bytes p.page

pub program_cut : (c : Chip) (sent m : List ℕ) (at : ℕ) (bytes : List ℕ) → IsProgram c sent at bytes
    → Leaves c.memory (TornMemory (started c sent).operation (started c sent).memory) (completed (started c sent)).memory m
    → Leaves c.memory (TornAnd c.memory at bytes) (and_at c.memory at bytes) m
program_cut c sent m at bytes p h =
    subst (λ x. Leaves c.memory (Torn c.memory x) x m) (programmed_in_page c.memory at bytes p.page) (cut_memory c sent m (begins_program c sent at bytes p) h)

pub program_done_bits : (c : Chip) (sent : List ℕ) (at : ℕ) (bytes : List ℕ) → IsProgram c sent at bytes → bits_of (completed (started c sent)) ≡ program_bits (bits_of c) at bytes
program_done_bits c sent at bytes p =
    same_bits (program_bits (bits_of c) at bytes) (bits_of (completed (started c sent))) (program_done c sent at bytes p)
    (done_weak c sent (begins_program c sent at bytes p) ∙ programmed_in_page c.weak at bytes p.page)

pub program_cut_bits : (c : Chip) (sent : List ℕ) (b : Bits) (at : ℕ) (bytes : List ℕ) → IsProgram c sent at bytes
    → Leaves (bits_of c) (TornIn (started c sent)) (bits_of (completed (started c sent))) b
    → Leaves (bits_of c) (TornProgramBits (bits_of c) at bytes) (program_bits (bits_of c) at bytes) b
program_cut_bits c sent b at bytes p h =
    let begun = cut_bits c sent b (begins_program c sent at bytes p) h in
    subst (λ (w : List ℕ). Leaves (bits_of c) (TornProgramBits (bits_of c) at bytes) (record { shown = and_at c.memory at bytes; weak = w }) b) (programmed_in_page c.weak at bytes p.page)
    (subst (λ (x : List ℕ). Leaves (bits_of c) (λ (n : Bits). Torn c.memory x n.shown × (n.weak ≡ with_differences c.memory x c.weak)) (record { shown = x; weak = programmed c.weak at bytes }) b)
    (programmed_in_page c.memory at bytes p.page) begun)

-- the frame of an erase that a driver allows: of 4 KiB by 20h, of 64 KiB by D8h
pub record IsErase (c : Chip) (sent : List ℕ) (at code size : ℕ) : Type 0 where
  pub unprotected : is_unprotected c ≡ true
  pub range : at < length c.memory
  pub unit : at % size ≡ 0
  pub frame : sent ≡ code ∷ (at / 65536) ∷ (at / 256 % 256) ∷ (at % 256) ∷ []

abbrev pub begins_small : (c : Chip) (sent : List ℕ) (at : ℕ) → IsErase c sent at 32 4096 → StartsChange c sent
begins_small c sent at p = record {
  operation = Erasing at 4096;
  is = ap (started c) p.frame ∙ started_erase c at p.unprotected p.range p.unit;
  running = refl;
  in_memory = refl;
  unit = (inl refl, p.unit);
}

abbrev pub begins_large : (c : Chip) (sent : List ℕ) (at : ℕ) → IsErase c sent at 216 65536 → StartsChange c sent
begins_large c sent at p = record {
  operation = Erasing at 65536;
  is = ap (started c) p.frame ∙ started_large_erase c at p.unprotected p.range p.unit;
  running = refl;
  in_memory = refl;
  unit = (inr refl, p.unit);
}

-- what begins leaves of the bits, of a small unit and of a large one
pub small_done_bits : (c : Chip) (sent : List ℕ) (at : ℕ) → IsErase c sent at 32 4096 → bits_of (completed (started c sent)) ≡ erase_bits (bits_of c) at 4096
small_done_bits c sent at p = done_bits c sent (begins_small c sent at p)

pub small_cut_bits : (c : Chip) (sent : List ℕ) (b : Bits) (at : ℕ) → IsErase c sent at 32 4096
    → Leaves (bits_of c) (TornIn (started c sent)) (bits_of (completed (started c sent))) b
    → Leaves (bits_of c) (TornEraseBits (bits_of c) at 4096) (erase_bits (bits_of c) at 4096) b
small_cut_bits c sent b at p h = cut_bits c sent b (begins_small c sent at p) h

pub large_done_bits : (c : Chip) (sent : List ℕ) (at : ℕ) → IsErase c sent at 216 65536 → bits_of (completed (started c sent)) ≡ erase_bits (bits_of c) at 65536
large_done_bits c sent at p = done_bits c sent (begins_large c sent at p)

pub large_cut_bits : (c : Chip) (sent : List ℕ) (b : Bits) (at : ℕ) → IsErase c sent at 216 65536
    → Leaves (bits_of c) (TornIn (started c sent)) (bits_of (completed (started c sent))) b
    → Leaves (bits_of c) (TornEraseBits (bits_of c) at 65536) (erase_bits (bits_of c) at 65536) b
large_cut_bits c sent b at p h = cut_bits c sent b (begins_large c sent at p) h

pub small_done : (c : Chip) (sent : List ℕ) (at : ℕ) → IsErase c sent at 32 4096 → (completed (started c sent)).memory ≡ erased c.memory at 4096
small_done c sent at p = done_memory c sent (begins_small c sent at p)

pub small_cut : (c : Chip) (sent m : List ℕ) (at : ℕ) → IsErase c sent at 32 4096
    → Leaves c.memory (TornMemory (started c sent).operation (started c sent).memory) (completed (started c sent)).memory m
    → Leaves c.memory (TornErase c.memory at 4096) (erased c.memory at 4096) m
small_cut c sent m at p h = cut_memory c sent m (begins_small c sent at p) h

pub large_done : (c : Chip) (sent : List ℕ) (at : ℕ) → IsErase c sent at 216 65536 → (completed (started c sent)).memory ≡ erased c.memory at 65536
large_done c sent at p = done_memory c sent (begins_large c sent at p)

pub large_cut : (c : Chip) (sent m : List ℕ) (at : ℕ) → IsErase c sent at 216 65536
    → Leaves c.memory (TornMemory (started c sent).operation (started c sent).memory) (completed (started c sent)).memory m
    → Leaves c.memory (TornErase c.memory at 65536) (erased c.memory at 65536) m
large_cut c sent m at p h = cut_memory c sent m (begins_large c sent at p) h

-- a read that stays within the chip
pub read_back : (c : Chip) (at : ℕ) (received : List ℕ) → at + length received ≤ length c.memory
    → Receives c (command_of (3 ∷ (at / 65536) ∷ (at / 256 % 256) ∷ (at % 256) ∷ [])) received → received ≡ slice_range c.memory at (at + length received)
read_back c at received h a =
    let span : at + length received - at ≡ length received = omega arith in
    let long : length (slice_range c.memory at (at + length received)) ≡ length received =
    simp (length-take, length-drop) (omega arith) in
    ext_get_or 0 received (slice_range c.memory at (at + length received)) (sym long) (λ i l.
    let low : i < at + length received - at = omega arith in
    let fits : at + i < length c.memory = omega arith in
    a i l
    ∙ (ap (λ p. get_or c.memory ((p + i) % length c.memory) 0) (address at)
    ∙ (ap (λ p. get_or c.memory p 0) (mod-eq_of_lt fits)
    ∙ sym (get_or-take (at + length received - at) (drop at c.memory) i 0 low ∙ get_or-drop at c.memory i 0))))
