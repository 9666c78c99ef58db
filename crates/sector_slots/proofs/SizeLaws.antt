-- Each sector has 512 bytes, whatever the memory is.
use Rattle.std.proofs.Common.{◌≡◌, ℕ, zero, suc, ◌+◌, ◌<◌, Bool, true, false, cond, List, length, arith}
use Rattle.std.specs.Prelude.{◌/◌, ◌%◌}
use Rattle.std.proofs.lemmas.List.{length-replicate}
use Rattle.chip_model.proofs.PartLaws.{part-whole}
use Rattle.nor_layout.specs.declared.header.Header.{Header}
use Rattle.nor_layout.specs.declared.header.Header.TheVariants as headers
use Rattle.erase_journal.proofs.BlockLaws.{length-block}
use Rattle.sector_slots.specs.Slots.{Slot, Outside, slot_with, slot_in, descriptor_in, content_bytes, is_counted, counted, data_blocks, data_block, kind_at, raw_slot, slot_at, slot_count}
use Rattle.sector_slots.specs.Sectors.{zeros, is_of, is_next, generation_in, newer, winner, sector_at}
use Rattle.sector_slots.specs.Sectors.{content_in as held_in}

pub length-zeros : length zeros ≡ 512
unfolding zeros
length-zeros = length-replicate {A = ℕ} 512 0

length-with : (h : Header) (x : List ℕ) → length x ≡ 512 → length (held_in (slot_with h x)) ≡ 512
length-with headers.Free x e = length-zeros
length-with (headers.Live tag) x e = e
length-with headers.NoGeneration x e = length-zeros
length-with headers.Dead x e = length-zeros

length-slot : (b : List ℕ) (i : ℕ) → i < 7 → length b ≡ 4096 → length (held_in (slot_in b i)) ≡ 512
unfolding slot_in
length-slot b i low e = length-with (descriptor_in b i) (content_bytes b i) (part-whole 512 b (i + 1) (omega (arith, e, low)))

either-long : (t : Bool) (a b : Slot) → length (held_in a) ≡ 512 → length (held_in b) ≡ 512 → length (held_in (cond t a b)) ≡ 512
either-long true a b p q = p
either-long false a b p q = q

length-newer : (g : ℕ) (s t : Slot) → length (held_in s) ≡ 512 → length (held_in t) ≡ 512 → length (held_in (newer g s t)) ≡ 512
length-newer g s t p q =
    let inner = either-long (is_next (generation_in s) (generation_in t)) s t p q in
    either-long (is_of g s) (cond (is_of g t) (cond (is_next (generation_in s) (generation_in t)) s t) s) t (either-long (is_of g t) (cond (is_next (generation_in s) (generation_in t)) s t) s inner p) q

length-winner : (f : ℕ → Slot) (n g : ℕ) → ((s : ℕ) → s < n → length (held_in (f s)) ≡ 512) → length (held_in (winner f n g)) ≡ 512
unfolding winner
length-winner f zero g h = length-zeros
length-winner f (suc n) g h = length-newer g (f n) (winner f n g) (h n (omega arith)) (length-winner f n g (λ s low. h s (omega (arith, low))))

length-counted : (m : List ℕ) (s : ℕ) → s < slot_count m → length (held_in (slot_at m s)) ≡ 512
unfolding counted
length-counted m s low =
    either-long (is_counted (kind_at m) (data_blocks m) (s / 7)) (raw_slot m (s / 7) (s % 7)) Outside
    (length-slot (data_block m (s / 7)) (s % 7) (omega arith) (length-block m (s / 7 + 4) (omega (arith, low)))) length-zeros

pub length-sector : (m : List ℕ) (g : ℕ) → length (sector_at m g) ≡ 512
length-sector m g = length-winner (slot_at m) (slot_count m) g (λ s low. length-counted m s low)
