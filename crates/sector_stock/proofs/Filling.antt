-- The index of a memory from its blocks' kinds and descriptors.
use Rattle.std.proofs.Common.{◌≡◌, ◌≢◌, ℕ, ◌+◌, ◌*◌, ◌<◌, ◌≤◌, Bool, true, false, List, length, refl, sym, ap, ◌∙◌, subst, arith, inl, inr, if◌then◌else◌, slice_set, add-one}
use Rattle.std.specs.Prelude.{◌/◌, ◌%◌}
use Rattle.std.proofs.lemmas.Bool.{cases_eq}
use Rattle.std.proofs.lemmas.List.{get_or-set_same, get_or-set_other, length-set}
use Rattle.nor_layout.specs.declared.header.Header.{Header}
use Rattle.nor_layout.specs.declared.header.Header.TheVariants as headers
use Rattle.nor_layout.specs.declared.kind.Kind.{Kind}
use Rattle.sector_slots.specs.Slots.{Slot, Free, Live, NoGeneration, Dead, Outside, slot_with, slot_in, descriptor_in, content_bytes, slot_at, slot_count, data_blocks, data_block, kind_at, raw_slot}
use Rattle.sector_slots.specs.Blocks.{AreSettled}
use Rattle.sector_slots.proofs.CopyLaws.{how_many-zero, how_many-suc, how_many-same}
use Rattle.sector_stock.specs.declared.index.SlotState.{SlotState}
use Rattle.sector_stock.specs.declared.index.SlotState.TheVariants as states
use Rattle.sector_stock.specs.declared.index.BlockState.{BlockState}
use Rattle.sector_stock.specs.declared.index.Cursors.{Cursors}
use Rattle.sector_stock.specs.Index.{state_of, header_state, is_free_slot, is_dead, is_plain, is_live_group, is_free_state, is_dead_state, tally, in_block, in_slots, in_heads, states_count, states_tally, StatesNoted, BlockNoted, IsNoted, IsListed, IsIndexOf, IsAhead, IsHighestWhole, IsWholeBlock}
use Rattle.sector_stock.specs.Index.{erases_of, AreWithin}
use Rattle.sector_stock.proofs.Tallies.{tally-most}
use Rattle.sector_stock.proofs.Moved.{rest-slot, spare-whole, reserve-is}
use Rattle.sector_stock.proofs.RoomLaws.{spare-block}

-- counting
pub count-zero : (test : SlotState → Bool) (slots : List SlotState) (c : ℕ) → states_count test slots c 0 ≡ 0
unfolding states_count
count-zero test slots c = how_many-zero (λ i. test (in_slots slots (7 * c + i)))

pub count-next : (test : SlotState → Bool) (slots : List SlotState) (c n : ℕ) → states_count test slots c (n + 1) ≡ (if test (in_slots slots (7 * c + n)) then 1 else 0) + states_count test slots c n
unfolding states_count
count-next test slots c n = rw add-one (how_many-suc (λ i. test (in_slots slots (7 * c + i))) n)

pub one-most : (b : Bool) → (if b then 1 else 0) ≤ 1
one-most true = omega arith
one-most false = omega arith

count-same : (test : SlotState → Bool) (slots slots' : List SlotState) (c : ℕ) → ((i : ℕ) → i < 7 → in_slots slots' (7 * c + i) ≡ in_slots slots (7 * c + i)) → states_tally test slots' c ≡ states_tally test slots c
unfolding states_count
count-same test slots slots' c h = how_many-same (λ i. test (in_slots slots' (7 * c + i))) (λ i. test (in_slots slots (7 * c + i))) 7 (λ i low. ap test (h i low))

-- one more state is noted
pub noted-more : (k c : ℕ) (heads : List Header) (old now : List SlotState) (state : SlotState) → k < 7 → 7 * c + 7 ≤ length old → state ≡ header_state (in_heads heads k) → StatesNoted k c heads old now
    → StatesNoted (k + 1) c heads old (slice_set now (7 * c + k) state)
noted-more k c heads old now state low fits e h =
    let n = h.size in
    record {
      size = length-set now (7 * c + k) state ∙ n;
      here = λ i small. elim (cases_eq i k) as (λ _. in_slots (slice_set now (7 * c + k) state) (7 * c + i) ≡ header_state (in_heads heads i)) [
        | inl q ↦ ap (λ a. in_slots (slice_set now (7 * c + k) state) (7 * c + a)) q ∙ (get_or-set_same now (7 * c + k) state states.Free (omega (arith, fits, n, low)) ∙ (e ∙ ap (λ a. header_state (in_heads heads a)) (sym q)))
        | inr ne ↦ get_or-set_other now (7 * c + k) (7 * c + i) state states.Free (λ q. ne (omega (arith, q))) ∙ h.here i (omega (arith, small, ne))
      ];
      others = λ w high out. get_or-set_other now (7 * c + k) w state states.Free (out k (omega arith)) ∙ h.others w high (λ i small. out i (omega (arith, small)));
    }

-- a block is noted, and the others stay so
state-with : (h : Header) (x : List ℕ) → state_of (slot_with h x) ≡ header_state h
state-with headers.Free x = refl
state-with (headers.Live tag) x = refl
state-with headers.NoGeneration x = refl
state-with headers.Dead x = refl

state-raw : (m : List ℕ) (c i : ℕ) → state_of (raw_slot m c i) ≡ header_state (descriptor_in (data_block m c) i)
unfolding slot_in
state-raw m c i = state-with (descriptor_in (data_block m c) i) (content_bytes (data_block m c) i)

noted-here : (c : ℕ) (kind : Kind) (heads : List Header) (slots slots' : List SlotState) (blocks blocks' : List BlockState) (m : List ℕ) → BlockNoted c kind heads slots slots' blocks blocks' → kind ≡ kind_at m c
    → ((i : ℕ) → i < 7 → in_heads heads i ≡ descriptor_in (data_block m c) i) → IsNoted c slots' blocks' m
noted-here c kind heads slots slots' blocks blocks' m h k d = record {
  states = λ i low. h.states.here i low ∙ (ap header_state (d i low) ∙ sym (state-raw m c i));
  block = h.block ∙ ap (λ a. record { free = states_tally is_free_state slots' c; dead = states_tally is_dead_state slots' c; plain = is_plain a; group = is_live_group a; erases = 0; suspect = false }) k;
}

noted-other : (c b : ℕ) (kind : Kind) (heads : List Header) (slots slots' : List SlotState) (blocks blocks' : List BlockState) (m : List ℕ) → BlockNoted b kind heads slots slots' blocks blocks' → c ≢ b → 7 * c + 7 ≤ length slots → c < length blocks
    → IsNoted c slots blocks m → IsNoted c slots' blocks' m
noted-other c b kind heads slots slots' blocks blocks' m h other fits low old =
    let same : (i : ℕ) → i < 7 → in_slots slots' (7 * c + i) ≡ in_slots slots (7 * c + i) = λ i small. h.states.others (7 * c + i) (omega (arith, fits, small)) (λ j tiny q. other (omega (arith, q, small, tiny))) in
    record {
      states = λ i small. same i small ∙ old.states i small;
      block = h.other_blocks c low other ∙ (old.block
          ∙ (ap (λ a. record { free = a; dead = states_tally is_dead_state slots c; plain = is_plain (kind_at m c); group = is_live_group (kind_at m c); erases = 0; suspect = false }) (sym (count-same is_free_state slots slots' c same))
          ∙ ap (λ a. record { free = states_tally is_free_state slots' c; dead = a; plain = is_plain (kind_at m c); group = is_live_group (kind_at m c); erases = 0; suspect = false }) (sym (count-same is_dead_state slots slots' c same))));
    }

pub noted-next : (b n : ℕ) (kind : Kind) (heads : List Header) (slots slots' : List SlotState) (blocks blocks' : List BlockState) (m : List ℕ) → b < n → length slots ≡ 7 * n → length blocks ≡ n → BlockNoted b kind heads slots slots' blocks blocks'
    → kind ≡ kind_at m b → ((i : ℕ) → i < 7 → in_heads heads i ≡ descriptor_in (data_block m b) i) → ((c : ℕ) → c < b → IsNoted c slots blocks m) → (c : ℕ) → c < b + 1 → IsNoted c slots' blocks' m
noted-next b n kind heads slots slots' blocks blocks' m low ss bs h k d so-far c small = elim (cases_eq c b) as (λ _. IsNoted c slots' blocks' m) [
  | inl e ↦ subst (λ a. IsNoted a slots' blocks' m) (sym e) (noted-here b kind heads slots slots' blocks blocks' m h k d)
  | inr ne ↦ noted-other c b kind heads slots slots' blocks blocks' m h ne (omega (arith, small, low, ss)) (omega (arith, small, low, bs)) (so-far c (omega (arith, small, ne)))
]

-- all blocks are
free-state : (x : Slot) → is_free_state (state_of x) ≡ is_free_slot x
free-state Free = refl
free-state (Live tag y) = refl
free-state NoGeneration = refl
free-state Dead = refl
free-state Outside = refl

dead-state : (x : Slot) → is_dead_state (state_of x) ≡ is_dead x
dead-state Free = refl
dead-state (Live tag y) = refl
dead-state NoGeneration = refl
dead-state Dead = refl
dead-state Outside = refl

tally-free : (slots : List SlotState) (f : ℕ → Slot) (c : ℕ) → ((i : ℕ) → i < 7 → in_slots slots (7 * c + i) ≡ state_of (f (7 * c + i))) → states_tally is_free_state slots c ≡ tally is_free_slot f c
unfolding states_count tally
tally-free slots f c h = how_many-same (λ i. is_free_state (in_slots slots (7 * c + i))) (λ i. is_free_slot (f (7 * c + i))) 7 (λ i low. ap is_free_state (h i low) ∙ free-state (f (7 * c + i)))

tally-dead : (slots : List SlotState) (f : ℕ → Slot) (c : ℕ) → ((i : ℕ) → i < 7 → in_slots slots (7 * c + i) ≡ state_of (f (7 * c + i))) → states_tally is_dead_state slots c ≡ tally is_dead f c
unfolding states_count tally
tally-dead slots f c h = how_many-same (λ i. is_dead_state (in_slots slots (7 * c + i))) (λ i. is_dead (f (7 * c + i))) 7 (λ i low. ap is_dead_state (h i low) ∙ dead-state (f (7 * c + i)))

pub listed-noted : (m : List ℕ) (slots : List SlotState) (blocks : List BlockState) → AreSettled m → length slots ≡ slot_count m → length blocks ≡ data_blocks m → ((c : ℕ) → c < data_blocks m → IsNoted c slots blocks m)
    → IsListed slots blocks (slot_at m) (kind_at m) (data_blocks m)
listed-noted m slots blocks settled-now ss bs h =
    let each : (c i : ℕ) → c < data_blocks m → i < 7 → in_slots slots (7 * c + i) ≡ state_of (slot_at m (7 * c + i)) = λ c i low small. (h c low).states i small ∙ ap state_of (sym (rest-slot m c i settled-now.rest low small)) in
    record {
      slot_size = ss;
      block_size = bs;
      each_slot = λ w low.
          let here : 7 * (w / 7) + w % 7 ≡ w = omega arith in
          subst (λ v. in_slots slots v ≡ state_of (slot_at m v)) here (each (w / 7) (w % 7) (omega (arith, low)) (omega arith));
      each_block = λ c low. record {
        free = ap (λ b. b.free) (h c low).block ∙ tally-free slots (slot_at m) c (λ i small. each c i low small);
        dead = ap (λ b. b.dead) (h c low).block ∙ tally-dead slots (slot_at m) c (λ i small. each c i low small);
        plain = ap (λ b. b.plain) (h c low).block;
        group = ap (λ b. b.group) (h c low).block;
      };
    }

pub numbers-listed : (m : List ℕ) (slots : List SlotState) (blocks : List BlockState) → IsListed slots blocks (slot_at m) (kind_at m) (data_blocks m) → (c : ℕ) → c < length blocks → (in_block blocks c).dead ≤ 7
numbers-listed m slots blocks listed c low =
    let n = listed.block_size in
    let e = (listed.each_block c (omega (arith, low, n))).dead in
    let most = tally-most is_dead (slot_at m) c in
    omega (arith, e, most)

pub spare-listed : (m : List ℕ) (slots : List SlotState) (blocks : List BlockState) → AreSettled m → IsListed slots blocks (slot_at m) (kind_at m) (data_blocks m) → (c : ℕ) × (c < length blocks) × IsWholeBlock (in_block blocks c)
spare-listed m slots blocks h listed =
    let n = listed.block_size in
    let low = h.number in
    (h.reserve, omega (arith, low, n), spare-whole m slots blocks h.reserve h.rest listed h.number h.spare)

-- no block was erased yet
pub even-noted : (m : List ℕ) (slots : List SlotState) (blocks : List BlockState) → length blocks ≡ data_blocks m → ((c : ℕ) → c < data_blocks m → IsNoted c slots blocks m) → AreWithin 32 (length blocks) (erases_of blocks)
even-noted m slots blocks size h c d lc ld =
    let a = ap (λ b. b.erases) (h c (omega (arith, lc, size))).block in
    let b = ap (λ b. b.erases) (h d (omega (arith, ld, size))).block in
    omega (arith, a, b)

pub index-filled : (m : List ℕ) (slots : List SlotState) (blocks : List BlockState) (at : Cursors) → AreSettled m → IsListed slots blocks (slot_at m) (kind_at m) (data_blocks m) → IsAhead blocks at → IsHighestWhole blocks at.reserve
    → AreWithin 32 (length blocks) (erases_of blocks) → IsIndexOf slots blocks at m
index-filled m slots blocks at h listed ahead highest even =
    let reserve = reserve-is m slots blocks at.reserve h.rest listed highest in
    record { listed = listed; ahead = ahead; reserve = spare-block at.reserve m reserve; highest = λ by. reserve; even = λ by. even }
