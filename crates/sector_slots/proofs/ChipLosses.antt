-- What a loss of power leaves of a firm chip of slots: at each draw of its weak bits it is one of which one change was interrupted.
use Rattle.std.proofs.Common.{◌≡◌, ◌≢◌, ℕ, ◌+◌, ◌-◌, ◌*◌, ◌<◌, Bool, false, List, [], ◌∷◌, length, refl, ap, ◌∙◌, subst, sym, arith, inl, inr}
use Rattle.std.proofs.lemmas.Bool.{cases_eq}
use Rattle.chip_model.specs.Geometry.{block_count}
use Rattle.chip_model.specs.Wavering.{Bits, Drawn}
use Rattle.nor_layout.specs.declared.header.Tag.{Tag}
use Rattle.erase_journal.specs.Torn.{BlockInterrupted, SameBeside, SameBlock, as_it_was, is_erased, opened}
use Rattle.sector_slots.specs.Half.{IsHalfAtEachDraw}
use Rattle.sector_slots.specs.Slots.{data_blocks, kind_at, raw_slot}
use Rattle.sector_slots.specs.Copying.{source_slot}
use Rattle.sector_slots.specs.Losses.{StepInterrupted, HasWholeSources, IsFirmDisk, IsHalfChipAtEachDraw, LossesLeaveHalfChips, WriteInterrupted, begun, committed, copied, erased, killed, none, retired, settled}
use Rattle.sector_slots.specs.Weak.{HasChipRoom, IsSureBlock, block_place, descriptor_place, mark_place}
use Rattle.sector_slots.proofs.BlankLaws.{erased-spare}
use Rattle.sector_slots.proofs.ChipBlocks.{beside-same, copied-whole, disk-known, free-descriptor, free-sector, place-same, put-bytes, put-length, rest-sources, spare-sources, void-sources}
use Rattle.sector_slots.proofs.ChipRooms.{before-chip, begun-chip, committed-chip, copied-chip, either-chip, opened-chip, other-chip, spare-chip, spare-found}
use Rattle.sector_slots.proofs.CopyLaws.{committed-source}
use Rattle.sector_slots.proofs.FirmLaws.{here, wholly-slot}
use Rattle.sector_slots.proofs.LeftLaws.{not-free-live, program-apart}
use Rattle.sector_slots.proofs.TornBits.{program-length}
use Rattle.sector_slots.proofs.TornBlocks.{each-half, put-apart}
use Rattle.sector_slots.proofs.TornLaws.{erased-is, losses-half}
use Rattle.sector_slots.proofs.UnopenedLaws.{journals-unopened}

-- Each block is as one interrupted change leaves it, and there is room.
half-chip : (a new : Bits) → length new.shown ≡ length a.shown → ((e : ℕ) → e < data_blocks a.shown → IsHalfAtEachDraw e new) → ((v : List ℕ) → Drawn new.weak new.shown v → HasChipRoom (record { shown = v; weak = new.weak })) → IsHalfChipAtEachDraw new
half-chip a new size each room v d =
    let same : data_blocks v ≡ data_blocks a.shown = ap (λ k. block_count k - 4) (d.same_length ∙ size) in
    record { each = λ c low shut. each c (subst (λ n. c < n) same low) v d shut; room = room v d }

-- Nothing was changed.
untouched : (a new : Bits) (suspect : ℕ → Bool) → IsFirmDisk a suspect → HasWholeSources a.shown → length new.shown ≡ length a.shown → ((e : ℕ) → e < data_blocks a.shown → SameBlock (e + 4) a new) → IsHalfChipAtEachDraw new
untouched a new suspect disk sources size same = half-chip a new size
    (λ e low. losses-half.others a new (suspect e) e (disk-known a suspect disk sources e low) (disk.store e low) size (same e low))
    (λ v d. before-chip a new suspect disk size v d same disk.room)

-- No bit was changed: nor does an erase go on then.
pub unchanged : (a new : Bits) (suspect : ℕ → Bool) → IsFirmDisk a suspect → HasWholeSources a.shown → new ≡ a → StepInterrupted a suspect new
unchanged a new suspect disk sources same = subst (λ (x : Bits). StepInterrupted a suspect x) (sym same)
    (none sources refl (λ i from. (refl, refl)) (λ v d e. journals-unopened a a refl (λ i low. (refl, refl)) disk.settled disk.journals v d e))

-- One block was changed.
one-changed : (a new : Bits) (suspect : ℕ → Bool) (c : ℕ) → IsFirmDisk a suspect → HasWholeSources a.shown → length new.shown ≡ length a.shown → ((e : ℕ) → e ≢ c → SameBlock (e + 4) a new) → IsHalfAtEachDraw c new
    → ((v : List ℕ) → Drawn new.weak new.shown v → HasChipRoom (record { shown = v; weak = new.weak })) → IsHalfChipAtEachDraw new
one-changed a new suspect c disk sources size same half room = half-chip a new size (each-half a new suspect c (λ e low other. disk-known a suspect disk sources e low) disk.store size same half) room

-- A block was erased.
erase-room : (a new : Bits) (suspect : ℕ → Bool) (c : ℕ) → IsFirmDisk a suspect → c < data_blocks a.shown → length new.shown ≡ length a.shown → SameBeside (c + 4) a new → BlockInterrupted (c + 4) a new → (v : List ℕ) → Drawn new.weak new.shown v
    → HasChipRoom (record { shown = v; weak = new.weak })
erase-room a new suspect c disk low size beside (as_it_was same) v d = before-chip a new suspect disk size v d
    (λ e inside. elim (cases_eq e c) as (λ _. SameBlock (e + 4) a new) [ inl is ↦ subst (λ q. SameBlock (q + 4) a new) (sym is) same | inr other ↦ beside-same a new c e beside other ]) disk.room
erase-room a new suspect c disk low size beside (opened is) v d = opened-chip a new suspect disk size v d c low (is v d)
erase-room a new suspect c disk low size beside (is_erased bytes firm) v d = either-chip a new suspect disk size v d c low (λ shut.
    let n : data_blocks new.shown ≡ data_blocks a.shown = ap (λ k. block_count k - 4) size in
    spare-found a new suspect disk size v d c low (erased-spare v c (erased-is new c (subst (λ q. c < q) (sym n) low) bytes firm v d shut)) (λ i li. wholly-slot (record { shown = v; weak = new.weak }) c i li firm))

trusted-block : (a : Bits) (suspect : ℕ → Bool) (c : ℕ) → IsFirmDisk a suspect → c < data_blocks a.shown → suspect c ≡ false → IsSureBlock a false c
trusted-block a suspect c disk low trusted = subst (λ q. IsSureBlock a q c) trusted (disk.store c low)

pub change-half : (a : Bits) (suspect : ℕ → Bool) (new : Bits) → IsFirmDisk a suspect → StepInterrupted a suspect new → IsHalfChipAtEachDraw new
change-half a suspect new disk (none sources size same shut) = untouched a new suspect disk sources size (λ e low k small. same (block_place e + k) (omega arith))
change-half a suspect new disk (retired c p tag x low within rest live spent l) =
    let sources = rest-sources a.shown rest in
    let size = program-length a new (descriptor_place c p) (248 ∷ []) l in
    let same = λ (e : ℕ) (other : e ≢ c). program-apart a new c (16 + 4 * p) e (248 ∷ []) (omega (arith, within)) other l in
    one-changed a new suspect c disk sources size same (losses-half.retire a new suspect c p tag x low within (disk-known a suspect disk sources c low) rest disk.alone disk.journals disk.store live (elim spent [ inl h ↦ inl h | inr z ↦ inr z.0 ]) l)
    (λ v d. other-chip a new suspect disk size v d c rest (λ is. not-free-live (raw_slot a.shown c p) tag x live (is.free p within)) same)
change-half a suspect new disk (killed c p rest free part l) =
    let sources = rest-sources a.shown rest in
    let size = program-length a new (descriptor_place c p) (251 ∷ []) l in
    let within = free.within in
    let same = λ (e : ℕ) (other : e ≢ c). program-apart a new c (16 + 4 * p) e (251 ∷ []) (omega (arith, within)) other l in
    one-changed a new suspect c disk sources size same (losses-half.kill a new (suspect c) c p within (disk-known a suspect disk sources c free.number) (disk.store c free.number) part free.free free.lowest l)
    (λ v d. other-chip a new suspect disk size v d c rest part same)
change-half a suspect new disk (begun t low rest is trusted call) =
    let sources = rest-sources a.shown rest in
    let size = program-length a new (mark_place t) call.mark call.program in
    let four = call.begun.size in
    let same = λ (e : ℕ) (other : e ≢ t). program-apart a new t 4 e call.mark (omega (arith, four)) other call.program in
    one-changed a new suspect t disk sources size same (losses-half.begin a new t (disk-known a suspect disk sources t low) (trusted-block a suspect t disk low trusted) is call)
    (λ v d. begun-chip a new suspect disk size v d t low is trusted call)
change-half a suspect new disk (copied t p within target is size same) =
    let inside = target.number in
    one-changed a new suspect t disk (void-sources a.shown t target is) size (place-same a new t p within same) (losses-half.copy a new (suspect t) t p within disk.settled (disk.store t inside) is size same)
    (λ v d. copied-chip a new suspect disk size v d t p inside within is same)
change-half a suspect new disk (committed s t low other target start copies blank sure single l) =
    let inside = target.number in
    let sources = void-sources a.shown t target start.void in
    let size = program-length a new (mark_place t) (252 ∷ []) l in
    let same = λ (e : ℕ) (away : e ≢ t). program-apart a new t 4 e (252 ∷ []) (omega arith) away l in
    let state = sym (here a.shown t 4 disk.settled (omega arith)) ∙ start.state in
    one-changed a new suspect t disk sources size same
    (losses-half.commit a new (suspect t) t (disk-known a suspect disk sources t inside) (disk.store t inside) start.void state (λ i li e. copied-whole (source_slot a.shown s i) (sym (copies i li) ∙ e)) l)
    (λ v d. committed-chip a new suspect disk size v d s t low inside (same s other) start sure l)
change-half a suspect new disk (settled s t low target is free sure l) =
    let inside = target.number in
    let sources = spare-sources a.shown s t target is free in
    let size = program-length a new (mark_place t) (248 ∷ []) l in
    let same = λ (e : ℕ) (away : e ≢ t). program-apart a new t 4 e (248 ∷ []) (omega arith) away l in
    one-changed a new suspect t disk sources size same (losses-half.settle a new (suspect t) t (s + 4) (disk-known a suspect disk sources t inside) (disk.store t inside) is l)
    (λ v d. spare-chip a new suspect disk size v d s low (same s (committed-source s t (data_blocks a.shown) (kind_at a.shown) target is).1) free sure)
change-half a suspect new disk (erased c low erasable sources size beside cut only) = one-changed a new suspect c disk sources size (λ e other. beside-same a new c e beside other)
    (losses-half.erase a new (suspect c) c low (disk-known a suspect disk sources c low) (disk.store c low) size cut) (λ v d. erase-room a new suspect c disk low size beside cut v d)

pub write-half : (a : Bits) (suspect : ℕ → Bool) (tag : Tag) (content : List ℕ) (new : Bits) → IsFirmDisk a suspect → WriteInterrupted a suspect tag content new → IsHalfChipAtEachDraw new
write-half a suspect tag content new disk w =
    let c = w.block in
    let p = w.place in
    let low = w.free.number in
    let within = w.free.within in
    let free = w.free.free in
    let sources = rest-sources a.shown w.rest in
    let size = put-length a new c p tag content w.put in
    let same = λ (e : ℕ) (other : e ≢ c). put-apart a new c p e tag content w.size within other w.put in
    let bytes = put-bytes a new c p tag content within w.size (disk.bytes c low) (free-descriptor a suspect c p disk low within free) (free-sector a suspect c p disk w.rest low within free) w.put in
    one-changed a new suspect c disk sources size same
    (losses-half.put a new c p tag content w.size within (disk-known a suspect disk sources c low) (trusted-block a suspect c disk low w.trusted) free w.free.lowest size bytes w.put)
    (λ v d. spare-chip a new suspect disk size v d w.room.block w.room.number (same w.room.block w.room.other) w.room.spare w.room.slots)

pub losses-half-chips : LossesLeaveHalfChips
losses-half-chips = record { change = change-half; write = write-half }
