-- A chip as a loss of power in a change leaves it is fit for the next firm mount, however the weak bits read.
use Rattle.std.proofs.Common.{◌≡◌, ◌≢◌, ℕ, ◌+◌, ◌-◌, ◌*◌, ◌<◌, ◌≤◌, ◌⊎◌, Bool, false, List, [], ◌∷◌, length, sym, ap, ◌∙◌, subst, arith, inl, inr, lit<}
use Rattle.std.specs.Int.{bit_at}
use Rattle.std.proofs.lemmas.Bool.{cases_eq, true≢false}
use Rattle.chip_model.specs.Geometry.{block_count}
use Rattle.chip_model.specs.Memory.{byte}
use Rattle.chip_model.specs.Wavering.{Bits, Drawn}
use Rattle.nor_layout.specs.Superblock.{layout_in}
use Rattle.nor_layout.specs.declared.header.Tag.{Tag}
use Rattle.nor_layout.specs.declared.kind.Kind.{Kind}
use Rattle.nor_layout.specs.declared.kind.Kind.TheVariants as kinds
use Rattle.erase_journal.specs.Torn.{BlockInterrupted, ProgramInterrupted, SameBlock, as_it_was, is_erased, opened}
use Rattle.erase_journal.specs.Weak.{AreInterruptedAtEachDraw}
use Rattle.erase_journal.proofs.Draws.{firm-byte}
use Rattle.sector_slots.specs.Half.{HasMark}
use Rattle.sector_slots.specs.Slots.{Free, Live, blank_sector, content_bytes, data_block, data_blocks, is_group, kind_at, raw_slot, IsClean, IsSpareIn}
use Rattle.sector_slots.specs.Blocks.{AreAtRest, IsTarget}
use Rattle.sector_slots.specs.Losses.{StepInterrupted, IsFirmDisk, IsHalfChipAtEachDraw, WriteInterrupted, begun, committed, copied, erased, killed, none, retired, settled}
use Rattle.sector_slots.specs.Steps.{IsBegun}
use Rattle.sector_slots.specs.Torn.{BeginInterrupted, IsBegunHead, PutInterrupted, SameButPlace, StateInterrupted, in_commit, in_first_page, in_header, in_second_page, with_descriptor, with_pages}
use Rattle.sector_slots.specs.Weak.{IsSureBlock, block_place, descriptor_place, mark_place}
use Rattle.sector_slots.proofs.ChipBlocks.{beside-same, disk-known, free-descriptor, free-sector, headed-state, place-same, put-length, rest-sources}
use Rattle.sector_slots.proofs.ChipLosses.{change-half, write-half}
use Rattle.sector_slots.proofs.ChipRooms.{begun-beside, begun-left, begun-read, committed-either, copied-kind, settled-either, state-left, state-read}
use Rattle.sector_slots.proofs.FirmLaws.{bit-firm, here}
use Rattle.sector_slots.proofs.HalfBlocks.{drawn-group, drawn-kind, first-firm, is-there}
use Rattle.sector_slots.proofs.HeadLaws.{committed-plain, committed-state, committed-void, free-state, live-state, void-plain}
use Rattle.sector_slots.proofs.LeftLaws.{Beside, IsLeft, beside-descriptor, beside-mark, left-mark, left-read, mark-slot, not-free-live, other-slot, program-apart, program-left, taken-mark, trusted-mark, with_loss}
use Rattle.sector_slots.proofs.PutLosses.{put-place}
use Rattle.sector_slots.proofs.SectorBits.{SameButSector, first-aside, pages-aside, second-aside}
use Rattle.sector_slots.proofs.TornBits.{commit-step, others-left, program-length, retire-step, state-kept, zero-stays}
use Rattle.sector_slots.proofs.TornBlocks.{BesidePlace, IsSureLive, place-edges, place-mark, place-slot, put-apart, sure-free, sure-live, trusted-slot}
use Rattle.sector_slots.proofs.TornLaws.{erased-is}
use Rattle.sector_slots.proofs.SectorsKept.{change-erasable}
use Rattle.sector_slots.specs.Fit.{IsFitForFirmMount}
use Rattle.firm_chip.specs.Fit.{LossesLeaveFitChips}
use Rattle.firm_chip.proofs.CleanBlocks.{IsCleanBlock, HaveCounted, copies-stay, each-clean, erased-clean, erased-stays, kept-clean, one-clean, rest-counted, same-clean, slot-stays, source-counted, spare-clean, unless-opened, untouched-clean, void-block-clean, void-counted}

-- a settled block isn't plain
abbrev IsSettledKind : Kind → Type 0
IsSettledKind kinds.Plain = ⊥
IsSettledKind kinds.Void = ⊥
IsSettledKind (kinds.Committed source) = ⊥
IsSettledKind kinds.Settled = Unit {0}
IsSettledKind (kinds.Group tag) = ⊥
IsSettledKind kinds.DeadGroup = ⊥
IsSettledKind kinds.SpoiltGroup = ⊥
IsSettledKind kinds.Unknown = ⊥

settled-plain : (k : Kind) → k ≡ kinds.Settled → k ≡ kinds.Plain → ⊥
settled-plain k e p = subst (λ q. IsSettledKind q) (sym e ∙ p) tt

-- a slot whose state is even isn't free
even-taken : (v : List ℕ) (c p : ℕ) → p < 7 → is_group (kind_at v c) ≡ false → byte (data_block v c) (16 + 4 * p) ≡ byte v (descriptor_place c p) → bit_at (byte v (descriptor_place c p)) 0 ≡ 0 → raw_slot v c p ≢ Free
even-taken v c p low group there even free =
    let odd : bit_at (byte v (descriptor_place c p)) 0 ≡ 1 = ap (λ x. bit_at x 0) (sym there ∙ free-state (data_block v c) p group free) in
    omega (arith, even, odd)

module _ (a new : Bits) (suspect : ℕ → Bool) (disk : IsFirmDisk a suspect) (size : length new.shown ≡ length a.shown) (v : List ℕ) (d : Drawn new.weak new.shown v) where
  -- A live slot was retired: it reads as live, or as dead.
  retire-clean : (c p : ℕ) (tag : Tag) (x : List ℕ) → c < data_blocks a.shown → p < 7 → AreAtRest (kind_at a.shown) (data_blocks a.shown) → raw_slot a.shown c p ≡ Live tag x → StateInterrupted (descriptor_place c p) 248 a new → IsCleanBlock v c
  retire-clean c p tag x low within rest live l = unless-opened a new suspect disk size v d c (λ shut.
      let P = Beside (16 + 4 * p) 1 in
      let b = with_loss a new in
      let sure : IsSureBlock a (suspect c) c = disk.store c low in
      let left = program-left a new c (16 + 4 * p) (248 ∷ []) l in
      let beside = beside-descriptor p 1 within (omega arith) in
      let r = left-read P a new c left v beside disk.settled (disk.alone c low) sure.edges d shut in
      let mark = taken-mark a (suspect c) c (λ is. not-free-live (raw_slot a.shown c p) tag x live (is.free p within)) sure in
      let was = sym (here a.shown c (16 + 4 * p) disk.settled (omega (arith, within))) ∙ live-state (data_block a.shown c) p tag x (disk.alone c low) live in
      let known = disk-known a suspect disk (rest-sources a.shown rest) c low in
      let s : IsSureLive a c p = elim (sure.slots p within) [ inl s ↦ sure-live a c p tag x within known live s | inr q ↦ absurd (not-free-live (raw_slot a.shown c p) tag x live q.1.free) ] in
      let even = (state-kept a new (descriptor_place c p) (248 ∷ []) 252 0 l (omega arith) was (others-left 2 252 248 0 retire-step.others (omega arith)) (s.state 0 (omega arith))).reads v d in
      let taken = even-taken v c p within (drawn-group P b v c r) (is-there P b v c r (16 + 4 * p) (omega (arith, within))) even in
      same-clean P a new suspect disk c low left beside v d r (drawn-kind P b v c r (λ k small. inl (omega (arith, small))) (left-mark P a new c left (λ k small. inl (omega (arith, small))) mark)) (rest-counted a.shown v rest c low)
      (λ i li free. elim (cases_eq i p) as (λ _. (raw_slot a.shown c i ≡ Free) × ((j : ℕ) → j < 512 → P (512 * (i + 1) + j))) [
        | inl is ↦ absurd (taken (subst (λ q. raw_slot v c q ≡ Free) is free))
        | inr other ↦ slot-stays P a new suspect disk c low left beside v d r i li (other-slot p 1 i within (omega arith) other) free
      ]))

  -- The descriptor of a free slot was programmed: its sector is as it was.
  descriptor-clean : (c p : ℕ) (bytes : List ℕ) → c < data_blocks a.shown → p < 7 → AreAtRest (kind_at a.shown) (data_blocks a.shown) → raw_slot a.shown c p ≡ Free → ((sure : IsSureBlock a (suspect c) c) → (k : ℕ) → k < 4 → byte a.weak (mark_place c + k) ≡ 0) → length bytes ≤ 4 → ProgramInterrupted (descriptor_place c p) bytes a new
      → IsCleanBlock v c
  descriptor-clean c p bytes low within rest was marked few l = unless-opened a new suspect disk size v d c (λ shut.
      let P = Beside (16 + 4 * p) (length bytes) in
      let b = with_loss a new in
      let sure : IsSureBlock a (suspect c) c = disk.store c low in
      let left = program-left a new c (16 + 4 * p) bytes l in
      let beside = beside-descriptor p (length bytes) within few in
      let r = left-read P a new c left v beside disk.settled (disk.alone c low) sure.edges d shut in
      same-clean P a new suspect disk c low left beside v d r (drawn-kind P b v c r (λ k small. inl (omega (arith, small))) (left-mark P a new c left (λ k small. inl (omega (arith, small))) (marked sure))) (rest-counted a.shown v rest c low)
      (λ i li free. elim (cases_eq i p) as (λ _. (raw_slot a.shown c i ≡ Free) × ((j : ℕ) → j < 512 → P (512 * (i + 1) + j))) [
        | inl is ↦ (subst (λ q. raw_slot a.shown c q ≡ Free) (sym is) was, λ j small. inr (omega (arith, within, few)))
        | inr other ↦ slot-stays P a new suspect disk c low left beside v d r i li (other-slot p (length bytes) i within few other) free
      ]))

  -- A copying was begun: the block reads as wholly free, or as void.
  begin-clean : (t : ℕ) → t < data_blocks a.shown → IsSpareIn a.shown t → suspect t ≡ false → BeginInterrupted t a new → IsCleanBlock v t
  begin-clean t low is trusted call = unless-opened a new suspect disk size v d t (λ shut.
      let P = Beside 4 (length call.mark) in
      let left = begun-left a new suspect disk size v d t low is trusted call shut in
      let r = begun-read a new suspect disk size v d t low is trusted call shut in
      let beside = beside-mark (length call.mark) (let four = call.begun.size in omega (arith, four)) in
      spare-clean P a new suspect disk t low left beside v d r is (λ i li free. slot-stays P a new suspect disk t low left beside v d r i li (begun-beside a new suspect disk size v d t low is trusted call shut i) free))

  -- A slot was copied: the block is void.
  copy-clean : (t p : ℕ) → t < data_blocks a.shown → p < 7 → kind_at a.shown t ≡ kinds.Void → SameButPlace t p a new → IsCleanBlock v t
  copy-clean t p low within is same = unless-opened a new suspect disk size v d t (λ shut. void-block-clean v t (copied-kind a new suspect disk size v d t p low within is same shut))

  -- A copy was committed whose free slots are erased.
  commit-clean : (s t : ℕ) → t < data_blocks a.shown → IsBegun t s a.shown → ((i : ℕ) → i < 7 → raw_slot a.shown t i ≡ Free → content_bytes (data_block a.shown t) i ≡ blank_sector) → StateInterrupted (mark_place t) 252 a new → IsCleanBlock v t
  commit-clean s t inside start fresh l = unless-opened a new suspect disk size v d t (λ shut. elim (committed-either a new suspect disk size v d s t inside start l shut) as (λ _. IsCleanBlock v t) [
    | inl still ↦ void-block-clean v t still
    | inr done ↦
        let P = Beside 4 1 in
        let marked : HasMark (kind_at a.shown t) = subst (λ q. HasMark q) (sym start.void) tt in
        let part = λ (is : IsSpareIn a.shown t). void-plain (kind_at a.shown t) start.void is.plain in
        let left = state-left a new suspect disk size v d t inside 1 254 252 commit-step marked part start.state l shut in
        let r = state-read a new suspect disk size v d t inside 1 254 252 commit-step marked part start.state l shut in
        let beside = beside-mark 1 (omega arith) in
        record {
          slots = λ other none. erased-stays P a new suspect disk t inside left beside v d r (λ i li free. slot-stays P a new suspect disk t inside left beside v d r i li (mark-slot 1 i (omega arith)) free) fresh;
          spare = λ is. absurd (committed-plain (kind_at v t) (s + 4) done is.plain);
        }
  ])

  -- And one was settled.
  settle-clean : (s t : ℕ) → IsTarget t (data_blocks a.shown) (kind_at a.shown) → kind_at a.shown t ≡ kinds.Committed (s + 4) → IsSpareIn a.shown s → StateInterrupted (mark_place t) 248 a new → IsCleanBlock v t
  settle-clean s t target is free l = unless-opened a new suspect disk size v d t (λ shut.
      let P = Beside 4 1 in
      let inside = target.number in
      let marked : HasMark (kind_at a.shown t) = subst (λ q. HasMark q) (sym is) tt in
      let part = λ (h : IsSpareIn a.shown t). committed-plain (kind_at a.shown t) (s + 4) is h.plain in
      let was = committed-state (data_block a.shown t) (s + 4) is in
      let left = state-left a new suspect disk size v d t inside 2 252 248 retire-step marked part was l shut in
      let r = state-read a new suspect disk size v d t inside 2 252 248 retire-step marked part was l shut in
      let beside = beside-mark 1 (omega arith) in
      kept-clean P a new suspect disk t inside left beside v d r (λ other void. committed-void (kind_at a.shown t) (s + 4) is void)
      (λ plain. elim (settled-either a new suspect disk size v d (s + 4) t inside is l shut) as (λ _. kind_at a.shown t ≡ kinds.Plain) [
        | inl still ↦ sym still ∙ plain
        | inr done ↦ absurd (settled-plain (kind_at v t) done plain)
      ]) (source-counted a.shown v s t target is free t inside)
      (λ i li reads. slot-stays P a new suspect disk t inside left beside v d r i li (mark-slot 1 i (omega arith)) reads))

  -- A sector was written into the lowest free slot of a block that isn't suspect.
  module _ (c p : ℕ) (low : c < data_blocks a.shown) (within : p < 7) (rest : AreAtRest (kind_at a.shown) (data_blocks a.shown)) (trusted : suspect c ≡ false) (free : raw_slot a.shown c p ≡ Free) (tag : Tag) (content : List ℕ) (full : length content ≡ 512) where
    abbrev at : ℕ
    at = descriptor_place c p

    put-sure : IsSureBlock a false c
    put-sure = subst (λ q. IsSureBlock a q c) trusted (disk.store c low)

    -- once the descriptor is begun its first byte is even, and firm
    module _ (header : List ℕ) (head_begun : IsBegunHead header) where
      abbrev head : Bits
      head = with_descriptor c p header a

      head-state : byte head.shown at ≡ 254
      head-state = headed-state a c p within (disk.bytes c low) (free-descriptor a suspect c p disk low within free) (free-sector a suspect c p disk rest low within free) content full header head_begun

      head-firm : bit_at (byte head.weak at) 0 ≡ 0
      head-firm =
          let f = (sure-free a c p within (disk-known a suspect disk (rest-sources a.shown rest) c low) free (trusted-slot a c p within put-sure)).0 in
          zero-stays a.weak at header at 0 (bit-firm a.weak at 0 (first-firm a.weak at 4 (omega arith) f))

      -- while its sector is written
      sector-even : SameButSector c p head new → bit_at (byte v at) 0 ≡ 0
      sector-even same = let s = same at (inl (omega (arith, within))) in d.firm at 0 (ap (λ x. bit_at x 0) s.1 ∙ head-firm) ∙ ap (λ x. bit_at x 0) (s.0 ∙ head-state)

      -- or it is committed
      commit-even : ProgramInterrupted at (252 ∷ []) (with_pages c p content head) new → bit_at (byte v at) 0 ≡ 0
      commit-even l =
          let s = pages-aside c p content head full at (inl (omega (arith, within))) in
          (state-kept (with_pages c p content head) new at (252 ∷ []) 254 0 l (omega arith) (s.0 ∙ head-state) (others-left 1 254 252 0 commit-step.others (omega arith)) (ap (λ x. bit_at x 0) s.1 ∙ head-firm)).reads v d

    -- so the slot isn't free
    taken-clean : PutInterrupted c p tag content a new → bit_at (byte v at) 0 ≡ 0 → IsCleanBlock v c
    taken-clean put even = unless-opened a new suspect disk size v d c (λ shut.
        let P = BesidePlace p in
        let b = with_loss a new in
        let left : IsLeft P a new c = record {
          same_length = size;
          same = λ k small beside. put-place a new c p tag content full put (block_place c + k)
              (elim beside.0 as (λ _. (block_place c + k < descriptor_place c p) ⊎ (descriptor_place c p + 4 ≤ block_place c + k)) [ inl before ↦ inl (omega (arith, before)) | inr after ↦ inr (omega (arith, after)) ])
              (elim beside.1 [ inl before ↦ inl (omega (arith, before)) | inr after ↦ inr (omega (arith, after)) ]);
        } in
        let beside = place-edges p within in
        let r = left-read P a new c left v beside disk.settled (disk.alone c low) put-sure.edges d shut in
        let taken = even-taken v c p within (drawn-group P b v c r) (is-there P b v c r (16 + 4 * p) (omega (arith, within))) even in
        same-clean P a new suspect disk c low left beside v d r (drawn-kind P b v c r (λ k small. place-mark p k small) (left-mark P a new c left (λ k small. place-mark p k small) (trusted-mark a c put-sure))) (rest-counted a.shown v rest c low)
        (λ i li reads. elim (cases_eq i p) as (λ _. (raw_slot a.shown c i ≡ Free) × ((j : ℕ) → j < 512 → P (512 * (i + 1) + j))) [
          | inl is ↦ absurd (taken (subst (λ q. raw_slot v c q ≡ Free) is reads))
          | inr other ↦ slot-stays P a new suspect disk c low left beside v d r i li (place-slot p i within li other) reads
        ]))

    put-clean : PutInterrupted c p tag content a new → IsCleanBlock v c
    put-clean (in_header header head_begun l) = descriptor-clean c p header low within rest free (λ sure. trusted-mark a c put-sure) (let four = head_begun.begun.size in omega (arith, four)) l
    put-clean (in_first_page header head_begun l) = taken-clean (in_first_page header head_begun l) (sector-even header head_begun.begun (first-aside c p content (with_descriptor c p header a) new full l))
    put-clean (in_second_page header head_begun l) = taken-clean (in_second_page header head_begun l) (sector-even header head_begun.begun (second-aside c p content (with_descriptor c p header a) new full l))
    put-clean (in_commit header head_begun l) = taken-clean (in_commit header head_begun l) (commit-even header head_begun.begun l)

  -- A block was erased.
  erase-clean : (c : ℕ) → c < data_blocks a.shown → HaveCounted a.shown v → BlockInterrupted (c + 4) a new → IsCleanBlock v c
  erase-clean c low counted (as_it_was same) = untouched-clean a new suspect disk size v d c low same (counted c low)
  erase-clean c low counted (opened is) = unless-opened a new suspect disk size v d c (λ shut. absurd (true≢false (sym (is v d) ∙ shut)))
  erase-clean c low counted (is_erased bytes firm) = unless-opened a new suspect disk size v d c (λ shut.
      let same : data_blocks new.shown ≡ data_blocks a.shown = ap (λ k. block_count k - 4) size in
      erased-clean v c (erased-is new c (subst (λ q. c < q) (sym same) low) bytes firm v d shut))

-- The chip is clean after each interrupted change.
change-clean : (a : Bits) (suspect : ℕ → Bool) (new : Bits) → IsFirmDisk a suspect → StepInterrupted a suspect new → (v : List ℕ) → Drawn new.weak new.shown v → IsClean v
change-clean a suspect new disk (none sources size same shut) v d =
    let left : (e : ℕ) → SameBlock (e + 4) a new = λ e k small. same (block_place e + k) (omega arith) in
    let counted = copies-stay a new suspect disk size v d (change-erasable a suspect new disk (none sources size same shut) v d) (λ t b inside is. left t) in
    each-clean a new suspect disk size v d (λ e low. untouched-clean a new suspect disk size v d e low (left e) (counted e low))
change-clean a suspect new disk (retired c p tag x low within rest live why l) v d =
    let size = program-length a new (descriptor_place c p) (248 ∷ []) l in
    one-clean a new suspect disk size v d c (λ e other. program-apart a new c (16 + 4 * p) e (248 ∷ []) (omega (arith, within)) other l) (rest-counted a.shown v rest) (retire-clean a new suspect disk size v d c p tag x low within rest live l)
change-clean a suspect new disk (killed c p rest free part l) v d =
    let size = program-length a new (descriptor_place c p) (251 ∷ []) l in
    let within = free.within in
    one-clean a new suspect disk size v d c (λ e other. program-apart a new c (16 + 4 * p) e (251 ∷ []) (omega (arith, within)) other l) (rest-counted a.shown v rest)
    (descriptor-clean a new suspect disk size v d c p (251 ∷ []) free.number within rest free.free (λ sure. taken-mark a (suspect c) c part sure) (omega arith) l)
change-clean a suspect new disk (begun t low rest is trusted call) v d =
    let size = program-length a new (mark_place t) call.mark call.program in
    let four = call.begun.size in
    one-clean a new suspect disk size v d t (λ e other. program-apart a new t 4 e call.mark (omega (arith, four)) other call.program) (rest-counted a.shown v rest) (begin-clean a new suspect disk size v d t low is trusted call)
change-clean a suspect new disk (copied t p within target is size same) v d =
    one-clean a new suspect disk size v d t (place-same a new t p within same) (void-counted a.shown v t target is) (copy-clean a new suspect disk size v d t p target.number within is same)
change-clean a suspect new disk (committed s t low other target start copies blank sure single l) v d =
    let size = program-length a new (mark_place t) (252 ∷ []) l in
    one-clean a new suspect disk size v d t (λ e away. program-apart a new t 4 e (252 ∷ []) (omega arith) away l) (void-counted a.shown v t target start.void) (commit-clean a new suspect disk size v d s t target.number start (λ i li free. (blank i li free).blank) l)
change-clean a suspect new disk (settled s t low target is free sure l) v d =
    let size = program-length a new (mark_place t) (248 ∷ []) l in
    one-clean a new suspect disk size v d t (λ e away. program-apart a new t 4 e (248 ∷ []) (omega arith) away l) (source-counted a.shown v s t target is free) (settle-clean a new suspect disk size v d s t target is free l)
change-clean a suspect new disk (erased c low er sources size beside cut only) v d =
    let counted = copies-stay a new suspect disk size v d (change-erasable a suspect new disk (erased c low er sources size beside cut only) v d) (λ t b inside is. beside-same a new c t beside (λ q. er.copy b (ap (λ e. kind_at a.shown e) (sym q) ∙ is))) in
    one-clean a new suspect disk size v d c (λ e other. beside-same a new c e beside other) counted (erase-clean a new suspect disk size v d c low counted cut)

-- And after an interrupted write.
write-clean : (a : Bits) (suspect : ℕ → Bool) (tag : Tag) (content : List ℕ) (new : Bits) → IsFirmDisk a suspect → WriteInterrupted a suspect tag content new → (v : List ℕ) → Drawn new.weak new.shown v → IsClean v
write-clean a suspect tag content new disk w v d =
    let c = w.block in
    let p = w.place in
    let size = put-length a new c p tag content w.put in
    let within = w.free.within in
    one-clean a new suspect disk size v d c (λ e other. put-apart a new c p e tag content w.size within other w.put) (rest-counted a.shown v w.rest)
    (put-clean a new suspect disk size v d c p w.free.number within w.rest w.trusted w.free.free tag content w.size w.put)

-- What is left is fit, where it is clean, and of its data blocks one change was interrupted.
fit : (b : Bits) (v : List ℕ) → layout_in b.shown ≡ 2 → AreInterruptedAtEachDraw b → Drawn b.weak b.shown v → IsHalfChipAtEachDraw b → IsClean v → IsFitForFirmMount (record { shown = v; weak = b.weak })
fit b v layout journals d half clean =
    let j = (journals v d).1 in
    record {
      layout = firm-byte b.shown b.weak v 8 d (j.superblock 8 (lit< tt)) ∙ layout;
      journals = j;
      store = half v d;
      clean = clean;
    }

pub losses-fit : LossesLeaveFitChips
losses-fit = record {
  change = λ a suspect b v disk change layout journals d. fit b v layout journals d (change-half a suspect b disk change) (change-clean a suspect b disk change v d);
  write = λ a suspect tag content b v disk w layout journals d. fit b v layout journals d (write-half a suspect tag content b disk w) (write-clean a suspect tag content b disk w v d);
}
