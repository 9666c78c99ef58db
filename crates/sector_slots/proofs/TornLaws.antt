-- What a loss of power in each call leaves of the blocks of a firm store.
use Rattle.std.proofs.Common.{◌≡◌, ℕ, ◌+◌, ◌-◌, ◌*◌, ◌/◌, ◌<◌, ◌≤◌, Bool, false, List, length, sym, ap, ◌∙◌, subst, arith, inl}
use Rattle.std.proofs.lemmas.Bool.{true≢false}
use Rattle.std.proofs.lemmas.List.{ext_get_or}
use Rattle.chip_model.specs.Memory.{byte}
use Rattle.chip_model.specs.Parts.{part}
use Rattle.chip_model.specs.Wavering.{Bits, Drawn}
use Rattle.chip_model.proofs.PartLaws.{get-part, part-whole}
use Rattle.nor_layout.specs.declared.kind.Kind.TheVariants as kinds
use Rattle.erase_journal.specs.Blocks.{blank, is_opened}
use Rattle.erase_journal.specs.Torn.{BlockInterrupted, as_it_was, opened, is_erased}
use Rattle.erase_journal.specs.Weak.{AreFirm}
use Rattle.erase_journal.proofs.BlockLaws.{byte-blank, length-blank}
use Rattle.erase_journal.proofs.Draws.{firm-byte}
use Rattle.sector_slots.specs.Half.{IsHalfAtEachDraw, IsKnownBlock, LossesLeaveHalfBlocks}
use Rattle.nor_layout.specs.Kinds.{kind_of}
use Rattle.sector_slots.specs.Slots.{data_block, data_blocks, kind_at, slot_in}
use Rattle.sector_slots.specs.Weak.{HalfMark, HalfSlot, IsHalfBlock, IsSureBlock, block_place, firm}
use Rattle.sector_slots.proofs.BlankLaws.{blank-kind, blank-slot}
use Rattle.sector_slots.proofs.FirmLaws.{bit-firm}
use Rattle.sector_slots.proofs.HalfBlocks.{unopened-own}
use Rattle.sector_slots.proofs.LeftLaws.{known-block}
use Rattle.sector_slots.proofs.NewerLaws.{half-superseded}
use Rattle.sector_slots.proofs.TornBlocks.{half-begun, half-committed, half-copied, half-killed, half-left, half-put, half-settled}

-- an erased block none of whose bits is weak
module _ (new : Bits) (c : ℕ) (inside : c < data_blocks new.shown) (bytes : (k : ℕ) → k < 4096 → byte new.shown (block_place c + k) ≡ 255) (f : AreFirm new.weak (block_place c) 4096) (v : List ℕ) (d : Drawn new.weak new.shown v) (shut : is_opened v (c + 4) ≡ false) where
  pub erased-is : data_block v c ≡ blank
  erased-is =
      let n : length (part 4096 v (c + 4)) ≡ 4096 = part-whole 4096 v (c + 4) (let s = d.same_length in omega (arith, s, inside)) in
      unopened-own v (c + 4) shut ∙ ext_get_or 0 (part 4096 v (c + 4)) blank (n ∙ sym length-blank) (λ k h.
      let low : k < 4096 = omega (arith, n, h) in
      get-part 4096 v (c + 4) k low ∙ (firm-byte new.shown new.weak v (block_place c + k) d (f k low) ∙ (bytes k low ∙ sym (byte-blank k low))))

  firm-part : (at n : ℕ) → at + n ≤ 4096 → AreFirm new.weak (block_place c + at) n
  firm-part at n to k low = (let e : block_place c + (at + k) ≡ block_place c + at + k = omega arith in ap (λ q. byte new.weak q) (sym e)) ∙ f (at + k) (omega (arith, to, low))

  erased-half : IsHalfBlock (record { shown = v; weak = new.weak }) c
  erased-half =
      let now : Bits = record { shown = v; weak = new.weak } in
      let kind : kind_at v c ≡ kinds.Plain = ap kind_of erased-is ∙ blank-kind in
      record {
        bytes = λ other k j low high. bit-firm new.weak (block_place c + k) j (f k low);
        mark = subst (λ q. HalfMark q now c) (sym kind) (inl (firm-part 4 4 (omega arith)));
        edges = λ other. record { start = λ k low. f k (omega (arith, low)); after_mark = firm-part 8 8 (omega arith); after_descriptors = firm-part 44 468 (omega arith) };
        slots = λ other i low. subst (λ s. HalfSlot s now c i) (sym (ap (λ b. slot_in b i) erased-is ∙ blank-slot i low)) (inl (firm (firm-part (16 + 4 * i) 4 (omega (arith, low))) (firm-part (512 * (i + 1)) 512 (omega (arith, low)))));
      }

half-erased : (a new : Bits) (suspect : Bool) (c : ℕ) → c < data_blocks a.shown → IsKnownBlock a c → IsSureBlock a suspect c → length new.shown ≡ length a.shown → BlockInterrupted (c + 4) a new → IsHalfAtEachDraw c new
half-erased a new suspect c inside known sure size (as_it_was same) = half-left a new suspect c known sure size same
half-erased a new suspect c inside known sure size (opened is) = λ v d shut. absurd (true≢false (sym (is v d) ∙ shut))
half-erased a new suspect c inside known sure size (is_erased bytes f) = λ v d shut. erased-half new c (subst (λ n. c < n / 4096 - 4) (sym size) inside) bytes f v d shut

pub losses-half : LossesLeaveHalfBlocks
losses-half = record {
  known = known-block;
  others = half-left;
  put = half-put;
  retire = half-superseded;
  kill = half-killed;
  begin = half-begun;
  copy = half-copied;
  commit = half-committed;
  settle = half-settled;
  erase = half-erased;
}
