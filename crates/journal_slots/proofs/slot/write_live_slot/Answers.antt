use Rattle.std.proofs.Common.{◌≡◌, ◌+◌, ◌*◌, ◌<◌, ◌∙◌, ℕ, ap, subst, arith, length}
use Rattle.std.proofs.lemmas.Result.{err_from_is_err_and}
use Rattle.chip_model.specs.Memory.{byte, and_at}
use Rattle.erase_journal.proofs.BlockLaws.{length-block}
use Rattle.sector_slots.specs.Slots.{data_block}
use Rattle.erase_journal.specs.Steps.{RefusesFirmly}
use Rattle.nor_driver.proofs.CallLaws.{fails-as}
use Rattle.erase_journal.specs.Steps.{SucceedsSettled}
use Rattle.erase_journal.proofs.SettledLaws.{settled-after}
use Rattle.erase_journal.proofs.Firmly.{refuses-firmly}
use Rattle.journal_slots.specs.Programs.{OnlyBytes}
use Rattle.journal_slots.proofs.Bytes.{leaves-only, and-only, descriptor-place, content-place, place-after}
use Rattle.journal_slots.proofs.Places.{fresh-descriptor, copied-within, copied, copied-tag}
use Rattle.sector_slots.proofs.GroupLaws.{free-no_group}
use Rattle.nor_driver.specs.State.{bits_in}
use Rattle.erase_journal.specs.Torn.{ProgramInterrupted}
use Rattle.sector_slots.specs.Weak.{block_place}
use Rattle.journal_slots.proofs.Torn.{pages-place, place-aside}
use Rattle.journal_slots.proofs.slot.write_live_slot.Goals as goal

pub returns-in_err-write_content-clause-cut_within : goal.returns-in_err-write_content-clause-cut_within
returns-in_err-write_content-clause-cut_within g c is =
    let p = err_from_is_err_and c.from_residual.result c.from_residual.ensures.1 in
    content-place c.args.place (data_block c.args.journal.now.memory c.args.block) (data_block c.write_content.new.journal.memory c.args.block) (c.in_err-write_content.ensures.cut (cc (p.1, p.2)))

pub returns-in_err-program_bytes-clause-cut_within : goal.returns-in_err-program_bytes-clause-cut_within
returns-in_err-program_bytes-clause-cut_within g c is =
    let p = err_from_is_err_and c.from_residual-in_err-program_bytes.result c.from_residual-in_err-program_bytes.ensures.1 in
    let m = c.args.journal.now.memory in
    let h = c.live_header-header.result in
    let b = data_block m c.args.block in
    let d = data_block c.write_content.new.journal.memory c.args.block in
    let t = data_block c.program_bytes.new.journal.memory c.args.block in
    let first = copied-within c.args.place b c.args.content.now d c.requires.size c.in_ok-write_content.ensures.ok in
    let long : length d ≡ 4096 = first.same_length ∙ length-block m (c.args.block + 4) (omega (arith, c.requires.number)) in
    place-after c.args.place b d t first (descriptor-place c.args.place (length h) d t (omega arith) (subst (λ a. OnlyBytes a (length h) d t) c.descriptor_place.ensures
    (leaves-only d h t c.descriptor_place.result long (c.in_err-program_bytes.ensures.cut (cc (p.1, p.2))))))

pub returns-clause-ok : goal.returns-clause-ok
returns-clause-ok g c fresh =
    let m = c.args.journal.now.memory in
    let h = c.live_header-header.result in
    let b = data_block m c.args.block in
    let d = data_block c.write_content.new.journal.memory c.args.block in
    let t = data_block c.program_bytes.new.journal.memory c.args.block in
    let bytes : (i : ℕ) → byte h i < 256 = c.in_ok-program_bytes.ensures.bytes in
    copied c.args.place b h c.args.content.now t c.args.tag c.requires.place (length-block m (c.args.block + 4) (omega (arith, c.requires.number))) (omega arith) bytes
    c.live_header-header.ensures.live c.requires.size (λ i. omega (arith, c.type_inv.content i)) (fresh-descriptor c.args.block c.args.place m fresh.free) fresh.blank
    (c.in_ok-program_bytes.ensures.ok ∙ (ap (λ a. and_at d a h) c.descriptor_place.ensures ∙ ap (λ q. and_at q (16 + 4 * c.args.place) h) c.in_ok-write_content.ensures.ok)) (free-no_group b c.args.place fresh.free)

pub returns-clause-live : goal.returns-clause-live
returns-clause-live g c free =
    let m = c.args.journal.now.memory in
    let h = c.live_header-header.result in
    let b = data_block m c.args.block in
    let d = data_block c.write_content.new.journal.memory c.args.block in
    let t = data_block c.program_bytes.new.journal.memory c.args.block in
    let bytes : (i : ℕ) → byte h i < 256 = c.in_ok-program_bytes.ensures.bytes in
    copied-tag c.args.place b h c.args.content.now t c.args.tag c.requires.place (length-block m (c.args.block + 4) (omega (arith, c.requires.number))) (omega arith) bytes
    c.live_header-header.ensures.live (fresh-descriptor c.args.block c.args.place m free)
    (c.in_ok-program_bytes.ensures.ok ∙ (ap (λ a. and_at d a h) c.descriptor_place.ensures ∙ ap (λ q. and_at q (16 + 4 * c.args.place) h) c.in_ok-write_content.ensures.ok)) c.requires.size (free-no_group b c.args.place free)

pub returns-clause-within : goal.returns-clause-within
returns-clause-within g c =
    let h = c.live_header-header.result in
    let b = data_block c.args.journal.now.memory c.args.block in
    let d = data_block c.write_content.new.journal.memory c.args.block in
    let t = data_block c.program_bytes.new.journal.memory c.args.block in
    place-after c.args.place b d t (copied-within c.args.place b c.args.content.now d c.requires.size c.in_ok-write_content.ensures.ok)
    (descriptor-place c.args.place (length h) d t (omega arith) (subst (λ a. OnlyBytes a (length h) d t) c.descriptor_place.ensures (and-only d h t c.descriptor_place.result c.in_ok-program_bytes.ensures.ok)))

pub returns-in_err-program_bytes-clause-ends : goal.returns-in_err-program_bytes-clause-ends
returns-in_err-program_bytes-clause-ends g c =
    let s0 = c.args.journal.now in
    let s1 = c.write_content.new.journal in
    let s2 = c.program_bytes.new.journal in
    fails-as c.from_residual-in_err-program_bytes.result _ (λ _. SucceedsSettled s0 s2) (λ e. RefusesFirmly e s0 s2) c.from_residual-in_err-program_bytes.ensures.1
    (refuses-firmly _ s0 s1 s2 c.in_ok-write_content.ensures.ends c.in_err-program_bytes.ensures.ends)

pub returns-clause-ends : goal.returns-clause-ends
returns-clause-ends g c =
    let s0 = c.args.journal.now in
    let s1 = c.write_content.new.journal in
    let s2 = c.program_bytes.new.journal in
    settled-after s0 s1 s2 c.in_ok-write_content.ensures.ends c.in_ok-program_bytes.ensures.ends

pub returns-in_err-program_bytes-clause-cut_bits : goal.returns-in_err-program_bytes-clause-cut_bits
returns-in_err-program_bytes-clause-cut_bits g c is =
    let p = err_from_is_err_and c.from_residual-in_err-program_bytes.result c.from_residual-in_err-program_bytes.ensures.1 in
    let s1 = bits_in c.write_content.new.journal in
    let s2 = bits_in c.program_bytes.new.journal in
    place-aside c.args.block c.args.place c.live_header-header.result c.args.content.now (bits_in c.args.journal.now) s1 s2 (omega arith) c.requires.size c.in_ok-write_content.ensures.firm
    (subst (λ a. ProgramInterrupted (block_place c.args.block + a) c.live_header-header.result s1 s2) c.descriptor_place.ensures (c.in_err-program_bytes.ensures.cut_bits (cc (p.1, p.2))))

pub returns-in_err-write_content-clause-cut_bits : goal.returns-in_err-write_content-clause-cut_bits
returns-in_err-write_content-clause-cut_bits g c is =
    let p = err_from_is_err_and c.from_residual.result c.from_residual.ensures.1 in
    pages-place c.args.block c.args.place c.args.content.now (bits_in c.args.journal.now) (bits_in c.write_content.new.journal) c.requires.size (c.in_err-write_content.ensures.cut_bits (cc (p.1, p.2)))
