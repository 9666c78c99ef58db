use Rattle.std.proofs.Common.{◌≡◌, ◌+◌, ◌*◌, subst, arith, length, inr}
use Rattle.std.proofs.lemmas.Result.{err_from_is_err_and}
use Rattle.chip_model.specs.Memory.{and_at, TornAnd}
use Rattle.nor_driver.specs.State.{Leaves}
use Rattle.erase_journal.specs.Steps.{RefusesFirmly}
use Rattle.erase_journal.proofs.BlockLaws.{length-block}
use Rattle.sector_slots.specs.Slots.{data_block}
use Rattle.nor_driver.proofs.CallLaws.{fails-as}
use Rattle.erase_journal.specs.Steps.{SucceedsSettled}
use Rattle.erase_journal.proofs.SettledLaws.{settled-after, settled-healthy}
use Rattle.erase_journal.proofs.Firmly.{refuses-firmly}
use Rattle.journal_slots.specs.Programs.{OnlyBytes}
use Rattle.journal_slots.proofs.Bytes.{leaves-only, and-only, placed-at, descriptor-place, content-place, place-after, place-group}
use Rattle.sector_slots.proofs.GroupLaws.{free-no_group}
use Rattle.journal_slots.proofs.Places.{fresh-descriptor, begun-cut, begun-state, content-cut}
use Rattle.nor_driver.specs.State.{bits_in}
use Rattle.erase_journal.specs.Torn.{ProgramInterrupted}
use Rattle.sector_slots.specs.Torn.{in_header}
use Rattle.sector_slots.specs.Weak.{block_place}
use Rattle.journal_slots.proofs.Torn.{descriptor-firm, place-firm, put-pages}
use Rattle.journal_slots.proofs.slot.fill.Goals as goal

pub returns-in_err-program_bytes-clause-cut : goal.returns-in_err-program_bytes-clause-cut
returns-in_err-program_bytes-clause-cut g c is free =
    let p = err_from_is_err_and c.from_residual.result c.from_residual.ensures.1 in
    let m = c.args.journal.now.memory in
    let h = c.args.header.now in
    let b = data_block m c.args.block in
    let t = data_block c.program_bytes.new.journal.memory c.args.block in
    begun-cut c.args.place b h t c.requires.place (length-block m (c.args.block + 4) (omega (arith, c.requires.number))) c.requires.header c.requires.begun (fresh-descriptor c.args.block c.args.place m free)
    (subst (λ a. Leaves b (TornAnd b a h) (and_at b a h) t) c.descriptor_place.ensures (c.in_err-program_bytes.ensures.cut (cc (p.1, p.2)))) (free-no_group b c.args.place free)

pub returns-in_err-program_bytes-clause-within : goal.returns-in_err-program_bytes-clause-within
returns-in_err-program_bytes-clause-within g c is =
    let p = err_from_is_err_and c.from_residual.result c.from_residual.ensures.1 in
    let m = c.args.journal.now.memory in
    let h = c.args.header.now in
    let b = data_block m c.args.block in
    let t = data_block c.program_bytes.new.journal.memory c.args.block in
    descriptor-place c.args.place (length h) b t (omega (arith, c.requires.header)) (subst (λ a. OnlyBytes a (length h) b t) c.descriptor_place.ensures
    (leaves-only b h t c.descriptor_place.result (length-block m (c.args.block + 4) (omega (arith, c.requires.number))) (c.in_err-program_bytes.ensures.cut (cc (p.1, p.2)))))

pub returns-in_err-write_content-clause-cut : goal.returns-in_err-write_content-clause-cut
returns-in_err-write_content-clause-cut g c is free =
    let p = err_from_is_err_and c.from_residual-in_err-write_content.result c.from_residual-in_err-write_content.ensures.1 in
    let m = c.args.journal.now.memory in
    let h = c.args.header.now in
    let b = data_block m c.args.block in
    let d = data_block c.program_bytes.new.journal.memory c.args.block in
    let t = data_block c.write_content.new.journal.memory c.args.block in
    let begun : d ≡ and_at b (16 + 4 * c.args.place) h = placed-at b h d c.descriptor_place.result (16 + 4 * c.args.place) c.descriptor_place.ensures c.in_ok-program_bytes.ensures.ok in
    let state = begun-state c.args.place b h d c.requires.place (length-block m (c.args.block + 4) (omega (arith, c.requires.number))) c.requires.header c.requires.begun (fresh-descriptor c.args.block c.args.place m free) begun in
    let within = descriptor-place c.args.place (length h) b d (omega (arith, c.requires.header)) (and-only b h d (16 + 4 * c.args.place) begun) in
    inr (content-cut c.args.place d t c.requires.place state (c.in_err-write_content.ensures.cut (cc (p.1, p.2))) (place-group c.args.place b d within (free-no_group b c.args.place free)))

pub returns-in_err-write_content-clause-within : goal.returns-in_err-write_content-clause-within
returns-in_err-write_content-clause-within g c is =
    let p = err_from_is_err_and c.from_residual-in_err-write_content.result c.from_residual-in_err-write_content.ensures.1 in
    let h = c.args.header.now in
    let b = data_block c.args.journal.now.memory c.args.block in
    let d = data_block c.program_bytes.new.journal.memory c.args.block in
    let t = data_block c.write_content.new.journal.memory c.args.block in
    place-after c.args.place b d t
    (descriptor-place c.args.place (length h) b d (omega (arith, c.requires.header)) (subst (λ a. OnlyBytes a (length h) b d) c.descriptor_place.ensures (and-only b h d c.descriptor_place.result c.in_ok-program_bytes.ensures.ok)))
    (content-place c.args.place d t (c.in_err-write_content.ensures.cut (cc (p.1, p.2))))

pub returns-in_err-write_content-clause-ends : goal.returns-in_err-write_content-clause-ends
returns-in_err-write_content-clause-ends g c =
    let s0 = c.args.journal.now in
    let s1 = c.program_bytes.new.journal in
    let s2 = c.write_content.new.journal in
    fails-as c.from_residual-in_err-write_content.result _ (λ _. SucceedsSettled s0 s2) (λ e. RefusesFirmly e s0 s2) c.from_residual-in_err-write_content.ensures.1
    (refuses-firmly _ s0 s1 s2 c.in_ok-program_bytes.ensures.ends c.in_err-write_content.ensures.ends)

pub returns-clause-ends : goal.returns-clause-ends
returns-clause-ends g c =
    let s0 = c.args.journal.now in
    let s1 = c.program_bytes.new.journal in
    let s2 = c.write_content.new.journal in
    settled-after s0 s1 s2 c.in_ok-program_bytes.ensures.ends c.in_ok-write_content.ensures.ends

pub returns-in_err-program_bytes-clause-cut_bits : goal.returns-in_err-program_bytes-clause-cut_bits
returns-in_err-program_bytes-clause-cut_bits g c is tag begun =
    let p = err_from_is_err_and c.from_residual.result c.from_residual.ensures.1 in
    let h = c.args.header.now in
    in_header h begun
    (subst (λ a. ProgramInterrupted (block_place c.args.block + a) h (bits_in c.args.journal.now) (bits_in c.program_bytes.new.journal)) c.descriptor_place.ensures (c.in_err-program_bytes.ensures.cut_bits (cc (p.1, p.2))))

pub returns-in_err-write_content-clause-cut_bits : goal.returns-in_err-write_content-clause-cut_bits
returns-in_err-write_content-clause-cut_bits g c is tag begun =
    let p = err_from_is_err_and c.from_residual-in_err-write_content.result c.from_residual-in_err-write_content.ensures.1 in
    let s0 = bits_in c.args.journal.now in
    let s1 = bits_in c.program_bytes.new.journal in
    put-pages c.args.block c.args.place tag c.args.header.now c.args.content.now s0 s1 (bits_in c.write_content.new.journal) begun
    (descriptor-firm c.args.block c.args.place c.descriptor_place.result c.args.header.now s0 s1 c.descriptor_place.ensures c.in_ok-program_bytes.ensures.firm) (c.in_err-write_content.ensures.cut_bits (cc (p.1, p.2)))

pub returns-in_err-write_content-clause-healthy : goal.returns-in_err-write_content-clause-healthy
returns-in_err-write_content-clause-healthy g c is healthy =
    let p = err_from_is_err_and c.from_residual-in_err-write_content.result c.from_residual-in_err-write_content.ensures.1 in
    c.in_err-write_content.ensures.healthy (cc (p.1, p.2)) (settled-healthy _ c.in_ok-program_bytes.ensures.ends.settled)

pub returns-clause-firm : goal.returns-clause-firm
returns-clause-firm g c =
    place-firm c.args.block c.args.place c.descriptor_place.result c.args.header.now c.args.content.now (bits_in c.args.journal.now) (bits_in c.program_bytes.new.journal) (bits_in c.write_content.new.journal) c.descriptor_place.ensures
    c.in_ok-program_bytes.ensures.firm c.in_ok-write_content.ensures.firm
