use Rattle.std.proofs.Common.{◌≡◌, ◌∙◌, ◌+◌, ◌-◌, length, sym, ap, subst, arith}
use Rattle.std.specs.Prelude.{take, drop}
use Rattle.std.proofs.lemmas.List.{length-take-le, length-drop}
use Rattle.std.proofs.lemmas.Result.{err_from_is_err_and}
use Rattle.erase_journal.proofs.BlockLaws.{length-block}
use Rattle.chip_model.specs.Memory.{and_at}
use Rattle.sector_slots.specs.Slots.{data_block}
use Rattle.erase_journal.specs.Steps.{RefusesFirmly}
use Rattle.nor_driver.proofs.CallLaws.{fails-as}
use Rattle.erase_journal.specs.Steps.{SucceedsSettled}
use Rattle.erase_journal.proofs.SettledLaws.{settled-after}
use Rattle.erase_journal.proofs.Firmly.{refuses-firmly}
use Rattle.journal_slots.proofs.Bytes.{leaves-only, and-only, only-wider, bytes-after, last-page, two-pages}
use Rattle.erase_journal.proofs.SettledLaws.{settled-healthy}
use Rattle.nor_driver.specs.State.{bits_in}
use Rattle.erase_journal.specs.Torn.{ProgramInterrupted}
use Rattle.sector_slots.specs.Weak.{block_place}
use Rattle.journal_slots.specs.Programs.{in_first, in_second}
use Rattle.journal_slots.proofs.Torn.{both-pages, second-cut}
use Rattle.journal_slots.proofs.slot.write_content.Goals as goal

pub slice_bounds-program_bytes-end : goal.slice_bounds-program_bytes-end
slice_bounds-program_bytes-end g c = sym (length-take-le 256 c.args.content.now (omega (arith, c.requires.size)))

pub program_bytes-requires-clause-page : goal.program_bytes-requires-clause-page
program_bytes-requires-clause-page g c =
    let n = length-take-le 256 c.args.content.now (omega (arith, c.requires.size)) in
    omega (arith, n, c.content_place-at.ensures)

pub program_bytes-requires-clause-range : goal.program_bytes-requires-clause-range
program_bytes-requires-clause-range g c =
    let n = length-take-le 256 c.args.content.now (omega (arith, c.requires.size)) in
    omega (arith, n, c.content_place-at.ensures, c.requires.place)

pub returns-in_err-program_bytes-clause-cut : goal.returns-in_err-program_bytes-clause-cut
returns-in_err-program_bytes-clause-cut g c is =
    let p = err_from_is_err_and c.from_residual.result c.from_residual.ensures.1 in
    let m = c.args.journal.now.memory in
    let n = length-take-le 256 c.args.content.now (omega (arith, c.requires.size)) in
    let b = data_block m c.args.block in
    let t = data_block c.program_bytes.new.journal.memory c.args.block in
    only-wider c.content_place-at.result (length (take 256 c.args.content.now)) _ _ b t (omega (arith, c.content_place-at.ensures)) (omega (arith, n, c.content_place-at.ensures))
    (leaves-only b (take 256 c.args.content.now) t c.content_place-at.result (length-block m (c.args.block + 4) (omega (arith, c.requires.number))) (c.in_err-program_bytes.ensures.cut (cc (p.1, p.2))))

pub returns-in_err-program_bytes-2-clause-cut : goal.returns-in_err-program_bytes-2-clause-cut
returns-in_err-program_bytes-2-clause-cut g c is =
    let p = err_from_is_err_and c.from_residual-in_err-program_bytes-2.result c.from_residual-in_err-program_bytes-2.ensures.1 in
    let m = c.args.journal.now.memory in
    let x = c.args.content.now in
    let n = length-take-le 256 x (omega (arith, c.requires.size)) in
    let page = take (length x - 256) (drop 256 x) in
    let k : length page ≡ length x - 256 = ap (λ q. length q) (last-page x) ∙ length-drop 256 x in
    let at = c.content_place-at.ensures in
    let b = data_block m c.args.block in
    let d = data_block c.program_bytes.new.journal.memory c.args.block in
    let t = data_block c.program_bytes-2.new.journal.memory c.args.block in
    let first = and-only b (take 256 x) d c.content_place-at.result c.in_ok-program_bytes.ensures.ok in
    let long : length d ≡ 4096 = first.same_length ∙ length-block m (c.args.block + 4) (omega (arith, c.requires.number)) in
    bytes-after _ _ b d t (only-wider c.content_place-at.result (length (take 256 x)) _ _ b d (omega (arith, at)) (omega (arith, n, at)) first)
    (only-wider (c.content_place-at.result + 256) (length page) _ _ d t (omega (arith, at)) (omega (arith, k, at, c.requires.size))
    (leaves-only d page t (c.content_place-at.result + 256) long (c.in_err-program_bytes-2.ensures.cut (cc (p.1, p.2)))))

pub returns-clause-ok : goal.returns-clause-ok
returns-clause-ok g c =
    let b = data_block c.args.journal.now.memory c.args.block in
    two-pages b (data_block c.program_bytes.new.journal.memory c.args.block) (data_block c.program_bytes-2.new.journal.memory c.args.block) c.args.content.now c.content_place-at.result c.requires.size
    c.in_ok-program_bytes.ensures.ok c.in_ok-program_bytes-2.ensures.ok ∙ ap (λ a. and_at b a c.args.content.now) c.content_place-at.ensures

pub returns-in_err-program_bytes-2-clause-ends : goal.returns-in_err-program_bytes-2-clause-ends
returns-in_err-program_bytes-2-clause-ends g c =
    let s0 = c.args.journal.now in
    let s1 = c.program_bytes.new.journal in
    let s2 = c.program_bytes-2.new.journal in
    fails-as c.from_residual-in_err-program_bytes-2.result _ (λ _. SucceedsSettled s0 s2) (λ e. RefusesFirmly e s0 s2) c.from_residual-in_err-program_bytes-2.ensures.1
    (refuses-firmly _ s0 s1 s2 c.in_ok-program_bytes.ensures.ends c.in_err-program_bytes-2.ensures.ends)

pub returns-clause-ends : goal.returns-clause-ends
returns-clause-ends g c =
    let s0 = c.args.journal.now in
    let s1 = c.program_bytes.new.journal in
    let s2 = c.program_bytes-2.new.journal in
    settled-after s0 s1 s2 c.in_ok-program_bytes.ensures.ends c.in_ok-program_bytes-2.ensures.ends

pub returns-in_err-program_bytes-2-clause-healthy : goal.returns-in_err-program_bytes-2-clause-healthy
returns-in_err-program_bytes-2-clause-healthy g c is healthy =
    let p = err_from_is_err_and c.from_residual-in_err-program_bytes-2.result c.from_residual-in_err-program_bytes-2.ensures.1 in
    c.in_err-program_bytes-2.ensures.healthy (cc (p.1, p.2)) (settled-healthy _ c.in_ok-program_bytes.ensures.ends.settled)

pub returns-in_err-program_bytes-clause-cut_bits : goal.returns-in_err-program_bytes-clause-cut_bits
returns-in_err-program_bytes-clause-cut_bits g c is =
    let x = c.args.content.now in
    let s0 = bits_in c.args.journal.now in
    let s1 = bits_in c.program_bytes.new.journal in
    let p = err_from_is_err_and c.from_residual.result c.from_residual.ensures.1 in
    in_first (subst (λ a. ProgramInterrupted (block_place c.args.block + a) (take 256 x) s0 s1) c.content_place-at.ensures (c.in_err-program_bytes.ensures.cut_bits (cc (p.1, p.2))))

pub returns-in_err-program_bytes-2-clause-cut_bits : goal.returns-in_err-program_bytes-2-clause-cut_bits
returns-in_err-program_bytes-2-clause-cut_bits g c is =
    let p = err_from_is_err_and c.from_residual-in_err-program_bytes-2.result c.from_residual-in_err-program_bytes-2.ensures.1 in
    in_second (second-cut c.args.block c.args.place c.content_place-at.result c.args.content.now (bits_in c.args.journal.now) (bits_in c.program_bytes.new.journal) (bits_in c.program_bytes-2.new.journal) c.content_place-at.ensures
    c.in_ok-program_bytes.ensures.firm (c.in_err-program_bytes-2.ensures.cut_bits (cc (p.1, p.2))))

pub returns-clause-firm : goal.returns-clause-firm
returns-clause-firm g c =
    both-pages c.args.block c.args.place c.content_place-at.result c.args.content.now (bits_in c.args.journal.now) (bits_in c.program_bytes.new.journal) (bits_in c.program_bytes-2.new.journal) c.content_place-at.ensures
    c.in_ok-program_bytes.ensures.firm c.in_ok-program_bytes-2.ensures.firm
