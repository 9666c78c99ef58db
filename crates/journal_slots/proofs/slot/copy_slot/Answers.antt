use Rattle.std.proofs.Common.{◌≡◌, ◌∙◌, ◌+◌, ◌*◌, ap, sym, subst, arith}
use Rattle.std.proofs.lemmas.Result.{err_from_is_err_and}
use Rattle.erase_journal.proofs.BlockLaws.{length-block}
use Rattle.sector_slots.specs.Slots.{Free, data_block, raw_slot}
use Rattle.sector_slots.specs.Copying.{source_slot}
use Rattle.erase_journal.specs.Steps.{RefusesFirmly}
use Rattle.nor_driver.proofs.CallLaws.{fails-as}
use Rattle.erase_journal.specs.Steps.{SucceedsSettled}
use Rattle.erase_journal.proofs.SettledLaws.{settled-after}
use Rattle.erase_journal.proofs.Firmly.{refuses-firmly}
use Rattle.journal_slots.specs.Programs.{InPlace}
use Rattle.sector_slots.specs.Steps.{OnlyPlace, CopyLeaves}
use Rattle.journal_slots.proofs.Slots.{none-some, same-number, begun-kept, fresh-kept, numbered-only}
use Rattle.journal_slots.proofs.slot.copy_slot.Goals as goal

pub returns-in_err-copy_from-in-Some-clause-cut_only : goal.returns-in_err-copy_from-in-Some-clause-cut_only
returns-in_err-copy_from-in-Some-clause-cut_only g c is =
    let p = err_from_is_err_and c.from_residual-in_err-copy_from-in-Some.result c.from_residual-in_err-copy_from-in-Some.ensures.1 in
    let t = c.args.target in
    let i = c.args.place in
    let m' = c.copy_from.new.journal.memory in
    subst (λ a. OnlyPlace (7 * t + i) a m') c.in_ok-source.ensures.same
    (numbered-only t i c.read_source.new.journal.memory m' c.requires.place c.in_err-copy_from-in-Some.ensures.only (c.in_err-copy_from-in-Some.ensures.cut_within (cc (p.1, p.2))))

pub returns-in_ok-copy_from-in-Some-clause-ok : goal.returns-in_ok-copy_from-in-Some-clause-ok
returns-in_ok-copy_from-in-Some-clause-ok g c source low begun free =
    let m = c.args.journal.now.memory in
    let n = c.read_source.new.journal.memory in
    let m' = c.copy_from.new.journal.memory in
    let t = c.args.target in
    let i = c.args.place in
    let same : n ≡ m = c.in_ok-source.ensures.same in
    let number : c.in-Some.source ≡ source = same-number c.in_ok-source.field-0 c.in-Some.source source c.in-Some.is (c.in_ok-source.ensures.named source low begun) in
    let slot : source_slot n c.in-Some.source i ≡ source_slot m source i = ap (λ a. source_slot a c.in-Some.source i) same ∙ ap (λ a. source_slot m a i) number in
    let within : InPlace i (data_block m t) (data_block m' t) = subst (λ a. InPlace i (data_block a t) (data_block m' t)) same c.in_ok-copy_from-in-Some.ensures.within in
    let done = c.in_ok-copy_from-in-Some.ensures.ok (subst (λ a. raw_slot a t i ≡ Free) (sym same) free) in (
      begun-kept t source i m m' (length-block m (t + 4) (omega (arith, c.requires.target))) within begun,
      subst (λ a. CopyLeaves (source_slot m source i) t i a m') same (subst (λ a. CopyLeaves a t i n m') slot done),
    )

pub returns-in_ok-copy_from-in-Some-clause-only : goal.returns-in_ok-copy_from-in-Some-clause-only
returns-in_ok-copy_from-in-Some-clause-only g c =
    let t = c.args.target in
    let i = c.args.place in
    let m' = c.copy_from.new.journal.memory in
    subst (λ a. OnlyPlace (7 * t + i) a m') c.in_ok-source.ensures.same
    (numbered-only t i c.read_source.new.journal.memory m' c.requires.place c.in_ok-copy_from-in-Some.ensures.only c.in_ok-copy_from-in-Some.ensures.within)

pub returns-in_ok-copy_from-in-Some-clause-fresh : goal.returns-in_ok-copy_from-in-Some-clause-fresh
returns-in_ok-copy_from-in-Some-clause-fresh g c j low ne fresh =
    let m = c.args.journal.now.memory in
    let t = c.args.target in
    let m' = c.copy_from.new.journal.memory in
    fresh-kept t c.args.place j m m' c.requires.place low ne (subst (λ a. InPlace c.args.place (data_block a t) (data_block m' t)) c.in_ok-source.ensures.same c.in_ok-copy_from-in-Some.ensures.within) fresh

pub returns-in-None-clause-ok : goal.returns-in-None-clause-ok
returns-in-None-clause-ok g c source low begun free =
    let found = c.in_ok-source.ensures.named source low begun in
    let none = c.in-None.is in
    absurd (none-some c.in_ok-source.field-0 source none found)

pub returns-in_err-copy_from-in-Some-clause-ends : goal.returns-in_err-copy_from-in-Some-clause-ends
returns-in_err-copy_from-in-Some-clause-ends g c =
    let s0 = c.args.journal.now in
    let s1 = c.read_source.new.journal in
    let s2 = c.copy_from.new.journal in
    fails-as c.from_residual-in_err-copy_from-in-Some.result _ (λ _. SucceedsSettled s0 s2) (λ e. RefusesFirmly e s0 s2) c.from_residual-in_err-copy_from-in-Some.ensures.1
    (refuses-firmly _ s0 s1 s2 c.in_ok-source.ensures.ends c.in_err-copy_from-in-Some.ensures.ends)

pub returns-in_ok-copy_from-in-Some-clause-ends : goal.returns-in_ok-copy_from-in-Some-clause-ends
returns-in_ok-copy_from-in-Some-clause-ends g c =
    let s0 = c.args.journal.now in
    let s1 = c.read_source.new.journal in
    let s2 = c.copy_from.new.journal in
    settled-after s0 s1 s2 c.in_ok-source.ensures.ends c.in_ok-copy_from-in-Some.ensures.ends
