use Rattle.std.proofs.Common.{◌∙◌, ap, sym, refl, arith}
use Rattle.nor_layout.specs.declared.header.Header.TheVariants as headers
use Rattle.sector_slots.specs.Slots.{content_bytes, data_block}
use Rattle.journal_slots.proofs.Reading.{known-live, known-not_live}
use Rattle.erase_journal.specs.Steps.{RefusesFirmly, SucceedsSettled}
use Rattle.nor_driver.proofs.CallLaws.{fails-as}
use Rattle.erase_journal.proofs.Firmly.{refuses-firmly}
use Rattle.journal_slots.proofs.read.read_slot.Goals as goal

pub returns-in_ok-read_content-in-Live-clause-ok : goal.returns-in_ok-read_content-in-Live-clause-ok
returns-in_ok-read_content-in-Live-clause-ok g c =
    let m = c.args.journal.now.memory in
    known-live (data_block m c.args.block) c.read_content.new.into c.args.place c.in-Live.tag (sym c.in-Live.is ∙ c.in_ok-tag.ensures.ok)
    (c.in_ok-read_content-in-Live.ensures.ok ∙ ap (λ a. content_bytes (data_block a c.args.block) c.args.place) c.in_ok-tag.ensures.same)

pub returns-in-Free-clause-ok : goal.returns-in-Free-clause-ok
returns-in-Free-clause-ok g c =
    (λ tag x. known-not_live (data_block c.args.journal.now.memory c.args.block) c.args.place headers.Free tag x (sym c.in-Free.is ∙ c.in_ok-tag.ensures.ok) (λ z. omega (arith, z)), refl)

pub returns-in-NoGeneration-clause-ok : goal.returns-in-NoGeneration-clause-ok
returns-in-NoGeneration-clause-ok g c =
    (λ tag x. known-not_live (data_block c.args.journal.now.memory c.args.block) c.args.place headers.NoGeneration tag x (sym c.in-NoGeneration.is ∙ c.in_ok-tag.ensures.ok) (λ z. omega (arith, z)), refl)

pub returns-in-Dead-clause-ok : goal.returns-in-Dead-clause-ok
returns-in-Dead-clause-ok g c =
    (λ tag x. known-not_live (data_block c.args.journal.now.memory c.args.block) c.args.place headers.Dead tag x (sym c.in-Dead.is ∙ c.in_ok-tag.ensures.ok) (λ z. omega (arith, z)), refl)

pub returns-in_err-read_content-in-Live-clause-ends : goal.returns-in_err-read_content-in-Live-clause-ends
returns-in_err-read_content-in-Live-clause-ends g c =
    let s0 = c.args.journal.now in
    let s1 = c.read_header.new.journal in
    let s2 = c.read_content.new.journal in
    fails-as c.from_residual-in_err-read_content-in-Live.result _ (λ _. SucceedsSettled s0 s2) (λ e. RefusesFirmly e s0 s2) c.from_residual-in_err-read_content-in-Live.ensures.1
    (refuses-firmly _ s0 s1 s2 c.in_ok-tag.ensures.ends c.in_err-read_content-in-Live.ensures.ends)
