use Rattle.std.proofs.Common.{◌≡◌, ◌∙◌, ap, sym, subst}
use Rattle.sector_slots.specs.Slots.{Free, Live, raw_slot, kind_at}
use Rattle.sector_slots.specs.Copying.{copied_tag, to_copy, source_slot}
use Rattle.sector_slots.specs.Steps.{IsErasedSlot, live_copied}
use Rattle.erase_journal.specs.Steps.{RefusesFirmly}
use Rattle.nor_driver.proofs.CallLaws.{fails-as}
use Rattle.erase_journal.specs.Steps.{SucceedsSettled}
use Rattle.erase_journal.proofs.SettledLaws.{settled-after}
use Rattle.erase_journal.proofs.Firmly.{refuses-firmly}
use Rattle.journal_slots.proofs.slot.copy_from.Goals as goal

pub returns-in_ok-write_live_slot-in-Some-clause-ok : goal.returns-in_ok-write_live_slot-in-Some-clause-ok
returns-in_ok-write_live_slot-in-Some-clause-ok g c free =
    let m = c.args.journal.now.memory in
    let k = c.read_kind.new.journal.memory in
    let n = c.read_slot.new.journal.memory in
    let x = c.read_slot.new.into in
    let s = c.args.source in
    let i = c.args.place in
    let same : n ≡ m = c.in_ok-tag.ensures.same ∙ c.in_ok-kind.ensures.same in
    let read : raw_slot k s i ≡ Live c.in-Some.tag x = rw c.in-Some.is at c.in_ok-tag.ensures.ok in
    let was : raw_slot m s i ≡ Live c.in-Some.tag x = subst (λ a. raw_slot a s i ≡ Live c.in-Some.tag x) c.in_ok-kind.ensures.same read in
    let kind : c.in_ok-kind.kind ≡ kind_at m s = c.in_ok-kind.ensures.ok in
    let tag : c.copied_tag.result ≡ copied_tag (kind_at m s) c.in-Some.tag = c.copied_tag.ensures ∙ ap (λ q. copied_tag q c.in-Some.tag) kind in
    let source : source_slot m s i ≡ Live c.copied_tag.result x = ap (λ q. to_copy (kind_at m s) q) was ∙ ap (λ t. Live t x) (sym tag) in
    live_copied c.copied_tag.result x source (c.in_ok-write_live_slot-in-Some.ensures.live (subst (λ a. raw_slot a c.args.target i ≡ Free) (sym same) free))
    (λ fresh. c.in_ok-write_live_slot-in-Some.ensures.ok (subst (λ a. IsErasedSlot c.args.target i a) (sym same) fresh))

pub returns-in_err-write_live_slot-in-Some-clause-ends : goal.returns-in_err-write_live_slot-in-Some-clause-ends
returns-in_err-write_live_slot-in-Some-clause-ends g c =
    let s0 = c.args.journal.now in
    let s1 = c.read_kind.new.journal in
    let s2 = c.read_slot.new.journal in
    let s3 = c.write_live_slot.new.journal in
    fails-as c.from_residual-in_err-write_live_slot-in-Some.result _ (λ _. SucceedsSettled s0 s3) (λ e. RefusesFirmly e s0 s3) c.from_residual-in_err-write_live_slot-in-Some.ensures.1
    (refuses-firmly _ s0 s2 s3 (settled-after s0 s1 s2 c.in_ok-kind.ensures.ends c.in_ok-tag.ensures.ends) c.in_err-write_live_slot-in-Some.ensures.ends)

pub returns-in_ok-write_live_slot-in-Some-clause-ends : goal.returns-in_ok-write_live_slot-in-Some-clause-ends
returns-in_ok-write_live_slot-in-Some-clause-ends g c =
    let s0 = c.args.journal.now in
    let s1 = c.read_kind.new.journal in
    let s2 = c.read_slot.new.journal in
    let s3 = c.write_live_slot.new.journal in
    settled-after s0 s2 s3 (settled-after s0 s1 s2 c.in_ok-kind.ensures.ends c.in_ok-tag.ensures.ends) c.in_ok-write_live_slot-in-Some.ensures.ends

pub returns-in_err-tag-clause-ends : goal.returns-in_err-tag-clause-ends
returns-in_err-tag-clause-ends g c =
    let s0 = c.args.journal.now in
    let s1 = c.read_kind.new.journal in
    let s2 = c.read_slot.new.journal in
    fails-as c.from_residual-in_err-tag.result _ (λ _. SucceedsSettled s0 s2) (λ e. RefusesFirmly e s0 s2) c.from_residual-in_err-tag.ensures.1
    (refuses-firmly _ s0 s1 s2 c.in_ok-kind.ensures.ends c.in_err-tag.ensures.ends)
