use Rattle.std.proofs.Common.{◌≡◌, List, ℕ, ap, inr, sym, subst, ◌∙◌}
use Rattle.chip_model.specs.Memory.{byte}
use Rattle.std.proofs.lemmas.Result.{err_from_is_err_and}
use Rattle.erase_journal.specs.Journals.{IsHealthy, IsSettled}
use Rattle.sector_slots.specs.Slots.{data_blocks, slot_at, slot_count}
use Rattle.sector_map.specs.Found.{FoundIn, RoomSeen}
use Rattle.sector_map.specs.Table.{IsTabled, Mounts, MountCut}
use Rattle.sector_slots.specs.Sectors.{IsSoundMap}
use Rattle.erase_journal.proofs.SettledLaws.{settled-after, refuses-settled}
use Rattle.sector_map.proofs.Mounting.{perhaps-healthy}
use Rattle.sector_map.proofs.Retiring.{succeeds-perhaps}
use Rattle.sector_map.proofs.Marking.{cut-none, cut-marking, cut-marked, mounted, marked-sound}
use Rattle.sector_map.proofs.Mending.{mends-after, mends-sound}
use Rattle.sector_map.proofs.Alike.{marked-firm, alike-tabled, alike-found, alike-room, firm-mends, firm-repairs}
use Rattle.nor_driver.specs.State.{NorState, bits_in, Refuses}
use Rattle.nor_driver.proofs.CallLaws.{fails-as, kept-after}
use Rattle.erase_journal.specs.Weak.{AreFirmJournals, AreRecoveredJournals}
use Rattle.erase_journal.proofs.FirmJournals.{firm-journals-perhaps, recovered-same, settled-perhaps}
use Rattle.erase_journal.specs.Steps.{SucceedsSettled}
use Rattle.sector_map.proofs.MapCalls.{perhaps-after}
use Rattle.erase_journal.proofs.Firmly.{refuses-plainly}
use Rattle.sector_map.specs.Firm.{ReadsAlike}
use Rattle.sector_slots.specs.Weak.{IsDoubtedStore}
use Rattle.sector_map.proofs.MountFirmly.{half-read}
use Rattle.sector_map.proofs.FirmFilling.{filled-disk, of-two}
use Rattle.sector_map.proofs.mount.mount_slots.Goals as goal

pub returns-in_err-marks-clause-cut : goal.returns-in_err-marks-clause-cut
returns-in_err-marks-clause-cut g c is healthy = cut-none (g.S.SlotCalls.state c.args.stock.now).memory (g.S.SlotCalls.state c.read_marks.new.slots).memory c.read_marks.ensures.same

pub returns-in_err-seen-clause-cut : goal.returns-in_err-seen-clause-cut
returns-in_err-seen-clause-cut g c is healthy = cut-none (g.S.SlotCalls.state c.args.stock.now).memory (g.S.SlotCalls.state c.look.new.stock).memory (c.look.ensures.same ∙ c.read_marks.ensures.same)

pub returns-in_err-mark_first-in-Some-clause-cut : goal.returns-in_err-mark_first-in-Some-clause-cut
returns-in_err-mark_first-in-Some-clause-cut g c is healthy =
    let p = err_from_is_err_and c.from_residual-in_err-mark_first-in-Some.result c.from_residual-in_err-mark_first-in-Some.ensures.1 in
    let d = (g.S.SlotCalls.state c.mark_first.new.slots).memory in
    subst (λ z. MountCut z d) (c.look.ensures.same ∙ c.read_marks.ensures.same) (cut-marking (g.S.SlotCalls.state c.look.new.stock).memory d (c.in_err-mark_first-in-Some.ensures.cut (cc (p.1, p.2))))

pub returns-in_err-begun-in-Some-clause-cut : goal.returns-in_err-begun-in-Some-clause-cut
returns-in_err-begun-in-Some-clause-cut g c is healthy =
    let p = err_from_is_err_and c.from_residual-in_err-begun-in-Some.result c.from_residual-in_err-begun-in-Some.ensures.1 in
    let a = g.S.SlotCalls.state c.look.new.stock in
    let b = g.S.SlotCalls.state c.mark_first.new.slots in
    let d = (g.S.SlotCalls.state c.firm_as.new.slots).memory in
    let same = c.look.ensures.same ∙ c.read_marks.ensures.same in
    let well = perhaps-healthy a b c.in_ok-mark_first-in-Some.ensures.done (subst (λ z. IsHealthy z) (sym same) healthy) in
    subst (λ z. MountCut z d) same (cut-marked a.memory b.memory d c.in_ok-mark_first-in-Some.ensures.ok (firm-mends b.memory d (c.in_err-begun-in-Some.ensures.cut (cc (p.1, p.2)) well)))

pub returns-in_err-begun-in-Some-clause-healthy : goal.returns-in_err-begun-in-Some-clause-healthy
returns-in_err-begun-in-Some-clause-healthy g c is healthy =
    let p = err_from_is_err_and c.from_residual-in_err-begun-in-Some.result c.from_residual-in_err-begun-in-Some.ensures.1 in
    let same = c.look.ensures.same ∙ c.read_marks.ensures.same in
    c.in_err-begun-in-Some.ensures.healthy (cc (p.1, p.2)) (perhaps-healthy (g.S.SlotCalls.state c.look.new.stock) (g.S.SlotCalls.state c.mark_first.new.slots) c.in_ok-mark_first-in-Some.ensures.done (subst (λ z. IsHealthy z) (sym same) healthy))

pub repair-requires-clause-tabled : goal.repair-requires-clause-tabled
repair-requires-clause-tabled g c =
    let a = (g.S.SlotCalls.state c.look.new.stock).memory in
    let d = (g.S.SlotCalls.state c.firm_as.new.slots).memory in
    alike-tabled c.look.new.table a d (marked-firm a (g.S.SlotCalls.state c.mark_first.new.slots).memory d c.in_ok-mark_first-in-Some.ensures.ok.blocks c.in_ok-begun-in-Some.ensures.ok)
    (subst (λ z. IsTabled c.look.new.table (slot_at z) (slot_count z)) (sym c.look.ensures.same) (c.in_ok-seen.ensures.tabled c.in-Some.seen c.in-Some.is))

pub repair-requires-clause-found : goal.repair-requires-clause-found
repair-requires-clause-found g c =
    let a = (g.S.SlotCalls.state c.look.new.stock).memory in
    let d = (g.S.SlotCalls.state c.firm_as.new.slots).memory in
    alike-found c.in-Some.seen.found a d (marked-firm a (g.S.SlotCalls.state c.mark_first.new.slots).memory d c.in_ok-mark_first-in-Some.ensures.ok.blocks c.in_ok-begun-in-Some.ensures.ok)
    (subst (λ z. FoundIn c.in-Some.seen.found z) (sym c.look.ensures.same) (c.in_ok-seen.ensures.found c.in-Some.seen c.in-Some.is))

pub repair-requires-clause-room : goal.repair-requires-clause-room
repair-requires-clause-room g c =
    let a = (g.S.SlotCalls.state c.look.new.stock).memory in
    let d = (g.S.SlotCalls.state c.firm_as.new.slots).memory in
    alike-room c.in-Some.seen.found c.in-Some.seen.spare a d (marked-firm a (g.S.SlotCalls.state c.mark_first.new.slots).memory d c.in_ok-mark_first-in-Some.ensures.ok.blocks c.in_ok-begun-in-Some.ensures.ok)
    (subst (λ z. RoomSeen c.in-Some.seen.found c.in-Some.seen.spare z) (sym c.look.ensures.same) (c.in_ok-seen.ensures.room c.in-Some.seen c.in-Some.is))

pub repair-requires-clause-sound : goal.repair-requires-clause-sound
repair-requires-clause-sound g c =
    let b = (g.S.SlotCalls.state c.mark_first.new.slots).memory in
    let d = (g.S.SlotCalls.state c.firm_as.new.slots).memory in
    mends-sound b d (firm-mends b d c.in_ok-begun-in-Some.ensures.ok)
    (marked-sound (g.S.SlotCalls.state c.look.new.stock).memory b c.in_ok-mark_first-in-Some.ensures.ok.blocks
    (subst (λ z. IsSoundMap z) (sym c.look.ensures.same) (c.in_ok-seen.ensures.sound c.in-Some.seen c.in-Some.is)))

pub returns-in_err-repair-in-Some-clause-cut : goal.returns-in_err-repair-in-Some-clause-cut
returns-in_err-repair-in-Some-clause-cut g c is healthy =
    let p = err_from_is_err_and c.from_residual-in_err-repair-in-Some.result c.from_residual-in_err-repair-in-Some.ensures.1 in
    let a = g.S.SlotCalls.state c.look.new.stock in
    let b = g.S.SlotCalls.state c.mark_first.new.slots in
    let f = g.S.SlotCalls.state c.firm_as.new.slots in
    let d = (g.S.SlotCalls.state c.repair.new.stock).memory in
    let same = c.look.ensures.same ∙ c.read_marks.ensures.same in
    let well = perhaps-healthy b f c.in_ok-begun-in-Some.ensures.done (perhaps-healthy a b c.in_ok-mark_first-in-Some.ensures.done (subst (λ z. IsHealthy z) (sym same) healthy)) in
    subst (λ z. MountCut z d) same (cut-marked a.memory b.memory d c.in_ok-mark_first-in-Some.ensures.ok
    (mends-after b.memory f.memory d (firm-mends b.memory f.memory c.in_ok-begun-in-Some.ensures.ok) (c.in_err-repair-in-Some.ensures.cut (cc (p.1, p.2)) well)))

pub returns-in_err-repair-in-Some-clause-healthy : goal.returns-in_err-repair-in-Some-clause-healthy
returns-in_err-repair-in-Some-clause-healthy g c is healthy =
    let p = err_from_is_err_and c.from_residual-in_err-repair-in-Some.result c.from_residual-in_err-repair-in-Some.ensures.1 in
    let a = g.S.SlotCalls.state c.look.new.stock in
    let b = g.S.SlotCalls.state c.mark_first.new.slots in
    let same = c.look.ensures.same ∙ c.read_marks.ensures.same in
    c.in_err-repair-in-Some.ensures.healthy (cc (p.1, p.2)) (perhaps-healthy b (g.S.SlotCalls.state c.firm_as.new.slots) c.in_ok-begun-in-Some.ensures.done
    (perhaps-healthy a b c.in_ok-mark_first-in-Some.ensures.done (subst (λ z. IsHealthy z) (sym same) healthy)))

pub returns-in_ok-repair-in-Some-clause-sound : goal.returns-in_ok-repair-in-Some-clause-sound
returns-in_ok-repair-in-Some-clause-sound g c is =
    let a = (g.S.SlotCalls.state c.look.new.stock).memory in
    let b = (g.S.SlotCalls.state c.mark_first.new.slots).memory in
    let d = (g.S.SlotCalls.state c.repair.new.stock).memory in
    let same = c.look.ensures.same ∙ c.read_marks.ensures.same in
    let sound = subst (λ z. IsSoundMap z) (sym c.look.ensures.same) (c.in_ok-seen.ensures.sound c.in-Some.seen c.in-Some.is) in
    rw c.suspect_as.ensures.state
    (subst (λ z. Mounts z c.repair.new.table d) same (mounted c.repair.new.table a b d sound c.in_ok-mark_first-in-Some.ensures.ok
    (firm-repairs c.repair.new.table b (g.S.SlotCalls.state c.firm_as.new.slots).memory d c.in_ok-begun-in-Some.ensures.ok c.in_ok-repair-in-Some.ensures.ok)))

pub returns-in_ok-repair-in-Some-clause-ends : goal.returns-in_ok-repair-in-Some-clause-ends
returns-in_ok-repair-in-Some-clause-ends g c =
    let a = g.S.SlotCalls.state c.read_marks.new.slots in
    let b = g.S.SlotCalls.state c.look.new.stock in
    let d = g.S.SlotCalls.state c.mark_first.new.slots in
    let e = g.S.SlotCalls.state c.firm_as.new.slots in
    let f = g.S.SlotCalls.state c.repair.new.stock in
    rw c.suspect_as.ensures.state
    (settled-after (g.S.SlotCalls.state c.args.stock.now) a f c.in_ok-marks.ensures.ends (settled-after a b f c.in_ok-seen.ensures.ends
    (succeeds-perhaps b d f c.in_ok-mark_first-in-Some.ensures.done (succeeds-perhaps d e f c.in_ok-begun-in-Some.ensures.done c.in_ok-repair-in-Some.ensures.ends))))

pub returns-in_err-mark_first-in-Some-clause-ends : goal.returns-in_err-mark_first-in-Some-clause-ends
returns-in_err-mark_first-in-Some-clause-ends g c =
    let s0 = g.S.SlotCalls.state c.args.stock.now in
    let s1 = g.S.SlotCalls.state c.read_marks.new.slots in
    let s2 = g.S.SlotCalls.state c.look.new.stock in
    let s3 = g.S.SlotCalls.state c.mark_first.new.slots in
    fails-as c.from_residual-in_err-mark_first-in-Some.result _ (λ _. SucceedsSettled s0 s3) (λ e. Refuses e s0 s3) c.from_residual-in_err-mark_first-in-Some.ensures.1
    (refuses-settled _ s0 s2 s3 (settled-after s0 s1 s2 c.in_ok-marks.ensures.ends c.in_ok-seen.ensures.ends) c.in_err-mark_first-in-Some.ensures.fails)

pub returns-in_err-begun-in-Some-clause-ends : goal.returns-in_err-begun-in-Some-clause-ends
returns-in_err-begun-in-Some-clause-ends g c =
    let s0 = g.S.SlotCalls.state c.args.stock.now in
    let s1 = g.S.SlotCalls.state c.read_marks.new.slots in
    let s2 = g.S.SlotCalls.state c.look.new.stock in
    let s3 = g.S.SlotCalls.state c.mark_first.new.slots in
    let s4 = g.S.SlotCalls.state c.firm_as.new.slots in
    fails-as c.from_residual-in_err-begun-in-Some.result _ (λ _. SucceedsSettled s0 s4) (λ e. Refuses e s0 s4) c.from_residual-in_err-begun-in-Some.ensures.1
    (refuses-settled _ s0 s3 s4 (perhaps-after s0 s2 s3 (settled-after s0 s1 s2 c.in_ok-marks.ensures.ends c.in_ok-seen.ensures.ends) c.in_ok-mark_first-in-Some.ensures.done) c.in_err-begun-in-Some.ensures.fails)

pub returns-in_err-repair-in-Some-clause-ends : goal.returns-in_err-repair-in-Some-clause-ends
returns-in_err-repair-in-Some-clause-ends g c =
    let s0 = g.S.SlotCalls.state c.args.stock.now in
    let s1 = g.S.SlotCalls.state c.read_marks.new.slots in
    let s2 = g.S.SlotCalls.state c.look.new.stock in
    let s3 = g.S.SlotCalls.state c.mark_first.new.slots in
    let s4 = g.S.SlotCalls.state c.firm_as.new.slots in
    let s5 = g.S.SlotCalls.state c.repair.new.stock in
    fails-as c.from_residual-in_err-repair-in-Some.result _ (λ _. SucceedsSettled s0 s5) (λ e. Refuses e s0 s5) c.from_residual-in_err-repair-in-Some.ensures.1
    (refuses-settled _ s0 s4 s5 (perhaps-after s0 s3 s4 (perhaps-after s0 s2 s3 (settled-after s0 s1 s2 c.in_ok-marks.ensures.ends c.in_ok-seen.ensures.ends) c.in_ok-mark_first-in-Some.ensures.done) c.in_ok-begun-in-Some.ensures.done) (refuses-plainly _ s4 s5 c.in_err-repair-in-Some.ensures.ends))

pub returns-in_ok-repair-in-Some-clause-journals : goal.returns-in_ok-repair-in-Some-clause-journals
returns-in_ok-repair-in-Some-clause-journals g c firmly unmarked h is =
    let s0 = g.S.SlotCalls.state c.args.stock.now in
    let s1 = g.S.SlotCalls.state c.read_marks.new.slots in
    let s2 = g.S.SlotCalls.state c.look.new.stock in
    let s3 = g.S.SlotCalls.state c.mark_first.new.slots in
    let s4 = g.S.SlotCalls.state c.firm_as.new.slots in
    let s5 = g.S.SlotCalls.state c.repair.new.stock in
    let same : s2.memory ≡ s0.memory = c.look.ensures.same ∙ c.read_marks.ensures.same in
    let k = kept-after s0 s1 s2 c.in_ok-marks.ensures.ends.kept c.in_ok-seen.ensures.ends.kept in
    let r2 = recovered-same (bits_in s0) (bits_in s2) k.bits (λ i from to. ap (λ (m : List ℕ). byte m i) same) h in
    let left : s3 ≡ s2 = c.mark_first.ensures.left (c.in_ok-marks.ensures.unmarked ∙ unmarked) in
    let r3 = subst (λ (s : NorState). AreRecoveredJournals (bits_in s)) (sym left) r2 in
    let h3 = subst (λ (s : NorState). IsSettled s.memory) (sym left) c.in_ok-seen.ensures.ends.settled in
    let h4 = settled-perhaps s3 s4 c.in_ok-begun-in-Some.ensures.done h3 in
    let f5 = firm-journals-perhaps s4 s5 (inr c.in_ok-repair-in-Some.ensures.ends) h4 (c.in_ok-begun-in-Some.ensures.journals firmly r3) in
    subst (λ (s : NorState). AreFirmJournals (bits_in s)) (sym c.suspect_as.ensures.state) f5

pub returns-in_err-seen-clause-ends : goal.returns-in_err-seen-clause-ends
returns-in_err-seen-clause-ends g c =
    let s0 = g.S.SlotCalls.state c.args.stock.now in
    let s1 = g.S.SlotCalls.state c.read_marks.new.slots in
    let s2 = g.S.SlotCalls.state c.look.new.stock in
    fails-as c.from_residual-in_err-seen.result _ (λ _. SucceedsSettled s0 s2) (λ e. Refuses e s0 s2) c.from_residual-in_err-seen.ensures.1
    (refuses-settled _ s0 s1 s2 c.in_ok-marks.ensures.ends (refuses-plainly _ s1 s2 c.in_err-seen.ensures.ends))

pub returns-in_ok-repair-in-Some-clause-store : goal.returns-in_ok-repair-in-Some-clause-store
returns-in_ok-repair-in-Some-clause-store g c firmly unmarked h is =
    let s0 = g.S.SlotCalls.state c.args.stock.now in
    let s1 = g.S.SlotCalls.state c.read_marks.new.slots in
    let s2 = g.S.SlotCalls.state c.look.new.stock in
    let s3 = g.S.SlotCalls.state c.mark_first.new.slots in
    let s4 = g.S.SlotCalls.state c.firm_as.new.slots in
    let s5 = g.S.SlotCalls.state c.repair.new.stock in
    let same : s2.memory ≡ s0.memory = c.look.ensures.same ∙ c.read_marks.ensures.same in
    let all = perhaps-after s0 s3 s4 (perhaps-after s0 s2 s3 (settled-after s0 s1 s2 c.in_ok-marks.ensures.ends c.in_ok-seen.ensures.ends) c.in_ok-mark_first-in-Some.ensures.done) c.in_ok-begun-in-Some.ensures.done in
    let alike = subst (λ (z : List ℕ). ReadsAlike z s4.memory) same (marked-firm s2.memory s3.memory s4.memory c.in_ok-mark_first-in-Some.ensures.ok.blocks c.in_ok-begun-in-Some.ensures.ok) in
    let read = half-read s0 s4 c.in_ok-begun-in-Some.begun all.kept.bits alike (c.in_ok-begun-in-Some.ensures.heads firmly) h in
    subst (λ (s : NorState). IsDoubtedStore (bits_in s)) (sym c.suspect_as.ensures.state) (c.in_ok-repair-in-Some.ensures.store read)

pub returns-in_ok-repair-in-Some-clause-disk : goal.returns-in_ok-repair-in-Some-clause-disk
returns-in_ok-repair-in-Some-clause-disk g c firmly fit is =
    let a = g.S.SlotCalls.state c.args.stock.now in
    let b = g.S.SlotCalls.state c.suspect_as.new.stock in
    let unmarked = of-two a.memory fit.layout in
    filled-disk a b c.repair.new.table (g.S.Reclaim.counts c.suspect_as.new.stock) fit
    (returns-in_ok-repair-in-Some-clause-sound g c is) (returns-in_ok-repair-in-Some-clause-ends g c)
    (returns-in_ok-repair-in-Some-clause-journals g c firmly unmarked fit.journals is) (returns-in_ok-repair-in-Some-clause-store g c firmly unmarked fit.store is)
    (c.suspect_as.ensures.suspect firmly)
    (c.suspect_as.ensures.listed ∙ (c.in_ok-repair-in-Some.ensures.listed ∙ ap (λ (s : NorState). data_blocks s.memory) (sym c.suspect_as.ensures.state)))
