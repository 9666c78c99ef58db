use Rattle.std.proofs.Common.{◌≡◌, ℕ, ◌<◌, true, sym, subst, ap, ◌∙◌, length, inr}
use Rattle.std.specs.Prelude.{Some}
use Rattle.std.proofs.lemmas.Result.{IfOk-weaker}
use Rattle.chip_model.specs.Geometry.{sector_count}
use Rattle.sector_slots.specs.Slots.{slot_at, slot_count, data_blocks, kind_at, IsSpareIn}
use Rattle.sector_slots.specs.Blocks.{HasGroupRoom}
use Rattle.sector_map.specs.Found.{RoomSeen}
use Rattle.sector_map.specs.Table.{IsTabled}
use Rattle.sector_map.specs.Mending.{IsMixedPair, PairsSeen, HasDeadGroup}
use Rattle.sector_map.proofs.Grouping.{mixed-corrupt, pair-room}
use Rattle.sector_map.proofs.Mounting.{slots-alone, look-sound, spare-room, fits-none, found-none, bool-none}
use Rattle.erase_journal.specs.Steps.{RefusesFirmly}
use Rattle.nor_driver.proofs.CallLaws.{fails-as}
use Rattle.erase_journal.specs.Steps.{SucceedsSettled}
use Rattle.erase_journal.proofs.SettledLaws.{settled-after}
use Rattle.erase_journal.proofs.Firmly.{refuses-firmly, ends-firm}
use Rattle.sector_map.proofs.MapCalls.{perhaps-after, after-ok, after-fails}
use Rattle.sector_map.proofs.mount.look.Goals as goal

pub returns-in_default-clause-corrupt : goal.returns-in_default-clause-corrupt
returns-in_default-clause-corrupt g c e sound =
    c.in_ok-found.ensures.corrupt (found-none c.in_ok-found.field-0 c.in_default.not-Some) sound.blocks (slots-alone (g.S.SlotCalls.state c.args.stock.now).memory c.args.groups c.requires.groups sound)

pub returns-in_default-3-clause-corrupt : goal.returns-in_default-3-clause-corrupt
returns-in_default-3-clause-corrupt g c e sound =
    let m = (g.S.SlotCalls.state c.args.stock.now).memory in
    let t : IsTabled c.read_table.new.table (slot_at m) (slot_count m) = subst (λ z. IsTabled c.read_table.new.table (slot_at z) (slot_count z)) c.survey.ensures.same (c.in_ok-spare.ensures.tabled c.in-Some-2.spare c.in-Some-2.is) in
    let p = c.in_ok-pair.ensures.corrupt (bool-none c.in_ok-pair.field-0 c.in_default-3.not-Some) in
    let mixed : IsMixedPair c.read_table.new.table m p.0 = subst (λ z. IsMixedPair c.read_table.new.table z p.0) (c.read_table.ensures.same ∙ c.survey.ensures.same) p.1 in
    mixed-corrupt c.read_table.new.table m p.0 t mixed sound.groups.sectors

pub fit-requires-clause-pair : goal.fit-requires-clause-pair
fit-requires-clause-pair g c e =
    let m = (g.S.SlotCalls.state c.args.stock.now).memory in
    let same = c.read_table.ensures.same ∙ c.survey.ensures.same in
    let t : IsTabled c.read_table.new.table (slot_at m) (slot_count m) = subst (λ z. IsTabled c.read_table.new.table (slot_at z) (slot_count z)) c.survey.ensures.same (c.in_ok-spare.ensures.tabled c.in-Some-2.spare c.in-Some-2.is) in
    let apart : (h : ℕ) → IsMixedPair c.read_table.new.table m h → ⊥ = subst (λ z. (h : ℕ) → IsMixedPair c.read_table.new.table z h → ⊥) same (c.in_ok-pair.ensures.apart c.in-Some-3.pair c.in-Some-3.is) in
    let p : PairsSeen true c.read_table.new.table m = subst (λ z. PairsSeen z c.read_table.new.table m) e (subst (λ z. PairsSeen c.in-Some-3.pair c.read_table.new.table z) same (c.in_ok-pair.ensures.pair c.in-Some-3.pair c.in-Some-3.is)) in
    subst (λ z. HasGroupRoom (kind_at z) (data_blocks z)) (sym (c.has_pair.ensures.same ∙ same)) (pair-room c.read_table.new.table m p.0 t apart p.1)

pub fit-requires-clause-spare : goal.fit-requires-clause-spare
fit-requires-clause-spare g c e =
    let m = (g.S.SlotCalls.state c.args.stock.now).memory in
    subst (λ z. RoomSeen c.in-Some.found c.in-Some-2.spare z) (sym (c.has_pair.ensures.same ∙ (c.read_table.ensures.same ∙ c.survey.ensures.same)))
    (spare-room c.in-Some.found c.in-Some-2.spare m (c.in_ok-found.ensures.found c.in-Some.found c.in-Some.is) (λ q. subst (λ z. (b : ℕ) × ((b < data_blocks z) × IsSpareIn z b)) c.survey.ensures.same (c.in_ok-spare.ensures.spare (c.in-Some-2.is ∙ ap (λ z. Some z) q))) e)

pub returns-clause-sound : goal.returns-clause-sound
returns-clause-sound g c =
    let m = (g.S.SlotCalls.state c.args.stock.now).memory in
    let same = c.has_pair.ensures.same ∙ (c.read_table.ensures.same ∙ c.survey.ensures.same) in
    let t : IsTabled c.read_table.new.table (slot_at m) (slot_count m) = subst (λ z. IsTabled c.read_table.new.table (slot_at z) (slot_count z)) c.survey.ensures.same (c.in_ok-spare.ensures.tabled c.in-Some-2.spare c.in-Some-2.is) in
    let apart : (h : ℕ) → IsMixedPair c.read_table.new.table m h → ⊥ = subst (λ z. (h : ℕ) → IsMixedPair c.read_table.new.table z h → ⊥) (c.read_table.ensures.same ∙ c.survey.ensures.same) (c.in_ok-pair.ensures.apart c.in-Some-3.pair c.in-Some-3.is) in
    let size : length c.read_table.new.table ≡ sector_count (length m) = c.read_table.ensures.size ∙ c.requires.size in
    IfOk-weaker c.fit.result _ _ (λ answer h seen e. look-sound c.in-Some.found c.in-Some-2.spare c.args.groups c.read_table.new.table m (c.in_ok-found.ensures.found c.in-Some.found c.in-Some.is)
    (subst (λ z. RoomSeen c.in-Some.found c.in-Some-2.spare z) same (h seen e).1) c.requires.groups (c.in_ok-found.ensures.alone c.in-Some.found c.in-Some.is) apart t size) c.fit.ensures.some

pub returns-clause-corrupt : goal.returns-clause-corrupt
returns-clause-corrupt g c =
    let m = (g.S.SlotCalls.state c.args.stock.now).memory in
    let same = c.read_table.ensures.same ∙ c.survey.ensures.same in
    let t : IsTabled c.read_table.new.table (slot_at m) (slot_count m) = subst (λ z. IsTabled c.read_table.new.table (slot_at z) (slot_count z)) c.survey.ensures.same (c.in_ok-spare.ensures.tabled c.in-Some-2.spare c.in-Some-2.is) in
    let pairs : PairsSeen c.in-Some-3.pair c.read_table.new.table m = subst (λ z. PairsSeen c.in-Some-3.pair c.read_table.new.table z) same (c.in_ok-pair.ensures.pair c.in-Some-3.pair c.in-Some-3.is) in
    IfOk-weaker c.fit.result _ _ (λ answer h e sound.
    let n = h e in
    fits-none c.in-Some.found c.in-Some-2.spare c.read_table.new.table m (c.in_ok-found.ensures.found c.in-Some.found c.in-Some.is) n.0
    (λ q. subst (λ z. (b : ℕ) → b < data_blocks z → IsSpareIn z b → ⊥) c.survey.ensures.same (c.in_ok-spare.ensures.not_spare (c.in-Some-2.is ∙ ap (λ z. Some z) q))) t (subst (λ z. PairsSeen z c.read_table.new.table m) n.1 pairs)
    (λ d. n.2 (subst (λ z. HasDeadGroup z) (sym (c.has_pair.ensures.same ∙ same)) d)) sound) c.fit.ensures.none

pub returns-in_err-pair-clause-ends : goal.returns-in_err-pair-clause-ends
returns-in_err-pair-clause-ends g c =
    let s0 = g.S.SlotCalls.state c.args.stock.now in
    let s1 = g.S.SlotCalls.state c.survey.new.slots in
    let s2 = g.S.SlotCalls.state c.read_table.new.slots in
    let s3 = g.S.SlotCalls.state c.has_pair.new.slots in
    fails-as c.from_residual-in_err-pair.result _ (λ _. SucceedsSettled s0 s3) (λ e. RefusesFirmly e s0 s3) c.from_residual-in_err-pair.ensures.1
    (refuses-firmly _ s0 s2 s3 (settled-after s0 s1 s2 c.in_ok-found.ensures.ends c.in_ok-spare.ensures.ends) c.in_err-pair.ensures.fails)

pub returns-in_default-3-clause-ends : goal.returns-in_default-3-clause-ends
returns-in_default-3-clause-ends g c =
    let s0 = g.S.SlotCalls.state c.args.stock.now in
    let s1 = g.S.SlotCalls.state c.survey.new.slots in
    let s2 = g.S.SlotCalls.state c.read_table.new.slots in
    let s3 = g.S.SlotCalls.state c.has_pair.new.slots in
    perhaps-after s0 s2 s3 (settled-after s0 s1 s2 c.in_ok-found.ensures.ends c.in_ok-spare.ensures.ends) c.in_ok-pair.ensures.done

pub returns-clause-ends : goal.returns-clause-ends
returns-clause-ends g c =
    let s0 = g.S.SlotCalls.state c.args.stock.now in
    let s1 = g.S.SlotCalls.state c.survey.new.slots in
    let s2 = g.S.SlotCalls.state c.read_table.new.slots in
    let s3 = g.S.SlotCalls.state c.has_pair.new.slots in
    let s4 = g.S.SlotCalls.state c.fit.new.slots in
    let done = perhaps-after s0 s2 s3 (settled-after s0 s1 s2 c.in_ok-found.ensures.ends c.in_ok-spare.ensures.ends) c.in_ok-pair.ensures.done in
    ends-firm c.fit.result s0 s4 (after-ok c.fit.result _ _ (λ h. perhaps-after s0 s3 s4 done h) c.fit.ensures.done) (after-fails c.fit.result s0 s3 s4 (inr done) c.fit.ensures.fails)

pub returns-in_err-spare-clause-ends : goal.returns-in_err-spare-clause-ends
returns-in_err-spare-clause-ends g c =
    let s0 = g.S.SlotCalls.state c.args.stock.now in
    let s1 = g.S.SlotCalls.state c.survey.new.slots in
    let s2 = g.S.SlotCalls.state c.read_table.new.slots in
    fails-as c.from_residual-in_err-spare.result _ (λ _. SucceedsSettled s0 s2) (λ e. RefusesFirmly e s0 s2) c.from_residual-in_err-spare.ensures.1
    (refuses-firmly _ s0 s1 s2 c.in_ok-found.ensures.ends c.in_err-spare.ensures.ends)
