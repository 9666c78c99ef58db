use Rattle.chip_model.specs.Wavering.{Bits}
use Rattle.std.proofs.lemmas.Bool.{cases_lt}
use Rattle.std.proofs.Common.{inl, inr, ◌*◌, ◌<◌, ◌≤◌, ◌⊎◌, ◌+◌, ◌∷◌, [], ◌∙◌, ap, subst, refl, arith}
use Rattle.std.proofs.lemmas.Result.{err_from_is_err_and}
use Rattle.chip_model.specs.Memory.{and_at, TornAnd}
use Rattle.nor_driver.specs.State.{Leaves}
use Rattle.erase_journal.proofs.BlockLaws.{length-block}
use Rattle.sector_slots.specs.Slots.{data_block}
use Rattle.journal_slots.specs.Programs.{OnlyBytes}
use Rattle.journal_slots.proofs.Bytes.{leaves-only, and-only, descriptor-place}
use Rattle.journal_slots.proofs.Places.{retired, retire-cut}
use Rattle.nor_driver.specs.State.{bits_in}
use Rattle.sector_slots.specs.Weak.{block_place}
use Rattle.sector_slots.proofs.FirmLaws.{programmed-for-good}
use Rattle.journal_slots.proofs.slot.retire_slot.Goals as goal

pub returns-in_err-program_bytes-clause-cut : goal.returns-in_err-program_bytes-clause-cut
returns-in_err-program_bytes-clause-cut g c is live slots =
    let p = err_from_is_err_and c.from_residual.result c.from_residual.ensures.1 in
    let m = c.args.journal.now.memory in
    let b = data_block m c.args.block in
    let t = data_block c.program_bytes.new.journal.memory c.args.block in
    let (tag, x, e) = live in
    retire-cut c.args.place b t tag x c.requires.place (length-block m (c.args.block + 4) (omega (arith, c.requires.number))) e
    (subst (λ a. Leaves b (TornAnd b a (248 ∷ [])) (and_at b a (248 ∷ [])) t) c.descriptor_place.ensures (c.in_err-program_bytes.ensures.cut (cc (p.1, p.2)))) slots

pub returns-in_err-program_bytes-clause-cut_within : goal.returns-in_err-program_bytes-clause-cut_within
returns-in_err-program_bytes-clause-cut_within g c is =
    let p = err_from_is_err_and c.from_residual.result c.from_residual.ensures.1 in
    let m = c.args.journal.now.memory in
    let b = data_block m c.args.block in
    let t = data_block c.program_bytes.new.journal.memory c.args.block in
    descriptor-place c.args.place 1 b t (omega arith) (subst (λ a. OnlyBytes a 1 b t) c.descriptor_place.ensures
    (leaves-only b (248 ∷ []) t c.descriptor_place.result (length-block m (c.args.block + 4) (omega (arith, c.requires.number))) (c.in_err-program_bytes.ensures.cut (cc (p.1, p.2)))))

pub returns-clause-ok : goal.returns-clause-ok
returns-clause-ok g c slots =
    let m = c.args.journal.now.memory in
    let b = data_block m c.args.block in
    retired c.args.place b (data_block c.program_bytes.new.journal.memory c.args.block) c.requires.place (length-block m (c.args.block + 4) (omega (arith, c.requires.number)))
    (c.in_ok-program_bytes.ensures.ok ∙ ap (λ a. and_at b a (248 ∷ [])) c.descriptor_place.ensures) slots

pub returns-clause-within : goal.returns-clause-within
returns-clause-within g c =
    let b = data_block c.args.journal.now.memory c.args.block in
    let t = data_block c.program_bytes.new.journal.memory c.args.block in
    descriptor-place c.args.place 1 b t (omega arith) (subst (λ a. OnlyBytes a 1 b t) c.descriptor_place.ensures (and-only b (248 ∷ []) t c.descriptor_place.result c.in_ok-program_bytes.ensures.ok))

pub returns-clause-for_good : goal.returns-clause-for_good
returns-clause-for_good g c =
    programmed-for-good (bits_in c.args.journal.now) (bits_in c.program_bytes.new.journal) c.args.block c.args.place 248 c.requires.place refl c.in_ok-program_bytes.ensures.ends.settled
    (c.in_ok-program_bytes.ensures.ok ∙ ap (λ a. and_at (data_block c.args.journal.now.memory c.args.block) a (248 ∷ [])) c.descriptor_place.ensures)
    (ap (λ (x : Bits). x.weak) c.in_ok-program_bytes.ensures.firm ∙ ap (λ a. and_at c.args.journal.now.weak (block_place c.args.block + a) (248 ∷ [])) c.descriptor_place.ensures)

pub returns-clause-states : goal.returns-clause-states
returns-clause-states g c i low other =
    let b = data_block c.args.journal.now.memory c.args.block in
    let t = data_block c.program_bytes.new.journal.memory c.args.block in
    let only = subst (λ a. OnlyBytes a 1 b t) c.descriptor_place.ensures (and-only b (248 ∷ []) t c.descriptor_place.result c.in_ok-program_bytes.ensures.ok) in
    only.each (16 + 4 * i) (omega (arith, low)) (elim (cases_lt i c.args.place) as (λ _. (16 + 4 * i < 16 + 4 * c.args.place) ⊎ (16 + 4 * c.args.place + 1 ≤ 16 + 4 * i)) [
      | inl below ↦ inl (omega (arith, below))
      | inr above ↦ inr (omega (arith, above, other))
    ])
