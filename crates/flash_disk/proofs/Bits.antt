-- The bits of a chip that a probe found.
use Rattle.std.proofs.Common.{◌≡◌, ℕ, true, refl, ap, ◌∙◌, subst}
use Rattle.chip_model.specs.Chip.{Chip, Operation, Idle, Programming, Erasing, Setting, is_idle}
use Rattle.chip_model.specs.Cut.{TornMemory, weakened}
use Rattle.chip_model.specs.Wavering.{bits_of}
use Rattle.nor_driver.specs.State.{NorState, bits_in}
use Rattle.nor_driver.specs.Shown.{Found}
use Rattle.erase_journal.proofs.Drawing.{same-bits}

nothing : (op : Operation) → is_idle op ≡ true → op ≡ Idle
nothing Idle e = refl
nothing (Programming at bytes) e = absurd (cc e)
nothing (Erasing at size) e = absurd (cc e)
nothing (Setting value) e = absurd (cc e)

-- where nothing was in progress they are as they were
pub found-bits : (c : Chip) (cuts slows : ℕ) (s : NorState) → is_idle c.operation ≡ true → Found c cuts slows s → bits_in s ≡ bits_of c
found-bits c cuts slows s idle f =
    let e = nothing c.operation idle in
    let off = f.woken.off in
    let memory : off.memory ≡ c.memory = subst (λ (op : Operation). TornMemory op c.memory off.memory) e f.woken.left.memory in
    let weak : off.weak ≡ c.weak = f.woken.left.weak ∙ ap (λ (op : Operation). weakened op c.memory c.weak) e in
    let shown : s.memory ≡ c.memory = ap (λ (z : NorState). z.memory) f.state_is ∙ (ap (λ (z : Chip). z.memory) f.woken.on ∙ memory) in
    let faint : s.weak ≡ c.weak = ap (λ (z : NorState). z.weak) f.state_is ∙ (ap (λ (z : Chip). z.weak) f.woken.on ∙ weak) in
    same-bits s.memory c.memory s.weak c.weak shown faint
