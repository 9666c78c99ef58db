use Rattle.std.proofs.Common.{◌≡◌, ◌∙◌, sym, subst, ap, length}
use Rattle.sector_survey.specs.Cleanness.{HasFreeErased}
use Rattle.sector_survey.proofs.Cleaning.{erased-back}
use Rattle.sector_survey.proofs.image.with_free_groups_erased.Goals as goal

pub returns-in-Ok-erase_free_blocks-clause-size : goal.returns-in-Ok-erase_free_blocks-clause-size
returns-in-Ok-erase_free_blocks-clause-size c =
    let new = c.into_inner-in-Ok-erase_free_blocks-2.result.items in
    let end : new ≡ c.erase_free_blocks.new.journal.memory = c.into_inner-in-Ok-erase_free_blocks-2.ensures ∙ (c.into_inner-in-Ok-erase_free_blocks.ensures.memory ∙ c.into_inner.ensures.memory) in
    let h : HasFreeErased c.in-Ok.journal.memory new = subst (λ z. HasFreeErased c.in-Ok.journal.memory z) (sym end) c.in-Ok-erase_free_blocks.ensures.erased in
    h.size ∙ (c.in-Ok.ensures.ok.blocks.chip.same_length ∙ ap length (c.in_ok-chip.ensures ∙ c.as_slice-2.ensures.value))

pub returns-in-Ok-erase_free_blocks-clause-erased : goal.returns-in-Ok-erase_free_blocks-clause-erased
returns-in-Ok-erase_free_blocks-clause-erased c is healthy =
    let new = c.into_inner-in-Ok-erase_free_blocks-2.result.items in
    let end : new ≡ c.erase_free_blocks.new.journal.memory = c.into_inner-in-Ok-erase_free_blocks-2.ensures ∙ (c.into_inner-in-Ok-erase_free_blocks.ensures.memory ∙ c.into_inner.ensures.memory) in
    let h : HasFreeErased c.in-Ok.journal.memory new = subst (λ z. HasFreeErased c.in-Ok.journal.memory z) (sym end) c.in-Ok-erase_free_blocks.ensures.erased in
    subst (λ z. HasFreeErased z new) (c.in_ok-chip.ensures ∙ c.as_slice-2.ensures.value) (erased-back _ c.in-Ok.journal.memory new c.in-Ok.ensures.ok.blocks h)
