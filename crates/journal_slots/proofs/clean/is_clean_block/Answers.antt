use Rattle.std.proofs.Common.{◌∙◌, sym}
use Rattle.journal_slots.proofs.Cleaning.{heads-clean, clean-heads, heads-free, free-heads, erased-is-blank, blank-is-erased}
use Rattle.journal_slots.proofs.clean.is_clean_block.Goals as goal
use Rattle.journal_slots.proofs.clean.is_clean_block.Goals.{else-is_plain-via-then-is_plain+else-all_free, else-is_plain-via-else-is_plain}

pub returns-then-not-are_places_clean-clause-not_clean : goal.returns-then-not-are_places_clean-clause-not_clean
returns-then-not-are_places_clean-clause-not_clean c is w =
    c.are_places_clean.ensures.not_clean (cc c.if-not-are_places_clean.true) (heads-clean c.args.bytes.now c.head_of_block-head.result.places c.head_of_block-head.ensures.places w)

pub returns-then-all_free-clause-clean : goal.returns-then-all_free-clause-clean
returns-then-all_free-clause-clean c is = record {
  slots = clean-heads c.args.bytes.now c.head_of_block-head.result.places c.head_of_block-head.ensures.places (c.are_places_clean.ensures.clean (cc c.if-not-are_places_clean.false));
  spare = λ plain free. erased-is-blank c.args.bytes.now c.requires.size (c.is_erased.ensures.erased is);
}

pub returns-then-all_free-clause-not_clean : goal.returns-then-all_free-clause-not_clean
returns-then-all_free-clause-not_clean c is w =
    c.is_erased.ensures.not_erased is (blank-is-erased c.args.bytes.now (w.spare (sym c.head_of_block-head.ensures.kind ∙ c.is_plain.ensures.plain (cc c.if-is_plain.true))
    (heads-free c.args.bytes.now c.head_of_block-head.result.places c.head_of_block-head.ensures.places (c.all_free.ensures.free (cc c.if-all_free.true)))))

pub returns-else-is_plain-clause-clean : goal.returns-else-is_plain-clause-clean
returns-else-is_plain-clause-clean c is = record {
  slots = clean-heads c.args.bytes.now c.head_of_block-head.result.places c.head_of_block-head.ensures.places (c.are_places_clean.ensures.clean (cc c.if-not-are_places_clean.false));
  spare = λ plain free. absurd (elim c.else-is_plain.branch as (λ _. ⊥) [
    | else-is_plain-via-then-is_plain+else-all_free w ↦ w.all_free.ensures.not_free (cc w.if-all_free.false) (free-heads c.args.bytes.now c.head_of_block-head.result.places c.head_of_block-head.ensures.places free)
    | else-is_plain-via-else-is_plain w ↦ c.is_plain.ensures.not_plain (cc w.if-is_plain.false) (c.head_of_block-head.ensures.kind ∙ plain)
  ]);
}
