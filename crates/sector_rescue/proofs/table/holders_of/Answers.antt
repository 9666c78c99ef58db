use Rattle.std.proofs.Common.{◌≡◌, ◌∙◌, ◌<◌, ap, arith, length, rules, sym}
use Rattle.std.proofs.lemmas.List.{get_or-replicate, length-replicate}
use Rattle.std.specs.Prelude.{replicate, slice_index_or}
use Rattle.sector_rescue.specs.Rescue.{none_held, said_at}
use Rattle.sector_rescue.proofs.Holding.{holders-none}
use Rattle.sector_rescue.proofs.table.holders_of.Goals as goal

pub note_slots-requires-clause-none : goal.note_slots-requires-clause-none
note_slots-requires-clause-none c =
    let n = c.in-Some.chip.sectors in
    let items : c.as_mut_slice.result.now ≡ replicate n none_held = c.as_mut_slice.ensures.value ∙ c.in_ok-table.ensures.items_if_clones_equal (λ y h. search rules) in
    let long : length c.as_mut_slice.result.now ≡ n = ap length items ∙ length-replicate n none_held in
    record {
      size = long ∙ c.in-Some.ensures.sectors;
      each = λ g low.
          let inside : g < n = omega (arith, low, long) in
          ap (λ t. slice_index_or t g none_held) items ∙ (get_or-replicate n g none_held none_held inside ∙ sym (holders-none (said_at c.args.layout c.args.image.now) g));
    }
