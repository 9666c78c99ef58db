use Rattle.std.proofs.Common.{◌≡◌, ◌+◌, ◌*◌, ◌<◌, ℕ, ◌∙◌, ap, subst, [], ◌∷◌}
use Rattle.std.specs.Prelude.{drop, slice_index_or}
use Rattle.nor_layout.specs.declared.header.Header.TheVariants as headers
use Rattle.nor_layout.specs.Headers.{header_of}
use Rattle.sector_slots.specs.Slots.{header_in}
use Rattle.journal_slots.proofs.Reading.{seven-headers}
use Rattle.journal_slots.proofs.head.head_of.Goals as goal

pub returns-clause-places : goal.returns-clause-places
returns-clause-places c =
    let h = c.args.head.now in
    let k = c.block_kind-kind.result in
    let list = c.seen.result ∷ c.seen-2.result ∷ c.seen-3.result ∷ c.seen-4.result ∷ c.seen-5.result ∷ c.seen-6.result ∷ c.seen-7.result ∷ [] in
    subst (λ q. (i : ℕ) → i < 7 → slice_index_or list i headers.Free ≡ header_in q (header_of (drop (16 + 4 * i) h)) i) c.block_kind-kind.ensures.exact
    (seven-headers k h c.seen.result c.seen-2.result c.seen-3.result c.seen-4.result c.seen-5.result c.seen-6.result c.seen-7.result (c.seen.ensures ∙ ap (λ w. header_in k w 0) c.place_state.ensures)
    (c.seen-2.ensures ∙ ap (λ w. header_in k w 1) c.place_state-2.ensures) (c.seen-3.ensures ∙ ap (λ w. header_in k w 2) c.place_state-3.ensures) (c.seen-4.ensures ∙ ap (λ w. header_in k w 3) c.place_state-4.ensures)
    (c.seen-5.ensures ∙ ap (λ w. header_in k w 4) c.place_state-5.ensures) (c.seen-6.ensures ∙ ap (λ w. header_in k w 5) c.place_state-6.ensures) (c.seen-7.ensures ∙ ap (λ w. header_in k w 6) c.place_state-7.ensures))
