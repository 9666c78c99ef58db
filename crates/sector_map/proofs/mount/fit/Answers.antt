use Rattle.std.proofs.Common.{◌≡◌, ◌⊎◌, true, sym, ◌∙◌, inl, inr}
use Rattle.sector_map.specs.Found.{leaves_room}
use Rattle.sector_map.proofs.Mounting.{pair-seen, dead-seen, same-seen}
use Rattle.sector_map.proofs.mount.fit.Goals as goal
use Rattle.sector_map.proofs.mount.fit.Goals.{then-has_room-via-then-has_room, then-has_room-via-else-has_room+then-pair}

pub returns-then-has_room-clause-some : goal.returns-then-has_room-clause-some
returns-then-has_room-clause-some g c fits e =
    let either : (leaves_room c.args.seen.found c.args.seen.spare ≡ true) ⊎ (c.args.pair ≡ true) = elim c.then-has_room.branch as (λ _. (leaves_room c.args.seen.found c.args.seen.spare ≡ true) ⊎ (c.args.pair ≡ true)) [
      | then-has_room-via-then-has_room w ↦ inl (sym c.has_room.ensures ∙ w.if-has_room.true)
      | then-has_room-via-else-has_room+then-pair w ↦ inr w.if-pair.true
    ] in
    (same-seen c.args.seen fits e, pair-seen c.args.seen.found c.args.seen.spare c.args.pair (g.S.SlotCalls.state c.args.slots.now).memory c.requires.spare c.requires.pair either)

pub returns-in-Some-clause-some : goal.returns-in-Some-clause-some
returns-in-Some-clause-some g c fits e =
    (same-seen c.args.seen fits e, dead-seen c.args.seen.found c.args.seen.spare (g.S.SlotCalls.state c.args.slots.now).memory c.in-Some.field-0 c.requires.spare (c.in_ok-lowest_dead_group.ensures.some c.in-Some.field-0 c.in-Some.is))
