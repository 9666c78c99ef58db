use Rattle.std.proofs.Common.{◌≡◌, ℕ, List, sym, subst, ap, ◌∙◌}
use mathlib.Core.List.{IsPrefix}
use Rattle.nbd_history.specs.declared.note.Note.{Note}
use Rattle.nbd_history.specs.Notes.{entries_of, entries_by}
use Rattle.nbd_history.proofs.Meeting.{Meets, meets}
use Rattle.nbd_history.proofs.keeper.Keeper.meet.Goals as goal

pub returns-clause-before : goal.returns-clause-before
returns-clause-before g c =
    let keep = c.self.inside.seen.log in
    let hand = c.hand.inside.seen.log in
    let both = c.learn.new.self.log in
    let kp : IsPrefix keep both = subst (λ (s : List (Note g.row.E.Denot)). IsPrefix s both) (ap (λ s. s.log) c.again-both.ensures) c.learn.ensures.2 in
    let m = meets g.E.OfHand.by c.hand.inside.by hand keep both c.self.inside.pen.nib.key c.hand.inside.word.key c.counted-found.result kp c.learn.ensures.3 c.counted-found.ensures.whole c.self.invariant.3 c.counted-found.ensures.counts
    (ap (λ w. w.key) c.hand.invariant.0) c.hand.invariant.2 (c.if-found-hand.false ∙ c.hand.invariant.3) in
    rw (← ap (λ s. s.seen) c.hand.view_is, ← c.self.view_is) m.before

pub returns-clause-own : goal.returns-clause-own
returns-clause-own g c =
    let keep = c.self.inside.seen.log in
    let hand = c.hand.inside.seen.log in
    let both = c.learn.new.self.log in
    let kp : IsPrefix keep both = subst (λ (s : List (Note g.row.E.Denot)). IsPrefix s both) (ap (λ s. s.log) c.again-both.ensures) c.learn.ensures.2 in
    let m = meets g.E.OfHand.by c.hand.inside.by hand keep both c.self.inside.pen.nib.key c.hand.inside.word.key c.counted-found.result kp c.learn.ensures.3 c.counted-found.ensures.whole c.self.invariant.3 c.counted-found.ensures.counts
    (ap (λ w. w.key) c.hand.invariant.0) c.hand.invariant.2 (c.if-found-hand.false ∙ c.hand.invariant.3) in
    rw (← ap (λ s. s.by) c.hand.view_is, ← ap (λ s. s.seen) c.hand.view_is, ← c.self.view_is) m.own
