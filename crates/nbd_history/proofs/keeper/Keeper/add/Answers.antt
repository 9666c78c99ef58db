use Rattle.std.proofs.Common.{◌≡◌, ℕ, ◌+◌, [], ◌∷◌, ◌++◌, List, sym, subst, ap, ◌∙◌}
use mathlib.Core.List.{IsPrefix}
use Rattle.nbd_history.specs.declared.note.Note.{Note}
use Rattle.nbd_history.specs.Notes.{entries_of, entries_by}
use Rattle.nbd_history.proofs.Steps.{adds_moves}
use Rattle.nbd_history.proofs.Meeting.{Added, added}
use Rattle.nbd_history.proofs.keeper.Keeper.add.Goals as goal

pub compare_exchange-found-requires : goal.compare_exchange-found-requires
compare_exchange-found-requires g c =
    let offer = c.plain-offer.ensures in
    let keep = c.self.inside.seen.log in
    let both = c.learn.new.self.log in
    let kp : IsPrefix keep both = subst (λ (s : List (Note g.row.E.Denot)). IsPrefix s both) (ap (λ s. s.log) c.again-both.ensures) c.learn.ensures.2 in
    let word = c.hand.invariant.0 in
    let book = c.learn.ensures.0 ∙ (ap (λ s. s.book) c.again-both.ensures ∙ c.self.invariant.0) in
    let theirs = sym (ap (λ w. w.book) word) in
    let own : g.E.OfHand.by (g.M.Says.says c.args.about.now) ≡ c.hand.inside.by = c.requires.by ∙ sym (ap (λ s. s.by) c.hand.view_is) in (
      ap (λ w. w.tracked) word,
      book ∙ theirs,
      c.self.invariant.1 ∙ theirs,
      offer.0,
      rw (ap (λ w. w.key) word, offer.3) (adds_moves g.E.OfHand.by both keep c.self.inside.pen.nib c.hand.inside.by c.hand.inside.count c.plain-offer.result.ask (g.M.Says.says c.args.about.now) c.hand.invariant.2
          (ap (λ n. n.what) offer.1) own c.self.invariant.2 kp c.self.invariant.3),
    )

pub returns-clause-added : goal.returns-clause-added
returns-clause-added g c =
    let keep = c.self.inside.seen.log in
    let hand = c.hand.inside.seen.log in
    let both = c.learn.new.self.log in
    let e = g.M.Says.says c.args.about.now in
    let kp : IsPrefix keep both = subst (λ (s : List (Note g.row.E.Denot)). IsPrefix s both) (ap (λ s. s.log) c.again-both.ensures) c.learn.ensures.2 in
    let own : g.E.OfHand.by e ≡ c.hand.inside.by = c.requires.by ∙ sym (ap (λ s. s.by) c.hand.view_is) in
    let a = added g.E.OfHand.by c.hand.inside.by hand keep both c.compare_exchange-found.new.seen.log c.plain-offer.result.ask e c.self.inside.pen.nib.key c.hand.inside.word.key c.compare_exchange-found.result c.hand.inside.count
    kp c.learn.ensures.3 c.self.invariant.3 (ap (λ w. w.key) c.hand.invariant.0) c.hand.invariant.2 c.if-found-count.false c.hand.invariant.3 (ap (λ n. n.what) c.plain-offer.ensures.1) own c.compare_exchange-found.ensures.7 in
    rw (← c.self.view_is) a.more

pub returns-clause-before : goal.returns-clause-before
returns-clause-before g c =
    let keep = c.self.inside.seen.log in
    let hand = c.hand.inside.seen.log in
    let both = c.learn.new.self.log in
    let e = g.M.Says.says c.args.about.now in
    let kp : IsPrefix keep both = subst (λ (s : List (Note g.row.E.Denot)). IsPrefix s both) (ap (λ s. s.log) c.again-both.ensures) c.learn.ensures.2 in
    let own : g.E.OfHand.by e ≡ c.hand.inside.by = c.requires.by ∙ sym (ap (λ s. s.by) c.hand.view_is) in
    let a = added g.E.OfHand.by c.hand.inside.by hand keep both c.compare_exchange-found.new.seen.log c.plain-offer.result.ask e c.self.inside.pen.nib.key c.hand.inside.word.key c.compare_exchange-found.result c.hand.inside.count
    kp c.learn.ensures.3 c.self.invariant.3 (ap (λ w. w.key) c.hand.invariant.0) c.hand.invariant.2 c.if-found-count.false c.hand.invariant.3 (ap (λ n. n.what) c.plain-offer.ensures.1) own c.compare_exchange-found.ensures.7 in
    rw (← ap (λ s. s.seen) c.hand.view_is, ← c.self.view_is) a.met.before

pub returns-clause-own : goal.returns-clause-own
returns-clause-own g c =
    let keep = c.self.inside.seen.log in
    let hand = c.hand.inside.seen.log in
    let both = c.learn.new.self.log in
    let e = g.M.Says.says c.args.about.now in
    let kp : IsPrefix keep both = subst (λ (s : List (Note g.row.E.Denot)). IsPrefix s both) (ap (λ s. s.log) c.again-both.ensures) c.learn.ensures.2 in
    let own : g.E.OfHand.by e ≡ c.hand.inside.by = c.requires.by ∙ sym (ap (λ s. s.by) c.hand.view_is) in
    let a = added g.E.OfHand.by c.hand.inside.by hand keep both c.compare_exchange-found.new.seen.log c.plain-offer.result.ask e c.self.inside.pen.nib.key c.hand.inside.word.key c.compare_exchange-found.result c.hand.inside.count
    kp c.learn.ensures.3 c.self.invariant.3 (ap (λ w. w.key) c.hand.invariant.0) c.hand.invariant.2 c.if-found-count.false c.hand.invariant.3 (ap (λ n. n.what) c.plain-offer.ensures.1) own c.compare_exchange-found.ensures.7 in
    rw (← ap (λ s. s.by) c.hand.view_is, ← ap (λ s. s.seen) c.hand.view_is, ← c.self.view_is) a.met.own

pub invariant_of-hand : goal.invariant_of-hand
invariant_of-hand g c =
    let keep = c.self.inside.seen.log in
    let hand = c.hand.inside.seen.log in
    let both = c.learn.new.self.log in
    let e = g.M.Says.says c.args.about.now in
    let kp : IsPrefix keep both = subst (λ (s : List (Note g.row.E.Denot)). IsPrefix s both) (ap (λ s. s.log) c.again-both.ensures) c.learn.ensures.2 in
    let own : g.E.OfHand.by e ≡ c.hand.inside.by = c.requires.by ∙ sym (ap (λ s. s.by) c.hand.view_is) in
    let a = added g.E.OfHand.by c.hand.inside.by hand keep both c.compare_exchange-found.new.seen.log c.plain-offer.result.ask e c.self.inside.pen.nib.key c.hand.inside.word.key c.compare_exchange-found.result c.hand.inside.count
    kp c.learn.ensures.3 c.self.invariant.3 (ap (λ w. w.key) c.hand.invariant.0) c.hand.invariant.2 c.if-found-count.false c.hand.invariant.3 (ap (λ n. n.what) c.plain-offer.ensures.1) own c.compare_exchange-found.ensures.7 in (
      c.hand.invariant.0,
      ap (λ s. s.book) c.again.ensures ∙ (c.compare_exchange-found.ensures.0 ∙ (c.learn.ensures.0 ∙ (ap (λ s. s.book) c.again-both.ensures ∙ c.self.invariant.0))),
      c.hand.invariant.2,
      rw (ap (λ s. s.log) c.again.ensures) a.long,
    )
