-- Journals that are sound in a phase have no fault, and journals without a fault are sound in a phase.
use Rattle.std.proofs.Common.{◌≡◌, ◌⊎◌, ℕ, ◌+◌, ◌≤◌, refl, sym, ◌∙◌, arith, inl, inr}
use Rattle.std.specs.Prelude.{Bool, nat_lt, ◌&&◌, if◌then◌else◌}
use Rattle.std.proofs.lemmas.Bool.{cases_lt}
use Rattle.std.proofs.lemmas.Bool.Decides.{nat_tests}
use Rattle.nor_layout.specs.declared.journal.JournalId.{JournalId}
use Rattle.nor_layout.specs.declared.journal.JournalId.TheVariants.{J0, J1, J2}
use Rattle.nor_layout.specs.Journals.{next}
use Rattle.erase_journal.specs.declared.phase.ErasePhase.{ErasePhase}
use Rattle.erase_journal.specs.declared.phase.ErasePhase.TheVariants.{Idle, Asked, Doomed, Closing}
use Rattle.erase_journal.specs.declared.tally.JournalTally.{JournalTally}
use Rattle.erase_journal.specs.Journals.{first, second, IsInPhase, IsSoundTally}
use Rattle.erase_journal.specs.Faults.{IsDoomed, IsBelieved, after_next, HasVote, TallyHasNoFault, SoundTallyHasNoFault}

-- no byte is wrong, and of the open votes and entries there is one at most
record IsCalm (s : JournalTally) : Type 0 where
  w10 : s.j1_for_0.wrong ≡ 0
  w20 : s.j2_for_0.wrong ≡ 0
  w21 : s.j2_for_1.wrong ≡ 0
  w01 : s.j0_for_1.wrong ≡ 0
  w02 : s.j0_for_2.wrong ≡ 0
  w12 : s.j1_for_2.wrong ≡ 0
  one : s.j1_for_0.opened + s.j2_for_0.opened + s.j2_for_1.opened + s.j0_for_1.opened + s.j0_for_2.opened + s.j1_for_2.opened + s.opened ≤ 1

-- the faults but for votes that don't last
record IsOrdered (s : JournalTally) : Type 0 where
  one_doomed : (x : JournalId) → IsDoomed s x → IsDoomed s (next x) → ⊥
  first_votes : (x : JournalId) → IsBelieved s (next x) → ((first s x).wrong ≡ 0) × (IsBelieved s x → (first s x).opened ≤ 1)
  second_votes : (x : JournalId) → IsBelieved s (after_next x) → ((second s x).wrong ≡ 0) × ((second s x).opened ≤ 1)
  one_named : (x : JournalId) → HasVote s x → HasVote s (next x) → ⊥
  one_entry : IsBelieved s J0 → s.opened ≤ 1
  entry_alone : (x : JournalId) → IsBelieved s J0 → 1 ≤ s.opened → HasVote s x → ⊥

-- an open vote, believed or not
some-vote : (s : JournalTally) (x : JournalId) → HasVote s x → 1 ≤ (first s x).opened + (second s x).opened
some-vote s x (inl v) = let o = v.1 in omega arith
some-vote s x (inr v) = let o = v.1 in omega arith

calm-doomed : (s : JournalTally) → IsCalm s → (x : JournalId) → IsDoomed s x → IsDoomed s (next x) → ⊥
calm-doomed s c J0 d e = let o = c.one in omega arith
calm-doomed s c J1 d e = let o = c.one in omega arith
calm-doomed s c J2 d e = let o = c.one in omega arith

calm-first : (s : JournalTally) → IsCalm s → (x : JournalId) → ((first s x).wrong ≡ 0) × (IsBelieved s x → (first s x).opened ≤ 1)
calm-first s c J0 = (c.w10, λ b. omega arith)
calm-first s c J1 = (c.w21, λ b. omega arith)
calm-first s c J2 = (c.w02, λ b. omega arith)

calm-second : (s : JournalTally) → IsCalm s → (x : JournalId) → ((second s x).wrong ≡ 0) × ((second s x).opened ≤ 1)
calm-second s c J0 = (c.w20, omega arith)
calm-second s c J1 = (c.w01, omega arith)
calm-second s c J2 = (c.w12, omega arith)

calm-named : (s : JournalTally) → IsCalm s → (x : JournalId) → HasVote s x → HasVote s (next x) → ⊥
calm-named s c J0 v w = let o = c.one in let a = some-vote s J0 v in let b = some-vote s J1 w in omega arith
calm-named s c J1 v w = let o = c.one in let a = some-vote s J1 v in let b = some-vote s J2 w in omega arith
calm-named s c J2 v w = let o = c.one in let a = some-vote s J2 v in let b = some-vote s J0 w in omega arith

calm-alone : (s : JournalTally) → IsCalm s → (x : JournalId) → 1 ≤ s.opened → HasVote s x → ⊥
calm-alone s c J0 e v = let o = c.one in let a = some-vote s J0 v in omega arith
calm-alone s c J1 e v = let o = c.one in let a = some-vote s J1 v in omega arith
calm-alone s c J2 e v = let o = c.one in let a = some-vote s J2 v in omega arith

calm-ordered : (s : JournalTally) → IsCalm s → IsOrdered s
calm-ordered s c = record {
  one_doomed = calm-doomed s c;
  first_votes = λ x b. calm-first s c x;
  second_votes = λ x b. calm-second s c x;
  one_named = calm-named s c;
  one_entry = λ b. omega arith;
  entry_alone = λ x b. calm-alone s c x;
}

idle-calm : (s : JournalTally) → IsInPhase Idle s → IsCalm s
idle-calm s p = record { w10 = p.0.0.1; w20 = p.0.1.1; w21 = p.1.0.1; w01 = p.1.1.1; w02 = p.2.0.1; w12 = p.2.1.1; one = omega arith }

asked-calm : (x : JournalId) (s : JournalTally) → IsInPhase (Asked x) s → IsCalm s
asked-calm J0 s p = record { w10 = omega arith; w20 = omega arith; w21 = omega arith; w01 = omega arith; w02 = omega arith; w12 = omega arith; one = omega arith }
asked-calm J1 s p = record { w10 = omega arith; w20 = omega arith; w21 = omega arith; w01 = omega arith; w02 = omega arith; w12 = omega arith; one = omega arith }
asked-calm J2 s p = record { w10 = omega arith; w20 = omega arith; w21 = omega arith; w01 = omega arith; w02 = omega arith; w12 = omega arith; one = omega arith }

closing-calm : (x : JournalId) (s : JournalTally) → IsInPhase (Closing x) s → IsCalm s
closing-calm J0 s p = record { w10 = omega arith; w20 = omega arith; w21 = omega arith; w01 = omega arith; w02 = omega arith; w12 = omega arith; one = omega arith }
closing-calm J1 s p = record { w10 = omega arith; w20 = omega arith; w21 = omega arith; w01 = omega arith; w02 = omega arith; w12 = omega arith; one = omega arith }
closing-calm J2 s p = record { w10 = omega arith; w20 = omega arith; w21 = omega arith; w01 = omega arith; w02 = omega arith; w12 = omega arith; one = omega arith }

-- where J0 is doomed: the votes of the others name J0
doomed0-named : (s : JournalTally) → IsInPhase (Doomed J0) s → (x : JournalId) → HasVote s x → x ≡ J0
doomed0-named s p J0 v = refl
doomed0-named s p J1 (inl v) = let o = v.1 in absurd (omega arith)
doomed0-named s p J1 (inr v) = absurd (v.0 (omega arith, omega arith))
doomed0-named s p J2 (inl v) = absurd (v.0 (omega arith, omega arith))
doomed0-named s p J2 (inr v) = let o = v.1 in absurd (omega arith)

doomed1-named : (s : JournalTally) → IsInPhase (Doomed J1) s → (x : JournalId) → HasVote s x → x ≡ J1
doomed1-named s p J1 v = refl
doomed1-named s p J2 (inl v) = let o = v.1 in absurd (omega arith)
doomed1-named s p J2 (inr v) = absurd (v.0 (omega arith, omega arith))
doomed1-named s p J0 (inl v) = absurd (v.0 (omega arith, omega arith))
doomed1-named s p J0 (inr v) = let o = v.1 in absurd (omega arith)

doomed2-named : (s : JournalTally) → IsInPhase (Doomed J2) s → (x : JournalId) → HasVote s x → x ≡ J2
doomed2-named s p J2 v = refl
doomed2-named s p J0 (inl v) = let o = v.1 in absurd (omega arith)
doomed2-named s p J0 (inr v) = absurd (v.0 (omega arith, omega arith))
doomed2-named s p J1 (inl v) = absurd (v.0 (omega arith, omega arith))
doomed2-named s p J1 (inr v) = let o = v.1 in absurd (omega arith)

-- no journal is its next
not-next : (x y : JournalId) → x ≡ y → next x ≡ y → ⊥
not-next J0 y e f = cc
not-next J1 y e f = cc
not-next J2 y e f = cc

doomed0-one : (s : JournalTally) → IsInPhase (Doomed J0) s → (x : JournalId) → IsDoomed s x → IsDoomed s (next x) → ⊥
doomed0-one s p J0 d e = let o = e.0 in omega arith
doomed0-one s p J1 d e = let o = d.0 in omega arith
doomed0-one s p J2 d e = let o = d.1 in omega arith

doomed0-first : (s : JournalTally) → IsInPhase (Doomed J0) s → (x : JournalId) → IsBelieved s (next x) → ((first s x).wrong ≡ 0) × (IsBelieved s x → (first s x).opened ≤ 1)
doomed0-first s p J0 b = (p.0.1, λ d. absurd (d (omega arith, omega arith)))
doomed0-first s p J1 b = (p.2.1, λ d. omega arith)
doomed0-first s p J2 b = absurd (b (omega arith, omega arith))

doomed0-second : (s : JournalTally) → IsInPhase (Doomed J0) s → (x : JournalId) → IsBelieved s (after_next x) → ((second s x).wrong ≡ 0) × ((second s x).opened ≤ 1)
doomed0-second s p J0 b = (p.1.1, omega arith)
doomed0-second s p J1 b = absurd (b (omega arith, omega arith))
doomed0-second s p J2 b = (p.3.1, omega arith)

doomed0-ordered : (s : JournalTally) → IsInPhase (Doomed J0) s → IsOrdered s
doomed0-ordered s p = record {
  one_doomed = doomed0-one s p;
  first_votes = doomed0-first s p;
  second_votes = doomed0-second s p;
  one_named = λ x v w. not-next x J0 (doomed0-named s p x v) (doomed0-named s p (next x) w);
  one_entry = λ b. absurd (b (omega arith, omega arith));
  entry_alone = λ x b. absurd (b (omega arith, omega arith));
}

doomed1-one : (s : JournalTally) → IsInPhase (Doomed J1) s → (x : JournalId) → IsDoomed s x → IsDoomed s (next x) → ⊥
doomed1-one s p J1 d e = let o = e.0 in omega arith
doomed1-one s p J2 d e = let o = d.0 in omega arith
doomed1-one s p J0 d e = let o = d.1 in omega arith

doomed1-first : (s : JournalTally) → IsInPhase (Doomed J1) s → (x : JournalId) → IsBelieved s (next x) → ((first s x).wrong ≡ 0) × (IsBelieved s x → (first s x).opened ≤ 1)
doomed1-first s p J1 b = (p.0.1, λ d. absurd (d (omega arith, omega arith)))
doomed1-first s p J2 b = (p.2.1, λ d. omega arith)
doomed1-first s p J0 b = absurd (b (omega arith, omega arith))

doomed1-second : (s : JournalTally) → IsInPhase (Doomed J1) s → (x : JournalId) → IsBelieved s (after_next x) → ((second s x).wrong ≡ 0) × ((second s x).opened ≤ 1)
doomed1-second s p J1 b = (p.1.1, omega arith)
doomed1-second s p J2 b = absurd (b (omega arith, omega arith))
doomed1-second s p J0 b = (p.3.1, omega arith)

doomed1-ordered : (s : JournalTally) → IsInPhase (Doomed J1) s → IsOrdered s
doomed1-ordered s p = record {
  one_doomed = doomed1-one s p;
  first_votes = doomed1-first s p;
  second_votes = doomed1-second s p;
  one_named = λ x v w. not-next x J1 (doomed1-named s p x v) (doomed1-named s p (next x) w);
  one_entry = λ b. omega arith;
  entry_alone = λ x b o v. omega arith;
}

doomed2-one : (s : JournalTally) → IsInPhase (Doomed J2) s → (x : JournalId) → IsDoomed s x → IsDoomed s (next x) → ⊥
doomed2-one s p J2 d e = let o = e.0 in omega arith
doomed2-one s p J0 d e = let o = d.0 in omega arith
doomed2-one s p J1 d e = let o = d.1 in omega arith

doomed2-first : (s : JournalTally) → IsInPhase (Doomed J2) s → (x : JournalId) → IsBelieved s (next x) → ((first s x).wrong ≡ 0) × (IsBelieved s x → (first s x).opened ≤ 1)
doomed2-first s p J2 b = (p.0.1, λ d. absurd (d (omega arith, omega arith)))
doomed2-first s p J0 b = (p.2.1, λ d. omega arith)
doomed2-first s p J1 b = absurd (b (omega arith, omega arith))

doomed2-second : (s : JournalTally) → IsInPhase (Doomed J2) s → (x : JournalId) → IsBelieved s (after_next x) → ((second s x).wrong ≡ 0) × ((second s x).opened ≤ 1)
doomed2-second s p J2 b = (p.1.1, omega arith)
doomed2-second s p J0 b = absurd (b (omega arith, omega arith))
doomed2-second s p J1 b = (p.3.1, omega arith)

doomed2-ordered : (s : JournalTally) → IsInPhase (Doomed J2) s → IsOrdered s
doomed2-ordered s p = record {
  one_doomed = doomed2-one s p;
  first_votes = doomed2-first s p;
  second_votes = doomed2-second s p;
  one_named = λ x v w. not-next x J2 (doomed2-named s p x v) (doomed2-named s p (next x) w);
  one_entry = λ b. omega arith;
  entry_alone = λ x b o v. omega arith;
}

phase-ordered : (p : ErasePhase) (s : JournalTally) → IsInPhase p s → IsOrdered s
phase-ordered Idle s h = calm-ordered s (idle-calm s h)
phase-ordered (Asked x) s h = calm-ordered s (asked-calm x s h)
phase-ordered (Doomed J0) s h = doomed0-ordered s h
phase-ordered (Doomed J1) s h = doomed1-ordered s h
phase-ordered (Doomed J2) s h = doomed2-ordered s h
phase-ordered (Closing x) s h = calm-ordered s (closing-calm x s h)

-- The phases exclude one another: the open votes name the phase.
abbrev is_open : ℕ → Bool
is_open n = nat_lt 0 n

abbrev named : JournalTally → ErasePhase
named s =
    if is_open s.j1_for_0.opened && is_open s.j2_for_0.opened then Doomed J0 else
    if is_open s.j2_for_1.opened && is_open s.j0_for_1.opened then Doomed J1 else
    if is_open s.j0_for_2.opened && is_open s.j1_for_2.opened then Doomed J2 else
    if is_open s.j1_for_0.opened then Asked J0 else
    if is_open s.j2_for_1.opened then Asked J1 else
    if is_open s.j0_for_2.opened then Asked J2 else
    if is_open s.j2_for_0.opened then Closing J0 else
    if is_open s.j0_for_1.opened then Closing J1 else
    if is_open s.j1_for_2.opened then Closing J2 else
    Idle

named-is : (p : ErasePhase) (s : JournalTally) → IsInPhase p s → named s ≡ p
named-is Idle s h = grind (arith, nat_tests)
named-is (Asked J0) s h = grind (arith, nat_tests)
named-is (Asked J1) s h = grind (arith, nat_tests)
named-is (Asked J2) s h = grind (arith, nat_tests)
named-is (Doomed J0) s h = grind (arith, nat_tests)
named-is (Doomed J1) s h = grind (arith, nat_tests)
named-is (Doomed J2) s h = grind (arith, nat_tests)
named-is (Closing J0) s h = grind (arith, nat_tests)
named-is (Closing J1) s h = grind (arith, nat_tests)
named-is (Closing J2) s h = grind (arith, nat_tests)

sound-faultless : (s : JournalTally) → (p : ErasePhase) → IsSoundTally p s → TallyHasNoFault s
sound-faultless s p h =
    let o = phase-ordered p s h.phase in
    record {
      one_doomed = o.one_doomed;
      first_votes = o.first_votes;
      second_votes = o.second_votes;
      one_named = o.one_named;
      one_entry = o.one_entry;
      entry_alone = o.entry_alone;
      lasts = λ q k. let same : p ≡ q = sym (named-is p s h.phase) ∙ named-is q s k in rw same at h.lasts;
    }

-- Without a fault: either a journal is doomed, or all are calm.
doomed-or-not : (s : JournalTally) (x : JournalId) → IsDoomed s x ⊎ IsBelieved s x
doomed-or-not s x = elim (cases_lt 0 (first s x).opened) [
  | inl a ↦ elim (cases_lt 0 (second s x).opened) [
    | inl b ↦ inl (omega arith, omega arith)
    | inr b ↦ inr (λ d. let o = d.1 in omega arith)
  ]
  | inr a ↦ inr (λ d. let o = d.0 in omega arith)
]

doomed0-phase : (s : JournalTally) → IsOrdered s → IsDoomed s J0 → IsInPhase (Doomed J0) s
doomed0-phase s h d =
    let b1 : IsBelieved s J1 = λ e. h.one_doomed J0 d e in
    let b2 : IsBelieved s J2 = λ e. h.one_doomed J2 e d in
    let mine : HasVote s J0 = inl (b1, d.0) in
    let f = h.first_votes J0 b1 in
    let g = h.second_votes J0 b2 in
    let fn = h.first_votes J1 b2 in
    let gn = h.second_votes J2 b1 in
    let other : (first s J1).opened ≡ 0 = elim (cases_lt 0 (first s J1).opened) [ inl o ↦ absurd (h.one_named J0 mine (inl (b2, omega arith))) | inr o ↦ omega arith ] in
    let last : (second s J2).opened ≡ 0 = elim (cases_lt 0 (second s J2).opened) [ inl o ↦ absurd (h.one_named J2 (inr (b1, omega arith)) mine) | inr o ↦ omega arith ] in
    let d0 = d.0 in let d1 = d.1 in
    ((omega arith, f.0), (omega arith, g.0), (other, fn.0), (last, gn.0))

doomed1-phase : (s : JournalTally) → IsOrdered s → IsDoomed s J1 → IsInPhase (Doomed J1) s
doomed1-phase s h d =
    let b2 : IsBelieved s J2 = λ e. h.one_doomed J1 d e in
    let b0 : IsBelieved s J0 = λ e. h.one_doomed J0 e d in
    let mine : HasVote s J1 = inl (b2, d.0) in
    let f = h.first_votes J1 b2 in
    let g = h.second_votes J1 b0 in
    let fn = h.first_votes J2 b0 in
    let gn = h.second_votes J0 b2 in
    let other : (first s J2).opened ≡ 0 = elim (cases_lt 0 (first s J2).opened) [ inl o ↦ absurd (h.one_named J1 mine (inl (b0, omega arith))) | inr o ↦ omega arith ] in
    let last : (second s J0).opened ≡ 0 = elim (cases_lt 0 (second s J0).opened) [ inl o ↦ absurd (h.one_named J0 (inr (b2, omega arith)) mine) | inr o ↦ omega arith ] in
    let d0 = d.0 in let d1 = d.1 in
    let none : s.opened ≡ 0 = elim (cases_lt 0 s.opened) [ inl o ↦ absurd (h.entry_alone J1 b0 (omega arith) mine) | inr o ↦ omega arith ] in
    ((omega arith, f.0), (omega arith, g.0), (other, fn.0), (last, gn.0), none)

doomed2-phase : (s : JournalTally) → IsOrdered s → IsDoomed s J2 → IsInPhase (Doomed J2) s
doomed2-phase s h d =
    let b0 : IsBelieved s J0 = λ e. h.one_doomed J2 d e in
    let b1 : IsBelieved s J1 = λ e. h.one_doomed J1 e d in
    let mine : HasVote s J2 = inl (b0, d.0) in
    let f = h.first_votes J2 b0 in
    let g = h.second_votes J2 b1 in
    let fn = h.first_votes J0 b1 in
    let gn = h.second_votes J1 b0 in
    let other : (first s J0).opened ≡ 0 = elim (cases_lt 0 (first s J0).opened) [ inl o ↦ absurd (h.one_named J2 mine (inl (b1, omega arith))) | inr o ↦ omega arith ] in
    let last : (second s J1).opened ≡ 0 = elim (cases_lt 0 (second s J1).opened) [ inl o ↦ absurd (h.one_named J1 (inr (b0, omega arith)) mine) | inr o ↦ omega arith ] in
    let d0 = d.0 in let d1 = d.1 in
    let none : s.opened ≡ 0 = elim (cases_lt 0 s.opened) [ inl o ↦ absurd (h.entry_alone J2 b0 (omega arith) mine) | inr o ↦ omega arith ] in
    ((omega arith, f.0), (omega arith, g.0), (other, fn.0), (last, gn.0), none)

-- the open votes for x
abbrev votes_for : JournalTally → JournalId → ℕ
votes_for s x = (first s x).opened + (second s x).opened

module _ (s : JournalTally) (h : IsOrdered s) (all : (x : JournalId) → IsBelieved s x) where
  one-vote : (x : JournalId) → votes_for s x ≤ 1
  one-vote x =
      let f = h.first_votes x (all (next x)) in
      let g = h.second_votes x (all (after_next x)) in
      elim (cases_lt 0 (first s x).opened) [
        | inl a ↦ elim (cases_lt 0 (second s x).opened) [
          | inl b ↦ absurd (all x (omega arith, omega arith))
          | inr b ↦ (let o = f.1 (all x) in omega arith)
        ]
        | inr a ↦ omega arith
      ]

  has-vote : (x : JournalId) → 1 ≤ votes_for s x → HasVote s x
  has-vote x o = elim (cases_lt 0 (first s x).opened) [ inl a ↦ inl (all (next x), omega arith) | inr a ↦ inr (all (after_next x), omega arith) ]

  apart : (x : JournalId) → 1 ≤ votes_for s x → 1 ≤ votes_for s (next x) → ⊥
  apart x o p = h.one_named x (has-vote x o) (has-vote (next x) p)

  alone : (x : JournalId) → 1 ≤ s.opened → 1 ≤ votes_for s x → ⊥
  alone x e o = h.entry_alone x (all J0) e (has-vote x o)

  none-beside : (x : JournalId) → 1 ≤ s.opened → votes_for s x ≡ 0
  none-beside x e = elim (cases_lt 0 (votes_for s x)) [ inl o ↦ absurd (alone x e (omega arith)) | inr o ↦ omega arith ]

  none-after : (x : JournalId) → 1 ≤ votes_for s x → votes_for s (next x) ≡ 0
  none-after x v = elim (cases_lt 0 (votes_for s (next x))) [ inl o ↦ absurd (apart x v (omega arith)) | inr o ↦ omega arith ]

  none-before : (x : JournalId) → 1 ≤ votes_for s (next x) → votes_for s x ≡ 0
  none-before x v = elim (cases_lt 0 (votes_for s x)) [ inl o ↦ absurd (apart x (omega arith) v) | inr o ↦ omega arith ]

  all-calm : IsCalm s
  all-calm =
      let t0 = one-vote J0 in let t1 = one-vote J1 in let t2 = one-vote J2 in
      let e = h.one_entry (all J0) in
      record {
        w10 = (h.first_votes J0 (all J1)).0;
        w20 = (h.second_votes J0 (all J2)).0;
        w21 = (h.first_votes J1 (all J2)).0;
        w01 = (h.second_votes J1 (all J0)).0;
        w02 = (h.first_votes J2 (all J0)).0;
        w12 = (h.second_votes J2 (all J1)).0;
        one = elim (cases_lt 0 s.opened) [
          | inl o ↦ (let a : votes_for s J0 ≡ 0 = none-beside J0 (omega arith) in let b : votes_for s J1 ≡ 0 = none-beside J1 (omega arith) in let c : votes_for s J2 ≡ 0 = none-beside J2 (omega arith) in omega arith)
          | inr o ↦ elim (cases_lt 0 (votes_for s J0)) [
            | inl v ↦ (let b : votes_for s J1 ≡ 0 = none-after J0 (omega arith) in let c : votes_for s J2 ≡ 0 = none-before J2 (omega arith) in omega arith)
            | inr v ↦ elim (cases_lt 0 (votes_for s J1)) [
              | inl w ↦ (let c : votes_for s J2 ≡ 0 = none-after J1 (omega arith) in omega arith)
              | inr w ↦ omega arith
            ]
          ]
        ];
      }

calm-phase : (s : JournalTally) → IsCalm s → (p : ErasePhase) × IsInPhase p s
calm-phase s c = let o = c.one in elim (cases_lt 0 s.j1_for_0.opened) [
  | inl a ↦ (Asked J0, ((omega arith, c.w10), (omega arith, c.w20), ((omega arith, c.w21), (omega arith, c.w01)), ((omega arith, c.w02), (omega arith, c.w12)), omega arith))
  | inr a ↦ elim (cases_lt 0 s.j2_for_1.opened) [
    | inl b ↦ (Asked J1, ((omega arith, c.w21), (omega arith, c.w01), ((omega arith, c.w02), (omega arith, c.w12)), ((omega arith, c.w10), (omega arith, c.w20)), omega arith))
    | inr b ↦ elim (cases_lt 0 s.j0_for_2.opened) [
      | inl d ↦ (Asked J2, ((omega arith, c.w02), (omega arith, c.w12), ((omega arith, c.w10), (omega arith, c.w20)), ((omega arith, c.w21), (omega arith, c.w01)), omega arith))
      | inr d ↦ elim (cases_lt 0 s.j2_for_0.opened) [
        | inl e ↦ (Closing J0, ((omega arith, c.w10), (omega arith, c.w20), ((omega arith, c.w21), (omega arith, c.w01)), ((omega arith, c.w02), (omega arith, c.w12)), omega arith))
        | inr e ↦ elim (cases_lt 0 s.j0_for_1.opened) [
          | inl f ↦ (Closing J1, ((omega arith, c.w21), (omega arith, c.w01), ((omega arith, c.w02), (omega arith, c.w12)), ((omega arith, c.w10), (omega arith, c.w20)), omega arith))
          | inr f ↦ elim (cases_lt 0 s.j1_for_2.opened) [
            | inl g ↦ (Closing J2, ((omega arith, c.w02), (omega arith, c.w12), ((omega arith, c.w10), (omega arith, c.w20)), ((omega arith, c.w21), (omega arith, c.w01)), omega arith))
            | inr g ↦ (Idle, (((omega arith, c.w10), (omega arith, c.w20)), ((omega arith, c.w21), (omega arith, c.w01)), ((omega arith, c.w02), (omega arith, c.w12)), omega arith))
          ]
        ]
      ]
    ]
  ]
]

each-believed : (s : JournalTally) → IsBelieved s J0 → IsBelieved s J1 → IsBelieved s J2 → (x : JournalId) → IsBelieved s x
each-believed s b0 b1 b2 J0 = b0
each-believed s b0 b1 b2 J1 = b1
each-believed s b0 b1 b2 J2 = b2

ordered-phase : (s : JournalTally) → IsOrdered s → (p : ErasePhase) × IsInPhase p s
ordered-phase s h = elim (doomed-or-not s J0) [
  | inl d ↦ (Doomed J0, doomed0-phase s h d)
  | inr b0 ↦ elim (doomed-or-not s J1) [
    | inl d ↦ (Doomed J1, doomed1-phase s h d)
    | inr b1 ↦ elim (doomed-or-not s J2) [
      | inl d ↦ (Doomed J2, doomed2-phase s h d)
      | inr b2 ↦ calm-phase s (all-calm s h (each-believed s b0 b1 b2))
    ]
  ]
]

faultless-sound : (s : JournalTally) → TallyHasNoFault s → (p : ErasePhase) × IsSoundTally p s
faultless-sound s h =
    let o : IsOrdered s = record { one_doomed = h.one_doomed; first_votes = h.first_votes; second_votes = h.second_votes; one_named = h.one_named; one_entry = h.one_entry; entry_alone = h.entry_alone } in
    let (p, k) = ordered-phase s o in
    (p, record { phase = k; lasts = h.lasts p k })

pub sound_has_no_fault : SoundTallyHasNoFault
sound_has_no_fault s = (λ h. sound-faultless s h.0 h.1, faultless-sound s)
