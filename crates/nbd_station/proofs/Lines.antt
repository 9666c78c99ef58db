-- the sessions of a station and the texts of its connections
use Rattle.std.proofs.Common.{◌≡◌, ℕ, Bool, true, false, List, [], ◌∷◌, length, Option, None, Some, zero, suc, get_or, set, replicate, ◌<◌, ◌≤◌, arith, refl, ◌∙◌, sym, ap, subst}
use Rattle.std.proofs.Math.Seq.{map-set_same}
use Rattle.std.specs.Prelude.{map}
use Rattle.nbd_session.specs.Sessions.{SessionState}
use Rattle.nbd_station.specs.StationState.{ConnectionRepresents, ConnectionsRepresent, ServesText}

pub lines_dark : (n : ℕ) (ss : List SessionState) → length ss ≡ n → ConnectionsRepresent ss (replicate n false) (replicate n None)
unfolding ConnectionsRepresent
lines_dark zero [] e = tt
lines_dark zero (s ∷ ss) e = absurd (omega arith)
lines_dark (suc n) [] e = absurd (omega arith)
lines_dark (suc n) (s ∷ ss) e = (tt, lines_dark n ss (omega arith))

pub lines_at : (ss : List SessionState) (bs : List Bool) (ts : List (Option (List ℕ))) (k : ℕ) (s : SessionState) → ConnectionsRepresent ss bs ts → k < length ss
    → ConnectionRepresents (get_or bs k false) (get_or ss k s) (get_or ts k None)
unfolding ConnectionsRepresent
lines_at [] [] [] k s h le = absurd (omega arith)
lines_at [] [] (t ∷ ts) k s h le = elim h [ ]
lines_at [] (b ∷ bs) ts k s h le = elim h [ ]
lines_at (x ∷ ss) [] ts k s h le = elim h [ ]
lines_at (x ∷ ss) (b ∷ bs) [] k s h le = elim h [ ]
lines_at (x ∷ ss) (b ∷ bs) (t ∷ ts) zero s h le = h.0
lines_at (x ∷ ss) (b ∷ bs) (t ∷ ts) (suc k) s h le = lines_at ss bs ts k s h.1 (omega arith)

pub lines_set : (ss : List SessionState) (bs : List Bool) (ts : List (Option (List ℕ))) (k : ℕ) (s : SessionState) (b : Bool) (t : Option (List ℕ))
    → ConnectionsRepresent ss bs ts → ConnectionRepresents b s t → ConnectionsRepresent (set ss k s) (set bs k b) (set ts k t)
unfolding ConnectionsRepresent
lines_set [] [] [] k s b t h new = tt
lines_set [] [] (u ∷ ts) k s b t h new = elim h [ ]
lines_set [] (c ∷ bs) ts k s b t h new = elim h [ ]
lines_set (x ∷ ss) [] ts k s b t h new = elim h [ ]
lines_set (x ∷ ss) (c ∷ bs) [] k s b t h new = elim h [ ]
lines_set (x ∷ ss) (c ∷ bs) (u ∷ ts) zero s b t h new = (new, h.1)
lines_set (x ∷ ss) (c ∷ bs) (u ∷ ts) (suc k) s b t h new = (h.0, lines_set ss bs ts k s b t h.1 new)

pub lines_past : (ss : List SessionState) (bs : List Bool) (ts : List (Option (List ℕ))) (k : ℕ) → ConnectionsRepresent ss bs ts → length ss ≤ k → get_or ts k None ≡ None
unfolding ConnectionsRepresent
lines_past [] [] [] k h le = refl
lines_past [] [] (t ∷ ts) k h le = elim h [ ]
lines_past [] (b ∷ bs) ts k h le = elim h [ ]
lines_past (x ∷ ss) [] ts k h le = elim h [ ]
lines_past (x ∷ ss) (b ∷ bs) [] k h le = elim h [ ]
lines_past (x ∷ ss) (b ∷ bs) (t ∷ ts) zero h le = absurd (omega arith)
lines_past (x ∷ ss) (b ∷ bs) (t ∷ ts) (suc k) h le = lines_past ss bs ts k h.1 (omega arith)

line_shut : (b : Bool) (s : SessionState) (t : Option (List ℕ)) → ConnectionRepresents b s t → b ≡ false → t ≡ None
line_shut false s None h e = refl
line_shut false s (Some t) h e = absurd h
line_shut true s None h e = absurd h
line_shut true s (Some t) h e = absurd (cc)

pub line_open : (b : Bool) (s : SessionState) (t : Option (List ℕ)) → ConnectionRepresents b s t → b ≡ true → (u : List ℕ) × (t ≡ Some u) × ServesText s u
line_open false s None h e = absurd (cc)
line_open false s (Some t) h e = absurd h
line_open true s None h e = absurd h
line_open true s (Some t) h e = (t, refl, h)

pub lines_none : (ss : List SessionState) (bs : List Bool) (ts : List (Option (List ℕ))) (k : ℕ) → ConnectionsRepresent ss bs ts → get_or bs k false ≡ false → get_or ts k None ≡ None
unfolding ConnectionsRepresent
lines_none [] [] [] k h e = refl
lines_none [] [] (t ∷ ts) k h e = elim h [ ]
lines_none [] (b ∷ bs) ts k h e = elim h [ ]
lines_none (x ∷ ss) [] ts k h e = elim h [ ]
lines_none (x ∷ ss) (b ∷ bs) [] k h e = elim h [ ]
lines_none (x ∷ ss) (b ∷ bs) (t ∷ ts) zero h e = line_shut b x t h.0 e
lines_none (x ∷ ss) (b ∷ bs) (t ∷ ts) (suc k) h e = lines_none ss bs ts k h.1 e

pub lines_some : (ss : List SessionState) (bs : List Bool) (ts : List (Option (List ℕ))) (k : ℕ) → ConnectionsRepresent ss bs ts → get_or bs k false ≡ true → (u : List ℕ) × (get_or ts k None ≡ Some u)
unfolding ConnectionsRepresent
lines_some [] [] [] k h e = absurd (cc)
lines_some [] [] (t ∷ ts) k h e = elim h [ ]
lines_some [] (b ∷ bs) ts k h e = elim h [ ]
lines_some (x ∷ ss) [] ts k h e = elim h [ ]
lines_some (x ∷ ss) (b ∷ bs) [] k h e = elim h [ ]
lines_some (x ∷ ss) (b ∷ bs) (t ∷ ts) zero h e = let o = line_open b x t h.0 e in (o.0, o.1)
lines_some (x ∷ ss) (b ∷ bs) (t ∷ ts) (suc k) h e = lines_some ss bs ts k h.1 e

pub lines_close : (ss : List SessionState) (bs : List Bool) (ts : List (Option (List ℕ))) (k : ℕ) → ConnectionsRepresent ss bs ts → ConnectionsRepresent ss (set bs k false) (set ts k None)
unfolding ConnectionsRepresent
lines_close [] [] [] k h = tt
lines_close [] [] (t ∷ ts) k h = elim h [ ]
lines_close [] (b ∷ bs) ts k h = elim h [ ]
lines_close (x ∷ ss) [] ts k h = elim h [ ]
lines_close (x ∷ ss) (b ∷ bs) [] k h = elim h [ ]
lines_close (x ∷ ss) (b ∷ bs) (t ∷ ts) zero h = (tt, h.1)
lines_close (x ∷ ss) (b ∷ bs) (t ∷ ts) (suc k) h = (h.0, lines_close ss bs ts k h.1)

line_put : (b : Bool) (s : SessionState) (u : List ℕ) → b ≡ true → ServesText s u → ConnectionRepresents b s (Some u)
line_put true s u e h = h
line_put false s u e h = absurd (cc)

pub lines_put : (ss : List SessionState) (bs : List Bool) (ts : List (Option (List ℕ))) (k : ℕ) (s : SessionState) (u : List ℕ)
    → ConnectionsRepresent ss bs ts → get_or bs k false ≡ true → ServesText s u → ConnectionsRepresent (set ss k s) bs (set ts k (Some u))
unfolding ConnectionsRepresent
lines_put [] [] [] k s u h e new = tt
lines_put [] [] (t ∷ ts) k s u h e new = elim h [ ]
lines_put [] (b ∷ bs) ts k s u h e new = elim h [ ]
lines_put (x ∷ ss) [] ts k s u h e new = elim h [ ]
lines_put (x ∷ ss) (b ∷ bs) [] k s u h e new = elim h [ ]
lines_put (x ∷ ss) (b ∷ bs) (t ∷ ts) zero s u h e new = (line_put b s u e new, h.1)
lines_put (x ∷ ss) (b ∷ bs) (t ∷ ts) (suc k) s u h e new = (h.0, lines_put ss bs ts k s u h.1 e new)

-- the text of a connection that is open
pub text_of : (ss : List SessionState) (bs : List Bool) (ts : List (Option (List ℕ))) (c : ℕ) (d s : SessionState) → ConnectionsRepresent ss bs ts → c < length ss → get_or ss c d ≡ s → get_or bs c false ≡ true
    → (u : List ℕ) × (get_or ts c None ≡ Some u) × ServesText s u
text_of ss bs ts c d s h le is here =
    let o = line_open (get_or bs c false) (get_or ss c d) (get_or ts c None) (lines_at ss bs ts c d h le) here in
    (o.0, o.1, subst (λ v. ServesText v o.0) is o.2)

-- ---- the memory of buffers

pub memory_stays : (sessions : List SessionState) (who : ℕ) (line old d : SessionState) → get_or sessions who d ≡ old → line.memory ≡ old.memory
    → map (λ (l : SessionState). l.memory) (set sessions who line) ≡ map (λ (l : SessionState). l.memory) sessions
memory_stays sessions who line old d is same = map-set_same (λ (l : SessionState). l.memory) sessions who line d (same ∙ ap (λ (l : SessionState). l.memory) (sym is))
