-- No step of a firm mount but the last uses an entry.
use Rattle.std.proofs.Common.{◌≡◌, ◌≤◌, refl, ◌∙◌, arith, ℕ, List}
use Rattle.nor_layout.specs.declared.journal.JournalId.{JournalId}
use Rattle.nor_layout.specs.declared.journal.JournalId.TheVariants.{J0, J1, J2}
use Rattle.erase_journal.specs.declared.unused.Unused.{Unused}
use Rattle.erase_journal.specs.Journals.{unused, free_entries}
use Rattle.erase_journal.specs.Spending.{GivesUp, given, kept, GivesUpEach, Refills, full, without_votes, refilled, RefillsAll, Maintains, at_rest, erases, Spares, enough, few, SparesAll}
use Rattle.erase_journal.specs.Votes.{first_spent, second_spent, once_erased}

-- the free entries
free-first : (x : JournalId) (u : Unused) → (first_spent x u).free ≡ u.free
free-first J0 u = refl
free-first J1 u = refl
free-first J2 u = refl

free-second : (x : JournalId) (u : Unused) → (second_spent x u).free ≡ u.free
free-second J0 u = refl
free-second J1 u = refl
free-second J2 u = refl

gives-free : (s u v : Unused) → s.free ≡ u.free → GivesUp s u v → v.free ≡ u.free
gives-free s u v e (given l n) = n.free ∙ e
gives-free s u v e (kept l n) = n.free

pub each-free : (u v : Unused) → GivesUpEach u v → v.free ≡ u.free
each-free u v g =
    gives-free _ g.second1 v (free-second J2 g.second1) g.gives_second2
    ∙ (gives-free _ g.second0 g.second1 (free-second J1 g.second0) g.gives_second1
    ∙ (gives-free _ g.first2 g.second0 (free-second J0 g.first2) g.gives_second0
    ∙ (gives-free _ g.first1 g.first2 (free-first J2 g.first1) g.gives_first2
    ∙ (gives-free _ g.first0 g.first1 (free-first J1 g.first0) g.gives_first1
    ∙ gives-free _ u g.first0 (free-first J0 u) g.gives_first0))))

-- no fewer are free, nor more than there are
pub NoFewer : Unused → Unused → Type 0
NoFewer u v = (u.free ≤ v.free) × (v.free ≤ 512)

erased-free : (x : JournalId) (u : Unused) → u.free ≤ 512 → NoFewer u (once_erased x u)
unfolding NoFewer
erased-free J0 u h = (h, omega arith)
erased-free J1 u h = (omega arith, h)
erased-free J2 u h = (omega arith, h)

pub maintains-free : (v u : Unused) → u.free ≤ 512 → Maintains v u → NoFewer u v
unfolding NoFewer
maintains-free v u h (at_rest _ r0 r1 r2 n) = (let e = n.free in (omega (arith, e), omega (arith, e, h)))
maintains-free v u h (erases _ x t more) =
    let a = erased-free x u h in
    let b = maintains-free v (once_erased x u) a.1 more in
    (let p = a.0 in let q = b.0 in omega (arith, p, q), b.1)

refills-free : (x : JournalId) (v u : Unused) → u.free ≤ 512 → Refills x v u → NoFewer u v
unfolding NoFewer
refills-free x v u h (full s n) = (let e = n.free in (omega (arith, e), omega (arith, e, h)))
refills-free x v u h (without_votes s n) = (let e = n.free in (omega (arith, e), omega (arith, e, h)))
refills-free x v u h (refilled s t n) =
    let a = erased-free x u h in
    let p = a.0 in
    let q = a.1 in
    let e = n.free in
    (omega (arith, e, p), omega (arith, e, q))

spares-free : (x : JournalId) (v u : Unused) → u.free ≤ 512 → Spares x v u → NoFewer u v
unfolding NoFewer
spares-free x v u h (enough s n) = (let e = n.free in (omega (arith, e), omega (arith, e, h)))
spares-free x v u h (few s m) =
    let a = erased-free x u h in
    let b = maintains-free v (once_erased x u) a.1 m in
    (let p = a.0 in let q = b.0 in omega (arith, p, q), b.1)

pub refills-all-free : (v u : Unused) → u.free ≤ 512 → RefillsAll v u → NoFewer u v
unfolding NoFewer
refills-all-free v u h r =
    let a = refills-free J0 r.after0 u h r.j0 in
    let b = refills-free J1 r.after1 r.after0 a.1 r.j1 in
    let d = refills-free J2 v r.after1 b.1 r.j2 in
    (let p = a.0 in let q = b.0 in let s = d.0 in omega (arith, p, q, s), d.1)

pub spares-all-free : (v u : Unused) → u.free ≤ 512 → SparesAll v u → NoFewer u v
unfolding NoFewer
spares-all-free v u h r =
    let a = spares-free J0 r.after0 u h r.j0 in
    let b = spares-free J1 r.after1 r.after0 a.1 r.j1 in
    let d = spares-free J2 v r.after1 b.1 r.j2 in
    (let p = a.0 in let q = b.0 in let s = d.0 in omega (arith, p, q, s), d.1)

-- from memory to memory
pub no-fewer-on : (a b c d e : List ℕ) → (unused b).free ≡ (unused a).free → NoFewer (unused b) (unused c) → NoFewer (unused c) (unused d) → NoFewer (unused d) (unused e) → free_entries a ≤ free_entries e
unfolding NoFewer
no-fewer-on a b c d e p q r s = (let x = q.0 in let y = r.0 in let z = s.0 in omega (arith, p, x, y, z))
