-- The blocks of the index once one of them was copied into the reserve, and where it looks next.
use Rattle.std.proofs.Common.{◌≡◌, ◌≢◌, ℕ, ◌+◌, ◌*◌, ◌/◌, ◌<◌, ◌≤◌, ◌⊎◌, List, length, sym, ap, ◌∙◌, subst, arith, inl, inr}
use Rattle.std.specs.Prelude.{min}
use Rattle.sector_stock.specs.declared.policy.Wanted.{Wanted}
use Rattle.sector_stock.specs.declared.policy.Wanted.TheVariants as wanteds
use Rattle.sector_stock.specs.Policies.{IsBoundFor}
use Rattle.std.proofs.lemmas.Bool.{cases_eq, false≢true}
use Rattle.sector_stock.specs.declared.index.BlockState.{BlockState}
use Rattle.sector_stock.specs.declared.index.Cursors.{Cursors}
use Rattle.sector_stock.specs.Index.{in_block, erases_of, IsAhead, BlocksMoved, IsNextReserve, AreBounds, AreWorn, Counts, in_bounds, bound_row}
use Rattle.sector_stock.specs.declared.policy.Policy.{Policy}
use Rattle.sector_stock.specs.IndexSteps.{NextReserve, IsPassed, Widened}

-- what isn't looked at any more wasn't before, and is neither block that changed, but that s may be the new reserve
pub record IsLooking (s t size : ℕ) (old new : Cursors) : Type 0 where
  pub passed : (c : ℕ) → IsPassed new c → IsPassed old c × ((c ≢ t) × (c ≡ s → new.reserve ≡ s))
  pub within : new.beyond ≤ size

passed-from : (old new : Cursors) (c : ℕ) → new.cursor ≡ old.cursor → new.beyond ≡ old.beyond → IsPassed new c → IsPassed old c
passed-from old new c e f (inl h) = inl (omega (arith, e, h))
passed-from old new c e f (inr h) = inr (omega (arith, f, h))

pub looking-both : (s t : ℕ) (blocks : List BlockState) (a b c d : Cursors) → s < length blocks → t < length blocks → a.beyond ≤ length blocks → NextReserve blocks a b → Widened t b c → Widened s c d → IsLooking s t (length blocks) a d
looking-both s t blocks a b c d ls lt low next one two = record {
  passed = λ x p.
      let q = two.passed x p in
      let r = one.passed x q.0 in
      (passed-from a b x next.cursor next.beyond r.0, (r.1, λ e. absurd (q.1 e)));
  within = let e = next.beyond in elim two.within as (λ _. d.beyond ≤ length blocks) [
    | inr h ↦ omega (arith, h, ls)
    | inl h ↦ elim one.within as (λ _. d.beyond ≤ length blocks) [ inl k ↦ omega (arith, h, k, e, low) | inr k ↦ omega (arith, h, k, lt) ]
  ];
}

pub looking-one : (s t : ℕ) (blocks : List BlockState) (a b c : Cursors) → t < length blocks → a.beyond ≤ length blocks → NextReserve blocks a b → Widened t b c → c.reserve ≡ s → IsLooking s t (length blocks) a c
looking-one s t blocks a b c lt low next one reserve = record {
  passed = λ x p.
      let r = one.passed x p in
      (passed-from a b x next.cursor next.beyond r.0, (r.1, λ e. reserve));
  within = let e = next.beyond in elim one.within as (λ _. c.beyond ≤ length blocks) [ inl k ↦ omega (arith, k, e, low) | inr k ↦ omega (arith, k, lt) ];
}

none-passed : (s : ℕ) (blocks blocks' : List BlockState) (at new : Cursors) (c : ℕ) → IsAhead blocks at → BlocksMoved s at.reserve blocks blocks' → IsLooking s at.reserve (length blocks') at new
    → c < length blocks' → IsPassed new c → c ≢ new.reserve → (in_block blocks' c).free ≡ 0
none-passed s blocks blocks' at new c ahead moved look low p other =
    let q = look.passed c p in
    let n = moved.size in
    let l : c < length blocks = omega (arith, low, n) in
    let ns : c ≢ s = λ e. other (e ∙ sym (q.1.1 e)) in
    ap (λ b. b.free) (moved.others c l ns q.1.0)
    ∙ elim q.0 as (λ _. (in_block blocks c).free ≡ 0) [ inl h ↦ ahead.cursor c l h q.1.0 | inr h ↦ ahead.beyond c l h q.1.0 ]

-- a block's dead slots are none, or what they were
dead-moved : (s t : ℕ) (blocks blocks' : List BlockState) (c : ℕ) → BlocksMoved s t blocks blocks' → c < length blocks → ((in_block blocks' c).dead ≡ 0) ⊎ ((in_block blocks' c).dead ≡ (in_block blocks c).dead)
dead-moved s t blocks blocks' c moved low = elim (cases_eq c s) as (λ _. ((in_block blocks' c).dead ≡ 0) ⊎ ((in_block blocks' c).dead ≡ (in_block blocks c).dead)) [
  | inl e ↦ inl (ap (λ a. (in_block blocks' a).dead) e ∙ ap (λ b. b.dead) moved.source)
  | inr ns ↦ elim (cases_eq c t) as (λ _. ((in_block blocks' c).dead ≡ 0) ⊎ ((in_block blocks' c).dead ≡ (in_block blocks c).dead)) [
    | inl e ↦ inl (ap (λ a. (in_block blocks' a).dead) e ∙ ap (λ b. b.dead) moved.target)
    | inr nt ↦ inr (ap (λ b. b.dead) (moved.others c low ns nt))
  ]
]

pub ahead-moved : (s : ℕ) (blocks blocks' : List BlockState) (at mid new : Cursors) → IsAhead blocks at → BlocksMoved s at.reserve blocks blocks' → NextReserve blocks' at mid
    → IsLooking s at.reserve (length blocks') at new → new.reserve ≡ mid.reserve → new.spares ≡ mid.spares → new.most ≡ at.most → new.from ≡ at.from → AreBounds blocks' new.bounds → AreWorn new.least_erases new.most_erases blocks' → IsAhead blocks' new
ahead-moved s blocks blocks' at mid new ahead moved next look er es em ef bounds worn =
    let n = moved.size in
    record {
      cursor = λ c l h other. none-passed s blocks blocks' at new c ahead moved look l (inl h) other;
      beyond = λ c l h other. none-passed s blocks blocks' at new c ahead moved look l (inr h) other;
      spares = λ c l whole other. let p = next.spares c l whole (λ e. other (e ∙ sym er)) in omega (arith, p, es);
      within = (look.within, (let p = next.within in omega (arith, p, es)));
      most = λ c l. elim (dead-moved s at.reserve blocks blocks' c moved (omega (arith, l, n))) as (λ _. (in_block blocks' c).dead ≤ new.most) [
        | inl z ↦ omega (arith, z)
        | inr e ↦ let p = ahead.most c (omega (arith, l, n)) in omega (arith, e, p, em)
      ];
      from = λ c l h. elim (dead-moved s at.reserve blocks blocks' c moved (omega (arith, l, n))) as (λ _. (in_block blocks' c).dead ≢ new.most) [
        | inl z ↦ λ e. (let top = ahead.most c (omega (arith, l, n)) in ahead.from c (omega (arith, l, n)) (omega (arith, h, ef)) (omega (arith, e, z, em, top)))
        | inr e ↦ λ q. ahead.from c (omega (arith, l, n)) (omega (arith, h, ef)) (sym e ∙ (q ∙ em))
      ];
      high = (let p = ahead.high in omega (arith, p, em));
      bounds = bounds;
      worn = worn;
    }

-- the bounds of the two blocks
bound-source : (s : ℕ) (wanted : Wanted) (blocks blocks' : List BlockState) (at new : Cursors) → IsAhead blocks at → (in_block blocks s).erases < 65536 → s < length blocks → BlocksMoved s at.reserve blocks blocks' → IsBoundFor blocks' s at new → Counts wanted (in_block blocks' s) → in_bounds new.bounds (bound_row wanted) s ≤ (in_block blocks' s).erases
bound-source s wanteds.Free blocks blocks' at new ahead fits ls moved low counts = low.source
bound-source s (wanteds.Dead count) blocks blocks' at new ahead fits ls moved low counts = let p = counts.0 in let q = counts.2 in let r = ap (λ b. b.dead) moved.source in absurd (omega (arith, p, q, r))
bound-source s wanteds.Resting blocks blocks' at new ahead fits ls moved low counts =
    let p = ahead.bounds wanteds.Resting s ls tt in
    let q = low.below (64 * 8 + s / 64) in
    let r : (in_block blocks' s).erases ≡ min ((in_block blocks s).erases + 1) 65535 = ap (λ b. b.erases) moved.source in
    omega (arith, p, q, r, fits)

bound-target : (s : ℕ) (wanted : Wanted) (blocks blocks' : List BlockState) (at new : Cursors) → IsAhead blocks at → at.reserve < length blocks → BlocksMoved s at.reserve blocks blocks' → IsBoundFor blocks' s at new → Counts wanted (in_block blocks' at.reserve) → in_bounds new.bounds (bound_row wanted) at.reserve ≤ (in_block blocks' at.reserve).erases
bound-target s wanteds.Free blocks blocks' at new ahead lt moved low counts = low.target
bound-target s (wanteds.Dead count) blocks blocks' at new ahead lt moved low counts = let p = counts.0 in let q = counts.2 in let r = ap (λ b. b.dead) moved.target in absurd (omega (arith, p, q, r))
bound-target s wanteds.Resting blocks blocks' at new ahead lt moved low counts =
    let p = ahead.bounds wanteds.Resting at.reserve lt tt in
    let q = low.below (64 * 8 + at.reserve / 64) in
    let r = ap (λ b. b.erases) moved.target in
    omega (arith, p, q, r)

-- where bounds were lowered it looks where it did
pub ahead-bound : (s : ℕ) (blocks blocks' : List BlockState) (at new : Cursors) → IsAhead blocks at → IsBoundFor blocks' s at new → IsAhead blocks new
ahead-bound s blocks blocks' at new ahead low =
    let bounds : AreBounds blocks new.bounds = λ wanted c inside counts. (let p = ahead.bounds wanted c inside counts in let q = low.below (64 * bound_row wanted + c / 64) in omega (arith, p, q)) in
    subst (λ a. IsAhead blocks a) (sym low.rest) (record { cursor = ahead.cursor; beyond = ahead.beyond; spares = ahead.spares; within = ahead.within; most = ahead.most; from = ahead.from; high = ahead.high; bounds = bounds; worn = λ c inside. (let p = ahead.worn c inside in let q = p.1 in let k = low.kept in (p.0, omega (arith, q, k))) })

-- the bounds once block s was copied into block t
pub bounds-moved : (s : ℕ) (blocks blocks' : List BlockState) (at new : Cursors) → IsAhead blocks at → (in_block blocks s).erases < 65536 → s < length blocks → at.reserve < length blocks → BlocksMoved s at.reserve blocks blocks' → IsBoundFor blocks' s at new → AreBounds blocks' new.bounds
bounds-moved s blocks blocks' at new ahead fits ls lt moved low wanted c inside counts =
    let n = moved.size in
    let t = at.reserve in
    elim (cases_eq c s) as (λ _. in_bounds new.bounds (bound_row wanted) c ≤ (in_block blocks' c).erases) [
      | inl e ↦ subst (λ a. in_bounds new.bounds (bound_row wanted) a ≤ (in_block blocks' a).erases) (sym e) (bound-source s wanted blocks blocks' at new ahead fits ls moved low (subst (λ a. Counts wanted (in_block blocks' a)) e counts))
      | inr ns ↦ elim (cases_eq c t) as (λ _. in_bounds new.bounds (bound_row wanted) c ≤ (in_block blocks' c).erases) [
        | inl e ↦ subst (λ a. in_bounds new.bounds (bound_row wanted) a ≤ (in_block blocks' a).erases) (sym e) (bound-target s wanted blocks blocks' at new ahead lt moved low (subst (λ a. Counts wanted (in_block blocks' a)) e counts))
        | inr nt ↦
            let same = moved.others c (omega (arith, inside, n)) ns nt in
            let p = ahead.bounds wanted c (omega (arith, inside, n)) (subst (λ b. Counts wanted b) same counts) in
            let q = low.below (64 * bound_row wanted + c / 64) in
            let r = ap (λ b. b.erases) same in
            omega (arith, p, q, r)
      ]
    ]

-- and the bounds of all
pub worn-moved : (s : ℕ) (blocks blocks' : List BlockState) (at new : Cursors) → IsAhead blocks at → (in_block blocks s).erases < 65536 → s < length blocks → at.reserve < length blocks → BlocksMoved s at.reserve blocks blocks' → IsBoundFor blocks' s at new → AreWorn new.least_erases new.most_erases blocks'
worn-moved s blocks blocks' at new ahead fits ls lt moved low c inside =
    let n = moved.size in
    let kept = low.kept in
    let least : new.least_erases ≡ at.least_erases = ap (λ a. a.least_erases) low.rest in
    elim (cases_eq c s) as (λ _. (new.least_erases ≤ erases_of blocks' c) × (erases_of blocks' c ≤ new.most_erases)) [
      | inl e ↦
          let p = (ahead.worn s ls).0 in
          let q : erases_of blocks' c ≡ min ((in_block blocks s).erases + 1) 65535 = ap (λ a. erases_of blocks' a) e ∙ ap (λ b. b.erases) moved.source in
          let m = low.most in
          (omega (arith, p, q, fits, least), subst (λ a. erases_of blocks' a ≤ new.most_erases) (sym e) m)
      | inr ns ↦ elim (cases_eq c at.reserve) as (λ _. (new.least_erases ≤ erases_of blocks' c) × (erases_of blocks' c ≤ new.most_erases)) [
        | inl e ↦
            let p = ahead.worn at.reserve lt in
            let a = p.0 in
            let b = p.1 in
            let q : erases_of blocks' c ≡ (in_block blocks at.reserve).erases = ap (λ a. erases_of blocks' a) e ∙ ap (λ b. b.erases) moved.target in
            (omega (arith, a, q, least), omega (arith, b, q, kept))
        | inr nt ↦
            let p = ahead.worn c (omega (arith, inside, n)) in
            let a = p.0 in
            let b = p.1 in
            let q : erases_of blocks' c ≡ erases_of blocks c = ap (λ b. b.erases) (moved.others c (omega (arith, inside, n)) ns nt) in
            (omega (arith, a, q, least), omega (arith, b, q, kept))
      ]
    ]

-- the block into which one was copied isn't the reserve
pub other-reserve : (p : Policy) (s t r : ℕ) (blocks blocks' : List BlockState) → BlocksMoved s t blocks blocks' → IsNextReserve p blocks' r → t ≢ r
other-reserve p s t r blocks blocks' moved highest e = false≢true (sym (ap (λ b. b.plain) moved.target) ∙ (ap (λ a. (in_block blocks' a).plain) e ∙ highest.whole.0))

-- another block is the reserve
pub reserve-chosen : (r : ℕ) (blocks : List BlockState) (at mid new : Cursors) → at.reserve < length blocks → IsAhead blocks at → Widened at.reserve at mid → new.reserve ≡ r → new.spares ≡ length blocks → new.cursor ≡ mid.cursor → new.beyond ≡ mid.beyond → new.most ≡ mid.most → new.from ≡ mid.from → new.bounds ≡ mid.bounds → new.least_erases ≡ mid.least_erases → new.most_erases ≡ mid.most_erases → IsAhead blocks new
reserve-chosen r blocks at mid new lr ahead wide er es ec eb em ef eg el ew =
    let wm = wide.most in
    let wf = wide.from in
    let free : (c : ℕ) → c < length blocks → IsPassed new c → (in_block blocks c).free ≡ 0 = λ c l p.
    let q = wide.passed c (passed-from mid new c ec eb p) in
    elim q.0 as (λ _. (in_block blocks c).free ≡ 0) [ inl h ↦ ahead.cursor c l h q.1 | inr h ↦ ahead.beyond c l h q.1 ] in
    record {
      cursor = λ c l h other. free c l (inl h);
      beyond = λ c l h other. free c l (inr h);
      spares = λ c l whole other. omega (arith, l, es);
      within = (let low = ahead.within.0 in elim wide.within as (λ _. new.beyond ≤ length blocks) [ inl h ↦ omega (arith, h, low, eb) | inr h ↦ omega (arith, h, lr, eb) ], omega (arith, es));
      most = λ c l. let p = ahead.most c l in omega (arith, p, em, wm);
      from = λ c l h e. ahead.from c l (omega (arith, h, ef, wf)) (e ∙ (em ∙ wm));
      high = (let p = ahead.high in omega (arith, p, em, wm));
      bounds = subst (λ k. AreBounds blocks k) (sym (eg ∙ wide.bounds)) ahead.bounds;
      worn = subst (λ k. AreWorn k new.most_erases blocks) (sym (el ∙ wide.least)) (subst (λ k. AreWorn at.least_erases k blocks) (sym (ew ∙ wide.worn)) ahead.worn);
    }
