-- A chip whose bytes were read.
use Rattle.std.proofs.Common.{◌≡◌, ℕ, ◌*◌, ◌/◌, List, [], ◌∷◌, length, sym, subst, arith, Option}
use Rattle.chip_model.specs.Chip.{Chip}
use Rattle.chip_model.specs.Frames.{status_1}
use Rattle.chip_model.specs.Exchanges.{Exchange, Exchanged}
use Rattle.chip_watch.specs.Opening.{Opens}
use Rattle.chip_watch.specs.Reading.{piece_reads}
use Rattle.chip_watch.specs.Settling.{Rests}

-- the registers that were read, by their values
abbrev pub registers_of : ℕ → ℕ → ℕ → List Exchange
registers_of first second third =
    record { sent = 5 ∷ []; received = first ∷ [] }
    ∷ record { sent = 53 ∷ []; received = second ∷ [] }
    ∷ record { sent = 21 ∷ []; received = third ∷ [] } ∷ []

pub opened : (c : Chip) (old rested registered tabled new : Option (List Exchange)) (first second third : ℕ) (table memory : List ℕ) (size : ℕ)
    → status_1 c ≡ first → c.status2 ≡ second → c.status3 ≡ third → c.sfdp ≡ table → c.memory ≡ memory → length memory ≡ 4096 * (size / 4096)
    → Rests old rested → Exchanged rested registered (registers_of first second third)
    → Exchanged registered tabled (record { sent = 90 ∷ 0 ∷ 0 ∷ 0 ∷ 0 ∷ []; received = table } ∷ [])
    → Exchanged tabled new (piece_reads memory 0 (size / 4096)) → Opens c old new
opened c old rested registered tabled new first second third table memory size e1 e2 e3 et em long rests registers told read =
    let count : size / 4096 ≡ length memory / 4096 = omega (arith, long) in
    record {
      rested = rested;
      registered = registered;
      tabled = tabled;
      rests = rests;
      registers =
          subst (λ (v : ℕ). Exchanged rested registered (registers_of v c.status2 c.status3)) (sym e1)
          (subst (λ (v : ℕ). Exchanged rested registered (registers_of first v c.status3)) (sym e2)
          (subst (λ (v : ℕ). Exchanged rested registered (registers_of first second v)) (sym e3) registers));
      table = subst (λ (t : List ℕ). Exchanged registered tabled (record { sent = 90 ∷ 0 ∷ 0 ∷ 0 ∷ 0 ∷ []; received = t } ∷ [])) (sym et) told;
      memory =
          subst (λ (m : List ℕ). Exchanged tabled new (piece_reads m 0 (length m / 4096))) (sym em)
          (subst (λ (n : ℕ). Exchanged tabled new (piece_reads memory 0 n)) count read);
    }
