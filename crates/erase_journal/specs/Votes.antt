-- The votes that are left, as numbers: whether a journal is tired, and whether the votes last.
-- Source: own.
use Rattle.std.specs.Prelude.{◌≡◌, ◌⊎◌, ◌-◌, ◌<◌, ◌≤◌, Option, Some, None}
use Rattle.nor_layout.specs.declared.journal.JournalId.{JournalId}
use Rattle.nor_layout.specs.declared.journal.JournalId.TheVariants.{J0, J1, J2}
use Rattle.nor_layout.specs.Journals.{region_len}
use Rattle.nor_layout.specs.Entries.{entry_count}
use Rattle.erase_journal.specs.declared.unused.Unused.{Unused}

-- a journal is tired where one of its regions has fewer than 4 unused votes, J0 also where it has
-- no free entry
abbrev pub IsTired : JournalId → Unused → Type 0
IsTired J0 u = (u.j0_for_1 < 4) ⊎ (u.j0_for_2 < 4) ⊎ (u.free ≡ 0)
IsTired J1 u = (u.j1_for_2 < 4) ⊎ (u.j1_for_0 < 4)
IsTired J2 u = (u.j2_for_0 < 4) ⊎ (u.j2_for_1 < 4)

-- not tired
abbrev pub IsRested : JournalId → Unused → Type 0
IsRested J0 u = (4 ≤ u.j0_for_1) × (4 ≤ u.j0_for_2) × (1 ≤ u.free)
IsRested J1 u = (4 ≤ u.j1_for_2) × (4 ≤ u.j1_for_0)
IsRested J2 u = (4 ≤ u.j2_for_0) × (4 ≤ u.j2_for_1)

-- the lowest-numbered tired one
abbrev pub IsLowestTired : JournalId → Unused → Type 0
IsLowestTired J0 u = IsTired J0 u
IsLowestTired J1 u = IsRested J0 u × IsTired J1 u
IsLowestTired J2 u = IsRested J0 u × IsRested J1 u × IsTired J2 u

-- the lowest-numbered tired one, or none is tired
abbrev pub IsTiredAnswer : Unused → Option JournalId → Type 0
IsTiredAnswer u None = IsRested J0 u × IsRested J1 u × IsRested J2 u
IsTiredAnswer u (Some x) = IsLowestTired x u

-- a vote is left in each region
abbrev pub HasSome : Unused → Type 0
HasSome u = (1 ≤ u.j0_for_1) × (1 ≤ u.j0_for_2) × (1 ≤ u.j1_for_0) × (1 ≤ u.j1_for_2)
    × (1 ≤ u.j2_for_0) × (1 ≤ u.j2_for_1)

-- The votes last: maintenance never takes the last vote of a region. A region may be down to one
-- vote only where no erase that comes before its own renewal asks for that vote: while it has one,
-- the journals that are erased first are not tired.
pub record Last (u : Unused) : Type 0 where
  pub some : HasSome u
  pub j1_for_0 : u.j1_for_0 ≡ 1 → IsRested J0 u
  pub j2_for_0 : u.j2_for_0 ≡ 1 → IsRested J0 u
  pub j2_for_0_next : u.j2_for_0 ≡ 1 → u.j0_for_1 ≡ 4 → IsRested J1 u
  pub j2_for_1 : u.j2_for_1 ≡ 1 → IsRested J1 u
  pub j2_for_1_next : u.j2_for_1 ≡ 1 → u.j1_for_0 ≡ 4 → IsRested J0 u

-- the last vote of a region may be asked for by an erase of J0, and of J1
abbrev pub Needs0 : Unused → Type 0
Needs0 u = (u.j1_for_0 ≡ 1) ⊎ (u.j2_for_0 ≡ 1) ⊎ ((u.j2_for_1 ≡ 1) × (u.j1_for_0 ≡ 4))

abbrev pub Needs1 : Unused → Type 0
Needs1 u = (u.j2_for_1 ≡ 1) ⊎ ((u.j2_for_0 ≡ 1) × (u.j0_for_1 ≡ 4))

-- the numbers once journal x is blank: all votes of its own, J0 also all entries
abbrev pub renewed : JournalId → Unused → Unused
renewed J0 u = record u { j0_for_1 = region_len; j0_for_2 = region_len; free = entry_count }
renewed J1 u = record u { j1_for_0 = region_len; j1_for_2 = region_len }
renewed J2 u = record u { j2_for_0 = region_len; j2_for_1 = region_len }

-- the numbers once the next journal spent a vote for the erase of x
abbrev pub first_spent : JournalId → Unused → Unused
first_spent J0 u = record u { j1_for_0 = u.j1_for_0 - 1 }
first_spent J1 u = record u { j2_for_1 = u.j2_for_1 - 1 }
first_spent J2 u = record u { j0_for_2 = u.j0_for_2 - 1 }

-- and once the journal after it did
abbrev pub second_spent : JournalId → Unused → Unused
second_spent J0 u = record u { j2_for_0 = u.j2_for_0 - 1 }
second_spent J1 u = record u { j0_for_1 = u.j0_for_1 - 1 }
second_spent J2 u = record u { j1_for_2 = u.j1_for_2 - 1 }

-- the numbers once journal x was erased: each of the others spent a vote, and x is blank
abbrev pub once_erased : JournalId → Unused → Unused
once_erased x u = renewed x (second_spent x (first_spent x u))
