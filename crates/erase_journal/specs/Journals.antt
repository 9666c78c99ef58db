-- The three journals in a memory: their votes and entries, the phases of an erase of a journal, and
-- what a healthy memory is. Source: own.
use Rattle.std.specs.Prelude.{◌≡◌, ℕ, ◌+◌, ◌<◌, ◌≤◌, Bool, not, List, [], ◌∷◌, length}
use Rattle.std.specs.Prelude.{◌==◌, ◌&&◌, ◌||◌}
use Rattle.std.specs.Prelude.{nat_lt}
use Rattle.chip_model.specs.Memory.{byte}
use Rattle.chip_model.specs.Geometry.{block_count}
use Rattle.nor_layout.specs.declared.journal.JournalId.{JournalId}
use Rattle.nor_layout.specs.declared.journal.JournalId.TheVariants.{J0, J1, J2}
use Rattle.nor_layout.specs.Journals.{region_len, next, first_at, second_at}
use Rattle.nor_layout.specs.declared.vote.Vote.TheVariants.{Unused, Open, Closed, GivenUp}
use Rattle.nor_layout.specs.Votes.{byte_of}
use Rattle.nor_layout.specs.Entries.{entry_count, entry_at, block_in, is_open}
use Rattle.erase_journal.specs.declared.phase.ErasePhase.{ErasePhase}
use Rattle.erase_journal.specs.declared.phase.ErasePhase.TheVariants.{Idle, Asked, Doomed, Closing}
use Rattle.erase_journal.specs.declared.scan.VoteCounts.{VoteCounts}
use Rattle.erase_journal.specs.declared.tally.JournalTally.{JournalTally}
use Rattle.erase_journal.specs.declared.unused.Unused as numbers
use Rattle.erase_journal.specs.Places.{how_many}
use Rattle.erase_journal.specs.Votes.{Last, renewed, second_spent}

-- The votes of a region: how many are unused, open, and no vote.
unfoldable pub votes_at : List ℕ → ℕ → VoteCounts
votes_at m at = record {
  unused = how_many (λ k. byte m (at + k) == byte_of Unused) region_len;
  opened = how_many (λ k. byte m (at + k) == byte_of Open) region_len;
  wrong = how_many (λ k. not (byte m (at + k) == byte_of Unused || byte m (at + k) == byte_of Open
      || byte m (at + k) == byte_of Closed || byte m (at + k) == byte_of GivenUp)) region_len;
}

-- byte j of entry i of J0, and its four bytes
abbrev pub entry_byte : List ℕ → ℕ → ℕ → ℕ
entry_byte m i j = byte m (entry_at i + j)

abbrev pub entry_bytes : List ℕ → ℕ → List ℕ
entry_bytes m i = entry_byte m i 0 ∷ entry_byte m i 1 ∷ entry_byte m i 2 ∷ entry_byte m i 3 ∷ []

-- the block that it names
abbrev pub entry_block : List ℕ → ℕ → ℕ
entry_block m i = block_in (entry_bytes m i)

-- the entries of a memory, as they are read, are bytes
abbrev pub AreEntryBytes : List ℕ → Type 0
AreEntryBytes m = (i j : ℕ) → i < entry_count → j < 4 → entry_byte m i j < 256

-- free: four FFh
abbrev pub is_free_entry : List ℕ → ℕ → Bool
is_free_entry m i = entry_byte m i 0 == 255 && entry_byte m i 1 == 255 && entry_byte m i 2 == 255
    && entry_byte m i 3 == 255

-- open, for a data block of this chip
abbrev pub is_open_entry : List ℕ → ℕ → Bool
is_open_entry m i = is_open (block_count (length m)) (entry_bytes m i)

unfoldable pub free_entries : List ℕ → ℕ
free_entries m = how_many (is_free_entry m) entry_count

-- the open entries for block b
unfoldable pub entries_for : List ℕ → ℕ → ℕ
entries_for m b = how_many (λ i. is_open_entry m i && entry_block m i == b) entry_count

-- how many blocks have an open entry
unfoldable pub open_blocks : List ℕ → ℕ
open_blocks m = how_many (λ b. nat_lt 0 (entries_for m b)) (block_count (length m))

-- all numbers of the journals of a memory
abbrev pub tally_of : List ℕ → JournalTally
tally_of m = record {
  j0_for_1 = votes_at m (second_at J1);
  j0_for_2 = votes_at m (first_at J2);
  j1_for_2 = votes_at m (second_at J2);
  j1_for_0 = votes_at m (first_at J0);
  j2_for_0 = votes_at m (second_at J0);
  j2_for_1 = votes_at m (first_at J1);
  free = free_entries m;
  opened = open_blocks m;
}

-- the votes for the erase of x: those of the next journal, and those of the one after it
abbrev pub first : JournalTally → JournalId → VoteCounts
first s J0 = s.j1_for_0
first s J1 = s.j2_for_1
first s J2 = s.j0_for_2

abbrev pub second : JournalTally → JournalId → VoteCounts
second s J0 = s.j2_for_0
second s J1 = s.j0_for_1
second s J2 = s.j1_for_2

-- the unused votes, and the free entries
abbrev pub unused_of : JournalTally → numbers.Unused
unused_of s = record {
  j0_for_1 = s.j0_for_1.unused;
  j0_for_2 = s.j0_for_2.unused;
  j1_for_0 = s.j1_for_0.unused;
  j1_for_2 = s.j1_for_2.unused;
  j2_for_0 = s.j2_for_0.unused;
  j2_for_1 = s.j2_for_1.unused;
  free = s.free;
}

abbrev pub unused : List ℕ → numbers.Unused
unused m = unused_of (tally_of m)

-- so many open votes in a region, and none that is wrong
abbrev pub HoldsVotes : VoteCounts → ℕ → Type 0
HoldsVotes v n = (v.opened ≡ n) × (v.wrong ≡ 0)

-- one open vote or more, and none that is wrong
abbrev pub HoldsSomeVotes : VoteCounts → Type 0
HoldsSomeVotes v = (1 ≤ v.opened) × (v.wrong ≡ 0)

-- no open vote for x
abbrev pub HasNoOpenVote : JournalTally → JournalId → Type 0
HasNoOpenVote s x = HoldsVotes (first s x) 0 × HoldsVotes (second s x) 0

-- The journals that are believed hold nothing but what the phase says: in `Idle` one block at most
-- has open entries. A journal is believed unless both others hold an open vote for its erase; of
-- the votes and entries of a doomed one nothing is said. The next journal may hold several open
-- votes for the erase of a doomed one: a firm recovery opens another before it closes the older.
abbrev pub IsInPhase : ErasePhase → JournalTally → Type 0
IsInPhase Idle s = HasNoOpenVote s J0 × HasNoOpenVote s J1 × HasNoOpenVote s J2 × (s.opened ≤ 1)
IsInPhase (Asked x) s = HoldsVotes (first s x) 1 × HoldsVotes (second s x) 0
    × HasNoOpenVote s (next x) × HasNoOpenVote s (next (next x)) × (s.opened ≡ 0)
IsInPhase (Doomed J0) s = HoldsSomeVotes (first s J0) × HoldsVotes (second s J0) 1
    × HoldsVotes (first s J1) 0 × HoldsVotes (second s J2) 0
IsInPhase (Doomed J1) s = HoldsSomeVotes (first s J1) × HoldsVotes (second s J1) 1
    × HoldsVotes (first s J2) 0 × HoldsVotes (second s J0) 0 × (s.opened ≡ 0)
IsInPhase (Doomed J2) s = HoldsSomeVotes (first s J2) × HoldsVotes (second s J2) 1
    × HoldsVotes (first s J0) 0 × HoldsVotes (second s J1) 0 × (s.opened ≡ 0)
IsInPhase (Closing x) s = HoldsVotes (first s x) 0 × HoldsVotes (second s x) 1
    × HasNoOpenVote s (next x) × HasNoOpenVote s (next (next x)) × (s.opened ≡ 0)

-- The numbers as they stand once the erase that goes on is done: a journal that is asked for has
-- one vote still to be spent.
abbrev pub settled : ErasePhase → numbers.Unused → numbers.Unused
settled Idle u = u
settled (Asked x) u = renewed x (second_spent x u)
settled (Doomed x) u = renewed x u
settled (Closing x) u = u

-- the phase once a recovery has made sure of what it goes on with: a journal that is asked for is
-- doomed
abbrev pub begun : ErasePhase → ErasePhase
begun Idle = Idle
begun (Asked x) = Doomed x
begun (Doomed x) = Doomed x
begun (Closing x) = Closing x

-- The journals are in this phase, and their votes last.
pub record IsSoundTally (p : ErasePhase) (s : JournalTally) : Type 0 where
  pub phase : IsInPhase p s
  pub lasts : Last (settled p (unused_of s))

abbrev pub AreJournalsSound : ErasePhase → List ℕ → Type 0
AreJournalsSound p m = IsSoundTally p (tally_of m)

-- A healthy memory: the journals are sound in one of the phases. Else they are corrupt.
abbrev pub IsHealthy : List ℕ → Type 0
IsHealthy m = (p : ErasePhase) × AreJournalsSound p m

-- No erase goes on, neither of a journal nor of a data block.
pub record IsSettled (m : List ℕ) : Type 0 where
  pub sound : AreJournalsSound Idle m
  pub none : open_blocks m ≡ 0
