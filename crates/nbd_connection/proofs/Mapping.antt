-- what a piece says of a peer, said of what is seen of it
use Rattle.std.proofs.Common.{◌≡◌, ℕ, Bool, true, false, List, [], ◌∷◌, ap, ◌∙◌}
use Rattle.nbd_wire.specs.declared.command.Command.{Command}
use Rattle.nbd_session.specs.Sessions.{SessionState}
use Rattle.nbd_session.specs.Parts.{Part, Told, ForDisk, Last}
use Rattle.nbd_connection.specs.declared.piece.Fate.{Fate}
use Rattle.nbd_connection.specs.declared.piece.PieceOutcome.{PieceOutcome}
use Rattle.nbd_connection.specs.declared.piece.PieceOutcome.TheVariants.{Open, Closed, OutputFailed, Lost}
use Rattle.nbd_connection.specs.Turning.{CommandBy, PartBy, PartsBy, LosesPart, Reached, EndsIn, OutcomeBy, PieceTaken}

module _ {P Q : Type 0} (answers : P → P → Command → List ℕ → Fate → Type 0) (tells : P → P → List ℕ → Bool → Type 0)
    (answers' : Q → Q → Command → List ℕ → Fate → Type 0) (tells' : Q → Q → List ℕ → Bool → Type 0) (see : P → Q)
    (one : (a b : P) (c : Command) (bytes : List ℕ) (fate : Fate) → answers a b c bytes fate → answers' (see a) (see b) c bytes fate)
    (two : (a b : P) (reply : List ℕ) (taken : Bool) → tells a b reply taken → tells' (see a) (see b) reply taken) where
  command_seen : (a b : P) (c : Command) (payload : List ℕ) (fate : Fate) → CommandBy answers a b c payload fate → CommandBy answers' (see a) (see b) c payload fate
  command_seen a b c payload fate x = record { bytes = x.bytes; payload_is = x.payload_is; run = one a b c x.bytes fate x.run }

  part_seen : (a b : P) (part : Part) (taken : Bool) → PartBy answers tells a b part taken → PartBy answers' tells' (see a) (see b) part taken
  part_seen a b (Told reply) taken x = two a b reply taken x
  part_seen a b (ForDisk c payload) taken x = command_seen a b c payload _ x
  part_seen a b (Last reply) taken x = two a b reply taken x

  loses_seen : (a b : P) (part : Part) → LosesPart answers a b part → LosesPart answers' (see a) (see b) part
  loses_seen a b (Told reply) x = x
  loses_seen a b (ForDisk c payload) x = command_seen a b c payload _ x
  loses_seen a b (Last reply) x = x

  parts_seen : (a b : P) (parts : List Part) → PartsBy answers tells a b parts → PartsBy answers' tells' (see a) (see b) parts
  parts_seen a b [] x = ap see x
  parts_seen a b (part ∷ more) x = (see x.0, part_seen a x.0 part true x.1, parts_seen x.0 b more x.2)

  reached_seen : Reached P → Reached Q
  reached_seen r = record { done = r.done; parts = r.parts; peer = see r.peer; ahead = r.ahead }

  ends_seen : (old : SessionState) (r : Reached P) (last last' : Part → Type 0) → ((part : Part) → last part → last' part) → EndsIn old r last → EndsIn old (reached_seen r) last'
  unfolding reached_seen
  ends_seen old r last last' seen x = record {
    unit = x.unit;
    others = x.others;
    part = x.part;
    ahead_is = x.ahead_is;
    gains = x.gains;
    ends = seen x.part x.ends;
  }

  progress_seen : (r : Reached P) (b : P) (old new : SessionState) (progress : PieceOutcome) → OutcomeBy answers tells r b old new progress
      → OutcomeBy answers' tells' (reached_seen r) (see b) old new progress
  unfolding reached_seen
  progress_seen r b old new Open x = (x.0, ap see x.1, x.2, x.3)
  progress_seen r b old new Closed x = (x.0, ap see x.1)
  progress_seen r b old new OutputFailed x = (x.0, ends_seen old r _ _ (λ part y. part_seen r.peer b part false y) x.1)
  progress_seen r b old new Lost x = (x.0, ends_seen old r _ _ (λ part y. loses_seen r.peer b part y) x.1)

  pub piece_seen : (a b : P) (old new : SessionState) (bytes : List ℕ) (progress : PieceOutcome) → PieceTaken answers tells a b old new bytes progress
      → PieceTaken answers' tells' (see a) (see b) old new bytes progress
  unfolding reached_seen
  piece_seen a b old new bytes progress x = record {
    reached = reached_seen x.reached;
    bytes_are = x.bytes_are;
    gains = x.gains;
    runs = parts_seen a x.reached.peer x.reached.parts x.runs;
    ends = progress_seen x.reached b old new progress x.ends;
  }

-- what each call keeps of a peer, a piece keeps
module _ {P X : Type 0} (answers : P → P → Command → List ℕ → Fate → Type 0) (tells : P → P → List ℕ → Bool → Type 0) (of : P → X)
    (one : (a b : P) (c : Command) (bytes : List ℕ) (fate : Fate) → answers a b c bytes fate → of b ≡ of a)
    (two : (a b : P) (reply : List ℕ) (taken : Bool) → tells a b reply taken → of b ≡ of a) where
  part_keeps : (a b : P) (part : Part) (taken : Bool) → PartBy answers tells a b part taken → of b ≡ of a
  part_keeps a b (Told reply) taken x = two a b reply taken x
  part_keeps a b (ForDisk c payload) taken x = one a b c x.bytes _ x.run
  part_keeps a b (Last reply) taken x = two a b reply taken x

  loses_keeps : (a b : P) (part : Part) → LosesPart answers a b part → of b ≡ of a
  loses_keeps a b (Told reply) x = absurd x
  loses_keeps a b (ForDisk c payload) x = one a b c x.bytes _ x.run
  loses_keeps a b (Last reply) x = absurd x

  parts_keep : (a b : P) (parts : List Part) → PartsBy answers tells a b parts → of b ≡ of a
  parts_keep a b [] x = ap of x
  parts_keep a b (part ∷ more) x = parts_keep x.0 b more x.2 ∙ part_keeps a x.0 part true x.1

  progress_keeps : (r : Reached P) (b : P) (old new : SessionState) (progress : PieceOutcome) → OutcomeBy answers tells r b old new progress → of b ≡ of r.peer
  progress_keeps r b old new Open x = ap of x.1
  progress_keeps r b old new Closed x = ap of x.1
  progress_keeps r b old new OutputFailed x = part_keeps r.peer b x.1.part false x.1.ends
  progress_keeps r b old new Lost x = loses_keeps r.peer b x.1.part x.1.ends

  pub piece_keeps : (a b : P) (old new : SessionState) (bytes : List ℕ) (progress : PieceOutcome) → PieceTaken answers tells a b old new bytes progress → of b ≡ of a
  piece_keeps a b old new bytes progress x =
      progress_keeps x.reached b old new progress x.ends ∙ parts_keep a x.reached.peer x.reached.parts x.runs
