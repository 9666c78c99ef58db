use Rattle.std.proofs.Common.{ℕ, List, [], ◌∷◌, true, false, refl, subst, inl, inr, arith}
use Rattle.std.proofs.lemmas.List.{drop_all}
use Rattle.nbd_wire.specs.Lent.{payload_in}
use Rattle.nbd_session.specs.Sessions.{reply_of, room_of}
use Rattle.nbd_session.specs.Parts.{Told, ForDisk, Last}
use Rattle.nbd_connection.proofs.piece.take_turn.Goals as goal

pub returns-in-More-clause-turned : goal.returns-in-More-clause-turned
returns-in-More-clause-turned g c =
    let all = c.take-taken.ensures.more c.in-More.is in record {
      added = [];
      grows = λ start text is_open h. rw c.in-More.is at (c.take-taken.ensures.says start text is_open h);
      does = inl (refl, refl, drop_all c.take-taken.result.used c.args.bytes.now (omega (arith, all)));
    }

pub returns-in-true-clause-turned : goal.returns-in-true-clause-turned
returns-in-true-clause-turned g c =
    let part = Told (reply_of c.take-taken.new.self) in
    record {
      added = part ∷ [];
      grows = λ start text is_open h. rw c.in-Reply.is at (c.take-taken.ensures.says start text is_open h);
      does = inr (part, refl, refl, subst (λ (l : List ℕ). g.P.Peer.tells c.args.peer.now c.tell.new.self l true) c.reply.ensures.value c.in-true.ensures.tells);
    }

pub returns-in-false-clause-turned : goal.returns-in-false-clause-turned
returns-in-false-clause-turned g c =
    let part = Told (reply_of c.take-taken.new.self) in
    record {
      added = part ∷ [];
      grows = λ start text is_open h. rw c.in-Reply.is at (c.take-taken.ensures.says start text is_open h);
      does = (part, refl, subst (λ (l : List ℕ). g.P.Peer.tells c.args.peer.now c.tell.new.self l false) c.reply.ensures.value c.in-false.ensures.tells);
    }

pub returns-in-Replied-clause-turned : goal.returns-in-Replied-clause-turned
returns-in-Replied-clause-turned g c =
    let command = c.in-Run.command in
    let payload = payload_in command (room_of c.take-taken.new.self) in
    record {
      added = ForDisk command payload ∷ [];
      grows = λ start text is_open h.
          let x = rw c.in-Run.is at (c.take-taken.ensures.says start text is_open h) in
          (x.0, c.in-Replied.ensures.represents start _ x.1);
      does = inr (ForDisk command payload, refl, refl, c.in-Replied.ensures.by);
    }

pub returns-in-Untaken-clause-turned : goal.returns-in-Untaken-clause-turned
returns-in-Untaken-clause-turned g c =
    let command = c.in-Run.command in
    let payload = payload_in command (room_of c.take-taken.new.self) in
    record {
      added = ForDisk command payload ∷ [];
      grows = λ start text is_open h.
          let x = rw c.in-Run.is at (c.take-taken.ensures.says start text is_open h) in
          (x.0, c.in-Untaken.ensures.represents start _ x.1);
      does = (ForDisk command payload, refl, c.in-Untaken.ensures.by);
    }

pub returns-in-Lost-clause-turned : goal.returns-in-Lost-clause-turned
returns-in-Lost-clause-turned g c =
    let command = c.in-Run.command in
    let payload = payload_in command (room_of c.take-taken.new.self) in
    record {
      added = ForDisk command payload ∷ [];
      grows = λ start text is_open h.
          let x = rw c.in-Run.is at (c.take-taken.ensures.says start text is_open h) in
          (x.0, c.in-Lost.ensures.represents start _ x.1);
      does = (ForDisk command payload, refl, c.in-Lost.ensures.by);
    }

pub returns-in-true-tell-clause-turned : goal.returns-in-true-tell-clause-turned
returns-in-true-tell-clause-turned g c =
    let part = Last (reply_of c.take-taken.new.self) in
    record {
      added = part ∷ [];
      grows = λ start text is_open h. rw c.in-Close.is at (c.take-taken.ensures.says start text is_open h);
      does = (part, refl, refl, subst (λ (l : List ℕ). g.P.Peer.tells c.args.peer.now c.tell-in-Close.new.self l true) c.reply-in-Close.ensures.value c.in-true-tell.ensures.tells);
    }

pub returns-in-false-tell-clause-turned : goal.returns-in-false-tell-clause-turned
returns-in-false-tell-clause-turned g c =
    let part = Last (reply_of c.take-taken.new.self) in
    record {
      added = part ∷ [];
      grows = λ start text is_open h. rw c.in-Close.is at (c.take-taken.ensures.says start text is_open h);
      does = (part, refl, subst (λ (l : List ℕ). g.P.Peer.tells c.args.peer.now c.tell-in-Close.new.self l false) c.reply-in-Close.ensures.value c.in-false-tell.ensures.tells);
    }
