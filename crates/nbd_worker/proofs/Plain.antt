-- A connection to a server whose disk is sound and in which no refusal comes is one to a plain array.
use Rattle.std.proofs.Common.{◌≡◌, ℕ, ◌≤◌, List, [], ◌∷◌, ◌++◌, Bool, true, false, refl, sym, ap, ◌∙◌, subst, arith, append_assoc, append-nil, length, length-append, Option, Some, None, inl, inr}
use Rattle.std.specs.Io.KnownBytes.{Appends, Consumes, IsAtEnd}
use Rattle.nbd_wire.specs.declared.command.Command.{Command}
use Rattle.nbd_wire.specs.declared.command.CommandKind.{CommandKind}
use Rattle.nbd_wire.specs.declared.command.CommandKind.TheVariants.{Read, Write, Disconnect, Flush, Trim, WriteZeroes, Unknown}
use Rattle.nbd_transmission.specs.Apply.{changed_kind, head_of}
use Rattle.nbd_session.specs.Sessions.{opening}
use Rattle.nbd_session.specs.Parts.{Part, Told, ForDisk, Last, IsPartsOf, closed}
use Rattle.nbd_session.proofs.PartLaws.{one_list, parts_end, parts_none}
use Rattle.nbd_worker.specs.declared.attending.End.{End}
use Rattle.nbd_worker.specs.declared.attending.End.TheVariants.{Closed as ClosedEnd, EndOfInput, Input, Output, Lost as LostEnd, OutOfMemory}
use Rattle.nbd_share.specs.declared.door.Point.{Point}
use Rattle.nbd_worker.specs.Connection.{AnsweredBy, Connection, Executed, PartsAnsweredBy, ExecutedAndLost, answer_bytes}
use Rattle.nbd_wire.specs.Lent.{payload_in_of, reply_in}
use Rattle.nbd_worker.specs.ConnectionState.{DoorState, Reading, Setting, ConnectionState}
use Rattle.nbd_worker.specs.Plain.{IsServerQuiet, AnswersAll, PlainBy, RepliesToPart, RepliesToParts, of_server}
use Rattle.nbd_share.specs.State.{Reply, Served}

-- counts never fall
pub record Rises (s t : Served) : Type 0 where
  pub cuts : s.disk.cuts ≤ t.disk.cuts
  pub slows : s.disk.slows ≤ t.disk.slows

rises-same : (a b : DoorState Served) → b ≡ a → Rises a.door b.door
rises-same a b e = record { cuts = rw e (omega arith); slows = rw e (omega arith) }

answered-rises : (keeps : Bool) (a b : DoorState Served) (part : Part) (out : List ℕ) → AnsweredBy (of_server keeps) a part out b → Rises a.door b.door
answered-rises keeps a b (Told reply) out h = rises-same a b h.1
answered-rises keeps a b (ForDisk c payload) out h = record { cuts = h.run.0.goes.cuts; slows = h.run.0.goes.slows }
answered-rises keeps a b (Last reply) out h = rises-same a b h.1

runs-rise : (keeps : Bool) (a b : DoorState Served) (ps : List Part) (out : List ℕ) → PartsAnsweredBy (of_server keeps) a ps out b → Rises a.door b.door
runs-rise keeps a b [] out r = rises-same a b r.1
runs-rise keeps a b (p ∷ ps) out r =
    let one = answered-rises keeps a r.2 p r.0 r.4 in
    let others = runs-rise keeps r.2 b ps r.1 r.5 in
    record { cuts = omega (arith, one.cuts, others.cuts); slows = omega (arith, one.slows, others.slows) }

-- a WRITE's payload is the bytes behind its head, and no other command has any
changed-same : (k : CommandKind) (d : List ℕ) (c : Command) (bytes payload : List ℕ) → payload_in_of k bytes ≡ payload → changed_kind k d c bytes ≡ changed_kind k d c payload
changed-same Read d c bytes payload h = refl
changed-same Write d c bytes payload h = ap (λ (p : List ℕ). changed_kind Write d c p) h
changed-same Disconnect d c bytes payload h = refl
changed-same Flush d c bytes payload h = refl
changed-same Trim d c bytes payload h = refl
changed-same WriteZeroes d c bytes payload h = refl
changed-same (Unknown n) d c bytes payload h = refl

not_both : (b : Bool) → b ≡ true → b ≡ false → ⊥
not_both b t f = cc

-- what one part leaves, and says
pub record Plainly (keeps : Bool) (a b : DoorState Served) (part : Part) (out : List ℕ) : Type 0 where
  pub quiet : IsServerQuiet b.door
  pub replies : RepliesToPart keeps a.door.disk.contents part out b.door.disk.contents

answer-at : (a : Reply) (c : Command) (e : ℕ) (out : List ℕ) → out ≡ answer_bytes a → a.command ≡ c → a.error ≡ e → out ≡ head_of c e ++ reply_in c e a.bytes
answer-at a c e out o f g =
    o ∙ ap (λ (x : Command). head_of x a.error ++ reply_in x a.error a.bytes) f ∙ ap (λ (x : ℕ). head_of c x ++ reply_in c x a.bytes) g

executed-plainly : (keeps : Bool) (a b : DoorState Served) (c : Command) (payload out : List ℕ) → IsServerQuiet a.door → b.door.disk.cuts ≤ a.door.disk.cuts → b.door.disk.slows ≤ a.door.disk.slows
    → Executed (of_server keeps) a b c payload out → Plainly keeps a b (ForDisk c payload) out
executed-plainly keeps a b c payload out q cuts slows x =
    let s = a.door in
    let r = x.run.0.replied in
    let y = x.reply in
    elim r.holds.error_is [
      | inl zero_is ↦
          let ran = r.ran zero_is in
          record {
            quiet = record { sound = x.run.0.sound ∙ q.sound; cut = ran.no_cut.1; slow = ran.no_slow.0 ∙ q.slow };
            replies = inl (
              answer-at y c 0 out x.out_is r.holds.command_is zero_is ∙ ap (λ (z : List ℕ). head_of c 0 ++ z) (ran.reply q.sound),
              ran.contents q.sound ∙ changed-same c.kind s.disk.contents c x.bytes payload x.payload_is,
            );
          }
      | inr other ↦ elim other [
        | inl five ↦
            let slow = r.slow five in
            absurd (elim slow.cause [ inl stood ↦ not_both s.disk.slow stood q.slow | inr rose ↦ omega arith ])
        | inr twelve ↦
            let none = r.memory twelve in
            record {
              quiet = rw none.0 q;
              replies = inr (none.2, answer-at y c 12 out x.out_is r.holds.command_is twelve ∙ append-nil (head_of c 12), ap (λ (z : Served). z.disk.contents) none.0);
            }
      ]
    ]

answered-plainly : (keeps : Bool) (a b : DoorState Served) (part : Part) (out : List ℕ) → IsServerQuiet a.door → b.door.disk.cuts ≤ a.door.disk.cuts → b.door.disk.slows ≤ a.door.disk.slows
    → AnsweredBy (of_server keeps) a part out b → Plainly keeps a b part out
answered-plainly keeps a b (Told reply) out q cuts slows h = record { quiet = subst (λ (x : DoorState Served). IsServerQuiet x.door) (sym h.1) q; replies = (h.0, ap (λ (x : DoorState Served). x.door.disk.contents) h.1) }
answered-plainly keeps a b (ForDisk c payload) out q cuts slows h = executed-plainly keeps a b c payload out q cuts slows h
answered-plainly keeps a b (Last reply) out q cuts slows h = record { quiet = subst (λ (x : DoorState Served). IsServerQuiet x.door) (sym h.1) q; replies = (h.0, ap (λ (x : DoorState Served). x.door.disk.contents) h.1) }

-- all parts, one after another
pub record AllPlainly (keeps : Bool) (a b : DoorState Served) (ps : List Part) (out : List ℕ) : Type 0 where
  pub quiet : IsServerQuiet b.door
  pub replies : RepliesToParts keeps a.door.disk.contents ps out b.door.disk.contents

runs-plainly : (keeps : Bool) (a b : DoorState Served) (ps : List Part) (out : List ℕ) → IsServerQuiet a.door → b.door.disk.cuts ≤ a.door.disk.cuts → b.door.disk.slows ≤ a.door.disk.slows
    → PartsAnsweredBy (of_server keeps) a ps out b → AllPlainly keeps a b ps out
runs-plainly keeps a b [] out q cuts slows r = record { quiet = subst (λ (x : DoorState Served). IsServerQuiet x.door) (sym r.1) q; replies = (r.0, ap (λ (x : DoorState Served). x.door.disk.contents) r.1) }
runs-plainly keeps a b (p ∷ ps) out q cuts slows r =
    let one = answered-rises keeps a r.2 p r.0 r.4 in
    let others = runs-rise keeps r.2 b ps r.1 r.5 in
    let here = answered-plainly keeps a r.2 p r.0 q (omega (arith, cuts, others.cuts)) (omega (arith, slows, others.slows)) r.4 in
    let there = runs-plainly keeps r.2 b ps r.1 here.quiet (omega (arith, cuts, one.cuts)) (omega (arith, slows, one.slows)) r.5 in
    record { quiet = there.quiet; replies = (r.0, r.1, r.2.door.disk.contents, r.3, here.replies, there.replies) }

-- nothing is lost where no Cut is latched or comes
taken-never : (keeps : Bool) (a b : DoorState Served) (c : Command) (payload : List ℕ) → IsServerQuiet a.door → b.door.disk.cuts ≤ a.door.disk.cuts → ExecutedAndLost (of_server keeps) a b c payload → ⊥
taken-never keeps a b c payload q cuts x = elim x.run.0.loses.cause [ inl stood ↦ not_both a.door.disk.cut stood q.cut | inr rose ↦ omega arith ]

pub never-lost : {G : Type 0} (keeps : Bool) (passes : G → G → List Point → Type 0) (st : Setting) (a b : ConnectionState Served G) (read : Reading) → IsServerQuiet a.place.door
    → b.place.door.disk.cuts ≤ a.place.door.disk.cuts → b.place.door.disk.slows ≤ a.place.door.disk.slows → Connection (of_server keeps) passes st a b read LostEnd → ⊥
never-lost keeps passes st a b read q cuts slows x =
    let o = x.over in
    let l = o.ends.1 in
    let rises : Rises o.last.door b.place.door = record { cuts = l.taken.run.0.goes.cuts; slows = l.taken.run.0.goes.slows } in
    let began = runs-rise keeps a.place o.last o.parts o.out o.runs in
    let all = runs-plainly keeps a.place o.last o.parts o.out q (omega (arith, cuts, rises.cuts)) (omega (arith, slows, rises.slows)) o.runs in
    taken-never keeps o.last b.place l.command l.payload all.quiet (omega (arith, cuts, began.cuts)) l.taken

-- what a reader that tells its bytes has left
rest-of : (input text : List ℕ) (left : Option (List ℕ)) → Consumes (Some input) left text → (others : List ℕ) × (left ≡ Some others) × (input ≡ text ++ others)
rest-of input text None h = absurd h
rest-of input text (Some others) h = (others, refl, h)

none-left : (left : Option (List ℕ)) (others : List ℕ) → left ≡ Some others → IsAtEnd left → others ≡ []
none-left left others e h = let P : Option (List ℕ) → Type 0 = λ x. IsAtEnd x in subst P e h

-- up to the place after the last answer
answers-to : (keeps : Bool) (a last b : DoorState Served) (ps : List Part) (out : List ℕ) → IsServerQuiet a.door → b.door.disk.cuts ≤ a.door.disk.cuts → b.door.disk.slows ≤ a.door.disk.slows → b ≡ last
    → PartsAnsweredBy (of_server keeps) a ps out last → RepliesToParts keeps a.door.disk.contents ps out b.door.disk.contents
answers-to keeps a last b ps out q cuts slows same r =
    let P : DoorState Served → Type 0 = λ x. PartsAnsweredBy (of_server keeps) a ps out x in
    (runs-plainly keeps a b ps out q cuts slows (subst P (sym same) r)).replies

plain-all : (keeps : Bool) (st : Setting) (contents contents' input out sent unsent : List ℕ) (ps : List Part) (old new : Option (List ℕ)) (closes : Bool)
    → IsPartsOf st.start st.export input ps → closed ps ≡ closes → RepliesToParts keeps contents ps out contents'
    → opening st.start ++ out ≡ sent ++ unsent → unsent ≡ [] → Appends old new sent → AnswersAll keeps st contents contents' input old new closes
plain-all keeps st contents contents' input out sent unsent ps old new closes are closed_is replies is none wrote = record {
  parts = ps;
  out = out;
  parts_are = are;
  closes_is = closed_is;
  replies = replies;
  wrote = subst (λ (x : List ℕ). Appends old new x) (sym (is ∙ ap (λ (x : List ℕ). sent ++ x) none ∙ append-nil sent)) wrote;
}

-- nothing was sent where all of the opening is missing
none-sent : (first out sent unsent : List ℕ) → first ++ out ≡ sent ++ unsent → out ≡ [] → unsent ≡ first → sent ≡ []
none-sent first out [] unsent e none all = refl
none-sent first out (x ∷ xs) unsent e none all =
    let long = ap (λ (y : List ℕ). length y) e in
    absurd (omega (arith, long, length-append first out, length-append (x ∷ xs) unsent, ap (λ (y : List ℕ). length y) none, ap (λ (y : List ℕ). length y) all))

pub plain-by : {G : Type 0} (keeps : Bool) (passes : G → G → List Point → Type 0) (st : Setting) (a b : ConnectionState Served G) (read : Reading) (input : List ℕ) (end : End) → IsServerQuiet a.place.door
    → b.place.door.disk.cuts ≤ a.place.door.disk.cuts → b.place.door.disk.slows ≤ a.place.door.disk.slows → read.had ≡ Some input → Connection (of_server keeps) passes st a b read end
    → PlainBy keeps st a.place.door.disk.contents b.place.door.disk.contents input a.written b.written end
plain-by keeps passes st a b read input ClosedEnd q cuts slows tells x =
    let o = x.over in
    let left = rest-of input x.text read.left (subst (λ (y : Option (List ℕ)). Consumes y read.left x.text) tells x.took) in
    let is : input ≡ o.cut ++ (o.dropped ++ left.0) = left.2 ∙ ap (λ (y : List ℕ). y ++ left.0) o.text_is ∙ append_assoc o.cut o.dropped left.0 in
    let are : IsPartsOf st.start st.export input o.parts =
    subst (λ (y : List ℕ). IsPartsOf st.start st.export y o.parts) (sym is) (parts_end st.start st.export o.cut (o.dropped ++ left.0) o.parts o.parts_are o.ends.0) in
    plain-all keeps st a.place.door.disk.contents b.place.door.disk.contents input o.out o.sent o.unsent o.parts a.written b.written true are o.ends.0
    (answers-to keeps a.place o.last b.place o.parts o.out q cuts slows o.ends.2 o.runs) o.out_is o.ends.1 o.wrote
plain-by keeps passes st a b read input EndOfInput q cuts slows tells x =
    let o = x.over in
    let left = rest-of input x.text read.left (subst (λ (y : Option (List ℕ)). Consumes y read.left x.text) tells x.took) in
    let none = none-left read.left left.0 left.1 x.reader.0 in
    let is : input ≡ o.cut = left.2 ∙ ap (λ (y : List ℕ). x.text ++ y) none ∙ append-nil x.text ∙ o.text_is ∙ ap (λ (y : List ℕ). o.cut ++ y) o.ends.2 ∙ append-nil o.cut in
    let are : IsPartsOf st.start st.export input o.parts = subst (λ (y : List ℕ). IsPartsOf st.start st.export y o.parts) (sym is) o.parts_are in
    plain-all keeps st a.place.door.disk.contents b.place.door.disk.contents input o.out o.sent o.unsent o.parts a.written b.written false are o.ends.0
    (answers-to keeps a.place o.last b.place o.parts o.out q cuts slows o.ends.3 o.runs) o.out_is o.ends.1 o.wrote
plain-by keeps passes st a b read input Input q cuts slows tells x =
    let o = x.over in
    let left = rest-of input x.text read.left (subst (λ (y : Option (List ℕ)). Consumes y read.left x.text) tells x.took) in
    record {
      cut = o.cut;
      parts = o.parts;
      others = o.dropped ++ left.0;
      out = o.out;
      sent = o.sent;
      unsent = o.unsent;
      input_is = left.2 ∙ ap (λ (y : List ℕ). y ++ left.0) o.text_is ∙ append_assoc o.cut o.dropped left.0;
      parts_are = o.parts_are;
      replies = answers-to keeps a.place o.last b.place o.parts o.out q cuts slows o.ends.3 o.runs;
      out_is = o.out_is;
      wrote = o.wrote;
    }
plain-by keeps passes st a b read input Output q cuts slows tells x =
    let o = x.over in
    let left = rest-of input x.text read.left (subst (λ (y : Option (List ℕ)). Consumes y read.left x.text) tells x.took) in
    record {
      cut = o.cut;
      parts = o.parts;
      others = o.dropped ++ left.0;
      out = o.out;
      sent = o.sent;
      unsent = o.unsent;
      input_is = left.2 ∙ ap (λ (y : List ℕ). y ++ left.0) o.text_is ∙ append_assoc o.cut o.dropped left.0;
      parts_are = o.parts_are;
      replies = answers-to keeps a.place o.last b.place o.parts o.out q cuts slows o.ends.2 o.runs;
      out_is = o.out_is;
      wrote = o.wrote;
    }
plain-by keeps passes st a b read input LostEnd q cuts slows tells x = never-lost keeps passes st a b read q cuts slows x
plain-by keeps passes st a b read input OutOfMemory q cuts slows tells x =
    let o = x.over in
    let P : List Part → Type 0 = λ y. PartsAnsweredBy (of_server keeps) a.place y o.out o.last in
    let empty : IsPartsOf st.start st.export [] o.parts = subst (λ (y : List ℕ). IsPartsOf st.start st.export y o.parts) o.ends.0 o.parts_are in
    let none = subst P (one_list st.start st.export [] o.parts [] empty (parts_none st.start st.export)) o.runs in
    let unsent = none-sent (opening st.start) o.out o.sent o.unsent o.out_is none.0 o.ends.2 in
    (ap (λ (y : DoorState Served). y.door.disk.contents) (o.ends.3 ∙ none.1), subst (λ (y : List ℕ). Appends a.written b.written y) unsent o.wrote)
