-- transcripts without a loss are those of a plain array, and there is one alone
use Rattle.std.proofs.Common.{◌≡◌, inl, inr, ℕ, Bool, true, false, List, [], ◌∷◌, ◌++◌, Option, None, Some, ◌≤◌, arith, sym, ◌∙◌, ap, subst, set}
use Rattle.std.specs.Prelude.{MatchBool, MatchOption, if◌then◌else◌}
use Rattle.nbd_wire.specs.declared.phase.Phase.TheVariants.{AwaitingFlags}
use Rattle.nbd_session.specs.Parts.{closed}
use Rattle.nbd_session.proofs.PartLaws.{one_gain}
use Rattle.nbd_station.specs.Records.{DONE, SHUT, entry}
use Rattle.nbd_station.specs.declared.event.Event.{Event}
use Rattle.nbd_station.specs.declared.event.Event.TheVariants.{Open, Piece, Gone, Tidy, Restore}
use Rattle.nbd_station.specs.Answers.{after_parts, replies}
use Rattle.nbd_station.specs.World.{World, Powered, Unpowered, AnswersPiece, Ignores, text_at, with_text}
use Rattle.nbd_station.specs.Transcript.{Transcript, Plain, PlainWithoutLoss, OnePlain}

cuts_rise : (c c' : ℕ) (w w' : World) (es : List Event) (out : List ℕ) → Transcript c w es out c' w' → c ≤ c'
cuts_rise c c' w w' [] out t = omega (arith, t.1)
cuts_rise c c' w w' (e ∷ es) out t =
    let more = cuts_rise t.2 c' t.3 w' es t.1 t.6 in
    elim t.5 [ inl h ↦ (let le = h.1 in omega (arith, le, more)) | inr h ↦ (let lt = h.1 in omega (arith, lt, more)) ]

pub without_loss : PlainWithoutLoss
without_loss c c' w w' [] out t same = (t.0, t.2)
without_loss c c' w w' (e ∷ es) out t same =
    let more = cuts_rise t.2 c' t.3 w' es t.1 t.6 in
    elim t.5 [
      | inl h ↦ (let le = h.1 in
          let still : c' ≡ t.2 = omega (arith, le, more, same) in
          (t.0, t.1, t.3, t.4, h.0, without_loss t.2 c' t.3 w' es t.1 t.6 still))
      | inr h ↦ (let lt = h.1 in absurd (omega (arith, lt, more, same)))
    ]

abbrev Same : List ℕ → List ℕ → World → World → Type 0
Same out out' v v' = (out ≡ out') × (v ≡ v')

both : (a out out' : List ℕ) (x v v' : World) → (out ≡ a) × (v ≡ x) → (out' ≡ a) × (v' ≡ x) → Same out out' v v'
both a out out' x v v' p q = (p.0 ∙ sym q.0, p.1 ∙ sym q.1)

answers_one : (w : World) (c : ℕ) (t bytes out out' : List ℕ) (v v' : World) → AnswersPiece w c t bytes out v → AnswersPiece w c t bytes out' v' → Same out out' v v'
answers_one w c t bytes out out' v v' p q =
    let same : p.more ≡ q.more = one_gain AwaitingFlags w.export t (t ++ bytes) p.more q.more p.lacked q.lacked in (
      p.wrote ∙ (ap (λ m. replies w.export c w.disk m ++ entry c (if closed m then SHUT else DONE) []) same ∙ sym q.wrote),
      p.world ∙ (ap (λ m. record { export = w.export; disk = after_parts w.export w.disk m; power = true; texts = set w.texts c (if closed m then None else Some (t ++ bytes)) }) same ∙ sym q.world),
    )

piece_one : (o : Option (List ℕ)) (w : World) (c k : ℕ) (bytes out out' : List ℕ) (v v' : World)
    → MatchOption o (Ignores w c k out v) (λ t. AnswersPiece w c t bytes out v) → MatchOption o (Ignores w c k out' v') (λ t. AnswersPiece w c t bytes out' v') → Same out out' v v'
piece_one None w c k bytes out out' v v' p q = both (entry c k []) out out' w v v' p q
piece_one (Some t) w c k bytes out out' v v' p q = answers_one w c t bytes out out' v v' p q

gone_one : (o : Option (List ℕ)) (w : World) (c k d : ℕ) (out out' : List ℕ) (v v' : World)
    → MatchOption o (Ignores w c k out v) (λ t. (out ≡ entry c d []) × (v ≡ with_text w c None)) → MatchOption o (Ignores w c k out' v') (λ t. (out' ≡ entry c d []) × (v' ≡ with_text w c None)) → Same out out' v v'
gone_one None w c k d out out' v v' p q = both (entry c k []) out out' w v v' p q
gone_one (Some t) w c k d out out' v v' p q = both (entry c d []) out out' (with_text w c None) v v' p q

powered_one : (w : World) (e : Event) (out out' : List ℕ) (v v' : World) → Powered w e out v → Powered w e out' v' → Same out out' v v'
powered_one w (Open c) out out' v v' p q = elim p [
  | inl a ↦ elim q [
    | inl b ↦ (a.2 ∙ sym b.2, a.3 ∙ sym b.3)
    | inr b ↦ elim b.0 [ inl h ↦ (let lt = a.0 in absurd (omega (arith, lt, h))) | inr h ↦ absurd (h a.1) ]
  ]
  | inr a ↦ elim q [
    | inl b ↦ elim a.0 [ inl h ↦ (let lt = b.0 in absurd (omega (arith, lt, h))) | inr h ↦ absurd (h b.1) ]
    | inr b ↦ (let x = a.1 in let y = b.1 in (x.0 ∙ sym y.0, x.1 ∙ sym y.1))
  ]
]
powered_one w (Piece c bytes) out out' v v' p q = piece_one (text_at w c) w c _ bytes.now out out' v v' p q
powered_one w (Gone c) out out' v v' p q = gone_one (text_at w c) w c _ _ out out' v v' p q
powered_one w Tidy out out' v v' p q = both _ out out' w v v' p q
powered_one w Restore out out' v v' p q = both _ out out' w v v' p q

unpowered_one : (w : World) (e : Event) (out out' : List ℕ) (v v' : World) → Unpowered w e out v → Unpowered w e out' v' → Same out out' v v'
unpowered_one w (Open c) out out' v v' p q = both _ out out' w v v' p q
unpowered_one w (Piece c bytes) out out' v v' p q = both _ out out' w v v' p q
unpowered_one w (Gone c) out out' v v' p q = both _ out out' w v v' p q
unpowered_one w Tidy out out' v v' p q = both _ out out' w v v' p q
unpowered_one w Restore out out' v v' p q = both _ out out' (record w { power = true }) v v' p q

match_one : (b : Bool) (w : World) (e : Event) (out out' : List ℕ) (v v' : World)
    → MatchBool b (Powered w e out v) (Unpowered w e out v) → MatchBool b (Powered w e out' v') (Unpowered w e out' v') → Same out out' v v'
match_one true w e out out' v v' p q = powered_one w e out out' v v' p q
match_one false w e out out' v v' p q = unpowered_one w e out out' v v' p q

pub one_plain : OnePlain
one_plain w v v' [] out out' p q = (p.0 ∙ sym q.0, p.1 ∙ sym q.1)
one_plain w v v' (e ∷ es) out out' p q =
    let s = match_one w.power w e p.0 q.0 p.2 q.2 p.4 q.4 in
    let t = one_plain q.2 v v' es p.1 q.1 (subst (λ u. Plain u es p.1 v) s.1 p.5) q.5 in
    (p.3 ∙ (ap (λ l. l ++ p.1) s.0 ∙ (ap (λ l. q.0 ++ l) t.0 ∙ sym q.3)), t.1)
