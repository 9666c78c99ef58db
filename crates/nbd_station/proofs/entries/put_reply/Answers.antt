use Rattle.std.proofs.Common.{◌≡◌, ◌+◌, ◌++◌, ◌∷◌, [], ℕ, List, length, refl, sym, ap, subst, ◌∙◌, append_assoc, length-append}
use Rattle.std.specs.Int.{to_be_bytes, w32}
use Rattle.block_device.specs.Streams.{Sends}
use Rattle.nbd_wire.specs.declared.command.Reply.{Reply}
use Rattle.nbd_wire.specs.Heads.{reply_bytes}
use Rattle.nbd_station.specs.Records.{REPLY, entry, replied}
use Rattle.nbd_station.proofs.entries.put_reply.Goals as goal

reply_len : (r : Reply) (content : List ℕ) → length (reply_bytes r ++ content) ≡ 16 + length content
reply_len r content =
    let head : length (reply_bytes r) ≡ 16 = unfold reply_bytes in refl in
    length-append (reply_bytes r) content ∙ ap (λ (n : ℕ). n + length content) head

-- a reply isn't empty, so that it has a record
has_record : (who : ℕ) (r : Reply) (content : List ℕ) → replied who (reply_bytes r ++ content) ≡ entry who REPLY (reply_bytes r ++ content)
has_record who r content = unfold reply_bytes in refl

record_is : (who : ℕ) (r : Reply) (content : List ℕ) → ((who ∷ REPLY ∷ []) ++ to_be_bytes w32 (16 + length content) ++ reply_bytes r) ++ content ≡ replied who (reply_bytes r ++ content)
record_is who r content =
    append_assoc (who ∷ REPLY ∷ []) (to_be_bytes w32 (16 + length content) ++ reply_bytes r) content
    ∙ ap (λ l. (who ∷ REPLY ∷ []) ++ l) (append_assoc (to_be_bytes w32 (16 + length content)) (reply_bytes r) content)
    ∙ ap (λ (n : ℕ). (who ∷ REPLY ∷ []) ++ to_be_bytes w32 n ++ reply_bytes r ++ content) (sym (reply_len r content))
    ∙ sym (has_record who r content)

pub returns : goal.returns
returns g c =
    let whole = ap (λ (l : List ℕ). l ++ c.args.content.now) c.reply_head.ensures ∙ record_is c.args.who c.args.reply c.args.content.now in
    subst (λ l. Sends (g.W.Sink.written c.args.out.now) (g.W.Sink.faults c.args.out.now) l c.send_both.result (g.W.Sink.written c.send_both.new.out) (g.W.Sink.faults c.send_both.new.out)) whole c.send_both.ensures
