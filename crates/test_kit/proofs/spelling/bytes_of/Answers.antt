use Rattle.std.proofs.Common.{◌≡◌, ◌⊎◌, Err, IfErr, length, drop, refl, sym, ap, subst, ◌∙◌, lit<, arith}
use Rattle.std.proofs.lemmas.Iterator.Splits.{YieldsList-from_str_split}
use Rattle.std.proofs.lemmas.Iterator.Consumers.{YieldsList-turn, YieldsList-end}
use Rattle.std.proofs.lemmas.List.{length_push}
use Rattle.std.proofs.lemmas.Result.{err_from_is_err_and}
use Rattle.std.specs.Str.Iter.{split_text, split_has_more, split_pattern}
use Rattle.test_kit.specs.declared.spelling.SpellingError.TheVariants.{NoMemory}
use Rattle.test_kit.specs.Spelled.{bytes_of_words, spelled, with_front, word_bytes, text_words}
use Rattle.test_kit.proofs.Words.{goes_on, refused, is_done}
use Rattle.test_kit.proofs.spelling.bytes_of.Goals as goal

pub loop-word-preserved : goal.loop-word-preserved
loop-word-preserved c =
    let words = text_words c.args.text.now in
    let same = c.into_iter-word-iterator.ensures.into_iter_gives in
    let of = c.split-word-items.ensures in
    let t = YieldsList-turn (YieldsList-from_str_split 32 c.args.text.now (lit< tt) (ap split_text same ∙ of.text) (ap split_has_more same ∙ of.has_more) (ap split_pattern same ∙ of.pattern)) c.loop-word.yielded _ c.loop-word.yielded_by _ _ c.in-Some.word c.in-Some.is c.next.ensures.steps in
    ap (λ n. with_front c.push_word.new.bytes.items (bytes_of_words (drop n words))) (length_push c.loop-word.yielded c.in-Some.word)
    ∙ goes_on c.loop-word.bytes.items c.push_word.new.bytes.items words (length c.loop-word.yielded) c.in-Some.word.now t.0 t.1 (word_bytes c.in-Some.word.now) refl c.in_ok-push_word.ensures.items c.loop-word.invariant

pub returns-in_err-push_word-clause-fault : goal.returns-in_err-push_word-clause-fault
returns-in_err-push_word-clause-fault c =
    let words = text_words c.args.text.now in
    let same = c.into_iter-word-iterator.ensures.into_iter_gives in
    let of = c.split-word-items.ensures in
    let t = YieldsList-turn (YieldsList-from_str_split 32 c.args.text.now (lit< tt) (ap split_text same ∙ of.text) (ap split_has_more same ∙ of.has_more) (ap split_pattern same ∙ of.pattern)) c.loop-word.yielded _ c.loop-word.yielded_by _ _ c.in-Some.word c.in-Some.is c.next.ensures.steps in
    let p = err_from_is_err_and c.from_residual.result c.from_residual.ensures.1 in
    let fault = c.in_err-push_word.field-0.0 in
    let told = refused c.loop-word.bytes.items words (length c.loop-word.yielded) c.in-Some.word.now fault t.0 t.1 c.in_err-push_word.ensures.fault c.loop-word.invariant in
    subst (λ r. IfErr r (λ e. (e ≡ NoMemory) ⊎ (spelled c.args.text.now ≡ Err e))) (sym p.1) (subst (λ e. (e ≡ NoMemory) ⊎ (spelled c.args.text.now ≡ Err e)) (sym p.2) told)

pub returns-clause-bytes : goal.returns-clause-bytes
returns-clause-bytes c =
    let same = c.into_iter-word-iterator.ensures.into_iter_gives in
    let of = c.split-word-items.ensures in
    let t = YieldsList-end (YieldsList-from_str_split 32 c.args.text.now (lit< tt) (ap split_text same ∙ of.text) (ap split_has_more same ∙ of.has_more) (ap split_pattern same ∙ of.pattern)) c.loop-word.yielded _ c.loop-word.yielded_by _ _ c.in-None.is c.next.ensures.steps in
    is_done c.loop-word.bytes.items (text_words c.args.text.now) (length c.loop-word.yielded) (omega (arith, t.1)) c.loop-word.invariant
