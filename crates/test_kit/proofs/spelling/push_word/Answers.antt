use Rattle.std.proofs.Common.{◌≡◌, ◌⊎◌, ◌++◌, Err, inr, refl, sym, ap, subst, ◌∙◌}
use Rattle.std.specs.List.{repeat}
use Rattle.test_kit.specs.declared.spelling.SpellingError.TheVariants.{NoMemory}
use Rattle.test_kit.specs.Spelled.{word_bytes}
use Rattle.test_kit.proofs.Word.{parts, no_count, no_digits, spells}
use Rattle.test_kit.proofs.spelling.push_word.Goals as goal

pub returns-in_default-clause-fault : goal.returns-in_default-clause-fault
returns-in_default-clause-fault c =
    let p = parts c.args.word.now c.split_once.result _ _ c.unwrap_or.ensures c.split_once.ensures.cases refl refl in
    inr (no_count c.args.word.now c.unwrap_or.result.0.now c.unwrap_or.result.1.now p c.parse.result c.parse.ensures.value.0 _ c.in_default.is)

pub returns-in-Err : goal.returns-in-Err
returns-in-Err c =
    let word = c.args.word.now in
    let p = parts word c.split_once.result _ _ c.unwrap_or.ensures c.split_once.ensures.cases refl refl in
    let h = no_digits word c.unwrap_or.result.0.now c.unwrap_or.result.1.now p c.parse.result c.parse.ensures.value.0 c.in-Ok.count c.in-Ok.is c.in-Err.error c.in-Err.ensures.err in
    record { items = tt; fault = subst (λ e. (e ≡ NoMemory) ⊎ (word_bytes word ≡ Err e)) (sym c.fault_of.ensures) h }

pub returns-in-Ok-push_repeated-clause-items : goal.returns-in-Ok-push_repeated-clause-items
returns-in-Ok-push_repeated-clause-items c =
    let old = c.args.bytes.now.items in
    let p = parts c.args.word.now c.split_once.result _ _ c.unwrap_or.ensures c.split_once.ensures.cases refl refl in
    spells c.args.word.now c.unwrap_or.result.0.now c.unwrap_or.result.1.now p c.parse.result c.parse.ensures.value.0 c.in-Ok.count c.in-Ok.is c.in-Ok-decode.spelled.items c.in-Ok-decode.ensures.ok
    old c.push_repeated.new.bytes.items (c.in-Ok-push_repeated.ensures.items ∙ ap (λ bytes. old ++ repeat c.in-Ok.count bytes) c.as_slice.ensures.value)
