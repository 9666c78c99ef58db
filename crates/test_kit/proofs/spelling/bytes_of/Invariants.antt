use Rattle.std.proofs.Common.{◌≡◌, length, drop}
use Rattle.test_kit.specs.Spelled.{bytes_of_words, with_front, text_words}
use Rattle.test_kit.proofs.spelling.bytes_of.Given as goal

abbrev pub invariant-loop-word : goal.invariant-loop-word
invariant-loop-word l =
    with_front l.bytes.items (bytes_of_words (drop (length l.yielded) (text_words l.text))) ≡ bytes_of_words (text_words l.text)
