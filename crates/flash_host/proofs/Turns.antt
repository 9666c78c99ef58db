-- a host is answered once more
use Rattle.std.proofs.Common.{length, ◌+◌, sym, ◌≡◌, ℕ, List, [], ◌∷◌, ◌++◌, refl, ◌∙◌, ap, append_assoc, subst}
use Rattle.std.specs.Prelude.{Option, Some}
use Rattle.std.proofs.lemmas.List.{append-nil, length-append}
use Rattle.block_device.specs.Facts.{Facts}
use Rattle.flash_host.specs.declared.request.Request.{Request}
use Rattle.flash_host.specs.declared.request.Answer.{Answer}
use Rattle.flash_host.specs.Answers.{Answered}
use Rattle.flash_host.specs.Exchanges.{Event, Asks, Hears, HostAdds, HostExchange, host_events, AnswersEach, HostServed}

each_more : (a m b : Facts) (xs : List HostExchange) (x : HostExchange) → AnswersEach a xs m → Answered x.request x.given m x.answer x.bytes b → AnswersEach a (xs ++ x ∷ []) b
each_more a m b [] x same one = (b, subst (λ p. Answered x.request x.given p x.answer x.bytes b) same one, refl)
each_more a m b (y ∷ ys) x runs one = (runs.0, runs.1, each_more runs.0 m b ys x runs.2 one)

events_more : (xs : List HostExchange) (x : HostExchange) → host_events xs ++ (Asks x.request x.given ∷ Hears x.answer x.bytes ∷ []) ≡ host_events (xs ++ x ∷ [])
events_more [] x = refl
events_more (y ∷ ys) x = ap (λ l. Asks y.request y.given ∷ Hears y.answer y.bytes ∷ l) (events_more ys x)

adds_both : (a b c : Option (List Event)) (xs ys : List Event) → HostAdds a b xs → HostAdds b c ys → HostAdds a c (xs ++ ys)
adds_both a b c xs ys one two = λ log is. two (log ++ xs) (one log is) ∙ ap Some (append_assoc log xs ys)

pub begun : (a : Facts) (log : Option (List Event)) → HostServed a a log log []
begun a log = record { answered = refl; heard = λ l is. is ∙ ap Some (sym (append-nil l)) }

pub longer : (xs : List HostExchange) (x : HostExchange) (n : ℕ) → length xs ≡ n → length (xs ++ x ∷ []) ≡ n + 1
longer xs x n is = length-append xs (x ∷ []) ∙ ap (λ k. k + 1) is

pub one_more : (a m b : Facts) (start before asked after : Option (List Event)) (xs : List HostExchange) (request : Request) (given : List ℕ) (answer : Answer) (bytes : List ℕ)
    → HostServed a m start before xs → HostAdds before asked (Asks request given ∷ []) → Answered request given m answer bytes b → HostAdds asked after (Hears answer bytes ∷ [])
    → HostServed a b start after (xs ++ record { request = request; given = given; answer = answer; bytes = bytes } ∷ [])
one_more a m b start before asked after xs request given answer bytes so asks does hears =
    let x : HostExchange = record { request = request; given = given; answer = answer; bytes = bytes } in
    record {
      answered = each_more a m b xs x so.answered does;
      heard = subst (λ l. HostAdds start after l) (events_more xs x)
          (adds_both start before after _ (Asks request given ∷ Hears answer bytes ∷ []) so.heard (adds_both before asked after (Asks request given ∷ []) (Hears answer bytes ∷ []) asks hears));
    }
