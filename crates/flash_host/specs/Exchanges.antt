-- The requests that a disk answered, one after another. Source: own.
use Rattle.std.specs.Prelude.{◌≡◌, ◌⊎◌, ℕ, ◌-◌, ◌^◌, List, [], ◌∷◌, ◌++◌, length, Option, Some}
use Rattle.block_device.specs.Facts.{Facts}
use Rattle.flash_host.specs.declared.request.Request.{Request}
use Rattle.flash_host.specs.declared.request.Answer.{Answer}
use Rattle.flash_host.specs.Answers.{Answered}

-- what goes over between a host and who answers it, with the 512 bytes that are passed
pub data Event : Type 0 where
  Asks : Request → List ℕ → Event
  Hears : Answer → List ℕ → Event

-- where it is known what went over, it is these events more now
abbrev pub HostAdds : Option (List Event) → Option (List Event) → List Event → Type 0
HostAdds old new more = (log : List Event) → old ≡ Some log → new ≡ Some (log ++ more)

-- one request, and its answer
pub record HostExchange : Type 0 where
  pub request : Request
  pub given : List ℕ
  pub answer : Answer
  pub bytes : List ℕ

-- the events of these, each answered before the next is asked
abbrev pub host_events : List HostExchange → List Event
host_events [] = []
host_events (one ∷ more) =
    Asks one.request one.given ∷ Hears one.answer one.bytes ∷ host_events more

-- a disk goes through these
abbrev pub AnswersEach : Facts → List HostExchange → Facts → Type 0
AnswersEach old [] new = new ≡ old
AnswersEach old (one ∷ more) new = (mid : Facts)
    × Answered one.request one.given old one.answer one.bytes mid × AnswersEach mid more new

-- a disk answered these of a host, and these are the events before and after it
pub record HostServed (old new : Facts) (before after : Option (List Event))
    (exchanges : List HostExchange) : Type 0 where
  pub answered : AnswersEach old exchanges new
  pub heard : HostAdds before after (host_events exchanges)

-- and all that it asked: it has nothing more to ask, or asked 2^64 - 1 times
pub record AllServed (ended : Type 0) (old new : Facts) (before after : Option (List Event))
    : Type 0 where
  pub exchanges : List HostExchange
  pub served : HostServed old new before after exchanges
  pub all : ended ⊎ (length exchanges ≡ 2 ^ 64 - 1)
