-- What the code answers, as what the bytes so far come to.
use Rattle.std.specs.Prelude.{ℕ, ◌≡◌, ◌≤◌, List}
use Rattle.socks_front.specs.declared.answer.SocksAnswer.{SocksAnswer}
use Rattle.socks_front.specs.declared.answer.SocksAnswer.TheVariants.{More, Say, Want, Refused, Memory}
use Rattle.socks_front.specs.declared.want.SocksWant.{SocksWant}
use Rattle.socks_front.specs.declared.want.SocksWant.TheVariants.{Connect, Resolve}
use Rattle.socks_front.specs.declared.progress.Progress.{Progress}
use Rattle.socks_front.specs.declared.progress.Progress.TheVariants.{Nothing, Greeting, Request, Fault}
use Rattle.socks_front.specs.declared.progress.SocksRequest.{SocksRequest}
use Rattle.socks_front.specs.declared.host.Host.{Host}
use Rattle.socks_front.specs.declared.host.Host.TheVariants.{Ip, Name}
use Rattle.socks_front.specs.Messages.{method_bytes, dotted}
use Rattle.socks_front.specs.Reading.{Wish, Outcome, wish_of}
use Rattle.socks_front.specs.Reading.Wish.{Connects, Resolves}
use Rattle.socks_front.specs.Reading.Outcome.{Unfinished, Greets, Asks, Refuses}

-- A `SocksWant` as a wish.
abbrev pub wish_of_want : SocksWant → Wish
wish_of_want (Connect host port) = Connects host.items port
wish_of_want (Resolve host) = Resolves host.items

-- Memory is wanted only where a request is given, since its host is a list.
abbrev pub WantsMemory : Outcome → Type 0
WantsMemory Unfinished = ⊥
WantsMemory Greets = ⊥
WantsMemory (Asks wish) = Unit {0}
WantsMemory (Refuses fault) = ⊥

abbrev pub IsAnswer : SocksAnswer → Outcome → Type 0
IsAnswer More o = o ≡ Unfinished
IsAnswer (Say bytes) o = (o ≡ Greets) × (bytes ≡ method_bytes 0)
IsAnswer (Want want) o = o ≡ Asks (wish_of_want want)
IsAnswer (Refused fault) o = o ≡ Refuses fault
IsAnswer Memory o = WantsMemory o

-- While a further byte is awaited there are at most so many.
abbrev pub IsShortUntilEnd : Outcome → ℕ → ℕ → Type 0
IsShortUntilEnd Unfinished count most = count ≤ most
IsShortUntilEnd Greets count most = count ≤ most
IsShortUntilEnd (Asks wish) count most = Unit {0}
IsShortUntilEnd (Refuses fault) count most = Unit {0}

-- A host as the request's text.
abbrev pub host_text : Host → List ℕ
host_text (Ip ip) = dotted ip
host_text (Name name) = name.now

abbrev pub wish_of_request : SocksRequest → Wish
wish_of_request request = wish_of request.command (host_text request.host) request.port

abbrev pub outcome_of : Progress → Outcome
outcome_of Nothing = Unfinished
outcome_of Greeting = Greets
outcome_of (Request request) = Asks (wish_of_request request)
outcome_of (Fault fault) = Refuses fault
