-- A counter's steps: each answers its place.
use Rattle.std.specs.Prelude.{◌≡◌, ℕ, suc, List, [], ◌∷◌, length, ⊤}
use Rattle.counter_lock.specs.declared.counter.Up.{Up}
use Rattle.counter_lock.specs.declared.counter.Counter.{Counter}

-- the steps answer n, n + 1 and so on
abbrev pub CountsFrom : ℕ → List Up → Type 0
CountsFrom n [] = ⊤
CountsFrom n (e ∷ es) = (e.answer ≡ n) × CountsFrom (suc n) es

abbrev pub AnswersArePlaces : Unit {0} → List Up → Type 0
AnswersArePlaces b h = CountsFrom 0 h

abbrev pub StandsForCounts : Counter → Unit {0} → List Up → Type 0
StandsForCounts c b h = (c.value ≡ length h) × CountsFrom 0 h

abbrev pub answer_of : Up → ℕ
answer_of e = e.answer
