-- What threads that count up a counter give.
use Rattle.std.specs.Prelude.{◌≡◌, ◌⊎◌, ◌≤◌, ◌^◌, ℕ, List, length, map}
use Rattle.counter_lock.specs.declared.threads.Turns.{Turns}
use Rattle.counter_lock.specs.Counting.{answer_of}
use Rattle.turn_lock.specs.Shares.{times, once_below}
use Rattle.turn_lock.specs.Passes.{known}
use Rattle.turn_lock.specs.Views.{own_steps}

abbrev pub own_answers : Turns → List ℕ
own_answers t = map answer_of (own_steps (known t.pass))

-- the answers are those of the own steps, in order
abbrev pub HasItsAnswers : Turns → Type 0
HasItsAnswers t = own_answers t ≡ t.answers.items

-- the answers are those of the own steps, each as often, in any order
pub record HasAllAnswers (t : Turns) : Type 0 where
  pub many : length (own_steps (known t.pass)) ≡ length t.answers.items
  pub each : (n : ℕ) → times n (own_answers t) ≡ times n t.answers.items

-- so many turns were made, or as many as the history has room for
pub record MadeTurns (times_asked : ℕ) (t : Turns) : Type 0 where
  pub most : length t.answers.items ≤ times_asked
  pub all : (length t.answers.items ≡ times_asked) ⊎ (2 ^ 62 ≤ length (known t.pass).seen)

-- each number below n is once among them, and no other number is
abbrev pub AreAllBelow : ℕ → List ℕ → Type 0
AreAllBelow n answers = (k : ℕ) → times k answers ≡ once_below k n
