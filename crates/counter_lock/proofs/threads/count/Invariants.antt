use Rattle.std.proofs.Common.{◌≡◌, length, map}
use Rattle.turn_lock.specs.Passes.{IsSamePass, known}
use Rattle.turn_lock.specs.Views.{own_steps}
use Rattle.counter_lock.specs.Counting.{answer_of}
use Rattle.counter_lock.proofs.threads.count.Given as goal

abbrev pub invariant-loop-turn_number : goal.invariant-loop-turn_number
invariant-loop-turn_number g l =
    IsSamePass l.initial.pass l.pass × (map answer_of (own_steps (known l.pass)) ≡ l.answers.items)
    × (length l.answers.items ≡ l._turn_number)
