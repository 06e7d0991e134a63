use Rattle.std.proofs.Common.{◌≡◌, ◌+◌}
use Rattle.turn_lock.specs.Passes.{known}
use Rattle.lock_bench.proofs.round.workers.Given as goal

abbrev pub invariant-loop-part : goal.invariant-loop-part
invariant-loop-part l = (known l.first.pass).parts + l._part ≡ l.count + 1
