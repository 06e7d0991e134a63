use Rattle.std.proofs.Common.{◌≡◌, ◌==◌, ◌++◌, ◌+◌, ◌≤◌, not, filter, length}
use Rattle.switch_core.proofs.destroy.without_id.Given as goal

abbrev pub invariant-loop-rest : goal.invariant-loop-rest
invariant-loop-rest l = record {
  whole : l.other_destroys ++ filter (λ d. not (d.id == l.id)) l.rest ≡ filter (λ d. not (d.id == l.id)) l.fn.destroys;
  few : length l.other_destroys + length l.rest ≤ length l.fn.destroys;
}

abbrev pub decreases-loop-rest : goal.decreases-loop-rest
decreases-loop-rest l = length l.rest
