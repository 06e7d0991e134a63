use Rattle.std.proofs.Common.{◌≡◌, ◌+◌, ◌≤◌}
use Rattle.switch_core.specs.Claiming.{first_bodies}
use Rattle.switch_core.proofs.way.Way.first_bodies.Given as goal

abbrev pub invariant-loop-place : goal.invariant-loop-place
invariant-loop-place l = record {
  copied : l.payloads.items ≡ first_bodies l.place l.self.state.waiting_bodies;
  room : l.count ≤ l.payloads.spare + l.place;
}
