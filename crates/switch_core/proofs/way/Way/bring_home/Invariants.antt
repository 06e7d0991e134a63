use Rattle.std.proofs.Common.{◌≡◌, ◌≤◌, drop, None}
use Rattle.std.proofs.Common.{deque_len, deque_capacity}
use Rattle.switch_core.proofs.way.Way.bring_home.Given as goal

abbrev pub invariant-loop : goal.invariant-loop
invariant-loop l = record {
  claimed_count : l.self-inside.claimed_count ≡ l.initial.self-inside.claimed_count;
  claim : l.self-inside.claim ≡ None;
  bodies : l.self-inside.bodies.items ≡ drop l.counter l.initial.self-inside.bodies.items;
  room : deque_capacity l.initial.self-inside.bodies ≤ deque_capacity l.self-inside.bodies;
  shorter : deque_len l.self-inside.bodies ≤ deque_len l.initial.self-inside.bodies;
}
