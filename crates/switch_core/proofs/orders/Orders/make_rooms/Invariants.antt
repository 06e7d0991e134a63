use Rattle.std.proofs.Common.{◌≡◌, ◌≤◌, length}
use Rattle.switch_core.proofs.orders.Orders.make_rooms.Given as goal

abbrev pub invariant-loop : goal.invariant-loop
invariant-loop l = record {
  reach : l.self-inside.reach ≡ l.initial.self-inside.reach;
  carry : l.self-inside.carry ≡ l.initial.self-inside.carry;
  close : l.self-inside.close ≡ l.initial.self-inside.close;
  dial : l.self-inside.dial ≡ l.initial.self-inside.dial;
  made : l.counter ≤ length l.self-inside.rooms.items;
  more : length l.initial.self-inside.rooms.items ≤ length l.self-inside.rooms.items;
}
