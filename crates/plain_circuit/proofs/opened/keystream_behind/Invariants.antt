use Rattle.std.proofs.Common.{◌≡◌, ◌*◌}
use Rattle.plain_circuit.proofs.opened.keystream_behind.Given as goal

abbrev pub invariant-loop-number : goal.invariant-loop-number
invariant-loop-number l = (l.stream.key ≡ l.key) × (l.stream.position ≡ 509 * l.number)
