use Rattle.std.proofs.Common.{◌≡◌, ◌*◌}
use Rattle.crypto_bench.proofs.pass_on.Given as goal

abbrev pub invariant-loop-body_number : goal.invariant-loop-body_number
invariant-loop-body_number l = l.relay.stream.position ≡ 509 * l._body_number
