use Rattle.std.proofs.Common.{◌≡◌, ◌+◌, ◌*◌, length, take}
use Rattle.crypto_spec.specs.Aes.{expanded}
use Rattle.aes_block.proofs.key_schedule.Schedule.of.Given as goal

abbrev pub invariant-loop-n : goal.invariant-loop-n
invariant-loop-n l = (length l.round_keys ≡ 176) × (take (4 * l.n + 16) l.round_keys ≡ expanded l.key l.n)
