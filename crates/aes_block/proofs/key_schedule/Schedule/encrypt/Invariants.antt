use Rattle.std.proofs.Common.{◌≡◌}
use Rattle.crypto_spec.specs.Aes.{expanded, state_after}
use Rattle.aes_block.specs.Columns.{bytes_of}
use Rattle.aes_block.proofs.key_schedule.Schedule.encrypt.Given as goal

abbrev pub invariant-loop-round : goal.invariant-loop-round
invariant-loop-round l = bytes_of l.state ≡ state_after (expanded l.self 40) l.block l.round
