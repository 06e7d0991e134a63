use Rattle.std.proofs.Common.{◌≡◌, ◌+◌, ◌*◌, length, take}
use Rattle.crypto_spec.specs.Keystream.{keystream_part}
use Rattle.aes_ctr.proofs.pad.fill.Given as goal

abbrev pub invariant-loop-group : goal.invariant-loop-group
invariant-loop-group l = record {
  long : length l.pad ≡ length l.initial.pad;
  made : take (16 * (8 * l.group)) l.pad ≡ keystream_part l.keys (16 * l.first) (16 * (8 * l.group));
}

abbrev pub invariant-loop-k : goal.invariant-loop-k
invariant-loop-k l = record {
  long : length l.pad ≡ length l.initial.pad;
  made : take (16 * (8 * l.group + l.k)) l.pad ≡ keystream_part l.keys (16 * l.first) (16 * (8 * l.group + l.k));
}
