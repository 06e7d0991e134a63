use Rattle.std.proofs.Common.{◌≡◌, ◌+◌, ◌*◌, ◌≤◌, take, length}
use Rattle.hop_crypto.specs.Ciphers.{IsWorked, position_of}
use Rattle.hop_crypto.proofs.job.work.Given as goal

abbrev pub invariant-loop-body : goal.invariant-loop-body
invariant-loop-body l = record {
  worked : IsWorked l.cipher (take l.body-index l.body-items) l.output.items l.end;
  position : position_of l.end ≡ position_of l.cipher + 509 * l.body-index;
  ample : length l.body-items ≤ l.output.spare + l.body-index;
}
