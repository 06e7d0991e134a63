use Rattle.std.proofs.Common.{arith}
use Rattle.tor_spec.proofs.Bodies.{with_digest_head, with_digest_payload}
use Rattle.relay_cell.proofs.laws.digests_change_the_digest_alone.Goals as goal

pub returns : goal.returns
returns c = record {
  head = λ body digest long four. with_digest_head body digest (omega arith) four;
  payload = λ body digest long four. with_digest_payload body digest (omega arith) four;
}
