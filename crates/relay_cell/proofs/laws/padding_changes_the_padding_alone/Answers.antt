use Rattle.std.proofs.Common.{arith}
use Rattle.relay_cell.proofs.Padding.{with_padding_head, with_padding_payload, with_padding_length, with_padding_before, with_padding_behind}
use Rattle.relay_cell.proofs.laws.padding_changes_the_padding_alone.Goals as goal

pub returns : goal.returns
returns c = record {
  head = λ body from long. with_padding_head body from (omega arith);
  payload = with_padding_payload;
  long = with_padding_length;
  before = λ body from offset long within before. with_padding_before body from offset before (omega arith);
  behind = with_padding_behind;
}
