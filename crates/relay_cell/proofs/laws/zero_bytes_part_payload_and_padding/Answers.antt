use Rattle.relay_cell.proofs.Padding.{relay_body_padded}
use Rattle.relay_cell.proofs.laws.zero_bytes_part_payload_and_padding.Goals as goal

pub returns : goal.returns
returns c = relay_body_padded
