use Rattle.cell_laws.proofs.Resolves.{answer_written, spelled_bytes, one_spelling}
use Rattle.cell_laws.proofs.relay.answers_have_one_spelling.Goals as goal

pub returns : goal.returns
returns c = record { written = answer_written; bytes = spelled_bytes; one = one_spelling }
