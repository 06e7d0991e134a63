use Rattle.std.proofs.Common.{[]}
use Rattle.run_digest.proofs.Messages.{digest_message_first}
use Rattle.run_digest.proofs.Running.seeded.Goals as goal

pub returns : goal.returns
returns c = rw (digest_message_first c.args.seed.now) (c.update.ensures [] c.new-state.ensures)
