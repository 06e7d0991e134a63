use Rattle.plain_circuit.proofs.Readers.{position_within}
use Rattle.plain_circuit.proofs.opened.Reader.read.Goals as goal

pub open-requires : goal.open-requires
open-requires c = position_within c.args.self.now.stream c.args.self.now.running c.args.log.now c.requires.reader c.requires.short
