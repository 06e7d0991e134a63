use Rattle.std.proofs.Common.{rules}
use Rattle.berth.proofs.Boxes.{refuses, lays}
use Rattle.berth.proofs.steps.PutNoteSteppingNoteBox.apply.Goals as goal

pub returns-then-is_some-clause-step : goal.returns-then-is_some-clause-step
returns-then-is_some-clause-step c = λ _ b h s. refuses c.args.state.now.note c.args.self.now.note h (search rules) s

pub returns-clause-step : goal.returns-clause-step
returns-clause-step c = λ _ b h s. lays c.args.state.now.note c.args.self.now.note h (search rules) s
