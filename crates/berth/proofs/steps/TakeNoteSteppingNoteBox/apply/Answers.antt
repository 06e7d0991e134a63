use Rattle.berth.proofs.Boxes.{takes_out}
use Rattle.berth.proofs.steps.TakeNoteSteppingNoteBox.apply.Goals as goal

pub returns-clause-step : goal.returns-clause-step
returns-clause-step c =
    λ _ b h s. takes_out c.args.state.now.note c.take.new.self c.take.result h c.take.ensures.value c.take.ensures.after s
