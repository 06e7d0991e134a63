use Rattle.switch_model.proofs.Examples.{ended_channel-legal}
use Rattle.switch_model.proofs.histories.an_ended_channel_sends_nothing.Goals as goal

pub returns : goal.returns
returns c = ended_channel-legal
