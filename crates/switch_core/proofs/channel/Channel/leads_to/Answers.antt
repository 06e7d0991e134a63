use Rattle.std.proofs.Common.{◌≡◌, Some, ap}
use Rattle.switch_machine.specs.Calls.DialOrder.{is_dialled_to}
use Rattle.switch_machine.specs.State.{ChannelState}
use Rattle.switch_core.proofs.channel.Channel.leads_to.Goals as goal

pub returns : goal.returns
returns c = ap (λ (x : ChannelState). is_dialled_to c.args._to.now (Some x)) c.self.view_is
