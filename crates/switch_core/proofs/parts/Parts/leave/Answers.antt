use Rattle.switch_core.proofs.Leaves.{inside}
use Rattle.switch_core.proofs.parts.Parts.leave.Goals as goal

pub send_destroy-requires : goal.send_destroy-requires
send_destroy-requires c = record { live = inside c.args.self.now.channels c.args.chan.0 c.in-Some.channel.now c.in-Some.ensures }
