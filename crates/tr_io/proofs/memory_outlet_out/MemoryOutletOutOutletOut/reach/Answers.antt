use Rattle.std.proofs.Common.{rules, Some, ap}
use Rattle.tr_io.proofs.Reaching.{reached}
use Rattle.tr_io.proofs.memory_outlet_out.MemoryOutletOutOutletOut.reach.Goals as goal

pub returns-clause-sessions : goal.returns-clause-sessions
returns-clause-sessions c =
    ap Some (reached c.args.self.now.sessions.items c.push.new.self.items c.args.to c.len-number.result (search rules)
    (search rules))
