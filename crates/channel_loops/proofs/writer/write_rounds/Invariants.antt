use Rattle.std.proofs.Common.{◌≡◌, ◌-◌, ◌^◌, length}
use Rattle.channel_loops.proofs.Running.{Running}
use Rattle.channel_loops.proofs.writer.write_rounds.Given as goal

abbrev pub invariant-rounds : goal.invariant-rounds
invariant-rounds g l =
    g.P.CorePort.is_own l.port l.pass
    × ((l.line.session ≡ l.initial.line.session) × (l.line.chan ≡ l.initial.line.chan))
    × (g.K.SlotOut.slot l.link ≡ g.K.SlotOut.slot l.initial.link)
    × Running l.initial.line.chan l.initial.line.session
    (record {
      steps = g.P.CorePort.mine l.initial.pass;
      written = g.K.SlotOut.written l.initial.link;
      faults =
          g.K.SlotOut.faults l.initial.link;
    })
    (record { steps = g.P.CorePort.mine l.pass; written = g.K.SlotOut.written l.link; faults = g.K.SlotOut.faults l.link })

abbrev pub decreases-rounds : goal.decreases-rounds
decreases-rounds g l = 2 ^ 62 - length (g.P.CorePort.mine l.pass)
