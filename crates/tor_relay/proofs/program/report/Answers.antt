use Rattle.std.proofs.Common.{◌∙◌}
use Rattle.tape.specs.Runs.{SinkRun, sink_run}
use Rattle.tor_relay.proofs.Programs.{says_end}
use Rattle.tor_relay.proofs.program.report.Goals as goal

pub returns-in_default : goal.returns-in_default
returns-in_default g c =
    let after : SinkRun =
    sink_run (g.E.Sink.written c.args.errors.now) (g.E.Sink.faults c.args.errors.now) (g.E.Sink.written c.say.new.errors)
    (g.E.Sink.flushed c.say.new.errors) (g.E.Sink.faults c.say.new.errors) in
    says_end _ _ after c.in_default.not-Done (c.as_str.ensures.value ∙ c.end_message.ensures) c.say.ensures
