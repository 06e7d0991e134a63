use Rattle.std.proofs.Common.{◌≡◌, take, sym, ap, ◌∙◌}
use Rattle.circuit_model.specs.Log.{Log, pushed}
use Rattle.circuit_model.specs.Opened.{recognised_with, recognised_bodies}
use Rattle.plain_circuit.specs.Values.{log_of}
use Rattle.plain_circuit.proofs.Readers.{read_on}
use Rattle.plain_circuit.proofs.opened.recognised_bodies.Goals as goal
use Rattle.plain_circuit.proofs.opened.recognised_bodies.Goals.{in-Some+in_ok-push, in_default}

pub loop-i-preserved : goal.loop-i-preserved
loop-i-preserved c =
    let log : Log = log_of (take c.loop-i.i c.args.log.now) in
    let adds : c.match-read.bodies.items ≡ pushed c.loop-i.bodies.items c.read.result =
    elim c.match-read.branch [
      | in-Some+in_ok-push w ↦ rw w.in-Some.is (ap (λ bodies. bodies.items) w.bodies-is ∙ w.in_ok-push.ensures.items)
      | in_default w ↦ rw w.in_default.is (ap (λ bodies. bodies.items) w.bodies-is)
    ] in
    let before : c.deref.result.now ≡ recognised_bodies log = c.deref.ensures.value ∙ c.loop-i.invariant.0 in
    read_on c.args.log.now c.loop-i.i c.index-log-i.result c.loop-i-test.true c.match-read.bodies.items c.read.new.self.stream
    c.read.new.self.running
    (adds ∙ ap (λ bodies. pushed bodies c.read.result) (sym c.deref.ensures.value) ∙ c.read.ensures.more
    ∙ (λ k. recognised_with log (before k) (c.index-log-i.is k).event.now))
    (λ entry is. c.read.ensures.next entry (is ∙ ap (λ e. e.event.now) (sym c.index-log-i.is)))
