use Rattle.std.proofs.Common.{◌≡◌, ◌∷◌, Some, sym, subst, ◌∙◌}
use Rattle.circuit_model.specs.declared.event.Event.TheVariants.{Answered}
use Rattle.circuit_model.specs.Extending.{answered_effects}
use Rattle.circuit_model.specs.Log.{Log, no_effects, closing}
use Rattle.circuit_model.specs.Packaged.{finished}
use Rattle.circuit_model.specs.Words.{log}
use Rattle.circ_relay.specs.declared.circuit.Circuit.{Circuit}
use Rattle.circ_relay.specs.CircuitOfLog.{IsCircuit}
use Rattle.circ_relay.proofs.Nexts.{answered_packages, answered_unread, answered_too_long, answered_gives, answered_keeps}
use Rattle.circ_relay.proofs.circuit.Circuit.next_answered.Goals.{in_default-via-in-Some+else-handshake-le-MOST_HDATA, in_default-via-in_default}
use Rattle.circ_relay.proofs.circuit.Circuit.next_answered.Goals as goal

gives : (c : goal.After-packaging) (l : Log)
    → answered_effects l c.args.payload.now ≡ record no_effects { back = Some (finished l c.extended2_body.result) }
gives c l = answered_packages l c.args.payload.now c.in-Some.handshake.now c.extended2_body.result
    c.in-Some.ensures.some c.if-handshake-le-MOST_HDATA.true c.extended2_body.ensures.body

pub returns-in-Some-clause-effects : goal.returns-in-Some-clause-effects
returns-in-Some-clause-effects c = λ rules h is.
    c.packaging.ensures.effects (log rules h) is.parts.packager
    ∙ sym (answered_gives c.args.self.now rules h c.args.payload.now _ (gives c (log rules h)) is)

pub returns-in-Some-clause-circuit : goal.returns-in-Some-clause-circuit
returns-in-Some-clause-circuit c = λ rules h is stays.
    subst (λ (x : Circuit). IsCircuit x rules (Answered c.args.payload.now ∷ h)) (sym c.packaging.ensures.rest)
    (answered_keeps c.args.self.now c.packaging.new.self.packager rules h c.args.payload.now c.extended2_body.result is
    (gives c (log rules h))
    (c.packaging.ensures.next (log rules h) is.parts.packager))

refused : (c : goal.After-closing) (l : Log) → answered_effects l c.args.payload.now ≡ closing 1
refused c l = elim c.in_default.branch [
  | in_default-via-in-Some+else-handshake-le-MOST_HDATA w ↦ answered_too_long l c.args.payload.now w.in-Some.handshake.now
      w.in-Some.ensures.some w.if-handshake-le-MOST_HDATA.false
  | in_default-via-in_default w ↦ answered_unread l c.args.payload.now w.in_default.ensures.none
]

pub returns-in_default-clause-effects : goal.returns-in_default-clause-effects
returns-in_default-clause-effects c = λ rules h is.
    c.closing.ensures ∙ sym (answered_gives c.args.self.now rules h c.args.payload.now (closing 1) (refused c (log rules h)) is)
