use Rattle.std.proofs.Common.{sym, ap, subst, ◌∙◌, Some, List, ℕ, Option}
use Rattle.circuit_model.specs.Log.{Effects, no_effects}
use Rattle.circuit_model.specs.Packaged.{finished}
use Rattle.circ_relay.specs.Packaging.{IsPackagedNext}
use Rattle.circ_relay.specs.WindowOfLog.{window_of}
use Rattle.circ_relay.proofs.DataMessages.{acknowledged, unacknowledged}
use Rattle.circ_relay.proofs.Longer.{none_packaged}
use Rattle.circ_relay.proofs.circuit.Circuit.acknowledging.Goals as goal

pub returns-clause-effects : goal.returns-clause-effects
returns-clause-effects c = λ log m packager windows same.
    c.package_into.ensures.effects log packager
    ∙ ap (λ (b : List ℕ). record no_effects { back = Some (finished log b) }) c.circuit_sendme_body.ensures.body
    ∙ sym (acknowledged log m c.accepted-is_due.result c.args.digest.now (c.accepted-is_due.ensures.due (window_of log) windows)
    c.if-not-is_due.false same)

pub returns-clause-packager : goal.returns-clause-packager
returns-clause-packager c = λ log m packager windows same.
    let back = ap (λ (b : List ℕ). Some (finished log b)) c.circuit_sendme_body.ensures.body
    ∙ ap (λ (e : Effects). e.back)
    (sym (acknowledged log m c.accepted-is_due.result c.args.digest.now
    (c.accepted-is_due.ensures.due (window_of log) windows) c.if-not-is_due.false same)) in
    subst (λ (b : Option (List ℕ)). IsPackagedNext c.package_into.new.self.packager log b) back
    (c.package_into.ensures.next log packager)

pub returns-then-not-is_due-clause-effects : goal.returns-then-not-is_due-clause-effects
returns-then-not-is_due-clause-effects c = λ log m packager windows same.
    c.requires.blank
    ∙ sym (unacknowledged log m c.accepted-is_due.result (c.accepted-is_due.ensures.due (window_of log) windows)
    c.if-not-is_due.true)

pub returns-then-not-is_due-clause-packager : goal.returns-then-not-is_due-clause-packager
returns-then-not-is_due-clause-packager c = λ log m packager windows same.
    subst (λ (b : Option (List ℕ)). IsPackagedNext c.args.self.now.packager log b)
    (ap (λ (e : Effects). e.back)
    (sym (unacknowledged log m c.accepted-is_due.result (c.accepted-is_due.ensures.due (window_of log) windows)
    c.if-not-is_due.true)))
    (none_packaged c.args.self.now.packager log packager)
