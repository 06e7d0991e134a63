use Rattle.std.proofs.Common.{◌≡◌, sym, ◌∙◌}
use Rattle.switch_machine.specs.State.{slot_at}
use Rattle.switch_core.proofs.Leaves.{circuit_at}
use Rattle.switch_core.proofs.Offers.{none_claimed, one_claimed}
use Rattle.switch_core.proofs.parts.Parts.next_claim.Goals as goal

pub returns-in-None-clause-answer : goal.returns-in-None-clause-answer
returns-in-None-clause-answer c = none_claimed c.args.switch c.args.self.now c.args.worker c.in-None.ensures.offer

pub returns-in-Some-clause-answer : goal.returns-in-Some-clause-answer
returns-in-Some-clause-answer c =
    let live : slot_at c.args.self.now.circuits c.in-Some.offer.circ ≡ c.index.result.now =
    circuit_at _ _ _ c.args.self.now c.in-Some.offer.circ c.index.result.now c.self.view_is c.in-Some.ensures.inside
    ∙ sym c.index.ensures in
    one_claimed c.args.switch c.args.self.now c.args.worker c.in-Some.offer c.index.result.now c.note_of.result
    c.in-Some.ensures.offer live c.note_of.ensures.answer
