use Rattle.std.proofs.Common.{◌<◌, length, refl, sym, ap, ◌∙◌, Some, arith}
use Rattle.switch_machine.specs.Calls.Claim.{offered_by}
use Rattle.switch_machine.specs.State.{WayState, WaitingCell}
use Rattle.switch_core.specs.Meaning.{WithRoom}
use Rattle.switch_core.proofs.Claims.{empty_by, offer_out, offer_first, offer_empty}
use Rattle.switch_core.proofs.way.Way.offer.Goals as goal

pub returns-then-is_some : goal.returns-then-is_some
returns-then-is_some c =
    sym (offer_out c.self.inside.claimed_count c.self.inside.claim c.self.inside.bodies.items
    (sym c.is_some.ensures ∙ c.if-is_some.true))
    ∙ ap (λ (w : WithRoom WayState). offered_by (Some w.state)) c.self.view_is

pub returns-in-Some : goal.returns-in-Some
returns-in-Some c =
    let some : 0 < length c.self.inside.bodies.items =
    omega (arith, c.in-Some.ensures.variant.0 refl, c.self.inside.bodies.ok.0) in
    ap (λ (b : WaitingCell). Some b.number) c.first.view_is
    ∙ sym (offer_first c.self.inside.claimed_count c.self.inside.claim c.self.inside.bodies.items c.in-Some.first.now
    (sym c.is_some.ensures ∙ c.if-is_some.false) some c.in-Some.ensures.lookup)
    ∙ ap (λ (w : WithRoom WayState). offered_by (Some w.state)) c.self.view_is

pub returns-in-None : goal.returns-in-None
returns-in-None c =
    sym (offer_empty c.self.inside.claimed_count c.self.inside.claim c.self.inside.bodies.items
    (sym c.self.inside.bodies.ok.0 ∙ empty_by _ c.in-None.ensures.variant.1))
    ∙ ap (λ (w : WithRoom WayState). offered_by (Some w.state)) c.self.view_is
