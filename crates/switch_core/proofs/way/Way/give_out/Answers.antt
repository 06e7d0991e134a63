use Rattle.std.proofs.Common.{length, ap, ◌∙◌, arith}
use Rattle.switch_machine.specs.Calls.Claim.{claimed_way}
use Rattle.switch_machine.specs.State.{WayState}
use Rattle.switch_core.specs.Meaning.{WithRoom}
use Rattle.switch_core.proofs.Claims.{all_wait, claimed_as, given_out}
use Rattle.switch_core.proofs.way.Way.give_out.Goals as goal

pub overflow_add-self : goal.overflow_add-self
overflow_add-self c =
    omega (
      arith,
      c.requires.fits,
      claimed_as c.self.inside.claimed_count c.self.inside.claim c.self.inside.bodies.items,
      ap (λ (w : WithRoom WayState). w.state.claimed_count) c.self.view_is,
    )

pub invariant_of-self : goal.invariant_of-self
invariant_of-self c =
    omega (
      arith,
      c.requires.enough,
      ap (λ (w : WithRoom WayState). length w.state.waiting_bodies) c.self.view_is,
      ap length (all_wait c.self.inside.claimed_count c.self.inside.claim c.self.inside.bodies.items
          (ap (λ (w : WithRoom WayState). w.state.claim_out) c.self.view_is ∙ c.requires.none_out)),
    )

pub returns-clause-state : goal.returns-clause-state
returns-clause-state c =
    given_out c.args.note c.self.inside.claimed_count c.self.inside.claim c.self.inside.bodies.items
    (ap (λ (w : WithRoom WayState). w.state.claim_out) c.self.view_is ∙ c.requires.none_out)
    ∙ ap (λ (w : WithRoom WayState). claimed_way c.args.note w.state) c.self.view_is
