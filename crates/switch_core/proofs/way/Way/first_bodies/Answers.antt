use Rattle.std.proofs.Common.{◌≡◌, ◌<◌, length, sym, ap, ◌∙◌, arith}
use Rattle.switch_machine.specs.State.{WaitingCell, WayState}
use Rattle.switch_core.specs.Meaning.{WithRoom}
use Rattle.switch_core.proofs.Claims.{all_wait, one_copied}
use Rattle.switch_core.proofs.way.Way.first_bodies.Goals as goal

pub loop-place-preserved : goal.loop-place-preserved
loop-place-preserved c =
    let all : c.self.inside.bodies.items ≡ c.args.self.now.state.waiting_bodies =
    sym (all_wait c.self.inside.claimed_count c.self.inside.claim c.self.inside.bodies.items
    (ap (λ (w : WithRoom WayState). w.state.claim_out) c.self.view_is ∙ c.requires.none_out))
    ∙ ap (λ (w : WithRoom WayState). w.state.waiting_bodies) c.self.view_is in
    let below : c.loop-place.place < length c.self.inside.bodies.items =
    omega (arith, c.loop-place-test.true, c.requires.enough, ap length all) in
    record {
      copied =
          one_copied c.self.inside.bodies.items c.args.self.now.state.waiting_bodies c.loop-place.place c.index.result.now
          c.behind-self.inside.payload c.loop-place.payloads.items c.push_reserved.new.self.items
          all below c.index.ensures (ap (λ (w : WaitingCell). w.cell.body) c.behind-self.view_is) c.loop-place.invariant.copied
          c.push_reserved.ensures.items;
      room = omega (arith, c.push_reserved.ensures.spare, c.loop-place.invariant.room);
    }
