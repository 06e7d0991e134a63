use Rattle.std.proofs.Common.{◌≡◌, length, ap, arith}
use Rattle.switch_machine.specs.Calls.Take.{kept_length}
use Rattle.switch_machine.specs.State.{WayState}
use Rattle.switch_core.specs.Meaning.{WithRoom, way_of}
use Rattle.switch_core.proofs.Ways.{whole_length}
use Rattle.switch_core.proofs.way.Way.claim_size.Goals as goal

pub overflow_sub-waiting_count : goal.overflow_sub-waiting_count
overflow_sub-waiting_count c =
    let whole = whole_length c.self.inside.claimed_count c.self.inside.claim c.self.inside.bodies.items c.self.invariant in
    let out : kept_length (way_of c.self.inside.claimed_count c.self.inside.claim c.self.inside.bodies.items).claim_out
    ≡ kept_length c.args.self.now.state.claim_out =
    ap (λ (w : WithRoom WayState). kept_length w.state.claim_out) c.self.view_is in
    omega (arith, whole, out, c.out_count.ensures, c.len.ensures, c.self.inside.bodies.ok.0)

pub returns : goal.returns
returns c =
    let whole = whole_length c.self.inside.claimed_count c.self.inside.claim c.self.inside.bodies.items c.self.invariant in
    let out : kept_length (way_of c.self.inside.claimed_count c.self.inside.claim c.self.inside.bodies.items).claim_out
    ≡ kept_length c.args.self.now.state.claim_out =
    ap (λ (w : WithRoom WayState). kept_length w.state.claim_out) c.self.view_is in
    let waits : length (way_of c.self.inside.claimed_count c.self.inside.claim c.self.inside.bodies.items).waiting_bodies ≡ length
    c.args.self.now.state.waiting_bodies = ap (λ (w : WithRoom WayState). length w.state.waiting_bodies) c.self.view_is in
    omega (arith, whole, out, waits, c.out_count.ensures, c.len.ensures, c.self.inside.bodies.ok.0, c.min.ensures)
