use Rattle.std.proofs.Common.{◌≡◌, ◌<◌, length, Some, refl, sym, ap, ◌∙◌, subst, arith}
use Rattle.std.specs.Cmp.Lexicographic.{told_text}
use Rattle.std.specs.List.{slice_get}
use Rattle.std.proofs.lemmas.Option.{slice_get_read}
use Rattle.switch_machine.specs.State.{WaitingCell, WayState}
use Rattle.switch_core.specs.Meaning.{WithRoom, way_of}
use Rattle.switch_core.specs.Returning.{bodies_out_of}
use Rattle.switch_core.proofs.Returns.{out_inside, out_get, same_body, none_out}
use Rattle.switch_core.proofs.HomeReturns.{out_bodies}
use Rattle.switch_core.proofs.way.Way.has_out.Goals as goal

pub returns-then-number-out_count : goal.returns-then-number-out_count
returns-then-number-out_count c =
    let w : WaitingCell = c.index.result.now in
    let short : c.args.number < length
    (bodies_out_of (way_of c.self.inside.claimed_count c.self.inside.claim c.self.inside.bodies.items)) =
    subst (λ (x : WithRoom WayState). c.args.number < length (bodies_out_of x.state)) (sym c.self.view_is)
    (omega (arith, (c.out_count.ensures ∙ out_bodies c.args.self.now.state), c.if-number-out_count.true)) in
    let fits : c.args.number < length c.self.inside.bodies.items =
    out_inside c.self.inside.claimed_count c.self.inside.claim c.self.inside.bodies.items c.args.number c.self.invariant
    short in
    let read : slice_get c.self.inside.bodies.items c.args.number ≡ Some w =
    slice_get_read c.self.inside.bodies.items (length c.self.inside.bodies.items) c.args.number w refl fits c.index.ensures in
    let out : slice_get (bodies_out_of c.args.self.now.state) c.args.number ≡ Some w.cell.body =
    subst (λ (x : WithRoom WayState). slice_get (bodies_out_of x.state) c.args.number ≡ Some w.cell.body) c.self.view_is
    (out_get c.self.inside.claimed_count c.self.inside.claim c.self.inside.bodies.items c.args.number w c.self.invariant short
    read) in
    let here : slice_get (bodies_out_of c.args.self.now.state) c.args.number ≡ Some c.behind-self.inside.payload =
    out ∙ ap (λ (x : WaitingCell). Some x.cell.body) (sym c.behind-self.view_is) in
    same_body (bodies_out_of c.args.self.now.state) c.args.number c.args.body.now c.behind-self.inside.payload c.eq.result here
    (told_text c.behind-self.inside.payload c.args.body.now c.eq.result c.eq.ensures)

pub returns-else-number-out_count : goal.returns-else-number-out_count
returns-else-number-out_count c =
    none_out (bodies_out_of c.args.self.now.state) c.args.number c.args.body.now c.out_count.result
    (c.out_count.ensures ∙ out_bodies c.args.self.now.state) c.if-number-out_count.false
