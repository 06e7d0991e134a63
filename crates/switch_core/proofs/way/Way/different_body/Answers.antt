use Rattle.std.proofs.Common.{◌∙◌, ◌<◌, length, arith}
use Rattle.std.proofs.lemmas.Option.{slice_get-get_or}
use Rattle.switch_core.specs.Returning.{bodies_out_of}
use Rattle.switch_core.proofs.Returns.{same_further, differs_behind}
use Rattle.switch_core.proofs.HomeReturns.{out_bodies}
use Rattle.switch_core.proofs.way.Way.different_body.Goals as goal

pub loop-number-preserved : goal.loop-number-preserved
loop-number-preserved c =
    let inside : c.loop-number.number < length c.args.bodies.now = omega (arith, c.loop-number-test.true) in
    let there = c.has_out.ensures.0 c.if-not-has_out.false in
    same_further (bodies_out_of c.args.self.now.state) c.args.bodies.now c.loop-number.number _
    (slice_get-get_or c.args.bodies.now c.loop-number.number _ inside) there c.loop-number.invariant

pub returns-then-bodies-out_count : goal.returns-then-bodies-out_count
returns-then-bodies-out_count c =
    let short : length c.args.bodies.now < length (bodies_out_of c.args.self.now.state) =
    omega (arith, (c.out_count.ensures ∙ out_bodies c.args.self.now.state), c.if-bodies-out_count.true) in
    differs_behind (bodies_out_of c.args.self.now.state) c.args.bodies.now c.loop-number.number c.loop-number-test.false short
    c.loop-number.invariant
