use Rattle.std.proofs.Common.{option_map, ◌∙◌}
use Rattle.tor_spec.proofs.Extends.{destination_step, destination_stop, destination_done}
use Rattle.relay_cell.specs.Extend.{address_of}
use Rattle.relay_cell.proofs.extend.read_destination.Goals as goal

pub returns-in_err-specifier-clause-none : goal.returns-in_err-specifier-clause-none
returns-in_err-specifier-clause-none c =
    rw c.from_residual.ensures
    (c.loop-i.invariant
    ∙ destination_stop (option_map address_of c.loop-i.to) c.args.count c.loop-i.i c.loop-i.rest.now
    c.loop-i-test.true c.in_err-specifier.ensures.none)

pub loop-i-preserved : goal.loop-i-preserved
loop-i-preserved c =
    c.loop-i.invariant
    ∙ destination_step address_of c.loop-i.to c.address.result c.or-to.result c.args.count c.loop-i.i
    c.loop-i.rest.now _ c.in_ok-specifier.tail.now
    c.loop-i-test.true c.in_ok-specifier.ensures.some c.address.ensures c.or-to.ensures

pub returns-clause-some : goal.returns-clause-some
returns-clause-some c =
    c.loop-i.invariant
    ∙ destination_done (option_map address_of c.loop-i.to) c.args.count c.loop-i.i c.loop-i.rest.now c.loop-i-test.false
