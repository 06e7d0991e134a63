use Rattle.std.proofs.Common.{◌<◌, ◌≤◌, length, arith}
use Rattle.switch_core.proofs.Gone.{forgets_set, forgets_none}
use Rattle.switch_core.proofs.opening.forget_relay.Goals as goal

pub returns : goal.returns
returns c =
    let inside : c.args.circ.0 < length c.args.relays.now.items =
    omega (arith, c.len.ensures, c.if-circ-len.false, c.args.relays.now.ok) in
    forgets_set c.args.relays.now.items c.args.circ.0 inside

pub returns-then-circ-len : goal.returns-then-circ-len
returns-then-circ-len c =
    let beyond : length c.args.relays.now.items ≤ c.args.circ.0 =
    omega (arith, c.len.ensures, c.if-circ-len.true, c.args.relays.now.ok) in
    forgets_none c.args.relays.now.items c.args.circ.0 beyond
