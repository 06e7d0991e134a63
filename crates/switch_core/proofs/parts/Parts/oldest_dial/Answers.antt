use Rattle.std.proofs.Common.{◌≡◌, ◌<◌, length, Option, option_map, sym, ap, subst, arith}
use Rattle.switch_machine.specs.Calls.DialOrder.{oldest_below}
use Rattle.switch_machine.specs.State.{CircuitState, State, slot_at}
use Rattle.switch_core.specs.Dialling.{open_of}
use Rattle.switch_core.proofs.Dialled.{dial_inside, one_more_dial}
use Rattle.switch_core.proofs.Leaves.{circuit_read}
use Rattle.switch_core.proofs.parts.Parts.oldest_dial.Goals as goal

pub loop-number-preserved : goal.loop-number-preserved
loop-number-preserved c =
    let slot : Option CircuitState = c.index.result.now in
    let below : c.loop-number.number < length c.self.inside.circuits.items =
    omega (arith, c.len-number-end.ensures, c.loop-number-test.true, c.self.inside.circuits.ok) in
    let live : slot_at c.args.self.now.circuits c.loop-number.number ≡ slot =
    circuit_read _ _ c.self.inside.circuits.items c.args.self.now c.loop-number.number slot c.self.view_is below
    c.index.ensures in
    one_more_dial c.args.self.now c.loop-number.number slot c.loop-number.best c.slot_dial-next.result c.older-best.result
    live c.slot_dial-next.ensures c.older-best.ensures c.loop-number.invariant

pub returns-clause-inside : goal.returns-clause-inside
returns-clause-inside c =
    let all : length c.self.inside.circuits.items ≡ length c.args.self.now.circuits =
    ap (λ (s : State). length s.circuits) c.self.view_is in
    let last : c.loop-number.number ≡ length c.args.self.now.circuits =
    omega (
      arith,
      c.loop-number-test.false,
      c.loop-number.auto.number-end,
      c.len-number-end.ensures,
      c.self.inside.circuits.ok,
      all,
    ) in
    dial_inside c.args.self.now c.loop-number.best
    (subst (λ n. option_map open_of c.loop-number.best ≡ oldest_below c.args.self.now n) last c.loop-number.invariant)
