use Rattle.std.proofs.Common.{◌≡◌, ◌<◌, ◌+◌, length, max, Option, Some, ap, sym, subst, ◌∙◌, arith}
use Rattle.switch_model.specs.Waiting.Counts.{least_of}
use Rattle.switch_machine.specs.State.{CircuitState, slot_at}
use Rattle.switch_machine.specs.Machine.{leg_at}
use Rattle.switch_machine.specs.Calls.NextCell.{waits_on, count_of_found, cell_count_in, waiting_before}
use Rattle.switch_core.specs.declared.pick.WaitingLeg.{WaitingLeg}
use Rattle.switch_core.specs.Picking.{first_leg_of, HasOneLeg, Picks}
use Rattle.switch_core.proofs.Leaves.{circuit_read}
use Rattle.switch_core.proofs.Picks.{one_quiet, one_waits}
use Rattle.switch_core.proofs.parts.Parts.picked.Goals as goal
use Rattle.switch_core.proofs.parts.Parts.picked.Goals.{then-slot_waits_on, else-slot_waits_on}

pub loop-number-preserved : goal.loop-number-preserved
loop-number-preserved c =
    let slot : Option CircuitState = c.index-slot.result.now in
    let below : c.loop-number.number < length c.self.inside.circuits.items =
    omega (arith, c.len-number-end.ensures, c.loop-number-test.true, c.self.inside.circuits.ok) in
    let live : slot_at c.args.self.now.circuits c.loop-number.number ≡ slot =
    circuit_read _ _ c.self.inside.circuits.items c.args.self.now c.loop-number.number slot c.self.view_is below
    c.index-slot.ensures in
    let one : HasOneLeg (slot_at c.args.self.now.circuits c.loop-number.number) =
    subst HasOneLeg (sym live) c.slot_waits_on.ensures.one_leg in
    let waits : waits_on c.args.chan.0 (leg_at (slot_at c.args.self.now.circuits c.loop-number.number) 0)
    ≡ c.slot_waits_on.result =
    ap (λ x. waits_on c.args.chan.0 (leg_at x 0)) live ∙ sym c.slot_waits_on.ensures.waits in (
      c.loop-number.invariant.0,
      elim c.if-slot_waits_on.branch [
        | then-slot_waits_on w ↦
            let counted : w.slot_count_at-count.result ≡ cell_count_in c.args.self.now c.args.new_tick
            (first_leg_of c.loop-number.number) =
            w.slot_count_at-count.ensures
            ∙ ap (λ now. count_of_found now (leg_at slot 0)) c.loop-number.invariant.0
            ∙ ap (λ x. count_of_found (max c.args.self.now.tick c.args.new_tick) (leg_at x 0)) (sym live) in
            subst (λ (o : Option WaitingLeg). Picks c.args.self.now c.args.new_tick (c.loop-number.number + 1) o
            (least_of (cell_count_in c.args.self.now c.args.new_tick)
            (waiting_before c.args.self.now c.args.chan.0 (c.loop-number.number + 1))))
            (sym (w.least-is ∙ ap Some w.lesser.ensures))
            (one_waits c.args.self.now c.args.chan.0 c.args.new_tick c.loop-number.number w.slot_count_at-count.result
            c.loop-number.least one (waits ∙ w.if-slot_waits_on.true) counted c.loop-number.invariant.1)
        | else-slot_waits_on w ↦
            subst (λ (o : Option WaitingLeg). Picks c.args.self.now c.args.new_tick (c.loop-number.number + 1) o
            (least_of (cell_count_in c.args.self.now c.args.new_tick)
            (waiting_before c.args.self.now c.args.chan.0 (c.loop-number.number + 1))))
            (sym w.least-is)
            (one_quiet c.args.self.now c.args.chan.0 c.args.new_tick c.loop-number.number c.loop-number.least one
            (waits ∙ w.if-slot_waits_on.false) c.loop-number.invariant.1)
      ],
    )
