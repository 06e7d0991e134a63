-- dial_order is one step.
use Rattle.std.proofs.Common.{◌≡◌, ℕ, ◌+◌, List, [], ◌∷◌, Option, Some, None, refl}
use Rattle.tr_io.specs.declared.dials.DialStep.{DialStep}
use Rattle.tr_io.specs.declared.step.Step.TheVariants.{DialOrder}
use Rattle.switch_model.specs.Start.{SwitchStart}
use Rattle.switch_machine.specs.Adds.{Adds}
use Rattle.switch_machine.specs.Calls.DialOrder.{OpenDial, dial_order_result, dial_order_state, dial_order_state_by, dialled_state, oldest_dial}
use Rattle.switch_machine.specs.State.{State}
use Rattle.switch_machine.proofs.DialOrder.Kept.{dial_order_kept}

dialled-steps : (s : State) (o : Option OpenDial) → (dialled_state s o).steps ≡ s.steps + 1
dialled-steps s None = refl
dialled-steps s (Some given) = refl

dial_order-steps : (s : State) (again : List ℕ) → (dial_order_state_by s again).steps ≡ s.steps + 1
dial_order-steps s [] = dialled-steps s (oldest_dial s)
dial_order-steps s (c ∷ again) = refl

pub dial_order_adds : (start : SwitchStart) (old new : State) (a : Option DialStep) → new ≡ dial_order_state old →
    a ≡ dial_order_result old → Adds start old new (DialOrder a)
unfolding Adds
dial_order_adds start old new a e f = rw (e, f) (record {
  steps = dial_order-steps old old.again;
  stands = λ h st. dial_order_kept start old h st;
})
