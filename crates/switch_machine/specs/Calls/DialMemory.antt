-- dial_done where memory is wanting. It is no step, yet it changes the switch: the order is handed out
-- again.
use Rattle.std.specs.Prelude.{ℕ, ◌==◌, List, [], ◌∷◌, ◌++◌, if◌then◌else◌, find, Option, option_map}
use Rattle.circuit_model.specs.Rules.{Rules}
use Rattle.tr_io.specs.declared.dials.DialStep.{DialStep}
use Rattle.tr_io.specs.declared.step.Step.{Step}
use Rattle.switch_model.specs.Waiting.Dials.{dials_out, dial_step}
use Rattle.switch_model.specs.Answers.DialOrder.{dial_order_answer}
use Rattle.switch_machine.specs.State.{State}
use Rattle.switch_machine.specs.Machine.{is_among}

-- The switch behind a dial_done of circuit c, whose order is out, which answered Memory.
abbrev pub dial_memory_state : State → ℕ → State
dial_memory_state s c =
    if is_among c s.again then s
    else record s { again = s.again ++ c ∷ [] }

-- What dial_order answers, by the history and the circuits whose order is handed out again: the order of the
-- first of them, else the oldest that waits.
abbrev pub dial_order_by : Rules → List Step → List ℕ → Option DialStep
dial_order_by rules h [] = dial_order_answer rules h
dial_order_by rules h (c ∷ again) =
    option_map (dial_step h) (find (λ dial. dial.circ == c) (dials_out rules h))
