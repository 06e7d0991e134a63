-- The answer to `dial_order`.
use Rattle.std.specs.Prelude.{List, [], ◌∷◌, Option, Some, None}
use Rattle.circuit_model.specs.Rules.{Rules}
use Rattle.tr_io.specs.declared.dials.DialStep.{DialStep}
use Rattle.tr_io.specs.declared.step.Step.{Step}
use Rattle.switch_model.specs.Waiting.Dials.{Dial, dials, dial_step}

-- The first of some orders, as it is handed out.
abbrev pub first_dial : List Step → List Dial → Option DialStep
first_dial h (dial ∷ more) = Some (dial_step h dial)
first_dial h [] = None

-- The oldest order that waits.
abbrev pub dial_order_answer : Rules → List Step → Option DialStep
dial_order_answer rules h = first_dial h (dials rules h)
