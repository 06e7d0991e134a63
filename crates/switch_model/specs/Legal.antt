-- Legal histories: each call was made under its condition, and each step has the answer that the steps
-- before it give.
use Rattle.std.specs.Prelude.{◌≡◌, ◌⊎◌, ⊤, List, [], ◌∷◌, Option, Some, None, option_map, Contains}
use Rattle.circuit_model.specs.Rules.{Rules}
use Rattle.circuit_model.specs.Words.{in_order}
use Rattle.tr_io.specs.declared.dials.DialStep.{DialStep}
use Rattle.tr_io.specs.declared.step.Step.{Step}
use Rattle.tr_io.specs.declared.step.Step.TheVariants.{ChannelUp, ChannelDown, OpenCircuit, Take, Claim, GiveBack, Abandon, NextCell, EdgeIn, EdgeOut, Drained, DialOrder, DialDone, TearDown, Live, Halt, Halted}
use Rattle.switch_model.specs.Start.{SwitchStart}
use Rattle.switch_model.specs.Conditions.{MeetsCondition}
use Rattle.switch_model.specs.Waiting.Dials.{Dial, dials, dials_out, dial_step}
use Rattle.switch_model.specs.Answers.ChannelUp.{channel_up_answer}
use Rattle.switch_model.specs.Answers.ChannelDown.{channel_down_answer}
use Rattle.switch_model.specs.Answers.Live.{live_answer}
use Rattle.switch_model.specs.Answers.Halted.{halted_answer}
use Rattle.switch_model.specs.Answers.OpenCircuit.{open_answer}
use Rattle.switch_model.specs.Answers.Take.{take_answer}
use Rattle.switch_model.specs.Answers.TearDown.{tear_down_answer}
use Rattle.switch_model.specs.Answers.Claim.{claim_answer}
use Rattle.switch_model.specs.Answers.GiveBack.{give_back_answer}
use Rattle.switch_model.specs.Answers.Abandon.{abandon_answer}
use Rattle.switch_model.specs.Answers.NextCell.{next_cell_answer}
use Rattle.switch_model.specs.Answers.EdgeIn.{edge_in_answer}
use Rattle.switch_model.specs.Answers.EdgeOut.{edge_out_answer, order_given}
use Rattle.switch_model.specs.Answers.Drained.{drained_answer}
use Rattle.switch_model.specs.Answers.DialOrder.{dial_order_answer}
use Rattle.switch_model.specs.Answers.DialDone.{dial_done_answer}

-- Memory may have been wanting when an order was done; it is then handed out again. The history
-- doesn't show that, so an order that is out may be given where the oldest that waits would be.
pub record IsOutAgain (rules : Rules) (h : List Step) (order : DialStep) : Type 0 where
  pub dial : Dial
  pub out : Contains (dials_out rules h) dial
  pub given : order ≡ dial_step h dial

-- The order that is handed out is the oldest that waits, or one that is out again.
abbrev pub IsDialOrder : Rules → List Step → Option DialStep → Type 0
IsDialOrder rules h None = dials rules h ≡ []
IsDialOrder rules h (Some order) = (Some order ≡ dial_order_answer rules h) ⊎ IsOutAgain rules h order

-- Whether a step has the answer that the steps before it give.
abbrev pub IsAnswered : SwitchStart → List Step → Step → Type 0
IsAnswered start h (ChannelUp slot side a) = a ≡ channel_up_answer h
IsAnswered start h (ChannelDown chan a) = a ≡ channel_down_answer h chan.0
IsAnswered start h (OpenCircuit chan id reply keys pad a) = a ≡ open_answer start h chan.0 id keys
IsAnswered start h (Take chan cell a) = a ≡ take_answer start.rules h chan.0 cell
IsAnswered start h (Claim worker a) = a ≡ claim_answer start h worker
IsAnswered start h (GiveBack note place a) = a ≡ give_back_answer start h note place
IsAnswered start h (Abandon note place a) = a ≡ abandon_answer start h note place
IsAnswered start h (NextCell chan tick a) = a ≡ next_cell_answer start.rules h chan.0 tick
IsAnswered start h (EdgeIn key event a) = a ≡ edge_in_answer start.rules h key event
IsAnswered start h (EdgeOut slot a) = option_map order_given a ≡ edge_out_answer start.rules h slot
IsAnswered start h (Drained key a) = a ≡ drained_answer start.rules h key
IsAnswered start h (DialOrder a) = IsDialOrder start.rules h a
IsAnswered start h (DialDone order outcome a) = a ≡ dial_done_answer start.rules h order outcome
IsAnswered start h (TearDown circ reason a) = a ≡ tear_down_answer start.rules h circ.0 reason
IsAnswered start h (Live chan a) = a ≡ live_answer h chan.0
IsAnswered start h (Halt of) = ⊤
IsAnswered start h (Halted a) = a ≡ halted_answer h

-- Whether a step is right behind these steps: its call's condition is met, and it has its answer.
abbrev pub IsRightStep : SwitchStart → List Step → Step → Type 0
IsRightStep start h s = MeetsCondition s × IsAnswered start h s

-- A legal history.
abbrev pub IsLegal : SwitchStart → List Step → Type 0
IsLegal start [] = ⊤
IsLegal start (s ∷ h) = IsRightStep start h s × IsLegal start h

-- The same of a history that is listed oldest first.
unfoldable pub IsLegalFrom : SwitchStart → List Step → Type 0
IsLegalFrom start h = IsLegal start (in_order h)
