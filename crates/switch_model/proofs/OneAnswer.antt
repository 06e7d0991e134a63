-- In a legal history the steps before a call and its arguments leave one answer.
use Rattle.std.proofs.Common.{◌≡◌, ℕ, Bool, List, [], ◌∷◌, Option, Some, None, option_map, sym, ◌∙◌, ap, subst, inl, inr, arith}
use Rattle.std.specs.Prelude.{Contains}
use Rattle.cell_codec.specs.declared.cell.Cell.{Cell}
use Rattle.kdf_tor.specs.declared.LayerKeys.{LayerKeys}
use Rattle.tr_io.specs.declared.answers.BackAnswer.{BackAnswer}
use Rattle.tr_io.specs.declared.answers.DialAnswer.{DialAnswer}
use Rattle.tr_io.specs.declared.answers.EdgeAnswer.{EdgeAnswer}
use Rattle.tr_io.specs.declared.answers.OpenAnswer.{OpenAnswer}
use Rattle.tr_io.specs.declared.answers.TakeAnswer.{TakeAnswer}
use Rattle.tr_io.specs.declared.answers.UpAnswer.{UpAnswer}
use Rattle.tr_io.specs.declared.dials.DialOutcome.{DialOutcome}
use Rattle.tr_io.specs.declared.dials.DialStep.{DialStep}
use Rattle.tr_io.specs.declared.names.ChanNo.{ChanNo}
use Rattle.tr_io.specs.declared.names.CircNo.{CircNo}
use Rattle.tr_io.specs.declared.names.ClaimNote.{ClaimNote}
use Rattle.tr_io.specs.declared.names.Side.{Side}
use Rattle.tr_io.specs.declared.names.StreamKey.{StreamKey}
use Rattle.tr_io.specs.declared.step.EventStep.{EventStep}
use Rattle.tr_io.specs.declared.step.OrderStep.{OrderStep}
use Rattle.tr_io.specs.declared.step.Step.{Step}
use Rattle.tr_io.specs.declared.step.Step.TheVariants.{ChannelUp, ChannelDown, OpenCircuit, Take, Claim, GiveBack, Abandon, NextCell, EdgeIn, EdgeOut, Drained, DialOrder, DialDone, TearDown, Live, Halted}
use Rattle.switch_model.specs.Start.{SwitchStart}
use Rattle.switch_model.specs.Waiting.Dials.{Dial, dials_out}
use Rattle.switch_model.specs.Answers.DialOrder.{first_dial, dial_order_answer}
use Rattle.switch_model.specs.Answers.EdgeOut.{order_given}
use Rattle.switch_model.specs.Legal.{IsDialOrder, IsLegal}

pub one_channel_up : (start : SwitchStart) (h : List Step) (slot : ℕ) (side : Side) (a b : UpAnswer)
    → IsLegal start (ChannelUp slot side a ∷ h) → IsLegal start (ChannelUp slot side b ∷ h) → a ≡ b
one_channel_up start h slot side a b legal other = legal.0.1 ∙ sym other.0.1

pub one_channel_down : (start : SwitchStart) (h : List Step) (chan : ChanNo) (a b : BackAnswer)
    → IsLegal start (ChannelDown chan a ∷ h) → IsLegal start (ChannelDown chan b ∷ h) → a ≡ b
one_channel_down start h chan a b legal other = legal.0.1 ∙ sym other.0.1

pub one_open_circuit : (start : SwitchStart) (h : List Step) (chan : ChanNo) (id : ℕ) (reply : Cell) (keys : Option LayerKeys)
    (pad : Option (List ℕ)) (a b : OpenAnswer) → IsLegal start (OpenCircuit chan id reply keys pad a ∷ h)
    → IsLegal start (OpenCircuit chan id reply keys pad b ∷ h) → a ≡ b
one_open_circuit start h chan id reply keys pad a b legal other = legal.0.1 ∙ sym other.0.1

pub one_take : (start : SwitchStart) (h : List Step) (chan : ChanNo) (cell : Cell) (a b : TakeAnswer)
    → IsLegal start (Take chan cell a ∷ h) → IsLegal start (Take chan cell b ∷ h) → a ≡ b
one_take start h chan cell a b legal other = legal.0.1 ∙ sym other.0.1

pub one_claim : (start : SwitchStart) (h : List Step) (worker : ℕ) (a b : Option ClaimNote) → IsLegal start (Claim worker a ∷ h)
    → IsLegal start (Claim worker b ∷ h) → a ≡ b
one_claim start h worker a b legal other = legal.0.1 ∙ sym other.0.1

pub one_give_back : (start : SwitchStart) (h : List Step) (note : ClaimNote) (place : Option ℕ) (a b : BackAnswer)
    → IsLegal start (GiveBack note place a ∷ h) → IsLegal start (GiveBack note place b ∷ h) → a ≡ b
one_give_back start h note place a b legal other = legal.0.1 ∙ sym other.0.1

pub one_abandon : (start : SwitchStart) (h : List Step) (note : ClaimNote) (place : Option ℕ) (a b : BackAnswer)
    → IsLegal start (Abandon note place a ∷ h) → IsLegal start (Abandon note place b ∷ h) → a ≡ b
one_abandon start h note place a b legal other = legal.0.1 ∙ sym other.0.1

pub one_next_cell : (start : SwitchStart) (h : List Step) (chan : ChanNo) (tick : ℕ) (a b : Option Cell)
    → IsLegal start (NextCell chan tick a ∷ h) → IsLegal start (NextCell chan tick b ∷ h) → a ≡ b
one_next_cell start h chan tick a b legal other = legal.0.1 ∙ sym other.0.1

pub one_edge_in : (start : SwitchStart) (h : List Step) (key : StreamKey) (event : EventStep) (a b : EdgeAnswer)
    → IsLegal start (EdgeIn key event a ∷ h) → IsLegal start (EdgeIn key event b ∷ h) → a ≡ b
one_edge_in start h key event a b legal other = legal.0.1 ∙ sym other.0.1

pub one_drained : (start : SwitchStart) (h : List Step) (key : StreamKey) (a b : EdgeAnswer) → IsLegal start (Drained key a ∷ h)
    → IsLegal start (Drained key b ∷ h) → a ≡ b
one_drained start h key a b legal other = legal.0.1 ∙ sym other.0.1

pub one_dial_done : (start : SwitchStart) (h : List Step) (order : DialStep) (outcome : DialOutcome) (a b : DialAnswer)
    → IsLegal start (DialDone order outcome a ∷ h) → IsLegal start (DialDone order outcome b ∷ h) → a ≡ b
one_dial_done start h order outcome a b legal other = legal.0.1 ∙ sym other.0.1

pub one_tear_down : (start : SwitchStart) (h : List Step) (circ : CircNo) (reason : ℕ) (a b : BackAnswer)
    → IsLegal start (TearDown circ reason a ∷ h) → IsLegal start (TearDown circ reason b ∷ h) → a ≡ b
one_tear_down start h circ reason a b legal other = legal.0.1 ∙ sym other.0.1

pub one_live : (start : SwitchStart) (h : List Step) (chan : ChanNo) (a b : Bool) → IsLegal start (Live chan a ∷ h)
    → IsLegal start (Live chan b ∷ h) → a ≡ b
one_live start h chan a b legal other = legal.0.1 ∙ sym other.0.1

pub one_halted : (start : SwitchStart) (h : List Step) (a b : Bool) → IsLegal start (Halted a ∷ h) → IsLegal start (Halted b ∷ h)
    → a ≡ b
one_halted start h a b legal other = legal.0.1 ∙ sym other.0.1

pub one_edge_out : (start : SwitchStart) (h : List Step) (slot : ℕ) (a b : Option OrderStep) → IsLegal start (EdgeOut slot a ∷ h)
    → IsLegal start (EdgeOut slot b ∷ h) → option_map order_given a ≡ option_map order_given b
one_edge_out start h slot a b legal other = legal.0.1 ∙ sym other.0.1

pub ruleset each_call = (
  one_channel_up,
  one_channel_down,
  one_open_circuit,
  one_take,
  one_claim,
  one_give_back,
  one_abandon,
  one_next_cell,
  one_edge_in,
  one_drained,
  one_dial_done,
  one_tear_down,
  one_live,
  one_halted,
  one_edge_out,
)

-- where no order is out, none can be handed out again
none-out : {dial : Dial} (out : List Dial) → out ≡ [] → Contains out dial → ⊥
none-out {dial} out none some = let some_here : Contains [] dial = subst (λ l. Contains l dial) none some in
    absurd (omega (arith, some_here.1))

dial-is : (start : SwitchStart) (h : List Step) (a : Option DialStep) → dials_out start.rules h ≡ [] → IsDialOrder start.rules h a
    → a ≡ dial_order_answer start.rules h
dial-is start h None none is = sym (ap (first_dial h) is)
dial-is start h (Some order) none (inl is) = is
dial-is start h (Some order) none (inr again) = absurd (none-out (dials_out start.rules h) none again.out)

pub one_dial_order : (start : SwitchStart) (h : List Step) (a b : Option DialStep) → dials_out start.rules h ≡ []
    → IsLegal start (DialOrder a ∷ h) → IsLegal start (DialOrder b ∷ h) → a ≡ b
one_dial_order start h a b none legal other = dial-is start h a none legal.0.1 ∙ sym (dial-is start h b none other.0.1)
