-- Each legal history of the calls that have a machine is stood for by some state, and laws of every legal history.
use Rattle.std.proofs.Common.{ℕ, List, [], ◌∷◌, Option, sym, ◌∙◌, subst}
use Rattle.cell_codec.specs.declared.cell.Cell.{Cell}
use Rattle.kdf_tor.specs.declared.LayerKeys.{LayerKeys}
use Rattle.tr_io.specs.declared.answers.OpenAnswer.{OpenAnswer}
use Rattle.tr_io.specs.declared.answers.UpAnswer.{UpAnswer}
use Rattle.tr_io.specs.declared.answers.BackAnswer.{BackAnswer}
use Rattle.tr_io.specs.declared.names.ChanNo.{ChanNo}
use Rattle.tr_io.specs.declared.names.CircNo.{CircNo}
use Rattle.tr_io.specs.declared.names.ClaimNote.{ClaimNote}
use Rattle.tr_io.specs.declared.names.Side.{Side}
use Rattle.tr_io.specs.declared.step.Step.{Step}
use Rattle.tr_io.specs.declared.step.Step.TheVariants.{ChannelUp, OpenCircuit, NextCell, TearDown, GiveBack, Abandon, Claim, Take, DialOrder, DialDone}
use Rattle.switch_model.specs.Start.{SwitchStart}
use Rattle.switch_model.specs.History.Circuit.{events}
use Rattle.switch_model.specs.Legal.{IsLegal}
use Rattle.tr_io.specs.declared.answers.DialAnswer.{DialAnswer}
use Rattle.tr_io.specs.declared.dials.DialOutcome.{DialOutcome}
use Rattle.switch_machine.specs.Calls.DialDone.{dial_done_result, dial_done_state}
use Rattle.switch_machine.proofs.DialDone.Kept.{dial_done_kept}
use Rattle.switch_machine.specs.State.{State}
use Rattle.switch_machine.specs.Calls.ChannelUp.{channel_up_result, channel_up_state}
use Rattle.switch_machine.specs.Calls.OpenCircuit.{open_result, open_state}
use Rattle.switch_machine.specs.Calls.NextCell.{next_cell_result, next_cell_state}
use Rattle.switch_machine.specs.Calls.TearDown.{tear_down_result, tear_down_state}
use Rattle.switch_machine.specs.Calls.GiveBack.{give_back_result, give_back_state}
use Rattle.switch_machine.specs.Calls.Abandon.{abandon_result, abandon_state}
use Rattle.switch_machine.specs.Stands.{Stands}
use Rattle.switch_machine.specs.Adds.{StandsForSomeState, HasMachine}
use Rattle.switch_machine.proofs.Laws.{stands_empty}
use Rattle.switch_machine.proofs.Up.{channel_up_kept}
use Rattle.switch_machine.proofs.OpenCircuit.Kept.{open_kept}
use Rattle.switch_machine.proofs.NextCell.Kept.{next_cell_kept}
use Rattle.switch_machine.proofs.TearDown.Kept.{tear_down_kept}
use Rattle.switch_machine.proofs.GiveBack.Kept.{give_back_kept}
use Rattle.switch_machine.proofs.Abandon.Kept.{abandon_kept}
use Rattle.switch_machine.specs.Calls.Claim.{claim_result, claim_state}
use Rattle.switch_machine.proofs.Claim.Kept.{claim_kept}
use Rattle.tr_io.specs.declared.answers.TakeAnswer.{TakeAnswer}
use Rattle.switch_machine.specs.Calls.Take.{take_result, take_state}
use Rattle.switch_machine.proofs.Take.Kept.{take_kept}
use Rattle.tr_io.specs.declared.dials.DialStep.{DialStep}
use Rattle.switch_machine.specs.Calls.DialOrder.{dial_order_state}
use Rattle.switch_machine.proofs.DialOrder.Kept.{dial_order_kept}
use Rattle.switch_machine.proofs.DialOrder.Each.{order-each}

-- a step is known by its answer, and the state's answer is that of the history
with-up : (start : SwitchStart) (h : List Step) (slot : ℕ) (side : Side) (a : UpAnswer) (s : State)
    → IsLegal start (ChannelUp slot side a ∷ h) → Stands start s h → StandsForSomeState start (ChannelUp slot side a ∷ h)
with-up start h slot side a s legal st =
    let kept : Stands start (channel_up_state s side) (ChannelUp slot side (channel_up_result s) ∷ h) =
    channel_up_kept start s h slot side st in
    record {
      state = channel_up_state s side;
      stands =
          subst (λ b. Stands start (channel_up_state s side) (ChannelUp slot side b ∷ h)) (kept.steps.legal.0.1 ∙ sym legal.0.1)
          kept;
    }

with-opening : (start : SwitchStart) (h : List Step) (chan : ChanNo) (id : ℕ) (reply : Cell) (keys : Option LayerKeys)
    (pad : Option (List ℕ)) (a : OpenAnswer) (s : State) →
    IsLegal start (OpenCircuit chan id reply keys pad a ∷ h) → Stands start s h
    → StandsForSomeState start (OpenCircuit chan id reply keys pad a ∷ h)
with-opening start h chan id reply keys pad a s legal st =
    let kept : Stands start (open_state start.circuits s chan.0 id reply keys)
    (OpenCircuit chan id reply keys pad (open_result start.circuits s chan.0 id keys) ∷ h) =
    open_kept start s h chan.0 id reply keys pad legal.0.0 st in
    record {
      state = open_state start.circuits s chan.0 id reply keys;
      stands = subst
          (λ b. Stands start (open_state start.circuits s chan.0 id reply keys) (OpenCircuit chan id reply keys pad b ∷ h))
          (kept.steps.legal.0.1 ∙ sym legal.0.1) kept;
    }

with-next : (start : SwitchStart) (h : List Step) (chan : ChanNo) (given : ℕ) (a : Option Cell) (s : State)
    → IsLegal start (NextCell chan given a ∷ h) → Stands start s h → StandsForSomeState start (NextCell chan given a ∷ h)
with-next start h chan given a s legal st =
    let kept : Stands start (next_cell_state s chan.0 given) (NextCell chan given (next_cell_result s chan.0 given) ∷ h) =
    next_cell_kept start s h chan.0 given st in
    record {
      state = next_cell_state s chan.0 given;
      stands =
          subst (λ b. Stands start (next_cell_state s chan.0 given) (NextCell chan given b ∷ h))
          (kept.steps.legal.0.1 ∙ sym legal.0.1) kept;
    }

with-teardown : (start : SwitchStart) (h : List Step) (circ : CircNo) (reason : ℕ) (a : BackAnswer) (s : State)
    → IsLegal start (TearDown circ reason a ∷ h) → Stands start s h → StandsForSomeState start (TearDown circ reason a ∷ h)
with-teardown start h circ reason a s legal st =
    let t = tear_down_state start.rules (events start.rules h) s circ.0 reason in
    let kept : Stands start t (TearDown circ reason (tear_down_result s circ.0 reason) ∷ h) =
    tear_down_kept start s h circ.0 reason st in
    record {
      state = t;
      stands =
          subst (λ b. Stands start t (TearDown circ reason b ∷ h)) (kept.steps.legal.0.1 ∙ sym legal.0.1) kept;
    }

with-return : (start : SwitchStart) (h : List Step) (note : ClaimNote) (place : Option ℕ) (a : BackAnswer) (s : State)
    → IsLegal start (GiveBack note place a ∷ h) → Stands start s h → StandsForSomeState start (GiveBack note place a ∷ h)
with-return start h note place a s legal st =
    let t = give_back_state start.name start.rules (events start.rules h) s note place in
    let kept : Stands start t (GiveBack note place (give_back_result start.name start.rules (events start.rules h) s note place)
    ∷ h) = give_back_kept start s h note place st in
    record {
      state = t;
      stands =
          subst (λ b. Stands start t (GiveBack note place b ∷ h)) (kept.steps.legal.0.1 ∙ sym legal.0.1) kept;
    }

with-abandoned : (start : SwitchStart) (h : List Step) (note : ClaimNote) (place : Option ℕ) (a : BackAnswer) (s : State)
    → IsLegal start (Abandon note place a ∷ h) → Stands start s h → StandsForSomeState start (Abandon note place a ∷ h)
with-abandoned start h note place a s legal st =
    let t = abandon_state start.name start.rules (events start.rules h) s note place in
    let kept : Stands start t (Abandon note place (abandon_result start.name s note place) ∷ h) =
    abandon_kept start s h note place st in
    record {
      state = t;
      stands =
          subst (λ b. Stands start t (Abandon note place b ∷ h)) (kept.steps.legal.0.1 ∙ sym legal.0.1) kept;
    }

with-claim : (start : SwitchStart) (h : List Step) (worker : ℕ) (a : Option ClaimNote) (s : State)
    → IsLegal start (Claim worker a ∷ h) → Stands start s h → StandsForSomeState start (Claim worker a ∷ h)
with-claim start h worker a s legal st =
    let kept : Stands start (claim_state start.name s worker) (Claim worker (claim_result start.name s worker) ∷ h) =
    claim_kept start s h worker legal.0.0 st in
    record {
      state = claim_state start.name s worker;
      stands =
          subst (λ b. Stands start (claim_state start.name s worker) (Claim worker b ∷ h)) (kept.steps.legal.0.1 ∙ sym legal.0.1)
          kept;
    }

with-taken : (start : SwitchStart) (h : List Step) (chan : ChanNo) (cell : Cell) (a : TakeAnswer) (s : State)
    → IsLegal start (Take chan cell a ∷ h) → Stands start s h → StandsForSomeState start (Take chan cell a ∷ h)
with-taken start h chan cell a s legal st =
    let kept : Stands start (take_state start.rules (events start.rules h) s chan.0 cell)
    (Take chan cell (take_result start.rules (events start.rules h) s chan.0 cell) ∷ h) =
    take_kept start s h chan.0 cell legal.0.0 st in
    record {
      state = take_state start.rules (events start.rules h) s chan.0 cell;
      stands = subst (λ b. Stands start (take_state start.rules (events start.rules h) s chan.0 cell) (Take chan cell b ∷ h))
          (kept.steps.legal.0.1 ∙ sym legal.0.1) kept;
    }

with-order : (start : SwitchStart) (h : List Step) (a : Option DialStep) (s : State) → IsLegal start (DialOrder a ∷ h) →
    Stands start s h → StandsForSomeState start (DialOrder a ∷ h)
with-order start h a s legal st =
    let each = order-each start s h a st legal.0.1 in
    record {
      state = dial_order_state each.state;
      stands = subst (λ b. Stands start (dial_order_state each.state) (DialOrder b ∷ h)) each.answer
          (dial_order_kept start each.state h each.stands);
    }

with-done : (start : SwitchStart) (h : List Step) (given : DialStep) (outcome : DialOutcome) (a : DialAnswer) (s : State) →
    IsLegal start (DialDone given outcome a ∷ h) → Stands start s h → StandsForSomeState start (DialDone given outcome a ∷ h)
with-done start h given outcome a s legal st =
    let t = dial_done_state start.rules (events start.rules h) s given outcome in
    let kept : Stands start t (DialDone given outcome (dial_done_result s given outcome) ∷ h) =
    dial_done_kept start s h given outcome st in
    record {
      state = t;
      stands = subst (λ b. Stands start t (DialDone given outcome b ∷ h)) (kept.steps.legal.0.1 ∙ sym legal.0.1) kept;
    }

pub built_stands : (start : SwitchStart) (h : List Step) → HasMachine h → IsLegal start h → StandsForSomeState start h
built_stands start [] built legal = record { state = _; stands = stands_empty start }
built_stands start (ChannelUp slot side a ∷ h) built legal =
    let some = built_stands start h built legal.1 in
    with-up start h slot side a some.state legal some.stands
built_stands start (OpenCircuit chan id reply keys pad a ∷ h) built legal =
    let some = built_stands start h built legal.1 in
    with-opening start h chan id reply keys pad a some.state legal some.stands
built_stands start (NextCell chan given a ∷ h) built legal =
    let some = built_stands start h built legal.1 in
    with-next start h chan given a some.state legal some.stands
built_stands start (TearDown circ reason a ∷ h) built legal =
    let some = built_stands start h built legal.1 in
    with-teardown start h circ reason a some.state legal some.stands
built_stands start (GiveBack note place a ∷ h) built legal =
    let some = built_stands start h built legal.1 in
    with-return start h note place a some.state legal some.stands
built_stands start (Abandon note place a ∷ h) built legal =
    let some = built_stands start h built legal.1 in
    with-abandoned start h note place a some.state legal some.stands
built_stands start (Claim worker a ∷ h) built legal =
    let some = built_stands start h built legal.1 in
    with-claim start h worker a some.state legal some.stands
built_stands start (Take chan cell a ∷ h) built legal =
    let some = built_stands start h built legal.1 in
    with-taken start h chan cell a some.state legal some.stands
built_stands start (DialOrder a ∷ h) built legal =
    let some = built_stands start h built legal.1 in
    with-order start h a some.state legal some.stands
built_stands start (DialDone given outcome a ∷ h) built legal =
    let some = built_stands start h built legal.1 in
    with-done start h given outcome a some.state legal some.stands
built_stands start (s ∷ h) built legal = absurd built
