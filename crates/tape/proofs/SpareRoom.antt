-- No history depends on how many places of a taken cell's list are spare.
use Rattle.std.proofs.Common.{ℕ, List, ◌∷◌}
use Rattle.cell_codec.specs.declared.cell.Body.{Body}
use Rattle.cell_codec.specs.declared.cell.Body.TheVariants.{Fixed, Var}
use Rattle.cell_codec.specs.declared.cell.Cell.{Cell}
use Rattle.tr_io.specs.declared.answers.TakeAnswer.{TakeAnswer}
use Rattle.tr_io.specs.declared.names.ChanNo.{ChanNo}
use Rattle.tr_io.specs.declared.step.Step.{Step}
use Rattle.tr_io.specs.declared.step.Step.TheVariants as Steps
use Rattle.switch_machine.specs.Stands.{Stands}
use Rattle.switch_machine.specs.State.{State}
use Rattle.switch_model.specs.Start.{SwitchStart}
use Rattle.switch_core.specs.Started.{Started, SwitchStands, SwitchAdds}
use Rattle.tape.specs.Fronts.{bare_body, bare_cell}

abbrev cell_with : ℕ → ℕ → Body → Cell
cell_with circ command body = record { circ = circ; command = command; body = body }

bare_stands : (start : SwitchStart) (s : State) (chan : ChanNo) (circ command : ℕ) (body : Body) (a : TakeAnswer)
    (h : List Step) →
    Stands start s (Steps.Take chan (cell_with circ command body) a ∷ h) →
    Stands start s (Steps.Take chan (cell_with circ command (bare_body body)) a ∷ h)
bare_stands start s chan circ command (Fixed payload) a h st = st
bare_stands start s chan circ command (Var list) a h st = record {
  steps = record {
    legal = ((record { kind = st.steps.legal.0.0.kind; size = st.steps.legal.0.0.size }, st.steps.legal.0.1), st.steps.legal.1);
    count_is = st.steps.count_is;
  };
  numbers = record {
    channels = st.numbers.channels;
    circuits = st.numbers.circuits;
    claims = st.numbers.claims;
    bodies = st.numbers.bodies;
    dial_orders = st.numbers.dial_orders;
    tick = st.numbers.tick;
  };
  channels = record { channel = λ c. st.channels.channel c; no_channel = λ c. st.channels.no_channel c };
  circuits = record { circuit = λ c. st.circuits.circuit c; fresh = λ c. st.circuits.fresh c };
  ids = record { used = λ c. st.ids.used c };
  legs = st.legs;
  dials = record { are_out = st.dials.are_out; once = st.dials.once; never = λ order. st.dials.never order };
  counts = record { counts = λ leg. st.counts.counts leg; no_count = λ c. st.counts.no_count c };
  slots = record { slots = λ slot. st.slots.slots slot; halts = st.slots.halts; least_halt = λ n. st.slots.least_halt n };
  not_yet = record { unreached = λ c. st.not_yet.unreached c };
}

bare_switch : (s : Started) (chan : ChanNo) (circ command : ℕ) (body : Body) (a : TakeAnswer) (h : List Step) →
    SwitchStands s (Steps.Take chan (cell_with circ command body) a ∷ h) →
    SwitchStands s (Steps.Take chan (cell_with circ command (bare_body body)) a ∷ h)
bare_switch s chan circ command (Fixed payload) a h st = st
bare_switch s chan circ command (Var list) a h st = record {
  state = bare_stands s.start s.state chan circ command (Var list) a h st.state;
  relays = record { count_is = st.relays.count_is; relay = λ c. st.relays.relay c };
}

-- A call that takes a cell makes the step of the same cell without spare places.
pub bare_adds : (old new : Started) (chan : ChanNo) (cell : Cell) (a : TakeAnswer) →
    SwitchAdds old new (Steps.Take chan cell a) → SwitchAdds old new (Steps.Take chan (bare_cell cell) a)
unfolding SwitchAdds
bare_adds old new chan cell a adds = record {
  start = adds.start;
  steps = adds.steps;
  stands = λ h st. bare_switch new chan cell.circ cell.command cell.body a h (adds.stands h st);
}
