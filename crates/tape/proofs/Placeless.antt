-- No history depends on the place at which a job differs that comes home to a circuit which is gone.
use Rattle.std.proofs.Common.{◌≡◌, ℕ, List, ◌∷◌, Option, None}
use Rattle.tr_io.specs.declared.answers.BackAnswer.TheVariants.{Gone}
use Rattle.tr_io.specs.declared.names.ClaimNote.{ClaimNote}
use Rattle.tr_io.specs.declared.step.Step.{Step}
use Rattle.tr_io.specs.declared.step.Step.TheVariants.{GiveBack, Abandon}
use Rattle.switch_machine.specs.Stands.{Stands}
use Rattle.switch_machine.specs.State.{State}
use Rattle.switch_model.specs.Answers.Abandon.{abandon_answer}
use Rattle.switch_model.specs.Answers.GiveBack.{give_back_answer}
use Rattle.switch_model.specs.Start.{SwitchStart}
use Rattle.switch_core.specs.Started.{Started, SwitchStands}

given-state : (start : SwitchStart) (s : State) (note : ClaimNote) (place : Option ℕ) (h : List Step) →
    Gone ≡ give_back_answer start h note None →
    Stands start s (GiveBack note place Gone ∷ h) → Stands start s (GiveBack note None Gone ∷ h)
given-state start s note place h gone st = record {
  steps = record { legal = ((tt, gone), st.steps.legal.1); count_is = st.steps.count_is };
  numbers = record {
    channels = st.numbers.channels;
    circuits = st.numbers.circuits;
    claims = st.numbers.claims;
    bodies = st.numbers.bodies;
    dial_orders = st.numbers.dial_orders;
    tick = st.numbers.tick;
  };
  channels = record { channel = λ c. st.channels.channel c; no_channel = λ c. st.channels.no_channel c };
  circuits = record { circuit = λ c. st.circuits.circuit c; fresh = λ c. st.circuits.fresh c };
  ids = record { used = λ c. st.ids.used c };
  legs = st.legs;
  dials = record { are_out = st.dials.are_out; once = st.dials.once; never = λ order. st.dials.never order };
  counts = record { counts = λ leg. st.counts.counts leg; no_count = λ c. st.counts.no_count c };
  slots = record { slots = λ slot. st.slots.slots slot; halts = st.slots.halts; least_halt = λ n. st.slots.least_halt n };
  not_yet = record { unreached = λ c. st.not_yet.unreached c };
}

pub given_to_gone : (s : Started) (note : ClaimNote) (place : Option ℕ) (h : List Step) →
    Gone ≡ give_back_answer s.start h note None →
    SwitchStands s (GiveBack note place Gone ∷ h) → SwitchStands s (GiveBack note None Gone ∷ h)
given_to_gone s note place h gone st = record {
  state = given-state s.start s.state note place h gone st.state;
  relays = record { count_is = st.relays.count_is; relay = λ c. st.relays.relay c };
}

abandoned-state : (start : SwitchStart) (s : State) (note : ClaimNote) (place : Option ℕ) (h : List Step) →
    Gone ≡ abandon_answer start h note None →
    Stands start s (Abandon note place Gone ∷ h) → Stands start s (Abandon note None Gone ∷ h)
abandoned-state start s note place h gone st = record {
  steps = record { legal = ((tt, gone), st.steps.legal.1); count_is = st.steps.count_is };
  numbers = record {
    channels = st.numbers.channels;
    circuits = st.numbers.circuits;
    claims = st.numbers.claims;
    bodies = st.numbers.bodies;
    dial_orders = st.numbers.dial_orders;
    tick = st.numbers.tick;
  };
  channels = record { channel = λ c. st.channels.channel c; no_channel = λ c. st.channels.no_channel c };
  circuits = record { circuit = λ c. st.circuits.circuit c; fresh = λ c. st.circuits.fresh c };
  ids = record { used = λ c. st.ids.used c };
  legs = st.legs;
  dials = record { are_out = st.dials.are_out; once = st.dials.once; never = λ order. st.dials.never order };
  counts = record { counts = λ leg. st.counts.counts leg; no_count = λ c. st.counts.no_count c };
  slots = record { slots = λ slot. st.slots.slots slot; halts = st.slots.halts; least_halt = λ n. st.slots.least_halt n };
  not_yet = record { unreached = λ c. st.not_yet.unreached c };
}

pub abandoned_to_gone : (s : Started) (note : ClaimNote) (place : Option ℕ) (h : List Step) →
    Gone ≡ abandon_answer s.start h note None →
    SwitchStands s (Abandon note place Gone ∷ h) → SwitchStands s (Abandon note None Gone ∷ h)
abandoned_to_gone s note place h gone st = record {
  state = abandoned-state s.start s.state note place h gone st.state;
  relays = record { count_is = st.relays.count_is; relay = λ c. st.relays.relay c };
}
