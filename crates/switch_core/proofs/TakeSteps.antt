-- What the code's own steps make of a cell that a channel brings.
use Rattle.std.proofs.Common.{◌≡◌, ℕ, ◌+◌, ◌==◌, nat_le, Bool, true, false, if◌then◌else◌, List, [], Option, Some, None, refl, sym, ◌∙◌, ap, subst, ◌-◌, arith}
use Rattle.std.specs.Prelude.{⊤}
use Rattle.cell_codec.specs.declared.cell.Cell.{Cell}
use Rattle.circuit_model.specs.Events.{CircuitCell, Event}
use Rattle.circuit_model.specs.Rules.{Rules}
use Rattle.tor_spec.specs.Reasons.{destroy_destroyed, destroy_protocol, destroy_resource_limit}
use Rattle.tr_io.specs.declared.names.Dir.TheVariants.{Forth}
use Rattle.tr_io.specs.declared.answers.TakeAnswer.{TakeAnswer}
use Rattle.tr_io.specs.declared.answers.TakeAnswer.TheVariants.{PassedOver}
use Rattle.tr_io.specs.declared.answers.BackAnswer.{BackAnswer}
use Rattle.tr_io.specs.declared.answers.Why.{Why}
use Rattle.tr_io.specs.declared.names.CircNo.{CircNo}
use Rattle.switch_model.specs.Answers.Take.{is_destroy, is_created2}
use Rattle.switch_model.specs.Names.{circ_no}
use Rattle.switch_machine.specs.State.{ChannelState, CircuitState, State, slot_at, with_slot}
use Rattle.switch_machine.specs.Machine.{counted, leg_in, has_port}
use Rattle.switch_machine.specs.Calls.Take.{freed_lane, without_destroys, held_by, found_leg, leg_result, circuit_state}
use Rattle.switch_machine.specs.Calls.TearDown.{tear_down_result, tear_down_result_of}
use Rattle.switch_core.specs.Meaning.{TakenOut}
use Rattle.switch_core.specs.Picking.{first_leg_of}
use Rattle.switch_core.specs.Taking.{TakeCase, IsOnLeg, closed_answer, queued_answer, forth_queued_state, body_count, slot_with_body}
use Rattle.switch_core.proofs.Gone.{with-same}
use Rattle.switch_core.proofs.Takes.{has_it}
use Rattle.switch_core.proofs.LegCells.{queued_left}

closed-none : (x : Option CircuitState) (c reason : ℕ) (a : BackAnswer) → a ≡ tear_down_result_of x reason
    → ((r : ℕ) → a ≡ BackAnswer.Down r → ⊥) → PassedOver Why.NoCircuit ≡ closed_answer c reason x
closed-none None c reason a is other = refl
closed-none (Some x) c reason a is other = absurd (other reason is)

pub closed_other : (s : State) (c reason : ℕ) (a : BackAnswer) → a ≡ tear_down_result s c reason
    → ((r : ℕ) → a ≡ BackAnswer.Down r → ⊥) → PassedOver Why.NoCircuit ≡ closed_answer c reason (slot_at s.circuits c)
closed_other s c reason a is other = closed-none (slot_at s.circuits c) c reason a is other

pub ended_some : (s mid : State) (c : ℕ) (x : CircuitState) → TakenOut s mid c x
    → counted mid ≡ record (counted s) { circuits = with_slot s.circuits c None }
ended_some s mid c x out = ap counted out.left

pub ended_none : (s : State) (c : ℕ) → slot_at s.circuits c ≡ None
    → counted s ≡ record (counted s) { circuits = with_slot s.circuits c None }
ended_none s c gone =
    sym (ap {A = List (Option CircuitState)} (λ l. record (counted s) { circuits = l })
    (ap (with_slot s.circuits c) (sym gone) ∙ with-same s.circuits c))

pub ended_some_said : (s mid : State) (c : ℕ) (x : CircuitState) (circ : CircNo) → circ.0 ≡ c → TakenOut s mid c x
    → TakeAnswer.Down circ destroy_destroyed ≡ closed_answer c destroy_destroyed (slot_at s.circuits c)
ended_some_said s mid c x circ is out = rw (out.live, sym is) refl

pub ended_none_said : (s : State) (c : ℕ) → slot_at s.circuits c ≡ None
    → PassedOver Why.NoCircuit ≡ closed_answer c destroy_destroyed (slot_at s.circuits c)
ended_none_said s c gone = rw gone refl

pub kept_lane : (s : State) (chan : ℕ) (cell : Cell) (x : Option ChannelState) → ((cell.command == 4) ≡ false)
    → counted s ≡ freed_lane s chan cell x
kept_lane s chan cell (Some channel) other = rw other refl
kept_lane s chan cell None other = refl

pub no_lane_to_free : (s : State) (chan : ℕ) (cell : Cell) → slot_at s.channels chan ≡ None
    → counted s ≡ freed_lane s chan cell (slot_at s.channels chan)
no_lane_to_free s chan cell gone = rw gone refl

pub lane_freed : (s t : State) (chan : ℕ) (cell : Cell) (old new : ChannelState) → cell.command ≡ 4
    → slot_at s.channels chan ≡ Some old → new ≡ without_destroys cell.circ old
    → t ≡ record s { channels = with_slot s.channels chan (Some new) } →
    counted t ≡ freed_lane s chan cell (slot_at s.channels chan)
lane_freed s t chan cell old new is4 live freed put = rw (put, live, is4, freed) refl

pub body_count_at : (s : State) (c : ℕ) (x : Option CircuitState) → slot_at s.circuits c ≡ x
    → body_count x ≡ body_count (slot_at s.circuits c)
body_count_at s c x live = ap body_count (sym live)

pub gone_forth : (s : State) (c : ℕ) (cell : CircuitCell) → slot_at s.circuits c ≡ None
    → counted s ≡ forth_queued_state s c cell (slot_at s.circuits c)
gone_forth s c cell gone = rw gone refl

pub gone_forth_said : (s : State) (c : ℕ) → slot_at s.circuits c ≡ None
    → PassedOver Why.NoCircuit ≡ queued_answer (slot_at s.circuits c)
gone_forth_said s c gone = rw gone refl

queued-put : (s : State) (c : ℕ) (cell : CircuitCell) (old new : Option CircuitState) → slot_at s.circuits c ≡ old
    → new ≡ slot_with_body s.bodies cell old → TakeAnswer.Queued ≡ queued_answer old →
    record (counted s) { bodies = s.bodies + 1; circuits = with_slot s.circuits c new } ≡ forth_queued_state s c cell old
queued-put s c cell None new live is said = cc
queued-put s c cell (Some old) new live is said =
    ap (λ (y : Option CircuitState). record (counted s) { bodies = s.bodies + 1; circuits = with_slot s.circuits c y }) is

-- a body that waits from now on
pub queued_put : (s t : State) (c : ℕ) (cell : CircuitCell) (old new : Option CircuitState) → slot_at s.circuits c ≡ old
    → new ≡ slot_with_body s.bodies cell old → TakeAnswer.Queued ≡ queued_answer old →
    t ≡ record s { circuits = with_slot s.circuits c new }
    → record (counted t) { bodies = t.bodies + 1 } ≡ forth_queued_state s c cell (slot_at s.circuits c)
queued_put s t c cell old new live is said put =
    ap (λ (x : State). record (counted x) { bodies = x.bodies + 1 }) put ∙ queued-put s c cell old new live is said
    ∙ ap (forth_queued_state s c cell) (sym live)

passed-put : (s : State) (c : ℕ) (cell : CircuitCell) (old new : Option CircuitState) (a : TakeAnswer)
    → slot_at s.circuits c ≡ old → new ≡ slot_with_body s.bodies cell old → a ≡ queued_answer old → (a ≡ TakeAnswer.Queued → ⊥) →
    record (counted s) { circuits = with_slot s.circuits c new } ≡ forth_queued_state s c cell old
passed-put s c cell (Some old) new a live is said other = absurd (other said)
passed-put s c cell None new a live is said other =
    ap (λ (y : Option CircuitState). record (counted s) { circuits = with_slot s.circuits c y }) (is ∙ sym live)
    ∙ ap {A = List (Option CircuitState)} (λ l. record (counted s) { circuits = l }) (with-same s.circuits c)

-- a circuit that is gone
pub passed_put : (s t : State) (c : ℕ) (cell : CircuitCell) (old new : Option CircuitState) (a : TakeAnswer)
    → slot_at s.circuits c ≡ old → new ≡ slot_with_body s.bodies cell old → a ≡ queued_answer old → (a ≡ TakeAnswer.Queued → ⊥) →
    t ≡ record s { circuits = with_slot s.circuits c new } → counted t ≡ forth_queued_state s c cell (slot_at s.circuits c)
passed_put s t c cell old new a live is said other put =
    ap counted put ∙ passed-put s c cell old new a live is said other ∙ ap (forth_queued_state s c cell) (sym live)

pub queued_case : (s t : State) (c : ℕ) (cell : CircuitCell) (a : TakeAnswer)
    → TakeCase a ⊤ (a ≡ queued_answer (slot_at s.circuits c))
    → TakeCase a (t ≡ s) (t ≡ forth_queued_state s c cell (slot_at s.circuits c)) →
    TakeCase a (t ≡ s) ((rules : Rules) (ev : ℕ → List Event)
    → t ≡ circuit_state rules ev s (first_leg_of c) cell (slot_at s.circuits c) a)
queued_case s t c cell TakeAnswer.Memory said left = left
queued_case s t c cell TakeAnswer.Queued said left = λ rules ev. queued_left s t c rules ev cell TakeAnswer.Queued said left
queued_case s t c cell (PassedOver why) said left = λ rules ev. queued_left s t c rules ev cell (PassedOver why) said left
queued_case s t c cell (TakeAnswer.Down circ reason) said left =
    λ rules ev. queued_left s t c rules ev cell (TakeAnswer.Down circ reason) said left

-- the leg on which the cell came

pub is_none_by : (o : Option Why) → ((why : Why) → o ≡ Some why → ⊥) → o ≡ None
is_none_by None other = refl
is_none_by (Some why) other = absurd (other why refl)

down-of : (ended created full : Bool) (c first second third : ℕ) (circ : CircNo) (reason : ℕ) →
    (if ended then TakeAnswer.Down (circ_no c) first else if created then TakeAnswer.Down (circ_no c) second else if full
    then TakeAnswer.Down (circ_no c) third else TakeAnswer.Queued) ≡ TakeAnswer.Down circ reason → circ.0 ≡ c
down-of true created full c first second third circ reason is = cc
down-of false true full c first second third circ reason is = cc
down-of false false true c first second third circ reason is = cc
down-of false false false c first second third circ reason is = cc

abbrev pub no_rules : Rules
no_rules = record { allow = []; window = 0; least = 0 }

down-on : (x : Option CircuitState) (c : ℕ) (cell : CircuitCell) (circ : CircNo) (reason : ℕ)
    → TakeAnswer.Down circ reason ≡ leg_result no_rules [] (first_leg_of c) cell x → circ.0 ≡ c
down-on None c cell circ reason is = cc
down-on (Some x) c cell circ reason is =
    down-of (is_destroy cell.command) (is_created2 cell.command) (nat_le 1500 (held_by no_rules [] x Forth)) c destroy_destroyed
    destroy_protocol destroy_resource_limit circ reason (sym is)

pub is_on_leg : (a : TakeAnswer) (s : State) (chan id c : ℕ) (cell : CircuitCell) → found_leg s chan id ≡ Some (first_leg_of c) →
    TakeCase a ⊤ ((rules : Rules) (ev : List Event) → a ≡ leg_result rules ev (first_leg_of c) cell (slot_at s.circuits c))
    → TakeCase a ⊤ (IsOnLeg a s chan id)
is_on_leg TakeAnswer.Memory s chan id c cell found said = tt
is_on_leg TakeAnswer.Queued s chan id c cell found said = (c, has_it s chan id c found)
is_on_leg (PassedOver why) s chan id c cell found said = tt
is_on_leg (TakeAnswer.Down circ reason) s chan id c cell found said =
    subst (λ n. has_port chan id (leg_in s (first_leg_of n)) ≡ true)
    (sym (down-on (slot_at s.circuits c) c cell circ reason (said no_rules []))) (has_it s chan id c found)
