-- What each kind of event makes of the window.
use Rattle.std.proofs.Common.{◌≡◌, ℕ, ◌==◌, ◌&&◌, [], ◌∷◌, ◌++◌, List, Bool, true, false, Option, Some, None, if◌then◌else◌, refl, ap, ◌∙◌, is_none}
use Rattle.tor_spec.specs.RelayCell.{sendme_command, data_command}
use Rattle.tor_spec.specs.CircuitWindow.{CircuitWindow, after_packaging, after_acknowledging, after_accepting}
use Rattle.sendme_windows.specs.Answers.{answer_to, window_after}
use Rattle.sendme_windows.specs.declared.proof_answer.ProofAnswer.{ProofAnswer}
use Rattle.sendme_windows.specs.declared.proof_answer.ProofAnswer.TheVariants.{Good, Wrong, NoneOwed, BadForm}
use Rattle.circuit_model.specs.Events.{Event}
use Rattle.circuit_model.specs.declared.event.Event.TheVariants.{Forward, Data}
use Rattle.circuit_model.specs.Rules.{Rules}
use Rattle.circuit_model.specs.Log.{Log, Message, Effects, no_effects, closing, is_closed}
use Rattle.circuit_model.specs.Opened.{keys_in, is_forward}
use Rattle.circuit_model.specs.Places.{Place, place_at}
use Rattle.circuit_model.specs.Packaged.{own_bodies, back_digest, package_of}
use Rattle.circuit_model.specs.Windows.{is_data_body, is_data_of, packs_data, is_accepted, has_command, has_stream}
use Rattle.circuit_model.specs.SendmeProof.{is_right_sendme}
use Rattle.circuit_model.specs.Received.{message_in, message_at}
use Rattle.circuit_model.specs.Streams.{edge_data_effects}
use Rattle.circuit_model.specs.Effects.{message_effects, open_effects, effects_after}
use Rattle.circuit_model.specs.Words.{entry_after}
use Rattle.circuit_model.proofs.Reading.{read-effects}
use Rattle.circuit_model.proofs.Tame.{command-package_of}
use Rattle.circ_relay.specs.WindowOfLog.{window_of, is_good}
use Rattle.circ_relay.proofs.EventKinds.{message_no_keys, message_no_data, only_data_packs_data, no_data_by, open_or_closed}
use Rattle.circ_relay.proofs.WindowMoves.{packaging_moves, sendme_moves, data_moves, others_leave, is_good_sendme, no_message_accepted, no_message_good}
use Rattle.circ_relay.proofs.ProofOwed.{right_by_answer}

-- Bytes of the edge.

data_packs : (rules : Rules) (log : Log) (serial : ℕ) (bytes : List ℕ) (place : Place) → is_closed log ≡ false
    → place_at log serial ≡ Some place
    → (effects_after rules log (Data serial bytes)).back ≡ Some (package_of log data_command place.key.stream bytes)
unfolding open_effects
data_packs rules log serial bytes place live found = rw (live, found) refl

pub edge_data_moves : (rules : Rules) (log : Log) (serial : ℕ) (bytes : List ℕ) (place : Place) → is_closed log ≡ false
    → place_at log serial ≡ Some place
    → window_of (entry_after rules log (Data serial bytes) ∷ log)
    ≡ after_packaging (window_of log)
    (back_digest log (own_bodies log ++ package_of log data_command place.key.stream bytes ∷ []))
edge_data_moves rules log serial bytes place live found =
    packaging_moves rules log (Data serial bytes) (package_of log data_command place.key.stream bytes)
    (data_packs rules log serial bytes place live found)
    (rw (command-package_of log data_command place.key.stream bytes) refl)

no_message_by : (closed : Bool) → ◌≡◌ {A = Option Message} (if closed then None else None) None
no_message_by true = refl
no_message_by false = refl

silent_leaves : (rules : Rules) (log : Log) (event : Event) → keys_in event ≡ None → message_at log event ≡ None
    → packs_data (entry_after rules log event) ≡ false
    → window_of (entry_after rules log event ∷ log) ≡ window_of log
silent_leaves rules log event opened none packs =
    others_leave rules log event opened packs
    (no_message_good (entry_after rules log event) none) (no_message_accepted data_command (entry_after rules log event) none)

no_place_no_data : (log : Log) (bytes : List ℕ) (place : Option Place) → place ≡ None
    → is_data_body (edge_data_effects log bytes place).back ≡ false
no_place_no_data log bytes place none = rw none refl

pub placeless_data_leaves : (rules : Rules) (log : Log) (serial : ℕ) (bytes : List ℕ) → place_at log serial ≡ None
    → window_of (entry_after rules log (Data serial bytes) ∷ log) ≡ window_of log
unfolding open_effects
placeless_data_leaves rules log serial bytes none =
    silent_leaves rules log (Data serial bytes) refl (no_message_by (is_closed log))
    (open_or_closed (is_closed log) (edge_data_effects log bytes (place_at log serial))
    (no_place_no_data log bytes (place_at log serial) none))

-- A circuit that has closed.

closed_no_data : (closed : Bool) (effects : Effects) → closed ≡ true
    → is_data_body (if closed then no_effects else effects).back ≡ false
closed_no_data closed effects is = rw is refl

closed_no_message : (closed : Bool) (brought : Option Message) → closed ≡ true → (if closed then None else brought) ≡ None
closed_no_message closed brought is = rw is refl

pub closed_leaves : (rules : Rules) (log : Log) (event : Event) → keys_in event ≡ None → is_closed log ≡ true
    → window_of (entry_after rules log event ∷ log) ≡ window_of log
closed_leaves rules log event opened closed =
    silent_leaves rules log event opened (closed_no_message (is_closed log) (message_in log event) closed)
    (no_data_by event (effects_after rules log event).back (closed_no_data (is_closed log) (open_effects rules log event) closed))

-- The circuit's SENDME.

sendme_does : (rules : Rules) (log : Log) (m : Message) → m.command ≡ sendme_command → m.stream ≡ 0
    → message_effects rules log m ≡ (if is_right_sendme rules log m.payload then no_effects else closing 1)
unfolding message_effects
sendme_does rules log m command stream = rw (command, stream) refl

good_by_effects : (brought : Option Message) (effects : Effects) (m : Message) (right : Bool) → brought ≡ Some m
    → m.command ≡ sendme_command → m.stream ≡ 0
    → effects ≡ (if right then no_effects else closing 1)
    → ((has_command sendme_command brought && is_none effects.close) && has_stream 0 brought) ≡ right
good_by_effects brought effects m true found command stream does = rw (found, does, command, stream) refl
good_by_effects brought effects m false found command stream does = rw (found, does, command) refl

sendme_is_no_data : (brought : Option Message) (close : Option ℕ) (m : Message) → brought ≡ Some m → m.command ≡ sendme_command
    → (has_command data_command brought && is_none close) ≡ false
sendme_is_no_data brought close m found command = rw (found, command) refl

sendme_by : (rules : Rules) (log : Log) (event : Event) (m : Message) (right : Bool) → message_at log event ≡ Some m
    → is_good_sendme (entry_after rules log event) ≡ right
    → is_accepted data_command (entry_after rules log event) ≡ false
    → window_of (entry_after rules log event ∷ log) ≡ (if right then after_acknowledging (window_of log) else window_of log)
sendme_by rules log event m true found is other = sendme_moves rules log event is
sendme_by rules log event m false found is other =
    others_leave rules log event (message_no_keys log event m found) (message_no_data rules log event m found) is other

answered : (answer : ProofAnswer) (w : CircuitWindow)
    → (if is_good answer then after_acknowledging w else w) ≡ window_after answer w
answered Good w = refl
answered (Wrong expected sent_proof) w = refl
answered NoneOwed w = refl
answered BadForm w = refl

pub circuit_sendme_moves : (rules : Rules) (log : Log) (event : Event) (m : Message) → message_at log event ≡ Some m
    → m.command ≡ sendme_command → m.stream ≡ 0
    → window_of (entry_after rules log event ∷ log) ≡ window_after (answer_to rules.least (window_of log) m.payload)
    (window_of log)
circuit_sendme_moves rules log event m found command stream =
    let does : effects_after rules log event ≡ (if is_right_sendme rules log m.payload then no_effects else closing 1) =
    read-effects rules log event m found ∙ sendme_does rules log m command stream in
    sendme_by rules log event m (is_right_sendme rules log m.payload) found
    (good_by_effects (message_at log event) (effects_after rules log event) m (is_right_sendme rules log m.payload) found command
    stream does)
    (sendme_is_no_data (message_at log event) (effects_after rules log event).close m found command)
    ∙ ap (λ b. if b then after_acknowledging (window_of log) else window_of log) (right_by_answer rules log m.payload)
    ∙ answered (answer_to rules.least (window_of log) m.payload) (window_of log)

-- DATA from the client.

accepted_by : (brought : Option Message) (close : Option ℕ) (m : Message) → brought ≡ Some m → m.command ≡ data_command
    → close ≡ None
    → (has_command data_command brought && is_none close) ≡ true
accepted_by brought close m found command none = rw (found, command, none) refl

pub data_message_moves : (rules : Rules) (log : Log) (event : Event) (m : Message) → message_at log event ≡ Some m
    → m.command ≡ data_command
    → (effects_after rules log event).close ≡ None
    → window_of (entry_after rules log event ∷ log) ≡ after_accepting (window_of log)
data_message_moves rules log event m found command none =
    data_moves rules log event (accepted_by (message_at log event) (effects_after rules log event).close m found command none)

-- What closes the circuit.

closing_data_by : (log : Log) (bytes : List ℕ) (closed : Bool) (place : Option Place) (reason : ℕ)
    → (if closed then no_effects else edge_data_effects log bytes place).close ≡ Some reason
    → is_data_body (if closed then no_effects else edge_data_effects log bytes place).back ≡ false
closing_data_by log bytes true place reason closes = refl
closing_data_by log bytes false None reason closes = refl
closing_data_by log bytes false (Some place) reason closes = cc

closing_packs_no_data : (rules : Rules) (log : Log) (event : Event) (reason : ℕ)
    → (effects_after rules log event).close ≡ Some reason
    → packs_data (entry_after rules log event) ≡ false
unfolding open_effects
closing_packs_no_data rules log (Data serial bytes) reason closes =
    closing_data_by log bytes (is_closed log) (place_at log serial) reason closes
closing_packs_no_data rules log event reason closes = only_data_packs_data rules log event (λ serial. refl)

not_accepted_by : (is_command : Bool) (close : Option ℕ) (reason : ℕ) → close ≡ Some reason
    → (is_command && is_none close) ≡ false
not_accepted_by true close reason closes = rw closes refl
not_accepted_by false close reason closes = refl

not_good_by : (accepted to_circuit : Bool) → accepted ≡ false → (accepted && to_circuit) ≡ false
not_good_by accepted to_circuit other = rw other refl

pub closing_leaves : (rules : Rules) (log : Log) (event : Event) (reason : ℕ) → keys_in event ≡ None
    → (effects_after rules log event).close ≡ Some reason
    → window_of (entry_after rules log event ∷ log) ≡ window_of log
closing_leaves rules log event reason opened closes =
    let close : Option ℕ = (effects_after rules log event).close in
    others_leave rules log event opened (closing_packs_no_data rules log event reason closes)
    (not_good_by (is_accepted sendme_command (entry_after rules log event)) (has_stream 0 (message_at log event))
    (not_accepted_by (has_command sendme_command (message_at log event)) close reason closes))
    (not_accepted_by (has_command data_command (message_at log event)) close reason closes)

-- Events that bring no message.

pub quiet_event_leaves : (rules : Rules) (log : Log) (event : Event) → keys_in event ≡ None → message_at log event ≡ None
    → ((serial : ℕ) → is_data_of serial event ≡ false)
    → window_of (entry_after rules log event ∷ log) ≡ window_of log
quiet_event_leaves rules log event opened none other =
    silent_leaves rules log event opened none (only_data_packs_data rules log event other)

not_forward_no_message : (log : Log) (event : Event) → is_forward event ≡ false → message_at log event ≡ None
not_forward_no_message log (Forward command body) other = cc
not_forward_no_message log event other = no_message_by (is_closed log)

pub other_kind_leaves : (rules : Rules) (log : Log) (event : Event) → keys_in event ≡ None → is_forward event ≡ false
    → ((serial : ℕ) → is_data_of serial event ≡ false)
    → window_of (entry_after rules log event ∷ log) ≡ window_of log
other_kind_leaves rules log event opened other_than_forward other =
    quiet_event_leaves rules log event opened (not_forward_no_message log event other_than_forward) other

-- Messages that don't count.

good_of_other : (is_sendme accepted to_circuit : Bool) → (is_sendme && to_circuit) ≡ false
    → ((is_sendme && accepted) && to_circuit) ≡ false
good_of_other true true to_circuit other = other
good_of_other true false to_circuit other = refl
good_of_other false accepted to_circuit other = refl

good_of : (brought : Option Message) (close : Option ℕ) (m : Message) → brought ≡ Some m
    → ((m.command == sendme_command) && (m.stream == 0)) ≡ false
    → ((has_command sendme_command brought && is_none close) && has_stream 0 brought) ≡ false
good_of brought close m found other = rw found (good_of_other (m.command == sendme_command) (is_none close) (m.stream == 0) other)

accepted_of : (brought : Option Message) (close : Option ℕ) (m : Message) → brought ≡ Some m → (m.command == data_command) ≡ false
    → (has_command data_command brought && is_none close) ≡ false
accepted_of brought close m found other = rw (found, other) refl

pub other_message_leaves : (rules : Rules) (log : Log) (event : Event) (m : Message) → message_at log event ≡ Some m
    → (m.command == data_command) ≡ false → ((m.command == sendme_command) && (m.stream == 0)) ≡ false
    → window_of (entry_after rules log event ∷ log) ≡ window_of log
other_message_leaves rules log event m found other_data other_sendme =
    let close : Option ℕ = (effects_after rules log event).close in
    others_leave rules log event (message_no_keys log event m found) (message_no_data rules log event m found)
    (good_of (message_at log event) close m found other_sendme) (accepted_of (message_at log event) close m found other_data)
