-- What moves the counts of packaged DATA, and the grants.
use Rattle.std.proofs.Common.{◌≡◌, ℕ, ◌+◌, ◌==◌, List, ◌∷◌, Bool, true, false, if◌then◌else◌, Option, Some, None, refl, ◌∙◌, arith}
use Rattle.tor_spec.specs.RelayCell.{sendme_command, data_command}
use Rattle.tor_spec.specs.Extend.{Extend, handshake_reply}
use Rattle.circuit_model.specs.Events.{Event}
use Rattle.circuit_model.specs.declared.event.Event.TheVariants.{Born, Forward, Backward, Connected, Data, Ended, Drained, Freed, Linked, Answered, Failed}
use Rattle.circuit_model.specs.Rules.{Rules}
use Rattle.circuit_model.specs.Log.{Log, Message, Effects, no_effects, closing, newest, is_closed}
use Rattle.circuit_model.specs.declared.next_hop.NextHop.{NextHop}
use Rattle.circuit_model.specs.declared.next_hop.NextHop.TheVariants.{Absent, Dialling, Waiting, There}
use Rattle.circuit_model.specs.NextHop.{next_hop}
use Rattle.circuit_model.specs.Places.{Place, place_at}
use Rattle.circuit_model.specs.Packaged.{packaged_by}
use Rattle.circuit_model.specs.Windows.{has_command, is_data_of, is_data_body, circuit_packaged, circuit_grant, stream_packaged, stream_grant}
use Rattle.circuit_model.specs.SendmeProof.{is_right_sendme}
use Rattle.circuit_model.specs.Received.{Received, received, message_at}
use Rattle.circuit_model.specs.declared.message.Received.TheVariants.{TooManyEarly, Unrecognised, TooLong, ForUs}
use Rattle.circuit_model.specs.Extending.{accepted_request, creating}
use Rattle.circuit_model.specs.Effects.{message_effects, passed_on, forward_effects, open_effects, effects_after}
use Rattle.circuit_model.specs.Words.{log}
use Rattle.circuit_model.specs.Events.{CircuitCell}
use Rattle.circuit_model.proofs.Reading.{read-effects}
use Rattle.circuit_model.proofs.Tame.{message-tame, connected-tame, ended-tame, drained-tame, extending-tame, command-package_of}

passed_on-no_data : (hop : NextHop) (cell : CircuitCell) → is_data_body (passed_on hop cell).back ≡ false
passed_on-no_data There cell = refl
passed_on-no_data Absent cell = refl
passed_on-no_data Dialling cell = refl
passed_on-no_data Waiting cell = refl

received-no_data : (rules : Rules) (l : Log) (command : ℕ) (r : Received)
    → is_data_body (forward_effects rules l command r).back ≡ false
received-no_data rules l command TooManyEarly = refl
received-no_data rules l command (Unrecognised plain) = passed_on-no_data (next_hop l) _
received-no_data rules l command TooLong = refl
received-no_data rules l command (ForUs message) = (message-tame rules l message).no_data

closed-no_data : (closed : Bool) (x : Effects) → is_data_body x.back ≡ false
    → is_data_body (if closed then no_effects else x).back ≡ false
closed-no_data true x none = refl
closed-no_data false x none = none

linked-no_data : (request : Option Extend) → is_data_body (creating request).back ≡ false
linked-no_data None = refl
linked-no_data (Some request) = refl

same-number : (n : ℕ) → (n == n) ≡ true
same-number n = grind arith

not-both : (a b : Bool) → a ≡ true → a ≡ false → b ≡ false
not-both true b one other = cc
not-both false b one other = cc

-- What an event that isn't bytes of the edge has packaged is no DATA.
packaged-no_data : (rules : Rules) (l : Log) (e : Event) → ((serial : ℕ) → is_data_of serial e ≡ false)
    → is_data_body (packaged_by e (effects_after rules l e).back) ≡ false
unfolding open_effects
packaged-no_data rules l (Born reply keys pad) other = closed-no_data (is_closed l) no_effects refl
packaged-no_data rules l (Forward command body) other =
    closed-no_data (is_closed l) _ (received-no_data rules l command (received l command body))
packaged-no_data rules l (Backward body) other = refl
packaged-no_data rules l (Connected serial) other = closed-no_data (is_closed l) _ (connected-tame l (place_at l serial)).no_data
packaged-no_data rules l (Data serial bytes) other = not-both (serial == serial) _ (same-number serial) (other serial)
packaged-no_data rules l (Ended serial reason) other =
    closed-no_data (is_closed l) _ (ended-tame l reason (place_at l serial)).no_data
packaged-no_data rules l (Drained serial) other = closed-no_data (is_closed l) _ (drained-tame l (place_at l serial)).no_data
packaged-no_data rules l (Freed serial) other = closed-no_data (is_closed l) no_effects refl
packaged-no_data rules l Linked other = closed-no_data (is_closed l) _ (linked-no_data (newest accepted_request l))
packaged-no_data rules l (Answered payload) other =
    closed-no_data (is_closed l) _ (extending-tame l (handshake_reply payload)).no_data
packaged-no_data rules l Failed other = closed-no_data (is_closed l) (closing 6) refl

pub other_events_pack_no_data : (rules : Rules) (h : List Event) (e : Event) → ((serial : ℕ) → is_data_of serial e ≡ false)
    → circuit_packaged (log rules (e ∷ h)) ≡ circuit_packaged (log rules h)
other_events_pack_no_data rules h e other = rw (packaged-no_data rules (log rules h) e other)

pub stream_counts_its_data : (rules : Rules) (h : List Event) (serial : ℕ) (bytes : List ℕ)
    → stream_packaged (log rules (Data serial bytes ∷ h)) serial ≡ stream_packaged (log rules h) serial + 1
stream_counts_its_data rules h serial bytes = rw (same-number serial)

pub other_events_leave_stream : (rules : Rules) (h : List Event) (e : Event) (serial : ℕ) → is_data_of serial e ≡ false
    → stream_packaged (log rules (e ∷ h)) serial ≡ stream_packaged (log rules h) serial
other_events_leave_stream rules h e serial other = rw other

pub circuit_grant_stays : (rules : Rules) (h : List Event) (e : Event)
    → has_command sendme_command (message_at (log rules h) e) ≡ false
    → circuit_grant rules (log rules (e ∷ h)) ≡ circuit_grant rules (log rules h)
circuit_grant_stays rules h e none = rw none

pub stream_grant_stays : (rules : Rules) (h : List Event) (e : Event) (serial : ℕ)
    → has_command sendme_command (message_at (log rules h) e) ≡ false
    → stream_grant (log rules (e ∷ h)) serial ≡ stream_grant (log rules h) serial
stream_grant_stays rules h e serial none = rw none

pub data_moves_window : (rules : Rules) (h : List Event) (serial : ℕ) (bytes : List ℕ) (place : Place)
    → is_closed (log rules h) ≡ false → place_at (log rules h) serial ≡ Some place
    → circuit_packaged (log rules (Data serial bytes ∷ h)) ≡ circuit_packaged (log rules h) + 1
unfolding open_effects
data_moves_window rules h serial bytes place live found =
    rw (live, found, command-package_of (log rules h) data_command place.key.stream bytes)

does-right : (rules : Rules) (l : Log) (m : Message) → m.command ≡ sendme_command → m.stream ≡ 0
    → is_right_sendme rules l m.payload ≡ true → message_effects rules l m ≡ no_effects
unfolding message_effects
does-right rules l m command stream right = rw (command, stream, right)

pub right_sendme_grants : (rules : Rules) (h : List Event) (e : Event) (m : Message) → message_at (log rules h) e ≡ Some m
    → m.command ≡ sendme_command → m.stream ≡ 0 → is_right_sendme rules (log rules h) m.payload ≡ true
    → circuit_grant rules (log rules (e ∷ h)) ≡ circuit_grant rules (log rules h) + 100
right_sendme_grants rules h e m found command stream right =
    let does : effects_after rules (log rules h) e ≡ no_effects =
    read-effects rules (log rules h) e m found ∙ does-right rules (log rules h) m command stream right in
    rw (found, does, command, stream) (omega arith)
