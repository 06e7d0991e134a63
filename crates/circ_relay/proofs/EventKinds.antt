-- Which events package DATA, and what they bring otherwise.
use Rattle.std.proofs.Common.{◌≡◌, ℕ, ◌==◌, ◌&&◌, List, Bool, true, false, Option, Some, None, if◌then◌else◌, refl, sym, subst, arith}
use Rattle.std.proofs.lemmas.Bool.Decides.{nat_tests}
use Rattle.tor_spec.specs.Extend.{Extend, handshake_reply}
use Rattle.circuit_model.specs.Events.{Event, CircuitCell}
use Rattle.circuit_model.specs.declared.event.Event.TheVariants.{Born, Forward, Backward, Connected, Data, Ended, Drained, Freed, Linked, Answered, Failed}
use Rattle.circuit_model.specs.Rules.{Rules}
use Rattle.circuit_model.specs.Log.{Log, Message, Effects, no_effects, closing, newest, is_closed}
use Rattle.circuit_model.specs.Opened.{keys_in}
use Rattle.circuit_model.specs.Packaged.{packaged_by}
use Rattle.circuit_model.specs.Windows.{is_data_body, packs_data, has_command, is_data_of}
use Rattle.circuit_model.specs.Received.{Received, received, message_in, message_at}
use Rattle.circuit_model.specs.declared.message.Received.TheVariants.{TooManyEarly, Unrecognised, TooLong, ForUs}
use Rattle.circuit_model.specs.declared.next_hop.NextHop.{NextHop}
use Rattle.circuit_model.specs.declared.next_hop.NextHop.TheVariants.{There}
use Rattle.circuit_model.specs.NextHop.{next_hop}
use Rattle.circuit_model.specs.Places.{place_at}
use Rattle.circuit_model.specs.Extending.{accepted_request, creating}
use Rattle.circuit_model.specs.Effects.{passed_on, forward_effects, open_effects, effects_after}
use Rattle.circuit_model.specs.Words.{entry_after}
use Rattle.circuit_model.proofs.Reading.{read-effects}
use Rattle.circuit_model.proofs.Tame.{message-tame, connected-tame, ended-tame, drained-tame, extending-tame}
use Rattle.circ_relay.proofs.Bools.{not_both}

-- Only the event Born has keys.

message_in_no_keys : (log : Log) (e : Event) (m : Message) → message_in log e ≡ Some m → keys_in e ≡ None
message_in_no_keys log (Born reply keys pad) m found = cc
message_in_no_keys log e m found = refl

message_no_keys_by : (log : Log) (e : Event) (m : Message) (closed : Bool) → (if closed then None else message_in log e) ≡ Some m
    → keys_in e ≡ None
message_no_keys_by log e m true found = cc
message_no_keys_by log e m false found = message_in_no_keys log e m found

pub message_no_keys : (log : Log) (e : Event) (m : Message) → message_at log e ≡ Some m → keys_in e ≡ None
message_no_keys log e m found = message_no_keys_by log e m (is_closed log) found

nothing_in_either : (closed : Bool) → is_data_body (if closed then no_effects else no_effects).back ≡ false
nothing_in_either true = refl
nothing_in_either false = refl

pub data_no_keys : (rules : Rules) (log : Log) (e : Event) → packs_data (entry_after rules log e) ≡ true → keys_in e ≡ None
unfolding open_effects
data_no_keys rules log (Born reply keys pad) packs =
    not_both (is_data_body (if is_closed log then no_effects else no_effects).back) packs (nothing_in_either (is_closed log))
data_no_keys rules log e packs = refl

-- An event that brings a message packages no DATA.

pub no_data_by : (e : Event) (back : Option (List ℕ)) → is_data_body back ≡ false → is_data_body (packaged_by e back) ≡ false
no_data_by (Backward body) back none = refl
no_data_by e back none = none

pub message_no_data : (rules : Rules) (log : Log) (e : Event) (m : Message) → message_at log e ≡ Some m
    → packs_data (entry_after rules log e) ≡ false
message_no_data rules log e m found =
    no_data_by e (effects_after rules log e).back
    (subst (λ (x : Effects). is_data_body x.back ≡ false) (sym (read-effects rules log e m found))
    (message-tame rules log m).no_data)

none_by : (o : Option Message) (b : Bool) → ((m : Message) → o ≡ Some m → b ≡ false) → b ≡ true → o ≡ None
none_by None b other is = refl
none_by (Some m) b other is = not_both b is (other m refl)

pub data_no_message : (rules : Rules) (log : Log) (e : Event) → packs_data (entry_after rules log e) ≡ true
    → message_at log e ≡ None
data_no_message rules log e packs =
    none_by (message_at log e) (packs_data (entry_after rules log e)) (message_no_data rules log e) packs

-- A message by its command.

pub record HasMessage (brought : Option Message) (command : ℕ) : Type 0 where
  pub message : Message
  pub found : brought ≡ Some message
  pub by_command : message.command ≡ command

pub message_of_command : (command : ℕ) (brought : Option Message) (more : Bool) → (has_command command brought && more) ≡ true
    → HasMessage brought command
message_of_command command None more is = not_both false is refl
message_of_command command (Some m) more is = record { message = m; found = refl; by_command = grind (arith, nat_tests) }

-- Only bytes of the edge are packaged as DATA.

same_number : (n : ℕ) → (n == n) ≡ true
same_number n = grind (arith, nat_tests)

pub open_or_closed : (closed : Bool) (x : Effects) → is_data_body x.back ≡ false
    → is_data_body (if closed then no_effects else x).back ≡ false
open_or_closed true x none = refl
open_or_closed false x none = none

passed_no_data : (hop : NextHop) (cell : CircuitCell) → is_data_body (passed_on hop cell).back ≡ false
passed_no_data There cell = refl
passed_no_data hop cell = refl

received_no_data : (rules : Rules) (log : Log) (command : ℕ) (r : Received)
    → is_data_body (forward_effects rules log command r).back ≡ false
received_no_data rules log command TooManyEarly = refl
received_no_data rules log command (Unrecognised plain) = passed_no_data (next_hop log) _
received_no_data rules log command TooLong = refl
received_no_data rules log command (ForUs message) = (message-tame rules log message).no_data

linked_no_data : (request : Option Extend) → is_data_body (creating request).back ≡ false
linked_no_data None = refl
linked_no_data (Some request) = refl

pub only_data_packs_data : (rules : Rules) (log : Log) (e : Event) → ((serial : ℕ) → is_data_of serial e ≡ false)
    → packs_data (entry_after rules log e) ≡ false
unfolding open_effects
only_data_packs_data rules log (Born reply keys pad) other = open_or_closed (is_closed log) no_effects refl
only_data_packs_data rules log (Forward command body) other =
    open_or_closed (is_closed log) _ (received_no_data rules log command (received log command body))
only_data_packs_data rules log (Backward body) other = refl
only_data_packs_data rules log (Connected serial) other =
    open_or_closed (is_closed log) _ (connected-tame log (place_at log serial)).no_data
only_data_packs_data rules log (Data serial bytes) other = not_both (serial == serial) (same_number serial) (other serial)
only_data_packs_data rules log (Ended serial reason) other =
    open_or_closed (is_closed log) _ (ended-tame log reason (place_at log serial)).no_data
only_data_packs_data rules log (Drained serial) other =
    open_or_closed (is_closed log) _ (drained-tame log (place_at log serial)).no_data
only_data_packs_data rules log (Freed serial) other = open_or_closed (is_closed log) no_effects refl
only_data_packs_data rules log Linked other = open_or_closed (is_closed log) _ (linked_no_data (newest accepted_request log))
only_data_packs_data rules log (Answered payload) other =
    open_or_closed (is_closed log) _ (extending-tame log (handshake_reply payload)).no_data
only_data_packs_data rules log Failed other = open_or_closed (is_closed log) (closing 6) refl
