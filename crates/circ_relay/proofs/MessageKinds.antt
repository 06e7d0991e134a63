-- Relay messages for a circuit, by their relay command.
use Rattle.std.proofs.Common.{not, if◌then◌else◌, ◌≡◌, ℕ, ◌==◌, ◌&&◌, List, Bool, true, false, Option, Some, None, refl, sym, ap, ◌∙◌, option_and_then}
use Rattle.tor_spec.specs.RelayCell.{begin_command, data_command, end_command, sendme_command, truncate_command, drop_command, resolve_command, begin_dir_command, extend2_command, relay_body, resolved_command}
use Rattle.circuit_model.specs.Places.{live_place}
use Rattle.stream_edge.specs.PlacesState.{PlacesState}
use Rattle.circuit_model.specs.declared.event.Event.TheVariants.{Forward}
use Rattle.circuit_model.specs.Rules.{Rules, resolved_address}
use Rattle.circuit_model.specs.Log.{Log, Message, Effects, no_effects}
use Rattle.circuit_model.specs.Packaged.{finished}
use Rattle.circuit_model.specs.Received.{message_at}
use Rattle.circuit_model.specs.Extending.{extend_effects, truncate_effects}
use Rattle.tor_spec.specs.Extend.{Address}
use Rattle.circuit_model.specs.Effects.{message_effects, effects_after}
use Rattle.circ_relay.specs.declared.circuit.Circuit.{Circuit}
use Rattle.circ_relay.specs.Packaging.{PackagerState, Packages}
use Rattle.circ_relay.specs.BroughtMessages.{after_cell, IsBrought}
use Rattle.circ_relay.specs.CircuitOfLog.{HasParts}
use Rattle.circ_relay.specs.PlacesOfLog.{ArePlaces}
use Rattle.circ_relay.specs.WindowOfLog.{window_of}
use Rattle.circ_relay.proofs.WindowByEvent.{other_message_leaves}
use Rattle.circ_relay.proofs.Changing.{apart_by}
use Rattle.circ_relay.proofs.Others.{ordinary_leaves_places, placeless_leaves_places}
use Rattle.tor_spec.specs.Resolve.{resolve_host}
use Rattle.circuit_model.specs.Streams.{resolved_value, ending, begin_effects, data_effects, end_effects, sendme_effects, resolve_effects}
use Rattle.circ_relay.specs.declared.message.Message.{Message as CodeMessage}
use Rattle.circ_relay.proofs.Naming.{message_place}
use Rattle.circ_relay.proofs.AfterCells.{message_of_cell, effects_of_cell, cell_parts}
use Rattle.circ_relay.proofs.Longer.{none_packaged, same_streams, stands_still}

-- What a message that is brought does.

pub found : (message : CodeMessage) (log : Log) (command : ℕ) (body : List ℕ) (m : Message)
    → IsBrought message log command body m → message_at log (Forward command body) ≡ Some m
found message log command body m b = message_of_cell log command body m b.unclosed b.received

pub does : (message : CodeMessage) (rules : Rules) (log : Log) (command : ℕ) (body : List ℕ) (m : Message)
    → IsBrought message log command body m
    → effects_after rules log (Forward command body) ≡ message_effects rules log m
does message rules log command body m b = effects_of_cell rules log command body m b.unclosed b.received

-- Its place, by what the circuit keeps.
pub brought_place : (message : CodeMessage) (log : Log) (command : ℕ) (body : List ℕ) (m : Message) (place : Option ℕ)
    → IsBrought message log command body m
    → live_place log message.stream ≡ place → m.place ≡ place
brought_place message log command body m place b is =
    message_place log (Forward command body) m (found message log command body m b) ∙ ap (λ n. live_place log n) (sym b.stream)
    ∙ is

-- The effects by the relay command.

pub of_begin : (rules : Rules) (log : Log) (m : Message) → m.command ≡ begin_command
    → message_effects rules log m ≡ begin_effects rules log m
unfolding message_effects
of_begin rules log m is = rw is refl

pub of_data : (rules : Rules) (log : Log) (m : Message) → m.command ≡ data_command
    → message_effects rules log m ≡ data_effects log m
unfolding message_effects
of_data rules log m is = rw is refl

pub of_end : (rules : Rules) (log : Log) (m : Message) → m.command ≡ end_command → message_effects rules log m ≡ end_effects m
unfolding message_effects
of_end rules log m is = rw is refl

pub of_sendme : (rules : Rules) (log : Log) (m : Message) → m.command ≡ sendme_command
    → message_effects rules log m ≡ sendme_effects rules log m
unfolding message_effects
of_sendme rules log m is = rw is refl

pub of_truncate : (rules : Rules) (log : Log) (m : Message) → m.command ≡ truncate_command
    → message_effects rules log m ≡ truncate_effects log
unfolding message_effects
of_truncate rules log m is = rw is refl

pub of_resolve : (rules : Rules) (log : Log) (m : Message) → m.command ≡ resolve_command
    → message_effects rules log m ≡ resolve_effects rules log m
unfolding message_effects
of_resolve rules log m is = rw is refl

pub of_begin_dir : (rules : Rules) (log : Log) (m : Message) → m.command ≡ begin_dir_command
    → message_effects rules log m ≡ ending log m.stream 14
unfolding message_effects
of_begin_dir rules log m is = rw is refl

pub of_extend2 : (rules : Rules) (log : Log) (m : Message) → m.command ≡ extend2_command
    → message_effects rules log m ≡ extend_effects log m
unfolding message_effects
of_extend2 rules log m is = rw is refl

-- Another relay command.
pub record IsOther (n : ℕ) : Type 0 where
  pub begin : (n == begin_command) ≡ false
  pub data_ : (n == data_command) ≡ false
  pub end : (n == end_command) ≡ false
  pub sendme : (n == sendme_command) ≡ false

pub other_command : (n m : ℕ) → n ≡ m → (m == begin_command) ≡ false → (m == data_command) ≡ false → (m == end_command) ≡ false
    → (m == sendme_command) ≡ false → IsOther n
other_command n m is begin data_ end sendme = record {
  begin = ap (λ k. k == begin_command) is ∙ begin;
  data_ = ap (λ k. k == data_command) is ∙ data_;
  end = ap (λ k. k == end_command) is ∙ end;
  sendme = ap (λ k. k == sendme_command) is ∙ sendme;
}

and_false : (a b : Bool) → a ≡ false → (a && b) ≡ false
and_false true b is = cc
and_false false b is = refl

pub other_window : (message : CodeMessage) (rules : Rules) (log : Log) (command : ℕ) (body : List ℕ) (m : Message)
    → IsBrought message log command body m
    → (m.command == data_command) ≡ false → (m.command == sendme_command) ≡ false
    → window_of (after_cell rules log command body) ≡ window_of log
other_window message rules log command body m b data_ sendme =
    other_message_leaves rules log (Forward command body) m (found message log command body m b) data_
    (and_false (m.command == sendme_command) (m.stream == 0) sendme)

pub other_places : (s : PlacesState) (message : CodeMessage) (rules : Rules) (log : Log) (command : ℕ) (body : List ℕ)
    (m : Message)
    → IsBrought message log command body m
    → IsOther m.command → ArePlaces s log → ArePlaces s (after_cell rules log command body)
other_places s message rules log command body m b other are =
    ordinary_leaves_places s rules log (Forward command body) m are (found message log command body m b)
    (apart_by m.command begin_command other.begin) (apart_by m.command data_command other.data_)
    (apart_by m.command end_command other.end) (apart_by m.command sendme_command other.sendme)

-- A body is packaged, and nothing else is done.
pub packaged_parts : (c : Circuit) (new : PackagerState) (message : CodeMessage) (rules : Rules) (log : Log) (command : ℕ)
    (body : List ℕ) (m : Message) (packed : List ℕ)
    → IsBrought message log command body m → HasParts c log
    → message_effects rules log m ≡ record no_effects { back = Some (finished log packed) }
    → Packages c.packager new packed → window_of (after_cell rules log command body) ≡ window_of log
    → ArePlaces c.places (after_cell rules log command body)
    → HasParts (record c { packager = new }) (after_cell rules log command body)
packaged_parts c new message rules log command body m packed b has given packages window are =
    cell_parts c (record c { packager = new }) rules log command body (record no_effects { back = Some (finished log packed) })
    has
    (does message rules log command body m b ∙ given) refl refl refl refl refl refl
    (packages log has.packager)
    (stands_still c.windows log (after_cell rules log command body) has.windows window) are (same_streams c.places)

-- The same for a message of another command.
pub other_packaged_parts : (c : Circuit) (new : PackagerState) (message : CodeMessage) (rules : Rules) (log : Log) (command : ℕ)
    (body : List ℕ) (m : Message) (packed : List ℕ)
    → IsBrought message log command body m → HasParts c log
    → message_effects rules log m ≡ record no_effects { back = Some (finished log packed) }
    → Packages c.packager new packed → IsOther m.command
    → HasParts (record c { packager = new }) (after_cell rules log command body)
other_packaged_parts c new message rules log command body m packed b has given packages other =
    packaged_parts c new message rules log command body m packed b has given packages
    (other_window message rules log command body m b other.data_ other.sendme)
    (other_places c.places message rules log command body m b other has.places)

-- Nothing is done.
pub unmoved_parts : (c : Circuit) (message : CodeMessage) (rules : Rules) (log : Log) (command : ℕ) (body : List ℕ) (m : Message)
    → IsBrought message log command body m → HasParts c log → message_effects rules log m ≡ no_effects
    → window_of (after_cell rules log command body) ≡ window_of log → ArePlaces c.places (after_cell rules log command body)
    → HasParts c (after_cell rules log command body)
unmoved_parts c message rules log command body m b has given window are =
    cell_parts c c rules log command body no_effects has
    (does message rules log command body m b ∙ given) refl refl refl refl refl refl
    (none_packaged c.packager log has.packager)
    (stands_still c.windows log (after_cell rules log command body) has.windows window) are (same_streams c.places)

-- A message for no live stream.

pub placeless_places : (s : PlacesState) (message : CodeMessage) (rules : Rules) (log : Log) (command : ℕ) (body : List ℕ)
    (m : Message)
    → IsBrought message log command body m
    → (m.command == begin_command) ≡ false → m.place ≡ None → ArePlaces s log → ArePlaces s (after_cell rules log command body)
placeless_places s message rules log command body m b other none are =
    placeless_leaves_places s rules log (Forward command body) m are (found message log command body m b)
    (apart_by m.command begin_command other) none

-- RESOLVE.

pub resolve_does : (rules : Rules) (log : Log) (m : Message) (stream : ℕ) (payload packed : List ℕ) (to : Option Address)
    → packed ≡ relay_body resolved_command stream (resolved_value to)
    → to ≡ option_and_then (resolved_address rules) (resolve_host payload) → stream ≡ m.stream → payload ≡ m.payload
    → resolve_effects rules log m ≡ record no_effects { back = Some (finished log packed) }
resolve_does rules log m stream payload packed to made found streamed paid = rw (made, found, streamed, paid) refl

-- Other commands.

pub record IsUnknown (n : ℕ) : Type 0 where
  pub other : IsOther n
  pub truncate : (n == truncate_command) ≡ false
  pub resolve : (n == resolve_command) ≡ false
  pub begin_dir : (n == begin_dir_command) ≡ false
  pub extend2 : (n == extend2_command) ≡ false

drop_or : (b : Bool) (x : Effects) → x ≡ no_effects → (if b then no_effects else x) ≡ no_effects
drop_or true x is = refl
drop_or false x is = is

pub unknown_does : (rules : Rules) (log : Log) (m : Message) → IsUnknown m.command → message_effects rules log m ≡ no_effects
unfolding message_effects
unknown_does rules log m unknown =
    rw (
      unknown.other.begin,
      unknown.other.data_,
      unknown.other.end,
      unknown.other.sendme,
      unknown.truncate,
      unknown.resolve,
      unknown.begin_dir,
      unknown.extend2,
    )
    (drop_or (m.command == drop_command) no_effects refl)

pub unknown_parts : (c : Circuit) (message : CodeMessage) (rules : Rules) (log : Log) (command : ℕ) (body : List ℕ) (m : Message)
    → IsBrought message log command body m → HasParts c log → IsUnknown m.command → HasParts c (after_cell rules log command body)
unknown_parts c message rules log command body m b has unknown =
    unmoved_parts c message rules log command body m b has (unknown_does rules log m unknown)
    (other_window message rules log command body m b unknown.other.data_ unknown.other.sendme)
    (other_places c.places message rules log command body m b unknown.other has.places)

-- Tests.

pub unnot : (b : Bool) → not b ≡ false → b ≡ true
unnot true is = refl
unnot false is = cc

pub not-true : (b : Bool) → not b ≡ true → b ≡ false
not-true false is = refl
not-true true is = cc
