-- The parts of a circuit behind EXTEND2 and TRUNCATE.
use Rattle.std.proofs.Common.{not, if◌then◌else◌, ◌≡◌, ℕ, ◌==◌, List, [], ◌∷◌, Bool, true, false, Option, Some, None, refl, sym, ap, ◌∙◌}
use Rattle.tor_spec.specs.RelayCell.{begin_command, data_command, end_command, sendme_command, truncate_command, extend2_command, relay_body, truncated_command}
use Rattle.circuit_model.specs.declared.event.Event.TheVariants.{Forward}
use Rattle.circuit_model.specs.Rules.{Rules}
use Rattle.circuit_model.specs.Log.{Entry, Log, Message, Effects, is_closed, no_effects, newest}
use Rattle.circuit_model.specs.declared.next_hop.NextHop.TheVariants.{Absent, Dialling, Waiting, There}
use Rattle.circuit_model.specs.declared.next_hop.NextHop.{NextHop}
use Rattle.circuit_model.specs.NextHop.{next_hop, is_absent, hop_by, hop_by_effects}
use Rattle.circuit_model.specs.Places.{place_of}
use Rattle.circuit_model.specs.Received.{received, message_at}
use Rattle.circuit_model.specs.declared.message.Received.TheVariants.{ForUs}
use Rattle.circuit_model.specs.Extending.{linked_effects, extend_effects, create2, truncate_effects}
use Rattle.tor_spec.specs.Extend.{Address, Extend, extend_request, create2_payload}
use Rattle.circuit_model.specs.Effects.{effects_after}
use Rattle.circuit_model.specs.Words.{entry_after}
use Rattle.circ_relay.specs.declared.circuit.Circuit.{Circuit}
use Rattle.circ_relay.specs.Packaging.{PackagerState, Packages}
use Rattle.circ_relay.specs.BroughtMessages.{after_cell, IsBrought}
use Rattle.circ_relay.specs.CircuitOfLog.{HasParts, sends_create2}
use Rattle.circ_relay.specs.WindowOfLog.{window_of}
use Rattle.circ_relay.proofs.WindowByEvent.{other_message_leaves}
use Rattle.circ_relay.proofs.Changing.{apart_by}
use Rattle.circ_relay.proofs.Others.{ordinary_leaves_places}
use Rattle.std.specs.Option.{option_or, unwrap_or}
use Rattle.circ_relay.specs.declared.message.Message.{Message as CodeMessage}
use Rattle.circ_relay.proofs.AfterCells.{message_of_cell, effects_of_cell}
use Rattle.circ_relay.proofs.Longer.{packager_after, none_packaged, same_streams, addresses_after, stands_still}
use Rattle.circ_relay.proofs.MessageKinds.{does, of_truncate, of_extend2, IsOther, other_command, other_window, other_places}

-- EXTEND2.

pub asked_create2 : (request : Extend) (made : List ℕ) → made ≡ create2_payload request.handshake_type request.handshake
    → create2 request ≡ record { command = 10; body = made }
unfolding create2
asked_create2 request made is = ap (λ (b : List ℕ). record { command = 10; body = b }) (sym is)

extend_accepted : (log : Log) (m : Message) (request : Extend) (to : Address) → m.early ≡ true → is_absent (next_hop log) ≡ true
    → extend_request m.payload ≡ Some request → request.to ≡ Some to
    → extend_effects log m ≡ record no_effects { dial = Some to }
extend_accepted log m request to early absent asks named = rw (early, absent, asks, named) refl

dialled_hop : (rules : Rules) (log : Log) (command : ℕ) (body : List ℕ) (to : Address)
    → effects_after rules log (Forward command body) ≡ record no_effects { dial = Some to }
    → next_hop (after_cell rules log command body) ≡ Dialling
dialled_hop rules log command body to same = rw same refl

dialled_linked : (rules : Rules) (log : Log) (command : ℕ) (body : List ℕ) (m : Message) (to : Address) (request : Extend)
    (made : List ℕ)
    → effects_after rules log (Forward command body) ≡ record no_effects { dial = Some to }
    → message_at log (Forward command body) ≡ Some m → extend_request m.payload ≡ Some request
    → create2 request ≡ record { command = 10; body = made }
    → linked_effects (after_cell rules log command body) ≡ sends_create2 made
dialled_linked rules log command body m to request made same message asks makes = rw (same, message, asks, makes) refl

pub dialled_parts : (c : Circuit) (rules : Rules) (log : Log) (command : ℕ) (body : List ℕ) (m : Message) (request : Extend)
    (to : Address) (made : List ℕ)
    → HasParts c log
    → is_closed log ≡ false → received log command body ≡ ForUs m → m.command ≡ extend2_command → m.early ≡ true
    → is_absent c.next_hop ≡ true
    → extend_request m.payload ≡ Some request → request.to ≡ Some to → create2 request ≡ record { command = 10; body = made }
    → HasParts (record c { next_hop = Dialling; create2 = made }) (after_cell rules log command body)
dialled_parts c rules log command body m request to made has unclosed got is early absent asks named makes =
    let none : is_absent (next_hop log) ≡ true = ap is_absent (sym has.hop) ∙ absent in
    let given =
    effects_of_cell rules log command body m unclosed got ∙ of_extend2 rules log m is
    ∙ extend_accepted log m request to early none asks named in
    let message = message_of_cell log command body m unclosed got in
    let entry : Entry = entry_after rules log (Forward command body) in
    record {
      hop = sym (dialled_hop rules log command body to given);
      asked = λ dialling. dialled_linked rules log command body m to request made given message asks makes;
      packager =
          packager_after c.packager entry log None refl (ap (λ (e : Effects). e.back) given)
          (none_packaged c.packager log has.packager);
      windows =
          stands_still c.windows log (after_cell rules log command body) has.windows
          (other_message_leaves rules log (Forward command body) m message (rw is refl) (rw is refl));
      places =
          ordinary_leaves_places c.places rules log (Forward command body) m has.places message
          (apart_by m.command begin_command (ap (λ k. k == begin_command) is))
          (apart_by m.command data_command (ap (λ k. k == data_command) is))
          (apart_by m.command end_command (ap (λ k. k == end_command) is))
          (apart_by m.command sendme_command (ap (λ k. k == sendme_command) is));
      addresses =
          addresses_after c.addresses c.places c.places entry log (same_streams c.places)
          (ap (λ (e : Effects). place_of e.edge) given) has.addresses;
    }

-- TRUNCATE.

cut_hop : (hop : NextHop) (cut : Bool) → cut ≡ not (is_absent hop)
    → unwrap_or (option_or (if cut then Some Absent else None) (Some hop)) Absent ≡ Absent
cut_hop Absent cut is = rw is refl
cut_hop Dialling cut is = rw is refl
cut_hop Waiting cut is = rw is refl
cut_hop There cut is = rw is refl

next_by : (said : Option NextHop) (cut : Bool) → cut ≡ not (is_absent (unwrap_or said Absent))
    → unwrap_or (option_or (if cut then Some Absent else None) said) Absent ≡ Absent
next_by None cut is = rw is refl
next_by (Some hop) cut is = cut_hop hop cut is

truncated_hop : (rules : Rules) (log : Log) (command : ℕ) (body : List ℕ)
    → effects_after rules log (Forward command body) ≡ truncate_effects log
    → next_hop (after_cell rules log command body) ≡ Absent
truncated_hop rules log command body given =
    ap (λ (e : Effects). unwrap_or (option_or (hop_by_effects e) (newest (λ entry. hop_by entry.event entry.effects) log)) Absent)
    given
    ∙ next_by (newest (λ entry. hop_by entry.event entry.effects) log) (not (is_absent (next_hop log))) refl

pub truncated_parts : (c : Circuit) (new : PackagerState) (message : CodeMessage) (rules : Rules) (log : Log) (command : ℕ)
    (body : List ℕ) (m : Message)
    → IsBrought message log command body m → HasParts c log → m.command ≡ truncate_command
    → Packages c.packager new (relay_body truncated_command 0 (3 ∷ []))
    → HasParts (record c { packager = new; next_hop = Absent }) (after_cell rules log command body)
truncated_parts c new message rules log command body m b has is packages =
    let given : effects_after rules log (Forward command body) ≡ truncate_effects log =
    does message rules log command body m b ∙ of_truncate rules log m is in
    let other : IsOther m.command = other_command m.command truncate_command is refl refl refl refl in
    let window : window_of (after_cell rules log command body) ≡ window_of log =
    other_window message rules log command body m b other.data_ other.sendme in
    let entry : Entry = entry_after rules log (Forward command body) in
    record {
      hop = sym (truncated_hop rules log command body given);
      asked = λ dialling. cc;
      packager =
          packager_after new entry log (truncate_effects log).back refl (ap (λ (e : Effects). e.back) given)
          (packages log has.packager);
      windows = stands_still c.windows log (after_cell rules log command body) has.windows window;
      places = other_places c.places message rules log command body m b other has.places;
      addresses =
          addresses_after c.addresses c.places c.places entry log (same_streams c.places)
          (ap (λ (e : Effects). place_of e.edge) given) has.addresses;
    }
