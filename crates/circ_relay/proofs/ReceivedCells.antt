-- What a relay cell from the client is, and the parts of a circuit behind it.
use Rattle.std.proofs.Common.{◌≡◌, ℕ, ◌≤◌, ◌==◌, ◌&&◌, nat_le, if◌then◌else◌, List, length, drop, take, Bool, true, false, Option, Some, None, refl, sym, ap, subst, ◌∙◌, arith, length-take}
use Rattle.std.specs.Prelude.{is_some, position}
use Rattle.tor_spec.specs.RelayCell.{relay_head, fits_length, payload_of, data_command}
use Rattle.relay_cell.specs.declared.head.Opened.{Opened}
use Rattle.stream_edge.specs.PlacesState.{PlacesState}
use Rattle.stream_edge.specs.Streams.{is_live_as}
use Rattle.tor_spec.specs.CellCommands.{relay_early_command}
use Rattle.circuit_model.specs.Events.{CircuitCell}
use Rattle.circuit_model.specs.declared.event.Event.TheVariants.{Forward}
use Rattle.circuit_model.specs.Rules.{Rules}
use Rattle.circuit_model.specs.Log.{Log, Effects, is_closed, closing}
use Rattle.circuit_model.specs.declared.next_hop.NextHop.{NextHop}
use Rattle.circuit_model.specs.declared.next_hop.NextHop.TheVariants.{Absent, Dialling, Waiting, There}
use Rattle.circuit_model.specs.NextHop.{next_hop}
use Rattle.circuit_model.specs.Opened.{recognises, digest_with}
use Rattle.circuit_model.specs.Places.{place_of}
use Rattle.circuit_model.specs.Received.{message_of, Received, received, received_plain, message_in_body, message_at, early_count, relay_early_limit}
use Rattle.circuit_model.specs.declared.message.Received.TheVariants.{Unrecognised, TooLong, ForUs}
use Rattle.circuit_model.specs.Effects.{passed_on, open_effects, effects_after}
use Rattle.circ_relay.specs.declared.circuit.Circuit.{Circuit}
use Rattle.circ_relay.specs.declared.message.Message.{Message as CodeMessage}
use Rattle.circ_relay.specs.BroughtMessages.{IsBrought, IsNextCell, after_cell}
use Rattle.circ_relay.specs.Packaging.{IsPackagedNext}
use Rattle.circ_relay.specs.OpenedBodies.{is_data_for_live}
use Rattle.circ_relay.specs.CircuitOfLog.{HasParts}
use Rattle.circuit_model.specs.Words.{log}
use Rattle.circ_relay.proofs.WindowByEvent.{quiet_event_leaves}
use Rattle.circ_relay.proofs.Others.{no_message_leaves_places}
use Rattle.circ_relay.proofs.Lists.{same_some}
use Rattle.circ_relay.proofs.AfterCells.{cell_parts}
use Rattle.circ_relay.proofs.Longer.{none_packaged, same_streams, stands_still}

-- One RELAY_EARLY too many.
pub too_many_does : (rules : Rules) (log : Log) (command : ℕ) (body : List ℕ) → is_closed log ≡ false
    → ((command == relay_early_command) && nat_le relay_early_limit (early_count log)) ≡ true
    → effects_after rules log (Forward command body) ≡ closing 1
unfolding open_effects received
too_many_does rules log command body unclosed many = rw (unclosed, many) refl

-- What the cell is, by its body without the layer.

plain_received : (log : Log) (command : ℕ) (plain : List ℕ) (recognised fits : Bool)
    → ((command == relay_early_command) && nat_le relay_early_limit (early_count log)) ≡ false
    → recognises log plain ≡ recognised → fits_length plain ≡ fits
    → received_plain log command plain
    ≡ (if recognised then (if fits then ForUs (message_in_body log command plain) else TooLong) else Unrecognised plain)
plain_received log command plain recognised fits few is long = rw (few, is, long) refl

cell_received : (opened : Opened) (log : Log) (command : ℕ) (body : List ℕ) (recognised fits : Bool)
    → IsNextCell opened log command body
    → recognises log opened.body ≡ recognised → fits_length opened.body ≡ fits
    → received log command body
    ≡ (if recognised then (if fits then ForUs (message_in_body log command opened.body) else TooLong)
    else Unrecognised opened.body)
unfolding received
cell_received opened log command body recognised fits cell is long =
    ap (λ (b : List ℕ). received_plain log command b) (sym cell.opens.plain)
    ∙ plain_received log command opened.body recognised fits cell.few is long

-- Whether it is recognised.

recognised_by : (b : Bool) (digest recognised_digest : List ℕ) → Some recognised_digest ≡ (if b then Some digest else None)
    → (b ≡ true) × (recognised_digest ≡ digest)
recognised_by true digest recognised_digest is = (refl, same_some recognised_digest digest is)
recognised_by false digest recognised_digest is = cc

unrecognised_by : (b : Bool) (digest : List ℕ) → ◌≡◌ {A = Option (List ℕ)} None (if b then Some digest else None) → b ≡ false
unrecognised_by true digest is = cc
unrecognised_by false digest is = refl

opens_as : (opened : Opened) (log : Log) (command : ℕ) (body : List ℕ) → IsNextCell opened log command body
    → opened.recognised ≡ (if recognises log opened.body then Some (digest_with log opened.body) else None)
opens_as opened log command body cell =
    cell.opens.recognised
    ∙ ap (λ (p : List ℕ). if recognises log p then Some (digest_with log p) else None) (sym cell.opens.plain)

is_recognised : (opened : Opened) (log : Log) (command : ℕ) (body digest : List ℕ) → IsNextCell opened log command body
    → opened.recognised ≡ Some digest
    → (recognises log opened.body ≡ true) × (digest ≡ digest_with log opened.body)
is_recognised opened log command body digest cell is =
    recognised_by (recognises log opened.body) (digest_with log opened.body) digest
    (sym is ∙ opens_as opened log command body cell)

is_unrecognised : (opened : Opened) (log : Log) (command : ℕ) (body : List ℕ) → IsNextCell opened log command body
    → opened.recognised ≡ None → recognises log opened.body ≡ false
is_unrecognised opened log command body cell is =
    unrecognised_by (recognises log opened.body) (digest_with log opened.body) (sym is ∙ opens_as opened log command body cell)

-- A body for another hop.

goes_on : (rules : Rules) (log : Log) (command : ℕ) (body plain : List ℕ) → is_closed log ≡ false
    → received log command body ≡ Unrecognised plain
    → effects_after rules log (Forward command body) ≡ passed_on (next_hop log) (record { command = command; body = plain })
unfolding open_effects
goes_on rules log command body plain unclosed is = rw (unclosed, is) refl

none_by : (closed : Bool) (r : Received) (plain : List ℕ) → r ≡ Unrecognised plain
    → (if closed then None else message_of r) ≡ None
none_by true r plain is = refl
none_by false r plain is = rw is refl

no_message : (log : Log) (command : ℕ) (body plain : List ℕ) → received log command body ≡ Unrecognised plain
    → message_at log (Forward command body) ≡ None
no_message log command body plain is = none_by (is_closed log) (received log command body) plain is

unrecognised_received : (opened : Opened) (log : Log) (command : ℕ) (body : List ℕ) → IsNextCell opened log command body
    → opened.recognised ≡ None
    → received log command body ≡ Unrecognised opened.body
unrecognised_received opened log command body cell is =
    cell_received opened log command body false (fits_length opened.body) cell (is_unrecognised opened log command body cell is)
    refl

pub passed_on_does : (opened : Opened) (rules : Rules) (log : Log) (command : ℕ) (body : List ℕ)
    → IsNextCell opened log command body
    → opened.recognised ≡ None
    → effects_after rules log (Forward command body) ≡ passed_on (next_hop log) (record { command = command; body = opened.body })
passed_on_does opened rules log command body cell is =
    goes_on rules log command body opened.body cell.unclosed (unrecognised_received opened log command body cell is)

-- What passing on leaves.
record IsQuiet (e : Effects) : Type 0 where
  back : e.back ≡ None
  edge : place_of e.edge ≡ None
  dial : e.dial ≡ None
  cut : e.cut ≡ false

passed_on_quiet : (hop : NextHop) (cell : CircuitCell) → IsQuiet (passed_on hop cell)
passed_on_quiet There cell = record { back = refl; edge = refl; dial = refl; cut = refl }
passed_on_quiet Absent cell = record { back = refl; edge = refl; dial = refl; cut = refl }
passed_on_quiet Dialling cell = record { back = refl; edge = refl; dial = refl; cut = refl }
passed_on_quiet Waiting cell = record { back = refl; edge = refl; dial = refl; cut = refl }

pub passed_on_parts : (c : Circuit) (opened : Opened) (rules : Rules) (log : Log) (command : ℕ) (body : List ℕ)
    → IsNextCell opened log command body → HasParts c log → opened.recognised ≡ None
    → HasParts c (after_cell rules log command body)
passed_on_parts c opened rules log command body cell has is =
    let none : message_at log (Forward command body) ≡ None =
    no_message log command body opened.body (unrecognised_received opened log command body cell is) in
    let quiet = passed_on_quiet (next_hop log) (record { command = command; body = opened.body }) in
    cell_parts c c rules log command body (passed_on (next_hop log) (record { command = command; body = opened.body })) has
    (passed_on_does opened rules log command body cell is) quiet.dial quiet.cut quiet.edge refl refl refl
    (subst (λ b. IsPackagedNext c.packager log b) (sym quiet.back) (none_packaged c.packager log has.packager))
    (stands_still c.windows log (after_cell rules log command body) has.windows
    (quiet_event_leaves rules log (Forward command body) refl none (λ serial. refl)))
    (no_message_leaves_places c.places rules log (Forward command body) has.places none refl) (same_streams c.places)

-- A Length that no relay cell has.

long_does : (rules : Rules) (log : Log) (command : ℕ) (body : List ℕ) → is_closed log ≡ false
    → received log command body ≡ TooLong
    → effects_after rules log (Forward command body) ≡ closing 1
unfolding open_effects
long_does rules log command body unclosed is = rw (unclosed, is) refl

pub too_long_does : (opened : Opened) (rules : Rules) (log : Log) (command : ℕ) (body digest : List ℕ)
    → IsNextCell opened log command body → opened.recognised ≡ Some digest
    → fits_length opened.body ≡ false → effects_after rules log (Forward command body) ≡ closing 1
too_long_does opened rules log command body digest cell is long =
    long_does rules log command body cell.unclosed
    (cell_received opened log command body true false cell (is_recognised opened log command body digest cell is).0 long)

-- A message.
pub brought : (opened : Opened) (message : CodeMessage) (log : Log) (command : ℕ) (body digest : List ℕ)
    → IsNextCell opened log command body → opened.recognised ≡ Some digest
    → fits_length opened.body ≡ true → message.command ≡ (relay_head opened.body).command
    → message.stream ≡ (relay_head opened.body).stream
    → message.payload.now ≡ payload_of opened.body → message.digest ≡ digest → message.is_early ≡ (command == relay_early_command)
    → IsBrought message log command body (message_in_body log command opened.body)
brought opened message log command body digest cell is fits commanded streamed paid digested early =
    let recognised = is_recognised opened log command body digest cell is in
    record {
      unclosed = cell.unclosed;
      named = cell.named;
      received = cell_received opened log command body true true cell recognised.0 fits;
      relay_command = commanded;
      stream = streamed;
      payload = paid;
      digest = digested ∙ recognised.1;
      early = early;
    }

pub payload_fits : (body payload : List ℕ) → fits_length body ≡ true → payload ≡ payload_of body → length payload ≤ 498
unfolding fits_length payload_of
payload_fits body payload fits is =
    let long : length payload ≡ length (take (relay_head body).length (drop 11 body)) = ap length is in
    let within : (relay_head body).length ≤ 498 = grind (arith, fits) in
    omega (arith, long, within, length-take (relay_head body).length (drop 11 body))

all-true : (a b c d : Bool) → a ≡ true → b ≡ true → c ≡ true → d ≡ true → (a && (b && (c && d))) ≡ true
all-true a b c d p q r s = rw (p, q, r, s) refl

pub data_for_live : (opened : Opened) (state : PlacesState) (command stream : ℕ) (digest : List ℕ)
    → opened.recognised ≡ Some digest → fits_length opened.body ≡ true
    → command ≡ (relay_head opened.body).command → stream ≡ (relay_head opened.body).stream → command ≡ data_command
    → is_some (position (is_live_as stream) state.streams) ≡ true
    → is_data_for_live opened state ≡ true
data_for_live opened state command stream digest is fits commanded streamed data_ live =
    all-true (is_some opened.recognised) (fits_length opened.body) ((relay_head opened.body).command == data_command)
    (is_some (position (is_live_as (relay_head opened.body).stream) state.streams))
    (ap is_some is) fits (ap (λ n. n == data_command) (sym commanded ∙ data_))
    (ap (λ n. is_some (position (is_live_as n) state.streams)) (sym streamed) ∙ live)
