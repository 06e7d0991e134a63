-- What leaves places as they are: events that give no order for the edge and accept no stream's SENDME.
use Rattle.std.proofs.Common.{◌≡◌, ◌≢◌, ℕ, ◌+◌, ◌==◌, ◌&&◌, List, ◌∷◌, Bool, true, false, if◌then◌else◌, not, length, Option, Some, None, refl, ap, ◌∙◌, arith, nat_le}
use Rattle.tor_spec.specs.RelayCell.{sendme_command, data_command, end_command, begin_command, truncate_command, drop_command, resolve_command, begin_dir_command, extend2_command}
use Rattle.tor_spec.specs.Extend.{Address, Extend, handshake_reply}
use Rattle.tor_spec.specs.CircuitWindow.{is_sendme_due}
use Rattle.circuit_model.specs.Events.{Event, CircuitCell}
use Rattle.circuit_model.specs.declared.event.Event.TheVariants.{Born, Forward, Backward, Connected, Data, Ended, Drained, Freed, Linked, Answered, Failed}
use Rattle.circuit_model.specs.Rules.{Rules}
use Rattle.circuit_model.specs.Log.{Entry, Log, Message, Effects, no_effects, closing, newest, is_closed}
use Rattle.circuit_model.specs.declared.next_hop.NextHop.{NextHop}
use Rattle.circuit_model.specs.declared.next_hop.NextHop.TheVariants.{Absent, Dialling, Waiting, There}
use Rattle.circuit_model.specs.NextHop.{next_hop, is_absent}
use Rattle.circuit_model.specs.Places.{place_of}
use Rattle.circuit_model.specs.Windows.{is_accepted, is_serial, has_place, accepted_data}
use Rattle.circuit_model.specs.SendmeProof.{is_right_sendme}
use Rattle.circuit_model.specs.Received.{Received, received, message_of, message_at}
use Rattle.circuit_model.specs.declared.message.Received.TheVariants.{TooManyEarly, Unrecognised, TooLong, ForUs}
use Rattle.circuit_model.specs.Streams.{acknowledging, data_at, end_at, stream_sendme_at, sendme_effects, resolve_effects, ending}
use Rattle.circuit_model.specs.Extending.{accepted_request, creating, dialling, address_asked, extend_effects, truncate_effects, extending}
use Rattle.circuit_model.specs.Effects.{message_effects, passed_on, forward_effects, open_effects, effects_after}
use Rattle.circuit_model.specs.Words.{entry_after}
use Rattle.circuit_model.proofs.Reading.{read-effects}
use Rattle.stream_edge.specs.PlacesState.{PlacesState}
use Rattle.circ_relay.specs.PlacesOfLog.{is_edge_report, ArePlaces}
use Rattle.circ_relay.proofs.Telling.{no_message_credits}
use Rattle.circ_relay.proofs.Changing.{silent_entry_leaves_places}
use Rattle.circ_relay.proofs.Reports.{orderless_is_silent, closed-edge, if-edge}
use Rattle.circ_relay.proofs.Messages.{IsNoReport, message_is_no_report, other_command_credits}
use Rattle.circ_relay.proofs.StreamSendmes.{closing_credits}

pub differs : (n m : ℕ) → n ≢ m → (n == m) ≡ false
differs n m apart = grind arith

-- Which effects have no order.

passed_on-edge : (hop : NextHop) (cell : CircuitCell) → (passed_on hop cell).edge ≡ None
passed_on-edge There cell = refl
passed_on-edge Absent cell = refl
passed_on-edge Dialling cell = refl
passed_on-edge Waiting cell = refl

creating-edge : (request : Option Extend) → (creating request).edge ≡ None
creating-edge None = refl
creating-edge (Some request) = refl

extending-edge : (log : Log) (handshake : Option (List ℕ)) → (extending log handshake).edge ≡ None
extending-edge log None = refl
extending-edge log (Some handshake) = if-edge (nat_le (length handshake) 496) _ _ refl refl

dialling-edge : (to : Option Address) → (dialling to).edge ≡ None
dialling-edge None = refl
dialling-edge (Some to) = refl

pub extend-edge : (log : Log) (m : Message) → (extend_effects log m).edge ≡ None
extend-edge log m =
    if-edge (not m.early) _ _ refl (if-edge (not (is_absent (next_hop log))) _ _ refl (dialling-edge (address_asked m)))

pub acknowledging-edge : (log : Log) (m : Message) → (acknowledging log m).edge ≡ None
acknowledging-edge log m = if-edge (is_sendme_due (accepted_data log + 1)) _ _ refl refl

data-edge : (log : Log) (m : Message) (place : Option ℕ) → place ≡ None → (data_at log m place).edge ≡ None
data-edge log m None none = acknowledging-edge log m
data-edge log m (Some serial) none = cc

end-edge : (m : Message) (place : Option ℕ) → place ≡ None → (end_at m place).edge ≡ None
end-edge m None none = refl
end-edge m (Some serial) none = cc

stream_sendme-edge : (log : Log) (place : Option ℕ) → (stream_sendme_at log place).edge ≡ None
stream_sendme-edge log None = refl
stream_sendme-edge log (Some serial) = if-edge _ _ _ refl refl

pub sendme-edge : (rules : Rules) (log : Log) (m : Message) → (sendme_effects rules log m).edge ≡ None
sendme-edge rules log m =
    if-edge (m.stream == 0) _ _ (if-edge (is_right_sendme rules log m.payload) _ _ refl refl) (stream_sendme-edge log m.place)

-- Effects without an order.
pub record IsOrderless (effects : Effects) : Type 0 where
  pub none : effects.edge ≡ None

if-orderless : (b : Bool) (x y : Effects) → IsOrderless x → IsOrderless y → IsOrderless (if b then x else y)
if-orderless true x y p q = p
if-orderless false x y p q = q

else-orderless : (b : Bool) (x y : Effects) → b ≡ false → IsOrderless y → IsOrderless (if b then x else y)
else-orderless true x y other q = cc
else-orderless false x y other q = q

-- What message_effects does with a command behind BEGIN, DATA and END.
abbrev pub other_effects : Rules → Log → Message → Effects
other_effects rules log m =
    if m.command == sendme_command then sendme_effects rules log m
    else (if m.command == truncate_command then truncate_effects log
    else (if m.command == drop_command then no_effects
    else (if m.command == resolve_command then resolve_effects rules log m
    else (if m.command == begin_dir_command then ending log m.stream 14
    else (if m.command == extend2_command then extend_effects log m
    else no_effects)))))

pub behind-end : (rules : Rules) (log : Log) (m : Message) → IsOrderless (other_effects rules log m)
behind-end rules log m =
    if-orderless (m.command == sendme_command) _ _ (record { none = sendme-edge rules log m })
    (if-orderless (m.command == truncate_command) _ _ (record { none = refl })
    (if-orderless (m.command == drop_command) _ _ (record { none = refl })
    (if-orderless (m.command == resolve_command) _ _ (record { none = refl })
    (if-orderless (m.command == begin_dir_command) _ _ (record { none = refl })
    (if-orderless (m.command == extend2_command) _ _ (record { none = extend-edge log m }) (record { none = refl }))))))

placeless-orderless : (rules : Rules) (log : Log) (m : Message) → (m.command == begin_command) ≡ false → m.place ≡ None
    → IsOrderless (message_effects rules log m)
unfolding message_effects
placeless-orderless rules log m begin none =
    else-orderless (m.command == begin_command) _ _ begin
    (if-orderless (m.command == data_command) _ _ (record { none = data-edge log m m.place none })
    (if-orderless (m.command == end_command) _ _ (record { none = end-edge m m.place none })
    (behind-end rules log m)))

pub placeless-edge : (rules : Rules) (log : Log) (m : Message) → (m.command == begin_command) ≡ false → m.place ≡ None
    → (message_effects rules log m).edge ≡ None
placeless-edge rules log m begin none = (placeless-orderless rules log m begin none).none

ordinary-orderless : (rules : Rules) (log : Log) (m : Message) → (m.command == begin_command) ≡ false
    → (m.command == data_command) ≡ false → (m.command == end_command) ≡ false →
    IsOrderless (message_effects rules log m)
unfolding message_effects
ordinary-orderless rules log m begin data_ end =
    else-orderless (m.command == begin_command) _ _ begin
    (else-orderless (m.command == data_command) _ _ data_
    (else-orderless (m.command == end_command) _ _ end
    (behind-end rules log m)))

pub ordinary-edge : (rules : Rules) (log : Log) (m : Message) → (m.command == begin_command) ≡ false
    → (m.command == data_command) ≡ false → (m.command == end_command) ≡ false →
    (message_effects rules log m).edge ≡ None
ordinary-edge rules log m begin data_ end = (ordinary-orderless rules log m begin data_ end).none

forward-quiet : (rules : Rules) (log : Log) (command : ℕ) (closed : Bool) (r : Received)
    → ◌≡◌ {A = Option Message} (if closed then None else message_of r) None →
    (if closed then no_effects else forward_effects rules log command r).edge ≡ None
forward-quiet rules log command true r none = refl
forward-quiet rules log command false TooManyEarly none = refl
forward-quiet rules log command false (Unrecognised plain) none = passed_on-edge (next_hop log) _
forward-quiet rules log command false TooLong none = refl
forward-quiet rules log command false (ForUs m) none = cc

pub quiet-edge : (rules : Rules) (log : Log) (e : Event) → message_at log e ≡ None → is_edge_report e ≡ false
    → (effects_after rules log e).edge ≡ None
unfolding open_effects
quiet-edge rules log (Born reply keys pad) none other = closed-edge (is_closed log) no_effects refl
quiet-edge rules log (Forward command body) none other =
    forward-quiet rules log command (is_closed log) (received log command body) none
quiet-edge rules log (Backward body) none other = closed-edge (is_closed log) _ refl
quiet-edge rules log (Connected serial) none other = cc
quiet-edge rules log (Data serial bytes) none other = cc
quiet-edge rules log (Ended serial reason) none other = cc
quiet-edge rules log (Drained serial) none other = cc
quiet-edge rules log (Freed serial) none other = cc
quiet-edge rules log Linked none other = closed-edge (is_closed log) _ (creating-edge (newest accepted_request log))
quiet-edge rules log (Answered payload) none other = closed-edge (is_closed log) _ (extending-edge log (handshake_reply payload))
quiet-edge rules log Failed none other = closed-edge (is_closed log) (closing 6) refl

no_report-by : (e : Event) → is_edge_report e ≡ false → IsNoReport e
no_report-by (Born reply keys pad) other =
    record { connects = λ n. refl; frees = λ n. refl; packs = λ n. refl; drains = λ n. refl }
no_report-by (Forward command body) other =
    record { connects = λ n. refl; frees = λ n. refl; packs = λ n. refl; drains = λ n. refl }
no_report-by (Backward body) other = record { connects = λ n. refl; frees = λ n. refl; packs = λ n. refl; drains = λ n. refl }
no_report-by (Connected serial) other = cc
no_report-by (Data serial bytes) other = cc
no_report-by (Ended serial reason) other = cc
no_report-by (Drained serial) other = cc
no_report-by (Freed serial) other = cc
no_report-by Linked other = record { connects = λ n. refl; frees = λ n. refl; packs = λ n. refl; drains = λ n. refl }
no_report-by (Answered payload) other = record { connects = λ n. refl; frees = λ n. refl; packs = λ n. refl; drains = λ n. refl }
no_report-by Failed other = record { connects = λ n. refl; frees = λ n. refl; packs = λ n. refl; drains = λ n. refl }

-- The laws.

pub orderless_leaves_places : (state : PlacesState) (log : Log) (entry : Entry) → ArePlaces state log → IsNoReport entry.event
    → entry.effects.edge ≡ None →
    ((serial : ℕ) → (is_accepted sendme_command entry && has_place serial entry.message) ≡ false) → ArePlaces state (entry ∷ log)
orderless_leaves_places state log entry are no_report none quiet =
    silent_entry_leaves_places state state log entry refl refl (ap place_of none)
    (λ serial. orderless_is_silent entry serial none (quiet serial) (no_report.connects serial) (no_report.frees serial)
    (no_report.packs serial) (no_report.drains serial))
    are

pub no_message_leaves_places : (state : PlacesState) (rules : Rules) (log : Log) (e : Event) → ArePlaces state log →
    message_at log e ≡ None → is_edge_report e ≡ false → ArePlaces state (entry_after rules log e ∷ log)
no_message_leaves_places state rules log e are none other =
    orderless_leaves_places state log (entry_after rules log e) are (no_report-by e other) (quiet-edge rules log e none other)
    (λ serial. no_message_credits (entry_after rules log e) serial none)

edge-of : (rules : Rules) (log : Log) (e : Event) (m : Message) → message_at log e ≡ Some m
    → (message_effects rules log m).edge ≡ None → (effects_after rules log e).edge ≡ None
edge-of rules log e m found none = ap (λ (x : Effects). x.edge) (read-effects rules log e m found) ∙ none

none-last : (a : Bool) → (a && false) ≡ false
none-last true = refl
none-last false = refl

pub placeless_credits : (entry : Entry) (m : Message) (serial : ℕ) → entry.message ≡ Some m → m.place ≡ None →
    (is_accepted sendme_command entry && has_place serial entry.message) ≡ false
placeless_credits entry m serial found none =
    ap (λ (x : Option Message). is_accepted sendme_command entry && has_place serial x) found
    ∙ ap (λ (x : Option ℕ). is_accepted sendme_command entry && is_serial serial x) none
    ∙ none-last (is_accepted sendme_command entry)

pub placeless_leaves_places : (state : PlacesState) (rules : Rules) (log : Log) (e : Event) (m : Message) → ArePlaces state log →
    message_at log e ≡ Some m → m.command ≢ begin_command → m.place ≡ None → ArePlaces state (entry_after rules log e ∷ log)
placeless_leaves_places state rules log e m are found other none =
    orderless_leaves_places state log (entry_after rules log e) are (message_is_no_report log e m found)
    (edge-of rules log e m found (placeless-edge rules log m (differs m.command begin_command other) none))
    (λ serial. placeless_credits (entry_after rules log e) m serial found none)

pub ordinary_leaves_places : (state : PlacesState) (rules : Rules) (log : Log) (e : Event) (m : Message) → ArePlaces state log →
    message_at log e ≡ Some m → m.command ≢ begin_command → m.command ≢ data_command → m.command ≢ end_command
    → m.command ≢ sendme_command →
    ArePlaces state (entry_after rules log e ∷ log)
ordinary_leaves_places state rules log e m are found begin data_ end sendme =
    orderless_leaves_places state log (entry_after rules log e) are (message_is_no_report log e m found)
    (edge-of rules log e m found
    (ordinary-edge rules log m (differs m.command begin_command begin) (differs m.command data_command data_)
    (differs m.command end_command end)))
    (λ serial. other_command_credits (entry_after rules log e) m serial found (differs m.command sendme_command sendme))

pub refused_leaves_places : (state : PlacesState) (rules : Rules) (log : Log) (e : Event) (m : Message) → ArePlaces state log →
    message_at log e ≡ Some m → m.command ≡ begin_command → (effects_after rules log e).edge ≡ None
    → ArePlaces state (entry_after rules log e ∷ log)
refused_leaves_places state rules log e m are found command none =
    orderless_leaves_places state log (entry_after rules log e) are (message_is_no_report log e m found) none
    (λ serial. other_command_credits (entry_after rules log e) m serial found (ap (λ n. n == sendme_command) command))

pub closing_leaves_places : (state : PlacesState) (rules : Rules) (log : Log) (e : Event) (m : Message) (reason : ℕ)
    → ArePlaces state log →
    message_at log e ≡ Some m → effects_after rules log e ≡ closing reason → ArePlaces state (entry_after rules log e ∷ log)
closing_leaves_places state rules log e m reason are found does =
    orderless_leaves_places state log (entry_after rules log e) are (message_is_no_report log e m found)
    (ap (λ (x : Effects). x.edge) does)
    (λ serial. closing_credits (entry_after rules log e) serial reason (ap (λ (x : Effects). x.close) does))
