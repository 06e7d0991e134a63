-- What relay messages do to held streams: END and DATA.
use Rattle.std.proofs.Common.{◌≡◌, ℕ, ◌+◌, ◌*◌, ◌/◌, ◌==◌, ◌&&◌, ◌∷◌, Bool, true, false, if◌then◌else◌, Option, Some, None, refl, sym, ap, subst, ◌∙◌, arith, nat_le, nat_lt}
use Rattle.std.specs.Prelude.{is_none}
use Rattle.tor_spec.specs.RelayCell.{sendme_command, data_command, end_command}
use Rattle.tor_spec.specs.Ends.{end_reason}
use Rattle.circuit_model.specs.Events.{Event}
use Rattle.circuit_model.specs.declared.event.Event.TheVariants.{Born, Forward, Backward, Connected, Data, Ended, Drained, Freed, Linked, Answered, Failed}
use Rattle.circuit_model.specs.Rules.{Rules}
use Rattle.circuit_model.specs.Log.{Entry, Log, Message, Effects, StreamKey, closing, ordering, is_closed}
use Rattle.circuit_model.specs.declared.effects.Order.TheVariants.{Carry, Close}
use Rattle.circuit_model.specs.Places.{place_of, connects, frees, closes_place}
use Rattle.circuit_model.specs.Windows.{is_data_of, is_accepted, has_command, has_place, carries, drains, accept_grant as log_accept_grant, carried_count}
use Rattle.circuit_model.specs.Received.{message_at}
use Rattle.circuit_model.specs.Streams.{data_at}
use Rattle.circuit_model.specs.Effects.{message_effects, effects_after}
use Rattle.circuit_model.specs.Words.{entry_after}
use Rattle.circuit_model.proofs.Reading.{read-effects}
use Rattle.stream_edge.specs.declared.placed_stream.PlacedStream.{PlacedStream}
use Rattle.stream_edge.specs.declared.placed_stream.Phase.TheVariants.{Ending as held_ending}
use Rattle.stream_edge.specs.PlacesState.{PlacesState, held_at, with_held}
use Rattle.stream_edge.specs.Streams.{accept_grant, may_accept, after_accepting}
use Rattle.circ_relay.specs.PlacesOfLog.{IsOfLog, IsSilent, ArePlaces}
use Rattle.circ_relay.proofs.Telling.{place_stays, phase_stays, stream_stays, packaged_stays, sendmes_stay, carried_more, drained_stays}
use Rattle.circ_relay.proofs.Changing.{stream_changes}
use Rattle.circ_relay.proofs.Reports.{equal_to, unequal, orderless_is_silent}
use Rattle.circ_relay.proofs.Closes.{order_closes}

-- An event that brings a message is no report of the edge.
pub record IsNoReport (e : Event) : Type 0 where
  pub connects : (serial : ℕ) → connects serial e ≡ false
  pub frees : (serial : ℕ) → frees serial e ≡ false
  pub packs : (serial : ℕ) → is_data_of serial e ≡ false
  pub drains : (serial : ℕ) → drains serial e ≡ false

no-message : (closed : Bool) (m : Message) → ◌≡◌ {A = Option Message} (if closed then None else None) (Some m) → ⊥
no-message true m is = cc
no-message false m is = cc

pub message_is_no_report : (log : Log) (e : Event) (m : Message) → message_at log e ≡ Some m → IsNoReport e
message_is_no_report log (Forward command body) m found =
    record { connects = λ n. refl; frees = λ n. refl; packs = λ n. refl; drains = λ n. refl }
message_is_no_report log (Born reply keys pad) m found = absurd (no-message (is_closed log) m found)
message_is_no_report log (Backward body) m found = absurd (no-message (is_closed log) m found)
message_is_no_report log (Connected serial) m found = absurd (no-message (is_closed log) m found)
message_is_no_report log (Data serial bytes) m found = absurd (no-message (is_closed log) m found)
message_is_no_report log (Ended serial reason) m found = absurd (no-message (is_closed log) m found)
message_is_no_report log (Drained serial) m found = absurd (no-message (is_closed log) m found)
message_is_no_report log (Freed serial) m found = absurd (no-message (is_closed log) m found)
message_is_no_report log Linked m found = absurd (no-message (is_closed log) m found)
message_is_no_report log (Answered payload) m found = absurd (no-message (is_closed log) m found)
message_is_no_report log Failed m found = absurd (no-message (is_closed log) m found)

-- A message of another command has no place accept a SENDME.
pub other_command_credits : (entry : Entry) (m : Message) (serial : ℕ) → entry.message ≡ Some m
    → (m.command == sendme_command) ≡ false →
    (is_accepted sendme_command entry && has_place serial entry.message) ≡ false
other_command_credits entry m serial found other =
    ap (λ (x : Option Message). (has_command sendme_command x && is_none entry.effects.close) && has_place serial x) found
    ∙ ap (λ b. (b && is_none entry.effects.close) && has_place serial (Some m)) other

-- END.

pub end-does : (rules : Rules) (log : Log) (m : Message) (serial : ℕ) → m.command ≡ end_command → m.place ≡ Some serial →
    message_effects rules log m ≡ ordering (Close (record { stream = m.stream; serial = serial }) (end_reason m.payload))
unfolding message_effects
end-does rules log m serial command place = rw (command, place) refl

pub end_ends : (state : PlacesState) (rules : Rules) (log : Log) (e : Event) (m : Message) (place : ℕ) (h : PlacedStream) →
    ArePlaces state log → message_at log e ≡ Some m → m.command ≡ end_command → m.place ≡ Some h.serial
    → held_at state place ≡ Some h →
    ArePlaces (with_held state place (Some (record h { phase = held_ending }))) (entry_after rules log e ∷ log)
end_ends state rules log e m place h are found command named at =
    let entry : Entry = entry_after rules log e in
    let no_report : IsNoReport e = message_is_no_report log e m found in
    let does : effects_after rules log e ≡ ordering
    (Close (record { stream = m.stream; serial = h.serial }) (end_reason m.payload)) =
    read-effects rules log e m found ∙ end-does rules log m h.serial command named in
    order_closes state log entry place h (record { stream = m.stream; serial = h.serial }) (end_reason m.payload) are at refl
    (record {
      order = ap (λ (x : Effects). x.edge) does;
      quiet = λ serial. other_command_credits entry m serial found (ap (λ n. n == sendme_command) command);
      connects = no_report.connects;
      frees = no_report.frees;
      packs = no_report.packs;
      drains = no_report.drains;
    })

-- DATA.

pub data-does : (rules : Rules) (log : Log) (m : Message) (serial : ℕ) → m.command ≡ data_command → m.place ≡ Some serial →
    message_effects rules log m ≡ data_at log m (Some serial)
unfolding message_effects
data-does rules log m serial command place = rw (command, place) refl

pub data-overrun : (log : Log) (m : Message) (serial : ℕ) → nat_le (log_accept_grant log serial) (carried_count log serial) ≡ true
    → data_at log m (Some serial) ≡ closing 1
data-overrun log m serial full = rw full refl

data-order : (log : Log) (m : Message) (serial : ℕ) → nat_le (log_accept_grant log serial) (carried_count log serial) ≡ false →
    (data_at log m (Some serial)).edge ≡ Some (Carry (record { stream = m.stream; serial = serial }) m.payload)
data-order log m serial room = rw room refl

accepting-none : (h : PlacedStream) → may_accept h ≡ false → after_accepting h ≡ h
accepting-none h may = rw may refl

accepting-one : (h : PlacedStream) → may_accept h ≡ true → after_accepting h ≡ record h { accepted = h.accepted + 1 }
accepting-one h may = rw may refl

-- The stream as it was, after a message that gives no order and is no accepted SENDME.
pub unchanged_by : (state : PlacesState) (rules : Rules) (log : Log) (e : Event) (m : Message) (place : ℕ) (h : PlacedStream) →
    ArePlaces state log → message_at log e ≡ Some m → held_at state place ≡ Some h → (effects_after rules log e).edge ≡ None →
    ((serial : ℕ) → (is_accepted sendme_command (entry_after rules log e) && has_place serial (message_at log e)) ≡ false) →
    ArePlaces (with_held state place (Some h)) (entry_after rules log e ∷ log)
unchanged_by state rules log e m place h are found at none quiet =
    let entry : Entry = entry_after rules log e in
    let no_report : IsNoReport e = message_is_no_report log e m found in
    let makes_none : place_of entry.effects.edge ≡ None = ap place_of none in
    let silent : (serial : ℕ) → IsSilent entry serial =
    λ serial. orderless_is_silent entry serial none (quiet serial) (no_report.connects serial) (no_report.frees serial)
    (no_report.packs serial) (no_report.drains serial) in
    let is : IsOfLog (entry ∷ log) h = stream_stays entry log h makes_none (silent h.serial) (are.streams place h at) in
    stream_changes state log entry place h h at makes_none (λ serial apart. silent serial) refl is are

-- Where it was refused, or where one more is counted.
data-by : (state : PlacesState) (rules : Rules) (log : Log) (e : Event) (m : Message) (place : ℕ) (h : PlacedStream) →
    ArePlaces state log → message_at log e ≡ Some m → m.command ≡ data_command → m.place ≡ Some h.serial
    → held_at state place ≡ Some h →
    (b : Bool) → nat_le (log_accept_grant log h.serial) (carried_count log h.serial) ≡ b
    → may_accept h ≡ (if b then false else true) →
    ArePlaces (with_held state place (Some (after_accepting h))) (entry_after rules log e ∷ log)
data-by state rules log e m place h are found command named at true full may =
    let does : effects_after rules log e ≡ closing 1 =
    read-effects rules log e m found ∙ data-does rules log m h.serial command named ∙ data-overrun log m h.serial full in
    subst (λ x. ArePlaces (with_held state place (Some x)) (entry_after rules log e ∷ log)) (sym (accepting-none h may))
    (unchanged_by state rules log e m place h are found at (ap (λ (x : Effects). x.edge) does)
    (λ serial. other_command_credits (entry_after rules log e) m serial found (ap (λ n. n == sendme_command) command)))
data-by state rules log e m place h are found command named at false room may =
    let entry : Entry = entry_after rules log e in
    let key : StreamKey = record { stream = m.stream; serial = h.serial } in
    let no_report : IsNoReport e = message_is_no_report log e m found in
    let order : entry.effects.edge ≡ Some (Carry key m.payload) =
    ap (λ (x : Effects). x.edge) (read-effects rules log e m found ∙ data-does rules log m h.serial command named)
    ∙ data-order log m h.serial room in
    let makes_none : place_of entry.effects.edge ≡ None = ap place_of order in
    let quiet : (serial : ℕ) → (is_accepted sendme_command entry && has_place serial entry.message) ≡ false =
    λ serial. other_command_credits entry m serial found (ap (λ n. n == sendme_command) command) in
    let closes : (serial : ℕ) → closes_place serial entry.effects.edge ≡ false = λ serial. ap (closes_place serial) order in
    let carries_by : (serial : ℕ) → carries serial entry.effects.edge ≡ (h.serial == serial) =
    λ serial. ap (carries serial) order in
    let is : IsOfLog log h = are.streams place h at in
    let more : PlacedStream = record h { accepted = h.accepted + 1 } in
    let becomes : IsOfLog (entry ∷ log) more = record {
      place = is.place;
      found = place_stays entry log h.serial makes_none ∙ is.found;
      key = is.key;
      phase =
          phase_stays entry log h.serial (no_report.connects h.serial) (no_report.frees h.serial) (closes h.serial) ∙ is.phase;
      packed = is.packed ∙ sym (packaged_stays entry log h.serial (no_report.packs h.serial));
      credits = is.credits ∙ sym (sendmes_stay entry log h.serial (quiet h.serial));
      accepted = ap (λ n. n + 1) is.accepted ∙ sym (carried_more entry log h.serial (carries_by h.serial ∙ equal_to h.serial));
      drained = is.drained ∙ sym (drained_stays entry log h.serial (no_report.drains h.serial));
    } in
    subst (λ x. ArePlaces (with_held state place (Some x)) (entry ∷ log)) (sym (accepting-one h may))
    (stream_changes state log entry place h more at makes_none
    (λ serial apart. record {
      connects = no_report.connects serial;
      frees = no_report.frees serial;
      closes = closes serial;
      packs = no_report.packs serial;
      credits = quiet serial;
      carries = carries_by serial ∙ unequal h.serial serial apart;
      drains = no_report.drains serial;
    })
    refl becomes are)

less_by : (a b : ℕ) (t : Bool) → nat_le b a ≡ t → nat_lt a b ≡ (if t then false else true)
less_by a b true is = grind arith
less_by a b false is = grind arith

pub data_accepts : (state : PlacesState) (rules : Rules) (log : Log) (e : Event) (m : Message) (place : ℕ) (h : PlacedStream) →
    ArePlaces state log → message_at log e ≡ Some m → m.command ≡ data_command → m.place ≡ Some h.serial
    → held_at state place ≡ Some h →
    ArePlaces (with_held state place (Some (after_accepting h))) (entry_after rules log e ∷ log)
data_accepts state rules log e m place h are found command named at =
    let is : IsOfLog log h = are.streams place h at in
    let full : Bool = nat_le (log_accept_grant log h.serial) (carried_count log h.serial) in
    let may : may_accept h ≡ (if full then false else true) =
    ap (λ n. nat_lt n (accept_grant h)) is.accepted ∙ ap (λ n. nat_lt (carried_count log h.serial) (500 + 50 * (n / 50)))
    is.drained
    ∙ less_by (carried_count log h.serial) (log_accept_grant log h.serial) full refl in
    data-by state rules log e m place h are found command named at full refl may
