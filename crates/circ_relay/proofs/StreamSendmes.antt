-- What a SENDME of a stream does to it.
use Rattle.std.proofs.Common.{◌≡◌, ◌<◌, ℕ, ◌+◌, ◌*◌, ◌==◌, ◌&&◌, ◌∷◌, Bool, true, false, if◌then◌else◌, Option, Some, None, refl, sym, ap, subst, ◌∙◌, arith, nat_le, nat_lt}
use Rattle.std.specs.Prelude.{is_none}
use Rattle.tor_spec.specs.RelayCell.{sendme_command}
use Rattle.tor_spec.specs.StreamWindow.{stream_start, stream_step}
use Rattle.circuit_model.specs.Events.{Event}
use Rattle.circuit_model.specs.Rules.{Rules}
use Rattle.circuit_model.specs.Log.{Entry, Log, Message, Effects, no_effects, closing}
use Rattle.circuit_model.specs.Places.{place_of, connects, frees, closes_place}
use Rattle.circuit_model.specs.Windows.{is_accepted, has_command, is_serial, has_place, carries, drains, stream_packaged, stream_grant}
use Rattle.circuit_model.specs.Received.{message_at}
use Rattle.circuit_model.specs.Streams.{stream_sendme_at}
use Rattle.circuit_model.specs.Effects.{message_effects, effects_after}
use Rattle.circuit_model.specs.Words.{entry_after}
use Rattle.circuit_model.proofs.Reading.{read-effects}
use Rattle.stream_edge.specs.declared.placed_stream.PlacedStream.{PlacedStream}
use Rattle.stream_edge.specs.PlacesState.{PlacesState, held_at, with_held}
use Rattle.stream_edge.specs.Streams.{pack_grant, may_credit, after_credit}
use Rattle.circ_relay.specs.PlacesOfLog.{IsOfLog, ArePlaces}
use Rattle.circ_relay.proofs.Telling.{place_stays, phase_stays, packaged_stays, sendmes_more, carried_stays, drained_stays}
use Rattle.circ_relay.proofs.Changing.{stream_changes}
use Rattle.circ_relay.proofs.Reports.{equal_to, unequal, orderless_is_silent}
use Rattle.circ_relay.proofs.Messages.{IsNoReport, message_is_no_report, unchanged_by}

pub sendme-does : (rules : Rules) (log : Log) (m : Message) (serial : ℕ) → m.command ≡ sendme_command → (m.stream == 0) ≡ false
    → m.place ≡ Some serial →
    message_effects rules log m ≡ stream_sendme_at log (Some serial)
unfolding message_effects
sendme-does rules log m serial command nonzero place = rw (command, nonzero, place) refl

abbrev pub too_much : Log → ℕ → Bool
too_much log serial = nat_lt (stream_start + stream_packaged log serial) (stream_grant log serial + stream_step)

pub sendme-closes : (log : Log) (serial : ℕ) → too_much log serial ≡ true → stream_sendme_at log (Some serial) ≡ closing 1
sendme-closes log serial much = rw much refl

pub sendme-raises : (log : Log) (serial : ℕ) → too_much log serial ≡ false → stream_sendme_at log (Some serial) ≡ no_effects
sendme-raises log serial fits = rw fits refl

credit-none : (h : PlacedStream) → may_credit h ≡ false → after_credit h ≡ h
credit-none h may = rw may refl

credit-one : (h : PlacedStream) → may_credit h ≡ true → after_credit h ≡ record h { credits = h.credits + 1 }
credit-one h may = rw may refl

and-false : (a b : Bool) → ((a && false) && b) ≡ false
and-false true b = refl
and-false false b = refl

-- A message that closed the circuit is no accepted SENDME.
pub closing_credits : (entry : Entry) (serial reason : ℕ) → entry.effects.close ≡ Some reason →
    (is_accepted sendme_command entry && has_place serial entry.message) ≡ false
closing_credits entry serial reason close =
    ap (λ (x : Option ℕ). (has_command sendme_command entry.message && is_none x) && has_place serial entry.message) close
    ∙ and-false (has_command sendme_command entry.message) (has_place serial entry.message)

sendme-by : (state : PlacesState) (rules : Rules) (log : Log) (e : Event) (m : Message) (place : ℕ) (h : PlacedStream) →
    ArePlaces state log → message_at log e ≡ Some m → m.command ≡ sendme_command → (m.stream == 0) ≡ false
    → m.place ≡ Some h.serial → held_at state place ≡ Some h →
    (b : Bool) → too_much log h.serial ≡ b → may_credit h ≡ (if b then false else true) →
    ArePlaces (with_held state place (Some (after_credit h))) (entry_after rules log e ∷ log)
sendme-by state rules log e m place h are found command nonzero named at true much may =
    let does : effects_after rules log e ≡ closing 1 =
    read-effects rules log e m found ∙ sendme-does rules log m h.serial command nonzero named ∙ sendme-closes log h.serial much in
    subst (λ x. ArePlaces (with_held state place (Some x)) (entry_after rules log e ∷ log)) (sym (credit-none h may))
    (unchanged_by state rules log e m place h are found at (ap (λ (x : Effects). x.edge) does)
    (λ serial. closing_credits (entry_after rules log e) serial 1 (ap (λ (x : Effects). x.close) does)))
sendme-by state rules log e m place h are found command nonzero named at false fits may =
    let entry : Entry = entry_after rules log e in
    let no_report : IsNoReport e = message_is_no_report log e m found in
    let does : effects_after rules log e ≡ no_effects =
    read-effects rules log e m found ∙ sendme-does rules log m h.serial command nonzero named ∙ sendme-raises log h.serial fits in
    let none : entry.effects.edge ≡ None = ap (λ (x : Effects). x.edge) does in
    let makes_none : place_of entry.effects.edge ≡ None = ap place_of none in
    let credits_by : (serial : ℕ) → (is_accepted sendme_command entry && has_place serial entry.message) ≡ (h.serial == serial) =
    λ serial. ap (λ (x : Option Message). (has_command sendme_command x && is_none entry.effects.close) && has_place serial x)
    found
    ∙ ap (λ n. ((n == sendme_command) && is_none entry.effects.close) && has_place serial (Some m)) command
    ∙ ap (λ (x : Effects). is_none x.close && has_place serial (Some m)) does
    ∙ ap (is_serial serial) named in
    let is : IsOfLog log h = are.streams place h at in
    let more : PlacedStream = record h { credits = h.credits + 1 } in
    let becomes : IsOfLog (entry ∷ log) more = record {
      place = is.place;
      found = place_stays entry log h.serial makes_none ∙ is.found;
      key = is.key;
      phase =
          phase_stays entry log h.serial (no_report.connects h.serial) (no_report.frees h.serial)
          (ap (closes_place h.serial) none)
          ∙ is.phase;
      packed = is.packed ∙ sym (packaged_stays entry log h.serial (no_report.packs h.serial));
      credits = ap (λ n. n + 1) is.credits ∙ sym (sendmes_more entry log h.serial (credits_by h.serial ∙ equal_to h.serial));
      accepted = is.accepted ∙ sym (carried_stays entry log h.serial (ap (carries h.serial) none));
      drained = is.drained ∙ sym (drained_stays entry log h.serial (no_report.drains h.serial));
    } in
    subst (λ x. ArePlaces (with_held state place (Some x)) (entry ∷ log)) (sym (credit-one h may))
    (stream_changes state log entry place h more at makes_none
    (λ serial apart. orderless_is_silent entry serial none (credits_by serial ∙ unequal h.serial serial apart)
    (no_report.connects serial) (no_report.frees serial) (no_report.packs serial) (no_report.drains serial))
    refl becomes are)

at_most_by : (a b : ℕ) (t : Bool) → nat_lt b a ≡ t → nat_le a b ≡ (if t then false else true)
at_most_by a b true is = grind arith
at_most_by a b false is = grind arith

pub sendme_credits : (state : PlacesState) (rules : Rules) (log : Log) (e : Event) (m : Message) (place : ℕ) (h : PlacedStream) →
    ArePlaces state log → message_at log e ≡ Some m → m.command ≡ sendme_command → 0 < m.stream → m.place ≡ Some h.serial
    → held_at state place ≡ Some h →
    ArePlaces (with_held state place (Some (after_credit h))) (entry_after rules log e ∷ log)
sendme_credits state rules log e m place h are found command stream named at =
    let is : IsOfLog log h = are.streams place h at in
    let nonzero : (m.stream == 0) ≡ false = grind arith in
    let may : may_credit h ≡ (if too_much log h.serial then false else true) =
    ap (λ n. nat_le (pack_grant h + 50) (500 + n)) is.packed
    ∙ ap (λ n. nat_le (500 + 50 * n + 50) (500 + stream_packaged log h.serial)) is.credits
    ∙ at_most_by (stream_grant log h.serial + stream_step) (stream_start + stream_packaged log h.serial) (too_much log h.serial)
    refl in
    sendme-by state rules log e m place h are found command nonzero named at (too_much log h.serial) refl may
