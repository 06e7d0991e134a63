-- What an order Close and an ended connection do to a stream.
use Rattle.std.proofs.Common.{◌≡◌, ℕ, ◌==◌, ◌&&◌, ◌∷◌, false, Some, None, refl, sym, ap, ◌∙◌}
use Rattle.tor_spec.specs.RelayCell.{sendme_command}
use Rattle.circuit_model.specs.declared.event.Event.TheVariants.{Ended}
use Rattle.circuit_model.specs.Rules.{Rules}
use Rattle.circuit_model.specs.Log.{Entry, Log, StreamKey, is_closed}
use Rattle.circuit_model.specs.declared.effects.Order.TheVariants.{Close}
use Rattle.circuit_model.specs.Places.{Place, place_of, place_at, connects, frees, closes_place}
use Rattle.circuit_model.specs.Windows.{is_data_of, is_accepted, has_place, carries, drains}
use Rattle.circuit_model.specs.Effects.{open_effects, effects_after}
use Rattle.circuit_model.specs.Words.{entry_after}
use Rattle.stream_edge.specs.declared.placed_stream.PlacedStream.{PlacedStream}
use Rattle.stream_edge.specs.declared.placed_stream.Phase.TheVariants.{Ending as held_ending}
use Rattle.stream_edge.specs.PlacesState.{PlacesState, held_at, with_held}
use Rattle.circ_relay.specs.PlacesOfLog.{IsOfLog, ArePlaces}
use Rattle.circ_relay.proofs.Telling.{place_stays, phase_ending, packaged_stays, sendmes_stay, carried_stays, drained_stays, no_message_credits}
use Rattle.circ_relay.proofs.Changing.{stream_changes}
use Rattle.circ_relay.proofs.Reports.{equal_to, unequal, held_lasts, nothing_by}

-- The entry ends one place and says nothing else.
pub record IsClosing (entry : Entry) (key : StreamKey) (reason : ℕ) : Type 0 where
  pub order : entry.effects.edge ≡ Some (Close key reason)
  pub quiet : (serial : ℕ) → (is_accepted sendme_command entry && has_place serial entry.message) ≡ false
  pub connects : (serial : ℕ) → connects serial entry.event ≡ false
  pub frees : (serial : ℕ) → frees serial entry.event ≡ false
  pub packs : (serial : ℕ) → is_data_of serial entry.event ≡ false
  pub drains : (serial : ℕ) → drains serial entry.event ≡ false

pub order_closes : (state : PlacesState) (log : Log) (entry : Entry) (place : ℕ) (h : PlacedStream) (key : StreamKey) (reason : ℕ)
    →
    ArePlaces state log → held_at state place ≡ Some h → key.serial ≡ h.serial → IsClosing entry key reason →
    ArePlaces (with_held state place (Some (record h { phase = held_ending }))) (entry ∷ log)
order_closes state log entry place h key reason are at named closing =
    let makes_none : place_of entry.effects.edge ≡ None = ap place_of closing.order in
    let closes : (serial : ℕ) → closes_place serial entry.effects.edge ≡ (key.serial == serial) =
    λ serial. ap (closes_place serial) closing.order in
    let carries_none : (serial : ℕ) → carries serial entry.effects.edge ≡ false = λ serial. ap (carries serial) closing.order in
    let is : IsOfLog log h = are.streams place h at in
    let ended : PlacedStream = record h { phase = held_ending } in
    let becomes : IsOfLog (entry ∷ log) ended = record {
      place = is.place;
      found = place_stays entry log h.serial makes_none ∙ is.found;
      key = is.key;
      phase = phase_ending entry log h.serial (λ free. held_lasts h.phase (sym is.phase ∙ free)) (closing.frees h.serial)
          (closes h.serial ∙ ap (λ n. n == h.serial) named ∙ equal_to h.serial);
      packed = is.packed ∙ sym (packaged_stays entry log h.serial (closing.packs h.serial));
      credits = is.credits ∙ sym (sendmes_stay entry log h.serial (closing.quiet h.serial));
      accepted = is.accepted ∙ sym (carried_stays entry log h.serial (carries_none h.serial));
      drained = is.drained ∙ sym (drained_stays entry log h.serial (closing.drains h.serial));
    } in
    stream_changes state log entry place h ended at makes_none
    (λ serial apart. record {
      connects = closing.connects serial;
      frees = closing.frees serial;
      closes = closes serial ∙ unequal key.serial serial (λ same. apart (same ∙ named));
      packs = closing.packs serial;
      credits = closing.quiet serial;
      carries = carries_none serial;
      drains = closing.drains serial;
    })
    refl becomes are

-- Ended.

ended-orders : (rules : Rules) (log : Log) (serial reason : ℕ) (place : Place) → is_closed log ≡ false
    → place_at log serial ≡ Some place →
    (effects_after rules log (Ended serial reason)).edge ≡ Some (Close place.key reason)
unfolding open_effects
ended-orders rules log serial reason place live found = rw (live, found) refl

pub ended_ends : (state : PlacesState) (rules : Rules) (log : Log) (place : ℕ) (h : PlacedStream) (reason : ℕ) →
    ArePlaces state log → is_closed log ≡ false → held_at state place ≡ Some h →
    ArePlaces (with_held state place (Some (record h { phase = held_ending })))
    (entry_after rules log (Ended h.serial reason) ∷ log)
ended_ends state rules log place h reason are live at =
    let entry : Entry = entry_after rules log (Ended h.serial reason) in
    let is : IsOfLog log h = are.streams place h at in
    order_closes state log entry place h is.place.key reason are at (ap (λ (k : StreamKey). k.serial) is.key) (record {
      order = ended-orders rules log h.serial reason is.place live is.found;
      quiet = λ serial. no_message_credits entry serial (nothing_by (is_closed log));
      connects = λ serial. refl;
      frees = λ serial. refl;
      packs = λ serial. refl;
      drains = λ serial. refl;
    })
