-- What an entry says of a place, and how the words over a log go on with one more entry.
use Rattle.std.proofs.Common.{Some, ◌≡◌, ◌≢◌, ℕ, ◌+◌, ◌&&◌, List, ◌∷◌, Bool, true, false, if◌then◌else◌, Option, None, refl, sym, ap, ◌∙◌}
use Rattle.std.specs.Prelude.{slice_get, is_none}
use Rattle.tor_spec.specs.RelayCell.{sendme_command}
use Rattle.circuit_model.specs.Log.{Entry, Log, Message}
use Rattle.circuit_model.specs.declared.places.Phase.{Phase}
use Rattle.circuit_model.specs.declared.places.Phase.TheVariants.{Reaching, Joined, Ending, Free}
use Rattle.circuit_model.specs.Places.{Place, places, place_at, place_of, phase, connects, frees, closes_place, is_connected, is_ended, is_freed}
use Rattle.circuit_model.specs.Windows.{stream_packaged, stream_sendmes, carried_count, drained_count, is_data_of, is_accepted, has_command, has_place, carries, drains}
use Rattle.stream_edge.specs.declared.placed_stream.PlacedStream.{PlacedStream}
use Rattle.circ_relay.specs.PlacesOfLog.{IsOfLog, IsUntold, IsSilent}

-- An entry without a Reach order makes no place.
pub places_stay : (entry : Entry) (log : Log) → place_of entry.effects.edge ≡ None → places (entry ∷ log) ≡ places log
places_stay entry log none = rw none refl

pub place_stays : (entry : Entry) (log : Log) (serial : ℕ) → place_of entry.effects.edge ≡ None
    → place_at (entry ∷ log) serial ≡ place_at log serial
place_stays entry log serial none = ap (λ (xs : List Place). slice_get xs serial) (places_stay entry log none)

-- The phase.

pub phase_stays : (entry : Entry) (log : Log) (serial : ℕ) →
    connects serial entry.event ≡ false → frees serial entry.event ≡ false → closes_place serial entry.effects.edge ≡ false →
    phase (entry ∷ log) serial ≡ phase log serial
unfolding phase
phase_stays entry log serial connects frees closes = rw (connects, frees, closes) refl

pub phase_freed : (entry : Entry) (log : Log) (serial : ℕ) → frees serial entry.event ≡ true → phase (entry ∷ log) serial ≡ Free
unfolding phase
phase_freed entry log serial frees = rw frees refl

unfoldable pub by_bits : Bool → Bool → Bool → Phase
by_bits freed ended connected = if freed then Free else (if ended then Ending else (if connected then Joined else Reaching))

not_freed_by : (freed ended connected : Bool) (p : Phase) → by_bits freed ended connected ≡ p → p ≢ Free → freed ≡ false
unfolding by_bits
not_freed_by true ended connected p is other = absurd (other (sym is))
not_freed_by false ended connected p is other = refl

not_ended_by : (freed ended connected : Bool) → by_bits freed ended connected ≡ Reaching → ended ≡ false
unfolding by_bits
not_ended_by true ended connected is = cc
not_ended_by false true connected is = cc
not_ended_by false false connected is = refl

not_freed : (log : Log) (serial : ℕ) → phase log serial ≢ Free → is_freed log serial ≡ false
unfolding phase by_bits
not_freed log serial other =
    not_freed_by (is_freed log serial) (is_ended log serial) (is_connected log serial) (phase log serial) refl other

not_ended : (log : Log) (serial : ℕ) → phase log serial ≡ Reaching → is_ended log serial ≡ false
unfolding phase by_bits
not_ended log serial is = not_ended_by (is_freed log serial) (is_ended log serial) (is_connected log serial) is

reaching_lasts : (p : Phase) → p ≡ Reaching → p ≢ Free
reaching_lasts p is free = cc

pub phase_joined : (entry : Entry) (log : Log) (serial : ℕ) → phase log serial ≡ Reaching →
    connects serial entry.event ≡ true → frees serial entry.event ≡ false → closes_place serial entry.effects.edge ≡ false →
    phase (entry ∷ log) serial ≡ Joined
unfolding phase
phase_joined entry log serial is connects frees closes =
    rw (connects, frees, closes, not_freed log serial (reaching_lasts (phase log serial) is), not_ended log serial is) refl

pub phase_ending : (entry : Entry) (log : Log) (serial : ℕ) → phase log serial ≢ Free →
    frees serial entry.event ≡ false → closes_place serial entry.effects.edge ≡ true →
    phase (entry ∷ log) serial ≡ Ending
unfolding phase
phase_ending entry log serial other frees closes = rw (frees, closes, not_freed log serial other) refl

-- The counts.

pub packaged_stays : (entry : Entry) (log : Log) (serial : ℕ) → is_data_of serial entry.event ≡ false
    → stream_packaged (entry ∷ log) serial ≡ stream_packaged log serial
packaged_stays entry log serial other = rw other refl

pub packaged_more : (entry : Entry) (log : Log) (serial : ℕ) → is_data_of serial entry.event ≡ true
    → stream_packaged (entry ∷ log) serial ≡ stream_packaged log serial + 1
packaged_more entry log serial is = rw is refl

pub sendmes_stay : (entry : Entry) (log : Log) (serial : ℕ)
    → (is_accepted sendme_command entry && has_place serial entry.message) ≡ false
    → stream_sendmes (entry ∷ log) serial ≡ stream_sendmes log serial
sendmes_stay entry log serial other = rw other refl

pub sendmes_more : (entry : Entry) (log : Log) (serial : ℕ)
    → (is_accepted sendme_command entry && has_place serial entry.message) ≡ true
    → stream_sendmes (entry ∷ log) serial ≡ stream_sendmes log serial + 1
sendmes_more entry log serial is = rw is refl

pub carried_stays : (entry : Entry) (log : Log) (serial : ℕ) → carries serial entry.effects.edge ≡ false
    → carried_count (entry ∷ log) serial ≡ carried_count log serial
carried_stays entry log serial other = rw other refl

pub carried_more : (entry : Entry) (log : Log) (serial : ℕ) → carries serial entry.effects.edge ≡ true
    → carried_count (entry ∷ log) serial ≡ carried_count log serial + 1
carried_more entry log serial is = rw is refl

pub drained_stays : (entry : Entry) (log : Log) (serial : ℕ) → drains serial entry.event ≡ false
    → drained_count (entry ∷ log) serial ≡ drained_count log serial
drained_stays entry log serial other = rw other refl

pub drained_more : (entry : Entry) (log : Log) (serial : ℕ) → drains serial entry.event ≡ true
    → drained_count (entry ∷ log) serial ≡ drained_count log serial + 1
drained_more entry log serial is = rw is refl

-- An entry that is silent on a place.

pub untold_stays : (entry : Entry) (log : Log) (serial : ℕ) → IsSilent entry serial → IsUntold log serial
    → IsUntold (entry ∷ log) serial
untold_stays entry log serial silent untold = record {
  phase = phase_stays entry log serial silent.connects silent.frees silent.closes ∙ untold.phase;
  packed = packaged_stays entry log serial silent.packs ∙ untold.packed;
  credits = sendmes_stay entry log serial silent.credits ∙ untold.credits;
  accepted = carried_stays entry log serial silent.carries ∙ untold.accepted;
  drained = drained_stays entry log serial silent.drains ∙ untold.drained;
}

pub silent_phase : (entry : Entry) (log : Log) (serial : ℕ) → IsSilent entry serial
    → phase (entry ∷ log) serial ≡ phase log serial
silent_phase entry log serial silent = phase_stays entry log serial silent.connects silent.frees silent.closes

pub stream_at_its_place : (entry : Entry) (log : Log) (h : PlacedStream) (is : IsOfLog log h)
    → place_at (entry ∷ log) h.serial ≡ Some is.place → IsSilent entry h.serial → IsOfLog (entry ∷ log) h
stream_at_its_place entry log h is found silent = record {
  place = is.place;
  found = found;
  key = is.key;
  phase = silent_phase entry log h.serial silent ∙ is.phase;
  packed = is.packed ∙ sym (packaged_stays entry log h.serial silent.packs);
  credits = is.credits ∙ sym (sendmes_stay entry log h.serial silent.credits);
  accepted = is.accepted ∙ sym (carried_stays entry log h.serial silent.carries);
  drained = is.drained ∙ sym (drained_stays entry log h.serial silent.drains);
}

pub stream_stays : (entry : Entry) (log : Log) (h : PlacedStream) → place_of entry.effects.edge ≡ None → IsSilent entry h.serial
    → IsOfLog log h → IsOfLog (entry ∷ log) h
stream_stays entry log h none silent is =
    stream_at_its_place entry log h is (place_stays entry log h.serial none ∙ is.found) silent

-- An entry that brings no message has no place accept a SENDME.
pub no_message_credits : (entry : Entry) (serial : ℕ) → entry.message ≡ None
    → (is_accepted sendme_command entry && has_place serial entry.message) ≡ false
no_message_credits entry serial none =
    ap (λ (m : Option Message). (has_command sendme_command m && is_none entry.effects.close) && has_place serial m) none
