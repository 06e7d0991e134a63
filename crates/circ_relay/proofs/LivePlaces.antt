-- The live place of a StreamID, by what the circuit keeps.
use Rattle.std.proofs.Common.{option_map, ◌≡◌, ◌≢◌, ℕ, ◌==◌, true, Option, Some, None, refl, sym, ap, ◌∙◌}
use Rattle.std.specs.Prelude.{position, IfSome, IfNone}
use Rattle.std.proofs.lemmas.List.Quantifiers.{position-Some}
use Rattle.stream_edge.specs.declared.places.PlaceNo.{PlaceNo}
use Rattle.stream_edge.specs.declared.placed_stream.Phase.{Phase as HeldPhase}
use Rattle.stream_edge.specs.declared.placed_stream.Phase.TheVariants.{Reaching, Joined, Ending}
use Rattle.stream_edge.specs.Streams.{is_live_as, is_live_phase}
use Rattle.circuit_model.specs.Places.{live_place}
use Rattle.circ_relay.proofs.Reading.{live_found, none_live}
use Rattle.stream_edge.specs.PlacesState.{PlacesState, IsLive, held_at}
use Rattle.stream_edge.specs.declared.placed_stream.PlacedStream.{PlacedStream}
use Rattle.circuit_model.specs.Log.{Log}
use Rattle.circ_relay.specs.PlacesOfLog.{ArePlaces, AreNamed}
use Rattle.circ_relay.proofs.Lists.{same_some}
use Rattle.circuit_model.specs.Streams.{ending}
use Rattle.circ_relay.proofs.Bools.{and-right}

not_ending : (p : HeldPhase) → is_live_phase p ≡ true → p ≢ Ending
not_ending Reaching is ending = cc
not_ending Joined is ending = cc
not_ending Ending is ending = cc

held_live-by : (id : ℕ) (held : Option PlacedStream) → is_live_as id held ≡ true → (h : PlacedStream) × (held ≡ Some h)
    × (h.phase ≢ Ending)
held_live-by id None is = cc
held_live-by id (Some h) is = (h, refl, not_ending h.phase (and-right (h.stream == id) (is_live_phase h.phase) is))

pub live_held : (s : PlacesState) (id : ℕ) (found : Option PlaceNo)
    → option_map (λ place. place.0) found ≡ position (is_live_as id) s.streams
    → IfSome found (λ place. IsLive s place.0)
live_held s id None is = tt
live_held s id (Some place) is =
    held_live-by id (held_at s place.0) (position-Some (is_live_as id) s.streams place.0 None (sym is)).1

pub live_serial_of : (s : PlacesState) (id : ℕ) (found : Option PlaceNo)
    → option_map (λ place. place.0) found ≡ position (is_live_as id) s.streams
    → IfSome found (λ place. (log : Log) (h : PlacedStream) → ArePlaces s log → AreNamed log → held_at s place.0 ≡ Some h
    → live_place log id ≡ Some h.serial)
live_serial_of s id None is = tt
live_serial_of s id (Some place) is = λ log h are named holds.
    let first = live_found s log id place.0 are named (sym is) in
    first.4 ∙ ap (λ (k : PlacedStream). Some k.serial) (same_some first.0 h (sym first.1 ∙ holds))

pub none_live_of : (s : PlacesState) (id : ℕ) (found : Option PlaceNo)
    → option_map (λ place. place.0) found ≡ position (is_live_as id) s.streams
    → IfNone found ((log : Log) → ArePlaces s log → AreNamed log → live_place log id ≡ None)
none_live_of s id None is = λ log are named. none_live s log id are named (sym is)
none_live_of s id (Some place) is = tt
