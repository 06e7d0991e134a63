-- A stream that is live with a DATA undrained, by what the places hold of it.
use Rattle.std.proofs.Common.{◌≡◌, ◌≢◌, ℕ, Bool, true, Some, position, sym, ◌∙◌}
use Rattle.std.proofs.lemmas.Bool.{ltb-true, lt-ltb}
use Rattle.tr_io.specs.declared.names.StreamKey.{StreamKey}
use Rattle.stream_edge.specs.declared.placed_stream.PlacedStream.{PlacedStream}
use Rattle.stream_edge.specs.declared.placed_stream.Phase.{Phase}
use Rattle.stream_edge.specs.declared.placed_stream.Phase.TheVariants.{Ending}
use Rattle.stream_edge.specs.PlacesState.{held_at}
use Rattle.stream_edge.specs.Streams.{is_stream, may_drain}
use Rattle.circ_relay.specs.declared.circuit.Circuit.{Circuit}
use Rattle.circ_relay.specs.CircuitOfLog.{HasStream, HasUndrained}
use Rattle.circ_relay.proofs.Edges.{at_found}

-- A stream of this name is in a phase, and stands at this place: what the place holds tells of it.
pub undrained_by_test : (c : Circuit) (key : StreamKey) (phase : Phase) (place : ℕ) (result : Bool) → HasStream c key phase
    → phase ≢ Ending
    → position (is_stream key.id key.serial) c.places.streams ≡ Some place
    → ((h : PlacedStream) → held_at c.places place ≡ Some h → result ≡ may_drain h)
    → (result ≡ true → HasUndrained c key) × (HasUndrained c key → result ≡ true)
undrained_by_test c key phase place result has live first test =
    let at = at_found c key has.place place has.stream has.at first in
    let tells : result ≡ may_drain has.stream = test has.stream at.held in (
      (λ is. record {
        place = place;
        stream = has.stream;
        at = at;
        live = λ ends. live (sym has.now ∙ ends);
        undrained = ltb-true has.stream.drained has.stream.accepted (sym tells ∙ is);
      }),
      (λ undrained.
          let there = at_found c key undrained.place place undrained.stream undrained.at first in
          test undrained.stream there.held ∙ lt-ltb undrained.stream.drained undrained.stream.accepted undrained.undrained),
    )
