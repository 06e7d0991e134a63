use Rattle.std.proofs.Common.{◌≡◌, ℕ, ◌+◌, ◌^◌, ◌<◌, Some, sym, subst}
use Rattle.std.specs.Prelude.{IsTrue}
use Rattle.stream_edge.specs.declared.placed_stream.PlacedStream.{PlacedStream}
use Rattle.stream_edge.specs.Streams.{is_live_as}
use Rattle.stream_edge.specs.PlacesState.{PlacesState, IsCounted, held_at}
use Rattle.stream_edge.proofs.Stepping.{IsInStep-put}
use Rattle.stream_edge.proofs.places.Places.put.Goals as goal

pub invariant_of-self : goal.invariant_of-self
invariant_of-self c =
    let place = c.args.place.0 in
    let content = c.args.stream in
    let here : PlacesState =
    record { streams = c.self.inside.streams; next_serial = c.self.inside.next_serial; calls = c.self.inside.calls } in
    IsInStep-put here place content c.self.invariant
    (subst (λ (s : PlacesState). s.calls < 2 ^ 63) (sym c.self.view_is) c.requires.calls)
    c.requires.within
    (subst (λ (s : PlacesState). (h : PlacedStream) → content ≡ Some h → IsCounted h (s.calls + 1)) (sym c.self.view_is)
    c.requires.counted)
    (subst (λ (s : PlacesState). (id : ℕ) → IsTrue (is_live_as id content) → IsTrue (is_live_as id (held_at s place)))
    (sym c.self.view_is) c.requires.lives)
