use Rattle.std.proofs.Common.{◌≡◌, ◌+◌, ◌^◌, ◌<◌, Some, None, position, sym, subst}
use Rattle.stream_edge.specs.declared.placed_stream.PlacedStream.{PlacedStream}
use Rattle.stream_edge.specs.Streams.{is_live_as}
use Rattle.stream_edge.specs.PlacesState.{PlacesState, IsInStep, with_held}
use Rattle.stream_edge.proofs.Stepping.{IsInStep-called, IsInStep-begun}
use Rattle.stream_edge.proofs.places.Places.take_place.Goals as goal

pub invariant_of-self : goal.invariant_of-self
invariant_of-self c =
    let here : PlacesState =
    record { streams = c.self.inside.streams; next_serial = c.self.inside.next_serial; calls = c.self.inside.calls } in
    IsInStep-called here c.self.invariant (subst (λ (s : PlacesState). s.calls < 2 ^ 63) (sym c.self.view_is) c.requires.calls)

pub invariant_of-self-2 : goal.invariant_of-self-2
invariant_of-self-2 c =
    let here : PlacesState =
    record { streams = c.self.inside.streams; next_serial = c.self.inside.next_serial; calls = c.self.inside.calls } in
    let id = c.args.id in
    let place = c.in_ok-place.place in
    let next : PlacedStream → PlacesState = λ h. record (with_held here place (Some h)) { next_serial = here.next_serial + 1 } in
    subst (λ (h : PlacedStream). IsInStep (next h)) (sym c.begun.ensures)
    (IsInStep-begun here place id c.self.invariant
    (subst (λ (s : PlacesState). s.calls < 2 ^ 63) (sym c.self.view_is) c.requires.calls)
    c.in_ok-place.ensures.within
    (subst (λ (s : PlacesState). position (is_live_as id) s.streams ≡ None) (sym c.self.view_is) c.requires.new))

pub returns-clause-live_once : goal.returns-clause-live_once
returns-clause-live_once c = (invariant_of-self-2 c).live_once
