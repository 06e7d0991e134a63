use Rattle.std.proofs.Common.{subst}
use Rattle.stream_edge.specs.PlacesState.{PlacesState, IsCounted}
use Rattle.stream_edge.proofs.places.Places.stream_at.Goals as goal

pub returns-clause-counted : goal.returns-clause-counted
returns-clause-counted c =
    subst (λ (s : PlacesState). IsCounted c.in-Some.stream s.calls) c.self.view_is
    (c.self.invariant.counted c.args.place.0 c.in-Some.stream c.in-Some.is)
