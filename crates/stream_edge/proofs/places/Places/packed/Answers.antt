use Rattle.std.proofs.Common.{◌+◌, subst}
use Rattle.std.proofs.lemmas.Option.{same_Some}
use Rattle.stream_edge.specs.PlacesState.{IsCounted}
use Rattle.stream_edge.specs.Streams.{after_packaging}
use Rattle.stream_edge.proofs.Stepping.{packaged_counted}
use Rattle.stream_edge.proofs.places.Places.packed.Goals as goal

pub put-requires-clause-counted : goal.put-requires-clause-counted
put-requires-clause-counted c = λ h same.
    let stream = c.stream_at-stream.result in
    subst (λ g. IsCounted g (c.args.self.now.calls + 1)) (same_Some (after_packaging stream) h same)
    (packaged_counted stream c.args.self.now.calls c.stream_at-stream.ensures.counted
    (c.requires.room stream c.stream_at-stream.ensures.held))
