use Rattle.std.proofs.Common.{[], ◌∷◌, ◌++◌, List, ap, ◌∙◌}
use Rattle.cell_codec.specs.Roomy.{Roomy}
use Rattle.onion_client.specs.declared.hop.Hop.{Hop}
use Rattle.onion_client.proofs.Room.{room_joined}
use Rattle.onion_client.proofs.layers.Layers.join.Goals as goal

pub returns-clause-keystream : goal.returns-clause-keystream
returns-clause-keystream c =
    room_joined c.args.self.now.items c.push_reserved.new.self.items c.args.keys.now
    (c.push_reserved.ensures.items
    ∙ ap (λ (hops : List Hop). hops ++ c.of.result ∷ [])
    (c.reserve.ensures.items ∙ ap (λ (r : Roomy Hop). r.items) c.self.view_is)
    ∙ ap (λ (hop : Hop). c.args.self.now.items ++ hop ∷ []) c.of.ensures)
