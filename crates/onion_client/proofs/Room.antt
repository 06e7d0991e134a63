-- The keystreams of a path's hops.
use Rattle.std.proofs.Common.{◌≡◌, ℕ, zero, suc, ◌<◌, [], ◌∷◌, ◌++◌, List, length, get_or, sym, subst, arith}
use Rattle.std.specs.List.{All}
use Rattle.kdf_tor.specs.declared.LayerKeys.{LayerKeys}
use Rattle.onion_client.specs.declared.hop.Hop.{Hop}
use Rattle.onion_client.specs.LayerState.{fresh_hop}
use Rattle.onion_client.specs.Hops.{HasKeystream, hop_of}

one_more : (hops : List Hop) (hop : Hop) → All HasKeystream hops → HasKeystream hop →
    (k : ℕ) (d : Hop) → k < length (hops ++ hop ∷ []) → HasKeystream (get_or (hops ++ hop ∷ []) k d)
one_more [] hop all there zero d within = there
one_more [] hop all there (suc k) d within = absurd (omega arith)
one_more (first ∷ hops) hop all there zero d within = all zero d (omega arith)
one_more (first ∷ hops) hop all there (suc k) d within =
    one_more hops hop (λ j e below. all (suc j) e (omega arith)) there k d (omega arith)

fresh_room : (keys : LayerKeys) → HasKeystream (hop_of (fresh_hop keys))
fresh_room keys = record { forth = omega arith; back = omega arith }

pub room_joined : (hops more : List Hop) (keys : LayerKeys) → more ≡ hops ++ hop_of (fresh_hop keys) ∷ [] → All HasKeystream hops
    → All HasKeystream more
room_joined hops more keys grown all =
    subst (λ (hs : List Hop). All HasKeystream hs) (sym grown) (one_more hops (hop_of (fresh_hop keys)) all (fresh_room keys))
