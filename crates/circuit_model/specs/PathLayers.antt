-- The layers of a client's path of several hops (tor-spec, "Routing relay cells", "Relay cells"): what the
-- client makes of a body for its last hop, and as which hop's it recognises a body that comes back.
use Rattle.std.specs.Prelude.{ℕ, ◌+◌, ◌*◌, [], ◌∷◌, ◌++◌, List, if◌then◌else◌, Option, Some, None, take}
use Rattle.crypto_spec.specs.HopLayer.{layered, is_recognised}
use Rattle.crypto_spec.specs.RunningDigest.{running_digest}
use Rattle.tor_spec.specs.RelayCell.{with_digest}
use Rattle.kdf_tor.specs.declared.LayerKeys.{LayerKeys}

-- What the client shares with one hop, and what has gone between them so far.
pub record PathHop : Type 0 where
  pub keys : LayerKeys
  -- how many bodies the client sent through this hop's layer, and how many came back through it
  pub sent_count : ℕ
  pub came_count : ℕ
  -- the bodies that the client meant for this hop, and those that it recognised as this hop's, oldest
  -- first, without layers
  pub meant_bodies : List (List ℕ)
  pub hop_bodies : List (List ℕ)

-- ---- away from the client

-- A body for this hop with its Digest: the first four bytes of the running digest of all bodies that were
-- meant for the hop, with this one.
abbrev pub digested_for : PathHop → List ℕ → List ℕ
digested_for hop body = with_digest body (take 4 (running_digest hop.keys.df (hop.meant_bodies ++ body ∷ [])))

-- A body with the layers of these hops put on, the first hop's outermost: body number n that is sent
-- through a hop, from 0, uses the 509 bytes of its keystream from number 509 n on.
abbrev pub layered_for : List PathHop → List ℕ → List ℕ
layered_for [] body = body
layered_for (hop ∷ hops) body = layered hop.keys.kf (509 * hop.sent_count) (layered_for hops body)

-- What the client sends of a body for its last hop, behind these others.
abbrev pub sealed_for : List PathHop → PathHop → List ℕ → List ℕ
sealed_for others last body = layered_for (others ++ last ∷ []) (digested_for last body)

-- The hops behind it.
abbrev pub passed : List PathHop → List PathHop
passed [] = []
passed (hop ∷ hops) = record hop { sent_count = hop.sent_count + 1 } ∷ passed hops

abbrev pub after_sending : List PathHop → PathHop → List ℕ → List PathHop
after_sending others last body =
    passed others
    ++ record last { sent_count = last.sent_count + 1; meant_bodies = last.meant_bodies ++ digested_for last body ∷ [] } ∷ []

-- ---- towards the client

-- A body with this hop's layer taken off: body number n that comes back through the hop, from 0.
abbrev pub peeled : PathHop → List ℕ → List ℕ
peeled hop body = layered hop.keys.kb (509 * hop.came_count) body

-- The hop that sealed a body, by its number on the path, and that body without layers.
pub record FromHop : Type 0 where
  pub hop : ℕ
  pub body : List ℕ

-- A body is the first hop's that recognises it once the layers up to its own are off. These hops are
-- numbered from i on.
abbrev pub recognised_from : ℕ → List PathHop → List ℕ → Option FromHop
recognised_from i [] body = None
recognised_from i (hop ∷ hops) body =
    if is_recognised hop.keys.db hop.hop_bodies (peeled hop body)
    then Some (record { hop = i; body = peeled hop body })
    else recognised_from (i + 1) hops (peeled hop body)

-- The first hop of a path has number 1.
abbrev pub recognised_as : List PathHop → List ℕ → Option FromHop
recognised_as hops body = recognised_from 1 hops body

-- The hops behind it: the body came through the hop that sealed it and through those before that one.
abbrev pub after_coming : List PathHop → List ℕ → List PathHop
after_coming [] body = []
after_coming (hop ∷ hops) body =
    if is_recognised hop.keys.db hop.hop_bodies (peeled hop body)
    then record hop { came_count = hop.came_count + 1; hop_bodies = hop.hop_bodies ++ peeled hop body ∷ [] } ∷ hops
    else record hop { came_count = hop.came_count + 1 } ∷ after_coming hops (peeled hop body)
