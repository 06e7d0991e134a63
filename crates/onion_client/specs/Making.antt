-- The relay cells that a client makes for its last hop (tor-spec, "Routing relay cells", "Relay cells").
use Rattle.std.specs.Prelude.{ℕ, ◌+◌, [], ◌∷◌, ◌++◌, List}
use Rattle.crypto_spec.specs.RunningDigest.{running_digest}
use Rattle.cell_codec.specs.declared.cell.Cell.{Cell}
use Rattle.tor_spec.specs.CellCommands.{relay_command}
use Rattle.circuit_model.specs.Packaged.{padded_by}
use Rattle.circuit_model.specs.PathLayers.{PathHop, digested_for, sealed_for, after_sending}
use Rattle.hop_handshake.specs.Opening.{cell_with}
use Rattle.onion_client.specs.Calls.Answer.{Sends}
use Rattle.onion_client.specs.PathState.{PathState, Outcome}

-- The last hop of a path of these, and those before it.

abbrev pub last_of : PathHop → List PathHop → PathHop
last_of hop [] = hop
last_of hop (next ∷ hops) = last_of next hops

abbrev pub before_last : PathHop → List PathHop → List PathHop
before_last hop [] = []
before_last hop (next ∷ hops) = hop ∷ before_last next hops

-- A body with its Digest and all layers.
abbrev pub sealed_on : List PathHop → List ℕ → List ℕ
sealed_on [] body = body
sealed_on (hop ∷ hops) body = sealed_for (before_last hop hops) (last_of hop hops) body

-- The hops behind it.
abbrev pub sent_on : List PathHop → List ℕ → List PathHop
sent_on [] body = []
sent_on (hop ∷ hops) body = after_sending (before_last hop hops) (last_of hop hops) body

-- The 20 bytes of the running digest of all that the client meant for a hop, with this body.
abbrev pub digest_for : PathHop → List ℕ → List ℕ
digest_for hop body = running_digest hop.keys.df (hop.meant_bodies ++ digested_for hop body ∷ [])

abbrev pub digest_on : List PathHop → List ℕ → List ℕ
digest_on [] body = []
digest_on (hop ∷ hops) body = digest_for (last_of hop hops) body

-- The next body with its padding: by the key it is the keystream from number 509 m on for the body with
-- number m among all that the path made (own rule).
abbrev pub padded : PathState → List ℕ → List ℕ
padded p body = padded_by p.pad p.made_count body

-- The cell of this command that carries the next body.
abbrev pub cell_for : PathState → ℕ → List ℕ → Cell
cell_for p command body = cell_with p.circuit command (sealed_on p.hops (padded p body))

abbrev pub after_making : PathState → List ℕ → PathState
after_making p body = record p { made_count = p.made_count + 1; hops = sent_on p.hops (padded p body) }

-- The running digest after it, by which a circuit's SENDME will acknowledge it (proposal 289).
abbrev pub digest_of_next : PathState → List ℕ → List ℕ
digest_of_next p body = digest_on p.hops (padded p body)

-- The next body goes in a RELAY cell.
abbrev pub sending : PathState → List ℕ → Outcome
sending p body = record { answer = Sends (cell_for p relay_command body); state = after_making p body }
