-- One hop's layer of encryption on relay cells (tor-spec, "Routing relay cells", "Ciphers" and
-- "Relay cells"): what a relay makes of the bodies of 509 bytes that come to it. A layer's two
-- directions have keys, keystreams and running digests of their own.
use Rattle.std.specs.Prelude.{ℕ, ◌+◌, ◌&&◌, [], ◌∷◌, ◌++◌, List, Bool, if◌then◌else◌, Option, Some, None, take, drop, bit_xor, bytes_eq}
use Rattle.std.specs.Simd.Lanes.{zip2}
use Rattle.crypto_spec.specs.Keystream.{keystream_part}
use Rattle.crypto_spec.specs.RunningDigest.{running_digest}

-- A body with the keystream of a cipher key put on or taken off, from this byte of the keystream on.
unfoldable pub layered : List ℕ → ℕ → List ℕ → List ℕ
layered key position body = zip2 bit_xor body (keystream_part key position 509)

-- ---- away from the client: the relay takes its layer off

-- Kf and Df, the number of the next byte of keystream, and the bodies that were meant for this hop,
-- with the layer off.
pub record OpeningLayer : Type 0 where
  pub key : List ℕ
  pub seed : List ℕ
  pub position : ℕ
  pub absorbed : List (List ℕ)

-- At first no byte of keystream is used and nothing has gone by.
abbrev pub fresh_opening : List ℕ → List ℕ → OpeningLayer
fresh_opening key seed = record { key = key; seed = seed; position = 0; absorbed = [] }

-- A body with the layer off and, where it is meant for this hop, the 20 bytes of the running digest
-- with it.
pub record OpenedBody : Type 0 where
  pub body : List ℕ
  pub recognised : Option (List ℕ)

-- Behind the bodies recognised before it, a body is recognised as meant for this hop where the field
-- Recognized, 2 bytes at offset 1, is zero and the field Digest, 4 bytes at offset 5, begins the
-- running digest with it.
unfoldable pub is_recognised : List ℕ → List (List ℕ) → List ℕ → Bool
is_recognised seed before plain =
    bytes_eq (take 2 (drop 1 plain)) (0 ∷ 0 ∷ [])
    && bytes_eq (take 4 (drop 5 plain)) (take 4 (running_digest seed (before ++ plain ∷ [])))

-- What comes out of the next body.
unfoldable pub opened : OpeningLayer → List ℕ → OpenedBody
opened layer body =
    let plain = layered layer.key layer.position body in
    record {
      body = plain;
      recognised =
          if is_recognised layer.seed layer.absorbed plain then Some (running_digest layer.seed (layer.absorbed ++ plain ∷ []))
          else None;
    }

-- The layer behind it. A body that is not recognised leaves the running digest as it was.
unfoldable pub after_opening : OpeningLayer → List ℕ → OpeningLayer
after_opening layer body =
    let plain = layered layer.key layer.position body in
    record layer {
      position = layer.position + 509;
      absorbed = if is_recognised layer.seed layer.absorbed plain then layer.absorbed ++ plain ∷ [] else layer.absorbed;
    }

-- The same for bodies that come one after another.
abbrev pub opened_all : OpeningLayer → List (List ℕ) → List OpenedBody
opened_all layer [] = []
opened_all layer (body ∷ bodies) = opened layer body ∷ opened_all (after_opening layer body) bodies

abbrev pub after_opening_all : OpeningLayer → List (List ℕ) → OpeningLayer
after_opening_all layer [] = layer
after_opening_all layer (body ∷ bodies) = after_opening_all (after_opening layer body) bodies

-- ---- towards the client: the relay puts its layer on

-- The bodies with the keystream of Kb put on, from this byte of it on.
abbrev pub sealed_all : List ℕ → ℕ → List (List ℕ) → List (List ℕ)
sealed_all key position [] = []
sealed_all key position (body ∷ bodies) = layered key position body ∷ sealed_all key (position + 509) bodies
