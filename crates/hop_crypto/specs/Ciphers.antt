-- A direction's cipher, and what it makes of bodies.
use Rattle.std.specs.Prelude.{◌≡◌, ℕ, ◌+◌, ◌*◌, List, length, map, None}
use Rattle.tr_io.specs.declared.names.Dir.{Dir}
use Rattle.relay_cell.specs.declared.head.Opened.{Opened}
use Rattle.crypto_spec.specs.HopLayer.{OpeningLayer, OpenedBody, opened_all, after_opening_all, sealed_all}
use Rattle.aes_ctr.specs.StreamState.{StreamState}
use Rattle.hop_crypto.specs.OpenerState.{IsOpenerOfLayer, place_of, opener_of}
use Rattle.hop_crypto.specs.SealerState.{IsSealerOfLayer}
use Rattle.hop_crypto.specs.declared.ready.Direction.{Direction}
use Rattle.hop_crypto.specs.declared.ready.Direction.TheVariants.{Forth as forth_direction, Back as back_direction}
use Rattle.hop_crypto.specs.declared.cipher.Cipher.{Cipher}
use Rattle.hop_crypto.specs.declared.cipher.Cipher.TheVariants.{Forth, Back}

-- The direction that it serves.
abbrev pub direction_of : Cipher → Dir
direction_of (Forth opener) = Dir.Forth
direction_of (Back sealer) = Dir.Back

-- The number of the next byte of its keystream.
abbrev pub position_of : Cipher → ℕ
position_of (Forth opener) = opener.stream.position
position_of (Back sealer) = sealer.position

-- The key of its keystream.
abbrev pub key_of : Cipher → List ℕ
key_of (Forth opener) = opener.stream.key
key_of (Back sealer) = sealer.key

-- The cipher with this keystream that serves this direction.
abbrev pub cipher_of : StreamState → Direction → Cipher
cipher_of stream (forth_direction digest) = Forth (record { stream = place_of stream; digest = digest })
cipher_of stream back_direction = Back (place_of stream)

-- A layer has its state.
abbrev pub IsOfLayer : Cipher → Type 0
IsOfLayer (Forth opener) = IsOpenerOfLayer opener
IsOfLayer (Back sealer) = IsSealerOfLayer sealer

-- What comes out of a cipher, as the code's type holds it.

abbrev pub opened_from : OpenedBody → Opened
opened_from opened = record { body = opened.body; recognised = opened.recognised }

abbrev pub sealed_from : List ℕ → Opened
sealed_from body = record { body = body; recognised = None }

-- The bodies of input, one after another, went through the cipher start: output came out, and it was
-- the cipher end behind them. Forth this speaks of every layer that the opener is that of, and there is
-- one (`IsOfLayer`).
abbrev pub IsWorked : Cipher → List (List ℕ) → List Opened → Cipher → Type 0
IsWorked (Forth start) input output end =
    (layer : OpeningLayer) → start ≡ opener_of layer
    → (output ≡ map opened_from (opened_all layer input)) × (end ≡ Forth (opener_of (after_opening_all layer input)))
IsWorked (Back start) input output end =
    (output ≡ map sealed_from (sealed_all start.key start.position input))
    × (end ≡ Back (record start { position = start.position + 509 * length input }))
