-- A cipher in its parts.
use Rattle.std.proofs.Common.{◌≡◌, ℕ, List, length, refl, ap, ◌∙◌}
use Rattle.std.proofs.lemmas.List.FromFn.{length-map-range_with_len}
use Rattle.crypto_spec.specs.Keystream.{keystream, keystream_part}
use Rattle.aes_ctr.specs.StreamState.{StreamState}
use Rattle.hop_crypto.specs.declared.ready.Direction.{Direction}
use Rattle.hop_crypto.specs.declared.ready.Direction.TheVariants.{Forth, Back}
use Rattle.hop_crypto.specs.Ciphers.{key_of, position_of, cipher_of}
use Rattle.hop_crypto.specs.declared.cipher.Cipher.{Cipher}

key_of-cipher_of : (stream : StreamState) (direction : Direction) → stream.key ≡ key_of (cipher_of stream direction)
key_of-cipher_of stream (Forth digest) = refl
key_of-cipher_of stream Back = refl

position_of-cipher_of : (stream : StreamState) (direction : Direction)
    → stream.position ≡ position_of (cipher_of stream direction)
position_of-cipher_of stream (Forth digest) = refl
position_of-cipher_of stream Back = refl

-- What is made ahead in the keystream is the cipher's.
pub ahead_is : (stream : StreamState) (direction : Direction) (cipher : Cipher) (n : ℕ) → stream.ready ≡ n
    → cipher_of stream direction ≡ cipher
    → keystream_part stream.key stream.position stream.ready ≡ keystream_part (key_of cipher) (position_of cipher) n
ahead_is stream direction cipher n many is =
    ap (λ (m : ℕ). keystream_part stream.key stream.position m) many
    ∙ ap (λ (key : List ℕ). keystream_part key stream.position n) (key_of-cipher_of stream direction ∙ ap key_of is)
    ∙ ap (λ (p : ℕ). keystream_part (key_of cipher) p n) (position_of-cipher_of stream direction ∙ ap position_of is)

pub ahead_long : (stream : StreamState) (n : ℕ) → stream.ready ≡ n
    → length (keystream_part stream.key stream.position stream.ready) ≡ n
ahead_long stream n many = length-map-range_with_len (λ k. keystream stream.key k) stream.position stream.ready ∙ many
