-- Counter mode (NIST SP 800-38A, 6.5) with AES-128, as tor-spec ("Ciphers") uses it for relay cells:
-- the first counter block is 0, and each next one is higher by one.
use Rattle.std.specs.Prelude.{ℕ, ◌/◌, ◌%◌, List, map, slice_index}
use Rattle.std.specs.Int.{w128, to_be_bytes}
use Rattle.std.specs.List.{range_with_len}
use Rattle.crypto_spec.specs.Aes.{aes}

-- Byte i of the keystream: it lies in output block i / 16, the cipher of that number in 16 bytes,
-- big-endian.
unfoldable pub keystream : List ℕ → ℕ → ℕ
keystream key i = slice_index (aes key (to_be_bytes w128 (i / 16))) (i % 16)

-- The n bytes of the keystream from byte i on.
abbrev pub keystream_part : List ℕ → ℕ → ℕ → List ℕ
keystream_part key i n = map (λ k. keystream key k) (range_with_len i n)
