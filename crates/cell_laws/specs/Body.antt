-- How a relay cell's body lies once every layer of encryption is off (tor-spec, "Relay cells").
use Rattle.std.specs.Prelude.{ℕ, ◌≡◌, ◌<◌, ◌^◌, ◌∷◌, ◌++◌, List, length}
use Rattle.std.specs.Int.{w16, to_be_bytes}
use Rattle.tor_spec.specs.RelayCell.{RelayHead}

-- Command (1 byte), Recognized (2), StreamID (2), Digest (4), Length (2), then as much data as Length
-- says, and padding up to 509 bytes.
pub record SpellsBody (body : List ℕ) (head : RelayHead) (payload : List ℕ) : Type 0 where
  pub padding : List ℕ
  pub spelling : body
      ≡ head.command ∷ to_be_bytes w16 head.recognized ++ to_be_bytes w16 head.stream ++ head.digest
      ++ to_be_bytes w16 head.length
      ++ payload ++ padding
  pub recognized_fits : head.recognized < 2 ^ 16
  pub stream_fits : head.stream < 2 ^ 16
  pub four : length head.digest ≡ 4
  pub told : length payload ≡ head.length
  pub whole : length body ≡ 509
