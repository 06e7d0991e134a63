-- What contracts see of a `Padding`.
use Rattle.std.specs.Prelude.{◌≡◌, ℕ, ◌*◌, ⊤, List, Option, Some, None, option_map}
use Rattle.aes_ctr.specs.StreamState.{StreamState}

-- The key, if there is one, and how many bodies were padded.
pub record PaddingState : Type 0 where
  pub key : Option (List ℕ)
  pub count : ℕ

abbrev pub state_of : Option StreamState → ℕ → PaddingState
state_of stream count = record { key = option_map (λ s. s.key) stream; count = count }

-- The keystream is at the first of the 509 bytes that the next body is given.
abbrev pub IsAtBody : Option StreamState → ℕ → Type 0
IsAtBody None count = ⊤
IsAtBody (Some stream) count = stream.position ≡ 509 * count
