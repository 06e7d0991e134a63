-- The pieces that an outward half wrote, in order, each with its session.
use Rattle.std.specs.Prelude.{◌≡◌, ◌≢◌, ℕ, List, [], ◌∷◌, ◌++◌, take, Option, Some, None, ◌==◌, if◌then◌else◌}
use Rattle.tr_io.specs.declared.sink.WriteAnswer.{WriteAnswer}
use Rattle.tr_io.specs.declared.sink.WriteAnswer.TheVariants.{Took, Failed}

pub record Piece : Type 0 where
  pub session : ℕ
  pub bytes : List ℕ

-- The bytes written for a session.
unfoldable pub bytes_for : ℕ → List Piece → List ℕ
bytes_for session [] = []
bytes_for session (piece ∷ rest) = (if piece.session == session then piece.bytes else []) ++ bytes_for session rest

-- What was taken of a piece stands behind all others; a write that failed leaves them. A half that doesn't
-- tell its pieces never does.
abbrev pub WritesFor : ℕ → WriteAnswer → List ℕ → Option (List Piece) → Option (List Piece) → Type 0
WritesFor session answer piece None after = after ≡ None
WritesFor session (Took n) piece (Some before) after =
    after ≡ Some (before ++ record { session = session; bytes = take n piece } ∷ [])
WritesFor session Failed piece (Some before) after = after ≡ Some before

-- All of these bytes were written in a session, behind those written before, and nothing in any other one, as
-- far as the half tells its pieces.
abbrev pub WroteAll : ℕ → List ℕ → Option (List Piece) → Option (List Piece) → Type 0
WroteAll session bytes None after = after ≡ None
WroteAll session bytes (Some before) None = ⊥
WroteAll session bytes (Some before) (Some after) =
    (bytes_for session after ≡ bytes_for session before ++ bytes)
    × ((k : ℕ) → k ≢ session → bytes_for k after ≡ bytes_for k before)
