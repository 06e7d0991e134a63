-- Why a stream or a circuit ended: the first byte of an END's payload (tor-spec, "Closing
-- streams") and of a TRUNCATED's (tor-spec, "Tearing down circuits").
use Rattle.std.specs.Prelude.{ℕ, [], ◌∷◌, List}
use Rattle.tor_spec.specs.Reasons.{end_misc}

-- An END with an empty payload has the reason MISC.
unfoldable pub end_reason : List ℕ → ℕ
end_reason [] = end_misc
end_reason (reason ∷ more) = reason

-- A TRUNCATED with an empty payload has the reason NONE.
unfoldable pub truncated_reason : List ℕ → ℕ
truncated_reason [] = 0
truncated_reason (reason ∷ more) = reason
