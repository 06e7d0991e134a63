-- How long a VERSIONS payload is.
use Rattle.std.proofs.Common.{ℕ, ◌≡◌, ◌*◌, List, [], ◌∷◌, length, refl, arith}
use Rattle.tor_spec.specs.Versions.{versions_payload}

pub length_versions_payload : (versions : List ℕ) → length (versions_payload versions) ≡ 2 * length versions
length_versions_payload [] = refl
length_versions_payload (v ∷ vs) = omega (arith, length_versions_payload vs)
