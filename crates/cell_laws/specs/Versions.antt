-- The payload of VERSIONS (tor-spec, "Negotiating versions"), and the version that two sides take.
use Rattle.std.specs.Prelude.{ℕ, ◌≡◌, ◌<◌, ◌≤◌, ◌^◌, List, Option, Some, None}
use Rattle.std.specs.List.{AllByRecursion, Contains}
use Rattle.tor_spec.specs.Versions.{versions_payload}

-- Two bytes for each version.
pub record SpellsVersions (payload versions : List ℕ) : Type 0 where
  pub spelling : payload ≡ versions_payload versions
  pub each : AllByRecursion (λ v. v < 2 ^ 16) versions

-- A version stands in both lists.
abbrev pub IsCommon : List ℕ → List ℕ → ℕ → Type 0
IsCommon ours theirs version = Contains ours version × Contains theirs version

-- The highest of them, or none.
abbrev pub IsHighest : List ℕ → List ℕ → Option ℕ → Type 0
IsHighest ours theirs None = (w : ℕ) → IsCommon ours theirs w → ⊥
IsHighest ours theirs (Some version) = IsCommon ours theirs version × ((w : ℕ) → IsCommon ours theirs w → w ≤ version)
