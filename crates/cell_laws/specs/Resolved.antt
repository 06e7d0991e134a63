-- The payload of RESOLVED (tor-spec, "Remote hostname lookup"), a list of answers.
use Rattle.std.specs.Prelude.{ℕ, ◌≡◌, ◌≢◌, ◌<◌, ◌^◌, [], ◌∷◌, ◌++◌, List, length}
use Rattle.std.specs.List.{flat_map, AllByRecursion}
use Rattle.std.specs.Int.{w32, to_be_bytes}
use Rattle.tor_spec.specs.CellStream.{IsBytes}
use Rattle.tor_spec.specs.Reasons.{resolved_ipv4}
use Rattle.tor_spec.specs.Resolve.{Answer}

-- Type (1 byte), length (1), value, seconds to live (4).
abbrev pub answer_bytes : Answer → List ℕ
answer_bytes a = a.kind ∷ length a.value ∷ a.value ++ to_be_bytes w32 a.ttl

-- An answer that bytes can spell. An IPv4 address has 4 bytes; the value of another type, as an IPv6 address,
-- isn't looked at and may have any length.
pub record IsAnswer (a : Answer) : Type 0 where
  pub kind_fits : a.kind < 256
  pub length_fits : length a.value < 256
  pub value_bytes : IsBytes a.value
  pub ipv4 : a.kind ≡ resolved_ipv4 → length a.value ≡ 4
  pub ttl_fits : a.ttl < 2 ^ 32

-- One answer or more, up to the end.
pub record SpellsAnswers (payload : List ℕ) (answers : List Answer) : Type 0 where
  pub spelling : payload ≡ flat_map answer_bytes answers
  pub some : answers ≢ []
  pub each : AllByRecursion IsAnswer answers
