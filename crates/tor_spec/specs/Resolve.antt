-- The payloads of RESOLVE and RESOLVED (tor-spec, "Remote hostname lookup").
use Rattle.std.specs.Prelude.{◌≡◌, ℕ, zero, suc, ◌+◌, [], ◌∷◌, ◌++◌, List, length, take, drop, find, Bool, true, ◌==◌, ◌&&◌, nat_le, if◌then◌else◌, Option, Some, None, option_map, option_and_then}
use Rattle.std.specs.Int.{w32, to_be_bytes, from_be_bytes}
use Rattle.tor_spec.specs.Begin.{IsHost, is_host_length}
use Rattle.tor_spec.specs.Reasons.{resolved_ipv4}
use Rattle.tor_spec.specs.Text.{terminated_text}

-- The payload is a host name and a zero byte, with anything behind it.
pub record SpellsHost (payload host : List ℕ) : Type 0 where
  pub more : List ℕ
  pub spelling : payload ≡ host ++ 0 ∷ more
  pub is_host : IsHost host

-- The name to be looked up, ended by a zero byte. Anything may follow.
unfoldable pub resolve_host : List ℕ → Option (List ℕ)
resolve_host payload =
    option_and_then (λ host. if is_host_length (length host) then Some host else None)
    (terminated_text payload)

unfoldable pub resolve_payload : List ℕ → List ℕ
resolve_payload host = host ++ 0 ∷ []

-- One answer: its type (1 byte), the length of its value (1), the value, the time to live (4).
unfoldable pub resolved_payload : ℕ → List ℕ → ℕ → List ℕ
resolved_payload kind value ttl = kind ∷ length value ∷ value ++ to_be_bytes w32 ttl

-- An answer in a RESOLVED.
pub record Answer : Type 0 where
  pub kind : ℕ
  pub value : List ℕ
  pub ttl : ℕ

-- An IPv4 address has 4 bytes. The value of another type may have any length.
unfoldable pub is_value_length : ℕ → ℕ → Bool
is_value_length kind size = if kind == resolved_ipv4 then size == 4 else true

-- The answer at the front of the bytes and what is behind it, where one is there.
unfoldable pub answer_at : List ℕ → Option (Answer × List ℕ)
answer_at [] = None
answer_at (kind ∷ []) = None
answer_at (kind ∷ size ∷ rest) =
    if is_value_length kind size && nat_le (size + 4) (length rest)
    then Some (
      record { kind = kind; value = take size rest; ttl = from_be_bytes w32 (take 4 (drop size rest)) },
      drop 4 (drop size rest),
    )
    else None

abbrev pub put_answer : Answer → List Answer → List Answer
put_answer answer answers = answer ∷ answers

-- The answers that fill the bytes up to their end, at most n of them.
unfoldable pub answers_within : ℕ → List ℕ → Option (List Answer)
answers_within zero [] = Some []
answers_within zero (b ∷ bytes) = None
answers_within (suc n) [] = Some []
answers_within (suc n) (b ∷ bytes) =
    option_and_then (λ read. option_map (put_answer read.0) (answers_within n read.1)) (answer_at (b ∷ bytes))

-- No answer is empty, so there are no more answers than bytes.
unfoldable pub answers_in : List ℕ → Option (List Answer)
answers_in bytes = answers_within (length bytes) bytes

-- The payload of a RESOLVED: one answer or more, up to the end.
unfoldable pub resolved_answers : List ℕ → Option (List Answer)
resolved_answers [] = None
resolved_answers (b ∷ bytes) = answers_in (b ∷ bytes)

-- The first IPv4 address among the answers.
unfoldable pub first_ip : List Answer → Option (List ℕ)
first_ip answers = option_map (λ answer. answer.value) (find (λ answer. answer.kind == resolved_ipv4) answers)

-- The IPv4 address in the answer at the front of the bytes, if it has one, and what is behind that answer.
abbrev pub with_ip : Answer × List ℕ → Option (List ℕ) × List ℕ
with_ip read = (first_ip (read.0 ∷ []), read.1)

unfoldable pub ip_at : List ℕ → Option (Option (List ℕ) × List ℕ)
ip_at bytes = option_map with_ip (answer_at bytes)

-- What a RESOLVED tells of IPv4, where its payload is one.
unfoldable pub resolved_ip : List ℕ → Option (Option (List ℕ))
resolved_ip payload = option_map first_ip (resolved_answers payload)
