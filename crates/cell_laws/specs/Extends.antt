-- The payload of EXTEND2 (tor-spec, "EXTEND and EXTENDED cells").
use Rattle.std.specs.Prelude.{ℕ, ◌≡◌, ◌≢◌, ◌<◌, ◌^◌, ◌∷◌, ◌++◌, List, length, Option, Some, None}
use Rattle.std.specs.List.{flat_map, AllByRecursion}
use Rattle.std.specs.Int.{w16, to_be_bytes}
use Rattle.tor_spec.specs.Extend.{Address, Extend, Specifier}
use Rattle.cell_laws.specs.Payloads.{SpellsRequest}

-- A link specifier: LSTYPE (1 byte), LSLEN (1), LSPEC (LSLEN).
abbrev pub specifier_bytes : Specifier → List ℕ
specifier_bytes s = s.kind ∷ length s.value ∷ s.value

-- IPv4 with a port, IPv6 with a port, the legacy identity and the Ed25519 identity have one length
-- each. A specifier of any other type may have any.
pub record IsSpecifier (s : Specifier) : Type 0 where
  pub ipv4 : s.kind ≡ 0 → length s.value ≡ 6
  pub ipv6 : s.kind ≡ 1 → length s.value ≡ 18
  pub legacy_identity : s.kind ≡ 2 → length s.value ≡ 20
  pub ed25519_identity : s.kind ≡ 3 → length s.value ≡ 32

abbrev pub NoAddress : List Specifier → Type 0
NoAddress found = AllByRecursion (λ s. s.kind ≢ 0) found

-- The first specifier of type 0 has this address and port.
pub record FirstAddress (found : List Specifier) (to : Address) : Type 0 where
  pub before : List Specifier
  pub after : List Specifier
  pub specifier : Specifier
  pub place : found ≡ before ++ specifier ∷ after
  pub first : NoAddress before
  pub kind : specifier.kind ≡ 0
  pub value : specifier.value ≡ to.ip ++ to_be_bytes w16 to.port
  pub four : length to.ip ≡ 4
  pub port_fits : to.port < 2 ^ 16

abbrev pub LeadsTo : List Specifier → Option Address → Type 0
LeadsTo found None = NoAddress found
LeadsTo found (Some to) = FirstAddress found to

-- NSPEC (1 byte), NSPEC link specifiers, then HTYPE, HLEN and HDATA as in a CREATE2.
pub record SpellsExtend (payload : List ℕ) (request : Extend) : Type 0 where
  pub found : List Specifier
  pub rest : List ℕ
  pub spelling : payload ≡ length found ∷ flat_map specifier_bytes found ++ rest
  pub specifiers : AllByRecursion IsSpecifier found
  pub leads : LeadsTo found request.to
  pub handshake : SpellsRequest rest request.handshake_type request.handshake
