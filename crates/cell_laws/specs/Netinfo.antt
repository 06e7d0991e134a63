-- The payload of NETINFO (tor-spec, "NETINFO cells").
use Rattle.std.specs.Prelude.{ℕ, ◌≡◌, ◌∷◌, ◌++◌, List, length}
use Rattle.std.specs.List.{flat_map, AllByRecursion}

pub record HostAddress : Type 0 where
  pub kind : ℕ
  pub value : List ℕ

-- Type (1 byte), length (1), value.
abbrev pub address_bytes : HostAddress → List ℕ
address_bytes a = a.kind ∷ length a.value ∷ a.value

-- IPv4 (type 4) has 4 bytes and IPv6 (type 6) has 16. An address of another type may have any length.
pub record IsAddress (a : HostAddress) : Type 0 where
  pub ipv4 : a.kind ≡ 4 → length a.value ≡ 4
  pub ipv6 : a.kind ≡ 6 → length a.value ≡ 16

-- The time (4 bytes), the other side's address, the number of the sender's own (1) and these. What
-- follows is padding.
pub record SpellsNetinfo (payload : List ℕ) : Type 0 where
  pub time : List ℕ
  pub other : HostAddress
  pub own : List HostAddress
  pub padding : List ℕ
  pub spelling : payload ≡ time ++ address_bytes other ++ length own ∷ flat_map address_bytes own ++ padding
  pub four : length time ≡ 4
  pub other_is : IsAddress other
  pub own_are : AllByRecursion IsAddress own
