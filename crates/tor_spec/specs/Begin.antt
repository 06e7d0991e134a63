-- The payload of BEGIN (tor-spec, "Opening streams and transferring data"): where the client
-- wants to be connected to, as "host:port" ended by a zero byte. What follows it, as the
-- standard's flags, is not looked at.
use Rattle.std.specs.Prelude.{◌≡◌, ◌≤◌, ◌≢◌, All, ℕ, [], ◌∷◌, ◌++◌, List, length, Bool, not, ◌==◌, ◌&&◌, nat_le, if◌then◌else◌, Option, Some, None, option_map, option_and_then}
use Rattle.std.specs.List.{list_any, list_all, before_last, after_last}
use Rattle.std.specs.Char.{is_ascii_digit}
use Rattle.tor_spec.specs.Decimal.{decimal_value, decimal_digits}
use Rattle.tor_spec.specs.Text.{is_zero_byte, terminated_text}

pub record Target : Type 0 where
  pub host : List ℕ
  pub port : ℕ

abbrev pub is_colon : ℕ → Bool
is_colon b = b == 58

-- A host name has 1 to 255 bytes.
unfoldable pub is_host_length : ℕ → Bool
is_host_length n = nat_le 1 n && nat_le n 255

-- None of them is zero.
unfoldable pub is_host_name : List ℕ → Bool
is_host_name host = is_host_length (length host) && not (list_any is_zero_byte host)

-- A host name that a payload can carry.
pub record IsHost (host : List ℕ) : Type 0 where
  pub nonempty : 1 ≤ length host
  pub short : length host ≤ 255
  pub no_zero_byte : All (λ b. b ≢ 0) host

-- One to five decimal digits. That zeros may lead is a rule of this relay.
unfoldable pub is_port_text : List ℕ → Bool
is_port_text text = nat_le 1 (length text) && nat_le (length text) 5 && list_all is_ascii_digit text

-- The port that the text writes, from 1 to 65,535.
unfoldable pub port_of_text : List ℕ → Option ℕ
port_of_text text =
    if is_port_text text && nat_le 1 (decimal_value text) && nat_le (decimal_value text) 65535
    then Some (decimal_value text) else None

-- The text in front of the last colon, and the text behind it.
unfoldable pub split_at_last_colon : List ℕ → Option (List ℕ × List ℕ)
split_at_last_colon text =
    if list_any is_colon text then Some (before_last is_colon text, after_last is_colon text) else None

-- The target of this host and the text of a port.
unfoldable pub target_of_parts : List ℕ × List ℕ → Option Target
target_of_parts parts =
    if is_host_name parts.0
    then option_map (λ port. record { host = parts.0; port = port }) (port_of_text parts.1)
    else None

-- The target that "host:port" names. The host may have colons too, but no zero byte.
unfoldable pub target_of_text : List ℕ → Option Target
target_of_text text = option_and_then target_of_parts (split_at_last_colon text)

-- The payload is "host:port" and a zero byte, with anything behind it.
pub record SpellsTarget (payload host : List ℕ) (port : ℕ) : Type 0 where
  pub port_text : List ℕ
  pub more : List ℕ
  pub spelling : payload ≡ host ++ 58 ∷ port_text ++ 0 ∷ more
  pub is_host : IsHost host
  pub is_port : port_of_text port_text ≡ Some port

-- What the payload asks for.
unfoldable pub begin_target : List ℕ → Option Target
begin_target payload = option_and_then target_of_text (terminated_text payload)

-- The payload that asks for this host and port.
unfoldable pub begin_payload : List ℕ → ℕ → List ℕ
begin_payload host port = host ++ 58 ∷ decimal_digits port ++ 0 ∷ []
