-- An IPv4 address and a port as a text "a.b.c.d:port".
use Rattle.std.specs.Prelude.{ℕ, ◌==◌, ◌&&◌, [], ◌∷◌, List, Bool, length, nat_le, if◌then◌else◌, Option, Some, None, option_map, option_and_then}
use Rattle.std.specs.List.{list_all, before_first, after_first}
use Rattle.std.specs.Char.{is_ascii_digit}
use Rattle.tor_spec.specs.Begin.{is_colon, port_of_text}
use Rattle.tor_spec.specs.Decimal.{decimal_value}
use Rattle.tor_spec.specs.Extend.{Address}

abbrev pub is_dot : ℕ → Bool
is_dot b = b == 46

-- One decimal digit or more, and at most so many.
unfoldable pub has_digits : ℕ → List ℕ → Bool
has_digits most text = nat_le 1 (length text) && nat_le (length text) most && list_all is_ascii_digit text

-- A number of the address: one to three digits with a value of at most 255. Zeros may lead.
unfoldable pub octet_of_text : List ℕ → Option ℕ
octet_of_text text =
    if has_digits 3 text && nat_le (decimal_value text) 255 then Some (decimal_value text) else None

-- The numbers that the texts write, where each writes one.
abbrev pub octets_of_texts : List (List ℕ) → Option (List ℕ)
octets_of_texts [] = Some []
octets_of_texts (text ∷ texts) =
    option_and_then (λ octet. option_map (λ octets. octet ∷ octets) (octets_of_texts texts)) (octet_of_text text)

-- The texts in front of the first, second and third dot, each behind the one before, and what is behind the
-- third.
unfoldable pub parts_at_dots : List ℕ → List (List ℕ)
parts_at_dots text =
    let second = after_first is_dot text in
    let third = after_first is_dot second in
    before_first is_dot text ∷ before_first is_dot second ∷ before_first is_dot third ∷ after_first is_dot third ∷ []

unfoldable pub ip_of_text : List ℕ → Option (List ℕ)
ip_of_text text = octets_of_texts (parts_at_dots text)

-- The address in front of the colon and the port behind it, which is one as in BEGIN: one to five digits with a
-- value from 1 to 65,535.
unfoldable pub address_of_text : List ℕ → Option Address
address_of_text text =
    option_and_then
    (λ ip. option_map (λ port. record { ip = ip; port = port }) (port_of_text (after_first is_colon text)))
    (ip_of_text (before_first is_colon text))
