-- The port in a BEGIN's "host:port" (tor-spec, "Opening streams and transferring data").
use Rattle.std.specs.Prelude.{ℕ, ◌≡◌, ◌≤◌, List, length}
use Rattle.std.specs.List.{AllByRecursion}
use Rattle.tor_spec.specs.Decimal.{decimal_value}

-- One to five decimal digits in ASCII with a value from 1 to 65,535. That zeros may lead is a rule of
-- this relay.
pub record SpellsPort (text : List ℕ) (port : ℕ) : Type 0 where
  pub some : 1 ≤ length text
  pub short : length text ≤ 5
  pub digits : AllByRecursion (λ d. (48 ≤ d) × (d ≤ 57)) text
  pub value : decimal_value text ≡ port
  pub least : 1 ≤ port
  pub most : port ≤ 65535
