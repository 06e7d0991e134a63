-- Numbers in ASCII decimal digits.
use Rattle.std.specs.Prelude.{ℕ, List, decimal}
use Rattle.std.specs.Str.Parse.{digits_value}

-- The number that the digits write.
abbrev pub decimal_value : List ℕ → ℕ
decimal_value digits = digits_value 10 digits

-- The digits that write a number, without leading zeros.
abbrev pub decimal_digits : ℕ → List ℕ
decimal_digits n = decimal n
