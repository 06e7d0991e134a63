-- The digits of a port, and one digit more.
use Rattle.std.proofs.Common.{◌≡◌, ℕ, ◌+◌, ◌/◌, ◌%◌, ◌^◌, ◌<◌, ◌≤◌, List, [], ◌∷◌, ◌++◌, length, sym, ap, ◌∙◌, append_assoc, arith, length-append, lit<}
use Rattle.std.proofs.Math.Nat.{mod-eq_of_lt}
use Rattle.std.proofs.lemmas.Fmt.{decimal_step, decimal_digit, length-decimal-le}
use Rattle.tor_spec.specs.Decimal.{decimal_digits}

pub port_digits_short : (n : ℕ) → n < 2 ^ 16 → length (decimal_digits n) ≤ 5
port_digits_short n small = length-decimal-le 5 n (lit< tt) (omega arith) (omega arith)

-- the last digit behind the others
pub last_digit : (n : ℕ) (old new : List ℕ) → 10 ≤ n → n < 2 ^ 16 → new ≡ old ++ decimal_digits (n / 10)
    → new ++ (48 + n % 10) ∷ [] ≡ old ++ decimal_digits n
last_digit n old new large small is =
    ap (λ l. l ++ (48 + n % 10) ∷ []) is ∙ append_assoc old (decimal_digits (n / 10)) ((48 + n % 10) ∷ [])
    ∙ ap (λ l. old ++ l) (sym (decimal_step n large (omega arith)))

pub only_digit : (n : ℕ) (old : List ℕ) → n < 10 → old ++ (48 + n % 10) ∷ [] ≡ old ++ decimal_digits n
only_digit n old small =
    let same : n % 10 ≡ n = mod-eq_of_lt small in
    ap (λ d. old ++ (48 + d) ∷ []) same ∙ ap (λ l. old ++ l) (sym (decimal_digit n small))

pub length-decimal_step : (n : ℕ) → 10 ≤ n → n < 2 ^ 16 → length (decimal_digits n) ≡ length (decimal_digits (n / 10)) + 1
length-decimal_step n large small =
    ap length (decimal_step n large (omega arith)) ∙ length-append (decimal_digits (n / 10)) ((48 + n % 10) ∷ [])

pub length-decimal_digit : (n : ℕ) → n < 10 → length (decimal_digits n) ≡ 1
length-decimal_digit n small = ap length (decimal_digit n small)
