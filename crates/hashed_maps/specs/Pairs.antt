-- Pairs of numbers as keys.
use Rattle.std.specs.Prelude.{ℕ, ◌&&◌, nat_eq, Bool}
use Rattle.std.specs.Ordering.{nat_cmp, on, then_cmp}
use Rattle.std.specs.declared.cmp.Ordering.{Ordering}

abbrev pub Pair : Type 0
Pair = ℕ × ℕ

-- By the first number, and then by the second.
abbrev pub pair_cmp : Pair → Pair → Ordering
pair_cmp = then_cmp (on (λ p. p.0) nat_cmp) (on (λ p. p.1) nat_cmp)

abbrev pub pair_eq : Pair → Pair → Bool
pair_eq p q = nat_eq p.0 q.0 && nat_eq p.1 q.1
