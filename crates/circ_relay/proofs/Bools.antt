-- Tests and what they are together.
use Rattle.std.proofs.Common.{◌≡◌, ◌&&◌, not, Bool, true, false, refl}

pub not_both : {A : Type 0} (b : Bool) → b ≡ true → b ≡ false → A
not_both b is other = cc

pub and-right : (a b : Bool) → (a && b) ≡ true → b ≡ true
and-right true b is = is
and-right false b is = cc

pub not-not : (b : Bool) → b ≡ not (not b)
not-not true = refl
not-not false = refl
