-- The first of a list is taken out.
use Rattle.std.proofs.Common.{◌≡◌, ◌<◌, List, [], ◌∷◌, length, get_or, arith}
use Rattle.std.specs.Prelude.{remove}

pub first_out : {A : Type 0} (xs ys : List A) (first : A) → 0 < length xs → first ≡ get_or xs 0 first → ys ≡ remove xs 0
    → xs ≡ first ∷ ys
first_out [] ys first some is rest = absurd (omega arith)
first_out (x ∷ xs) ys first some is rest = cc
