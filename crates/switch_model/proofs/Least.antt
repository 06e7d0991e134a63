-- What holds of the leg with the least count.
use Rattle.std.proofs.Common.{◌≡◌, ℕ, Bool, true, false, if◌then◌else◌, nat_lt, List, [], ◌∷◌, Option, Some, None, refl, subst}
use Rattle.std.specs.List.{AllByRecursion}
use Rattle.switch_model.specs.Names.{Leg}
use Rattle.switch_model.specs.Waiting.Counts.{lesser, least_of}

pub lesser-same : (f g : Leg → ℕ) (leg : Leg) (o : Option Leg) → f leg ≡ g leg
    → ((other : Leg) → o ≡ Some other → f other ≡ g other) → lesser f leg o ≡ lesser g leg o
lesser-same f g leg None here found = refl
lesser-same f g leg (Some other) here found = rw (here, found other refl) refl

has-if : (P : Leg → Type 0) (b : Bool) (x y : Leg) → P x → P y → P (if b then x else y)
has-if P true x y f g = f
has-if P false x y f g = g

lesser-has : (P : Leg → Type 0) (f : Leg → ℕ) (leg : Leg) (o : Option Leg) → P leg → ((other : Leg) → o ≡ Some other → P other)
    → P (lesser f leg o)
lesser-has P f leg None here found = here
lesser-has P f leg (Some other) here found = has-if P (nat_lt (f other) (f leg)) other leg (found other refl) here

pub least-has : (P : Leg → Type 0) (f : Leg → ℕ) (legs : List Leg) → AllByRecursion P legs → (leg : Leg)
    → least_of f legs ≡ Some leg → P leg
least-has P f [] all leg found = absurd cc
least-has P f (first ∷ legs) all leg found =
    let same : lesser f first (least_of f legs) ≡ leg = cc in
    subst P same (lesser-has P f first (least_of f legs) all.0 (least-has P f legs all.1))
