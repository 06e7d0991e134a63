-- What gave a value.
use Rattle.std.proofs.Common.{◌≡◌, Bool, true, false, cond, refl, Option, Some, None}
use Rattle.std.specs.Prelude.{option_map, option_and_then, is_some}
use Rattle.std.proofs.lemmas.Option.{none-some, same_Some}

pub then_some : {X Y : Type 0} (f : X → Option Y) (o : Option X) (y : Y) → option_and_then f o ≡ Some y
    → (x : X) × (o ≡ Some x) × (f x ≡ Some y)
then_some f None y e = absurd (none-some y e)
then_some f (Some x) y e = (x, refl, e)

pub map_some : {X Y : Type 0} (f : X → Y) (o : Option X) (y : Y) → option_map f o ≡ Some y
    → (x : X) × (o ≡ Some x) × (f x ≡ y)
map_some f None y e = absurd (none-some y e)
map_some f (Some x) y e = (x, refl, same_Some (f x) y e)

pub if_some : {X : Type 0} (b : Bool) (o : Option X) (y : X) → cond b o None ≡ Some y → (b ≡ true) × (o ≡ Some y)
if_some true o y e = (refl, e)
if_some false o y e = absurd (none-some y e)

pub unless_some : {X : Type 0} (b : Bool) (o : Option X) (y : X) → cond b None o ≡ Some y → (b ≡ false) × (o ≡ Some y)
unless_some true o y e = absurd (none-some y e)
unless_some false o y e = (refl, e)

pub some_there : {X : Type 0} (o : Option X) → is_some o ≡ true → (x : X) × (o ≡ Some x)
some_there None e = cc
some_there (Some x) e = (x, refl)
