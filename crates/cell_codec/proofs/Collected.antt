-- A loop that collects what it reads.
use Rattle.std.proofs.Common.{◌≡◌, [], ◌∷◌, ◌++◌, List, map, append_assoc}
use Rattle.std.proofs.lemmas.List.{map-append}

pub collects : {A B : Type 0} (f : A → B) (pushed old : List A) (x : A) (y : B) (more all : List B)
    → pushed ≡ old ++ x ∷ [] → f x ≡ y → map f old ++ (y ∷ more) ≡ all → map f pushed ++ more ≡ all
collects f pushed old x y more all e g h = rw (e, map-append, append_assoc, g) h
