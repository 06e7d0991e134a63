-- The working variables of SHA-1 (FIPS 180-4, 6.1.2), as the list that the rounds are defined on.
use Rattle.std.specs.Prelude.{ℕ, ◌∷◌, [], List}
use Rattle.run_digest.specs.declared.compress.Variables.{Variables}

abbrev pub list_of : Variables → List ℕ
list_of v = v.a ∷ v.b ∷ v.c ∷ v.d ∷ v.e ∷ []
