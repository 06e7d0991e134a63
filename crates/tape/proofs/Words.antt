-- A command line of one word.
use Rattle.std.proofs.Common.{◌≡◌, ℕ, List, [], ◌∷◌, length, get_or, map, ap, sym, arith}

pub one_word : {T : Type 0} (f : T → List ℕ) (words : List T) (word : T) → length words ≡ 1 → word ≡ get_or words 0 word
    → map f words ≡ f word ∷ []
one_word f [] word one is = absurd (omega arith)
one_word f (first ∷ []) word one is = ap (λ w. f w ∷ []) (sym is)
one_word f (first ∷ second ∷ more) word one is = absurd (omega arith)
