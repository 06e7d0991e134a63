-- What is flushed stays in front of all that was written.
use Rattle.std.proofs.Common.{◌≡◌, ℕ, List, ◌++◌, length, take, drop, sym, ap, ◌∙◌}
use Rattle.std.proofs.lemmas.List.{take-append-drop}
use Rattle.std.proofs.Math.Seq.{take-length}

pub front_of_all : (n count : ℕ) (xs : List ℕ) → count ≡ length xs → (more : List ℕ) × (take count xs ≡ take n xs ++ more)
front_of_all n count xs is =
    (drop n xs, ap (λ k. take k xs) is ∙ take-length xs ∙ sym (take-append-drop n xs))
