-- The bytes taken so far go on.
use Rattle.std.proofs.Common.{◌≡◌, ℕ, ◌+◌, ◌-◌, List, ◌++◌, length, take, drop, sym, ap, subst, length-drop, ◌∙◌}
use Rattle.std.proofs.Math.Seq.{take-add, take-append_seam, take-length}

take_all : (xs : List ℕ) (k : ℕ) → length xs ≡ k → take k xs ≡ xs
take_all xs k is = ap (λ m. take m xs) (sym is) ∙ take-length xs

pub goes_on : (bytes given front rest : List ℕ) (at n : ℕ) → given ≡ bytes
    → front ≡ take n (take (length given - at) (drop at given)) → n ≡ length front
    → take (at + n) bytes ≡ take at bytes ++ take n (front ++ rest)
goes_on bytes given front rest at n same is size =
    let next : front ≡ take n (drop at bytes) =
    subst (λ xs. front ≡ take n (drop at xs)) same
    (is ∙ ap (take n) (take_all (drop at given) (length given - at) (length-drop at given))) in
    take-add at n bytes
    ∙ ap (λ xs. take at bytes ++ xs) (sym next ∙ sym (take-append_seam front rest) ∙ ap (λ k. take k (front ++ rest)) (sym size))
