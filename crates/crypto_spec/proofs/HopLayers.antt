-- Bodies that go through a hop's layer in two parts.
use Rattle.std.proofs.Common.{◌≡◌, ℕ, suc, ◌+◌, ◌*◌, [], ◌∷◌, ◌++◌, List, length, refl, ap, ◌∙◌, arith}
use Rattle.crypto_spec.specs.HopLayer.{OpeningLayer, opened, after_opening, opened_all, after_opening_all, layered, sealed_all}

pub opened_all-append : (layer : OpeningLayer) (xs ys : List (List ℕ)) →
    opened_all layer (xs ++ ys) ≡ opened_all layer xs ++ opened_all (after_opening_all layer xs) ys
opened_all-append layer [] ys = refl
opened_all-append layer (x ∷ xs) ys = ap (λ bodies. opened layer x ∷ bodies) (opened_all-append (after_opening layer x) xs ys)

pub after_opening_all-append : (layer : OpeningLayer) (xs ys : List (List ℕ)) →
    after_opening_all layer (xs ++ ys) ≡ after_opening_all (after_opening_all layer xs) ys
after_opening_all-append layer [] ys = refl
after_opening_all-append layer (x ∷ xs) ys = after_opening_all-append (after_opening layer x) xs ys

after_opening-position : (layer : OpeningLayer) (x : List ℕ) → (after_opening layer x).position ≡ layer.position + 509
unfolding after_opening
after_opening-position layer x = refl

-- The next byte of keystream is 509 bytes on for each body.
pub after_opening_all-position : (layer : OpeningLayer) (xs : List (List ℕ)) →
    (after_opening_all layer xs).position ≡ layer.position + 509 * length xs
after_opening_all-position layer [] = omega arith
after_opening_all-position layer (x ∷ xs) =
    omega (arith, after_opening_all-position (after_opening layer x) xs, after_opening-position layer x)

pub sealed_all-append : (key : List ℕ) (position : ℕ) (xs ys : List (List ℕ)) →
    sealed_all key position (xs ++ ys) ≡ sealed_all key position xs ++ sealed_all key (position + 509 * length xs) ys
sealed_all-append key position [] ys =
    let here : position + 509 * 0 ≡ position = omega arith in
    rw here refl
sealed_all-append key position (x ∷ xs) ys =
    let on : position + 509 + 509 * length xs ≡ position + 509 * length (x ∷ xs) = omega arith in
    ap (λ bodies. layered key position x ∷ bodies) (sealed_all-append key (position + 509) xs ys ∙ rw on refl)

pub length-opened_all : (layer : OpeningLayer) (xs : List (List ℕ)) → length (opened_all layer xs) ≡ length xs
length-opened_all layer [] = refl
length-opened_all layer (x ∷ xs) = ap suc (length-opened_all (after_opening layer x) xs)

pub length-sealed_all : (key : List ℕ) (position : ℕ) (xs : List (List ℕ)) → length (sealed_all key position xs) ≡ length xs
length-sealed_all key position [] = refl
length-sealed_all key position (x ∷ xs) = ap suc (length-sealed_all key (position + 509) xs)
