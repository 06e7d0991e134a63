-- How the proofs that SENDMEs must carry grow with the DATA cells that are packaged.
use Rattle.std.proofs.Common.{◌≡◌, ◌≢◌, ℕ, suc, ◌+◌, ◌/◌, ◌%◌, ◌≤◌, [], ◌∷◌, ◌++◌, List, Bool, drop, true, false, length, refl, ap, sym, arith, if◌then◌else◌, ◌==◌, eq-eqb, ne_eqb}
use Rattle.std.proofs.lemmas.List.{drop-append-le, append-nil, drop-drop}
use Rattle.std.proofs.lemmas.Bool.Decides.{nat_tests}
use Rattle.tor_spec.specs.CircuitWindow.{CircuitWindow, hundredths, proofs, owed_proofs, after_packaging, after_acknowledging}

spread : (b : Bool) (d : List ℕ) (xs ys zs : List (List ℕ)) → xs ≡ ys ++ zs
    → (if b then d ∷ xs else xs) ≡ (if b then d ∷ ys else ys) ++ zs
spread true d xs ys zs e = ap (λ (l : List (List ℕ)). d ∷ l) e
spread false d xs ys zs e = e

pub hundredths-append : (n : ℕ) (digests : List (List ℕ)) (digest : List ℕ) →
    hundredths n (digests ++ digest ∷ []) ≡ hundredths n digests
    ++ (if (n + length digests + 1) % 100 == 0 then digest ∷ [] else [])
hundredths-append n [] digest =
    let here : n + 0 + 1 ≡ n + 1 = omega arith in
    rw here refl
hundredths-append n (d ∷ digests) digest =
    let on : n + suc (length digests) + 1 ≡ n + 1 + length digests + 1 = omega arith in
    rw on (spread ((n + 1) % 100 == 0) d _ _ _ (hundredths-append (n + 1) digests digest))

counted : (b : Bool) (d : List ℕ) (xs : List (List ℕ)) → length (if b then d ∷ xs else xs) ≡ (if b then 1 else 0) + length xs
counted true d xs = omega arith
counted false d xs = omega arith

one_more : (n : ℕ) → n / 100 + (if (n + 1) % 100 == 0 then 1 else 0) ≡ (n + 1) / 100
one_more n = grind (arith, nat_tests)

pub length-hundredths : (n : ℕ) (digests : List (List ℕ)) → n / 100 + length (hundredths n digests) ≡ (n + length digests) / 100
length-hundredths n [] =
    let here : n + 0 ≡ n = omega arith in
    rw here (omega arith)
length-hundredths n (d ∷ digests) =
    let on : n + suc (length digests) ≡ n + 1 + length digests = omega arith in
    let more : length (if (n + 1) % 100 == 0 then d ∷ hundredths (n + 1) digests else hundredths (n + 1) digests)
    ≡ (if (n + 1) % 100 == 0 then 1 else 0) + length (hundredths (n + 1) digests) =
    counted ((n + 1) % 100 == 0) d (hundredths (n + 1) digests) in
    rw (on, more) (omega (arith, one_more n, length-hundredths (n + 1) digests))

-- One for each 100 DATA cells.
pub length-proofs : (w : CircuitWindow) → length (proofs w) ≡ length w.packaged / 100
unfolding proofs
length-proofs w =
    let whole : 0 / 100 ≡ 0 = refl in
    let all : 0 + length w.packaged ≡ length w.packaged = omega arith in
    let counts = length-hundredths 0 w.packaged in
    omega (arith, rw all at counts)

proofs_grow : (w : CircuitWindow) (digest : List ℕ) →
    proofs (after_packaging w digest) ≡ proofs w ++ (if (length w.packaged + 1) % 100 == 0 then digest ∷ [] else [])
unfolding proofs
proofs_grow w digest =
    let here : 0 + length w.packaged + 1 ≡ length w.packaged + 1 = omega arith in
    rw here at (hundredths-append 0 w.packaged digest)

-- Each 100th DATA cell that is packaged owes one more.
pub owed_more : (w : CircuitWindow) (digest : List ℕ) → (length w.packaged + 1) % 100 ≡ 0
    → w.acknowledged ≤ length w.packaged / 100 → owed_proofs (after_packaging w digest) ≡ owed_proofs w ++ digest ∷ []
owed_more w digest due behind =
    rw (proofs_grow w digest, eq-eqb ((length w.packaged + 1) % 100) 0 due)
    (drop-append-le w.acknowledged (proofs w) (digest ∷ []) (omega (arith, length-proofs w)))

-- Other ones owe none.
pub owed_same : (w : CircuitWindow) (digest : List ℕ) → (length w.packaged + 1) % 100 ≢ 0
    → owed_proofs (after_packaging w digest) ≡ owed_proofs w
owed_same w digest other =
    rw (proofs_grow w digest, ne_eqb ((length w.packaged + 1) % 100) 0 other, append-nil (proofs w)) refl

-- A SENDME that is accepted pays for the oldest.
pub owed_less : (w : CircuitWindow) → owed_proofs (after_acknowledging w) ≡ drop 1 (owed_proofs w)
unfolding proofs
owed_less w = sym (drop-drop 1 w.acknowledged (proofs w))
