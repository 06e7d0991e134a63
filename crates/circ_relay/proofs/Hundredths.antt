-- Where the proofs of SENDMEs stand among the digests, and the bodies that they are over.
use Rattle.std.proofs.Common.{◌≡◌, ℕ, zero, suc, ◌+◌, ◌-◌, ◌*◌, ◌%◌, ◌==◌, ◌<◌, [], ◌∷◌, List, Bool, true, false, Some, if◌then◌else◌, map, length, drop, slice_get, nat_le, refl, ap, ◌∙◌, arith, option_map}
use Rattle.std.proofs.lemmas.List.{length-map}
use Rattle.std.proofs.lemmas.Option.{slice_get-map}
use Rattle.std.proofs.lemmas.Bool.Decides.{nat_tests}
use Rattle.std.proofs.lemmas.Bool.{eqb-true}
use Rattle.tor_spec.specs.CircuitWindow.{hundredths}
use Rattle.circuit_model.specs.Windows.{is_data_body}
use Rattle.circuit_model.specs.SendmeProof.{up_to_data}
use Rattle.circ_relay.specs.WindowOfLog.{up_to_each_data}

pub first_dropped : (k : ℕ) (xs : List (List ℕ)) → slice_get (drop k xs) 0 ≡ slice_get xs k
first_dropped zero [] = refl
first_dropped zero (x ∷ xs) = refl
first_dropped (suc k) [] = refl
first_dropped (suc k) (x ∷ xs) = first_dropped k xs

-- The hundredth with number k, from 0, behind n digests that came before.

place_of : ℕ → ℕ → ℕ
place_of n k = 100 * k + (99 - n % 100)

place_here : (n : ℕ) → ((n + 1) % 100 == 0) ≡ true → place_of n 0 ≡ 0
unfolding place_of
place_here n due =
    let whole : (n + 1) % 100 ≡ 0 = eqb-true ((n + 1) % 100) 0 due in
    omega arith

place_behind : (n k : ℕ) → ((n + 1) % 100 == 0) ≡ true → place_of n (suc k) ≡ suc (place_of (n + 1) k)
unfolding place_of
place_behind n k due =
    let whole : (n + 1) % 100 ≡ 0 = eqb-true ((n + 1) % 100) 0 due in
    omega arith

place_later : (n k : ℕ) → ((n + 1) % 100 == 0) ≡ false → place_of n k ≡ suc (place_of (n + 1) k)
unfolding place_of
place_later n k other = grind (arith, nat_tests)

hundredth_by : (n k : ℕ) (digest : List ℕ) (digests : List (List ℕ)) (due : Bool) → ((n + 1) % 100 == 0) ≡ due
    → ((j : ℕ) → slice_get (hundredths (n + 1) digests) j ≡ slice_get digests (place_of (n + 1) j))
    → slice_get (if due then digest ∷ hundredths (n + 1) digests else hundredths (n + 1) digests) k
    ≡ slice_get (digest ∷ digests) (place_of n k)
hundredth_by n zero digest digests true is later = rw (place_here n is) refl
hundredth_by n (suc k) digest digests true is later = rw (place_behind n k is) (later k)
hundredth_by n k digest digests false is later = rw (place_later n k is) (later k)

hundredth : (n : ℕ) (digests : List (List ℕ)) (k : ℕ) → slice_get (hundredths n digests) k ≡ slice_get digests (place_of n k)
hundredth n [] k = refl
hundredth n (digest ∷ digests) k = hundredth_by n k digest digests ((n + 1) % 100 == 0) refl (hundredth (n + 1) digests)

pub hundredth_at : (digests : List (List ℕ)) (k : ℕ) → slice_get (hundredths 0 digests) k ≡ slice_get digests (100 * k + 99)
unfolding place_of
hundredth_at digests k = hundredth 0 digests k

-- The bodies up to a DATA by its number.

abbrev begun_with : List ℕ → List (List ℕ) → List (List ℕ)
begun_with first bodies = first ∷ bodies

behind_first : (first : List ℕ) (bodies : List (List ℕ)) (i : ℕ)
    → slice_get (up_to_each_data bodies) i ≡ Some (up_to_data (i + 1) bodies)
    → slice_get (map (begun_with first) (up_to_each_data bodies)) i ≡ Some (first ∷ up_to_data (i + 1) bodies)
behind_first first bodies i found =
    slice_get-map (begun_with first) (up_to_each_data bodies) i ∙ ap (option_map (begun_with first)) found

number_by : (first : List ℕ) (bodies : List (List ℕ)) (i : ℕ) (counts : Bool)
    → ((j : ℕ) → j < length (up_to_each_data bodies) → slice_get (up_to_each_data bodies) j ≡ Some (up_to_data (j + 1) bodies))
    → i < length (if counts then (first ∷ []) ∷ map (begun_with first) (up_to_each_data bodies)
    else map (begun_with first) (up_to_each_data bodies))
    → slice_get (if counts then (first ∷ []) ∷ map (begun_with first) (up_to_each_data bodies)
    else map (begun_with first) (up_to_each_data bodies)) i
    ≡ Some (if counts then (if nat_le (i + 1) 1 then first ∷ [] else first ∷ up_to_data (i + 1 - 1) bodies)
    else first ∷ up_to_data (i + 1) bodies)
number_by first bodies zero true later within = refl
number_by first bodies (suc i) true later within =
    let many : nat_le (suc i + 1) 1 ≡ false = grind (arith, nat_tests) in
    let less : suc i + 1 - 1 ≡ i + 1 = omega arith in
    rw (many, less)
    (behind_first first bodies i (later i (omega (arith, length-map (up_to_each_data bodies) (begun_with first)))))
number_by first bodies i false later within =
    behind_first first bodies i (later i (omega (arith, length-map (up_to_each_data bodies) (begun_with first))))

pub data_by_number : (bodies : List (List ℕ)) (i : ℕ) → i < length (up_to_each_data bodies)
    → slice_get (up_to_each_data bodies) i ≡ Some (up_to_data (i + 1) bodies)
data_by_number [] i within = absurd (omega arith)
data_by_number (first ∷ bodies) i within = number_by first bodies i (is_data_body (Some first)) (data_by_number bodies) within
