-- A text that a zero byte ends, and a host in such a text.
use Rattle.std.proofs.Common.{Bool, ltb, false, not, length-take, ◌≡◌, ◌≢◌, ℕ, ◌+◌, ◌<◌, ◌≤◌, true, cond, ◌&&◌, Some, None, List, ◌∷◌, ◌++◌, zero, suc, length, take, drop, get_or, refl, ap, sym, ◌∙◌, arith, length-append, subst}
use Rattle.std.specs.Prelude.{All}
use Rattle.std.specs.List.{list_any, position_or_len}
use Rattle.std.proofs.lemmas.Bool.Decides.{nat_tests}
use Rattle.std.proofs.lemmas.List.{get_or-take, get_or_append_left}
use Rattle.std.proofs.lemmas.List.Elements.{All-from_get_or}
use Rattle.std.proofs.lemmas.List.Folds.{list_any_at, list_any_none, Any-from_list_any}
use Rattle.std.proofs.lemmas.List.Sums.{passes_at_first, fails_before_first, split_at_first}
use Rattle.std.proofs.lemmas.Bool.{eqb-true, ltb-true, ltb-false}
use Rattle.std.proofs.lemmas.List.Sums.{position_or_len_is}
use Rattle.std.proofs.Math.Seq.{get_or-append_seam, take-append_seam}
use Rattle.tor_spec.specs.Begin.{is_host_length, is_host_name}
use Rattle.tor_spec.specs.Text.{is_zero_byte, terminated_text}
use Rattle.tor_spec.proofs.Choices.{chosen_value}

zero_test : (b : ℕ) → b ≢ 0 → is_zero_byte b ≡ false
zero_test b h = grind (arith, nat_tests)

pub terminated_text-append : (text more : List ℕ) → All (λ b. b ≢ 0) text → terminated_text (text ++ 0 ∷ more) ≡ Some text
unfolding terminated_text
terminated_text-append text more no_zero =
    let bytes = text ++ 0 ∷ more in
    let long : length bytes ≡ length text + suc (length more) = length-append text (0 ∷ more) in
    let here : get_or bytes (length text) 0 ≡ 0 = get_or-append_seam text 0 more 0 in
    let within : length text < length bytes = omega arith in
    let at : position_or_len is_zero_byte bytes ≡ length text =
    position_or_len_is is_zero_byte bytes (length text) 0 (omega arith)
    (λ k below. ap is_zero_byte (get_or_append_left text (0 ∷ more) 0 k below) ∙ zero_test (get_or text k 0) (no_zero k 0 below))
    (λ _. ap is_zero_byte here) in
    ap (λ b. cond b (Some (take (position_or_len is_zero_byte bytes) bytes)) None)
    (list_any_at is_zero_byte bytes (length text) 0 within (ap is_zero_byte here))
    ∙ ap (λ n. Some (take n bytes)) at ∙ ap Some (take-append_seam text (0 ∷ more))

-- A host without zero bytes.
no_zero_found : (host : List ℕ) → All (λ b. b ≢ 0) host → list_any is_zero_byte host ≡ false
no_zero_found host no_zero =
    list_any_none is_zero_byte host
    (All-from_get_or (λ b. is_zero_byte b ≡ false) host 0 (λ k below. zero_test (get_or host k 0) (no_zero k 0 below)))

named_by_length : (b other : Bool) → other ≡ false → (b && not other) ≡ b
named_by_length true other none = ap not none
named_by_length false other none = refl

pub host_by_length : (host : List ℕ) → All (λ b. b ≢ 0) host → is_host_name host ≡ is_host_length (length host)
unfolding is_host_name
host_by_length host no_zero =
    named_by_length (is_host_length (length host)) (list_any is_zero_byte host) (no_zero_found host no_zero)

pub place_within : (p : ℕ → Bool) (xs : List ℕ) → list_any p xs ≡ true → (b : Bool)
    → ltb (position_or_len p xs) (length xs) ≡ b → position_or_len p xs < length xs
place_within p xs some true is = ltb-true (position_or_len p xs) (length xs) is
place_within p xs some false is =
    let found = Any-from_list_any p xs some in
    let beyond : length xs ≤ position_or_len p xs = ltb-false (position_or_len p xs) (length xs) is in
    let pass : p (get_or xs found.0 found.1) ≡ true = ap p found.3 ∙ found.4 in
    let fail : p (get_or xs found.0 found.1) ≡ false = fails_before_first p xs found.0 found.1 (omega (arith, found.2)) in
    let never : true ≡ false = sym pass ∙ fail in
    cc

pub terminated_text_is : (bytes text : List ℕ) → terminated_text bytes ≡ Some text
    → (more : List ℕ) × (bytes ≡ text ++ 0 ∷ more) × All (λ b. b ≢ 0) text
unfolding terminated_text
terminated_text_is bytes text is =
    let n = position_or_len is_zero_byte bytes in
    let found = chosen_value (list_any is_zero_byte bytes) (take n bytes) text is in
    let within : n < length bytes = place_within is_zero_byte bytes found.0 (ltb n (length bytes)) refl in
    let here : get_or bytes n 0 ≡ 0 = eqb-true _ _ (passes_at_first is_zero_byte bytes 0 within) in
    let no_zero : All (λ b. b ≢ 0) (take n bytes) =
    All-from_get_or (λ b. b ≢ 0) (take n bytes) 0 (λ k below same.
    let before : k < n = omega (arith, length-take n bytes) in
    let byte : get_or bytes k 0 ≡ 0 = sym (get_or-take n bytes k 0 before) ∙ same in
    let fail : is_zero_byte (get_or bytes k 0) ≡ false = fails_before_first is_zero_byte bytes k 0 before in
    let never : true ≡ false = sym (ap is_zero_byte byte) ∙ fail in
    cc) in (
      drop (n + 1) bytes,
      split_at_first is_zero_byte bytes 0 within
          ∙ ap (λ b. take n bytes ++ b ∷ drop (n + 1) bytes) here ∙ ap (λ t. t ++ 0 ∷ drop (n + 1) bytes) found.1,
      subst (λ t. All (λ b. b ≢ 0) t) found.1 no_zero,
    )
