-- Where a text ends, where it is cut, and the digits of a port.
use Rattle.std.proofs.Common.{◌≡◌, ◌≢◌, ℕ, ◌+◌, ◌-◌, ◌<◌, ◌≤◌, Bool, true, false, not, cond, Option, Some, None, List, length, take, drop, get_or, nat_lt, refl, ◌∙◌, ap, arith, EachIndex, ◌&&◌, ◌∷◌, [], zero, suc, leb, ◌*◌}
use Rattle.std.specs.Prelude.{position}
use Rattle.std.specs.List.{list_any, list_all, position_or_len, suffix_len}
use Rattle.std.proofs.Math.Seq.{take_all}
use Rattle.std.proofs.Math.Nat.{pow-suc, pow-le-pow_right}
use Rattle.std.proofs.Common.{sym, length-drop, add-one, lit<, ◌^◌}
use Rattle.std.proofs.lemmas.Bool.{ltb-true, ltb-false, leb-true}
use Rattle.std.proofs.lemmas.List.Folds.{list_any_at, list_any_none}
use Rattle.std.proofs.lemmas.List.Sums.{passes_at_first, fails_before_first, suffix_len_is}
use Rattle.std.proofs.lemmas.List.Elements.{All-from_get_or}
use Rattle.std.proofs.lemmas.Bool.Decides.{nat_tests}
use Rattle.std.specs.Char.{is_ascii_digit}
use Rattle.std.proofs.lemmas.Str.{digit_value_digit}
use Rattle.std.proofs.lemmas.Int.Digits.{digits_value_more}
use Rattle.tor_spec.specs.Decimal.{decimal_value}
use Rattle.tor_spec.specs.Begin.{is_colon, split_at_last_colon, is_port_text}
use Rattle.tor_spec.specs.Text.{is_zero_byte, terminated_text}

pub chosen : (b : Bool) (n i : ℕ) → cond b (Some n) None ≡ Some i → (b ≡ true) × (n ≡ i)
chosen true n i e = (refl, cc)
chosen false n i e = cc

not_chosen : (b : Bool) (n : ℕ) → cond b (Some n) None ≡ None → b ≡ false
not_chosen true n e = cc
not_chosen false n e = refl

at_position : {X : Type 0} (p : X → Bool) (xs : List X) (d : X) (i : ℕ) → position p xs ≡ Some i
    → (list_any p xs ≡ true) × (position_or_len p xs ≡ i)
at_position p xs d i e =
    let found = chosen (nat_lt (position_or_len p xs) (length xs)) (position_or_len p xs) i e in
    let within : position_or_len p xs < length xs = ltb-true _ _ found.0 in
    (list_any_at p xs (position_or_len p xs) d within (passes_at_first p xs d within), found.1)

no_position : {X : Type 0} (p : X → Bool) (xs : List X) (d : X) → position p xs ≡ None → list_any p xs ≡ false
no_position p xs d e =
    let beyond : length xs ≤ position_or_len p xs =
    ltb-false _ _ (not_chosen (nat_lt (position_or_len p xs) (length xs)) (position_or_len p xs) e) in
    list_any_none p xs (All-from_get_or (λ x. p x ≡ false) xs d (λ i h. fails_before_first p xs i d (omega arith)))

pub terminated_at : (bytes : List ℕ) (i : ℕ) → position is_zero_byte bytes ≡ Some i → terminated_text bytes ≡ Some (take i bytes)
unfolding terminated_text
terminated_at bytes i e =
    let found = at_position is_zero_byte bytes 0 i e in
    ap (λ b. cond b (Some (take (position_or_len is_zero_byte bytes) bytes)) None) found.0 ∙ ap (λ n. Some (take n bytes)) found.1

pub not_terminated : (bytes : List ℕ) → position is_zero_byte bytes ≡ None → terminated_text bytes ≡ None
unfolding terminated_text
not_terminated bytes e =
    ap (λ b. cond b (Some (take (position_or_len is_zero_byte bytes) bytes)) None) (no_position is_zero_byte bytes 0 e)

colon_test : (b : ℕ) → b ≢ 58 → is_colon b ≡ false
colon_test b h = grind (arith, nat_tests)

cuts : (text : List ℕ) (m n i : ℕ) → m ≡ i → n ≡ i + 1
    → ◌≡◌ {A = Option (List ℕ × List ℕ)} (Some (take m text, drop n text)) (Some (take i text, drop (i + 1) text))
cuts text m n i e f = cc

-- the last colon
pub split_at_colon : (text : List ℕ) (i : ℕ) → i < length text → get_or text i 0 ≡ 58
    → ((k : ℕ) → i < k → k < length text → get_or text k 0 ≢ 58)
    → split_at_last_colon text ≡ Some (take i text, drop (i + 1) text)
unfolding split_at_last_colon
split_at_colon text i within here behind =
    let is : is_colon (get_or text i 0) ≡ true = ap is_colon here in
    let before : i + 1 - 1 ≡ i = omega arith in
    let suffix : suffix_len (λ b. not (is_colon b)) text ≡ length text - (i + 1) =
    suffix_len_is (λ b. not (is_colon b)) text (i + 1) 0 (omega arith)
    (λ k above below. ap not (colon_test (get_or text k 0) (behind k (omega arith) below)))
    (λ _. ap (λ k. not (is_colon (get_or text k 0))) before ∙ ap not is) in
    let n = suffix_len (λ b. not (is_colon b)) text in
    ap (λ b. cond b (Some (take (length text - n - 1) text, drop (length text - n) text)) None)
    (list_any_at is_colon text i 0 within is)
    ∙ cuts text (length text - n - 1) (length text - n) i (omega arith) (omega arith)

pub no_colon : (text : List ℕ) → EachIndex text (λ k. get_or text k 0 ≢ 58) → split_at_last_colon text ≡ None
unfolding split_at_last_colon
no_colon text each =
    ap (λ b. cond b
    (Some (
      take (length text - suffix_len (λ b. not (is_colon b)) text - 1) text,
      drop (length text - suffix_len (λ b. not (is_colon b)) text) text,
    )) None)
    (list_any_none is_colon text
    (All-from_get_or (λ b. is_colon b ≡ false) text 0 (λ i h. colon_test (get_or text i 0) (each i h))))

pub and_true : (a b : Bool) → a && b ≡ true → (a ≡ true) × (b ≡ true)
and_true true true e = (refl, refl)
and_true true false e = cc
and_true false b e = cc

-- the length and the bytes of a port
pub record IsPortText (text : List ℕ) : Type 0 where
  pub short : length text ≤ 5
  pub digits : (i : ℕ) → i < length text → (48 ≤ get_or text i 0) × (get_or text i 0 ≤ 57)

digit_at : (text : List ℕ) → list_all is_ascii_digit text ≡ true → (i : ℕ) → i < length text
    → (48 ≤ get_or text i 0) × (get_or text i 0 ≤ 57)
digit_at (c ∷ text) all zero within =
    let both = and_true (is_ascii_digit c) (list_all is_ascii_digit text) all in
    let range = and_true (leb 48 c) (leb c 57) both.0 in
    (leb-true _ _ range.0, leb-true _ _ range.1)
digit_at (c ∷ text) all (suc i) within =
    digit_at text (and_true (is_ascii_digit c) (list_all is_ascii_digit text) all).1 i (omega arith)
digit_at [] all i within = absurd (omega arith)

pub port_text : (text : List ℕ) → is_port_text text ≡ true → IsPortText text
unfolding is_port_text
port_text text e =
    let parts = and_true (leb 1 (length text) && leb (length text) 5) (list_all is_ascii_digit text) e in
    record {
      short = leb-true _ _ (and_true (leb 1 (length text)) (leb (length text) 5) parts.0).1;
      digits = digit_at text parts.1;
    }

-- one digit more
pub decimal_value-more : (text : List ℕ) (i : ℕ) → i < length text
    → 48 ≤ get_or text i 0 → get_or text i 0 ≤ 57
    → decimal_value (take (i + 1) text) ≡ 10 * decimal_value (take i text) + (get_or text i 0 - 48)
decimal_value-more text i within low high =
    let digit = digit_value_digit (get_or text i 0) (low, high) in
    omega (arith, digits_value_more 10 text i within)

-- what a slice to the end is
pub rest_is : (xs : List ℕ) (n : ℕ) → take (length xs - n) (drop n xs) ≡ drop n xs
rest_is xs n = take_all (length xs - n) (drop n xs) (omega (arith, length-drop n xs))

-- the value of the first digits, when one more is read
pub record IsValueSoFar (text : List ℕ) (i value : ℕ) : Type 0 where
  pub value_is : value ≡ decimal_value (take i text)
  pub small : value < 10 ^ i

ten_thousand : (i : ℕ) → i < 5 → 10 ^ i ≤ 10000
ten_thousand i h = let at : i ≤ 4 = omega arith in pow-le-pow_right (lit< tt) at

pub value_below : (text : List ℕ) (i value : ℕ) → is_port_text text ≡ true → i < length text
    → IsValueSoFar text i value → value < 10000
value_below text i value is within so_far =
    let short = (port_text text is).short in
    omega (arith, ten_thousand i (omega arith), so_far.small)

pub value_more : (text : List ℕ) (i value digit : ℕ) → is_port_text text ≡ true → i < length text
    → digit ≡ get_or text i 0 - 48 → IsValueSoFar text i value → IsValueSoFar text (i + 1) (10 * value + digit)
value_more text i value digit is within digit_is so_far =
    let byte = (port_text text is).digits i within in
    record {
      value_is =
          ap (λ n. 10 * n + digit) so_far.value_is ∙ ap (λ n. 10 * decimal_value (take i text) + n) digit_is
          ∙ sym (decimal_value-more text i within byte.0 byte.1);
      small =
          let next : 10 ^ (i + 1) ≡ 10 ^ i * 10 = ap (λ n. 10 ^ n) (add-one i) ∙ pow-suc 10 i in
          omega (arith, so_far.small);
    }
