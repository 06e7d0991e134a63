-- Where a text is cut.
use Rattle.std.proofs.Common.{◌≡◌, ℕ, ◌+◌, ◌≤◌, Bool, true, false, cond, Some, None, List, [], length, take, drop, nat_lt, refl, sym, ap, arith}
use Rattle.std.specs.Prelude.{position}
use Rattle.std.specs.List.{position_or_len, before_first, after_first}
use Rattle.std.proofs.Math.Seq.{take_all}
use Rattle.std.proofs.lemmas.List.{drop_all}
use Rattle.std.proofs.Common.{◌&&◌, leb, le-leb}
use Rattle.std.proofs.lemmas.Bool.{ltb-false, leb-true}
use Rattle.std.specs.List.{list_all}
use Rattle.std.specs.Char.{is_ascii_digit}
use Rattle.tor_spec.proofs.Texts.{and_true}
use Rattle.tor_spec.specs.Begin.{is_port_text}
use Rattle.tor_settings.specs.AddressText.{has_digits}

some_place : (b : Bool) (n i : ℕ) → cond b (Some n) None ≡ Some i → n ≡ i
some_place true n i e = cc
some_place false n i e = cc

no_place : (b : Bool) (n : ℕ) → cond b (Some n) None ≡ None → b ≡ false
no_place true n e = cc
no_place false n e = refl

beyond : (p : ℕ → Bool) (text : List ℕ) → position p text ≡ None → length text ≤ position_or_len p text
beyond p text e = ltb-false _ _ (no_place (nat_lt (position_or_len p text) (length text)) (position_or_len p text) e)

pub before_at : (p : ℕ → Bool) (text : List ℕ) (i : ℕ) → position p text ≡ Some i → take i text ≡ before_first p text
before_at p text i e = ap (λ n. take n text) (sym (some_place _ _ i e))

pub after_at : (p : ℕ → Bool) (text : List ℕ) (i : ℕ) → position p text ≡ Some i → drop (i + 1) text ≡ after_first p text
after_at p text i e = ap (λ n. drop (n + 1) text) (sym (some_place _ _ i e))

pub before_none : (p : ℕ → Bool) (text : List ℕ) → position p text ≡ None → text ≡ before_first p text
before_none p text e = sym (take_all (position_or_len p text) text (beyond p text e))

pub after_none : (p : ℕ → Bool) (text : List ℕ) → position p text ≡ None → [] ≡ after_first p text
after_none p text e = sym (drop_all (position_or_len p text + 1) text (omega (arith, beyond p text e)))

-- up to five digits are a port's
pub port_digits : (most : ℕ) (text : List ℕ) → most ≤ 5 → has_digits most text ≡ true → is_port_text text ≡ true
unfolding has_digits is_port_text
port_digits most text few is =
    let parts = and_true (leb 1 (length text) && leb (length text) most) (list_all is_ascii_digit text) is in
    let ends = and_true (leb 1 (length text)) (leb (length text) most) parts.0 in
    let short : length text ≤ most = leb-true _ _ ends.1 in
    let fits : leb (length text) 5 ≡ true = le-leb (length text) 5 (omega arith) in
    rw (ends.0, fits, parts.1)
