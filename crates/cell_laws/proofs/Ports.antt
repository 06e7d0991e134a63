-- A port is read as it is spelled.
use Rattle.std.proofs.Common.{◌≡◌, ◌↔◌, ℕ, ◌≤◌, true, cond, ◌&&◌, leb, Some, None, List, [], ◌∷◌, length, ap, refl, subst, sym, ◌∙◌}
use Rattle.std.specs.Char.{is_ascii_digit}
use Rattle.std.specs.List.{list_all, AllByRecursion}
use Rattle.std.proofs.lemmas.Bool.{le-leb, leb-true, and_parts, and_from}
use Rattle.std.proofs.lemmas.Option.{cond_some}
use Rattle.tor_spec.specs.Begin.{is_port_text, port_of_text}
use Rattle.tor_spec.specs.Decimal.{decimal_value}
use Rattle.cell_laws.specs.Ports.{SpellsPort}

digits_pass : (text : List ℕ) → AllByRecursion (λ d. (48 ≤ d) × (d ≤ 57)) text → list_all is_ascii_digit text ≡ true
digits_pass [] digits = refl
digits_pass (d ∷ text) digits =
    and_from (is_ascii_digit d) (list_all is_ascii_digit text)
    (and_from (leb 48 d) (leb d 57) (le-leb 48 d digits.0.0) (le-leb d 57 digits.0.1)) (digits_pass text digits.1)

passed_digits : (text : List ℕ) → list_all is_ascii_digit text ≡ true → AllByRecursion (λ d. (48 ≤ d) × (d ≤ 57)) text
passed_digits [] passed = tt
passed_digits (d ∷ text) passed =
    let both = and_parts (is_ascii_digit d) (list_all is_ascii_digit text) passed in
    let range = and_parts (leb 48 d) (leb d 57) both.0 in
    ((leb-true 48 d range.0, leb-true d 57 range.1), passed_digits text both.1)

port_read : (text : List ℕ) (port : ℕ) → SpellsPort text port → port_of_text text ≡ Some port
unfolding port_of_text is_port_text
port_read text port spells =
    let v = decimal_value text in
    let n = length text in
    let is_text = and_from (leb 1 n && leb n 5) (list_all is_ascii_digit text)
    (and_from (leb 1 n) (leb n 5) (le-leb 1 n spells.some) (le-leb n 5 spells.short)) (digits_pass text spells.digits) in
    let low : leb 1 v ≡ true = le-leb 1 v (subst (λ p. 1 ≤ p) (sym spells.value) spells.least) in
    let high : leb v 65535 ≡ true = le-leb v 65535 (subst (λ p. p ≤ 65535) (sym spells.value) spells.most) in
    ap (λ b. cond b (Some v) None) (and_from _ (leb v 65535) (and_from _ (leb 1 v) is_text low) high)
    ∙ ap Some spells.value

port_spelled : (text : List ℕ) (port : ℕ) → port_of_text text ≡ Some port → SpellsPort text port
unfolding port_of_text is_port_text
port_spelled text port e =
    let v = decimal_value text in
    let n = length text in
    let parts = cond_some _ v port e in
    let tests = and_parts _ (leb v 65535) parts.0 in
    let low = and_parts _ (leb 1 v) tests.0 in
    let is_text = and_parts (leb 1 n && leb n 5) (list_all is_ascii_digit text) low.0 in
    let sizes = and_parts (leb 1 n) (leb n 5) is_text.0 in
    record {
      some = leb-true 1 n sizes.0;
      short = leb-true n 5 sizes.1;
      digits = passed_digits text is_text.1;
      value = parts.1;
      least = subst (λ p. 1 ≤ p) parts.1 (leb-true 1 v low.1);
      most = subst (λ p. p ≤ 65535) parts.1 (leb-true v 65535 tests.1);
    }

pub port_law : (text : List ℕ) (port : ℕ) → SpellsPort text port ↔ (port_of_text text ≡ Some port)
port_law text port = (port_read text port, port_spelled text port)
