-- A payload of BEGIN that spells a target is read as that target.
use Rattle.std.proofs.Common.{◌≡◌, ◌≢◌, ℕ, ◌+◌, ◌-◌, ◌^◌, ◌<◌, ◌≤◌, true, cond, ◌&&◌, leb, Option, Some, None, List, [], ◌∷◌, ◌++◌, zero, suc, length, take, drop, get_or, refl, ap, sym, ◌∙◌, arith, length-append, lit<, subst, ◌⊎◌, inl, inr}
use Rattle.std.specs.Prelude.{All, option_map, option_and_then}
use Rattle.std.specs.List.{list_all}
use Rattle.std.specs.Cmp.Derive.{both_true}
use Rattle.std.specs.Char.{is_ascii_digit}
use Rattle.std.specs.Str.Parse.{AllDigits}
use Rattle.std.proofs.lemmas.Str.Parse.{digit_from_value}
use Rattle.std.proofs.lemmas.Fmt.{decimal_is_IsNumeral}
use Rattle.std.proofs.lemmas.Bool.{le-leb}
use Rattle.std.proofs.lemmas.List.Elements.{All-append, All-from_get_or}
use Rattle.std.proofs.Math.Seq.{get_or-append_seam, take-append_seam, get_or-append_right, drop-append-add}
use Rattle.tor_spec.specs.Begin.{is_colon, Target, IsHost, SpellsTarget, is_host_length, is_port_text, port_of_text, split_at_last_colon, target_of_parts, target_of_text, begin_target, begin_payload}
use Rattle.tor_spec.specs.Decimal.{decimal_value, decimal_digits}
use Rattle.tor_spec.specs.Text.{terminated_text}
use Rattle.tor_spec.proofs.Decimals.{port_digits_short}
use Rattle.tor_spec.proofs.Texts.{chosen, and_true, port_text, IsPortText, split_at_colon}
use Rattle.tor_spec.proofs.TerminatedTexts.{host_by_length, terminated_text-append}

pairs : (a b c d : List ℕ) → a ≡ b → c ≡ d → ◌≡◌ {A = Option (List ℕ × List ℕ)} (Some (a, c)) (Some (b, d))
pairs a b c d e f = cc

split_at_last_colon-append : (host port : List ℕ) → All (λ b. b ≢ 58) port
    → split_at_last_colon (host ++ 58 ∷ port) ≡ Some (host, port)
split_at_last_colon-append host port no_colon =
    let text = host ++ 58 ∷ port in
    let long : length text ≡ length host + suc (length port) = length-append host (58 ∷ port) in
    split_at_colon text (length host) (omega arith) (get_or-append_seam host 58 port 0)
    (λ k above below. λ is_colon.
    let j = k - length host - 1 in
    let place : k - length host ≡ suc j = omega arith in
    let byte : get_or text k 0 ≡ get_or port j 0 =
    get_or-append_right host (58 ∷ port) k 0 (omega arith) ∙ ap (λ n. get_or (58 ∷ port) n 0) place in
    no_colon j 0 (omega arith) (sym byte ∙ is_colon))
    ∙ pairs (take (length host) text) host (drop (length host + 1) text) port
    (take-append_seam host (58 ∷ port)) (drop-append-add host (58 ∷ port) 1)

-- the bytes of a text that writes a port are digits
port_bytes : (text : List ℕ) (port : ℕ) → port_of_text text ≡ Some port → IsPortText text
unfolding port_of_text
port_bytes text port is =
    let value = decimal_value text in
    let tests = chosen (is_port_text text && leb 1 value && leb value 65535) value port is in
    port_text text
    (and_true (is_port_text text) (leb 1 value) (and_true (is_port_text text && leb 1 value) (leb value 65535) tests.0).0).0

other_bytes : (text : List ℕ) (byte : ℕ) → IsPortText text → byte < 48 ⊎ 57 < byte → All (λ b. b ≢ byte) text
other_bytes text byte is outside =
    All-from_get_or (λ b. b ≢ byte) text 0
    (λ k below same.
    let digit = is.digits k below in
    let low : 48 ≤ byte = subst (λ b. 48 ≤ b) same digit.0 in
    let high : byte ≤ 57 = subst (λ b. b ≤ 57) same digit.1 in
    elim outside [ inl h ↦ absurd (omega arith) | inr h ↦ absurd (omega arith) ])

target_of_spelling : (host text : List ℕ) (port : ℕ) → IsHost host → port_of_text text ≡ Some port
    → target_of_text (host ++ 58 ∷ text) ≡ Some (record { host = host; port = port })
unfolding target_of_text target_of_parts is_host_length
target_of_spelling host text port is_host is_port =
    let target : ℕ → Target = λ n. record { host = host; port = n } in
    let found = option_map target (port_of_text text) in
    ap (option_and_then target_of_parts)
    (split_at_last_colon-append host text (other_bytes text 58 (port_bytes text port is_port) (inr (lit< tt))))
    ∙ ap (λ b. cond b found None) (host_by_length host is_host.no_zero_byte)
    ∙ ap (λ b. cond (b && leb (length host) 255) found None) (le-leb 1 (length host) is_host.nonempty)
    ∙ ap (λ b. cond b found None) (le-leb (length host) 255 is_host.short)
    ∙ ap (option_map target) is_port

colon_alone : All {X = ℕ} (λ b. b ≢ 0) (58 ∷ [])
colon_alone zero d below = λ same. absurd (omega arith)
colon_alone (suc k) d below = absurd (omega arith)

pub spelled_target_is_read : (payload host : List ℕ) (port : ℕ) → SpellsTarget payload host port
    → begin_target payload ≡ Some (record { host = host; port = port })
unfolding begin_target
spelled_target_is_read payload host port spells =
    let digits = other_bytes spells.port_text 0 (port_bytes spells.port_text port spells.is_port) (inl (lit< tt)) in
    let text = host ++ 58 ∷ spells.port_text in
    let no_zero : All (λ b. b ≢ 0) text =
    All-append (λ b. b ≢ 0) host (58 ∷ spells.port_text) spells.is_host.no_zero_byte
    (All-append (λ b. b ≢ 0) (58 ∷ []) spells.port_text colon_alone digits) in
    ap (λ p. option_and_then target_of_text (terminated_text p)) spells.spelling
    ∙ ap (option_and_then target_of_text) (terminated_text-append text spells.more no_zero)
    ∙ target_of_spelling host spells.port_text port spells.is_host spells.is_port

all_digits : (text : List ℕ) → AllDigits 10 text → list_all is_ascii_digit text ≡ true
all_digits [] digits = refl
all_digits (c ∷ text) digits =
    let range = digit_from_value c digits.0 in
    both_true (both_true (le-leb 48 c range.0) (le-leb c 57 range.1)) (all_digits text digits.1)

pub port_of_text-decimal_digits : (port : ℕ) → 1 ≤ port → port < 2 ^ 16 → port_of_text (decimal_digits port) ≡ Some port
unfolding port_of_text is_port_text
port_of_text-decimal_digits port low high =
    let text = decimal_digits port in
    let numeral = decimal_is_IsNumeral port (omega arith) in
    let value : decimal_value text ≡ port = numeral.1 in
    let short : length text ≤ 5 = port_digits_short port high in
    ap (λ b. cond b (Some (decimal_value text)) None)
    (both_true
    (both_true
    (both_true (both_true (le-leb 1 (length text) numeral.0.0) (le-leb (length text) 5 short)) (all_digits text numeral.0.1))
    (le-leb 1 (decimal_value text) (omega arith)))
    (le-leb (decimal_value text) 65535 (omega arith)))
    ∙ ap Some value

pub begin_payload_is_read : (host : List ℕ) (port : ℕ) → IsHost host → 1 ≤ port → port < 2 ^ 16
    → begin_target (begin_payload host port) ≡ Some (record { host = host; port = port })
unfolding begin_payload
begin_payload_is_read host port is_host low high =
    spelled_target_is_read (host ++ 58 ∷ decimal_digits port ++ 0 ∷ []) host port (record {
      port_text = decimal_digits port;
      more = [];
      spelling = refl;
      is_host = is_host;
      is_port = port_of_text-decimal_digits port low high;
    })
