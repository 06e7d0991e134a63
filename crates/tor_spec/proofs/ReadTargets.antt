-- What is read as a target from a payload of BEGIN was spelled so.
use Rattle.std.proofs.Common.{reverse, Bool, ltb, not, ◌≡◌, ◌≢◌, ℕ, ◌+◌, ◌-◌, ◌<◌, true, ◌&&◌, leb, Some, List, ◌∷◌, ◌++◌, zero, suc, length, take, drop, get_or, refl, ap, sym, ◌∙◌, arith, length-append, subst}
use Rattle.std.specs.Prelude.{All, option_map}
use Rattle.std.specs.List.{list_any, suffix_len}
use Rattle.std.proofs.lemmas.List.{get_or-reverse, length-reverse, get_or_append_left}
use Rattle.std.proofs.lemmas.List.Folds.{list_any_at, Any-from_list_any}
use Rattle.std.proofs.lemmas.List.Sums.{passes_at_first}
use Rattle.std.proofs.lemmas.Bool.{leb-true, eqb-true}
use Rattle.std.proofs.Math.Seq.{split_at}
use Rattle.tor_spec.specs.Begin.{is_colon, Target, SpellsTarget, is_host_length, is_host_name, port_of_text, split_at_last_colon, target_of_parts, target_of_text, begin_target}
use Rattle.tor_spec.specs.Text.{is_zero_byte, terminated_text}
use Rattle.tor_spec.proofs.Texts.{and_true, port_text}
use Rattle.tor_spec.proofs.TerminatedTexts.{host_by_length, terminated_text_is, place_within}
use Rattle.tor_spec.proofs.Choices.{chosen_value, then_some, map_some, if_some}

list_any-reverse : (p : ℕ → Bool) (xs : List ℕ) → list_any p xs ≡ true → list_any p (reverse xs) ≡ true
list_any-reverse p xs some =
    let found = Any-from_list_any p xs some in
    let k = found.0 in
    let j = length xs - 1 - k in
    let below : k < length xs = found.2 in
    let within : j < length xs = omega arith in
    let back : length xs - 1 - j ≡ k = omega arith in
    let long : length (reverse xs) ≡ length xs = length-reverse xs in
    let same : get_or (reverse xs) j found.1 ≡ get_or xs k found.1 =
    get_or-reverse xs j found.1 within ∙ ap (λ n. get_or xs n found.1) back in
    list_any_at p (reverse xs) j found.1 (omega arith) (ap p same ∙ ap p found.3 ∙ found.4)

split_at_last_colon_is : (text : List ℕ) (parts : List ℕ × List ℕ) → split_at_last_colon text ≡ Some parts
    → text ≡ parts.0 ++ 58 ∷ parts.1
unfolding split_at_last_colon
split_at_last_colon_is text parts is =
    let s = suffix_len (λ b. not (is_colon b)) text in
    let i = length text - s - 1 in
    let cut : List ℕ × List ℕ = (take i text, drop (length text - s) text) in
    let found = chosen_value (list_any is_colon text) cut parts is in
    let backward = reverse text in
    let long : length backward ≡ length text = length-reverse text in
    let some : list_any is_colon backward ≡ true = list_any-reverse is_colon text found.0 in
    let within : s < length backward = place_within is_colon backward some (ltb s (length backward)) refl in
    let place : length text - 1 - s ≡ i = omega arith in
    let inside : s < length text = omega arith in
    let here : get_or text i 0 ≡ 58 =
    sym (get_or-reverse text s 0 inside ∙ ap (λ n. get_or text n 0) place)
    ∙ eqb-true _ _ (passes_at_first is_colon backward 0 within) in
    let next : suc i ≡ length text - s = omega arith in
    split_at text i 0 (omega arith)
    ∙ ap (λ b. take i text ++ b ∷ drop (suc i) text) here
    ∙ ap (λ n. take i text ++ 58 ∷ drop n text) next
    ∙ ap (λ (p : List ℕ × List ℕ). p.0 ++ 58 ∷ p.1) found.1

-- A host in front of the last colon of a text that a zero byte ends has none itself.
pub cut_host : (payload text host port : List ℕ) → terminated_text payload ≡ Some text
    → split_at_last_colon text ≡ Some (host, port)
    → is_host_name host ≡ is_host_length (length host)
cut_host payload text host port ended cut =
    let whole = (terminated_text_is payload text ended).2 in
    let spelled : text ≡ host ++ 58 ∷ port = split_at_last_colon_is text (host, port) cut in
    let no_zero : All (λ b. b ≢ 0) (host ++ 58 ∷ port) = subst (λ t. All (λ b. b ≢ 0) t) spelled whole in
    let long : length (host ++ 58 ∷ port) ≡ length host + suc (length port) = length-append host (58 ∷ port) in
    host_by_length host
    (λ k d below same. no_zero k d (omega arith) (get_or_append_left host (58 ∷ port) d k below ∙ same))

-- What is read from a BEGIN is what it spells.
pub read_target_is_spelled : (payload : List ℕ) (target : Target) → begin_target payload ≡ Some target
    → SpellsTarget payload target.host target.port
unfolding begin_target target_of_text target_of_parts is_host_name is_host_length
read_target_is_spelled payload target is =
    let make : List ℕ → ℕ → Target = λ host port. record { host = host; port = port } in
    let read = then_some target_of_text (terminated_text payload) target is in
    let text = read.0 in
    let ended = terminated_text_is payload text read.1 in
    let cut = then_some target_of_parts (split_at_last_colon text) target read.2 in
    let host = cut.0.0 in
    let port_text = cut.0.1 in
    let spelled : text ≡ host ++ 58 ∷ port_text = split_at_last_colon_is text cut.0 cut.1 in
    let size = leb 1 (length host) && leb (length host) 255 in
    let other = not (list_any is_zero_byte host) in
    let tests = if_some (size && other) (option_map (make host) (port_of_text port_text)) target cut.2 in
    let sizes = and_true (leb 1 (length host)) (leb (length host) 255) (and_true size other tests.0).0 in
    let port = map_some (make host) (port_of_text port_text) target tests.1 in
    let no_zero : All (λ b. b ≢ 0) (host ++ 58 ∷ port_text) = subst (λ t. All (λ b. b ≢ 0) t) spelled ended.2 in
    let long : length (host ++ 58 ∷ port_text) ≡ length host + suc (length port_text) = length-append host (58 ∷ port_text) in
    subst (λ t. SpellsTarget payload t.host t.port) port.2 (record {
      port_text = port_text;
      more = ended.0;
      spelling = ended.1 ∙ ap (λ t. t ++ 0 ∷ ended.0) spelled;
      is_host = record {
        nonempty = leb-true _ _ sizes.0;
        short = leb-true _ _ sizes.1;
        no_zero_byte = λ k d below same.
            no_zero k d (omega arith) (get_or_append_left host (58 ∷ port_text) d k below ∙ same);
      };
      is_port = port.1;
    })
