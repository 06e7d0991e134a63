-- Reading the answers of a RESOLVED one by one.
use Rattle.std.proofs.Common.{◌≡◌, ◌≤◌, ◌<◌, ◌-◌, ℕ, zero, suc, Bool, true, false, cond, Option, Some, None, List, [], ◌∷◌, length, drop, refl, ap, sym, ◌∙◌, nat_eq, arith, length-drop}
use Rattle.std.specs.Prelude.{option_map, option_and_then, find}
use Rattle.std.specs.Option.{option_or}
use Rattle.std.proofs.lemmas.Option.{none-some, same_Some, cond_some}
use Rattle.tor_spec.specs.Reasons.{resolved_ipv4}
use Rattle.tor_spec.specs.Resolve.{Answer, answer_at, put_answer, answers_within, answers_in, resolved_answers, first_ip, with_ip, ip_at, resolved_ip}

none_at_end : (a : Answer) (rest : List ℕ) → answer_at [] ≡ Some (a, rest) → ⊥
unfolding answer_at
none_at_end a rest e = none-some _ e

-- Fewer bytes are behind an answer.
pub fewer_behind : (bytes : List ℕ) (a : Answer) (rest : List ℕ) → answer_at bytes ≡ Some (a, rest) → length rest < length bytes
unfolding answer_at
fewer_behind [] a rest e = absurd (none-some _ e)
fewer_behind (kind ∷ []) a rest e = absurd (none-some _ e)
fewer_behind (kind ∷ size ∷ more) a rest e =
    let parts = cond_some _ _ _ e in
    let behind : drop 4 (drop size more) ≡ rest = ap (λ read. read.1) parts.1 in
    let short : length rest ≡ length more - size - 4 =
    sym (ap length behind) ∙ length-drop 4 (drop size more) ∙ ap (λ n. n - 4) (length-drop size more) in
    omega (arith, short)

same_later : (o : Option (Answer × List ℕ)) (f g : List ℕ → Option (List Answer))
    → ((a : Answer) (rest : List ℕ) → o ≡ Some (a, rest) → f rest ≡ g rest)
    → option_and_then (λ read. option_map (put_answer read.0) (f read.1)) o
    ≡ option_and_then (λ read. option_map (put_answer read.0) (g read.1)) o
same_later None f g same = refl
same_later (Some read) f g same = ap (option_map (put_answer read.0)) (same read.0 read.1 refl)

-- A greater bound changes nothing.
pub within_enough : (n m : ℕ) (bytes : List ℕ) → length bytes ≤ n → length bytes ≤ m
    → answers_within n bytes ≡ answers_within m bytes
unfolding answers_within
within_enough zero zero [] h k = refl
within_enough zero (suc m) [] h k = refl
within_enough (suc n) zero [] h k = refl
within_enough (suc n) (suc m) [] h k = refl
within_enough zero zero (b ∷ bytes) h k = refl
within_enough zero (suc m) (b ∷ bytes) h k = absurd (omega arith)
within_enough (suc n) zero (b ∷ bytes) h k = absurd (omega arith)
within_enough (suc n) (suc m) (b ∷ bytes) h k =
    same_later (answer_at (b ∷ bytes)) (answers_within n) (answers_within m)
    (λ a rest e. let fewer = fewer_behind (b ∷ bytes) a rest e in within_enough n m rest (omega arith) (omega arith))

-- The answers are the first one and those behind it.
pub answers_step : (bytes : List ℕ) (a : Answer) (rest : List ℕ) → answer_at bytes ≡ Some (a, rest)
    → answers_in bytes ≡ option_map (put_answer a) (answers_in rest)
unfolding answers_in answers_within
answers_step [] a rest e = absurd (none_at_end a rest e)
answers_step (b ∷ bytes) a rest e =
    let fewer = fewer_behind (b ∷ bytes) a rest e in
    ap (λ found. option_and_then (λ read. option_map (put_answer read.0) (answers_within (length bytes) read.1)) found) e
    ∙ ap (option_map (put_answer a)) (within_enough (length bytes) (length rest) rest (omega arith) (omega arith))

-- No answer is at the front of the bytes that are left.
pub answers_stop : (bytes : List ℕ) → 0 < length bytes → answer_at bytes ≡ None → answers_in bytes ≡ None
unfolding answers_in answers_within
answers_stop [] some e = absurd (omega arith)
answers_stop (b ∷ bytes) some e =
    ap (λ found. option_and_then (λ read. option_map (put_answer read.0) (answers_within (length bytes) read.1)) found) e

-- What is told by answers behind others, whose first address is `found`.
abbrev pub behind_found : Option (List ℕ) → Option (List Answer) → Option (Option (List ℕ))
behind_found found later = option_map (λ answers. option_or found (first_ip answers)) later

none_found : (later : Option (List Answer)) → behind_found None later ≡ option_map first_ip later
none_found None = refl
none_found (Some answers) = refl

first_of_both : (found : Option (List ℕ)) (a : Answer) (is_ip : Bool) (later : Option Answer)
    → option_or found (option_map (λ answer. answer.value) (cond is_ip (Some a) later))
    ≡ option_or (option_or found (option_map (λ answer. answer.value) (cond is_ip (Some a) None)))
    (option_map (λ answer. answer.value) later)
first_of_both (Some ip) a is_ip later = refl
first_of_both None a true later = refl
first_of_both None a false later = refl

found_merged : (found : Option (List ℕ)) (a : Answer) (later : Option (List Answer))
    → behind_found found (option_map (put_answer a) later) ≡ behind_found (option_or found (first_ip (a ∷ []))) later
unfolding first_ip
found_merged found a None = refl
found_merged found a (Some answers) =
    ap (λ (o : Option (List ℕ)). Some o)
    (first_of_both found a (nat_eq a.kind resolved_ipv4) (find (λ answer. nat_eq answer.kind resolved_ipv4) answers))

step_from : (found address next : Option (List ℕ)) (bytes rest : List ℕ) (o : Option (Answer × List ℕ)) → answer_at bytes ≡ o
    → option_map with_ip o ≡ Some (address, rest) → next ≡ option_or found address
    → behind_found found (answers_in bytes) ≡ behind_found next (answers_in rest)
step_from found address next bytes rest None at e is = absurd (none-some _ e)
step_from found address next bytes rest (Some read) at e is =
    let both : with_ip read ≡ (address, rest) = same_Some _ _ e in
    let first : option_or found (first_ip (read.0 ∷ [])) ≡ next = ap (λ p. option_or found p.0) both ∙ sym is in
    ap (behind_found found) (answers_step bytes read.0 read.1 at)
    ∙ found_merged found read.0 (answers_in read.1)
    ∙ ap (λ ip. behind_found ip (answers_in read.1)) first
    ∙ ap (λ p. behind_found next (answers_in p.1)) both

-- A step of a loop over the answers.
pub ip_step : (found address next : Option (List ℕ)) (bytes rest : List ℕ) → ip_at bytes ≡ Some (address, rest)
    → next ≡ option_or found address → behind_found found (answers_in bytes) ≡ behind_found next (answers_in rest)
unfolding ip_at
ip_step found address next bytes rest e is = step_from found address next bytes rest (answer_at bytes) refl e is

-- The loop finds no answer.
pub ip_stop : (found : Option (List ℕ)) (bytes : List ℕ) → 0 < length bytes → answer_at bytes ≡ None
    → behind_found found (answers_in bytes) ≡ None
ip_stop found bytes some e = ap (behind_found found) (answers_stop bytes some e)

-- The loop is over.
pub ip_done : (found : Option (List ℕ)) (bytes : List ℕ) → length bytes ≡ 0 → behind_found found (answers_in bytes) ≡ Some found
unfolding answers_in answers_within first_ip
ip_done None [] e = refl
ip_done (Some ip) [] e = refl
ip_done found (b ∷ bytes) e = absurd (omega arith)

pub ip_empty : (payload : List ℕ) → length payload ≡ 0 → resolved_ip payload ≡ None
unfolding resolved_ip resolved_answers
ip_empty [] e = refl
ip_empty (b ∷ bytes) e = absurd (omega arith)

pub ip_whole : (payload : List ℕ) → 0 < length payload → behind_found None (answers_in payload) ≡ resolved_ip payload
unfolding resolved_ip resolved_answers
ip_whole [] some = absurd (omega arith)
ip_whole (b ∷ bytes) some = none_found (answers_in (b ∷ bytes))
