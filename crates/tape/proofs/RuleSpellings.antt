-- What spells a tape's rules is read as them, and what is read as rules spells them.
use Rattle.std.proofs.Common.{◌≡◌, inl, inr, ℕ, suc, ◌<◌, ◌≤◌, ◌^◌, ◌==◌, if◌then◌else◌, nat_lt, Bool, true, false, List, [], ◌∷◌, ◌++◌, length, drop, slice_index, sym, ap, ◌∙◌, arith, append_assoc, length-append, refl}
use Rattle.std.proofs.lemmas.Bool.{le-ltb, le-leb, ltb-false, eqb-true, and_from, and_parts}
use Rattle.std.proofs.lemmas.List.{length-take-le}
use Rattle.std.proofs.lemmas.Nat.{be_bytes_2, from_be_bytes-to_be_bytes_2}
use Rattle.std.proofs.Math.Seq.{drop-cons}
use Rattle.std.specs.Int.{w16, from_be_bytes, to_be_bytes}
use Rattle.circuit_model.specs.Rules.{Rules}
use Rattle.tor_spec.specs.CellStream.{IsBytes}
use Rattle.tor_spec.specs.CircuitWindow.{circuit_start, least_start}
use Rattle.tape.specs.declared.rules.RulesFront.{RulesFront}
use Rattle.tape.specs.Fronts.{field}
use Rattle.tape.specs.TapeRules.{RulesFrontIs, rules_and, less_than_rules, no_rules, are_rules, said_rules, rules_ahead, rules_spelling, tape_rules, standard_rules, AreRules, SaysRules}
use Rattle.tape.proofs.Fields.{field_bytes, part}

in_range : (window least : ℕ) → AreRules window least → are_rules window least 0 ≡ true
in_range window least are =
    and_from _ _
    (and_from _ _ (le-leb least_start window are.wide) (le-leb window circuit_start are.within))
    (and_from _ _ (le-leb least 1 are.version) refl)

by_range : (read window least : ℕ) (rest : List ℕ) → read ≡ window → are_rules window least 0 ≡ true →
    (if are_rules read least 0 then rules_and (tape_rules read least) rest else no_rules) ≡ rules_and (tape_rules window least)
    rest
by_range read window least rest is are =
    ap (λ n. if are_rules n least 0 then rules_and (tape_rules n least) rest else no_rules) is
    ∙ ap (λ (b : Bool). if b then rules_and (tape_rules window least) rest else no_rules) are

two : (n : ℕ) → length (to_be_bytes w16 n) ≡ 2
two n = refl

rules_read : (window least : ℕ) (rest : List ℕ) → AreRules window least
    → said_rules (to_be_bytes w16 window ++ least ∷ 0 ∷ rest) ≡ rules_and (tape_rules window least) rest
unfolding said_rules
rules_read window least rest are =
    let long : 4 ≤ length (to_be_bytes w16 window ++ least ∷ 0 ∷ rest) =
    omega (arith, length-append (to_be_bytes w16 window) (least ∷ 0 ∷ rest), two window) in
    let small : window < 2 ^ 16 = omega (arith, are.within) in
    rw (le-ltb (length (to_be_bytes w16 window ++ least ∷ 0 ∷ rest)) 4 long)
    (by_range (from_be_bytes w16 (to_be_bytes w16 window)) window least rest (from_be_bytes-to_be_bytes_2 window small)
    (in_range window least are))

pub spelled_is_rules : (front : RulesFront) (tape : List ℕ) (window least : ℕ) (rest : List ℕ)
    → RulesFrontIs front (rules_ahead tape) → AreRules window least → tape ≡ rules_spelling window least ++ rest
    → RulesFrontIs front (rules_and (tape_rules window least) rest)
unfolding rules_ahead
spelled_is_rules front tape window least rest is are spells =
    is ∙ ap rules_ahead spells
    ∙ ap said_rules (append_assoc (to_be_bytes w16 window) (least ∷ 0 ∷ []) rest)
    ∙ rules_read window least rest are

rules_whole : (fields : List ℕ) → IsBytes fields → 4 ≤ length fields → slice_index fields 3 ≡ 0 →
    16 ∷ fields ≡ rules_spelling (from_be_bytes w16 (field 0 2 fields)) (slice_index fields 2) ++ drop 4 fields
rules_whole fields bytes long zero =
    let window : List ℕ = to_be_bytes w16 (from_be_bytes w16 (field 0 2 fields)) in
    let size : length (field 0 2 fields) ≡ 2 = length-take-le 2 fields (omega arith) in
    let read : window ≡ field 0 2 fields = be_bytes_2 (field 0 2 fields) _ size (field_bytes 0 2 fields bytes) refl in
    ap (λ xs. 16 ∷ xs)
    (part 0 2 fields
    ∙ ap (λ xs. xs ++ drop 2 fields) (sym read)
    ∙ ap (λ xs. window ++ xs) (drop-cons fields 2 0 (omega arith))
    ∙ ap (λ xs. window ++ slice_index fields 2 ∷ xs) (drop-cons fields 3 0 (omega arith))
    ∙ ap (λ n. window ++ slice_index fields 2 ∷ n ∷ drop 4 fields) zero
    ∙ sym (append_assoc window (slice_index fields 2 ∷ 0 ∷ []) (drop 4 fields)))

last_zero : (window least last : ℕ) → are_rules window least last ≡ true → last ≡ 0
last_zero window least last are = eqb-true last 0 (and_parts _ _ (and_parts _ _ are).1).1

said_by : (short are : Bool) (fields : List ℕ) (rules : Rules) (rest : List ℕ) → IsBytes fields → nat_lt (length fields) 4 ≡ short
    → are_rules (from_be_bytes w16 (field 0 2 fields)) (slice_index fields 2) (slice_index fields 3) ≡ are →
    (if short then less_than_rules
    else (if are then rules_and (tape_rules (from_be_bytes w16 (field 0 2 fields)) (slice_index fields 2)) (drop 4 fields)
    else no_rules)) ≡ rules_and rules rest →
    16 ∷ fields ≡ rules_spelling rules.window rules.least ++ rest
said_by true are fields rules rest bytes is_short is_are is = cc
said_by false false fields rules rest bytes is_short is_are is = cc
said_by false true fields rules rest bytes is_short is_are is =
    let which : rules ≡ tape_rules (from_be_bytes w16 (field 0 2 fields)) (slice_index fields 2) = cc in
    let behind : rest ≡ drop 4 fields = cc in
    rules_whole fields bytes (ltb-false (length fields) 4 is_short)
    (last_zero (from_be_bytes w16 (field 0 2 fields)) (slice_index fields 2) (slice_index fields 3) is_are)
    ∙ ap (λ (q : Rules). rules_spelling q.window q.least ++ drop 4 fields) (sym which)
    ∙ ap (λ xs. rules_spelling rules.window rules.least ++ xs) (sym behind)

ahead_by : (said : Bool) (kind : ℕ) (fields : List ℕ) (rules : Rules) (rest : List ℕ) → IsBytes fields → (kind == 16) ≡ said →
    (if said then said_rules fields else rules_and standard_rules (kind ∷ fields)) ≡ rules_and rules rest →
    SaysRules (kind ∷ fields) rules rest
unfolding said_rules
ahead_by true kind fields rules rest bytes is_said is =
    inr (ap (λ k. k ∷ fields) (eqb-true kind 16 is_said) ∙ said_by _ _ fields rules rest bytes refl refl is)
ahead_by false kind fields rules rest bytes is_said is =
    let which : rules ≡ standard_rules = cc in
    let behind : kind ∷ fields ≡ rest = cc in
    inl (which, behind)

read_says_rules : (tape : List ℕ) (rules : Rules) (rest : List ℕ) → IsBytes tape → rules_ahead tape ≡ rules_and rules rest
    → SaysRules tape rules rest
unfolding rules_ahead
read_says_rules [] rules rest bytes is =
    let which : rules ≡ standard_rules = cc in
    let behind : [] ≡ rest = cc in
    inl (which, behind)
read_says_rules (kind ∷ fields) rules rest bytes is =
    ahead_by _ kind fields rules rest (λ i. bytes (suc i)) refl is

pub rules_are_spelled : (front : RulesFront) (tape : List ℕ) (rules : Rules) (rest : List ℕ) → IsBytes tape
    → RulesFrontIs front (rules_ahead tape) → RulesFrontIs front (rules_and rules rest) → SaysRules tape rules rest
rules_are_spelled front tape rules rest fits is read = read_says_rules tape rules rest fits (sym is ∙ read)
