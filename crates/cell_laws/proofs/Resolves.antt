-- RESOLVED: what is written spells one answer, and bytes spell one list of answers.
use Rattle.std.proofs.Common.{◌≡◌, ◌↔◌, ℕ, zero, suc, ◌+◌, ◌-◌, ◌^◌, ◌<◌, ◌≤◌, true, cond, ◌&&◌, leb, Option, Some, None, List, [], ◌∷◌, ◌++◌, length, take, drop, refl, ap, sym, subst, ◌∙◌, append_assoc, lit<, arith, length-append, length-drop}
use Rattle.std.specs.Prelude.{nat_eq, option_map}
use Rattle.std.specs.List.{flat_map, AllByRecursion}
use Rattle.std.specs.Int.{w32, to_be_bytes, from_be_bytes}
use Rattle.std.proofs.lemmas.Bool.{le-leb, leb-true, eqb-true, eq-eqb, and_parts, cond_both}
use Rattle.std.proofs.lemmas.List.{append-nil, take_at, drop_at, take-append-drop, length-take-le}
use Rattle.std.proofs.lemmas.Nat.{from_be_bytes-to_be_bytes_4}
use Rattle.std.proofs.lemmas.Option.{none-some, same_Some, cond_some}
use Rattle.tor_spec.specs.Resolve.{Answer, is_value_length, answer_at, put_answer, answers_within, answers_in, resolved_answers, resolved_payload}
use Rattle.tor_spec.specs.Reasons.{resolved_ipv4}
use Rattle.tor_spec.proofs.Resolves.{answers_step}
use Rattle.tor_spec.specs.CellStream.{IsBytes}
use Rattle.cell_laws.specs.Resolved.{answer_bytes, IsAnswer, SpellsAnswers}
use Rattle.cell_laws.proofs.Bytes.{IsBytes-append, IsBytes-cons, IsBytes-drop, IsBytes-left, IsBytes-right, IsBytes-to_be_bytes, four_bytes, four_fit}
use Rattle.cell_laws.proofs.Options.{then_some, map_some}

pub answer_written : (answer : Answer) → IsAnswer answer
    → SpellsAnswers (resolved_payload answer.kind answer.value answer.ttl) (answer ∷ [])
unfolding resolved_payload
answer_written answer is = record {
  spelling = sym (append-nil (answer_bytes answer));
  some = λ e. cc;
  each = (is, tt);
}

-- An answer is spelled by bytes.
answer_fits : (a : Answer) → IsAnswer a → IsBytes (answer_bytes a)
answer_fits a is =
    IsBytes-append (a.kind ∷ length a.value ∷ a.value) (to_be_bytes w32 a.ttl)
    (IsBytes-cons a.kind (length a.value ∷ a.value) is.kind_fits
    (IsBytes-cons (length a.value) a.value is.length_fits is.value_bytes))
    (IsBytes-to_be_bytes w32 a.ttl)

answers_fit : (answers : List Answer) → AllByRecursion IsAnswer answers → IsBytes (flat_map answer_bytes answers)
answers_fit [] each = λ i. lit< tt
answers_fit (a ∷ answers) each =
    IsBytes-append (answer_bytes a) (flat_map answer_bytes answers) (answer_fits a each.0) (answers_fit answers each.1)

pub spelled_bytes : (payload : List ℕ) (answers : List Answer) → SpellsAnswers payload answers → IsBytes payload
spelled_bytes payload answers spells = subst IsBytes (sym spells.spelling) (answers_fit answers spells.each)

-- Lists that begin alike, of equal length, are alike, and so are those behind them.
parts : (a b x y : List ℕ) → length a ≡ length b → a ++ x ≡ b ++ y → (a ≡ b) × (x ≡ y)
parts a b x y long e = (
  sym (take_at a x (length a) refl) ∙ ap (take (length a)) e ∙ take_at b y (length a) (sym long),
  sym (drop_at a x (length a) refl) ∙ ap (drop (length a)) e ∙ drop_at b y (length a) (sym long),
)

same_number : (m n : ℕ) → m < 2 ^ 32 → n < 2 ^ 32 → to_be_bytes w32 m ≡ to_be_bytes w32 n → m ≡ n
same_number m n m_fits n_fits e =
    sym (from_be_bytes-to_be_bytes_4 m m_fits) ∙ ap (from_be_bytes w32) e ∙ from_be_bytes-to_be_bytes_4 n n_fits

-- One answer is spelled in front of x as another is in front of y.
record SameFront (a b : Answer) (x y : List ℕ) : Type 0 where
  pub answer : a ≡ b
  pub behind : x ≡ y

same_answer : (a b : Answer) → a.kind ≡ b.kind → a.value ≡ b.value → a.ttl ≡ b.ttl → a ≡ b
same_answer a b e f g =
    ap (λ n. record a { kind = n }) e ∙ ap (λ v. record b { value = v; ttl = a.ttl }) f ∙ ap (λ n. record b { ttl = n }) g

front_same : (a b : Answer) (x y : List ℕ) → IsAnswer a → IsAnswer b → answer_bytes a ++ x ≡ answer_bytes b ++ y
    → SameFront a b x y
front_same a b x y a_is b_is e =
    let kind : a.kind ≡ b.kind = cc in
    let long : length a.value ≡ length b.value = cc in
    let tail : a.value ++ to_be_bytes w32 a.ttl ++ x ≡ b.value ++ to_be_bytes w32 b.ttl ++ y = cc in
    let value = parts a.value b.value (to_be_bytes w32 a.ttl ++ x) (to_be_bytes w32 b.ttl ++ y) long
    (sym (append_assoc a.value (to_be_bytes w32 a.ttl) x) ∙ tail ∙ append_assoc b.value (to_be_bytes w32 b.ttl) y) in
    let ttl = parts (to_be_bytes w32 a.ttl) (to_be_bytes w32 b.ttl) x y refl value.1 in
    record {
      answer = same_answer a b kind value.0 (same_number a.ttl b.ttl a_is.ttl_fits b_is.ttl_fits ttl.0);
      behind = ttl.1;
    }

answers_same : (answers others : List Answer) → AllByRecursion IsAnswer answers → AllByRecursion IsAnswer others
    → flat_map answer_bytes answers ≡ flat_map answer_bytes others → answers ≡ others
answers_same [] [] each each_other e = refl
answers_same [] (b ∷ others) each each_other e = absurd cc
answers_same (a ∷ answers) [] each each_other e = absurd cc
answers_same (a ∷ answers) (b ∷ others) each each_other e =
    let front = front_same a b (flat_map answer_bytes answers) (flat_map answer_bytes others) each.0 each_other.0 e in
    let later = answers_same answers others each.1 each_other.1 front.behind in
    cc (front.answer, later)

pub one_spelling : (payload : List ℕ) (answers others : List Answer) → SpellsAnswers payload answers
    → SpellsAnswers payload others → answers ≡ others
one_spelling payload answers others a b = answers_same answers others a.each b.each (sym a.spelling ∙ b.spelling)

-- What is spelled is read.

right_length : (a : Answer) → IsAnswer a → is_value_length a.kind (length a.value) ≡ true
unfolding is_value_length
right_length a is =
    cond_both (nat_eq a.kind resolved_ipv4) (nat_eq (length a.value) 4) true (λ b. b ≡ true)
    (λ e. eq-eqb (length a.value) 4 (is.ipv4 (eqb-true a.kind resolved_ipv4 e))) (λ e. refl)

answer_read : (a : Answer) (more : List ℕ) → IsAnswer a → answer_at (answer_bytes a ++ more) ≡ Some (a, more)
unfolding answer_at
answer_read a more is =
    let n = length a.value in
    let behind = to_be_bytes w32 a.ttl ++ more in
    let rest = a.value ++ behind in
    let long : length rest ≡ n + length behind = length-append a.value behind in
    let rest_long : length behind ≡ 4 + length more = length-append (to_be_bytes w32 a.ttl) more in
    let same : take n rest ≡ a.value = take_at a.value behind n refl in
    let later : drop n rest ≡ behind = drop_at a.value behind n refl in
    let made : List ℕ → List ℕ → Option (Answer × List ℕ) =
    λ v l. Some (record { kind = a.kind; value = v; ttl = from_be_bytes w32 (take 4 l) }, drop 4 l) in
    let whole : leb (n + 4) (length rest) ≡ true = le-leb (n + 4) (length rest) (omega arith) in
    ap (λ l. answer_at (a.kind ∷ n ∷ l)) (append_assoc a.value (to_be_bytes w32 a.ttl) more)
    ∙ ap (λ b. cond (b && leb (n + 4) (length rest)) (made (take n rest) (drop n rest)) None) (right_length a is)
    ∙ ap (λ b. cond b (made (take n rest) (drop n rest)) None) whole
    ∙ ap (λ v. made v (drop n rest)) same
    ∙ ap (made a.value) later
    ∙ ap (λ (t : ℕ). Some (record { kind = a.kind; value = a.value; ttl = t }, more))
    (from_be_bytes-to_be_bytes_4 a.ttl is.ttl_fits)

answers_read : (answers : List Answer) → AllByRecursion IsAnswer answers
    → answers_in (flat_map answer_bytes answers) ≡ Some answers
unfolding answers_in answers_within
answers_read [] each = refl
answers_read (a ∷ answers) each =
    answers_step (answer_bytes a ++ flat_map answer_bytes answers) a (flat_map answer_bytes answers)
    (answer_read a (flat_map answer_bytes answers) each.0)
    ∙ ap (option_map (put_answer a)) (answers_read answers each.1)

resolved_read : (payload : List ℕ) (answers : List Answer) → SpellsAnswers payload answers
    → resolved_answers payload ≡ Some answers
unfolding resolved_answers
resolved_read payload [] spells = absurd (spells.some refl)
resolved_read payload (a ∷ answers) spells = ap resolved_answers spells.spelling ∙ answers_read (a ∷ answers) spells.each

-- What is read is spelled.

record Front (bytes : List ℕ) (a : Answer) (rest : List ℕ) : Type 0 where
  pub spelling : bytes ≡ answer_bytes a ++ rest
  pub is : IsAnswer a

ttl_spelled : (bytes : List ℕ) → IsBytes bytes → 4 ≤ length bytes
    → (bytes ≡ to_be_bytes w32 (from_be_bytes w32 (take 4 bytes)) ++ drop 4 bytes) × (from_be_bytes w32 (take 4 bytes) < 2 ^ 32)
ttl_spelled (b0 ∷ b1 ∷ b2 ∷ b3 ∷ more) fits long =
    (ap (λ l. l ++ more) (sym (four_bytes b0 b1 b2 b3 more fits)), four_fit b0 b1 b2 b3 more fits)
ttl_spelled _ fits long = absurd (omega arith)

value_length : (kind size : ℕ) → is_value_length kind size ≡ true → kind ≡ resolved_ipv4 → size ≡ 4
unfolding is_value_length
value_length kind size right is =
    eqb-true size 4 (sym (ap (λ b. cond b (nat_eq size 4) true) (eq-eqb kind resolved_ipv4 is)) ∙ right)

front_spelled : (bytes : List ℕ) (a : Answer) (rest : List ℕ) → IsBytes bytes → answer_at bytes ≡ Some (a, rest)
    → Front bytes a rest
unfolding answer_at
front_spelled [] a rest fits e = absurd (none-some _ e)
front_spelled (kind ∷ []) a rest fits e = absurd (none-some _ e)
front_spelled (kind ∷ size ∷ more) a rest fits e =
    let found : Answer × List ℕ = (
      record { kind = kind; value = take size more; ttl = from_be_bytes w32 (take 4 (drop size more)) },
      drop 4 (drop size more),
    ) in
    let parts = cond_some (is_value_length kind size && leb (size + 4) (length more)) found (a, rest) e in
    let tests = and_parts (is_value_length kind size) (leb (size + 4) (length more)) parts.0 in
    let later_fits : IsBytes more = IsBytes-drop 2 (kind ∷ size ∷ more) fits in
    let long : size + 4 ≤ length more = leb-true _ _ tests.1 in
    let value = take size more in
    let behind = drop size more in
    let sized : length value ≡ size = length-take-le size more (omega arith) in
    let left : length behind ≡ length more - size = length-drop size more in
    let ttl = ttl_spelled behind (IsBytes-drop size more later_fits) (omega arith) in
    let read : Answer = record { kind = kind; value = value; ttl = from_be_bytes w32 (take 4 behind) } in
    let spelled : kind ∷ size ∷ more ≡ answer_bytes read ++ drop 4 behind =
    ap (λ l. kind ∷ size ∷ l) (sym (take-append-drop size more))
    ∙ ap (λ n. kind ∷ n ∷ (value ++ behind)) (sym sized)
    ∙ ap (λ l. kind ∷ length value ∷ (value ++ l)) ttl.0
    ∙ ap (λ l. kind ∷ length value ∷ l) (sym (append_assoc value (to_be_bytes w32 read.ttl) (drop 4 behind))) in
    let fit : IsAnswer read = record {
      kind_fits = fits 0;
      length_fits = subst (λ n. n < 256) (sym sized) (fits 1);
      value_bytes = IsBytes-left value behind (subst IsBytes (sym (take-append-drop size more)) later_fits);
      ipv4 = λ is. sized ∙ value_length kind size tests.0 is;
      ttl_fits = ttl.1;
    } in
    subst (λ p. Front (kind ∷ size ∷ more) p.0 p.1) parts.1 (record { spelling = spelled; is = fit })

record Whole (bytes : List ℕ) (answers : List Answer) : Type 0 where
  pub spelling : bytes ≡ flat_map answer_bytes answers
  pub each : AllByRecursion IsAnswer answers

nothing_spelled : (answers : List Answer) → ◌≡◌ {A = Option (List Answer)} (Some []) (Some answers) → Whole [] answers
nothing_spelled answers e = subst (Whole []) (same_Some [] answers e) (record { spelling = refl; each = tt })

within_spelled : (n : ℕ) (bytes : List ℕ) (answers : List Answer) → IsBytes bytes → answers_within n bytes ≡ Some answers
    → Whole bytes answers
unfolding answers_within
within_spelled zero [] answers fits e = nothing_spelled answers e
within_spelled (suc n) [] answers fits e = nothing_spelled answers e
within_spelled zero (b ∷ bytes) answers fits e = absurd (none-some _ e)
within_spelled (suc n) (b ∷ bytes) answers fits e =
    let found = then_some _ (answer_at (b ∷ bytes)) answers e in
    let first = found.0 in
    let later = map_some (put_answer first.0) (answers_within n first.1) answers found.2 in
    let front = front_spelled (b ∷ bytes) first.0 first.1 fits found.1 in
    let rest_fits = IsBytes-right (answer_bytes first.0) first.1 (subst IsBytes front.spelling fits) in
    let rest = within_spelled n first.1 later.0 rest_fits later.1 in
    let all : Whole (b ∷ bytes) (first.0 ∷ later.0) = record {
      spelling = front.spelling ∙ ap (λ l. answer_bytes first.0 ++ l) rest.spelling;
      each = (front.is, rest.each);
    } in
    subst (Whole (b ∷ bytes)) later.2 all

some_spelled : (b : ℕ) (bytes : List ℕ) (answers : List Answer) → Whole (b ∷ bytes) answers → SpellsAnswers (b ∷ bytes) answers
some_spelled b bytes [] whole =
    let no : b ∷ bytes ≡ [] = whole.spelling in
    absurd (cc no)
some_spelled b bytes (a ∷ answers) whole = record { spelling = whole.spelling; some = λ e. cc; each = whole.each }

resolved_spelled : (payload : List ℕ) (answers : List Answer) → IsBytes payload → resolved_answers payload ≡ Some answers
    → SpellsAnswers payload answers
unfolding resolved_answers answers_in
resolved_spelled [] answers fits e = absurd (none-some _ e)
resolved_spelled (b ∷ bytes) answers fits e =
    some_spelled b bytes answers (within_spelled (length (b ∷ bytes)) (b ∷ bytes) answers fits e)

pub resolved_law : (payload : List ℕ) (answers : List Answer) → IsBytes payload
    → SpellsAnswers payload answers ↔ (resolved_answers payload ≡ Some answers)
resolved_law payload answers fits = (resolved_read payload answers, resolved_spelled payload answers fits)
