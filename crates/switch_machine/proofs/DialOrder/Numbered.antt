-- Dial orders that are numbered in turn: each is known by its number, the first that passes a test has the least
-- number of those that do, and a circuit's last is one of its own.
use Rattle.std.proofs.Common.{◌≡◌, ℕ, ◌+◌, ◌<◌, ◌≤◌, ◌==◌, Bool, true, false, if◌then◌else◌, List, [], ◌∷◌, length, find, Option, Some, None, refl, sym, ◌∙◌, ap, subst, arith, inl, inr}
use Rattle.std.specs.List.{filter}
use Rattle.switch_model.proofs.Common.{not_equal, same-number, self_eq}
use Rattle.switch_model.specs.Waiting.Dials.{Dial, is_from, is_last}
use Rattle.switch_machine.proofs.Again.{IsIn, NumberedFrom, behind}
use Rattle.switch_machine.specs.Stands.OneCircuit.{last_of}

number-is : (d e : Dial) (n : ℕ) → d ≡ e → d.order ≡ n → e.order ≡ n
number-is d e n same is = ap (λ (a : Dial). a.order) (sym same) ∙ is

pub below : (n : ℕ) (dials : List Dial) (d : Dial) → NumberedFrom n dials → IsIn d dials → d.order < n + length dials
below n [] d numbers inside = absurd inside
below n (first ∷ dials) d numbers (inl same) = let is = number-is first d n same numbers.0 in omega (arith, is)
below n (first ∷ dials) d numbers (inr inside) = let later = below (n + 1) dials d numbers.1 inside in omega (arith, later)

pub same-order : (n : ℕ) (dials : List Dial) (d e : Dial) → NumberedFrom n dials → IsIn d dials → IsIn e dials →
    d.order ≡ e.order → d ≡ e
same-order n [] d e numbers one other same = absurd one
same-order n (first ∷ dials) d e numbers (inl one) (inl other) same = sym one ∙ other
same-order n (first ∷ dials) d e numbers (inl one) (inr other) same =
    let later = behind (n + 1) dials e numbers.1 other in
    let is = number-is first d n one numbers.0 in absurd (omega (arith, later, is, same))
same-order n (first ∷ dials) d e numbers (inr one) (inl other) same =
    let later = behind (n + 1) dials d numbers.1 one in
    let is = number-is first e n other numbers.0 in absurd (omega (arith, later, is, same))
same-order n (first ∷ dials) d e numbers (inr one) (inr other) same = same-order (n + 1) dials d e numbers.1 one other same

-- a circuit's last order
pub record IsLastOf (dials : List Dial) (c : ℕ) (d : Dial) : Type 0 where
  pub inside : IsIn d dials
  pub circ : d.circ ≡ c
  pub last : is_last dials d ≡ true

later-last : (n c : ℕ) (first : Dial) (dials : List Dial) (d : Dial) → first.order ≡ n → NumberedFrom (n + 1) dials →
    IsLastOf dials c d → IsLastOf (first ∷ dials) c d
later-last n c first dials d number numbers own =
    let later = behind (n + 1) dials d numbers own.inside in
    let apart : (first.order == d.order) ≡ false = not_equal first.order d.order
    (λ same. absurd (omega (arith, same, later, number))) in
    record { inside = inr own.inside; circ = own.circ; last = rw apart own.last }

only-last : (c : ℕ) (first : Dial) (dials : List Dial) → first.circ ≡ c → filter (is_from c) dials ≡ [] →
    IsLastOf (first ∷ dials) c first
only-last c first dials here none = record { inside = inl refl; circ = here; last = rw (self_eq first.order, here, none) refl }

last-by : (n c : ℕ) (first : Dial) (dials rest : List Dial) (d : Dial) (b : Bool) →
    (first.circ == c) ≡ b → filter (is_from c) dials ≡ rest → first.order ≡ n → NumberedFrom (n + 1) dials →
    (last_of rest ≡ Some d → IsLastOf dials c d) → last_of (if b then first ∷ rest else rest) ≡ Some d →
    IsLastOf (first ∷ dials) c d
last-by n c first dials [] d true is own number numbers later last =
    let same : first ≡ d = cc in subst (IsLastOf (first ∷ dials) c) same
    (only-last c first dials (same-number first.circ c is) own)
last-by n c first dials (a ∷ more) d true is own number numbers later last = later-last n c first dials d number numbers
    (later last)
last-by n c first dials rest d false is own number numbers later last = later-last n c first dials d number numbers (later last)

pub last-of : (n c : ℕ) (dials : List Dial) (d : Dial) → NumberedFrom n dials → last_of (filter (is_from c) dials) ≡ Some d →
    IsLastOf dials c d
last-of n c [] d numbers last = absurd cc
last-of n c (first ∷ dials) d numbers last =
    last-by n c first dials (filter (is_from c) dials) d (first.circ == c) refl refl numbers.0 numbers.1
    (last-of (n + 1) c dials d numbers.1) last

-- the first that passes a test
abbrev pub first_of : List Dial → Option Dial
first_of [] = None
first_of (dial ∷ more) = Some dial

pub record IsLeast (test : Dial → Bool) (dials : List Dial) (d : Dial) : Type 0 where
  pub inside : IsIn d dials
  pub passes : test d ≡ true
  pub least : (e : Dial) → IsIn e dials → test e ≡ true → d.order ≤ e.order

abbrev pub IsFirst : (Dial → Bool) → List Dial → Option Dial → Type 0
IsFirst test dials None = (e : Dial) → IsIn e dials → test e ≡ true → ⊥
IsFirst test dials (Some d) = IsLeast test dials d

fails : (test : Dial → Bool) (d e : Dial) → d ≡ e → test d ≡ false → test e ≡ true → ⊥
fails test d e same not is = let both : false ≡ true = sym not ∙ ap test same ∙ is in cc

later-first : (test : Dial → Bool) (first : Dial) (dials : List Dial) (o : Option Dial) → test first ≡ false →
    IsFirst test dials o → IsFirst test (first ∷ dials) o
later-first test first dials None not own = λ e inside is. elim inside
    [ inl same ↦ fails test first e same not is | inr later ↦ own e later is ]
later-first test first dials (Some d) not own = record {
  inside = inr own.inside;
  passes = own.passes;
  least = λ e inside is. elim inside [ inl same ↦ absurd (fails test first e same not is) | inr later ↦ own.least e later is ];
}

first-by : (n : ℕ) (test : Dial → Bool) (first : Dial) (dials rest : List Dial) (b : Bool) → test first ≡ b →
    first.order ≡ n → NumberedFrom (n + 1) dials → IsFirst test dials (first_of rest) →
    IsFirst test (first ∷ dials) (first_of (if b then first ∷ rest else rest))
first-by n test first dials rest true is number numbers own = record {
  inside = inl refl;
  passes = is;
  least = λ e inside passes. elim inside [
    | inl same ↦ let eq = ap (λ (a : Dial). a.order) same in omega (arith, eq)
    | inr later ↦ let above = behind (n + 1) dials e numbers later in omega (arith, above, number)
  ];
}
first-by n test first dials rest false is number numbers own = later-first test first dials (first_of rest) is own

pub first-least : (n : ℕ) (test : Dial → Bool) (dials : List Dial) → NumberedFrom n dials →
    IsFirst test dials (first_of (filter test dials))
first-least n test [] numbers = λ e inside is. inside
first-least n test (first ∷ dials) numbers = first-by n test first dials (filter test dials)
    (test first) refl numbers.0 numbers.1 (first-least (n + 1) test dials numbers.1)

-- the only one of a circuit that passes it
find-by : (test : Dial → Bool) (c : ℕ) (first : Dial) (dials rest : List Dial) (d : Dial) (b f : Bool) → test first ≡ b →
    (first.circ == c) ≡ f → IsIn d (first ∷ dials) → d.circ ≡ c → test d ≡ true →
    ((e : Dial) → IsIn e (first ∷ dials) → e.circ ≡ c → test e ≡ true → e ≡ d) →
    (IsIn d dials → find (is_from c) rest ≡ Some d) → find (is_from c) (if b then first ∷ rest else rest) ≡ Some d
find-by test c first dials rest d true true is here inside own passes only later =
    let same : first ≡ d = only first (inl refl) (same-number first.circ c here) is in rw here (ap (λ (e : Dial). Some e) same)
find-by test c first dials rest d true false is here (inl same) own passes only later =
    let circ : first.circ ≡ c = ap (λ (a : Dial). a.circ) same ∙ own in
    let both : true ≡ false = sym (self_eq c) ∙ subst (λ n. (n == c) ≡ false) circ here in absurd cc
find-by test c first dials rest d true false is here (inr inside) own passes only later = rw here (later inside)
find-by test c first dials rest d false f is here (inl same) own passes only later = absurd (fails test first d same is passes)
find-by test c first dials rest d false f is here (inr inside) own passes only later = later inside

pub find-only : (test : Dial → Bool) (c : ℕ) (dials : List Dial) (d : Dial) → IsIn d dials → d.circ ≡ c → test d ≡ true →
    ((e : Dial) → IsIn e dials → e.circ ≡ c → test e ≡ true → e ≡ d) → find (is_from c) (filter test dials) ≡ Some d
find-only test c [] d inside own passes only = absurd inside
find-only test c (first ∷ dials) d inside own passes only =
    find-by test c first dials (filter test dials) d (test first) (first.circ == c) refl refl inside own passes only
    (λ later. find-only test c dials d later own passes (λ e there. only e (inr there)))
