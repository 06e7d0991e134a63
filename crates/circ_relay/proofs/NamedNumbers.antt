-- The numbers that a list names, where each of its elements may name one.
use Rattle.std.proofs.Common.{◌≡◌, ℕ, zero, suc, ◌||◌, List, [], ◌∷◌, length, Bool, true, false, cond, Option, Some, None, refl, sym, ap, ◌∙◌, arith, nat_eq, filter}
use Rattle.std.specs.Prelude.{slice_get, is_some}
use Rattle.std.specs.List.{filter_map, cons_option, list_any, IsDistinct, AllByRecursion}
use Rattle.std.specs.Cmp.{nat_eq_equiv}
use Rattle.std.proofs.lemmas.Bool.{eqb-true, eq-eqb}
use Rattle.std.proofs.lemmas.Map.Keys.{IsDistinct-cons}
use Rattle.std.proofs.lemmas.Map.Made.{length-from_same_keys}
use Rattle.circ_relay.proofs.Lists.{same_some}

suc-same : (i j : ℕ) → suc i ≡ suc j → i ≡ j
suc-same i j is = omega (arith, is)

all-by : {A : Type 0} (f : A → Option ℕ) (x : A) (xs : List A) (P : ℕ → Type 0) (n : Option ℕ) → ((m : ℕ) → n ≡ Some m → P m)
    → AllByRecursion P (filter_map f xs) → AllByRecursion P (cons_option n (filter_map f xs))
all-by f x xs P None here rest = rest
all-by f x xs P (Some m) here rest = (here m refl, rest)

all-named : {A : Type 0} (f : A → Option ℕ) (xs : List A) (P : ℕ → Type 0) →
    ((i : ℕ) (x : A) (n : ℕ) → slice_get xs i ≡ Some x → f x ≡ Some n → P n) → AllByRecursion P (filter_map f xs)
all-named f [] P named = tt
all-named f (x ∷ xs) P named =
    all-by f x xs P (f x) (λ m is. named 0 x m refl is) (all-named f xs P (λ i y n got is. named (suc i) y n got is))

-- No two elements name the same.
abbrev pub AreApart : {A : Type 0} → (A → Option ℕ) → List A → Type 0
AreApart {A} f xs =
    (i j : ℕ) (x y : A) (n : ℕ) → slice_get xs i ≡ Some x → slice_get xs j ≡ Some y → f x ≡ Some n → f y ≡ Some n → i ≡ j

differ-by : (n m : ℕ) (b : Bool) → nat_eq n m ≡ b → (n ≡ m → ⊥) → b ≡ false
differ-by n m true is apart = absurd (apart (eqb-true n m is))
differ-by n m false is apart = refl

distinct-by : {A : Type 0} (f : A → Option ℕ) (xs : List A) (n : Option ℕ)
    → ((m : ℕ) → n ≡ Some m → AllByRecursion (λ k. nat_eq m k ≡ false) (filter_map f xs)) →
    IsDistinct nat_eq (filter_map f xs) → IsDistinct nat_eq (cons_option n (filter_map f xs))
distinct-by f xs None others rest = rest
distinct-by f xs (Some m) others rest = IsDistinct-cons nat_eq m (filter_map f xs) (others m refl) rest

zero-suc : (i : ℕ) → 0 ≡ suc i → ⊥
zero-suc i is = omega (arith, is)

distinct-named : {A : Type 0} (f : A → Option ℕ) (xs : List A) → AreApart f xs → IsDistinct nat_eq (filter_map f xs)
unfolding IsDistinct
distinct-named f [] apart = tt
distinct-named f (x ∷ xs) apart =
    distinct-by f xs (f x)
    (λ m is. all-named f xs (λ k. nat_eq m k ≡ false)
    (λ i y n got named. differ-by m n (nat_eq m n) refl
    (λ same. zero-suc i (apart 0 (suc i) x y n refl got (is ∙ ap Some same) named))))
    (distinct-named f xs (λ i j y z n got also one other. suc-same i j (apart (suc i) (suc j) y z n got also one other)))

-- A number that the list names.
pub record IsNamed {A : Type 0} (f : A → Option ℕ) (xs : List A) (n : ℕ) : Type 0 where
  pub place : ℕ
  pub element : A
  pub got : slice_get xs place ≡ Some element
  pub names : f element ≡ Some n

named-further : {A : Type 0} (f : A → Option ℕ) (x : A) (xs : List A) (n : ℕ) → IsNamed f xs n → IsNamed f (x ∷ xs) n
named-further f x xs n is = record { place = suc is.place; element = is.element; got = is.got; names = is.names }

member-or : {A : Type 0} (f : A → Option ℕ) (x : A) (xs : List A) (n m : ℕ) (b : Bool) → f x ≡ Some m
    → (list_any (nat_eq n) (filter_map f xs) ≡ true → IsNamed f xs n) →
    nat_eq n m ≡ b → (b || list_any (nat_eq n) (filter_map f xs)) ≡ true → IsNamed f (x ∷ xs) n
member-or f x xs n m true is rest same any =
    record { place = 0; element = x; got = refl; names = is ∙ ap Some (sym (eqb-true n m same)) }
member-or f x xs n m false is rest same any = named-further f x xs n (rest any)

member-by : {A : Type 0} (f : A → Option ℕ) (x : A) (xs : List A) (n : ℕ) (o : Option ℕ) → f x ≡ o
    → (list_any (nat_eq n) (filter_map f xs) ≡ true → IsNamed f xs n) →
    list_any (nat_eq n) (cons_option o (filter_map f xs)) ≡ true → IsNamed f (x ∷ xs) n
member-by f x xs n None is rest any = named-further f x xs n (rest any)
member-by f x xs n (Some m) is rest any = member-or f x xs n m (nat_eq n m) is rest refl any

nothing-any : (n : ℕ) → list_any (nat_eq n) [] ≡ true → ⊥
nothing-any n is = cc

member-named : {A : Type 0} (f : A → Option ℕ) (xs : List A) (n : ℕ) → list_any (nat_eq n) (filter_map f xs) ≡ true
    → IsNamed f xs n
member-named f [] n any = absurd (nothing-any n any)
member-named f (x ∷ xs) n any = member-by f x xs n (f x) refl (λ rest. member-named f xs n rest) any

or-true : (a : Bool) → (a || true) ≡ true
or-true true = refl
or-true false = refl

any-further : (o : Option ℕ) (ns : List ℕ) (n : ℕ) → list_any (nat_eq n) ns ≡ true → list_any (nat_eq n) (cons_option o ns) ≡ true
any-further None ns n any = any
any-further (Some m) ns n any = ap (λ b. nat_eq n m || b) any ∙ or-true (nat_eq n m)

any-first : (o : Option ℕ) (ns : List ℕ) (n : ℕ) → o ≡ Some n → list_any (nat_eq n) (cons_option o ns) ≡ true
any-first o ns n is =
    ap (λ x. list_any (nat_eq n) (cons_option x ns)) is ∙ ap (λ b. b || list_any (nat_eq n) ns) (eq-eqb n n refl)

no-element : {A : Type 0} (x : A) (i : ℕ) → slice_get [] i ≡ Some x → ⊥
no-element x i is = cc

named-member : {A : Type 0} (f : A → Option ℕ) (xs : List A) (i : ℕ) (x : A) (n : ℕ) → slice_get xs i ≡ Some x → f x ≡ Some n
    → list_any (nat_eq n) (filter_map f xs) ≡ true
named-member f [] i x n got is = absurd (no-element x i got)
named-member f (y ∷ xs) zero x n got is = any-first (f y) (filter_map f xs) n (ap f (same_some y x got) ∙ is)
named-member f (y ∷ xs) (suc i) x n got is = any-further (f y) (filter_map f xs) n (named-member f xs i x n got is)

-- As many as the elements that name one.
length-by : {A : Type 0} (x : A) (xs : List A) (o : Option ℕ) (ns : List ℕ) (b : Bool) → is_some o ≡ b → (n : ℕ) → length ns ≡ n
    → (ys : List A) → length ys ≡ n →
    length (cons_option o ns) ≡ length (cond b (x ∷ ys) ys)
length-by x xs None ns true is n one ys other = cc
length-by x xs None ns false is n one ys other = one ∙ sym other
length-by x xs (Some m) ns true is n one ys other = omega (arith, one, other)
length-by x xs (Some m) ns false is n one ys other = cc

pub length-named : {A : Type 0} (f : A → Option ℕ) (t : A → Bool) → ((x : A) → is_some (f x) ≡ t x) → (xs : List A)
    → length (filter_map f xs) ≡ length (filter t xs)
length-named f t tests [] = refl
length-named f t tests (x ∷ xs) =
    length-by x xs (f x) (filter_map f xs) (t x) (tests x) (length (filter t xs)) (length-named f t tests xs) (filter t xs) refl

both-ways : (a b : Bool) → (a ≡ true → b ≡ true) → (b ≡ true → a ≡ true) → a ≡ b
both-ways true b there back = sym (there refl)
both-ways false true there back = back refl
both-ways false false there back = refl

-- Two lists that name the same, each once.
pub same-count : {A B : Type 0} (f : A → Option ℕ) (g : B → Option ℕ) (xs : List A) (ys : List B) → AreApart f xs → AreApart g ys
    →
    ((n : ℕ) → IsNamed f xs n → IsNamed g ys n) → ((n : ℕ) → IsNamed g ys n → IsNamed f xs n)
    → length (filter_map f xs) ≡ length (filter_map g ys)
same-count f g xs ys apart also there back =
    length-from_same_keys nat_eq_equiv (filter_map f xs) (filter_map g ys) (distinct-named f xs apart) (distinct-named g ys also)
    (λ n. both-ways (list_any (nat_eq n) (filter_map f xs)) (list_any (nat_eq n) (filter_map g ys))
    (λ any. let is : IsNamed g ys n = there n (member-named f xs n any) in
    named-member g ys is.place is.element n is.got is.names)
    (λ any. let is : IsNamed f xs n = back n (member-named g ys n any) in
    named-member f xs is.place is.element n is.got is.names))
