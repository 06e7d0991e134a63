-- VERSIONS is read as it is spelled, and the version that two sides take.
use Rattle.std.proofs.Common.{◌≡◌, ◌↔◌, ◌⊎◌, ℕ, zero, suc, ◌%◌, ◌^◌, ◌<◌, ◌≤◌, Bool, true, false, cond, Option, Some, None, List, [], ◌∷◌, ◌++◌, length, ap, sym, refl, subst, ◌∙◌, arith, inl, inr}
use Rattle.std.specs.Prelude.{max, nat_eq}
use Rattle.std.specs.List.{AllByRecursion, Contains}
use Rattle.std.proofs.lemmas.Bool.{cases_lt, eqb-true, eq-eqb, or_cases, or_left, or_right, both_ways}
use Rattle.std.proofs.lemmas.Nat.{from_be_bytes-to_be_bytes_2}
use Rattle.tor_spec.specs.CellStream.{IsBytes}
use Rattle.tor_spec.specs.Versions.{versions_of, versions_payload, lists_version, larger, highest_common}
use Rattle.tor_spec.proofs.VersionsLength.{length_versions_payload}
use Rattle.cell_laws.specs.Versions.{SpellsVersions, IsCommon, IsHighest}
use Rattle.cell_laws.proofs.Bytes.{IsBytes-drop, two_bytes, two_fit}

pub versions_again : (versions : List ℕ) → AllByRecursion (λ v. v < 2 ^ 16) versions
    → versions_of (versions_payload versions) ≡ versions
versions_again [] each = refl
versions_again (v ∷ versions) each =
    ap (λ n. n ∷ versions_of (versions_payload versions)) (from_be_bytes-to_be_bytes_2 v each.0)
    ∙ ap (λ vs. v ∷ vs) (versions_again versions each.1)

versions_even : (versions : List ℕ) → length (versions_payload versions) % 2 ≡ 0
versions_even versions = let long = length_versions_payload versions in omega arith

versions_spelled : (payload : List ℕ) → IsBytes payload → length payload % 2 ≡ 0 → SpellsVersions payload (versions_of payload)
versions_spelled [] fits even = record { spelling = refl; each = tt }
versions_spelled (h ∷ []) fits even = absurd (omega arith)
versions_spelled (h ∷ l ∷ more) fits even =
    let later : length more % 2 ≡ 0 = omega arith in
    let own = versions_spelled more (IsBytes-drop 2 (h ∷ l ∷ more) fits) later in
    record {
      spelling = ap (λ m. h ∷ l ∷ m) own.spelling
          ∙ ap (λ t. t ++ versions_payload (versions_of more)) (sym (two_bytes h l more fits));
      each = (two_fit h l more fits, own.each);
    }

pub versions_law : (payload versions : List ℕ) → IsBytes payload
    → SpellsVersions payload versions ↔ ((length payload % 2 ≡ 0) × (versions_of payload ≡ versions))
versions_law payload versions fits = (
  λ spells. (
    ap (λ p. length p % 2) spells.spelling ∙ versions_even versions,
    ap versions_of spells.spelling ∙ versions_again versions spells.each,
  ),
  λ read. subst (SpellsVersions payload) read.1 (versions_spelled payload fits read.0),
)

-- The version that two sides take

contains_head : (x : ℕ) (xs : List ℕ) → Contains (x ∷ xs) x
contains_head x xs = (0, omega arith, refl)

contains_tail : (x y : ℕ) (xs : List ℕ) → Contains xs y → Contains (x ∷ xs) y
contains_tail x y xs there = (suc there.0, omega (arith, there.1), there.2)

contains_cases : (x y : ℕ) (xs : List ℕ) → Contains (x ∷ xs) y → (x ≡ y) ⊎ Contains xs y
contains_cases x y xs (zero, within, at) = inl at
contains_cases x y xs (suc k, within, at) = inr (k, omega arith, at)

contains_none : (y : ℕ) → Contains [] y → ⊥
contains_none y there = let within = there.1 in omega arith

listed : (xs : List ℕ) (v : ℕ) → lists_version xs v ≡ true → Contains xs v
listed [] v e = cc
listed (x ∷ xs) v e = elim (or_cases (nat_eq x v) (lists_version xs v) e) [
  | inl same ↦ subst (Contains (x ∷ xs)) (eqb-true x v same) (contains_head x xs)
  | inr later ↦ contains_tail x v xs (listed xs v later)
]

lists : (xs : List ℕ) (v : ℕ) → Contains xs v → lists_version xs v ≡ true
lists [] v there = absurd (contains_none v there)
lists (x ∷ xs) v there = elim (contains_cases x v xs there) [
  | inl same ↦ or_left (nat_eq x v) (lists_version xs v) (eq-eqb x v same)
  | inr later ↦ or_right (nat_eq x v) (lists_version xs v) (lists xs v later)
]

unlisted : (xs : List ℕ) (v : ℕ) → lists_version xs v ≡ false → Contains xs v → ⊥
unlisted xs v e there = both_ways (lists_version xs v) e (lists xs v there)

behind : (v : ℕ) (ours theirs : List ℕ) (w : ℕ) → IsCommon ours theirs w → IsCommon (v ∷ ours) theirs w
behind v ours theirs w common = (contains_tail v w ours common.0, common.1)

max_cases : (v u : ℕ) → (max v u ≡ v) ⊎ (max v u ≡ u)
max_cases v u = elim (cases_lt u v) [
  | inl above ↦ inl (omega arith)
  | inr below ↦ inr (omega arith)
]

either : (v u m : ℕ) (P : ℕ → Type 0) → P v → P u → (m ≡ v) ⊎ (m ≡ u) → P m
either v u m P at_v at_u (inl e) = subst P (sym e) at_v
either v u m P at_v at_u (inr e) = subst P (sym e) at_u

one_more : (v : ℕ) (ours theirs : List ℕ) (b : Bool) → lists_version theirs v ≡ b → (o : Option ℕ) → IsHighest ours theirs o
    → IsHighest (v ∷ ours) theirs (cond b (Some (larger v o)) o)
one_more v ours theirs true here None none = (
  (contains_head v ours, listed theirs v here),
  λ w common. elim (contains_cases v w ours common.0) [
    | inl same ↦ omega arith
    | inr later ↦ absurd (none w (later, common.1))
  ],
)
one_more v ours theirs true here (Some u) high = (
  either v u (max v u) (IsCommon (v ∷ ours) theirs) (contains_head v ours, listed theirs v here) (behind v ours theirs u high.0)
      (max_cases v u),
  λ w common. elim (contains_cases v w ours common.0) [
    | inl same ↦ omega arith
    | inr later ↦ let below : w ≤ u = high.1 w (later, common.1) in omega arith
  ],
)
one_more v ours theirs false away None none = λ w common. elim (contains_cases v w ours common.0) [
  | inl same ↦ unlisted theirs v away (subst (Contains theirs) (sym same) common.1)
  | inr later ↦ none w (later, common.1)
]
one_more v ours theirs false away (Some u) high = (
  behind v ours theirs u high.0,
  λ w common. elim (contains_cases v w ours common.0) [
    | inl same ↦ absurd (unlisted theirs v away (subst (Contains theirs) (sym same) common.1))
    | inr later ↦ high.1 w (later, common.1)
  ],
)

highest_is : (ours theirs : List ℕ) → IsHighest ours theirs (highest_common ours theirs)
highest_is [] theirs = λ w common. contains_none w common.0
highest_is (v ∷ ours) theirs =
    one_more v ours theirs (lists_version theirs v) refl (highest_common ours theirs) (highest_is ours theirs)

one_highest : (ours theirs : List ℕ) (a b : Option ℕ) → IsHighest ours theirs a → IsHighest ours theirs b → a ≡ b
one_highest ours theirs None None x y = refl
one_highest ours theirs None (Some v) x y = absurd (x v y.0)
one_highest ours theirs (Some v) None x y = absurd (y v x.0)
one_highest ours theirs (Some v) (Some w) x y =
    let low : v ≤ w = y.1 v x.0 in
    let high : w ≤ v = x.1 w y.0 in
    let same : v ≡ w = omega arith in
    ap Some same

pub highest_law : (ours theirs : List ℕ) (version : Option ℕ)
    → IsHighest ours theirs version ↔ (highest_common ours theirs ≡ version)
highest_law ours theirs version = (
  λ high. one_highest ours theirs (highest_common ours theirs) version (highest_is ours theirs) high,
  λ e. subst (IsHighest ours theirs) e (highest_is ours theirs),
)
