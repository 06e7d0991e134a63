-- What three bytes show of a link's start.
use Rattle.std.proofs.Common.{ℕ, ◌≡◌, ◌≤◌, [], ◌∷◌, ◌++◌, List, length, take, drop, refl, sym, ap, ◌∙◌, arith, Some, None, inl, inr}
use Rattle.std.specs.Prelude.{slice_index, ◌==◌, ◌&&◌, if◌then◌else◌}
use Rattle.std.specs.Int.{w16, from_be_bytes}
use Rattle.std.proofs.lemmas.Bool.{ltb-false, le-ltb, eqb-true, and_parts}
use Rattle.std.proofs.lemmas.List.{length-take-le, take-append-drop}
use Rattle.std.proofs.lemmas.Option.{none-some}
use Rattle.tor_spec.specs.CellReading.{wrong_start}
use Rattle.tor_spec.proofs.Choices.{unless, chosen}
use Rattle.tor_spec.proofs.CellSizes.{kept, reaches}

pub wrong_start-append : (a b : List ℕ) → 3 ≤ length a → wrong_start (a ++ b) ≡ wrong_start a
unfolding wrong_start
wrong_start-append a b long =
    rw (
      le-ltb _ _ (reaches a b 3 long),
      le-ltb _ _ long,
      kept a b 0 (omega arith),
      kept a b 1 (omega arith),
      kept a b 2 (omega arith),
    ) refl

pub wrong_start-told : (a : List ℕ) (x : ℕ × ℕ) → wrong_start a ≡ Some x → 3 ≤ length a
unfolding wrong_start
wrong_start-told a x e = ltb-false _ _ (unless _ _ x e).0

-- The three bytes show it by themselves.
pub wrong_start-take : (a : List ℕ) (x : ℕ × ℕ) → wrong_start a ≡ Some x → wrong_start (take 3 a) ≡ Some x
wrong_start-take a x e =
    let long = wrong_start-told a x e in
    let three : length (take 3 a) ≡ 3 = length-take-le 3 a long in
    let again : wrong_start (take 3 a ++ drop 3 a) ≡ wrong_start (take 3 a) =
    wrong_start-append (take 3 a) (drop 3 a) (omega arith) in
    sym again ∙ ap wrong_start (take-append-drop 3 a) ∙ e

abbrev circuit_of : List ℕ → ℕ
circuit_of a = from_be_bytes w16 (slice_index a 0 ∷ slice_index a 1 ∷ [])

-- A link that doesn't begin otherwise begins with VERSIONS on CircID 0.
pub right_start : (a : List ℕ) → 3 ≤ length a → wrong_start a ≡ None → (circuit_of a ≡ 0) × (slice_index a 2 ≡ 7)
unfolding wrong_start
right_start a long e =
    let told : (if (circuit_of a == 0) && (slice_index a 2 == 7) then None else Some (circuit_of a, slice_index a 2)) ≡ None =
    rw (le-ltb (length a) 3 long) at e in
    elim (chosen ((circuit_of a == 0) && (slice_index a 2 == 7)) None (Some (circuit_of a, slice_index a 2)) None told) [
      | inl both ↦
          let parts = and_parts _ _ both.0 in
          (eqb-true _ _ parts.0, eqb-true _ _ parts.1)
      | inr other ↦ absurd (none-some _ (sym other.1))
    ]

pub empty_start : wrong_start [] ≡ None
unfolding wrong_start
empty_start = refl
