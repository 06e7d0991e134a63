-- What the finite map of some entries finds is what a look-up among them finds.
use Rattle.std.specs.Prelude.{◌≡◌, Bool, true, false, cond, List, [], ◌∷◌, map, Some, option_map, refl}
use Rattle.std.proofs.Common.{◌∙◌}
use Rattle.std.specs.FinMap.{FinMap, find, from_entries, get, get-from_entries}
use Rattle.std.specs.Map.{lookup}
use Rattle.std.specs.Ordering.{eq_by_cmp}
use Rattle.std.specs.declared.cmp.Ordering.{Ordering}
use Rattle.hashed_maps.proofs.Keys.{OrdersKeys}

module _ {K X : Type 0} {R : K → K → Ordering} {eq : K → K → Bool} (keys : OrdersKeys R eq) where
  find-lookup : (key : K) (es : List (K × X)) → find R key es ≡ lookup (eq key) es
  find-lookup key [] = refl
  find-lookup key (e ∷ es) =
      rw (keys.agrees key e.0)
      (elim (eq_by_cmp R key e.0) as (λ b. cond b (Some e.1) (find R key es) ≡ cond b (Some e.1) (lookup (eq key) es)) [
        | true ↦ refl
        | false ↦ find-lookup key es
      ])

  pub get-entries : (es : List (K × X)) (key : K) → get (from_entries {R = R} es) key ≡ lookup (eq key) es
  get-entries es key = get-from_entries keys.total es key ∙ find-lookup key es

-- A look-up among entries whose values are read by a function.
module _ {K X Y : Type 0} (test : K → Bool) (f : X → Y) where
  pub lookup-mapped : (es : List (K × X)) → lookup test (map (λ e. (e.0, f e.1)) es) ≡ option_map f (lookup test es)
  lookup-mapped [] = refl
  lookup-mapped (e ∷ es) =
      elim (test e.0) as (λ b. cond b (Some (f e.1)) (lookup test (map (λ e. (e.0, f e.1)) es)) ≡ option_map f (cond b (Some e.1) (lookup test es))) [
        | true ↦ refl
        | false ↦ lookup-mapped es
      ]
