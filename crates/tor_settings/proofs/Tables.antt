-- What the program's tables and lists are in the definitions.
use Rattle.std.proofs.Common.{◌≡◌, List, [], ◌∷◌, map, ℕ, String, Global, string_bytes, Bool, true, false, ◌&&◌, refl, ap, sym, ◌∙◌, ◌+◌, ◌<◌, length, take, get_or}
use Rattle.std.proofs.lemmas.List.Folds.{list_all_at, list_all_more}
use Rattle.std.specs.List.{list_all}
use Rattle.toml.specs.Data.{Data}
use Rattle.toml.specs.View.{view, items_view, members_view}
use Rattle.toml.specs.declared.value.Value.{Value}
use Rattle.tor_settings.specs.Keys.{keys_of, list_of}

abbrev pub all_known : (List ℕ → Bool) → List (String Global) → Bool
all_known known [] = true
all_known known (key ∷ keys) = known (string_bytes key) && all_known known keys

pub list_all-keys_of : (known : List ℕ → Bool) (es : List (String Global × Value))
    → list_all known (keys_of (members_view es)) ≡ all_known known (map (λ e. e.0) es)
list_all-keys_of known [] = refl
list_all-keys_of known (e ∷ es) = ap (λ b. known (string_bytes e.0) && b) (list_all-keys_of known es)

pub list_of-items_view : (vs : List Value) → list_of (items_view vs) ≡ map view vs
list_of-items_view [] = refl
list_of-items_view (v ∷ vs) = ap (λ ds. view v ∷ ds) (list_of-items_view vs)

pub all_viewed : (p : Data → Bool) (vs : List Value) → list_all p (map view vs) ≡ list_all (λ v. p (view v)) vs
all_viewed p [] = refl
all_viewed p (v ∷ vs) = ap (λ b. p (view v) && b) (all_viewed p vs)

-- a value that fails, and values that pass so far
pub all_fails : (p : Data → Bool) (vs : List Value) (i : ℕ) (v : Value) → i < length vs → v ≡ get_or vs i v → p (view v) ≡ false
    → list_all p (map view vs) ≡ false
all_fails p vs i v within is fails =
    all_viewed p vs ∙ list_all_at (λ x. p (view x)) vs i v within (ap (λ x. p (view x)) (sym is) ∙ fails)

pub all_more : (p : Data → Bool) (vs : List Value) (i : ℕ) (v : Value) → i < length vs → v ≡ get_or vs i v
    → list_all p (map view (take i vs)) ≡ true → p (view v) ≡ true → list_all p (map view (take (i + 1) vs)) ≡ true
all_more p vs i v within is so_far passes =
    let before : list_all (λ x. p (view x)) (take i vs) ≡ true = sym (all_viewed p (take i vs)) ∙ so_far in
    let here : p (view (get_or vs i v)) ≡ true = ap (λ x. p (view x)) (sym is) ∙ passes in
    all_viewed p (take (i + 1) vs) ∙ list_all_more (λ x. p (view x)) vs i v within ∙ rw (before, here)
