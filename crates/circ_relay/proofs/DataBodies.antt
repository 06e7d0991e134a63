-- Bodies up to each DATA among them, where one more comes behind them.
use Rattle.std.proofs.Common.{◌≡◌, ℕ, ◌+◌, [], ◌∷◌, ◌++◌, List, Bool, true, false, Option, Some, None, if◌then◌else◌, map, length, refl, ap, ◌∙◌, length-append}
use Rattle.std.proofs.lemmas.List.{map-append, append-nil}
use Rattle.circuit_model.specs.Log.{Log, pushed}
use Rattle.circuit_model.specs.Packaged.{packaged_by, own_bodies}
use Rattle.circuit_model.specs.Windows.{is_data_body, packs_data, circuit_packaged}
use Rattle.circ_relay.specs.WindowOfLog.{up_to_each_data}

abbrev Bodies : Type 0
Bodies = List (List ℕ)

mapped_one : (f : Bodies → Bodies) (b : Bool) (x : Bodies) → map f (if b then x ∷ [] else []) ≡ (if b then f x ∷ [] else [])
mapped_one f true x = refl
mapped_one f false x = refl

spread : (b : Bool) (x : Bodies) (xs ys zs : List Bodies) → xs ≡ ys ++ zs
    → (if b then x ∷ xs else xs) ≡ (if b then x ∷ ys else ys) ++ zs
spread true x xs ys zs e = ap (λ (l : List Bodies). x ∷ l) e
spread false x xs ys zs e = e

one_more_body : (bodies : Bodies) (body : List ℕ) →
    up_to_each_data (bodies ++ body ∷ []) ≡ up_to_each_data bodies
    ++ (if is_data_body (Some body) then (bodies ++ body ∷ []) ∷ [] else [])
one_more_body [] body = refl
one_more_body (first ∷ bodies) body =
    let begun : Bodies → Bodies = λ (more : Bodies). first ∷ more in
    let behind : map begun (up_to_each_data (bodies ++ body ∷ [])) ≡ map begun (up_to_each_data bodies)
    ++ (if is_data_body (Some body) then (first ∷ bodies ++ body ∷ []) ∷ [] else []) =
    ap (map begun) (one_more_body bodies body)
    ∙ map-append begun (up_to_each_data bodies) _
    ∙ ap (λ (l : List Bodies). map begun (up_to_each_data bodies) ++ l)
    (mapped_one begun (is_data_body (Some body)) (bodies ++ body ∷ [])) in
    spread (is_data_body (Some first)) (first ∷ []) _ _ _ behind

-- One more that is DATA.
pub one_more_data : (bodies : Bodies) (next : Option (List ℕ)) (body : List ℕ) → next ≡ Some body
    → is_data_body (Some body) ≡ true
    → up_to_each_data (pushed bodies next) ≡ up_to_each_data bodies ++ (bodies ++ body ∷ []) ∷ []
one_more_data bodies next body is counts = rw is (one_more_body bodies body ∙ rw counts refl)

-- One more that isn't, or none.
pub no_more_data : (bodies : Bodies) (next : Option (List ℕ)) → is_data_body next ≡ false
    → up_to_each_data (pushed bodies next) ≡ up_to_each_data bodies
no_more_data bodies None other = refl
no_more_data bodies (Some body) other = one_more_body bodies body ∙ rw other (append-nil (up_to_each_data bodies))

counted : (b : Bool) (x : Bodies) (xs : List Bodies)
    → length (xs ++ (if b then x ∷ [] else [])) ≡ (if b then length xs + 1 else length xs)
counted true x xs = length-append xs (x ∷ [])
counted false x xs = ap length (append-nil xs)

count_pushed : (bodies : Bodies) (next : Option (List ℕ))
    → length (up_to_each_data (pushed bodies next))
    ≡ (if is_data_body next then length (up_to_each_data bodies) + 1 else length (up_to_each_data bodies))
count_pushed bodies None = refl
count_pushed bodies (Some body) =
    ap length (one_more_body bodies body) ∙ counted (is_data_body (Some body)) (bodies ++ body ∷ []) (up_to_each_data bodies)

-- There are as many as the circuit packaged DATA.
pub count_packaged : (log : Log) → length (up_to_each_data (own_bodies log)) ≡ circuit_packaged log
count_packaged [] = refl
count_packaged (entry ∷ log) =
    count_pushed (own_bodies log) (packaged_by entry.event entry.effects.back)
    ∙ ap (λ n. if packs_data entry then n + 1 else n) (count_packaged log)
