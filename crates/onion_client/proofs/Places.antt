-- The hops of a path at places of a list.
use Rattle.std.proofs.Common.{◌≡◌, ℕ, zero, suc, ◌^◌, ◌<◌, [], ◌∷◌, ◌++◌, List, length, drop, map, set, get_or, refl, ap, sym, subst, ◌∙◌, arith}
use Rattle.std.specs.List.{All}
use Rattle.circuit_model.specs.PathLayers.{PathHop}
use Rattle.onion_client.specs.declared.hop.Hop.{Hop}
use Rattle.onion_client.specs.Hops.{HasKeystream, hop_of}
use Rattle.onion_client.specs.Making.{last_of}
use Rattle.onion_client.proofs.Layering.{length-of_path}

at-drop : (hops : List Hop) (i : ℕ) (d : Hop) → get_or (drop i hops) 0 d ≡ get_or hops i d
at-drop [] zero d = refl
at-drop [] (suc i) d = refl
at-drop (hop ∷ hops) zero d = refl
at-drop (hop ∷ hops) (suc i) d = at-drop hops i d

same-at : (hops others : List Hop) (i : ℕ) (d : Hop) → drop i hops ≡ drop i others → get_or hops i d ≡ get_or others i d
same-at hops others i d same = sym (at-drop hops i d) ∙ ap (λ (hs : List Hop). get_or hs 0 d) same ∙ at-drop others i d

pub keystream_at : (start hops : List Hop) (i : ℕ) (d : Hop) → All HasKeystream start → drop i hops ≡ drop i start
    → i < length start →
    (get_or hops i d).back.stream.position < 2 ^ 100
keystream_at start hops i d room same within =
    let there : HasKeystream (get_or start i d) = room i d within in
    subst (λ (h : Hop). h.back.stream.position < 2 ^ 100) (sym (same-at hops start i d same)) there.back

pub drop-set : (hops : List Hop) (i : ℕ) (y : Hop) → drop (suc i) (set hops i y) ≡ drop (suc i) hops
drop-set [] zero y = refl
drop-set [] (suc i) y = refl
drop-set (hop ∷ hops) zero y = refl
drop-set (hop ∷ hops) (suc i) y = drop-set hops i y

pub drop-one : (hops : List Hop) (i : ℕ) → drop (suc i) hops ≡ drop 1 (drop i hops)
drop-one [] zero = refl
drop-one [] (suc i) = refl
drop-one (hop ∷ hops) zero = refl
drop-one (hop ∷ hops) (suc i) = drop-one hops i

pub set-gone : (gone : List PathHop) (p q : PathHop) (rest : List PathHop) →
    set (map hop_of (gone ++ p ∷ rest)) (length gone) (hop_of q) ≡ map hop_of (gone ++ q ∷ rest)
set-gone [] p q rest = refl
set-gone (g ∷ gone) p q rest = ap (λ (hs : List Hop). hop_of g ∷ hs) (set-gone gone p q rest)

pub get-gone : (gone : List PathHop) (p : PathHop) (rest : List PathHop) (d : Hop) →
    get_or (map hop_of (gone ++ p ∷ rest)) (length gone) d ≡ hop_of p
get-gone [] p rest d = refl
get-gone (g ∷ gone) p rest d = get-gone gone p rest d

-- The hop of a path at a place.
pub record HopAt (path : List PathHop) (i : ℕ) : Type 0 where
  pub hop : PathHop
  pub rest : List PathHop
  pub here : drop i path ≡ hop ∷ rest
  pub behind : drop (suc i) path ≡ rest

hop_at : (path : List PathHop) (i : ℕ) → i < length path → HopAt path i
hop_at [] i within = absurd (omega arith)
hop_at (p ∷ path) zero within = record { hop = p; rest = path; here = refl; behind = refl }
hop_at (p ∷ path) (suc i) within =
    let more : HopAt path i = hop_at path i (omega arith) in
    record { hop = more.hop; rest = more.rest; here = more.here; behind = more.behind }

pub hop_of_path_at : (path : List PathHop) (start : List Hop) (i : ℕ) → start ≡ map hop_of path → i < length start → HopAt path i
hop_of_path_at path start i stands within =
    hop_at path i (omega (arith, ap (λ (hs : List Hop). length hs) stands, length-of_path path))

pub last-at : (q : PathHop) (path : List PathHop) (i : ℕ) (p : PathHop) (rest : List PathHop) → drop i (q ∷ path) ≡ p ∷ rest
    → i ≡ length path → last_of q path ≡ p
last-at q [] zero p rest here last = cc
last-at q [] (suc i) p rest here last = absurd (omega arith)
last-at q (next ∷ path) zero p rest here last = absurd (omega arith)
last-at q (next ∷ path) (suc i) p rest here last = last-at next path i p rest here (omega arith)
