-- A body through the layers of several hops, one after another.
use Rattle.std.proofs.Common.{◌≡◌, ℕ, zero, suc, ◌+◌, ◌-◌, ◌*◌, ◌≤◌, ◌<◌, [], ◌∷◌, ◌++◌, List, length, take, drop, map, set, get_or, refl, ap, ◌∙◌, arith}
use Rattle.hop_crypto.specs.OpenerState.{OpenerState}
use Rattle.crypto_spec.specs.HopLayer.{layered}
use Rattle.crypto_spec.specs.RunningDigest.{running_digest}
use Rattle.circuit_model.specs.PathLayers.{PathHop, digested_for, layered_for, passed}
use Rattle.onion_client.specs.declared.hop.Hop.{Hop}
use Rattle.onion_client.specs.LayerState.{sealing_of, peeling_of, with_meant, with_sent}
use Rattle.onion_client.specs.Hops.{hop_of, stepped, stepped_forth, with_layers}
use Rattle.onion_client.specs.Making.{last_of, before_last, sealed_on, sent_on, digest_on}

pub length-of_path : (path : List PathHop) → length (map hop_of path) ≡ length path
length-of_path [] = refl
length-of_path (hop ∷ path) = ap suc (length-of_path path)

-- ---- layers go on

-- The layers of the hops from number i on are on the body.
pub record AreOn (start hops : List Hop) (first body : List ℕ) (i : ℕ) : Type 0 where
  pub within : i ≤ length start
  pub moved : hops ≡ take i start ++ map stepped_forth (drop i start)
  pub put : body ≡ with_layers (drop i start) first

set-one_more : (hops : List Hop) (i : ℕ) (d : Hop) → i < length hops →
    set (take (suc i) hops ++ map stepped_forth (drop (suc i) hops)) i (stepped_forth (get_or hops i d)) ≡ take i hops
    ++ map stepped_forth (drop i hops)
set-one_more [] i d within = absurd (omega arith)
set-one_more (hop ∷ hops) zero d within = refl
set-one_more (hop ∷ hops) (suc i) d within = ap (λ rest. hop ∷ rest) (set-one_more hops i d (omega arith))

get-one_more : (hops : List Hop) (i : ℕ) (d : Hop) → i < length hops →
    get_or (take (suc i) hops ++ map stepped_forth (drop (suc i) hops)) i d ≡ get_or hops i d
get-one_more [] i d within = absurd (omega arith)
get-one_more (hop ∷ hops) zero d within = refl
get-one_more (hop ∷ hops) (suc i) d within = get-one_more hops i d (omega arith)

layers-one_more : (hops : List Hop) (i : ℕ) (d : Hop) (body : List ℕ) → i < length hops →
    layered (get_or hops i d).forth.stream.key (get_or hops i d).forth.stream.position (with_layers (drop (suc i) hops) body)
    ≡ with_layers (drop i hops) body
layers-one_more [] i d body within = absurd (omega arith)
layers-one_more (hop ∷ hops) zero d body within = refl
layers-one_more (hop ∷ hops) (suc i) d body within = layers-one_more hops i d body (omega arith)

-- One hop more.
pub more_on : (start hops : List Hop) (first body next : List ℕ) (i : ℕ) (d : Hop) (forth : OpenerState) →
    AreOn start hops first body (suc i) → forth ≡ stepped (get_or hops i d).forth →
    next ≡ layered (get_or hops i d).forth.stream.key (get_or hops i d).forth.stream.position body →
    AreOn start (set hops i (record { forth = forth; back = (get_or hops i d).back })) first next i
more_on start hops first body next i d forth on forth-is next-is =
    let within : i < length start = omega (arith, on.within) in
    let here : get_or hops i d ≡ get_or start i d =
    ap (λ (hs : List Hop). get_or hs i d) on.moved ∙ get-one_more start i d within in
    let made : OpenerState → Hop = λ f. record { forth = f; back = (get_or hops i d).back } in
    record {
      within = omega (arith, on.within);
      moved = ap (λ (f : OpenerState). set hops i (made f)) forth-is
          ∙ ap (λ (h : Hop). set hops i (stepped_forth h)) here
          ∙ ap (λ (hs : List Hop). set hs i (stepped_forth (get_or start i d))) on.moved
          ∙ set-one_more start i d within;
      put = next-is
          ∙ ap (λ (h : Hop). layered h.forth.stream.key h.forth.stream.position body) here
          ∙ ap (λ (b : List ℕ). layered (get_or start i d).forth.stream.key (get_or start i d).forth.stream.position b) on.put
          ∙ layers-one_more start i d first within;
    }

-- The hops of a path.

layers-of_path : (path : List PathHop) (body : List ℕ) → with_layers (map hop_of path) body ≡ layered_for path body
layers-of_path [] body = refl
layers-of_path (hop ∷ path) body = ap (λ (b : List ℕ). layered hop.keys.kf (509 * hop.sent_count) b) (layers-of_path path body)

step-of_hop : (hop : PathHop) → stepped_forth (hop_of hop) ≡ hop_of (with_sent hop)
step-of_hop hop =
    let on : 509 * hop.sent_count + 509 ≡ 509 * (hop.sent_count + 1) = omega arith in
    let at : ℕ → Hop =
    λ n. record (hop_of hop) { forth = record (sealing_of hop) { stream = record { key = hop.keys.kf; position = n } } } in
    ap at on

steps-of_path : (path : List PathHop) → map stepped_forth (map hop_of path) ≡ map hop_of (passed path)
steps-of_path [] = refl
steps-of_path (hop ∷ path) =
    ap (λ (h : Hop). h ∷ map stepped_forth (map hop_of path)) (step-of_hop hop)
    ∙ ap (λ (hs : List Hop). hop_of (with_sent hop) ∷ hs) (steps-of_path path)

-- The last hop of a path.

get-last : (hop : PathHop) (path : List PathHop) (d : Hop)
    → get_or (map hop_of (hop ∷ path)) (length path) d ≡ hop_of (last_of hop path)
get-last hop [] d = refl
get-last hop (next ∷ path) d = get-last next path d

set-last : (hop last : PathHop) (path : List PathHop) →
    set (map hop_of (hop ∷ path)) (length path) (hop_of last) ≡ map hop_of (before_last hop path ++ last ∷ [])
set-last hop last [] = refl
set-last hop last (next ∷ path) = ap (λ (rest : List Hop). hop_of hop ∷ rest) (set-last next last path)

layered-meant : (path : List PathHop) (last : PathHop) (new_body body : List ℕ) →
    layered_for (path ++ with_meant last new_body ∷ []) body ≡ layered_for (path ++ last ∷ []) body
layered-meant [] last new_body body = refl
layered-meant (hop ∷ path) last new_body body =
    ap (λ (b : List ℕ). layered hop.keys.kf (509 * hop.sent_count) b) (layered-meant path last new_body body)

passed-last : (path : List PathHop) (last : PathHop) → passed (path ++ last ∷ []) ≡ passed path ++ with_sent last ∷ []
passed-last [] last = refl
passed-last (hop ∷ path) last = ap (λ (rest : List PathHop). with_sent hop ∷ rest) (passed-last path last)

-- A body was given its Digest by the layer at this place.
pub record Digested (layer forth : OpenerState) (body full_body digest : List ℕ) : Type 0 where
  pub given_is : (hop : PathHop) → layer ≡ sealing_of hop → full_body ≡ digested_for hop body
  pub digest_is : (hop : PathHop) → layer ≡ sealing_of hop
      → digest ≡ running_digest hop.keys.df (hop.meant_bodies ++ full_body ∷ [])
  pub state : (hop : PathHop) → layer ≡ sealing_of hop → forth ≡ sealing_of (with_meant hop full_body)

-- The hop at place n has this layer instead.
abbrev pub with_forth : List Hop → ℕ → Hop → OpenerState → List Hop
with_forth hops n d forth = set hops n (record { forth = forth; back = (get_or hops n d).back })

module _ (hop : PathHop) (path : List PathHop) (start : List Hop) (n : ℕ) (d : Hop) (forth : OpenerState)
    (body full_body digest : List ℕ)
    (told : Digested (get_or start n d).forth forth body full_body digest) (stands : start ≡ map hop_of (hop ∷ path))
    (at_last : n ≡ length path) where
  last_here : get_or start n d ≡ hop_of (last_of hop path)
  last_here =
      ap (λ (hs : List Hop). get_or hs n d) stands
      ∙ ap (λ (m : ℕ). get_or (map hop_of (hop ∷ path)) m d) at_last ∙ get-last hop path d

  last_layer : (get_or start n d).forth ≡ sealing_of (last_of hop path)
  last_layer = ap (λ (h : Hop). h.forth) last_here

  changed : with_forth start n d forth ≡ map hop_of (before_last hop path ++ with_meant (last_of hop path) full_body ∷ [])
  changed =
      let last = last_of hop path in
      let made : OpenerState → OpenerState → Hop = λ f b. record { forth = f; back = b } in
      ap (λ (h : Hop). set start n (made forth h.back)) last_here
      ∙ ap (λ (f : OpenerState). set start n (made f (peeling_of last))) (told.state last last_layer)
      ∙ ap (λ (hs : List Hop). set hs n (hop_of (with_meant last full_body))) stands
      ∙ ap (λ (m : ℕ). set (map hop_of (hop ∷ path)) m (hop_of (with_meant last full_body))) at_last
      ∙ set-last hop (with_meant last full_body) path

  sealed_here : with_layers (with_forth start n d forth) full_body ≡ sealed_on (hop ∷ path) body
  sealed_here =
      let last = last_of hop path in
      let others = before_last hop path in
      ap (λ (hs : List Hop). with_layers hs full_body) changed
      ∙ layers-of_path (others ++ with_meant last full_body ∷ []) full_body
      ∙ layered-meant others last full_body full_body
      ∙ ap (λ (b : List ℕ). layered_for (others ++ last ∷ []) b) (told.given_is last last_layer)

  sent_here : map stepped_forth (with_forth start n d forth) ≡ map hop_of (sent_on (hop ∷ path) body)
  sent_here =
      let last = last_of hop path in
      let others = before_last hop path in
      ap (λ (hs : List Hop). map stepped_forth hs) changed
      ∙ steps-of_path (others ++ with_meant last full_body ∷ [])
      ∙ ap (λ (ps : List PathHop). map hop_of ps) (passed-last others (with_meant last full_body))
      ∙ ap (λ (b : List ℕ). map hop_of (passed others ++ with_sent (with_meant last b) ∷ [])) (told.given_is last last_layer)

  digest_here : digest ≡ digest_on (hop ∷ path) body
  digest_here =
      let last = last_of hop path in
      told.digest_is last last_layer ∙ ap (λ (b : List ℕ). running_digest last.keys.df (last.meant_bodies ++ b ∷ []))
      (told.given_is last last_layer)

last_place : (hop : PathHop) (path : List PathHop) (start : List Hop) (n : ℕ) → start ≡ map hop_of (hop ∷ path)
    → n ≡ length start - 1 → n ≡ length path
last_place hop path start n stands last = omega (arith, ap (λ (hs : List Hop). length hs) stands, length-of_path (hop ∷ path))

none_left : (start : List Hop) → start ≡ [] → 0 < length start → ⊥
none_left start empty some = omega (arith, ap (λ (hs : List Hop). length hs) empty)

pub sealed_by : (path : List PathHop) (start : List Hop) (n : ℕ) (d : Hop) (forth : OpenerState) (body full_body digest : List ℕ)
    →
    Digested (get_or start n d).forth forth body full_body digest → start ≡ map hop_of path → n ≡ length start - 1
    → 0 < length start →
    with_layers (with_forth start n d forth) full_body ≡ sealed_on path body
sealed_by [] start n d forth body full_body digest told stands last some = absurd (none_left start stands some)
sealed_by (hop ∷ path) start n d forth body full_body digest told stands last some =
    sealed_here hop path start n d forth body full_body digest told stands (last_place hop path start n stands last)

pub sent_by : (path : List PathHop) (start : List Hop) (n : ℕ) (d : Hop) (forth : OpenerState) (body full_body digest : List ℕ) →
    Digested (get_or start n d).forth forth body full_body digest → start ≡ map hop_of path → n ≡ length start - 1
    → 0 < length start →
    map stepped_forth (with_forth start n d forth) ≡ map hop_of (sent_on path body)
sent_by [] start n d forth body full_body digest told stands last some = absurd (none_left start stands some)
sent_by (hop ∷ path) start n d forth body full_body digest told stands last some =
    sent_here hop path start n d forth body full_body digest told stands (last_place hop path start n stands last)

pub digest_by : (path : List PathHop) (start : List Hop) (n : ℕ) (d : Hop) (forth : OpenerState) (body full_body digest : List ℕ)
    →
    Digested (get_or start n d).forth forth body full_body digest → start ≡ map hop_of path → n ≡ length start - 1
    → 0 < length start →
    digest ≡ digest_on path body
digest_by [] start n d forth body full_body digest told stands last some = absurd (none_left start stands some)
digest_by (hop ∷ path) start n d forth body full_body digest told stands last some =
    digest_here hop path start n d forth body full_body digest told stands (last_place hop path start n stands last)
