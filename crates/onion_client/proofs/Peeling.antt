-- A body from which the layers of several hops come off, one after another.
use Rattle.std.proofs.Common.{◌≡◌, ℕ, zero, suc, ◌+◌, ◌*◌, ◌^◌, ◌≤◌, ◌<◌, [], ◌∷◌, ◌++◌, List, Bool, true, false, length, drop, map, set, get_or, refl, ap, sym, subst, ◌∙◌, arith, Option, Some, None, if◌then◌else◌, length-append, length-set}
use Rattle.std.proofs.lemmas.List.{append_assoc}
use Rattle.hop_crypto.specs.OpenerState.{OpenerState, opener_of}
use Rattle.crypto_spec.specs.HopLayer.{OpeningLayer, OpenedBody, is_recognised, opened, after_opening}
use Rattle.crypto_spec.specs.RunningDigest.{running_digest}
use Rattle.circuit_model.specs.PathLayers.{PathHop, FromHop, peeled, recognised_from, after_coming}
use Rattle.onion_client.specs.declared.hop.Hop.{Hop}
use Rattle.onion_client.specs.LayerState.{sealing_of, peeling_of, back_layer}
use Rattle.onion_client.specs.Hops.{hop_of}
use Rattle.onion_client.specs.Making.{last_of}
use Rattle.onion_client.specs.Taking.{digest_from}
use Rattle.onion_client.proofs.Places.{HopAt, hop_of_path_at, drop-set, drop-one, set-gone, get-gone, last-at}

-- The layers of the hops before number i are off the body, and none of them recognised it.
pub record IsOff (path : List PathHop) (hops : List Hop) (first body : List ℕ) (i : ℕ) : Type 0 where
  pub gone : List PathHop
  pub count : length gone ≡ i
  pub moved : hops ≡ map hop_of (gone ++ drop i path)
  pub coming : after_coming path first ≡ gone ++ after_coming (drop i path) body
  pub from : recognised_from 1 path first ≡ recognised_from (i + 1) (drop i path) body

pub record AreOff (start hops : List Hop) (first body : List ℕ) (i : ℕ) : Type 0 where
  pub long : length hops ≡ length start
  pub rest : drop i hops ≡ drop i start
  pub path : (path : List PathHop) → start ≡ map hop_of path → IsOff path hops first body i

-- ---- one layer

-- What the layer at a place made of a body.
pub record Took (layer back : OpenerState) (body next : List ℕ) (result : Option (List ℕ)) : Type 0 where
  pub told : (l : OpeningLayer) → layer ≡ opener_of l → opened l body ≡ record { body = next; recognised = result }
  pub state : (l : OpeningLayer) → layer ≡ opener_of l → back ≡ opener_of (after_opening l body)

not_some : (b : Bool) (x : List ℕ) → (if b then Some x else None) ≡ None → b ≡ false
not_some true x none = cc
not_some false x none = refl

is_some : (b : Bool) (x y : List ℕ) → (if b then Some x else None) ≡ Some y → b ≡ true
is_some true x y some = refl
is_some false x y some = cc

some_is : (b : Bool) (x y : List ℕ) → (if b then Some x else None) ≡ Some y → x ≡ y
some_is true x y some = cc
some_is false x y some = cc

body_is : (p : PathHop) (body next : List ℕ) (result : Option (List ℕ))
    → opened (back_layer p) body ≡ record { body = next; recognised = result } → peeled p body ≡ next
unfolding opened
body_is p body next result told = ap (λ (o : OpenedBody). o.body) told

other_is : (p : PathHop) (body next : List ℕ) → opened (back_layer p) body ≡ record { body = next; recognised = None }
    → is_recognised p.keys.db p.hop_bodies (peeled p body) ≡ false
unfolding opened
other_is p body next told =
    not_some (is_recognised p.keys.db p.hop_bodies (peeled p body))
    (running_digest p.keys.db (p.hop_bodies ++ peeled p body ∷ [])) (ap (λ (o : OpenedBody). o.recognised) told)

this_is : (p : PathHop) (body next digest : List ℕ)
    → opened (back_layer p) body ≡ record { body = next; recognised = Some digest }
    → is_recognised p.keys.db p.hop_bodies (peeled p body) ≡ true
unfolding opened
this_is p body next digest told =
    is_some (is_recognised p.keys.db p.hop_bodies (peeled p body)) (running_digest p.keys.db (p.hop_bodies ++ peeled p body ∷ []))
    digest (ap (λ (o : OpenedBody). o.recognised) told)

digest_is : (p : PathHop) (body next digest : List ℕ)
    → opened (back_layer p) body ≡ record { body = next; recognised = Some digest }
    → running_digest p.keys.db (p.hop_bodies ++ peeled p body ∷ []) ≡ digest
unfolding opened
digest_is p body next digest told =
    some_is (is_recognised p.keys.db p.hop_bodies (peeled p body)) (running_digest p.keys.db (p.hop_bodies ++ peeled p body ∷ []))
    digest (ap (λ (o : OpenedBody). o.recognised) told)

-- The hop behind a body.

abbrev came : PathHop → PathHop
came p = record p { came_count = p.came_count + 1 }

abbrev came_for : PathHop → List ℕ → PathHop
came_for p plain = record p { came_count = p.came_count + 1; hop_bodies = p.hop_bodies ++ plain ∷ [] }

behind_other : (p : PathHop) (body : List ℕ) → is_recognised p.keys.db p.hop_bodies (peeled p body) ≡ false
    → opener_of (after_opening (back_layer p) body) ≡ peeling_of (came p)
unfolding after_opening
behind_other p body other =
    let on : 509 * p.came_count + 509 ≡ 509 * (p.came_count + 1) = omega arith in
    let at : ℕ → Bool → OpenerState =
    λ n b. opener_of
    (record (back_layer p) { position = n; absorbed = if b then p.hop_bodies ++ peeled p body ∷ [] else p.hop_bodies }) in
    ap (λ (n : ℕ). at n (is_recognised p.keys.db p.hop_bodies (peeled p body))) on
    ∙ ap (λ (b : Bool). at (509 * (p.came_count + 1)) b) other

behind_this : (p : PathHop) (body : List ℕ) → is_recognised p.keys.db p.hop_bodies (peeled p body) ≡ true
    → opener_of (after_opening (back_layer p) body) ≡ peeling_of (came_for p (peeled p body))
unfolding after_opening
behind_this p body this =
    let on : 509 * p.came_count + 509 ≡ 509 * (p.came_count + 1) = omega arith in
    let at : ℕ → Bool → OpenerState =
    λ n b. opener_of
    (record (back_layer p) { position = n; absorbed = if b then p.hop_bodies ++ peeled p body ∷ [] else p.hop_bodies }) in
    ap (λ (n : ℕ). at n (is_recognised p.keys.db p.hop_bodies (peeled p body))) on
    ∙ ap (λ (b : Bool). at (509 * (p.came_count + 1)) b) this

coming_other : (p : PathHop) (rest : List PathHop) (body next : List ℕ)
    → is_recognised p.keys.db p.hop_bodies (peeled p body) ≡ false → peeled p body ≡ next
    → after_coming (p ∷ rest) body ≡ came p ∷ after_coming rest next
coming_other p rest body next other off =
    ap (λ (b : Bool). if b then came_for p (peeled p body) ∷ rest else came p ∷ after_coming rest (peeled p body)) other
    ∙ ap (λ (x : List ℕ). came p ∷ after_coming rest x) off

coming_this : (p : PathHop) (rest : List PathHop) (body : List ℕ) → is_recognised p.keys.db p.hop_bodies (peeled p body) ≡ true
    → after_coming (p ∷ rest) body ≡ came_for p (peeled p body) ∷ rest
coming_this p rest body this =
    ap (λ (b : Bool). if b then came_for p (peeled p body) ∷ rest else came p ∷ after_coming rest (peeled p body)) this

from_other : (n : ℕ) (p : PathHop) (rest : List PathHop) (body next : List ℕ)
    → is_recognised p.keys.db p.hop_bodies (peeled p body) ≡ false → peeled p body ≡ next
    → recognised_from n (p ∷ rest) body ≡ recognised_from (n + 1) rest next
from_other n p rest body next other off =
    ap (λ (b : Bool). if b then Some (record { hop = n; body = peeled p body }) else recognised_from (n + 1) rest (peeled p body))
    other
    ∙ ap (λ (x : List ℕ). recognised_from (n + 1) rest x) off

from_this : (n : ℕ) (p : PathHop) (rest : List PathHop) (body next : List ℕ)
    → is_recognised p.keys.db p.hop_bodies (peeled p body) ≡ true → peeled p body ≡ next
    → recognised_from n (p ∷ rest) body ≡ Some (record { hop = n; body = next })
from_this n p rest body next this off =
    let made : List ℕ → FromHop = λ x. record { hop = n; body = x } in
    ap (λ (b : Bool). if b then Some (made (peeled p body)) else recognised_from (n + 1) rest (peeled p body)) this
    ∙ ap (λ (x : List ℕ). Some (made x)) off

-- ---- the loop

-- The hop at place i has this layer instead.
abbrev pub with_back : List Hop → ℕ → Hop → OpenerState → List Hop
with_back hops i d back = set hops i (record { forth = (get_or hops i d).forth; back = back })

module _ (path : List PathHop) (hops : List Hop) (first body next : List ℕ) (i : ℕ) (d : Hop) (back : OpenerState)
    (off : IsOff path hops first body i) (at : HopAt path i) where
  stands_here : hops ≡ map hop_of (off.gone ++ at.hop ∷ at.rest)
  stands_here = off.moved ∙ ap (λ (ps : List PathHop). map hop_of (off.gone ++ ps)) at.here

  hop_here : get_or hops i d ≡ hop_of at.hop
  hop_here =
      ap (λ (hs : List Hop). get_or hs i d) stands_here
      ∙ ap (λ (k : ℕ). get_or (map hop_of (off.gone ++ at.hop ∷ at.rest)) k d) (sym off.count)
      ∙ get-gone off.gone at.hop at.rest d

  layer_here : (get_or hops i d).back ≡ opener_of (back_layer at.hop)
  layer_here = ap (λ (h : Hop). h.back) hop_here

  changed : (q : PathHop) → sealing_of at.hop ≡ sealing_of q → back ≡ peeling_of q
      → with_back hops i d back ≡ map hop_of (off.gone ++ q ∷ at.rest)
  changed q forth-is back-is =
      let made : OpenerState → OpenerState → Hop = λ f b. record { forth = f; back = b } in
      ap (λ (h : Hop). set hops i (made h.forth back)) hop_here
      ∙ ap (λ (f : OpenerState). set hops i (made f back)) forth-is
      ∙ ap (λ (b : OpenerState). set hops i (made (sealing_of q) b)) back-is
      ∙ ap (λ (hs : List Hop). set hs i (hop_of q)) stands_here
      ∙ ap (λ (k : ℕ). set (map hop_of (off.gone ++ at.hop ∷ at.rest)) k (hop_of q)) (sym off.count)
      ∙ set-gone off.gone at.hop q at.rest

  other_off : Took (get_or hops i d).back back body next None → IsOff path (with_back hops i d back) first next (suc i)
  other_off took =
      let told = took.told (back_layer at.hop) layer_here in
      let other : is_recognised at.hop.keys.db at.hop.hop_bodies (peeled at.hop body) ≡ false = other_is at.hop body next told in
      let plain : peeled at.hop body ≡ next = body_is at.hop body next None told in
      let q : PathHop = came at.hop in
      let back-is : back ≡ peeling_of q = took.state (back_layer at.hop) layer_here ∙ behind_other at.hop body other in
      let grown : List PathHop = off.gone ++ q ∷ [] in
      let count : i + 1 + 1 ≡ suc i + 1 = omega arith in
      record {
        gone = grown;
        count = omega (arith, length-append off.gone (q ∷ []), off.count);
        moved = changed q refl back-is
            ∙ ap (λ (ps : List PathHop). map hop_of ps) (sym (append_assoc off.gone (q ∷ []) at.rest))
            ∙ ap (λ (ps : List PathHop). map hop_of (grown ++ ps)) (sym at.behind);
        coming = off.coming
            ∙ ap (λ (ps : List PathHop). off.gone ++ after_coming ps body) at.here
            ∙ ap (λ (ps : List PathHop). off.gone ++ ps) (coming_other at.hop at.rest body next other plain)
            ∙ sym (append_assoc off.gone (q ∷ []) (after_coming at.rest next))
            ∙ ap (λ (ps : List PathHop). grown ++ after_coming ps next) (sym at.behind);
        from = off.from
            ∙ ap (λ (ps : List PathHop). recognised_from (i + 1) ps body) at.here
            ∙ from_other (i + 1) at.hop at.rest body next other plain
            ∙ ap (λ (n : ℕ). recognised_from n at.rest next) count
            ∙ ap (λ (ps : List PathHop). recognised_from (suc i + 1) ps next) (sym at.behind);
      }

  pub found_from : (digest : List ℕ) → Took (get_or hops i d).back back body next (Some digest)
      → recognised_from 1 path first ≡ Some (record { hop = i + 1; body = next })
  found_from digest took =
      let told = took.told (back_layer at.hop) layer_here in
      off.from
      ∙ ap (λ (ps : List PathHop). recognised_from (i + 1) ps body) at.here
      ∙ from_this (i + 1) at.hop at.rest body next (this_is at.hop body next digest told)
      (body_is at.hop body next (Some digest) told)

  pub found_state : (digest : List ℕ) → Took (get_or hops i d).back back body next (Some digest)
      → with_back hops i d back ≡ map hop_of (after_coming path first)
  found_state digest took =
      let told = took.told (back_layer at.hop) layer_here in
      let this : is_recognised at.hop.keys.db at.hop.hop_bodies (peeled at.hop body) ≡ true =
      this_is at.hop body next digest told in
      changed (came_for at.hop (peeled at.hop body)) refl
      (took.state (back_layer at.hop) layer_here ∙ behind_this at.hop body this)
      ∙ ap (λ (ps : List PathHop). map hop_of (off.gone ++ ps)) (sym (coming_this at.hop at.rest body this))
      ∙ ap (λ (ps : List PathHop). map hop_of (off.gone ++ after_coming ps body)) (sym at.here)
      ∙ ap (λ (ps : List PathHop). map hop_of ps) (sym off.coming)

  hop_digest : (digest : List ℕ) → Took (get_or hops i d).back back body next (Some digest)
      → digest ≡ running_digest at.hop.keys.db (at.hop.hop_bodies ++ next ∷ [])
  hop_digest digest took =
      let told = took.told (back_layer at.hop) layer_here in
      sym (digest_is at.hop body next digest told)
      ∙ ap (λ (x : List ℕ). running_digest at.hop.keys.db (at.hop.hop_bodies ++ x ∷ []))
      (body_is at.hop body next (Some digest) told)

last_digest : (path : List PathHop) (i : ℕ) (at : HopAt path i) (next digest : List ℕ) → i + 1 ≡ length path →
    digest ≡ running_digest at.hop.keys.db (at.hop.hop_bodies ++ next ∷ []) → digest ≡ digest_from path next
last_digest [] i at next digest last is = absurd (omega arith)
last_digest (q ∷ path) i at next digest last is =
    let same : last_of q path ≡ at.hop = last-at q path i at.hop at.rest at.here (omega arith) in
    is ∙ ap (λ (p : PathHop). running_digest p.keys.db (p.hop_bodies ++ next ∷ [])) (sym same)

pub found_digest : (path : List PathHop) (hops : List Hop) (first body next : List ℕ) (i : ℕ) (d : Hop) (back : OpenerState)
    (digest : List ℕ) →
    IsOff path hops first body i → HopAt path i → Took (get_or hops i d).back back body next (Some digest) → i + 1 ≡ length path
    → digest ≡ digest_from path next
found_digest path hops first body next i d back digest off at took last =
    last_digest path i at next digest last (hop_digest path hops first body next i d back off at digest took)

-- No hop up to this one recognised it.
pub more_off : (start hops : List Hop) (first body next : List ℕ) (i : ℕ) (d : Hop) (back : OpenerState) →
    AreOff start hops first body i → i < length start → Took (get_or hops i d).back back body next None →
    AreOff start (with_back hops i d back) first next (suc i)
more_off start hops first body next i d back off within took =
    record {
      long = length-set hops i (record { forth = (get_or hops i d).forth; back = back }) ∙ off.long;
      rest = drop-set hops i (record { forth = (get_or hops i d).forth; back = back })
          ∙ drop-one hops i ∙ ap (λ (hs : List Hop). drop 1 hs) off.rest ∙ sym (drop-one start i);
      path = λ path stands.
          other_off path hops first body next i d back (off.path path stands) (hop_of_path_at path start i stands within) took;
    }
