-- How many CircIDs a channel has, as the map changes.
use Rattle.std.specs.Prelude.{◌≡◌, ◌≢◌, ℕ, zero, suc, ◌+◌, ◌-◌, ◌<◌, ◌&&◌, nat_eq, Bool, true, false, cond, Option, Some, None, is_some, refl}
use Rattle.std.proofs.Common.{sym, ap, ◌∙◌, subst, arith}
use Rattle.std.specs.FinMap.{empty, get, insert, remove, len, retain_keys, get-retain_keys, get-insert, get-remove, get-empty, len-insert, len-remove, len-empty, empty_of_len, same_map}
use Rattle.std.specs.Ordering.{eq_by_cmp}
use Rattle.hashed_maps.specs.Pairs.{pair_cmp}
use Rattle.hashed_maps.proofs.Keys.{pair_keys, tied_key}
use Rattle.circuit_table.specs.Ports.{Port, LegName, Ports, on_channel, ids_of}

-- What the part of a map on one channel has.
pub get-on_channel : (ports : Ports) (chan : ℕ) (q : Port)
    → get (on_channel ports chan) q ≡ cond (nat_eq q.0 chan) (get ports q) None
get-on_channel ports chan q =
    get-retain_keys ports (λ p. nat_eq p.0 chan) q (λ x tied. ap (λ p. nat_eq p.0 chan) (sym (pair_keys.exact q x tied)))

same_part : (a b : Ports) → ((q : Port) → get a q ≡ get b q) → a ≡ b
same_part a b alike = same_map pair_keys.total pair_keys.exact a b alike

either_way : {A : Type 0} (b : Bool) (x : A) → cond b x x ≡ x
either_way true x = refl
either_way false x = refl

on_channel-empty : (chan : ℕ) → on_channel empty chan ≡ empty
on_channel-empty chan =
    same_part _ _ (λ q. get-on_channel empty chan q ∙ ap (λ o. cond (nat_eq q.0 chan) o None) (get-empty pair_cmp q)
    ∙ either_way (nat_eq q.0 chan) None ∙ sym (get-empty pair_cmp q))

pub ids_of-empty : (chan : ℕ) → ids_of empty chan ≡ 0
ids_of-empty chan = ap len (on_channel-empty chan) ∙ len-empty pair_cmp LegName

-- One test first or the other.
exchanged : {A : Type 0} (a b : Bool) (x : Option A) → cond a (cond b None x) None ≡ cond b None (cond a x None)
exchanged true b x = refl
exchanged false true x = refl
exchanged false false x = refl

on_channel-remove : (ports : Ports) (port : Port) (chan : ℕ)
    → on_channel (remove ports port) chan ≡ remove (on_channel ports chan) port
on_channel-remove ports port chan =
    same_part _ _ (λ q.
    get-on_channel (remove ports port) chan q
    ∙ ap (λ o. cond (nat_eq q.0 chan) o None) (get-remove pair_keys.total ports port q)
    ∙ exchanged (nat_eq q.0 chan) (eq_by_cmp pair_cmp q port) (get ports q)
    ∙ ap (cond (eq_by_cmp pair_cmp q port) None) (sym (get-on_channel ports chan q))
    ∙ sym (get-remove pair_keys.total (on_channel ports chan) port q))

-- On its own channel a port is added, on another one nothing is.
added_here : {A : Type 0} (mine here : Bool) (leg : A) (x : Option A) → (here ≡ true → mine ≡ true)
    → cond mine (cond here (Some leg) x) None ≡ cond here (Some leg) (cond mine x None)
added_here true here leg x of = refl
added_here false true leg x of = cc (of refl)
added_here false false leg x of = refl

added_elsewhere : {A : Type 0} (mine here : Bool) (leg : A) (x : Option A) → (here ≡ true → mine ≡ false)
    → cond mine (cond here (Some leg) x) None ≡ cond mine x None
added_elsewhere false here leg x of = refl
added_elsewhere true true leg x of = cc (of refl)
added_elsewhere true false leg x of = refl

inserted_part : (ports : Ports) (port : Port) (leg : LegName) (chan : ℕ) (q : Port)
    → get (on_channel (insert ports port leg) chan) q
    ≡ cond (nat_eq q.0 chan) (cond (eq_by_cmp pair_cmp q port) (Some leg) (get ports q)) None
inserted_part ports port leg chan q =
    get-on_channel (insert ports port leg) chan q ∙ ap (λ o. cond (nat_eq q.0 chan) o None)
    (get-insert pair_keys.total ports port leg q)

chan_of_same : (port q : Port) (chan : ℕ) (is : Bool) → nat_eq port.0 chan ≡ is → eq_by_cmp pair_cmp q port ≡ true
    → nat_eq q.0 chan ≡ is
chan_of_same port q chan is at tied = ap (λ p. nat_eq p.0 chan) (tied_key pair_keys q port tied) ∙ at

on_channel-insert : (ports : Ports) (port : Port) (leg : LegName) (chan : ℕ) → nat_eq port.0 chan ≡ true
    → on_channel (insert ports port leg) chan ≡ insert (on_channel ports chan) port leg
on_channel-insert ports port leg chan at =
    same_part _ _ (λ q.
    inserted_part ports port leg chan q
    ∙ added_here (nat_eq q.0 chan) (eq_by_cmp pair_cmp q port) leg (get ports q) (chan_of_same port q chan true at)
    ∙ ap (cond (eq_by_cmp pair_cmp q port) (Some leg)) (sym (get-on_channel ports chan q))
    ∙ sym (get-insert pair_keys.total (on_channel ports chan) port leg q))

on_channel-insert_elsewhere : (ports : Ports) (port : Port) (leg : LegName) (chan : ℕ) → nat_eq port.0 chan ≡ false
    → on_channel (insert ports port leg) chan ≡ on_channel ports chan
on_channel-insert_elsewhere ports port leg chan off =
    same_part _ _ (λ q.
    inserted_part ports port leg chan q
    ∙ added_elsewhere (nat_eq q.0 chan) (eq_by_cmp pair_cmp q port) leg (get ports q) (chan_of_same port q chan false off)
    ∙ sym (get-on_channel ports chan q))

-- A channel has one CircID more, once a free one is given.
pub ids_of-insert : (ports : Ports) (port : Port) (leg : LegName) (chan : ℕ) → get ports port ≡ None
    → ids_of (insert ports port leg) chan ≡ cond (nat_eq port.0 chan) (ids_of ports chan + 1) (ids_of ports chan)
ids_of-insert ports port leg chan free =
    elim (nat_eq port.0 chan) as (λ b. nat_eq port.0 chan ≡ b → ids_of (insert ports port leg) chan ≡ cond b (ids_of ports chan + 1) (ids_of ports chan)) [
      | true ↦ λ at.
          let none : is_some (get (on_channel ports chan) port) ≡ false = ap is_some
          (get-on_channel ports chan port ∙ ap (λ o. cond (nat_eq port.0 chan) o None) free
          ∙ either_way (nat_eq port.0 chan) None) in
          ap len (on_channel-insert ports port leg chan at) ∙ len-insert pair_keys.total (on_channel ports chan) port leg
          ∙ ap (λ b. cond b (ids_of ports chan) (ids_of ports chan + 1)) none
      | false ↦ λ off. ap len (on_channel-insert_elsewhere ports port leg chan off)
    ] refl

-- It has one less, once one is freed.
pub ids_of-remove : (ports : Ports) (port : Port) (leg : LegName) (chan : ℕ) → get ports port ≡ Some leg
    → ids_of (remove ports port) chan ≡ cond (nat_eq port.0 chan) (ids_of ports chan - 1) (ids_of ports chan)
ids_of-remove ports port leg chan has =
    let found : is_some (get (on_channel ports chan) port) ≡ nat_eq port.0 chan = ap is_some
    (get-on_channel ports chan port ∙ ap (λ o. cond (nat_eq port.0 chan) o None) has) ∙ some_if (nat_eq port.0 chan) in
    ap len (on_channel-remove ports port chan) ∙ len-remove pair_keys.total (on_channel ports chan) port
    ∙ ap (λ b. cond b (ids_of ports chan - 1) (ids_of ports chan)) found
  where
    some_if : (b : Bool) → is_some (cond b (Some leg) None) ≡ b
    some_if true = refl
    some_if false = refl

above_zero : (n : ℕ) → n ≢ 0 → 0 < n
above_zero zero not_zero = absurd (not_zero refl)
above_zero (suc n) not_zero = omega arith

-- A channel with a CircID in use has at least one.
pub ids_of-used : (ports : Ports) (port : Port) (leg : LegName) → get ports port ≡ Some leg → 0 < ids_of ports port.0
ids_of-used ports port leg has =
    above_zero _ (λ none.
    let gone : get (on_channel ports port.0) port ≡ None = ap (λ m. get m port) (empty_of_len _ none) ∙ get-empty pair_cmp port in
    let there : get (on_channel ports port.0) port ≡ Some leg = get-on_channel ports port.0 port
    ∙ ap (λ b. cond b (get ports port) None) (same_number port.0) ∙ has in
    cc)
  where
    same_number : (n : ℕ) → nat_eq n n ≡ true
    same_number n = grind arith
