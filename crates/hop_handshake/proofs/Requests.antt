-- What is read of the payloads of CREATE2 and CREATED2.
use Rattle.std.proofs.Common.{◌≡◌, ◌↔◌, ℕ, ◌+◌, ◌-◌, ◌^◌, ◌<◌, ◌≤◌, Bool, true, false, cond, ◌&&◌, leb, Some, None, List, ◌++◌, suc, length, take, drop, replicate, ap, refl, ◌∙◌, arith, length-append, length-drop, rules}
use Rattle.std.specs.Prelude.{option_map, IsSome, if◌then◌else◌}
use Rattle.std.specs.Int.{w16, to_be_bytes, from_be_bytes}
use Rattle.std.proofs.lemmas.Bool.{le-leb, leb-true}
use Rattle.std.proofs.lemmas.List.{take_at}
use Rattle.std.proofs.lemmas.Nat.{from_be_bytes-to_be_bytes_2}
use Rattle.tor_spec.specs.Extend.{create2_payload, handshake_reply, handshake_reply_payload, handshake_request}
use Rattle.hop_handshake.specs.Payloads.{created2_payload}

-- A request is read exactly where all three tests of its length hold.

some_by : {A B : Type 0} (f : A → B) (a b c : Bool) (x : A)
    → IsSome (if a then option_map f (if b && c then Some x else None) else None) → c ≡ true
some_by f true true true x is = refl
some_by f true true false x is = search rules
some_by f true false c x is = search rules
some_by f false b c x is = search rules

made_by : {A B : Type 0} (f : A → B) (a b c : Bool) (x : A) → a ≡ true → b ≡ true → c ≡ true
    → IsSome (if a then option_map f (if b && c then Some x else None) else None)
made_by f a b c x ia ib ic = rw (ia, ib, ic) (search rules)

pub whole_up_to_505 : (payload : List ℕ) → length payload ≡ 509
    → IsSome (handshake_request payload) ↔ (from_be_bytes w16 (take 2 (drop 2 payload)) ≤ 505)
unfolding handshake_request handshake_reply
whole_up_to_505 payload long =
    let rest = drop 2 payload in
    let size = from_be_bytes w16 (take 2 rest) in
    let hdata = take size (drop 2 rest) in
    let made : List ℕ → ℕ × List ℕ = λ h. (from_be_bytes w16 (take 2 payload), h) in
    let first = leb 2 (length payload) in
    let second = leb 2 (length rest) in
    let third = leb (2 + size) (length rest) in
    let rest_long : length rest ≡ 507 = length-drop 2 payload ∙ omega (arith, long) in (
      λ is. let within : 2 + size ≤ length rest = leb-true (2 + size) (length rest)
          (some_by made first second third hdata is) in omega (arith, within, rest_long),
      λ small. made_by made first second third hdata (le-leb 2 (length payload) (omega (arith, long)))
          (le-leb 2 (length rest) (omega (arith, rest_long))) (le-leb (2 + size) (length rest) (omega (arith, rest_long, small))),
    )

-- What is written is read back, whatever follows.

reply_is_read : (handshake more : List ℕ) → length handshake < 2 ^ 16
    → handshake_reply (handshake_reply_payload handshake ++ more) ≡ Some handshake
unfolding handshake_reply handshake_reply_payload
reply_is_read h more small =
    let n = length h in
    let all = suc (suc (length (h ++ more))) in
    let long : length (h ++ more) ≡ n + length more = length-append h more in
    ap (λ k. cond (leb 2 all && leb (2 + k) all) (Some (take k (h ++ more))) None) (from_be_bytes-to_be_bytes_2 n small)
    ∙ ap (λ b. cond (b && leb (2 + n) all) (Some (take n (h ++ more))) None) (le-leb 2 all (omega arith))
    ∙ ap (λ b. cond b (Some (take n (h ++ more))) None) (le-leb (2 + n) all (omega arith))
    ∙ ap Some (take_at h more n refl)

request_is_read : (t : ℕ) (h more : List ℕ) → t < 2 ^ 16 → length h < 2 ^ 16
    → handshake_request (to_be_bytes w16 t ++ (handshake_reply_payload h ++ more)) ≡ Some (t, h)
unfolding handshake_request
request_is_read t h more t_small h_small =
    let read = from_be_bytes w16 (to_be_bytes w16 t) in
    let reply = handshake_reply_payload h ++ more in
    ap (λ b. cond b (option_map (λ (x : List ℕ). (read, x)) (handshake_reply reply)) None)
    (le-leb 2 (suc (suc (length reply))) (omega arith))
    ∙ ap (option_map (λ (x : List ℕ). (read, x))) (reply_is_read h more h_small)
    ∙ ap (λ (n : ℕ). Some (n, h)) (from_be_bytes-to_be_bytes_2 t t_small)

pub created2_is_read : (hdata : List ℕ) → length hdata ≤ 507 → handshake_reply (created2_payload hdata) ≡ Some hdata
created2_is_read hdata fits = reply_is_read hdata (replicate (509 - length (handshake_reply_payload hdata)) 0) (omega arith)

pub create2_is_read : (htype : ℕ) (hdata : List ℕ) → htype < 2 ^ 16 → length hdata ≤ 505
    → handshake_request (create2_payload htype hdata) ≡ Some (htype, hdata)
create2_is_read htype hdata type_fits fits =
    request_is_read htype hdata (replicate (509 - length (to_be_bytes w16 htype ++ handshake_reply_payload hdata)) 0) type_fits
    (omega arith)
