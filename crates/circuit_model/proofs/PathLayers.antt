-- A path's layers come off one by one, and what the client sealed is recognised where it was meant.
use Rattle.std.proofs.Common.{◌≡◌, ℕ, ◌*◌, [], ◌∷◌, ◌++◌, List, length, take, drop, Bool, true, false, bit_xor, refl, ap, sym, ◌∙◌, arith}
use Rattle.std.specs.Simd.Lanes.{zip2}
use Rattle.std.specs.Int.Bits.{xor_assoc, xor_self, xor_zero_r}
use Rattle.std.proofs.lemmas.Simd.{length-zip2}
use Rattle.std.proofs.lemmas.List.FromFn.{length-map-range_with_len}
use Rattle.crypto_spec.specs.HopLayer.{layered, is_recognised}
use Rattle.crypto_spec.specs.Keystream.{keystream, keystream_part}
use Rattle.sha1.specs.Sha1.{sha1, digest_bytes}
use Rattle.std.specs.Prelude.{bytes_eq}
use Rattle.std.specs.Bool.{Decides}
use Rattle.std.specs.List.{flat_map}
use Rattle.std.proofs.lemmas.Grind.{flat_map-append}
use Rattle.std.proofs.lemmas.Slice.Eq.{bytes_eq-Decides}
use Rattle.crypto_spec.specs.RunningDigest.{zeroed, digest_message, running_digest}
use Rattle.tor_spec.specs.RelayCell.{relay_body, relay_head_bytes, with_digest}
use Rattle.circuit_model.specs.Log.{Log}
use Rattle.circuit_model.specs.Opened.{born_keys, forward_count, plain_body, recognised_bodies, recognises}
use Rattle.circuit_model.specs.PathLayers.{PathHop, layered_for, digested_for}

xor-twice : (x y : ℕ) → bit_xor (bit_xor x y) y ≡ x
xor-twice x y = xor_assoc x y y ∙ ap (λ z. bit_xor x z) (xor_self y) ∙ xor_zero_r x

zip2-twice : (xs ys : List ℕ) → length xs ≡ length ys → zip2 bit_xor (zip2 bit_xor xs ys) ys ≡ xs
zip2-twice [] ys long = refl
zip2-twice (x ∷ xs) [] long = absurd (omega arith)
zip2-twice (x ∷ xs) (y ∷ ys) long = rw (xor-twice x y) (ap (λ zs. x ∷ zs) (zip2-twice xs ys (omega arith)))

length-key : (key : List ℕ) (i : ℕ) → length (keystream_part key i 509) ≡ 509
length-key key i = length-map-range_with_len (λ k. keystream key k) i 509

length-layered : (key : List ℕ) (i : ℕ) (body : List ℕ) → length body ≡ 509 → length (layered key i body) ≡ 509
unfolding layered
length-layered key i body long = length-zip2 bit_xor body (keystream_part key i 509) (long ∙ sym (length-key key i)) ∙ long

layered-twice : (key : List ℕ) (i : ℕ) (body : List ℕ) → length body ≡ 509 → layered key i (layered key i body) ≡ body
unfolding layered
layered-twice key i body long = zip2-twice body (keystream_part key i 509) (long ∙ sym (length-key key i))

length-layered_for : (hops : List PathHop) (body : List ℕ) → length body ≡ 509 → length (layered_for hops body) ≡ 509
length-layered_for [] body long = long
length-layered_for (hop ∷ hops) body long =
    length-layered hop.keys.kf (509 * hop.sent_count) (layered_for hops body) (length-layered_for hops body long)

pub a_hop_takes_its_layer_off : (log : Log) (hop : PathHop) (hops : List PathHop) (body : List ℕ) → length body ≡ 509 →
    (born_keys log).kf ≡ hop.keys.kf → forward_count log ≡ hop.sent_count →
    plain_body log (layered_for (hop ∷ hops) body) ≡ layered_for hops body
a_hop_takes_its_layer_off log hop hops body long key count =
    rw (key, count) (layered-twice hop.keys.kf (509 * hop.sent_count) (layered_for hops body) (length-layered_for hops body long))

-- The Digest of what the client means for a hop.

same-by : (xs : List ℕ) (b : Bool) → Decides b (xs ≡ xs) → b ≡ true
same-by xs true tells = refl
same-by xs false tells = tells.1 refl

same-bytes : (xs : List ℕ) → bytes_eq xs xs ≡ true
same-bytes xs = same-by xs (bytes_eq xs xs) (bytes_eq-Decides xs xs)

length-four : (m : List ℕ) → length (take 4 (sha1 m)) ≡ 4
unfolding sha1 digest_bytes
length-four m = refl

length-first : (seed : List ℕ) (bodies : List (List ℕ)) → length (take 4 (running_digest seed bodies)) ≡ 4
unfolding running_digest
length-first seed bodies = length-four (digest_message seed bodies)

zeroed-digest : (command stream : ℕ) (payload first : List ℕ) → length first ≡ 4 →
    zeroed (with_digest (relay_body command stream payload) first) ≡ zeroed (relay_body command stream payload)
unfolding with_digest relay_body relay_head_bytes
zeroed-digest command stream payload (p ∷ q ∷ r ∷ s ∷ []) four = refl
zeroed-digest command stream payload _ four = absurd (omega arith)

digest-zero : (command stream : ℕ) (payload first : List ℕ) → length first ≡ 4 →
    take 2 (drop 1 (with_digest (relay_body command stream payload) first)) ≡ 0 ∷ 0 ∷ []
unfolding with_digest relay_body relay_head_bytes
digest-zero command stream payload (p ∷ q ∷ r ∷ s ∷ []) four = refl
digest-zero command stream payload _ four = absurd (omega arith)

digest-field : (command stream : ℕ) (payload first : List ℕ) → length first ≡ 4 →
    take 4 (drop 5 (with_digest (relay_body command stream payload) first)) ≡ first
unfolding with_digest relay_body relay_head_bytes
digest-field command stream payload (p ∷ q ∷ r ∷ s ∷ []) four = refl
digest-field command stream payload _ four = absurd (omega arith)

-- The running digest takes the Digest field as zero.
digest-same : (seed : List ℕ) (before : List (List ℕ)) (x y : List ℕ) → zeroed x ≡ zeroed y →
    running_digest seed (before ++ x ∷ []) ≡ running_digest seed (before ++ y ∷ [])
unfolding running_digest digest_message
digest-same seed before x y same =
    let last : flat_map zeroed (x ∷ []) ≡ flat_map zeroed (y ∷ []) = ap (λ z. z ++ []) same in
    ap (λ z. sha1 (seed ++ z))
    (flat_map-append zeroed before (x ∷ []) ∙ ap (λ z. flat_map zeroed before ++ z) last
    ∙ sym (flat_map-append zeroed before (y ∷ [])))

recognised-with : (seed : List ℕ) (before : List (List ℕ)) (body first : List ℕ) →
    take 2 (drop 1 body) ≡ 0 ∷ 0 ∷ [] → take 4 (drop 5 body) ≡ first →
    take 4 (running_digest seed (before ++ body ∷ [])) ≡ first → is_recognised seed before body ≡ true
unfolding is_recognised
recognised-with seed before body first zero field digest = rw (zero, field, digest, same-bytes first) refl

meant-here : (seed : List ℕ) (before : List (List ℕ)) (command stream : ℕ) (payload : List ℕ) →
    is_recognised seed before
    (with_digest (relay_body command stream payload)
    (take 4 (running_digest seed (before ++ relay_body command stream payload ∷ [])))) ≡ true
meant-here seed before command stream payload =
    let body : List ℕ = relay_body command stream payload in
    let first : List ℕ = take 4 (running_digest seed (before ++ body ∷ [])) in
    let four : length first ≡ 4 = length-first seed (before ++ body ∷ []) in
    recognised-with seed before (with_digest body first) first
    (digest-zero command stream payload first four)
    (digest-field command stream payload first four)
    (ap (take 4) (digest-same seed before (with_digest body first) body (zeroed-digest command stream payload first four)))

pub meant_is_recognised : (log : Log) (hop : PathHop) (command stream : ℕ) (payload : List ℕ) →
    (born_keys log).df ≡ hop.keys.df → recognised_bodies log ≡ hop.meant_bodies →
    recognises log (digested_for hop (relay_body command stream payload)) ≡ true
meant_is_recognised log hop command stream payload key seen =
    rw (key, seen) (meant-here hop.keys.df hop.meant_bodies command stream payload)
