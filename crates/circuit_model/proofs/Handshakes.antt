-- The handshake in an EXTEND2 is no longer than its payload.
use Rattle.std.proofs.Common.{◌≡◌, ℕ, ◌+◌, ◌≤◌, ◌&&◌, zero, suc, List, [], ◌∷◌, length, take, drop, Bool, true, false, if◌then◌else◌, nat_le, Option, Some, None, option_map, option_and_then, refl, ap, arith, length-drop, length-take}
use Rattle.std.specs.Int.{w16, from_be_bytes}
use Rattle.tor_spec.specs.Extend.{Address, Extend, Specifier, is_specifier_length, specifier, put_before, specifiers, first_address, destination, handshake_reply, handshake_request, make_extend, request_behind, extend_request}

-- What a result that is there came from.

if-some : {A : Type 0} (b : Bool) (x y : A) → (if b then Some x else None) ≡ Some y → x ≡ y
if-some true x y found = cc
if-some false x y found = cc

map-some : {A B : Type 0} (f : A → B) (o : Option A) (y : B) → option_map f o ≡ Some y → (x : A) × (o ≡ Some x) × (f x ≡ y)
map-some f (Some x) y found = (x, refl, cc)
map-some f None y found = cc

then-some : {A B : Type 0} (f : A → Option B) (o : Option A) (y : B) → option_and_then f o ≡ Some y
    → (x : A) × (o ≡ Some x) × (f x ≡ Some y)
then-some f (Some x) y found = (x, refl, found)
then-some f None y found = cc

-- Each reader leaves at most what it was given.

specifier-shrinks : (bytes : List ℕ) (read : Specifier × List ℕ) → specifier bytes ≡ Some read → length read.1 ≤ length bytes
unfolding specifier
specifier-shrinks (kind ∷ size ∷ rest) read found =
    let is =
    if-some (is_specifier_length kind size && nat_le size (length rest))
    (record { kind = kind; value = take size rest }, drop size rest) read found in
    let behind : length (drop size rest) ≡ length read.1 = ap (λ (r : Specifier × List ℕ). length r.1) is in
    omega (arith, length-drop size rest)
specifier-shrinks (kind ∷ []) read found = cc
specifier-shrinks [] read found = cc

specifiers-shrink : (n : ℕ) (bytes : List ℕ) (read : List Specifier × List ℕ) → specifiers n bytes ≡ Some read
    → length read.1 ≤ length bytes
unfolding specifiers
specifiers-shrink zero bytes read found =
    let none : List Specifier = [] in
    let same : length bytes ≡ length read.1 =
    ap (λ (r : List Specifier × List ℕ). length r.1) (if-some true (none, bytes) read found) in
    omega arith
specifiers-shrink (suc n) bytes read found =
    let first = then-some (λ r. option_map (put_before r.0) (specifiers n r.1)) (specifier bytes) read found in
    let more = map-some (put_before first.0.0) (specifiers n first.0.1) read first.2 in
    let one : length first.0.1 ≤ length bytes = specifier-shrinks bytes first.0 first.1 in
    let others : length more.0.1 ≤ length first.0.1 = specifiers-shrink n first.0.1 more.0 more.1 in
    let same : length more.0.1 ≡ length read.1 = ap (λ (r : List Specifier × List ℕ). length r.1) more.2 in
    omega arith

destination-shrinks : (n : ℕ) (bytes : List ℕ) (read : Option Address × List ℕ) → destination n bytes ≡ Some read
    → length read.1 ≤ length bytes
unfolding destination
destination-shrinks n bytes read found =
    let all = map-some (λ (r : List Specifier × List ℕ). (first_address r.0, r.1)) (specifiers n bytes) read found in
    let kept : length all.0.1 ≤ length bytes = specifiers-shrink n bytes all.0 all.1 in
    let same : length all.0.1 ≡ length read.1 = ap (λ (r : Option Address × List ℕ). length r.1) all.2 in
    omega arith

pub reply-shrinks : (bytes reply : List ℕ) → handshake_reply bytes ≡ Some reply → length reply ≤ length bytes
unfolding handshake_reply
reply-shrinks bytes reply found =
    let is =
    if-some (nat_le 2 (length bytes) && nat_le (2 + from_be_bytes w16 (take 2 bytes)) (length bytes))
    (take (from_be_bytes w16 (take 2 bytes)) (drop 2 bytes)) reply found in
    let same : length (take (from_be_bytes w16 (take 2 bytes)) (drop 2 bytes)) ≡ length reply = ap length is in
    omega (arith, length-take (from_be_bytes w16 (take 2 bytes)) (drop 2 bytes), length-drop 2 bytes)

request-shrinks_by : (b : Bool) (bytes : List ℕ) (request : ℕ × List ℕ) →
    (if b then option_map (λ handshake. (from_be_bytes w16 (take 2 bytes), handshake)) (handshake_reply (drop 2 bytes)) else None)
    ≡ Some request
    → length request.1 ≤ length bytes
request-shrinks_by true bytes request found =
    let reply =
    map-some (λ (handshake : List ℕ). (from_be_bytes w16 (take 2 bytes), handshake)) (handshake_reply (drop 2 bytes)) request
    found in
    let short : length reply.0 ≤ length (drop 2 bytes) = reply-shrinks (drop 2 bytes) reply.0 reply.1 in
    let same : length reply.0 ≡ length request.1 = ap (λ (r : ℕ × List ℕ). length r.1) reply.2 in
    omega (arith, length-drop 2 bytes)
request-shrinks_by false bytes request found = cc

request-shrinks : (bytes : List ℕ) (request : ℕ × List ℕ) → handshake_request bytes ≡ Some request
    → length request.1 ≤ length bytes
unfolding handshake_request
request-shrinks bytes request found = request-shrinks_by (nat_le 2 (length bytes)) bytes request found

behind-shrinks : (read : Option Address × List ℕ) (x : Extend) → request_behind read ≡ Some x → length x.handshake ≤ length read.1
unfolding request_behind
behind-shrinks read x found =
    let request = map-some (make_extend read.0) (handshake_request read.1) x found in
    let short : length request.0.1 ≤ length read.1 = request-shrinks read.1 request.0 request.1 in
    let same : length request.0.1 ≡ length x.handshake = ap (λ (y : Extend). length y.handshake) request.2 in
    omega arith

pub extend_handshake_short : (payload : List ℕ) (x : Extend) → extend_request payload ≡ Some x
    → length x.handshake ≤ length payload
unfolding extend_request
extend_handshake_short [] x found = cc
extend_handshake_short (count ∷ rest) x found =
    let read = then-some request_behind (destination count rest) x found in
    let kept : length read.0.1 ≤ length rest = destination-shrinks count rest read.0 read.1 in
    let short : length x.handshake ≤ length read.0.1 = behind-shrinks read.0 x read.2 in
    omega arith
