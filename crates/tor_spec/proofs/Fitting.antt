-- Bodies that are packaged have a Length that fits.
use Rattle.std.proofs.Common.{◌≡◌, ℕ, ◌^◌, ◌<◌, ◌≤◌, List, length, true, refl, ap, ◌∙◌, arith, length-append}
use Rattle.std.specs.Int.{w16, w32, to_be_bytes}
use Rattle.tor_spec.specs.Connected.{connected_payload}
use Rattle.tor_spec.specs.Extend.{handshake_reply_payload}
use Rattle.tor_spec.specs.RelayCell.{fits_length, relay_body}
use Rattle.tor_spec.specs.Resolve.{resolved_payload}
use Rattle.tor_spec.specs.Sendme.{sendme_payload}
use Rattle.tor_spec.proofs.Bodies.{relay_body_fits}

pub body_fits : (body : List ℕ) (command stream : ℕ) (payload : List ℕ) → body ≡ relay_body command stream payload
    → stream < 2 ^ 16 → length payload ≤ 498 → fits_length body ≡ true
body_fits body command stream payload is within short = ap fits_length is ∙ relay_body_fits command stream payload within short

pub reply_fits : (handshake : List ℕ) → length handshake ≤ 496 → length (handshake_reply_payload handshake) ≤ 498
unfolding handshake_reply_payload
reply_fits handshake short =
    let size : length (to_be_bytes w16 (length handshake)) ≡ 2 = refl in
    omega (arith, length-append (to_be_bytes w16 (length handshake)) handshake)

pub proof_fits : (digest : List ℕ) → length digest ≡ 20 → length (sendme_payload digest) ≤ 498
unfolding sendme_payload
proof_fits digest long = omega arith

pub address_fits : (ip : List ℕ) (ttl : ℕ) → length ip ≡ 4 → length (connected_payload ip ttl) ≤ 498
unfolding connected_payload
address_fits ip ttl long =
    let size : length (to_be_bytes w32 ttl) ≡ 4 = refl in
    omega (arith, length-append ip (to_be_bytes w32 ttl))

pub answer_fits : (kind : ℕ) (value : List ℕ) (ttl : ℕ) → length value ≤ 255 → length (resolved_payload kind value ttl) ≤ 498
unfolding resolved_payload
answer_fits kind value ttl short =
    let size : length (to_be_bytes w32 ttl) ≡ 4 = refl in
    omega (arith, length-append value (to_be_bytes w32 ttl))
