-- The payloads that are written are read back.
use Rattle.std.proofs.Common.{◌≡◌, ℕ, ◌+◌, ◌/◌, ◌%◌, ◌^◌, ◌<◌, cond, ◌&&◌, leb, Option, Some, None, List, [], ◌∷◌, ◌++◌, suc, length, take, ap, ◌∙◌, arith}
use Rattle.std.specs.Prelude.{option_map, option_and_then}
use Rattle.std.specs.Int.{w16, to_be_bytes, from_be_bytes}
use Rattle.std.proofs.lemmas.Nat.{from_be_bytes-to_be_bytes_2, from_be_bytes-to_be_bytes_4}
use Rattle.std.proofs.lemmas.Bool.{le-leb}
use Rattle.std.proofs.Math.Seq.{take_all}
use Rattle.tor_spec.specs.Connected.{connected_address, connected_payload}
use Rattle.tor_spec.specs.Extend.{Address, is_specifier_length, specifier, specifiers, put_before, specified_address, first_address, destination, handshake_reply, handshake_reply_payload, handshake_request, make_extend, request_behind, extend_request, extend_payload}
use Rattle.tor_spec.specs.Sendme.{sendme_proof, sendme_payload}

pub connected_payload_is_read : (ip : List ℕ) (ttl : ℕ) → length ip ≡ 4 → ttl < 2 ^ 32
    → connected_address (connected_payload ip ttl) ≡ Some (record { ip = ip; ttl = ttl })
unfolding connected_address connected_payload
connected_payload_is_read (a ∷ b ∷ c ∷ d ∷ []) ttl four small =
    ap (λ (t : ℕ). Some (record { ip = a ∷ b ∷ c ∷ d ∷ []; ttl = t })) (from_be_bytes-to_be_bytes_4 ttl small)
connected_payload_is_read _ ttl four small = absurd (omega arith)

pub sendme_payload_is_read : (proof : List ℕ) → length proof ≡ 20 → sendme_proof (sendme_payload proof) ≡ Some proof
unfolding sendme_proof sendme_payload
sendme_payload_is_read proof twenty =
    ap (λ b. cond b (Some (take 20 proof)) None) (le-leb 23 (suc (suc (suc (length proof)))) (omega arith))
    ∙ ap Some (take_all 20 proof (omega arith))

pub handshake_reply_is_read : (handshake : List ℕ) → length handshake < 2 ^ 16
    → handshake_reply (handshake_reply_payload handshake) ≡ Some handshake
unfolding handshake_reply handshake_reply_payload
handshake_reply_is_read h small =
    let n = length h in
    ap (λ k. cond (leb 2 (suc (suc n)) && leb (2 + k) (suc (suc n))) (Some (take k h)) None) (from_be_bytes-to_be_bytes_2 n small)
    ∙ ap (λ b. cond (b && leb (2 + n) (suc (suc n))) (Some (take n h)) None) (le-leb 2 (suc (suc n)) (omega arith))
    ∙ ap (λ b. cond b (Some (take n h)) None) (le-leb (2 + n) (suc (suc n)) (omega arith))
    ∙ ap Some (take_all n h (omega arith))

handshake_request_is_read : (handshake_type : ℕ) (handshake : List ℕ) → handshake_type < 2 ^ 16 → length handshake < 2 ^ 16
    → handshake_request (to_be_bytes w16 handshake_type ++ handshake_reply_payload handshake) ≡ Some (handshake_type, handshake)
unfolding handshake_request
handshake_request_is_read t h t_small h_small =
    let read = from_be_bytes w16 (to_be_bytes w16 t) in
    let reply = handshake_reply_payload h in
    ap (λ b. cond b (option_map (λ (x : List ℕ). (read, x)) (handshake_reply reply)) None)
    (le-leb 2 (suc (suc (length reply))) (omega arith))
    ∙ ap (option_map (λ (x : List ℕ). (read, x))) (handshake_reply_is_read h h_small)
    ∙ ap (λ (n : ℕ). Some (n, h)) (from_be_bytes-to_be_bytes_2 t t_small)

address_specifier : (a b c d p q : ℕ) (rest : List ℕ)
    → specifier (0 ∷ 6 ∷ a ∷ b ∷ c ∷ d ∷ p ∷ q ∷ rest) ≡ Some (record { kind = 0; value = a ∷ b ∷ c ∷ d ∷ p ∷ q ∷ [] }, rest)
unfolding specifier is_specifier_length
address_specifier a b c d p q rest =
    ap (λ t. cond t (Some (record { kind = 0; value = a ∷ b ∷ c ∷ d ∷ p ∷ q ∷ [] }, rest)) None)
    (le-leb 6 (suc (suc (suc (suc (suc (suc (length rest))))))) (omega arith))

address_destination : (a b c d p q : ℕ) (rest : List ℕ)
    → destination 1 (0 ∷ 6 ∷ a ∷ b ∷ c ∷ d ∷ p ∷ q ∷ rest)
    ≡ Some (Some (record { ip = a ∷ b ∷ c ∷ d ∷ []; port = from_be_bytes w16 (p ∷ q ∷ []) }), rest)
unfolding destination specifiers first_address specified_address
address_destination a b c d p q rest =
    ap (λ s. option_map (λ read. (first_address read.0, read.1))
    (option_and_then (λ read. option_map (put_before read.0) (specifiers 0 read.1)) s))
    (address_specifier a b c d p q rest)

one_address : (ip : List ℕ) (port handshake_type : ℕ) (handshake : List ℕ)
    → length ip ≡ 4 → port < 2 ^ 16 → handshake_type < 2 ^ 16 → length handshake < 2 ^ 16
    → extend_request (extend_payload (record { ip = ip; port = port }) handshake_type handshake)
    ≡ Some (record { to = Some (record { ip = ip; port = port }); handshake_type = handshake_type; handshake = handshake })
unfolding extend_request extend_payload request_behind
one_address (a ∷ b ∷ c ∷ d ∷ []) port t h four port_small t_small h_small =
    let read = from_be_bytes w16 (to_be_bytes w16 port) in
    let to : ℕ → Option Address = λ n. Some (record { ip = a ∷ b ∷ c ∷ d ∷ []; port = n }) in
    ap (option_and_then request_behind)
    (address_destination a b c d (port / 256 % 256) (port % 256) (to_be_bytes w16 t ++ handshake_reply_payload h))
    ∙ ap (option_map (make_extend (to read))) (handshake_request_is_read t h t_small h_small)
    ∙ ap (λ n. Some (make_extend (to n) (t, h))) (from_be_bytes-to_be_bytes_2 port port_small)
one_address _ port t h four port_small t_small h_small = absurd (omega arith)

pub extend_payload_is_read : (to : Address) (handshake_type : ℕ) (handshake : List ℕ)
    → length to.ip ≡ 4 → to.port < 2 ^ 16 → handshake_type < 2 ^ 16 → length handshake < 2 ^ 16
    → extend_request (extend_payload to handshake_type handshake)
    ≡ Some (record { to = Some to; handshake_type = handshake_type; handshake = handshake })
extend_payload_is_read to t h four port_small t_small h_small =
    one_address to.ip to.port t h four port_small t_small h_small
