-- What a body that was written holds when it is read.
use Rattle.std.proofs.Common.{◌≡◌, ℕ, ◌+◌, ◌-◌, ◌^◌, ◌<◌, ◌≤◌, List, [], ◌∷◌, ◌++◌, true, leb, suc, length, take, drop, replicate, refl, ap, ◌∙◌, arith, length-append}
use Rattle.std.proofs.lemmas.List.{take_at}
use Rattle.std.proofs.lemmas.Nat.{from_be_bytes-to_be_bytes_2}
use Rattle.std.proofs.Math.ListN.{length-replicate}
use Rattle.std.proofs.lemmas.Bool.{le-leb}
use Rattle.std.specs.Int.{w16, to_be_bytes, from_be_bytes}
use Rattle.tor_spec.specs.RelayCell.{unsealed_head, relay_head, fits_length, payload_of, relay_head_bytes, relay_body, with_digest}

heads : (command a b m n : ℕ) → a ≡ m → b ≡ n → unsealed_head command a b ≡ unsealed_head command m n
heads command a b m n e f = ap (λ s. unsealed_head command s b) e ∙ ap (λ l. unsealed_head command m l) f

pub relay_body_head : (command stream : ℕ) (payload : List ℕ) → stream < 2 ^ 16 → length payload < 2 ^ 16
    → relay_head (relay_body command stream payload) ≡ unsealed_head command stream (length payload)
unfolding relay_head relay_body relay_head_bytes
relay_body_head command stream payload s_small p_small =
    heads command (from_be_bytes w16 (to_be_bytes w16 stream)) (from_be_bytes w16 (to_be_bytes w16 (length payload))) stream
    (length payload)
    (from_be_bytes-to_be_bytes_2 stream s_small) (from_be_bytes-to_be_bytes_2 (length payload) p_small)

relay_body_data : (command stream : ℕ) (payload : List ℕ)
    → drop 11 (relay_body command stream payload) ≡ payload ++ replicate (498 - length payload) 0
unfolding relay_body relay_head_bytes
relay_body_data command stream payload = refl

pub relay_body_payload : (command stream : ℕ) (payload : List ℕ) → stream < 2 ^ 16 → length payload ≤ 498
    → payload_of (relay_body command stream payload) ≡ payload
unfolding payload_of
relay_body_payload command stream payload s_small short =
    ap (λ h. take h.length (drop 11 (relay_body command stream payload)))
    (relay_body_head command stream payload s_small (omega arith))
    ∙ ap (take (length payload)) (relay_body_data command stream payload)
    ∙ take_at payload (replicate (498 - length payload) 0) (length payload) refl

pub relay_body_fits : (command stream : ℕ) (payload : List ℕ) → stream < 2 ^ 16 → length payload ≤ 498
    → fits_length (relay_body command stream payload) ≡ true
unfolding fits_length
relay_body_fits command stream payload s_small short =
    ap (λ h. leb h.length 498) (relay_body_head command stream payload s_small (omega arith))
    ∙ le-leb (length payload) 498 short

pub relay_body_length : (command stream : ℕ) (payload : List ℕ) → length payload ≤ 498
    → length (relay_body command stream payload) ≡ 509
unfolding relay_body relay_head_bytes
relay_body_length command stream payload short =
    let data_long : length (payload ++ replicate (498 - length payload) 0) ≡ 498 =
    length-append payload (replicate (498 - length payload) 0)
    ∙ ap (λ n. length payload + n) (length-replicate (498 - length payload) 0) ∙ omega arith in
    ap (λ n. suc (suc (suc (suc (suc (suc (suc (suc (suc (suc (suc n))))))))))) data_long

pub with_digest_length : (body first : List ℕ) → 9 ≤ length body → length first ≡ 4
    → length (with_digest body first) ≡ length body
unfolding with_digest
with_digest_length (a ∷ b ∷ c ∷ d ∷ e ∷ f ∷ g ∷ h ∷ i ∷ rest) (p ∷ q ∷ r ∷ s ∷ []) within four = refl
with_digest_length _ _ within four = absurd (omega arith)

pub with_digest_head : (body first : List ℕ) → 11 ≤ length body → length first ≡ 4
    → relay_head (with_digest body first) ≡ record (relay_head body) { digest = first }
unfolding relay_head with_digest
with_digest_head (a ∷ b ∷ c ∷ d ∷ e ∷ f ∷ g ∷ h ∷ i ∷ j ∷ k ∷ rest) (p ∷ q ∷ r ∷ s ∷ []) within four = refl
with_digest_head _ _ within four = absurd (omega arith)

pub with_digest_payload : (body first : List ℕ) → 11 ≤ length body → length first ≡ 4
    → payload_of (with_digest body first) ≡ payload_of body
unfolding payload_of relay_head with_digest
with_digest_payload (a ∷ b ∷ c ∷ d ∷ e ∷ f ∷ g ∷ h ∷ i ∷ j ∷ k ∷ rest) (p ∷ q ∷ r ∷ s ∷ []) within four = refl
with_digest_payload _ _ within four = absurd (omega arith)

pub with_digest_fits : (body first : List ℕ) → 11 ≤ length body → length first ≡ 4
    → fits_length (with_digest body first) ≡ fits_length body
unfolding fits_length relay_head with_digest
with_digest_fits (a ∷ b ∷ c ∷ d ∷ e ∷ f ∷ g ∷ h ∷ i ∷ j ∷ k ∷ rest) (p ∷ q ∷ r ∷ s ∷ []) within four = refl
with_digest_fits _ _ within four = absurd (omega arith)
