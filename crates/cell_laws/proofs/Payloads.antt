-- The short payloads are read as they are spelled.
use Rattle.std.proofs.Common.{◌≡◌, ◌↔◌, ℕ, ◌+◌, ◌^◌, ◌<◌, ◌≤◌, true, cond, ◌&&◌, leb, Some, None, List, [], ◌∷◌, ◌++◌, suc, length, take, drop, ap, sym, refl, subst, ◌∙◌, arith, length-append, inl, inr}
use Rattle.std.specs.Prelude.{option_map, slice_range, nat_eq}
use Rattle.std.specs.List.{starts_with}
use Rattle.std.specs.Int.{w16, w32, to_be_bytes, from_be_bytes}
use Rattle.std.proofs.lemmas.Bool.{le-leb, leb-true, eqb-true, and_parts}
use Rattle.std.proofs.lemmas.List.{take_at, take-append-drop, length-take-le}
use Rattle.std.proofs.lemmas.Nat.{from_be_bytes-to_be_bytes_2, from_be_bytes-to_be_bytes_4}
use Rattle.std.proofs.lemmas.Option.{none-some, cond_some}
use Rattle.tor_spec.specs.CellStream.{IsBytes}
use Rattle.tor_spec.specs.Connected.{ConnectedTo, connected_address}
use Rattle.tor_spec.specs.Ends.{end_reason, truncated_reason}
use Rattle.tor_spec.specs.Extend.{handshake_reply, handshake_request}
use Rattle.tor_spec.specs.Sendme.{sendme_prefix, sendme_proof}
use Rattle.cell_laws.specs.Payloads.{SpellsConnected, SpellsProof, SpellsEnd, SpellsTruncated, SpellsReply, SpellsRequest}
use Rattle.cell_laws.proofs.Bytes.{IsBytes-drop, two_bytes, two_fit, four_bytes, four_fit}
use Rattle.cell_laws.proofs.Options.{map_some}

-- CONNECTED

connected_read-at : (ip : List ℕ) (ttl : ℕ) (more : List ℕ) → length ip ≡ 4 → ttl < 2 ^ 32
    → connected_address (ip ++ to_be_bytes w32 ttl ++ more) ≡ Some (record { ip = ip; ttl = ttl })
unfolding connected_address
connected_read-at (a ∷ b ∷ c ∷ d ∷ []) ttl more four fits =
    let made : ℕ → ConnectedTo = λ n. record { ip = a ∷ b ∷ c ∷ d ∷ []; ttl = n } in
    ap (λ t. cond t (Some (made (from_be_bytes w32 (to_be_bytes w32 ttl)))) None)
    (le-leb 8 (suc (suc (suc (suc (suc (suc (suc (suc (length more))))))))) (omega arith))
    ∙ ap (λ n. Some (made n)) (from_be_bytes-to_be_bytes_4 ttl fits)
connected_read-at _ ttl more four fits = absurd (omega arith)

connected_at : (payload : List ℕ) → IsBytes payload → 8 ≤ length payload
    → SpellsConnected payload (record { ip = slice_range payload 0 4; ttl = from_be_bytes w32 (slice_range payload 4 8) })
connected_at (a ∷ b ∷ c ∷ d ∷ p ∷ q ∷ r ∷ s ∷ more) fits long =
    let later = IsBytes-drop 4 (a ∷ b ∷ c ∷ d ∷ p ∷ q ∷ r ∷ s ∷ more) fits in
    record {
      more = more;
      spelling = ap (λ t. a ∷ b ∷ c ∷ d ∷ (t ++ more)) (sym (four_bytes p q r s more later));
      four = refl;
      ttl_fits = four_fit p q r s more later;
    }
connected_at _ fits long = absurd (omega arith)

connected_spelled : (payload : List ℕ) (to : ConnectedTo) → IsBytes payload → connected_address payload ≡ Some to
    → SpellsConnected payload to
unfolding connected_address
connected_spelled payload to fits e =
    let parts = cond_some _ _ _ e in
    subst (SpellsConnected payload) parts.1 (connected_at payload fits (leb-true _ _ parts.0))

pub connected_law : (payload : List ℕ) (to : ConnectedTo) → IsBytes payload
    → SpellsConnected payload to ↔ (connected_address payload ≡ Some to)
connected_law payload to fits = (
  λ spells. ap connected_address spells.spelling ∙ connected_read-at to.ip to.ttl spells.more spells.four spells.ttl_fits,
  connected_spelled payload to fits,
)

-- SENDME

proof_read-at : (proof more : List ℕ) → length proof ≡ 20 → sendme_proof (1 ∷ 0 ∷ 20 ∷ proof ++ more) ≡ Some proof
unfolding sendme_proof
proof_read-at proof more twenty =
    let long : length (proof ++ more) ≡ length proof + length more = length-append proof more in
    ap (λ b. cond b (Some (take 20 (proof ++ more))) None) (le-leb 23 (suc (suc (suc (length (proof ++ more))))) (omega arith))
    ∙ ap Some (take_at proof more 20 twenty)

proof_at : (payload : List ℕ) → 23 ≤ length payload → starts_with nat_eq payload sendme_prefix ≡ true
    → SpellsProof payload (slice_range payload 3 23)
proof_at (a ∷ b ∷ c ∷ rest) long start =
    let one = and_parts (nat_eq 1 a) _ start in
    let two = and_parts (nat_eq 0 b) _ one.1 in
    let three = and_parts (nat_eq 20 c) _ two.1 in
    let first : 1 ≡ a = eqb-true _ _ one.0 in
    let second : 0 ≡ b = eqb-true _ _ two.0 in
    let third : 20 ≡ c = eqb-true _ _ three.0 in
    record {
      more = drop 20 rest;
      spelling = cc (take-append-drop 20 rest);
      twenty = length-take-le 20 rest (omega arith);
    }
proof_at _ long start = absurd (omega arith)

proof_spelled : (payload proof : List ℕ) → sendme_proof payload ≡ Some proof → SpellsProof payload proof
unfolding sendme_proof
proof_spelled payload proof e =
    let parts = cond_some _ _ _ e in
    let tests = and_parts _ _ parts.0 in
    subst (SpellsProof payload) parts.1 (proof_at payload (leb-true _ _ tests.1) tests.0)

pub proof_law : (payload proof : List ℕ) → SpellsProof payload proof ↔ (sendme_proof payload ≡ Some proof)
proof_law payload proof = (
  λ spells. ap sendme_proof spells.spelling ∙ proof_read-at proof spells.more spells.twenty,
  proof_spelled payload proof,
)

-- END and TRUNCATED

end_read : (payload : List ℕ) (reason : ℕ) → SpellsEnd payload reason → end_reason payload ≡ reason
unfolding end_reason
end_read payload reason (inl empty) = ap end_reason empty.0 ∙ sym empty.1
end_read payload reason (inr first) = ap end_reason first.1

end_spelled : (payload : List ℕ) (reason : ℕ) → end_reason payload ≡ reason → SpellsEnd payload reason
unfolding end_reason
end_spelled [] reason e = inl (refl, sym e)
end_spelled (r ∷ more) reason e = inr (more, ap (λ b. b ∷ more) e)

pub end_law : (payload : List ℕ) (reason : ℕ) → SpellsEnd payload reason ↔ (end_reason payload ≡ reason)
end_law payload reason = (end_read payload reason, end_spelled payload reason)

truncated_read : (payload : List ℕ) (reason : ℕ) → SpellsTruncated payload reason → truncated_reason payload ≡ reason
unfolding truncated_reason
truncated_read payload reason (inl empty) = ap truncated_reason empty.0 ∙ sym empty.1
truncated_read payload reason (inr first) = ap truncated_reason first.1

truncated_spelled : (payload : List ℕ) (reason : ℕ) → truncated_reason payload ≡ reason → SpellsTruncated payload reason
unfolding truncated_reason
truncated_spelled [] reason e = inl (refl, sym e)
truncated_spelled (r ∷ more) reason e = inr (more, ap (λ b. b ∷ more) e)

pub truncated_law : (payload : List ℕ) (reason : ℕ) → SpellsTruncated payload reason ↔ (truncated_reason payload ≡ reason)
truncated_law payload reason = (truncated_read payload reason, truncated_spelled payload reason)

-- EXTENDED2 and CREATED2

reply_read-at : (handshake more : List ℕ) → length handshake < 2 ^ 16
    → handshake_reply (to_be_bytes w16 (length handshake) ++ handshake ++ more) ≡ Some handshake
unfolding handshake_reply
reply_read-at h more small =
    let n = length h in
    let all = suc (suc (length (h ++ more))) in
    let long : length (h ++ more) ≡ n + length more = length-append h more in
    ap (λ k. cond (leb 2 all && leb (2 + k) all) (Some (take k (h ++ more))) None) (from_be_bytes-to_be_bytes_2 n small)
    ∙ ap (λ b. cond (b && leb (2 + n) all) (Some (take n (h ++ more))) None) (le-leb 2 all (omega arith))
    ∙ ap (λ b. cond b (Some (take n (h ++ more))) None) (le-leb (2 + n) all (omega arith))
    ∙ ap Some (take_at h more n refl)

reply_at : (h l : ℕ) (rest : List ℕ) → IsBytes (h ∷ l ∷ rest) → from_be_bytes w16 (h ∷ l ∷ []) ≤ length rest
    → SpellsReply (h ∷ l ∷ rest) (take (from_be_bytes w16 (h ∷ l ∷ [])) rest)
reply_at h l rest fits within =
    let n = from_be_bytes w16 (h ∷ l ∷ []) in
    let long : length (take n rest) ≡ n = length-take-le n rest within in
    let size : to_be_bytes w16 (length (take n rest)) ≡ h ∷ l ∷ [] = ap (to_be_bytes w16) long ∙ two_bytes h l rest fits in
    record {
      more = drop n rest;
      spelling = ap (λ t. h ∷ l ∷ t) (sym (take-append-drop n rest)) ∙ ap (λ p. p ++ (take n rest ++ drop n rest)) (sym size);
      handshake_fits = subst (λ k. k < 2 ^ 16) (sym long) (two_fit h l rest fits);
    }

reply_spelled : (payload handshake : List ℕ) → IsBytes payload → handshake_reply payload ≡ Some handshake
    → SpellsReply payload handshake
unfolding handshake_reply
reply_spelled [] handshake fits e = absurd (none-some handshake e)
reply_spelled (h ∷ []) handshake fits e = absurd (none-some handshake e)
reply_spelled (h ∷ l ∷ rest) handshake fits e =
    let parts = cond_some _ _ _ e in
    let tests = and_parts _ _ parts.0 in
    let within : 2 + from_be_bytes w16 (h ∷ l ∷ []) ≤ suc (suc (length rest)) = leb-true _ _ tests.1 in
    subst (SpellsReply (h ∷ l ∷ rest)) parts.1 (reply_at h l rest fits (omega arith))

pub reply_law : (payload handshake : List ℕ) → IsBytes payload
    → SpellsReply payload handshake ↔ (handshake_reply payload ≡ Some handshake)
reply_law payload handshake fits = (
  λ spells. ap handshake_reply spells.spelling ∙ reply_read-at handshake spells.more spells.handshake_fits,
  reply_spelled payload handshake fits,
)

-- CREATE2

request_read-at : (t : ℕ) (h more : List ℕ) → t < 2 ^ 16 → length h < 2 ^ 16
    → handshake_request (to_be_bytes w16 t ++ to_be_bytes w16 (length h) ++ h ++ more) ≡ Some (t, h)
unfolding handshake_request
request_read-at t h more t_small h_small =
    let read = from_be_bytes w16 (to_be_bytes w16 t) in
    let reply = to_be_bytes w16 (length h) ++ h ++ more in
    ap (λ b. cond b (option_map (λ (x : List ℕ). (read, x)) (handshake_reply reply)) None)
    (le-leb 2 (suc (suc (length reply))) (omega arith))
    ∙ ap (option_map (λ (x : List ℕ). (read, x))) (reply_read-at h more h_small)
    ∙ ap (λ (n : ℕ). Some (n, h)) (from_be_bytes-to_be_bytes_2 t t_small)

pub request_read : (payload : List ℕ) (t : ℕ) (h : List ℕ) → SpellsRequest payload t h → handshake_request payload ≡ Some (t, h)
request_read payload t h spells =
    ap handshake_request spells.spelling ∙ request_read-at t h spells.more spells.type_fits spells.handshake_fits

request_at : (p q : ℕ) (rest handshake : List ℕ) → IsBytes (p ∷ q ∷ rest) → SpellsReply rest handshake
    → SpellsRequest (p ∷ q ∷ rest) (from_be_bytes w16 (p ∷ q ∷ [])) handshake
request_at p q rest handshake fits reply = record {
  more = reply.more;
  spelling = ap (λ t. p ∷ q ∷ t) reply.spelling
      ∙ ap (λ t. t ++ (to_be_bytes w16 (length handshake) ++ handshake ++ reply.more)) (sym (two_bytes p q rest fits));
  type_fits = two_fit p q rest fits;
  handshake_fits = reply.handshake_fits;
}

pub request_spelled : (payload : List ℕ) (request : ℕ × List ℕ) → IsBytes payload → handshake_request payload ≡ Some request
    → SpellsRequest payload request.0 request.1
unfolding handshake_request
request_spelled [] request fits e = absurd (none-some request e)
request_spelled (p ∷ []) request fits e = absurd (none-some request e)
request_spelled (p ∷ q ∷ rest) request fits e =
    let made : List ℕ → ℕ × List ℕ = λ x. (from_be_bytes w16 (p ∷ q ∷ []), x) in
    let there : option_map made (handshake_reply rest) ≡ Some request =
    sym (ap (λ b. cond b (option_map made (handshake_reply rest)) None) (le-leb 2 (suc (suc (length rest))) (omega arith))) ∙ e in
    let read = map_some made (handshake_reply rest) request there in
    subst (λ (r : ℕ × List ℕ). SpellsRequest (p ∷ q ∷ rest) r.0 r.1) read.2
    (request_at p q rest read.0 fits (reply_spelled rest read.0 (IsBytes-drop 2 (p ∷ q ∷ rest) fits) read.1))

pub request_law : (payload : List ℕ) (t : ℕ) (h : List ℕ) → IsBytes payload
    → SpellsRequest payload t h ↔ (handshake_request payload ≡ Some (t, h))
request_law payload t h fits = (request_read payload t h, request_spelled payload (t, h) fits)
