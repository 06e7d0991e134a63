-- How the hashed bytes grow by a body.
use Rattle.std.proofs.Common.{◌≡◌, ℕ, ◌∷◌, ◌++◌, [], List, sym, append_assoc, take, drop, length, ◌+◌, arith, length-drop}
use Rattle.std.proofs.lemmas.List.{append-nil, take_all}
use Rattle.std.proofs.lemmas.Grind.{flat_map-append}
use Rattle.std.specs.List.{flat_map}
use Rattle.crypto_spec.specs.RunningDigest.{zeroed, digest_message}

pub digest_message_first : (seed : List ℕ) → digest_message seed [] ≡ seed
unfolding digest_message
digest_message_first seed = append-nil seed

pub digest_message_next : (seed : List ℕ) (bodies : List (List ℕ)) (body : List ℕ) →
    digest_message seed (bodies ++ body ∷ []) ≡ digest_message seed bodies ++ zeroed body
unfolding digest_message
digest_message_next seed bodies body =
    rw (flat_map-append zeroed bodies (body ∷ []))
    (simp append-nil (sym (append_assoc seed (flat_map zeroed bodies) (zeroed body))))

-- A body that comes in three pieces, with its digest field as zero: n is what it has behind it.
pub zeroed_in_pieces : (m body : List ℕ) (n : ℕ) → length body ≡ 9 + n →
    m ++ take 5 body ++ 0 ∷ 0 ∷ 0 ∷ 0 ∷ [] ++ take n (drop 9 body) ≡ m ++ zeroed body
zeroed_in_pieces m body n long =
    let rest : take n (drop 9 body) ≡ drop 9 body = take_all n (drop 9 body) (omega (arith, length-drop 9 body)) in
    rw rest (simp append_assoc)
