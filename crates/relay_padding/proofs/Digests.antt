-- The running digest takes the Digest field of a body as zero.
use Rattle.std.proofs.Common.{◌≡◌, ℕ, [], ◌∷◌, ◌++◌, List, length, refl, ap, sym, ◌∙◌, arith}
use Rattle.std.specs.List.{flat_map}
use Rattle.std.proofs.lemmas.Grind.{flat_map-append}
use Rattle.sha1.specs.Sha1.{sha1}
use Rattle.crypto_spec.specs.RunningDigest.{zeroed, digest_message, running_digest}
use Rattle.tor_spec.specs.RelayCell.{with_digest}
use Rattle.run_digest.specs.HashState.{HashState, hash_state, HasAbsorbed}

-- with its Digest and without
zeroed-digest : (body : List ℕ) (a b c d : ℕ) → length body ≡ 509 → zeroed body ≡ zeroed (with_digest body (a ∷ b ∷ c ∷ d ∷ []))
unfolding with_digest
zeroed-digest (m ∷ n ∷ o ∷ p ∷ q ∷ r ∷ s ∷ t ∷ u ∷ rest) a b c d long = refl
zeroed-digest _ a b c d long = absurd (omega arith)

message-same : (seed : List ℕ) (before : List (List ℕ)) (x y : List ℕ) → zeroed x ≡ zeroed y →
    digest_message seed (before ++ x ∷ []) ≡ digest_message seed (before ++ y ∷ [])
unfolding digest_message
message-same seed before x y same =
    let last : flat_map zeroed (x ∷ []) ≡ flat_map zeroed (y ∷ []) = ap (λ z. z ++ []) same in
    ap (λ z. seed ++ z)
    (flat_map-append zeroed before (x ∷ []) ∙ ap (λ z. flat_map zeroed before ++ z) last
    ∙ sym (flat_map-append zeroed before (y ∷ [])))

-- a body that was given its Digest
pub stands_with_digest : (state : HashState) (seed : List ℕ) (before : List (List ℕ)) (body sent : List ℕ) (a b c d : ℕ) →
    length body ≡ 509 → sent ≡ with_digest body (a ∷ b ∷ c ∷ d ∷ []) →
    HasAbsorbed state seed (before ++ body ∷ []) → HasAbsorbed state seed (before ++ sent ∷ [])
stands_with_digest state seed before body sent a b c d long s e =
    e ∙ ap hash_state
    (rw s (message-same seed before body (with_digest body (a ∷ b ∷ c ∷ d ∷ [])) (zeroed-digest body a b c d long)))

pub digest_with_digest : (seed : List ℕ) (before : List (List ℕ)) (body sent : List ℕ) (a b c d : ℕ) →
    length body ≡ 509 → sent ≡ with_digest body (a ∷ b ∷ c ∷ d ∷ []) →
    running_digest seed (before ++ body ∷ []) ≡ running_digest seed (before ++ sent ∷ [])
unfolding running_digest
digest_with_digest seed before body sent a b c d long s =
    rw s (ap sha1 (message-same seed before body (with_digest body (a ∷ b ∷ c ∷ d ∷ [])) (zeroed-digest body a b c d long)))
