-- Fields laid one behind the other.
use Rattle.std.proofs.Common.{◌≡◌, ℕ, ◌+◌, ◌-◌, List, [], ◌++◌, length, take, drop, replicate, refl, sym, ap, ◌∙◌, append_assoc, append-nil, arith}
use Rattle.std.proofs.lemmas.List.{take_at, drop_at, drop-replicate, length-append}
use Rattle.tor_spec.specs.CellEncoding.{fixed_payload}
use borrow.Rule.Slice.PartMut.{put_mid}

-- A second field is written behind the first, over the front of what stands there.
put_behind : (a b : ℕ) (laid first rest second : List ℕ) → laid ≡ first ++ rest → length first ≡ a
    → put_mid a b laid second ≡ (first ++ second) ++ drop b rest
put_behind a b laid first rest second is first_long =
    ap (λ xs. take a xs ++ (second ++ drop b (drop a xs))) is
    ∙ ap (λ xs. xs ++ (second ++ drop b (drop a (first ++ rest)))) (take_at first rest a first_long)
    ∙ ap (λ xs. first ++ (second ++ drop b xs)) (drop_at first rest a first_long)
    ∙ sym (append_assoc first second (drop b rest))

-- The second field ends where the list does.
pub put_last : (a b : ℕ) (first rest second : List ℕ) → length first ≡ a → drop b rest ≡ []
    → put_mid a b (first ++ rest) second ≡ first ++ second
put_last a b first rest second first_long last =
    put_behind a b (first ++ rest) first rest second refl first_long
    ∙ ap (λ xs. (first ++ second) ++ xs) last
    ∙ append-nil (first ++ second)

-- What is left behind two fields, in a list of n.

room_left : (n b : ℕ) (first second : List ℕ) → length second ≡ b → n - length first - b ≡ n - length (first ++ second)
room_left n b first second long =
    let both : length (first ++ second) ≡ length first + length second = length-append first second in
    omega (arith, both, long)

zeros_left : (n b : ℕ) (first second : List ℕ) → length second ≡ b
    → drop {A = ℕ} b (replicate (n - length first) 0) ≡ replicate (n - length (first ++ second)) 0
zeros_left n b first second long =
    drop-replicate b (n - length first) 0 ∙ ap (λ k. replicate k 0) (room_left n b first second long)

-- Zeros stand behind both fields.
pub put_in_zeros : (a b : ℕ) (laid first second : List ℕ) → laid ≡ fixed_payload first → length first ≡ a → length second ≡ b
    → put_mid a b laid second ≡ fixed_payload (first ++ second)
put_in_zeros a b laid first second is first_long second_long =
    put_behind a b laid first (replicate (509 - length first) 0) second is first_long
    ∙ ap (λ xs. (first ++ second) ++ xs) (zeros_left 509 b first second second_long)
