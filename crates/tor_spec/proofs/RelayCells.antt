-- The fields of a head, byte by byte.
use Rattle.std.proofs.Common.{◌++◌, ◌+◌, ◌-◌, take, drop, replicate, ap, sym, ◌∙◌, append_assoc, ◌≡◌, ℕ, ◌≤◌, List, [], ◌∷◌, length, get_or, refl, arith}
use Rattle.std.proofs.lemmas.List.{drop-replicate, take_at, drop_at}
use borrow.Rule.Slice.PartMut.{put_mid}
use Rattle.std.specs.Int.{w16, from_be_bytes}
use Rattle.tor_spec.specs.RelayCell.{relay_head}

pub relay_head_at : (body : List ℕ) → 11 ≤ length body → relay_head body ≡ record {
  command = get_or body 0 0;
  recognized = from_be_bytes w16 (get_or body 1 0 ∷ get_or body 2 0 ∷ []);
  stream = from_be_bytes w16 (get_or body 3 0 ∷ get_or body 4 0 ∷ []);
  digest = get_or body 5 0 ∷ get_or body 6 0 ∷ get_or body 7 0 ∷ get_or body 8 0 ∷ [];
  length = from_be_bytes w16 (get_or body 9 0 ∷ get_or body 10 0 ∷ []);
}
unfolding relay_head
relay_head_at (a ∷ b ∷ c ∷ d ∷ e ∷ f ∷ g ∷ h ∷ i ∷ j ∷ k ∷ rest) within = refl
relay_head_at _ within = absurd (omega arith)

-- A head and a payload, copied one behind the other into a zero body.
pub body_copied : (m n k : ℕ) (head payload : List ℕ) → length head ≡ 11 → length payload ≤ n → m ≡ 11 + n → k ≡ length payload
    → put_mid 11 k (head ++ drop 11 (replicate m 0)) payload ≡ head ++ payload ++ replicate (n - length payload) 0
body_copied m n k head payload head_long short m_is k_is =
    let blank : drop 11 (replicate m 0) ≡ replicate n 0 = drop-replicate 11 m 0 ∙ ap (λ i. replicate i 0) (omega arith) in
    let before : take 11 (head ++ drop 11 (replicate m 0)) ≡ head = take_at head (drop 11 (replicate m 0)) 11 head_long in
    let behind : drop k (drop 11 (head ++ drop 11 (replicate m 0))) ≡ replicate (n - length payload) 0 =
    ap (drop k) (drop_at head (drop 11 (replicate m 0)) 11 head_long) ∙ ap (drop k) blank ∙ drop-replicate k n 0
    ∙ ap (λ i. replicate (n - i) 0) k_is in
    ap (λ a. a ++ (payload ++ drop k (drop 11 (head ++ drop 11 (replicate m 0))))) before
    ∙ ap (λ b. head ++ (payload ++ b)) behind ∙ sym (append_assoc head payload (replicate (n - length payload) 0))
