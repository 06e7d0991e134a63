-- The store of keystream that is made ahead.
use Rattle.std.proofs.Common.{append-nil, ◌≡◌, ℕ, ◌+◌, ◌-◌, ◌*◌, ◌/◌, ◌%◌, ◌≤◌, List, [], ◌++◌, length, take, drop, refl, ap, sym, ◌∙◌, arith, length-drop}
use borrow.Rule.Slice.PartMut.{put_mid}
use Rattle.std.proofs.lemmas.List.{drop-drop, drop_all, drop-append-le}
use Rattle.crypto_spec.specs.Keystream.{keystream_part}
use Rattle.aes_ctr.specs.StreamState.{IsStore}
use Rattle.aes_ctr.proofs.Blocks.{take-keystream_part, drop-keystream_part, append-keystream_part}

-- the first bytes of those that are made
made : (key : List ℕ) (position : ℕ) (store : List ℕ) (used ready n k : ℕ) → IsStore key position store used ready → k ≡ n
    → used + n ≤ 1152 →
    take k (drop used store) ≡ keystream_part key position n
made key position store used ready n k s e h =
    ap (λ (m : ℕ). take m (drop used store)) e ∙ ap (take n) s.next
    ∙ take-keystream_part key position (1152 - used) n (omega arith)

-- a body's keystream is the first 509 bytes that are ready
pub taken : (key : List ℕ) (position : ℕ) (store : List ℕ) (used ready : ℕ) → IsStore key position store used ready → 509 ≤ ready
    →
    take (used + 509 - used) (drop used store) ≡ keystream_part key position 509
taken key position store used ready s h =
    let within = s.within in made key position store used ready 509 (used + 509 - used) s (omega arith) (omega (arith, within, h))

-- and then the bytes behind them are
pub left : (key : List ℕ) (position : ℕ) (store : List ℕ) (used ready : ℕ) → IsStore key position store used ready → 509 ≤ ready →
    IsStore key (position + 509) store (used + 509) (ready - 509)
left key position store used ready s h =
    let within = s.within in
    let most = s.most in
    let whole = s.whole in
    record {
      within = omega (arith, within, h);
      most = omega (arith, most);
      next = sym (drop-drop 509 used store) ∙ ap (drop 509) s.next
          ∙ drop-keystream_part key position (1152 - used) 509 (1152 - (used + 509)) (position + 509) (omega (arith, within, h))
          refl;
      whole = ap (λ (n : ℕ). n % 128) (omega (arith, within, h)) ∙ whole;
    }

-- all that is ready
pub all_ready : (key : List ℕ) (position : ℕ) (store : List ℕ) (used ready : ℕ) → IsStore key position store used ready →
    take (used + ready - used) (drop used store) ≡ keystream_part key position ready
all_ready key position store used ready s =
    made key position store used ready ready (used + ready - used) s (omega arith) s.within

-- 1,024 bytes count as ready where as many are made
pub counted : (key : List ℕ) (position : ℕ) (store : List ℕ) (used ready : ℕ) → IsStore key position store used ready
    → used + 1024 ≤ 1152 →
    IsStore key position store used 1024
counted key position store used ready s h = record { within = h; most = omega arith; next = s.next; whole = s.whole }

-- a store whose bytes have moved to the front, with so many more behind them
pub filled_up : (key : List ℕ) (position : ℕ) (old moved more : List ℕ) (used ready n k : ℕ) → IsStore key position old used ready
    →
    length moved ≡ 1152 → n ≤ used → n % 128 ≡ 0 → used ≤ n + 128 → k ≡ n → take (1152 - n) moved ≡ drop n old →
    length old ≡ 1152 →
    more ≡ keystream_part key (16 * ((position + (1152 - used)) / 16)) n →
    IsStore key position (put_mid (1152 - n) k moved more) (used - n) 1024
filled_up key position old moved more used ready n k s long fits groups enough e front old_long filled =
    let within = s.within in
    let whole = s.whole in
    let place : 16 * ((position + (1152 - used)) / 16) ≡ position + (1152 - used) = omega (arith, whole) in
    let end : drop k (drop (1152 - n) moved) ≡ [] =
    drop-drop k (1152 - n) moved ∙ drop_all (1152 - n + k) moved (omega (arith, long, e, fits, within)) in
    let behind : drop (used - n) (drop n old) ≡ drop used old =
    drop-drop (used - n) n old ∙ ap (λ (m : ℕ). drop m old) (omega (arith, fits)) in
    let reach : used - n ≤ length (drop n old) = simp length-drop (omega (arith, old_long, fits, within)) in
    record {
      within = omega (arith, fits, within, enough);
      most = omega arith;
      next =
          ap (λ (x : List ℕ). drop (used - n) (x ++ (more ++ drop k (drop (1152 - n) moved)))) front
          ∙ ap (λ (x : List ℕ). drop (used - n) (drop n old ++ (more ++ x))) end
          ∙ ap (λ (x : List ℕ). drop (used - n) (drop n old ++ x)) (append-nil more ∙ filled)
          ∙ drop-append-le (used - n) (drop n old) (keystream_part key (16 * ((position + (1152 - used)) / 16)) n) reach
          ∙ ap (λ (x : List ℕ). x ++ keystream_part key (16 * ((position + (1152 - used)) / 16)) n) (behind ∙ s.next)
          ∙ ap (λ (p : ℕ). keystream_part key position (1152 - used) ++ keystream_part key p n) place
          ∙ append-keystream_part key position (1152 - used) (position + (1152 - used)) n refl
          ∙ ap (λ (m : ℕ). keystream_part key position m) (omega (arith, fits, within));
      whole = omega (arith, whole, groups, fits, within);
    }
