-- A pad that is filled block by block, groups that are moved, and a body xored with keystream.
use borrow.Rule.Slice.PartMut.{put_mid}
use Rattle.std.proofs.Common.{◌≤◌, ◌≡◌, ℕ, ◌+◌, ◌*◌, ◌<◌, List, ◌++◌, length, get_or, take, drop, ap, sym, ◌∙◌, arith, length-append, length-take, length-drop}
use Rattle.std.specs.Prelude.{bit_xor}
use Rattle.std.specs.Int.{w128, to_be_bytes}
use Rattle.std.specs.Simd.Lanes.{zip2}
use Rattle.std.proofs.lemmas.Grind.{same_number_lists}
use Rattle.std.proofs.lemmas.Simd.{length-zip2, get_or-zip2}
use Rattle.std.proofs.lemmas.List.{drop-drop}
use Rattle.std.proofs.lemmas.Slice.{take-put_mid, drop-put_mid}
use Rattle.std.proofs.Math.Seq.{take-add}
use Rattle.crypto_spec.specs.Aes.{aes}
use Rattle.crypto_spec.specs.Keystream.{keystream_part}
use Rattle.aes_ctr.proofs.Blocks.{block_of_keystream, append-keystream_part}

pub length-block_put : (pad block : List ℕ) (at k : ℕ) → k ≡ 16 → length block ≡ 16 → at + 16 ≤ length pad →
    length (put_mid at k pad block) ≡ length pad
length-block_put pad block at k whole sixteen h = simp (length-append, length-drop, length-take) (omega arith)

-- the pad holds one block more
pub take-block_put : (key pad block : List ℕ) (first n at k : ℕ) → at ≡ 16 * n → length block ≡ 16 → at + 16 ≤ length pad →
    take (16 * n) pad ≡ keystream_part key (16 * first) (16 * n) → block ≡ aes key (to_be_bytes w128 (first + n)) →
    take (16 * (n + 1)) (put_mid at k pad block) ≡ keystream_part key (16 * first) (16 * (n + 1))
take-block_put key pad block first n at k here sixteen h before made =
    let place : 16 * first + 16 * n ≡ 16 * (first + n) = omega arith in
    let more : 16 * n + 16 ≡ 16 * (n + 1) = omega arith in
    take-put_mid at k pad block _ (omega arith) (omega arith)
    ∙ ap (λ (m : ℕ). take m pad ++ block) here
    ∙ ap (λ (x : List ℕ). x ++ block) before
    ∙ ap (λ (x : List ℕ). keystream_part key (16 * first) (16 * n) ++ x) (block_of_keystream key block (first + n) sixteen made)
    ∙ append-keystream_part key (16 * first) (16 * n) (16 * (first + n)) 16 place
    ∙ ap (λ (m : ℕ). keystream_part key (16 * first) m) more

-- a list that is the xor of two others at each place
pub xored : (old pad new : List ℕ) → length old ≡ length pad → length new ≡ length old →
    ((j : ℕ) → j < length new → get_or new j 0 ≡ bit_xor (get_or old j 0) (get_or pad j 0)) →
    new ≡ zip2 bit_xor old pad
xored old pad new long same each =
    same_number_lists _ _ (same ∙ sym (length-zip2 bit_xor old pad long))
    (λ j h. each j h ∙ sym (get_or-zip2 bit_xor old pad j 0 0 0 (omega (arith, h)) (omega (arith, h))))

-- a group that is moved to the front by so many bytes
pub moved_group : (old store group : List ℕ) (n by k : ℕ) → k ≡ 128 → length store ≡ 1152 → 128 * n + 128 + by ≤ 1152
    → length group ≡ 128 →
    take (128 * n) store ≡ take (128 * n) (drop by old) → drop (128 * n) store ≡ drop (128 * n) old →
    group ≡ take 128 (drop (128 * n + by) store) →
    take (128 * (n + 1)) (put_mid (128 * n) k store group) ≡ take (128 * (n + 1)) (drop by old)
moved_group old store group n by k whole long fits group_long moved rest taken =
    let next : 128 * n + 128 ≡ 128 * (n + 1) = omega arith in
    let turned : 128 * n + by ≡ by + 128 * n = omega arith in
    let here : group ≡ take 128 (drop (128 * n) (drop by old)) =
    taken ∙ ap (take 128)
    (sym (drop-drop by (128 * n) store) ∙ ap (drop by) rest ∙ drop-drop by (128 * n) old
    ∙ ap (λ (m : ℕ). drop m old) turned ∙ sym (drop-drop (128 * n) by old)) in
    take-put_mid (128 * n) k store group (128 * (n + 1)) (omega (arith, group_long)) (omega (arith, long, fits))
    ∙ ap (λ (x : List ℕ). x ++ group) moved
    ∙ ap (λ (x : List ℕ). take (128 * n) (drop by old) ++ x) here
    ∙ sym (take-add (128 * n) 128 (drop by old))
    ∙ ap (λ (m : ℕ). take m (drop by old)) next

-- and what lies behind it stays
pub behind_group : (old store group : List ℕ) (n k : ℕ) → k ≡ 128 → length store ≡ 1152 → 128 * n + 128 ≤ 1152
    → length group ≡ 128 →
    drop (128 * n) store ≡ drop (128 * n) old →
    drop (128 * (n + 1)) (put_mid (128 * n) k store group) ≡ drop (128 * (n + 1)) old
behind_group old store group n k whole long fits group_long rest =
    let next : 128 * n + 128 ≡ 128 * (n + 1) = omega arith in
    drop-put_mid (128 * n) k store group (128 * (n + 1)) (omega (arith, whole)) (omega (arith, long, fits))
    (group_long ∙ sym whole)
    ∙ ap (λ (m : ℕ). drop m store) (sym next) ∙ sym (drop-drop 128 (128 * n) store) ∙ ap (drop 128) rest
    ∙ drop-drop 128 (128 * n) old ∙ ap (λ (m : ℕ). drop m old) next

pub length-group_put : (store group : List ℕ) (at k : ℕ) → k ≡ 128 → length group ≡ 128 → at + 128 ≤ length store →
    length (put_mid at k store group) ≡ length store
length-group_put store group at k whole long h = simp (length-append, length-drop, length-take) (omega arith)
