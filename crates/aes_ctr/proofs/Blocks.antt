-- The keystream by whole blocks.
use Rattle.std.proofs.Math.Nat.{suc-add}
use Rattle.std.proofs.Common.{zero, suc, ◌∷◌, ◌≡◌, ℕ, ◌+◌, ◌*◌, ◌/◌, ◌%◌, ◌<◌, ◌≤◌, List, ◌++◌, length, get_or, take, drop, refl, ap, sym, ◌∙◌, arith, length-take, length-drop, get_or-drop, get_or-take}
use Rattle.std.specs.Int.{w128, to_be_bytes}
use Rattle.std.proofs.lemmas.List.{take_all}
use Rattle.std.proofs.lemmas.Grind.{same_number_lists}
use Rattle.std.proofs.lemmas.List.FromFn.{length-map-range_with_len, get_or-map-range_with_len, take-map-range_with_len}
use Rattle.crypto_spec.specs.Aes.{aes}
use Rattle.crypto_spec.specs.Keystream.{keystream, keystream_part}

pub length-keystream_part : (key : List ℕ) (i n : ℕ) → length (keystream_part key i n) ≡ n
length-keystream_part key i n = length-map-range_with_len (λ k. keystream key k) i n

pub get_or-keystream_part : (key : List ℕ) (i n k j : ℕ) → k < n → i + k ≡ j
    → get_or (keystream_part key i n) k 0 ≡ keystream key j
get_or-keystream_part key i n k j h e = get_or-map-range_with_len (λ k. keystream key k) i n k j 0 h e

-- byte k of block n
keystream_in_block : (key : List ℕ) (n k i : ℕ) → k < 16 → 16 * n + k ≡ i
    → get_or (aes key (to_be_bytes w128 n)) k 0 ≡ keystream key i
unfolding keystream
keystream_in_block key n k i h e =
    let block : n ≡ i / 16 = omega arith in
    let place : k ≡ i % 16 = omega arith in
    ap (λ (m : ℕ). get_or (aes key (to_be_bytes w128 m)) k 0) block
    ∙ ap (λ (m : ℕ). get_or (aes key (to_be_bytes w128 (i / 16))) m 0) place

-- the cipher of block number n is 16 bytes of keystream
pub block_of_keystream : (key block : List ℕ) (n : ℕ) → length block ≡ 16 → block ≡ aes key (to_be_bytes w128 n) →
    block ≡ keystream_part key (16 * n) 16
block_of_keystream key block n long e =
    same_number_lists _ _ (long ∙ sym (length-keystream_part key (16 * n) 16))
    (λ k h. ap (λ (b : List ℕ). get_or b k 0) e ∙ keystream_in_block key n k (16 * n + k) (omega (arith, h)) refl
    ∙ sym (get_or-keystream_part key (16 * n) 16 k (16 * n + k) (omega (arith, h)) refl))

-- two parts that lie next to each other
pub append-keystream_part : (key : List ℕ) (i m j n : ℕ) → i + m ≡ j →
    keystream_part key i m ++ keystream_part key j n ≡ keystream_part key i (m + n)
append-keystream_part key i zero j n e =
    let same : i ≡ j = omega arith in
    let none : n ≡ 0 + n = omega arith in
    ap (λ (p : ℕ). keystream_part key p n) (sym same) ∙ ap (λ (q : ℕ). keystream_part key i q) none
append-keystream_part key i (suc m) j n e =
    let next : (i + 1) + m ≡ j = omega arith in
    ap (λ (ks : List ℕ). keystream key i ∷ ks) (append-keystream_part key (i + 1) m j n next)
    ∙ ap (λ (q : ℕ). keystream_part key i q) (sym (suc-add m n))

-- a part of a part
pub between-keystream_part : (key : List ℕ) (i m k n j : ℕ) → k + n ≤ m → i + k ≡ j →
    take n (drop k (keystream_part key i m)) ≡ keystream_part key j n
between-keystream_part key i m k n j h e =
    let cut : length (take n (drop k (keystream_part key i m))) ≡ n
    = simp (length-take, length-drop, length-keystream_part key i m) (omega arith) in
    same_number_lists _ _ (cut ∙ sym (length-keystream_part key j n))
    (λ q below. let inside : q < n = omega (arith, below, cut) in
    get_or-take n (drop k (keystream_part key i m)) q 0 inside ∙ get_or-drop k (keystream_part key i m) q 0
    ∙ get_or-keystream_part key i m (k + q) (j + q) (omega arith) (omega arith)
    ∙ sym (get_or-keystream_part key j n q (j + q) inside refl))

pub take-keystream_part : (key : List ℕ) (i m n : ℕ) → n ≤ m → take n (keystream_part key i m) ≡ keystream_part key i n
take-keystream_part key i m n h = take-map-range_with_len (λ k. keystream key k) i m n h

pub drop-keystream_part : (key : List ℕ) (i m k n j : ℕ) → k + n ≡ m → i + k ≡ j
    → drop k (keystream_part key i m) ≡ keystream_part key j n
drop-keystream_part key i m k n j h e =
    let rest : length (drop k (keystream_part key i m)) ≤ n = simp (length-drop, length-keystream_part key i m) (omega arith) in
    sym (take_all n (drop k (keystream_part key i m)) rest) ∙ between-keystream_part key i m k n j (omega arith) e
