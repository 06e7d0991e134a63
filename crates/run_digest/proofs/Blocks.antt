-- A message that grows, its whole blocks and the bytes behind them.
use Rattle.std.proofs.Common.{◌≡◌, ℕ, zero, suc, ◌+◌, ◌-◌, ◌*◌, ◌/◌, ◌%◌, ◌^◌, ◌<◌, ◌≤◌, ◌++◌, ◌∷◌, [], List, length, take, drop, replicate, refl, sym, ap, ◌∙◌, arith, append_assoc, length-append, length-drop}
use Rattle.std.proofs.Math.ListN.{drop_of_length-le}
use Rattle.std.proofs.Math.Seq.{take-append-add, drop-append-add, take-append_seam}
use Rattle.std.proofs.lemmas.List.{append-nil, drop-append-le, drop-drop, take-append-le, take-replicate}
use Rattle.std.specs.Int.{w64, to_be_bytes}
use Rattle.sha1.specs.Sha1.{compress, digest_bytes, hash_after, padded_message, sha1}
use Rattle.run_digest.specs.HashState.{HashState, hash_state}

hash_next : (m : List ℕ) (n : ℕ) → hash_after m (suc n) ≡ compress (hash_after m n) (take 64 (drop (n * 64) m))
unfolding hash_after
hash_next m n = refl

same_block : (m b : List ℕ) (k : ℕ) → k + 64 ≤ length m → take 64 (drop k (m ++ b)) ≡ take 64 (drop k m)
same_block m b k le =
    ap (take 64) (drop-append-le k m b (omega arith)) ∙ take-append-le 64 (drop k m) b (omega (arith, length-drop k m))

-- What follows whole blocks changes nothing of their hash value.
hash_kept : (m b : List ℕ) (n : ℕ) → n * 64 ≤ length m → hash_after (m ++ b) n ≡ hash_after m n
unfolding hash_after
hash_kept m b zero le = refl
hash_kept m b (suc n) le =
    ap (compress (hash_after (m ++ b) n)) (same_block m b (n * 64) (omega arith))
    ∙ ap (λ (h : List ℕ). compress h (take 64 (drop (n * 64) m))) (hash_kept m b n (omega arith))

pub block_taken : (m bytes h next : List ℕ) (n i k : ℕ) → drop (n * 64) m ≡ bytes → h ≡ hash_after m (n + i) → k ≡ 64 →
    next ≡ compress h (take k (drop (i * 64) bytes)) → next ≡ hash_after m (n + (i + 1))
block_taken m bytes h next n i k at before is_block is =
    let there : drop (i * 64) bytes ≡ drop ((n + i) * 64) m =
    let e : n * 64 + i * 64 ≡ (n + i) * 64 = omega arith in
    ap (drop (i * 64)) (sym at) ∙ drop-drop (i * 64) (n * 64) m ∙ ap (λ (j : ℕ). drop j m) e in
    let count : suc (n + i) ≡ n + (i + 1) = omega arith in
    is
    ∙ ap (λ (j : ℕ). compress h (take j (drop (i * 64) bytes))) is_block
    ∙ ap (λ (x : List ℕ). compress h (take 64 x)) there
    ∙ ap (λ (x : List ℕ). compress x (take 64 (drop ((n + i) * 64) m))) before
    ∙ sym (hash_next m (n + i))
    ∙ ap (hash_after m) count

-- ---- the value of a state

abbrev pub state : List ℕ → List ℕ → ℕ → HashState
state h r t = record { hash = h; rest = r; total = t }

abbrev rest_of : List ℕ → List ℕ
rest_of m = drop (length m / 64 * 64) m

pub state_is : (h r : List ℕ) (t : ℕ) (m : List ℕ) →
    h ≡ hash_after m (length m / 64) → r ≡ rest_of m → t ≡ length m % 2 ^ 64 → state h r t ≡ hash_state m
unfolding hash_state
state_is h r t m a b c =
    ap (λ (x : List ℕ). state x r t) a
    ∙ ap (λ (x : List ℕ). state (hash_after m (length m / 64)) x t) b
    ∙ ap (state (hash_after m (length m / 64)) (rest_of m)) c

pub hash_is : (v : HashState) (m : List ℕ) → v ≡ hash_state m → v.hash ≡ hash_after m (length m / 64)
unfolding hash_state
hash_is v m e = ap (λ (x : HashState). x.hash) e

pub rest_is : (v : HashState) (m : List ℕ) → v ≡ hash_state m → v.rest ≡ rest_of m
unfolding hash_state
rest_is v m e = ap (λ (x : HashState). x.rest) e

pub total_is : (v : HashState) (m : List ℕ) → v ≡ hash_state m → v.total ≡ length m % 2 ^ 64
unfolding hash_state
total_is v m e = ap (λ (x : HashState). x.total) e

-- ---- bytes that come

length-rest_of : (m : List ℕ) → length (rest_of m) ≡ length m % 64
length-rest_of m = omega (arith, length-drop (length m / 64 * 64) m)

grown : (m b : List ℕ) → drop (length m / 64 * 64) (m ++ b) ≡ rest_of m ++ b
grown m b = drop-append-le (length m / 64 * 64) m b (omega arith)

pub total_grown : (t u n k : ℕ) → t ≡ n % 2 ^ 64 → u ≡ (t + k) % 2 ^ 64 → u ≡ (n + k) % 2 ^ 64
total_grown t u n k a b = omega arith

pub low_bits : (t n : ℕ) → t ≡ n % 2 ^ 64 → t % 64 ≡ n % 64
low_bits t n e = omega arith

-- Bytes that do not fill the block begun.
pub short_grown : (m b h r : List ℕ) (t u : ℕ) → state h r t ≡ hash_state m → t % 64 + length b < 64
    → u ≡ (t + length b) % 2 ^ 64 →
    state h (r ++ b) u ≡ hash_state (m ++ b)
short_grown m b h r t u e short is_u =
    let v : HashState = state h r t in
    let low : t % 64 ≡ length m % 64 = low_bits t (length m) (total_is v m e) in
    let long : length (m ++ b) ≡ length m + length b = length-append m b in
    let same : length (m ++ b) / 64 ≡ length m / 64 = omega arith in
    let count : u ≡ length (m ++ b) % 2 ^ 64 =
    total_grown t u (length m) (length b) (total_is v m e) is_u ∙ ap (λ (n : ℕ). n % 2 ^ 64) (sym long) in
    state_is h (r ++ b) u (m ++ b)
    (hash_is v m e ∙ sym (hash_kept m b (length m / 64) (omega arith)) ∙ ap (hash_after (m ++ b)) (sym same))
    (ap (λ (x : List ℕ). x ++ b) (rest_is v m e) ∙ sym (grown m b) ∙ ap (λ (n : ℕ). drop (n * 64) (m ++ b)) (sym same))
    count

block_filled : (m b : List ℕ) → 64 ≤ length m % 64 + length b →
    take 64 (drop (length m / 64 * 64) (m ++ b)) ≡ rest_of m ++ take (64 - length m % 64) b
block_filled m b le =
    let e : 64 ≡ length (rest_of m) + (64 - length m % 64) = omega (arith, length-rest_of m) in
    ap (take 64) (grown m b)
    ∙ ap (λ (n : ℕ). take n (rest_of m ++ b)) e
    ∙ take-append-add (rest_of m) b (64 - length m % 64)

after_block : (m b : List ℕ) → 64 ≤ length m % 64 + length b →
    drop (suc (length m / 64) * 64) (m ++ b) ≡ drop (64 - length m % 64) b
after_block m b le =
    let apart : suc (length m / 64) * 64 ≡ length m / 64 * 64 + 64 = omega arith in
    let e : 64 ≡ length (rest_of m) + (64 - length m % 64) = omega (arith, length-rest_of m) in
    ap (λ (n : ℕ). drop n (m ++ b)) apart
    ∙ sym (drop-drop 64 (length m / 64 * 64) (m ++ b))
    ∙ ap (drop 64) (grown m b)
    ∙ ap (λ (n : ℕ). drop n (rest_of m ++ b)) e
    ∙ drop-append-add (rest_of m) b (64 - length m % 64)

-- Bytes that fill the block begun: that block, the whole blocks behind it, and the rest.
pub long_grown : (m b h r block h1 more h2 rest : List ℕ) (t u : ℕ) → state h r t ≡ hash_state m →
    64 ≤ t % 64 + length b → u ≡ (t + length b) % 2 ^ 64 →
    block ≡ r ++ take (64 - t % 64) b → h1 ≡ compress h block → more ≡ drop (64 - t % 64) b →
    ((n : ℕ) → drop (n * 64) (m ++ b) ≡ more → h1 ≡ hash_after (m ++ b) n → h2 ≡ hash_after (m ++ b) (n + length more / 64)) →
    rest ≡ drop (length more / 64 * 64) more → state h2 rest u ≡ hash_state (m ++ b)
long_grown m b h r block h1 more h2 rest t u e long is_u is_block is_h1 is_more blocks is_rest =
    let v : HashState = state h r t in
    let low : t % 64 ≡ length m % 64 = low_bits t (length m) (total_is v m e) in
    let whole : 64 ≤ length m % 64 + length b = omega arith in
    let n : ℕ = suc (length m / 64) in
    let all : length (m ++ b) ≡ length m + length b = length-append m b in
    let left : length more ≡ length b - (64 - length m % 64) =
    ap length is_more ∙ length-drop (64 - t % 64) b ∙ ap (λ (k : ℕ). length b - (64 - k)) low in
    let count : n + length more / 64 ≡ length (m ++ b) / 64 = omega arith in
    let there : drop (n * 64) (m ++ b) ≡ more =
    after_block m b whole ∙ ap (λ (k : ℕ). drop (64 - k) b) (sym low) ∙ sym is_more in
    let block_there : take 64 (drop (length m / 64 * 64) (m ++ b)) ≡ block =
    block_filled m b whole
    ∙ ap (λ (k : ℕ). rest_of m ++ take (64 - k) b) (sym low)
    ∙ ap (λ (x : List ℕ). x ++ take (64 - t % 64) b) (sym (rest_is v m e))
    ∙ sym is_block in
    let first : h1 ≡ hash_after (m ++ b) n =
    is_h1
    ∙ ap (compress h) (sym block_there)
    ∙ ap (λ (x : List ℕ). compress x (take 64 (drop (length m / 64 * 64) (m ++ b))))
    (hash_is v m e ∙ sym (hash_kept m b (length m / 64) (omega arith)))
    ∙ sym (hash_next (m ++ b) (length m / 64)) in
    let ends : n * 64 + length more / 64 * 64 ≡ length (m ++ b) / 64 * 64 = omega arith in
    state_is h2 rest u (m ++ b)
    (blocks n there first ∙ ap (hash_after (m ++ b)) count)
    (is_rest
    ∙ ap (drop (length more / 64 * 64)) (sym there)
    ∙ drop-drop (length more / 64 * 64) (n * 64) (m ++ b)
    ∙ ap (λ (k : ℕ). drop k (m ++ b)) ends)
    (total_grown t u (length m) (length b) (total_is v m e) is_u ∙ ap (λ (k : ℕ). k % 2 ^ 64) (sym all))

-- ---- the end of a message

sha1_is : (m : List ℕ) → sha1 m ≡ digest_bytes (hash_after (padded_message m) (length (padded_message m) / 64)) 5
unfolding sha1
sha1_is m = refl

-- The padding, as it is taken in: the byte 1000 0000, zeros, and the length in bits.
padded : (m zeros bits : List ℕ) (t f : ℕ) → t ≡ length m % 2 ^ 64 → f ≡ t % 64 →
    zeros ≡ take ((119 - f) % 64) (replicate 64 0) → bits ≡ to_be_bytes w64 (t * 8 % 2 ^ 64) →
    ((m ++ 0x80 ∷ []) ++ zeros) ++ bits ≡ padded_message m
padded m zeros bits t f is_t is_f is_zeros is_bits =
    let low : f ≡ length m % 64 = is_f ∙ low_bits t (length m) is_t in
    let few : (119 - f) % 64 ≤ 64 = omega arith in
    let run : zeros ≡ replicate ((119 - length m % 64) % 64) 0 =
    is_zeros ∙ take-replicate ((119 - f) % 64) 64 0 few ∙ ap (λ (k : ℕ). replicate ((119 - k) % 64) 0) low in
    let count : t * 8 % 2 ^ 64 ≡ length m * 8 % 2 ^ 64 = omega arith in
    let last : bits ≡ to_be_bytes w64 (length m * 8 % 2 ^ 64) = is_bits ∙ ap (to_be_bytes w64) count in
    ap (λ (x : List ℕ). x ++ bits) (append_assoc m (0x80 ∷ []) zeros)
    ∙ append_assoc m (0x80 ∷ zeros) bits
    ∙ ap (λ (x : List ℕ). m ++ (0x80 ∷ x ++ bits)) run
    ∙ ap (λ (x : List ℕ). m ++ (0x80 ∷ replicate ((119 - length m % 64) % 64) 0 ++ x)) last

pub digest_is : (v : HashState) (m zeros bits : List ℕ) (t f : ℕ) → t ≡ length m % 2 ^ 64 → f ≡ t % 64 →
    zeros ≡ take ((119 - f) % 64) (replicate 64 0) → bits ≡ to_be_bytes w64 (t * 8 % 2 ^ 64) →
    v ≡ hash_state (((m ++ 0x80 ∷ []) ++ zeros) ++ bits) → digest_bytes v.hash 5 ≡ sha1 m
digest_is v m zeros bits t f is_t is_f is_zeros is_bits e =
    ap (λ (h : List ℕ). digest_bytes h 5) (hash_is v (((m ++ 0x80 ∷ []) ++ zeros) ++ bits) e)
    ∙ ap (λ (p : List ℕ). digest_bytes (hash_after p (length p / 64)) 5) (padded m zeros bits t f is_t is_f is_zeros is_bits)
    ∙ sym (sha1_is m)

-- ---- the block begun, in its place

-- What was written over a part, up to its end.
pub front_two : (a b tail : List ℕ) (n : ℕ) → n ≡ length a + length b → take n (a ++ (b ++ tail)) ≡ a ++ b
front_two a b tail n e =
    let long : n ≡ length (a ++ b) = omega (arith, length-append a b) in
    ap (take n) (sym (append_assoc a b tail))
    ∙ ap (λ (k : ℕ). take k ((a ++ b) ++ tail)) long
    ∙ take-append_seam (a ++ b) tail

pub front : (a tail : List ℕ) (n : ℕ) → n ≡ length a → take n (a ++ tail) ≡ a
front a tail n e = ap (λ (k : ℕ). take k (a ++ tail)) e ∙ take-append_seam a tail

pub block_text : (block_bytes first_bytes b : List ℕ) (f t : ℕ) → length block_bytes ≡ 64 → f ≤ 64 → f ≡ t % 64
    → first_bytes ≡ take (64 - f) b →
    take f block_bytes ++ (first_bytes ++ drop (64 - f) (drop f block_bytes)) ≡ take (t % 64) block_bytes ++ take (64 - t % 64) b
block_text block_bytes first_bytes b f t long le is_f is =
    let none : drop (64 - f) (drop f block_bytes) ≡ [] =
    drop_of_length-le (drop f block_bytes) (omega (arith, length-drop f block_bytes)) in
    ap (λ (x : List ℕ). take f block_bytes ++ (first_bytes ++ x)) none
    ∙ ap (λ (x : List ℕ). take f block_bytes ++ x) (append-nil first_bytes ∙ is)
    ∙ ap (λ (k : ℕ). take k block_bytes ++ take (64 - k) b) is_f
