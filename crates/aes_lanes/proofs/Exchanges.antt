-- What the exchange of bits between two vectors gives, bit by bit.
use Rattle.std.proofs.Common.{◌≡◌, ℕ, ◌+◌, ◌-◌, ◌*◌, ◌/◌, ◌%◌, ◌<◌, ◌^◌, min, List, length, get_or, replicate, refl, ap, ◌∙◌, arith}
use Rattle.std.specs.Prelude.{bit_xor, bit_and}
use Rattle.std.specs.Int.{bit_at}
use Rattle.std.specs.Simd.Lanes.{zip2}
use Rattle.std.proofs.lemmas.Nat.Bits.{bit_at_xor, bit_at_and, bit_at-lt}
use Rattle.std.proofs.lemmas.Nat.{xor_comm}
use Rattle.aes_lanes.specs.Bits.{IsBit, one_of, digit}
use Rattle.aes_lanes.proofs.Eight.{below_eight}
use Rattle.aes_lanes.proofs.Lanes.{IsLane, IsLane-zip2, IsLane-splat, IsBit-lane}

-- sums of bits
twice_added : (r a s t x c b m : ℕ) → r ≡ (a + s) % 2 → s ≡ t → t ≡ min x m → x ≡ (c + b) % 2 → c ≡ a → m ≡ 1 → a < 2 → b < 2
    → r ≡ b
twice_added r a s t x c b m p q e f g h i j = omega arith

nothing_added : (r a s t x m : ℕ) → r ≡ (a + s) % 2 → s ≡ t → t ≡ min x m → m ≡ 0 → a < 2 → r ≡ a
nothing_added r a s t x m p q e f g = omega arith

-- Here c is a with its bits moved down, and s is the masked sum with its bits moved up.
first_taken : (a b c s m k j : ℕ) → bit_at s k ≡ bit_at (bit_and (bit_xor c b) m) j → bit_at c j ≡ bit_at a k → bit_at m j ≡ 1 →
    bit_at (bit_xor a s) k ≡ bit_at b j
first_taken a b c s m k j up down mask =
    twice_added _ (bit_at a k) (bit_at s k) _ (bit_at (bit_xor c b) j) (bit_at c j) (bit_at b j) (bit_at m j)
    (bit_at_xor a s k) up (bit_at_and (bit_xor c b) m j) (bit_at_xor c b j) down mask (bit_at-lt a k) (bit_at-lt b j)

first_kept : (a b c s m k j : ℕ) → bit_at s k ≡ bit_at (bit_and (bit_xor c b) m) j → bit_at m j ≡ 0
    → bit_at (bit_xor a s) k ≡ bit_at a k
first_kept a b c s m k j up mask =
    nothing_added _ (bit_at a k) (bit_at s k) _ (bit_at (bit_xor c b) j) (bit_at m j)
    (bit_at_xor a s k) up (bit_at_and (bit_xor c b) m j) mask (bit_at-lt a k)

first_lowest : (a s k : ℕ) → bit_at s k ≡ 0 → bit_at (bit_xor a s) k ≡ bit_at a k
first_lowest a s k none = nothing_added _ (bit_at a k) (bit_at s k) 0 0 0 (bit_at_xor a s k) none refl refl (bit_at-lt a k)

turned : (b c k : ℕ) → bit_at (bit_xor c b) k ≡ bit_at (bit_xor b c) k
turned b c k = ap (λ (n : ℕ). bit_at n k) (xor_comm c b)

second_taken : (a b c m k j : ℕ) → bit_at c k ≡ bit_at a j → bit_at m k ≡ 1
    → bit_at (bit_xor b (bit_and (bit_xor c b) m)) k ≡ bit_at a j
second_taken a b c m k j down mask =
    twice_added _ (bit_at b k) _ _ (bit_at (bit_xor b c) k) (bit_at b k) (bit_at a j) (bit_at m k)
    (bit_at_xor b (bit_and (bit_xor c b) m) k) refl
    (bit_at_and (bit_xor c b) m k ∙ ap (λ (n : ℕ). min n (bit_at m k)) (turned b c k))
    (bit_at_xor b c k ∙ ap (λ (n : ℕ). (bit_at b k + n) % 2) down) refl mask (bit_at-lt b k) (bit_at-lt a j)

second_kept : (b c m k : ℕ) → bit_at m k ≡ 0 → bit_at (bit_xor b (bit_and (bit_xor c b) m)) k ≡ bit_at b k
second_kept b c m k mask =
    nothing_added _ (bit_at b k) _ _ (bit_at (bit_xor c b) k) (bit_at m k)
    (bit_at_xor b (bit_and (bit_xor c b) m) k) refl (bit_at_and (bit_xor c b) m k) mask (bit_at-lt b k)

-- ---- exchange_bits

abbrev mixed_bits : List ℕ → List ℕ → List ℕ
mixed_bits x y = zip2 bit_and (zip2 bit_xor (zip2 (λ a n. a / 2 ^ n) x (replicate 16 1)) y) (replicate 16 85)

abbrev pub first_of_bits : List ℕ → List ℕ → List ℕ
first_of_bits x y = zip2 bit_xor x (zip2 (λ a n. a * 2 ^ n % 2 ^ 8) (mixed_bits x y) (replicate 16 1))

abbrev pub second_of_bits : List ℕ → List ℕ → List ℕ
second_of_bits x y = zip2 bit_xor y (mixed_bits x y)

mixed_bits_lane : (x y : List ℕ) (i a b : ℕ) → i < 16 → IsLane x i a → IsLane y i b
    → IsLane (mixed_bits x y) i (bit_and (bit_xor (a / 2) b) 85)
mixed_bits_lane x y i a b h p q =
    IsLane-zip2 bit_and (IsLane-zip2 bit_xor (IsLane-zip2 (λ a n. a / 2 ^ n) p (IsLane-splat i 1 h)) q) (IsLane-splat i 85 h)

first_bits_lane : (x y : List ℕ) (i a b : ℕ) → i < 16 → IsLane x i a → IsLane y i b
    → IsLane (first_of_bits x y) i (bit_xor a (bit_and (bit_xor (a / 2) b) 85 * 2 % 256))
first_bits_lane x y i a b h p q =
    IsLane-zip2 bit_xor p (IsLane-zip2 (λ a n. a * 2 ^ n % 2 ^ 8) (mixed_bits_lane x y i a b h p q) (IsLane-splat i 1 h))

pub first_bits : (x y : List ℕ) (i k v : ℕ) → i < 16 → k < 8 → i < length x → i < length y →
    IsBit (one_of (digit 1 k) x y) i (k - 1 * (digit 1 k)) v → IsBit (first_of_bits x y) i k v
first_bits x y i k v h l p q e =
    let a = get_or x i 0 in
    let b = get_or y i 0 in
    let t = bit_and (bit_xor (a / 2) b) 85 in
    let lane : IsLane (first_of_bits x y) i (bit_xor a (t * 2 % 256))
    = first_bits_lane x y i a b h (record { within = p; value = refl }) (record { within = q; value = refl }) in
    below_eight (λ k. IsBit (one_of (digit 1 k) x y) i (k - 1 * (digit 1 k)) v → IsBit (first_of_bits x y) i k v)
    (λ e. IsBit-lane 0 v lane (first_lowest a (t * 2 % 256) 0 (omega arith) ∙ e.bit))
    (λ e. IsBit-lane 1 v lane (first_taken a b (a / 2) (t * 2 % 256) 85 1 0 (omega arith) (omega arith) refl ∙ e.bit))
    (λ e. IsBit-lane 2 v lane (first_kept a b (a / 2) (t * 2 % 256) 85 2 1 (omega arith) refl ∙ e.bit))
    (λ e. IsBit-lane 3 v lane (first_taken a b (a / 2) (t * 2 % 256) 85 3 2 (omega arith) (omega arith) refl ∙ e.bit))
    (λ e. IsBit-lane 4 v lane (first_kept a b (a / 2) (t * 2 % 256) 85 4 3 (omega arith) refl ∙ e.bit))
    (λ e. IsBit-lane 5 v lane (first_taken a b (a / 2) (t * 2 % 256) 85 5 4 (omega arith) (omega arith) refl ∙ e.bit))
    (λ e. IsBit-lane 6 v lane (first_kept a b (a / 2) (t * 2 % 256) 85 6 5 (omega arith) refl ∙ e.bit))
    (λ e. IsBit-lane 7 v lane (first_taken a b (a / 2) (t * 2 % 256) 85 7 6 (omega arith) (omega arith) refl ∙ e.bit))
    k l e

pub second_bits : (x y : List ℕ) (i k v : ℕ) → i < 16 → k < 8 → i < length x → i < length y →
    IsBit (one_of (digit 1 k) x y) i (k + 1 - 1 * (digit 1 k)) v → IsBit (second_of_bits x y) i k v
second_bits x y i k v h l p q e =
    let a = get_or x i 0 in
    let b = get_or y i 0 in
    let lane : IsLane (second_of_bits x y) i (bit_xor b (bit_and (bit_xor (a / 2) b) 85))
    = IsLane-zip2 bit_xor (record { within = q; value = refl })
    (mixed_bits_lane x y i a b h (record { within = p; value = refl }) (record { within = q; value = refl })) in
    below_eight (λ k. IsBit (one_of (digit 1 k) x y) i (k + 1 - 1 * (digit 1 k)) v → IsBit (second_of_bits x y) i k v)
    (λ e. IsBit-lane 0 v lane (second_taken a b (a / 2) 85 0 1 (omega arith) refl ∙ e.bit))
    (λ e. IsBit-lane 1 v lane (second_kept b (a / 2) 85 1 refl ∙ e.bit))
    (λ e. IsBit-lane 2 v lane (second_taken a b (a / 2) 85 2 3 (omega arith) refl ∙ e.bit))
    (λ e. IsBit-lane 3 v lane (second_kept b (a / 2) 85 3 refl ∙ e.bit))
    (λ e. IsBit-lane 4 v lane (second_taken a b (a / 2) 85 4 5 (omega arith) refl ∙ e.bit))
    (λ e. IsBit-lane 5 v lane (second_kept b (a / 2) 85 5 refl ∙ e.bit))
    (λ e. IsBit-lane 6 v lane (second_taken a b (a / 2) 85 6 7 (omega arith) refl ∙ e.bit))
    (λ e. IsBit-lane 7 v lane (second_kept b (a / 2) 85 7 refl ∙ e.bit))
    k l e

-- ---- exchange_pairs

abbrev mixed_pairs : List ℕ → List ℕ → List ℕ
mixed_pairs x y = zip2 bit_and (zip2 bit_xor (zip2 (λ a n. a / 2 ^ n) x (replicate 16 2)) y) (replicate 16 51)

abbrev pub first_of_pairs : List ℕ → List ℕ → List ℕ
first_of_pairs x y = zip2 bit_xor x (zip2 (λ a n. a * 2 ^ n % 2 ^ 8) (mixed_pairs x y) (replicate 16 2))

abbrev pub second_of_pairs : List ℕ → List ℕ → List ℕ
second_of_pairs x y = zip2 bit_xor y (mixed_pairs x y)

mixed_pairs_lane : (x y : List ℕ) (i a b : ℕ) → i < 16 → IsLane x i a → IsLane y i b
    → IsLane (mixed_pairs x y) i (bit_and (bit_xor (a / 4) b) 51)
mixed_pairs_lane x y i a b h p q =
    IsLane-zip2 bit_and (IsLane-zip2 bit_xor (IsLane-zip2 (λ a n. a / 2 ^ n) p (IsLane-splat i 2 h)) q) (IsLane-splat i 51 h)

first_pairs_lane : (x y : List ℕ) (i a b : ℕ) → i < 16 → IsLane x i a → IsLane y i b
    → IsLane (first_of_pairs x y) i (bit_xor a (bit_and (bit_xor (a / 4) b) 51 * 4 % 256))
first_pairs_lane x y i a b h p q =
    IsLane-zip2 bit_xor p (IsLane-zip2 (λ a n. a * 2 ^ n % 2 ^ 8) (mixed_pairs_lane x y i a b h p q) (IsLane-splat i 2 h))

pub first_pairs : (x y : List ℕ) (i k v : ℕ) → i < 16 → k < 8 → i < length x → i < length y →
    IsBit (one_of (digit 2 k) x y) i (k - 2 * (digit 2 k)) v → IsBit (first_of_pairs x y) i k v
first_pairs x y i k v h l p q e =
    let a = get_or x i 0 in
    let b = get_or y i 0 in
    let t = bit_and (bit_xor (a / 4) b) 51 in
    let lane : IsLane (first_of_pairs x y) i (bit_xor a (t * 4 % 256))
    = first_pairs_lane x y i a b h (record { within = p; value = refl }) (record { within = q; value = refl }) in
    below_eight (λ k. IsBit (one_of (digit 2 k) x y) i (k - 2 * (digit 2 k)) v → IsBit (first_of_pairs x y) i k v)
    (λ e. IsBit-lane 0 v lane (first_lowest a (t * 4 % 256) 0 (omega arith) ∙ e.bit))
    (λ e. IsBit-lane 1 v lane (first_lowest a (t * 4 % 256) 1 (omega arith) ∙ e.bit))
    (λ e. IsBit-lane 2 v lane (first_taken a b (a / 4) (t * 4 % 256) 51 2 0 (omega arith) (omega arith) refl ∙ e.bit))
    (λ e. IsBit-lane 3 v lane (first_taken a b (a / 4) (t * 4 % 256) 51 3 1 (omega arith) (omega arith) refl ∙ e.bit))
    (λ e. IsBit-lane 4 v lane (first_kept a b (a / 4) (t * 4 % 256) 51 4 2 (omega arith) refl ∙ e.bit))
    (λ e. IsBit-lane 5 v lane (first_kept a b (a / 4) (t * 4 % 256) 51 5 3 (omega arith) refl ∙ e.bit))
    (λ e. IsBit-lane 6 v lane (first_taken a b (a / 4) (t * 4 % 256) 51 6 4 (omega arith) (omega arith) refl ∙ e.bit))
    (λ e. IsBit-lane 7 v lane (first_taken a b (a / 4) (t * 4 % 256) 51 7 5 (omega arith) (omega arith) refl ∙ e.bit))
    k l e

pub second_pairs : (x y : List ℕ) (i k v : ℕ) → i < 16 → k < 8 → i < length x → i < length y →
    IsBit (one_of (digit 2 k) x y) i (k + 2 - 2 * (digit 2 k)) v → IsBit (second_of_pairs x y) i k v
second_pairs x y i k v h l p q e =
    let a = get_or x i 0 in
    let b = get_or y i 0 in
    let lane : IsLane (second_of_pairs x y) i (bit_xor b (bit_and (bit_xor (a / 4) b) 51))
    = IsLane-zip2 bit_xor (record { within = q; value = refl })
    (mixed_pairs_lane x y i a b h (record { within = p; value = refl }) (record { within = q; value = refl })) in
    below_eight (λ k. IsBit (one_of (digit 2 k) x y) i (k + 2 - 2 * (digit 2 k)) v → IsBit (second_of_pairs x y) i k v)
    (λ e. IsBit-lane 0 v lane (second_taken a b (a / 4) 51 0 2 (omega arith) refl ∙ e.bit))
    (λ e. IsBit-lane 1 v lane (second_taken a b (a / 4) 51 1 3 (omega arith) refl ∙ e.bit))
    (λ e. IsBit-lane 2 v lane (second_kept b (a / 4) 51 2 refl ∙ e.bit))
    (λ e. IsBit-lane 3 v lane (second_kept b (a / 4) 51 3 refl ∙ e.bit))
    (λ e. IsBit-lane 4 v lane (second_taken a b (a / 4) 51 4 6 (omega arith) refl ∙ e.bit))
    (λ e. IsBit-lane 5 v lane (second_taken a b (a / 4) 51 5 7 (omega arith) refl ∙ e.bit))
    (λ e. IsBit-lane 6 v lane (second_kept b (a / 4) 51 6 refl ∙ e.bit))
    (λ e. IsBit-lane 7 v lane (second_kept b (a / 4) 51 7 refl ∙ e.bit))
    k l e

-- ---- exchange_halves

abbrev mixed_halves : List ℕ → List ℕ → List ℕ
mixed_halves x y = zip2 bit_and (zip2 bit_xor (zip2 (λ a n. a / 2 ^ n) x (replicate 16 4)) y) (replicate 16 15)

abbrev pub first_of_halves : List ℕ → List ℕ → List ℕ
first_of_halves x y = zip2 bit_xor x (zip2 (λ a n. a * 2 ^ n % 2 ^ 8) (mixed_halves x y) (replicate 16 4))

abbrev pub second_of_halves : List ℕ → List ℕ → List ℕ
second_of_halves x y = zip2 bit_xor y (mixed_halves x y)

mixed_halves_lane : (x y : List ℕ) (i a b : ℕ) → i < 16 → IsLane x i a → IsLane y i b
    → IsLane (mixed_halves x y) i (bit_and (bit_xor (a / 16) b) 15)
mixed_halves_lane x y i a b h p q =
    IsLane-zip2 bit_and (IsLane-zip2 bit_xor (IsLane-zip2 (λ a n. a / 2 ^ n) p (IsLane-splat i 4 h)) q) (IsLane-splat i 15 h)

first_halves_lane : (x y : List ℕ) (i a b : ℕ) → i < 16 → IsLane x i a → IsLane y i b
    → IsLane (first_of_halves x y) i (bit_xor a (bit_and (bit_xor (a / 16) b) 15 * 16 % 256))
first_halves_lane x y i a b h p q =
    IsLane-zip2 bit_xor p (IsLane-zip2 (λ a n. a * 2 ^ n % 2 ^ 8) (mixed_halves_lane x y i a b h p q) (IsLane-splat i 4 h))

pub first_halves : (x y : List ℕ) (i k v : ℕ) → i < 16 → k < 8 → i < length x → i < length y →
    IsBit (one_of (digit 4 k) x y) i (k - 4 * (digit 4 k)) v → IsBit (first_of_halves x y) i k v
first_halves x y i k v h l p q e =
    let a = get_or x i 0 in
    let b = get_or y i 0 in
    let t = bit_and (bit_xor (a / 16) b) 15 in
    let lane : IsLane (first_of_halves x y) i (bit_xor a (t * 16 % 256))
    = first_halves_lane x y i a b h (record { within = p; value = refl }) (record { within = q; value = refl }) in
    below_eight (λ k. IsBit (one_of (digit 4 k) x y) i (k - 4 * (digit 4 k)) v → IsBit (first_of_halves x y) i k v)
    (λ e. IsBit-lane 0 v lane (first_lowest a (t * 16 % 256) 0 (omega arith) ∙ e.bit))
    (λ e. IsBit-lane 1 v lane (first_lowest a (t * 16 % 256) 1 (omega arith) ∙ e.bit))
    (λ e. IsBit-lane 2 v lane (first_lowest a (t * 16 % 256) 2 (omega arith) ∙ e.bit))
    (λ e. IsBit-lane 3 v lane (first_lowest a (t * 16 % 256) 3 (omega arith) ∙ e.bit))
    (λ e. IsBit-lane 4 v lane (first_taken a b (a / 16) (t * 16 % 256) 15 4 0 (omega arith) (omega arith) refl ∙ e.bit))
    (λ e. IsBit-lane 5 v lane (first_taken a b (a / 16) (t * 16 % 256) 15 5 1 (omega arith) (omega arith) refl ∙ e.bit))
    (λ e. IsBit-lane 6 v lane (first_taken a b (a / 16) (t * 16 % 256) 15 6 2 (omega arith) (omega arith) refl ∙ e.bit))
    (λ e. IsBit-lane 7 v lane (first_taken a b (a / 16) (t * 16 % 256) 15 7 3 (omega arith) (omega arith) refl ∙ e.bit))
    k l e

pub second_halves : (x y : List ℕ) (i k v : ℕ) → i < 16 → k < 8 → i < length x → i < length y →
    IsBit (one_of (digit 4 k) x y) i (k + 4 - 4 * (digit 4 k)) v → IsBit (second_of_halves x y) i k v
second_halves x y i k v h l p q e =
    let a = get_or x i 0 in
    let b = get_or y i 0 in
    let lane : IsLane (second_of_halves x y) i (bit_xor b (bit_and (bit_xor (a / 16) b) 15))
    = IsLane-zip2 bit_xor (record { within = q; value = refl })
    (mixed_halves_lane x y i a b h (record { within = p; value = refl }) (record { within = q; value = refl })) in
    below_eight (λ k. IsBit (one_of (digit 4 k) x y) i (k + 4 - 4 * (digit 4 k)) v → IsBit (second_of_halves x y) i k v)
    (λ e. IsBit-lane 0 v lane (second_taken a b (a / 16) 15 0 4 (omega arith) refl ∙ e.bit))
    (λ e. IsBit-lane 1 v lane (second_taken a b (a / 16) 15 1 5 (omega arith) refl ∙ e.bit))
    (λ e. IsBit-lane 2 v lane (second_taken a b (a / 16) 15 2 6 (omega arith) refl ∙ e.bit))
    (λ e. IsBit-lane 3 v lane (second_taken a b (a / 16) 15 3 7 (omega arith) refl ∙ e.bit))
    (λ e. IsBit-lane 4 v lane (second_kept b (a / 16) 15 4 refl ∙ e.bit))
    (λ e. IsBit-lane 5 v lane (second_kept b (a / 16) 15 5 refl ∙ e.bit))
    (λ e. IsBit-lane 6 v lane (second_kept b (a / 16) 15 6 refl ∙ e.bit))
    (λ e. IsBit-lane 7 v lane (second_kept b (a / 16) 15 7 refl ∙ e.bit))
    k l e
