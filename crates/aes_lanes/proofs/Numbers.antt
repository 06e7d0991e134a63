-- Eight numbers in a row, as planes.
use Rattle.std.proofs.Common.{◌≡◌, ℕ, zero, suc, ◌+◌, ◌*◌, ◌/◌, ◌%◌, ◌^◌, ◌<◌, cond, List, [], ◌∷◌, get_or, refl, ap, sym, subst, ◌∙◌, lit<, arith}
use Rattle.std.specs.Prelude.{bit_xor, nat_eq}
use Rattle.std.specs.Int.{bit_at, w128, to_be_bytes}
use Rattle.std.specs.Simd.Lanes.{zip2}
use Rattle.std.proofs.Math.Nat.{div-div-eq-div-mul, pow-suc}
use Rattle.std.proofs.lemmas.Nat.Bits.{bit_at-zero, bit_at-lt}
use Rattle.aes_lanes.specs.Bits.{IsBit}
use Rattle.aes_lanes.specs.Places.{lane_of}
use Rattle.aes_lanes.specs.Sliced.{plane, IsByte, IsRow, IsState}
use Rattle.aes_lanes.specs.declared.planes.Planes.{Planes}
use Rattle.aes_lanes.proofs.Eight.{below_eight, below_sixteen}
use Rattle.aes_lanes.proofs.LanePlaces.{lane_of-lt}
use Rattle.aes_lanes.proofs.Lanes.{IsBit-xor, IsBit-value}

-- the bit of a vector that has only its last lane
abbrev pub last_bit : ℕ → ℕ → ℕ → ℕ
last_bit bits l b = cond (nat_eq l 15) (bit_at bits b) 0

pub last_lane_bit : (bits l b : ℕ) → l < 16
    → IsBit (0 ∷ 0 ∷ 0 ∷ 0 ∷ 0 ∷ 0 ∷ 0 ∷ 0 ∷ 0 ∷ 0 ∷ 0 ∷ 0 ∷ 0 ∷ 0 ∷ 0 ∷ bits ∷ []) l b (last_bit bits l b)
last_lane_bit bits l b h =
    below_sixteen (λ l. IsBit (0 ∷ 0 ∷ 0 ∷ 0 ∷ 0 ∷ 0 ∷ 0 ∷ 0 ∷ 0 ∷ 0 ∷ 0 ∷ 0 ∷ 0 ∷ 0 ∷ 0 ∷ bits ∷ []) l b (last_bit bits l b))
    (record { within = lit< tt; bit = bit_at-zero b })
    (record { within = lit< tt; bit = bit_at-zero b })
    (record { within = lit< tt; bit = bit_at-zero b })
    (record { within = lit< tt; bit = bit_at-zero b })
    (record { within = lit< tt; bit = bit_at-zero b })
    (record { within = lit< tt; bit = bit_at-zero b })
    (record { within = lit< tt; bit = bit_at-zero b })
    (record { within = lit< tt; bit = bit_at-zero b })
    (record { within = lit< tt; bit = bit_at-zero b })
    (record { within = lit< tt; bit = bit_at-zero b })
    (record { within = lit< tt; bit = bit_at-zero b })
    (record { within = lit< tt; bit = bit_at-zero b })
    (record { within = lit< tt; bit = bit_at-zero b })
    (record { within = lit< tt; bit = bit_at-zero b })
    (record { within = lit< tt; bit = bit_at-zero b })
    (record { within = lit< tt; bit = refl })
    l h

-- three bits more do not reach a higher byte
near : (first b n : ℕ) → b < 8 → first % 8 ≡ 0 → (first + b) / (8 * n) % 256 ≡ first / (8 * n) % 256
near first b n small eighth =
    let same : (first + b) / 8 ≡ first / 8 = omega arith in
    ap (λ (m : ℕ). m % 256) (sym (div-div-eq-div-mul (first + b) 8 n) ∙ ap (λ (m : ℕ). m / n) same ∙ div-div-eq-div-mul first 8 n)

higher_byte : (first b : ℕ) → b < 8 → first % 8 ≡ 0 → (i : ℕ) → i < 16 → i < 15 →
    get_or (to_be_bytes w128 first) i 0 ≡ get_or (to_be_bytes w128 (first + b)) i 0
higher_byte first b small eighth =
    below_sixteen (λ i. i < 15 → get_or (to_be_bytes w128 first) i 0 ≡ get_or (to_be_bytes w128 (first + b)) i 0)
    (λ h. sym (near first b 166153499473114484112975882535043072 small eighth))
    (λ h. sym (near first b 649037107316853453566312041152512 small eighth))
    (λ h. sym (near first b 2535301200456458802993406410752 small eighth))
    (λ h. sym (near first b 9903520314283042199192993792 small eighth))
    (λ h. sym (near first b 38685626227668133590597632 small eighth))
    (λ h. sym (near first b 151115727451828646838272 small eighth))
    (λ h. sym (near first b 590295810358705651712 small eighth))
    (λ h. sym (near first b 2305843009213693952 small eighth))
    (λ h. sym (near first b 9007199254740992 small eighth))
    (λ h. sym (near first b 35184372088832 small eighth))
    (λ h. sym (near first b 137438953472 small eighth))
    (λ h. sym (near first b 536870912 small eighth))
    (λ h. sym (near first b 2097152 small eighth))
    (λ h. sym (near first b 8192 small eighth))
    (λ h. sym (near first b 32 small eighth))
    (λ h. absurd (omega arith))

-- planes with three vectors added
abbrev pub with_three : Planes → List ℕ → List ℕ → List ℕ → Planes
with_three x u v w = record {
  bit0 = zip2 bit_xor x.bit0 u;
  bit1 = zip2 bit_xor x.bit1 v;
  bit2 = zip2 bit_xor x.bit2 w;
  bit3 = x.bit3;
  bit4 = x.bit4;
  bit5 = x.bit5;
  bit6 = x.bit6;
  bit7 = x.bit7;
}

-- the byte of a lane, where the bits r of the byte and those of the three vectors make those of s
record Counts (r s i j k : ℕ) : Type 0 where
  bit0 : (bit_at r 0 + i) % 2 ≡ bit_at s 0
  bit1 : (bit_at r 1 + j) % 2 ≡ bit_at s 1
  bit2 : (bit_at r 2 + k) % 2 ≡ bit_at s 2
  rest : r / 8 ≡ s / 8

counted : (x : Planes) (u v w : List ℕ) (l b r s i j k : ℕ) → Counts r s i j k → IsByte x l b r →
    IsBit u l b i → IsBit v l b j → IsBit w l b k → IsByte (with_three x u v w) l b s
counted x u v w l b r s i j k c e f g h =
    let rest = c.rest in record {
      bits = below_eight (λ p. IsBit (plane (with_three x u v w) p) l b (bit_at s p))
          (IsBit-value (IsBit-xor (e.bits 0 (lit< tt)) f) c.bit0)
          (IsBit-value (IsBit-xor (e.bits 1 (lit< tt)) g) c.bit1)
          (IsBit-value (IsBit-xor (e.bits 2 (lit< tt)) h) c.bit2)
          (IsBit-value (e.bits 3 (lit< tt)) (omega (arith, rest)))
          (IsBit-value (e.bits 4 (lit< tt)) (omega (arith, rest)))
          (IsBit-value (e.bits 5 (lit< tt)) (omega (arith, rest)))
          (IsBit-value (e.bits 6 (lit< tt)) (omega (arith, rest)))
          (IsBit-value (e.bits 7 (lit< tt)) (omega (arith, rest)));
    }

stays : (r p : ℕ) → (bit_at r p + 0) % 2 ≡ bit_at r p
stays r p = let small = bit_at-lt r p in omega (arith, small)

same_byte : (r s : ℕ) → r ≡ s → Counts r s 0 0 0
same_byte r s e = record {
  bit0 = stays r 0 ∙ ap (λ (n : ℕ). bit_at n 0) e;
  bit1 = stays r 1 ∙ ap (λ (n : ℕ). bit_at n 1) e;
  bit2 = stays r 2 ∙ ap (λ (n : ℕ). bit_at n 2) e;
  rest = ap (λ (n : ℕ). n / 8) e;
}

ones_of : (b : ℕ) → b < 8 → bit_at 0xaa b ≡ b % 2
ones_of = below_eight (λ b. bit_at 0xaa b ≡ b % 2) refl refl refl refl refl refl refl refl

twos_of : (b : ℕ) → b < 8 → bit_at 0xcc b ≡ b / 2 % 2
twos_of = below_eight (λ b. bit_at 0xcc b ≡ b / 2 % 2) refl refl refl refl refl refl refl refl

fours_of : (b : ℕ) → b < 8 → bit_at 0xf0 b ≡ b / 4 % 2
fours_of = below_eight (λ b. bit_at 0xf0 b ≡ b / 4 % 2) refl refl refl refl refl refl refl refl

last_byte : (first b r s : ℕ) → b < 8 → first % 8 ≡ 0 → r ≡ first % 256 → s ≡ (first + b) % 256 →
    Counts r s (bit_at 0xaa b) (bit_at 0xcc b) (bit_at 0xf0 b)
last_byte first b r s small eighth e f =
    let one = ones_of b small in
    let two = twos_of b small in
    let four = fours_of b small in
    record {
      bit0 = ap (λ (n : ℕ). (bit_at r 0 + n) % 2) one ∙ omega arith;
      bit1 = ap (λ (n : ℕ). (bit_at r 1 + n) % 2) two ∙ omega arith;
      bit2 = ap (λ (n : ℕ). (bit_at r 2 + n) % 2) four ∙ omega arith;
      rest = omega arith;
    }

-- the bits of a place
count_at : (first b i : ℕ) → b < 8 → first % 8 ≡ 0 → i < 16 →
    Counts (get_or (to_be_bytes w128 first) i 0) (get_or (to_be_bytes w128 (first + b)) i 0)
    (last_bit 0xaa (lane_of i) b) (last_bit 0xcc (lane_of i) b) (last_bit 0xf0 (lane_of i) b)
count_at first b i small eighth h =
    below_sixteen (λ i. Counts (get_or (to_be_bytes w128 first) i 0) (get_or (to_be_bytes w128 (first + b)) i 0)
    (last_bit 0xaa (lane_of i) b) (last_bit 0xcc (lane_of i) b) (last_bit 0xf0 (lane_of i) b))
    (same_byte _ _ (higher_byte first b small eighth 0 (lit< tt) (lit< tt)))
    (same_byte _ _ (higher_byte first b small eighth 1 (lit< tt) (lit< tt)))
    (same_byte _ _ (higher_byte first b small eighth 2 (lit< tt) (lit< tt)))
    (same_byte _ _ (higher_byte first b small eighth 3 (lit< tt) (lit< tt)))
    (same_byte _ _ (higher_byte first b small eighth 4 (lit< tt) (lit< tt)))
    (same_byte _ _ (higher_byte first b small eighth 5 (lit< tt) (lit< tt)))
    (same_byte _ _ (higher_byte first b small eighth 6 (lit< tt) (lit< tt)))
    (same_byte _ _ (higher_byte first b small eighth 7 (lit< tt) (lit< tt)))
    (same_byte _ _ (higher_byte first b small eighth 8 (lit< tt) (lit< tt)))
    (same_byte _ _ (higher_byte first b small eighth 9 (lit< tt) (lit< tt)))
    (same_byte _ _ (higher_byte first b small eighth 10 (lit< tt) (lit< tt)))
    (same_byte _ _ (higher_byte first b small eighth 11 (lit< tt) (lit< tt)))
    (same_byte _ _ (higher_byte first b small eighth 12 (lit< tt) (lit< tt)))
    (same_byte _ _ (higher_byte first b small eighth 13 (lit< tt) (lit< tt)))
    (same_byte _ _ (higher_byte first b small eighth 14 (lit< tt) (lit< tt)))
    (last_byte first b _ _ small eighth (omega arith) (omega arith))
    i h

small_byte : (n i : ℕ) → i < 16 → get_or (to_be_bytes w128 n) i 0 < 256
small_byte n = below_sixteen (λ i. get_or (to_be_bytes w128 n) i 0 < 256)
    (omega arith) (omega arith) (omega arith) (omega arith) (omega arith) (omega arith) (omega arith) (omega arith) (omega arith)
    (omega arith) (omega arith) (omega arith) (omega arith) (omega arith) (omega arith) (omega arith)

-- a number without its lowest bytes
unfoldable pub without_bytes : ℕ → ℕ → ℕ
without_bytes zero n = n
without_bytes (suc k) n = without_bytes k n / 256

byte_over : (k n : ℕ) → without_bytes (suc k) n ≡ n / 256 ^ suc k
unfolding without_bytes
byte_over zero n = refl
byte_over (suc k) n =
    ap (λ (m : ℕ). m / 256) (byte_over k n) ∙ div-div-eq-div-mul n (256 ^ suc k) 256
    ∙ ap (λ (m : ℕ). n / m) (sym (pow-suc 256 (suc k)))

byte_at : (x n k : ℕ) → x ≡ n → without_bytes (suc k) x % 256 ≡ n / 256 ^ suc k % 256
byte_at x n k e = ap (λ (m : ℕ). without_bytes (suc k) m % 256) e ∙ ap (λ (m : ℕ). m % 256) (byte_over k n)

-- its bytes in the lanes of a block
abbrev pub number_lanes : ℕ → List ℕ
number_lanes n =
    without_bytes 15 n % 256 ∷ without_bytes 11 n % 256 ∷ without_bytes 7 n % 256 ∷ without_bytes 3 n % 256
    ∷ without_bytes 14 n % 256 ∷ without_bytes 10 n % 256 ∷ without_bytes 6 n % 256 ∷ without_bytes 2 n % 256
    ∷ without_bytes 13 n % 256 ∷ without_bytes 9 n % 256 ∷ without_bytes 5 n % 256 ∷ without_bytes 1 n % 256
    ∷ without_bytes 12 n % 256 ∷ without_bytes 8 n % 256 ∷ without_bytes 4 n % 256 ∷ without_bytes 0 n % 256 ∷ []

pub IsRow-number : (halves n : ℕ) → halves ≡ n → IsRow (number_lanes halves) (to_be_bytes w128 n)
unfolding without_bytes
IsRow-number x n e = record {
  long = refl;
  lanes = refl;
  small = λ i h. small_byte n i h;
  bytes = below_sixteen (λ i. get_or (number_lanes x) (lane_of i) 0 ≡ get_or (to_be_bytes w128 n) i 0)
      (byte_at x n 14 e)
      (byte_at x n 13 e)
      (byte_at x n 12 e)
      (byte_at x n 11 e)
      (byte_at x n 10 e)
      (byte_at x n 9 e)
      (byte_at x n 8 e)
      (byte_at x n 7 e)
      (byte_at x n 6 e)
      (byte_at x n 5 e)
      (byte_at x n 4 e)
      (byte_at x n 3 e)
      (byte_at x n 2 e)
      (byte_at x n 1 e)
      (byte_at x n 0 e)
      (ap (λ (m : ℕ). m % 256) e);
}

pub numbers_state : (x : Planes) (row u v w : List ℕ) (first b : ℕ) → first % 8 ≡ 0 → b < 8 → IsRow row (to_be_bytes w128 first) →
    ((l : ℕ) → l < 16 → IsByte x l b (get_or row l 0)) →
    ((l : ℕ) → l < 16 → IsBit u l b (last_bit 0xaa l b)) → ((l : ℕ) → l < 16 → IsBit v l b (last_bit 0xcc l b)) →
    ((l : ℕ) → l < 16 → IsBit w l b (last_bit 0xf0 l b)) → IsState (with_three x u v w) b (to_be_bytes w128 (first + b))
numbers_state x row u v w first b eighth small r each ones twos fours = record {
  long = refl;
  small = λ i h. small_byte (first + b) i h;
  bytes = λ i h. let inside = lane_of-lt i h in
      counted x u v w (lane_of i) b (get_or (to_be_bytes w128 first) i 0) _ _ _ _ (count_at first b i small eighth h)
      (subst (λ (n : ℕ). IsByte x (lane_of i) b n) (r.bytes i h) (each (lane_of i) inside))
      (ones (lane_of i) inside) (twos (lane_of i) inside) (fours (lane_of i) inside);
}
