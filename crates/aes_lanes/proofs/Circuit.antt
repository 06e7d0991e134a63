-- The circuit of SubBytes as data, run on bits and on vectors.
use Rattle.std.proofs.Common.{◌≡◌, ℕ, zero, suc, ◌+◌, ◌%◌, ◌<◌, min, max, List, [], ◌∷◌, get_or, map, refl, ap, lit<}
use Rattle.std.specs.Prelude.{bit_xor, bit_and, bit_or}
use Rattle.std.specs.Int.{bit_at}
use Rattle.std.specs.List.{range_with_len}
use Rattle.std.specs.Simd.Lanes.{zip2}
use Rattle.crypto_spec.specs.Aes.{times_bits, times, inverse_from, inverse, sub_byte}
use Rattle.aes_lanes.specs.Bits.{IsBit}
use Rattle.aes_lanes.specs.Sliced.{IsByte}
use Rattle.aes_lanes.specs.declared.planes.Planes.{Planes}
use Rattle.aes_lanes.proofs.Bytes.{bits_of}
use Rattle.aes_lanes.proofs.Eight.{at_each_byte}
use Rattle.aes_lanes.proofs.Lanes.{IsBit-xor, IsBit-and, IsBit-or, IsBit-value}

-- a gate takes two wires; wire 0 is the newest
pub data Gate : Type 0 where
  xor_of : ℕ → ℕ → Gate
  and_of : ℕ → ℕ → Gate
  or_of : ℕ → ℕ → Gate

-- the wires after the gates, by what xor, and and or do, and with this value for a wire that is not there
unfoldable pub run : {A : Type 0} → (A → A → A) → (A → A → A) → (A → A → A) → A → List Gate → List A → List A
run xor and or none [] wires = wires
run xor and or none (xor_of m n ∷ gates) wires =
    run xor and or none gates (xor (get_or wires m none) (get_or wires n none) ∷ wires)
run xor and or none (and_of m n ∷ gates) wires =
    run xor and or none gates (and (get_or wires m none) (get_or wires n none) ∷ wires)
run xor and or none (or_of m n ∷ gates) wires =
    run xor and or none gates (or (get_or wires m none) (get_or wires n none) ∷ wires)

-- each wire of the second list is the bit of a lane of its vector
pub Agree : ℕ → ℕ → List (List ℕ) → List ℕ → Type 0
Agree i b [] [] = Unit {0}
Agree i b [] (v ∷ vs) = ⊥
Agree i b (x ∷ xs) [] = ⊥
Agree i b (x ∷ xs) (v ∷ vs) = IsBit x i b v × Agree i b xs vs

at_wire : (i b : ℕ) (xs : List (List ℕ)) (vs : List ℕ) (x : List ℕ) (v m : ℕ) → IsBit x i b v → Agree i b xs vs →
    IsBit (get_or xs m x) i b (get_or vs m v)
unfolding Agree
at_wire i b [] [] x v m d e = d
at_wire i b [] (w ∷ ws) x v m d e = absurd e
at_wire i b (y ∷ ys) [] x v m d e = absurd e
at_wire i b (y ∷ ys) (w ∷ ws) x v zero d e = e.0
at_wire i b (y ∷ ys) (w ∷ ws) x v (suc m) d e = at_wire i b ys ws x v m d e.1

abbrev xor_bits : ℕ → ℕ → ℕ
xor_bits m n = (m + n) % 2

-- if vectors and bits agree before, they agree after
after_run : (i b : ℕ) (gates : List Gate) (xs : List (List ℕ)) (vs : List ℕ) (x : List ℕ) (v : ℕ) → IsBit x i b v
    → Agree i b xs vs →
    Agree i b (run (zip2 bit_xor) (zip2 bit_and) (zip2 bit_or) x gates xs) (run xor_bits min max v gates vs)
unfolding run Agree
after_run i b [] xs vs x v d e = e
after_run i b (xor_of m n ∷ gates) xs vs x v d e =
    after_run i b gates _ _ x v d (IsBit-xor (at_wire i b xs vs x v m d e) (at_wire i b xs vs x v n d e), e)
after_run i b (and_of m n ∷ gates) xs vs x v d e =
    after_run i b gates _ _ x v d (IsBit-and (at_wire i b xs vs x v m d e) (at_wire i b xs vs x v n d e), e)
after_run i b (or_of m n ∷ gates) xs vs x v d e =
    after_run i b gates _ _ x v d (IsBit-or (at_wire i b xs vs x v m d e) (at_wire i b xs vs x v n d e), e)

-- the gates in the order of the code
abbrev pub gates : List Gate
gates =
    xor_of 5 6 ∷ xor_of 8 5 ∷ xor_of 3 9 ∷ xor_of 5 7 ∷ xor_of 0 1 ∷ xor_of 8 0 ∷ xor_of 6 5 ∷ xor_of 13 1 ∷
    xor_of 9 1 ∷ xor_of 3 11 ∷ xor_of 0 9 ∷ xor_of 4 18 ∷ xor_of 10 4 ∷ xor_of 3 13 ∷ xor_of 13 1 ∷
    xor_of 17 22 ∷ xor_of 20 9 ∷ xor_of 24 2 ∷ and_of 8 13 ∷ and_of 10 12 ∷ xor_of 7 9 ∷ xor_of 21 8 ∷
    and_of 20 9 ∷ and_of 23 6 ∷ and_of 8 13 ∷ and_of 10 22 ∷ and_of 5 22 ∷ xor_of 11 18 ∷ xor_of 1 5 ∷
    xor_of 6 4 ∷ xor_of 0 12 ∷ xor_of 7 1 ∷ xor_of 17 29 ∷ xor_of 4 7 ∷ and_of 20 6 ∷ xor_of 15 1 ∷
    xor_of 17 4 ∷ xor_of 26 21 ∷ xor_of 1 0 ∷ xor_of 4 31 ∷ xor_of 7 4 ∷ and_of 19 29 ∷ xor_of 23 2 ∷
    xor_of 0 14 ∷ and_of 3 5 ∷ xor_of 19 3 ∷ xor_of 0 15 ∷ or_of 0 2 ∷ xor_of 9 4 ∷ and_of 5 8 ∷
    xor_of 11 0 ∷ xor_of 1 4 ∷ and_of 5 8 ∷ and_of 1 4 ∷ xor_of 13 7 ∷ xor_of 16 1 ∷ and_of 1 5 ∷
    xor_of 10 0 ∷ xor_of 10 8 ∷ and_of 59 1 ∷ xor_of 19 1 ∷ or_of 8 22 ∷ xor_of 12 0 ∷ and_of 35 2 ∷
    xor_of 3 6 ∷ xor_of 9 7 ∷ xor_of 22 3 ∷ and_of 6 53 ∷ xor_of 12 1 ∷ and_of 47 13 ∷ and_of 5 65 ∷
    xor_of 10 4 ∷ xor_of 0 6 ∷ and_of 6 66 ∷ and_of 9 64 ∷ and_of 60 6 ∷ xor_of 0 2 ∷ xor_of 2 17 ∷
    and_of 11 69 ∷ and_of 58 6 ∷ and_of 64 8 ∷ and_of 23 64 ∷ xor_of 7 14 ∷ and_of 80 14 ∷ and_of 73 12 ∷
    and_of 83 19 ∷ and_of 13 82 ∷ xor_of 0 1 ∷ xor_of 24 0 ∷ xor_of 6 12 ∷ xor_of 1 19 ∷ xor_of 12 3 ∷
    xor_of 12 15 ∷ xor_of 17 23 ∷ xor_of 12 5 ∷ xor_of 4 5 ∷ and_of 84 40 ∷ and_of 31 84 ∷ xor_of 13 14 ∷
    xor_of 5 21 ∷ xor_of 22 1 ∷ xor_of 8 0 ∷ xor_of 9 4 ∷ xor_of 3 11 ∷ xor_of 0 2 ∷ xor_of 3 8 ∷
    xor_of 15 3 ∷ xor_of 11 7 ∷ xor_of 22 5 ∷ xor_of 5 25 ∷ xor_of 4 15 ∷ xor_of 15 8 ∷ xor_of 31 3 ∷
    xor_of 7 0 ∷ []

-- the wires at the start
abbrev pub planes_in : Planes → List (List ℕ)
planes_in x = x.bit0 ∷ x.bit1 ∷ x.bit2 ∷ x.bit3 ∷ x.bit4 ∷ x.bit5 ∷ x.bit6 ∷ x.bit7 ∷ []

-- what the circuit makes of a byte: SubBytes without the constant of the affine map
abbrev pub circuit_byte : ℕ → ℕ
circuit_byte v = bit_xor (sub_byte v) 0x63

-- the wires that carry the result, its lowest bit first
abbrev pub results : {A : Type 0} → A → List A → List A
results none wires =
    get_or wires 4 none ∷ get_or wires 9 none ∷ get_or wires 3 none ∷ get_or wires 6 none
    ∷ get_or wires 18 none ∷ get_or wires 0 none ∷ get_or wires 2 none ∷ get_or wires 7 none ∷ []

bits_everywhere : map (λ v. results (bit_at v 0) (run xor_bits min max (bit_at v 0) gates (bits_of v))) (range_with_len 0 256)
    ≡ map (λ v. bits_of (circuit_byte v)) (range_with_len 0 256)
unfolding run times_bits times inverse_from inverse sub_byte
bits_everywhere = refl

result_bit : (v p : ℕ) → v < 256
    → get_or (results (bit_at v 0) (run xor_bits min max (bit_at v 0) gates (bits_of v))) p (bit_at v 0)
    ≡ get_or (bits_of (circuit_byte v)) p (bit_at v 0)
result_bit v p h =
    ap (λ (bits : List ℕ). get_or bits p (bit_at v 0))
    (at_each_byte (λ v. results (bit_at v 0) (run xor_bits min max (bit_at v 0) gates (bits_of v)))
    (λ v. bits_of (circuit_byte v)) bits_everywhere v h)

planes_agree : (x : Planes) (i b v : ℕ) → IsByte x i b v → Agree i b (planes_in x) (bits_of v)
unfolding Agree
planes_agree x i b v e = (
  e.bits 0 (lit< tt),
  (
    e.bits 1 (lit< tt),
    (
      e.bits 2 (lit< tt),
      (
        e.bits 3 (lit< tt),
        (e.bits 4 (lit< tt), (e.bits 5 (lit< tt), (e.bits 6 (lit< tt), (e.bits 7 (lit< tt), tt)))),
      ),
    ),
  ),
)

-- a wire of the circuit on planes
wire_out : (x : Planes) (i b v m : ℕ) → IsByte x i b v →
    IsBit (get_or (run (zip2 bit_xor) (zip2 bit_and) (zip2 bit_or) x.bit0 gates (planes_in x)) m x.bit0) i b
    (get_or (run xor_bits min max (bit_at v 0) gates (bits_of v)) m (bit_at v 0))
wire_out x i b v m e =
    at_wire i b (run (zip2 bit_xor) (zip2 bit_and) (zip2 bit_or) x.bit0 gates (planes_in x))
    (run xor_bits min max (bit_at v 0) gates (bits_of v)) x.bit0 (bit_at v 0) m (e.bits 0 (lit< tt))
    (after_run i b gates (planes_in x) (bits_of v) x.bit0 (bit_at v 0) (e.bits 0 (lit< tt)) (planes_agree x i b v e))

pub substituted_bit0 : (x : Planes) (i b v : ℕ) → v < 256 → IsByte x i b v →
    IsBit (get_or (run (zip2 bit_xor) (zip2 bit_and) (zip2 bit_or) x.bit0 gates (planes_in x)) 4 x.bit0) i b
    (bit_at (circuit_byte v) 0)
substituted_bit0 x i b v s e = IsBit-value (wire_out x i b v 4 e) (result_bit v 0 s)

pub substituted_bit1 : (x : Planes) (i b v : ℕ) → v < 256 → IsByte x i b v →
    IsBit (get_or (run (zip2 bit_xor) (zip2 bit_and) (zip2 bit_or) x.bit0 gates (planes_in x)) 9 x.bit0) i b
    (bit_at (circuit_byte v) 1)
substituted_bit1 x i b v s e = IsBit-value (wire_out x i b v 9 e) (result_bit v 1 s)

pub substituted_bit2 : (x : Planes) (i b v : ℕ) → v < 256 → IsByte x i b v →
    IsBit (get_or (run (zip2 bit_xor) (zip2 bit_and) (zip2 bit_or) x.bit0 gates (planes_in x)) 3 x.bit0) i b
    (bit_at (circuit_byte v) 2)
substituted_bit2 x i b v s e = IsBit-value (wire_out x i b v 3 e) (result_bit v 2 s)

pub substituted_bit3 : (x : Planes) (i b v : ℕ) → v < 256 → IsByte x i b v →
    IsBit (get_or (run (zip2 bit_xor) (zip2 bit_and) (zip2 bit_or) x.bit0 gates (planes_in x)) 6 x.bit0) i b
    (bit_at (circuit_byte v) 3)
substituted_bit3 x i b v s e = IsBit-value (wire_out x i b v 6 e) (result_bit v 3 s)

pub substituted_bit4 : (x : Planes) (i b v : ℕ) → v < 256 → IsByte x i b v →
    IsBit (get_or (run (zip2 bit_xor) (zip2 bit_and) (zip2 bit_or) x.bit0 gates (planes_in x)) 18 x.bit0) i b
    (bit_at (circuit_byte v) 4)
substituted_bit4 x i b v s e = IsBit-value (wire_out x i b v 18 e) (result_bit v 4 s)

pub substituted_bit5 : (x : Planes) (i b v : ℕ) → v < 256 → IsByte x i b v →
    IsBit (get_or (run (zip2 bit_xor) (zip2 bit_and) (zip2 bit_or) x.bit0 gates (planes_in x)) 0 x.bit0) i b
    (bit_at (circuit_byte v) 5)
substituted_bit5 x i b v s e = IsBit-value (wire_out x i b v 0 e) (result_bit v 5 s)

pub substituted_bit6 : (x : Planes) (i b v : ℕ) → v < 256 → IsByte x i b v →
    IsBit (get_or (run (zip2 bit_xor) (zip2 bit_and) (zip2 bit_or) x.bit0 gates (planes_in x)) 2 x.bit0) i b
    (bit_at (circuit_byte v) 6)
substituted_bit6 x i b v s e = IsBit-value (wire_out x i b v 2 e) (result_bit v 6 s)

pub substituted_bit7 : (x : Planes) (i b v : ℕ) → v < 256 → IsByte x i b v →
    IsBit (get_or (run (zip2 bit_xor) (zip2 bit_and) (zip2 bit_or) x.bit0 gates (planes_in x)) 7 x.bit0) i b
    (bit_at (circuit_byte v) 7)
substituted_bit7 x i b v s e = IsBit-value (wire_out x i b v 7 e) (result_bit v 7 s)
