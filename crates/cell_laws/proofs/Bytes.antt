-- Bytes, and numbers of two and four of them.
use Rattle.std.proofs.Common.{ℕ, zero, suc, ◌≡◌, ◌+◌, ◌^◌, ◌<◌, [], ◌∷◌, ◌++◌, List, length, length-take, take, drop, lit<, refl, subst, arith, inl, inr}
use Rattle.std.specs.Int.{w16, w32, Width, byte_at, byte_len, bytes_high_first, to_be_bytes, from_be_bytes}
use Rattle.std.proofs.lemmas.Bool.{cases_lt}
use Rattle.std.proofs.lemmas.List.{take_at, drop_at, get_or-take, get_or-drop, get_or_past}
use Rattle.std.proofs.lemmas.Nat.{be_bytes_2, be_bytes_4}
use Rattle.tor_spec.specs.CellStream.{IsBytes}

pub IsBytes-take : (n : ℕ) (bytes : List ℕ) → IsBytes bytes → IsBytes (take n bytes)
IsBytes-take n bytes fits i = elim (cases_lt i n) [
  | inl below ↦ rw (get_or-take n bytes i 0 below) (fits i)
  | inr above ↦ rw (get_or_past (take n bytes) i 0 (simp length-take (omega arith))) (lit< tt)
]

pub IsBytes-drop : (n : ℕ) (bytes : List ℕ) → IsBytes bytes → IsBytes (drop n bytes)
IsBytes-drop n bytes fits i = rw (get_or-drop n bytes i 0) (fits (n + i))

pub IsBytes-left : (front back : List ℕ) → IsBytes (front ++ back) → IsBytes front
IsBytes-left front back fits =
    subst IsBytes (take_at front back (length front) refl) (IsBytes-take (length front) (front ++ back) fits)

pub IsBytes-right : (front back : List ℕ) → IsBytes (front ++ back) → IsBytes back
IsBytes-right front back fits =
    subst IsBytes (drop_at front back (length front) refl) (IsBytes-drop (length front) (front ++ back) fits)

pub IsBytes-cons : (byte : ℕ) (bytes : List ℕ) → byte < 256 → IsBytes bytes → IsBytes (byte ∷ bytes)
IsBytes-cons byte bytes here later zero = here
IsBytes-cons byte bytes here later (suc i) = later i

pub IsBytes-append : (front back : List ℕ) → IsBytes front → IsBytes back → IsBytes (front ++ back)
IsBytes-append [] back front_fits back_fits = back_fits
IsBytes-append (b ∷ front) back front_fits back_fits =
    IsBytes-cons b (front ++ back) (front_fits 0) (IsBytes-append front back (IsBytes-drop 1 (b ∷ front) front_fits) back_fits)

byte_fits : (i n : ℕ) → byte_at i n < 256
byte_fits zero n = omega arith
byte_fits (suc i) n = omega arith

high_first_fit : (k n : ℕ) → IsBytes (bytes_high_first k n)
high_first_fit zero n = λ i. lit< tt
high_first_fit (suc k) n = IsBytes-cons (byte_at k n) (bytes_high_first k n) (byte_fits k n) (high_first_fit k n)

pub IsBytes-to_be_bytes : (w : Width) (n : ℕ) → IsBytes (to_be_bytes w n)
IsBytes-to_be_bytes w n = high_first_fit (byte_len w) n

pub two_bytes : (h l : ℕ) (more : List ℕ) → IsBytes (h ∷ l ∷ more) → to_be_bytes w16 (from_be_bytes w16 (h ∷ l ∷ [])) ≡ h ∷ l ∷ []
two_bytes h l more fits = be_bytes_2 (h ∷ l ∷ []) _ refl (IsBytes-take 2 (h ∷ l ∷ more) fits) refl

pub two_fit : (h l : ℕ) (more : List ℕ) → IsBytes (h ∷ l ∷ more) → from_be_bytes w16 (h ∷ l ∷ []) < 2 ^ 16
two_fit h l more fits =
    let high : h < 256 = fits 0 in
    let low : l < 256 = fits 1 in
    omega arith

pub four_bytes : (b0 b1 b2 b3 : ℕ) (more : List ℕ) → IsBytes (b0 ∷ b1 ∷ b2 ∷ b3 ∷ more)
    → to_be_bytes w32 (from_be_bytes w32 (b0 ∷ b1 ∷ b2 ∷ b3 ∷ [])) ≡ b0 ∷ b1 ∷ b2 ∷ b3 ∷ []
four_bytes b0 b1 b2 b3 more fits =
    be_bytes_4 (b0 ∷ b1 ∷ b2 ∷ b3 ∷ []) _ refl (IsBytes-take 4 (b0 ∷ b1 ∷ b2 ∷ b3 ∷ more) fits) refl

pub four_fit : (b0 b1 b2 b3 : ℕ) (more : List ℕ) → IsBytes (b0 ∷ b1 ∷ b2 ∷ b3 ∷ more)
    → from_be_bytes w32 (b0 ∷ b1 ∷ b2 ∷ b3 ∷ []) < 2 ^ 32
four_fit b0 b1 b2 b3 more fits =
    let f0 : b0 < 256 = fits 0 in
    let f1 : b1 < 256 = fits 1 in
    let f2 : b2 < 256 = fits 2 in
    let f3 : b3 < 256 = fits 3 in
    omega arith
