-- Lanes of vectors, and their bits.
use Rattle.std.proofs.Common.{◌≡◌, ℕ, zero, suc, ◌+◌, ◌%◌, ◌<◌, min, max, List, [], ◌∷◌, length, get_or, replicate, refl, subst, ap, sym, ◌∙◌, arith}
use Rattle.std.specs.Prelude.{bit_xor, bit_and, bit_or}
use Rattle.std.specs.Int.{bit_at}
use Rattle.std.specs.Simd.Lanes.{zip2}
use Rattle.std.proofs.lemmas.Simd.{get_or-zip2, get_or-replicate}
use Rattle.std.proofs.lemmas.Nat.Bits.{bit_at_xor, bit_at_and, bit_at_or}
use Rattle.aes_lanes.specs.Bits.{IsBit}

-- lane i of a vector is v
pub record IsLane (x : List ℕ) (i v : ℕ) : Type 0 where
  pub within : i < length x
  pub value : get_or x i 0 ≡ v

pub within-zip2 : (f : ℕ → ℕ → ℕ) (xs ys : List ℕ) (i : ℕ) → i < length xs → i < length ys → i < length (zip2 f xs ys)
within-zip2 f [] ys i h l = absurd (omega arith)
within-zip2 f (x ∷ xs) [] i h l = absurd (omega arith)
within-zip2 f (x ∷ xs) (y ∷ ys) zero h l = omega arith
within-zip2 f (x ∷ xs) (y ∷ ys) (suc i) h l =
    let rest : i < length (zip2 f xs ys) = within-zip2 f xs ys i (omega arith) (omega arith) in omega arith

pub IsLane-zip2 : (f : ℕ → ℕ → ℕ) {xs ys : List ℕ} {i m n : ℕ} → IsLane xs i m → IsLane ys i n → IsLane (zip2 f xs ys) i (f m n)
IsLane-zip2 f {xs} {ys} {i} {m} {n} x y = record {
  within = within-zip2 f xs ys i x.within y.within;
  value = get_or-zip2 f xs ys i 0 0 0 x.within y.within ∙ ap (λ (a : ℕ). f a (get_or ys i 0)) x.value ∙ ap (f m) y.value;
}

pub IsLane-splat : (i v : ℕ) → i < 16 → IsLane (replicate 16 v) i v
IsLane-splat i v h = record { within = h; value = get_or-replicate 16 i v 0 h }

pub IsLane-self : {xs : List ℕ} {i b v : ℕ} → IsBit xs i b v → IsLane xs i (get_or xs i 0)
IsLane-self x = record { within = x.within; value = refl }

pub IsBit-lane : {xs : List ℕ} {i m : ℕ} (b v : ℕ) → IsLane xs i m → bit_at m b ≡ v → IsBit xs i b v
IsBit-lane b v x e = record { within = x.within; bit = ap (λ (n : ℕ). bit_at n b) x.value ∙ e }

pub IsBit-xor : {xs ys : List ℕ} {i b m n : ℕ} → IsBit xs i b m → IsBit ys i b n → IsBit (zip2 bit_xor xs ys) i b ((m + n) % 2)
IsBit-xor {xs} {ys} {i} {b} {m} {n} x y =
    IsBit-lane b _ (IsLane-zip2 bit_xor (IsLane-self x) (IsLane-self y))
    (bit_at_xor (get_or xs i 0) (get_or ys i 0) b
    ∙ ap (λ (k : ℕ). (k + bit_at (get_or ys i 0) b) % 2) x.bit ∙ ap (λ (k : ℕ). (m + k) % 2) y.bit)

pub IsBit-and : {xs ys : List ℕ} {i b m n : ℕ} → IsBit xs i b m → IsBit ys i b n → IsBit (zip2 bit_and xs ys) i b (min m n)
IsBit-and {xs} {ys} {i} {b} {m} {n} x y =
    IsBit-lane b _ (IsLane-zip2 bit_and (IsLane-self x) (IsLane-self y))
    (bit_at_and (get_or xs i 0) (get_or ys i 0) b
    ∙ ap (λ (k : ℕ). min k (bit_at (get_or ys i 0) b)) x.bit ∙ ap (λ (k : ℕ). min m k) y.bit)

pub IsBit-or : {xs ys : List ℕ} {i b m n : ℕ} → IsBit xs i b m → IsBit ys i b n → IsBit (zip2 bit_or xs ys) i b (max m n)
IsBit-or {xs} {ys} {i} {b} {m} {n} x y =
    IsBit-lane b _ (IsLane-zip2 bit_or (IsLane-self x) (IsLane-self y))
    (bit_at_or (get_or xs i 0) (get_or ys i 0) b
    ∙ ap (λ (k : ℕ). max k (bit_at (get_or ys i 0) b)) x.bit ∙ ap (λ (k : ℕ). max m k) y.bit)

pub IsBit-value : {xs : List ℕ} {i b m n : ℕ} → IsBit xs i b m → m ≡ n → IsBit xs i b n
IsBit-value x e = record { within = x.within; bit = x.bit ∙ e }

pub IsBit-at : {x y : List ℕ} {i k l v : ℕ} → x ≡ y → k ≡ l → IsBit x i k v → IsBit y i l v
IsBit-at {x} {y} {i} {k} {l} {v} e f b =
    let moved : IsBit y i k v = subst (λ (z : List ℕ). IsBit z i k v) e b in
    subst (λ (n : ℕ). IsBit y i n v) f moved

-- the bits of a sum
pub IsBit-sum : {xs ys : List ℕ} {i b : ℕ} (v w p : ℕ) → IsBit xs i b (bit_at v p) → IsBit ys i b (bit_at w p) →
    IsBit (zip2 bit_xor xs ys) i b (bit_at (bit_xor v w) p)
IsBit-sum v w p x y = IsBit-value (IsBit-xor x y) (sym (bit_at_xor v w p))
