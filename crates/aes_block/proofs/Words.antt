-- Words seen as their four bytes.
use Rattle.std.proofs.Common.{◌≡◌, ℕ, ◌^◌, ◌<◌, ◌/◌, ◌%◌, ◌∷◌, [], ◌++◌, List, ap, ◌∙◌, arith}
use Rattle.std.specs.Prelude.{bit_xor}
use Rattle.std.specs.Int.{w32, to_le_bytes}
use Rattle.std.proofs.lemmas.Nat.{xor_shr, xor_mod}
use Rattle.crypto_spec.specs.Aes.{add, mix_column}
use Rattle.aes_block.specs.MatrixColumns.{first_column, second_column, third_column, fourth_column}

pub to_le_bytes-xor : (x y : ℕ) → to_le_bytes w32 (bit_xor x y) ≡ add (to_le_bytes w32 x) (to_le_bytes w32 y)
to_le_bytes-xor x y =
    rw (
      xor_shr x y 8,
      xor_shr x y 16,
      xor_shr x y 24,
      xor_mod x y 8,
      xor_mod (x / 256) (y / 256) 8,
      xor_mod (x / 65536) (y / 65536) 8,
      xor_mod (x / 16777216) (y / 16777216) 8,
    )

pub same_two : {A B C : Type 0} (f : A → B → C) (x p : A) (y q : B) → x ≡ p → y ≡ q → f x y ≡ f p q
same_two f x p y q a b = cc

pub same_four : {A B : Type 0} (f : A → A → A → A → B) (x y z w p q r s : A) → x ≡ p → y ≡ q → z ≡ r → w ≡ s
    → f x y z w ≡ f p q r s
same_four f x y z w p q r s a b c d = cc

-- four columns, each the sum of two words
pub columns-xor : (a b c d p q r s : ℕ) →
    to_le_bytes w32 (bit_xor a p) ++ to_le_bytes w32 (bit_xor b q) ++ to_le_bytes w32 (bit_xor c r)
    ++ to_le_bytes w32 (bit_xor d s)
    ≡ add (to_le_bytes w32 a ++ to_le_bytes w32 b ++ to_le_bytes w32 c ++ to_le_bytes w32 d)
    (to_le_bytes w32 p ++ to_le_bytes w32 q ++ to_le_bytes w32 r ++ to_le_bytes w32 s)
columns-xor a b c d p q r s =
    same_four (λ (w x y z : List ℕ). w ++ x ++ y ++ z) _ _ _ _ _ _ _ _
    (to_le_bytes-xor a p) (to_le_bytes-xor b q) (to_le_bytes-xor c r) (to_le_bytes-xor d s)

-- four look-ups and a word of the round key make a column
pub mixed : (t u v w key a b c d : ℕ) →
    to_le_bytes w32 t ≡ first_column a → to_le_bytes w32 u ≡ second_column b →
    to_le_bytes w32 v ≡ third_column c → to_le_bytes w32 w ≡ fourth_column d →
    to_le_bytes w32 (bit_xor (bit_xor (bit_xor (bit_xor t u) v) w) key) ≡ add (mix_column a b c d) (to_le_bytes w32 key)
mixed t u v w key a b c d et eu ev ew =
    to_le_bytes-xor (bit_xor (bit_xor (bit_xor t u) v) w) key
    ∙ ap (λ (x : List ℕ). add x (to_le_bytes w32 key)) (to_le_bytes-xor (bit_xor (bit_xor t u) v) w)
    ∙ ap (λ (x : List ℕ). add (add x (to_le_bytes w32 w)) (to_le_bytes w32 key)) (to_le_bytes-xor (bit_xor t u) v)
    ∙ ap (λ (x : List ℕ). add (add (add x (to_le_bytes w32 v)) (to_le_bytes w32 w)) (to_le_bytes w32 key)) (to_le_bytes-xor t u)
    ∙ same_four (λ (p q r s : List ℕ). add (add (add (add p q) r) s) (to_le_bytes w32 key)) _ _ _ _ _ _ _ _ et eu ev ew

-- the highest byte of a word
pub top_byte : (w : ℕ) → w < 2 ^ 32 → w / 16777216 ≡ w / 16777216 % 256
top_byte w h = omega arith

-- a byte as a word
pub to_le_bytes-byte : (b : ℕ) → b < 256 → to_le_bytes w32 b ≡ b ∷ 0 ∷ 0 ∷ 0 ∷ []
to_le_bytes-byte b h =
    same_four (λ (p q r s : ℕ). p ∷ q ∷ r ∷ s ∷ []) _ _ _ _ _ _ _ _ (omega arith) (omega arith) (omega arith) (omega arith)
