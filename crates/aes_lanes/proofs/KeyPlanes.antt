-- The planes of a round key.
use Rattle.std.proofs.Common.{◌≡◌, ℕ, ◌*◌, ◌^◌, ◌<◌, Bool, true, false, cond, List, length, get_or, map, replicate, ap, subst, sym, ◌∙◌, arith}
use Rattle.std.specs.Prelude.{bit_and, nat_eq}
use Rattle.std.specs.Int.{bit_at}
use Rattle.std.specs.Simd.Lanes.{zip2, sel_l, top}
use Rattle.std.proofs.lemmas.Bool.Decides.{nat_tests}
use Rattle.std.proofs.lemmas.Simd.{tops_compared, length-sel_l, get_or-sel_l, get_or-zip2, length-zip2, get_or-replicate}
use Rattle.std.proofs.lemmas.Nat.{pow_pos}
use Rattle.std.proofs.lemmas.Nat.Bits.{and_pow, bit_at-lt, bit_at-zero, bit_at_ones}
use mir.Syntax.{w8}
use Rattle.aes_lanes.specs.Bits.{IsBit}
use Rattle.aes_lanes.proofs.Eight.{below_two}

-- q is 0 or 1: all bits are set, or none
all_or_none : (q m b : ℕ) → q < 2 → 0 < m → b < 8 → bit_at (cond (nat_eq (q * m) m) 255 0) b ≡ q
all_or_none q m b h p l =
    below_two (λ q. bit_at (cond (nat_eq (q * m) m) 255 0) b ≡ q)
    (let no : nat_eq (0 * m) m ≡ false = grind (arith, nat_tests) in
    ap (λ (t : Bool). bit_at (cond t 255 0) b) no ∙ bit_at-zero b)
    (let yes : nat_eq (1 * m) m ≡ true = grind (arith, nat_tests) in
    ap (λ (t : Bool). bit_at (cond t 255 0) b) yes ∙ bit_at_ones 8 b l)
    q h

-- bit p of a byte, by a test of the byte under a mask
masked_test : (byte p b : ℕ) → b < 8 → bit_at (cond (nat_eq (bit_and byte (2 ^ p)) (2 ^ p)) 255 0) b ≡ bit_at byte p
masked_test byte p b h =
    ap (λ (n : ℕ). bit_at (cond (nat_eq n (2 ^ p)) 255 0) b) (and_pow byte p)
    ∙ all_or_none (bit_at byte p) (2 ^ p) b (bit_at-lt byte p) (pow_pos p) h

-- what the comparison and the choice of lanes give
abbrev pub key_plane_of : List ℕ → ℕ → List ℕ
key_plane_of key bit =
    sel_l (map (top 7) (zip2 (λ a b. cond (nat_eq a b) 255 0) (zip2 bit_and key (replicate 16 bit)) (replicate 16 bit)))
    (replicate 16 255) (replicate 16 0)

pub IsBit-key_plane : (key : List ℕ) (bit i b p : ℕ) → length key ≡ 16 → i < 16 → b < 8 → bit ≡ 2 ^ p →
    IsBit (key_plane_of key bit) i b (bit_at (get_or key i 0) p)
IsBit-key_plane key bit i b p long h l e =
    let mask : List ℕ = replicate 16 bit in
    let all : List ℕ = replicate 16 255 in
    let none : List ℕ = replicate 16 0 in
    let kept : List ℕ = zip2 bit_and key mask in
    let kept_long : length kept ≡ 16 = length-zip2 bit_and key mask long ∙ long in
    let tests : List Bool = zip2 nat_eq kept mask in
    let tests_long : length tests ≡ 16 = length-zip2 nat_eq kept mask kept_long ∙ kept_long in
    let tested : get_or tests i false ≡ nat_eq (bit_and (get_or key i 0) bit) bit =
    get_or-zip2 nat_eq kept mask i 0 0 false (omega arith) h
    ∙ ap (λ (n : ℕ). nat_eq n (get_or mask i 0)) (get_or-zip2 bit_and key mask i 0 0 0 (omega arith) h)
    ∙ ap (λ (n : ℕ). nat_eq (bit_and (get_or key i 0) n) n) (get_or-replicate 16 i bit 0 h) in
    let chosen : IsBit (sel_l tests all none) i b (bit_at (get_or key i 0) p) = record {
      within = omega (arith, length-sel_l tests all none tests_long tests_long);
      bit = ap (λ (n : ℕ). bit_at n b)
          (get_or-sel_l tests all none i 0 (omega arith) h h
          ∙ ap (λ (t : Bool). cond t (get_or all i 0) (get_or none i 0)) tested
          ∙ ap (λ (n : ℕ). cond (nat_eq (bit_and (get_or key i 0) bit) bit) n (get_or none i 0)) (get_or-replicate 16 i 255 0 h)
          ∙ ap (λ (n : ℕ). cond (nat_eq (bit_and (get_or key i 0) bit) bit) 255 n) (get_or-replicate 16 i 0 0 h)
          ∙ ap (λ (n : ℕ). cond (nat_eq (bit_and (get_or key i 0) n) n) 255 0) e)
          ∙ masked_test (get_or key i 0) p b l;
    } in
    subst (λ (ts : List Bool). IsBit (sel_l ts all none) i b (bit_at (get_or key i 0) p))
    (sym (tops_compared w8 nat_eq kept mask)) chosen
