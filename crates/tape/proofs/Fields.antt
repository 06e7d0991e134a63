-- The fields of a record: those that were spelled, and those that are read.
use Rattle.std.proofs.Common.{◌≡◌, ℕ, ◌+◌, ◌≤◌, List, ◌∷◌, ◌++◌, length, take, drop, slice_index, refl, sym, ap, ◌∙◌, arith, length-drop, length-take, lit<, inl, inr}
use Rattle.std.proofs.lemmas.Bool.{cases_lt}
use Rattle.std.proofs.lemmas.List.{take-append-drop, length-take-le, drop-drop, get_or-take, get_or-drop, get_or_past}
use Rattle.std.proofs.lemmas.Nat.{be_bytes_4, be_bytes_8}
use Rattle.std.proofs.Math.Seq.{take-append_seam, drop-append_seam, get_or-append_seam}
use Rattle.std.specs.Int.{w32, w64, from_be_bytes, to_be_bytes}
use Rattle.tor_spec.specs.CellStream.{IsBytes}
use Rattle.tape.specs.Fronts.{field}

-- A field between what is before and behind it.
pub field_of : (at n : ℕ) (before x later_bytes : List ℕ) → length before ≡ at → length x ≡ n
    → field at n (before ++ (x ++ later_bytes)) ≡ x
field_of at n before x later_bytes is_at is_n =
    let dropped : drop at (before ++ (x ++ later_bytes)) ≡ x ++ later_bytes =
    ap (λ k. drop k (before ++ (x ++ later_bytes))) (sym is_at) ∙ drop-append_seam before (x ++ later_bytes) in
    ap (take n) dropped ∙ ap (λ k. take k (x ++ later_bytes)) (sym is_n) ∙ take-append_seam x later_bytes

pub behind_of : (at : ℕ) (before later_bytes : List ℕ) → length before ≡ at → drop at (before ++ later_bytes) ≡ later_bytes
behind_of at before later_bytes is = ap (λ k. drop k (before ++ later_bytes)) (sym is) ∙ drop-append_seam before later_bytes

pub byte_of : (at : ℕ) (before : List ℕ) (x : ℕ) (later_bytes : List ℕ) → length before ≡ at
    → slice_index (before ++ x ∷ later_bytes) at ≡ x
byte_of at before x later_bytes is =
    ap (λ k. slice_index (before ++ x ∷ later_bytes) k) (sym is) ∙ get_or-append_seam before x later_bytes 0

pub four : (n : ℕ) → length (to_be_bytes w32 n) ≡ 4
four n = refl

pub eight : (n : ℕ) → length (to_be_bytes w64 n) ≡ 8
eight n = refl

pub field_bytes : (at n : ℕ) (fields : List ℕ) → IsBytes fields → IsBytes (field at n fields)
field_bytes at n fields bytes i = elim (cases_lt i n) [
  | inl below ↦ rw (get_or-take n (drop at fields) i 0 below, get_or-drop at fields i 0) (bytes (at + i))
  | inr above ↦ rw (get_or_past (take n (drop at fields)) i 0 (simp length-take (omega arith))) (lit< tt)
]

-- The bytes of a number, from its place.
pub field_4 : (at : ℕ) (fields : List ℕ) → IsBytes fields → at + 4 ≤ length fields
    → to_be_bytes w32 (from_be_bytes w32 (field at 4 fields)) ≡ field at 4 fields
field_4 at fields bytes long =
    let size : length (field at 4 fields) ≡ 4 = length-take-le 4 (drop at fields) (omega (arith, length-drop at fields)) in
    be_bytes_4 (field at 4 fields) _ size (field_bytes at 4 fields bytes) refl

pub field_8 : (at : ℕ) (fields : List ℕ) → IsBytes fields → at + 8 ≤ length fields
    → to_be_bytes w64 (from_be_bytes w64 (field at 8 fields)) ≡ field at 8 fields
field_8 at fields bytes long =
    let size : length (field at 8 fields) ≡ 8 = length-take-le 8 (drop at fields) (omega (arith, length-drop at fields)) in
    be_bytes_8 (field at 8 fields) _ size (field_bytes at 8 fields bytes) refl

-- A field and what is behind it.
pub part : (at n : ℕ) (fields : List ℕ) → drop at fields ≡ field at n fields ++ drop (at + n) fields
part at n fields = sym (take-append-drop n (drop at fields)) ∙ ap (λ xs. field at n fields ++ xs) (drop-drop n at fields)

pub drop_bytes : (n : ℕ) (fields : List ℕ) → IsBytes fields → IsBytes (drop n fields)
drop_bytes n fields bytes i = rw (get_or-drop n fields i 0) (bytes (n + i))
