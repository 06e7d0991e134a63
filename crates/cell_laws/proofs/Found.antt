-- What is read as a cell is that cell's encoding.
use Rattle.std.proofs.Common.{ℕ, ◌≡◌, ◌+◌, ◌<◌, [], ◌∷◌, ◌++◌, List, length, take, drop, true, false, refl, sym, ap, ◌∙◌, arith, Some, inl, inr}
use Rattle.std.specs.Int.{w16, to_be_bytes, from_be_bytes}
use Rattle.std.proofs.lemmas.Bool.{leb-true}
use Rattle.std.proofs.lemmas.List.{take-append-drop}
use Rattle.std.proofs.lemmas.Nat.{be_bytes_2}
use Rattle.std.proofs.lemmas.Option.{cond_some, option_and_then_some}
use Rattle.tor_spec.specs.CellEncoding.{WireCell, is_variable, encoding}
use Rattle.tor_spec.specs.CellReading.{cell_size, cell_of, cell_at}
use Rattle.tor_spec.specs.CellStream.{IsBytes, IsCell}
use Rattle.tor_spec.proofs.CellSizes.{TellsVariable, TellsFixed, size_told, cell_size-take}
use Rattle.cell_laws.proofs.Bytes.{IsBytes-take, IsBytes-drop, four_bytes, four_fit}

-- A cell is spelled by its own bytes.
pub record Spelled (b : List ℕ) (c : WireCell) : Type 0 where
  pub text : encoding c ≡ b
  pub cell : IsCell c

spelled_variable : (b : List ℕ) → IsBytes b → TellsVariable b (length b) → Spelled b (cell_of b)
unfolding cell_of
spelled_variable (b0 ∷ b1 ∷ b2 ∷ b3 ∷ k ∷ h ∷ l ∷ payload) fits t =
    let behind = k ∷ h ∷ l ∷ payload in
    let v : is_variable k ≡ true = t.variable in
    let told : 7 + from_be_bytes w16 (h ∷ l ∷ []) ≡ length (b0 ∷ b1 ∷ b2 ∷ b3 ∷ k ∷ h ∷ l ∷ payload) = t.size in
    let size : length payload ≡ from_be_bytes w16 (h ∷ l ∷ []) = omega arith in
    let two : IsBytes (h ∷ l ∷ []) =
    IsBytes-take 2 (h ∷ l ∷ payload) (IsBytes-drop 5 (b0 ∷ b1 ∷ b2 ∷ b3 ∷ k ∷ h ∷ l ∷ payload) fits) in
    let length_bytes : to_be_bytes w16 (length payload) ≡ h ∷ l ∷ [] = be_bytes_2 (h ∷ l ∷ []) (length payload) refl two size in
    let high : h < 256 = two 0 in
    let low : l < 256 = two 1 in
    rw v (record {
      text = rw v (ap (λ p. p ++ k ∷ (to_be_bytes w16 (length payload) ++ payload)) (four_bytes b0 b1 b2 b3 behind fits)
          ∙ ap (λ q. b0 ∷ b1 ∷ b2 ∷ b3 ∷ k ∷ (q ++ payload)) length_bytes);
      cell = record {
        circuit = four_fit b0 b1 b2 b3 behind fits;
        command = fits 4;
        bytes = IsBytes-drop 7 (b0 ∷ b1 ∷ b2 ∷ b3 ∷ k ∷ h ∷ l ∷ payload) fits;
        fixed = λ f. cc;
        variable = omega arith;
      };
    })
spelled_variable b fits t = let long = t.long in absurd (omega arith)

spelled_fixed : (b : List ℕ) → IsBytes b → TellsFixed b (length b) → Spelled b (cell_of b)
unfolding cell_of
spelled_fixed (b0 ∷ b1 ∷ b2 ∷ b3 ∷ k ∷ payload) fits t =
    let behind = k ∷ payload in
    let f : is_variable k ≡ false = t.fixed in
    let told : 514 ≡ length (b0 ∷ b1 ∷ b2 ∷ b3 ∷ k ∷ payload) = t.size in
    rw f (record {
      text = rw f (ap (λ p. p ++ k ∷ payload) (four_bytes b0 b1 b2 b3 behind fits));
      cell = record {
        circuit = four_fit b0 b1 b2 b3 behind fits;
        command = fits 4;
        bytes = IsBytes-drop 5 (b0 ∷ b1 ∷ b2 ∷ b3 ∷ k ∷ payload) fits;
        fixed = λ _. omega arith;
        variable = omega arith;
      };
    })
spelled_fixed b fits t = let long = t.long in absurd (omega arith)

spelled : (b : List ℕ) → IsBytes b → cell_size b ≡ Some (length b) → Spelled b (cell_of b)
spelled b fits size = elim (size_told b (length b) size) [
  | inl v ↦ spelled_variable b fits v
  | inr f ↦ spelled_fixed b fits f
]

-- What is cut off as a cell is its encoding, with what is left behind it.
pub record Found (a : List ℕ) (c : WireCell) (rest : List ℕ) : Type 0 where
  pub text : a ≡ encoding c ++ rest
  pub cell : IsCell c
  pub bytes : IsBytes rest

pub cell_found : (a : List ℕ) (found : WireCell × List ℕ) → IsBytes a → cell_at a ≡ Some found → Found a found.0 found.1
unfolding cell_at
cell_found a found fits e = option_and_then_some _ _ found e (λ n size cut.
    let parts = cond_some _ _ _ cut in
    let own = spelled (take n a) (IsBytes-take n a fits) (cell_size-take a n size (leb-true _ _ parts.0)) in
    rw (← parts.1) (record {
      text = sym (ap (λ t. t ++ drop n a) own.text ∙ take-append-drop n a);
      cell = own.cell;
      bytes = IsBytes-drop n a fits;
    }))
