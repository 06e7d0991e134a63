-- How the writing of a piece goes on.
use Rattle.std.proofs.Common.{arith, ◌≡◌, ℕ, ◌+◌, ◌-◌, ◌≤◌, List, ◌++◌, length, take, drop, Option, sym, ap, ◌∙◌, subst, length-drop}
use Rattle.std.proofs.lemmas.List.{drop-drop}
use Rattle.std.proofs.Math.Seq.{take-add, take-length}
use Rattle.tr_io.specs.declared.sink.WriteAnswer.TheVariants.{Took}
use Rattle.tr_io.specs.Pieces.{Piece, WritesFor, WroteAll}
use Rattle.tr_io.proofs.PieceLaws.{wrote_taken, wrote_more}

-- What holds at each turn: the first `count` bytes are written, and the rest are left.
pub record Writing (session : ℕ) (before now : Option (List Piece)) (slot_before slot_now faults_before faults_now : ℕ)
    (piece bytes_left : List ℕ) : Type 0 where
  pub count : ℕ
  pub rest : bytes_left ≡ drop count piece
  pub written : WroteAll session (take count piece) before now
  pub slot : slot_now ≡ slot_before
  pub counted : faults_before ≤ faults_now

take_all : (xs : List ℕ) (k : ℕ) → length xs ≡ k → take k xs ≡ xs
take_all xs k is = ap (λ m. take m xs) (sym is) ∙ take-length xs

-- what is left goes on
left_more : (piece bytes_left : List ℕ) (count n : ℕ) → bytes_left ≡ drop count piece
    → take (length bytes_left - n) (drop n bytes_left) ≡ drop (count + n) piece
left_more piece bytes_left count n rest =
    take_all (drop n bytes_left) (length bytes_left - n) (length-drop n bytes_left) ∙ ap (drop n) rest ∙ drop-drop n count piece

pub goes_on : (session : ℕ) (before now after : Option (List Piece))
    (slot_before slot_now slot_after faults_before faults_now faults_after : ℕ) (piece bytes_left : List ℕ) (n : ℕ)
    → Writing session before now slot_before slot_now faults_before faults_now piece bytes_left
    → WritesFor session (Took n) bytes_left now after → slot_after ≡ slot_now → faults_now ≤ faults_after
    → Writing session before after slot_before slot_after faults_before faults_after piece
    (take (length bytes_left - n) (drop n bytes_left))
goes_on session before now after slot_before slot_now slot_after faults_before faults_now faults_after piece bytes_left n was
    writes slots faults = record {
      count = was.count + n;
      rest = left_more piece bytes_left was.count n was.rest;
      written = subst (λ xs. WroteAll session xs before after)
          (ap (λ xs. take was.count piece ++ take n xs) was.rest ∙ sym (take-add was.count n piece))
          (wrote_more session (take was.count piece) (take n bytes_left) before now after was.written
          (wrote_taken session n bytes_left now after writes));
      slot = slots ∙ was.slot;
      counted = omega (arith, was.counted, faults);
    }
