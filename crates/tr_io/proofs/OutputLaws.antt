-- How a piece's writing goes on.
use Rattle.std.proofs.Common.{◌≡◌, ℕ, ◌+◌, ◌-◌, ◌≤◌, List, [], ◌++◌, length, take, drop, Option, Some, None, refl, sym, ap, ◌∙◌, append_assoc, subst, length-drop}
use Rattle.std.proofs.lemmas.List.{append-nil, nil_from_length, take-append-drop, drop-drop}
use Rattle.std.proofs.Math.Seq.{take-add, take-append-add, take-length}
use Rattle.tr_io.specs.Sinks.{WritesTo}
use Rattle.tr_io.specs.declared.sink.WriteAnswer.TheVariants.{Took}
use Rattle.tr_io.specs.Output.{IsWritten, IsPartWritten}

-- What holds at each turn: the first `count` bytes of the piece are written, and the rest are left.
pub record Writing (before now : Option (List ℕ)) (faults_before faults_now : ℕ) (piece rest_bytes : List ℕ) : Type 0 where
  pub count : ℕ
  pub within : count ≤ length piece
  pub rest : rest_bytes ≡ drop count piece
  pub written : IsWritten before (take count piece) now
  pub counted : faults_before ≤ faults_now

-- nothing is written at first
pub starts : (before : Option (List ℕ)) (piece : List ℕ) → IsWritten before (take 0 piece) before
starts None piece = refl
starts (Some bytes) piece = ap Some (sym (append-nil bytes))

pub starts_empty : (before : Option (List ℕ)) → IsWritten before [] before
starts_empty None = refl
starts_empty (Some bytes) = ap Some (sym (append-nil bytes))

-- all is written at last
pub ends : (before now : Option (List ℕ)) (piece rest_bytes : List ℕ) (count : ℕ) → rest_bytes ≡ drop count piece
    → length rest_bytes ≡ 0
    → IsWritten before (take count piece) now → IsWritten before piece now
ends before now piece rest_bytes count rest none written =
    let all : take count piece ≡ piece =
    sym (append-nil (take count piece)) ∙ ap (λ xs. take count piece ++ xs) (sym (nil_from_length rest_bytes none) ∙ rest)
    ∙ take-append-drop count piece in
    subst (λ xs. IsWritten before xs now) all written

-- n bytes more were written
pub write_more : (before now after : Option (List ℕ)) (piece rest_bytes : List ℕ) (count n : ℕ) → rest_bytes ≡ drop count piece
    → IsWritten before (take count piece) now → WritesTo now (Took n) rest_bytes after
    → IsWritten before (take (count + n) piece) after
write_more None now after piece rest_bytes count n rest written writes =
    subst (λ o. WritesTo o (Took n) rest_bytes after) written writes
write_more (Some bytes) now after piece rest_bytes count n rest written writes =
    let at_now : after ≡ Some ((bytes ++ take count piece) ++ take n rest_bytes) =
    subst (λ o. WritesTo o (Took n) rest_bytes after) written writes in
    at_now
    ∙ ap Some (append_assoc bytes (take count piece) (take n rest_bytes)
    ∙ ap (λ xs. bytes ++ (take count piece ++ take n xs)) rest
    ∙ ap (λ xs. bytes ++ xs) (sym (take-add count n piece)))

pub take_all : (xs : List ℕ) (k : ℕ) → length xs ≡ k → take k xs ≡ xs
take_all xs k is = ap (λ m. take m xs) (sym is) ∙ take-length xs

-- what is left goes on
pub left_more : (piece rest_bytes : List ℕ) (count n : ℕ) → rest_bytes ≡ drop count piece
    → take (length rest_bytes - n) (drop n rest_bytes) ≡ drop (count + n) piece
left_more piece rest_bytes count n rest =
    take_all (drop n rest_bytes) (length rest_bytes - n) (length-drop n rest_bytes)
    ∙ ap (drop n) rest
    ∙ drop-drop n count piece

-- A part of nothing, and all of a piece, are parts of it.
pub none_written : (before : Option (List ℕ)) (piece : List ℕ) → IsPartWritten before piece before
none_written before piece = (0, starts before piece)

pub all_written : (before after : Option (List ℕ)) (piece : List ℕ) → IsWritten before piece after
    → IsPartWritten before piece after
all_written before after piece written = (length piece, subst (λ xs. IsWritten before xs after) (sym (take-length piece)) written)

-- What is written behind a piece that was written.
pub whole_behind : (before now after : Option (List ℕ)) (piece more out : List ℕ) → IsWritten before piece now
    → IsWritten now more after → piece ++ more ≡ out → IsWritten before out after
whole_behind None now after piece more out written next is = subst (λ o. IsWritten o more after) written next
whole_behind (Some told) now after piece more out written next is =
    subst (λ o. IsWritten o more after) written next
    ∙ ap Some (append_assoc told piece more)
    ∙ ap (λ xs. Some (told ++ xs)) is

pub part_behind : (before now after : Option (List ℕ)) (piece more out : List ℕ) → IsWritten before piece now
    → IsPartWritten now more after → piece ++ more ≡ out → IsPartWritten before out after
part_behind before now after piece more out written next is =
    let front : piece ++ take next.0 more ≡ take (length piece + next.0) out =
    sym (take-append-add piece more next.0) ∙ ap (λ xs. take (length piece + next.0) xs) is in
    (length piece + next.0, whole_behind before now after piece (take next.0 more) _ written next.1 front)
