-- How a tape's reading goes on.
use Rattle.std.proofs.Common.{◌≡◌, ℕ, ◌+◌, ◌^◌, ◌≤◌, List, ◌++◌, length, take, drop, Option, Some, None, sym, ap, ◌∙◌, subst, append_assoc}
use Rattle.std.proofs.lemmas.List.{take-append-drop}
use Rattle.tr_io.specs.Sources.{ReadsFrom}
use Rattle.tr_io.specs.declared.source.ReadAnswer.TheVariants.{Got}
use Rattle.tape.specs.Input.{IsRead}

-- What holds at each turn: what was read so far, and that the count of faults hasn't fallen.
pub record Reading (before now : Option (List ℕ)) (faults_before faults_now : ℕ) (bytes chunk : List ℕ) : Type 0 where
  pub read : IsRead before bytes now
  pub counted : faults_before ≤ faults_now
  pub short : length bytes ≤ 2 ^ 28 + 1
  pub chunk_long : length chunk ≡ 4096

-- n bytes more were read.
pub read_more : (before now after : Option (List ℕ)) (bytes buffer piece : List ℕ) (n : ℕ) → IsRead before bytes now
    → ReadsFrom now (Got n) buffer after → piece ≡ take n buffer → IsRead before (bytes ++ piece) after
read_more None now after bytes buffer piece n read reads is =
    subst (λ o. ReadsFrom o (Got n) buffer after) read reads
read_more (Some told) None after bytes buffer piece n read reads is = absurd read
read_more (Some told) (Some left) after bytes buffer piece n read reads is =
    subst (λ o. IsRead (Some told) (bytes ++ piece) o) (sym reads.2)
    (read
    ∙ ap (λ xs. bytes ++ xs) (sym (take-append-drop n left))
    ∙ ap (λ xs. bytes ++ (xs ++ drop n left)) (sym (is ∙ reads.1))
    ∙ sym (append_assoc bytes piece (drop n left)))
