-- How the bytes of a session go on.
use Rattle.std.proofs.Common.{rules, arith, ◌≡◌, ◌≢◌, ℕ, List, [], ◌∷◌, ◌++◌, take, Option, Some, None, true, false, refl, sym, ap, ◌∙◌, append_assoc, subst}
use Rattle.std.specs.Prelude.{◌==◌, if◌then◌else◌}
use Rattle.std.proofs.lemmas.Grind.{common_steps}
use Rattle.std.proofs.lemmas.List.{append-nil}
use Rattle.tr_io.specs.declared.sink.WriteAnswer.TheVariants.{Took}
use Rattle.tr_io.specs.Pieces.{Piece, bytes_for, WritesFor, WroteAll}

-- one piece more behind the others
bytes_for-more : (k : ℕ) (pieces : List Piece) (p : Piece)
    → bytes_for k (pieces ++ p ∷ []) ≡ bytes_for k pieces ++ (if p.session == k then p.bytes else [])
unfolding bytes_for
bytes_for-more k [] p = append-nil _
bytes_for-more k (x ∷ pieces) p =
    ap (λ xs. (if x.session == k then x.bytes else []) ++ xs) (bytes_for-more k pieces p)
    ∙ sym (append_assoc (if x.session == k then x.bytes else []) (bytes_for k pieces) _)

bytes_for-same : (session : ℕ) (pieces : List Piece) (bytes : List ℕ)
    → bytes_for session (pieces ++ record { session = session; bytes = bytes } ∷ []) ≡ bytes_for session pieces ++ bytes
bytes_for-same session pieces bytes =
    bytes_for-more session pieces _ ∙ ap (λ b. bytes_for session pieces ++ (if b then bytes else [])) same where
      same : (session == session) ≡ true
      same = search rules

bytes_for-other : (session k : ℕ) (pieces : List Piece) (bytes : List ℕ) → k ≢ session
    → bytes_for k (pieces ++ record { session = session; bytes = bytes } ∷ []) ≡ bytes_for k pieces
bytes_for-other session k pieces bytes differs =
    bytes_for-more k pieces _ ∙ ap (λ b. bytes_for k pieces ++ (if b then bytes else [])) other
    ∙ append-nil (bytes_for k pieces) where
      other : (session == k) ≡ false
      other = grind (differs, arith, common_steps)

-- nothing was written
pub wrote_nothing : (session : ℕ) (before : Option (List Piece)) → WroteAll session [] before before
wrote_nothing session None = refl
wrote_nothing session (Some pieces) = (sym (append-nil _), λ k differs. refl)

-- what was taken of a piece was written
pub wrote_taken : (session n : ℕ) (piece : List ℕ) (before after : Option (List Piece))
    → WritesFor session (Took n) piece before after → WroteAll session (take n piece) before after
wrote_taken session n piece None after writes = writes
wrote_taken session n piece (Some pieces) after writes =
    subst (λ o. WroteAll session (take n piece) (Some pieces) o) (sym writes)
    (bytes_for-same session pieces (take n piece), λ k differs. bytes_for-other session k pieces (take n piece) differs)

-- some bytes were written, and then more
pub wrote_more : (session : ℕ) (bytes more : List ℕ) (before now after : Option (List Piece)) → WroteAll session bytes before now
    → WroteAll session more now after → WroteAll session (bytes ++ more) before after
wrote_more session bytes more None now after wrote then_wrote = subst (λ o. WroteAll session more o after) wrote then_wrote
wrote_more session bytes more (Some b) None after wrote then_wrote = absurd wrote
wrote_more session bytes more (Some b) (Some w) None wrote then_wrote = absurd then_wrote
wrote_more session bytes more (Some b) (Some w) (Some a) wrote then_wrote = (
  then_wrote.0 ∙ ap (λ xs. xs ++ more) wrote.0 ∙ append_assoc (bytes_for session b) bytes more,
  λ k differs. then_wrote.1 k differs ∙ wrote.1 k differs,
)
