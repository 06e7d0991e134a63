use Rattle.std.proofs.Common.{◌≡◌, length, refl, sym, ◌∙◌, ap, arith}
use Rattle.std.proofs.lemmas.Bool.{eqb-true, eqb-false}
use Rattle.cell_codec.proofs.Feeding.{empty_list, finished, unfinished}
use Rattle.cell_codec.proofs.decoder.Decoder.finish.Goals as goal

pub returns-then-is_empty-clause-short : goal.returns-then-is_empty-clause-short
returns-then-is_empty-clause-short c =
    let none : length c.self.inside.rest.items ≡ 0 = omega (arith, eqb-true _ _ (sym c.is_empty.ensures ∙ c.if-is_empty.true)) in
    (λ e. cc, λ left. absurd (finished _ _ _ (sym c.self.view_is) c.self.invariant (empty_list _ none) left))

pub returns-else-is_empty-clause-short : goal.returns-else-is_empty-clause-short
returns-else-is_empty-clause-short c =
    let some : length c.self.inside.rest.items ≡ 0 → ⊥ =
    λ e. eqb-false _ _ (sym c.is_empty.ensures ∙ c.if-is_empty.false) (omega arith) in
    (λ _. unfinished _ _ _ (sym c.self.view_is) c.self.invariant (λ e. some (ap length e)), λ _. refl)
