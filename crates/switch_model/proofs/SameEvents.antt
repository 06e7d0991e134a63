-- Circuits with the same events are sent cells of which one list begins the other.
use Rattle.std.proofs.Common.{◌≡◌, ℕ, List, [], ◌∷◌, ◌++◌, refl, sym, ◌∙◌, ap, inl, inr}
use Rattle.circuit_model.specs.Events.{CircuitCell}
use Rattle.circuit_model.specs.Sent.{leg_cells}
use Rattle.circuit_model.specs.Words.{log}
use Rattle.tr_io.specs.declared.step.Step.{Step}
use Rattle.switch_model.specs.Start.{SwitchStart}
use Rattle.switch_model.specs.History.Circuit.{events, sent}
use Rattle.switch_model.specs.History.Relayed.{AreComparable}
use Rattle.switch_model.specs.Legal.{IsLegal}
use Rattle.switch_model.proofs.SentBegins.{sent_is_prefix}

first-same : {x y : CircuitCell} {xs ys : List CircuitCell} → x ∷ xs ≡ y ∷ ys → x ≡ y
first-same e = cc

rest-same : {x y : CircuitCell} {xs ys : List CircuitCell} → x ∷ xs ≡ y ∷ ys → xs ≡ ys
rest-same e = cc

one-more : (x y : CircuitCell) (xs ys : List CircuitCell) → x ≡ y → AreComparable xs ys → AreComparable (x ∷ xs) (y ∷ ys)
one-more x y xs ys same (inl (rest, begins)) = inl (rest, rw (same, begins) refl)
one-more x y xs ys same (inr (rest, begins)) = inr (rest, rw (same, begins) refl)

comparable : (xs ys a b : List CircuitCell) → xs ++ a ≡ ys ++ b → AreComparable xs ys
comparable [] ys a b e = inl (ys, refl)
comparable (x ∷ xs) [] a b e = inr (x ∷ xs, refl)
comparable (x ∷ xs) (y ∷ ys) a b e = one-more x y xs ys (first-same e) (comparable xs ys a b (rest-same e))

pub comparable_cells : (start : SwitchStart) (h g : List Step) (c d k : ℕ) → IsLegal start h → IsLegal start g
    → events start.rules h c ≡ events start.rules g d →
    AreComparable (sent start.rules h c k) (sent start.rules g d k)
comparable_cells start h g c d k legal other same =
    let one_h = sent_is_prefix start h legal c k in
    let one_g = sent_is_prefix start g other d k in
    comparable (sent start.rules h c k) (sent start.rules g d k) one_h.0 one_g.0
    (one_h.1 ∙ ap (λ ev. leg_cells (log start.rules ev) k) same ∙ sym one_g.1)
