-- Once this side's DESTROY has left on a leg of a live circuit, it is among what was sent there.
use Rattle.std.proofs.Common.{◌≡◌, ℕ, ◌<◌, ◌==◌, ◌&&◌, ◌||◌, Bool, true, false, if◌then◌else◌, List, [], ◌∷◌, ◌++◌, Some, refl, arith}
use Rattle.std.specs.List.{list_any}
use Rattle.circuit_model.specs.Events.{CircuitCell}
use Rattle.tr_io.specs.declared.answers.OpenAnswer.TheVariants.{Opened}
use Rattle.tr_io.specs.declared.step.Step.{Step}
use Rattle.tr_io.specs.declared.step.Step.TheVariants.{OpenCircuit, NextCell}
use Rattle.switch_model.specs.Start.{SwitchStart}
use Rattle.switch_model.specs.Names.{is_leg, circuit_cell}
use Rattle.switch_model.specs.History.Legs.{circuits, at}
use Rattle.switch_model.specs.History.LegEnds.{is_ended_by_us}
use Rattle.switch_model.specs.History.Circuit.{is_live_circuit, sent}
use Rattle.switch_model.specs.Legal.{IsLegal}
use Rattle.switch_model.proofs.Common.{and-first, same-number}
use Rattle.switch_model.proofs.Ways.{was-live}
use Rattle.switch_model.proofs.Unopened.{opened-number}
use Rattle.switch_model.proofs.LaneIds.{leg-opened}

or-any : (a b : Bool) → b ≡ true → (a || b) ≡ true
or-any true b is = refl
or-any false b is = is

any-last : (xs : List CircuitCell) (x : CircuitCell) → (x.command == 4) ≡ true
    → list_any (λ cell. cell.command == 4) (xs ++ x ∷ []) ≡ true
any-last [] x is = rw is refl
any-last (y ∷ xs) x is = or-any (y.command == 4) _ (any-last xs x is)

any-or : (a b d : Bool) → (b ≡ true → d ≡ true) → (a || b) ≡ true → (a || d) ≡ true
any-or true b d more some = refl
any-or false b d more some = more some

any-more : (xs : List CircuitCell) (x : CircuitCell) → list_any (λ cell. cell.command == 4) xs ≡ true
    → list_any (λ cell. cell.command == 4) (xs ++ x ∷ []) ≡ true
any-more [] x some = absurd cc
any-more (y ∷ xs) x some = any-or (y.command == 4) _ _ (any-more xs x) some

ended-if : (b e : Bool) (P : Type 0) → (b ≡ true → P) → (e ≡ true → P) → (if b then true else e) ≡ true → P
ended-if true e P here there ended = here refl
ended-if false e P here there ended = there ended

ended-opened : (start : SwitchStart) (h : List Step) → IsLegal start h → (c k : ℕ) → is_ended_by_us h c k ≡ true → c < circuits h
ended-opened start [] legal c k ended = absurd cc
ended-opened start (NextCell n tick (Some cell) ∷ h) legal c k ended =
    ended-if _ (is_ended_by_us h c k) (c < circuits h)
    (λ is. leg-opened start h legal.1 c k n.0 cell.circ (and-first (is_leg c k (at h n.0 cell.circ)) _ is))
    (ended-opened start h legal.1 c k) ended
ended-opened start (OpenCircuit chan id reply keys pad (Opened n) ∷ h) legal c k ended = let was =
    ended-opened start h legal.1 c k ended in omega (arith, was)
ended-opened start (s ∷ h) legal c k ended = ended-opened start h legal.1 c k ended

abbrev HasDestroy : List CircuitCell → Type 0
HasDestroy cells = list_any (λ cell. cell.command == 4) cells ≡ true

left-destroy : (of_leg destroys alive : Bool) (xs : List CircuitCell) (x : CircuitCell) (e : Bool) → (x.command == 4) ≡ destroys
    → alive ≡ true → (e ≡ true → HasDestroy xs) → (if of_leg && destroys then true else e) ≡ true
    → HasDestroy (if of_leg && alive then xs ++ x ∷ [] else xs)
left-destroy true true true xs x e is on before ended = any-last xs x is
left-destroy true false true xs x e is on before ended = any-more xs x (before ended)
left-destroy false destroys true xs x e is on before ended = before ended
left-destroy of_leg destroys false xs x e is on before ended = absurd cc

opened-destroy : (start : SwitchStart) (h : List Step) (n c k : ℕ) (b : Bool) → (n == c) ≡ b → n ≡ circuits h → IsLegal start h
    → is_ended_by_us h c k ≡ true → (is_live_circuit start.rules h c ≡ true → HasDestroy (sent start.rules h c k))
    → (if b then true else is_live_circuit start.rules h c) ≡ true →
    HasDestroy (sent start.rules h c k)
opened-destroy start h n c k true is number legal ended before alive =
    let same = same-number n c is in
    let was = ended-opened start h legal c k ended in
    absurd (omega (arith, same, number, was))
opened-destroy start h n c k false is number legal ended before alive = before alive

pub destroy_was_sent : (start : SwitchStart) (h : List Step) → IsLegal start h → (c k : ℕ)
    → is_live_circuit start.rules h c ≡ true → is_ended_by_us h c k ≡ true → HasDestroy (sent start.rules h c k)
destroy_was_sent start [] legal c k alive ended = absurd cc
destroy_was_sent start (NextCell n tick (Some cell) ∷ h) legal c k alive ended =
    left-destroy (is_leg c k (at h n.0 cell.circ)) (cell.command == 4) (is_live_circuit start.rules h c) (sent start.rules h c k)
    (circuit_cell cell) (is_ended_by_us h c k) refl alive (destroy_was_sent start h legal.1 c k alive) ended
destroy_was_sent start (OpenCircuit chan id reply keys pad (Opened n) ∷ h) legal c k alive ended =
    opened-destroy start h n.0 c k _ refl (opened-number start h chan.0 id keys n legal.0.1) legal.1 ended
    (λ was. destroy_was_sent start h legal.1 c k was ended) alive
destroy_was_sent start (s ∷ h) legal c k alive ended =
    destroy_was_sent start h legal.1 c k (was-live start.rules h s c refl alive) ended
