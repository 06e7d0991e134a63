-- The order that dial_order hands out is a right one: the oldest that waits, or one that is out.
use Rattle.std.proofs.Common.{◌≡◌, ℕ, Bool, true, false, if◌then◌else◌, zero, suc, List, [], ◌∷◌, find, Option, Some, None, option_map, refl, sym, subst, arith, inl, inr}
use Rattle.std.specs.List.{AllByRecursion, Contains}
use Rattle.circuit_model.specs.Rules.{Rules}
use Rattle.tr_io.specs.declared.dials.DialStep.{DialStep}
use Rattle.tr_io.specs.declared.step.Step.{Step}
use Rattle.switch_model.specs.Start.{SwitchStart}
use Rattle.switch_model.specs.Answers.DialOrder.{dial_order_answer, first_dial}
use Rattle.switch_model.specs.Legal.{IsDialOrder, IsOutAgain}
use Rattle.switch_model.specs.Waiting.Dials.{Dial, dial_step, dials, dials_out, is_from}
use Rattle.switch_machine.specs.Calls.DialMemory.{dial_order_by}
use Rattle.switch_machine.specs.Calls.DialOrder.{dial_of, dial_order_result, next_dial_by, order_step}
use Rattle.switch_machine.specs.Machine.{dial_in, is_handed_out}
use Rattle.switch_machine.specs.Stands.{Stands}
use Rattle.switch_machine.specs.State.{DialState, State}
use Rattle.switch_machine.proofs.DialOrder.Said.{again-given, dial_order_said}

first-none : (h : List Step) (l : List Dial) → first_dial h l ≡ None → l ≡ []
first-none h [] none = refl
first-none h (d ∷ more) none = absurd cc

oldest-right : (rules : Rules) (h : List Step) (o : Option DialStep) → o ≡ dial_order_answer rules h → IsDialOrder rules h o
oldest-right rules h None same = first-none h (dials rules h) (sym same)
oldest-right rules h (Some given) same = inl same

-- what is found in a list is an element of it
later-in : (first d : Dial) (l : List Dial) → Contains l d → Contains (first ∷ l) d
later-in first d l some = (suc some.0, omega (arith, some.1), some.2)

found-by : (c : ℕ) (first d : Dial) (l : List Dial) (b : Bool) → (if b then Some first else find (is_from c) l) ≡ Some d →
    (find (is_from c) l ≡ Some d → Contains l d) → Contains (first ∷ l) d
found-by c first d l true found later = let same : first ≡ d = cc in (zero, omega arith, same)
found-by c first d l false found later = later-in first d l (later found)

found-in : (c : ℕ) (l : List Dial) (d : Dial) → find (is_from c) l ≡ Some d → Contains l d
found-in c [] d found = absurd cc
found-in c (first ∷ l) d found = found-by c first d l (is_from c first) found (found-in c l d)

again-right : (start : SwitchStart) (s : State) (h : List Step) (c : ℕ) (o : Option DialState) → Stands start s h →
    dial_in s c ≡ o → is_handed_out o ≡ true →
    IsDialOrder start.rules h (option_map (order_step s) (option_map (dial_of c) o))
again-right start s h c None st has out = absurd cc
again-right start s h c (Some x) st has out =
    let it = again-given start s h c x st has out in
    let is_out : IsOutAgain start.rules h (dial_step h it.made) = record
    { dial = it.made; out = found-in c (dials_out start.rules h) it.made it.found; given = refl } in
    subst (λ t. IsDialOrder start.rules h (Some t)) (sym it.step_is) (inr is_out)

right-by : (start : SwitchStart) (s : State) (h : List Step) (again : List ℕ) → s.again ≡ again → Stands start s h →
    AllByRecursion (λ c. is_handed_out (dial_in s c) ≡ true) again →
    IsDialOrder start.rules h (option_map (order_step s) (next_dial_by s again))
right-by start s h [] same st out =
    oldest-right start.rules h _ (subst (λ l. option_map (order_step s) (next_dial_by s l) ≡ dial_order_by start.rules h l)
    same (dial_order_said start s h st))
right-by start s h (c ∷ again) same st out = again-right start s h c (dial_in s c) st refl out.0

pub dial_order_right : (start : SwitchStart) (s : State) (h : List Step) → Stands start s h →
    IsDialOrder start.rules h (dial_order_result s)
dial_order_right start s h st = right-by start s h s.again refl st st.dials.are_out
