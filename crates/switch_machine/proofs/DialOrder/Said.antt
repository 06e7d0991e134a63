-- What dial_order answers is what the history tells.
use Rattle.std.proofs.Common.{◌≡◌, ℕ, ◌&&◌, ◌<◌, Bool, true, false, not, List, [], ◌∷◌, length, find, Option, Some, None, option_map, refl, sym, ◌∙◌, ap, subst, arith}
use Rattle.std.specs.List.{AllByRecursion, filter}
use Rattle.circuit_model.specs.Rules.{Rules}
use Rattle.tr_io.specs.declared.dials.DialStep.{DialStep}
use Rattle.tr_io.specs.declared.step.Step.{Step}
use Rattle.switch_model.specs.Start.{SwitchStart}
use Rattle.switch_model.specs.Answers.DialOrder.{first_dial}
use Rattle.switch_model.specs.Waiting.Dials.{Dial, dial_step, dials, dials_made, dials_out, is_from, is_open, was_handed_out}
use Rattle.switch_machine.specs.Calls.DialMemory.{dial_order_by}
use Rattle.switch_machine.specs.Calls.DialOrder.{OpenDial, dial_of, dial_order_result, next_dial_by, oldest_below, order_step}
use Rattle.switch_machine.specs.Machine.{dial_at, dial_in, is_handed_out}
use Rattle.switch_machine.specs.Stands.{Stands}
use Rattle.switch_machine.specs.Stands.OneCircuit.{last_of}
use Rattle.switch_machine.specs.State.{CircuitState, DialState, State, slot_at}
use Rattle.switch_model.proofs.Common.{and-first, and-second}
use Rattle.switch_machine.proofs.Again.{IsIn, last-of-circuit, made-numbered}
use Rattle.switch_machine.proofs.DialOrder.Numbered.{IsFirst, find-only, first-least, first_of, same-order}
use Rattle.switch_machine.proofs.DialOrder.Oldest.{OldestIs, offers_of, oldest-best, waiting-is}
use Rattle.switch_machine.proofs.DialOrder.Open.{IsOpenOf, in-open, open-in, state_of}
use Rattle.switch_machine.proofs.DialOrder.Over.{over-said}
use Rattle.switch_machine.proofs.Slots.{slot_at-inside}

-- an order of the history, as it is handed out
pub step-said : (start : SwitchStart) (s : State) (h : List Step) (c : ℕ) (x : DialState) (d : Dial) → Stands start s h →
    d.circ ≡ c → x ≡ state_of (was_handed_out h) d → order_step s (dial_of c x) ≡ dial_step h d
step-said start s h c x d st here is = rw (is, ← here, over-said start s h d.to st) refl

-- the oldest that waits

abbrev waits : Rules → List Step → Dial → Bool
waits rules h dial = is_open rules h dial && not (was_handed_out h dial.order)

not-true : (b : Bool) → not b ≡ true → b ≡ false
not-true true e = absurd cc
not-true false e = refl

offered : (start : SwitchStart) (s : State) (h : List Step) (d : Dial) → Stands start s h → IsIn d (dials_made start.rules h) →
    waits start.rules h d ≡ true →
    (dial_in s d.circ ≡ Some (state_of (was_handed_out h) d)) ×
    (offers_of s d.circ ≡ Some (dial_of d.circ (state_of (was_handed_out h) d)))
offered start s h d st inside is =
    let has = open-in start s h d st inside (and-first (is_open start.rules h d) _ is) in
    let never = not-true (was_handed_out h d.order) (and-second (is_open start.rules h d) _ is) in
    (has, rw (has, never) refl)

inside-circuits : (slots : List (Option CircuitState)) (c : ℕ) (o : Option CircuitState) (x : DialState) →
    slot_at slots c ≡ o → dial_at o ≡ Some x → c < length slots
inside-circuits slots c None x found has = absurd cc
inside-circuits slots c (Some y) x found has = slot_at-inside slots c y found

-- an order of the state that waits, by the history
waits-made : (start : SwitchStart) (s : State) (h : List Step) (c : ℕ) (x : DialState) → x.handed_out ≡ false →
    (it : IsOpenOf start.rules h c x) → was_handed_out h it.made.order ≡ false
waits-made start s h c x never it = subst (λ (y : DialState). y.handed_out ≡ false) it.is never

agree : (start : SwitchStart) (s : State) (h : List Step) (o : Option OpenDial) (u : Option Dial) → Stands start s h →
    OldestIs (offers_of s) (length s.circuits) o → IsFirst (waits start.rules h) (dials_made start.rules h) u →
    option_map (order_step s) o ≡ option_map (dial_step h) u
agree start s h None None st best first = refl
agree start s h None (Some d) st best first =
    let has = offered start s h d st first.inside first.passes in
    let none = best d.circ (inside-circuits s.circuits d.circ (slot_at s.circuits d.circ) _ refl has.0) in
    let both : ◌≡◌ {A = Option OpenDial} None (Some (dial_of d.circ (state_of (was_handed_out h) d))) = sym none ∙ has.1 in
    absurd cc
agree start s h (Some best) None st own first =
    let w = waiting-is best.circ (dial_in s best.circ) best own.has in
    let it = in-open start s h best.circ best.dial st w.is_open in
    absurd (first it.made it.inside (rw (it.is_open, waits-made start s h best.circ best.dial w.never it) refl))
agree start s h (Some best) (Some d) st own first =
    let w = waiting-is best.circ (dial_in s best.circ) best own.has in
    let it = in-open start s h best.circ best.dial st w.is_open in
    let has = offered start s h d st first.inside first.passes in
    let one = first.least it.made it.inside (rw (it.is_open, waits-made start s h best.circ best.dial w.never it) refl) in
    let other = own.least d.circ (dial_of d.circ (state_of (was_handed_out h) d))
    (inside-circuits s.circuits d.circ (slot_at s.circuits d.circ) _ refl has.0) has.1 in
    let number = ap (λ (y : DialState). y.order) it.is in
    let same : it.made ≡ d = same-order 0 (dials_made start.rules h) it.made d
    (made-numbered start.rules h) it.inside first.inside (omega (arith, one, other, number)) in
    ap (λ (t : DialStep). Some t) (step-said start s h best.circ best.dial it.made st it.circ it.is ∙ ap (dial_step h) same)

first-mapped : (h : List Step) (l : List Dial) → first_dial h l ≡ option_map (dial_step h) (first_of l)
first-mapped h [] = refl
first-mapped h (d ∷ more) = refl

-- one that is handed out again
only-one : (rules : Rules) (h : List Step) (c : ℕ) (d e : Dial) → e.circ ≡ c →
    last_of (filter (is_from e.circ) (dials_made rules h)) ≡ Some e →
    last_of (filter (is_from c) (dials_made rules h)) ≡ Some d → e ≡ d
only-one rules h c d e here one other =
    let last : last_of (filter (is_from c) (dials_made rules h)) ≡ Some e = subst
    (λ n. last_of (filter (is_from n) (dials_made rules h)) ≡ Some e) here one in cc

pub record IsGivenAgain (start : SwitchStart) (s : State) (h : List Step) (c : ℕ) (x : DialState) : Type 0 where
  pub made : Dial
  pub found : find (is_from c) (dials_out start.rules h) ≡ Some made
  pub step_is : order_step s (dial_of c x) ≡ dial_step h made
  pub handed_out : was_handed_out h x.order ≡ true

pub again-given : (start : SwitchStart) (s : State) (h : List Step) (c : ℕ) (x : DialState) → Stands start s h →
    dial_in s c ≡ Some x → x.handed_out ≡ true → IsGivenAgain start s h c x
again-given start s h c x st has out =
    let rules = start.rules in
    let made = dials_made rules h in
    let it = in-open start s h c x st has in
    let handed : was_handed_out h it.made.order ≡ true = subst (λ (y : DialState). y.handed_out ≡ true) it.is out in
    record {
      made = it.made;
      found = find-only (λ dial. is_open rules h dial && was_handed_out h dial.order) c made it.made it.inside it.circ
          (rw (it.is_open, handed) refl)
          (λ e inside here passes.
          let open_is = and-first (is_open rules h e) _ passes in
          let last = last-of-circuit 0 made e (made-numbered rules h) inside (and-second _ _ (and-second _ _ open_is)) in
          only-one rules h c it.made e here last it.last);
      step_is = step-said start s h c x it.made st it.circ it.is;
      handed_out = subst (λ (y : DialState). was_handed_out h y.order ≡ true) (sym it.is) handed;
    }

again-by : (start : SwitchStart) (s : State) (h : List Step) (c : ℕ) (o : Option DialState) → Stands start s h → dial_in s c ≡ o →
    is_handed_out o ≡ true →
    option_map (order_step s) (option_map (dial_of c) o) ≡ option_map (dial_step h) (find (is_from c) (dials_out start.rules h))
again-by start s h c None st has out = absurd cc
again-by start s h c (Some x) st has out =
    let it = again-given start s h c x st has out in
    rw it.found (ap (λ (t : DialStep). Some t) it.step_is)

said-by : (start : SwitchStart) (s : State) (h : List Step) (again : List ℕ) → Stands start s h →
    AllByRecursion (λ c. is_handed_out (dial_in s c) ≡ true) again →
    option_map (order_step s) (next_dial_by s again) ≡ dial_order_by start.rules h again
said-by start s h [] st out =
    agree start s h (oldest_below s (length s.circuits)) (first_of (dials start.rules h)) st
    (oldest-best s (length s.circuits)) (first-least 0 (waits start.rules h) (dials_made start.rules h)
    (made-numbered start.rules h))
    ∙ sym (first-mapped h (dials start.rules h))
said-by start s h (c ∷ again) st out = again-by start s h c (dial_in s c) st refl out.0

pub dial_order_said : (start : SwitchStart) (s : State) (h : List Step) → Stands start s h →
    dial_order_result s ≡ dial_order_by start.rules h s.again
dial_order_said start s h st = said-by start s h s.again st st.dials.are_out
