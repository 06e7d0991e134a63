-- Each right order of a history is the answer of some state that stands for it: the history doesn't tell which
-- orders are handed out again, so a state is taken in which the order is, or none is.
use Rattle.std.proofs.Common.{◌≡◌, ℕ, ◌&&◌, ◌<◌, Bool, true, false, if◌then◌else◌, zero, suc, slice_index_or, List, [], ◌∷◌, length, Option, Some, None, refl, sym, ◌∙◌, ap, arith, inl, inr}
use Rattle.std.specs.List.{AllByRecursion, filter}
use Rattle.tr_io.specs.declared.dials.DialStep.{DialStep}
use Rattle.tr_io.specs.declared.step.Step.{Step}
use Rattle.switch_model.specs.Start.{SwitchStart}
use Rattle.switch_model.specs.Answers.DialOrder.{first_dial}
use Rattle.switch_model.specs.Legal.{IsDialOrder, IsOutAgain}
use Rattle.switch_model.specs.Waiting.Dials.{Dial, dials, dials_made, is_open, was_handed_out}
use Rattle.switch_machine.specs.Calls.DialOrder.{dial_order_result}
use Rattle.switch_machine.specs.Machine.{dial_in, is_handed_out}
use Rattle.switch_machine.specs.Stands.{Stands}
use Rattle.switch_machine.specs.Stands.Dials.{AreOnce}
use Rattle.switch_machine.specs.State.{State}
use Rattle.switch_model.proofs.Common.{and-first, and-second}
use Rattle.switch_machine.proofs.Again.{IsIn}
use Rattle.switch_machine.proofs.DialOrder.Open.{open-in, state_of}
use Rattle.switch_machine.proofs.DialOrder.Said.{dial_order_said, step-said}

-- A state with this answer.
pub record Answers (start : SwitchStart) (h : List Step) (a : Option DialStep) : Type 0 where
  pub state : State
  pub stands : Stands start state h
  pub answer : dial_order_result state ≡ a

-- any orders that are out may be handed out again
again-free : (start : SwitchStart) (s : State) (h : List Step) (again : List ℕ) → Stands start s h →
    AllByRecursion (λ c. is_handed_out (dial_in s c) ≡ true) again → AreOnce again → Stands start (record s { again = again }) h
again-free start s h again st out once = record {
  steps = st.steps;
  numbers = st.numbers;
  channels = st.channels;
  circuits = st.circuits;
  ids = st.ids;
  legs = st.legs;
  dials = record { are_out = out; once = once; never = st.dials.never };
  counts = st.counts;
  slots = st.slots;
  not_yet = st.not_yet;
}

oldest-each : (start : SwitchStart) (s : State) (h : List Step) (a : Option DialStep) → Stands start s h →
    first_dial h (dials start.rules h) ≡ a → Answers start h a
oldest-each start s h a st same =
    let stands : Stands start (record s { again = [] }) h = again-free start s h [] st tt tt in
    record {
      state = record s { again = [] };
      stands = stands;
      answer = dial_order_said start
          (record s { again = [] }) h stands ∙ same;
    }

-- an order among those that are out
is-in : (l : List Dial) (d : Dial) (k : ℕ) → k < length l → slice_index_or l k d ≡ d → IsIn d l
is-in [] d k inside same = absurd (omega (arith, inside))
is-in (first ∷ l) d zero inside same = inl same
is-in (first ∷ l) d (suc k) inside same = inr (is-in l d k (omega (arith, inside)) same)

passed-by : (test : Dial → Bool) (first d : Dial) (l rest : List Dial) (b : Bool) → test first ≡ b →
    (IsIn d rest → IsIn d l × (test d ≡ true)) → IsIn d (if b then first ∷ rest else rest) →
    IsIn d (first ∷ l) × (test d ≡ true)
passed-by test first d l rest true is later (inl same) = (inl same, ap test (sym same) ∙ is)
passed-by test first d l rest true is later (inr inside) = let own = later inside in (inr own.0, own.1)
passed-by test first d l rest false is later inside = let own = later inside in (inr own.0, own.1)

passed : (test : Dial → Bool) (l : List Dial) (d : Dial) → IsIn d (filter test l) → IsIn d l × (test d ≡ true)
passed test [] d inside = absurd inside
passed test (first ∷ l) d inside = passed-by test first d l (filter test l) (test first) refl (passed test l d) inside

out-each : (start : SwitchStart) (s : State) (h : List Step) (order : DialStep) → Stands start s h →
    IsOutAgain start.rules h order → Answers start h (Some order)
out-each start s h order st is =
    let rules = start.rules in
    let dial = is.dial in
    let own = passed (λ d. is_open rules h d && was_handed_out h d.order) (dials_made rules h) dial
    (is-in _ dial is.out.0 is.out.1 is.out.2) in
    let has = open-in start s h dial st own.0 (and-first (is_open rules h dial) _ own.1) in
    let handed = and-second (is_open rules h dial) _ own.1 in
    let t : State = record s { again = dial.circ ∷ [] } in
    let stands : Stands start t h = again-free start s h (dial.circ ∷ []) st (rw has handed, tt) (refl, tt) in
    record {
      state = t;
      stands = stands;
      answer = rw has (ap (λ (g : DialStep). Some g)
          (step-said start t h dial.circ (state_of (was_handed_out h) dial) dial stands refl refl ∙ sym is.given));
    }

pub order-each : (start : SwitchStart) (s : State) (h : List Step) (a : Option DialStep) → Stands start s h →
    IsDialOrder start.rules h a → Answers start h a
order-each start s h None st none = oldest-each start s h None st (ap (first_dial h) none)
order-each start s h (Some order) st (inl same) = oldest-each start s h (Some order) st (sym same)
order-each start s h (Some order) st (inr is) = out-each start s h order st is
