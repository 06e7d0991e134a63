-- A return that is refused changes nothing.
use Rattle.std.proofs.Common.{◌≡◌, ℕ, ◌==◌, ◌≤◌, false, List, [], ◌∷◌, length, Option, refl, sym, ◌∙◌, ap, subst}
use Rattle.std.proofs.Math.Path.{fun_ext}
use Rattle.std.proofs.Math.Seq.{drop-length}
use Rattle.std.proofs.lemmas.List.{append-nil}
use Rattle.circuit_model.specs.Packaged.{back_bodies}
use Rattle.circuit_model.specs.Rules.{Rules}
use Rattle.circuit_model.specs.Words.{log}
use Rattle.switch_machine.proofs.GiveBack.Returned.{back_of}
use Rattle.switch_machine.proofs.NewBodies.{all-new, new-none}
use Rattle.switch_machine.proofs.OneStep.{step-added}
use Rattle.switch_machine.specs.Machine.{counted}
use Rattle.switch_machine.specs.Stands.{Stands}
use Rattle.switch_machine.specs.Stands.Numbers.{NumbersStand, numbers_in, numbers_past}
use Rattle.switch_machine.specs.State.{State}
use Rattle.switch_model.proofs.Common.{and-false}
use Rattle.switch_model.specs.Answers.GiveBack.{give_back_answer}
use Rattle.switch_model.specs.History.Circuit.{events, is_accepted_return}
use Rattle.switch_model.specs.History.EdgePast.{edge_past}
use Rattle.switch_model.specs.History.Past.{past}
use Rattle.switch_model.specs.Names.{same_dir, same_way, way_of}
use Rattle.switch_model.specs.Start.{SwitchStart}
use Rattle.switch_model.specs.Waiting.Claims.{born_bodies, claim_out}
use Rattle.switch_model.specs.Waiting.Dials.{asked, dials_made, was_handed_out}
use Rattle.tr_io.specs.declared.answers.BackAnswer.{BackAnswer}
use Rattle.tr_io.specs.declared.answers.Difference.{Difference}
use Rattle.tr_io.specs.declared.names.ClaimNote.{ClaimNote}
use Rattle.tr_io.specs.declared.names.Dir.{Dir}
use Rattle.tr_io.specs.declared.names.Dir.TheVariants.{Forth}
use Rattle.tr_io.specs.declared.step.Step.{Step}
use Rattle.tr_io.specs.declared.step.Step.TheVariants.{GiveBack}

events-refused : (rules : Rules) (h : List Step) (n : ClaimNote) (place : Option ℕ) (a : BackAnswer) (d : ℕ)
    → is_accepted_return a ≡ false → events rules (GiveBack n place a ∷ h) d ≡ events rules h d
events-refused rules h n place a d refused = rw (refused, and-false (same_dir n.dir Forth), and-false (n.circ.0 == d)) refl

kept-refused : (h : List Step) (n : ClaimNote) (place : Option ℕ) (a : BackAnswer) (d : ℕ) → is_accepted_return a ≡ false →
    ◌≡◌ {A = Dir → Option ClaimNote} (λ dir. claim_out (GiveBack n place a ∷ h) (record { circ = d; dir = dir }))
    (λ dir. claim_out h (record { circ = d; dir = dir }))
kept-refused h n place a d refused =
    fun_ext (λ dir. rw (refused, and-false (same_way (way_of n) (record { circ = d; dir = dir }))) refl)

born-refused : (rules : Rules) (h : List Step) (n : ClaimNote) (place : Option ℕ) (a : BackAnswer) → is_accepted_return a ≡ false
    → born_bodies rules (GiveBack n place a ∷ h) ≡ born_bodies rules h
born-refused rules h n place a refused =
    all-new _ _ (born_bodies rules h) []
    (new-none (back_of n.circ.0) _ _
    (ap (λ e. length (back_bodies (log rules e))) (events-refused rules h n place a n.circ.0 refused)))
    (new-none (record { circ = n.circ.0; dir = Forth }) _ _ refl)

dials-refused : (rules : Rules) (h : List Step) (n : ClaimNote) (place : Option ℕ) (a : BackAnswer) → is_accepted_return a ≡ false
    → dials_made rules (GiveBack n place a ∷ h) ≡ dials_made rules h
dials-refused rules h n place a refused =
    rw (events-refused rules h n place a n.circ.0 refused, drop-length (asked (log rules (events rules h n.circ.0))))
    (append-nil (dials_made rules h))

-- what a refusal leaves of the groups that see more than the step itself
pub record Refused (start : SwitchStart) (s : State) (h : List Step) (step : Step) : Type 0 where
  pub numbers : NumbersStand (numbers_in s) (numbers_past start.rules (step ∷ h))
  pub past_is : (d : ℕ) → past start.rules (step ∷ h) d ≡ past start.rules h d
  pub edge_is : (d : ℕ) → edge_past start.rules (step ∷ h) d ≡ edge_past start.rules h d
  pub never : (order : ℕ) → length (dials_made start.rules (step ∷ h)) ≤ order → was_handed_out (step ∷ h) order ≡ false

gone-leaves : (start : SwitchStart) (s : State) (h : List Step) (n : ClaimNote) (place : Option ℕ) → Stands start s h
    → Refused start s h (GiveBack n place BackAnswer.Gone)
gone-leaves start s h n place st =
    let rules = start.rules in
    let a = BackAnswer.Gone in
    let born_same = born-refused rules h n place a refl in
    let dials_same = dials-refused rules h n place a refl in
    record {
      numbers = record {
        channels = st.numbers.channels;
        circuits = st.numbers.circuits;
        claims = st.numbers.claims;
        bodies = st.numbers.bodies ∙ ap length (sym born_same);
        dial_orders =
            st.numbers.dial_orders ∙ ap length (sym dials_same);
        tick = st.numbers.tick;
      };
      past_is = λ d. rw (events-refused rules h n place a d refl)
          (ap (λ f. record (past rules h d) { claim_out = f }) (kept-refused h n place a d refl));
      edge_is = λ d. rw (born_same, dials_same, events-refused rules h n place a d refl) refl;
      never = λ order beyond. st.dials.never order (subst (λ m. length m ≤ order) dials_same beyond);
    }

stranger-leaves : (start : SwitchStart) (s : State) (h : List Step) (n : ClaimNote) (place : Option ℕ) (why : Difference)
    → Stands start s h → Refused start s h (GiveBack n place (BackAnswer.Stranger why))
stranger-leaves start s h n place why st =
    let rules = start.rules in
    let a = BackAnswer.Stranger why in
    let born_same = born-refused rules h n place a refl in
    let dials_same = dials-refused rules h n place a refl in
    record {
      numbers = record {
        channels = st.numbers.channels;
        circuits = st.numbers.circuits;
        claims = st.numbers.claims;
        bodies = st.numbers.bodies ∙ ap length (sym born_same);
        dial_orders =
            st.numbers.dial_orders ∙ ap length (sym dials_same);
        tick = st.numbers.tick;
      };
      past_is = λ d. rw (events-refused rules h n place a d refl)
          (ap (λ f. record (past rules h d) { claim_out = f }) (kept-refused h n place a d refl));
      edge_is = λ d. rw (born_same, dials_same, events-refused rules h n place a d refl) refl;
      never = λ order beyond. st.dials.never order (subst (λ m. length m ≤ order) dials_same beyond);
    }

pub gone-kept : (start : SwitchStart) (s : State) (h : List Step) (n : ClaimNote) (place : Option ℕ) → Stands start s h
    → BackAnswer.Gone ≡ give_back_answer start h n place → Stands start (counted s) (GiveBack n place BackAnswer.Gone ∷ h)
gone-kept start s h n place st said =
    let leaves = gone-leaves start s h n place st in
    record {
      steps = step-added start s.steps h (GiveBack n place BackAnswer.Gone) st.steps (tt, said);
      numbers = leaves.numbers;
      channels = st.channels;
      circuits = record {
        circuit = λ d. rw (leaves.past_is d, leaves.edge_is d) (st.circuits.circuit d);
        fresh = λ d beyond. rw (leaves.past_is d, leaves.edge_is d) (st.circuits.fresh d beyond);
      };
      ids = st.ids;
      legs = st.legs;
      dials = record { are_out = st.dials.are_out; once = st.dials.once; never = leaves.never };
      counts = st.counts;
      slots = st.slots;
      not_yet = st.not_yet;
    }

pub stranger-kept : (start : SwitchStart) (s : State) (h : List Step) (n : ClaimNote) (place : Option ℕ) (why : Difference)
    → Stands start s h → BackAnswer.Stranger why ≡ give_back_answer start h n place →
    Stands start (counted s) (GiveBack n place (BackAnswer.Stranger why) ∷ h)
stranger-kept start s h n place why st said =
    let leaves = stranger-leaves start s h n place why st in
    record {
      steps = step-added start s.steps h (GiveBack n place (BackAnswer.Stranger why)) st.steps (tt, said);
      numbers = leaves.numbers;
      channels = st.channels;
      circuits = record {
        circuit = λ d. rw (leaves.past_is d, leaves.edge_is d) (st.circuits.circuit d);
        fresh = λ d beyond. rw (leaves.past_is d, leaves.edge_is d) (st.circuits.fresh d beyond);
      };
      ids = st.ids;
      legs = st.legs;
      dials = record { are_out = st.dials.are_out; once = st.dials.once; never = leaves.never };
      counts = st.counts;
      slots = st.slots;
      not_yet = st.not_yet;
    }
