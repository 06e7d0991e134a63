-- give_back keeps what a state stands for.
use Rattle.std.proofs.Common.{◌≡◌, ℕ, true, false, List, ◌∷◌, Option, Some, None, refl, sym, ap, subst}
use Rattle.circuit_model.specs.Events.{Event}
use Rattle.circuit_model.specs.Rules.{Rules}
use Rattle.switch_machine.proofs.GiveBack.Accepts.{accepts}
use Rattle.switch_machine.proofs.GiveBack.BackKept.{back-kept}
use Rattle.switch_machine.proofs.GiveBack.Closing.{closing-kept}
use Rattle.switch_machine.proofs.GiveBack.ForthKept.{forth-kept}
use Rattle.switch_machine.proofs.GiveBack.Refused.{gone-kept, stranger-kept}
use Rattle.switch_machine.proofs.GiveBack.Said.{give_back_said, is-kept}
use Rattle.switch_machine.specs.Calls.GiveBack.{closed_state, done_result, done_state, give_back_result, give_back_state, give_back_state_of, settled_state}
use Rattle.switch_machine.specs.Machine.{counted, kept_cells, kept_note, way_of_circuit}
use Rattle.switch_machine.specs.Stands.{Stands}
use Rattle.switch_machine.specs.State.{CircuitState, State, slot_at}
use Rattle.switch_model.specs.Answers.GiveBack.{done_by, give_back_answer, is_note}
use Rattle.switch_model.specs.History.Circuit.{events, is_accepted_return}
use Rattle.switch_model.specs.History.Returns.{settling_reason}
use Rattle.switch_model.specs.Start.{SwitchStart}
use Rattle.tr_io.specs.declared.answers.BackAnswer.{BackAnswer}
use Rattle.tr_io.specs.declared.names.ClaimNote.{ClaimNote}
use Rattle.tr_io.specs.declared.names.Dir.{Dir}
use Rattle.tr_io.specs.declared.names.Dir.TheVariants.{Back, Forth}
use Rattle.tr_io.specs.declared.step.Step.{Step}
use Rattle.tr_io.specs.declared.step.Step.TheVariants.{GiveBack}

none-closes : (o : Option ℕ) → done_by o ≡ BackAnswer.Settled → o ≡ None
none-closes None same = refl
none-closes (Some reason) same = absurd cc

-- bodies that settle
settled-by : (start : SwitchStart) (s : State) (h : List Step) (n : ClaimNote) (x : CircuitState) (d : Dir) → n.dir ≡ d
    → Stands start s h → slot_at s.circuits n.circ.0 ≡ Some x → is_note n (kept_note (way_of_circuit x d).claim_out) ≡ true →
    done_result start.rules (events start.rules h n.circ.0) x d ≡ BackAnswer.Settled
    → BackAnswer.Settled ≡ give_back_answer start h n None →
    Stands start (done_state start.rules (events start.rules h n.circ.0) s n.circ.0 x d) (GiveBack n None BackAnswer.Settled ∷ h)
settled-by start s h n x Back back st found is same said =
    let k = is-kept n x.back.claim_out is in
    back-kept start s h n x k.0 st found back k.1.0 k.1.1 said
settled-by start s h n x Forth forth st found is same said =
    let k = is-kept n x.forth.claim_out is in
    let cells : kept_cells x.forth.claim_out ≡ k.0.cells = ap kept_cells k.1.0 in
    let none : settling_reason start.rules x.sent_count (events start.rules h n.circ.0) k.0.cells ≡ None =
    subst (λ l. settling_reason start.rules x.sent_count (events start.rules h n.circ.0) l ≡ None) cells (none-closes _ same) in
    subst (λ l. Stands start (settled_state start.rules (events start.rules h n.circ.0) s n.circ.0 x l)
    (GiveBack n None BackAnswer.Settled ∷ h)) (sym cells)
    (forth-kept start s h n x k.0 st found forth k.1.0 k.1.1 none said)

-- bodies one of which closes
closed-by : (start : SwitchStart) (s : State) (h : List Step) (n : ClaimNote) (reason : ℕ) (x : CircuitState) (d : Dir)
    → n.dir ≡ d → Stands start s h → slot_at s.circuits n.circ.0 ≡ Some x
    → is_note n (kept_note (way_of_circuit x d).claim_out) ≡ true →
    done_result start.rules (events start.rules h n.circ.0) x d ≡ BackAnswer.Down reason
    → BackAnswer.Down reason ≡ give_back_answer start h n None →
    Stands start (closed_state start.rules (events start.rules h n.circ.0) s n.circ.0 x (kept_cells x.forth.claim_out) reason)
    (GiveBack n None (BackAnswer.Down reason) ∷ h)
closed-by start s h n reason x Back back st found is same said = absurd cc
closed-by start s h n reason x Forth forth st found is same said =
    let k = is-kept n x.forth.claim_out is in
    let cells : kept_cells x.forth.claim_out ≡ k.0.cells = ap kept_cells k.1.0 in
    subst (λ l. Stands start (closed_state start.rules (events start.rules h n.circ.0) s n.circ.0 x l reason)
    (GiveBack n None (BackAnswer.Down reason) ∷ h)) (sym cells)
    (closing-kept start s h n reason x k.0 st found forth k.1.0 k.1.1 said)

refused-state : (rules : Rules) (ev : List Event) (s : State) (n : ClaimNote) (x : Option CircuitState) (a : BackAnswer)
    → is_accepted_return a ≡ false → give_back_state_of rules ev s n x a ≡ counted s
refused-state rules ev s n None a refused = refl
refused-state rules ev s n (Some x) BackAnswer.Settled refused = absurd cc
refused-state rules ev s n (Some x) (BackAnswer.Down reason) refused = absurd cc
refused-state rules ev s n (Some x) BackAnswer.Gone refused = refl
refused-state rules ev s n (Some x) (BackAnswer.Stranger why) refused = refl

abbrev done_for : Rules → List Event → ClaimNote → CircuitState → BackAnswer
done_for rules ev n x = done_result rules ev x n.dir

accepted-settled : (start : SwitchStart) (s : State) (h : List Step) (n : ClaimNote) (place : Option ℕ) (x : CircuitState)
    → Stands start s h → slot_at s.circuits n.circ.0 ≡ Some x → is_note n (kept_note (way_of_circuit x n.dir).claim_out) ≡ true
    → place ≡ None →
    done_result start.rules (events start.rules h n.circ.0) x n.dir ≡ BackAnswer.Settled
    → BackAnswer.Settled ≡ give_back_answer start h n place →
    Stands start
    (give_back_state_of start.rules (events start.rules h n.circ.0) s n (slot_at s.circuits n.circ.0) BackAnswer.Settled)
    (GiveBack n place BackAnswer.Settled ∷ h)
accepted-settled start s h n place x st found is none same said =
    rw (found, none)
    (settled-by start s h n x n.dir refl st found is same
    (subst (λ p. BackAnswer.Settled ≡ give_back_answer start h n p) none said))

accepted-closed : (start : SwitchStart) (s : State) (h : List Step) (n : ClaimNote) (place : Option ℕ) (reason : ℕ)
    (x : CircuitState) → Stands start s h → slot_at s.circuits n.circ.0 ≡ Some x
    → is_note n (kept_note (way_of_circuit x n.dir).claim_out) ≡ true → place ≡ None →
    done_result start.rules (events start.rules h n.circ.0) x n.dir ≡ BackAnswer.Down reason
    → BackAnswer.Down reason ≡ give_back_answer start h n place →
    Stands start
    (give_back_state_of start.rules (events start.rules h n.circ.0) s n (slot_at s.circuits n.circ.0)
    (BackAnswer.Down reason)) (GiveBack n place (BackAnswer.Down reason) ∷ h)
accepted-closed start s h n place reason x st found is none same said =
    rw (found, none)
    (closed-by start s h n reason x n.dir refl st found is same
    (subst (λ p. BackAnswer.Down reason ≡ give_back_answer start h n p) none said))

by-answer : (start : SwitchStart) (s : State) (h : List Step) (n : ClaimNote) (place : Option ℕ) (a : BackAnswer)
    → Stands start s h → give_back_result start.name start.rules (events start.rules h) s n place ≡ a
    → a ≡ give_back_answer start h n place →
    Stands start (give_back_state_of start.rules (events start.rules h n.circ.0) s n (slot_at s.circuits n.circ.0) a)
    (GiveBack n place a ∷ h)
by-answer start s h n place BackAnswer.Settled st same said =
    let got = accepts start.name s n place (done_for start.rules (events start.rules h n.circ.0) n) BackAnswer.Settled refl
    same in
    accepted-settled start s h n place got.circuit st got.found got.is got.nothing_differs got.says said
by-answer start s h n place (BackAnswer.Down reason) st same said =
    let got = accepts start.name s n place (done_for start.rules (events start.rules h n.circ.0) n) (BackAnswer.Down reason) refl
    same in
    accepted-closed start s h n place reason got.circuit st got.found got.is got.nothing_differs got.says said
by-answer start s h n place BackAnswer.Gone st same said =
    rw (refused-state start.rules (events start.rules h n.circ.0) s n (slot_at s.circuits n.circ.0) BackAnswer.Gone refl)
    (gone-kept start s h n place st said)
by-answer start s h n place (BackAnswer.Stranger why) st same said =
    rw (refused-state start.rules (events start.rules h n.circ.0) s n (slot_at s.circuits n.circ.0) (BackAnswer.Stranger why)
    refl) (stranger-kept start s h n place why st said)

pub give_back_kept : (start : SwitchStart) (s : State) (h : List Step) (n : ClaimNote) (place : Option ℕ) → Stands start s h →
    Stands start (give_back_state start.name start.rules (events start.rules h) s n place)
    (GiveBack n place (give_back_result start.name start.rules (events start.rules h) s n place) ∷ h)
give_back_kept start s h n place st =
    by-answer start s h n place (give_back_result start.name start.rules (events start.rules h) s n place) st refl
    (give_back_said start s h n place st)
