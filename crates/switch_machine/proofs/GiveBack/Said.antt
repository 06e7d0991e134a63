-- What a return answers is what the history tells.
use Rattle.std.proofs.Common.{◌≡◌, ℕ, ◌==◌, Bool, true, false, not, if◌then◌else◌, List, length, take, drop, Option, Some, None, refl, sym, ◌∙◌, ap, subst}
use Rattle.circuit_model.specs.Rules.{Rules}
use Rattle.switch_machine.proofs.GiveBack.Home.{claimed-same}
use Rattle.switch_machine.specs.Calls.GiveBack.{done_result, give_back_result, return_result, return_result_on}
use Rattle.switch_machine.specs.Machine.{kept_cells, kept_note, way_of_circuit}
use Rattle.switch_machine.specs.Stands.{Stands}
use Rattle.switch_machine.specs.Stands.OneCircuit.{CircuitAt, CircuitStands}
use Rattle.switch_machine.specs.State.{CircuitState, KeptClaim, State, slot_at}
use Rattle.switch_model.proofs.ClaimFinds.{way-is}
use Rattle.switch_model.proofs.Common.{and-first, and-second, same-number}
use Rattle.switch_model.specs.Answers.EdgeOut.{Ordered}
use Rattle.switch_model.specs.Answers.GiveBack.{done, done_by, give_back_answer, is_note, return_answer, returned}
use Rattle.switch_model.specs.History.Circuit.{events, is_live_circuit, sent}
use Rattle.switch_model.specs.History.EdgePast.{edge_past}
use Rattle.switch_model.specs.History.Legs.{holds_id}
use Rattle.switch_model.specs.History.Past.{past}
use Rattle.switch_model.specs.History.Returns.{settling_reason}
use Rattle.switch_model.specs.History.Taken.{claimed_cells, taken_forth}
use Rattle.switch_model.specs.Names.{Way, circ_no, same_note, same_way, way_of}
use Rattle.switch_model.specs.Start.{SwitchStart}
use Rattle.switch_model.specs.Waiting.Claims.{claim_out}
use Rattle.tr_io.specs.declared.answers.BackAnswer.{BackAnswer}
use Rattle.tr_io.specs.declared.answers.Difference.{Difference}
use Rattle.tr_io.specs.declared.names.ClaimNote.{ClaimNote}
use Rattle.tr_io.specs.declared.names.Dir.{Dir}
use Rattle.tr_io.specs.declared.names.Dir.TheVariants.{Back, Forth}
use Rattle.tr_io.specs.declared.step.Step.{Step}

-- notes that are the same
note-by : (a b c d e f i j k l : ℕ) (v w : Way) → a ≡ b → c ≡ d → e ≡ f → v ≡ w → i ≡ j → k ≡ l →
    ◌≡◌ {A = ClaimNote} (record { switch = a; claim = c; worker = e; circ = circ_no v.circ; dir = v.dir; first = i; count = k })
    (record { switch = b; claim = d; worker = f; circ = circ_no w.circ; dir = w.dir; first = j; count = l })
note-by a b c d e f i j k l v w p q r s t u = rw (p, q, r, s, t, u) refl

notes-same : (a b : ClaimNote) → same_note a b ≡ true → a ≡ b
notes-same a b is =
    let one = and-second (a.switch == b.switch) _ is in
    let two = and-second (a.claim == b.claim) _ one in
    let three = and-second (a.worker == b.worker) _ two in
    let four = and-second (same_way (way_of a) (way_of b)) _ three in
    note-by a.switch b.switch a.claim b.claim a.worker b.worker a.first b.first a.count b.count (way_of a) (way_of b)
    (same-number a.switch b.switch (and-first (a.switch == b.switch) _ is))
    (same-number a.claim b.claim (and-first (a.claim == b.claim) _ one))
    (same-number a.worker b.worker (and-first (a.worker == b.worker) _ two))
    (way-is (way_of a) (way_of b) (and-first (same_way (way_of a) (way_of b)) _ three))
    (same-number a.first b.first (and-first (a.first == b.first) _ four))
    (same-number a.count b.count (and-second (a.first == b.first) _ four))

-- a claim that is known by its note
pub is-kept : (n : ClaimNote) (o : Option KeptClaim) → is_note n (kept_note o) ≡ true
    → (k : KeptClaim) × ((o ≡ Some k) × (k.note ≡ n))
is-kept n None is = absurd cc
is-kept n (Some k) is = (k, (refl, notes-same k.note n is))

-- its bodies are those that the history tells
pub cells-said : (rules : Rules) (closes : List Ordered) (h : List Step) (n : ClaimNote) (x : CircuitState) (k : KeptClaim)
    → x.forth.claim_out ≡ Some k → k.note ≡ n →
    CircuitStands rules closes x n.circ.0 (past rules h n.circ.0) (λ j. holds_id h n.circ.0 j) (edge_past rules h n.circ.0)
    → claimed_cells h n ≡ k.cells
cells-said rules closes h n x k out its own =
    subst (λ (m : ClaimNote). take m.count (drop m.first (taken_forth h n.circ.0)) ≡ k.cells) its
    (claimed-same n.circ.0 Forth x.forth _ _ _ _ _ k own.forth out)

forth-said : (rules : Rules) (closes : List Ordered) (h : List Step) (n : ClaimNote) (x : CircuitState)
    → CircuitStands rules closes x n.circ.0 (past rules h n.circ.0) (λ j. holds_id h n.circ.0 j) (edge_past rules h n.circ.0) →
    is_note n (kept_note x.forth.claim_out) ≡ true →
    settling_reason rules x.sent_count (events rules h n.circ.0) (kept_cells x.forth.claim_out)
    ≡ settling_reason rules (length (sent rules h n.circ.0 0)) (events rules h n.circ.0) (claimed_cells h n)
forth-said rules closes h n x own is =
    let k = is-kept n x.forth.claim_out is in
    let same : claimed_cells h n ≡ kept_cells x.forth.claim_out =
    cells-said rules closes h n x k.0 k.1.0 k.1.1 own ∙ ap kept_cells (sym k.1.0) in
    rw (own.sent_count, ← same) refl

kept-said : (rules : Rules) (closes : List Ordered) (h : List Step) (c : ℕ) (x : CircuitState) (d : Dir)
    → CircuitStands rules closes x c (past rules h c) (λ j. holds_id h c j) (edge_past rules h c) →
    kept_note (way_of_circuit x d).claim_out ≡ claim_out h (record { circ = c; dir = d })
kept-said rules closes h c x Forth own = own.forth.claim_out
kept-said rules closes h c x Back own = own.back.claim_out

done-said : (rules : Rules) (closes : List Ordered) (h : List Step) (n : ClaimNote) (x : CircuitState) (d : Dir)
    → CircuitStands rules closes x n.circ.0 (past rules h n.circ.0) (λ j. holds_id h n.circ.0 j) (edge_past rules h n.circ.0) →
    is_note n (kept_note (way_of_circuit x d).claim_out) ≡ true
    → done_result rules (events rules h n.circ.0) x d ≡ done rules h n d
done-said rules closes h n x Back own is = refl
done-said rules closes h n x Forth own is = ap done_by (forth-said rules closes h n x own is)

-- the checks, with what is answered to one that passes them
checks : (n : ClaimNote) (place : Option ℕ) (o u : Option ClaimNote) (a b : BackAnswer) (is : Bool) → o ≡ u → is_note n o ≡ is
    → (is ≡ true → a ≡ b) →
    (if not (is_note n o) then BackAnswer.Stranger (Difference.Note o n) else returned n place a)
    ≡ (if not (is_note n u) then BackAnswer.Stranger (Difference.Note u n) else returned n place b)
checks n place o u a b true same is agree = rw (← same, is, agree refl) refl
checks n place o u a b false same is agree = rw (← same, is) refl

on-said : (start : SwitchStart) (s : State) (h : List Step) (n : ClaimNote) (place : Option ℕ) (x : Option CircuitState)
    (answer : CircuitState → BackAnswer) (told : BackAnswer) →
    CircuitAt start.rules s.last_closes x n.circ.0 (past start.rules h n.circ.0) (λ j. holds_id h n.circ.0 j)
    (edge_past start.rules h n.circ.0) →
    ((y : CircuitState) → x ≡ Some y → is_note n (kept_note (way_of_circuit y n.dir).claim_out) ≡ true → answer y ≡ told) →
    return_result_on n place x answer
    ≡ (if not (is_live_circuit start.rules h n.circ.0) then BackAnswer.Gone else if not (is_note n (claim_out h (way_of n)))
    then BackAnswer.Stranger (Difference.Note (claim_out h (way_of n)) n) else returned n place told)
on-said start s h n place None answer told gone agree = rw gone.live refl
on-said start s h n place (Some x) answer told own agree =
    rw own.live
    (checks n place (kept_note (way_of_circuit x n.dir).claim_out) (claim_out h (way_of n)) (answer x) told
    (is_note n (kept_note (way_of_circuit x n.dir).claim_out)) (kept-said start.rules s.last_closes h n.circ.0 x n.dir own)
    refl (agree x refl))

pub return-said : (start : SwitchStart) (s : State) (h : List Step) (n : ClaimNote) (place : Option ℕ)
    (answer : CircuitState → BackAnswer) (told : BackAnswer) → Stands start s h →
    ((y : CircuitState) → slot_at s.circuits n.circ.0 ≡ Some y → is_note n (kept_note (way_of_circuit y n.dir).claim_out) ≡ true
    → answer y ≡ told) →
    return_result start.name s n place answer ≡ return_answer start h n place told
return-said start s h n place answer told st agree =
    rw (
      st.numbers.circuits,
      on-said start s h n place (slot_at s.circuits n.circ.0) answer told (st.circuits.circuit n.circ.0)
          agree,
    ) refl

pub give_back_said : (start : SwitchStart) (s : State) (h : List Step) (n : ClaimNote) (place : Option ℕ) → Stands start s h →
    give_back_result start.name start.rules (events start.rules h) s n place ≡ give_back_answer start h n place
give_back_said start s h n place st =
    return-said start s h n place (λ x. done_result start.rules (events start.rules h n.circ.0) x n.dir)
    (done start.rules h n n.dir) st
    (λ y found is. done-said start.rules s.last_closes h n y n.dir
    (subst (λ z. CircuitAt start.rules s.last_closes z n.circ.0 (past start.rules h n.circ.0) (λ j. holds_id h n.circ.0 j)
    (edge_past start.rules h n.circ.0)) found (st.circuits.circuit n.circ.0)) is)
