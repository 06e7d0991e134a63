use Rattle.std.proofs.Common.{◌≡◌, ◌==◌, ℕ, nat_le, true, false, arith, ap}
use Rattle.std.proofs.lemmas.Bool.Decides.{nat_tests}
use Rattle.tor_spec.specs.Reasons.{destroy_destroyed, destroy_protocol, destroy_resource_limit}
use Rattle.switch_machine.specs.State.{slot_at}
use Rattle.switch_model.specs.Names.{circuit_cell}
use Rattle.switch_core.specs.Taking.{body_count}
use Rattle.switch_core.proofs.Takes.{case_by, case_of, closed_no_memory}
use Rattle.switch_core.proofs.LegCells.{closed_left, created2_said, destroy_said, ended_left, full_said, queued_said}
use Rattle.switch_core.proofs.TakeSteps.{queued_case}
use Rattle.switch_core.proofs.parts.Parts.take_on.Goals as goal

pub returns-then-cell-eq-DESTROY-clause-state : goal.returns-then-cell-eq-DESTROY-clause-state
returns-then-cell-eq-DESTROY-clause-state c =
    case_of c.end_by_peer.result _ _
    (closed_no_memory c.args.number destroy_destroyed _ c.end_by_peer.result c.end_by_peer.ensures.answer)
    (λ rules ev. ended_left c.args.self.now c.end_by_peer.new.self c.args.number rules ev (circuit_cell c.args.cell.now)
    c.end_by_peer.result c.requires.one_leg c.end_by_peer.ensures.again c.if-cell-eq-DESTROY.true c.end_by_peer.ensures.answer
    c.end_by_peer.ensures.state)

pub returns-then-cell-eq-DESTROY-clause-answer : goal.returns-then-cell-eq-DESTROY-clause-answer
returns-then-cell-eq-DESTROY-clause-answer c =
    case_of c.end_by_peer.result _ _
    (closed_no_memory c.args.number destroy_destroyed _ c.end_by_peer.result c.end_by_peer.ensures.answer)
    (λ rules ev. destroy_said c.args.self.now c.args.number rules ev (circuit_cell c.args.cell.now) c.end_by_peer.result
    c.if-cell-eq-DESTROY.true c.end_by_peer.ensures.answer)

pub returns-then-cell-eq-CREATED2-clause-state : goal.returns-then-cell-eq-CREATED2-clause-state
returns-then-cell-eq-CREATED2-clause-state c =
    case_of c.close.result _ _ (closed_no_memory c.args.number destroy_protocol _ c.close.result c.close.ensures.answer)
    (λ rules ev. closed_left c.args.self.now c.close.new.self c.args.number destroy_protocol rules ev
    (circuit_cell c.args.cell.now) c.close.result (ap (λ n. n == 4) c.if-cell-eq-CREATED2.true) c.close.ensures.answer
    (c.close.ensures.state rules ev))

pub returns-then-cell-eq-CREATED2-clause-answer : goal.returns-then-cell-eq-CREATED2-clause-answer
returns-then-cell-eq-CREATED2-clause-answer c =
    case_of c.close.result _ _ (closed_no_memory c.args.number destroy_protocol _ c.close.result c.close.ensures.answer)
    (λ rules ev. created2_said c.args.self.now c.args.number rules ev (circuit_cell c.args.cell.now) c.close.result
    c.if-cell-eq-CREATED2.true c.close.ensures.answer)

-- the command is that of a relay cell
relay-cell : (n : ℕ) → (n ≡ 4 → ⊥) → (n ≡ 11 → ⊥) → ((n == 4) ≡ false) × ((n == 11) ≡ false)
relay-cell n no_destroy no_created = (grind (arith, nat_tests), grind (arith, nat_tests))

pub returns-then-body_count-ge-MOST_BODIES-clause-state : goal.returns-then-body_count-ge-MOST_BODIES-clause-state
returns-then-body_count-ge-MOST_BODIES-clause-state c =
    let relay = relay-cell c.args.cell.now.command c.if-cell-eq-DESTROY.false c.if-cell-eq-CREATED2.false in
    case_of c.close-then-body_count-ge-MOST_BODIES.result _ _
    (closed_no_memory c.args.number destroy_resource_limit _ c.close-then-body_count-ge-MOST_BODIES.result
    c.close-then-body_count-ge-MOST_BODIES.ensures.answer)
    (λ rules ev. closed_left c.args.self.now c.close-then-body_count-ge-MOST_BODIES.new.self c.args.number destroy_resource_limit
    rules ev (circuit_cell c.args.cell.now) c.close-then-body_count-ge-MOST_BODIES.result relay.0
    c.close-then-body_count-ge-MOST_BODIES.ensures.answer (c.close-then-body_count-ge-MOST_BODIES.ensures.state rules ev))

pub returns-then-body_count-ge-MOST_BODIES-clause-answer : goal.returns-then-body_count-ge-MOST_BODIES-clause-answer
returns-then-body_count-ge-MOST_BODIES-clause-answer c =
    let relay = relay-cell c.args.cell.now.command c.if-cell-eq-DESTROY.false c.if-cell-eq-CREATED2.false in
    let full : nat_le 1500 (body_count (slot_at c.args.self.now.circuits c.args.number)) ≡ true =
    grind (arith, nat_tests, c.body_count.ensures, c.if-body_count-ge-MOST_BODIES.true) in
    case_of c.close-then-body_count-ge-MOST_BODIES.result _ _
    (closed_no_memory c.args.number destroy_resource_limit _ c.close-then-body_count-ge-MOST_BODIES.result
    c.close-then-body_count-ge-MOST_BODIES.ensures.answer)
    (λ rules ev. full_said c.args.self.now c.args.number rules ev (circuit_cell c.args.cell.now)
    c.close-then-body_count-ge-MOST_BODIES.result c.requires.one_leg relay full
    c.close-then-body_count-ge-MOST_BODIES.ensures.answer)

pub returns-clause-state : goal.returns-clause-state
returns-clause-state c =
    queued_case c.args.self.now c.queue_forth.new.self c.args.number (circuit_cell c.args.cell.now) c.queue_forth.result
    c.queue_forth.ensures.answer c.queue_forth.ensures.state

pub returns-clause-answer : goal.returns-clause-answer
returns-clause-answer c =
    let relay = relay-cell c.args.cell.now.command c.if-cell-eq-DESTROY.false c.if-cell-eq-CREATED2.false in
    let room : nat_le 1500 (body_count (slot_at c.args.self.now.circuits c.args.number)) ≡ false =
    grind (arith, nat_tests, c.body_count.ensures, c.if-body_count-ge-MOST_BODIES.false) in
    case_by c.queue_forth.result _ _ _
    (λ said rules ev. queued_said c.args.self.now c.args.number rules ev (circuit_cell c.args.cell.now) c.queue_forth.result
    c.requires.one_leg relay room said) c.queue_forth.ensures.answer
