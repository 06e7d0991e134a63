use Rattle.std.proofs.Common.{◌≡◌, ◌<◌, ◌≤◌, length, sym, ap, ◌∙◌, arith, Option}
use Rattle.cell_codec.specs.Cells.{payload_of}
use Rattle.switch_model.specs.Names.{circuit_cell}
use Rattle.switch_machine.specs.Machine.{counted}
use Rattle.switch_machine.specs.State.{CircuitState, slot_at}
use Rattle.switch_core.specs.Taking.{queued_answer, slot_with_body}
use Rattle.switch_core.proofs.Leaves.{circuit_put, circuit_read}
use Rattle.switch_core.proofs.Takes.{case_by, case_of, fact_of, differ}
use Rattle.switch_core.proofs.TakeSteps.{gone_forth, gone_forth_said, queued_put, passed_put}
use Rattle.switch_core.proofs.Taken.{fits_taken, taken_at, waits_fits}
use Rattle.switch_core.proofs.TearDown.{out_far}
use Rattle.switch_core.proofs.parts.Parts.queue_forth.Goals as goal

pub returns-then-number-len-clause-state : goal.returns-then-number-len-clause-state
returns-then-number-len-clause-state c =
    let far : length c.self.inside.circuits.items ≤ c.args.number =
    omega (arith, c.len.ensures, c.if-number-len.true, c.self.inside.circuits.ok) in
    ap counted c.self.view_is
    ∙ gone_forth c.args.self.now c.args.number _
    (out_far _ _ c.self.inside.circuits.items c.args.self.now c.args.number c.self.view_is far)

pub returns-then-number-len-clause-answer : goal.returns-then-number-len-clause-answer
returns-then-number-len-clause-answer c =
    let far : length c.self.inside.circuits.items ≤ c.args.number =
    omega (arith, c.len.ensures, c.if-number-len.true, c.self.inside.circuits.ok) in
    gone_forth_said c.args.self.now c.args.number
    (out_far _ _ c.self.inside.circuits.items c.args.self.now c.args.number c.self.view_is far)

pub invariant_of-self-in-Queued : goal.invariant_of-self-in-Queued
invariant_of-self-in-Queued c =
    let below : c.args.number < length c.self.inside.circuits.items =
    omega (arith, c.len.ensures, c.if-number-len.false, c.self.inside.circuits.ok) in
    fits_taken c.self.inside.counters c.self.inside.channels.items c.self.inside.circuits.items c.args.number
    c.push_forth_of-answer.new.slot c.self.invariant
    (waits_fits c.self.inside.counters.steps _ _ c.index_mut-slot.result.now c.push_forth_of-answer.new.slot
    c.in-Queued.ensures.state
    (taken_at c.self.inside.counters.steps c.self.inside.circuits.items c.args.number c.index_mut-slot.result.now
    c.self.invariant.taken below c.index_mut-slot.ensures.value))

pub returns-in-Queued-clause-state : goal.returns-in-Queued-clause-state
returns-in-Queued-clause-state c =
    let old : Option CircuitState = c.index_mut-slot.result.now in
    let below : c.args.number < length c.self.inside.circuits.items =
    omega (arith, c.len.ensures, c.if-number-len.false, c.self.inside.circuits.ok) in
    let live : slot_at c.args.self.now.circuits c.args.number ≡ old =
    circuit_read _ _ c.self.inside.circuits.items c.args.self.now c.args.number old c.self.view_is below
    c.index_mut-slot.ensures.value in
    let first : c.self.inside.counters.bodies ≡ c.args.self.now.bodies = ap (λ s. s.bodies) c.self.view_is in
    case_of c.push_forth_of-answer.result _ _ (λ is. differ (sym c.in-Queued.is ∙ is))
    (queued_put c.args.self.now _ c.args.number (circuit_cell c.args.cell.now) old c.push_forth_of-answer.new.slot live
    (c.in-Queued.ensures.state
    ∙ ap (λ n. slot_with_body n (record { command = c.args.cell.now.command; body = c.in-Fixed.payload }) old) first
    ∙ ap (λ b. slot_with_body c.args.self.now.bodies (record { command = c.args.cell.now.command; body = payload_of b }) old)
    (sym c.in-Fixed.is))
    c.in-Queued.ensures.answer
    (circuit_put _ _ _ c.args.self.now c.args.number c.push_forth_of-answer.new.slot c.self.view_is))

pub returns-in-Queued-clause-answer : goal.returns-in-Queued-clause-answer
returns-in-Queued-clause-answer c =
    let old : Option CircuitState = c.index_mut-slot.result.now in
    let below : c.args.number < length c.self.inside.circuits.items =
    omega (arith, c.len.ensures, c.if-number-len.false, c.self.inside.circuits.ok) in
    let live : slot_at c.args.self.now.circuits c.args.number ≡ old =
    circuit_read _ _ c.self.inside.circuits.items c.args.self.now c.args.number old c.self.view_is below
    c.index_mut-slot.ensures.value in
    case_by c.push_forth_of-answer.result _ _ _ (λ said. said ∙ ap queued_answer (sym live)) c.push_forth_of-answer.ensures.answer

pub returns-in_default-answer-clause-state : goal.returns-in_default-answer-clause-state
returns-in_default-answer-clause-state c =
    let old : Option CircuitState = c.index_mut-slot.result.now in
    let below : c.args.number < length c.self.inside.circuits.items =
    omega (arith, c.len.ensures, c.if-number-len.false, c.self.inside.circuits.ok) in
    let live : slot_at c.args.self.now.circuits c.args.number ≡ old =
    circuit_read _ _ c.self.inside.circuits.items c.args.self.now c.args.number old c.self.view_is below
    c.index_mut-slot.ensures.value in
    let first : c.self.inside.counters.bodies ≡ c.args.self.now.bodies = ap (λ s. s.bodies) c.self.view_is in
    let put = fact_of c.push_forth_of-answer.result _ _ c.in_default-answer.not-Memory c.push_forth_of-answer.ensures.state in
    let said = fact_of c.push_forth_of-answer.result _ _ c.in_default-answer.not-Memory c.push_forth_of-answer.ensures.answer in
    case_of c.push_forth_of-answer.result _ _ c.in_default-answer.not-Memory
    (passed_put c.args.self.now _ c.args.number (circuit_cell c.args.cell.now) old c.push_forth_of-answer.new.slot
    c.push_forth_of-answer.result live
    (put ∙ ap (λ n. slot_with_body n (record { command = c.args.cell.now.command; body = c.in-Fixed.payload }) old) first
    ∙ ap (λ b. slot_with_body c.args.self.now.bodies (record { command = c.args.cell.now.command; body = payload_of b }) old)
    (sym c.in-Fixed.is))
    said c.in_default-answer.not-Queued
    (circuit_put _ _ _ c.args.self.now c.args.number c.push_forth_of-answer.new.slot c.self.view_is))

pub returns-in_default-answer-clause-answer : goal.returns-in_default-answer-clause-answer
returns-in_default-answer-clause-answer c =
    let old : Option CircuitState = c.index_mut-slot.result.now in
    let below : c.args.number < length c.self.inside.circuits.items =
    omega (arith, c.len.ensures, c.if-number-len.false, c.self.inside.circuits.ok) in
    let live : slot_at c.args.self.now.circuits c.args.number ≡ old =
    circuit_read _ _ c.self.inside.circuits.items c.args.self.now c.args.number old c.self.view_is below
    c.index_mut-slot.ensures.value in
    case_by c.push_forth_of-answer.result _ _ _ (λ said. said ∙ ap queued_answer (sym live)) c.push_forth_of-answer.ensures.answer
