-- How many cells a direction holds, by the state and by the history.
use Rattle.std.proofs.Common.{◌+◌, ◌-◌, ◌∙◌, ◌∷◌, ◌≡◌, List, None, Option, Some, [], ap, arith, if◌then◌else◌, length, refl, suc, sym, zero, ℕ}
use Rattle.std.proofs.lemmas.List.{length-append}
use Rattle.circuit_model.specs.Events.{CircuitCell, Event}
use Rattle.circuit_model.specs.Log.{Log, pushed}
use Rattle.circuit_model.specs.Opened.{forward_count, is_forward}
use Rattle.circuit_model.specs.declared.event.Event.TheVariants.{Answered, Backward, Born, Connected, Data, Drained, Ended, Failed, Forward, Freed, Linked}
use Rattle.tr_io.specs.declared.names.Dir.{Dir}
use Rattle.tr_io.specs.declared.names.Dir.TheVariants.{Back, Forth}
use Rattle.tr_io.specs.declared.step.Step.{Step}
use Rattle.switch_model.specs.History.Circuit.{events}
use Rattle.switch_model.specs.History.EdgePast.{edge_past}
use Rattle.switch_model.specs.History.Legs.{holds_id, hops}
use Rattle.switch_model.specs.History.Past.{past}
use Rattle.switch_model.specs.History.Relayed.{forward_cell, settled_forth}
use Rattle.switch_model.specs.History.Taken.{taken_forth}
use Rattle.switch_model.specs.Start.{SwitchStart}
use Rattle.switch_model.specs.Waiting.Queues.{circuit_log, held_count, queue, queued_forth}
use Rattle.switch_machine.specs.Calls.Take.{held_by, kept_length, queue_length, queued_on_hops}
use Rattle.switch_machine.specs.Machine.{kept_cells, leg_at}
use Rattle.switch_machine.specs.Stands.{Stands}
use Rattle.switch_machine.specs.Stands.OneCircuit.{CircuitStands}
use Rattle.switch_machine.specs.State.{CircuitState, KeptClaim, LegState, State, slot_at}
use Rattle.switch_machine.proofs.OneWay.{length-given}
use Rattle.switch_machine.proofs.Waiting.{queue-said, queue_of}

forward-one : (event : Event) (n : ℕ) (xs : List CircuitCell) → n ≡ length xs
    → (if is_forward event then n + 1 else n) ≡ length (pushed xs (forward_cell event))
forward-one (Forward command body) n xs same = rw same (sym (length-append xs _))
forward-one (Born reply keys pad) n xs same = same
forward-one (Backward body) n xs same = same
forward-one (Connected serial) n xs same = same
forward-one (Data serial bytes) n xs same = same
forward-one (Ended serial reason) n xs same = same
forward-one (Drained serial) n xs same = same
forward-one (Freed serial) n xs same = same
forward-one Linked n xs same = same
forward-one (Answered payload) n xs same = same
forward-one Failed n xs same = same

pub forward-count : (l : Log) → forward_count l ≡ length (settled_forth l)
forward-count [] = refl
forward-count (entry ∷ l) = forward-one entry.event (forward_count l) (settled_forth l) (forward-count l)

queue-count : (y : Option LegState) → queue_length y ≡ length (queue_of y)
queue-count None = refl
queue-count (Some leg) = refl

pub kept-count : (k : Option KeptClaim) → kept_length k ≡ length (kept_cells k)
kept-count None = refl
kept-count (Some k) = refl

hops-count : (start : SwitchStart) (s : State) (h : List Step) (c : ℕ) (x : CircuitState) → Stands start s h
    → slot_at s.circuits c ≡ Some x → (n : ℕ) → queued_on_hops x n ≡ queued_forth start.rules h c n
hops-count start s h c x st found zero = refl
hops-count start s h c x st found (suc k) =
    let same : queue_length (slot_at x.legs (suc k)) ≡ length (queue start.rules h c (suc k)) =
    queue-count (slot_at x.legs (suc k))
    ∙ ap length (sym (queue-said start s h st c (suc k) ∙ ap (λ y. queue_of (leg_at y (suc k))) found)) in
    rw (hops-count start s h c x st found k, same) refl

pub held-said : (start : SwitchStart) (s : State) (h : List Step) (c : ℕ) (x : CircuitState) → Stands start s h
    → slot_at s.circuits c ≡ Some x
    → CircuitStands start.rules s.last_closes x c (past start.rules h c) (λ j. holds_id h c j) (edge_past start.rules h c) →
    (d : Dir) → held_by start.rules (events start.rules h c) x d ≡ held_count start.rules h c d
held-said start s h c x st found own Back = rw own.sent_count refl
held-said start s h c x st found own Forth =
    let given =
    length-given (settled_forth (circuit_log start.rules h c)) (kept_cells x.forth.claim_out) (taken_forth h c)
    x.forth.waiting_bodies own.forth.cells in
    let count = forward-count (circuit_log start.rules h c) in
    let last : length x.legs - 1 ≡ hops h c = omega (arith, own.hops) in
    let legs : queued_on_hops x (length x.legs - 1) ≡ queued_forth start.rules h c (hops h c) =
    ap (queued_on_hops x) last ∙ hops-count start s h c x st found (hops h c) in
    let home : kept_length x.forth.claim_out + length x.forth.waiting_bodies ≡ length (taken_forth h c) - forward_count
    (circuit_log start.rules h c) = omega (arith, given, count, kept-count x.forth.claim_out) in
    omega (arith, legs, home)
