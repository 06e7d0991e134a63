-- No legal history packages more DATA than was granted, for no circuit and no stream.
use Rattle.std.proofs.Common.{◌≡◌, ℕ, ◌+◌, ◌≤◌, ◌<◌, ◌==◌, Bool, true, false, not, nat_le, if◌then◌else◌, List, [], ◌∷◌, Some, None, refl, subst, arith, inl, inr}
use Rattle.std.proofs.lemmas.Bool.Decides.{nat_tests, eqb_tells}
use Rattle.circuit_model.specs.Events.{CircuitCell, Event}
use Rattle.circuit_model.specs.declared.event.Event.TheVariants.{Born, Backward, Connected, Data, Ended, Drained as DrainedEvent, Freed, Linked, Answered, Failed}
use Rattle.circuit_model.specs.Log.{Entry, Log, count_of}
use Rattle.circuit_model.specs.Rules.{Rules}
use Rattle.circuit_model.specs.Windows.{is_data_of, circuit_packaged, circuit_grant, good_sendmes, stream_packaged, stream_grant, stream_sendmes}
use Rattle.circuit_model.specs.Words.{log, entry_after}
use Rattle.circuit_model.proofs.Counts.{other_events_pack_no_data, stream_counts_its_data, other_events_leave_stream}
use Rattle.tr_io.specs.declared.answers.DialAnswer.{DialAnswer}
use Rattle.tr_io.specs.declared.answers.EdgeAnswer.TheVariants.{Packed, Counted, Shut, Gone}
use Rattle.tr_io.specs.declared.answers.OpenAnswer.TheVariants.{Opened}
use Rattle.tr_io.specs.declared.answers.ShutWhy.{ShutWhy}
use Rattle.tr_io.specs.declared.answers.TakeAnswer.{TakeAnswer}
use Rattle.tr_io.specs.declared.names.StreamKey.{StreamKey}
use Rattle.tr_io.specs.declared.step.EventStep.{EventStep}
use Rattle.tr_io.specs.declared.step.Octets.{Octets}
use Rattle.tr_io.specs.declared.step.OrderStep.{OrderStep}
use Rattle.tr_io.specs.declared.step.Step.{Step}
use Rattle.tr_io.specs.declared.step.Step.TheVariants.{OpenCircuit, Take, GiveBack, EdgeIn, EdgeOut, Drained, DialDone}
use Rattle.switch_model.specs.Limits.{held_limit}
use Rattle.switch_model.specs.Start.{SwitchStart}
use Rattle.switch_model.specs.Names.{circuit_cell}
use Rattle.switch_model.specs.History.Legs.{at}
use Rattle.switch_model.specs.History.Taken.{is_hop_leg, claimed_cells}
use Rattle.switch_model.specs.History.Circuit.{is_live_circuit, events, with_event, taken_from_hop, returns_forth}
use Rattle.switch_model.specs.Waiting.Queues.{circuit_log}
use Rattle.circuit_model.specs.Batches.{forward_of}
use Rattle.switch_model.specs.History.Returns.{Closing, Goes, Closes, Full, closing_at, settled, settled_with}
use Rattle.switch_model.specs.Answers.EdgeIn.{phase_of, is_joined, edge_in_answer}
use Rattle.switch_model.specs.Legal.{IsLegal}
use Rattle.switch_model.specs.History.Relayed.{KeepsWindows, AlwaysKeepsWindows}
use Rattle.switch_model.proofs.Common.{same-number}

count-up : (test : Entry → Bool) (e : Entry) (l : Log) (b : Bool) → test e ≡ b → count_of test l ≤ count_of test (e ∷ l)
count-up test e l true is = rw is (omega arith)
count-up test e l false is = rw is (omega arith)

count-one : (test : Entry → Bool) (e : Entry) (l : Log) (b : Bool) → test e ≡ b → count_of test (e ∷ l) ≤ count_of test l + 1
count-one test e l true is = rw is (omega arith)
count-one test e l false is = rw is (omega arith)

-- grants never fall, and one event packages one DATA at most
circuit-up : (rules : Rules) (e : Entry) (l : Log) → circuit_grant rules l ≤ circuit_grant rules (e ∷ l)
circuit-up rules e l = let more : good_sendmes l ≤ good_sendmes (e ∷ l) = count-up _ e l _ refl in omega (arith, more)

stream-up : (e : Entry) (l : Log) (serial : ℕ) → stream_grant l serial ≤ stream_grant (e ∷ l) serial
stream-up e l serial = let more : stream_sendmes l serial ≤ stream_sendmes (e ∷ l) serial =
    count-up _ e l _ refl in omega (arith, more)

circuit-one : (e : Entry) (l : Log) → circuit_packaged (e ∷ l) ≤ circuit_packaged l + 1
circuit-one e l = count-one _ e l _ refl

keeps-other : (rules : Rules) (ev : List Event) (e : Event) → ((serial : ℕ) → is_data_of serial e ≡ false)
    → KeepsWindows rules (log rules ev) → KeepsWindows rules (log rules (e ∷ ev))
keeps-other rules ev e other keeps = record {
  circuit = let same = other_events_pack_no_data rules ev e other in let up =
      circuit-up rules (entry_after rules (log rules ev) e) (log rules ev) in omega (arith, keeps.circuit, same, up);
  stream = λ serial.
      let same = other_events_leave_stream rules ev e serial (other serial) in
      let up = stream-up (entry_after rules (log rules ev) e) (log rules ev) serial in
      omega (arith, keeps.stream serial, same, up);
}

keeps-data : (rules : Rules) (ev : List Event) (serial : ℕ) (bytes : List ℕ)
    → circuit_packaged (log rules ev) < circuit_grant rules (log rules ev) →
    stream_packaged (log rules ev) serial < stream_grant (log rules ev) serial → KeepsWindows rules (log rules ev)
    → KeepsWindows rules (log rules (Data serial bytes ∷ ev))
keeps-data rules ev serial bytes circuit stream keeps =
    let e = entry_after rules (log rules ev) (Data serial bytes) in
    record {
      circuit = let one = circuit-one e (log rules ev) in let up = circuit-up rules e (log rules ev) in
          omega (arith, circuit, one, up);
      stream = λ other.
          let up = stream-up e (log rules ev) other in
          elim (eqb_tells serial other) [
            | inl (is, same) ↦ subst
                (λ n. stream_packaged (log rules (Data serial bytes ∷ ev)) n ≤ stream_grant (log rules (Data serial bytes ∷ ev))
                n) same
                (let one = stream_counts_its_data rules ev serial bytes in let here = stream-up e (log rules ev) serial in
                omega (arith, stream, one, here))
            | inr (is, unlike) ↦ let leaves = other_events_leave_stream rules ev (Data serial bytes) other is in
                omega (arith, keeps.stream other, leaves, up)
          ];
    }

-- behind each event
newest-keeps : (rules : Rules) (ev : List Event) → AlwaysKeepsWindows rules ev → KeepsWindows rules (log rules ev)
newest-keeps rules [] always = always
newest-keeps rules (e ∷ ev) always = always.0

always-other : (rules : Rules) (ev : List Event) (e : Event) → ((serial : ℕ) → is_data_of serial e ≡ false)
    → AlwaysKeepsWindows rules ev → AlwaysKeepsWindows rules (e ∷ ev)
always-other rules ev e other always = (keeps-other rules ev e other (newest-keeps rules ev always), always)

always-if : (rules : Rules) (b : Bool) (x y : List Event) → (b ≡ true → AlwaysKeepsWindows rules x) → AlwaysKeepsWindows rules y
    → AlwaysKeepsWindows rules (if b then x else y)
always-if rules true x y here there = here refl
always-if rules false x y here there = there

always-with : (rules : Rules) (b : Bool) (e : Event) (ev : List Event) → (b ≡ true → AlwaysKeepsWindows rules (e ∷ ev))
    → AlwaysKeepsWindows rules ev → AlwaysKeepsWindows rules (with_event b e ev)
always-with rules true e ev here there = here refl
always-with rules false e ev here there = there

always-closing : (rules : Rules) (closing : Closing) (e : Event) (ev more : List Event) → AlwaysKeepsWindows rules (e ∷ ev)
    → AlwaysKeepsWindows rules ev → AlwaysKeepsWindows rules more → AlwaysKeepsWindows rules (settled_with closing e ev more)
always-closing rules Goes e ev more one none all = all
always-closing rules (Closes reason) e ev more one none all = one
always-closing rules Full e ev more one none all = none

always-settled : (rules : Rules) (left : ℕ) (ev : List Event) (cells : List CircuitCell) → AlwaysKeepsWindows rules ev
    → AlwaysKeepsWindows rules (settled rules left ev cells)
always-settled rules left ev [] always = always
always-settled rules left ev (cell ∷ cells) always =
    let one = always-other rules ev (forward_of cell) (λ serial. refl) always in
    always-closing rules (closing_at rules left ev cell) (forward_of cell) ev _ one always
    (always-settled rules left (forward_of cell ∷ ev) cells one)

-- DATA is packaged where both windows allow it
allowed : (live joined stream circuit full : Bool) (n m : ℕ) →
    Packed ≡ (if not live then Gone else if not joined then Gone else if stream then Shut ShutWhy.Stream n else if circuit
    then Shut ShutWhy.Circuit m else if full then Shut ShutWhy.Held held_limit else Packed) →
    (stream ≡ false) × (circuit ≡ false)
allowed false joined stream circuit full n m packed = absurd cc
allowed true false stream circuit full n m packed = absurd cc
allowed true true true circuit full n m packed = absurd cc
allowed true true false true full n m packed = absurd cc
allowed true true false false full n m packed = (refl, refl)

below : (a b : ℕ) → nat_le a b ≡ false → b < a
below a b under = grind (arith, nat_tests)

always-data : (start : SwitchStart) (h : List Step) (key : StreamKey) (octets : Octets)
    → Packed ≡ edge_in_answer start.rules h key (EventStep.Data octets)
    → AlwaysKeepsWindows start.rules (events start.rules h key.circ.0) →
    AlwaysKeepsWindows start.rules (Data key.serial octets.bytes.items ∷ events start.rules h key.circ.0)
always-data start h key octets packed always =
    let rules = start.rules in
    let relayed = circuit_log rules h key.circ.0 in
    let both = allowed (is_live_circuit rules h key.circ.0) (is_joined (phase_of relayed key))
    (nat_le (stream_grant relayed key.serial) (stream_packaged relayed key.serial))
    (nat_le (circuit_grant rules relayed) (circuit_packaged relayed)) _ _ _ packed in (
      keeps-data rules (events rules h key.circ.0) key.serial octets.bytes.items (below _ _ both.1) (below _ _ both.0)
          (newest-keeps rules (events rules h key.circ.0) always),
      always,
    )

always-taken : (rules : Rules) (cell : CircuitCell) (answer : TakeAnswer) (ev : List Event) → AlwaysKeepsWindows rules ev
    → AlwaysKeepsWindows rules (taken_from_hop rules cell answer ev)
always-taken rules cell TakeAnswer.Queued ev always =
    always-if rules (cell.command == 3) _ _ (λ is. always-other rules ev (Backward cell.body) (λ serial. refl) always)
    (always-other rules ev (Answered cell.body) (λ serial. refl) always)
always-taken rules cell (TakeAnswer.Down circ reason) ev always =
    always-with rules _ (Answered cell.body) ev (λ is. always-other rules ev (Answered cell.body) (λ serial. refl) always) always
always-taken rules cell answer ev always = always

pub windows_kept : (start : SwitchStart) (h : List Step) (c : ℕ) → IsLegal start h
    → AlwaysKeepsWindows start.rules (events start.rules h c)
windows_kept start [] c legal = record { circuit = omega arith; stream = λ serial. omega arith }
windows_kept start (OpenCircuit chan id reply (Some keys) pad (Opened n) ∷ h) c legal =
    let before = windows_kept start h c legal.1 in
    always-if start.rules (n.0 == c) _ _
    (λ is. always-other start.rules (events start.rules h c) (Born (circuit_cell reply) keys pad) (λ serial. refl) before)
    before
windows_kept start (OpenCircuit chan id reply None pad (Opened n) ∷ h) c legal =
    let before = windows_kept start h c legal.1 in
    always-if start.rules (n.0 == c) _ _ (λ is. before) before
windows_kept start (Take chan cell answer ∷ h) c legal =
    let before = windows_kept start h c legal.1 in
    always-if start.rules (is_hop_leg c (at h chan.0 cell.circ)) _ _
    (λ is. always-taken start.rules (circuit_cell cell) answer (events start.rules h c) before) before
windows_kept start (GiveBack note place answer ∷ h) c legal =
    let before = windows_kept start h c legal.1 in
    always-if start.rules (returns_forth c note answer) _ _
    (λ is. always-settled start.rules _ (events start.rules h c) (claimed_cells h note) before) before
windows_kept start (EdgeIn key EventStep.Connected Packed ∷ h) c legal =
    let before = windows_kept start h c legal.1 in
    always-with start.rules (key.circ.0 == c) _ _
    (λ is. always-other start.rules (events start.rules h c) (Connected key.serial) (λ serial. refl) before) before
windows_kept start (EdgeIn key (EventStep.Ended reason) Packed ∷ h) c legal =
    let before = windows_kept start h c legal.1 in
    always-with start.rules (key.circ.0 == c) _ _
    (λ is. always-other start.rules (events start.rules h c) (Ended key.serial reason) (λ serial. refl) before) before
windows_kept start (EdgeIn key (EventStep.Data octets) Packed ∷ h) c legal =
    always-with start.rules (key.circ.0 == c) _ _
    (λ is. subst (λ m. AlwaysKeepsWindows start.rules (Data key.serial octets.bytes.items ∷ events start.rules h m))
    (same-number key.circ.0 c is)
    (always-data start h key octets legal.0.1 (windows_kept start h key.circ.0 legal.1))) (windows_kept start h c legal.1)
windows_kept start (Drained key Packed ∷ h) c legal =
    let before = windows_kept start h c legal.1 in
    always-with start.rules (key.circ.0 == c) _ _
    (λ is. always-other start.rules (events start.rules h c) (DrainedEvent key.serial) (λ serial. refl) before) before
windows_kept start (Drained key Counted ∷ h) c legal =
    let before = windows_kept start h c legal.1 in
    always-with start.rules (key.circ.0 == c) _ _
    (λ is. always-other start.rules (events start.rules h c) (DrainedEvent key.serial) (λ serial. refl) before) before
windows_kept start (EdgeOut slot (Some (OrderStep.Close key reason)) ∷ h) c legal =
    let before = windows_kept start h c legal.1 in
    always-with start.rules _ _ _
    (λ is. always-other start.rules (events start.rules h c) (Freed key.serial) (λ serial. refl) before) before
windows_kept start (DialDone order outcome (DialAnswer.Up n) ∷ h) c legal =
    let before = windows_kept start h c legal.1 in
    always-with start.rules (order.circ.0 == c) _ _
    (λ is. always-other start.rules (events start.rules h c) Linked (λ serial. refl) before) before
windows_kept start (DialDone order outcome (DialAnswer.Closed reason) ∷ h) c legal =
    let before = windows_kept start h c legal.1 in
    always-with start.rules (order.circ.0 == c) _ _
    (λ is. always-other start.rules (events start.rules h c) Failed (λ serial. refl) before) before
windows_kept start (DialDone order outcome (DialAnswer.Full n) ∷ h) c legal =
    let before = windows_kept start h c legal.1 in
    always-with start.rules (order.circ.0 == c) _ _
    (λ is. always-other start.rules (events start.rules h c) Failed (λ serial. refl) before) before
windows_kept start (s ∷ h) c legal = windows_kept start h c legal.1
