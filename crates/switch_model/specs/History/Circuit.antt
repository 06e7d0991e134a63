-- The history of one circuit in the history of a switch: whether the circuit is live, what was sent
-- on each of its legs, and its events.
use Rattle.std.specs.Prelude.{ℕ, ◌==◌, ◌&&◌, ◌||◌, List, [], ◌∷◌, ◌++◌, length, Bool, true, false, if◌then◌else◌, Option, Some, None, is_some}
use Rattle.cell_codec.specs.declared.cell.Cell.{Cell}
use Rattle.kdf_tor.specs.declared.LayerKeys.{LayerKeys}
use Rattle.circuit_model.specs.Events.{CircuitCell, Event}
use Rattle.circuit_model.specs.declared.event.Event.TheVariants.{Born, Backward, Connected, Data, Ended, Drained as DrainedEvent, Freed, Linked, Answered, Failed}
use Rattle.circuit_model.specs.Log.{Log}
use Rattle.circuit_model.specs.declared.next_hop.NextHop.{NextHop}
use Rattle.circuit_model.specs.declared.next_hop.NextHop.TheVariants.{Waiting}
use Rattle.circuit_model.specs.NextHop.{next_hop, has_leg, leg_count}
use Rattle.circuit_model.specs.Rules.{Rules}
use Rattle.circuit_model.specs.Words.{log, closes}
use Rattle.tor_spec.specs.CellCommands.{relay_command, created2_command}
use Rattle.tr_io.specs.declared.answers.BackAnswer.{BackAnswer}
use Rattle.tr_io.specs.declared.answers.DialAnswer.{DialAnswer}
use Rattle.tr_io.specs.declared.answers.EdgeAnswer.TheVariants.{Packed, Counted}
use Rattle.tr_io.specs.declared.answers.OpenAnswer.TheVariants.{Opened}
use Rattle.tr_io.specs.declared.answers.TakeAnswer.{TakeAnswer}
use Rattle.tr_io.specs.declared.names.ClaimNote.{ClaimNote}
use Rattle.tr_io.specs.declared.names.Dir.TheVariants.{Forth}
use Rattle.tr_io.specs.declared.step.EventStep.{EventStep}
use Rattle.tr_io.specs.declared.step.OrderStep.{OrderStep}
use Rattle.tr_io.specs.declared.step.Step.{Step}
use Rattle.tr_io.specs.declared.step.Step.TheVariants.{OpenCircuit, Take, GiveBack, NextCell, EdgeIn, EdgeOut, Drained, DialDone}
use Rattle.switch_model.specs.Names.{is_leg, same_dir, circuit_cell}
use Rattle.switch_model.specs.History.Legs.{port, on_channel, at}
use Rattle.switch_model.specs.History.Taken.{is_hop_leg, claimed_cells}
use Rattle.switch_model.specs.History.Teardowns.{teardown, reason_of}
use Rattle.switch_model.specs.History.Returns.{settled}

-- The current leg: the newest towards a next hop, while that next hop is waiting or there.
abbrev pub current_leg : Log → Option ℕ
current_leg log = if has_leg (next_hop log) then Some (leg_count log) else None

-- Whether a leg, if there is one, was made on a channel.
abbrev pub leg_on : List Step → ℕ → ℕ → Option ℕ → Bool
leg_on h c chan (Some k) = on_channel chan (port h c k)
leg_on h c chan None = false

-- Whether leg 0 or the current leg of circuit c lies on a channel.
abbrev pub lies_on : List Step → ℕ → Log → ℕ → Bool
lies_on h c log chan = leg_on h c chan (Some 0) || leg_on h c chan (current_leg log)

-- Whether a step opens circuit c.
abbrev pub opens : ℕ → Step → Bool
opens c (OpenCircuit chan id reply keys pad (Opened n)) = n.0 == c
opens c s = false

-- Events with one more, if the test holds.
abbrev pub with_event : Bool → Event → List Event → List Event
with_event true event events = event ∷ events
with_event false event events = events

-- An opening that was accepted has keys.
abbrev pub born : Cell → Option LayerKeys → Option (List ℕ) → List Event → List Event
born reply (Some keys) pad events = Born (circuit_cell reply) keys pad ∷ events
born reply None pad events = events

abbrev pub is_waiting : NextHop → Bool
is_waiting Waiting = true
is_waiting hop = false

-- Whether a cell is the CREATED2 that the circuit awaits.
abbrev pub is_awaited : Log → CircuitCell → Bool
is_awaited log cell = (cell.command == created2_command) && is_waiting (next_hop log)

-- A cell from the next hop, by the answer that it was given. RELAY is a body on its way
-- back. The awaited CREATED2 is an event where it was accepted, and where its handshake is too long
-- for an EXTENDED2, which closes the circuit.
abbrev pub taken_from_hop : Rules → CircuitCell → TakeAnswer → List Event → List Event
taken_from_hop rules cell TakeAnswer.Queued events =
    if cell.command == relay_command then Backward cell.body ∷ events else Answered cell.body ∷ events
taken_from_hop rules cell (TakeAnswer.Down circ reason) events =
    with_event (is_awaited (log rules events) cell && is_some (closes rules events (Answered cell.body)))
    (Answered cell.body) events
taken_from_hop rules cell answer events = events

-- What the edge reported, as an event of the circuit.
abbrev pub edge_event : ℕ → EventStep → Event
edge_event serial EventStep.Connected = Connected serial
edge_event serial (EventStep.Data octets) = Data serial octets.bytes.items
edge_event serial (EventStep.Ended reason) = Ended serial reason

-- A return that is accepted.
abbrev pub is_accepted_return : BackAnswer → Bool
is_accepted_return BackAnswer.Settled = true
is_accepted_return (BackAnswer.Down reason) = true
is_accepted_return answer = false

-- Whether forward bodies of circuit c come home.
abbrev pub returns_forth : ℕ → ClaimNote → BackAnswer → Bool
returns_forth c note answer = (note.circ.0 == c) && (same_dir note.dir Forth && is_accepted_return answer)

abbrev mutual
  -- Whether circuit c was opened and not torn down.
  pub is_live_circuit : Rules → List Step → ℕ → Bool
  is_live_circuit rules [] c = false
  is_live_circuit rules (s ∷ h) c =
      if opens c s then true
      else if is_some (reason_of c (λ chan. lies_on h c (log rules (events rules h c)) chan) (teardown s)) then false
      else is_live_circuit rules h c

  -- The cells that left on leg k of circuit c before it was torn down, oldest first.
  pub sent : Rules → List Step → ℕ → ℕ → List CircuitCell
  sent rules [] c k = []
  sent rules (NextCell chan tick (Some cell) ∷ h) c k =
      if is_leg c k (at h chan.0 cell.circ) && is_live_circuit rules h c
      then sent rules h c k ++ circuit_cell cell ∷ [] else sent rules h c k
  sent rules (s ∷ h) c k = sent rules h c k

  -- The events of circuit c until it is torn down, newest first.
  pub events : Rules → List Step → ℕ → List Event
  events rules [] c = []
  events rules (OpenCircuit chan id reply keys pad (Opened n) ∷ h) c =
      if n.0 == c then born reply keys pad (events rules h c) else events rules h c
  events rules (Take chan cell answer ∷ h) c =
      if is_hop_leg c (at h chan.0 cell.circ)
      then taken_from_hop rules (circuit_cell cell) answer (events rules h c)
      else events rules h c
  events rules (GiveBack note place answer ∷ h) c =
      if returns_forth c note answer
      then settled rules (length (sent rules h c 0)) (events rules h c) (claimed_cells h note)
      else events rules h c
  events rules (EdgeIn key event Packed ∷ h) c =
      with_event (key.circ.0 == c) (edge_event key.serial event) (events rules h c)
  events rules (Drained key Packed ∷ h) c =
      with_event (key.circ.0 == c) (DrainedEvent key.serial) (events rules h c)
  events rules (Drained key Counted ∷ h) c =
      with_event (key.circ.0 == c) (DrainedEvent key.serial) (events rules h c)
  events rules (EdgeOut slot (Some (OrderStep.Close key reason)) ∷ h) c =
      with_event ((key.circ.0 == c) && is_live_circuit rules h c) (Freed key.serial) (events rules h c)
  events rules (DialDone order outcome (DialAnswer.Up n) ∷ h) c =
      with_event (order.circ.0 == c) Linked (events rules h c)
  events rules (DialDone order outcome (DialAnswer.Closed reason) ∷ h) c =
      with_event (order.circ.0 == c) Failed (events rules h c)
  events rules (DialDone order outcome (DialAnswer.Full n) ∷ h) c =
      with_event (order.circ.0 == c) Failed (events rules h c)
  events rules (s ∷ h) c = events rules h c
