-- Small histories, listed newest first, that the laws of this crate speak of: one channel that the
-- peer opened, and on it circuits that the peer opens at the CircIDs 80000000 (hex) and so on.
use Rattle.std.specs.Prelude.{true, false, ℕ, ◌+◌, List, [], ◌∷◌, Some, None}
use Rattle.cell_codec.specs.declared.cell.Body.TheVariants.{Fixed}
use Rattle.cell_codec.specs.declared.cell.Cell.{Cell}
use Rattle.circuit_model.specs.Sent.{destroy}
use Rattle.kdf_tor.specs.declared.LayerKeys.{LayerKeys}
use Rattle.tor_spec.specs.CellCommands.{relay_command, destroy_command, created_fast_command}
use Rattle.tor_spec.specs.Reasons.{destroy_protocol, destroy_requested}
use Rattle.tr_io.specs.declared.answers.BackAnswer.{BackAnswer}
use Rattle.tr_io.specs.declared.answers.OpenAnswer.TheVariants.{Opened, Refused}
use Rattle.tr_io.specs.declared.answers.OpenRefusal.{OpenRefusal}
use Rattle.tr_io.specs.declared.answers.TakeAnswer.{TakeAnswer}
use Rattle.tr_io.specs.declared.answers.UpAnswer.{UpAnswer}
use Rattle.tr_io.specs.declared.answers.Why.{Why}
use Rattle.tr_io.specs.declared.names.ChanNo.{ChanNo}
use Rattle.tr_io.specs.declared.names.ClaimNote.{ClaimNote}
use Rattle.tr_io.specs.declared.names.Dir.TheVariants.{Forth}
use Rattle.tr_io.specs.declared.names.Side.TheVariants.{PeerOpened}
use Rattle.tr_io.specs.declared.step.Step.{Step}
use Rattle.tr_io.specs.declared.step.Step.TheVariants.{ChannelUp, ChannelDown, OpenCircuit, Take, Claim, GiveBack, NextCell, EdgeOut, DialOrder, TearDown, Live, Halt, Halted}
use Rattle.switch_model.specs.Limits.{given_id_base}
use Rattle.switch_model.specs.Names.{Leg, chan_no, circ_no}
use Rattle.switch_model.specs.Answers.NextCell.{cell_at}
use Rattle.switch_model.specs.Start.{SwitchStart}

-- A peer connects at slot 0, and gets channel 0.
abbrev pub peer_came : Step
peer_came = ChannelUp 0 PeerOpened (UpAnswer.Up (chan_no 0))

-- The CircID of circuit c.
abbrev pub id_of : ℕ → ℕ
id_of c = given_id_base + c

-- A fixed-length cell of circuit c.
abbrev pub cell_of : ℕ → ℕ → List ℕ → Cell
cell_of c command body = record { circ = id_of c; command = command; body = Fixed body }

-- CREATE_FAST for circuit c is answered by CREATED_FAST with this payload.
abbrev pub opened : LayerKeys → ℕ → List ℕ → Step
opened keys c reply =
    OpenCircuit (chan_no 0) (id_of c) (cell_of c created_fast_command reply) (Some keys) None (Opened (circ_no c))

-- A cell leaves on channel 0 where this tick is given.
abbrev pub left : ℕ → Cell → Step
left tick cell = NextCell (chan_no 0) tick (Some cell)

-- None does.
abbrev pub nothing_left : ℕ → Step
nothing_left tick = NextCell (chan_no 0) tick None

-- A circuit is opened, and the answer to the opening leaves.
abbrev pub one_circuit : LayerKeys → List ℕ → List Step
one_circuit keys reply = left 0 (cell_of 0 created_fast_command reply) ∷ opened keys 0 reply ∷ peer_came ∷ []

-- The peer opens a circuit at CircID 1, whose highest bit is clear, and gets DESTROY with PROTOCOL.
abbrev pub bad_id : LayerKeys → Cell → List Step
bad_id keys reply =
    left 0 (cell_at 1 (destroy destroy_protocol))
    ∷ OpenCircuit (chan_no 0) 1 reply (Some keys) None (Refused OpenRefusal.BadId)
    ∷ peer_came
    ∷ []

-- The note of the first claim: one body, forth on circuit 0.
abbrev pub first_note : SwitchStart → ClaimNote
first_note start = record {
  switch = start.name;
  claim = 0;
  worker = 0;
  circ = circ_no 0;
  dir = Forth;
  first = 0;
  count = 1;
}

-- A circuit is torn down while a worker has its cipher: the return finds it gone, DESTROY leaves in
-- place of the answer to the opening, and then nothing.
abbrev pub torn_while_claimed : SwitchStart → LayerKeys → List ℕ → List ℕ → List Step
torn_while_claimed start keys reply body =
    nothing_left 0
    ∷ left 0 (cell_of 0 destroy_command (destroy destroy_requested).body)
    ∷ GiveBack (first_note start) None BackAnswer.Gone
    ∷ TearDown (circ_no 0) destroy_requested (BackAnswer.Down destroy_requested)
    ∷ Claim 0 (Some (first_note start))
    ∷ Take (chan_no 0) (cell_of 0 relay_command body) TakeAnswer.Queued
    ∷ opened keys 0 reply
    ∷ peer_came
    ∷ []

-- Two relay cells wait, and one claim takes both.
abbrev pub two_claimed : SwitchStart → LayerKeys → List ℕ → List ℕ → List ℕ → List Step
two_claimed start keys reply first second =
    Claim 0 (Some (record (first_note start) { count = 2 }))
    ∷ Take (chan_no 0) (cell_of 0 relay_command second) TakeAnswer.Queued
    ∷ Take (chan_no 0) (cell_of 0 relay_command first) TakeAnswer.Queued
    ∷ opened keys 0 reply
    ∷ peer_came
    ∷ []

-- Our DESTROY waits and the peer's is taken: ours never leaves, and the CircID, in use until then, is
-- free.
abbrev pub crossing_destroys : LayerKeys → Cell → List ℕ → List ℕ → List Step
crossing_destroys keys refused reply reason =
    OpenCircuit (chan_no 0) (id_of 0) (cell_of 0 created_fast_command reply) (Some keys) None (Opened (circ_no 1))
    ∷ nothing_left 0
    ∷ Take (chan_no 0) (cell_of 0 destroy_command reason) (TakeAnswer.PassedOver Why.NoCircuit)
    ∷ OpenCircuit (chan_no 0) (id_of 0) refused (Some keys) None (Refused OpenRefusal.InUse)
    ∷ TearDown (circ_no 0) destroy_requested (BackAnswer.Down destroy_requested)
    ∷ opened keys 0 reply
    ∷ peer_came
    ∷ []

-- Circuit 0 sends the answer to its opening at tick 0, circuits 1 and 2 send theirs at tick 17.
abbrev pub three_circuits : LayerKeys → List ℕ → List Step
three_circuits keys reply =
    left 17 (cell_of 2 created_fast_command reply)
    ∷ left 17 (cell_of 1 created_fast_command reply)
    ∷ opened keys 2 reply
    ∷ opened keys 1 reply
    ∷ one_circuit keys reply

-- A circuit's leg towards the client.
abbrev pub leg_0 : ℕ → Leg
leg_0 c = record { circ = c; number = 0 }

-- Those of the three circuits.
abbrev pub three_legs : List Leg
three_legs = leg_0 0 ∷ leg_0 1 ∷ leg_0 2 ∷ []

-- Behind these steps each of the three legs is sent one more cell at tick 18, in this order.
abbrev pub more_cells : LayerKeys → List ℕ → List ℕ → List ℕ → List Step
more_cells keys reply body [] = three_circuits keys reply
more_cells keys reply body (c ∷ before) = left 18 (cell_of c relay_command body) ∷ more_cells keys reply body before

-- A channel goes down while the answer to an opening waits on it: nothing leaves on it any more.
abbrev pub ended_channel : LayerKeys → List ℕ → Cell → List Step
ended_channel keys reply late =
    ChannelDown (chan_no 0) BackAnswer.Gone
    ∷ nothing_left 0
    ∷ Take (chan_no 0) late (TakeAnswer.PassedOver Why.NoChannel)
    ∷ TearDown (circ_no 0) destroy_requested BackAnswer.Gone
    ∷ ChannelDown (chan_no 0) BackAnswer.Settled
    ∷ opened keys 0 reply
    ∷ peer_came
    ∷ []

-- A new switch has nothing to hand out, and halts once its one accepting slot has ended.
abbrev pub quiet_switch : List Step
quiet_switch =
    Halted true
    ∷ Halt 1
    ∷ Halted false
    ∷ Live (chan_no 0) false
    ∷ DialOrder None
    ∷ EdgeOut 0 None
    ∷ Claim 0 None
    ∷ nothing_left 0
    ∷ []

-- While a claim of circuit c is out, a RELAY cell of the next hop is taken; then the claim returns.
abbrev pub hop_cell_then_return : ClaimNote → ChanNo → Cell → List Step → List Step
hop_cell_then_return note chan cell h =
    GiveBack note None BackAnswer.Settled ∷ Take chan cell TakeAnswer.Queued ∷ h

-- A claim comes home whose bodies close their circuit with this reason.
abbrev pub closing_return : ClaimNote → ℕ → List Step → List Step
closing_return note reason h = GiveBack note None (BackAnswer.Down reason) ∷ h
