-- The answers at the limits.
use Rattle.std.proofs.Common.{◌≡◌, ℕ, ◌==◌, ◌<◌, ◌≤◌, nat_le, true, false, List, Option, Some, None, refl, arith}
use Rattle.cell_codec.specs.declared.cell.Cell.{Cell}
use Rattle.circuit_model.specs.Rules.{Rules}
use Rattle.kdf_tor.specs.declared.LayerKeys.{LayerKeys}
use Rattle.tr_io.specs.declared.answers.BackAnswer.TheVariants.{Stranger}
use Rattle.tr_io.specs.declared.answers.Difference.TheVariants.{Note}
use Rattle.tr_io.specs.declared.answers.OpenAnswer.TheVariants.{Refused}
use Rattle.tr_io.specs.declared.answers.OpenRefusal.{OpenRefusal}
use Rattle.tr_io.specs.declared.answers.TakeAnswer.{TakeAnswer}
use Rattle.tr_io.specs.declared.answers.UpAnswer.{UpAnswer}
use Rattle.tr_io.specs.declared.names.ClaimNote.{ClaimNote}
use Rattle.tr_io.specs.declared.names.Dir.TheVariants.{Forth}
use Rattle.tr_io.specs.declared.step.Step.{Step}
use Rattle.switch_model.specs.Start.{SwitchStart}
use Rattle.switch_model.specs.Names.{circ_no}
use Rattle.switch_model.specs.History.Channels.{channel_at, is_live_channel, live_channels}
use Rattle.switch_model.specs.History.Legs.{at}
use Rattle.switch_model.specs.History.Circuit.{is_live_circuit}
use Rattle.switch_model.specs.Waiting.Queues.{circuit_log, held_count}
use Rattle.tr_io.specs.declared.answers.EdgeAnswer.TheVariants.{Shut}
use Rattle.tr_io.specs.declared.answers.ShutWhy.{ShutWhy}
use Rattle.tr_io.specs.declared.names.StreamKey.{StreamKey}
use Rattle.tr_io.specs.declared.step.EventStep.{EventStep}
use Rattle.tr_io.specs.declared.step.Octets.{Octets}
use Rattle.circuit_model.specs.Log.{Log}
use Rattle.circuit_model.specs.declared.places.Phase.TheVariants.{Joined}
use Rattle.circuit_model.specs.Windows.{circuit_packaged, circuit_grant, stream_packaged, stream_grant}
use Rattle.switch_model.specs.Answers.EdgeIn.{phase_of, edge_in_answer}
use Rattle.switch_model.specs.Answers.ChannelUp.{channel_up_answer}
use Rattle.switch_model.specs.Answers.OpenCircuit.{live_circuits, is_in_use, is_peers_id, open_answer}
use Rattle.switch_model.specs.Answers.Take.{take_answer}
use Rattle.switch_model.specs.Answers.GiveBack.{give_back_answer}

pub channels_full : (h : List Step) → live_channels h ≡ 64 → channel_up_answer h ≡ UpAnswer.Full 64
channels_full h full = rw full refl

pub circuits_full : (start : SwitchStart) (h : List Step) (chan id : ℕ) (keys : LayerKeys) → is_live_channel h chan ≡ true
    → (id == 0) ≡ false →
    is_in_use start.rules h chan id ≡ false → is_peers_id (channel_at h chan) id ≡ true
    → start.circuits ≤ live_circuits start.rules h →
    open_answer start h chan id (Some keys) ≡ Refused (OpenRefusal.Full start.circuits)
circuits_full start h chan id keys up some_id unused peers full =
    let none_left : nat_le start.circuits (live_circuits start.rules h) ≡ true = grind arith in
    rw (up, some_id, unused, peers, none_left) refl

pub foreign_claim : (start : SwitchStart) (h : List Step) (note : ClaimNote) (place : Option ℕ)
    → (note.switch == start.name) ≡ false →
    give_back_answer start h note place ≡ Stranger (Note None note)
foreign_claim start h note place other = rw other refl

pub direction_full : (rules : Rules) (h : List Step) (chan : ℕ) (cell : Cell) (c : ℕ) → is_live_channel h chan ≡ true
    → cell.command ≡ 3 →
    at h chan cell.circ ≡ Some (record { circ = c; number = 0 }) → is_live_circuit rules h c ≡ true
    → held_count rules h c Forth ≡ 1500 →
    take_answer rules h chan cell ≡ TakeAnswer.Down (circ_no c) 5
direction_full rules h chan cell c up relay found is_open full = rw (up, relay, found, is_open, full) refl

pub stream_shut : (rules : Rules) (h : List Step) (key : StreamKey) (octets : Octets) → is_live_circuit rules h key.circ.0 ≡ true
    →
    phase_of (circuit_log rules h key.circ.0) key ≡ Joined →
    stream_grant (circuit_log rules h key.circ.0) key.serial ≤ stream_packaged (circuit_log rules h key.circ.0) key.serial →
    edge_in_answer rules h key (EventStep.Data octets)
    ≡ Shut ShutWhy.Stream (stream_packaged (circuit_log rules h key.circ.0) key.serial)
stream_shut rules h key octets live joined used =
    let l : Log = circuit_log rules h key.circ.0 in
    let shut : nat_le (stream_grant l key.serial) (stream_packaged l key.serial) ≡ true = grind arith in
    rw (live, joined, shut) refl

pub circuit_shut : (rules : Rules) (h : List Step) (key : StreamKey) (octets : Octets) → is_live_circuit rules h key.circ.0 ≡ true
    →
    phase_of (circuit_log rules h key.circ.0) key ≡ Joined →
    stream_packaged (circuit_log rules h key.circ.0) key.serial < stream_grant (circuit_log rules h key.circ.0) key.serial →
    circuit_grant rules (circuit_log rules h key.circ.0) ≤ circuit_packaged (circuit_log rules h key.circ.0) →
    edge_in_answer rules h key (EventStep.Data octets) ≡ Shut ShutWhy.Circuit (circuit_packaged (circuit_log rules h key.circ.0))
circuit_shut rules h key octets live joined unused used =
    let l : Log = circuit_log rules h key.circ.0 in
    let here : nat_le (stream_grant l key.serial) (stream_packaged l key.serial) ≡ false = grind arith in
    let shut : nat_le (circuit_grant rules l) (circuit_packaged l) ≡ true = grind arith in
    rw (live, joined, here, shut) refl
