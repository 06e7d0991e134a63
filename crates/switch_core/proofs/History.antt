-- Each call of the machine as a step of the histories that a switch stands for.
use Rattle.std.proofs.Common.{List, ◌≡◌, ◌≤◌, ◌+◌, ℕ, Option, ap, arith}
use Rattle.std.specs.Prelude.{⊤, false, IfSome, IsTrue}
use Rattle.cell_codec.specs.Cells.{is_var}
use Rattle.cell_codec.specs.declared.cell.Cell.{Cell}
use Rattle.kdf_tor.specs.declared.LayerKeys.{LayerKeys}
use Rattle.tor_spec.specs.CellCommands.{opens_circuit}
use Rattle.tr_io.specs.declared.answers.OpenAnswer.{OpenAnswer}
use Rattle.tr_io.specs.declared.answers.UpAnswer.{UpAnswer}
use Rattle.tr_io.specs.declared.names.ChanNo.{ChanNo}
use Rattle.tr_io.specs.declared.names.Side.{Side}
use Rattle.tr_io.specs.declared.step.Step.TheVariants.{ChannelUp, OpenCircuit, NextCell}
use Rattle.switch_model.specs.Start.{SwitchStart}
use Rattle.switch_machine.specs.State.{State}
use Rattle.switch_machine.specs.Calls.ChannelUp.{channel_up_result, channel_up_state}
use Rattle.switch_machine.specs.Calls.OpenCircuit.{open_result, open_state}
use Rattle.switch_machine.specs.Adds.{Adds, UpCase, OpenCase}
use Rattle.switch_machine.proofs.Laws.{channel_up_adds, open_adds}

pub up_adds : (start : SwitchStart) (old new : State) (slot : ℕ) (side : Side) (a : UpAnswer)
    → UpCase a (new ≡ old) (new ≡ channel_up_state old side) → UpCase a ⊤ (a ≡ channel_up_result old) →
    UpCase a (new ≡ old) (Adds start old new (ChannelUp slot side a))
up_adds start old new slot side UpAnswer.Memory state answer = state
up_adds start old new slot side (UpAnswer.Up n) state answer =
    channel_up_adds start old new slot side (UpAnswer.Up n) state answer
up_adds start old new slot side (UpAnswer.Full n) state answer =
    channel_up_adds start old new slot side (UpAnswer.Full n) state answer

pub opening_adds : (start : SwitchStart) (old new : State) (chan : ChanNo) (id : ℕ) (reply : Cell) (keys : Option LayerKeys)
    (pad : Option (List ℕ)) (a : OpenAnswer) → is_var reply.body ≡ false → IfSome keys (λ _. IsTrue (opens_circuit reply.command))
    →
    OpenCase a (new ≡ old) (new ≡ open_state start.circuits old chan.0 id reply keys)
    → OpenCase a ⊤ (a ≡ open_result start.circuits old chan.0 id keys) →
    OpenCase a (new ≡ old) (Adds start old new (OpenCircuit chan id reply keys pad a))
opening_adds start old new chan id reply keys pad OpenAnswer.Memory fixed command state answer = state
opening_adds start old new chan id reply keys pad (OpenAnswer.Opened n) fixed command state answer =
    open_adds start old new chan id reply keys pad (OpenAnswer.Opened n) (record { fixed = fixed; command = command }) state
    answer
opening_adds start old new chan id reply keys pad (OpenAnswer.Refused why) fixed command state answer =
    open_adds start old new chan id reply keys pad (OpenAnswer.Refused why) (record { fixed = fixed; command = command }) state
    answer

pub up_steps : (start : SwitchStart) (old new : State) (slot : ℕ) (side : Side) (a : UpAnswer)
    → UpCase a (new ≡ old) (Adds start old new (ChannelUp slot side a)) → new.steps ≤ old.steps + 1
unfolding Adds
up_steps start old new slot side UpAnswer.Memory is = let same : new.steps ≡ old.steps =
    ap (λ s. s.steps) is in omega (arith, same)
up_steps start old new slot side (UpAnswer.Up n) adds = omega (arith, adds.steps)
up_steps start old new slot side (UpAnswer.Full n) adds = omega (arith, adds.steps)

pub opening_steps : (start : SwitchStart) (old new : State) (chan : ChanNo) (id : ℕ) (reply : Cell) (keys : Option LayerKeys)
    (pad : Option (List ℕ)) (a : OpenAnswer) →
    OpenCase a (new ≡ old) (Adds start old new (OpenCircuit chan id reply keys pad a)) → new.steps ≤ old.steps + 1
unfolding Adds
opening_steps start old new chan id reply keys pad OpenAnswer.Memory is = let same : new.steps ≡ old.steps =
    ap (λ s. s.steps) is in omega (arith, same)
opening_steps start old new chan id reply keys pad (OpenAnswer.Opened n) adds = omega (arith, adds.steps)
opening_steps start old new chan id reply keys pad (OpenAnswer.Refused why) adds = omega (arith, adds.steps)

pub next_steps : (start : SwitchStart) (old new : State) (chan : ChanNo) (tick : ℕ) (a : Option Cell)
    → Adds start old new (NextCell chan tick a) → new.steps ≡ old.steps + 1
unfolding Adds
next_steps start old new chan tick a adds = adds.steps
