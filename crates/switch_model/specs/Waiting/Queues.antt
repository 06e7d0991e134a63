-- What a circuit holds: the cells that wait on its legs, and how many cells each direction holds.
use Rattle.std.specs.Prelude.{ℕ, ◌+◌, ◌-◌, ◌&&◌, zero, suc, nat_le, List, [], ◌∷◌, length, Bool, if◌then◌else◌, take, drop}
use Rattle.circuit_model.specs.Events.{CircuitCell}
use Rattle.circuit_model.specs.Log.{Log}
use Rattle.circuit_model.specs.Opened.{forward_count}
use Rattle.circuit_model.specs.Rules.{Rules}
use Rattle.circuit_model.specs.Sent.{leg_cells}
use Rattle.circuit_model.specs.Words.{log}
use Rattle.tr_io.specs.declared.answers.BackAnswer.{BackAnswer}
use Rattle.tr_io.specs.declared.names.Dir.{Dir}
use Rattle.tr_io.specs.declared.names.Dir.TheVariants.{Forth, Back}
use Rattle.tr_io.specs.declared.step.Step.{Step}
use Rattle.tr_io.specs.declared.step.Step.TheVariants.{GiveBack}
use Rattle.switch_model.specs.Names.{same_way, way_of}
use Rattle.switch_model.specs.History.Legs.{hops, holds_id}
use Rattle.switch_model.specs.History.Taken.{taken_forth}
use Rattle.switch_model.specs.History.Circuit.{is_live_circuit, sent, events}
use Rattle.switch_model.specs.History.Returns.{held_back_after}
use Rattle.switch_model.specs.Limits.{held_limit}

-- The log of circuit c.
abbrev pub circuit_log : Rules → List Step → ℕ → Log
circuit_log rules h c = log rules (events rules h c)

-- How many backward bodies were settled: a worker has sealed them, and they may leave.
abbrev pub sealed_count : List Step → ℕ → ℕ
sealed_count [] c = 0
sealed_count (GiveBack note place BackAnswer.Settled ∷ h) c =
    if same_way (way_of note) (record { circ = c; dir = Back }) then sealed_count h c + note.count else sealed_count h c
sealed_count (s ∷ h) c = sealed_count h c

-- What the one-thread relay sends on leg k, as far as it may leave where so many backward bodies are
-- sealed: on leg 0 the answer to the opening and those bodies, on every other leg all.
abbrev pub sendable : Log → ℕ → ℕ → List CircuitCell
sendable relayed bodies zero = take (1 + bodies) (leg_cells relayed 0)
sendable relayed bodies (suc k) = leg_cells relayed (suc k)

-- The cells that wait on leg k: those that may leave and weren't sent. None wait once the circuit is torn down
-- or the leg has lost its CircID, by the peer's DESTROY or by the end of its channel.
abbrev pub queue : Rules → List Step → ℕ → ℕ → List CircuitCell
queue rules h c k =
    if is_live_circuit rules h c && holds_id h c k
    then drop (length (sent rules h c k)) (sendable (circuit_log rules h c) (sealed_count h c) k)
    else []

-- How many cells wait on the legs 1 to k.
abbrev pub queued_forth : Rules → List Step → ℕ → ℕ → ℕ
queued_forth rules h c zero = 0
queued_forth rules h c (suc k) = queued_forth rules h c k + length (queue rules h c (suc k))

-- How many cells a direction holds. Back: the answer to the opening and all bodies that went back,
-- without those sent. Forth: the cells taken and not settled, and those on the legs towards next
-- hops, legs that TRUNCATE ended among them.
abbrev pub held_count : Rules → List Step → ℕ → Dir → ℕ
held_count rules h c Back = held_back_after rules (events rules h c) (length (sent rules h c 0))
held_count rules h c Forth =
    length (taken_forth h c) - forward_count (circuit_log rules h c) + queued_forth rules h c (hops h c)

-- Whether a direction takes no more.
abbrev pub is_full : Rules → List Step → ℕ → Dir → Bool
is_full rules h c dir = nat_le held_limit (held_count rules h c dir)
