-- The cells that were taken in for a circuit.
use Rattle.std.specs.Prelude.{ℕ, ◌==◌, ◌&&◌, zero, suc, List, [], ◌∷◌, ◌++◌, Bool, true, false, if◌then◌else◌, Option, Some, None, take, drop}
use Rattle.circuit_model.specs.Events.{CircuitCell}
use Rattle.tor_spec.specs.CellCommands.{relay_command}
use Rattle.tr_io.specs.declared.answers.TakeAnswer.TheVariants.{Queued}
use Rattle.tr_io.specs.declared.names.ClaimNote.{ClaimNote}
use Rattle.tr_io.specs.declared.step.Step.{Step}
use Rattle.tr_io.specs.declared.step.Step.TheVariants.{Take}
use Rattle.switch_model.specs.Names.{Leg, is_leg, circuit_cell}
use Rattle.switch_model.specs.History.Legs.{at}

-- The relay cells queued on leg 0, oldest first, each by its command and its body.
abbrev pub taken_forth : List Step → ℕ → List CircuitCell
taken_forth [] c = []
taken_forth (Take chan cell Queued ∷ h) c =
    if is_leg c 0 (at h chan.0 cell.circ) then taken_forth h c ++ circuit_cell cell ∷ [] else taken_forth h c
taken_forth (s ∷ h) c = taken_forth h c

abbrev pub is_hop : ℕ → Bool
is_hop zero = false
is_hop (suc k) = true

-- Whether a leg is one of the circuit's legs towards next hops.
abbrev pub is_hop_leg : ℕ → Option Leg → Bool
is_hop_leg c (Some leg) = (leg.circ == c) && is_hop leg.number
is_hop_leg c None = false

-- The bodies of the RELAY cells queued on a leg towards a next hop, oldest first. `take`
-- queues cells on the current leg alone.
abbrev pub taken_back : List Step → ℕ → List (List ℕ)
taken_back [] c = []
taken_back (Take chan cell Queued ∷ h) c =
    if is_hop_leg c (at h chan.0 cell.circ) && (cell.command == relay_command)
    then taken_back h c ++ (circuit_cell cell).body ∷ [] else taken_back h c
taken_back (s ∷ h) c = taken_back h c

-- The cells of a claim in the forward direction.
abbrev pub claimed_cells : List Step → ClaimNote → List CircuitCell
claimed_cells h note = take note.count (drop note.first (taken_forth h note.circ.0))
