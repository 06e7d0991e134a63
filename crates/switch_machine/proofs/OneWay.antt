-- How many bodies of a direction wait.
use Rattle.std.proofs.Common.{◌++◌, ◌+◌, ◌-◌, ◌≡◌, List, Option, ap, arith, length, map, ℕ}
use Rattle.std.proofs.lemmas.List.{length-append, length-map}
use Rattle.circuit_model.specs.Events.{CircuitCell}
use Rattle.tr_io.specs.declared.names.ClaimNote.{ClaimNote}
use Rattle.tr_io.specs.declared.names.Dir.{Dir}
use Rattle.switch_machine.specs.Machine.{kept_cells}
use Rattle.switch_machine.specs.Stands.OneWay.{WayStands, cell_waiting}
use Rattle.switch_machine.specs.State.{WaitingCell, WayState}

-- what a direction was given is what came home, what is out and what waits
pub length-given : (settled out given : List CircuitCell) (waiting_bodies : List WaitingCell)
    → settled ++ out ++ map cell_waiting waiting_bodies ≡ given
    → length given ≡ length settled + length out + length waiting_bodies
length-given settled out given waiting_bodies e =
    let all = ap length e in
    let one = length-append (settled ++ out) (map cell_waiting waiting_bodies) in
    let two = length-append settled out in
    let three = length-map waiting_bodies cell_waiting in omega arith

pub way-waits : (c : ℕ) (d : Dir) (w : WayState) (settled given : List CircuitCell) (count : ℕ) (known : Option ClaimNote)
    (all : List ℕ) → WayStands c d w settled given count known all →
    length given - count ≡ length w.waiting_bodies
way-waits c d w settled given count known all own =
    omega (arith, length-given settled (kept_cells w.claim_out) given w.waiting_bodies own.cells, own.claimed_count, own.out)
