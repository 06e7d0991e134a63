-- The bodies of a direction, as the code keeps them in one queue.
use Rattle.std.proofs.Common.{◌≡◌, ℕ, ◌+◌, ◌++◌, ◌≤◌, ◌<◌, get_or, List, [], ◌∷◌, length, take, Option, Some, None, IfSome, refl, ap, ◌∙◌, length-drop, arith, zero, suc}
use Rattle.std.proofs.lemmas.List.{length-take-le, length-map, take-append-le, drop-append-le}
use Rattle.circuit_model.specs.Events.{CircuitCell}
use Rattle.tr_io.specs.declared.names.ClaimNote.{ClaimNote}
use Rattle.switch_machine.specs.Calls.Claim.{waiting_cells}
use Rattle.switch_machine.specs.Calls.Settling.{more_waits}
use Rattle.switch_machine.specs.Calls.Take.{kept_length}
use Rattle.switch_machine.specs.State.{WaitingCell}
use Rattle.switch_machine.specs.Machine.{kept_cells}
use Rattle.switch_core.specs.Meaning.{way_of}
use Rattle.switch_core.specs.Settling.{command_at}

-- the bodies that are out and those that wait are all of the queue
pub whole_length : (claimed_count : ℕ) (claim : Option ClaimNote) (bodies : List WaitingCell)
    → IfSome claim (λ note. note.count ≤ length bodies) →
    length bodies ≡ kept_length (way_of claimed_count claim bodies).claim_out
    + length (way_of claimed_count claim bodies).waiting_bodies
whole_length claimed_count None bodies fits = omega arith
whole_length claimed_count (Some note) bodies fits =
    let front : length (take note.count bodies) ≡ note.count = length-take-le note.count bodies fits in
    let cells : length (waiting_cells (take note.count bodies)) ≡ length (take note.count bodies) =
    length-map (take note.count bodies) (λ w. w.cell) in
    omega (arith, fits, front, cells, length-drop note.count bodies)

command-in : (bodies : List WaitingCell) (count n : ℕ) (d : WaitingCell) → n < count → count ≤ length bodies
    → (get_or bodies n d).cell.command ≡ command_at n (waiting_cells (take count bodies))
command-in [] count n d inside fits = absurd (omega (arith, inside, fits))
command-in (w ∷ bodies) zero n d inside fits = absurd (omega (arith, inside))
command-in (w ∷ bodies) (suc count) zero d inside fits = refl
command-in (w ∷ bodies) (suc count) (suc n) d inside fits =
    command-in bodies count n d (omega (arith, inside)) (omega (arith, fits))

-- a body at its end waits
pub one_more : (claimed_count : ℕ) (claim : Option ClaimNote) (bodies : List WaitingCell) (number : ℕ) (cell : CircuitCell)
    → IfSome claim (λ note. note.count ≤ length bodies) →
    way_of claimed_count claim (bodies ++ record { number = number; cell = cell } ∷ [])
    ≡ more_waits number cell (way_of claimed_count claim bodies)
one_more claimed_count None bodies number cell fits = refl
one_more claimed_count (Some note) bodies number cell fits =
    rw (
      take-append-le note.count bodies (record { number = number; cell = cell } ∷ []) fits,
      drop-append-le note.count bodies (record { number = number; cell = cell } ∷ []) fits,
    ) refl

-- the command of a body that is out
pub command_out : (claimed_count : ℕ) (claim : Option ClaimNote) (bodies : List WaitingCell) (n : ℕ) (d body : WaitingCell)
    → IfSome claim (λ note. note.count ≤ length bodies) → n < kept_length (way_of claimed_count claim bodies).claim_out →
    body ≡ get_or bodies n d → body.cell.command ≡ command_at n (kept_cells (way_of claimed_count claim bodies).claim_out)
command_out claimed_count None bodies n d body fits inside is = absurd (omega (arith, inside))
command_out claimed_count (Some note) bodies n d body fits inside is =
    ap (λ (w : WaitingCell). w.cell.command) is
    ∙ command-in bodies note.count n d
    (omega (arith, inside, whole_length claimed_count (Some note) bodies fits, fits, length-drop note.count bodies)) fits
