-- A record that opens a circuit, once all of its cell is there.
use Rattle.std.proofs.Common.{◌≡◌, ℕ, ◌+◌, ◌<◌, ◌≤◌, List, length, take, drop, Option, Some, slice_index, refl, sym, ap, ◌∙◌, arith, length-drop}
use Rattle.std.proofs.lemmas.Bool.{le-ltb, lt-ltb}
use Rattle.std.proofs.lemmas.List.{drop-drop}
use Rattle.tape.specs.declared.record.CreateCommand.{CreateCommand}
use Rattle.tape.specs.declared.record.Front.{Front}
use Rattle.tape.specs.Fronts.{record_and, less, FrontIs, field}
use Rattle.tape.specs.Kinds.OpenCircuit.{opening_front, padded_circuit_front, open_circuit_record, front_with_command, command_of}

-- The front where the fields end before a cell's command.
pub cut_opening : (head : List ℕ) (pad : Option (List ℕ)) (place : ℕ) (fields : List ℕ) → length fields < place + 5
    → less ≡ opening_front head pad (drop place fields)
unfolding opening_front
cut_opening head pad place fields short =
    rw (lt-ltb (length (drop place fields)) 5 (omega (arith, length-drop place fields, short))) refl

-- The front by the parts that the fields are split into.
pub padded_opening : (front : Front) (fields head key rest cell : List ℕ) → head ≡ take 28 fields → rest ≡ drop 28 fields
    → key ≡ take 16 rest → cell ≡ drop 16 rest →
    FrontIs front (opening_front head (Some key) cell) → FrontIs front (padded_circuit_front fields)
padded_opening front fields head key rest cell is_head is_rest is_key is_cell is =
    is
    ∙ ap (λ xs. opening_front xs (Some key) cell) is_head
    ∙ ap (λ xs. opening_front (take 28 fields) (Some xs) cell) (is_key ∙ ap (take 16) is_rest)
    ∙ ap (opening_front (take 28 fields) (Some (field 28 16 fields))) (is_cell ∙ ap (drop 16) is_rest ∙ drop-drop 16 28 fields)

-- The front by the command's byte.
pub by_command : (head : List ℕ) (pad : Option (List ℕ)) (cell : List ℕ) (found : Option CreateCommand) → 5 ≤ length cell
    → command_of (slice_index cell 4) ≡ found → opening_front head pad cell ≡ front_with_command head pad found cell
unfolding opening_front
by_command head pad cell found long is =
    rw (le-ltb (length cell) 5 long) (ap (λ o. front_with_command head pad o cell) is)

whole : (head : List ℕ) (pad : Option (List ℕ)) (cell : List ℕ) (command : CreateCommand) → 514 ≤ length cell
    → front_with_command head pad (Some command) cell ≡ record_and (open_circuit_record head pad command cell) (drop 514 cell)
whole head pad cell command long = rw (le-ltb (length cell) 514 long) refl

pub opened : (head : List ℕ) (pad : Option (List ℕ)) (cell : List ℕ) (command : CreateCommand) → 5 ≤ length cell
    → command_of (slice_index cell 4) ≡ Some command → 514 ≤ length cell
    → record_and (open_circuit_record head pad command cell) (drop 514 cell) ≡ opening_front head pad cell
opened head pad cell command long is all = sym (by_command head pad cell (Some command) long is ∙ whole head pad cell command all)
