use Rattle.std.proofs.Common.{◌≡◌, ◌-◌, ◌∙◌, List, ℕ, Some, None, length, take, drop, ap, arith}
use Rattle.std.proofs.lemmas.List.{take_rest}
use Rattle.std.specs.Int.{w64, from_be_bytes}
use Rattle.cell_codec.specs.Cells.{wire_cell, IsWellFormed}
use Rattle.tor_spec.specs.CellReading.{cell_at}
use Rattle.tape.proofs.Takes.{taken, cut_cell}
use Rattle.tape.proofs.kinds.take.read.Goals as goal

pub returns-in-Some-clause-front : goal.returns-in-Some-clause-front
returns-in-Some-clause-front c =
    let fields : List ℕ = c.args.fields.now in
    let bytes : List ℕ = take (length fields - 8) (drop 8 fields) in
    let formed : IsWellFormed c.in-Some.cell = rw c.in-Some.is at c.in_ok-cell.ensures.well_formed in
    let found : cell_at bytes ≡ Some (wire_cell c.in-Some.cell, c.in-Some.rest_bytes.now) =
    rw c.in-Some.is at c.in_ok-cell.ensures.cell in
    taken c.from_be_bytes.result fields bytes c.in-Some.rest_bytes.now c.in-Some.cell (omega (arith, c.if-fields-lt8.false))
    (c.from_be_bytes.ensures ∙ ap (from_be_bytes w64) c.field.ensures) (take_rest fields 8) formed found

pub returns-in-None-clause-front : goal.returns-in-None-clause-front
returns-in-None-clause-front c =
    let fields : List ℕ = c.args.fields.now in
    let bytes : List ℕ = take (length fields - 8) (drop 8 fields) in
    let none : cell_at bytes ≡ None = rw c.in-None.is at c.in_ok-cell.ensures.cell in
    cut_cell fields bytes (omega (arith, c.if-fields-lt8.false)) (take_rest fields 8) none
