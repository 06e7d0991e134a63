-- Kind 04: what spells it is read as it, and what is read as it spells it.
use Rattle.std.proofs.Common.{◌≡◌, ℕ, ◌<◌, ◌≤◌, if◌then◌else◌, nat_lt, List, ◌∷◌, ◌++◌, length, drop, Bool, true, false, Option, Some, None, refl, sym, ap, ◌∙◌, arith, append_assoc, length-append}
use Rattle.std.proofs.lemmas.Bool.{le-ltb, lt-ltb, ltb-false}
use Rattle.std.proofs.lemmas.Nat.{from_be_bytes-to_be_bytes_8}
use Rattle.std.specs.Int.{w64, from_be_bytes, to_be_bytes}
use Rattle.cell_codec.specs.declared.cell.Body.{Body}
use Rattle.cell_codec.specs.declared.cell.Body.TheVariants.{Fixed, Var}
use Rattle.cell_codec.specs.declared.cell.Cell.{Cell}
use Rattle.cell_codec.specs.Cells.{payload_of, is_var, wire_cell, IsWellFormed}
use Rattle.tor_spec.specs.CellEncoding.{WireCell, is_variable, encoding}
use Rattle.tor_spec.specs.CellReading.{cell_at}
use Rattle.tor_spec.specs.CellStream.{IsBytes}
use Rattle.cell_laws.proofs.Encodings.{cell_again}
use Rattle.cell_laws.proofs.Found.{cell_found}
use Rattle.tape.specs.declared.record.Record.{Record}
use Rattle.tape.specs.declared.record.Record.TheVariants.{Take}
use Rattle.tape.specs.Fronts.{record_and, less, field, bare_body, bare_cell}
use Rattle.tape.specs.Kinds.Take.{body_from, cell_from, TakeFits, front_with_cell, take_front}
use Rattle.tape.specs.Spelling.{spelling}
use Rattle.tape.proofs.Fields.{eight, field_8, part, drop_bytes}

bare_by : (variable : Bool) (body : Body) → is_var body ≡ variable → bare_body body ≡ body_from variable (payload_of body)
bare_by true (Var list) is = refl
bare_by false (Fixed payload) is = refl
bare_by true (Fixed payload) is = cc
bare_by false (Var list) is = cc

-- A cell that is well formed, without its spare places, follows from what lies on the link.
bare_is : (cell : Cell) → IsWellFormed cell → bare_cell cell ≡ cell_from (wire_cell cell)
bare_is cell formed =
    ap (λ body. record { circ = cell.circ; command = cell.command; body = body })
    (bare_by (is_variable cell.command) cell.body formed.kind)

payload_by : (variable : Bool) (payload : List ℕ) → payload_of (body_from variable payload) ≡ payload
payload_by true payload = refl
payload_by false payload = refl

wire_again : (cell : WireCell) → wire_cell (cell_from cell) ≡ cell
wire_again cell =
    ap (λ payload. record { circuit = cell.circuit; command = cell.command; payload = payload })
    (payload_by (is_variable cell.command) cell.payload)

pub taken : (chan : ℕ) (fields bytes behind : List ℕ) (cell : Cell) → 8 ≤ length fields
    → chan ≡ from_be_bytes w64 (field 0 8 fields) → bytes ≡ drop 8 fields → IsWellFormed cell
    → cell_at bytes ≡ Some (wire_cell cell, behind) →
    record_and (Take (record { 0 = chan }) (bare_cell cell)) behind ≡ take_front fields
unfolding take_front
taken chan fields bytes behind cell long is_chan is_bytes formed found =
    rw (le-ltb (length fields) 8 long)
    (ap (λ c. record_and (Take (record { 0 = chan }) c) behind) (bare_is cell formed)
    ∙ ap (λ n. record_and (Take (record { 0 = n }) (cell_from (wire_cell cell))) behind) is_chan
    ∙ ap (front_with_cell (from_be_bytes w64 (field 0 8 fields))) (sym found ∙ ap cell_at is_bytes))

pub cut_cell : (fields bytes : List ℕ) → 8 ≤ length fields → bytes ≡ drop 8 fields → cell_at bytes ≡ None
    → less ≡ take_front fields
unfolding take_front
cut_cell fields bytes long is_bytes none =
    rw (le-ltb (length fields) 8 long)
    (ap (front_with_cell (from_be_bytes w64 (field 0 8 fields))) (sym none ∙ ap cell_at is_bytes))

pub cut_channel : (fields : List ℕ) → length fields < 8 → less ≡ take_front fields
unfolding take_front
cut_channel fields short = rw (lt-ltb (length fields) 8 short) refl

pub take_read : (chan : ℕ) (cell : Cell) (rest : List ℕ) → TakeFits chan cell
    → take_front (to_be_bytes w64 chan ++ (encoding (wire_cell cell) ++ rest)) ≡ record_and (Take (record { 0 = chan }) cell) rest
unfolding take_front
take_read chan cell rest fits =
    let c : List ℕ = to_be_bytes w64 chan in
    let all : List ℕ = c ++ (encoding (wire_cell cell) ++ rest) in
    let long : 8 ≤ length all = omega (arith, length-append c (encoding (wire_cell cell) ++ rest), eight chan) in
    rw (le-ltb (length all) 8 long)
    (ap (λ n. front_with_cell n (cell_at (encoding (wire_cell cell) ++ rest))) (from_be_bytes-to_be_bytes_8 chan fits.0)
    ∙ ap (front_with_cell chan) (cell_again (wire_cell cell) rest fits.1)
    ∙ ap (λ x. record_and (Take (record { 0 = chan }) x) rest) (sym fits.2))

take_by : (short : Bool) (found : Option (WireCell × List ℕ)) (fields : List ℕ) (r : Record) (rest : List ℕ) → IsBytes fields
    → nat_lt (length fields) 8 ≡ short → cell_at (drop 8 fields) ≡ found →
    (if short then less else front_with_cell (from_be_bytes w64 (field 0 8 fields)) found) ≡ record_and r rest
    → 4 ∷ fields ≡ spelling r ++ rest
take_by true found fields r rest bytes is_short is_found is = cc
take_by false None fields r rest bytes is_short is_found is = cc
take_by false (Some found) fields r rest bytes is_short is_found is =
    let n : ℕ = from_be_bytes w64 (field 0 8 fields) in
    let which : r ≡ Take (record { 0 = n }) (cell_from found.0) = cc in
    let behind : rest ≡ found.1 = cc in
    let long : 8 ≤ length fields = ltb-false (length fields) 8 is_short in
    let text : drop 8 fields ≡ encoding found.0 ++ found.1 =
    (cell_found (drop 8 fields) found (drop_bytes 8 fields bytes) is_found).text in
    let c : List ℕ = to_be_bytes w64 n in
    ap (λ xs. 4 ∷ xs)
    (part 0 8 fields
    ∙ ap (λ xs. xs ++ drop 8 fields) (sym (field_8 0 fields bytes (omega arith)))
    ∙ ap (λ xs. c ++ xs) text
    ∙ sym (append_assoc c (encoding found.0) found.1)
    ∙ ap (λ w. (c ++ encoding w) ++ found.1) (sym (wire_again found.0)))
    ∙ ap (λ q. spelling q ++ found.1) (sym which) ∙ ap (λ xs. spelling r ++ xs) (sym behind)

pub take_spelled : (fields : List ℕ) (r : Record) (rest : List ℕ) → IsBytes fields → take_front fields ≡ record_and r rest
    → 4 ∷ fields ≡ spelling r ++ rest
unfolding take_front
take_spelled fields r rest bytes is = take_by _ _ fields r rest bytes refl refl is
