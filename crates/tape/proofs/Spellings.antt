-- What spells a record is read as it, and what is read as a record spells it.
use Rattle.std.proofs.Common.{◌≡◌, ℕ, ◌+◌, ◌<◌, ◌≤◌, ◌^◌, List, [], ◌∷◌, ◌++◌, length, take, drop, slice_index, Option, Some, None, refl, sym, ap, ◌∙◌, arith, append_assoc, length-append}
use Rattle.std.specs.Prelude.{Result, Ok, Err, IfOk}
use Rattle.std.proofs.lemmas.Bool.{le-ltb}
use Rattle.std.proofs.lemmas.List.{append-nil}
use Rattle.std.proofs.lemmas.Nat.{from_be_bytes-to_be_bytes_4, from_be_bytes-to_be_bytes_8}
use Rattle.std.specs.Int.{w32, w64, from_be_bytes, to_be_bytes}
use Rattle.tr_io.specs.declared.names.Side.{Side}
use Rattle.tr_io.specs.declared.names.Side.TheVariants.{PeerOpened, WeOpened}
use Rattle.tape.specs.declared.record.Record.{Record}
use Rattle.tape.specs.declared.record.Record.TheVariants.{ChannelUp, OpenCircuit, Take, Claim, GiveBack, Abandon, NextCell, DialOrder, TearDown}
use Rattle.tape.specs.Fronts.{FrontOf, FrontIs, record_and, field}
use Rattle.tape.specs.Records.{front_of}
use Rattle.tape.specs.Kinds.ChannelUp.{channel_up_front}
use Rattle.tape.specs.Kinds.OpenCircuit.{open_circuit_front, padded_circuit_front, opening_front, command_of}
use Rattle.cell_codec.specs.Cells.{wire_cell}
use Rattle.tor_spec.specs.CellEncoding.{encoding}
use Rattle.tape.specs.Kinds.Take.{take_front}
use Rattle.tape.specs.Kinds.NextCell.{next_cell_front}
use Rattle.tape.specs.Kinds.TearDown.{tear_down_front}
use Rattle.tape.specs.declared.record.CircuitRequest.{CircuitRequest}
use Rattle.tape.specs.declared.record.CreateCommand.{CreateCommand}
use Rattle.tape.specs.declared.record.CreateCommand.TheVariants.{Create, CreateFast, Create2}
use Rattle.tape.specs.declared.record.Front.{Front}
use Rattle.tape.specs.Kinds.ChannelUp.{side_byte}
use Rattle.tape.specs.Kinds.OpenCircuit.{command_byte}
use Rattle.tape.specs.Spelling.{spelling, FitsFields}
use Rattle.tape.proofs.Fields.{field_of, behind_of, byte_of, four, eight}
use Rattle.tape.proofs.JobSpellings.{claim_read, return_read}
use Rattle.tape.proofs.Takes.{take_read}
use Rattle.tape.proofs.Teardowns.{tear_down_read}
use Rattle.tape.proofs.Openings.{opened}

up_read : (slot : ℕ) (side : Side) (rest : List ℕ) → slot < 2 ^ 32
    → channel_up_front (to_be_bytes w32 slot ++ side_byte side ∷ rest) ≡ record_and (ChannelUp slot side) rest
unfolding channel_up_front
up_read slot PeerOpened rest small =
    let long : 5 ≤ length (to_be_bytes w32 slot ++ 0 ∷ rest) =
    omega (arith, length-append (to_be_bytes w32 slot) (0 ∷ rest), four slot) in
    rw (le-ltb (length (to_be_bytes w32 slot ++ 0 ∷ rest)) 5 long)
    (ap (λ n. record_and (ChannelUp n PeerOpened) rest) (from_be_bytes-to_be_bytes_4 slot small))
up_read slot WeOpened rest small =
    let long : 5 ≤ length (to_be_bytes w32 slot ++ 1 ∷ rest) =
    omega (arith, length-append (to_be_bytes w32 slot) (1 ∷ rest), four slot) in
    rw (le-ltb (length (to_be_bytes w32 slot ++ 1 ∷ rest)) 5 long)
    (ap (λ n. record_and (ChannelUp n WeOpened) rest) (from_be_bytes-to_be_bytes_4 slot small))

next_read : (chan tick : ℕ) (rest : List ℕ) → chan < 2 ^ 64 → tick < 2 ^ 64
    → next_cell_front (to_be_bytes w64 chan ++ (to_be_bytes w64 tick ++ rest)) ≡ record_and (NextCell (record { 0 = chan }) tick)
    rest
unfolding next_cell_front
next_read chan tick rest c_small t_small =
    let long : 16 ≤ length (to_be_bytes w64 chan ++ (to_be_bytes w64 tick ++ rest)) =
    omega (
      arith,
      length-append (to_be_bytes w64 chan) (to_be_bytes w64 tick ++ rest),
      length-append (to_be_bytes w64 tick) rest,
      eight chan,
      eight tick,
    ) in
    rw (le-ltb (length (to_be_bytes w64 chan ++ (to_be_bytes w64 tick ++ rest))) 16 long)
    (ap (λ n. record_and (NextCell (record { 0 = n }) (from_be_bytes w64 (to_be_bytes w64 tick))) rest)
    (from_be_bytes-to_be_bytes_8 chan c_small)
    ∙ ap (λ n. record_and (NextCell (record { 0 = chan }) n) rest) (from_be_bytes-to_be_bytes_8 tick t_small))

-- The fields of an opening's cell, one after another.
pub record CellFields (cell : List ℕ) (id command : ℕ) (payload rest : List ℕ) : Type 0 where
  pub at_id : field 0 4 cell ≡ to_be_bytes w32 id
  pub at_command : slice_index cell 4 ≡ command
  pub at_payload : field 5 509 cell ≡ payload
  pub at_rest : drop 514 cell ≡ rest
  pub at_long : 514 ≤ length cell

cell_fields : (id command : ℕ) (payload rest : List ℕ) → length payload ≡ 509
    → CellFields (to_be_bytes w32 id ++ command ∷ (payload ++ rest)) id command payload rest
cell_fields id command payload rest p_long =
    let i : List ℕ = to_be_bytes w32 id in
    let at_payload : length (i ++ command ∷ []) ≡ 5 = omega (arith, length-append i (command ∷ []), four id) in
    let at_rest : length ((i ++ command ∷ []) ++ payload) ≡ 514 =
    omega (arith, length-append (i ++ command ∷ []) payload, at_payload, p_long) in
    let to_payload : i ++ command ∷ (payload ++ rest) ≡ (i ++ command ∷ []) ++ (payload ++ rest) =
    sym (append_assoc i (command ∷ []) (payload ++ rest)) in
    let to_rest : i ++ command ∷ (payload ++ rest) ≡ ((i ++ command ∷ []) ++ payload) ++ rest =
    to_payload ∙ sym (append_assoc (i ++ command ∷ []) payload rest) in
    record {
      at_id = field_of 0 4 [] i (command ∷ (payload ++ rest)) refl (four id);
      at_command = byte_of 4 i command (payload ++ rest) (four id);
      at_payload = ap (field 5 509) to_payload ∙ field_of 5 509 (i ++ command ∷ []) payload rest at_payload p_long;
      at_rest = ap (drop 514) to_rest ∙ behind_of 514 ((i ++ command ∷ []) ++ payload) rest at_rest;
      at_long = omega (arith, ap length to_rest, length-append ((i ++ command ∷ []) ++ payload) rest, at_rest);
    }

-- The parts of an opening, one after another: channel and Y, the key of the padding, and the cell.
pub record OpeningParts (fields : List ℕ) (chan : ℕ) (y pad cell : List ℕ) : Type 0 where
  pub at_chan : field 0 8 (take 28 fields) ≡ to_be_bytes w64 chan
  pub at_y : field 8 20 (take 28 fields) ≡ y
  pub at_pad : field 28 (length pad) fields ≡ pad
  pub at_cell : drop (28 + length pad) fields ≡ cell

opening_parts : (chan : ℕ) (y pad cell : List ℕ) → length y ≡ 20
    → OpeningParts (to_be_bytes w64 chan ++ (y ++ (pad ++ cell))) chan y pad cell
opening_parts chan y pad cell y_long =
    let c : List ℕ = to_be_bytes w64 chan in
    let at_pad : length (c ++ y) ≡ 28 = omega (arith, length-append c y, eight chan, y_long) in
    let at_cell : length ((c ++ y) ++ pad) ≡ 28 + length pad = omega (arith, length-append (c ++ y) pad, at_pad) in
    let to_pad : c ++ (y ++ (pad ++ cell)) ≡ (c ++ y) ++ (pad ++ cell) = sym (append_assoc c y (pad ++ cell)) in
    let to_cell : c ++ (y ++ (pad ++ cell)) ≡ ((c ++ y) ++ pad) ++ cell = to_pad ∙ sym (append_assoc (c ++ y) pad cell) in
    let head : take 28 (c ++ (y ++ (pad ++ cell))) ≡ c ++ (y ++ []) =
    ap (take 28) to_pad ∙ field_of 0 28 [] (c ++ y) (pad ++ cell) refl at_pad ∙ ap (λ xs. c ++ xs) (sym (append-nil y)) in
    record {
      at_chan = ap (field 0 8) head ∙ field_of 0 8 [] c (y ++ []) refl (eight chan);
      at_y = ap (field 8 20) head ∙ field_of 8 20 c y [] (eight chan) y_long;
      at_pad = ap (field 28 (length pad)) to_pad ∙ field_of 28 (length pad) (c ++ y) pad cell at_pad refl;
      at_cell = ap (drop (28 + length pad)) to_cell ∙ behind_of (28 + length pad) ((c ++ y) ++ pad) cell at_cell;
    }

command_read : (command : CreateCommand) → command_of (command_byte command) ≡ Some command
command_read Create = refl
command_read CreateFast = refl
command_read Create2 = refl

abbrev opening : ℕ → List ℕ → Option (List ℕ) → CreateCommand → ℕ → List ℕ → List ℕ → FrontOf
opening chan y pad command id payload rest =
    record_and (OpenCircuit (record { 0 = chan }) y pad (record { id = id; command = command; payload = payload })) rest

open_read : (head : List ℕ) (pad : Option (List ℕ)) (cell : List ℕ) (chan : ℕ) (y : List ℕ) (id : ℕ) (command : CreateCommand)
    (payload rest : List ℕ) → chan < 2 ^ 64 → id < 2 ^ 32 →
    field 0 8 head ≡ to_be_bytes w64 chan → field 8 20 head ≡ y → CellFields cell id (command_byte command) payload rest →
    opening_front head pad cell ≡ opening chan y pad command id payload rest
open_read head pad cell chan y id command payload rest c_small i_small at_chan at_y f =
    let short : 5 ≤ length cell = omega (arith, f.at_long) in
    let read_chan : from_be_bytes w64 (field 0 8 head) ≡ chan =
    ap (from_be_bytes w64) at_chan ∙ from_be_bytes-to_be_bytes_8 chan c_small in
    let read_id : from_be_bytes w32 (field 0 4 cell) ≡ id =
    ap (from_be_bytes w32) f.at_id ∙ from_be_bytes-to_be_bytes_4 id i_small in
    sym (opened head pad cell command short (ap command_of f.at_command ∙ command_read command) f.at_long)
    ∙ ap (λ n. opening n (field 8 20 head) pad command (from_be_bytes w32 (field 0 4 cell)) (field 5 509 cell) (drop 514 cell))
    read_chan
    ∙ ap (λ xs. opening chan xs pad command (from_be_bytes w32 (field 0 4 cell)) (field 5 509 cell) (drop 514 cell)) at_y
    ∙ ap (λ n. opening chan y pad command n (field 5 509 cell) (drop 514 cell)) read_id
    ∙ ap (λ xs. opening chan y pad command id xs (drop 514 cell)) f.at_payload
    ∙ ap (λ xs. opening chan y pad command id payload xs) f.at_rest

-- The same of the fields of a whole record, whose cell begins here.
read_at : (fields : List ℕ) (pad : Option (List ℕ)) (place : ℕ) (chan : ℕ) (y bytes : List ℕ) (request : CircuitRequest)
    (rest : List ℕ) → chan < 2 ^ 64 → request.id < 2 ^ 32 → length request.payload ≡ 509 →
    OpeningParts fields chan y bytes (to_be_bytes w32 request.id ++ command_byte request.command ∷ (request.payload ++ rest))
    → 28 + length bytes ≡ place →
    opening_front (take 28 fields) pad (drop place fields) ≡ opening chan y pad request.command request.id request.payload rest
read_at fields pad place chan y bytes request rest c_small i_small p_long parts is_place =
    ap (λ n. opening_front (take 28 fields) pad (drop n fields)) (sym is_place)
    ∙ ap (opening_front (take 28 fields) pad) parts.at_cell
    ∙ open_read (take 28 fields) pad _ chan y request.id request.command request.payload rest c_small i_small parts.at_chan
    parts.at_y
    (cell_fields request.id (command_byte request.command) request.payload rest p_long)

-- An opening's fields in front of other bytes.
in_front : (c y pad i : List ℕ) (command : ℕ) (payload rest : List ℕ)
    → (c ++ (y ++ (pad ++ (i ++ command ∷ payload)))) ++ rest ≡ c ++ (y ++ (pad ++ (i ++ command ∷ (payload ++ rest))))
in_front c y pad i command payload rest =
    append_assoc c (y ++ (pad ++ (i ++ command ∷ payload))) rest
    ∙ ap (λ xs. c ++ xs)
    (append_assoc y (pad ++ (i ++ command ∷ payload)) rest
    ∙ ap (λ xs. y ++ xs)
    (append_assoc pad (i ++ command ∷ payload) rest ∙ ap (λ xs. pad ++ xs) (append_assoc i (command ∷ payload) rest)))

pub spelled_is_read : (r : Record) (rest : List ℕ) → FitsFields r → front_of (spelling r ++ rest) ≡ record_and r rest
unfolding front_of
spelled_is_read (ChannelUp slot side) rest fits =
    ap channel_up_front (append_assoc (to_be_bytes w32 slot) (side_byte side ∷ []) rest) ∙ up_read slot side rest fits
spelled_is_read (OpenCircuit chan y None request) rest fits =
    let c : List ℕ = to_be_bytes w64 chan.0 in
    let cell : List ℕ = to_be_bytes w32 request.id ++ command_byte request.command ∷ (request.payload ++ rest) in
    ap open_circuit_front (in_front c y [] (to_be_bytes w32 request.id) (command_byte request.command) request.payload rest)
    ∙ read_at (c ++ (y ++ cell)) None 28 chan.0 y [] request rest fits.0 fits.3 fits.4 (opening_parts chan.0 y [] cell fits.1)
    refl
spelled_is_read (OpenCircuit chan y (Some pad) request) rest fits =
    let c : List ℕ = to_be_bytes w64 chan.0 in
    let cell : List ℕ = to_be_bytes w32 request.id ++ command_byte request.command ∷ (request.payload ++ rest) in
    let fields : List ℕ = c ++ (y ++ (pad ++ cell)) in
    let parts : OpeningParts fields chan.0 y pad cell = opening_parts chan.0 y pad cell fits.1 in
    let read_pad : field 28 16 fields ≡ pad = ap (λ n. field 28 n fields) (sym fits.2) ∙ parts.at_pad in
    ap padded_circuit_front (in_front c y pad (to_be_bytes w32 request.id) (command_byte request.command) request.payload rest)
    ∙ ap (λ xs. opening_front (take 28 fields) (Some xs) (drop 44 fields)) read_pad
    ∙ read_at fields (Some pad) 44 chan.0 y pad request rest fits.0 fits.3 fits.4 parts (ap (λ n. 28 + n) fits.2)
spelled_is_read (Take chan cell) rest fits =
    ap take_front (append_assoc (to_be_bytes w64 chan.0) (encoding (wire_cell cell)) rest) ∙ take_read chan.0 cell rest fits
spelled_is_read (Claim worker) rest fits = claim_read worker rest fits
spelled_is_read (GiveBack claim) rest fits = return_read GiveBack claim rest fits
spelled_is_read (Abandon claim) rest fits = return_read Abandon claim rest fits
spelled_is_read (NextCell chan tick) rest fits =
    ap next_cell_front (append_assoc (to_be_bytes w64 chan.0) (to_be_bytes w64 tick) rest)
    ∙ next_read chan.0 tick rest fits.0 fits.1
spelled_is_read DialOrder rest fits = refl
spelled_is_read (TearDown circ reason) rest fits =
    ap tear_down_front (append_assoc (to_be_bytes w64 circ.0) (reason ∷ []) rest) ∙ tear_down_read circ.0 reason rest fits.0

pub spelled_is_front : {E : Type 0} (r : Result Front E) (bytes : List ℕ) → IfOk r (λ front. FrontIs front (front_of bytes)) →
    IfOk r (λ front. (q : Record) (rest : List ℕ) → FitsFields q → bytes ≡ spelling q ++ rest → FrontIs front (record_and q rest))
spelled_is_front (Ok front) bytes is = λ q rest fits spells. is ∙ ap front_of spells ∙ spelled_is_read q rest fits
spelled_is_front (Err e) bytes is = tt
