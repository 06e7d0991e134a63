-- What is read as a record spells it.
use Rattle.std.proofs.Common.{◌≡◌, ℕ, suc, ◌+◌, ◌≤◌, ◌==◌, if◌then◌else◌, nat_lt, List, [], ◌∷◌, ◌++◌, length, take, drop, slice_index, Bool, true, false, Option, Some, None, refl, sym, ap, ◌∙◌, arith, append_assoc, length-drop, length-take, lit<, inl, inr}
use Rattle.std.specs.Prelude.{Result, Ok, Err, IfOk}
use Rattle.std.proofs.lemmas.Bool.{ltb-false, eqb-true, cases_lt}
use Rattle.std.proofs.lemmas.List.{take-append-drop, length-take-le, drop-drop, get_or-take, get_or-drop, get_or_past}
use Rattle.std.proofs.Math.Seq.{drop-cons}
use Rattle.std.proofs.lemmas.Nat.{be_bytes_4, be_bytes_8}
use Rattle.std.specs.Int.{w32, w64, from_be_bytes, to_be_bytes}
use Rattle.tr_io.specs.declared.names.Side.TheVariants.{PeerOpened, WeOpened}
use Rattle.tape.specs.declared.record.CreateCommand.{CreateCommand}
use Rattle.tape.specs.declared.record.CreateCommand.TheVariants.{Create, CreateFast, Create2}
use Rattle.tape.specs.declared.record.Record.{Record}
use Rattle.tape.specs.declared.record.Record.TheVariants.{ChannelUp, GiveBack, Abandon, NextCell}
use Rattle.tape.specs.Fronts.{FrontIs, record_and, less, no_record, unbuilt, field}
use Rattle.tape.specs.Records.{front_of}
use Rattle.tape.specs.Kinds.ChannelUp.{channel_up_front}
use Rattle.tape.specs.Kinds.OpenCircuit.{open_circuit_front, padded_circuit_front, opening_front, open_circuit_record, front_with_command, command_of}
use Rattle.tape.specs.Kinds.Take.{take_front}
use Rattle.tape.specs.Kinds.Claim.{claim_front}
use Rattle.tape.specs.Kinds.Return.{return_front}
use Rattle.tape.specs.Kinds.NextCell.{next_cell_front}
use Rattle.tape.specs.Kinds.DialOrder.{dial_order_front}
use Rattle.tape.specs.Kinds.TearDown.{tear_down_front}
use Rattle.tor_spec.specs.CellStream.{IsBytes}
use Rattle.tape.proofs.Fields.{field_bytes, field_4, field_8, part, drop_bytes}
use Rattle.tape.proofs.DialSpellings.{dial_order_spelled}
use Rattle.tape.proofs.JobSpellings.{claim_spelled, return_spelled}
use Rattle.tape.proofs.Takes.{take_spelled}
use Rattle.tape.proofs.Teardowns.{tear_down_spelled}
use Rattle.tape.specs.declared.record.Front.{Front}
use Rattle.tr_io.proofs.OutputLaws.{take_all}
use Rattle.tape.specs.Kinds.OpenCircuit.{command_byte, opening_kind, pad_bytes}
use Rattle.tape.specs.Spelling.{spelling}

up_whole : (fields : List ℕ) → IsBytes fields → 5 ≤ length fields → (side : ℕ) → slice_index fields 4 ≡ side →
    1 ∷ fields ≡ (1 ∷ (to_be_bytes w32 (from_be_bytes w32 (field 0 4 fields)) ++ side ∷ [])) ++ drop 5 fields
up_whole fields bytes long side is =
    ap (λ xs. 1 ∷ xs)
    (part 0 4 fields
    ∙ ap (λ xs. field 0 4 fields ++ xs) (drop-cons fields 4 0 (omega arith))
    ∙ ap (λ n. field 0 4 fields ++ n ∷ drop 5 fields) is
    ∙ ap (λ xs. xs ++ side ∷ drop 5 fields) (sym (field_4 0 fields bytes (omega arith)))
    ∙ sym (append_assoc (to_be_bytes w32 (from_be_bytes w32 (field 0 4 fields))) (side ∷ []) (drop 5 fields)))

up_by : (short peer ours : Bool) (fields : List ℕ) (r : Record) (rest : List ℕ) → IsBytes fields
    → nat_lt (length fields) 5 ≡ short → (slice_index fields 4 == 0) ≡ peer → (slice_index fields 4 == 1) ≡ ours →
    (if short then less
    else (if peer then record_and (ChannelUp (from_be_bytes w32 (field 0 4 fields)) PeerOpened) (drop 5 fields)
    else (if ours then record_and (ChannelUp (from_be_bytes w32 (field 0 4 fields)) WeOpened) (drop 5 fields)
    else no_record))) ≡ record_and r rest →
    1 ∷ fields ≡ spelling r ++ rest
up_by true peer ours fields r rest bytes is_short is_peer is_ours is = cc
up_by false true ours fields r rest bytes is_short is_peer is_ours is =
    let which : r ≡ ChannelUp (from_be_bytes w32 (field 0 4 fields)) PeerOpened = cc in
    let behind : rest ≡ drop 5 fields = cc in
    up_whole fields bytes (ltb-false (length fields) 5 is_short) 0 (eqb-true _ _ is_peer)
    ∙ ap (λ q. spelling q ++ drop 5 fields) (sym which) ∙ ap (λ xs. spelling r ++ xs) (sym behind)
up_by false false true fields r rest bytes is_short is_peer is_ours is =
    let which : r ≡ ChannelUp (from_be_bytes w32 (field 0 4 fields)) WeOpened = cc in
    let behind : rest ≡ drop 5 fields = cc in
    up_whole fields bytes (ltb-false (length fields) 5 is_short) 1 (eqb-true _ _ is_ours)
    ∙ ap (λ q. spelling q ++ drop 5 fields) (sym which) ∙ ap (λ xs. spelling r ++ xs) (sym behind)
up_by false false false fields r rest bytes is_short is_peer is_ours is = cc

next_whole : (fields : List ℕ) → IsBytes fields → 16 ≤ length fields →
    8 ∷ fields ≡ (8
    ∷ (to_be_bytes w64 (from_be_bytes w64 (field 0 8 fields)) ++ to_be_bytes w64 (from_be_bytes w64 (field 8 8 fields))))
    ++ drop 16 fields
next_whole fields bytes long =
    ap (λ xs. 8 ∷ xs)
    (part 0 8 fields
    ∙ ap (λ xs. field 0 8 fields ++ xs) (part 8 8 fields)
    ∙ ap (λ xs. xs ++ (field 8 8 fields ++ drop 16 fields)) (sym (field_8 0 fields bytes (omega arith)))
    ∙ ap (λ xs. to_be_bytes w64 (from_be_bytes w64 (field 0 8 fields)) ++ (xs ++ drop 16 fields))
    (sym (field_8 8 fields bytes (omega arith)))
    ∙ sym (append_assoc (to_be_bytes w64 (from_be_bytes w64 (field 0 8 fields)))
    (to_be_bytes w64 (from_be_bytes w64 (field 8 8 fields))) (drop 16 fields)))

next_by : (short : Bool) (fields : List ℕ) (r : Record) (rest : List ℕ) → IsBytes fields → nat_lt (length fields) 16 ≡ short →
    (if short then less
    else record_and (NextCell (record { 0 = from_be_bytes w64 (field 0 8 fields) }) (from_be_bytes w64 (field 8 8 fields)))
    (drop 16 fields)) ≡ record_and r rest →
    8 ∷ fields ≡ spelling r ++ rest
next_by true fields r rest bytes is_short is = cc
next_by false fields r rest bytes is_short is =
    let which : r ≡ NextCell (record { 0 = from_be_bytes w64 (field 0 8 fields) }) (from_be_bytes w64 (field 8 8 fields)) = cc in
    let behind : rest ≡ drop 16 fields = cc in
    next_whole fields bytes (ltb-false (length fields) 16 is_short)
    ∙ ap (λ q. spelling q ++ drop 16 fields) (sym which) ∙ ap (λ xs. spelling r ++ xs) (sym behind)

-- The head of an opening's fields, and what is behind it.
head_whole : (fields : List ℕ) → IsBytes fields → 28 ≤ length fields →
    fields ≡ to_be_bytes w64 (from_be_bytes w64 (field 0 8 (take 28 fields))) ++ (field 8 20 (take 28 fields) ++ drop 28 fields)
head_whole fields bytes long =
    let head : List ℕ = take 28 fields in
    let size : length head ≡ 28 = length-take-le 28 fields long in
    let c : List ℕ = to_be_bytes w64 (from_be_bytes w64 (field 0 8 head)) in
    let cut : head ≡ c ++ field 8 20 head =
    part 0 8 head
    ∙ ap (λ xs. xs ++ drop 8 head) (sym (field_8 0 head (field_bytes 0 28 fields bytes) (omega (arith, size))))
    ∙ ap (λ xs. c ++ xs) (sym (take_all (drop 8 head) 20 (omega (arith, length-drop 8 head, size)))) in
    sym (take-append-drop 28 fields)
    ∙ ap (λ xs. xs ++ drop 28 fields) cut
    ∙ append_assoc c (field 8 20 head) (drop 28 fields)

cell_whole : (cell : List ℕ) (command : CreateCommand) → IsBytes cell → 514 ≤ length cell
    → slice_index cell 4 ≡ command_byte command →
    cell ≡ (to_be_bytes w32 (from_be_bytes w32 (field 0 4 cell)) ++ command_byte command ∷ field 5 509 cell) ++ drop 514 cell
cell_whole cell command bytes long is =
    let i : List ℕ = to_be_bytes w32 (from_be_bytes w32 (field 0 4 cell)) in
    let byte : ℕ = command_byte command in
    part 0 4 cell
    ∙ ap (λ xs. xs ++ drop 4 cell) (sym (field_4 0 cell bytes (omega arith)))
    ∙ ap (λ xs. i ++ xs) (drop-cons cell 4 0 (omega arith))
    ∙ ap (λ n. i ++ n ∷ drop 5 cell) is
    ∙ ap (λ xs. i ++ byte ∷ xs) (part 5 509 cell)
    ∙ sym (append_assoc i (byte ∷ field 5 509 cell) (drop 514 cell))

-- An opening's fields by its key of the padding, its cell and what is behind it.
open_whole : (fields : List ℕ) (pad : Option (List ℕ)) (cell : List ℕ) (command : CreateCommand) → IsBytes fields → IsBytes cell
    → 28 ≤ length fields → drop 28 fields ≡ pad_bytes pad ++ cell → 514 ≤ length cell → slice_index cell 4 ≡ command_byte command
    →
    opening_kind pad ∷ fields ≡ spelling (open_circuit_record (take 28 fields) pad command cell) ++ drop 514 cell
open_whole fields pad cell command bytes cell_bytes head_long behind long is =
    let head : List ℕ = take 28 fields in
    let c : List ℕ = to_be_bytes w64 (from_be_bytes w64 (field 0 8 head)) in
    let y : List ℕ = field 8 20 head in
    let p : List ℕ = pad_bytes pad in
    let x : List ℕ = to_be_bytes w32 (from_be_bytes w32 (field 0 4 cell)) ++ command_byte command ∷ field 5 509 cell in
    let rest : List ℕ = drop 514 cell in
    ap (λ xs. opening_kind pad ∷ xs)
    (head_whole fields bytes head_long
    ∙ ap (λ xs. c ++ (y ++ xs)) (behind ∙ ap (λ xs. p ++ xs) (cell_whole cell command cell_bytes long is)
    ∙ sym (append_assoc p x rest))
    ∙ ap (λ xs. c ++ xs) (sym (append_assoc y (p ++ x) rest))
    ∙ sym (append_assoc c (y ++ (p ++ x)) rest))

-- The byte of a command that was read.
byte_by : (create fast create2 : Bool) (byte : ℕ) (command : CreateCommand) → (byte == 1) ≡ create → (byte == 5) ≡ fast
    → (byte == 10) ≡ create2 →
    (if create then Some Create else (if fast then Some CreateFast else (if create2 then Some Create2 else None))) ≡ Some command
    → byte ≡ command_byte command
byte_by true fast create2 byte command is_create is_fast is_create2 is =
    let which : Create ≡ command = cc in eqb-true _ _ is_create ∙ ap command_byte which
byte_by false true create2 byte command is_create is_fast is_create2 is =
    let which : CreateFast ≡ command = cc in eqb-true _ _ is_fast ∙ ap command_byte which
byte_by false false true byte command is_create is_fast is_create2 is =
    let which : Create2 ≡ command = cc in eqb-true _ _ is_create2 ∙ ap command_byte which
byte_by false false false byte command is_create is_fast is_create2 is = cc

byte_of_command : (byte : ℕ) (command : CreateCommand) → command_of byte ≡ Some command → byte ≡ command_byte command
byte_of_command byte command is = byte_by _ _ _ byte command refl refl refl is

open_with : (cut : Bool) (fields : List ℕ) (pad : Option (List ℕ)) (cell : List ℕ) (command : CreateCommand) (r : Record)
    (rest : List ℕ) → IsBytes fields → IsBytes cell → 28 ≤ length fields → drop 28 fields ≡ pad_bytes pad ++ cell
    → nat_lt (length cell) 514 ≡ cut → slice_index cell 4 ≡ command_byte command →
    (if cut then less else record_and (open_circuit_record (take 28 fields) pad command cell) (drop 514 cell)) ≡ record_and r rest
    →
    opening_kind pad ∷ fields ≡ spelling r ++ rest
open_with true fields pad cell command r rest bytes cell_bytes long split is_cut is_byte is = cc
open_with false fields pad cell command r rest bytes cell_bytes long split is_cut is_byte is =
    let which : r ≡ open_circuit_record (take 28 fields) pad command cell = cc in
    let behind : rest ≡ drop 514 cell = cc in
    open_whole fields pad cell command bytes cell_bytes long split (ltb-false (length cell) 514 is_cut) is_byte
    ∙ ap (λ q. spelling q ++ drop 514 cell) (sym which) ∙ ap (λ xs. spelling r ++ xs) (sym behind)

open_by : (short : Bool) (found : Option CreateCommand) (fields : List ℕ) (pad : Option (List ℕ)) (cell : List ℕ) (r : Record)
    (rest : List ℕ) → IsBytes fields → IsBytes cell → (5 ≤ length cell → 28 ≤ length fields)
    → drop 28 fields ≡ pad_bytes pad ++ cell → nat_lt (length cell) 5 ≡ short → command_of (slice_index cell 4) ≡ found →
    (if short then less else front_with_command (take 28 fields) pad found cell) ≡ record_and r rest →
    opening_kind pad ∷ fields ≡ spelling r ++ rest
open_by true found fields pad cell r rest bytes cell_bytes long split is_short is_found is = cc
open_by false None fields pad cell r rest bytes cell_bytes long split is_short is_found is = cc
open_by false (Some command) fields pad cell r rest bytes cell_bytes long split is_short is_found is =
    open_with _ fields pad cell command r rest bytes cell_bytes (long (ltb-false (length cell) 5 is_short)) split refl
    (byte_of_command _ _ is_found) is

opening_spelled : (fields : List ℕ) (pad : Option (List ℕ)) (n : ℕ) (r : Record) (rest : List ℕ) → IsBytes fields → 28 ≤ n
    → drop 28 fields ≡ pad_bytes pad ++ drop n fields →
    opening_front (take 28 fields) pad (drop n fields) ≡ record_and r rest →
    opening_kind pad ∷ fields ≡ spelling r ++ rest
unfolding opening_front
opening_spelled fields pad n r rest bytes behind split is =
    open_by _ _ fields pad (drop n fields) r rest bytes (drop_bytes n fields bytes)
    (λ (long : 5 ≤ length (drop n fields)). omega (arith, long, length-drop n fields, behind)) split refl refl is

front_by : (up opening taken claim given undone next dials torn padded unbuilt_kind : Bool) (kind : ℕ) (fields : List ℕ)
    (r : Record) (rest : List ℕ) → IsBytes fields →
    (kind == 1) ≡ up → (kind == 3) ≡ opening → (kind == 4) ≡ taken → (kind == 5) ≡ claim → (kind == 6) ≡ given
    → (kind == 7) ≡ undone →
    (kind == 8) ≡ next → (kind == 12) ≡ dials → (kind == 14) ≡ torn → (kind == 15) ≡ padded →
    (if up then channel_up_front fields
    else (if opening then open_circuit_front fields
    else (if taken then take_front fields
    else (if claim then claim_front fields
    else (if given then return_front GiveBack fields
    else (if undone then return_front Abandon fields
    else (if next then next_cell_front fields
    else (if dials then dial_order_front fields
    else (if torn then tear_down_front fields
    else (if padded then padded_circuit_front fields
    else (if unbuilt_kind then unbuilt kind else no_record))))))))))) ≡ record_and r rest →
    kind ∷ fields ≡ spelling r ++ rest
unfolding channel_up_front next_cell_front
front_by true opening taken claim given undone next dials torn padded unbuilt_kind kind fields r rest bytes is_up is_opening
    is_taken is_claim is_given is_undone is_next is_dials is_torn is_padded is =
    ap (λ k. k ∷ fields) (eqb-true kind 1 is_up) ∙ up_by _ _ _ fields r rest bytes refl refl refl is
front_by false true taken claim given undone next dials torn padded unbuilt_kind kind fields r rest bytes is_up is_opening
    is_taken is_claim is_given is_undone is_next is_dials is_torn is_padded is =
    ap (λ k. k ∷ fields) (eqb-true kind 3 is_opening) ∙ opening_spelled fields None 28 r rest bytes (omega arith) refl is
front_by false false true claim given undone next dials torn padded unbuilt_kind kind fields r rest bytes is_up is_opening
    is_taken is_claim is_given is_undone is_next is_dials is_torn is_padded is =
    ap (λ k. k ∷ fields) (eqb-true kind 4 is_taken) ∙ take_spelled fields r rest bytes is
front_by false false false true given undone next dials torn padded unbuilt_kind kind fields r rest bytes is_up is_opening
    is_taken is_claim is_given is_undone is_next is_dials is_torn is_padded is =
    ap (λ k. k ∷ fields) (eqb-true kind 5 is_claim) ∙ claim_spelled fields r rest bytes is
front_by false false false false true undone next dials torn padded unbuilt_kind kind fields r rest bytes is_up is_opening
    is_taken is_claim is_given is_undone is_next is_dials is_torn is_padded is =
    ap (λ k. k ∷ fields) (eqb-true kind 6 is_given) ∙ return_spelled 6 GiveBack fields r rest bytes (λ n. refl) is
front_by false false false false false true next dials torn padded unbuilt_kind kind fields r rest bytes is_up is_opening
    is_taken is_claim is_given is_undone is_next is_dials is_torn is_padded is =
    ap (λ k. k ∷ fields) (eqb-true kind 7 is_undone) ∙ return_spelled 7 Abandon fields r rest bytes (λ n. refl) is
front_by false false false false false false true dials torn padded unbuilt_kind kind fields r rest bytes is_up is_opening
    is_taken is_claim is_given is_undone is_next is_dials is_torn is_padded is =
    ap (λ k. k ∷ fields) (eqb-true kind 8 is_next) ∙ next_by _ fields r rest bytes refl is
front_by false false false false false false false true torn padded unbuilt_kind kind fields r rest bytes is_up is_opening
    is_taken is_claim is_given is_undone is_next is_dials is_torn is_padded is =
    ap (λ k. k ∷ fields) (eqb-true kind 12 is_dials) ∙ dial_order_spelled fields r rest is
front_by false false false false false false false false true padded unbuilt_kind kind fields r rest bytes is_up is_opening
    is_taken is_claim is_given is_undone is_next is_dials is_torn is_padded is =
    ap (λ k. k ∷ fields) (eqb-true kind 14 is_torn) ∙ tear_down_spelled fields r rest bytes is
front_by false false false false false false false false false true unbuilt_kind kind fields r rest bytes is_up is_opening
    is_taken is_claim is_given is_undone is_next is_dials is_torn is_padded is =
    ap (λ k. k ∷ fields) (eqb-true kind 15 is_padded)
    ∙ opening_spelled fields (Some (field 28 16 fields)) 44 r rest bytes (omega arith) (part 28 16 fields) is
front_by false false false false false false false false false false true kind fields r rest bytes is_up is_opening
    is_taken is_claim is_given is_undone is_next is_dials is_torn is_padded is = cc
front_by false false false false false false false false false false false kind fields r rest bytes is_up is_opening
    is_taken is_claim is_given is_undone is_next is_dials is_torn is_padded is = cc

pub read_is_spelled : (bytes : List ℕ) (r : Record) (rest : List ℕ) → IsBytes bytes → front_of bytes ≡ record_and r rest
    → bytes ≡ spelling r ++ rest
unfolding front_of
read_is_spelled [] r rest bytes is = cc
read_is_spelled (kind ∷ fields) r rest bytes is =
    front_by _ _ _ _ _ _ _ _ _ _ _ kind fields r rest (λ i. bytes (suc i)) refl refl refl refl refl refl refl refl refl
    refl is

pub front_is_spelled : {E : Type 0} (r : Result Front E) (bytes : List ℕ) → IsBytes bytes
    → IfOk r (λ front. FrontIs front (front_of bytes)) →
    IfOk r (λ front. (q : Record) (rest : List ℕ) → FrontIs front (record_and q rest) → bytes ≡ spelling q ++ rest)
front_is_spelled (Ok front) bytes fits is = λ q rest read. read_is_spelled bytes q rest fits (sym is ∙ read)
front_is_spelled (Err e) bytes fits is = tt
