-- Kind 0e: what spells it is read as it, and what is read as it spells it.
use Rattle.std.proofs.Common.{◌≡◌, ℕ, ◌<◌, ◌≤◌, ◌^◌, if◌then◌else◌, nat_lt, List, [], ◌∷◌, ◌++◌, length, drop, slice_index, Bool, true, false, refl, sym, ap, ◌∙◌, arith, append_assoc, length-append}
use Rattle.std.proofs.lemmas.Bool.{le-ltb, ltb-false}
use Rattle.std.proofs.lemmas.Nat.{from_be_bytes-to_be_bytes_8}
use Rattle.std.proofs.Math.Seq.{drop-cons}
use Rattle.std.specs.Int.{w64, from_be_bytes, to_be_bytes}
use Rattle.tor_spec.specs.CellStream.{IsBytes}
use Rattle.tape.specs.declared.record.Record.{Record}
use Rattle.tape.specs.declared.record.Record.TheVariants.{TearDown}
use Rattle.tape.specs.Fronts.{record_and, less, field}
use Rattle.tape.specs.Kinds.TearDown.{tear_down_front}
use Rattle.tape.specs.Spelling.{spelling}
use Rattle.tape.proofs.Fields.{eight, field_8, part}

pub tear_down_read : (circ reason : ℕ) (rest : List ℕ) → circ < 2 ^ 64
    → tear_down_front (to_be_bytes w64 circ ++ reason ∷ rest) ≡ record_and (TearDown (record { 0 = circ }) reason) rest
unfolding tear_down_front
tear_down_read circ reason rest small =
    let long : 9 ≤ length (to_be_bytes w64 circ ++ reason ∷ rest) =
    omega (arith, length-append (to_be_bytes w64 circ) (reason ∷ rest), eight circ) in
    rw (le-ltb (length (to_be_bytes w64 circ ++ reason ∷ rest)) 9 long)
    (ap (λ n. record_and (TearDown (record { 0 = n }) reason) rest) (from_be_bytes-to_be_bytes_8 circ small))

tear_down_whole : (fields : List ℕ) → IsBytes fields → 9 ≤ length fields →
    14 ∷ fields ≡ (14 ∷ (to_be_bytes w64 (from_be_bytes w64 (field 0 8 fields)) ++ slice_index fields 8 ∷ [])) ++ drop 9 fields
tear_down_whole fields bytes long =
    let c : List ℕ = to_be_bytes w64 (from_be_bytes w64 (field 0 8 fields)) in
    ap (λ xs. 14 ∷ xs)
    (part 0 8 fields
    ∙ ap (λ xs. field 0 8 fields ++ xs) (drop-cons fields 8 0 (omega arith))
    ∙ ap (λ xs. xs ++ slice_index fields 8 ∷ drop 9 fields) (sym (field_8 0 fields bytes (omega arith)))
    ∙ sym (append_assoc c (slice_index fields 8 ∷ []) (drop 9 fields)))

tear_down_by : (short : Bool) (fields : List ℕ) (r : Record) (rest : List ℕ) → IsBytes fields → nat_lt (length fields) 9 ≡ short →
    (if short then less else record_and (TearDown (record { 0 = from_be_bytes w64 (field 0 8 fields) }) (slice_index fields 8))
    (drop 9 fields)) ≡ record_and r rest →
    14 ∷ fields ≡ spelling r ++ rest
tear_down_by true fields r rest bytes is_short is = cc
tear_down_by false fields r rest bytes is_short is =
    let which : r ≡ TearDown (record { 0 = from_be_bytes w64 (field 0 8 fields) }) (slice_index fields 8) = cc in
    let behind : rest ≡ drop 9 fields = cc in
    tear_down_whole fields bytes (ltb-false (length fields) 9 is_short)
    ∙ ap (λ q. spelling q ++ drop 9 fields) (sym which) ∙ ap (λ xs. spelling r ++ xs) (sym behind)

pub tear_down_spelled : (fields : List ℕ) (r : Record) (rest : List ℕ) → IsBytes fields
    → tear_down_front fields ≡ record_and r rest → 14 ∷ fields ≡ spelling r ++ rest
unfolding tear_down_front
tear_down_spelled fields r rest bytes is = tear_down_by _ fields r rest bytes refl is
