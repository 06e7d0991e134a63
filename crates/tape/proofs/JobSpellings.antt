-- Kinds 05 to 07: what spells them is read as them, and what is read as them spells it.
use Rattle.std.proofs.Common.{◌≡◌, ℕ, ◌<◌, ◌≤◌, ◌^◌, if◌then◌else◌, nat_lt, List, ◌∷◌, ◌++◌, length, drop, Bool, true, false, refl, sym, ap, ◌∙◌, arith, length-append}
use Rattle.std.proofs.lemmas.Bool.{le-ltb, lt-ltb, ltb-false}
use Rattle.std.proofs.lemmas.Nat.{from_be_bytes-to_be_bytes_4, from_be_bytes-to_be_bytes_8}
use Rattle.std.specs.Int.{w32, w64, from_be_bytes, to_be_bytes}
use Rattle.tor_spec.specs.CellStream.{IsBytes}
use Rattle.switch_model.specs.Limits.{worker_limit}
use Rattle.tape.specs.declared.record.Record.{Record}
use Rattle.tape.specs.declared.record.Record.TheVariants.{Claim}
use Rattle.tape.specs.Fronts.{record_and, less, no_record, field}
use Rattle.tape.specs.Kinds.Claim.{claim_front}
use Rattle.tape.specs.Kinds.Return.{return_spelling, return_front}
use Rattle.tape.specs.Spelling.{spelling}
use Rattle.tape.proofs.Fields.{four, eight, field_4, field_8, part}

-- claim

pub claim_read : (worker : ℕ) (rest : List ℕ) → worker < worker_limit →
    claim_front (to_be_bytes w32 worker ++ rest) ≡ record_and (Claim worker) rest
unfolding claim_front
claim_read worker rest below =
    let c : List ℕ = to_be_bytes w32 worker in
    let long : 4 ≤ length (c ++ rest) = omega (arith, length-append c rest, four worker) in
    rw (le-ltb (length (c ++ rest)) 4 long)
    (ap (λ n. if nat_lt n worker_limit then record_and (Claim n) rest else no_record)
    (from_be_bytes-to_be_bytes_4 worker (omega (arith, below)))
    ∙ ap (λ (b : Bool). if b then record_and (Claim worker) rest else no_record) (lt-ltb worker worker_limit below))

claim_by : (short below : Bool) (fields : List ℕ) (r : Record) (rest : List ℕ) → IsBytes fields →
    nat_lt (length fields) 4 ≡ short →
    (if short then less else
    (if below then record_and (Claim (from_be_bytes w32 (field 0 4 fields))) (drop 4 fields) else no_record))
    ≡ record_and r rest → 5 ∷ fields ≡ spelling r ++ rest
claim_by true below fields r rest bytes is_short is = cc
claim_by false false fields r rest bytes is_short is = cc
claim_by false true fields r rest bytes is_short is =
    let which : r ≡ Claim (from_be_bytes w32 (field 0 4 fields)) = cc in
    let behind : rest ≡ drop 4 fields = cc in
    let long : 4 ≤ length fields = ltb-false (length fields) 4 is_short in
    ap (λ xs. 5 ∷ xs) (part 0 4 fields ∙ ap (λ xs. xs ++ drop 4 fields) (sym (field_4 0 fields bytes (omega arith))))
    ∙ ap (λ q. spelling q ++ drop 4 fields) (sym which) ∙ ap (λ xs. spelling r ++ xs) (sym behind)

pub claim_spelled : (fields : List ℕ) (r : Record) (rest : List ℕ) → IsBytes fields →
    claim_front fields ≡ record_and r rest → 5 ∷ fields ≡ spelling r ++ rest
unfolding claim_front
claim_spelled fields r rest bytes is = claim_by _ _ fields r rest bytes refl is

-- give_back and abandon

pub return_read : (of : ℕ → Record) (claim : ℕ) (rest : List ℕ) → claim < 2 ^ 64 →
    return_front of (to_be_bytes w64 claim ++ rest) ≡ record_and (of claim) rest
unfolding return_front
return_read of claim rest small =
    let c : List ℕ = to_be_bytes w64 claim in
    let long : 8 ≤ length (c ++ rest) = omega (arith, length-append c rest, eight claim) in
    rw (le-ltb (length (c ++ rest)) 8 long)
    (ap (λ n. record_and (of n) rest) (from_be_bytes-to_be_bytes_8 claim small))

return_by : (short : Bool) (kind : ℕ) (of : ℕ → Record) (fields : List ℕ) (r : Record) (rest : List ℕ) →
    IsBytes fields → ((n : ℕ) → spelling (of n) ≡ return_spelling kind n) → nat_lt (length fields) 8 ≡ short →
    (if short then less else record_and (of (from_be_bytes w64 (field 0 8 fields))) (drop 8 fields))
    ≡ record_and r rest → kind ∷ fields ≡ spelling r ++ rest
return_by true kind of fields r rest bytes spells is_short is = cc
return_by false kind of fields r rest bytes spells is_short is =
    let n : ℕ = from_be_bytes w64 (field 0 8 fields) in
    let which : r ≡ of n = cc in
    let behind : rest ≡ drop 8 fields = cc in
    let long : 8 ≤ length fields = ltb-false (length fields) 8 is_short in
    ap (λ xs. kind ∷ xs) (part 0 8 fields ∙ ap (λ xs. xs ++ drop 8 fields) (sym (field_8 0 fields bytes (omega arith))))
    ∙ ap (λ xs. xs ++ drop 8 fields) (sym (spells n))
    ∙ ap (λ q. spelling q ++ drop 8 fields) (sym which) ∙ ap (λ xs. spelling r ++ xs) (sym behind)

pub return_spelled : (kind : ℕ) (of : ℕ → Record) (fields : List ℕ) (r : Record) (rest : List ℕ) → IsBytes fields →
    ((n : ℕ) → spelling (of n) ≡ return_spelling kind n) → return_front of fields ≡ record_and r rest →
    kind ∷ fields ≡ spelling r ++ rest
unfolding return_front
return_spelled kind of fields r rest bytes spells is = return_by _ kind of fields r rest bytes spells refl is
