-- Kind 0c: what is read as it spells it.
use Rattle.std.proofs.Common.{◌≡◌, ℕ, List, ◌∷◌, ◌++◌, sym, ap, ◌∙◌}
use Rattle.tape.specs.declared.record.Record.{Record}
use Rattle.tape.specs.declared.record.Record.TheVariants.{DialOrder}
use Rattle.tape.specs.Fronts.{record_and}
use Rattle.tape.specs.Kinds.DialOrder.{dial_order_front}
use Rattle.tape.specs.Spelling.{spelling}

pub dial_order_spelled : (fields : List ℕ) (r : Record) (rest : List ℕ) → dial_order_front fields ≡ record_and r rest →
    12 ∷ fields ≡ spelling r ++ rest
dial_order_spelled fields r rest is =
    let which : r ≡ DialOrder = cc in
    let behind : rest ≡ fields = cc in
    ap (λ q. spelling q ++ fields) (sym which) ∙ ap (λ xs. spelling r ++ xs) (sym behind)
