use Rattle.circuit_table.proofs.Places.{is_indexed-empty}
use Rattle.circuit_table.proofs.table.CircuitTable.new.Goals as goal

pub invariant_of-result : goal.invariant_of-result
invariant_of-result c = is_indexed-empty _ _ _ c.new-2.ensures.empty c.new-3.ensures.empty
