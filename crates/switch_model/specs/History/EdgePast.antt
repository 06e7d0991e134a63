-- What a history says of a circuit's orders, dials and body numbers.
use Rattle.std.specs.Prelude.{ℕ, List, [], ◌∷◌, ◌++◌, length, Bool, if◌then◌else◌}
use Rattle.std.specs.List.{filter}
use Rattle.circuit_model.specs.Log.{Order}
use Rattle.circuit_model.specs.Rules.{Rules}
use Rattle.tr_io.specs.declared.names.Dir.{Dir}
use Rattle.tr_io.specs.declared.step.Step.{Step}
use Rattle.switch_model.specs.Names.{Way, same_way}
use Rattle.switch_model.specs.Waiting.Queues.{circuit_log}
use Rattle.switch_model.specs.Waiting.Claims.{born_bodies}
use Rattle.switch_model.specs.Waiting.Orders.{waiting_orders, left_orders}
use Rattle.switch_model.specs.Waiting.Dials.{Dial, dials_made, is_from, was_handed_out}

pub record EdgePast : Type 0 where
  -- by the serial of a place: the orders that wait while the circuit is live, and those that are left
  -- once it is torn down
  pub waiting_order_lists : ℕ → List Order
  pub left : ℕ → List Order
  -- the dial orders that the circuit made, and which numbers were handed out
  pub dials : List Dial
  pub handed_out : ℕ → Bool
  -- the body numbers of each direction, oldest first
  pub numbers : Dir → List ℕ

-- The numbers of a direction's bodies among some bodies that are listed newest first.
abbrev pub numbers_of : Way → List Way → List ℕ
numbers_of way [] = []
numbers_of way (other ∷ older) =
    if same_way other way then numbers_of way older ++ length older ∷ [] else numbers_of way older

-- The same of circuit c.
abbrev pub edge_past : Rules → List Step → ℕ → EdgePast
edge_past rules h c = record {
  waiting_order_lists = λ serial. waiting_orders h c serial (circuit_log rules h c);
  left = λ serial. left_orders h c serial (circuit_log rules h c);
  dials = filter (is_from c) (dials_made rules h);
  handed_out = λ order. was_handed_out h order;
  numbers = λ dir. numbers_of (record { circ = c; dir = dir }) (born_bodies rules h);
}
