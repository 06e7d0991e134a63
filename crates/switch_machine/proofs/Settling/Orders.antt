-- One more event: the orders that a circuit makes, kind by kind, while none was handed out.
use Rattle.std.proofs.Common.{◌≡◌, ℕ, ◌==◌, Bool, true, false, if◌then◌else◌, List, [], ◌∷◌, ◌++◌, Option, Some, None, refl, sym, ◌∙◌, ap, append_assoc}
use Rattle.std.proofs.lemmas.List.{append-nil}
use Rattle.std.proofs.lemmas.List.Elements.{filter-append}
use Rattle.std.specs.List.{filter}
use Rattle.circuit_model.specs.Log.{Entry, Log, Order, pushed}
use Rattle.circuit_model.specs.Words.{order_for, orders_of, serial_of}
use Rattle.circuit_model.specs.declared.effects.Order.TheVariants.{Carry, Close, Reach}
use Rattle.switch_machine.specs.Calls.Settling.{Settling, pushed_of, settle_entry}
use Rattle.switch_machine.specs.Stands.OneCircuit.{OrdersStand, is_for}
use Rattle.switch_model.specs.Waiting.Orders.{carry_of, close_of, picked, reach_of}

abbrev IsKind : (Order → List Order) → Type 0
IsKind f = (serial : ℕ) (o : Order) → filter (is_for serial) (f o) ≡ (if serial_of o == serial then f o else [])

if-both : (b : Bool) (xs : List Order) → (if b then xs else xs) ≡ xs
if-both true xs = refl
if-both false xs = refl

reach-kind : IsKind reach_of
reach-kind serial (Reach key to) = refl
reach-kind serial (Carry key bytes) = sym (if-both (key.serial == serial) [])
reach-kind serial (Close key reason) = sym (if-both (key.serial == serial) [])

carry-kind : IsKind carry_of
carry-kind serial (Reach key to) = sym (if-both (key.serial == serial) [])
carry-kind serial (Carry key bytes) = refl
carry-kind serial (Close key reason) = sym (if-both (key.serial == serial) [])

close-kind : IsKind close_of
close-kind serial (Reach key to) = sym (if-both (key.serial == serial) [])
close-kind serial (Carry key bytes) = sym (if-both (key.serial == serial) [])
close-kind serial (Close key reason) = refl

picked-more : (f : Order → List Order) (xs : List Order) (o : Order) → picked f (xs ++ o ∷ []) ≡ picked f xs ++ f o
picked-more f [] o = append-nil (f o)
picked-more f (x ∷ xs) o = ap (λ l. f x ++ l) (picked-more f xs o) ∙ sym (append_assoc (f x) (picked f xs) (f o))

picked-if : (f : Order → List Order) (all : List Order) (o : Order) (b : Bool)
    → picked f all ++ (if b then f o else []) ≡ picked f (pushed all (if b then Some o else None))
picked-if f all o true = sym (picked-more f all o)
picked-if f all o false = append-nil (picked f all)

-- one more order keeps what each place has of a kind
orders-push : (f : Order → List Order) → IsKind f → (serial : ℕ) (xs all : List Order) (o : Option Order)
    → filter (is_for serial) xs ≡ picked f all
    → filter (is_for serial) (pushed_of f xs o) ≡ picked f (pushed all (order_for serial o))
orders-push f kind serial xs all None same = same
orders-push f kind serial xs all (Some o) same =
    filter-append (is_for serial) xs (f o) ∙ ap (λ l. filter (is_for serial) xs ++ l) (kind serial o)
    ∙ ap (λ l. l ++ (if serial_of o == serial then f o else [])) same ∙ picked-if f all o (serial_of o == serial)

orders-step : (f : Order → List Order) → IsKind f → (serial : ℕ) (xs : List Order) (l : Log) (entry : Entry)
    → filter (is_for serial) xs ≡ picked f (orders_of l serial) →
    filter (is_for serial) (pushed_of f xs entry.effects.edge) ≡ picked f (orders_of (entry ∷ l) serial)
orders-step f kind serial xs l entry same = orders-push f kind serial xs (orders_of l serial) entry.effects.edge same

-- all three kinds, behind an event with any effects
pub orders-more : (y : Settling) (l : Log) (entry : Entry)
    → OrdersStand y.circuit.reach_orders y.circuit.carry_orders y.circuit.close_orders l →
    OrdersStand (settle_entry l entry y).circuit.reach_orders (settle_entry l entry y).circuit.carry_orders
    (settle_entry l entry y).circuit.close_orders (entry ∷ l)
orders-more y l entry own = record {
  reach_orders = λ serial. orders-step reach_of reach-kind serial y.circuit.reach_orders l entry (own.reach_orders serial);
  carry_orders = λ serial. orders-step carry_of carry-kind serial y.circuit.carry_orders l entry (own.carry_orders serial);
  close_orders = λ serial. orders-step close_of close-kind serial y.circuit.close_orders l entry (own.close_orders serial);
}
