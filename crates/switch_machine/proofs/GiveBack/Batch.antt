-- Forward bodies that settle one after another, up to the first that closes.
use Rattle.std.proofs.Common.{◌≡◌, ℕ, ◌+◌, ◌≤◌, Bool, false, List, [], ◌∷◌, ◌++◌, length, Option, Some, None, refl, sym, ◌∙◌, ap, subst, arith, zero, suc, append_assoc}
use Rattle.std.proofs.lemmas.List.{append-nil, length-append}
use Rattle.circuit_model.specs.Events.{CircuitCell, Event}
use Rattle.circuit_model.specs.Log.{Log, pushed}
use Rattle.circuit_model.specs.NextHop.{leg_count}
use Rattle.circuit_model.specs.Packaged.{back_bodies}
use Rattle.circuit_model.specs.Sent.{given_forth}
use Rattle.switch_machine.proofs.GrewLegs.{Grew, grew-both, grew-none, hop-grew}
use Rattle.switch_machine.specs.State.{slot_at}
use Rattle.circuit_model.specs.Rules.{Rules}
use Rattle.circuit_model.specs.Words.{entry_after, log}
use Rattle.switch_machine.proofs.Settling.Core.{CoreStands, core-step, numbers_with}
use Rattle.switch_machine.proofs.Settling.Dials.{HasDial, dial-step}
use Rattle.switch_machine.proofs.Settling.Orders.{orders-more}
use Rattle.switch_machine.specs.Calls.GiveBack.{settle_all, settle_one, settle_with}
use Rattle.switch_machine.specs.Calls.Settling.{Settling, bodies_with}
use Rattle.switch_machine.specs.Stands.OneCircuit.{OrdersStand}
use Rattle.switch_model.proofs.Ways.{keeps}
use Rattle.switch_model.specs.History.Past.{Past}
use Rattle.circuit_model.specs.Batches.{forward_of}
use Rattle.switch_model.specs.History.Returns.{Closes, Closing, Full, Goes, closing_at, settled, settled_with}
use Rattle.switch_model.specs.Waiting.Dials.{Dial}

-- what holds before the cells, and behind each cell where it held before it, holds behind those that settle
kind-by : (P : Settling → Type 0) (y one all : Settling) (k : Closing) → P y → P one → P all → P (settle_with k y one all)
kind-by P y one all Goes own first rest = rest
kind-by P y one all (Closes reason) own first rest = first
kind-by P y one all Full own first rest = own

batch-keeps : (P : Settling → Type 0) (rules : Rules) → ((y : Settling) (cell : CircuitCell) → P y → P (settle_one rules cell y))
    → (cells : List CircuitCell) (y : Settling) → P y → P (settle_all rules y cells)
batch-keeps P rules keeps [] y own = own
batch-keeps P rules keeps (cell ∷ cells) y own =
    let first = keeps y cell own in
    kind-by P y (settle_one rules cell y) (settle_all rules (settle_one rules cell y) cells)
    (closing_at rules y.circuit.sent_count y.events cell) own first
    (batch-keeps P rules keeps cells (settle_one rules cell y) first)

abbrev pub HasOrders : Rules → Settling → Type 0
HasOrders rules y = OrdersStand y.circuit.reach_orders y.circuit.carry_orders y.circuit.close_orders (log rules y.events)

pub orders-batch : (rules : Rules) (cells : List CircuitCell) (y : Settling) → HasOrders rules y
    → HasOrders rules (settle_all rules y cells)
orders-batch rules =
    batch-keeps (HasOrders rules) rules
    (λ y cell own. orders-more y (log rules y.events) (entry_after rules (log rules y.events) (forward_of cell)) own)

pub dial-batch : (rules : Rules) (c n k : ℕ) (base : List Dial) (handed : ℕ → Bool) (cells : List CircuitCell) (y : Settling)
    → ((m : ℕ) → n ≤ m → handed m ≡ false) →
    HasDial rules c n k base handed y → HasDial rules c n k base handed (settle_all rules y cells)
dial-batch rules c n k base handed cells y never =
    batch-keeps (HasDial rules c n k base handed) rules
    (λ z cell own. dial-step rules c n k base handed z cell.command cell.body never own) cells y

-- how many cells were sent stays
pub sent_count-settled : (rules : Rules) (cells : List CircuitCell) (y : Settling)
    → (settle_all rules y cells).circuit.sent_count ≡ y.circuit.sent_count
sent_count-settled rules cells y =
    batch-keeps (λ z. z.circuit.sent_count ≡ y.circuit.sent_count) rules (λ z cell own. own) cells y refl

-- so many numbers from n on
abbrev pub counted_from : ℕ → ℕ → List ℕ
counted_from n zero = []
counted_from n (suc k) = n ∷ counted_from (n + 1) k

pub counted-both : (n a b : ℕ) → counted_from n a ++ counted_from (n + a) b ≡ counted_from n (a + b)
counted-both n zero b = let e : n + 0 ≡ n = omega arith in let f : 0 + b ≡ b = omega arith in rw (e, f) refl
counted-both n (suc a) b =
    let e : n + suc a ≡ n + 1 + a = omega arith in
    let f : suc a + b ≡ suc (a + b) = omega arith in
    rw (e, f) (ap (λ l. n ∷ l) (counted-both (n + 1) a b))

-- The circuit went on from y to z, from log l to log m, with so many bodies that go back.
pub record Grown (y z : Settling) (c : ℕ) (l m : Log) (p : Past) (has_id : ℕ → Bool) (all : List ℕ) : Type 0 where
  pub count : ℕ
  pub core : CoreStands z c m p has_id (all ++ counted_from y.bodies count)
  pub bodies : z.bodies ≡ y.bodies + count
  pub behind_is : length (back_bodies m) ≡ length (back_bodies l) + count

grown-none : (y : Settling) (c : ℕ) (l : Log) (p : Past) (has_id : ℕ → Bool) (all : List ℕ) → CoreStands y c l p has_id all
    → Grown y y c l l p has_id all
grown-none y c l p has_id all own =
    record {
      count = 0;
      core = subst (CoreStands y c l p has_id) (sym (append-nil all)) own;
      bodies = omega arith;
      behind_is =
          omega arith;
    }

grown-by : (y z : Settling) (c : ℕ) (l m : Log) (p : Past) (has_id : ℕ → Bool) (all : List ℕ) (body : Option (List ℕ))
    → CoreStands z c m p has_id (numbers_with all y.bodies body) → z.bodies ≡ bodies_with y.bodies body →
    length (back_bodies m) ≡ length (pushed (back_bodies l) body) → Grown y z c l m p has_id all
grown-by y z c l m p has_id all None own bodies more =
    record {
      count = 0;
      core = subst (CoreStands z c m p has_id) (sym (append-nil all)) own;
      bodies =
          omega (arith, bodies);
      behind_is = omega (arith, more);
    }
grown-by y z c l m p has_id all (Some body) own bodies more =
    record { count = 1; core = own; bodies = bodies; behind_is = more ∙ length-append (back_bodies l) (body ∷ []) }

grown-both : (y z u : Settling) (c : ℕ) (l m o : Log) (p : Past) (has_id : ℕ → Bool) (all : List ℕ)
    → (g : Grown y z c l m p has_id all) → Grown z u c m o p has_id (all ++ counted_from y.bodies g.count)
    → Grown y u c l o p has_id all
grown-both y z u c l m o p has_id all g f = record {
  count = g.count + f.count;
  core = subst (CoreStands u c o p has_id) (append_assoc all (counted_from y.bodies g.count) (counted_from z.bodies f.count)
      ∙ ap (λ t. all ++ t) (ap (λ n. counted_from y.bodies g.count ++ counted_from n f.count) g.bodies
      ∙ counted-both y.bodies g.count f.count)) f.core;
  bodies = omega (arith, g.bodies, f.bodies);
  behind_is = omega (arith, g.behind_is, f.behind_is);
}

grown-one : (rules : Rules) (y : Settling) (c : ℕ) (p : Past) (has_id : ℕ → Bool) (all : List ℕ) (cell : CircuitCell)
    → CoreStands y c (log rules y.events) p has_id all →
    Grown y (settle_one rules cell y) c (log rules y.events) (log rules (forward_of cell ∷ y.events)) p has_id all
grown-one rules y c p has_id all cell own =
    let entry = entry_after rules (log rules y.events) (forward_of cell) in
    grown-by y (settle_one rules cell y) c (log rules y.events) (log rules (forward_of cell ∷ y.events)) p has_id all
    entry.effects.back
    (core-step y c (log rules y.events) p has_id all cell.command cell.body entry.message entry.effects own) refl refl

batch-by : (rules : Rules) (y one all : Settling) (c : ℕ) (p : Past) (has_id : ℕ → Bool) (numbers : List ℕ) (event : Event)
    (more : List Event) (k : Closing) →
    Grown y y c (log rules y.events) (log rules y.events) p has_id numbers →
    Grown y one c (log rules y.events) (log rules (event ∷ y.events)) p has_id numbers →
    Grown y all c (log rules y.events) (log rules more) p has_id numbers →
    Grown y (settle_with k y one all) c (log rules y.events) (log rules (settled_with k event y.events more)) p has_id numbers
batch-by rules y one all c p has_id numbers event more Goes none first rest = rest
batch-by rules y one all c p has_id numbers event more (Closes reason) none first rest = first
batch-by rules y one all c p has_id numbers event more Full none first rest = none

pub batch : (rules : Rules) (cells : List CircuitCell) (y : Settling) (c : ℕ) (p : Past) (has_id : ℕ → Bool) (all : List ℕ)
    → CoreStands y c (log rules y.events) p has_id all →
    Grown y (settle_all rules y cells) c (log rules y.events) (log rules (settled rules y.circuit.sent_count y.events cells)) p
    has_id all
batch rules [] y c p has_id all own = grown-none y c (log rules y.events) p has_id all own
batch rules (cell ∷ cells) y c p has_id all own =
    let first = grown-one rules y c p has_id all cell own in
    batch-by rules y (settle_one rules cell y) (settle_all rules (settle_one rules cell y) cells) c p has_id all (forward_of cell)
    (settled rules y.circuit.sent_count (forward_of cell ∷ y.events) cells) (closing_at rules y.circuit.sent_count y.events cell)
    (grown-none y c (log rules y.events) p has_id all own) first
    (grown-both y (settle_one rules cell y) (settle_all rules (settle_one rules cell y) cells) c (log rules y.events)
    (log rules (forward_of cell ∷ y.events))
    (log rules (settled rules y.circuit.sent_count (forward_of cell ∷ y.events) cells)) p has_id all first
    (batch rules cells (settle_one rules cell y) c p has_id (all ++ counted_from y.bodies first.count) first.core))

-- and the events are those that the history tells
relay-by : (y one all : Settling) (k : Closing) (event : Event) (events more : List Event) → y.events ≡ events
    → one.events ≡ event ∷ events → all.events ≡ more →
    (settle_with k y one all).events ≡ settled_with k event events more
relay-by y one all Goes event events more e f g = g
relay-by y one all (Closes reason) event events more e f g = f
relay-by y one all Full event events more e f g = e

pub batch-events : (rules : Rules) (cells : List CircuitCell) (y : Settling)
    → (settle_all rules y cells).events ≡ settled rules y.circuit.sent_count y.events cells
batch-events rules [] y = refl
batch-events rules (cell ∷ cells) y =
    relay-by y (settle_one rules cell y) (settle_all rules (settle_one rules cell y) cells)
    (closing_at rules y.circuit.sent_count y.events cell) (forward_of cell) y.events
    (settled rules y.circuit.sent_count (forward_of cell ∷ y.events) cells) refl refl
    (batch-events rules cells (settle_one rules cell y))

-- cells may wait on its legs
pub legs-batch : (rules : Rules) (cells : List CircuitCell) (y : Settling) (j : ℕ)
    → Grew (slot_at y.circuit.legs j) (slot_at (settle_all rules y cells).circuit.legs j)
legs-batch rules cells y j =
    batch-keeps (λ z. Grew (slot_at y.circuit.legs j) (slot_at z.circuit.legs j)) rules
    (λ z cell own. grew-both (slot_at y.circuit.legs j) (slot_at z.circuit.legs j) _ own
    (hop-grew z.circuit.legs (leg_count (log rules z.events))
    (given_forth (log rules z.events) (entry_after rules (log rules z.events) (forward_of cell))) j)) cells y
    (grew-none (slot_at y.circuit.legs j))
