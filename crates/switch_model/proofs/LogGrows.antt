-- A step adds events to a circuit's history at its end alone, and what the one-thread relay sends on a leg only
-- grows with them.
use Rattle.std.proofs.Common.{◌≡◌, ℕ, ◌+◌, ◌≤◌, ◌==◌, ◌&&◌, Bool, true, false, if◌then◌else◌, is_some, List, [], ◌∷◌, ◌++◌, length, take, Some, None, refl, sym, ◌∙◌, ap, subst, arith, zero, suc}
use Rattle.std.specs.List.{AllByRecursion}
use Rattle.std.proofs.lemmas.Bool.Decides.{nat_tests}
use Rattle.circuit_model.specs.Events.{CircuitCell, Event}
use Rattle.circuit_model.specs.declared.event.Event.TheVariants.{Born, Backward, Answered, Linked, Failed, Freed, Drained as DrainedEvent}
use Rattle.circuit_model.specs.Log.{Log}
use Rattle.circuit_model.specs.Opened.{keys_in}
use Rattle.circuit_model.specs.Rules.{Rules}
use Rattle.circuit_model.specs.Sent.{leg_cells, sent_to_hop}
use Rattle.circuit_model.specs.Words.{log, closes}
use Rattle.circuit_model.proofs.Legs.{client_leg_grows, hop_leg_grows}
use Rattle.tr_io.specs.declared.answers.BackAnswer.{BackAnswer}
use Rattle.tr_io.specs.declared.answers.DialAnswer.{DialAnswer}
use Rattle.tr_io.specs.declared.answers.EdgeAnswer.TheVariants.{Packed, Counted}
use Rattle.tr_io.specs.declared.answers.OpenAnswer.TheVariants.{Opened}
use Rattle.tr_io.specs.declared.answers.TakeAnswer.{TakeAnswer}
use Rattle.tr_io.specs.declared.names.Dir.TheVariants.{Back}
use Rattle.tr_io.specs.declared.step.EventStep.{EventStep}
use Rattle.tr_io.specs.declared.step.OrderStep.{OrderStep}
use Rattle.tr_io.specs.declared.step.Step.{Step}
use Rattle.tr_io.specs.declared.step.Step.TheVariants.{OpenCircuit, Take, GiveBack, EdgeIn, EdgeOut, Drained, DialDone}
use Rattle.switch_model.specs.Names.{same_way, way_of, circuit_cell}
use Rattle.switch_model.specs.History.Legs.{at}
use Rattle.switch_model.specs.History.Taken.{is_hop_leg, claimed_cells}
use Rattle.switch_model.specs.History.Circuit.{is_live_circuit, sent, events, opens, with_event, taken_from_hop, is_awaited, edge_event, returns_forth}
use Rattle.switch_model.specs.Waiting.Queues.{circuit_log, sealed_count, sendable}
use Rattle.circuit_model.specs.Batches.{forward_of}
use Rattle.switch_model.specs.History.Returns.{Closing, Goes, Closes, Full, closing_at, settled, settled_with}
use Rattle.switch_model.proofs.Common.{Begins, same-list, none-begins, both-begin}

-- the events before a step and after it: an opening alone adds Born
pub record Longer (opened : Bool) (before after : List Event) : Type 0 where
  pub new : List Event
  pub unborn : opened ≡ false → AllByRecursion (λ e. keys_in e ≡ None) new
  pub all : new ++ before ≡ after

longer-none : (m : Bool) (ev : List Event) → Longer m ev ev
longer-none m ev = record { new = []; unborn = λ other. tt; all = refl }

longer-more : (m : Bool) (old ev : List Event) (e : Event) → keys_in e ≡ None → Longer m old ev → Longer m old (e ∷ ev)
longer-more m old ev e none longer = record {
  new = e ∷ longer.new;
  unborn = λ other. (none, longer.unborn other);
  all = ap (λ l. e ∷ l) longer.all;
}

longer-one : (m : Bool) (ev : List Event) (e : Event) → keys_in e ≡ None → Longer m ev (e ∷ ev)
longer-one m ev e none = longer-more m ev ev e none (longer-none m ev)

longer-if : (m b : Bool) (x y ev : List Event) → Longer m ev x → Longer m ev y → Longer m ev (if b then x else y)
longer-if m true x y ev one other = one
longer-if m false x y ev one other = other

longer-with : (m b : Bool) (e : Event) (ev : List Event) → keys_in e ≡ None → Longer m ev (with_event b e ev)
longer-with m true e ev none = longer-one m ev e none
longer-with m false e ev none = longer-none m ev

longer-closing : (m : Bool) (closing : Closing) (e : Event) (old ev more : List Event) → Longer m old (e ∷ ev) → Longer m old ev
    → Longer m old more → Longer m old (settled_with closing e ev more)
longer-closing m Goes e old ev more one none all = all
longer-closing m (Closes reason) e old ev more one none all = one
longer-closing m Full e old ev more one none all = none

longer-settled : (rules : Rules) (m : Bool) (left : ℕ) (old ev : List Event) (cells : List CircuitCell) → Longer m old ev
    → Longer m old (settled rules left ev cells)
longer-settled rules m left old ev [] longer = longer
longer-settled rules m left old ev (cell ∷ cells) longer =
    let one : Longer m old (forward_of cell ∷ ev) = longer-more m old ev (forward_of cell) refl longer in
    longer-closing m (closing_at rules left ev cell) (forward_of cell) old ev _ one longer
    (longer-settled rules m left old (forward_of cell ∷ ev) cells one)

longer-taken : (rules : Rules) (m : Bool) (cell : CircuitCell) (answer : TakeAnswer) (ev : List Event)
    → Longer m ev (taken_from_hop rules cell answer ev)
longer-taken rules m cell TakeAnswer.Queued ev =
    longer-if m (cell.command == 3) (Backward cell.body ∷ ev) (Answered cell.body ∷ ev) ev
    (longer-one m ev (Backward cell.body) refl) (longer-one m ev (Answered cell.body) refl)
longer-taken rules m cell (TakeAnswer.Down circ reason) ev =
    longer-with m (is_awaited (log rules ev) cell && is_some (closes rules ev (Answered cell.body))) (Answered cell.body) ev refl
longer-taken rules m cell answer ev = longer-none m ev

longer-born : (b : Bool) (e : Event) (ev : List Event) → Longer b ev (if b then e ∷ ev else ev)
longer-born true e ev = record { new = e ∷ []; unborn = λ other. absurd cc; all = refl }
longer-born false e ev = longer-none false ev

edge-unborn : (serial : ℕ) (event : EventStep) → keys_in (edge_event serial event) ≡ None
edge-unborn serial EventStep.Connected = refl
edge-unborn serial (EventStep.Data octets) = refl
edge-unborn serial (EventStep.Ended reason) = refl

pub events-longer : (rules : Rules) (h : List Step) (s : Step) (c : ℕ)
    → Longer (opens c s) (events rules h c) (events rules (s ∷ h) c)
events-longer rules h (OpenCircuit chan id reply (Some keys) pad (Opened n)) c =
    longer-born (n.0 == c) (Born (circuit_cell reply) keys pad) (events rules h c)
events-longer rules h (OpenCircuit chan id reply None pad (Opened n)) c =
    longer-if (n.0 == c) (n.0 == c) (events rules h c) (events rules h c) (events rules h c)
    (longer-none (n.0 == c) (events rules h c)) (longer-none (n.0 == c) (events rules h c))
events-longer rules h (Take chan cell answer) c =
    longer-if false (is_hop_leg c (at h chan.0 cell.circ)) (taken_from_hop rules (circuit_cell cell) answer (events rules h c))
    (events rules h c) (events rules h c)
    (longer-taken rules false (circuit_cell cell) answer (events rules h c)) (longer-none false (events rules h c))
events-longer rules h (GiveBack note place answer) c =
    longer-if false (returns_forth c note answer)
    (settled rules (length (sent rules h c 0)) (events rules h c) (claimed_cells h note)) (events rules h c)
    (events rules h c)
    (longer-settled rules false (length (sent rules h c 0)) (events rules h c) (events rules h c) (claimed_cells h note)
    (longer-none false (events rules h c))) (longer-none false (events rules h c))
events-longer rules h (EdgeIn key event Packed) c =
    longer-with false (key.circ.0 == c) (edge_event key.serial event) (events rules h c) (edge-unborn key.serial event)
events-longer rules h (Drained key Packed) c =
    longer-with false (key.circ.0 == c) (DrainedEvent key.serial) (events rules h c) refl
events-longer rules h (Drained key Counted) c =
    longer-with false (key.circ.0 == c) (DrainedEvent key.serial) (events rules h c) refl
events-longer rules h (EdgeOut slot (Some (OrderStep.Close key reason))) c =
    longer-with false ((key.circ.0 == c) && is_live_circuit rules h c) (Freed key.serial) (events rules h c) refl
events-longer rules h (DialDone order outcome (DialAnswer.Up n)) c =
    longer-with false (order.circ.0 == c) Linked (events rules h c) refl
events-longer rules h (DialDone order outcome (DialAnswer.Closed reason)) c =
    longer-with false (order.circ.0 == c) Failed (events rules h c) refl
events-longer rules h (DialDone order outcome (DialAnswer.Full n)) c =
    longer-with false (order.circ.0 == c) Failed (events rules h c) refl
events-longer rules h s c = longer-none (opens c s) (events rules h c)

-- what is sent on a leg
pub hop-one : (l : Log) (k : ℕ) → leg_cells l (suc k) ≡ sent_to_hop l (suc k)
hop-one l k = let positive : (suc k == 0) ≡ false = grind (arith, nat_tests) in rw positive refl

one-more : (rules : Rules) (ev : List Event) (e : Event) → keys_in e ≡ None → (k : ℕ)
    → Begins (leg_cells (log rules ev) k) (leg_cells (log rules (e ∷ ev)) k)
one-more rules ev e none zero = record { rest = _; all = sym (client_leg_grows rules ev e none) }
one-more rules ev e none (suc k) =
    let grows = hop_leg_grows rules ev e (suc k) in
    record {
      rest = grows.0;
      all =
          ap (λ l. l ++ grows.0) (hop-one (log rules ev) k) ∙ sym grows.1 ∙ sym (hop-one (log rules (e ∷ ev)) k);
    }

one-over : (rules : Rules) (new ev : List Event) → AllByRecursion (λ e. keys_in e ≡ None) new → (k : ℕ)
    → Begins (leg_cells (log rules ev) k) (leg_cells (log rules (new ++ ev)) k)
one-over rules [] ev none k = same-list (leg_cells (log rules ev) k)
one-over rules (e ∷ new) ev none k = both-begin _ _ _ (one-over rules new ev none.1 k) (one-more rules (new ++ ev) e none.0 k)

pub one-grows : (rules : Rules) (h : List Step) (s : Step) (c k : ℕ) → opens c s ≡ false
    → Begins (leg_cells (circuit_log rules h c) k) (leg_cells (circuit_log rules (s ∷ h) c) k)
one-grows rules h s c k other =
    let longer = events-longer rules h s c in
    subst (λ ev. Begins (leg_cells (circuit_log rules h c) k) (leg_cells (log rules ev) k)) longer.all
    (one-over rules longer.new (events rules h c) (longer.unborn other) k)

-- and as far as it may leave
sealed-up : (b : Bool) (n count : ℕ) → n ≤ (if b then n + count else n)
sealed-up true n count = omega arith
sealed-up false n count = omega arith

sealed-grows : (h : List Step) (s : Step) (c : ℕ) → sealed_count h c ≤ sealed_count (s ∷ h) c
sealed-grows h (GiveBack note place BackAnswer.Settled) c =
    sealed-up (same_way (way_of note) (record { circ = c; dir = Back })) (sealed_count h c) note.count
sealed-grows h s c = omega arith

first-begins : {A : Type 0} (x : A) (xs ys : List A) → Begins xs ys → Begins (x ∷ xs) (x ∷ ys)
first-begins x xs ys begins = record { rest = begins.rest; all = ap (λ l. x ∷ l) begins.all }

take-begins : {A : Type 0} (n m : ℕ) (xs rest : List A) → n ≤ m → Begins (take n xs) (take m (xs ++ rest))
take-begins zero m xs rest below = none-begins [] _ refl
take-begins (suc n) zero xs rest below = absurd (omega (arith, below))
take-begins (suc n) (suc m) [] rest below = none-begins [] _ refl
take-begins (suc n) (suc m) (x ∷ xs) rest below = first-begins x _ _ (take-begins n m xs rest (omega (arith, below)))

both-take : {A : Type 0} (n m : ℕ) (xs ys : List A) → n ≤ m → Begins xs ys → Begins (take n xs) (take m ys)
both-take n m xs ys below begins = subst (λ l. Begins (take n xs) (take m l)) begins.all (take-begins n m xs begins.rest below)

pub sendable-grows : (rules : Rules) (h : List Step) (s : Step) (c k : ℕ) → opens c s ≡ false →
    Begins (sendable (circuit_log rules h c) (sealed_count h c) k)
    (sendable (circuit_log rules (s ∷ h) c) (sealed_count (s ∷ h) c) k)
sendable-grows rules h s c zero other =
    let more = sealed-grows h s c in
    both-take (1 + sealed_count h c) (1 + sealed_count (s ∷ h) c) _ _ (omega (arith, more)) (one-grows rules h s c 0 other)
sendable-grows rules h s c (suc k) other = one-grows rules h s c (suc k) other
