-- How many bodies a step adds to each direction, and that none takes any from it.
use Rattle.std.proofs.Common.{◌≡◌, ℕ, ◌+◌, ◌-◌, ◌≤◌, ◌==◌, ◌&&◌, Bool, true, false, if◌then◌else◌, is_some, List, [], ◌∷◌, ◌++◌, length, Option, Some, None, refl, arith}
use Rattle.std.proofs.lemmas.List.{length-append}
use Rattle.circuit_model.specs.Effects.{open_effects}
use Rattle.circuit_model.specs.Extending.{creating, accepted_request}
use Rattle.tor_spec.specs.Extend.{Extend}
use Rattle.kdf_tor.specs.declared.LayerKeys.{LayerKeys}
use Rattle.circuit_model.specs.Events.{CircuitCell, Event}
use Rattle.circuit_model.specs.declared.event.Event.TheVariants.{Born, Backward, Answered, Linked, Failed, Freed, Drained as DrainedEvent}
use Rattle.circuit_model.specs.Log.{Effects, no_effects, pushed, is_closed, newest}
use Rattle.circuit_model.specs.Packaged.{back_bodies}
use Rattle.circuit_model.specs.Rules.{Rules}
use Rattle.circuit_model.specs.Words.{log, effects, closes}
use Rattle.tr_io.specs.declared.answers.DialAnswer.{DialAnswer}
use Rattle.tr_io.specs.declared.answers.EdgeAnswer.TheVariants.{Packed, Counted}
use Rattle.tr_io.specs.declared.answers.OpenAnswer.TheVariants.{Opened}
use Rattle.tr_io.specs.declared.answers.TakeAnswer.{TakeAnswer}
use Rattle.tr_io.specs.declared.step.OrderStep.{OrderStep}
use Rattle.tr_io.specs.declared.step.Step.{Step}
use Rattle.tr_io.specs.declared.step.Step.TheVariants.{OpenCircuit, Take, GiveBack, EdgeIn, EdgeOut, Drained, DialDone}
use Rattle.switch_model.specs.Names.{Leg, is_leg, circuit_cell}
use Rattle.switch_model.specs.History.Legs.{at}
use Rattle.switch_model.specs.History.Taken.{is_hop, is_hop_leg, taken_forth, claimed_cells}
use Rattle.switch_model.specs.History.Circuit.{is_live_circuit, events, with_event, taken_from_hop, is_awaited, edge_event}
use Rattle.circuit_model.specs.Batches.{forward_of}
use Rattle.switch_model.specs.History.Returns.{Closing, Goes, Closes, Full, closing_at, settled, settled_with}
use Rattle.switch_model.specs.Waiting.Claims.{bodies, circuit_at, circuit_served}

-- how many bodies went back behind some events
abbrev pub back_count : Rules → List Event → ℕ
back_count rules ev = length (back_bodies (log rules ev))

pushed-up : (xs : List (List ℕ)) (o : Option (List ℕ)) → length xs ≤ length (pushed xs o)
pushed-up xs None = omega arith
pushed-up xs (Some x) = let more = length-append xs (x ∷ []) in omega (arith, more)

back-up : (rules : Rules) (e : Event) (ev : List Event) → back_count rules ev ≤ back_count rules (e ∷ ev)
back-up rules e ev = pushed-up (back_bodies (log rules ev)) (effects rules ev e).back

closed-none : (closed : Bool) (x : Effects) → x.back ≡ None → (if closed then no_effects else x).back ≡ None
closed-none true x none = refl
closed-none false x none = none

back-same : (rules : Rules) (e : Event) (ev : List Event) → (effects rules ev e).back ≡ None
    → back_count rules (e ∷ ev) ≡ back_count rules ev
back-same rules e ev none = rw none refl

-- events of the circuit itself add bodies at most; where no event is of it, none are added
abbrev pub Grown : Bool → ℕ → ℕ → Type 0
Grown true before after = before ≤ after
Grown false before after = after ≡ before

grown-same : (b : Bool) (before after : ℕ) → after ≡ before → Grown b before after
grown-same true before after same = omega (arith, same)
grown-same false before after same = same

grown-if : (rules : Rules) (b : Bool) (x ev : List Event) → back_count rules ev ≤ back_count rules x
    → Grown b (back_count rules ev) (back_count rules (if b then x else ev))
grown-if rules true x ev up = up
grown-if rules false x ev up = refl

grown-and : (rules : Rules) (a b : Bool) (x ev : List Event) → back_count rules ev ≤ back_count rules x
    → Grown a (back_count rules ev) (back_count rules (if a && b then x else ev))
grown-and rules true true x ev up = up
grown-and rules true false x ev up = omega arith
grown-and rules false b x ev up = refl

grown-with : (rules : Rules) (b : Bool) (e : Event) (ev : List Event)
    → Grown b (back_count rules ev) (back_count rules (with_event b e ev))
grown-with rules true e ev = back-up rules e ev
grown-with rules false e ev = refl

up-with : (rules : Rules) (b : Bool) (e : Event) (ev : List Event) → back_count rules ev ≤ back_count rules (with_event b e ev)
up-with rules true e ev = back-up rules e ev
up-with rules false e ev = omega arith

same-with : (rules : Rules) (b : Bool) (e : Event) (ev : List Event) → (effects rules ev e).back ≡ None
    → back_count rules (with_event b e ev) ≡ back_count rules ev
same-with rules true e ev none = back-same rules e ev none
same-with rules false e ev none = refl

same-if : (rules : Rules) (b : Bool) (x ev : List Event) → back_count rules x ≡ back_count rules ev
    → back_count rules (if b then x else ev) ≡ back_count rules ev
same-if rules true x ev same = same
same-if rules false x ev same = refl

up-closing : (rules : Rules) (closing : Closing) (n : ℕ) (e : Event) (ev more : List Event) → n ≤ back_count rules (e ∷ ev)
    → n ≤ back_count rules ev → n ≤ back_count rules more → n ≤ back_count rules (settled_with closing e ev more)
up-closing rules Goes n e ev more one none all = all
up-closing rules (Closes reason) n e ev more one none all = one
up-closing rules Full n e ev more one none all = none

up-settled : (rules : Rules) (left : ℕ) (n : ℕ) (ev : List Event) (cells : List CircuitCell) → n ≤ back_count rules ev
    → n ≤ back_count rules (settled rules left ev cells)
up-settled rules left n ev [] up = up
up-settled rules left n ev (cell ∷ cells) up =
    let one : n ≤ back_count rules (forward_of cell ∷ ev) = let more = back-up rules (forward_of cell) ev in
    omega (arith, up, more) in
    up-closing rules (closing_at rules left ev cell) n (forward_of cell) ev _ one up
    (up-settled rules left n (forward_of cell ∷ ev) cells one)

up-either : (rules : Rules) (b : Bool) (e d : Event) (ev : List Event)
    → back_count rules ev ≤ back_count rules (if b then e ∷ ev else d ∷ ev)
up-either rules true e d ev = back-up rules e ev
up-either rules false e d ev = back-up rules d ev

up-taken : (rules : Rules) (cell : CircuitCell) (answer : TakeAnswer) (ev : List Event)
    → back_count rules ev ≤ back_count rules (taken_from_hop rules cell answer ev)
up-taken rules cell TakeAnswer.Queued ev = up-either rules (cell.command == 3) (Backward cell.body) (Answered cell.body) ev
up-taken rules cell (TakeAnswer.Down circ reason) ev =
    up-with rules (is_awaited (log rules ev) cell && is_some (closes rules ev (Answered cell.body))) (Answered cell.body) ev
up-taken rules cell answer ev = omega arith

-- whether a step serves circuit c
abbrev pub serves : ℕ → Option ℕ → Bool
serves c (Some n) = n == c
serves c None = false

at-leg : (rules : Rules) (c : ℕ) (x : Option Leg) (y ev : List Event) → back_count rules ev ≤ back_count rules y
    → Grown (serves c (circuit_at x)) (back_count rules ev) (back_count rules (if is_hop_leg c x then y else ev))
at-leg rules c None y ev up = refl
at-leg rules c (Some leg) y ev up = grown-and rules (leg.circ == c) (is_hop leg.number) y ev up

linked-none : (request : Option Extend) → (creating request).back ≡ None
linked-none None = refl
linked-none (Some request) = refl

creating-none : (rules : Rules) (ev : List Event) → (effects rules ev Linked).back ≡ None
unfolding open_effects
creating-none rules ev = closed-none (is_closed (log rules ev)) _ (linked-none (newest accepted_request (log rules ev)))

born-none : (rules : Rules) (ev : List Event) (reply : CircuitCell) (keys : LayerKeys) (pad : Option (List ℕ))
    → (effects rules ev (Born reply keys pad)).back ≡ None
unfolding open_effects
born-none rules ev reply keys pad = closed-none (is_closed (log rules ev)) _ refl

freed-none : (rules : Rules) (ev : List Event) (serial : ℕ) → (effects rules ev (Freed serial)).back ≡ None
unfolding open_effects
freed-none rules ev serial = closed-none (is_closed (log rules ev)) _ refl

failed-none : (rules : Rules) (ev : List Event) → (effects rules ev Failed).back ≡ None
unfolding open_effects
failed-none rules ev = closed-none (is_closed (log rules ev)) _ refl

pub back-grown : (rules : Rules) (h : List Step) (s : Step) (c : ℕ)
    → Grown (serves c (circuit_served h s)) (back_count rules (events rules h c)) (back_count rules (events rules (s ∷ h) c))
back-grown rules h (OpenCircuit chan id reply (Some keys) pad (Opened n)) c =
    same-if rules (n.0 == c) (Born (circuit_cell reply) keys pad ∷ events rules h c) (events rules h c)
    (back-same rules (Born (circuit_cell reply) keys pad) (events rules h c)
    (born-none rules (events rules h c) (circuit_cell reply) keys pad))
back-grown rules h (OpenCircuit chan id reply None pad (Opened n)) c =
    same-if rules (n.0 == c) (events rules h c) (events rules h c) refl
back-grown rules h (Take chan cell answer) c =
    at-leg rules c (at h chan.0 cell.circ) (taken_from_hop rules (circuit_cell cell) answer (events rules h c)) (events rules h c)
    (up-taken rules (circuit_cell cell) answer (events rules h c))
back-grown rules h (GiveBack note place answer) c =
    grown-and rules (note.circ.0 == c) _ _ (events rules h c)
    (up-settled rules _ _ (events rules h c) (claimed_cells h note) (omega arith))
back-grown rules h (EdgeIn key event Packed) c =
    grown-with rules (key.circ.0 == c) (edge_event key.serial event) (events rules h c)
back-grown rules h (Drained key Packed) c = grown-with rules (key.circ.0 == c) (DrainedEvent key.serial) (events rules h c)
back-grown rules h (Drained key Counted) c = grown-with rules (key.circ.0 == c) (DrainedEvent key.serial) (events rules h c)
back-grown rules h (EdgeOut slot (Some (OrderStep.Close key reason))) c =
    same-with rules ((key.circ.0 == c) && is_live_circuit rules h c) (Freed key.serial) (events rules h c)
    (freed-none rules (events rules h c) key.serial)
back-grown rules h (DialDone order outcome (DialAnswer.Up n)) c =
    same-with rules (order.circ.0 == c) Linked (events rules h c) (creating-none rules (events rules h c))
back-grown rules h (DialDone order outcome (DialAnswer.Closed reason)) c =
    same-with rules (order.circ.0 == c) Failed (events rules h c) (failed-none rules (events rules h c))
back-grown rules h (DialDone order outcome (DialAnswer.Full n)) c =
    same-with rules (order.circ.0 == c) Failed (events rules h c) (failed-none rules (events rules h c))
back-grown rules h s c = grown-same (serves c (circuit_served h s)) _ _ refl

-- and of what was taken forth
forth-and : (a b : Bool) (xs : List CircuitCell) (cell : CircuitCell)
    → Grown a (length xs) (length (if a && b then xs ++ cell ∷ [] else xs))
forth-and true true xs cell = let more = length-append xs (cell ∷ []) in omega (arith, more)
forth-and true false xs cell = omega arith
forth-and false b xs cell = refl

forth-leg : (c : ℕ) (x : Option Leg) (xs : List CircuitCell) (cell : CircuitCell)
    → Grown (serves c (circuit_at x)) (length xs) (length (if is_leg c 0 x then xs ++ cell ∷ [] else xs))
forth-leg c None xs cell = refl
forth-leg c (Some leg) xs cell = forth-and (leg.circ == c) (leg.number == 0) xs cell

pub forth-grown : (h : List Step) (s : Step) (c : ℕ)
    → Grown (serves c (circuit_served h s)) (length (taken_forth h c)) (length (taken_forth (s ∷ h) c))
forth-grown h (Take chan cell TakeAnswer.Queued) c = forth-leg c (at h chan.0 cell.circ) (taken_forth h c) (circuit_cell cell)
forth-grown h s c = grown-same (serves c (circuit_served h s)) _ _ refl
