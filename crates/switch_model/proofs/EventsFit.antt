-- In a legal history no cell that comes home from the client's side is a DESTROY, and CREATED2 is taken from a
-- next hop only while it is awaited.
use Rattle.std.proofs.Common.{◌≡◌, ℕ, ◌==◌, ◌&&◌, ◌||◌, Bool, true, false, not, if◌then◌else◌, is_some, List, [], ◌∷◌, ◌++◌, take, drop, Option, Some, None, refl, subst, arith, zero, suc}
use Rattle.std.specs.List.{AllByRecursion}
use Rattle.std.proofs.lemmas.Bool.Decides.{nat_tests}
use Rattle.cell_codec.specs.declared.cell.Cell.{Cell}
use Rattle.circuit_model.specs.Events.{CircuitCell, Event}
use Rattle.circuit_model.specs.declared.event.Event.TheVariants.{Backward, Answered, Linked, Failed, Freed, Drained as DrainedEvent}
use Rattle.circuit_model.specs.NextHop.{next_hop}
use Rattle.circuit_model.specs.Rules.{Rules}
use Rattle.circuit_model.specs.Words.{log, closes}
use Rattle.tor_spec.specs.CellCommands.{asks_for_circuit, opens_circuit}
use Rattle.tr_io.specs.declared.answers.DialAnswer.{DialAnswer}
use Rattle.tr_io.specs.declared.answers.EdgeAnswer.TheVariants.{Packed, Counted}
use Rattle.tr_io.specs.declared.answers.OpenAnswer.TheVariants.{Opened}
use Rattle.tr_io.specs.declared.answers.TakeAnswer.{TakeAnswer}
use Rattle.tr_io.specs.declared.answers.TakeAnswer.TheVariants.{PassedOver, Queued}
use Rattle.tr_io.specs.declared.answers.Why.{Why}
use Rattle.tr_io.specs.declared.names.CircNo.{CircNo}
use Rattle.tr_io.specs.declared.step.EventStep.{EventStep}
use Rattle.tr_io.specs.declared.step.OrderStep.{OrderStep}
use Rattle.tr_io.specs.declared.step.Step.{Step}
use Rattle.tr_io.specs.declared.step.Step.TheVariants.{OpenCircuit, Take, GiveBack, EdgeIn, EdgeOut, Drained, DialDone}
use Rattle.switch_model.specs.Start.{SwitchStart}
use Rattle.switch_model.specs.Names.{Leg, is_leg, circ_no, circuit_cell}
use Rattle.switch_model.specs.History.Channels.{is_live_channel}
use Rattle.switch_model.specs.History.Legs.{at}
use Rattle.switch_model.specs.History.Taken.{is_hop, is_hop_leg, taken_forth, claimed_cells}
use Rattle.switch_model.specs.History.Circuit.{is_live_circuit, events, with_event, taken_from_hop, is_awaited, is_waiting, edge_event, returns_forth, current_leg}
use Rattle.circuit_model.specs.Batches.{forward_of}
use Rattle.switch_model.specs.History.Returns.{Closing, Goes, Closes, Full, closing_at, settled, settled_with}
use Rattle.switch_model.specs.Waiting.Queues.{circuit_log}
use Rattle.switch_model.specs.Answers.Take.{is_padding, is_link, is_relay, is_destroy, is_relay_early, is_created2, is_for_circuit, from_client, from_hop, is_number, taken_at, take_answer}
use Rattle.switch_model.specs.Legal.{IsLegal}
use Rattle.switch_model.proofs.Common.{and-first, and-second, same-number, all-append}
use Rattle.switch_model.proofs.NoDestroys.{IsNoDestroy, FitsBehind, AllFit}

-- what is known of a cell that was queued
abbrev IsLeft : Bool → TakeAnswer → Type 0
IsLeft b x = (b ≡ false) × (Queued ≡ x)

left-by : (b : Bool) (y x : TakeAnswer) → (Queued ≡ y → ⊥) → Queued ≡ (if b then y else x) → IsLeft b x
left-by true y x never is = absurd (never is)
left-by false y x never is = (refl, is)

passed-no : (why : Why) → Queued ≡ PassedOver why → ⊥
passed-no why is = cc

down-no : (circ : CircNo) (reason : ℕ) → Queued ≡ TakeAnswer.Down circ reason → ⊥
down-no circ reason is = cc

not-false : (b : Bool) → not b ≡ false → b ≡ true
not-false true is = refl
not-false false is = absurd cc

record IsTaken (rules : Rules) (h : List Step) (chan : ℕ) (cell : Cell) : Type 0 where
  pub known : is_for_circuit cell.command ≡ true
  pub given : Queued ≡ taken_at rules h (circuit_cell cell) (at h chan cell.circ)

taken : (rules : Rules) (h : List Step) (chan : ℕ) (cell : Cell) → Queued ≡ take_answer rules h chan cell
    → IsTaken rules h chan cell
taken rules h chan cell is =
    let a = left-by (not (is_live_channel h chan)) _ _ (passed-no Why.NoChannel) is in
    let b = left-by (is_padding cell.command) _ _ (passed-no Why.Padding) a.1 in
    let c = left-by (asks_for_circuit cell.command) _ _ (passed-no Why.Opening) b.1 in
    let d = left-by (is_link cell.command) _ _ (passed-no Why.Link) c.1 in
    let e = left-by (not (is_for_circuit cell.command)) _ _ (passed-no Why.Unknown) d.1 in
    record { known = not-false (is_for_circuit cell.command) e.0; given = e.1 }

-- on leg 0
zero-leg : (n k : ℕ) → n ≡ 0 → (n == 0) ≡ true
zero-leg n k is = rw is refl

client-by : (rules : Rules) (h : List Step) (c : ℕ) (cell : CircuitCell) (x : Option Leg) → is_leg c 0 x ≡ true
    → Queued ≡ taken_at rules h cell x → IsNoDestroy cell
client-by rules h c cell None here is = absurd cc
client-by rules h c cell (Some leg) here is =
    let first : (leg.number == 0) ≡ true = and-second (leg.circ == c) _ here in
    let live = left-by (not (is_live_circuit rules h leg.circ)) _ _ (passed-no Why.NoCircuit) is in
    let own : Queued ≡ from_client rules h leg.circ cell = rw first at live.1 in
    (left-by (is_destroy cell.command) _ _ (down-no (circ_no leg.circ) 11) own).0

-- on a leg towards a next hop
hop-not-first : (n : ℕ) → is_hop n ≡ true → (n == 0) ≡ false
hop-not-first zero is = absurd cc
hop-not-first (suc n) is = grind (arith, nat_tests)

in-by : (b : Bool) (x : TakeAnswer) (why : Why) → Queued ≡ (if b then x else PassedOver why) → Queued ≡ x
in-by true x why is = is
in-by false x why is = absurd cc

awaited-by : (relay destroyed early created awaiting : Bool) (x y : TakeAnswer) (circ : CircNo) (reason : ℕ)
    → (relay || (destroyed || (early || created))) ≡ true → relay ≡ false → destroyed ≡ false → early ≡ false →
    Queued ≡ (if created && awaiting then x else if created || awaiting then TakeAnswer.Down circ reason else y) → awaiting ≡ true
awaited-by relay destroyed early created true x y circ reason known other not_destroyed not_early is = refl
awaited-by true destroyed early created false x y circ reason known other not_destroyed not_early is = absurd cc
awaited-by false true early created false x y circ reason known other not_destroyed not_early is = absurd cc
awaited-by false false true created false x y circ reason known other not_destroyed not_early is = absurd cc
awaited-by false false false true false x y circ reason known other not_destroyed not_early is = absurd cc
awaited-by false false false false false x y circ reason known other not_destroyed not_early is = absurd cc

hop-by : (rules : Rules) (h : List Step) (c : ℕ) (awaiting : Bool) (cell : CircuitCell) → is_for_circuit cell.command ≡ true
    → (cell.command == 3) ≡ false → Queued ≡ from_hop rules h c awaiting cell → awaiting ≡ true
hop-by rules h c awaiting cell known other is =
    let a = left-by (is_destroy cell.command) _ _ (down-no (circ_no c) 11) is in
    let b = left-by (is_relay_early cell.command) _ _ (down-no (circ_no c) 1) a.1 in
    awaited-by (is_relay cell.command) (is_destroy cell.command) (is_relay_early cell.command) (is_created2 cell.command) awaiting
    _ _ (circ_no c) 1 known other a.0 b.0 b.1

hop-waits : (rules : Rules) (h : List Step) (c : ℕ) (cell : CircuitCell) (x : Option Leg) → is_hop_leg c x ≡ true
    → is_for_circuit cell.command ≡ true → (cell.command == 3) ≡ false → Queued ≡ taken_at rules h cell x →
    is_waiting (next_hop (circuit_log rules h c)) ≡ true
hop-waits rules h c cell None here known other is = absurd cc
hop-waits rules h c cell (Some leg) here known other is =
    let same = same-number leg.circ c (and-first (leg.circ == c) _ here) in
    let not_first = hop-not-first leg.number (and-second (leg.circ == c) _ here) in
    let live = left-by (not (is_live_circuit rules h leg.circ)) _ _ (passed-no Why.NoCircuit) is in
    let on_leg : Queued ≡ (if is_number leg.number (current_leg (circuit_log rules h leg.circ))
    then from_hop rules h leg.circ (is_waiting (next_hop (circuit_log rules h leg.circ))) cell
    else PassedOver Why.NoCircuit) = rw not_first at live.1 in
    let own = in-by _ _ Why.NoCircuit on_leg in
    subst (λ n. is_waiting (next_hop (circuit_log rules h n)) ≡ true) same (hop-by rules h leg.circ _ cell known other own)

-- the cells taken on leg 0
forth-if : (b : Bool) (xs : List CircuitCell) (cell : CircuitCell) → (b ≡ true → IsNoDestroy cell) → AllByRecursion IsNoDestroy xs
    → AllByRecursion IsNoDestroy (if b then xs ++ cell ∷ [] else xs)
forth-if true xs cell here all = all-append IsNoDestroy xs (cell ∷ []) all (here refl, tt)
forth-if false xs cell here all = all

forth-none : (start : SwitchStart) (h : List Step) → IsLegal start h → (c : ℕ) → AllByRecursion IsNoDestroy (taken_forth h c)
forth-none start [] legal c = tt
forth-none start (Take chan cell Queued ∷ h) legal c =
    forth-if (is_leg c 0 (at h chan.0 cell.circ)) (taken_forth h c) (circuit_cell cell)
    (λ here. client-by start.rules h c (circuit_cell cell) (at h chan.0 cell.circ) here
    (taken start.rules h chan.0 cell legal.0.1).given) (forth-none start h legal.1 c)
forth-none start (s ∷ h) legal c = forth-none start h legal.1 c

drop-all : (n : ℕ) (xs : List CircuitCell) → AllByRecursion IsNoDestroy xs → AllByRecursion IsNoDestroy (drop n xs)
drop-all zero xs all = all
drop-all (suc n) [] all = tt
drop-all (suc n) (x ∷ xs) all = drop-all n xs all.1

take-all : (n : ℕ) (xs : List CircuitCell) → AllByRecursion IsNoDestroy xs → AllByRecursion IsNoDestroy (take n xs)
take-all zero xs all = tt
take-all (suc n) [] all = tt
take-all (suc n) (x ∷ xs) all = (all.0, take-all n xs all.1)

-- the events of a circuit
fit-if : (rules : Rules) (b : Bool) (x y : List Event) → AllFit rules x → AllFit rules y → AllFit rules (if b then x else y)
fit-if rules true x y one other = one
fit-if rules false x y one other = other

fit-with : (rules : Rules) (b : Bool) (e : Event) (ev : List Event) → (b ≡ true → FitsBehind rules ev e) → AllFit rules ev
    → AllFit rules (with_event b e ev)
fit-with rules true e ev fits all = (fits refl, all)
fit-with rules false e ev fits all = all

fit-closing : (rules : Rules) (closing : Closing) (e : Event) (ev more : List Event) → AllFit rules (e ∷ ev) → AllFit rules ev
    → AllFit rules more → AllFit rules (settled_with closing e ev more)
fit-closing rules Goes e ev more one none all = all
fit-closing rules (Closes reason) e ev more one none all = one
fit-closing rules Full e ev more one none all = none

fit-settled : (rules : Rules) (left : ℕ) (ev : List Event) (cells : List CircuitCell) → AllByRecursion IsNoDestroy cells
    → AllFit rules ev → AllFit rules (settled rules left ev cells)
fit-settled rules left ev [] none all = all
fit-settled rules left ev (cell ∷ cells) none all =
    fit-closing rules (closing_at rules left ev cell) (forward_of cell) ev _ (none.0, all) all
    (fit-settled rules left (forward_of cell ∷ ev) cells none.1 (none.0, all))

fit-queued : (rules : Rules) (hop relay : Bool) (cell : CircuitCell) (ev : List Event)
    → (hop ≡ true → relay ≡ false → is_waiting (next_hop (log rules ev)) ≡ true) → AllFit rules ev →
    AllFit rules (if hop then (if relay then Backward cell.body ∷ ev else Answered cell.body ∷ ev) else ev)
fit-queued rules true true cell ev waits all = (tt, all)
fit-queued rules true false cell ev waits all = (waits refl refl, all)
fit-queued rules false relay cell ev waits all = all

fit-down : (rules : Rules) (cell : CircuitCell) (circ : CircNo) (reason : ℕ) (ev : List Event) → AllFit rules ev
    → AllFit rules (taken_from_hop rules cell (TakeAnswer.Down circ reason) ev)
fit-down rules cell circ reason ev all =
    fit-with rules (is_awaited (log rules ev) cell && is_some (closes rules ev (Answered cell.body))) (Answered cell.body) ev
    (λ is. and-second (is_created2 cell.command) _ (and-first (is_awaited (log rules ev) cell) _ is)) all

edge-fits : (rules : Rules) (ev : List Event) (serial : ℕ) (event : EventStep) → FitsBehind rules ev (edge_event serial event)
edge-fits rules ev serial EventStep.Connected = tt
edge-fits rules ev serial (EventStep.Data octets) = tt
edge-fits rules ev serial (EventStep.Ended reason) = tt

opens-none : (command : ℕ) → opens_circuit command ≡ true → (command == 4) ≡ false
opens-none command opens = grind (arith, nat_tests)

pub events_fit : (start : SwitchStart) (h : List Step) → IsLegal start h → (c : ℕ) → AllFit start.rules (events start.rules h c)
events_fit start [] legal c = tt
events_fit start (OpenCircuit chan id reply (Some keys) pad (Opened n) ∷ h) legal c =
    fit-if start.rules (n.0 == c) _ _ (opens-none reply.command legal.0.0.command, events_fit start h legal.1 c)
    (events_fit start h legal.1 c)
events_fit start (OpenCircuit chan id reply None pad (Opened n) ∷ h) legal c =
    fit-if start.rules (n.0 == c) _ _ (events_fit start h legal.1 c) (events_fit start h legal.1 c)
events_fit start (Take chan cell Queued ∷ h) legal c =
    let own = taken start.rules h chan.0 cell legal.0.1 in
    fit-queued start.rules (is_hop_leg c (at h chan.0 cell.circ)) (cell.command == 3) (circuit_cell cell) (events start.rules h c)
    (λ here other. hop-waits start.rules h c (circuit_cell cell) (at h chan.0 cell.circ) here own.known other own.given)
    (events_fit start h legal.1 c)
events_fit start (Take chan cell (TakeAnswer.Down circ reason) ∷ h) legal c =
    fit-if start.rules (is_hop_leg c (at h chan.0 cell.circ)) _ _
    (fit-down start.rules (circuit_cell cell) circ reason (events start.rules h c) (events_fit start h legal.1 c))
    (events_fit start h legal.1 c)
events_fit start (Take chan cell answer ∷ h) legal c =
    fit-if start.rules (is_hop_leg c (at h chan.0 cell.circ)) _ _ (events_fit start h legal.1 c) (events_fit start h legal.1 c)
events_fit start (GiveBack note place answer ∷ h) legal c =
    fit-if start.rules (returns_forth c note answer) _ _
    (fit-settled start.rules _ (events start.rules h c) (claimed_cells h note)
    (take-all note.count _ (drop-all note.first _ (forth-none start h legal.1 note.circ.0))) (events_fit start h legal.1 c))
    (events_fit start h legal.1 c)
events_fit start (EdgeIn key event Packed ∷ h) legal c =
    fit-with start.rules (key.circ.0 == c) _ _ (λ is. edge-fits start.rules (events start.rules h c) key.serial event)
    (events_fit start h legal.1 c)
events_fit start (Drained key Packed ∷ h) legal c =
    fit-with start.rules (key.circ.0 == c) (DrainedEvent key.serial) _ (λ is. tt) (events_fit start h legal.1 c)
events_fit start (Drained key Counted ∷ h) legal c =
    fit-with start.rules (key.circ.0 == c) (DrainedEvent key.serial) _ (λ is. tt) (events_fit start h legal.1 c)
events_fit start (EdgeOut slot (Some (OrderStep.Close key reason)) ∷ h) legal c =
    fit-with start.rules ((key.circ.0 == c) && is_live_circuit start.rules h c) (Freed key.serial) _ (λ is. tt)
    (events_fit start h legal.1 c)
events_fit start (DialDone order outcome (DialAnswer.Up n) ∷ h) legal c =
    fit-with start.rules (order.circ.0 == c) Linked _ (λ is. tt) (events_fit start h legal.1 c)
events_fit start (DialDone order outcome (DialAnswer.Closed reason) ∷ h) legal c =
    fit-with start.rules (order.circ.0 == c) Failed _ (λ is. tt) (events_fit start h legal.1 c)
events_fit start (DialDone order outcome (DialAnswer.Full n) ∷ h) legal c =
    fit-with start.rules (order.circ.0 == c) Failed _ (λ is. tt) (events_fit start h legal.1 c)
events_fit start (s ∷ h) legal c = events_fit start h legal.1 c
