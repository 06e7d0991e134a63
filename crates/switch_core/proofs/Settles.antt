-- Forward bodies that settle one after another.
use Rattle.std.proofs.Common.{◌≡◌, ℕ, ◌+◌, ◌-◌, ◌&&◌, ◌≤◌, ◌<◌, nat_le, is_some, Bool, true, false, if◌then◌else◌, List, [], ◌∷◌, length, drop, map, get_or, Option, Some, None, refl, sym, ◌∙◌, ap, subst, length-append, add-one, arith, zero, suc}
use Rattle.circuit_model.proofs.Ciphers.{opened_is_read}
use Rattle.circ_relay.specs.CircuitOfLog.{IsCircuit}
use Rattle.circ_relay.specs.OpenedBodies.{IsOpened}
use Rattle.circ_relay.specs.declared.circuit.Circuit.{Circuit as RelayCircuit}
use Rattle.circuit_model.specs.Batches.{events_behind, forward_of, opened_each, next_layer}
use Rattle.circuit_model.specs.Events.{CircuitCell, Event}
use Rattle.circuit_model.specs.Log.{Effects, Log, pushed}
use Rattle.crypto_spec.specs.HopLayer.{opened}
use Rattle.circuit_model.specs.NextHop.{leg_count}
use Rattle.circuit_model.specs.Packaged.{back_bodies}
use Rattle.circuit_model.specs.Rules.{Rules}
use Rattle.circuit_model.specs.Words.{log, effects}
use Rattle.hop_crypto.specs.Ciphers.{opened_from}
use Rattle.relay_cell.specs.declared.head.Opened.{Opened}
use Rattle.switch_model.specs.History.Returns.{Closing, Goes, Full, closing_at, closing_by as closing_of, settling_reason, reason_with}
use Rattle.switch_machine.specs.Calls.GiveBack.{settle_all, settle_one, settle_with}
use Rattle.switch_machine.specs.Calls.Settling.{Settling, back_waits, bodies_with, dials_after}
use Rattle.switch_machine.specs.Calls.Take.{kept_length}
use Rattle.switch_machine.specs.State.{LegState, CircuitState, WayState}
use Rattle.switch_core.specs.Meaning.{circuit_of, home_count}
use Rattle.switch_core.specs.Ordering.{OrdersState, ordered}
use Rattle.switch_core.specs.Settling.{is_packed, closing_by, back_by, orders_by, counts_by, command_at, RelayIs, settling_of}
use Rattle.switch_core.specs.declared.counters.Counters.{Counters}

-- what the code knows of a body's effects is what the definition says of the body

pub home-same : (n : ℕ) (body : Option (List ℕ)) (back : WayState) → home_count (back_waits n body back) ≡ home_count back
home-same n None back = refl
home-same n (Some body) back = refl

held-back : (leg : LegState) (forth back : WayState) (orders : OrdersState) (sent_back : ℕ)
    → length leg.queue ≤ 1 + home_count back → kept_length back.claim_out ≤ back.claimed_count
    → sent_back ≡ back.claimed_count + length back.waiting_bodies →
    1 + sent_back - (circuit_of leg forth back orders).sent_count ≡ length leg.queue
    + (kept_length back.claim_out + length back.waiting_bodies)
held-back leg forth back orders sent_back queued out is = omega (arith, queued, out, is)

abbrev closing_with : Bool → Effects → Closing
closing_with is_full e = if is_full then Full else closing_of e.close

pub closing-is : (rules : Rules) (events : List Event) (relay : RelayCircuit) (leg : LegState) (forth back : WayState)
    (orders : OrdersState) (cell : CircuitCell) → length leg.queue ≤ 1 + home_count back → RelayIs relay rules events back →
    closing_at rules (circuit_of leg forth back orders).sent_count events cell
    ≡ closing_with (is_packed (length leg.queue) back (effects rules events (forward_of cell)))
    (effects rules events (forward_of cell))
closing-is rules events relay leg forth back orders cell queued is =
    ap (λ n. closing_with (is_some (effects rules events (forward_of cell)).back && nat_le 1500 n)
    (effects rules events (forward_of cell)))
    (held-back leg forth back orders (length (back_bodies (log rules events))) queued is.out is.behind_is)

-- the circuit behind a body that goes, or closes
pub one-is : (rules : Rules) (events : List Event) (leg : LegState) (forth back : WayState) (orders : OrdersState) (k : Counters)
    (cell : CircuitCell) → leg_count (log rules events) ≡ 0 →
    settle_one rules cell (settling_of (circuit_of leg forth back orders) k events)
    ≡ settling_of
    (circuit_of leg forth (back_waits k.bodies (effects rules events (forward_of cell)).back back)
    (ordered k.dial_orders (effects rules events (forward_of cell)).edge (effects rules events (forward_of cell)).dial
    (effects rules events (forward_of cell)).cut orders))
    (record k {
      bodies = bodies_with k.bodies (effects rules events (forward_of cell)).back;
      dial_orders =
          dials_after k.dial_orders (effects rules events (forward_of cell)).dial;
    })
    (forward_of cell ∷ events)
one-is rules events leg forth back orders k cell unlinked =
    rw (unlinked, home-same k.bodies (effects rules events (forward_of cell)).back back) refl

-- one after another

-- So many of the cells have settled, and none closed: what settles of the others from here on is what settles of all.
pub record GoesOn (rules : Rules) (events : List Event) (cells : List CircuitCell) (x : CircuitState) (k : Counters) (n : ℕ)
    (relay : RelayCircuit) (leg : LegState) (forth back : WayState) (orders : OrdersState) (next : Counters)
    (opened : List Opened) : Type 0 where
  pub before : List Event
  pub rest : List CircuitCell
  pub left : drop n cells ≡ rest
  pub together : events_behind before rest ≡ events_behind events cells
  pub relay_is : RelayIs relay rules before back
  pub settled : settle_all rules (settling_of x k events) cells
      ≡ settle_all rules (settling_of (circuit_of leg forth back orders) next before) rest
  pub reason : settling_reason rules x.sent_count events cells
      ≡ settling_reason rules (circuit_of leg forth back orders).sent_count before rest
  pub outputs : drop n opened ≡ map opened_from (opened_each rules before rest)

pub none_settled : (rules : Rules) (events : List Event) (cells : List CircuitCell) (k : Counters) (relay : RelayCircuit)
    (leg : LegState) (forth back : WayState) (orders : OrdersState) (opened : List Opened) → RelayIs relay rules events back →
    opened ≡ map opened_from (opened_each rules events cells)
    → GoesOn rules events cells (circuit_of leg forth back orders) k 0 relay leg forth back orders k opened
none_settled rules events cells k relay leg forth back orders opened is outputs = record {
  before = events;
  rest = cells;
  left = refl;
  together = refl;
  relay_is = is;
  settled = refl;
  reason = refl;
  outputs = outputs;
}

-- the next of them
pub record NextCell (rules : Rules) (before : List Event) (cells rest : List CircuitCell) (opened : List Opened) (one : Opened)
    (n : ℕ) : Type 0 where
  pub cell : CircuitCell
  pub later : List CircuitCell
  pub rest_is : rest ≡ cell ∷ later
  pub left : drop (n + 1) cells ≡ later
  pub command : command_at n cells ≡ cell.command
  pub opens : IsOpened one (log rules before) cell.body
  pub outputs : drop (n + 1) opened ≡ map opened_from (opened_each rules (forward_of cell ∷ before) later)

dropped-suc : {A : Type 0} (xs : List A) (n : ℕ) (x : A) (later : List A) → drop n xs ≡ x ∷ later → drop (suc n) xs ≡ later
dropped-suc [] zero x later is = cc
dropped-suc [] (suc n) x later is = cc
dropped-suc (y ∷ xs) zero x later is = cc
dropped-suc (y ∷ xs) (suc n) x later is = dropped-suc xs n x later is

dropped : {A : Type 0} (xs : List A) (n : ℕ) (x : A) (later : List A) → drop n xs ≡ x ∷ later → drop (n + 1) xs ≡ later
dropped xs n x later is = subst (λ m. drop m xs ≡ later) (sym (add-one n)) (dropped-suc xs n x later is)

named : (cells : List CircuitCell) (n : ℕ) (cell : CircuitCell) (later : List CircuitCell) → drop n cells ≡ cell ∷ later
    → command_at n cells ≡ cell.command
named [] zero cell later is = cc
named [] (suc n) cell later is = cc
named (c ∷ cells) zero cell later is = let same : c ≡ cell = cc in ap (λ (x : CircuitCell). x.command) same
named (c ∷ cells) (suc n) cell later is = named cells n cell later is

got-first : {A : Type 0} (xs : List A) (n : ℕ) (d x : A) (later : List A) → drop n xs ≡ x ∷ later → get_or xs n d ≡ x
got-first [] zero d x later is = cc
got-first [] (suc n) d x later is = cc
got-first (y ∷ xs) zero d x later is = cc
got-first (y ∷ xs) (suc n) d x later is = got-first xs n d x later is

past-end : {A : Type 0} (xs : List A) (n : ℕ) → drop n xs ≡ [] → n < length xs → ⊥
past-end [] n none inside = omega (arith, inside)
past-end (x ∷ xs) zero none inside = cc
past-end (x ∷ xs) (suc n) none inside = past-end xs n none (omega (arith, inside))

opens-by : (l : Log) (body : List ℕ) (one : Opened) → one ≡ opened_from (opened (next_layer l) body) → IsOpened one l body
opens-by l body one is =
    let read = is ∙ ap opened_from (opened_is_read l body) in
    record { plain = ap (λ (o : Opened). o.body) read; recognised = ap (λ (o : Opened). o.recognised) read }

next-by : (rules : Rules) (before : List Event) (cells rest : List CircuitCell) (outputs : List Opened) (one d : Opened) (n : ℕ)
    → drop n cells ≡ rest → n < length cells → one ≡ get_or outputs n d →
    drop n outputs ≡ map opened_from (opened_each rules before rest) → NextCell rules before cells rest outputs one n
next-by rules before cells [] outputs one d n left inside at is = absurd (past-end cells n left inside)
next-by rules before cells (cell ∷ later) outputs one d n left inside at is =
    let first : get_or outputs n d ≡ opened_from (opened (next_layer (log rules before)) cell.body) =
    got-first outputs n d _ _ is in
    record {
      cell = cell;
      later = later;
      rest_is = refl;
      left = dropped cells n cell later left;
      command = named cells n cell later left;
      opens = opens-by (log rules before) cell.body one (at ∙ first);
      outputs = dropped outputs n _ _ is;
    }

pub next_cell : (rules : Rules) (events : List Event) (cells : List CircuitCell) (x : CircuitState) (k : Counters) (n : ℕ)
    (relay : RelayCircuit) (leg : LegState) (forth back : WayState) (orders : OrdersState) (next : Counters)
    (outputs : List Opened) (one d : Opened) →
    (g : GoesOn rules events cells x k n relay leg forth back orders next outputs) → n < length cells → one ≡ get_or outputs n d
    → NextCell rules g.before cells g.rest outputs one n
next_cell rules events cells x k n relay leg forth back orders next outputs one d g inside at =
    next-by rules g.before cells g.rest outputs one d n g.left inside at g.outputs

-- what its effects make of the circuit
pub record Applied (queued : ℕ) (e : Effects) (back back' : WayState) (orders orders' : OrdersState) (k k' : Counters)
    (reason : Option ℕ) : Type 0 where
  pub reason_is : reason ≡ closing_by (is_packed queued back e) e
  pub back_is : back' ≡ back_by (is_packed queued back e) k.bodies e back
  pub orders_is : orders' ≡ orders_by (is_packed queued back e) k.dial_orders e orders
  pub counts_is : k' ≡ counts_by (is_packed queued back e) e k

pub goes-by : (b : Bool) (e : Effects) → closing_by b e ≡ None → (b ≡ false) × (closing_with b e ≡ Goes)
goes-by true e is = absurd cc
goes-by false e is = (refl, ap closing_of is)

pub ends-by : (b : Bool) (e : Effects) (reason : ℕ) (later : Option ℕ) → closing_by b e ≡ Some reason
    → Some reason ≡ reason_with (closing_with b e) later
ends-by true e reason later is = sym is
ends-by false e reason later is = rw is refl

pub left-by : (b : Bool) (e : Effects) (reason : ℕ) (y one all : Settling) → closing_by b e ≡ Some reason
    → settle_with (closing_with b e) y one all ≡ (if b then y else one)
left-by true e reason y one all is = refl
left-by false e reason y one all is = rw is refl

more-behind : (bodies : List (List ℕ)) (body : Option (List ℕ)) (number : ℕ) (back : WayState)
    → length bodies ≡ back.claimed_count + length back.waiting_bodies →
    length (pushed bodies body) ≡ (back_waits number body back).claimed_count
    + length (back_waits number body back).waiting_bodies
more-behind bodies None number back is = is
more-behind bodies (Some body) number back is =
    omega (
      arith,
      is,
      length-append bodies (body ∷ []),
      length-append back.waiting_bodies (record { number = number; cell = record { command = 3; body = body } } ∷ []),
    )

same-out : (body : Option (List ℕ)) (number : ℕ) (back : WayState) → kept_length back.claim_out ≤ back.claimed_count
    → kept_length (back_waits number body back).claim_out ≤ (back_waits number body back).claimed_count
same-out None number back out = out
same-out (Some body) number back out = out

-- the relay behind a body that goes
pub relay-goes : (rules : Rules) (before : List Event) (relay relay' : RelayCircuit) (back : WayState) (number : ℕ)
    (cell : CircuitCell) → RelayIs relay rules before back → IsCircuit relay' rules (forward_of cell ∷ before) →
    RelayIs relay' rules (forward_of cell ∷ before) (back_waits number (effects rules before (forward_of cell)).back back)
relay-goes rules before relay relay' back number cell is circuit = record {
  circuit = circuit;
  unlinked = is.unlinked;
  behind_is = more-behind (back_bodies (log rules before)) (effects rules before (forward_of cell)).back number back is.behind_is;
  out = same-out (effects rules before (forward_of cell)).back number back is.out;
}
