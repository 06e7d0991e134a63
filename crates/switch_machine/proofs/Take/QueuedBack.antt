-- A cell from the next hop that is queued keeps what a state stands for: RELAY as a body on its way back, CREATED2
-- as the answer that was awaited.
use Rattle.std.proofs.Common.{Bool, List, None, Option, Some, [], ap, arith, false, if◌then◌else◌, length, nat_le, refl, replicate, suc, sym, true, ℕ, ◌++◌, ◌+◌, ◌==◌, ◌∙◌, ◌∷◌, ◌≡◌}
use Rattle.std.proofs.Math.Dec.{eqb-suc-zero}
use Rattle.std.proofs.lemmas.List.{append-nil, length-append}
use Rattle.std.specs.Option.{option_or, unwrap_or}
use Rattle.cell_codec.specs.declared.cell.Cell.{Cell}
use Rattle.circuit_model.specs.Effects.{effects_after, open_effects}
use Rattle.circuit_model.specs.Events.{CircuitCell, Event}
use Rattle.circuit_model.specs.Extending.{extending}
use Rattle.circuit_model.specs.Log.{Effects, Log, closing, is_closed, newest, no_effects, pushed}
use Rattle.circuit_model.specs.NextHop.{has_leg, hop_by, hop_by_effects, leg_count, next_hop}
use Rattle.circuit_model.specs.Opened.{born_keys, born_reply}
use Rattle.circuit_model.specs.Packaged.{back_bodies}
use Rattle.circuit_model.specs.Rules.{Rules}
use Rattle.circuit_model.specs.Words.{entry_after, log}
use Rattle.circuit_model.specs.declared.event.Event.TheVariants.{Answered, Backward}
use Rattle.circuit_model.specs.declared.next_hop.NextHop.{NextHop}
use Rattle.circuit_model.specs.declared.next_hop.NextHop.TheVariants.{Absent, Dialling, There, Waiting}
use Rattle.switch_model.proofs.Common.{and-false, self_eq}
use Rattle.switch_model.specs.History.Circuit.{born, events}
use Rattle.switch_model.specs.History.EdgePast.{EdgePast, edge_past, numbers_of}
use Rattle.switch_model.specs.History.Legs.{at, holds_id}
use Rattle.switch_model.specs.History.Past.{past}
use Rattle.switch_model.specs.History.Relayed.{settled_forth}
use Rattle.switch_model.specs.History.Taken.{taken_back, taken_forth}
use Rattle.switch_model.specs.Names.{Way, chan_no, circuit_cell}
use Rattle.switch_model.specs.Waiting.Claims.{born_bodies}
use Rattle.switch_model.specs.Waiting.Dials.{dials, is_dialling, numbered}
use Rattle.tor_spec.specs.Extend.{Address, handshake_reply}
use Rattle.tor_spec.specs.Reasons.{destroy_protocol}
use Rattle.tr_io.specs.declared.answers.TakeAnswer.TheVariants.{Queued}
use Rattle.tr_io.specs.declared.names.Dir.TheVariants.{Forth}
use Rattle.tr_io.specs.declared.step.Step.{Step}
use Rattle.tr_io.specs.declared.step.Step.TheVariants.{Take}
use Rattle.switch_machine.proofs.GiveBack.Batch.{counted_from}
use Rattle.switch_machine.proofs.GiveBack.Home.{length-repeated, numbers-own}
use Rattle.switch_machine.proofs.GiveBack.Returned.{back_of}
use Rattle.switch_machine.proofs.NewBodies.{all-new, new-many, new-none}
use Rattle.switch_machine.proofs.OtherEdges.{numbers-others}
use Rattle.switch_machine.proofs.Settling.Core.{CoreStands, core-more, numbers_with}
use Rattle.switch_machine.proofs.Settling.Orders.{orders-more}
use Rattle.switch_machine.proofs.Take.Frees.{frees-none, leg-taken}
use Rattle.switch_machine.specs.Calls.Settling.{Settling, bodies_with, dial_with, settle_event, unsettled}
use Rattle.switch_machine.specs.Calls.Take.{hop_event}
use Rattle.switch_machine.specs.Stands.OneCircuit.{CircuitStands, open_dial}
use Rattle.switch_machine.specs.State.{CircuitState, DialState, State, slot_at}

abbrev queueing : ℕ → Cell → Step
queueing chan cell = Take (chan_no chan) cell Queued

-- What its event leaves as it was.
record IsFromHop (rules : Rules) (l : Log) (e : Event) : Type 0 where
  reply : born_reply (entry_after rules l e ∷ l) ≡ born_reply l
  keys : born_keys (entry_after rules l e ∷ l) ≡ born_keys l
  count : leg_count (entry_after rules l e ∷ l) ≡ leg_count l
  forth : settled_forth (entry_after rules l e ∷ l) ≡ settled_forth l
  dial : (effects_after rules l e).dial ≡ None
  cut : (effects_after rules l e).cut ≡ false
  hop : has_leg (next_hop l) ≡ true → is_dialling (next_hop (entry_after rules l e ∷ l)) ≡ false

-- neither dials nor gives the next hop up
record IsStill (fx : Effects) : Type 0 where
  dial : fx.dial ≡ None
  cut : fx.cut ≡ false

still-if : (b : Bool) (one other : Effects) → IsStill one → IsStill other → IsStill (if b then one else other)
still-if true one other is are = is
still-if false one other is are = are

still-extending : (l : Log) (o : Option (List ℕ)) → IsStill (extending l o)
still-extending l None = record { dial = refl; cut = refl }
still-extending l (Some handshake) = still-if (nat_le (length handshake) 496) _ (closing destroy_protocol) (record {
  dial =
      refl;
  cut = refl;
}) (record { dial = refl; cut = refl })

still-answered : (rules : Rules) (l : Log) (payload : List ℕ) → IsStill (effects_after rules l (Answered payload))
unfolding open_effects
still-answered rules l payload = still-if (is_closed l) no_effects _ (record { dial = refl; cut = refl }) (still-extending l
    (handshake_reply payload))

still-body : (rules : Rules) (l : Log) (body : List ℕ) → IsStill (effects_after rules l (Backward body))
unfolding open_effects
still-body rules l body = still-if (is_closed l) no_effects _ (record { dial = refl; cut = refl }) (record {
  dial = refl;
  cut =
      refl;
})

not-dialling : (hop : NextHop) → has_leg hop ≡ true → is_dialling hop ≡ false
not-dialling Waiting has = refl
not-dialling There has = refl
not-dialling Absent has = refl
not-dialling Dialling has = let no : false ≡ true = has in absurd cc

hop-body : (fx : Effects) (o : Option NextHop) → IsStill fx →
    unwrap_or (option_or (hop_by_effects fx) o) Absent ≡ unwrap_or o Absent
hop-body fx o still = rw (still.dial, still.cut) refl

from-hop : (rules : Rules) (l : Log) (body : List ℕ) (b : Bool) → IsFromHop rules l (if b then Backward body else Answered body)
from-hop rules l body true =
    let still = still-body rules l body in
    record {
      reply = refl;
      keys = refl;
      count = refl;
      forth = refl;
      dial = still.dial;
      cut = still.cut;
      hop = λ has. ap is_dialling (hop-body (effects_after rules l (Backward body)) (newest (λ entry.
          hop_by entry.event entry.effects) l) still) ∙ not-dialling (next_hop l) has;
    }
from-hop rules l body false =
    let still = still-answered rules l body in
    record { reply = refl; keys = refl; count = refl; forth = refl; dial = still.dial; cut = still.cut; hop = λ has. refl }

-- what the step says of its circuit

one-event : (b : Bool) (x y : Event) (ev : List Event) → (if b then x ∷ ev else y ∷ ev) ≡ (if b then x else y) ∷ ev
one-event true x y ev = refl
one-event false x y ev = refl

events-queued : (rules : Rules) (h : List Step) (chan c k : ℕ) (cell : Cell) →
    at h chan cell.circ ≡ Some (record { circ = c; number = suc k }) →
    events rules (queueing chan cell ∷ h) c ≡ hop_event (circuit_cell cell) ∷ events rules h c
events-queued rules h chan c k cell here =
    rw (here, self_eq c) (one-event (cell.command == 3) (Backward (circuit_cell cell).body) (Answered (circuit_cell cell).body)
    (events rules h c))

forth-queued : (h : List Step) (chan c k : ℕ) (cell : Cell) → at h chan cell.circ ≡ Some (record { circ = c; number = suc k }) →
    taken_forth (queueing chan cell ∷ h) c ≡ taken_forth h c
forth-queued h chan c k cell here = rw (here, eqb-suc-zero k, and-false (c == c)) refl

past-queued : (rules : Rules) (h : List Step) (chan c k : ℕ) (cell : Cell) →
    at h chan cell.circ ≡ Some (record { circ = c; number = suc k }) →
    past rules (queueing chan cell ∷ h) c ≡ record (past rules h c) {
      events = events rules (queueing chan cell ∷ h) c;
      taken_back = taken_back (queueing chan cell ∷ h) c;
    }
past-queued rules h chan c k cell here =
    ap (λ forth. record (past rules h c) {
      events = events rules (queueing chan cell ∷ h) c;
      taken_back = taken_back
          (queueing chan cell ∷ h) c;
      taken_forth = forth;
    }) (forth-queued h chan c k cell here)

-- its bodies

abbrev many : Option (List ℕ) → ℕ
many None = 0
many (Some body) = 1

length-more : (bodies : List (List ℕ)) (more : Option (List ℕ)) → length (pushed bodies more) ≡ length bodies + many more
length-more bodies None = omega arith
length-more bodies (Some body) = length-append bodies (body ∷ [])

numbers-more : (all : List ℕ) (n : ℕ) (more : Option (List ℕ)) → all ++ counted_from n (many more) ≡ numbers_with all n more
numbers-more all n None = append-nil all
numbers-more all n (Some body) = refl

bodies-more : (n : ℕ) (more : Option (List ℕ)) → bodies_with n more ≡ n + many more
bodies-more n None = omega arith
bodies-more n (Some body) = refl

born-queued : (rules : Rules) (h : List Step) (chan c k : ℕ) (cell : Cell) →
    at h chan cell.circ ≡ Some (record { circ = c; number = suc k }) →
    born_bodies rules (queueing chan cell ∷ h) ≡ replicate (many (effects_after rules (log rules (events rules h c)) (hop_event
    (circuit_cell cell))).back) (back_of c) ++ born_bodies rules h
born-queued rules h chan c k cell here =
    let back = (effects_after rules (log rules (events rules h c)) (hop_event (circuit_cell cell))).back in
    let longer : length (back_bodies (log rules (events rules (queueing chan cell ∷ h) c))) ≡ length (back_bodies (log rules
    (events rules h c))) + many back =
    ap (λ ev. length (back_bodies (log rules ev))) (events-queued rules h chan c k cell here) ∙ length-more (back_bodies (log rules
    (events rules h c))) back in
    let forth : length (taken_forth (queueing chan cell ∷ h) c) ≡ length (taken_forth h c) = ap (λ (l : List CircuitCell).
    length l) (forth-queued h chan c k cell here) in
    rw here (all-new _ _ (born_bodies rules h) (replicate (many back) (back_of c)) (new-many (back_of c) _ _ (many back) longer)
    (new-none (record { circ = c; dir = Forth }) _ _ forth))

-- its circuit
abbrev settled_back : Rules → List Step → State → ℕ → Cell → CircuitState → Settling
settled_back rules h s c cell x = settle_event rules (hop_event (circuit_cell cell)) (unsettled (events rules h c) s x)

dial-same : (m : ℕ) (to : Option Address) (cut : Bool) (dial : Option DialState) → to ≡ None → cut ≡ false →
    dial_with m to cut dial ≡ dial
dial-same m to cut dial none still = rw (none, still) refl

open-none : (l : Log) (e : EdgePast) → is_dialling (next_hop l) ≡ false → open_dial l e ≡ None
open-none l e none = rw none refl

pub circuit-queued : (rules : Rules) (s : State) (h : List Step) (chan c k : ℕ) (cell : Cell) (x : CircuitState) →
    at h chan cell.circ ≡ Some (record { circ = c; number = suc k }) → (cell.command == 4) ≡ false →
    has_leg (next_hop (log rules (events rules h c))) ≡ true → s.bodies ≡ length (born_bodies rules h) →
    CircuitStands rules s.last_closes x c (past rules h c) (λ j. holds_id h c j) (edge_past rules h c) →
    CircuitStands rules s.last_closes (settled_back rules h s c cell x).circuit c (past rules (queueing chan cell ∷ h) c) (λ j.
    holds_id (queueing chan cell ∷ h) c j) (edge_past rules (queueing chan cell ∷ h) c)
circuit-queued rules s h chan c k cell x here other has numbered own =
    let p = past rules h c in
    let l = log rules (events rules h c) in
    let e = hop_event (circuit_cell cell) in
    let fx = effects_after rules l e in
    let z = settled_back rules h s c cell x in
    let step = queueing chan cell in
    let all = numbers_of (back_of c) (born_bodies rules h) in
    let from : IsFromHop rules l e = from-hop rules l (circuit_cell cell).body (cell.command == 3) in
    let born = born-queued rules h chan c k cell here in
    let core : CoreStands z c (entry_after rules l e ∷ l) p (λ j. holds_id h c j) (numbers_with all s.bodies fx.back) =
    core-more (unsettled (events rules h c) s x) c l p (λ j. holds_id h c j) all
    (entry_after rules l e) from.reply from.keys from.count
    (record { born = own.born; sealed = own.sealed; hops = own.hops; linked = own.linked; legs = own.legs; back = own.back }) in
    let back_numbers : numbers_of (back_of c) (born_bodies rules (step ∷ h)) ≡ numbers_with all s.bodies fx.back =
    ap (numbers_of (back_of c)) born ∙ numbers-own (back_of c) (many fx.back) (born_bodies rules h) ∙ ap (λ n. all
    ++ counted_from n (many fx.back)) (sym numbered) ∙ numbers-more all s.bodies fx.back in
    let forth_numbers : numbers_of (record { circ = c; dir = Forth }) (born_bodies rules (step ∷ h)) ≡ numbers_of
    (record { circ = c; dir = Forth }) (born_bodies rules h) =
    ap (numbers_of (record { circ = c; dir = Forth })) born ∙ numbers-others (record { circ = c; dir = Forth }) (back_of c)
    (many fx.back) (born_bodies rules h) (and-false (c == c)) in
    let no_dial : x.dial ≡ None = own.dial ∙ open-none l (edge_past rules h c) (not-dialling (next_hop l) has) in
    let dial_now : z.circuit.dial ≡ None = dial-same s.dial_orders fx.dial fx.cut x.dial from.dial from.cut ∙ no_dial in
    rw (past-queued rules h chan c k cell here, events-queued rules h chan c k cell here) (record {
      live = own.live;
      sent_count = own.sent_count;
      born = core.born;
      sealed = core.sealed;
      linked = core.linked;
      hops = core.hops;
      legs = λ j. leg-taken h chan cell Queued c j (slot_at z.circuit.legs j) _ _ (λ m found.
          frees-none chan cell other m.chan m.id) (core.legs j);
      forth = rw (from.forth, forth_numbers) own.forth;
      back = rw back_numbers core.back;
      orders = orders-more (unsettled (events rules h c) s x) l (entry_after rules l e) own.orders;
      no_left = own.no_left;
      dial = dial_now ∙ sym (open-none (entry_after rules l e ∷ l) (edge_past rules (step ∷ h) c) (from.hop has));
    })

pub dial-queued : (rules : Rules) (h : List Step) (s : State) (c : ℕ) (cell : Cell) (x : CircuitState) →
    (settled_back rules h s c cell x).dials ≡ s.dial_orders
dial-queued rules h s c cell x =
    let from = from-hop rules (log rules (events rules h c)) (circuit_cell cell).body (cell.command == 3) in
    rw from.dial refl

pub bodies-queued : (rules : Rules) (s : State) (h : List Step) (chan c k : ℕ) (cell : Cell) (x : CircuitState) →
    at h chan cell.circ ≡ Some (record { circ = c; number = suc k }) → s.bodies ≡ length (born_bodies rules h) →
    (settled_back rules h s c cell x).bodies ≡ length (born_bodies rules (queueing chan cell ∷ h))
bodies-queued rules s h chan c k cell x here numbered =
    let back = (effects_after rules (log rules (events rules h c)) (hop_event (circuit_cell cell))).back in
    bodies-more s.bodies back ∙ ap (λ n. n + many back) numbered
    ∙ sym (ap (λ (all : List Way). length all) (born-queued rules h chan c k cell here) ∙ length-repeated (back_of c)
    (many back) (born_bodies rules h))
