-- What a claim takes out of a direction that keeps its bodies in one queue.
use Rattle.std.proofs.Common.{◌≡◌, ℕ, ◌+◌, ◌-◌, ◌<◌, ◌≤◌, ◌++◌, true, false, List, [], ◌∷◌, length, get_or, take, is_some, Option, Some, None, IfSome, refl, sym, ap, subst, ◌∙◌, length-drop, add-one, arith, zero, suc}
use Rattle.std.proofs.lemmas.List.{length-take-le, length-map}
use Rattle.tr_io.specs.declared.names.ClaimNote.{ClaimNote}
use Rattle.tr_io.specs.declared.names.Dir.{Dir}
use Rattle.tr_io.specs.declared.names.Dir.TheVariants.{Forth, Back}
use Rattle.switch_machine.specs.Calls.Claim.{offered_by, claimed_way}
use Rattle.switch_machine.specs.Calls.Take.{kept_length}
use Rattle.switch_machine.specs.Machine.{way_of_circuit}
use Rattle.switch_machine.specs.State.{KeptClaim, LegState, WaitingCell, WayState, CircuitState}
use Rattle.switch_core.specs.Claiming.{MayClaim, first_bodies, with_claim}
use Rattle.switch_core.specs.Ordering.{OrdersState, RoomyOrders}
use Rattle.switch_core.specs.Meaning.{way_of, circuit_of, home_count, CircuitFits, WithRoom}
use Rattle.switch_core.proofs.Taken.{taken_count}

-- a direction

pub no_claim : (claimed_count : ℕ) (claim : Option ClaimNote) (bodies : List WaitingCell)
    → (way_of claimed_count claim bodies).claim_out ≡ None → claim ≡ None
no_claim claimed_count None bodies none = refl
no_claim claimed_count (Some note) bodies none = cc

pub all_wait : (claimed_count : ℕ) (claim : Option ClaimNote) (bodies : List WaitingCell)
    → (way_of claimed_count claim bodies).claim_out ≡ None → (way_of claimed_count claim bodies).waiting_bodies ≡ bodies
all_wait claimed_count None bodies none = refl
all_wait claimed_count (Some note) bodies none = cc

pub claimed_as : (claimed_count : ℕ) (claim : Option ClaimNote) (bodies : List WaitingCell)
    → (way_of claimed_count claim bodies).claimed_count ≡ claimed_count
claimed_as claimed_count None bodies = refl
claimed_as claimed_count (Some note) bodies = refl

-- what it offers

pub offer_out : (claimed_count : ℕ) (claim : Option ClaimNote) (bodies : List WaitingCell) → is_some claim ≡ true
    → offered_by (Some (way_of claimed_count claim bodies)) ≡ None
offer_out claimed_count None bodies out = absurd cc
offer_out claimed_count (Some note) bodies out = refl

pub offer_first : (claimed_count : ℕ) (claim : Option ClaimNote) (bodies : List WaitingCell) (first : WaitingCell)
    → is_some claim ≡ false → 0 < length bodies → first ≡ get_or bodies 0 first →
    offered_by (Some (way_of claimed_count claim bodies)) ≡ Some first.number
offer_first claimed_count (Some note) bodies first out some is = absurd cc
offer_first claimed_count None [] first out some is = absurd (omega arith)
offer_first claimed_count None (x ∷ bodies) first out some is = ap (λ (w : WaitingCell). Some w.number) (sym is)

pub empty_by : (n : ℕ) → (0 < n → false ≡ true) → n ≡ 0
empty_by zero none = refl
empty_by (suc n) none = let some : false ≡ true = none (omega arith) in absurd cc

pub offer_empty : (claimed_count : ℕ) (claim : Option ClaimNote) (bodies : List WaitingCell) → length bodies ≡ 0
    → offered_by (Some (way_of claimed_count claim bodies)) ≡ None
offer_empty claimed_count (Some note) bodies none = refl
offer_empty claimed_count None [] none = refl
offer_empty claimed_count None (x ∷ bodies) none = absurd (omega arith)

-- how many bodies are out

pub out_some : (claimed_count : ℕ) (claim : Option ClaimNote) (bodies : List WaitingCell) (note : ClaimNote)
    → IfSome claim (λ n. n.count ≤ length bodies) → claim ≡ Some note
    → kept_length (way_of claimed_count claim bodies).claim_out ≡ note.count
out_some claimed_count None bodies note fits is = absurd cc
out_some claimed_count (Some n) bodies note fits is =
    let same : n ≡ note = cc in
    length-map (take n.count bodies) _ ∙ length-take-le n.count bodies fits ∙ ap (λ (m : ClaimNote). m.count) same

pub out_none : (claimed_count : ℕ) (claim : Option ClaimNote) (bodies : List WaitingCell) → claim ≡ None
    → kept_length (way_of claimed_count claim bodies).claim_out ≡ 0
out_none claimed_count None bodies is = refl
out_none claimed_count (Some n) bodies is = absurd cc

-- one body more of the first
taken-suc : (bodies : List WaitingCell) (n : ℕ) (d : WaitingCell) → n < length bodies
    → first_bodies (suc n) bodies ≡ first_bodies n bodies ++ (get_or bodies n d).cell.body ∷ []
taken-suc [] n d here = absurd (omega arith)
taken-suc (x ∷ bodies) zero d here = refl
taken-suc (x ∷ bodies) (suc n) d here = ap (λ l. x.cell.body ∷ l) (taken-suc bodies n d (omega arith))

pub taken_more : (bodies : List WaitingCell) (n : ℕ) (d : WaitingCell) → n < length bodies
    → first_bodies (n + 1) bodies ≡ first_bodies n bodies ++ (get_or bodies n d).cell.body ∷ []
taken_more bodies n d here = rw (add-one n) (taken-suc bodies n d here)

-- a copy of one more
pub one_copied : (items waiting_bodies : List WaitingCell) (n : ℕ) (d : WaitingCell) (payload : List ℕ) (old new : List (List ℕ))
    → items ≡ waiting_bodies → n < length items → d ≡ get_or items n d → payload ≡ d.cell.body →
    old ≡ first_bodies n waiting_bodies → new ≡ old ++ payload ∷ [] → new ≡ first_bodies (n + 1) waiting_bodies
one_copied items waiting_bodies n d payload old new same below item body old_is new_is =
    new_is
    ∙ ap (λ (l : List (List ℕ)). l ++ payload ∷ []) (old_is ∙ ap (first_bodies n) (sym same))
    ∙ ap (λ (p : List ℕ). first_bodies n items ++ p ∷ []) (body ∙ ap (λ (w : WaitingCell). w.cell.body) item)
    ∙ sym (taken_more items n d below)
    ∙ ap (first_bodies (n + 1)) same

-- the first bodies that wait go out
pub given_out : (note : ClaimNote) (claimed_count : ℕ) (claim : Option ClaimNote) (bodies : List WaitingCell)
    → (way_of claimed_count claim bodies).claim_out ≡ None →
    way_of (claimed_count + note.count) (Some note) bodies ≡ claimed_way note (way_of claimed_count claim bodies)
given_out note claimed_count None bodies none = refl
given_out note claimed_count (Some other) bodies none = absurd cc

-- how many are out then
pub out_length : (note : ClaimNote) (w : WayState) → note.count ≤ length w.waiting_bodies
    → kept_length (claimed_way note w).claim_out ≡ note.count
out_length note w enough = length-map (take note.count w.waiting_bodies) (λ (x : WaitingCell). x.cell)
    ∙ length-take-le note.count w.waiting_bodies enough

pub none_length : (k : Option KeptClaim) → k ≡ None → kept_length k ≡ 0
none_length None none = refl
none_length (Some k) none = cc

-- as many came home as before
pub home_stays : (note : ClaimNote) (w : WayState) → w.claim_out ≡ None → note.count ≤ length w.waiting_bodies
    → home_count (claimed_way note w) ≡ home_count w
home_stays note w none enough = let out = out_length note w enough in let zero_out =
    none_length w.claim_out none in omega (arith, out, zero_out)

-- a circuit with a claim out

pub given_forth : (x : CircuitState) (leg : LegState) (forth forth_now back back_now : WayState) (orders orders_now : OrdersState)
    (note : ClaimNote) → circuit_of leg forth back orders ≡ x → forth_now ≡ claimed_way note forth → back_now ≡ back
    → orders_now ≡ orders →
    circuit_of leg forth_now back_now orders_now ≡ record x { forth = claimed_way note x.forth }
given_forth x leg forth forth_now back back_now orders orders_now note is out same same_orders =
    ap {A = WayState} (λ w. circuit_of leg w back_now orders_now) out
    ∙ ap {A = WayState} (λ w. circuit_of leg (claimed_way note forth) w orders_now) same
    ∙ ap {A = OrdersState} (λ o. circuit_of leg (claimed_way note forth) back o) same_orders
    ∙ ap {A = CircuitState} (λ y. record y { forth = claimed_way note y.forth }) is

sent-as : (leg : LegState) (forth back : WayState) (orders : OrdersState) (note : ClaimNote) (m : ℕ) → m ≡ home_count back →
    ◌≡◌ {A = CircuitState}
    (record (circuit_of leg forth (claimed_way note back) orders) { sent_count = 1 + m - length leg.queue })
    (record (circuit_of leg forth back orders) { back = claimed_way note back })
sent-as leg forth back orders note m same = rw same refl

pub given_back : (x : CircuitState) (leg leg_now : LegState) (forth back back_now : WayState) (orders : OrdersState)
    (note : ClaimNote) → circuit_of leg forth back orders ≡ x → back_now ≡ claimed_way note back → leg_now ≡ leg
    → back.claim_out ≡ None → note.count ≤ length back.waiting_bodies →
    circuit_of leg_now forth back_now orders ≡ record x { back = claimed_way note x.back }
given_back x leg leg_now forth back back_now orders note is out same none enough =
    ap {A = WayState} (λ w. circuit_of leg_now forth w orders) out
    ∙ ap {A = LegState} (λ l. circuit_of l forth (claimed_way note back) orders) same
    ∙ sent-as leg forth back orders note (home_count (claimed_way note back)) (home_stays note back none enough)
    ∙ ap {A = CircuitState} (λ y. record y { back = claimed_way note y.back }) is

-- the room that a claim needs

-- more room, and nothing else
pub fits_more : (leg : WithRoom LegState) (forth back back_now : WithRoom WayState) (orders orders_now : RoomyOrders)
    → CircuitFits leg forth back orders → back_now.state ≡ back.state → back.spare ≤ back_now.spare
    → orders.spare ≤ orders_now.spare → orders.rooms ≤ orders_now.rooms →
    CircuitFits leg forth back_now orders_now
fits_more leg forth back back_now orders orders_now fits same room orders_room rooms =
    let claimed_same : back_now.state.claimed_count ≡ back.state.claimed_count = ap (λ (w : WayState). w.claimed_count) same in
    let waiting_same : length back_now.state.waiting_bodies ≡ length back.state.waiting_bodies =
    ap (λ (w : WayState). length w.waiting_bodies) same in
    let out_same : kept_length back_now.state.claim_out ≡ kept_length back.state.claim_out =
    ap (λ (w : WayState). kept_length w.claim_out) same in
    record {
      queued = omega (arith, fits.queued, claimed_same, out_same);
      packaged = omega (arith, fits.packaged, claimed_same, waiting_same);
      room_sealed = omega (arith, fits.room_sealed, out_same);
      room_packaged = omega (arith, fits.room_packaged, room);
      room_ordered = omega (arith, fits.room_ordered, orders_room);
      rooms = omega (arith, fits.rooms, rooms);
    }

pub fits_forth : (leg : WithRoom LegState) (forth forth_now back back_now : WithRoom WayState) (orders orders_now : RoomyOrders)
    (note : ClaimNote) → CircuitFits leg forth back orders → forth_now.state ≡ claimed_way note forth.state
    → back_now.state ≡ back.state →
    note.count ≤ back_now.spare → note.count ≤ orders_now.spare → note.count ≤ orders_now.rooms → forth.state.claim_out ≡ None
    → note.count ≤ length forth.state.waiting_bodies → CircuitFits leg forth_now back_now orders_now
fits_forth leg forth forth_now back back_now orders orders_now note fits out same room orders_room rooms none enough =
    let out_now : kept_length forth_now.state.claim_out ≡ note.count =
    ap (λ (w : WayState). kept_length w.claim_out) out ∙ out_length note forth.state enough in
    let claimed_now : forth_now.state.claimed_count ≡ forth.state.claimed_count + note.count =
    ap (λ (w : WayState). w.claimed_count) out in
    let none_before : kept_length forth.state.claim_out ≡ 0 = none_length forth.state.claim_out none in
    let claimed_same : back_now.state.claimed_count ≡ back.state.claimed_count = ap (λ (w : WayState). w.claimed_count) same in
    let waiting_same : length back_now.state.waiting_bodies ≡ length back.state.waiting_bodies =
    ap (λ (w : WayState). length w.waiting_bodies) same in
    let out_same : kept_length back_now.state.claim_out ≡ kept_length back.state.claim_out =
    ap (λ (w : WayState). kept_length w.claim_out) same in
    record {
      queued = omega (arith, fits.queued, claimed_same, out_same);
      packaged = omega (arith, fits.packaged, claimed_same, waiting_same, out_now, claimed_now, none_before);
      room_sealed = omega (arith, fits.room_sealed, out_same);
      room_packaged = omega (arith, room, out_now);
      room_ordered = omega (arith, orders_room, out_now);
      rooms = omega (arith, rooms, out_now);
    }

pub fits_back : (leg leg_now : WithRoom LegState) (forth back back_now : WithRoom WayState) (orders : RoomyOrders)
    (note : ClaimNote) → CircuitFits leg forth back orders → back_now.state ≡ claimed_way note back.state
    → back_now.spare ≡ back.spare →
    leg_now.state ≡ leg.state → note.count ≤ leg_now.spare → back.state.claim_out ≡ None
    → note.count ≤ length back.state.waiting_bodies → CircuitFits leg_now forth back_now orders
fits_back leg leg_now forth back back_now orders note fits out spare same room none enough =
    let out_now : kept_length back_now.state.claim_out ≡ note.count =
    ap (λ (w : WayState). kept_length w.claim_out) out ∙ out_length note back.state enough in
    let claimed_now : back_now.state.claimed_count ≡ back.state.claimed_count + note.count =
    ap (λ (w : WayState). w.claimed_count) out in
    let waiting_now : length back_now.state.waiting_bodies ≡ length back.state.waiting_bodies - note.count =
    ap (λ (w : WayState). length w.waiting_bodies) out ∙ length-drop note.count back.state.waiting_bodies in
    let none_before : kept_length back.state.claim_out ≡ 0 = none_length back.state.claim_out none in
    let queue_same : length leg_now.state.queue ≡ length leg.state.queue = ap (λ (l : LegState). length l.queue) same in
    record {
      queued = omega (arith, fits.queued, out_now, claimed_now, none_before, queue_same);
      packaged = omega (arith, fits.packaged, claimed_now, waiting_now, enough);
      room_sealed = omega (arith, room, out_now);
      room_packaged = omega (arith, fits.room_packaged, spare);
      room_ordered = fits.room_ordered;
      rooms = fits.rooms;
    }

-- what may be claimed of a live circuit
pub record ClaimOf (x : CircuitState) (note : ClaimNote) : Type 0 where
  pub none_out : (way_of_circuit x note.dir).claim_out ≡ None
  pub enough : note.count ≤ length (way_of_circuit x note.dir).waiting_bodies

pub claim_of : (slot : Option CircuitState) (x : CircuitState) (note : ClaimNote) → slot ≡ Some x → MayClaim slot note
    → ClaimOf x note
claim_of slot x note live may =
    let there : slot ≡ Some may.circuit = may.live in
    let same : may.circuit ≡ x = cc in
    record {
      none_out = subst (λ (y : CircuitState). (way_of_circuit y note.dir).claim_out ≡ None) same may.none_out;
      enough = subst (λ (y : CircuitState). note.count ≤ length (way_of_circuit y note.dir).waiting_bodies) same may.enough;
    }

-- the claims of its directions leave what was taken on a circuit
taken-by : (note : ClaimNote) (x : CircuitState) (dir : Dir) → note.dir ≡ dir
    → note.count ≤ length (way_of_circuit x note.dir).waiting_bodies → taken_count (with_claim note x) ≡ taken_count x
taken-by note x Forth is enough =
    let few : note.count ≤ length x.forth.waiting_bodies =
    subst (λ d. note.count ≤ length (way_of_circuit x d).waiting_bodies) is enough in
    rw is (omega (arith, few, length-drop note.count x.forth.waiting_bodies))
taken-by note x Back is enough = rw is refl

pub taken_stays : (note : ClaimNote) (x : CircuitState) → note.count ≤ length (way_of_circuit x note.dir).waiting_bodies
    → taken_count (with_claim note x) ≡ taken_count x
taken_stays note x enough = taken-by note x note.dir refl enough
