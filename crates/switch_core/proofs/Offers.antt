-- The direction that a claim gets, and its note.
use Rattle.std.proofs.Common.{◌≡◌, ℕ, ◌+◌, ◌<◌, ◌≤◌, List, [], ◌∷◌, length, min, is_none, if◌then◌else◌, Option, Some, None, IfSome, option_map, refl, sym, ap, subst, ◌∙◌, add-one, arith}
use Rattle.tr_io.specs.declared.names.ClaimNote.{ClaimNote}
use Rattle.tr_io.specs.declared.names.Dir.{Dir}
use Rattle.tr_io.specs.declared.names.Dir.TheVariants.{Forth, Back}
use Rattle.switch_model.specs.Limits.{claim_limit}
use Rattle.switch_model.specs.Names.{Way, circ_no}
use Rattle.switch_machine.specs.Calls.Claim.{Offer, offered, offered_by, first_number, sooner, soonest, soonest_below, way_at, note_at, claim_note, claim_result, claim_result_of}
use Rattle.switch_machine.specs.Machine.{way_of_circuit}
use Rattle.switch_machine.specs.State.{KeptClaim, WaitingCell, WayState, CircuitState, State, slot_at}
use Rattle.switch_machine.proofs.Claim.FirstBody.{IsBest, soonest-best}
use Rattle.switch_core.specs.Claiming.{MayClaim, offer_of}
use Rattle.switch_core.specs.declared.offer.Offering.{Offering}
use Rattle.switch_core.proofs.Leaves.{inside}

-- the search

pub circuit_more : (s : State) (n : ℕ) (x : Option CircuitState) (best mid last : Option Offering) (forth back : Option ℕ)
    → slot_at s.circuits n ≡ x →
    forth ≡ offered_by (way_at x Forth) → back ≡ offered_by (way_at x Back) →
    option_map offer_of mid ≡ sooner (option_map offer_of best) (record { circ = n; dir = Forth }) forth →
    option_map offer_of last ≡ sooner (option_map offer_of mid) (record { circ = n; dir = Back }) back →
    option_map offer_of best ≡ soonest_below s n → option_map offer_of last ≡ soonest_below s (n + 1)
circuit_more s n x best mid last forth back live forth_is back_is mid_is last_is best_is =
    rw (add-one n, last_is, mid_is, best_is, forth_is, back_is, live) refl

live-offer : (x : Option CircuitState) (dir : Dir) (n : ℕ) → offered_by (way_at x dir) ≡ Some n
    → (y : CircuitState) × (x ≡ Some y)
live-offer None dir n offers = absurd cc
live-offer (Some y) dir n offers = (y, refl)

abbrev Inside : State → Option Offering → Type 0
Inside s o = IfSome o (λ offer. offer.circ < length s.circuits)

inside-by : (s : State) (o : Option Offering)
    → IsBest (offered s) (λ (v : Way). v.circ < length s.circuits) (option_map offer_of o) → Inside s o
inside-by s None best = tt
inside-by s (Some o) best = let live = live-offer (slot_at s.circuits o.circ) o.dir o.number best.has in
    inside s.circuits o.circ live.0 live.1

-- it ends with a circuit of the list
pub offer_inside : (s : State) (o : Option Offering) → option_map offer_of o ≡ soonest s
    → IfSome o (λ offer. offer.circ < length s.circuits)
offer_inside s o is =
    inside-by s o
    (subst (IsBest (offered s) (λ (v : Way). v.circ < length s.circuits)) (sym is) (soonest-best s (length s.circuits)))

pub none_claimed : (name : ℕ) (s : State) (worker : ℕ) → None ≡ soonest s → None ≡ claim_result name s worker
none_claimed name s worker is = ap (claim_result_of name s worker) is

pub one_claimed : (name : ℕ) (s : State) (worker : ℕ) (offer : Offering) (x : Option CircuitState) (note : Option ClaimNote)
    → Some (offer_of offer) ≡ soonest s → slot_at s.circuits offer.circ ≡ x →
    note ≡ note_at name s worker (offer_of offer).way (way_at x offer.dir) → note ≡ claim_result name s worker
one_claimed name s worker offer x note is live noted =
    noted
    ∙ ap (λ y. note_at name s worker (offer_of offer).way (way_at y offer.dir)) (sym live)
    ∙ ap (claim_result_of name s worker) is

pub noted_as : (name : ℕ) (s : State) (worker : ℕ) (offer : Offering) (x : Option CircuitState) (circuit : CircuitState)
    (w : WayState) (claims first count : ℕ) → x ≡ Some circuit → w ≡ way_of_circuit circuit offer.dir →
    claims ≡ s.claims → first ≡ w.claimed_count → count ≡ min claim_limit (length w.waiting_bodies) →
    ◌≡◌ {A = Option ClaimNote}
    (Some (record {
      switch = name;
      claim = claims;
      worker = worker;
      circ = circ_no offer.circ;
      dir = offer.dir;
      first = first;
      count = count;
    }))
    (note_at name s worker (offer_of offer).way (way_at x offer.dir))
noted_as name s worker offer x circuit w claims first count live way claims_is first_is count_is =
    rw (live, claims_is, first_is, count_is, way) refl

-- the note of a claim

record ReadyWay (claim_out : Option KeptClaim) (waiting_bodies : List WaitingCell) : Type 0 where
  none_out : claim_out ≡ None
  some : 1 ≤ length waiting_bodies

ready-by : (claim_out : Option KeptClaim) (waiting_bodies : List WaitingCell) (n : ℕ)
    → (if is_none claim_out then first_number waiting_bodies else None) ≡ Some n → ReadyWay claim_out waiting_bodies
ready-by None [] n offers = absurd cc
ready-by None (w ∷ waiting_bodies) n offers = record { none_out = refl; some = omega arith }
ready-by (Some k) waiting_bodies n offers = absurd cc

noted : (name : ℕ) (s : State) (worker : ℕ) (x : Option CircuitState) (way : Way) (n : ℕ) (note : ClaimNote)
    → slot_at s.circuits way.circ ≡ x → offered_by (way_at x way.dir) ≡ Some n →
    note_at name s worker way (way_at x way.dir) ≡ Some note → MayClaim (slot_at s.circuits note.circ.0) note
noted name s worker None way n note live offers is = absurd cc
noted name s worker (Some x) way n note live offers is =
    let ready : ReadyWay (way_of_circuit x way.dir).claim_out (way_of_circuit x way.dir).waiting_bodies =
    ready-by (way_of_circuit x way.dir).claim_out (way_of_circuit x way.dir).waiting_bodies n offers in
    let same : claim_note name s worker way (way_of_circuit x way.dir) ≡ note = cc in
    subst (λ (m : ClaimNote). MayClaim (slot_at s.circuits m.circ.0) m) same
    (record {
      circuit = x;
      live = live;
      none_out = ready.none_out;
      first = refl;
      some = omega (arith, ready.some);
      most = omega arith;
      enough = omega arith;
    })

by-offer : (name : ℕ) (s : State) (worker : ℕ) (o : Option Offer) (note : ClaimNote)
    → IsBest (offered s) (λ (v : Way). v.circ < length s.circuits) o → claim_result_of name s worker o ≡ Some note →
    MayClaim (slot_at s.circuits note.circ.0) note
by-offer name s worker None note best is = absurd cc
by-offer name s worker (Some offer) note best is =
    noted name s worker (slot_at s.circuits offer.way.circ) offer.way offer.number note refl best.has is

-- the claim that a worker would make may be made
pub may_claim : (name : ℕ) (s : State) (worker : ℕ) (note : ClaimNote) → Some note ≡ claim_result name s worker
    → MayClaim (slot_at s.circuits note.circ.0) note
may_claim name s worker note is = by-offer name s worker (soonest s) note (soonest-best s (length s.circuits)) (sym is)
