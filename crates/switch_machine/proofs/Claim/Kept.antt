-- claim keeps what a state stands for.
use Rattle.std.proofs.Common.{◌++◌, ◌+◌, ◌<◌, ◌==◌, ◌∙◌, ◌∷◌, ◌≡◌, ◌≤◌, Bool, List, None, Option, Some, [], ap, append_assoc, arith, drop, false, if◌then◌else◌, is_none, length, map, refl, subst, suc, sym, take, true, zero, ℕ}
use Rattle.std.proofs.lemmas.Grind.{common_steps}
use Rattle.std.proofs.lemmas.List.{append-nil, length-map}
use Rattle.circuit_model.specs.Events.{CircuitCell}
use Rattle.circuit_model.specs.Rules.{Rules}
use Rattle.tr_io.specs.declared.names.ClaimNote.{ClaimNote}
use Rattle.tr_io.specs.declared.names.Dir.{Dir}
use Rattle.tr_io.specs.declared.names.Dir.TheVariants.{Back, Forth}
use Rattle.tr_io.specs.declared.step.Step.{Step}
use Rattle.tr_io.specs.declared.step.Step.TheVariants.{Claim}
use Rattle.switch_model.specs.Answers.EdgeOut.{Ordered}
use Rattle.switch_model.specs.History.EdgePast.{edge_past}
use Rattle.switch_model.specs.History.Legs.{at, holds_id}
use Rattle.switch_model.specs.History.Past.{past}
use Rattle.switch_model.specs.Legal.{IsRightStep}
use Rattle.switch_model.specs.Limits.{worker_limit}
use Rattle.switch_model.specs.Names.{Way, same_dir, same_way, way_of}
use Rattle.switch_model.specs.Start.{SwitchStart}
use Rattle.switch_model.specs.Waiting.Counts.{cell_count, tick}
use Rattle.switch_model.specs.Waiting.Dials.{dials_made, was_handed_out}
use Rattle.switch_model.specs.Waiting.Lanes.{lane}
use Rattle.switch_machine.specs.Calls.Claim.{Offer, claim_note, claim_result, claim_result_of, claim_state, claim_state_by, claimed_way, first_number, note_at, offered, offered_by, soonest, way_at, with_way}
use Rattle.switch_machine.specs.Machine.{counted, dial_in, kept_cells, leg_in, way_of_circuit}
use Rattle.switch_machine.specs.Stands.{Stands}
use Rattle.switch_machine.specs.Stands.OneCircuit.{CircuitStands}
use Rattle.switch_machine.specs.Stands.OneWay.{WayStands, cell_waiting, number_waiting}
use Rattle.switch_machine.specs.State.{CircuitState, KeptClaim, State, WayState, slot_at, with_slot}
use Rattle.switch_model.proofs.Common.{and-false}
use Rattle.switch_model.proofs.Others.{other_pasts}
use Rattle.switch_machine.proofs.Claim.BodyNumbers.{self-way}
use Rattle.switch_machine.proofs.Claim.FirstBody.{IsBest, soonest-best}
use Rattle.switch_machine.proofs.Claim.Said.{claim_said}
use Rattle.switch_machine.proofs.OneCircuit.{circuit-changed, circuit-own}
use Rattle.switch_machine.proofs.OneStep.{step-added}
use Rattle.switch_machine.proofs.SameLegs.{legs-kept, all-dials-kept, counts-same, dials-same, ids-same, legs-same}
use Rattle.switch_machine.proofs.Slots.{length-with}
use Rattle.switch_machine.proofs.StepAlone.{step-alone}

map-cut : {A B : Type 0} (f : A → B) (k : ℕ) (xs : List A) → map f (take k xs) ++ map f (drop k xs) ≡ map f xs
map-cut f zero xs = refl
map-cut f (suc k) [] = refl
map-cut f (suc k) (x ∷ xs) = ap (λ l. f x ∷ l) (map-cut f k xs)

length-taken : {A : Type 0} (k : ℕ) (xs : List A) → k ≤ length xs → length (take k xs) ≡ k
length-taken zero xs le = refl
length-taken (suc k) [] le = absurd (omega arith)
length-taken (suc k) (x ∷ xs) le = ap suc (length-taken k xs (omega arith))

none-kept : (k : Option KeptClaim) → is_none k ≡ true → kept_cells k ≡ []
none-kept None e = refl
none-kept (Some k) e = absurd cc

moved : {A : Type 0} (a b c d e : List A) → b ++ c ≡ d → (a ++ []) ++ d ≡ e → (a ++ b) ++ c ≡ e
moved a b c d e f g = append_assoc a b c ∙ ap (λ l. a ++ l) f ∙ ap (λ l. l ++ d) (sym (append-nil a)) ∙ g

-- the first bodies of a direction go out
way-claimed : (c : ℕ) (d : Dir) (w : WayState) (settled given : List CircuitCell) (count : ℕ) (known : Option ClaimNote)
    (all : List ℕ) (n : ClaimNote) → WayStands c d w settled given count known all →
    is_none w.claim_out ≡ true → n.circ.0 ≡ c → n.dir ≡ d → n.first ≡ w.claimed_count → n.count ≤ length w.waiting_bodies
    → WayStands c d (claimed_way n w) settled given (count + n.count) (Some n) all
way-claimed c d w settled given count known all n own home circ dir first few =
    let none = none-kept w.claim_out home in
    let zero_out : length (kept_cells w.claim_out) ≡ 0 = rw none refl in
    let taken : length (map cell_waiting (take n.count w.waiting_bodies)) ≡ n.count =
    length-map (take n.count w.waiting_bodies) cell_waiting ∙ length-taken n.count w.waiting_bodies few in
    let numbers_taken : length (map number_waiting (take n.count w.waiting_bodies)) ≡ n.count =
    length-map (take n.count w.waiting_bodies) number_waiting ∙ length-taken n.count w.waiting_bodies few in
    record {
      claimed_count = omega (arith, own.claimed_count);
      out = omega (arith, own.out, taken, zero_out);
      claim_out = refl;
      noted = record { circ = circ; dir_is = dir; first = omega (arith, first, own.out, zero_out); count = sym taken };
      cells = moved settled (map cell_waiting (take n.count w.waiting_bodies)) (map cell_waiting (drop n.count w.waiting_bodies))
          (map cell_waiting w.waiting_bodies) given (map-cut cell_waiting n.count w.waiting_bodies)
          (subst (λ l. settled ++ l ++ map cell_waiting w.waiting_bodies ≡ given) none own.cells);
      claimed_numbers = own.claimed_numbers ++ map number_waiting (take n.count w.waiting_bodies);
      claimed_all = grind (arith, common_steps, numbers_taken, own.claimed_all);
      numbers = append_assoc own.claimed_numbers _ _
          ∙ ap (λ l. own.claimed_numbers ++ l) (map-cut number_waiting n.count w.waiting_bodies) ∙ own.numbers;
    }

own-way : (n : ClaimNote) (c : ℕ) (d : Dir) → n.circ.0 ≡ c → n.dir ≡ d → same_way (way_of n) (record { circ = c; dir = d }) ≡ true
own-way n c d circ dir = rw (circ, dir) (self-way (record { circ = c; dir = d }))

other-way : (n : ClaimNote) (c : ℕ) (d e : Dir) → n.dir ≡ e → same_dir e d ≡ false
    → same_way (way_of n) (record { circ = c; dir = d }) ≡ false
other-way n c d e dir unlike = rw (dir, unlike) (and-false (n.circ.0 == c))

circuit-claimed : (rules : Rules) (closes : List Ordered) (h : List Step) (worker c : ℕ) (n : ClaimNote) (d : Dir)
    (x : CircuitState) → CircuitStands rules closes x c (past rules h c) (λ j. holds_id h c j) (edge_past rules h c) →
    n.circ.0 ≡ c → n.dir ≡ d → is_none (way_of_circuit x d).claim_out ≡ true → n.first ≡ (way_of_circuit x d).claimed_count
    → n.count ≤ length (way_of_circuit x d).waiting_bodies →
    CircuitStands rules closes (with_way x d (claimed_way n (way_of_circuit x d))) c (past rules (Claim worker (Some n) ∷ h) c)
    (λ j. holds_id (Claim worker (Some n) ∷ h) c j) (edge_past rules (Claim worker (Some n) ∷ h) c)
circuit-claimed rules closes h worker c n Forth x own circ dir home first few = record {
  live = own.live;
  sent_count = own.sent_count;
  born = own.born;
  sealed = own.sealed;
  linked = own.linked;
  hops = own.hops;
  legs = own.legs;
  forth = rw (own-way n c Forth circ dir) (way-claimed c Forth x.forth _ _ _ _ _ n own.forth home circ dir first few);
  back = rw (other-way n c Back Forth dir refl) own.back;
  orders = own.orders;
  no_left = own.no_left;
  dial = own.dial;
}
circuit-claimed rules closes h worker c n Back x own circ dir home first few = record {
  live = own.live;
  sent_count = own.sent_count;
  born = own.born;
  sealed = own.sealed;
  linked = own.linked;
  hops = own.hops;
  legs = own.legs;
  forth = rw (other-way n c Forth Back dir refl) own.forth;
  back = rw (own-way n c Back circ dir) (way-claimed c Back x.back _ _ _ _ _ n own.back home circ dir first few);
  orders = own.orders;
  no_left = own.no_left;
  dial = own.dial;
}

same-legs : (x : CircuitState) (d : Dir) (w : WayState) → (with_way x d w).legs ≡ x.legs
same-legs x Forth w = refl
same-legs x Back w = refl

same-dial : (x : CircuitState) (d : Dir) (w : WayState) → (with_way x d w).dial ≡ x.dial
same-dial x Forth w = refl
same-dial x Back w = refl

-- the note is of a direction that is there and is not out
record ClaimOf (s : State) (n : ClaimNote) : Type 0 where
  pub circuit : CircuitState
  pub found : slot_at s.circuits n.circ.0 ≡ Some circuit
  pub home : is_none (way_of_circuit circuit n.dir).claim_out ≡ true
  pub first : n.first ≡ (way_of_circuit circuit n.dir).claimed_count
  pub few : n.count ≤ length (way_of_circuit circuit n.dir).waiting_bodies

home-by : (b : Bool) (o : Option ℕ) (n : ℕ) → (if b then o else None) ≡ Some n → b ≡ true
home-by true o n e = refl
home-by false o n e = absurd cc

claim-of_by : (name : ℕ) (s : State) (worker number : ℕ) (w : Way) (n : ClaimNote) (x : Option CircuitState)
    → slot_at s.circuits w.circ ≡ x → offered_by (way_at x w.dir) ≡ Some number →
    note_at name s worker w (way_at x w.dir) ≡ Some n → ClaimOf s n
claim-of_by name s worker number w n None found has is = absurd cc
claim-of_by name s worker number w n (Some x) found has is =
    let it : claim_note name s worker w (way_of_circuit x w.dir) ≡ n = cc in
    subst (ClaimOf s) it (record {
      circuit = x;
      found = found;
      home = home-by (is_none (way_of_circuit x w.dir).claim_out) (first_number (way_of_circuit x w.dir).waiting_bodies) number
          has;
      first = refl;
      few = omega arith;
    })

claim-of : (start : SwitchStart) (s : State) (worker : ℕ) (o : Option Offer) (n : ClaimNote)
    → IsBest (offered s) (λ v. v.circ < length s.circuits) o → claim_result_of start.name s worker o ≡ Some n → ClaimOf s n
claim-of start s worker None n best is = absurd cc
claim-of start s worker (Some b) n best is =
    claim-of_by start.name s worker b.number b.way n (slot_at s.circuits b.way.circ) refl best.has is

claim-out : (start : SwitchStart) (s : State) (h : List Step) (worker : ℕ) (n : ClaimNote) → Stands start s h → ClaimOf s n
    → IsRightStep start h (Claim worker (Some n)) →
    Stands start (claim_state_by s (Some n)) (Claim worker (Some n) ∷ h)
claim-out start s h worker n st of right =
    let rules = start.rules in
    let c = n.circ.0 in
    let step = Claim worker (Some n) in
    let x = of.circuit in
    let y = with_way x n.dir (claimed_way n (way_of_circuit x n.dir)) in
    let t : State = record (counted s) { claims = s.claims + 1; circuits = with_slot s.circuits c (Some y) } in
    let own = circuit-own rules s.last_closes s.circuits (λ d. past rules h d) (λ d k. holds_id h d k) (λ d. edge_past rules h d)
    c x of.found st.circuits in
    let same_legs = legs-kept s c x y of.found (same-legs x n.dir _) in
    let same_dials = all-dials-kept s c x y of.found (same-dial x n.dir _) in
    let many : length t.circuits ≡ length s.circuits = length-with s.circuits c _ in
    rw of.found (record {
      steps = step-added start s.steps h step st.steps right;
      numbers = record {
        channels = st.numbers.channels;
        circuits = many ∙ st.numbers.circuits;
        claims = omega (arith, st.numbers.claims);
        bodies = st.numbers.bodies;
        dial_orders = st.numbers.dial_orders;
        tick = st.numbers.tick;
      };
      channels = st.channels;
      circuits = circuit-changed rules s.last_closes s.circuits (λ d. past rules h d) (λ d. past rules (step ∷ h) d)
          (λ d k. holds_id h d k) (λ d k. holds_id (step ∷ h) d k)
          (λ d. edge_past rules h d) (λ d. edge_past rules (step ∷ h) d) c x (Some y) of.found
          (λ d other old. rw (other_pasts rules h step d (rw other refl)) old)
          (λ d other fresh. rw (other_pasts rules h step d (rw other refl)) fresh)
          (circuit-claimed rules s.last_closes h worker c n n.dir x own refl refl of.home of.first of.few) st.circuits;
      ids = ids-same (leg_in t) (leg_in s) (λ m. lane rules h m) (at h) same_legs st.ids;
      legs = legs-same s.channels (leg_in t) (leg_in s) same_legs st.legs;
      dials = dials-same s.again (dial_in t) (dial_in s) (length (dials_made rules h)) (was_handed_out h) same_dials st.dials;
      counts = counts-same (leg_in t) (leg_in s) (cell_count rules h) (tick h) (length t.circuits) (length s.circuits) same_legs
          many st.counts;
      slots = st.slots;
      not_yet = st.not_yet;
    })

claim-by : (start : SwitchStart) (s : State) (h : List Step) (worker : ℕ) (o : Option ClaimNote)
    → claim_result start.name s worker ≡ o → IsRightStep start h (Claim worker o) → Stands start s h →
    Stands start (claim_state_by s o) (Claim worker o ∷ h)
claim-by start s h worker (Some n) is right st =
    claim-out start s h worker n st (claim-of start s worker (soonest s) n (soonest-best s (length s.circuits)) is) right
claim-by start s h worker None is right st = step-alone start s h (Claim worker None) refl right st

pub claim_kept : (start : SwitchStart) (s : State) (h : List Step) (worker : ℕ) → worker < worker_limit → Stands start s h
    → Stands start (claim_state start.name s worker) (Claim worker (claim_result start.name s worker) ∷ h)
claim_kept start s h worker known st =
    claim-by start s h worker (claim_result start.name s worker) refl (known, claim_said start s h worker st) st
