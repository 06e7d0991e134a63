-- dial_order keeps what a state stands for.
use Rattle.std.proofs.Common.{◌≡◌, ℕ, ◌≤◌, ◌==◌, Bool, true, false, List, [], ◌∷◌, length, Option, Some, None, option_map, refl, sym, ◌∙◌, ap, subst, arith}
use Rattle.std.specs.List.{AllByRecursion, filter}
use Rattle.tr_io.specs.declared.step.Step.{Step}
use Rattle.tr_io.specs.declared.step.Step.TheVariants.{DialOrder}
use Rattle.switch_model.specs.Start.{SwitchStart}
use Rattle.switch_model.specs.History.EdgePast.{edge_past}
use Rattle.switch_model.specs.History.Legs.{at, holds_id}
use Rattle.switch_model.specs.History.Past.{past}
use Rattle.switch_model.specs.Legal.{IsDialOrder}
use Rattle.switch_model.specs.Waiting.Counts.{cell_count, tick}
use Rattle.switch_model.specs.Waiting.Dials.{Dial, dials_made, is_from, was_handed_out}
use Rattle.switch_model.specs.Waiting.Lanes.{lane}
use Rattle.switch_machine.specs.Calls.DialOrder.{OpenDial, circuit_dialled, dial_of, dial_order_result, dial_order_state, dial_order_state_by, dialled_state, next_dial_by, oldest_dial, order_step}
use Rattle.switch_machine.specs.Machine.{counted, dial_at, dial_in, is_handed_out, leg_in}
use Rattle.switch_machine.specs.Stands.{Stands}
use Rattle.switch_machine.specs.Stands.Dials.{AreOnce}
use Rattle.switch_machine.specs.Stands.OneCircuit.{last_of, CircuitAt, IsFresh}
use Rattle.switch_machine.specs.State.{CircuitState, DialState, State, slot_at, with_slot}
use Rattle.switch_model.proofs.Common.{not_equal, self_eq}
use Rattle.switch_machine.proofs.Again.{made-numbered}
use Rattle.switch_machine.proofs.DialOrder.HandedOut.{handed-same, other-handed, own-handed}
use Rattle.switch_machine.proofs.DialOrder.Numbered.{below, last-of, same-order}
use Rattle.switch_machine.proofs.DialOrder.Oldest.{OldestIs, offers_of, oldest-best, waiting-is}
use Rattle.switch_machine.proofs.DialOrder.Open.{IsOpenOf, in-open}
use Rattle.switch_machine.proofs.DialOrder.Right.{dial_order_right}
use Rattle.switch_machine.proofs.DialOrder.Said.{again-given}
use Rattle.switch_machine.proofs.OneCircuit.{circuit-changed, circuit-own}
use Rattle.switch_machine.proofs.OneStep.{step-added}
use Rattle.switch_machine.proofs.SameLegs.{counts-same, ids-same, legs-kept, legs-same}
use Rattle.switch_machine.proofs.Slots.{length-with}
use Rattle.switch_machine.proofs.StepAlone.{step-alone}

abbrev giving : State → OpenDial → Step
giving s given = DialOrder (Some (order_step s given))

-- an order that is handed out again was handed out before
again-kept : (start : SwitchStart) (s : State) (h : List Step) (c : ℕ) (again : List ℕ) (o : Option DialState) → Stands start s h
    →
    s.again ≡ c ∷ again → dial_in s c ≡ o → is_handed_out o ≡ true →
    IsDialOrder start.rules h (option_map (order_step s) (option_map (dial_of c) o)) →
    Stands start (dial_order_state_by s (c ∷ again)) (DialOrder (option_map (order_step s) (option_map (dial_of c) o)) ∷ h)
again-kept start s h c again None st listed has out right = absurd cc
again-kept start s h c again (Some x) st listed has out right =
    let rules = start.rules in
    let it = again-given start s h c x st has out in
    let same = sym (handed-same (was_handed_out h) x.order it.handed_out) in
    let out_all : AllByRecursion (λ d. is_handed_out (dial_in s d) ≡ true) (c ∷ again) = subst
    (AllByRecursion (λ d. is_handed_out (dial_in s d) ≡ true)) listed st.dials.are_out in
    let once_all = subst AreOnce listed st.dials.once in
    record {
      steps = step-added start s.steps h (giving s (dial_of c x)) st.steps (tt, right);
      numbers = st.numbers;
      channels = st.channels;
      circuits = record {
        circuit = λ d. subst (λ f. CircuitAt rules s.last_closes (slot_at s.circuits d) d (past rules h d)
            (λ k. holds_id h d k) (record (edge_past rules h d) { handed_out = f })) same (st.circuits.circuit d);
        fresh = λ d beyond. subst (λ f. IsFresh (past rules h d) (record (edge_past rules h d) { handed_out = f })) same
            (st.circuits.fresh d beyond);
      };
      ids = st.ids;
      legs = st.legs;
      dials = record {
        are_out = out_all.1;
        once = once_all.1;
        never = subst (λ (f : ℕ → Bool). (order : ℕ) → length (dials_made rules h) ≤ order →
            f order ≡ false) same st.dials.never;
      };
      counts = st.counts;
      slots = st.slots;
      not_yet = st.not_yet;
    }

-- no other circuit's last order has its number
apart-by : (start : SwitchStart) (s : State) (h : List Step) (c d : ℕ) (x : DialState) (last : Dial) →
    (it : IsOpenOf start.rules h c x) → (c == d) ≡ false → last_of (filter (is_from d) (dials_made start.rules h)) ≡ Some last →
    (x.order == last.order) ≡ false
apart-by start s h c d x last it other is =
    let made = dials_made start.rules h in
    let its = last-of 0 d made last (made-numbered start.rules h) is in
    let number = ap (λ (y : DialState). y.order) it.is in
    not_equal x.order last.order (λ same.
    let one : it.made ≡ last = same-order 0 made it.made last (made-numbered start.rules h) it.inside its.inside
    (omega (arith, number, same)) in
    let here : c ≡ d = sym it.circ ∙ ap (λ (a : Dial). a.circ) one ∙ its.circ in
    let both : true ≡ false = sym (self_eq d) ∙ subst (λ n. (n == d) ≡ false) here other in cc)

same-last : (o : Option Dial) (d e : Dial) → o ≡ Some d → o ≡ Some e → d ≡ e
same-last o d e is other = cc

-- the oldest that waits is handed out
given-kept : (start : SwitchStart) (s : State) (h : List Step) (given : OpenDial) (x : CircuitState) → Stands start s h →
    s.again ≡ [] → slot_at s.circuits given.circ ≡ Some x → x.dial ≡ Some given.dial → given.dial.handed_out ≡ false →
    IsDialOrder start.rules h (Some (order_step s given)) →
    Stands start (record (counted s) { circuits = with_slot s.circuits given.circ (Some (circuit_dialled x)) })
    (giving s given ∷ h)
given-kept start s h given x st none found has never right =
    let rules = start.rules in
    let c = given.circ in
    let m = given.dial.order in
    let step = giving s given in
    let new = circuit_dialled x in
    let t : State = record (counted s) { circuits = with_slot s.circuits c (Some new) } in
    let it = in-open start s h c given.dial st (rw found has) in
    let number = ap (λ (y : DialState). y.order) it.is in
    let own = circuit-own rules s.last_closes s.circuits (λ d. past rules h d) (λ d j. holds_id h d j)
    (λ d. edge_past rules h d) c x found st.circuits in
    let size : length t.circuits ≡ length s.circuits = length-with s.circuits c (Some new) in
    let legs_same = legs-kept s c x new found refl in
    record {
      steps = step-added start s.steps h step st.steps (tt, right);
      numbers = record {
        channels = st.numbers.channels;
        circuits = size ∙ st.numbers.circuits;
        claims = st.numbers.claims;
        bodies = st.numbers.bodies;
        dial_orders = st.numbers.dial_orders;
        tick = st.numbers.tick;
      };
      channels = st.channels;
      circuits = circuit-changed rules s.last_closes s.circuits (λ d. past rules h d) (λ d. past rules (step ∷ h) d)
          (λ d k. holds_id h d k) (λ d k. holds_id (step ∷ h) d k)
          (λ d. edge_past rules h d) (λ d. edge_past rules (step ∷ h) d) c x (Some new) found
          (λ d other old. other-handed rules s.last_closes (slot_at s.circuits d) d m (past rules h d) (λ k. holds_id h d k)
          (edge_past rules h d) (λ last is. apart-by start s h c d given.dial last it other is) old)
          (λ d other fresh. record { past = fresh.past; left = fresh.left; numbers = fresh.numbers })
          (own-handed rules s.last_closes x c m (past rules h c) (λ k. holds_id h c k) (edge_past rules h c)
          (λ last is. ap (λ (a : Dial). a.order) (same-last _ last it.made is it.last) ∙ sym number) own) st.circuits;
      ids = ids-same (leg_in t) (leg_in s) (λ n. lane rules h n) (at h) legs_same st.ids;
      legs = legs-same s.channels (leg_in t) (leg_in s) legs_same st.legs;
      dials = record {
        are_out = subst (AllByRecursion (λ d. is_handed_out (dial_in t d) ≡ true)) (sym none) tt;
        once = st.dials.once;
        never = λ order beyond.
            let below_made = below 0 (dials_made rules h) it.made (made-numbered rules h) it.inside in
            rw (not_equal m order (λ same. absurd (omega (arith, below_made, beyond, number, same))))
            (st.dials.never order beyond);
      };
      counts = counts-same (leg_in t) (leg_in s) (cell_count rules h) (tick h) (length t.circuits)
          (length s.circuits) legs_same size st.counts;
      slots = st.slots;
      not_yet = st.not_yet;
    }

none-kept : (start : SwitchStart) (s : State) (h : List Step) → Stands start s h → IsDialOrder start.rules h None →
    Stands start (counted s) (DialOrder None ∷ h)
none-kept start s h st right = step-alone start s h (DialOrder None) refl (tt, right) st

with-dial : (slots : List (Option CircuitState)) (c : ℕ) (o : Option CircuitState) (dial : DialState) → slot_at slots c ≡ o →
    dial_at o ≡ Some dial → (x : CircuitState) × ((slot_at slots c ≡ Some x) × (x.dial ≡ Some dial))
with-dial slots c None dial found has = absurd cc
with-dial slots c (Some x) dial found has = (x, (found, has))

oldest-kept : (start : SwitchStart) (s : State) (h : List Step) (o : Option OpenDial) → Stands start s h → s.again ≡ [] →
    OldestIs (offers_of s) (length s.circuits) o → IsDialOrder start.rules h (option_map (order_step s) o) →
    Stands start (dialled_state s o) (DialOrder (option_map (order_step s) o) ∷ h)
oldest-kept start s h None st none best right = none-kept start s h st right
oldest-kept start s h (Some given) st none own right =
    let w = waiting-is given.circ (dial_in s given.circ) given own.has in
    let it = with-dial s.circuits given.circ (slot_at s.circuits given.circ) given.dial refl w.is_open in
    rw it.1.0 (given-kept start s h given it.0 st none it.1.0 it.1.1 w.never right)

kept-by : (start : SwitchStart) (s : State) (h : List Step) (again : List ℕ) → Stands start s h → s.again ≡ again →
    AllByRecursion (λ c. is_handed_out (dial_in s c) ≡ true) again →
    IsDialOrder start.rules h (option_map (order_step s) (next_dial_by s again)) →
    Stands start (dial_order_state_by s again) (DialOrder (option_map (order_step s) (next_dial_by s again)) ∷ h)
kept-by start s h [] st same out right = oldest-kept start s h (oldest_dial s) st same (oldest-best s (length s.circuits)) right
kept-by start s h (c ∷ again) st same out right = again-kept start s h c again (dial_in s c) st same refl out.0 right

pub dial_order_kept : (start : SwitchStart) (s : State) (h : List Step) → Stands start s h →
    Stands start (dial_order_state s) (DialOrder (dial_order_result s) ∷ h)
dial_order_kept start s h st = kept-by start s h s.again st refl st.dials.are_out (dial_order_right start s h st)
