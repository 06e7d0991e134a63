-- A step that tears one circuit down: first the step's own change, the circuit still there, then the
-- teardown. What the first part owes is listed once; each call shows that.
use Rattle.std.proofs.Common.{add-one, ◌≡◌, ℕ, ◌+◌, ◌==◌, ◌≤◌, Bool, true, false, if◌then◌else◌, List, ◌∷◌, ◌++◌, length, Option, Some, None, refl, sym, ◌∙◌, ap, subst, arith, inl, inr}
use Rattle.std.proofs.Math.Path.{fun_ext}
use Rattle.std.proofs.lemmas.Bool.Decides.{eqb_tells}
use Rattle.circuit_model.specs.Words.{log}
use Rattle.tr_io.specs.declared.step.Step.{Step}
use Rattle.switch_model.specs.Start.{SwitchStart}
use Rattle.switch_model.specs.Names.{Leg}
use Rattle.switch_model.specs.History.Channels.{channel_at, given_ids}
use Rattle.switch_model.specs.History.Legs.{port, at, holds_id}
use Rattle.switch_model.specs.History.Circuit.{is_live_circuit, current_leg, events}
use Rattle.switch_model.specs.History.Past.{past}
use Rattle.switch_model.specs.History.EdgePast.{edge_past}
use Rattle.switch_model.specs.Waiting.Queues.{sendable}
use Rattle.switch_model.specs.Waiting.Lanes.{Destroy, lane, leg_destroys}
use Rattle.switch_model.specs.Waiting.Orders.{bound, is_reached}
use Rattle.switch_model.specs.Waiting.Dials.{dials_made, was_handed_out}
use Rattle.switch_model.specs.Waiting.Counts.{tick, cell_count}
use Rattle.switch_model.specs.Answers.Halted.{halts, some_halt}
use Rattle.switch_model.specs.Legal.{IsRightStep}
use Rattle.switch_machine.specs.State.{ChannelState, LegState, CircuitState, State, slot_at, with_slot}
use Rattle.switch_machine.specs.Machine.{leg_in, has_port, dial_in}
use Rattle.switch_machine.specs.Calls.TearDown.{with_lanes, torn_lane, torn_state}
use Rattle.switch_machine.specs.Stands.Numbers.{numbers_in, numbers_past, NumbersStand}
use Rattle.switch_machine.specs.Stands.Channels.{channel_past, ChannelsStand}
use Rattle.switch_machine.specs.Stands.OneLeg.{LegBy}
use Rattle.switch_machine.specs.Stands.OneCircuit.{left_at, CircuitAt, IsFresh}
use Rattle.switch_machine.specs.Stands.CircIds.{CircIdsStand}
use Rattle.switch_machine.specs.Stands.Legs.{LiesOn, LegsStand}
use Rattle.switch_machine.specs.Stands.Dials.{DialsStand}
use Rattle.switch_machine.specs.Stands.Counts.{CountsStand}
use Rattle.switch_machine.specs.Stands.Slots.{SlotsStand}
use Rattle.switch_machine.specs.Stands.NotYet.{NotYetStand}
use Rattle.switch_machine.specs.Stands.{Stands}
use Rattle.switch_model.proofs.Common.{self_eq, not_equal}
use Rattle.switch_machine.proofs.Slots.{slot_at-with, length-with, slot_at-inside}
use Rattle.switch_machine.proofs.Dials.{dials-changed}
use Rattle.switch_machine.proofs.TearDown.Torn.{old-leg, gone-leg, gone-dial, port-inside, none-put, destroys-said, length-lanes, lies-lanes, channels-torn, ids-torn, counts-torn, put-waits}

-- The state s is that of the step but for the teardown of circuit c, whose state there is x. `lanes`
-- are the lanes before the teardown.
pub record ToTear (start : SwitchStart) (s : State) (h : List Step) (step : Step) (c reason : ℕ) (x : CircuitState)
    (lanes : ℕ → List Destroy) : Type 0 where
  pub said : IsRightStep start h step
  pub steps : s.steps ≡ length h + 1
  pub numbers : NumbersStand (numbers_in s) (numbers_past start.rules (step ∷ h))
  pub channels : ChannelsStand s.channels
      (λ n. record { channel = channel_at (step ∷ h) n; given_count = given_ids (step ∷ h) n; lane = lanes n })
  pub others : (d : ℕ) → (c == d) ≡ false
      → CircuitAt start.rules s.last_closes (slot_at s.circuits d) d (past start.rules (step ∷ h) d)
      (λ k. holds_id (step ∷ h) d k) (edge_past start.rules (step ∷ h) d)
  pub fresh : (d : ℕ) → length s.circuits ≤ d → IsFresh (past start.rules (step ∷ h) d) (edge_past start.rules (step ∷ h) d)
  pub ids : CircIdsStand (leg_in s) lanes (at (step ∷ h))
  pub legs_stand : LegsStand s.channels (leg_in s)
  pub dials : DialsStand s.again (dial_in s) (length (dials_made start.rules (step ∷ h))) (was_handed_out (step ∷ h))
  pub counts : CountsStand (leg_in s) (cell_count start.rules (step ∷ h)) (tick (step ∷ h)) (length s.circuits)
  pub slots : SlotsStand s.slots s.halts s.least_halt (bound (step ∷ h)) (halts (step ∷ h)) (λ n. some_halt n (step ∷ h))
  pub not_yet : NotYetStand (is_reached (step ∷ h))
  -- the circuit
  pub found : slot_at s.circuits c ≡ Some x
  pub legs : (k : ℕ) → LegBy (slot_at x.legs k) ((past start.rules (step ∷ h) c).sent k)
      (sendable (log start.rules (past start.rules (step ∷ h) c).events) (past start.rules (step ∷ h) c).sealed_count k)
      (port h c k) (holds_id (step ∷ h) c k)
  pub left : (serial : ℕ) → left_at s.last_closes c serial ≡ (edge_past start.rules (step ∷ h) c).left serial
  -- what the step says of teardown
  pub lane : (n : ℕ)
      → lane start.rules (step ∷ h) n ≡ lanes n
      ++ leg_destroys h (step ∷ h) c n (current_leg (log start.rules (events start.rules (step ∷ h) c))) reason (length x.legs)
  pub dead : is_live_circuit start.rules (step ∷ h) c ≡ false

lie-torn : (slots : List (Option ChannelState)) (put : ℕ → List Destroy) (b : Bool) (y : Option LegState) → LiesOn slots y
    → LiesOn (with_lanes put 0 slots) (if b then None else y)
lie-torn slots put true y lies = tt
lie-torn slots put false y lies = lies-lanes slots put y lies

off-channel : (slots : List (Option ChannelState)) (y : LegState) (n : ℕ) → LiesOn slots (Some y) → slot_at slots n ≡ None
    → (y.chan == n) ≡ false
off-channel slots y n lies none = not_equal y.chan n (λ same. let no : false ≡ true = rw (← same, none) at lies in absurd cc)

pub torn-by : (start : SwitchStart) (old s : State) (h : List Step) (step : Step) (c reason : ℕ) (x : CircuitState)
    (lanes : ℕ → List Destroy) → Stands start old h → ToTear start s h step c reason x lanes →
    Stands start (torn_state start.rules (events start.rules (step ∷ h) c) s c reason x) (step ∷ h)
torn-by start old s h step c reason x lanes st to =
    let rules = start.rules in
    let put = torn_lane rules (events rules (step ∷ h) c) x reason in
    let t = torn_state rules (events rules (step ∷ h) c) s c reason x in
    let many : length (with_slot s.circuits c None) ≡ length s.circuits = length-with s.circuits c None in
    let inside = slot_at-inside s.circuits c x to.found in
    let lane_is : (n : ℕ) → lane rules (step ∷ h) n ≡ lanes n ++ put n = λ n.
    to.lane n ∙ ap (λ l. lanes n ++ l)
    (sym (destroys-said x.legs h (step ∷ h) c n (current_leg (log rules (events rules (step ∷ h) c))) reason _ _ to.legs
    (length x.legs))) in
    let gone : (leg : Leg) → leg_in t leg ≡ (if leg.circ == c then None else leg_in s leg) = gone-leg s c x to.found in
    record {
      steps = record { legal = (to.said, st.steps.legal); count_is = to.steps ∙ add-one (length h) };
      numbers = record {
        channels = length-lanes put 0 s.channels ∙ to.numbers.channels;
        circuits = many ∙ to.numbers.circuits;
        claims = to.numbers.claims;
        bodies = to.numbers.bodies;
        dial_orders = to.numbers.dial_orders;
        tick = to.numbers.tick;
      };
      channels = channels-torn s.channels
          (λ n. record { channel = channel_at (step ∷ h) n; given_count = given_ids (step ∷ h) n; lane = lanes n })
          (λ n. channel_past rules (step ∷ h) n) put (λ n. rw (lane_is n) refl)
          (λ n none. none-put x.legs n _ reason
          (λ k y has. let found_leg : leg_in s (record { circ = c; number = k }) ≡ Some y = rw to.found has in
          off-channel s.channels y n
          (subst (λ z. LiesOn s.channels z) found_leg (to.legs_stand.lie (record { circ = c; number = k }))) none)
          (length x.legs)) to.channels;
      circuits = record {
        circuit = λ d. elim (eqb_tells d c) [
          | inl (is, same) ↦ rw (slot_at-with s.circuits c None d inside, is)
              (subst (λ e. CircuitAt rules s.last_closes None e (past rules (step ∷ h) e) (λ k. holds_id (step ∷ h) e k)
              (edge_past rules (step ∷ h) e)) (sym same)
              (record { live = to.dead; left = to.left }))
          | inr (is, other) ↦ rw (slot_at-with s.circuits c None d inside, is) (to.others d (not_equal c d other))
        ];
        fresh = λ d beyond. to.fresh d (omega (arith, beyond, many));
      };
      ids = subst (λ f. CircIdsStand (leg_in t) f (at (step ∷ h))) (sym (fun_ext lane_is))
          (ids-torn (leg_in s) (leg_in t) lanes put (at (step ∷ h)) c gone (λ leg chan id same has.
          let own_port = subst (λ y. has_port chan id y ≡ true) (old-leg s c x to.found leg same) has in
          put-waits x.legs chan id (current_leg (log rules (events rules (step ∷ h) c))) reason (length x.legs) leg.number
          (port-inside x.legs chan id leg.number (slot_at x.legs leg.number) refl own_port) own_port) to.ids);
      legs = record
          { lie = λ leg. rw (gone leg) (lie-torn s.channels put (leg.circ == c) (leg_in s leg) (to.legs_stand.lie leg)) };
      dials = dials-changed s.again (dial_in s) (dial_in t) c _ (length (dials_made rules (step ∷ h))) _
          (was_handed_out (step ∷ h)) None
          (gone-dial s c x to.found c ∙ rw (self_eq c) refl) (λ d other. gone-dial s c x to.found d ∙ rw other refl)
          to.dials.never to.dials;
      counts = subst (λ m. CountsStand (leg_in t) (cell_count rules (step ∷ h)) (tick (step ∷ h)) m) (sym many)
          (counts-torn (leg_in s) (leg_in t) (cell_count rules (step ∷ h)) (tick (step ∷ h)) (length s.circuits) c gone
          to.counts);
      slots = to.slots;
      not_yet = to.not_yet;
    }
