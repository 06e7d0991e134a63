-- A cell on a leg of a live circuit. Where it is the peer's DESTROY the leg loses its CircID, and no other leg
-- does; our own DESTROYs stay.
use Rattle.std.proofs.Common.{Bool, List, None, Option, Some, [], ap, false, if◌then◌else◌, inl, inr, length, not, refl, subst, sym, true, ℕ, ◌&&◌, ◌==◌, ◌∙◌, ◌∷◌, ◌≡◌}
use Rattle.std.proofs.lemmas.Bool.Decides.{eqb_tells}
use Rattle.std.specs.List.{AllByRecursion, filter}
use Rattle.cell_codec.specs.declared.cell.Cell.{Cell}
use Rattle.circuit_model.specs.Events.{CircuitCell}
use Rattle.circuit_model.specs.Rules.{Rules}
use Rattle.circuit_model.specs.Words.{closes}
use Rattle.switch_model.proofs.Common.{and-false, and-first, and-second, same-number, self_eq}
use Rattle.switch_model.proofs.LaneIds.{IsApart}
use Rattle.switch_model.specs.Answers.EdgeOut.{Ordered}
use Rattle.switch_model.specs.History.Circuit.{is_live_circuit}
use Rattle.switch_model.specs.History.EdgePast.{EdgePast}
use Rattle.switch_model.specs.History.Legs.{at, holds_id, port}
use Rattle.switch_model.specs.History.Past.{Past}
use Rattle.switch_model.specs.Names.{Leg, chan_no, circuit_cell}
use Rattle.switch_model.specs.Start.{SwitchStart}
use Rattle.switch_model.specs.Waiting.Lanes.{Destroy}
use Rattle.tr_io.specs.declared.answers.TakeAnswer.{TakeAnswer}
use Rattle.tr_io.specs.declared.step.Step.{Step}
use Rattle.tr_io.specs.declared.step.Step.TheVariants.{Take}
use Rattle.switch_machine.proofs.Slots.{length-with, slot_at-inside, slot_at-with}
use Rattle.switch_machine.proofs.Take.FoundLeg.{at-found}
use Rattle.switch_machine.proofs.Take.Frees.{freed-is, frees, leg-taken}
use Rattle.switch_machine.specs.Calls.Take.{behind_destroy, lost_leg_state, without_leg}
use Rattle.switch_machine.specs.Machine.{has_port, leg_in}
use Rattle.switch_machine.specs.Stands.{Stands}
use Rattle.switch_machine.specs.Stands.Legs.{LiesOn}
use Rattle.switch_machine.specs.Stands.OneCircuit.{CircuitStands}
use Rattle.switch_machine.specs.Stands.OneLeg.{LegAt, LegBy}
use Rattle.switch_machine.specs.State.{ChannelState, CircuitState, LegState, State, slot_at}

-- the circuit behind it
abbrev pub behind_cell : ℕ → Cell → CircuitState → CircuitState
behind_cell k cell x = behind_destroy (circuit_cell cell) k x

-- whether leg j is the one that loses its CircID
abbrev pub loses : ℕ → Cell → ℕ → Bool
loses k cell j = (j == k) && (cell.command == 4)

and-true : (b : Bool) → (b && true) ≡ b
and-true true = refl
and-true false = refl

slot-by : (x : CircuitState) (l : LegState) (k j : ℕ) (b : Bool) → slot_at x.legs k ≡ Some l →
    slot_at (if b then without_leg k x else x).legs j ≡ (if (j == k) && b then None else slot_at x.legs j)
slot-by x l k j true found = rw (slot_at-with x.legs k None j (slot_at-inside x.legs k l found), and-true (j == k)) refl
slot-by x l k j false found = rw (and-false (j == k)) refl

pub slot-behind : (k : ℕ) (cell : Cell) (x : CircuitState) (l : LegState) (j : ℕ) → slot_at x.legs k ≡ Some l →
    slot_at (behind_cell k cell x).legs j ≡ (if loses k cell j then None else slot_at x.legs j)
slot-behind k cell x l j found = slot-by x l k j (cell.command == 4) found

pub size-by : (k : ℕ) (x : CircuitState) (b : Bool) → length (if b then without_leg k x else x).legs ≡ length x.legs
size-by k x true = length-with x.legs k None
size-by k x false = refl

pub dial-by : (k : ℕ) (x : CircuitState) (b : Bool) → (if b then without_leg k x else x).dial ≡ x.dial
dial-by k x true = refl
dial-by k x false = refl

pub leg_in-behind : (s : State) (c k : ℕ) (cell : Cell) (x : CircuitState) (l : LegState) → slot_at s.circuits c ≡ Some x →
    slot_at x.legs k ≡ Some l → (leg : Leg) →
    leg_in (lost_leg_state s c (behind_cell k cell x)) leg ≡ (if
    (leg.circ == c) && loses k cell leg.number then None else leg_in s leg)
leg_in-behind s c k cell x l found has leg = elim (eqb_tells leg.circ c) [
  | inl (is, here) ↦ rw (
    slot_at-with s.circuits c (Some (behind_cell k cell x)) leg.circ (slot_at-inside s.circuits c x found),
    is,
    here,
    found,
  ) (slot-behind k cell x l leg.number has)
  | inr (is, other) ↦ rw (
    slot_at-with s.circuits c (Some (behind_cell k cell x)) leg.circ
        (slot_at-inside s.circuits c x found),
    is,
  ) refl
]

-- a CircID that the cell frees is the one of leg k
only-leg : (start : SwitchStart) (s : State) (h : List Step) (chan c k : ℕ) (cell : Cell) → Stands start s h →
    at h chan cell.circ ≡ Some (record { circ = c; number = k }) →
    (leg : Leg) (l : LegState) → leg_in s leg ≡ Some l → frees chan cell l.chan l.id ≡ true →
    leg ≡ record { circ = c; number = k }
only-leg start s h chan c k cell st here leg l found is =
    let it = freed-is chan cell l.chan l.id is in
    let has : has_port chan cell.circ (Some l) ≡ true = rw (it.on_channel, it.on_id, self_eq l.chan, self_eq l.id) refl in
    let same : Some leg ≡ Some (record { circ = c; number = k }) = sym (at-found start s h st chan cell.circ leg
    (Some l) found has) ∙ here in
    cc

-- so no leg of another circuit loses its own
pub free-others : (start : SwitchStart) (s : State) (h : List Step) (chan c k : ℕ) (cell : Cell) → Stands start s h →
    at h chan cell.circ ≡ Some (record { circ = c; number = k }) →
    (d j : ℕ) (l : LegState) (b : Bool) → (c == d) ≡ false → leg_in s (record { circ = d; number = j }) ≡ Some l →
    frees chan cell l.chan l.id ≡ b → b ≡ false
free-others start s h chan c k cell st here d j l true other found is =
    let same = ap (λ (leg : Leg). leg.circ) (only-leg start s h chan c k cell st here (record {
      circ = d;
      number =
          j;
    }) l found is) in
    let both : true ≡ false = sym (self_eq c) ∙ subst (λ e. (c == e) ≡ false) same other in absurd cc
free-others start s h chan c k cell st here d j l false other found is = refl

-- nor does another leg of the circuit
free-legs : (start : SwitchStart) (s : State) (h : List Step) (chan c k : ℕ) (cell : Cell) → Stands start s h →
    at h chan cell.circ ≡ Some (record { circ = c; number = k }) →
    (j : ℕ) (l : LegState) (b : Bool) → loses k cell j ≡ false → leg_in s (record { circ = c; number = j }) ≡ Some l →
    frees chan cell l.chan l.id ≡ b → b ≡ false
free-legs start s h chan c k cell st here j l true stays found is =
    let same = ap (λ (leg : Leg). leg.number) (only-leg start s h chan c k cell st here (record {
      circ = c;
      number =
          j;
    }) l found is) in
    let it = freed-is chan cell l.chan l.id is in
    let both : true ≡ false = sym (rw (self_eq k, it.by_destroy) refl) ∙ subst (λ n. loses k cell n ≡ false) same stays in
    absurd cc
free-legs start s h chan c k cell st here j l false stays found is = refl

leg-lost : (h : List Step) (chan c k : ℕ) (cell : Cell) (a : TakeAnswer) (l : LegState) →
    port h c k ≡ Some (record { chan = l.chan; id = l.id }) → l.chan ≡ chan → l.id ≡ cell.circ → (cell.command == 4) ≡ true →
    holds_id (Take (chan_no chan) cell a ∷ h) c k ≡ false
leg-lost h chan c k cell a l lies on_channel on_id is = rw (lies, on_channel, on_id, is, self_eq chan, self_eq cell.circ) refl

-- the circuit's legs
pub leg-behind : (start : SwitchStart) (s : State) (h : List Step) (chan c k : ℕ) (cell : Cell) (a : TakeAnswer)
    (x : CircuitState)
    (l : LegState) (sent may_leave : List CircuitCell) → Stands start s h → slot_at s.circuits c ≡ Some x →
    at h chan cell.circ ≡ Some (record { circ = c; number = k }) → port h c k ≡ Some (record { chan = l.chan; id = l.id }) →
    l.chan ≡ chan → l.id ≡ cell.circ → (j : ℕ) (b : Bool) → loses k cell j ≡ b →
    LegBy (slot_at x.legs j) sent may_leave (port h c j) (holds_id h c j) →
    LegBy (if b then None else slot_at x.legs j) sent may_leave (port h c j) (holds_id (Take (chan_no chan) cell a ∷ h) c j)
leg-behind start s h chan c k cell a x l sent may_leave st found here lies on_channel on_id j true is own =
    subst (λ i. holds_id (Take (chan_no chan) cell a ∷ h) c i ≡ false) (sym (same-number j k (and-first (j == k) _ is)))
    (leg-lost h chan c k cell a l lies on_channel on_id (and-second (j == k) _ is))
leg-behind start s h chan c k cell a x l sent may_leave st found here lies on_channel on_id j false is own =
    leg-taken h chan cell a c j (slot_at x.legs j) sent may_leave (λ m has. free-legs start s h chan c k cell st here j m
    (frees chan cell m.chan m.id) is (rw found has) refl) own

-- a CircID that is not freed is still that of its leg
port-if : (m i : ℕ) (b : Bool) (z : Option LegState) → (b ≡ true → ⊥) → has_port m i z ≡ true →
    has_port m i (if b then None else z) ≡ true
port-if m i true z never has = absurd (never refl)
port-if m i false z never has = has

pub lies-if : (slots : List (Option ChannelState)) (b : Bool) (z : Option LegState) → LiesOn slots z →
    LiesOn slots (if b then None else z)
lies-if slots true z lies = tt
lies-if slots false z lies = lies

freed-of : (m i : ℕ) (chan : ℕ) (cell : Cell) (l : LegState) → l.chan ≡ chan → l.id ≡ cell.circ → (cell.command == 4) ≡ true →
    has_port m i (Some l) ≡ true → frees chan cell m i ≡ true
freed-of m i chan cell l on_channel on_id is has =
    let same_channel : chan ≡ m = sym on_channel ∙ same-number l.chan m (and-first (l.chan == m) _ has) in
    let same_id : cell.circ ≡ i = sym on_id ∙ same-number l.id i (and-second (l.chan == m) _ has) in
    rw (same_channel, same_id, self_eq m, self_eq i, is) refl

pub port-stays : (s : State) (chan c k : ℕ) (cell : Cell) (x : CircuitState) (l : LegState) → slot_at s.circuits c ≡ Some x →
    slot_at x.legs k ≡ Some l → l.chan ≡ chan → l.id ≡ cell.circ → (leg : Leg) (m i : ℕ) → frees chan cell m i ≡ false →
    has_port m i (leg_in s leg) ≡ true → has_port m i (leg_in (lost_leg_state s c (behind_cell k cell x)) leg) ≡ true
port-stays s chan c k cell x l found first on_channel on_id leg m i free has =
    rw (leg_in-behind s c k cell x l found first leg) (port-if m i ((leg.circ == c) && loses k cell leg.number) (leg_in s leg)
    (λ it.
    let gone = and-second (leg.circ == c) _ it in
    let its : leg_in s leg ≡ Some l = rw (
      same-number leg.circ c (and-first (leg.circ == c) _ it),
      same-number leg.number k
          (and-first (leg.number == k) _ gone),
      found,
    ) first in
    let freed = freed-of m i chan cell l on_channel on_id (and-second (leg.number == k) _ gone) (subst (λ z.
    has_port m i z ≡ true) its has) in
    let both : true ≡ false = sym freed ∙ free in cc) has)

-- none of our DESTROYs waits for the CircID of a live circuit's leg
free-destroy : (rules : Rules) (h : List Step) (chan c k m : ℕ) (cell : Cell) (d : Destroy) (b : Bool) →
    at h chan cell.circ ≡ Some (record { circ = c; number = k }) → is_live_circuit rules h c ≡ true → IsApart rules h m d →
    frees chan cell m d.id ≡ b → b ≡ false
free-destroy rules h chan c k m cell d true here alive apart is =
    let it = freed-is chan cell m d.id is in
    let there : at h m d.id ≡ Some (record { circ = c; number = k }) = subst (λ n. at h n d.id ≡ Some (record {
      circ = c;
      number = k;
    })) it.on_channel (subst (λ n. at h chan n ≡ Some (record { circ = c; number = k })) it.on_id here) in
    let clash : true ≡ false = sym alive ∙ apart c k (rw (there, self_eq c, self_eq k) refl) in absurd cc
free-destroy rules h chan c k m cell d false here alive apart is = refl

pub lane-same : (rules : Rules) (h : List Step) (chan c k m : ℕ) (cell : Cell) (xs : List Destroy) →
    at h chan cell.circ ≡ Some (record { circ = c; number = k }) → is_live_circuit rules h c ≡ true →
    AllByRecursion (IsApart rules h m) xs →
    filter (λ d. not (frees chan cell m d.id)) xs ≡ xs
lane-same rules h chan c k m cell [] here alive apart = refl
lane-same rules h chan c k m cell (d ∷ xs) here alive apart =
    rw (
      free-destroy rules h chan c k m cell d (frees chan cell m d.id) here alive apart.0 refl,
      lane-same rules h chan c k m cell xs here alive apart.1,
    ) refl

-- the circuit, where its legs stand behind the cell
pub behind-stands : (rules : Rules) (closes : List Ordered) (x : CircuitState) (k : ℕ) (b : Bool) (c : ℕ) (p : Past)
    (had has_id : ℕ → Bool) (e : EdgePast) → CircuitStands rules closes x c p had e →
    ((j : ℕ) → LegAt rules (slot_at (if b then without_leg k x else x).legs j) j p (has_id j)) →
    CircuitStands rules closes (if b then without_leg k x else x) c p has_id e
behind-stands rules closes x k true c p had has_id e own legs = record {
  live = own.live;
  sent_count = own.sent_count;
  born = own.born;
  sealed = own.sealed;
  linked = own.linked;
  hops = length-with x.legs k None ∙ own.hops;
  legs = legs;
  forth = own.forth;
  back = own.back;
  orders = own.orders;
  no_left = own.no_left;
  dial = own.dial;
}
behind-stands rules closes x k false c p had has_id e own legs = record {
  live = own.live;
  sent_count = own.sent_count;
  born = own.born;
  sealed = own.sealed;
  linked = own.linked;
  hops = own.hops;
  legs = legs;
  forth = own.forth;
  back = own.back;
  orders = own.orders;
  no_left = own.no_left;
  dial = own.dial;
}
