-- What an opening adds to the history of its circuit, and leaves of the others.
use Rattle.std.proofs.Common.{◌≡◌, ℕ, ◌==◌, ◌&&◌, Bool, true, false, if◌then◌else◌, List, [], ◌∷◌, Option, Some, None, refl, sym, ◌∙◌, ap, subst, zero, suc, arith}
use Rattle.std.proofs.Math.Dec.{eqb-suc-zero}
use Rattle.cell_codec.specs.declared.cell.Cell.{Cell}
use Rattle.circuit_model.specs.Effects.{open_effects}
use Rattle.circuit_model.specs.Events.{Event}
use Rattle.circuit_model.specs.declared.event.Event.TheVariants.{Born}
use Rattle.circuit_model.specs.Rules.{Rules}
use Rattle.kdf_tor.specs.declared.LayerKeys.{LayerKeys}
use Rattle.tr_io.specs.declared.answers.OpenAnswer.TheVariants.{Opened}
use Rattle.tr_io.specs.declared.names.Dir.TheVariants.{Forth, Back}
use Rattle.tr_io.specs.declared.step.Step.{Step}
use Rattle.tr_io.specs.declared.step.Step.TheVariants.{OpenCircuit}
use Rattle.switch_model.specs.Names.{Leg, is_leg, chan_no, circ_no, circuit_cell}
use Rattle.switch_model.specs.History.Legs.{Port, port, at, holds_id, holds_port}
use Rattle.switch_model.specs.History.Past.{Past, past}
use Rattle.switch_model.specs.History.EdgePast.{edge_past}
use Rattle.switch_machine.specs.State.{slot_at}
use Rattle.switch_machine.specs.Calls.OpenCircuit.{first_leg, new_circuit}
use Rattle.switch_model.specs.Answers.EdgeOut.{Ordered}
use Rattle.switch_machine.specs.Stands.OneLeg.{LegAt}
use Rattle.switch_machine.specs.Stands.OneCircuit.{CircuitStands, IsFresh, no_past, left_at}
use Rattle.switch_model.proofs.Common.{self_eq, and-first, and-second, same-number}
use Rattle.switch_model.proofs.Others.{other_pasts}

abbrev pub opening : ℕ → ℕ → Cell → LayerKeys → Option (List ℕ) → ℕ → Step
opening chan id reply keys pad n = OpenCircuit (chan_no chan) id reply (Some keys) pad (Opened (circ_no n))

abbrev pub born_event : Cell → LayerKeys → Option (List ℕ) → Event
born_event reply keys pad = Born (circuit_cell reply) keys pad

-- the past of the new circuit
abbrev opened_past : Past → ℕ → ℕ → Cell → LayerKeys → Option (List ℕ) → Past
opened_past p chan id reply keys pad = record p {
  live = true;
  events = born_event reply keys pad ∷ p.events;
  port = λ k. if k == 0 then Some (record { chan = chan; id = id }) else p.port k;
}

past-opened : (rules : Rules) (h : List Step) (chan id : ℕ) (reply : Cell) (keys : LayerKeys) (pad : Option (List ℕ)) (n : ℕ) →
    past rules (opening chan id reply keys pad n ∷ h) n ≡ opened_past (past rules h n) chan id reply keys pad
past-opened rules h chan id reply keys pad n = simp (self_eq n)

-- of the others
pub past-other : (rules : Rules) (h : List Step) (chan id : ℕ) (reply : Cell) (keys : LayerKeys) (pad : Option (List ℕ)) (n d : ℕ)
    → (n == d) ≡ false →
    past rules (opening chan id reply keys pad n ∷ h) d ≡ past rules h d
past-other rules h chan id reply keys pad n d other = other_pasts rules h (opening chan id reply keys pad n) d (rw other refl)

pub edge-other : (rules : Rules) (h : List Step) (chan id : ℕ) (reply : Cell) (keys : LayerKeys) (pad : Option (List ℕ)) (n d : ℕ)
    → (n == d) ≡ false →
    edge_past rules (opening chan id reply keys pad n ∷ h) d ≡ edge_past rules h d
edge-other rules h chan id reply keys pad n d other = simp other

-- the new circuit has the CircID, which no leg had
leg-if : (d k n : ℕ) (b : Bool) (x : Option Leg) → (b ≡ true → x ≡ None) → (n == d) ≡ false →
    is_leg d k (if b then Some (record { circ = n; number = 0 }) else x) ≡ is_leg d k x
leg-if d k n true x free other = rw (other, free refl) refl
leg-if d k n false x free other = refl

free-at : (h : List Step) (chan id m i : ℕ) → at h chan id ≡ None → ((chan == m) && (id == i)) ≡ true → at h m i ≡ None
free-at h chan id m i free same =
    let same_chan = same-number chan m (and-first (chan == m) _ same) in
    let same_id = same-number id i (and-second (chan == m) _ same) in
    subst (λ a. at h a i ≡ None) same_chan (subst (λ a. at h chan a ≡ None) same_id free)

holds-by : (h : List Step) (chan id : ℕ) (reply : Cell) (keys : LayerKeys) (pad : Option (List ℕ)) (n d k : ℕ) (p : Option Port)
    → at h chan id ≡ None → (n == d) ≡ false →
    holds_port (opening chan id reply keys pad n ∷ h) d k p ≡ holds_port h d k p
holds-by h chan id reply keys pad n d k None free other = refl
holds-by h chan id reply keys pad n d k (Some place) free other =
    leg-if d k n ((chan == place.chan) && (id == place.id)) (at h place.chan place.id)
    (free-at h chan id place.chan place.id free) other

pub holds-other : (h : List Step) (chan id : ℕ) (reply : Cell) (keys : LayerKeys) (pad : Option (List ℕ)) (n d k : ℕ)
    → at h chan id ≡ None → (n == d) ≡ false →
    holds_id (opening chan id reply keys pad n ∷ h) d k ≡ holds_id h d k
holds-other h chan id reply keys pad n d k free other = rw other (holds-by h chan id reply keys pad n d k (port h d k) free other)

-- the new circuit stands for its past

-- the first leg
holds-first : (h : List Step) (chan id : ℕ) (reply : Cell) (keys : LayerKeys) (pad : Option (List ℕ)) (n : ℕ)
    → holds_id (opening chan id reply keys pad n ∷ h) n 0 ≡ true
holds-first h chan id reply keys pad n = simp (self_eq n, self_eq chan, self_eq id)

holds-later : (h : List Step) (chan id : ℕ) (reply : Cell) (keys : LayerKeys) (pad : Option (List ℕ)) (n k : ℕ)
    → port h n (suc k) ≡ None → holds_id (opening chan id reply keys pad n ∷ h) n (suc k) ≡ false
holds-later h chan id reply keys pad n k none = simp (self_eq n, eqb-suc-zero k, none)

new-legs : (rules : Rules) (h : List Step) (chan id : ℕ) (reply : Cell) (keys : LayerKeys) (pad : Option (List ℕ)) (n : ℕ)
    → past rules h n ≡ no_past → (k : ℕ) →
    LegAt rules (slot_at (Some (first_leg chan id reply) ∷ []) k) k (opened_past no_past chan id reply keys pad)
    (holds_id (opening chan id reply keys pad n ∷ h) n k)
unfolding slot_at open_effects
new-legs rules h chan id reply keys pad n fresh zero = record {
  holds = holds-first h chan id reply keys pad n;
  port = refl;
  cells = refl;
}
new-legs rules h chan id reply keys pad n fresh (suc k) =
    holds-later h chan id reply keys pad n k (ap (λ (p : Past). p.port (suc k)) fresh)

new-circuit : (rules : Rules) (closes : List Ordered) (h : List Step) (chan id : ℕ) (reply : Cell) (keys : LayerKeys)
    (pad : Option (List ℕ)) (n : ℕ) →
    IsFresh (past rules h n) (edge_past rules h n) → ((serial : ℕ) → left_at closes n serial ≡ []) →
    CircuitStands rules closes (new_circuit chan id reply) n (opened_past no_past chan id reply keys pad)
    (λ k. holds_id (opening chan id reply keys pad n ∷ h) n k) (edge_past rules (opening chan id reply keys pad n ∷ h) n)
unfolding open_effects
new-circuit rules closes h chan id reply keys pad n fresh none = record {
  live = refl;
  sent_count = refl;
  born = refl;
  sealed = omega arith;
  linked = refl;
  hops = refl;
  legs = new-legs rules h chan id reply keys pad n fresh.past;
  forth = record {
    claimed_count = refl;
    out = refl;
    claim_out = refl;
    noted = tt;
    cells = refl;
    claimed_numbers = [];
    claimed_all = refl;
    numbers = sym (fresh.numbers Forth);
  };
  back = record {
    claimed_count = refl;
    out = refl;
    claim_out = refl;
    noted = tt;
    cells = refl;
    claimed_numbers = [];
    claimed_all = refl;
    numbers = sym (fresh.numbers Back);
  };
  orders = record { reach_orders = λ serial. refl; carry_orders = λ serial. refl; close_orders = λ serial. refl };
  no_left = none;
  dial = refl;
}

pub circuit-opened : (rules : Rules) (closes : List Ordered) (h : List Step) (chan id : ℕ) (reply : Cell) (keys : LayerKeys)
    (pad : Option (List ℕ)) (n : ℕ) →
    IsFresh (past rules h n) (edge_past rules h n) → ((serial : ℕ) → left_at closes n serial ≡ []) →
    CircuitStands rules closes (new_circuit chan id reply) n (past rules (opening chan id reply keys pad n ∷ h) n)
    (λ k. holds_id (opening chan id reply keys pad n ∷ h) n k) (edge_past rules (opening chan id reply keys pad n ∷ h) n)
circuit-opened rules closes h chan id reply keys pad n fresh none =
    let step = opening chan id reply keys pad n in
    subst (λ p. CircuitStands rules closes (new_circuit chan id reply) n p (λ k. holds_id (step ∷ h) n k)
    (edge_past rules (step ∷ h) n))
    (sym (past-opened rules h chan id reply keys pad n ∙ ap (λ p. opened_past p chan id reply keys pad) fresh.past))
    (new-circuit rules closes h chan id reply keys pad n fresh none)
