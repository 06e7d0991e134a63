-- The leg of the state that has a CircID is that of the history.
use Rattle.std.proofs.Common.{◌<◌, ◌==◌, ◌||◌, ◌∙◌, ◌∷◌, ◌≡◌, ◌≤◌, ◌⊎◌, Bool, List, None, Option, Some, [], ap, arith, false, if◌then◌else◌, inl, inr, length, nat_le, refl, subst, suc, sym, true, zero, ℕ}
use Rattle.std.proofs.lemmas.Bool.Decides.{eqb_tells, nat_tests}
use Rattle.std.specs.List.{AllByRecursion, list_any}
use Rattle.std.specs.Option.{option_or}
use Rattle.tr_io.specs.declared.step.Step.{Step}
use Rattle.switch_model.specs.History.Circuit.{is_live_circuit}
use Rattle.switch_model.specs.History.Legs.{at}
use Rattle.switch_model.specs.Names.{Leg, is_leg}
use Rattle.switch_model.specs.Start.{SwitchStart}
use Rattle.switch_model.specs.Waiting.Lanes.{Destroy, lane}
use Rattle.switch_machine.specs.Calls.Take.{found_leg, leg_before, leg_below}
use Rattle.switch_machine.specs.Machine.{has_port, leg_at, leg_in, legs_of}
use Rattle.switch_machine.specs.Stands.{Stands}
use Rattle.switch_machine.specs.Stands.CircIds.{IsUsed}
use Rattle.switch_machine.specs.State.{CircuitState, LegState, State, slot_at}
use Rattle.switch_model.proofs.LaneIds.{IsApart, apart as lane-apart}
use Rattle.switch_model.proofs.Common.{and-first, and-second, same-number, self_eq}
use Rattle.switch_machine.proofs.Ids.{leg-has_id}
use Rattle.switch_machine.proofs.Slots.{slot_at-past}

-- a leg that was found has the CircID, and where none was found none has it
abbrev pub IsFound : State → ℕ → ℕ → (Leg → Type 0) → Option Leg → Type 0
IsFound s chan id Known None = (leg : Leg) → Known leg → has_port chan id (leg_in s leg) ≡ false
IsFound s chan id Known (Some leg) = has_port chan id (leg_in s leg) ≡ true

found-or : (s : State) (chan id : ℕ) (Known One More : Leg → Type 0) (o u : Option Leg)
    → ((leg : Leg) → More leg → Known leg ⊎ One leg) → IsFound s chan id Known o → IsFound s chan id One u
    → IsFound s chan id More (option_or o u)
found-or s chan id Known One More (Some leg) u split own new = own
found-or s chan id Known One More None (Some leg) split own new = new
found-or s chan id Known One More None None split own new = λ leg more. elim (split leg more) [ inl old ↦ own leg old | inr one ↦ new leg one ]

found-if : (s : State) (chan id : ℕ) (leg : Leg) (b : Bool) → has_port chan id (leg_in s leg) ≡ b
    → IsFound s chan id (λ other. other ≡ leg) (if b then Some leg else None)
found-if s chan id leg true is = is
found-if s chan id leg false is = λ other same. subst (λ l. has_port chan id (leg_in s l) ≡ false) (sym same) is

abbrev IsBelow : ℕ → ℕ → Leg → Type 0
IsBelow c k leg = (leg.circ ≡ c) × (leg.number < k)

same-leg_by : (a c b k : ℕ) → a ≡ c → b ≡ k → ◌≡◌ {A = Leg} (record { circ = a; number = b }) (record { circ = c; number = k })
same-leg_by a c b k e f = rw (e, f) refl

same-leg : (c k : ℕ) (leg : Leg) → leg.circ ≡ c → leg.number ≡ k → leg ≡ record { circ = c; number = k }
same-leg c k leg e f = same-leg_by leg.circ c leg.number k e f

below-found : (s : State) (chan id c k : ℕ) → IsFound s chan id (IsBelow c k) (leg_below chan id c (slot_at s.circuits c) k)
below-found s chan id c zero = λ leg known. absurd (omega (arith, known.1))
below-found s chan id c (suc k) =
    found-or s chan id (IsBelow c k) (λ leg. leg ≡ record { circ = c; number = k }) (IsBelow c (suc k))
    (leg_below chan id c (slot_at s.circuits c) k) _
    (λ leg more. elim (eqb_tells leg.number k) [ inl (is, same) ↦ inr (same-leg c k leg more.0 same) | inr (is, other) ↦ inl (more.0, omega (arith, more.1)) ])
    (below-found s chan id c k)
    (found-if s chan id (record { circ = c; number = k }) (has_port chan id (leg_at (slot_at s.circuits c) k)) refl)

none-legs_by : (chan id k : ℕ) (x : Option CircuitState) → legs_of x ≤ k → has_port chan id (leg_at x k) ≡ false
none-legs_by chan id k None beyond = refl
none-legs_by chan id k (Some x) beyond = rw (slot_at-past x.legs k beyond) refl

none-legs : (s : State) (chan id : ℕ) (leg : Leg) → legs_of (slot_at s.circuits leg.circ) ≤ leg.number
    → has_port chan id (leg_in s leg) ≡ false
none-legs s chan id leg beyond = none-legs_by chan id leg.number (slot_at s.circuits leg.circ) beyond

of-circuit_by : (s : State) (chan id c : ℕ) (leg : Leg) → leg.circ ≡ c → (b : Bool)
    → nat_le (legs_of (slot_at s.circuits c)) leg.number ≡ b →
    ((other : Leg) → IsBelow c (legs_of (slot_at s.circuits c)) other → has_port chan id (leg_in s other) ≡ false)
    → has_port chan id (leg_in s leg) ≡ false
of-circuit_by s chan id c leg same true is own =
    let beyond : legs_of (slot_at s.circuits c) ≤ leg.number = grind (arith, nat_tests) in
    none-legs s chan id leg (subst (λ d. legs_of (slot_at s.circuits d) ≤ leg.number) (sym same) beyond)
of-circuit_by s chan id c leg same false is own = own leg (same, grind (arith, nat_tests))

of-circuit : (s : State) (chan id c : ℕ) (o : Option Leg) → IsFound s chan id (IsBelow c (legs_of (slot_at s.circuits c))) o
    → IsFound s chan id (λ leg. leg.circ ≡ c) o
of-circuit s chan id c (Some leg) own = own
of-circuit s chan id c None own =
    λ leg same. of-circuit_by s chan id c leg same (nat_le (legs_of (slot_at s.circuits c)) leg.number) refl own

before-found : (s : State) (chan id n : ℕ) → IsFound s chan id (λ leg. leg.circ < n) (leg_before s chan id n)
before-found s chan id zero = λ leg known. absurd (omega (arith, known))
before-found s chan id (suc c) =
    found-or s chan id (λ leg. leg.circ < c) (λ leg. leg.circ ≡ c) (λ leg. leg.circ < suc c) (leg_before s chan id c) _
    (λ leg more. elim (eqb_tells leg.circ c) [ inl (is, same) ↦ inr same | inr (is, other) ↦ inl (omega arith) ])
    (before-found s chan id c) (of-circuit s chan id c _ (below-found s chan id c (legs_of (slot_at s.circuits c))))

abbrev pub Whole : Leg → Type 0
Whole leg = leg ≡ leg

all-found_by : (s : State) (chan id : ℕ) (leg : Leg) (b : Bool) → nat_le (length s.circuits) leg.circ ≡ b
    → ((other : Leg) → other.circ < length s.circuits → has_port chan id (leg_in s other) ≡ false)
    → has_port chan id (leg_in s leg) ≡ false
all-found_by s chan id leg true is own = let beyond : length s.circuits ≤ leg.circ =
    grind (arith, nat_tests) in rw (slot_at-past s.circuits leg.circ beyond) refl
all-found_by s chan id leg false is own = own leg (grind (arith, nat_tests))

all-found : (s : State) (chan id : ℕ) (o : Option Leg) → IsFound s chan id (λ leg. leg.circ < length s.circuits) o
    → IsFound s chan id Whole o
all-found s chan id (Some leg) own = own
all-found s chan id None own = λ leg known. all-found_by s chan id leg (nat_le (length s.circuits) leg.circ) refl own

pub leg-found : (s : State) (chan id : ℕ) → IsFound s chan id Whole (found_leg s chan id)
leg-found s chan id = all-found s chan id (found_leg s chan id) (before-found s chan id (length s.circuits))

-- a CircID that no live circuit's leg has
not-live_by : (start : SwitchStart) (h : List Step) (chan id : ℕ) (leg : Leg) (d : Destroy) (b rest : Bool) → (d.id == id) ≡ b
    → IsApart start.rules h chan d → at h chan id ≡ Some leg → (rest ≡ true → is_live_circuit start.rules h leg.circ ≡ false)
    → (b || rest) ≡ true → is_live_circuit start.rules h leg.circ ≡ false
not-live_by start h chan id leg d true rest is apart found later some =
    let here : at h chan d.id ≡ Some leg = subst (λ i. at h chan i ≡ Some leg) (sym (same-number d.id id is)) found in
    let named : is_leg leg.circ leg.number (at h chan d.id) ≡ true = rw (here, self_eq leg.circ, self_eq leg.number) refl in
    apart leg.circ leg.number named
not-live_by start h chan id leg d false rest is apart found later some = later some

not-live : (start : SwitchStart) (h : List Step) (chan id : ℕ) (leg : Leg) (waits : List Destroy)
    → AllByRecursion (IsApart start.rules h chan) waits → list_any (λ d. d.id == id) waits ≡ true → at h chan id ≡ Some leg
    → is_live_circuit start.rules h leg.circ ≡ false
not-live start h chan id leg [] apart some found = absurd cc
not-live start h chan id leg (d ∷ waits) apart some found =
    not-live_by start h chan id leg d (d.id == id) (list_any (λ e. e.id == id) waits) refl apart.0 found
    (λ later. not-live start h chan id leg waits apart.1 later found) some

pub used-live : (start : SwitchStart) (s : State) (h : List Step) → Stands start s h → (chan id : ℕ) (leg : Leg)
    → at h chan id ≡ Some leg → IsFound s chan id Whole None → is_live_circuit start.rules h leg.circ ≡ false
used-live start s h st chan id leg found none = elim (subst (IsUsed (leg_in s) (lane start.rules h chan) chan id) found (st.ids.used chan id)) [
  | inl has ↦ let clash : false ≡ true = sym (none leg refl) ∙ has in absurd cc
  | inr some ↦ not-live start h chan id leg (lane start.rules h chan) (lane-apart start h st.steps.legal chan) some found
]

is-some-leg : (c k : ℕ) (x : Option Leg) → is_leg c k x ≡ true → x ≡ Some (record { circ = c; number = k })
is-some-leg c k None is = absurd cc
is-some-leg c k (Some leg) is =
    ap Some (same-leg c k leg (same-number leg.circ c (and-first (leg.circ == c) _ is))
    (same-number leg.number k (and-second (leg.circ == c) _ is)))

pub at-found : (start : SwitchStart) (s : State) (h : List Step) → Stands start s h
    → (chan id : ℕ) (leg : Leg) (y : Option LegState) → leg_in s leg ≡ y → has_port chan id y ≡ true → at h chan id ≡ Some leg
at-found start s h st chan id leg None found has = absurd cc
at-found start s h st chan id leg (Some l) found has =
    let it = is-some-leg leg.circ leg.number (at h l.chan l.id) (leg-has_id start s h st leg.circ leg.number l found) in
    subst (λ i. at h chan i ≡ Some leg) (same-number l.id id (and-second (l.chan == chan) _ has))
    (subst (λ a. at h a l.id ≡ Some leg) (same-number l.chan chan (and-first (l.chan == chan) _ has)) it)

pub circuit-found : (chan id k : ℕ) (x : Option CircuitState) → has_port chan id (leg_at x k) ≡ true
    → (y : CircuitState) × (x ≡ Some y)
circuit-found chan id k None has = absurd cc
circuit-found chan id k (Some y) has = (y, refl)
