-- A cell that is taken frees a CircID where it is the peer's DESTROY for it: its leg loses the CircID, and our
-- DESTROY for it goes.
use Rattle.std.proofs.Common.{◌&&◌, ◌==◌, ◌||◌, ◌∙◌, ◌∷◌, ◌≡◌, Bool, List, None, Option, Some, [], false, if◌then◌else◌, inl, inr, not, refl, subst, sym, true, ℕ}
use Rattle.std.specs.List.{filter, list_any}
use Rattle.cell_codec.specs.declared.cell.Cell.{Cell}
use Rattle.circuit_model.specs.Events.{CircuitCell}
use Rattle.circuit_model.specs.Rules.{Rules}
use Rattle.tr_io.specs.declared.answers.TakeAnswer.{TakeAnswer}
use Rattle.tr_io.specs.declared.step.Step.{Step}
use Rattle.tr_io.specs.declared.step.Step.TheVariants.{Take}
use Rattle.switch_model.specs.Answers.EdgeOut.{Ordered}
use Rattle.switch_model.specs.History.Circuit.{sent}
use Rattle.switch_model.specs.History.EdgePast.{edge_past}
use Rattle.switch_model.specs.History.Legs.{Port, at, holds_id, holds_port, is_destroy_for, port}
use Rattle.switch_model.specs.History.Past.{past}
use Rattle.switch_model.specs.Names.{Leg, chan_no, is_leg}
use Rattle.switch_model.specs.Waiting.Lanes.{Destroy}
use Rattle.switch_machine.specs.Machine.{has_port, leg_at}
use Rattle.switch_machine.specs.Stands.CircIds.{CircIdsStand, IsUsed}
use Rattle.switch_machine.specs.Stands.OneCircuit.{CircuitAt}
use Rattle.switch_machine.specs.Stands.OneLeg.{LegBy}
use Rattle.switch_machine.specs.State.{CircuitState, LegState, slot_at}
use Rattle.switch_model.proofs.Common.{and-first, and-second, same-number}

-- whether the step frees CircID i of channel m
abbrev pub frees : ℕ → Cell → ℕ → ℕ → Bool
frees chan cell m i = is_destroy_for (chan_no chan) cell m i

and-none : (a b c : Bool) → c ≡ false → (a && (b && c)) ≡ false
and-none false b c e = refl
and-none true false c e = refl
and-none true true c e = e

pub frees-none : (chan : ℕ) (cell : Cell) → (cell.command == 4) ≡ false → (m i : ℕ) → frees chan cell m i ≡ false
frees-none chan cell other m i = and-none (chan == m) (cell.circ == i) (cell.command == 4) other

-- what it frees
pub record Freed (chan : ℕ) (cell : Cell) (m i : ℕ) : Type 0 where
  pub on_channel : chan ≡ m
  pub on_id : cell.circ ≡ i
  pub by_destroy : (cell.command == 4) ≡ true

pub freed-is : (chan : ℕ) (cell : Cell) (m i : ℕ) → frees chan cell m i ≡ true → Freed chan cell m i
freed-is chan cell m i is =
    let rest = and-second (chan == m) _ is in
    record {
      on_channel = same-number chan m (and-first (chan == m) _ is);
      on_id = same-number cell.circ i (and-first (cell.circ == i) _ rest);
      by_destroy = and-second (cell.circ == i) _ rest;
    }

-- CircIDs, where some are freed

used-freed : (legs more : Leg → Option LegState) (xs ys : List Destroy) (m i : ℕ) (b : Bool) (x : Option Leg)
    → ((leg : Leg) → b ≡ false → has_port m i (legs leg) ≡ true → has_port m i (more leg) ≡ true) →
    (b ≡ false → list_any (λ d. d.id == i) xs ≡ true → list_any (λ d. d.id == i) ys ≡ true) → IsUsed legs xs m i x
    → IsUsed more ys m i (if b then None else x)
used-freed legs more xs ys m i true x same fewer used = tt
used-freed legs more xs ys m i false None same fewer used = tt
used-freed legs more xs ys m i false (Some leg) same fewer (inl has) = inl (same leg refl has)
used-freed legs more xs ys m i false (Some leg) same fewer (inr some) = inr (fewer refl some)

any-by : (test stays : Destroy → Bool) (x : Destroy) (xs : List Destroy) (b k : Bool) → test x ≡ b → stays x ≡ k
    → (b ≡ true → k ≡ true) → (list_any test xs ≡ true → list_any test (filter stays xs) ≡ true) →
    (b || list_any test xs) ≡ true → list_any test (if k then x ∷ filter stays xs else filter stays xs) ≡ true
any-by test stays x xs true true is kept_is stay_in rest some = rw is refl
any-by test stays x xs true false is kept_is stay_in rest some = let no_way : false ≡ true = stay_in refl in absurd cc
any-by test stays x xs false true is kept_is stay_in rest some = rw is (rest some)
any-by test stays x xs false false is kept_is stay_in rest some = rest some

any-filter : (test stays : Destroy → Bool) → ((d : Destroy) → test d ≡ true → stays d ≡ true) → (xs : List Destroy)
    → list_any test xs ≡ true → list_any test (filter stays xs) ≡ true
any-filter test stays stay_in [] some = some
any-filter test stays stay_in (x ∷ xs) some =
    any-by test stays x xs (test x) (stays x) refl refl (stay_in x) (any-filter test stays stay_in xs) some

pub ids-freed : (legs more : Leg → Option LegState) (lanes : ℕ → List Destroy) (at_id : ℕ → ℕ → Option Leg) (freed : ℕ → ℕ → Bool)
    →
    ((leg : Leg) (m i : ℕ) → freed m i ≡ false → has_port m i (legs leg) ≡ true → has_port m i (more leg) ≡ true)
    → CircIdsStand legs lanes at_id →
    CircIdsStand more (λ m. filter (λ d. not (freed m d.id)) (lanes m)) (λ m i. if freed m i then None else at_id m i)
ids-freed legs more lanes at_id freed stays own = record {
  used = λ m i. used-freed legs more (lanes m) (filter (λ d. not (freed m d.id)) (lanes m)) m i (freed m i) (at_id m i)
      (λ leg other. stays leg m i other)
      (λ other. any-filter (λ d. d.id == i) (λ d. not (freed m d.id))
      (λ d is. subst (λ j. not (freed m j) ≡ true) (sym (same-number d.id i is)) (rw other refl)) (lanes m)) (own.used m i);
}

-- a lane of which nothing goes
pub lane-stays : (freed : ℕ → Bool) (xs : List Destroy) → ((d : Destroy) → freed d.id ≡ false)
    → filter (λ d. not (freed d.id)) xs ≡ xs
lane-stays freed [] none = refl
lane-stays freed (x ∷ xs) none = rw (none x, lane-stays freed xs none) refl

-- whether a leg has its CircID

leg-fewer : (c k : ℕ) (b : Bool) (x : Option Leg) → is_leg c k x ≡ false → is_leg c k (if b then None else x) ≡ false
leg-fewer c k true x none = refl
leg-fewer c k false x none = none

holds-lost_by : (h : List Step) (chan : ℕ) (cell : Cell) (a : TakeAnswer) (d j : ℕ) (p : Option Port) → holds_port h d j p ≡ false
    → holds_port (Take (chan_no chan) cell a ∷ h) d j p ≡ false
holds-lost_by h chan cell a d j None none = refl
holds-lost_by h chan cell a d j (Some place) none =
    leg-fewer d j (frees chan cell place.chan place.id) (at h place.chan place.id) none

holds-lost : (h : List Step) (chan : ℕ) (cell : Cell) (a : TakeAnswer) (d j : ℕ) → holds_id h d j ≡ false
    → holds_id (Take (chan_no chan) cell a ∷ h) d j ≡ false
holds-lost h chan cell a d j none = holds-lost_by h chan cell a d j (port h d j) none

pub holds-on : (h : List Step) (chan : ℕ) (cell : Cell) (a : TakeAnswer) (d j : ℕ) (place : Port) → port h d j ≡ Some place
    → frees chan cell place.chan place.id ≡ false →
    holds_id (Take (chan_no chan) cell a ∷ h) d j ≡ holds_id h d j
holds-on h chan cell a d j place lies free = rw (lies, free) refl

-- a leg whose CircID is not freed

pub leg-taken : (h : List Step) (chan : ℕ) (cell : Cell) (a : TakeAnswer) (d j : ℕ) (y : Option LegState)
    (sent may_leave : List CircuitCell) → ((l : LegState) → y ≡ Some l → frees chan cell l.chan l.id ≡ false) →
    LegBy y sent may_leave (port h d j) (holds_id h d j)
    → LegBy y sent may_leave (port h d j) (holds_id (Take (chan_no chan) cell a ∷ h) d j)
leg-taken h chan cell a d j None sent may_leave free own = holds-lost h chan cell a d j own
leg-taken h chan cell a d j (Some l) sent may_leave free own =
    record {
      holds = holds-on h chan cell a d j (record { chan = l.chan; id = l.id }) own.port (free l refl) ∙ own.holds;
      port =
          own.port;
      cells = own.cells;
    }

-- the same for a circuit whose past is the same
pub circuit-taken : (rules : Rules) (closes : List Ordered) (h : List Step) (chan : ℕ) (cell : Cell) (a : TakeAnswer) (d : ℕ)
    (x : Option CircuitState) → ((k : ℕ) (l : LegState) → leg_at x k ≡ Some l → frees chan cell l.chan l.id ≡ false) →
    past rules (Take (chan_no chan) cell a ∷ h) d ≡ past rules h d
    → edge_past rules (Take (chan_no chan) cell a ∷ h) d ≡ edge_past rules h d →
    CircuitAt rules closes x d (past rules h d) (λ j. holds_id h d j) (edge_past rules h d) →
    CircuitAt rules closes x d (past rules (Take (chan_no chan) cell a ∷ h) d)
    (λ j. holds_id (Take (chan_no chan) cell a ∷ h) d j) (edge_past rules (Take (chan_no chan) cell a ∷ h) d)
circuit-taken rules closes h chan cell a d None free same_past same_edge own = rw (same_past, same_edge) own
circuit-taken rules closes h chan cell a d (Some x) free same_past same_edge own = rw (same_past, same_edge) (record {
  live = own.live;
  sent_count = own.sent_count;
  born = own.born;
  sealed = own.sealed;
  linked = own.linked;
  hops = own.hops;
  legs = λ k. leg-taken h chan cell a d k (slot_at x.legs k) _ _ (free k) (own.legs k);
  forth = own.forth;
  back = own.back;
  orders = own.orders;
  no_left = own.no_left;
  dial = own.dial;
})
