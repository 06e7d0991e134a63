-- Once this side's DESTROY has left on a leg nothing more leaves there, so a torn circuit sends one at most.
use Rattle.std.proofs.Common.{◌≡◌, ℕ, ◌==◌, ◌&&◌, ◌⊎◌, Bool, true, false, not, if◌then◌else◌, is_some, List, [], ◌∷◌, Option, Some, None, refl, sym, ◌∙◌, ap, inl, inr}
use Rattle.cell_codec.specs.declared.cell.Cell.{Cell}
use Rattle.circuit_model.specs.Rules.{Rules}
use Rattle.circuit_model.specs.Sent.{destroy}
use Rattle.tr_io.specs.declared.names.ChanNo.{ChanNo}
use Rattle.tr_io.specs.declared.step.Step.{Step}
use Rattle.tr_io.specs.declared.step.Step.TheVariants.{NextCell}
use Rattle.switch_model.specs.Start.{SwitchStart}
use Rattle.switch_model.specs.Names.{Leg, is_leg, circuit_cell}
use Rattle.switch_model.specs.History.Legs.{Port, port, at, is_destroy_for}
use Rattle.switch_model.specs.History.Circuit.{is_live_circuit}
use Rattle.switch_model.specs.Waiting.Lanes.{Destroy}
use Rattle.switch_model.specs.History.LegEnds.{is_ended_by_us, sent_torn, IsOneDestroy}
use Rattle.switch_model.specs.Answers.NextCell.{cell_at}
use Rattle.switch_model.specs.Legal.{IsLegal}
use Rattle.switch_model.proofs.Common.{self_eq, and-first, and-second}
use Rattle.switch_model.proofs.Leaving.{torn_sends_destroy}
use Rattle.switch_model.proofs.Ported.{ported, Lost, stays-lost}

-- the leg on which a DESTROY leaves has lost its CircID
gone-by : (c k : ℕ) (b : Bool) (x : Option Leg) → b ≡ true → is_leg c k (if b then None else x) ≡ true → ⊥
gone-by c k true x is here = cc
gone-by c k false x is here = cc

kept-leg : (c k : ℕ) (b : Bool) (x : Option Leg) → is_leg c k (if b then None else x) ≡ true → is_leg c k x ≡ true
kept-leg c k true x is = absurd cc
kept-leg c k false x is = is

some-same : {x y : Port} → ◌≡◌ {A = Option Port} (Some x) (Some y) → x ≡ y
some-same e = cc

same-port : (a b chan id : ℕ) (p : Option Port) → p ≡ Some (record { chan = a; id = b })
    → p ≡ Some (record { chan = chan; id = id }) → (a ≡ chan) × (b ≡ id)
same-port a b chan id p one other = let same =
    some-same (sym one ∙ other) in (ap (λ (x : Port). x.chan) same, ap (λ (x : Port). x.id) same)

for-it : (n : ChanNo) (cell : Cell) (chan id : ℕ) → n.0 ≡ chan → cell.circ ≡ id → (cell.command == 4) ≡ true
    → is_destroy_for n cell chan id ≡ true
for-it n cell chan id same_chan same_id is = rw (← same_chan, ← same_id, self_eq n.0, self_eq cell.circ) is

loses : (start : SwitchStart) (h : List Step) (n : ChanNo) (tick : ℕ) (cell : Cell) (c k : ℕ) → IsLegal start h
    → is_leg c k (at h n.0 cell.circ) ≡ true → (cell.command == 4) ≡ true → Lost (NextCell n tick (Some cell) ∷ h) c k
loses start h n tick cell c k legal here is =
    let own = ported start h legal c k n.0 cell.circ here in
    record {
      made = ap is_some own;
      gone = λ chan id has.
          let same = same-port n.0 cell.circ chan id (port h c k) own
          (ported start h legal c k chan id (kept-leg c k (is_destroy_for n cell chan id) (at h chan id) has)) in
          gone-by c k (is_destroy_for n cell chan id) (at h chan id) (for-it n cell chan id same.0 same.1 is) has;
    }

lost-by : (start : SwitchStart) (h : List Step) (n : ChanNo) (tick : ℕ) (cell : Cell) (c k : ℕ) (b : Bool)
    → (is_leg c k (at h n.0 cell.circ) && (cell.command == 4)) ≡ b → IsLegal start (NextCell n tick (Some cell) ∷ h) →
    (is_ended_by_us h c k ≡ true → Lost h c k)
    → (if is_leg c k (at h n.0 cell.circ) && (cell.command == 4) then true else is_ended_by_us h c k) ≡ true
    → Lost (NextCell n tick (Some cell) ∷ h) c k
lost-by start h n tick cell c k true is legal before ended =
    loses start h n tick cell c k legal.1 (and-first (is_leg c k (at h n.0 cell.circ)) _ is)
    (and-second (is_leg c k (at h n.0 cell.circ)) _ is)
lost-by start h n tick cell c k false is legal before ended =
    stays-lost start h (NextCell n tick (Some cell)) c k legal (before (rw is at ended))

pub ended-lost : (start : SwitchStart) (h : List Step) → IsLegal start h → (c k : ℕ) → is_ended_by_us h c k ≡ true → Lost h c k
ended-lost start [] legal c k ended = absurd cc
ended-lost start (NextCell n tick (Some cell) ∷ h) legal c k ended =
    lost-by start h n tick cell c k _ refl legal (ended-lost start h legal.1 c k) ended
ended-lost start (s ∷ h) legal c k ended = stays-lost start h s c k legal (ended-lost start h legal.1 c k ended)

-- nothing leaves on a leg that has ended
not-true : (b : Bool) → (b ≡ true → ⊥) → b ≡ false
not-true true never = absurd (never refl)
not-true false never = refl

pub ended_leg_is_gone : (start : SwitchStart) (h : List Step) (c k chan id : ℕ) → IsLegal start h → is_ended_by_us h c k ≡ true
    → is_leg c k (at h chan id) ≡ false
ended_leg_is_gone start h c k chan id legal ended =
    not-true (is_leg c k (at h chan id)) ((ended-lost start h legal c k ended).gone chan id)

-- so one DESTROY leaves at most
abbrev OneSent : Rules → List Step → ℕ → ℕ → Type 0
OneSent rules h c k =
    (sent_torn rules h c k ≡ [])
    ⊎ ((reason : ℕ) × ((sent_torn rules h c k ≡ destroy reason ∷ []) × (is_ended_by_us h c k ≡ true)))

or-true : (b x : Bool) → x ≡ true → (if b then true else x) ≡ true
or-true true x is = refl
or-true false x is = is

torn-is : (live : Bool) → not live ≡ true → live ≡ false
torn-is true is = absurd cc
torn-is false is = refl

cell-is : (cell : Cell) (d : Destroy) → cell ≡ cell_at d.id (destroy d.reason) → (circuit_cell cell ≡ destroy d.reason)
    × ((cell.command == 4) ≡ true)
cell-is cell d is = (ap circuit_cell is, ap (λ (x : Cell). x.command == 4) is)

first-sent : (start : SwitchStart) (h : List Step) (n : ChanNo) (tick : ℕ) (cell : Cell) (c k : ℕ)
    → IsLegal start (NextCell n tick (Some cell) ∷ h) → (is_leg c k (at h n.0 cell.circ) && not (is_live_circuit start.rules h c))
    ≡ true →
    sent_torn start.rules h c k ≡ [] → OneSent start.rules (NextCell n tick (Some cell) ∷ h) c k
first-sent start h n tick cell c k legal is none =
    let here = and-first (is_leg c k (at h n.0 cell.circ)) _ is in
    let torn = torn-is (is_live_circuit start.rules h c) (and-second (is_leg c k (at h n.0 cell.circ)) _ is) in
    let oldest = torn_sends_destroy start.rules h n.0 tick c k cell (sym legal.0.1) here torn in
    let own = cell-is cell oldest.oldest oldest.cell_is in
    inr (oldest.oldest.reason, (rw (is, none) (ap (λ x. x ∷ []) own.0), rw (here, own.1) refl))

sent-by : (start : SwitchStart) (h : List Step) (n : ChanNo) (tick : ℕ) (cell : Cell) (c k : ℕ) (b : Bool)
    → (is_leg c k (at h n.0 cell.circ) && not (is_live_circuit start.rules h c)) ≡ b
    → IsLegal start (NextCell n tick (Some cell) ∷ h) →
    OneSent start.rules h c k → OneSent start.rules (NextCell n tick (Some cell) ∷ h) c k
sent-by start h n tick cell c k true is legal (inl none) = first-sent start h n tick cell c k legal is none
sent-by start h n tick cell c k true is legal (inr some) =
    absurd ((ended-lost start h legal.1 c k some.1.1).gone n.0 cell.circ (and-first (is_leg c k (at h n.0 cell.circ)) _ is))
sent-by start h n tick cell c k false is legal (inl none) = inl (rw is none)
sent-by start h n tick cell c k false is legal (inr some) =
    inr (
      some.0,
      (rw is some.1.0, or-true (is_leg c k (at h n.0 cell.circ) && (cell.command == 4)) (is_ended_by_us h c k) some.1.1),
    )

one-sent : (start : SwitchStart) (h : List Step) → IsLegal start h → (c k : ℕ) → OneSent start.rules h c k
one-sent start [] legal c k = inl refl
one-sent start (NextCell n tick (Some cell) ∷ h) legal c k =
    sent-by start h n tick cell c k _ refl legal (one-sent start h legal.1 c k)
one-sent start (s ∷ h) legal c k = one-sent start h legal.1 c k

one-of : (rules : Rules) (h : List Step) (c k : ℕ) → OneSent rules h c k → IsOneDestroy (sent_torn rules h c k)
one-of rules h c k (inl none) = inl none
one-of rules h c k (inr some) = inr (some.0, some.1.0)

pub torn_sends_one : (start : SwitchStart) (h : List Step) (c k : ℕ) → IsLegal start h
    → IsOneDestroy (sent_torn start.rules h c k)
torn_sends_one start h c k legal = one-of start.rules h c k (one-sent start h legal c k)
