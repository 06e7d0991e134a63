-- At most as many bodies were taken on a circuit as steps were made.
use Rattle.std.proofs.Common.{◌≡◌, ℕ, ◌+◌, ◌++◌, ◌≤◌, ◌<◌, List, [], ◌∷◌, length, get_or, slice_set, Option, Some, None, IfSome, refl, sym, ap, ◌∙◌, subst, length-append, arith, zero, suc}
use Rattle.circuit_model.specs.Events.{CircuitCell}
use Rattle.switch_machine.specs.State.{ChannelState, CircuitState, LegState, slot_at}
use Rattle.switch_machine.specs.Calls.NextCell.{circuit_sent}
use Rattle.switch_machine.specs.Calls.Take.{forth_waits}
use Rattle.switch_core.specs.Meaning.{TakenFit, StepsFit}
use Rattle.switch_core.specs.Picking.{SlotSent}
use Rattle.switch_core.specs.Taking.{slot_with_body}
use Rattle.switch_core.specs.declared.counters.Counters.{Counters}
use Rattle.switch_core.proofs.Gone.{slot-get}
use Rattle.switch_core.proofs.Lanes.{lanes_more}

abbrev pub taken_count : CircuitState → ℕ
taken_count x = x.forth.claimed_count + length x.forth.waiting_bodies

pub taken_more : (m n : ℕ) (circuits : List (Option CircuitState)) → m ≤ n → TakenFit m circuits → TakenFit n circuits
taken_more m n circuits below old = record { fits = λ c x live. omega (arith, below, old.fits c x live) }

nothing : (circuits : List (Option CircuitState)) (c : ℕ) (x : CircuitState) → circuits ≡ [] → slot_at circuits c ≡ Some x → ⊥
unfolding slot_at
nothing [] c x none live = cc
nothing (y ∷ circuits) c x none live = cc

pub none_taken : (n : ℕ) (circuits : List (Option CircuitState)) → circuits ≡ [] → TakenFit n circuits
none_taken n circuits none = record { fits = λ c x live. absurd (nothing circuits c x none live) }

fits-some : (n : ℕ) (new : Option CircuitState) (x : CircuitState) → IfSome new (λ y. taken_count y ≤ n) → new ≡ Some x
    → taken_count x ≤ n
fits-some n None x fits is = cc
fits-some n (Some y) x fits is = let same : y ≡ x = cc in subst (λ (z : CircuitState). taken_count z ≤ n) same fits

set-at : (circuits : List (Option CircuitState)) (c n : ℕ) (new : Option CircuitState) (i : ℕ) (x : CircuitState)
    → slot_at (slice_set circuits c new) i ≡ Some x →
    ((j : ℕ) (y : CircuitState) → slot_at circuits j ≡ Some y → taken_count y ≤ n) → IfSome new (λ y. taken_count y ≤ n)
    → taken_count x ≤ n
unfolding slot_at
set-at [] c n new i x live old fits = old i x live
set-at (y ∷ circuits) zero n new zero x live old fits = fits-some n new x fits live
set-at (y ∷ circuits) zero n new (suc i) x live old fits = old (suc i) x live
set-at (y ∷ circuits) (suc c) n new zero x live old fits = old zero x live
set-at (y ∷ circuits) (suc c) n new (suc i) x live old fits = set-at circuits c n new i x live (λ j z at. old (suc j) z at) fits

-- one circuit changes, or goes
pub taken_set : (n : ℕ) (circuits : List (Option CircuitState)) (c : ℕ) (new : Option CircuitState) → TakenFit n circuits
    → IfSome new (λ y. taken_count y ≤ n) → TakenFit n (slice_set circuits c new)
taken_set n circuits c new old fits = record { fits = λ i x live. set-at circuits c n new i x live old.fits fits }

push-at : (circuits : List (Option CircuitState)) (n : ℕ) (last : Option CircuitState) (i : ℕ) (x : CircuitState)
    → slot_at (circuits ++ last ∷ []) i ≡ Some x →
    ((j : ℕ) (y : CircuitState) → slot_at circuits j ≡ Some y → taken_count y ≤ n) → IfSome last (λ y. taken_count y ≤ n)
    → taken_count x ≤ n
unfolding slot_at
push-at [] n last zero x live old fits = fits-some n last x fits live
push-at [] n last (suc i) x live old fits = cc
push-at (y ∷ circuits) n last zero x live old fits = old zero x live
push-at (y ∷ circuits) n last (suc i) x live old fits = push-at circuits n last i x live (λ j z at. old (suc j) z at) fits

pub taken_push : (n : ℕ) (circuits : List (Option CircuitState)) (last : Option CircuitState) → TakenFit n circuits
    → IfSome last (λ y. taken_count y ≤ n) → TakenFit n (circuits ++ last ∷ [])
taken_push n circuits last old fits = record { fits = λ i x live. push-at circuits n last i x live old.fits fits }

-- with the other bounds

pub fits_next : (k : Counters) (channels : List ChannelState) (circuits : List (Option CircuitState))
    → StepsFit k channels circuits → StepsFit (record k { steps = k.steps + 1 }) channels circuits
fits_next k channels circuits old = record {
  lanes = lanes_more k.steps (k.steps + 1) channels (omega arith) old.lanes;
  taken = taken_more k.steps (k.steps + 1) circuits (omega arith) old.taken;
  bodies_fit = omega (arith, old.bodies_fit);
  claims_fit = omega (arith, old.claims_fit);
  dials_fit = omega (arith, old.dials_fit);
}

pub fits_circuit : (k : Counters) (channels : List ChannelState) (circuits : List (Option CircuitState)) (c : ℕ)
    (new : Option CircuitState) → StepsFit k channels circuits → IfSome new (λ y. taken_count y ≤ k.steps)
    → StepsFit k channels (slice_set circuits c new)
fits_circuit k channels circuits c new old fits = record {
  lanes = old.lanes;
  taken = taken_set k.steps circuits c new old.taken fits;
  bodies_fit = old.bodies_fit;
  claims_fit = old.claims_fit;
  dials_fit = old.dials_fit;
}

fits-gone : (n : ℕ) (new : Option CircuitState) → new ≡ None → IfSome new (λ y. taken_count y ≤ n)
fits-gone n None is = tt
fits-gone n (Some y) is = absurd cc

pub fits_without : (k : Counters) (channels : List ChannelState) (circuits : List (Option CircuitState)) (c : ℕ)
    (new : Option CircuitState) → StepsFit k channels circuits → new ≡ None → StepsFit k channels (slice_set circuits c new)
fits_without k channels circuits c new old gone = fits_circuit k channels circuits c new old (fits-gone k.steps new gone)

live-fits : (n : ℕ) (circuits : List (Option CircuitState)) (c : ℕ) (x : Option CircuitState) → TakenFit n circuits
    → slot_at circuits c ≡ x → IfSome x (λ y. taken_count y ≤ n)
live-fits n circuits c None old live = tt
live-fits n circuits c (Some y) old live = old.fits c y live

-- the circuit at a place of the list
pub taken_at : (n : ℕ) (circuits : List (Option CircuitState)) (c : ℕ) (x : Option CircuitState) → TakenFit n circuits
    → c < length circuits → x ≡ get_or circuits c x → IfSome x (λ y. taken_count y ≤ n)
taken_at n circuits c x old below at = live-fits n circuits c x old (slot-get circuits c x below ∙ sym at)

sent-same : (now : ℕ) (x : CircuitState) (leg : LegState) (cells : List CircuitCell)
    → taken_count (circuit_sent now 0 x leg cells) ≡ taken_count x
sent-same now x leg [] = refl
sent-same now x leg (cell ∷ cells) = refl

-- a cell that leaves takes no body
pub sent_fits : (n now : ℕ) (old new : Option CircuitState) → SlotSent now old new → IfSome old (λ y. taken_count y ≤ n)
    → IfSome new (λ y. taken_count y ≤ n)
sent_fits n now None new gone fits = fits-gone n new gone
sent_fits n now (Some old) None sent fits = tt
sent_fits n now (Some old) (Some new) sent fits =
    subst (λ m. m ≤ n) (sym (ap taken_count sent.sent ∙ sent-same now old sent.found sent.found.queue)) fits

-- one more body does, in a step
pub waits_fits : (n number : ℕ) (cell : CircuitCell) (old new : Option CircuitState) → new ≡ slot_with_body number cell old
    → IfSome old (λ y. taken_count y ≤ n) → IfSome new (λ y. taken_count y ≤ n + 1)
waits_fits n number cell None new is fits = fits-gone (n + 1) new is
waits_fits n number cell (Some old) None is fits = tt
waits_fits n number cell (Some old) (Some new) is fits =
    let same : new ≡ forth_waits number cell old = cc in
    let more : length new.forth.waiting_bodies ≡ length old.forth.waiting_bodies + 1 =
    ap (λ (x : CircuitState). length x.forth.waiting_bodies) same
    ∙ length-append old.forth.waiting_bodies (record { number = number; cell = cell } ∷ []) in
    let out : new.forth.claimed_count ≡ old.forth.claimed_count = ap (λ (x : CircuitState). x.forth.claimed_count) same in
    omega (arith, more, out, fits)

pub fits_taken : (k : Counters) (channels : List ChannelState) (circuits : List (Option CircuitState)) (c : ℕ)
    (new : Option CircuitState) → StepsFit k channels circuits → IfSome new (λ y. taken_count y ≤ k.steps + 1) →
    StepsFit (record k { steps = k.steps + 1; bodies = k.bodies + 1 }) channels (slice_set circuits c new)
fits_taken k channels circuits c new old fits = record {
  lanes = lanes_more k.steps (k.steps + 1) channels (omega arith) old.lanes;
  taken = taken_set (k.steps + 1) circuits c new (taken_more k.steps (k.steps + 1) circuits (omega arith) old.taken) fits;
  bodies_fit = omega (arith, old.bodies_fit);
  claims_fit = omega (arith, old.claims_fit);
  dials_fit = omega (arith, old.dials_fit);
}

-- a circuit that is opened
pub fits_opened : (k : Counters) (channels : List ChannelState) (circuits : List (Option CircuitState)) (x : CircuitState)
    → StepsFit k channels circuits → taken_count x ≡ 0 →
    StepsFit (record k { steps = k.steps + 1 }) channels (circuits ++ Some x ∷ [])
fits_opened k channels circuits x old none = record {
  lanes = lanes_more k.steps (k.steps + 1) channels (omega arith) old.lanes;
  taken = taken_push (k.steps + 1) circuits (Some x) (taken_more k.steps (k.steps + 1) circuits (omega arith) old.taken)
      (omega (arith, none));
  bodies_fit = omega (arith, old.bodies_fit);
  claims_fit = omega (arith, old.claims_fit);
  dials_fit = omega (arith, old.dials_fit);
}
