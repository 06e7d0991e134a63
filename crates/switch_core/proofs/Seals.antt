-- Backward bodies that come home.
use Rattle.std.proofs.Common.{◌≡◌, ℕ, ◌+◌, ◌-◌, ◌++◌, ◌≤◌, List, [], ◌∷◌, length, slice_set, Option, Some, None, IfSome, option_map, refl, sym, subst, length-append, arith}
use Rattle.circuit_model.specs.Events.{CircuitCell}
use Rattle.switch_machine.specs.Calls.GiveBack.{home_way}
use Rattle.switch_machine.specs.Calls.Settling.{more_queued, queued_on}
use Rattle.switch_machine.specs.Calls.Take.{kept_length}
use Rattle.switch_machine.specs.State.{ChannelState, CircuitState, LegState, WayState, slot_at, with_slot}
use Rattle.switch_core.specs.Meaning.{StepsFit, circuit_of, home_count}
use Rattle.switch_core.specs.Ordering.{OrdersState}
use Rattle.switch_core.specs.Sealing.{with_sealed}
use Rattle.switch_core.specs.declared.counters.Counters.{Counters}
use Rattle.switch_core.proofs.Taken.{fits_circuit, fits_next, taken_count}

same-but : (x : CircuitState) (m n : ℕ) (legs more : List (Option LegState)) (back : WayState) → m ≡ n → legs ≡ more
    → ◌≡◌ {A = CircuitState} (record x { sent_count = m; legs = legs; back = back })
    (record x { sent_count = n; legs = more; back = back })
same-but x m n legs more back e f = rw (e, f) refl

one-leg : (leg : LegState) (cells : List CircuitCell) → Some (more_queued cells leg) ∷ [] ≡ queued_on (Some leg ∷ []) 0 cells
unfolding slot_at with_slot
one-leg leg cells = refl

-- as many cells wait more as bodies came home more, so as many were sent as before
pub sealed_circuit : (leg : LegState) (forth back : WayState) (orders : OrdersState) (cells : List CircuitCell)
    → kept_length back.claim_out ≤ back.claimed_count → length cells ≡ kept_length back.claim_out →
    circuit_of (more_queued cells leg) forth (home_way back) orders ≡ with_sealed cells (circuit_of leg forth back orders)
sealed_circuit leg forth back orders cells out count =
    same-but (circuit_of leg forth back orders) (1 + home_count (home_way back) - length (leg.queue ++ cells))
    (1 + home_count back - length leg.queue) (Some (more_queued cells leg) ∷ []) (queued_on (Some leg ∷ []) 0 cells)
    (home_way back)
    (omega (arith, out, count, length-append leg.queue cells)) (one-leg leg cells)

sealed-by : (n : ℕ) (cells : List CircuitCell) (x : Option CircuitState) → IfSome x (λ y. taken_count y ≤ n)
    → IfSome (option_map (with_sealed cells) x) (λ y. taken_count y ≤ n)
sealed-by n cells None fits = tt
sealed-by n cells (Some y) fits = fits

-- a circuit whose bodies were sealed took none
pub fits_sealed : (k : Counters) (channels : List ChannelState) (circuits : List (Option CircuitState)) (c : ℕ)
    (cells : List CircuitCell) (old new : Option CircuitState) → StepsFit k channels circuits
    → IfSome old (λ y. taken_count y ≤ k.steps) → new ≡ option_map (with_sealed cells) old →
    StepsFit (record k { steps = k.steps + 1 }) channels (slice_set circuits c new)
fits_sealed k channels circuits c cells old new fits taken is =
    fits_next k channels (slice_set circuits c new)
    (fits_circuit k channels circuits c new fits
    (subst (λ (x : Option CircuitState). IfSome x (λ y. taken_count y ≤ k.steps)) (sym is)
    (sealed-by k.steps cells old taken)))
