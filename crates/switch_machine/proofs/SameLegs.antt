-- A circuit of the switch changes, and its legs and its dial order stay: what a state stands for by its legs
-- and its dial orders stays.
use Rattle.std.proofs.Common.{◌≡◌, Bool, List, Option, Some, ℕ}
use Rattle.std.proofs.Math.Path.{fun_ext}
use Rattle.switch_model.specs.Names.{Leg}
use Rattle.switch_model.specs.Waiting.Lanes.{Destroy}
use Rattle.switch_machine.specs.Machine.{dial_at, dial_in, leg_at, leg_in}
use Rattle.switch_machine.specs.Stands.CircIds.{CircIdsStand}
use Rattle.switch_machine.specs.Stands.Counts.{CountsStand}
use Rattle.switch_machine.specs.Stands.Dials.{DialsStand}
use Rattle.switch_machine.specs.Stands.Legs.{LegsStand}
use Rattle.switch_machine.specs.State.{ChannelState, CircuitState, DialState, LegState, State, slot_at, with_slot}
use Rattle.switch_machine.proofs.OneCircuit.{dial_in-kept, leg_in-kept}

pub legs-kept : (s : State) (c : ℕ) (x y : CircuitState) → slot_at s.circuits c ≡ Some x → y.legs ≡ x.legs
    → ◌≡◌ {A = Leg → Option LegState} (λ leg. leg_at (slot_at (with_slot s.circuits c (Some y)) leg.circ) leg.number) (leg_in s)
legs-kept s c x y found same = fun_ext (λ leg. leg_in-kept s c x y found same leg)

pub all-dials-kept : (s : State) (c : ℕ) (x y : CircuitState) → slot_at s.circuits c ≡ Some x → y.dial ≡ x.dial →
    ◌≡◌ {A = ℕ → Option DialState} (λ d. dial_at (slot_at (with_slot s.circuits c (Some y)) d)) (dial_in s)
all-dials-kept s c x y found same = fun_ext (dial_in-kept s c x y found same)

pub ids-same : (f g : Leg → Option LegState) (lanes : ℕ → List Destroy) (at_id : ℕ → ℕ → Option Leg) → f ≡ g
    → CircIdsStand g lanes at_id → CircIdsStand f lanes at_id
ids-same f g lanes at_id same own = rw same own

pub legs-same : (slots : List (Option ChannelState)) (f g : Leg → Option LegState) → f ≡ g → LegsStand slots g → LegsStand slots f
legs-same slots f g same own = rw same own

pub counts-same : (f g : Leg → Option LegState) (count : ℕ → ℕ → ℕ) (now m n : ℕ) → f ≡ g → m ≡ n → CountsStand g count now n
    → CountsStand f count now m
counts-same f g count now m n same size own = rw (same, size) own

pub dials-same : (again : List ℕ) (f g : ℕ → Option DialState) (dial_count : ℕ) (handed_out : ℕ → Bool) → f ≡ g
    → DialsStand again g dial_count handed_out → DialsStand again f dial_count handed_out
dials-same again f g dial_count handed_out same own = rw same own
