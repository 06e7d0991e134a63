-- What a worked job that comes home makes of the switch and of its circuit's relay.
use Rattle.std.specs.Prelude.{ℕ, ◌≡◌, ◌==◌, ◌+◌, ⊤, false, length, List, Option, Some, None}
use Rattle.circuit_model.specs.Rules.{Rules}
use Rattle.hop_crypto.specs.declared.cipher.Cipher.{Cipher}
use Rattle.relay_cell.specs.declared.head.Opened.{Opened}
use Rattle.tr_io.specs.declared.answers.BackAnswer.{BackAnswer}
use Rattle.switch_machine.specs.State.{CircuitState, State, slot_at}
use Rattle.switch_core.specs.Meaning.{home_count}
use Rattle.switch_core.specs.Opened.{Forgets}
use Rattle.switch_core.specs.Sealing.{sealed_by, sealed_cells_of}
use Rattle.switch_core.specs.Settling.{CallsFit, CallsGrow, PartsSettle}
use Rattle.switch_core.specs.declared.relay.Relay.{Relay}

-- One relay changes, and no other does.
pub record PutsRelay (old new : List (Option Relay)) (c : ℕ) (relay : Relay) : Type 0 where
  pub count : length new ≡ length old
  pub put : slot_at new c ≡ Some relay
  pub others : (d : ℕ) → (d == c) ≡ false → slot_at new d ≡ slot_at old d

-- The relay of the circuit behind a return, or none.
abbrev pub RelayHome : BackAnswer → List (Option Relay) → List (Option Relay) → ℕ → Relay → Type 0
RelayHome BackAnswer.Settled old new c relay = PutsRelay old new c relay
RelayHome (BackAnswer.Down reason) old new c relay = Forgets old new c
RelayHome BackAnswer.Gone old new c relay = ⊤
RelayHome (BackAnswer.Stranger why) old new c relay = ⊤

-- The relay of a live circuit counted no more than the circuit's forward bodies that came home.
abbrev pub slot_calls : Option Relay → Option CircuitState → Type 0
slot_calls (Some relay) (Some x) = CallsFit (home_count x.forth) relay.circuit
slot_calls None x = ⊤
slot_calls (Some relay) None = ⊤

-- The bodies of a forward job acted on a circuit, whose relay has the cipher behind them.
pub record SlotHome (rules : Rules) (old new : State) (slot after : Option Relay) (c : ℕ) (end : Cipher)
    (opened_bodies : List Opened) (answer : BackAnswer) : Type 0 where
  pub relay : Relay
  pub next : Relay
  pub there : slot ≡ Some relay
  pub put : after ≡ Some next
  pub settles : PartsSettle rules old new c relay.circuit next.circuit opened_bodies answer
  pub steps : new.steps ≡ old.steps + 1
  pub grown : CallsGrow (length opened_bodies) relay.circuit next.circuit
  pub forth : next.forth ≡ end
  pub back : next.back ≡ relay.back

-- The same by the relays of all circuits, where that of a circuit that was torn down is forgotten.
pub record HomeForth (rules : Rules) (old new : State) (relays after : List (Option Relay)) (c : ℕ) (end : Cipher)
    (opened_bodies : List Opened) (answer : BackAnswer) : Type 0 where
  pub relay : Relay
  pub next : Relay
  pub there : slot_at relays c ≡ Some relay
  pub settles : PartsSettle rules old new c relay.circuit next.circuit opened_bodies answer
  pub steps : new.steps ≡ old.steps + 1
  pub grown : CallsGrow (length opened_bodies) relay.circuit next.circuit
  pub forth : next.forth ≡ end
  pub back : next.back ≡ relay.back
  pub home : RelayHome answer relays after c next

-- A relay with this cipher for the next bodies back.
abbrev pub with_back : Cipher → Option Relay → Option Relay
with_back end (Some relay) = Some (record relay { back = end })
with_back end None = None

-- The bodies of a backward job are the next cells of the leg, and the relay has the cipher behind them.
pub record HomeBack (old new : State) (relays after : List (Option Relay)) (c : ℕ) (end : Cipher) (sealed : List Opened) : Type 0
  where
    pub relay : Relay
    pub there : slot_at relays c ≡ Some relay
    pub state : new ≡ sealed_by old c (sealed_cells_of sealed)
    pub puts : PutsRelay relays after c (record relay { back = end })
