-- When what is kept of the circuits for the one-thread relay is what a history says of them.
use Rattle.std.specs.Prelude.{ℕ, ◌≡◌, List, length, Bool, true, false, Option, Some, None}
use Rattle.circuit_model.specs.Batches.{next_layer}
use Rattle.circuit_model.specs.Events.{Event}
use Rattle.circuit_model.specs.Opened.{born_keys}
use Rattle.circuit_model.specs.Rules.{Rules}
use Rattle.circuit_model.specs.Words.{log}
use Rattle.circ_relay.specs.CircuitOfLog.{IsCircuit}
use Rattle.hop_crypto.specs.OpenerState.{opener_of}
use Rattle.hop_crypto.specs.SealerState.{sealer_of}
use Rattle.hop_crypto.specs.declared.cipher.Cipher.TheVariants.{Forth, Back}
use Rattle.switch_model.specs.History.Past.{Past}
use Rattle.switch_model.specs.History.Relayed.{settled_forth}
use Rattle.switch_core.specs.Settling.{CallsFit}
use Rattle.switch_machine.specs.State.{slot_at}
use Rattle.switch_core.specs.declared.relay.Relay.{Relay}

-- The relay of a circuit behind these events, of whose backward bodies so many were sealed. Its ciphers
-- (tor-spec, "Routing relay cells") are those of the next forward body, and of the next body that is sealed.
pub record RelayStands (relay : Relay) (rules : Rules) (events : List Event) (sealed : ℕ) : Type 0 where
  pub circuit : IsCircuit relay.circuit rules events
  pub forth : relay.forth ≡ Forth (opener_of (next_layer (log rules events)))
  pub back : relay.back ≡ Back (sealer_of (record { key = (born_keys (log rules events)).kb; sealed_count = sealed }))
  -- it counted no more than the forward bodies
  pub calls : CallsFit (length (settled_forth (log rules events))) relay.circuit

-- A live circuit has its relay, and nothing is kept of another.
abbrev pub RelayAt : Bool → Option Relay → Rules → List Event → ℕ → Type 0
RelayAt false kept_relay rules events sealed = kept_relay ≡ None
RelayAt true None rules events sealed = ⊥
RelayAt true (Some relay) rules events sealed = RelayStands relay rules events sealed

abbrev pub RelayOfPast : Option Relay → Rules → Past → Type 0
RelayOfPast kept_relay rules p = RelayAt p.live kept_relay rules p.events p.sealed_count

-- The relays of all circuits, by circuit number.
pub record RelaysStand (rules : Rules) (relays : List (Option Relay)) (count : ℕ) (p : ℕ → Past) : Type 0 where
  pub count_is : length relays ≡ count
  pub relay : (c : ℕ) → RelayOfPast (slot_at relays c) rules (p c)
