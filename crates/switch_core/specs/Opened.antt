-- What an opening keeps for the one-thread relay, and a teardown forgets.
use Rattle.std.specs.Prelude.{ℕ, ◌≡◌, ◌==◌, false, length, List, [], ◌∷◌, ◌++◌, Option, Some, None}
use Rattle.circuit_model.specs.Events.{CircuitCell}
use Rattle.circuit_model.specs.declared.event.Event.TheVariants.{Born}
use Rattle.circuit_model.specs.Rules.{Rules}
use Rattle.kdf_tor.specs.declared.LayerKeys.{LayerKeys}
use Rattle.tr_io.specs.declared.answers.BackAnswer.{BackAnswer}
use Rattle.tr_io.specs.declared.answers.OpenAnswer.{OpenAnswer}
use Rattle.tr_io.specs.declared.answers.TakeAnswer.{TakeAnswer}
use Rattle.switch_machine.specs.State.{slot_at}
use Rattle.switch_core.specs.Relays.{RelayStands}
use Rattle.switch_core.specs.declared.relay.Relay.{Relay}

-- One more relay, that of a circuit which was opened with these keys.
pub record OneRelayMore (keys : LayerKeys) (pad : Option (List ℕ)) (rules : Rules) (old new : List (Option Relay)) : Type 0 where
  pub relay : Relay
  pub stands : (reply : CircuitCell) → RelayStands relay rules (Born reply keys pad ∷ []) 0
  pub relay_added : new ≡ old ++ Some relay ∷ []

abbrev pub KeepsRelay : Option LayerKeys → Option (List ℕ) → Rules → List (Option Relay) → List (Option Relay) → Type 0
KeepsRelay None pad rules old new = new ≡ old
KeepsRelay (Some keys) pad rules old new = OneRelayMore keys pad rules old new

-- By the answer to the opening.
abbrev pub KeepsBy : OpenAnswer → Option LayerKeys → Option (List ℕ) → Rules → List (Option Relay) → List (Option Relay) → Type 0
KeepsBy (OpenAnswer.Opened n) keys pad rules old new = KeepsRelay keys pad rules old new
KeepsBy (OpenAnswer.Refused why) keys pad rules old new = new ≡ old
KeepsBy OpenAnswer.Memory keys pad rules old new = new ≡ old

-- The relay of this circuit is gone, and all others are there.
pub record Forgets (old new : List (Option Relay)) (c : ℕ) : Type 0 where
  pub count : length new ≡ length old
  pub gone : slot_at new c ≡ None
  pub others : (d : ℕ) → (d == c) ≡ false → slot_at new d ≡ slot_at old d

-- A cell that tears its circuit down has the relay forgotten, and no other has.
abbrev pub TakeForgets : TakeAnswer → List (Option Relay) → List (Option Relay) → Type 0
TakeForgets (TakeAnswer.Down circ reason) old new = Forgets old new circ.0
TakeForgets TakeAnswer.Queued old new = new ≡ old
TakeForgets (TakeAnswer.PassedOver why) old new = new ≡ old
TakeForgets TakeAnswer.Memory old new = new ≡ old

-- A return that tears its circuit down has the relay forgotten, and no other has.
abbrev pub ForgetsDown : BackAnswer → List (Option Relay) → List (Option Relay) → ℕ → Type 0
ForgetsDown (BackAnswer.Down reason) old new c = Forgets old new c
ForgetsDown BackAnswer.Settled old new c = new ≡ old
ForgetsDown BackAnswer.Gone old new c = new ≡ old
ForgetsDown (BackAnswer.Stranger why) old new c = new ≡ old
