-- The relays of a switch's circuits.
use Rattle.std.proofs.Common.{◌≡◌, ℕ, ◌+◌, ◌==◌, ◌++◌, Bool, true, false, if◌then◌else◌, List, [], ◌∷◌, length, Option, Some, None, refl, sym, ◌∙◌, ap, subst, arith, length-append}
use Rattle.std.proofs.lemmas.Bool.Decides.{nat_tests}
use Rattle.cell_codec.specs.declared.cell.Cell.{Cell}
use Rattle.circ_relay.specs.CircuitOfLog.{IsCircuit}
use Rattle.circuit_model.specs.Effects.{open_effects}
use Rattle.circuit_model.specs.Events.{Event, CircuitCell}
use Rattle.circuit_model.specs.declared.event.Event.TheVariants.{Born}
use Rattle.circuit_model.specs.Rules.{Rules}
use Rattle.crypto_spec.specs.HopLayer.{fresh_opening}
use Rattle.hop_crypto.specs.OpenerState.{opener_of}
use Rattle.hop_crypto.specs.declared.cipher.Cipher.TheVariants.{Forth, Back}
use Rattle.kdf_tor.specs.declared.LayerKeys.{LayerKeys}
use Rattle.tr_io.specs.declared.step.Step.{Step}
use Rattle.switch_model.specs.Names.{circuit_cell}
use Rattle.switch_model.specs.History.Circuit.{is_live_circuit, events}
use Rattle.switch_model.specs.History.Legs.{circuits}
use Rattle.switch_model.specs.History.Past.{Past, past}
use Rattle.switch_model.proofs.Common.{self_eq, same-number}
use Rattle.switch_machine.specs.State.{slot_at}
use Rattle.switch_machine.specs.Stands.OneCircuit.{no_past}
use Rattle.switch_machine.proofs.OpenCircuit.Past.{opening, past-other}
use Rattle.switch_machine.proofs.Slots.{slot_at-push}
use Rattle.switch_core.specs.Opened.{Forgets}
use Rattle.switch_core.specs.Settling.{CallsFit}
use Rattle.switch_core.specs.Relays.{RelayStands, RelayAt, RelayOfPast, RelaysStand}
use Rattle.switch_core.specs.declared.relay.Relay.{Relay}

-- the relay of a circuit that was just opened
pub born_stands : (relay : Relay) (rules : Rules) (keys : LayerKeys) (pad : Option (List ℕ)) (reply : CircuitCell) →
    IsCircuit relay.circuit rules (Born reply keys pad ∷ []) → relay.forth ≡ Forth (opener_of (fresh_opening keys.kf keys.df)) →
    relay.back ≡ Back (record { key = keys.kb; position = 0 }) → CallsFit 0 relay.circuit
    → RelayStands relay rules (Born reply keys pad ∷ []) 0
unfolding open_effects
born_stands relay rules keys pad reply circuit forth back calls =
    record { circuit = circuit; forth = forth; back = back; calls = calls }

-- what the history says of the circuit of an opening

live-born : (rules : Rules) (h : List Step) (chan id : ℕ) (reply : Cell) (keys : LayerKeys) (pad : Option (List ℕ)) (n : ℕ) →
    is_live_circuit rules (opening chan id reply keys pad n ∷ h) n ≡ true
live-born rules h chan id reply keys pad n = simp (self_eq n)

events-born : (rules : Rules) (h : List Step) (chan id : ℕ) (reply : Cell) (keys : LayerKeys) (pad : Option (List ℕ)) (n : ℕ)
    → past rules h n ≡ no_past →
    events rules (opening chan id reply keys pad n ∷ h) n ≡ Born (circuit_cell reply) keys pad ∷ []
events-born rules h chan id reply keys pad n fresh =
    let none : events rules h n ≡ [] = ap (λ (p : Past). p.events) fresh in
    simp (self_eq n, none)

at-born : (live : Bool) (relay : Relay) (rules : Rules) (ev born : List Event) (sealed : ℕ) → live ≡ true → ev ≡ born → sealed ≡ 0
    → RelayStands relay rules born 0 →
    RelayAt live (Some relay) rules ev sealed
at-born live relay rules ev born sealed e f g stands = rw (e, f, g) stands

new-relay : (rules : Rules) (h : List Step) (chan id : ℕ) (reply : Cell) (keys : LayerKeys) (pad : Option (List ℕ)) (n : ℕ)
    (relay : Relay) → past rules h n ≡ no_past →
    RelayStands relay rules (Born (circuit_cell reply) keys pad ∷ []) 0
    → RelayOfPast (Some relay) rules (past rules (opening chan id reply keys pad n ∷ h) n)
new-relay rules h chan id reply keys pad n relay fresh stands =
    at-born _ relay rules _ (Born (circuit_cell reply) keys pad ∷ []) _ (live-born rules h chan id reply keys pad n)
    (events-born rules h chan id reply keys pad n fresh) (ap (λ (p : Past). p.sealed_count) fresh) stands

-- one more circuit
pushed-by : (rules : Rules) (h : List Step) (chan id : ℕ) (reply : Cell) (keys : LayerKeys) (pad : Option (List ℕ)) (n : ℕ)
    (relay : Relay) (kept_relay : Option Relay) (c : ℕ) (b : Bool) → (c == n) ≡ b → past rules h n ≡ no_past →
    RelayStands relay rules (Born (circuit_cell reply) keys pad ∷ []) 0 → RelayOfPast kept_relay rules (past rules h c) →
    RelayOfPast (if b then Some relay else kept_relay) rules (past rules (opening chan id reply keys pad n ∷ h) c)
pushed-by rules h chan id reply keys pad n relay kept_relay c true same fresh stands old =
    subst (λ m. RelayOfPast (Some relay) rules (past rules (opening chan id reply keys pad n ∷ h) m)) (sym (same-number c n same))
    (new-relay rules h chan id reply keys pad n relay fresh stands)
pushed-by rules h chan id reply keys pad n relay kept_relay c false other fresh stands old =
    let apart : (n == c) ≡ false = grind (arith, nat_tests) in
    subst (λ p. RelayOfPast kept_relay rules p) (sym (past-other rules h chan id reply keys pad n c apart)) old

pub opened_relays : (rules : Rules) (h : List Step) (chan id : ℕ) (reply : Cell) (keys : LayerKeys) (pad : Option (List ℕ))
    (n : ℕ) (relay : Relay) (relays : List (Option Relay)) → n ≡ length relays → past rules h n ≡ no_past →
    RelayStands relay rules (Born (circuit_cell reply) keys pad ∷ []) 0
    → RelaysStand rules relays (circuits h) (λ c. past rules h c) →
    RelaysStand rules (relays ++ Some relay ∷ []) (circuits h + 1) (λ c. past rules (opening chan id reply keys pad n ∷ h) c)
opened_relays rules h chan id reply keys pad n relay relays is fresh stands old = record {
  count_is = length-append relays (Some relay ∷ []) ∙ ap (λ m. m + 1) old.count_is;
  relay = λ c.
      subst (λ x. RelayOfPast x rules (past rules (opening chan id reply keys pad n ∷ h) c))
      (sym (slot_at-push relays (Some relay) c ∙ ap (λ m. if c == m then Some relay else slot_at relays c) (sym is)))
      (pushed-by rules h chan id reply keys pad n relay (slot_at relays c) c (c == n) refl fresh stands (old.relay c));
}

-- a relay that was forgotten

gone-at : (live : Bool) (kept_relay : Option Relay) (rules : Rules) (ev : List Event) (sealed : ℕ) → live ≡ false
    → kept_relay ≡ None → RelayAt live kept_relay rules ev sealed
gone-at live kept_relay rules ev sealed gone none = rw gone none

torn-by : (rules : Rules) (h : List Step) (step : Step) (c d : ℕ) (relays after : List (Option Relay)) (b : Bool) → (d == c) ≡ b
    → is_live_circuit rules (step ∷ h) c ≡ false →
    ((e : ℕ) → (e == c) ≡ false → past rules (step ∷ h) e ≡ past rules h e) → Forgets relays after c
    → RelayOfPast (slot_at relays d) rules (past rules h d) →
    RelayOfPast (slot_at after d) rules (past rules (step ∷ h) d)
torn-by rules h step c d relays after true same gone others forgets old =
    let is : d ≡ c = same-number d c same in
    gone-at _ (slot_at after d) rules _ _ (ap (λ m. is_live_circuit rules (step ∷ h) m) is ∙ gone)
    (ap (λ m. slot_at after m) is ∙ forgets.gone)
torn-by rules h step c d relays after false other gone others forgets old =
    subst (λ x. RelayOfPast x rules (past rules (step ∷ h) d)) (sym (forgets.others d other))
    (subst (λ p. RelayOfPast (slot_at relays d) rules p) (sym (others d other)) old)

pub relays_torn : (rules : Rules) (h : List Step) (step : Step) (c : ℕ) (relays after : List (Option Relay))
    → circuits (step ∷ h) ≡ circuits h → is_live_circuit rules (step ∷ h) c ≡ false →
    ((e : ℕ) → (e == c) ≡ false → past rules (step ∷ h) e ≡ past rules h e) → Forgets relays after c →
    RelaysStand rules relays (circuits h) (λ e. past rules h e)
    → RelaysStand rules after (circuits (step ∷ h)) (λ e. past rules (step ∷ h) e)
relays_torn rules h step c relays after count gone others forgets old = record {
  count_is = forgets.count ∙ old.count_is ∙ sym count;
  relay = λ d. torn-by rules h step c d relays after (d == c) refl gone others forgets (old.relay d);
}
