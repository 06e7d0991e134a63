-- A relay cell from the client, and the parts of a circuit behind it.
use Rattle.std.proofs.Common.{◌≡◌, ℕ, List, false, Some, None, refl, ap}
use Rattle.sendme_windows.specs.WindowsState.{HasCountsOf}
use Rattle.circuit_model.specs.declared.event.Event.TheVariants.{Forward}
use Rattle.circuit_model.specs.Rules.{Rules}
use Rattle.circuit_model.specs.Log.{Entry, Log, Message, Effects, is_closed}
use Rattle.circuit_model.specs.Places.{place_of}
use Rattle.circuit_model.specs.Received.{received, message_at}
use Rattle.circuit_model.specs.declared.message.Received.TheVariants.{ForUs}
use Rattle.circuit_model.specs.Effects.{message_effects, open_effects, effects_after}
use Rattle.circuit_model.specs.Words.{entry_after}
use Rattle.circ_relay.specs.declared.circuit.Circuit.{Circuit}
use Rattle.circ_relay.specs.BroughtMessages.{after_cell}
use Rattle.circ_relay.specs.CircuitOfLog.{HasParts}
use Rattle.circ_relay.specs.Packaging.{IsPackagedNext}
use Rattle.circ_relay.specs.PlacesOfLog.{ArePlaces}
use Rattle.circ_relay.specs.WindowOfLog.{window_of}
use Rattle.circ_relay.proofs.Longer.{KeepsStreams, IsAside, aside_by, packager_after, parts_after}

-- What a message is to its event.

pub message_of_cell : (log : Log) (command : ℕ) (body : List ℕ) (m : Message) → is_closed log ≡ false
    → received log command body ≡ ForUs m
    → message_at log (Forward command body) ≡ Some m
message_of_cell log command body m unclosed got = rw (unclosed, got) refl

pub effects_of_cell : (rules : Rules) (log : Log) (command : ℕ) (body : List ℕ) (m : Message) → is_closed log ≡ false
    → received log command body ≡ ForUs m
    → effects_after rules log (Forward command body) ≡ message_effects rules log m
unfolding open_effects
effects_of_cell rules log command body m unclosed got = rw (unclosed, got) refl

-- All parts, where the next hop stays.
pub cell_parts : (c d : Circuit) (rules : Rules) (log : Log) (command : ℕ) (body : List ℕ) (outcome : Effects) → HasParts c log
    → effects_after rules log (Forward command body) ≡ outcome → outcome.dial ≡ None → outcome.cut ≡ false
    → place_of outcome.edge ≡ None
    → d.next_hop ≡ c.next_hop → d.create2 ≡ c.create2 → d.addresses ≡ c.addresses → IsPackagedNext d.packager log outcome.back
    → HasCountsOf d.windows (window_of (after_cell rules log command body))
    → ArePlaces d.places (after_cell rules log command body) → KeepsStreams c.places d.places
    → HasParts d (after_cell rules log command body)
cell_parts c d rules log command body outcome has same undialled uncut placeless hop create2 addresses packages windows places
    keeps =
    let entry : Entry = entry_after rules log (Forward command body) in
    let aside : IsAside entry =
    aside_by entry outcome refl refl same (record { dial = undialled; cut = uncut; makes_none = placeless }) in
    parts_after c d entry log has aside hop create2 addresses
    (packager_after d.packager entry log outcome.back refl (ap (λ (e : Effects). e.back) same) packages) windows places keeps
