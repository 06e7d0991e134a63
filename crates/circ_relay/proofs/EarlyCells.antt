-- The count of RELAY_EARLY cells, and the circuit behind a cell.
use Rattle.std.proofs.Common.{◌≡◌, ℕ, ◌+◌, ◌==◌, ◌&&◌, not, nat_le, if◌then◌else◌, List, ◌∷◌, Bool, true, None, refl, sym, ap, subst, ◌∙◌, arith}
use Rattle.relay_cell.specs.declared.head.Opened.{Opened}
use Rattle.tor_spec.specs.CellCommands.{relay_early_command}
use Rattle.sendme_windows.specs.WindowsState.{KeepsLimits}
use Rattle.circuit_model.specs.Events.{Event}
use Rattle.circuit_model.specs.declared.event.Event.TheVariants.{Forward}
use Rattle.circuit_model.specs.Rules.{Rules}
use Rattle.circuit_model.specs.Log.{Log, Effects}
use Rattle.circuit_model.specs.Received.{early_count, relay_early_limit}
use Rattle.circuit_model.specs.Effects.{effects_after}
use Rattle.circ_relay.specs.declared.circuit.Circuit.{Circuit}
use Rattle.circ_relay.specs.BroughtMessages.{IsNextCell, after_cell}
use Rattle.circ_relay.specs.CircuitOfLog.{HasParts, IsCircuit, IsMadeBy}
use Rattle.circ_relay.specs.OpenedBodies.{IsOpened}
use Rattle.circ_relay.proofs.Bools.{not-not}
use Rattle.circ_relay.proofs.Named.{history_is_named}
use Rattle.circuit_model.specs.Words.{entry_after, log}
use Rattle.circ_relay.proofs.Longer.{made_after, unclosed_after}

pub early_apart : (c d : Circuit) (early : ℕ) (log : Log) → d ≡ record c { early_cells = early } → HasParts c log → HasParts d log
early_apart c d early log is has =
    subst (λ e. HasParts e log) (sym is)
    (record {
      hop = has.hop;
      asked = has.asked;
      packager = has.packager;
      windows = has.windows;
      places = has.places;
      addresses =
          has.addresses;
    })

pub made_early : (c d : Circuit) (early : ℕ) (rules : Rules) → d ≡ record c { early_cells = early } → IsMadeBy c rules
    → IsMadeBy d rules
made_early c d early rules is made = subst (λ e. IsMadeBy e rules) (sym is) (record { start = made.start; least = made.least })

pub limits_early : (c d e : Circuit) (early : ℕ) → d ≡ record c { early_cells = early } → KeepsLimits d.windows e.windows
    → KeepsLimits c.windows e.windows
limits_early c d e early is keeps = record {
  start = keeps.start ∙ ap (λ (x : Circuit). x.windows.start) is;
  least = keeps.least ∙ ap (λ (x : Circuit). x.windows.least) is;
}

pub too_many : (c : Circuit) (rules : Rules) (h : List Event) (command : ℕ) (counts : Bool) → IsCircuit c rules h
    → counts ≡ not ((command == relay_early_command) && nat_le relay_early_limit c.early_cells)
    → ((command == relay_early_command) && nat_le relay_early_limit (early_count (log rules h))) ≡ not counts
too_many c rules h command counts is by =
    ap (λ n. (command == relay_early_command) && nat_le relay_early_limit n) (sym is.early)
    ∙ not-not ((command == relay_early_command) && nat_le relay_early_limit c.early_cells) ∙ ap not (sym by)

pub cell_of_history : (c : Circuit) (opened : Opened) (rules : Rules) (h : List Event) (command : ℕ) (body : List ℕ)
    (counts : Bool)
    → IsCircuit c rules h → IsOpened opened (log rules h) body
    → counts ≡ not ((command == relay_early_command) && nat_le relay_early_limit c.early_cells) → counts ≡ true
    → IsNextCell opened (log rules h) command body
cell_of_history c opened rules h command body counts is opens by so =
    record {
      unclosed = is.unclosed;
      named = history_is_named rules h;
      opens = opens;
      few =
          too_many c rules h command counts is by ∙ ap not so;
    }

pub circuit_after : (c d : Circuit) (rules : Rules) (h : List Event) (command : ℕ) (body : List ℕ) (outcome : Effects)
    → IsCircuit c rules h → effects_after rules (log rules h) (Forward command body) ≡ outcome
    → outcome.close ≡ None → d.early_cells ≡ (if command == relay_early_command then c.early_cells + 1 else c.early_cells)
    → KeepsLimits c.windows d.windows → HasParts d (after_cell rules (log rules h) command body)
    → IsCircuit d rules (Forward command body ∷ h)
circuit_after c d rules h command body outcome is does none early limits has = record {
  unclosed =
      unclosed_after (entry_after rules (log rules h) (Forward command body)) (log rules h)
      (ap (λ (e : Effects). e.close) does ∙ none) is.unclosed;
  early = early ∙ ap (λ n. if command == relay_early_command then n + 1 else n) is.early;
  made = made_after c d rules is.made limits;
  parts = has;
}
