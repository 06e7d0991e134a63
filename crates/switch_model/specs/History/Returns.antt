-- Forward bodies that come home settle one after another, up to the first that closes the circuit.
-- A body whose answer would be packaged where the backward direction is full closes too, and is
-- itself no event.
use Rattle.std.specs.Prelude.{ℕ, ◌≡◌, ⊤, ◌+◌, ◌-◌, ◌&&◌, nat_le, List, [], ◌∷◌, length, Bool, if◌then◌else◌, Option, Some, None}
use Rattle.circuit_model.specs.Events.{CircuitCell, Event}
use Rattle.circuit_model.specs.Batches.{forward_of}
use Rattle.circuit_model.specs.Rules.{Rules}
use Rattle.circuit_model.specs.Packaged.{back_bodies}
use Rattle.circuit_model.specs.Words.{log, closes, packages_back}
use Rattle.tor_spec.specs.Reasons.{destroy_resource_limit}
use Rattle.switch_model.specs.Limits.{held_limit}

-- The cells that the backward direction holds after these events, of which so many have left: the
-- answer to the opening and all bodies that went back.
abbrev pub held_back_after : Rules → List Event → ℕ → ℕ
held_back_after rules events left = 1 + length (back_bodies (log rules events)) - left

-- Whether the direction takes no more.
abbrev pub is_full_after : Rules → List Event → ℕ → Bool
is_full_after rules events left = nat_le held_limit (held_back_after rules events left)

-- Why the next cell closes the circuit, if it does, and whether it is an event then.
pub data Closing : Type 0 where
  Goes : Closing
  Closes : (reason : ℕ) → Closing
  Full : Closing

abbrev pub closing_by : Option ℕ → Closing
closing_by None = Goes
closing_by (Some reason) = Closes reason

-- The same of this cell, behind these events.
abbrev pub closing_at : Rules → ℕ → List Event → CircuitCell → Closing
closing_at rules left events cell =
    if packages_back rules events (forward_of cell) && is_full_after rules events left then Full
    else closing_by (closes rules events (forward_of cell))

-- The events with those of the cells that settle; `settled` is the events with the first cell and
-- all that settle behind it.
abbrev pub settled_with : Closing → Event → List Event → List Event → List Event
settled_with Goes event events settled = settled
settled_with (Closes reason) event events settled = event ∷ events
settled_with Full event events settled = events

-- The events with those of all that settle.
abbrev pub settled : Rules → ℕ → List Event → List CircuitCell → List Event
settled rules left events [] = events
settled rules left events (cell ∷ cells) =
    settled_with (closing_at rules left events cell) (forward_of cell) events
    (settled rules left (forward_of cell ∷ events) cells)

-- The reason with which they close the circuit, if they do.
abbrev pub reason_with : Closing → Option ℕ → Option ℕ
reason_with Goes later = later
reason_with (Closes reason) later = Some reason
reason_with Full later = Some destroy_resource_limit

-- The same of all cells.
abbrev pub settling_reason : Rules → ℕ → List Event → List CircuitCell → Option ℕ
settling_reason rules left events [] = None
settling_reason rules left events (cell ∷ cells) =
    reason_with (closing_at rules left events cell)
    (settling_reason rules left (forward_of cell ∷ events) cells)

-- None of the cells closes the circuit.
abbrev pub AllGo : Rules → ℕ → List Event → List CircuitCell → Type 0
AllGo rules left events [] = ⊤
AllGo rules left events (cell ∷ cells) =
    (closing_at rules left events cell ≡ Goes) × AllGo rules left (forward_of cell ∷ events) cells
