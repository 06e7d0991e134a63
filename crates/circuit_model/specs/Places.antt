-- The places of a circuit: its streams at this relay as an exit (tor-spec, "Opening streams and
-- transferring data", "Closing streams"). A BEGIN that was accepted makes a place; the place is
-- taken until it is freed.
use Rattle.std.specs.Prelude.{ℕ, ◌==◌, ◌&&◌, Bool, true, false, if◌then◌else◌, List, length, Option, Some, None, option_map, find, filter, slice_get}
use Rattle.std.specs.List.{list_any}
use Rattle.circuit_model.specs.declared.places.Phase.{Phase}
use Rattle.circuit_model.specs.declared.places.Phase.TheVariants.{Reaching, Joined, Ending, Free}
use Rattle.circuit_model.specs.declared.places.Place.{Place as Declared}
use Rattle.circuit_model.specs.Events.{Event}
use Rattle.circuit_model.specs.declared.event.Event.TheVariants.{Connected, Freed}
use Rattle.circuit_model.specs.Log.{Log, Order, collected}
use Rattle.circuit_model.specs.declared.effects.Order.TheVariants.{Reach, Close}

-- A place: the name of its stream, and where that is connected to.
abbrev pub Place : Type 0
Place = Declared

-- A Reach order makes a place.
abbrev pub place_of : Option Order → Option Place
place_of (Some (Reach key to)) = Some (record { key = key; to = to })
place_of order = None

-- All places, in the order of their BEGINs.
abbrev pub places : Log → List Place
places log = collected (λ entry. place_of entry.effects.edge) log

-- The place with this serial.
abbrev pub place_at : Log → ℕ → Option Place
place_at log serial = slice_get (places log) serial

abbrev pub connects : ℕ → Event → Bool
connects serial (Connected n) = n == serial
connects serial event = false

abbrev pub frees : ℕ → Event → Bool
frees serial (Freed n) = n == serial
frees serial event = false

-- A Close order ends a place.
abbrev pub closes_place : ℕ → Option Order → Bool
closes_place serial (Some (Close key reason)) = key.serial == serial
closes_place serial order = false

abbrev pub is_connected : Log → ℕ → Bool
is_connected log serial = list_any (λ entry. connects serial entry.event) log

abbrev pub is_ended : Log → ℕ → Bool
is_ended log serial = list_any (λ entry. closes_place serial entry.effects.edge) log

abbrev pub is_freed : Log → ℕ → Bool
is_freed log serial = list_any (λ entry. frees serial entry.event) log

-- The phase of a place that was made.
unfoldable pub phase : Log → ℕ → Phase
phase log serial =
    if is_freed log serial then Free
    else (if is_ended log serial then Ending
    else (if is_connected log serial then Joined
    else Reaching))

abbrev pub is_live_phase : Phase → Bool
is_live_phase Reaching = true
is_live_phase Joined = true
is_live_phase Ending = false
is_live_phase Free = false

abbrev pub is_taken_phase : Phase → Bool
is_taken_phase Free = false
is_taken_phase _ = true

-- A StreamID is live while its place is Reaching or Joined.
abbrev pub is_live : Log → Place → Bool
is_live log place = is_live_phase (phase log place.key.serial)

-- The serial of the place at which a StreamID is live.
unfoldable pub live_place : Log → ℕ → Option ℕ
live_place log stream =
    option_map (λ place. place.key.serial) (find (λ place. (place.key.stream == stream) && is_live log place) (places log))

-- How many places are taken.
unfoldable pub taken_places : Log → ℕ
taken_places log = length (filter (λ place. is_taken_phase (phase log place.key.serial)) (places log))
