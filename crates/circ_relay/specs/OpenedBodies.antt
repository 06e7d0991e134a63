-- What the relay's layer taken off a body gives, by a circuit's log.
use Rattle.std.specs.Prelude.{◌≡◌, ◌==◌, ◌&&◌, Bool, is_some, position, ℕ, List, if◌then◌else◌, Some, None}
use Rattle.tor_spec.specs.RelayCell.{relay_head, fits_length, data_command}
use Rattle.relay_cell.specs.declared.head.Opened.{Opened}
use Rattle.stream_edge.specs.PlacesState.{PlacesState}
use Rattle.stream_edge.specs.Streams.{is_live_as}
use Rattle.circuit_model.specs.Log.{Log}
use Rattle.circuit_model.specs.Opened.{plain_body, recognises, digest_with}

-- The body without the layer, and the running digest with it where it is recognised.
pub record IsOpened (opened : Opened) (log : Log) (body : List ℕ) : Type 0 where
  pub plain : opened.body ≡ plain_body log body
  pub recognised : opened.recognised
      ≡ (if recognises log (plain_body log body) then Some (digest_with log (plain_body log body)) else None)

-- An opened body is DATA for a stream that is live.
abbrev pub is_data_for_live : Opened → PlacesState → Bool
is_data_for_live opened state =
    is_some opened.recognised && (fits_length opened.body && (((relay_head opened.body).command == data_command)
    && is_some (position (is_live_as (relay_head opened.body).stream) state.streams)))
