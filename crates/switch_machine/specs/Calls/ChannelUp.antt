-- channel_up.
use Rattle.std.specs.Prelude.{nat_le, [], ◌∷◌, ◌++◌, length, if◌then◌else◌, Some, None}
use Rattle.tr_io.specs.declared.answers.UpAnswer.{UpAnswer}
use Rattle.tr_io.specs.declared.names.Side.{Side}
use Rattle.switch_model.specs.Limits.{channel_limit}
use Rattle.switch_model.specs.Names.{chan_no}
use Rattle.switch_machine.specs.State.{ChannelState, State}
use Rattle.switch_machine.specs.Machine.{counted, filled_slots}

abbrev pub channel_up_result : State → UpAnswer
channel_up_result s =
    if nat_le channel_limit (filled_slots s.channels) then UpAnswer.Full channel_limit
    else UpAnswer.Up (chan_no (length s.channels))

-- A channel on which nothing happened yet.
abbrev pub new_channel : Side → ChannelState
new_channel side = record { side = side; to = None; given_count = 0; lane = [] }

abbrev pub channel_up_state : State → Side → State
channel_up_state s side =
    if nat_le channel_limit (filled_slots s.channels) then counted s
    else record (counted s) { channels = s.channels ++ Some (new_channel side) ∷ [] }
