-- The answer to `channel_up`.
use Rattle.std.specs.Prelude.{nat_le, List, if◌then◌else◌}
use Rattle.tr_io.specs.declared.answers.UpAnswer.{UpAnswer}
use Rattle.tr_io.specs.declared.step.Step.{Step}
use Rattle.switch_model.specs.Names.{chan_no}
use Rattle.switch_model.specs.Limits.{channel_limit}
use Rattle.switch_model.specs.History.Channels.{channels, live_channels}

-- Bringing up a channel: it gets the next number, unless as many as may be are live.
abbrev pub channel_up_answer : List Step → UpAnswer
channel_up_answer h =
    if nat_le channel_limit (live_channels h) then UpAnswer.Full channel_limit
    else UpAnswer.Up (chan_no (channels h))
