-- The answer to `channel_down`.
use Rattle.std.specs.Prelude.{ℕ, not, List, if◌then◌else◌}
use Rattle.tr_io.specs.declared.answers.BackAnswer.{BackAnswer}
use Rattle.tr_io.specs.declared.step.Step.{Step}
use Rattle.switch_model.specs.History.Channels.{is_live_channel}

-- Taking down a channel.
abbrev pub channel_down_answer : List Step → ℕ → BackAnswer
channel_down_answer h chan =
    if not (is_live_channel h chan) then BackAnswer.Gone
    else BackAnswer.Settled
