-- The answer to `live`.
use Rattle.std.specs.Prelude.{ℕ, List, Bool}
use Rattle.tr_io.specs.declared.step.Step.{Step}
use Rattle.switch_model.specs.History.Channels.{is_live_channel}

-- Whether a channel is live.
abbrev pub live_answer : List Step → ℕ → Bool
live_answer h chan = is_live_channel h chan
