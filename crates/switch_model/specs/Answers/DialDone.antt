-- The answer to `dial_done`. The first line that fits holds.
use Rattle.std.specs.Prelude.{ℕ, ◌&&◌, nat_le, not, List, Bool, if◌then◌else◌}
use Rattle.std.specs.List.{list_any}
use Rattle.circuit_model.specs.Rules.{Rules}
use Rattle.tor_spec.specs.Reasons.{destroy_connect_failed}
use Rattle.tr_io.specs.declared.answers.DialAnswer.{DialAnswer}
use Rattle.tr_io.specs.declared.answers.DialAnswer.TheVariants.{Up, Closed, Full, Gone}
use Rattle.tr_io.specs.declared.dials.DialOutcome.{DialOutcome}
use Rattle.tr_io.specs.declared.dials.DialStep.{DialStep}
use Rattle.tr_io.specs.declared.step.Step.{Step}
use Rattle.switch_model.specs.Limits.{channel_limit, given_id_limit}
use Rattle.switch_model.specs.Names.{chan_no}
use Rattle.switch_model.specs.History.Channels.{channels, channel_at, opened_by_us, live_channels, given_ids}
use Rattle.switch_model.specs.Waiting.Dials.{dials_out, same_dial}

-- Whether a circuit can go on over a channel: this side opened it, and it has a CircID left.
abbrev pub carries_on : List Step → ℕ → Bool
carries_on h chan = opened_by_us (channel_at h chan) && not (nat_le given_id_limit (given_ids h chan))

-- What an outcome comes to, for an order that is out.
abbrev pub dialled : List Step → DialOutcome → DialAnswer
dialled h (DialOutcome.Opened slot) =
    if nat_le channel_limit (live_channels h) then Full channel_limit
    else Up (chan_no (channels h))
dialled h (DialOutcome.Over chan) =
    if not (carries_on h chan.0) then Closed destroy_connect_failed
    else Up chan
dialled h DialOutcome.Failed = Closed destroy_connect_failed

-- Whether the order is out.
abbrev pub is_out : Rules → List Step → DialStep → Bool
is_out rules h order = list_any (same_dial order) (dials_out rules h)

-- An order whose outcome is reported.
abbrev pub dial_done_answer : Rules → List Step → DialStep → DialOutcome → DialAnswer
dial_done_answer rules h order outcome =
    if not (is_out rules h order) then Gone
    else dialled h outcome
