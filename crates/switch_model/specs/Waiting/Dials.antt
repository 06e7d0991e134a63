-- Dial orders: which wait, and which are out.
use Rattle.std.specs.Prelude.{ℕ, ◌+◌, ◌==◌, ◌&&◌, zero, suc, not, List, [], ◌∷◌, ◌++◌, length, drop, Bool, true, false, if◌then◌else◌, Option, Some, None, option_map}
use Rattle.std.specs.List.{filter}
use Rattle.std.specs.Option.{option_or}
use Rattle.tor_spec.specs.Extend.{Address}
use Rattle.circuit_model.specs.Log.{Log, collected}
use Rattle.circuit_model.specs.declared.next_hop.NextHop.{NextHop}
use Rattle.circuit_model.specs.declared.next_hop.NextHop.TheVariants.{Dialling}
use Rattle.circuit_model.specs.NextHop.{next_hop}
use Rattle.circuit_model.specs.Rules.{Rules}
use Rattle.tr_io.specs.declared.dials.DialStep.{DialStep}
use Rattle.tr_io.specs.declared.names.Dest.{Dest}
use Rattle.tr_io.specs.declared.step.Step.{Step}
use Rattle.tr_io.specs.declared.step.Step.TheVariants.{GiveBack, DialOrder}
use Rattle.switch_model.specs.Names.{same_dest, dest_of, chan_no, circ_no}
use Rattle.switch_model.specs.History.Channels.{Channel, channels, channel_at}
use Rattle.switch_model.specs.History.Circuit.{is_live_circuit}
use Rattle.switch_model.specs.Waiting.Queues.{circuit_log}

-- A dial order that a circuit made.
pub record Dial : Type 0 where
  pub order : ℕ
  pub circ : ℕ
  pub to : Dest

-- Where the circuit's accepted EXTEND2s lead, oldest first.
abbrev pub asked : Log → List Address
asked log = collected (λ entry. entry.effects.dial) log

-- Numbered from n on.
abbrev pub numbered : ℕ → ℕ → List Address → List Dial
numbered n c [] = []
numbered n c (to ∷ more) = record { order = n; circ = c; to = dest_of to } ∷ numbered (n + 1) c more

-- All dial orders that were made, oldest first. They are numbered over the whole switch. Only a
-- return makes some.
abbrev pub dials_made : Rules → List Step → List Dial
dials_made rules [] = []
dials_made rules (GiveBack note place answer ∷ h) =
    dials_made rules h
    ++ numbered (length (dials_made rules h)) note.circ.0
    (drop (length (asked (circuit_log rules h note.circ.0)))
    (asked (circuit_log rules (GiveBack note place answer ∷ h) note.circ.0)))
dials_made rules (s ∷ h) = dials_made rules h

abbrev pub is_dialling : NextHop → Bool
is_dialling Dialling = true
is_dialling hop = false

abbrev pub is_from : ℕ → Dial → Bool
is_from c dial = dial.circ == c

-- Whether an order is the circuit's last.
abbrev pub is_last : List Dial → Dial → Bool
is_last [] dial = false
is_last (first ∷ rest) dial =
    if first.order == dial.order then length (filter (is_from dial.circ) rest) == 0 else is_last rest dial

-- An order is open until it is done or given up, by TRUNCATE or by teardown: while its circuit is
-- live and dials its next hop, the circuit's last order is.
abbrev pub is_open : Rules → List Step → Dial → Bool
is_open rules h dial =
    is_live_circuit rules h dial.circ
    && (is_dialling (next_hop (circuit_log rules h dial.circ)) && is_last (dials_made rules h) dial)

-- Whether the order with this number was ever handed out.
abbrev pub was_handed_out : List Step → ℕ → Bool
was_handed_out [] order = false
was_handed_out (DialOrder (Some given) ∷ h) order = if given.order == order then true else was_handed_out h order
was_handed_out (s ∷ h) order = was_handed_out h order

-- The orders that wait, oldest first: open ones that were never handed out.
abbrev pub dials : Rules → List Step → List Dial
dials rules h = filter (λ dial. is_open rules h dial && not (was_handed_out h dial.order)) (dials_made rules h)

-- The orders that are out: open ones that were handed out.
abbrev pub dials_out : Rules → List Step → List Dial
dials_out rules h = filter (λ dial. is_open rules h dial && was_handed_out h dial.order) (dials_made rules h)

-- An order is known by its number, circuit and destination.
abbrev pub same_dial : DialStep → Dial → Bool
same_dial given dial = (given.order == dial.order) && ((given.circ.0 == dial.circ) && same_dest given.to dial.to)

-- Whether a destination, if there is one, is this one.
abbrev pub is_dest : Dest → Option Dest → Bool
is_dest to (Some other) = same_dest other to
is_dest to None = false

-- Whether a live channel was dialled to this destination.
abbrev pub leads_to : Dest → Option Channel → Bool
leads_to to (Some channel) = is_dest to channel.to
leads_to to None = false

-- The least number below n of a live channel that this side dialled to a destination.
abbrev pub channel_to : List Step → Dest → ℕ → Option ℕ
channel_to h to zero = None
channel_to h to (suc n) = option_or (channel_to h to n) (if leads_to to (channel_at h n) then Some n else None)

-- An order as it is handed out, with a channel over which the circuit can go on.
abbrev pub dial_step : List Step → Dial → DialStep
dial_step h dial = record {
  order = dial.order;
  circ = circ_no dial.circ;
  to = dial.to;
  over = option_map chan_no (channel_to h dial.to (channels h));
}
