-- A stream's windows (tor-spec, "Stream-level flow control"): a count is what went by, a grant is how far
-- the count may go.
use Rattle.std.specs.Prelude.{ℕ, ◌+◌, ◌*◌, ◌/◌, ◌%◌, ◌==◌, ◌&&◌, nat_lt, nat_le, if◌then◌else◌, Bool, true, false, Option, Some, None}
use Rattle.tor_spec.specs.StreamWindow.{stream_start, stream_step}
use Rattle.stream_edge.specs.declared.placed_stream.PlacedStream.{PlacedStream}
use Rattle.stream_edge.specs.declared.placed_stream.Phase.{Phase}
use Rattle.stream_edge.specs.declared.placed_stream.Phase.TheVariants.{Reaching, Joined, Ending}

-- How many DATA this side may package for the stream.
abbrev pub pack_grant : PlacedStream → ℕ
pack_grant h = stream_start + stream_step * h.credits

-- How many DATA it may accept for it: each 50th that is drained grants 50 more. That a SENDME waits until
-- its cells are drained is a rule of this relay.
abbrev pub accept_grant : PlacedStream → ℕ
accept_grant h = stream_start + stream_step * (h.drained / stream_step)

abbrev pub is_live_phase : Phase → Bool
is_live_phase Reaching = true
is_live_phase Joined = true
is_live_phase Ending = false

-- Whether the place has this StreamID and is live.
abbrev pub is_live_as : ℕ → Option PlacedStream → Bool
is_live_as id None = false
is_live_as id (Some h) = (h.stream == id) && is_live_phase h.phase

-- Whether the place has the stream with this StreamID and serial.
abbrev pub is_stream : ℕ → ℕ → Option PlacedStream → Bool
is_stream id serial None = false
is_stream id serial (Some h) = (h.stream == id) && (h.serial == serial)

abbrev pub is_free : Option PlacedStream → Bool
is_free None = true
is_free (Some h) = false

-- A stream that was just accepted.
abbrev pub begun : ℕ → ℕ → PlacedStream
begun id serial = record { stream = id; serial = serial; phase = Reaching; packed = 0; credits = 0; accepted = 0; drained = 0 }

-- What becomes of a stream.

-- One DATA more is accepted, where its window allows it.
abbrev pub may_accept : PlacedStream → Bool
may_accept h = nat_lt h.accepted (accept_grant h)

abbrev pub after_accepting : PlacedStream → PlacedStream
after_accepting h = if may_accept h then record h { accepted = h.accepted + 1 } else h

-- One accepted DATA more is drained, where one is there. Each 50th is due a SENDME.
abbrev pub may_drain : PlacedStream → Bool
may_drain h = nat_lt h.drained h.accepted

abbrev pub after_draining : PlacedStream → PlacedStream
after_draining h = if may_drain h then record h { drained = h.drained + 1 } else h

abbrev pub sendme_due : PlacedStream → Option Bool
sendme_due h = if may_drain h then Some ((h.drained + 1) % stream_step == 0) else None

-- One DATA more is packaged, where its window allows it.
abbrev pub may_package : PlacedStream → Bool
may_package h = nat_lt h.packed (pack_grant h)

abbrev pub after_packaging : PlacedStream → PlacedStream
after_packaging h = record h { packed = h.packed + 1 }

-- A SENDME raises the window, where it stays at or below its start.
abbrev pub may_credit : PlacedStream → Bool
may_credit h = nat_le (pack_grant h + stream_step) (stream_start + h.packed)

abbrev pub after_credit : PlacedStream → PlacedStream
after_credit h = if may_credit h then record h { credits = h.credits + 1 } else h
