-- A stream's window of DATA cells (tor-spec, "Stream-level flow control").
use Rattle.std.specs.Prelude.{ℕ}

-- It begins at 500 cells, and each SENDME of the stream raises it by 50.
abbrev pub stream_start : ℕ
stream_start = 500

abbrev pub stream_step : ℕ
stream_step = 50
