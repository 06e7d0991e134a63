-- Which window keeps the bytes of a stream from being packaged (tor-spec, "Flow control").
use Rattle.std.specs.Prelude.{ℕ, if◌then◌else◌, Option, Some, None, nat_lt}
use Rattle.tr_io.specs.declared.answers.ShutWhy.{ShutWhy}
use Rattle.tr_io.specs.declared.answers.ShutWhy.TheVariants.{Stream, Circuit}
use Rattle.circuit_model.specs.Rules.{Rules}
use Rattle.circuit_model.specs.Log.{Log}
use Rattle.circuit_model.specs.Windows.{stream_packaged, stream_grant, circuit_packaged, circuit_grant}

-- The stream's window before the circuit's, with the DATA that were packaged in it; none where both
-- allow one more DATA.
abbrev pub shut_window : Rules → Log → ℕ → Option (ShutWhy × ℕ)
shut_window rules log serial =
    if nat_lt (stream_packaged log serial) (stream_grant log serial)
    then (if nat_lt (circuit_packaged log) (circuit_grant rules log) then None else Some (Circuit, circuit_packaged log))
    else Some (Stream, stream_packaged log serial)
