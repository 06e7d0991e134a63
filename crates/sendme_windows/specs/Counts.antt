-- The fields of a `Windows`: what contracts see of them, and how they go together.
use Rattle.std.specs.Prelude.{◌≡◌, ◌+◌, ◌/◌, ◌^◌, ◌≤◌, take}
use Rattle.tor_spec.specs.CircuitWindow.{circuit_start, circuit_step, least_start, granted_after}
use Rattle.sendme_windows.specs.WindowsState.{WindowsState}
use Rattle.sendme_windows.specs.declared.Windows.TheInside.{Inside}

-- Of the queue's places, those that are taken count.
abbrev pub state_of : Inside → WindowsState
state_of w = record {
  start = w.start;
  least = w.least;
  calls = w.calls;
  packed = w.packed_count;
  good = w.good_count;
  accepted = w.accepted_count;
  owed_proofs = take w.owed_count w.owed_proofs;
}

-- Each 100th DATA cell is owed or proved, no more are packaged than granted, and no count passes
-- the calls.
pub record InStep (w : Inside) : Type 0 where
  pub least_start : least_start ≤ w.start
  pub most_start : w.start ≤ circuit_start
  pub version : w.least ≤ 1
  pub waiting : w.owed_count + w.good_count ≡ w.packed_count / circuit_step
  pub granted : w.packed_count ≤ granted_after w.start w.good_count
  pub packed : w.packed_count ≤ w.calls
  pub accepted : w.accepted_count ≤ w.calls
  pub calls : w.calls ≤ 2 ^ 63
