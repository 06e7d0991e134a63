-- What contracts see of a `Windows`.
use Rattle.std.specs.Prelude.{◌≡◌, ℕ, ◌<◌, List, length}
use Rattle.tor_spec.specs.CircuitWindow.{CircuitWindow, granted_after, owed_proofs}

-- How many DATA cells may be packaged before the first SENDME and the least version of SENDMEs; the calls
-- that changed it, the DATA cells packaged, the SENDMEs accepted for them, the DATA cells accepted, and the
-- proofs that are still to come back, oldest first.
pub record WindowsState : Type 0 where
  pub start : ℕ
  pub least : ℕ
  pub calls : ℕ
  pub packed : ℕ
  pub good : ℕ
  pub accepted : ℕ
  pub owed_proofs : List (List ℕ)

-- It is that of a circuit's window.
pub record HasCountsOf (state : WindowsState) (w : CircuitWindow) : Type 0 where
  pub packed : state.packed ≡ length w.packaged
  pub good : state.good ≡ w.acknowledged
  pub accepted : state.accepted ≡ w.accepted
  pub owed_proofs : state.owed_proofs ≡ owed_proofs w

-- One more DATA cell may be packaged.
abbrev pub HasRoom : WindowsState → Type 0
HasRoom state = state.packed < granted_after state.start state.good

-- What the windows were made with stays.
pub record KeepsLimits (old new : WindowsState) : Type 0 where
  pub start : new.start ≡ old.start
  pub least : new.least ≡ old.least
