-- What no call with a machine does yet: the group goes with the first calls that do.
use Rattle.std.specs.Prelude.{ℕ, ◌≡◌, Bool, false}

pub record NotYetStand (is_reached : ℕ → ℕ → Bool) : Type 0 where
  -- no slot was bound to a place, by edge_out
  pub unreached : (c serial : ℕ) → is_reached c serial ≡ false
