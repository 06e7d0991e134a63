-- Dial orders: the circuits whose order is handed out again, and that only orders which were made are handed
-- out.
use Rattle.std.specs.Prelude.{ℕ, ◌≡◌, ⊤, ◌≤◌, List, [], ◌∷◌, Bool, true, false, Option}
use Rattle.std.specs.List.{AllByRecursion}
use Rattle.switch_machine.specs.State.{DialState}
use Rattle.switch_machine.specs.Machine.{is_handed_out, is_among}

-- None of some numbers stands twice.
abbrev pub AreOnce : List ℕ → Type 0
AreOnce [] = ⊤
AreOnce (n ∷ numbers) = (is_among n numbers ≡ false) × AreOnce numbers

pub record DialsStand (again : List ℕ) (dials : ℕ → Option DialState) (dial_count : ℕ) (handed_out : ℕ → Bool) : Type 0 where
  -- the order of each such circuit is out, and none of them is listed twice
  pub are_out : AllByRecursion (λ c. is_handed_out (dials c) ≡ true) again
  pub once : AreOnce again
  pub never : (order : ℕ) → dial_count ≤ order → handed_out order ≡ false
