-- The order in which the legs of a channel are served.
use Rattle.std.specs.Prelude.{◌≡◌, ℕ, ◌<◌, ◌≤◌, false, List, ◌∷◌, length, slice_index_or, Bool}
use Rattle.std.specs.declared.cmp.Ordering.{Ordering}
use Rattle.std.specs.Ordering.{nat_cmp, ordering_then, is_lt}
use Rattle.std.specs.List.Sorted.{IsPermutation}
use Rattle.ewma_sched.specs.declared.roster.ReadyLeg.{ReadyLeg}
use Rattle.ewma_sched.specs.Counts.{halved, charged}

-- By count, then by circuit number, then by leg number.
abbrev pub ready_cmp : ReadyLeg → ReadyLeg → Ordering
ready_cmp a b =
    ordering_then (nat_cmp a.count b.count) (ordering_then (nat_cmp a.circ b.circ) (nat_cmp a.number b.number))

abbrev pub is_before : ReadyLeg → ReadyLeg → Bool
is_before a b = is_lt (ready_cmp a b)

-- No leg goes before one that stands in front of it.
unfoldable pub IsInOrder : List ReadyLeg → Type 0
IsInOrder legs =
    (i j : ℕ) (d : ReadyLeg) → i ≤ j → j < length legs
    → is_before (slice_index_or legs j d) (slice_index_or legs i d) ≡ false

-- A leg after so many ticks.
abbrev pub halved_ready_leg : ℕ → ReadyLeg → ReadyLeg
halved_ready_leg ticks leg = record leg { count = halved leg.count ticks }

-- A leg after one more cell.
abbrev pub charged_ready_leg : ReadyLeg → ReadyLeg
charged_ready_leg leg = record leg { count = charged leg.count }

-- The first leg is charged, and stands at its new place.
pub record Serves (old new : List ReadyLeg) (served_leg : ReadyLeg) : Type 0 where
  pub first : ReadyLeg
  pub rest : List ReadyLeg
  pub was : old ≡ first ∷ rest
  pub charged : served_leg ≡ charged_ready_leg first
  pub moved : IsPermutation (served_leg ∷ rest) new
