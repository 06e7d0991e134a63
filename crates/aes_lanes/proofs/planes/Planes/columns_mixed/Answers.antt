use Rattle.std.proofs.lemmas.Nat.{xor_of_8}
use Rattle.aes_lanes.specs.Places.{second_row}
use Rattle.aes_lanes.specs.Sliced.{IsByte}
use Rattle.aes_lanes.proofs.LanePlaces.{second_row-lt}
use Rattle.aes_lanes.proofs.planes.Planes.columns_mixed.Goals as goal

pub returns : goal.returns
returns c = λ l b x y z w h m n ex ey ez ew.
    let next = c.columns_turned_once-next.result in
    let two = second_row l in
    let next_here : IsByte next l b y = c.columns_turned_once-next.ensures l b y h ey in
    let next_far : IsByte next two b w = c.columns_turned_once-next.ensures two b w (second_row-lt l h) ew in
    c.plus-2.ensures l b _ _
    (c.plus.ensures l b _ y (c.doubled.ensures l b _ (xor_of_8 x y m n) (c.plus-pair.ensures l b x y ex next_here)) next_here)
    (c.columns_turned_twice.ensures l b _ h (c.plus-pair.ensures two b z w ez next_far))
