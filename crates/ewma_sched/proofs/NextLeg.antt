-- Laws for callers: what a tick does to a leg, and that only one leg is served next.
use Rattle.std.proofs.Common.{◌≡◌, ℕ, ◌/◌, refl, sym, arith}
use Rattle.ewma_sched.specs.Counts.{halved}
use Rattle.ewma_sched.specs.Legs.{LegName, ScheduledLeg, SchedState, IsServedFirst, IsNext}

pub served_once : (p q : LegName) (x y : ScheduledLeg) → IsServedFirst p x q y → IsServedFirst q y p x → p ≡ q
served_once p q x y first second =
    let a = first.count in
    let b = second.count in
    let counts : x.count ≡ y.count = omega arith in
    let c = first.circuit counts in
    let d = second.circuit (sym counts) in
    let circuits : p.0 ≡ q.0 = omega arith in
    let e = first.number counts circuits in
    let f = second.number (sym counts) (sym circuits) in
    let numbers : p.1 ≡ q.1 = omega arith in
    λ i. (circuits i, numbers i)

pub next_once : (s : SchedState) (chan : ℕ) (p q : LegName) → IsNext s chan p → IsNext s chan q → p ≡ q
next_once s chan p q first second =
    served_once p q first.state second.state
    (first.first q second.state second.there second.waits)
    (second.first p first.state first.there first.waits)

pub one_tick : (count : ℕ) → halved count 1 ≡ count / 2
one_tick count = refl
