-- The bodies that a step bears.
use Rattle.std.proofs.Common.{◌≡◌, ℕ, ◌+◌, ◌-◌, List, [], ◌++◌, replicate, refl, ap, arith}
use Rattle.std.proofs.lemmas.List.{append-nil}
use Rattle.switch_model.specs.Names.{Way}

pub new-many : (w : Way) (n m k : ℕ) → m ≡ n + k → replicate (m - n) w ≡ replicate k w
new-many w n m k more = let same : m - n ≡ k = omega (arith, more) in rw same refl

pub new-none : (w : Way) (n m : ℕ) → m ≡ n → replicate (m - n) w ≡ []
new-none w n m same = let none : m - n ≡ 0 = omega (arith, same) in rw none refl

pub all-new : (a b older more : List Way) → a ≡ more → b ≡ [] → (a ++ b) ++ older ≡ more ++ older
all-new a b older more e f = rw (e, f) (ap (λ l. l ++ older) (append-nil more))
