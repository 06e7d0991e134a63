-- The sessions of an outlet go on.
use Rattle.std.proofs.Common.{arith, ◌≡◌, ℕ, suc, ◌+◌, List, [], ◌∷◌, ◌++◌, length, ap, ◌∙◌}
use Rattle.tr_io.specs.declared.names.Dest.{Dest}
use Rattle.tr_io.specs.MemoryOutlets.{sessions_from, outlet_sessions}
use Rattle.tr_io.specs.Outlets.{OutletSession}

more_from : (number last : ℕ) (before : List Dest) (to : Dest) → last ≡ number + length before
    → sessions_from number (before ++ to ∷ []) ≡ sessions_from number before ++ record { number = last; to = to } ∷ []
unfolding sessions_from
more_from number last [] to is =
    let same : number ≡ last = omega (arith, is) in ap {A = ℕ} (λ n. record { number = n; to = to } ∷ []) same
more_from number last (x ∷ before) to is =
    ap {A = List OutletSession} (λ rest. record { number = number; to = x } ∷ rest)
    (more_from (suc number) last before to (omega (arith, is)))

pub reached : (before after : List Dest) (to : Dest) (last : ℕ) → after ≡ before ++ to ∷ [] → last ≡ length before
    → outlet_sessions after ≡ outlet_sessions before ++ record { number = last; to = to } ∷ []
reached before after to last adds is = ap outlet_sessions adds ∙ more_from 0 last before to (omega (arith, is))
