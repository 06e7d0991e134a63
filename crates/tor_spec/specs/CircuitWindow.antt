-- The circuit's window of DATA cells (tor-spec, "Circuit-level flow control"; proposal 289): how many
-- of them one side may package, by the SENDMEs of the other side. Only DATA cells count.
use Rattle.std.specs.Prelude.{ℕ, ◌+◌, ◌*◌, ◌%◌, ◌==◌, ◌&&◌, not, [], ◌∷◌, ◌++◌, List, length, Bool, if◌then◌else◌, nat_lt, drop, slice_get, Option}

-- The window begins at 1000 cells, and each SENDME raises it by 100.
abbrev pub circuit_start : ℕ
circuit_start = 1000

abbrev pub circuit_step : ℕ
circuit_step = 100

-- A side may begin with a smaller window for what it packages, by a consensus or by its own rules, but
-- with no smaller one than a SENDME's step.
abbrev pub least_start : ℕ
least_start = 100

-- Of the proofs that are to come back, no more than these wait at a time: a window's cells in steps.
abbrev pub most_owed : ℕ
most_owed = 10

-- Both directions of a circuit at one side: the running digest after each DATA cell that it packaged,
-- oldest first; how many SENDMEs it got for them, each of them right; and how many DATA cells of the
-- other side it accepted.
pub record CircuitWindow : Type 0 where
  pub packaged : List (List ℕ)
  pub acknowledged : ℕ
  pub accepted : ℕ

abbrev pub fresh_window : CircuitWindow
fresh_window = record { packaged = []; acknowledged = 0; accepted = 0 }

-- How many cells may be packaged in all, where the window began with these and so many SENDMEs were
-- right.
abbrev pub granted_after : ℕ → ℕ → ℕ
granted_after start acknowledged = start + circuit_step * acknowledged

-- Whether one more DATA cell may be packaged.
abbrev pub may_package : ℕ → CircuitWindow → Bool
may_package start w = nat_lt (length w.packaged) (granted_after start w.acknowledged)

-- Each 100th of some digests, where n came before them.
abbrev pub hundredths : ℕ → List (List ℕ) → List (List ℕ)
hundredths n [] = []
hundredths n (digest ∷ digests) =
    if (n + 1) % circuit_step == 0 then digest ∷ hundredths (n + 1) digests else hundredths (n + 1) digests

-- The proofs that SENDMEs must carry, one after another: the digests after the DATA cells with the
-- numbers 100, 200, 300 and so on, counted from 1.
unfoldable pub proofs : CircuitWindow → List (List ℕ)
proofs w = hundredths 0 w.packaged

-- Those that are still to come, and the next of them, if it may come yet.
abbrev pub owed_proofs : CircuitWindow → List (List ℕ)
owed_proofs w = drop w.acknowledged (proofs w)

abbrev pub next_owed : CircuitWindow → Option (List ℕ)
next_owed w = slice_get (owed_proofs w) 0

-- ---- what changes it

abbrev pub after_packaging : CircuitWindow → List ℕ → CircuitWindow
after_packaging w digest = record w { packaged = w.packaged ++ digest ∷ [] }

abbrev pub after_acknowledging : CircuitWindow → CircuitWindow
after_acknowledging w = record w { acknowledged = w.acknowledged + 1 }

abbrev pub after_accepting : CircuitWindow → CircuitWindow
after_accepting w = record w { accepted = w.accepted + 1 }

-- Each 100th DATA cell that is accepted calls for a SENDME.
abbrev pub is_sendme_due : ℕ → Bool
is_sendme_due accepted = not (accepted == 0) && (accepted % circuit_step == 0)
