-- The stages of SHA-1's rounds (FIPS 180-4, 4.1.1 and 4.2.1).
use Rattle.std.specs.Prelude.{ℕ}
use Rattle.run_digest.specs.declared.compress.Stage.{Stage}
use Rattle.run_digest.specs.declared.compress.Stage.TheVariants.{Choose, Parity, Majority, ParityAgain}

-- The number of a stage's first round.
abbrev pub first_of : Stage → ℕ
first_of Choose = 0
first_of Parity = 20
first_of Majority = 40
first_of ParityAgain = 60
