-- The answer to `halted`.
use Rattle.std.specs.Prelude.{ℕ, ◌+◌, nat_le, List, [], ◌∷◌, Bool, false, if◌then◌else◌}
use Rattle.tr_io.specs.declared.step.Step.{Step}
use Rattle.tr_io.specs.declared.step.Step.TheVariants.{Halt}

-- How many `halt` steps were made.
abbrev pub halts : List Step → ℕ
halts [] = 0
halts (Halt of ∷ h) = halts h + 1
halts (s ∷ h) = halts h

-- Whether some `halt(of)` was made whose number is at most n.
abbrev pub some_halt : ℕ → List Step → Bool
some_halt n [] = false
some_halt n (Halt of ∷ h) = if nat_le of n then Bool.true else some_halt n h
some_halt n (s ∷ h) = some_halt n h

-- Whether the relay halts: enough of its accepting slots have ended.
abbrev pub halted_answer : List Step → Bool
halted_answer h = some_halt (halts h) h
