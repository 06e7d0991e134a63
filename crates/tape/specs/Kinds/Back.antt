-- The answer of the kinds whose call gives a `BackAnswer`.
use Rattle.std.specs.Prelude.{ℕ, List, [], ◌∷◌}
use Rattle.tr_io.specs.declared.answers.BackAnswer.{BackAnswer}
use Rattle.tr_io.specs.declared.answers.BackAnswer.TheVariants.{Settled, Down, Gone, Stranger}

-- An answer has the kind of its record: 00, 01 and the reason (1 byte), 02, or 03.
abbrev pub back_bytes : ℕ → BackAnswer → List ℕ
back_bytes kind Settled = kind ∷ 0 ∷ []
back_bytes kind (Down reason) = kind ∷ 1 ∷ reason ∷ []
back_bytes kind Gone = kind ∷ 2 ∷ []
back_bytes kind (Stranger difference) = kind ∷ 3 ∷ []
