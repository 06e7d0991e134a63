-- What came of one round of a link's writer, of which the steps of the head were made before.
use Rattle.std.specs.Prelude.{◌≡◌, ℕ, List, ◌++◌, Option, Some, None, true}
use Rattle.tr_io.specs.declared.loop_end.LoopEnd.{LoopEnd}
use Rattle.tr_io.specs.declared.names.ChanNo.{ChanNo}
use Rattle.tr_io.specs.declared.step.Step.{Step}
use Rattle.tr_io.specs.Faults.{Rose}
use Rattle.tr_io.specs.Pieces.{Piece, WroteAll}
use Rattle.tr_io.specs.PortSteps.{Adds}
use Rattle.channel_loops.specs.Writing.{WriterRound, LastPart, round_steps, round_bytes, last_steps, last_bytes, end_of, is_cut}

-- The steps of a pass, the pieces of a half and its count of faults.
pub record WriterTrace : Type 0 where
  pub steps : List Step
  pub written : Option (List Piece)
  pub faults : ℕ

-- It was whole.
pub record IsWhole (head : List Step) (chan : ChanNo) (session : ℕ) (before after : WriterTrace) : Type 0 where
  pub round : WriterRound
  pub rest : List Step
  pub whole : round_steps chan round ≡ head ++ rest
  pub made : Adds before.steps rest after.steps
  pub written : WroteAll session (round_bytes round) before.written after.written

-- It was the last.
pub record IsLast (head : List Step) (chan : ChanNo) (session : ℕ) (before after : WriterTrace) (end : LoopEnd) : Type 0 where
  pub last : LastPart
  pub rest : List Step
  pub end_is : end ≡ end_of last
  pub whole : last_steps chan last ≡ head ++ rest
  pub made : after.steps ≡ before.steps ++ rest
  pub written : WroteAll session (last_bytes last) before.written after.written
  pub cause : is_cut last ≡ true → Rose before.faults after.faults

abbrev pub RoundMade : List Step → ChanNo → ℕ → WriterTrace → WriterTrace → Option LoopEnd → Type 0
RoundMade head chan session before after None = IsWhole head chan session before after
RoundMade head chan session before after (Some end) = IsLast head chan session before after end
