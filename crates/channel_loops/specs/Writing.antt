-- The steps of a link's writer, and the bytes that it writes.
use Rattle.std.specs.Prelude.{◌≡◌, ℕ, List, [], ◌∷◌, ◌++◌, take, Option, Some, None, Bool, true, false, flat_map}
use Rattle.cell_codec.specs.declared.cell.Cell.{Cell}
use Rattle.cell_codec.specs.Cells.{wire_cell}
use Rattle.tor_spec.specs.CellEncoding.{encoding}
use Rattle.tr_io.specs.declared.answers.BackAnswer.{BackAnswer}
use Rattle.tr_io.specs.declared.loop_end.LoopEnd.{LoopEnd}
use Rattle.tr_io.specs.declared.names.ChanNo.{ChanNo}
use Rattle.tr_io.specs.declared.step.Step.{Step}
use Rattle.tr_io.specs.declared.step.Step.TheVariants.{Halted, NextCell, Live, ChannelDown}
use Rattle.tr_io.specs.Faults.{Rose}
use Rattle.tr_io.specs.Pieces.{Piece, WroteAll}

-- A whole round: at this tick this cell left, or nothing waited on the channel, which was live.
pub data WriterRound : Type 0 where
  Sent : ℕ → Cell → WriterRound
  Idle : ℕ → WriterRound

abbrev pub round_steps : ChanNo → WriterRound → List Step
round_steps chan (Sent tick cell) = Halted false ∷ NextCell chan tick (Some cell) ∷ []
round_steps chan (Idle tick) = Halted false ∷ NextCell chan tick None ∷ Live chan true ∷ []

-- The cell is written as it lies on a link.
abbrev pub round_bytes : WriterRound → List ℕ
round_bytes (Sent tick cell) = encoding (wire_cell cell)
round_bytes (Idle tick) = []

-- What comes behind the whole rounds, and ends the writer: there was no room for a cell's bytes; no step was
-- left for `halted`, for `next_cell`, or, where nothing waited at this tick, for `live`; the relay had halted;
-- nothing waited and the channel wasn't live; or a cell of which so many bytes were written before the half
-- failed, and then `channel_down` with its answer, or no step left for it.
pub data LastPart : Type 0 where
  NoRoom : LastPart
  NoHalted : LastPart
  NoNext : LastPart
  NoLive : ℕ → LastPart
  IsHalted : LastPart
  NotLive : ℕ → LastPart
  Cut : ℕ → Cell → ℕ → BackAnswer → LastPart
  CutOnly : ℕ → Cell → ℕ → LastPart

abbrev pub last_steps : ChanNo → LastPart → List Step
last_steps chan NoRoom = []
last_steps chan NoHalted = []
last_steps chan NoNext = Halted false ∷ []
last_steps chan (NoLive tick) = Halted false ∷ NextCell chan tick None ∷ []
last_steps chan IsHalted = Halted true ∷ []
last_steps chan (NotLive tick) = Halted false ∷ NextCell chan tick None ∷ Live chan false ∷ []
last_steps chan (Cut tick cell count answer) = Halted false ∷ NextCell chan tick (Some cell) ∷ ChannelDown chan answer ∷ []
last_steps chan (CutOnly tick cell count) = Halted false ∷ NextCell chan tick (Some cell) ∷ []

abbrev pub end_of : LastPart → LoopEnd
end_of NoRoom = LoopEnd.Memory
end_of NoHalted = LoopEnd.Spent
end_of NoNext = LoopEnd.Spent
end_of (NoLive tick) = LoopEnd.Spent
end_of IsHalted = LoopEnd.Halted
end_of (NotLive tick) = LoopEnd.Ended
end_of (Cut tick cell count answer) = LoopEnd.WriteFault
end_of (CutOnly tick cell count) = LoopEnd.Spent

-- The front of a cell that was written before the half failed.
abbrev pub last_bytes : LastPart → List ℕ
last_bytes (Cut tick cell count answer) = take count (encoding (wire_cell cell))
last_bytes (CutOnly tick cell count) = take count (encoding (wire_cell cell))
last_bytes last = []

abbrev pub is_cut : LastPart → Bool
is_cut (Cut tick cell count answer) = true
is_cut (CutOnly tick cell count) = true
is_cut last = false

-- The whole rounds, one after another, and what comes behind. The bytes written in the session are those of
-- the cells, in order; the last one is cut only where the half's count of faults rose.
pub record IsWriterRun (chan : ChanNo) (session : ℕ) (before after : Option (List Piece)) (faults_before faults_after : ℕ)
    (end : LoopEnd) (steps : List Step) : Type 0 where
  pub rounds : List WriterRound
  pub last : LastPart
  pub end_is : end ≡ end_of last
  pub steps_are : steps ≡ flat_map (round_steps chan) rounds ++ last_steps chan last
  pub written : WroteAll session (flat_map round_bytes rounds ++ last_bytes last) before after
  pub cause : is_cut last ≡ true → Rose faults_before faults_after
