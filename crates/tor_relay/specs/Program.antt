-- How a run of the program ends: the number that it exits with, and what it says on standard error.
use Rattle.std.specs.Prelude.{◌≡◌, ◌⊎◌, ℕ, List, [], ◌++◌, true, false, codes}
use Rattle.std.specs.declared.io.ErrorKind.{ErrorKind}
use Rattle.circuit_model.specs.Rules.{Rules}
use Rattle.tr_io.specs.declared.status.Status.{Status}
use Rattle.tr_io.specs.declared.status.Status.TheVariants.{Done, Usage, Settings, ReadFault, WriteFault, BadTape, NotBuilt, TooLong, DoorFault, CrewFault, Memory, LinkRefused, CircuitClosed, StreamEnded}
use Rattle.tr_io.specs.Faults.{Rose}
use Rattle.tr_io.specs.Statuses.{status_number, status_text}
use Rattle.tape.specs.declared.record.Record.{Record}
use Rattle.tape.specs.Causes.{is_tape_line, IsRunStatus}
use Rattle.tr_io.specs.Output.{IsWritten, IsPartWritten}
use Rattle.tape.specs.Runs.{SourceRun, SinkRun, IsRun, IsGood, IsDone}

-- The command lines, which are said behind `usage`.
abbrev pub usage_line : Status → List ℕ
usage_line Usage = codes "tape | gen COUNT SEED | serve PATH\n"
usage_line Done = []
usage_line (Settings rule) = []
usage_line ReadFault = []
usage_line WriteFault = []
usage_line (BadTape place) = []
usage_line (NotBuilt kind) = []
usage_line TooLong = []
usage_line DoorFault = []
usage_line CrewFault = []
usage_line Memory = []
usage_line (LinkRefused cause) = []
usage_line (CircuitClosed cause) = []
usage_line (StreamEnded reason) = []

-- How the program ends whose words can't be told, by what went wrong.
abbrev pub wordless_end : ErrorKind → Status
wordless_end ErrorKind.OutOfMemory = Memory
wordless_end kind = Usage

-- The program's name, and how it ended.
abbrev pub end_message : Status → List ℕ
end_message status = codes "tor_relay: " ++ status_text status ++ codes "\n" ++ usage_line status

-- What the program says of its end: nothing where all was done.
abbrev pub message : Status → List ℕ
message Done = []
message Usage = end_message Usage
message (Settings rule) = end_message (Settings rule)
message ReadFault = end_message ReadFault
message WriteFault = end_message WriteFault
message (BadTape place) = end_message (BadTape place)
message (NotBuilt kind) = end_message (NotBuilt kind)
message TooLong = end_message TooLong
message DoorFault = end_message DoorFault
message CrewFault = end_message CrewFault
message Memory = end_message Memory
message (LinkRefused cause) = end_message (LinkRefused cause)
message (CircuitClosed cause) = end_message (CircuitClosed cause)
message (StreamEnded reason) = end_message (StreamEnded reason)

-- All of a text is written; or standard error failed, and the front of it is.
abbrev pub IsSaid : List ℕ → SinkRun → Type 0
IsSaid text e =
    IsWritten e.contents text e.contents_after ⊎ (IsPartWritten e.contents text e.contents_after × Rose e.faults e.faults_after)

-- A run of the command line that these words are ends with this status.
pub record EndsAs {S K : Type 0} (words : List (List ℕ)) (status : Status) (source source_after : S) (sink sink_after : K)
    (r : SourceRun) (w : SinkRun) : Type 0 where
  pub usage : is_tape_line words ≡ false → status ≡ Usage
  pub unused : is_tape_line words ≡ false → (source_after ≡ source) × (sink_after ≡ sink)
  pub possible : is_tape_line words ≡ true → IsRunStatus status
  pub read : status ≡ ReadFault → Rose r.faults r.faults_after
  pub write : status ≡ WriteFault → Rose w.faults w.faults_after
  pub run : is_tape_line words ≡ true → IsRun status r w
  pub done : is_tape_line words ≡ true → (tape : List ℕ) (rules : Rules) (records : List Record) → IsGood tape rules records r w
      → IsDone status rules records w

-- The number is that of a status, which is said.
pub record Tells (number : ℕ) (status : Status) (e : SinkRun) : Type 0 where
  pub exit : number ≡ status_number status
  pub said : IsSaid (message status) e

-- A run with these words.
pub record IsProgramRun {S K : Type 0} (words : List (List ℕ)) (number : ℕ) (source source_after : S) (sink sink_after : K)
    (r : SourceRun) (w e : SinkRun) : Type 0 where
  pub status : Status
  pub tells : Tells number status e
  pub ends : EndsAs words status source source_after sink sink_after r w
