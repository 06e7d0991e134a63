-- How the run of a tape ends: its status, and what is written at each.
use Rattle.std.specs.Prelude.{◌≡◌, ◌⊎◌, ℕ, ◌-◌, ◌≤◌, List, [], ◌∷◌, ◌++◌, length, Option, Some, None}
use Rattle.circuit_model.specs.Rules.{Rules}
use Rattle.tr_io.specs.declared.status.Status.{Status}
use Rattle.tr_io.specs.declared.status.Status.TheVariants.{Done, ReadFault, WriteFault, BadTape, NotBuilt, TooLong, Memory}
use Rattle.tr_io.specs.Faults.{Rose}
use Rattle.tape.specs.declared.input.Ending.{Ending}
use Rattle.tape.specs.declared.input.Ending.TheVariants.{End, Fault, Limit}
use Rattle.tape.specs.declared.record.Record.{Record}
use Rattle.tape.specs.Fronts.{FrontOf, record_and, less, no_record, unbuilt}
use Rattle.tape.specs.Records.{front_of}
use Rattle.circuit_model.specs.Events.{CircuitCell}
use Rattle.circuit_model.specs.Sent.{leg_cells}
use Rattle.tr_io.specs.declared.step.Step.{Step}
use Rattle.switch_model.specs.History.Circuit.{sent}
use Rattle.switch_model.specs.Waiting.Queues.{circuit_log}
use Rattle.switch_model.specs.Legal.{IsLegal}
use Rattle.switch_model.specs.Start.{SwitchStart}
use Rattle.switch_core.specs.Started.{Started, SwitchStands}
use Rattle.tape.specs.TapeRules.{RulesFrontOf, rules_and, less_than_rules, no_rules, rules_ahead}
use Rattle.tape.specs.KeptJobs.{HasNoStranger}
use Rattle.tape.specs.Steps.{tape_start, steps_of, IsRecords, output}
use Rattle.tape.specs.Input.{tape_limit, EndCause, IsRead, IsTape}
use Rattle.tr_io.specs.Output.{IsWritten, IsPartWritten}

-- What a source tells of its bytes and faults, before and after a run.
pub record SourceRun : Type 0 where
  pub left : Option (List ℕ)
  pub faults : ℕ
  pub left_after : Option (List ℕ)
  pub faults_after : ℕ

abbrev pub source_run : Option (List ℕ) → ℕ → Option (List ℕ) → ℕ → SourceRun
source_run left faults left_after faults_after =
    record { left = left; faults = faults; left_after = left_after; faults_after = faults_after }

-- What a sink tells of its bytes and faults, before and after a run, and which bytes are flushed after it.
pub record SinkRun : Type 0 where
  pub contents : Option (List ℕ)
  pub faults : ℕ
  pub contents_after : Option (List ℕ)
  pub flushed_after : Option (List ℕ)
  pub faults_after : ℕ

abbrev pub sink_run : Option (List ℕ) → ℕ → Option (List ℕ) → Option (List ℕ) → ℕ → SinkRun
sink_run contents faults contents_after flushed_after faults_after =
    record {
      contents = contents;
      faults = faults;
      contents_after = contents_after;
      flushed_after = flushed_after;
      faults_after =
          faults_after;
    }

-- All that the sink has taken is flushed.
abbrev pub IsFlushed : SinkRun → Type 0
IsFlushed w = w.flushed_after ≡ w.contents_after

-- The status where the bytes that are left are less than a record, at this place.
abbrev pub cut_status : Ending → ℕ → List ℕ → Status
cut_status End place [] = Done
cut_status End place (byte ∷ bytes) = BadTape place
cut_status Fault place rest = ReadFault
cut_status Limit place rest = TooLong

-- The status by what stands at the first place that begins no record which is built. A bad place
-- decides first, and then the end of the reading.
abbrev pub status_by : Ending → ℕ → List ℕ → FrontOf → Option Status
status_by ending place rest (record_and r behind) = None
status_by ending place rest less = Some (cut_status ending place rest)
status_by ending place rest no_record = Some (BadTape place)
status_by ending place rest (unbuilt kind) = Some (NotBuilt kind)

unfoldable pub status_at : Ending → ℕ → List ℕ → Option Status
status_at ending place rest = status_by ending place rest (front_of rest)

-- The status where a tape's rules are cut, or are none: its place is that of the tape's first byte.
abbrev pub rules_status : Ending → List ℕ → RulesFrontOf → Option Status
rules_status ending tape (rules_and rules first) = None
rules_status ending tape less_than_rules = Some (cut_status ending 0 tape)
rules_status ending tape no_rules = Some (BadTape 0)

-- These bytes begin no record that is built.
abbrev pub BeginsNone : List ℕ → Type 0
BeginsNone bytes = (r : Record) (behind : List ℕ) → front_of bytes ≡ record_and r behind → ⊥

-- Two readings of a tape are the same.
pub record SameReading (a b : List Record) (x y : List ℕ) : Type 0 where
  pub records : a ≡ b
  pub rest : x ≡ y

-- The bytes from the first record on have no other reading, up to a place that begins no record.
abbrev pub IsOnlyReading : List ℕ → List Record → List ℕ → Type 0
IsOnlyReading first records rest =
    (others : List Record) (other : List ℕ) → IsRecords first others other → BeginsNone other
    → SameReading records others rest other

-- The answers of some first records are the front of those of all.
abbrev pub IsFrontOfOutput : Rules → List ℕ → List ℕ → Type 0
IsFrontOfOutput rules first answers =
    (all : List Record) (rest : List ℕ) → IsRecords first all rest → BeginsNone rest
    → (behind : List ℕ) × (output rules all ≡ answers ++ behind)

-- What was sent on leg k of circuit c begins what the one-thread relay sends there.
abbrev pub BeginsOnLeg : SwitchStart → List Step → ℕ → ℕ → Type 0
BeginsOnLeg start h c k =
    (rest : List CircuitCell) × (sent start.rules h c k ++ rest ≡ leg_cells (circuit_log start.rules h c) k)

-- A switch with these rules that stands for the steps of these records, its relays and ciphers among it. None of
-- the returns is refused as one of a job that the switch didn't give out.
pub record SwitchBehind (rules : Rules) (records : List Record) : Type 0 where
  pub switch : Started
  pub start : switch.start ≡ tape_start rules
  pub stands : SwitchStands switch (steps_of rules records)
  pub own : HasNoStranger (steps_of rules records)

-- Behind its rules the tape has these records. Their steps, each with its answer, are a legal history
-- of a switch with these rules, and some such switch stands for them. What they send on any leg of any
-- circuit begins what the one-thread relay sends there.
pub record FirstRecords (rules : Rules) (tape first rest : List ℕ) (records : List Record) : Type 0 where
  pub ahead : rules_ahead tape ≡ rules_and rules first
  pub read : IsRecords first records rest
  pub behind : SwitchBehind rules records
  pub legal : IsLegal (tape_start rules) (steps_of rules records)
  pub sends : (c k : ℕ) → BeginsOnLeg (tape_start rules) (steps_of rules records) c k
  pub front : IsFrontOfOutput rules first (output rules records)

-- All of the tape's records were played, up to the first place that begins none, and answered, and
-- the answers are flushed.
pub record Played (status : Status) (ending : Ending) (tape : List ℕ) (w : SinkRun) : Type 0 where
  pub rules : Rules
  pub first : List ℕ
  pub records : List Record
  pub rest : List ℕ
  pub read : FirstRecords rules tape first rest records
  pub ends : status_at ending (length tape - length rest) rest ≡ Some status
  pub only : IsOnlyReading first records rest
  pub written : IsWritten w.contents (output rules records) w.contents_after
  pub flushed : IsFlushed w

-- The sink failed: a front of the output was written.
pub record CutOff (status : Status) (tape : List ℕ) (w : SinkRun) : Type 0 where
  pub is : status ≡ WriteFault
  pub cause : Rose w.faults w.faults_after
  pub rules : Rules
  pub first : List ℕ
  pub records : List Record
  pub rest : List ℕ
  pub read : FirstRecords rules tape first rest records
  pub written : IsPartWritten w.contents (output rules records) w.contents_after

-- Memory was wanting at some record: the answers of those before it were written, each whole.
pub record OutOfMemory (status : Status) (tape : List ℕ) (w : SinkRun) : Type 0 where
  pub is : status ≡ Memory
  pub rules : Rules
  pub first : List ℕ
  pub records : List Record
  pub rest : List ℕ
  pub read : FirstRecords rules tape first rest records
  pub written : IsWritten w.contents (output rules records) w.contents_after

-- The tape's rules are cut, or are none: nothing was played.
pub record NotBegun (status : Status) (ending : Ending) (tape : List ℕ) (w : SinkRun) : Type 0 where
  pub ends : rules_status ending tape (rules_ahead tape) ≡ Some status
  pub contents : w.contents_after ≡ w.contents

abbrev pub EndsPlay : Status → Ending → List ℕ → SinkRun → Type 0
EndsPlay status ending tape w =
    Played status ending tape w ⊎ (CutOff status tape w ⊎ (OutOfMemory status tape w ⊎ NotBegun status ending tape w))

-- The tape was read, up to the end, a fault or the limit, and played.
pub record Finished (status : Status) (r : SourceRun) (w : SinkRun) : Type 0 where
  pub ending : Ending
  pub tape : List ℕ
  pub cause : EndCause ending r.faults r.faults_after
  pub bytes : IsTape ending r.left tape r.left_after
  pub play : EndsPlay status ending tape w

-- Memory was wanting while the tape was read: nothing was written.
pub record NotRead (status : Status) (r : SourceRun) (w : SinkRun) : Type 0 where
  pub is : status ≡ Memory
  pub bytes : List ℕ
  pub read : IsRead r.left bytes r.left_after
  pub contents : w.contents_after ≡ w.contents

-- A run of a tape.
unfoldable pub IsRun : Status → SourceRun → SinkRun → Type 0
IsRun status r w = Finished status r w ⊎ NotRead status r w

-- A run of a tape that is rules and these records and nothing else: all is done, and all answers are
-- written and flushed, unless memory was wanting.
unfoldable pub IsDone : Status → Rules → List Record → SinkRun → Type 0
IsDone status rules records w =
    ((status ≡ Done) × IsWritten w.contents (output rules records) w.contents_after × IsFlushed w) ⊎ (status ≡ Memory)

-- What makes a run end so: the source tells a tape that is rules and these records and nothing else, it
-- isn't too long, and neither source nor sink failed.
pub record IsGood (tape : List ℕ) (rules : Rules) (records : List Record) (r : SourceRun) (w : SinkRun) : Type 0 where
  pub told : r.left ≡ Some tape
  pub first : List ℕ
  pub ahead : rules_ahead tape ≡ rules_and rules first
  pub whole : IsRecords first records []
  pub short : length tape ≤ tape_limit
  pub reading : Rose r.faults r.faults_after → ⊥
  pub writing : Rose w.faults w.faults_after → ⊥
