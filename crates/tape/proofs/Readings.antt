-- A tape has one reading, so a good tape is played whole.
use Rattle.std.proofs.Common.{◌≡◌, inl, inr, ℕ, ◌-◌, ◌≤◌, List, [], ◌∷◌, ◌++◌, length, Option, Some, None, refl, sym, ap, ◌∙◌, subst, arith, length-append}
use Rattle.std.proofs.lemmas.List.{append-nil}
use Rattle.circuit_model.specs.Rules.{Rules}
use Rattle.tr_io.specs.declared.status.Status.{Status}
use Rattle.tr_io.specs.declared.status.Status.TheVariants.{Done, Memory}
use Rattle.switch_model.specs.Legal.{IsLegal}
use Rattle.switch_model.proofs.SentBegins.{sent_is_prefix}
use Rattle.tape.specs.declared.input.Ending.{Ending}
use Rattle.tape.specs.declared.input.Ending.TheVariants.{End, Fault, Limit}
use Rattle.tape.specs.declared.record.Record.{Record}
use Rattle.tape.specs.Fronts.{record_and}
use Rattle.tape.specs.Records.{front_of}
use Rattle.tape.specs.TapeRules.{rules_and, rules_ahead}
use Rattle.tape.specs.Steps.{tape_start, steps_of, IsRecords, output}
use Rattle.tape.specs.Input.{EndCause, IsRead, NothingLeft, IsTape}
use Rattle.tr_io.specs.Output.{IsWritten}
use Rattle.tape.proofs.Tapes.{front_of_output}
use Rattle.tape.specs.Runs.{status_by, status_at, SourceRun, SinkRun, BeginsNone, SameReading, IsOnlyReading, IsFrontOfOutput, SwitchBehind, FirstRecords, Played, NotBegun, EndsPlay, IsRun, IsDone, IsGood, rules_status}

pub one_reading : (bytes : List ℕ) (a b : List Record) (x y : List ℕ) → IsRecords bytes a x → IsRecords bytes b y → BeginsNone x
    → BeginsNone y → SameReading a b x y
unfolding IsRecords
one_reading bytes [] [] x y read same ends stops = record { records = refl; rest = sym read ∙ same }
one_reading bytes [] (r ∷ more) x y read other ends stops =
    absurd (ends r other.0 (ap front_of (sym read) ∙ other.1.0))
one_reading bytes (r ∷ more) [] x y read other ends stops =
    absurd (stops r read.0 (ap front_of (sym other) ∙ read.1.0))
one_reading bytes (r ∷ more) (q ∷ others) x y read other ends stops =
    let fronts : record_and r read.0 ≡ record_and q other.0 = sym read.1.0 ∙ other.1.0 in
    let same : r ≡ q = cc in
    let behind : read.0 ≡ other.0 = cc in
    let rest : SameReading more others x y =
    one_reading other.0 more others x y (subst (λ z. IsRecords z more x) behind read.1.1) other.1.1 ends stops in
    record { records = ap (λ z. z ∷ more) same ∙ ap (λ zs. q ∷ zs) rest.records; rest = rest.rest }

-- A place with a status begins no record.
pub status_stops : (ending : Ending) (place : ℕ) (rest : List ℕ) (status : Status) → status_at ending place rest ≡ Some status
    → BeginsNone rest
unfolding status_at
status_stops ending place rest status is r behind front =
    let none : None ≡ Some status = sym (ap (status_by ending place rest) front) ∙ is in cc

-- Nothing begins no record.
pub nothing_stops : BeginsNone []
unfolding front_of
nothing_stops r behind front = cc

-- A good tape was read whole, up to its end.
pub record ReadWhole (ending : Ending) (tape bytes : List ℕ) : Type 0 where
  pub at_end : ending ≡ End
  pub all : bytes ≡ tape

told_read : (told : Option (List ℕ)) (tape bytes : List ℕ) (after : Option (List ℕ)) → told ≡ Some tape → IsRead told bytes after
    → NothingLeft after → bytes ≡ tape
told_read told tape bytes None is read left = absurd (subst (λ o. IsRead o bytes None) is read)
told_read told tape bytes (Some rest) is read left =
    let whole : tape ≡ bytes ++ rest = subst (λ o. IsRead o bytes (Some rest)) is read in
    sym (whole ∙ ap (λ xs. bytes ++ xs) left ∙ append-nil bytes)

too_long : (told : Option (List ℕ)) (tape bytes : List ℕ) (after : Option (List ℕ)) → told ≡ Some tape → IsRead told bytes after
    → length bytes ≤ length tape
too_long told tape bytes None is read = absurd (subst (λ o. IsRead o bytes None) is read)
too_long told tape bytes (Some rest) is read =
    let whole : tape ≡ bytes ++ rest = subst (λ o. IsRead o bytes (Some rest)) is read in
    omega (arith, ap length whole, length-append bytes rest)

pub read_whole : (ending : Ending) (tape bytes : List ℕ) (rules : Rules) (records : List Record) (r : SourceRun) (w : SinkRun)
    → IsGood tape rules records r w → EndCause ending r.faults r.faults_after → IsTape ending r.left bytes r.left_after
    → ReadWhole ending tape bytes
read_whole End tape bytes rules records r w good cause read =
    record { at_end = refl; all = told_read r.left tape bytes r.left_after good.told read.0 read.1 }
read_whole Fault tape bytes rules records r w good cause read = absurd (good.reading cause)
read_whole Limit tape bytes rules records r w good cause read =
    let long : length read.0 ≤ length tape = too_long r.left tape read.0 r.left_after good.told read.1.0 in
    absurd (omega (arith, long, read.1.1, good.short))

-- Where nothing is left, the status is Done.
end_done : (place : ℕ) (rest : List ℕ) (status : Status) → rest ≡ [] → status_at End place rest ≡ Some status → status ≡ Done
unfolding status_at front_of
end_done place rest status nothing is =
    let found : Some Done ≡ Some status = sym (ap (λ xs. status_at End place xs) nothing) ∙ is in cc

-- Where a tape's records begin, and its rules, by two ways to say it.
pub record SameStart (a b : Rules) (x y : List ℕ) : Type 0 where
  pub rules : a ≡ b
  pub first : x ≡ y

same_start : (tape : List ℕ) (a b : Rules) (x y : List ℕ) → rules_ahead tape ≡ rules_and a x → rules_ahead tape ≡ rules_and b y
    → SameStart a b x y
same_start tape a b x y one other =
    let same : rules_and a x ≡ rules_and b y = sym one ∙ other in
    record { rules = cc; first = cc }

played_done : (status : Status) (ending : Ending) (tape bytes : List ℕ) (rules : Rules) (records : List Record) (r : SourceRun)
    (w : SinkRun) → IsGood tape rules records r w → ReadWhole ending tape bytes → Played status ending bytes w
    → IsDone status rules records w
unfolding IsDone
played_done status ending tape bytes rules records r w good whole played =
    let start : SameStart played.rules rules played.first good.first =
    same_start tape played.rules rules played.first good.first
    (subst (λ xs. rules_ahead xs ≡ rules_and played.rules played.first) whole.all played.read.ahead) good.ahead in
    let read : IsRecords good.first played.records played.rest =
    subst (λ xs. IsRecords xs played.records played.rest) start.first played.read.read in
    let same : SameReading played.records records played.rest [] =
    one_reading good.first played.records records played.rest [] read good.whole (status_stops _ _ _ _ played.ends)
    nothing_stops in
    let at_end : status_at End (length bytes - length played.rest) played.rest ≡ Some status =
    subst (λ e. status_at e (length bytes - length played.rest) played.rest ≡ Some status) whole.at_end played.ends in
    let written : IsWritten w.contents (output rules played.records) w.contents_after =
    subst (λ x. IsWritten w.contents (output x played.records) w.contents_after) start.rules played.written in
    inl (
      end_done _ _ _ same.rest at_end,
      subst (λ rs. IsWritten w.contents (output rules rs) w.contents_after) same.records
          written,
      played.flushed,
    )

-- A good tape's rules are whole.
begun : (status : Status) (ending : Ending) (tape bytes : List ℕ) (rules : Rules) (records : List Record) (r : SourceRun)
    (w : SinkRun) → IsGood tape rules records r w → ReadWhole ending tape bytes → NotBegun status ending bytes w → ⊥
begun status ending tape bytes rules records r w good whole not_begun =
    let ahead : rules_ahead bytes ≡ rules_and rules good.first = ap rules_ahead whole.all ∙ good.ahead in
    let none : None ≡ Some status = sym (ap (rules_status ending bytes) ahead) ∙ not_begun.ends in cc

pub run_done : (status : Status) (r : SourceRun) (w : SinkRun) → IsRun status r w
    → (tape : List ℕ) (rules : Rules) (records : List Record) → IsGood tape rules records r w → IsDone status rules records w
unfolding IsRun IsDone
run_done status r w (inl run) tape rules records good =
    let whole : ReadWhole run.ending tape run.tape =
    read_whole run.ending tape run.tape rules records r w good run.cause run.bytes in
    elim run.play [
      | inl played ↦ played_done status run.ending tape run.tape rules records r w good whole played
      | inr other ↦ elim other [
        | inl cut ↦ absurd (good.writing cut.cause)
        | inr more ↦ elim more [
          | inl short ↦ inr short.is
          | inr not_begun ↦ absurd (begun status run.ending tape run.tape rules records r w good whole not_begun)
        ]
      ]
    ]
run_done status r w (inr unread) tape rules records good = inr unread.is

pub finished : (status : Status) (ending : Ending) (tape : List ℕ) (r : SourceRun) (w : SinkRun)
    → EndCause ending r.faults r.faults_after → IsTape ending r.left tape r.left_after → EndsPlay status ending tape w
    → IsRun status r w
unfolding IsRun
finished status ending tape r w cause bytes play =
    inl (record { ending = ending; tape = tape; cause = cause; bytes = bytes; play = play })

pub unread : (r : SourceRun) (w : SinkRun) → (bytes : List ℕ) × IsRead r.left bytes r.left_after → w.contents_after ≡ w.contents
    → IsRun Memory r w
unfolding IsRun
unread r w read same = inr (record { is = refl; bytes = read.0; read = read.1; contents = same })

pub only_reading : (tape : List ℕ) (records : List Record) (rest : List ℕ) → IsRecords tape records rest → BeginsNone rest
    → IsOnlyReading tape records rest
only_reading tape records rest read stops others other also ends = one_reading tape records others rest other read also stops ends

-- Some first records of a tape, and the others.
first_of_all : (bytes : List ℕ) (some all : List Record) (rest end : List ℕ) → IsRecords bytes some rest → IsRecords bytes all end
    → BeginsNone end → (more : List Record) × (all ≡ some ++ more)
unfolding IsRecords
first_of_all bytes [] all rest end read whole ends = (all, refl)
first_of_all bytes (r ∷ more) [] rest end read whole ends = absurd (ends r read.0 (ap front_of (sym whole) ∙ read.1.0))
first_of_all bytes (r ∷ more) (q ∷ others) rest end read whole ends =
    let fronts : record_and r read.0 ≡ record_and q whole.0 = sym read.1.0 ∙ whole.1.0 in
    let same : r ≡ q = cc in
    let behind : read.0 ≡ whole.0 = cc in
    let left : (more_left : List Record) × (others ≡ more ++ more_left) =
    first_of_all whole.0 more others rest end (subst (λ z. IsRecords z more rest) behind read.1.1) whole.1.1 ends in
    (left.0, ap (λ xs. q ∷ xs) left.1 ∙ ap (λ x. x ∷ (more ++ left.0)) (sym same))

pub front_answers : (rules : Rules) (first : List ℕ) (records : List Record) (rest : List ℕ) → IsRecords first records rest
    → IsFrontOfOutput rules first (output rules records)
front_answers rules first records rest read all end whole ends =
    let left : (more : List Record) × (all ≡ records ++ more) = first_of_all first records all rest end read whole ends in
    let front : (behind : List ℕ) × (output rules (records ++ left.0) ≡ output rules records ++ behind) =
    front_of_output rules records left.0 in
    (front.0, ap (output rules) left.1 ∙ front.1)

-- A switch stands for legal histories alone.
legal_behind : (rules : Rules) (records : List Record) → SwitchBehind rules records
    → IsLegal (tape_start rules) (steps_of rules records)
legal_behind rules records behind =
    subst (λ start. IsLegal start (steps_of rules records)) behind.start behind.stands.state.steps.legal

pub first_records : (rules : Rules) (tape first rest : List ℕ) (records : List Record) → rules_ahead tape ≡ rules_and rules first
    → IsRecords first records rest →
    SwitchBehind rules records → FirstRecords rules tape first rest records
first_records rules tape first rest records ahead read behind = record {
  ahead = ahead;
  read = read;
  behind = behind;
  legal = legal_behind rules records behind;
  sends = sent_is_prefix (tape_start rules) (steps_of rules records) (legal_behind rules records behind);
  front = front_answers rules first records rest read;
}
