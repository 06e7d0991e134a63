-- A source and a sink in memory, and what they answer.
use Rattle.std.specs.Prelude.{ℕ, ◌+◌, ◌-◌, ◌^◌, min, List, [], ◌∷◌, length, Bool, ◌==◌, if◌then◌else◌}
use Rattle.std.specs.List.{list_any}
use Rattle.tr_io.specs.declared.source.ReadAnswer.{ReadAnswer}
use Rattle.tr_io.specs.declared.source.ReadAnswer.TheVariants as ReadAnswers
use Rattle.tr_io.specs.declared.sink.WriteAnswer.{WriteAnswer}
use Rattle.tr_io.specs.declared.sink.WriteAnswer.TheVariants as WriteAnswers

-- The bytes that are left, how many a read gets at most, the numbers of the reads that fail, how many
-- were made, and how many failed.
pub record SourceState : Type 0 where
  pub rest : List ℕ
  pub most : ℕ
  pub failing_numbers : List ℕ
  pub calls : ℕ
  pub faults : ℕ

-- The bytes written, how many of them are flushed, how many a write takes at most, the numbers of the
-- calls that fail, how many were made, and how many failed.
pub record SinkState : Type 0 where
  pub written : List ℕ
  pub flushed_count : ℕ
  pub most : ℕ
  pub failing_numbers : List ℕ
  pub calls : ℕ
  pub faults : ℕ

-- Whether the call with this number is listed.
abbrev pub is_listed : List ℕ → ℕ → Bool
is_listed failing_numbers number = list_any (λ n. n == number) failing_numbers

-- The number of the next call. It stands still at the end of its type.
abbrev pub next_call : ℕ → ℕ
next_call number = min (number + 1) (2 ^ 64 - 1)

-- n bytes, or the end where there are none.
abbrev pub got : ℕ → ReadAnswer
got n = if n == 0 then ReadAnswers.End else ReadAnswers.Got n

-- To a read into so many bytes: a listed one fails, and any other gets what is left, as much as fits.
abbrev pub read_answer : SourceState → ℕ → ReadAnswer
read_answer s room =
    if is_listed s.failing_numbers s.calls then ReadAnswers.Failed else got (min (min (length s.rest) room) s.most)

-- A write of no bytes is no call.
abbrev pub calls_after_write : ℕ → List ℕ → ℕ
calls_after_write calls [] = calls
calls_after_write calls (byte ∷ piece) = next_call calls

abbrev pub flush_answer : SinkState → WriteAnswer
flush_answer s = if is_listed s.failing_numbers s.calls then WriteAnswers.Failed else WriteAnswers.Took 0
