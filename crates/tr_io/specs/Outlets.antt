-- What the halves of an outlet tell, and what each call does to that.
use Rattle.std.specs.Prelude.{◌≡◌, ℕ, ⊤, List, [], ◌∷◌, ◌++◌, take, Option, Some, None, Bool, true, false}
use Rattle.tr_io.specs.declared.names.Dest.{Dest}
use Rattle.tr_io.specs.declared.door_answer.DoorAnswer.{DoorAnswer}
use Rattle.tr_io.specs.declared.door_answer.DoorAnswer.TheVariants as Doors
use Rattle.tr_io.specs.declared.source.ReadAnswer.{ReadAnswer}
use Rattle.tr_io.specs.declared.source.ReadAnswer.TheVariants as ReadAnswers
use Rattle.tr_io.specs.Pieces.{Piece}

-- A session: its number, and the destination that was reached.
pub record OutletSession : Type 0 where
  pub number : ℕ
  pub to : Dest

-- A session that was reached stands behind the others; any other answer leaves them. A half that doesn't
-- tell its sessions never does.
abbrev pub Reaches : DoorAnswer → Dest → Option (List OutletSession) → Option (List OutletSession) → Type 0
Reaches answer to None after = after ≡ None
Reaches (Doors.Came number) to (Some before) after = after ≡ Some (before ++ record { number = number; to = to } ∷ [])
Reaches Doors.NoMore to (Some before) after = after ≡ Some before
Reaches Doors.Refused to (Some before) after = after ≡ Some before
Reaches Doors.Failed to (Some before) after = after ≡ Some before

-- What was read in a session stands behind all that was read; any other answer leaves it. A half that doesn't
-- tell what was read never does.
abbrev pub ReadsFor : ℕ → ReadAnswer → List ℕ → Option (List Piece) → Option (List Piece) → Type 0
ReadsFor session answer buffer None after = after ≡ None
ReadsFor session (ReadAnswers.Got n) buffer (Some before) after =
    after ≡ Some (before ++ record { session = session; bytes = take n buffer } ∷ [])
ReadsFor session ReadAnswers.End buffer (Some before) after = after ≡ Some before
ReadsFor session ReadAnswers.Failed buffer (Some before) after = after ≡ Some before

-- The end comes exactly where the session's input is told to be at its end, as far as that is told.
abbrev pub EndsRight : ReadAnswer → Option Bool → Type 0
EndsRight answer None = ⊤
EndsRight (ReadAnswers.Got n) (Some is_at_end) = is_at_end ≡ false
EndsRight ReadAnswers.End (Some is_at_end) = is_at_end ≡ true
EndsRight ReadAnswers.Failed (Some is_at_end) = ⊤
