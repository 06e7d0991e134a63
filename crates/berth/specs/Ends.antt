-- The notes of an end of a berth, by what its pass knows.
use Rattle.std.specs.Prelude.{◌≡◌, ◌^◌, ◌<◌, Bool, true, false, List, [], ◌∷◌, ◌++◌, length, Some, None, flat_map}
use mathlib.Core.List.{IsPrefix}
use Rattle.berth.specs.declared.note.BerthNote.{BerthNote}
use Rattle.berth.specs.declared.note.NoteBox.{NoteBox}
use Rattle.berth.specs.declared.note.BoxStep.{BoxStep}
use Rattle.turn_lock.specs.declared.view.View.{View}
use Rattle.turn_lock.specs.Views.{own_steps}
use Rattle.berth.specs.Notes.{AreRight, IsRight, note_after_all, put_by, taken_by}

abbrev pub notes_put : View NoteBox BoxStep → List BerthNote
notes_put v = flat_map put_by (own_steps v)

abbrev pub notes_taken : View NoteBox BoxStep → List BerthNote
notes_taken v = flat_map taken_by (own_steps v)

abbrev pub empty_box : NoteBox
empty_box = record { note = None }

-- an end of a berth, one of two: the first takes nothing, the second puts nothing
pub record IsEnd (is_first : Bool) (v : View NoteBox BoxStep) : Type 0 where
  pub parts : v.parts ≡ 1
  pub seats : v.seats ≡ 2
  pub opening : v.opening ≡ Some empty_box
  pub first : is_first ≡ true → notes_taken v ≡ []
  pub second : is_first ≡ false → notes_put v ≡ []

-- the step is the last of the box's history so far, and answers what a box answers there
pub record AnswersStep (v : View NoteBox BoxStep) (e : BoxStep) (w : View NoteBox BoxStep) : Type 0 where
  pub log : List BoxStep
  pub older : IsPrefix v.seen log
  pub room : length log < 2 ^ 62
  pub last : w.seen ≡ log ++ e ∷ []
  pub legal : AreRight None w.seen
  pub right : IsRight (note_after_all None log) e
