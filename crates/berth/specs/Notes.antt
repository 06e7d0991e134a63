-- What a box of one note answers, and the notes that were put and taken.
use Rattle.std.specs.Prelude.{◌≡◌, Bool, true, false, List, [], ◌∷◌, Option, Some, None, ⊤}
use Rattle.berth.specs.declared.note.BerthNote.{BerthNote}
use Rattle.berth.specs.declared.note.NoteBox.{NoteBox}
use Rattle.berth.specs.declared.note.BoxStep.{BoxStep}
use Rattle.berth.specs.declared.note.BoxStep.TheVariants.{Put, Take}

-- what lies in the box after a step
abbrev pub note_after : Option BerthNote → BoxStep → Option BerthNote
note_after c (Put n true) = Some n
note_after c (Put n false) = c
note_after c (Take r) = None

-- what lies in it after some steps
abbrev pub note_after_all : Option BerthNote → List BoxStep → Option BerthNote
note_after_all c [] = c
note_after_all c (e ∷ es) = note_after_all (note_after c e) es

-- a note is put exactly where none lies in the box
abbrev pub IsPutRight : Option BerthNote → Bool → Type 0
IsPutRight None true = ⊤
IsPutRight None false = ⊥
IsPutRight (Some m) true = ⊥
IsPutRight (Some m) false = ⊤

-- the step answers rightly where c lies in the box: what is taken is what lies there
abbrev pub IsRight : Option BerthNote → BoxStep → Type 0
IsRight c (Put n a) = IsPutRight c a
IsRight c (Take r) = r ≡ c

abbrev pub AreRight : Option BerthNote → List BoxStep → Type 0
AreRight c [] = ⊤
AreRight c (e ∷ es) = IsRight c e × AreRight (note_after c e) es

-- a new box is empty
abbrev pub AnswersAreRight : Unit {0} → List BoxStep → Type 0
AnswersAreRight b h = AreRight None h

abbrev pub StandsForSteps : NoteBox → Unit {0} → List BoxStep → Type 0
StandsForSteps s b h = (s.note ≡ note_after_all None h) × AreRight None h

abbrev pub notes_of : Option BerthNote → List BerthNote
notes_of None = []
notes_of (Some n) = n ∷ []

abbrev pub put_by : BoxStep → List BerthNote
put_by (Put n true) = n ∷ []
put_by (Put n false) = []
put_by (Take r) = []

abbrev pub taken_by : BoxStep → List BerthNote
taken_by (Put n a) = []
taken_by (Take r) = notes_of r
