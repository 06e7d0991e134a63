-- What clauses say of an end of a berth.
use Rattle.std.specs.Prelude.{◌≡◌, ◌^◌, true, false, List, length}
use Rattle.berth.specs.declared.note.BerthNote.{BerthNote}
use Rattle.berth.specs.declared.note.BoxStep.{BoxStep}
use Rattle.berth.specs.declared.berth.Berth.{Berth}
use Rattle.turn_lock.specs.Passes.{lock_of, known}
use Rattle.berth.specs.Ends.{notes_put, notes_taken, AnswersStep}

module _ {Q : Type 0} where
  -- the notes that an end put, or took
  abbrev pub put_notes : Berth Q → List BerthNote
  put_notes b = notes_put (known b.pass)

  abbrev pub taken_notes : Berth Q → List BerthNote
  taken_notes b = notes_taken (known b.pass)

  -- the first and the second end of one berth
  abbrev pub IsPair : Berth Q → Berth Q → Type 0
  IsPair a b = (a.is_first ≡ true) × (b.is_first ≡ false) × (lock_of b.pass ≡ lock_of a.pass)

  -- an end stays the same end
  abbrev pub IsSameEnd : Berth Q → Berth Q → Type 0
  IsSameEnd a b = (b.is_first ≡ a.is_first) × (lock_of b.pass ≡ lock_of a.pass)

  -- the end's last step, which answers what a box answers at its place
  abbrev pub HasLastStep : Berth Q → BoxStep → Berth Q → Type 0
  HasLastStep a e b = AnswersStep (known a.pass) e (known b.pass)

  -- the box has all the steps that are counted
  abbrev pub IsFull : Berth Q → Type 0
  IsFull b = length (known b.pass).seen ≡ 2 ^ 62
