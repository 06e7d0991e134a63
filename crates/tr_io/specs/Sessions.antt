-- What the inward half of a slot tells of its sessions, and what each call does to that.
use Rattle.std.specs.Prelude.{◌≡◌, ℕ, ◌+◌, ◌≤◌, ⊤, List, [], ◌∷◌, ◌++◌, take, Option, Some, None, Bool, true, false}
use Rattle.tr_io.specs.declared.names.Dest.{Dest}
use Rattle.tr_io.specs.declared.source.ReadAnswer.{ReadAnswer}
use Rattle.tr_io.specs.declared.source.ReadAnswer.TheVariants as ReadAnswers
use Rattle.tr_io.specs.declared.sink.WriteAnswer.{WriteAnswer}
use Rattle.tr_io.specs.declared.sink.WriteAnswer.TheVariants as WriteAnswers
use Rattle.tr_io.specs.declared.door_answer.DoorAnswer.{DoorAnswer}
use Rattle.tr_io.specs.declared.door_answer.DoorAnswer.TheVariants as Doors

-- A session: its number, where it was dialled to, if it was, the bytes read, whether its input is at its
-- end, and the bytes said, which open the link.
pub record Session : Type 0 where
  pub number : ℕ
  pub to : Option Dest
  pub input : List ℕ
  pub is_at_end : Bool
  pub greeting : List ℕ

-- The sessions before the present one, oldest first, and the present one.
pub record SlotSessions : Type 0 where
  pub past : List Session
  pub present : Option Session

-- A slot before its first session.
abbrev pub no_session : SlotSessions
no_session = record { past = []; present = None }

abbrev pub listed : Option Session → List Session
listed None = []
listed (Some session) = session ∷ []

-- All sessions, oldest first.
abbrev pub all_sessions : SlotSessions → List Session
all_sessions sessions = sessions.past ++ listed sessions.present

-- A session of this number in which nothing was read or said yet.
abbrev pub IsFresh : ℕ → Option Dest → Session → Type 0
IsFresh number to session =
    session ≡ record { number = number; to = to; input = []; is_at_end = session.is_at_end; greeting = [] }

abbrev pub IsPresent : ℕ → Option Dest → Option Session → Type 0
IsPresent number to None = ⊥
IsPresent number to (Some session) = IsFresh number to session

-- A session that came is the present one, behind all others. Any other answer leaves the sessions.
abbrev pub Comes : DoorAnswer → Option Dest → SlotSessions → SlotSessions → Type 0
Comes (Doors.Came number) to before after = (after.past ≡ all_sessions before) × IsPresent number to after.present
Comes Doors.NoMore to before after = after ≡ before
Comes Doors.Refused to before after = after ≡ before
Comes Doors.Failed to before after = after ≡ before

-- The same for a half that may not tell its sessions: then it never does.
abbrev pub ComesTo : DoorAnswer → Option Dest → Option SlotSessions → Option SlotSessions → Type 0
ComesTo answer to None after = after ≡ None
ComesTo answer to (Some before) None = ⊥
ComesTo answer to (Some before) (Some after) = Comes answer to before after

-- The numbers of sessions rise: each is at least the next one that was left.
abbrev pub Numbers : DoorAnswer → ℕ → ℕ → Type 0
Numbers (Doors.Came number) before after = (before ≤ number) × (after ≡ number + 1)
Numbers Doors.NoMore before after = after ≡ before
Numbers Doors.Refused before after = after ≡ before
Numbers Doors.Failed before after = after ≡ before

-- The listener has none left, where it tells how many it has.
abbrev pub HasNone : Option ℕ → Type 0
HasNone None = ⊤
HasNone (Some sessions_left) = sessions_left ≡ 0

-- A read puts the bytes got behind those read, and ends only where the input is at its end.
abbrev pub ReadsOn : ReadAnswer → List ℕ → Session → Session → Type 0
ReadsOn (ReadAnswers.Got n) buffer before after =
    (before.is_at_end ≡ false) × (after ≡ record before { input = before.input ++ take n buffer; is_at_end = after.is_at_end })
ReadsOn ReadAnswers.End buffer before after = (before.is_at_end ≡ true) × (after ≡ before)
ReadsOn ReadAnswers.Failed buffer before after = after ≡ before

-- Without a session a read fails.
abbrev pub ReadsPresent : ReadAnswer → List ℕ → Option Session → Option Session → Type 0
ReadsPresent (ReadAnswers.Got n) buffer None after = ⊥
ReadsPresent ReadAnswers.End buffer None after = ⊥
ReadsPresent ReadAnswers.Failed buffer None after = after ≡ None
ReadsPresent answer buffer (Some before) None = ⊥
ReadsPresent answer buffer (Some before) (Some after) = ReadsOn answer buffer before after

abbrev pub ReadsSession : ReadAnswer → List ℕ → Option SlotSessions → Option SlotSessions → Type 0
ReadsSession answer buffer None after = after ≡ None
ReadsSession answer buffer (Some before) None = ⊥
ReadsSession answer buffer (Some before) (Some after) =
    (after.past ≡ before.past) × ReadsPresent answer buffer before.present after.present

-- What was taken of a piece stands behind the bytes said.
abbrev pub SaysOn : WriteAnswer → List ℕ → Session → Session → Type 0
SaysOn (WriteAnswers.Took n) piece before after = after ≡ record before { greeting = before.greeting ++ take n piece }
SaysOn WriteAnswers.Failed piece before after = after ≡ before

-- Without a session nothing is said.
abbrev pub SaysPresent : WriteAnswer → List ℕ → Option Session → Option Session → Type 0
SaysPresent (WriteAnswers.Took n) piece None after = (take n piece ≡ []) × (after ≡ None)
SaysPresent WriteAnswers.Failed piece None after = after ≡ None
SaysPresent answer piece (Some before) None = ⊥
SaysPresent answer piece (Some before) (Some after) = SaysOn answer piece before after

abbrev pub SaysSession : WriteAnswer → List ℕ → Option SlotSessions → Option SlotSessions → Type 0
SaysSession answer piece None after = after ≡ None
SaysSession answer piece (Some before) None = ⊥
SaysSession answer piece (Some before) (Some after) =
    (after.past ≡ before.past) × SaysPresent answer piece before.present after.present
