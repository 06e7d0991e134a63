-- A job that comes home, compared with what the switch gave out.
use Rattle.std.specs.Prelude.{ℕ, ◌≡◌, ◌==◌, ⊤, nat_lt, not, length, if◌then◌else◌, map, List, [], Option, Some, None}
use Rattle.circuit_model.specs.Batches.{body_of}
use Rattle.hop_crypto.specs.declared.cipher.Cipher.{Cipher}
use Rattle.tr_io.specs.declared.answers.BackAnswer.{BackAnswer}
use Rattle.tr_io.specs.declared.answers.Difference.{Difference}
use Rattle.tr_io.specs.declared.names.ClaimNote.{ClaimNote}
use Rattle.tr_io.specs.declared.names.Dir.{Dir}
use Rattle.tr_io.specs.declared.names.Dir.TheVariants.{Forth, Back}
use Rattle.switch_model.specs.Answers.GiveBack.{is_note}
use Rattle.switch_model.specs.Waiting.Contents.{DiffersAt, IsFirstDifference}
use Rattle.switch_machine.specs.Machine.{counted, way_of_circuit, kept_note, kept_cells}
use Rattle.switch_machine.specs.State.{WayState, CircuitState, State, slot_at}
use Rattle.switch_core.specs.Started.{Started}
use Rattle.switch_core.specs.declared.relay.Relay.{Relay}

-- The start state of the claim that is out: a direction's cipher stays what it was until the claim comes home.
abbrev pub start_out : Option Relay → Dir → Option Cipher
start_out None dir = None
start_out (Some relay) Forth = Some relay.forth
start_out (Some relay) Back = Some relay.back

-- The bodies of the claim that is out.
abbrev pub bodies_out_of : WayState → List (List ℕ)
bodies_out_of way = map body_of (kept_cells way.claim_out)

abbrev pub bodies_out : Option CircuitState → Dir → List (List ℕ)
bodies_out None dir = []
bodies_out (Some x) dir = bodies_out_of (way_of_circuit x dir)

-- The number of the first body that differs, if one does.
abbrev pub IsBodyDifference : List (List ℕ) → List (List ℕ) → Option ℕ → Type 0
IsBodyDifference given_bodies returned_bodies None = returned_bodies ≡ given_bodies
IsBodyDifference given_bodies returned_bodies (Some i) = DiffersAt i given_bodies returned_bodies

-- The first place at which a return differs from what is out in its direction.
abbrev pub IsPlace : List (Option Relay) → State → ClaimNote → Cipher → List (List ℕ) → Option ℕ → Type 0
IsPlace relays s note start bodies place =
    IsFirstDifference (start_out (slot_at relays note.circ.0) note.dir) (Some start)
    (bodies_out (slot_at s.circuits note.circ.0) note.dir) bodies place

-- A fact of the first place at which a return differs from what is out in its direction.
pub record OfPlace (s : Started) (note : ClaimNote) (start : Cipher) (bodies : List (List ℕ)) (P : Option ℕ → Type 0) : Type 0
  where
    pub place : Option ℕ
    pub first : IsPlace s.relays s.state note start bodies place
    pub fact : P place

-- The fact where a return was refused.
abbrev pub RefusedCase : BackAnswer → Type 0 → Type 0
RefusedCase BackAnswer.Gone P = P
RefusedCase (BackAnswer.Stranger why) P = P
RefusedCase BackAnswer.Settled P = ⊤
RefusedCase (BackAnswer.Down reason) P = ⊤

-- What a return is refused with, if it is.

abbrev pub content_refusal : ClaimNote → Option ℕ → Option BackAnswer
content_refusal note None = None
content_refusal note (Some place) = Some (BackAnswer.Stranger (Difference.Content note place))

abbrev pub note_refusal : Option ClaimNote → ClaimNote → Option ℕ → Option BackAnswer
note_refusal claim_out note place =
    if not (is_note note claim_out) then Some (BackAnswer.Stranger (Difference.Note claim_out note))
    else content_refusal note place

abbrev pub refusal_on : ClaimNote → Option ℕ → Option CircuitState → Option BackAnswer
refusal_on note place None = Some BackAnswer.Gone
refusal_on note place (Some x) = note_refusal (kept_note (way_of_circuit x note.dir).claim_out) note place

abbrev pub refusal : ℕ → State → ClaimNote → Option ℕ → Option BackAnswer
refusal name s note place =
    if not (note.switch == name) then Some (BackAnswer.Stranger (Difference.Note None note))
    else if not (nat_lt note.circ.0 (length s.circuits)) then Some (BackAnswer.Stranger (Difference.Note None note))
    else refusal_on note place (slot_at s.circuits note.circ.0)

-- The switch behind a refusal, which is a step, and behind none.
abbrev pub behind_refusal : Option BackAnswer → State → State
behind_refusal None s = s
behind_refusal (Some answer) s = counted s
