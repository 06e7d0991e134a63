-- Claims: which directions are out, which bodies wait, and which direction a worker gets.
use Rattle.std.specs.Prelude.{ℕ, ◌+◌, ◌-◌, ◌&&◌, nat_lt, nat_le, is_none, min, List, [], ◌∷◌, ◌++◌, length, Bool, if◌then◌else◌, Option, Some, None, replicate}
use Rattle.std.specs.Option.{option_or}
use Rattle.circuit_model.specs.Packaged.{back_bodies}
use Rattle.circuit_model.specs.Rules.{Rules}
use Rattle.tr_io.specs.declared.names.ClaimNote.{ClaimNote}
use Rattle.tr_io.specs.declared.names.Dir.{Dir}
use Rattle.tr_io.specs.declared.names.Dir.TheVariants.{Forth, Back}
use Rattle.tr_io.specs.declared.step.Step.{Step}
use Rattle.tr_io.specs.declared.step.Step.TheVariants.{Take, Claim, GiveBack, EdgeIn, Drained}
use Rattle.switch_model.specs.Names.{Leg, Way, same_way, way_of}
use Rattle.switch_model.specs.History.Legs.{at}
use Rattle.switch_model.specs.History.Taken.{taken_forth}
use Rattle.switch_model.specs.History.Circuit.{is_live_circuit, is_accepted_return}
use Rattle.switch_model.specs.Waiting.Queues.{circuit_log}
use Rattle.switch_model.specs.Limits.{claim_limit}

-- How many claims gave a job. The next one has this number.
abbrev pub claims : List Step → ℕ
claims [] = 0
claims (Claim worker (Some note) ∷ h) = claims h + 1
claims (s ∷ h) = claims h

-- How many bodies of a direction were claimed.
abbrev pub claimed_count : List Step → Way → ℕ
claimed_count [] way = 0
claimed_count (Claim worker (Some note) ∷ h) way =
    if same_way (way_of note) way then claimed_count h way + note.count else claimed_count h way
claimed_count (s ∷ h) way = claimed_count h way

-- The note of the claim that is out: the newest of the direction, until its return is accepted.
abbrev pub claim_out : List Step → Way → Option ClaimNote
claim_out [] way = None
claim_out (Claim worker (Some note) ∷ h) way = if same_way (way_of note) way then Some note else claim_out h way
claim_out (GiveBack note place answer ∷ h) way =
    if same_way (way_of note) way && is_accepted_return answer then None else claim_out h way
claim_out (s ∷ h) way = claim_out h way

-- How many bodies a direction was given: forth, the relay cells taken on leg 0; back, the bodies
-- packaged and those of the next hop.
abbrev pub bodies : Rules → List Step → Way → Dir → ℕ
bodies rules h way Forth = length (taken_forth h way.circ)
bodies rules h way Back = length (back_bodies (circuit_log rules h way.circ))

-- The same for the direction itself.
abbrev pub given_bodies : Rules → List Step → Way → ℕ
given_bodies rules h way = bodies rules h way way.dir

-- How many of them wait.
abbrev pub waiting_count : Rules → List Step → Way → ℕ
waiting_count rules h way = given_bodies rules h way - claimed_count h way

-- A direction is ready where its circuit is live, no claim of it is out and a body waits.
abbrev pub is_ready : Rules → List Step → Way → Bool
is_ready rules h way = is_live_circuit rules h way.circ && (is_none (claim_out h way) && nat_lt 0 (waiting_count rules h way))

-- The circuit that a step can give bodies.
abbrev pub circuit_at : Option Leg → Option ℕ
circuit_at (Some leg) = Some leg.circ
circuit_at None = None

-- Only these steps give a circuit bodies.
abbrev pub circuit_served : List Step → Step → Option ℕ
circuit_served h (Take chan cell answer) = circuit_at (at h chan.0 cell.circ)
circuit_served h (GiveBack note place answer) = Some note.circ.0
circuit_served h (EdgeIn key event answer) = Some key.circ.0
circuit_served h (Drained key answer) = Some key.circ.0
circuit_served h s = None

-- Those bodies of a direction that it didn't have before.
abbrev pub new_bodies : Rules → List Step → List Step → Way → List Way
new_bodies rules before after way =
    replicate (given_bodies rules after way - given_bodies rules before way) way

-- Those of a circuit, in both directions.
abbrev pub new_at : Rules → List Step → List Step → Option ℕ → List Way
new_at rules before after (Some c) =
    new_bodies rules before after (record { circ = c; dir = Back })
    ++ new_bodies rules before after (record { circ = c; dir = Forth })
new_at rules before after None = []

-- All bodies of all directions in the order in which they were taken or packaged, newest first, each
-- by its direction. Body number n of the switch has n bodies behind it here.
abbrev pub born_bodies : Rules → List Step → List Way
born_bodies rules [] = []
born_bodies rules (s ∷ h) = new_at rules h (s ∷ h) (circuit_served h s) ++ born_bodies rules h

-- How many of some bodies are of a direction.
abbrev pub count_way : Way → List Way → ℕ
count_way way [] = 0
count_way way (other ∷ older) = if same_way other way then count_way way older + 1 else count_way way older

-- Whether a body of this direction waits in a direction that is ready, with these bodies before it. A
-- body waits where the bodies claimed of its direction are no more than those of it before the body.
abbrev pub waits_here : Rules → List Step → Way → List Way → Bool
waits_here rules h way older = is_ready rules h way && nat_le (claimed_count h way) (count_way way older)

-- The direction of the oldest of some bodies, listed newest first, that waits in a direction that is
-- ready.
abbrev pub first_waiting : Rules → List Step → List Way → Option Way
first_waiting rules h [] = None
first_waiting rules h (way ∷ older) =
    option_or (first_waiting rules h older) (if waits_here rules h way older then Some way else None)

-- The direction that the next claim gets.
abbrev pub next_way : Rules → List Step → Option Way
next_way rules h = first_waiting rules h (born_bodies rules h)

-- How many bodies it gets.
abbrev pub claim_count : Rules → List Step → Way → ℕ
claim_count rules h way = min claim_limit (waiting_count rules h way)
