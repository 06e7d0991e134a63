-- What a worker's claim takes out, where each direction keeps its bodies in one queue.
use Rattle.std.specs.Prelude.{ℕ, ◌≡◌, ◌≤◌, ◌*◌, List, [], length, map, take, Option, Some, None}
use Rattle.circuit_model.specs.Batches.{body_of}
use Rattle.hop_crypto.specs.Ciphers.{direction_of, position_of}
use Rattle.hop_crypto.specs.declared.cipher.Cipher.{Cipher}
use Rattle.hop_crypto.specs.declared.parts.JobParts.{JobParts}
use Rattle.tr_io.specs.declared.answers.ClaimAnswer.{ClaimAnswer}
use Rattle.tr_io.specs.declared.answers.ClaimAnswer.TheVariants as Claims
use Rattle.tr_io.specs.declared.names.ClaimNote.{ClaimNote}
use Rattle.tr_io.specs.declared.names.Dir.{Dir}
use Rattle.tr_io.specs.declared.names.Dir.TheVariants.{Forth, Back}
use Rattle.switch_model.specs.Limits.{claim_limit}
use Rattle.switch_machine.specs.Calls.Claim.{Offer, with_way, claimed_way, waiting_cells}
use Rattle.switch_machine.specs.Machine.{way_of_circuit}
use Rattle.switch_machine.specs.State.{WaitingCell, WayState, CircuitState, State, slot_at}
use Rattle.switch_core.specs.Meaning.{home_count}
use Rattle.switch_core.specs.declared.offer.Offering.{Offering}
use Rattle.switch_core.specs.declared.relay.Relay.{Relay}

-- The first fact where memory was wanting, else the second.
abbrev pub ClaimCase : {J : Type 0} → ClaimAnswer J → Type 0 → Type 0 → Type 0
ClaimCase Claims.Memory P Q = P
ClaimCase Claims.Nothing P Q = Q
ClaimCase (Claims.Job job) P Q = Q

-- The note of the job that a claim gave, if it gave one.
abbrev pub given_note : ClaimAnswer JobParts → Option ClaimNote
given_note (Claims.Job job) = Some job.note
given_note Claims.Nothing = None
given_note Claims.Memory = None

-- What a circuit offers, as the machine has it.
abbrev pub offer_of : Offering → Offer
offer_of o = record { way = record { circ = o.circ; dir = o.dir }; number = o.number }

-- A claim that this note may be that of: none is out in its direction, of whose waiting bodies it takes the first.
pub record MayClaim (x : Option CircuitState) (note : ClaimNote) : Type 0 where
  pub circuit : CircuitState
  pub live : x ≡ Some circuit
  pub none_out : (way_of_circuit circuit note.dir).claim_out ≡ None
  pub first : note.first ≡ (way_of_circuit circuit note.dir).claimed_count
  pub some : 1 ≤ note.count
  pub most : note.count ≤ claim_limit
  pub enough : note.count ≤ length (way_of_circuit circuit note.dir).waiting_bodies

-- The first bodies of some that wait.
abbrev pub first_bodies : ℕ → List WaitingCell → List (List ℕ)
first_bodies count waiting_bodies = map body_of (waiting_cells (take count waiting_bodies))

-- The bodies that a claim takes out of a circuit, if it is live.
abbrev pub note_bodies : ClaimNote → Option CircuitState → List (List ℕ)
note_bodies note (Some x) = first_bodies note.count (way_of_circuit x note.dir).waiting_bodies
note_bodies note None = []

-- A circuit with a claim out.
abbrev pub with_claim : ClaimNote → CircuitState → CircuitState
with_claim note x = with_way x note.dir (claimed_way note (way_of_circuit x note.dir))

-- A direction's cipher.
abbrev pub cipher_at : Relay → Dir → Cipher
cipher_at relay Forth = relay.forth
cipher_at relay Back = relay.back

-- The cipher of a direction, where the relay is kept.
abbrev pub HasCipher : Option Relay → Dir → Cipher → Type 0
HasCipher (Some relay) dir cipher = cipher ≡ cipher_at relay dir
HasCipher None dir cipher = ⊥

-- The cipher of a direction: it serves this direction, behind the bodies that came home.
pub record CipherServes (cipher : Cipher) (dir : Dir) (way : WayState) : Type 0 where
  pub direction : direction_of cipher ≡ dir
  pub position : position_of cipher ≡ 509 * home_count way

-- Each direction of a live circuit has its cipher.
pub record RelayServes (relay : Relay) (x : CircuitState) : Type 0 where
  pub cipher : (dir : Dir) → CipherServes (cipher_at relay dir) dir (way_of_circuit x dir)

-- The relay of a live circuit.
pub record HasRelay (kept_relay : Option Relay) (x : CircuitState) : Type 0 where
  pub relay : Relay
  pub is : kept_relay ≡ Some relay
  pub serves : RelayServes relay x

-- The relays of all live circuits, by circuit number.
pub record RelaysServe (relays : List (Option Relay)) (circuits : List (Option CircuitState)) : Type 0 where
  pub live : (c : ℕ) (x : CircuitState) → slot_at circuits c ≡ Some x → HasRelay (slot_at relays c) x

-- The job carries the cipher of its direction as the circuit's relay has it, and the first of the bodies that
-- wait there.
pub record CarriesFirst (kept_relay : Option Relay) (x : Option CircuitState) (job : JobParts) : Type 0 where
  pub relay : Relay
  pub circuit : CircuitState
  pub relay_is : kept_relay ≡ Some relay
  pub live : x ≡ Some circuit
  pub cipher : job.cipher ≡ cipher_at relay job.note.dir
  pub bodies : job.bodies.items ≡ first_bodies job.note.count (way_of_circuit circuit job.note.dir).waiting_bodies

-- The same by the job's circuit.
abbrev pub Carries : List (Option Relay) → State → JobParts → Type 0
Carries relays s job = CarriesFirst (slot_at relays job.note.circ.0) (slot_at s.circuits job.note.circ.0) job
