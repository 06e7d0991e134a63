-- The ciphers of a switch that stands for a history serve its circuits' directions.
use Rattle.std.proofs.Common.{◌≡◌, ℕ, ◌+◌, ◌*◌, ◌<◌, ◌≤◌, ◌^◌, Bool, true, List, length, take, Option, Some, None, refl, sym, ap, subst, ◌∙◌, arith}
use Rattle.std.proofs.lemmas.List.{length-take-le, length-map}
use Rattle.circuit_model.specs.Opened.{forward_count}
use Rattle.circuit_model.specs.Packaged.{back_bodies}
use Rattle.circuit_model.specs.Rules.{Rules}
use Rattle.circuit_model.specs.Words.{log}
use Rattle.std.specs.Prelude.{IsSome}
use Rattle.cell_codec.specs.Roomy.{Roomy}
use Rattle.circuit_model.specs.Batches.{body_of}
use Rattle.hop_crypto.specs.Ciphers.{direction_of, position_of}
use Rattle.hop_crypto.specs.declared.cipher.Cipher.{Cipher}
use Rattle.hop_crypto.specs.declared.parts.JobParts.{JobParts}
use Rattle.tr_io.specs.declared.names.ClaimNote.{ClaimNote}
use Rattle.tr_io.specs.declared.names.Dir.{Dir}
use Rattle.tr_io.specs.declared.names.Dir.TheVariants.{Forth, Back}
use Rattle.switch_model.specs.Answers.EdgeOut.{Ordered}
use Rattle.switch_model.specs.History.EdgePast.{EdgePast, edge_past}
use Rattle.switch_model.specs.History.Legs.{holds_id}
use Rattle.switch_model.specs.History.Past.{Past, past}
use Rattle.switch_machine.specs.Machine.{way_of_circuit}
use Rattle.switch_machine.specs.Stands.OneCircuit.{CircuitAt, CircuitStands, relay_cells}
use Rattle.switch_machine.specs.Calls.Claim.{waiting_cells}
use Rattle.switch_machine.specs.State.{WaitingCell, CircuitState, slot_at}
use Rattle.switch_machine.proofs.Take.CellCounts.{forward-count, kept-count}
use Rattle.switch_core.proofs.Leaves.{inside}
use Rattle.switch_core.specs.Claiming.{CarriesFirst, CipherServes, HasCipher, HasRelay, MayClaim, RelaysServe, cipher_at, first_bodies, note_bodies}
use Rattle.switch_core.specs.Meaning.{home_count}
use Rattle.switch_core.specs.Relays.{RelayAt, RelayOfPast, RelayStands}
use Rattle.switch_core.specs.Started.{Started, SwitchStandsForSome}
use Rattle.switch_core.specs.declared.relay.Relay.{Relay}

-- the cells that came home, by how many

back-home : (n : ℕ) (bodies : List (List ℕ)) → n ≤ length bodies → length (take n (relay_cells bodies)) ≡ n
back-home n bodies le =
    length-take-le n (relay_cells bodies) (let same : length (relay_cells bodies) ≡ length bodies = length-map bodies _ in
    omega (arith, same, le))

-- one circuit

serves : (rules : Rules) (closes : List Ordered) (x : CircuitState) (c : ℕ) (p : Past) (has_id : ℕ → Bool) (e : EdgePast)
    (relay : Relay) → CircuitStands rules closes x c p has_id e → RelayStands relay rules p.events p.sealed_count →
    (dir : Dir) → CipherServes (cipher_at relay dir) dir (way_of_circuit x dir)
serves rules closes x c p has_id e relay st rel Forth = record {
  direction = ap direction_of rel.forth;
  position =
      let home : home_count x.forth ≡ forward_count (log rules p.events) =
      omega (arith, st.forth.out, kept-count x.forth.claim_out, forward-count (log rules p.events)) in
      ap position_of rel.forth ∙ ap (λ n. 509 * n) (sym home);
}
serves rules closes x c p has_id e relay st rel Back = record {
  direction = ap direction_of rel.back;
  position =
      let home : home_count x.back ≡ p.sealed_count =
      omega (
        arith,
        st.back.out,
        kept-count x.back.claim_out,
        back-home p.sealed_count (back_bodies (log rules p.events)) st.sealed,
      ) in
      ap position_of rel.back ∙ ap (λ n. 509 * n) (sym home);
}

by-kept : (rules : Rules) (closes : List Ordered) (x : CircuitState) (c : ℕ) (p : Past) (has_id : ℕ → Bool) (e : EdgePast)
    (kept_relay : Option Relay) → CircuitStands rules closes x c p has_id e
    → RelayAt true kept_relay rules p.events p.sealed_count →
    HasRelay kept_relay x
by-kept rules closes x c p has_id e None st rel = absurd rel
by-kept rules closes x c p has_id e (Some relay) st rel =
    record { relay = relay; is = refl; serves = record { cipher = λ dir. serves rules closes x c p has_id e relay st rel dir } }

at-circuit : (rules : Rules) (closes : List Ordered) (x : CircuitState) (c : ℕ) (p : Past) (has_id : ℕ → Bool) (e : EdgePast)
    (kept_relay : Option Relay) → CircuitStands rules closes x c p has_id e → RelayOfPast kept_relay rules p
    → HasRelay kept_relay x
at-circuit rules closes x c p has_id e kept_relay st rel =
    by-kept rules closes x c p has_id e kept_relay st
    (subst (λ b. RelayAt b kept_relay rules p.events p.sealed_count) st.live rel)

-- all circuits
pub relays_serve : (s : Started) → SwitchStandsForSome s → RelaysServe s.relays s.state.circuits
relays_serve s some = record {
  live = λ c x live.
      at-circuit s.start.rules s.state.last_closes x c (past s.start.rules some.history c) (λ k. holds_id some.history c k)
      (edge_past s.start.rules some.history c) (slot_at s.relays c)
      (subst (λ (y : Option CircuitState). CircuitAt s.start.rules s.state.last_closes y c (past s.start.rules some.history c)
      (λ k. holds_id some.history c k) (edge_past s.start.rules some.history c)) live
      (some.stands.state.circuits.circuit c))
      (some.stands.relays.relay c);
}

-- the job of a claim

cipher-by : (kept_relay : Option Relay) (relay : Relay) (dir : Dir) (cipher : Cipher) → kept_relay ≡ Some relay
    → HasCipher kept_relay dir cipher → cipher ≡ cipher_at relay dir
cipher-by None relay dir cipher is has = absurd has
cipher-by (Some r) relay dir cipher is has = let same : r ≡ relay = cc in has ∙ ap (λ (x : Relay). cipher_at x dir) same

bodies-by : (x : Option CircuitState) (circuit : CircuitState) (note : ClaimNote) (bodies : List (List ℕ)) → x ≡ Some circuit
    → bodies ≡ note_bodies note x → bodies ≡ first_bodies note.count (way_of_circuit circuit note.dir).waiting_bodies
bodies-by x circuit note bodies is are = are ∙ ap (note_bodies note) is

first-length : (n : ℕ) (waiting_bodies : List WaitingCell) → n ≤ length waiting_bodies
    → length (first_bodies n waiting_bodies) ≡ n
first-length n waiting_bodies enough =
    length-map (waiting_cells (take n waiting_bodies)) body_of
    ∙ length-map (take n waiting_bodies) (λ (w : WaitingCell). w.cell)
    ∙ length-take-le n waiting_bodies enough

-- what a job needs
pub record JobFits (note : ClaimNote) (cipher : Cipher) (bodies : List (List ℕ)) : Type 0 where
  pub direction : note.dir ≡ direction_of cipher
  pub count : note.count ≡ length bodies
  pub some : 1 ≤ length bodies
  pub most : length bodies ≤ 32
  pub position : position_of cipher + 509 * length bodies < 2 ^ 90

pub job_fits : (relays : List (Option Relay)) (circuits : List (Option CircuitState)) (note : ClaimNote)
    (kept_relay : Option Relay) (cipher : Cipher) (bodies : List (List ℕ)) →
    RelaysServe relays circuits → MayClaim (slot_at circuits note.circ.0) note → slot_at relays note.circ.0 ≡ kept_relay
    → HasCipher kept_relay note.dir cipher →
    bodies ≡ note_bodies note (slot_at circuits note.circ.0) → note.first < 2 ^ 64 → JobFits note cipher bodies
job_fits relays circuits note kept_relay cipher bodies serve may kept_is has are fits =
    let own : HasRelay (slot_at relays note.circ.0) may.circuit = serve.live note.circ.0 may.circuit may.live in
    let cipher_is : cipher ≡ cipher_at own.relay note.dir =
    cipher-by kept_relay own.relay note.dir cipher (sym kept_is ∙ own.is) has in
    let long : length bodies ≡ note.count =
    ap length (bodies-by _ may.circuit note bodies may.live are)
    ∙ first-length note.count (way_of_circuit may.circuit note.dir).waiting_bodies may.enough in
    let serving : CipherServes (cipher_at own.relay note.dir) note.dir (way_of_circuit may.circuit note.dir) =
    own.serves.cipher note.dir in
    let place : position_of cipher ≡ 509 * home_count (way_of_circuit may.circuit note.dir) =
    ap position_of cipher_is ∙ serving.position in
    record {
      direction = sym (ap direction_of cipher_is ∙ serving.direction);
      count = sym long;
      some = omega (arith, long, may.some);
      most = omega (arith, long, may.most);
      position = omega (arith, place, long, may.first, may.most, fits);
    }

pub job_carries : (relays : List (Option Relay)) (circuits : List (Option CircuitState)) (note : ClaimNote)
    (kept_relay : Option Relay) (cipher : Cipher) (bodies : Roomy (List ℕ)) (job : JobParts) →
    RelaysServe relays circuits → MayClaim (slot_at circuits note.circ.0) note → slot_at relays note.circ.0 ≡ kept_relay
    → HasCipher kept_relay note.dir cipher →
    bodies.items ≡ note_bodies note (slot_at circuits note.circ.0)
    → job ≡ record { note = note; cipher = cipher; bodies = bodies } →
    CarriesFirst (slot_at relays job.note.circ.0) (slot_at circuits job.note.circ.0) job
job_carries relays circuits note kept_relay cipher bodies job serve may kept_is has are same =
    let own : HasRelay (slot_at relays note.circ.0) may.circuit = serve.live note.circ.0 may.circuit may.live in
    subst (λ (j : JobParts). CarriesFirst (slot_at relays j.note.circ.0) (slot_at circuits j.note.circ.0) j) (sym same)
    (record {
      relay = own.relay;
      circuit = may.circuit;
      relay_is = own.is;
      live = may.live;
      cipher = cipher-by kept_relay own.relay note.dir cipher (sym kept_is ∙ own.is) has;
      bodies = bodies-by (slot_at circuits note.circ.0) may.circuit note bodies.items may.live are;
    })

some-by : {A : Type 0} (x : Option A) (y : A) → x ≡ Some y → IsSome x
some-by None y is = absurd cc
some-by (Some x) y is = refl

-- the relay of a claim's circuit is there
pub relay_inside : (relays : List (Option Relay)) (circuits : List (Option CircuitState)) (note : ClaimNote)
    → RelaysServe relays circuits → MayClaim (slot_at circuits note.circ.0) note → note.circ.0 < length relays
relay_inside relays circuits note serve may =
    let own : HasRelay (slot_at relays note.circ.0) may.circuit = serve.live note.circ.0 may.circuit may.live in
    inside relays note.circ.0 own.relay own.is

pub relay_there : (relays : List (Option Relay)) (circuits : List (Option CircuitState)) (note : ClaimNote)
    (kept_relay : Option Relay) → RelaysServe relays circuits → MayClaim (slot_at circuits note.circ.0) note →
    slot_at relays note.circ.0 ≡ kept_relay → IsSome kept_relay
relay_there relays circuits note kept_relay serve may kept_is =
    let own : HasRelay (slot_at relays note.circ.0) may.circuit = serve.live note.circ.0 may.circuit may.live in
    some-by kept_relay own.relay (sym kept_is ∙ own.is)
