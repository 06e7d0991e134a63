-- The bodies of a claim, by the switch's state and by the history.
use Rattle.std.proofs.Common.{◌≡◌, ℕ, ◌+◌, List, [], ◌∷◌, ◌++◌, length, map, take, drop, Option, Some, None, refl, sym, ap, ◌∙◌, subst, arith}
use Rattle.std.proofs.lemmas.List.{append-nil, take-map, drop-map}
use Rattle.circuit_model.specs.Batches.{body_of}
use Rattle.circuit_model.specs.Events.{CircuitCell}
use Rattle.circuit_model.specs.Packaged.{back_bodies}
use Rattle.circuit_model.specs.Rules.{Rules}
use Rattle.tr_io.specs.declared.names.ClaimNote.{ClaimNote}
use Rattle.tr_io.specs.declared.names.Dir.{Dir}
use Rattle.tr_io.specs.declared.names.Dir.TheVariants.{Forth, Back}
use Rattle.tr_io.specs.declared.step.Step.{Step}
use Rattle.tr_io.specs.declared.step.Step.TheVariants.{Claim}
use Rattle.switch_model.specs.Start.{SwitchStart}
use Rattle.switch_model.specs.Waiting.Claims.{claimed_count, claim_out}
use Rattle.switch_model.specs.Waiting.Contents.{bodies_in}
use Rattle.switch_model.specs.Waiting.Queues.{circuit_log}
use Rattle.switch_model.proofs.Common.{drop-front}
use Rattle.switch_machine.specs.Calls.Claim.{waiting_cells}
use Rattle.switch_machine.specs.Machine.{kept_cells, kept_note, way_of_circuit}
use Rattle.switch_machine.specs.Stands.{Stands}
use Rattle.switch_machine.specs.Stands.OneCircuit.{relay_cells}
use Rattle.switch_machine.specs.Stands.OneWay.{WayStands, cell_waiting}
use Rattle.switch_machine.specs.State.{CircuitState, KeptClaim, State, WaitingCell, WayState, slot_at}
use Rattle.switch_machine.proofs.GiveBack.Home.{claimed-same}
use Rattle.switch_core.specs.Claiming.{first_bodies}
use Rattle.switch_core.specs.Returning.{bodies_out_of}
use Rattle.switch_core.proofs.ForthHome.{circuit_stands}

-- bodies that go back, as cells

bodies-again : (bodies : List (List ℕ)) → map body_of (relay_cells bodies) ≡ bodies
bodies-again [] = refl
bodies-again (body ∷ bodies) = ap (λ l. body ∷ l) (bodies-again bodies)

part-back : (bodies : List (List ℕ)) (first count : ℕ) →
    map body_of (take count (drop first (relay_cells bodies))) ≡ take count (drop first bodies)
part-back bodies first count =
    sym (take-map body_of count (drop first (relay_cells bodies)))
    ∙ ap (take count) (sym (drop-map body_of first (relay_cells bodies)) ∙ ap (drop first) (bodies-again bodies))

-- the first bodies that wait are those behind what came home

none-out : (k : Option KeptClaim) → kept_note k ≡ None → k ≡ None
none-out None none = refl
none-out (Some k) none = absurd cc

behind-home : (settled given : List CircuitCell) (waiting_bodies : List WaitingCell) (first : ℕ) →
    settled ++ [] ++ map cell_waiting waiting_bodies ≡ given → first ≡ length settled →
    drop first given ≡ map cell_waiting waiting_bodies
behind-home settled given waiting_bodies first cells is =
    ap (λ n. drop n given) is
    ∙ ap (drop (length settled)) (sym cells)
    ∙ ap (λ l. drop (length settled) (l ++ map cell_waiting waiting_bodies)) (append-nil settled)
    ∙ drop-front settled (map cell_waiting waiting_bodies)

first-waiting : (c : ℕ) (dir : Dir) (way : WayState) (settled given : List CircuitCell) (count : ℕ)
    (known : Option ClaimNote) (all : List ℕ) (note : ClaimNote) → WayStands c dir way settled given count known all →
    known ≡ None → note.first ≡ count →
    take note.count (drop note.first given) ≡ waiting_cells (take note.count way.waiting_bodies)
first-waiting c dir way settled given count known all note own none is =
    let out : way.claim_out ≡ None = none-out way.claim_out (own.claim_out ∙ none) in
    let cells : settled ++ [] ++ map cell_waiting way.waiting_bodies ≡ given =
    subst (λ k. settled ++ kept_cells k ++ map cell_waiting way.waiting_bodies ≡ given) out own.cells in
    let sum : way.claimed_count ≡ length settled + 0 =
    subst (λ k. way.claimed_count ≡ length settled + length (kept_cells k)) out own.out in
    let begin : note.first ≡ length settled = omega (arith, is, own.claimed_count, sum) in
    ap (take note.count) (behind-home settled given way.waiting_bodies note.first cells begin)
    ∙ take-map cell_waiting note.count way.waiting_bodies

-- the bodies that a claim takes out

pub bodies_taken : (start : SwitchStart) (s : State) (h : List Step) (note : ClaimNote) (x : CircuitState) (dir : Dir) →
    Stands start s h → slot_at s.circuits note.circ.0 ≡ Some x →
    claim_out h (record { circ = note.circ.0; dir = dir }) ≡ None →
    note.first ≡ claimed_count h (record { circ = note.circ.0; dir = dir }) →
    first_bodies note.count (way_of_circuit x dir).waiting_bodies ≡ bodies_in start.rules h note dir
bodies_taken start s h note x Forth st live none is =
    let own = circuit_stands start s h note.circ.0 x st live in
    ap (map body_of) (sym (first-waiting note.circ.0 Forth x.forth _ _ _ _ _ note own.forth none is))
bodies_taken start s h note x Back st live none is =
    let own = circuit_stands start s h note.circ.0 x st live in
    ap (map body_of) (sym (first-waiting note.circ.0 Back x.back _ _ _ _ _ note own.back none is))
    ∙ part-back (back_bodies (circuit_log start.rules h note.circ.0)) note.first note.count

-- A claim leaves the bodies of each direction.
pub bodies_left : (rules : Rules) (h : List Step) (worker : ℕ) (claim note : ClaimNote) (dir : Dir) →
    bodies_in rules h note dir ≡ bodies_in rules (Claim worker (Some claim) ∷ h) note dir
bodies_left rules h worker claim note Forth = refl
bodies_left rules h worker claim note Back = refl

-- the bodies that are out

pub record IsKept (o : Option KeptClaim) (note : ClaimNote) : Type 0 where
  pub claim : KeptClaim
  pub is : o ≡ Some claim
  pub its : claim.note ≡ note

is-kept : (o : Option KeptClaim) (note : ClaimNote) → kept_note o ≡ Some note → IsKept o note
is-kept None note out = absurd cc
is-kept (Some k) note out = record { claim = k; is = refl; its = cc }

out-cells : (c : ℕ) (dir : Dir) (way : WayState) (settled given : List CircuitCell) (count : ℕ)
    (known : Option ClaimNote) (all : List ℕ) (note : ClaimNote) → WayStands c dir way settled given count known all →
    known ≡ Some note →
    kept_cells way.claim_out ≡ take note.count (drop note.first given)
out-cells c dir way settled given count known all note own out =
    let k : IsKept way.claim_out note = is-kept way.claim_out note (own.claim_out ∙ out) in
    ap kept_cells k.is
    ∙ sym (claimed-same c dir way settled given count known all k.claim own k.is)
    ∙ ap (λ (n : ClaimNote). take n.count (drop n.first given)) k.its

pub bodies_stay_out : (start : SwitchStart) (s : State) (h : List Step) (note : ClaimNote) (x : CircuitState) (dir : Dir) →
    Stands start s h → slot_at s.circuits note.circ.0 ≡ Some x →
    claim_out h (record { circ = note.circ.0; dir = dir }) ≡ Some note →
    bodies_out_of (way_of_circuit x dir) ≡ bodies_in start.rules h note dir
bodies_stay_out start s h note x Forth st live out =
    let own = circuit_stands start s h note.circ.0 x st live in
    ap (map body_of) (out-cells note.circ.0 Forth x.forth _ _ _ _ _ note own.forth out)
bodies_stay_out start s h note x Back st live out =
    let own = circuit_stands start s h note.circ.0 x st live in
    ap (map body_of) (out-cells note.circ.0 Back x.back _ _ _ _ _ note own.back out)
    ∙ part-back (back_bodies (circuit_log start.rules h note.circ.0)) note.first note.count
