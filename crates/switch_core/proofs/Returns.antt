-- Jobs that come home, compared with what the switch gave out.
use Rattle.std.proofs.Common.{◌≡◌, ◌≢◌, ◌↔◌, ℕ, ◌+◌, ◌==◌, ◌≤◌, ◌<◌, ◌++◌, nat_lt, not, if◌then◌else◌, Bool, true, false, List, [], ◌∷◌, length, take, Option, Some, None, option_map, IfSome, zero, suc, refl, sym, ◌∙◌, ap, subst, add-one, arith}
use Rattle.std.specs.Prelude.{⊤, IsTrue}
use Rattle.std.specs.Bool.{MatchBool}
use Rattle.std.specs.List.{slice_get}
use Rattle.std.proofs.lemmas.Bool.{ltb-true}
use Rattle.std.proofs.lemmas.List.{length-take-le, length-map, take-take}
use Rattle.std.proofs.lemmas.Option.{slice_get-map, slice_get_past, slice_get_within}
use Rattle.circuit_model.specs.Batches.{body_of}
use Rattle.circuit_model.specs.Events.{Event}
use Rattle.circuit_model.specs.Rules.{Rules}
use Rattle.hop_crypto.specs.declared.cipher.Cipher.{Cipher}
use Rattle.tor_spec.specs.Reasons.{destroy_internal}
use Rattle.tr_io.specs.declared.answers.BackAnswer.{BackAnswer}
use Rattle.tr_io.specs.declared.answers.Difference.{Difference}
use Rattle.tr_io.specs.declared.names.ClaimNote.{ClaimNote}
use Rattle.tr_io.specs.declared.names.Dir.{Dir}
use Rattle.switch_model.specs.Answers.GiveBack.{is_note, returned}
use Rattle.switch_model.specs.Start.{SwitchStart}
use Rattle.switch_model.specs.Waiting.Contents.{DiffersAt}
use Rattle.switch_machine.specs.Calls.Abandon.{abandon_result, abandon_state, abandon_state_of}
use Rattle.switch_machine.specs.Calls.Claim.{waiting_cells}
use Rattle.switch_machine.specs.Calls.GiveBack.{return_result, return_result_on}
use Rattle.switch_machine.specs.Machine.{counted, way_of_circuit, kept_note}
use Rattle.switch_machine.specs.State.{WaitingCell, CircuitState, State, slot_at}
use Rattle.switch_core.specs.Meaning.{way_of}
use Rattle.switch_core.specs.Opened.{ForgetsDown}
use Rattle.switch_core.specs.Returning.{bodies_out_of, start_out, content_refusal, refusal_on, refusal, RefusedCase}
use Rattle.switch_core.specs.declared.relay.Relay.{Relay}
use Rattle.switch_core.proofs.Whole.{started}

-- bodies, one by one

next-of : (xs : List (List ℕ)) (i : ℕ) (x : List ℕ) → slice_get xs i ≡ Some x → take (suc i) xs ≡ take i xs ++ x ∷ []
next-of [] i x here = absurd cc
next-of (y ∷ ys) zero x here = let is : y ≡ x = cc in ap (λ z. z ∷ []) is
next-of (y ∷ ys) (suc i) x here = ap (λ l. y ∷ l) (next-of ys i x here)

pub same_further : (given home : List (List ℕ)) (i : ℕ) (x : List ℕ) → slice_get home i ≡ Some x → slice_get given i ≡ Some x
    → take i home ≡ take i given →
    take (i + 1) home ≡ take (i + 1) given
same_further given home i x here there same =
    ap (λ n. take n home) (add-one i) ∙ next-of home i x here ∙ ap (λ l. l ++ x ∷ []) same ∙ sym (next-of given i x there)
    ∙ ap (λ n. take n given) (sym (add-one i))

pub differs_here : (given home : List (List ℕ)) (i : ℕ) (x : List ℕ) (b : Bool) → slice_get home i ≡ Some x
    → (IsTrue b ↔ (slice_get given i ≡ Some x)) → b ≡ false → take i home ≡ take i given → DiffersAt i given home
differs_here given home i x true here is other same = absurd cc
differs_here given home i x false here is other same = record {
  before = same;
  here = λ e. let t : IsTrue false = is.1 (sym e ∙ here) in absurd cc;
}

none-inside : (xs : List (List ℕ)) (n : ℕ) → n < length xs → slice_get xs n ≡ None → ⊥
none-inside [] n inside none = omega (arith, inside)
none-inside (x ∷ xs) zero inside none = absurd cc
none-inside (x ∷ xs) (suc n) inside none = none-inside xs n (omega (arith, inside)) none

pub differs_behind : (given home : List (List ℕ)) (n : ℕ) → length home ≤ n → length home < length given
    → take n home ≡ take n given → DiffersAt (length home) given home
differs_behind given home n past short same =
    let front : take (length home) (take n home) ≡ take (length home) (take n given) = ap (λ l. take (length home) l) same in
    record {
      before = sym (take-take (length home) n home past) ∙ front ∙ take-take (length home) n given past;
      here = λ e. none-inside given (length home) short (sym e ∙ slice_get_past home (length home) (omega arith));
    }

-- the bodies that are out are the first of the queue

get-front : {A : Type 0} (xs : List A) (n i : ℕ) → i < n → slice_get (take n xs) i ≡ slice_get xs i
get-front xs zero i inside = absurd (omega (arith, inside))
get-front [] (suc n) i inside = refl
get-front (x ∷ xs) (suc n) zero inside = refl
get-front (x ∷ xs) (suc n) (suc i) inside = get-front xs n i (omega (arith, inside))

pub out_length : (claimed_count : ℕ) (note : ClaimNote) (bodies : List WaitingCell) → note.count ≤ length bodies
    → length (bodies_out_of (way_of claimed_count (Some note) bodies)) ≡ note.count
out_length claimed_count note bodies fits =
    length-map (waiting_cells (take note.count bodies)) body_of ∙ length-map (take note.count bodies) (λ w. w.cell)
    ∙ length-take-le note.count bodies fits

pub out_inside : (claimed_count : ℕ) (claim : Option ClaimNote) (bodies : List WaitingCell) (i : ℕ)
    → IfSome claim (λ note. note.count ≤ length bodies) → i < length (bodies_out_of (way_of claimed_count claim bodies))
    → i < length bodies
out_inside claimed_count None bodies i fits inside = absurd (omega (arith, inside))
out_inside claimed_count (Some note) bodies i fits inside = omega (arith, fits, inside, out_length claimed_count note bodies fits)

pub out_get : (claimed_count : ℕ) (claim : Option ClaimNote) (bodies : List WaitingCell) (i : ℕ) (w : WaitingCell)
    → IfSome claim (λ note. note.count ≤ length bodies) → i < length (bodies_out_of (way_of claimed_count claim bodies)) →
    slice_get bodies i ≡ Some w → slice_get (bodies_out_of (way_of claimed_count claim bodies)) i ≡ Some w.cell.body
out_get claimed_count None bodies i w fits inside here = absurd (omega (arith, inside))
out_get claimed_count (Some note) bodies i w fits inside here =
    slice_get-map body_of (waiting_cells (take note.count bodies)) i
    ∙ ap (λ o. option_map body_of o)
    (slice_get-map (λ w. w.cell) (take note.count bodies) i
    ∙ ap (λ o. option_map (λ w. w.cell) o)
    (get-front bodies note.count i (omega (arith, inside, out_length claimed_count note bodies fits)) ∙ here))

pub same_body : (given : List (List ℕ)) (i : ℕ) (x y : List ℕ) (b : Bool) → slice_get given i ≡ Some y
    → MatchBool b (y ≡ x) (y ≢ x) → IsTrue b ↔ (slice_get given i ≡ Some x)
same_body given i x y true here same = ((λ t. here ∙ ap (λ z. Some z) same), (λ e. refl))
same_body given i x y false here other =
    ((λ t. absurd cc), (λ e. absurd (other (let both : Some y ≡ Some x = sym here ∙ e in cc))))

pub none_out : (given : List (List ℕ)) (i : ℕ) (x : List ℕ) (n : ℕ) → n ≡ length given → n ≤ i
    → IsTrue (nat_lt i n) ↔ (slice_get given i ≡ Some x)
none_out given i x n is beyond = (
  (λ t. absurd (let inside : i < n = ltb-true i n t in omega (arith, inside, beyond))),
  (λ e. absurd (let inside : i < length given = slice_get_within given i x e in omega (arith, beyond, is, inside))),
)

pub no_start : (slot : Option Relay) (dir : Dir) (start : Cipher) → slot ≡ None → IsTrue false ↔ (Some start ≡ start_out slot dir)
no_start None dir start none = ((λ t. absurd cc), (λ e. absurd cc))
no_start (Some relay) dir start none = absurd cc

-- a return that is refused

abbrev pub IsRefusal : BackAnswer → Type 0
IsRefusal BackAnswer.Gone = ⊤
IsRefusal (BackAnswer.Stranger why) = ⊤
IsRefusal BackAnswer.Settled = ⊥
IsRefusal (BackAnswer.Down reason) = ⊥

abbrev RefusedBy : Option BackAnswer → BackAnswer → Type 0
RefusedBy None answer = ⊤
RefusedBy (Some a) answer = (answer ≡ a) × IsRefusal a

note-refused : (claim_out : Option ClaimNote) (note : ClaimNote) (place : Option ℕ) (answer : BackAnswer) (b : Bool) →
    RefusedBy (if not b then Some (BackAnswer.Stranger (Difference.Note claim_out note)) else content_refusal note place)
    (if not b then BackAnswer.Stranger (Difference.Note claim_out note) else returned note place answer)
note-refused claim_out note place answer false = (refl, tt)
note-refused claim_out note None answer true = tt
note-refused claim_out note (Some place) answer true = (refl, tt)

on-refused : (note : ClaimNote) (place : Option ℕ) (x : Option CircuitState) (answer : CircuitState → BackAnswer)
    → RefusedBy (refusal_on note place x) (return_result_on note place x answer)
on-refused note place None answer = (refl, tt)
on-refused note place (Some x) answer =
    note-refused (kept_note (way_of_circuit x note.dir).claim_out) note place (answer x)
    (is_note note (kept_note (way_of_circuit x note.dir).claim_out))

by-name : (note : ClaimNote) (place : Option ℕ) (x : Option CircuitState) (answer : CircuitState → BackAnswer) (b d : Bool) →
    RefusedBy (if not b then Some (BackAnswer.Stranger (Difference.Note None note)) else if not d
    then Some (BackAnswer.Stranger (Difference.Note None note)) else refusal_on note place x)
    (if not b then BackAnswer.Stranger (Difference.Note None note) else if not d
    then BackAnswer.Stranger (Difference.Note None note) else return_result_on note place x answer)
by-name note place x answer false d = (refl, tt)
by-name note place x answer true false = (refl, tt)
by-name note place x answer true true = on-refused note place x answer

pub refused_by : (name : ℕ) (s : State) (note : ClaimNote) (place : Option ℕ) (answer : CircuitState → BackAnswer)
    (a : BackAnswer) → refusal name s note place ≡ Some a →
    (return_result name s note place answer ≡ a) × IsRefusal a
refused_by name s note place answer a is =
    subst (λ o. RefusedBy o (return_result name s note place answer)) is
    (by-name note place (slot_at s.circuits note.circ.0) answer (note.switch == name)
    (nat_lt note.circ.0 (length s.circuits)))

left-as-is : (rules : Rules) (ev : List Event) (s : State) (note : ClaimNote) (x : Option CircuitState) (a : BackAnswer)
    → IsRefusal a → abandon_state_of rules ev s note x a ≡ counted s
left-as-is rules ev s note None BackAnswer.Gone of = refl
left-as-is rules ev s note (Some x) BackAnswer.Gone of = refl
left-as-is rules ev s note None (BackAnswer.Stranger why) of = refl
left-as-is rules ev s note (Some x) (BackAnswer.Stranger why) of = refl
left-as-is rules ev s note x BackAnswer.Settled of = absurd of
left-as-is rules ev s note x (BackAnswer.Down reason) of = absurd of

pub refused_answer : (name : ℕ) (s : State) (note : ClaimNote) (place : Option ℕ) (a : BackAnswer)
    → refusal name s note place ≡ Some a → a ≡ abandon_result name s note place
refused_answer name s note place a is = sym (refused_by name s note place (λ x. BackAnswer.Down destroy_internal) a is).0

pub refused_state : (name : ℕ) (rules : Rules) (ev : ℕ → List Event) (s : State) (note : ClaimNote) (place : Option ℕ)
    (a : BackAnswer) → refusal name s note place ≡ Some a → counted s ≡ abandon_state name rules ev s note place
refused_state name rules ev s note place a is =
    let by = refused_by name s note place (λ x. BackAnswer.Down destroy_internal) a is in
    sym (ap (λ b. abandon_state_of rules (ev note.circ.0) s note (slot_at s.circuits note.circ.0) b) by.0
    ∙ left-as-is rules (ev note.circ.0) s note (slot_at s.circuits note.circ.0) a by.1)

same-but-counted : (start : SwitchStart) (old new : State) (relays after : List (Option Relay)) (note : ClaimNote)
    (place : Option ℕ) (a : BackAnswer) → IsRefusal a
    → ((rules : Rules) (ev : ℕ → List Event) → new ≡ abandon_state start.name rules ev old note place) →
    a ≡ abandon_result start.name old note place → after ≡ relays
    → started start new after ≡ record (started start old relays) { state = counted old }
same-but-counted start old new relays after note place a of state answer same =
    let left : new ≡ counted old =
    state start.rules (λ c. []) ∙ ap (λ b. abandon_state_of start.rules [] old note (slot_at old.circuits note.circ.0) b)
    (sym answer)
    ∙ left-as-is start.rules [] old note (slot_at old.circuits note.circ.0) a of in
    ap (λ s. started start s after) left ∙ ap (λ r. started start (counted old) r) same

pub refused_leaves : (start : SwitchStart) (old new : State) (relays after : List (Option Relay)) (note : ClaimNote)
    (place : Option ℕ) (a : BackAnswer)
    → ((rules : Rules) (ev : ℕ → List Event) → new ≡ abandon_state start.name rules ev old note place) →
    a ≡ abandon_result start.name old note place → ForgetsDown a relays after note.circ.0
    → RefusedCase a (started start new after ≡ record (started start old relays) { state = counted old })
refused_leaves start old new relays after note place BackAnswer.Settled state answer forgets = tt
refused_leaves start old new relays after note place (BackAnswer.Down reason) state answer forgets = tt
refused_leaves start old new relays after note place BackAnswer.Gone state answer forgets =
    same-but-counted start old new relays after note place BackAnswer.Gone tt state answer forgets
refused_leaves start old new relays after note place (BackAnswer.Stranger why) state answer forgets =
    same-but-counted start old new relays after note place (BackAnswer.Stranger why) tt state answer forgets

pub refusal_live : (name : ℕ) (s : State) (note : ClaimNote) (place : Option ℕ) → (note.switch == name) ≡ true
    → nat_lt note.circ.0 (length s.circuits) ≡ true
    → refusal name s note place ≡ refusal_on note place (slot_at s.circuits note.circ.0)
refusal_live name s note place here opened = rw (here, opened) refl
