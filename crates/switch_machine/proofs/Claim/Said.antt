-- What a claim answers is what the history tells.
use Rattle.std.proofs.Common.{◌&&◌, ◌++◌, ◌-◌, ◌<◌, ◌∙◌, ◌∷◌, ◌≡◌, ◌≤◌, Bool, List, None, Option, Some, [], ap, arith, false, if◌then◌else◌, is_none, length, map, min, nat_le, nat_lt, option_map, refl, slice_get, subst, suc, sym, true, ℕ}
use Rattle.std.proofs.lemmas.Bool.Decides.{nat_tests}
use Rattle.std.proofs.lemmas.List.{length-map}
use Rattle.circuit_model.specs.Events.{CircuitCell}
use Rattle.circuit_model.specs.Packaged.{back_bodies}
use Rattle.tr_io.specs.declared.names.ClaimNote.{ClaimNote}
use Rattle.tr_io.specs.declared.names.Dir.{Dir}
use Rattle.tr_io.specs.declared.names.Dir.TheVariants.{Back, Forth}
use Rattle.tr_io.specs.declared.step.Step.{Step}
use Rattle.switch_model.specs.Answers.Claim.{claim_answer, note_for}
use Rattle.switch_model.specs.History.EdgePast.{edge_past}
use Rattle.switch_model.specs.History.Legs.{holds_id}
use Rattle.switch_model.specs.History.Past.{past}
use Rattle.switch_model.specs.History.Taken.{taken_forth}
use Rattle.switch_model.specs.Limits.{claim_limit}
use Rattle.switch_model.specs.Names.{Way, circ_no}
use Rattle.switch_model.specs.Start.{SwitchStart}
use Rattle.switch_model.specs.Waiting.Claims.{born_bodies, claimed_count, claims, is_ready, next_way}
use Rattle.switch_model.specs.Waiting.Queues.{circuit_log}
use Rattle.switch_machine.specs.Calls.Claim.{Offer, claim_note, claim_result, claim_result_of, first_number, offered, offered_by, soonest, way_at, way_in}
use Rattle.switch_machine.specs.Machine.{kept_note}
use Rattle.switch_machine.specs.Stands.{Stands}
use Rattle.switch_machine.specs.Stands.OneCircuit.{CircuitAt}
use Rattle.switch_machine.specs.Stands.OneWay.{WayStands, number_waiting}
use Rattle.switch_machine.specs.State.{CircuitState, KeptClaim, State, WaitingCell, WayState, slot_at}
use Rattle.switch_machine.proofs.Claim.BodyNumbers.{numbers-apart}
use Rattle.switch_machine.proofs.Claim.FirstBody.{IsBest, IsSoonest, first-soonest, none-beyond, offers_on, some-none, soonest-best}
use Rattle.switch_machine.proofs.OneWay.{way-waits}

get-behind : (xs ys zs : List ℕ) (i : ℕ) → xs ++ ys ≡ zs → length xs ≡ i → slice_get zs i ≡ slice_get ys 0
get-behind [] ys zs i e f = rw (← e, ← f) refl
get-behind (x ∷ xs) ys zs i e f = rw (← e, ← f) (get-behind xs ys (xs ++ ys) (length xs) refl refl)

some-wait : (n : ℕ) → nat_lt 0 (suc n) ≡ true
some-wait n = grind (arith, nat_tests)

offers-by : (claim_out : Option KeptClaim) (waiting_bodies : List WaitingCell) (gone all : List ℕ) (given count : ℕ)
    (known : Option ClaimNote) → kept_note claim_out ≡ known → given - count ≡ length waiting_bodies →
    gone ++ map number_waiting waiting_bodies ≡ all → length gone ≡ count
    → (if is_none claim_out then first_number waiting_bodies else None)
    ≡ (if is_none known && nat_lt 0 (given - count) then slice_get all count else None)
offers-by (Some k) waiting_bodies gone all given count known e f g l = rw (← e) refl
offers-by None [] gone all given count known e f g l = rw (← e, f) refl
offers-by None (x ∷ xs) gone all given count known e f g l =
    rw (← e, f, get-behind gone _ all count g l, some-wait (length xs)) refl

-- each direction offers what the history tells
way-offers : (c : ℕ) (d : Dir) (w : WayState) (settled given : List CircuitCell) (count many : ℕ) (known : Option ClaimNote)
    (all : List ℕ) (live : Bool) → WayStands c d w settled given count known all → live ≡ true →
    length given ≡ many → (if is_none w.claim_out then first_number w.waiting_bodies else None)
    ≡ (if live && (is_none known && nat_lt 0 (many - count)) then slice_get all count else None)
way-offers c d w settled given count many known all live own alive same =
    let waits : many - count ≡ length w.waiting_bodies =
    subst (λ n. n - count ≡ length w.waiting_bodies) same (way-waits c d w settled given count known all own) in
    rw alive (offers-by w.claim_out w.waiting_bodies own.claimed_numbers all many count known own.claim_out waits own.numbers
    (own.claimed_all ∙ own.claimed_count))

circuit-offers : (start : SwitchStart) (s : State) (h : List Step) (c : ℕ) (d : Dir) (x : Option CircuitState) →
    CircuitAt start.rules s.last_closes x c (past start.rules h c) (λ j. holds_id h c j) (edge_past start.rules h c) →
    offered_by (way_at x d) ≡ offers_on start.rules h (born_bodies start.rules h) (record { circ = c; dir = d })
circuit-offers start s h c d None gone = rw gone.live refl
circuit-offers start s h c Forth (Some x) own =
    way-offers c Forth x.forth _ _ _ (length (taken_forth h c)) _ _ (past start.rules h c).live own.forth own.live refl
circuit-offers start s h c Back (Some x) own =
    way-offers c Back x.back _ _ _ (length (back_bodies (circuit_log start.rules h c))) _ _ (past start.rules h c).live own.back
    own.live (length-map (back_bodies (circuit_log start.rules h c)) _)

offers-said : (start : SwitchStart) (s : State) (h : List Step) → Stands start s h → (w : Way)
    → offered s w ≡ offers_on start.rules h (born_bodies start.rules h) w
offers-said start s h st w = circuit-offers start s h w.circ w.dir (slot_at s.circuits w.circ) (st.circuits.circuit w.circ)

-- so both pick the same
strip : (ready : Bool) (xs : List ℕ) (i n : ℕ) → (if ready then slice_get xs i else None) ≡ Some n → slice_get xs i ≡ Some n
strip true xs i n e = e
strip false xs i n e = absurd cc

same-offer : (start : SwitchStart) (s : State) (h : List Step) → Stands start s h → (v w : Way) (n : ℕ) → offered s v ≡ Some n
    → offered s w ≡ Some n → v ≡ w
same-offer start s h st v w n e f =
    numbers-apart v w (born_bodies start.rules h) (claimed_count h v) (claimed_count h w) n
    (strip (is_ready start.rules h v) _ (claimed_count h v) n (sym (offers-said start s h st v) ∙ e))
    (strip (is_ready start.rules h w) _ (claimed_count h w) n (sym (offers-said start s h st w) ∙ f))

inside-by : (s : State) (w : Way) (n : ℕ) (b : Bool) → nat_le (length s.circuits) w.circ ≡ b → offered s w ≡ Some n
    → w.circ < length s.circuits
inside-by s w n true is e = let beyond : length s.circuits ≤ w.circ =
    grind (arith, nat_tests) in absurd (some-none (offered s w) n (none-beyond s w beyond) e)
inside-by s w n false is e = grind (arith, nat_tests)

-- a direction that offers a body is one of a circuit's
offer-inside : (s : State) (w : Way) (n : ℕ) → offered s w ≡ Some n → w.circ < length s.circuits
offer-inside s w n e = inside-by s w n (nat_le (length s.circuits) w.circ) refl e

picks-by : (start : SwitchStart) (s : State) (h : List Step) → Stands start s h → (o : Option Offer) (u : Option Way)
    → IsBest (offered s) (λ v. v.circ < length s.circuits) o → IsSoonest (offered s) u →
    option_map (λ (b : Offer). b.way) o ≡ u
picks-by start s h st None None best first = refl
picks-by start s h st None (Some w) best first =
    absurd (some-none (offered s w) first.number (best w (offer-inside s w first.number first.has)) first.has)
picks-by start s h st (Some b) None best first = absurd (some-none (offered s b.way) b.number (first b.way) best.has)
picks-by start s h st (Some b) (Some w) best first =
    let le = best.least w first.number (offer-inside s w first.number first.has) first.has in
    let ge = first.least b.way b.number best.has in
    let same : b.number ≡ first.number = omega arith in
    ap Some (same-offer start s h st b.way w b.number best.has (first.has ∙ ap Some (sym same)))

soonest-said : (f g : Way → Option ℕ) → ((w : Way) → f w ≡ g w) → (u : Option Way) → IsSoonest g u → IsSoonest f u
soonest-said f g same None first = λ v. same v ∙ first v
soonest-said f g same (Some w) first =
    record { number = first.number; has = same w ∙ first.has; least = λ v n e. first.least v n (sym (same v) ∙ e) }

next-way-said : (start : SwitchStart) (s : State) (h : List Step) → Stands start s h
    → option_map (λ (b : Offer). b.way) (soonest s) ≡ next_way start.rules h
next-way-said start s h st =
    picks-by start s h st (soonest s) (next_way start.rules h) (soonest-best s (length s.circuits))
    (soonest-said (offered s) (offers_on start.rules h (born_bodies start.rules h)) (offers-said start s h st)
    (next_way start.rules h) (first-soonest start.rules h (born_bodies start.rules h)))

-- the note
same-note : (name a b worker c : ℕ) (d : Dir) (f g n m : ℕ) → a ≡ b → f ≡ g → n ≡ m →
    ◌≡◌ {A = ClaimNote}
    (record { switch = name; claim = a; worker = worker; circ = circ_no c; dir = d; first = f; count = min claim_limit n })
    (record { switch = name; claim = b; worker = worker; circ = circ_no c; dir = d; first = g; count = min claim_limit m })
same-note name a b worker c d f g n m p q r = rw (p, q, r) refl

way-known : (start : SwitchStart) (s : State) (h : List Step) (worker c : ℕ) (d : Dir) (x : Option CircuitState) (w : WayState)
    → Stands start s h → way_at x d ≡ Some w →
    CircuitAt start.rules s.last_closes x c (past start.rules h c) (λ j. holds_id h c j) (edge_past start.rules h c) →
    claim_note start.name s worker (record { circ = c; dir = d }) w ≡ note_for start h worker (record { circ = c; dir = d })
way-known start s h worker c d None w st found own = absurd cc
way-known start s h worker c Forth (Some x) w st found own =
    let it : w ≡ x.forth = cc in
    let waits = way-waits c Forth x.forth _ _ _ _ _ own.forth in
    rw it (same-note start.name s.claims (claims h) worker c Forth x.forth.claimed_count _ (length x.forth.waiting_bodies) _
    st.numbers.claims own.forth.claimed_count (sym waits))
way-known start s h worker c Back (Some x) w st found own =
    let it : w ≡ x.back = cc in
    let waits = way-waits c Back x.back _ _ _ _ _ own.back in
    rw it (same-note start.name s.claims (claims h) worker c Back x.back.claimed_count _ (length x.back.waiting_bodies) _
    st.numbers.claims own.back.claimed_count
    (sym (ap (λ n. n - claimed_count h (record { circ = c; dir = Back }))
    (sym (length-map (back_bodies (circuit_log start.rules h c)) _)) ∙ waits)))

found-way : (s : State) (w : Way) (n : ℕ) (x : Option WayState) → way_in s w ≡ x → offered s w ≡ Some n
    → (y : WayState) × (way_in s w ≡ Some y)
found-way s w n None found has = let none : offered s w ≡ None = rw found refl in absurd (some-none (offered s w) n none has)
found-way s w n (Some y) found has = (y, found)

said-by : (start : SwitchStart) (s : State) (h : List Step) (worker : ℕ) → Stands start s h → (o : Option Offer) (u : Option Way)
    → IsBest (offered s) (λ v. v.circ < length s.circuits) o →
    option_map (λ (b : Offer). b.way) o ≡ u → claim_result_of start.name s worker o ≡ option_map (note_for start h worker) u
said-by start s h worker st None u best e = rw (← e) refl
said-by start s h worker st (Some b) u best e =
    let y = found-way s b.way b.number (way_in s b.way) refl best.has in
    rw (← e, y.1)
    (ap Some (way-known start s h worker b.way.circ b.way.dir (slot_at s.circuits b.way.circ) y.0 st y.1
    (st.circuits.circuit b.way.circ)))

pub claim_said : (start : SwitchStart) (s : State) (h : List Step) (worker : ℕ) → Stands start s h
    → claim_result start.name s worker ≡ claim_answer start h worker
claim_said start s h worker st =
    said-by start s h worker st (soonest s) (next_way start.rules h) (soonest-best s (length s.circuits))
    (next-way-said start s h st)
