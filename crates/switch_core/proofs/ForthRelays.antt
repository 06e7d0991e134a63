-- The relays behind a return of forward bodies, and the step that it adds.
use Rattle.std.proofs.Common.{◌≡◌, ℕ, ◌+◌, ◌==◌, Bool, true, false, List, ◌∷◌, length, map, Option, Some, None, refl, sym, ◌∙◌, ap, subst, arith}
use Rattle.std.proofs.lemmas.Bool.Decides.{nat_tests}
use Rattle.std.proofs.lemmas.List.{length-map}
use Rattle.circ_relay.specs.CircuitOfLog.{IsCircuit}
use Rattle.circuit_model.specs.Batches.{body_of, events_behind, next_layer, opened_each}
use Rattle.circuit_model.specs.Events.{Event}
use Rattle.circuit_model.specs.Rules.{Rules}
use Rattle.circuit_model.specs.Words.{log}
use Rattle.hop_crypto.specs.Ciphers.{opened_from}
use Rattle.hop_crypto.specs.OpenerState.{opener_of}
use Rattle.hop_crypto.specs.declared.cipher.Cipher.TheVariants.{Forth as forth_cipher}
use Rattle.hop_crypto.specs.declared.parts.DoneParts.{DoneParts}
use Rattle.tr_io.specs.declared.answers.BackAnswer.{BackAnswer}
use Rattle.tr_io.specs.declared.answers.Difference.{Difference}
use Rattle.tr_io.specs.declared.names.ClaimNote.{ClaimNote}
use Rattle.tr_io.specs.declared.names.Dir.TheVariants.{Forth}
use Rattle.tr_io.specs.declared.step.Step.{Step}
use Rattle.tr_io.specs.declared.step.Step.TheVariants.{GiveBack}
use Rattle.switch_model.specs.Answers.GiveBack.{done_by}
use Rattle.switch_model.specs.History.Circuit.{events, is_live_circuit}
use Rattle.switch_model.specs.History.EdgePast.{edge_past}
use Rattle.switch_model.specs.History.Legs.{circuits, holds_id}
use Rattle.switch_model.specs.History.Past.{past}
use Rattle.switch_model.specs.History.Returns.{settling_reason}
use Rattle.switch_model.specs.Start.{SwitchStart}
use Rattle.switch_model.proofs.Common.{self_eq, same-number}
use Rattle.switch_model.proofs.Others.{other_pasts}
use Rattle.switch_machine.specs.Adds.{AddsTo}
use Rattle.switch_machine.specs.Calls.GiveBack.{give_back_result, give_back_state}
use Rattle.switch_machine.specs.Machine.{kept_cells}
use Rattle.switch_machine.specs.Stands.{Stands}
use Rattle.switch_machine.specs.State.{CircuitState, KeptClaim, State, slot_at}
use Rattle.switch_machine.proofs.GiveBack.Law.{give_back_adds}
use Rattle.switch_core.specs.Homecoming.{PutsRelay, RelayHome}
use Rattle.switch_core.specs.Relays.{RelayAt, RelayOfPast, RelayStands, RelaysStand}
use Rattle.switch_core.specs.Settling.{AreOpened, CallsGrow, PartsSettle, settled_by, Settles}
use Rattle.switch_core.specs.Started.{SwitchAdds, SwitchStands}
use Rattle.switch_core.specs.declared.relay.Relay.{Relay}
use Rattle.switch_core.proofs.ForthHome.{circuit_stands, relay_of, relay_is, are_opened, end_is, events_settled}
use Rattle.switch_core.proofs.Relays.{relays_torn}
use Rattle.switch_core.proofs.Whole.{started}
use Rattle.switch_core.proofs.ForthWhole.{IsHomeForth, result-is, state-by, opened-count, relay-behind}

-- what the history says of the circuit

pub stays_live : (rules : Rules) (h : List Step) (n : ClaimNote) → is_live_circuit rules h n.circ.0 ≡ true
    → is_live_circuit rules (GiveBack n None BackAnswer.Settled ∷ h) n.circ.0 ≡ true
stays_live rules h n live = rw live refl

sealed-stays : (rules : Rules) (h : List Step) (n : ClaimNote) (a : BackAnswer) → n.dir ≡ Forth
    → (past rules (GiveBack n None a ∷ h) n.circ.0).sealed_count ≡ (past rules h n.circ.0).sealed_count
sealed-stays rules h n BackAnswer.Settled forth = rw (self_eq n.circ.0, forth) refl
sealed-stays rules h n (BackAnswer.Down reason) forth = refl
sealed-stays rules h n BackAnswer.Gone forth = refl
sealed-stays rules h n (BackAnswer.Stranger why) forth = refl

pub torn-live : (rules : Rules) (h : List Step) (n : ClaimNote) (reason : ℕ)
    → is_live_circuit rules (GiveBack n None (BackAnswer.Down reason) ∷ h) n.circ.0 ≡ false
torn-live rules h n reason = simp (self_eq n.circ.0)

pub other-past : (rules : Rules) (h : List Step) (n : ClaimNote) (a : BackAnswer) (d : ℕ) → (d == n.circ.0) ≡ false
    → past rules (GiveBack n None a ∷ h) d ≡ past rules h d
other-past rules h n BackAnswer.Settled d other =
    let apart : (n.circ.0 == d) ≡ false = grind (arith, nat_tests) in
    other_pasts rules h (GiveBack n None BackAnswer.Settled) d (rw apart refl)
other-past rules h n (BackAnswer.Down reason) d other =
    let apart : (n.circ.0 == d) ≡ false = grind (arith, nat_tests) in
    other_pasts rules h (GiveBack n None (BackAnswer.Down reason)) d (rw apart refl)
other-past rules h n BackAnswer.Gone d other =
    let apart : (n.circ.0 == d) ≡ false = grind (arith, nat_tests) in
    other_pasts rules h (GiveBack n None BackAnswer.Gone) d (rw apart refl)
other-past rules h n (BackAnswer.Stranger why) d other =
    let apart : (n.circ.0 == d) ≡ false = grind (arith, nat_tests) in
    other_pasts rules h (GiveBack n None (BackAnswer.Stranger why)) d (rw apart refl)

-- the relays behind it

pub home_at : (rules : Rules) (live : Bool) (kept_relay : Option Relay) (relay : Relay) (ev : List Event) (sealed : ℕ)
    → live ≡ true → kept_relay ≡ Some relay → RelayStands relay rules ev sealed → RelayAt live kept_relay rules ev sealed
home_at rules live kept_relay relay ev sealed up is stands = rw (up, is) stands

relays-at : (rules : Rules) (h : List Step) (n : ClaimNote) (relays after : List (Option Relay)) (next : Relay) (d : ℕ) (b : Bool)
    → (d == n.circ.0) ≡ b → PutsRelay relays after n.circ.0 next →
    RelayOfPast (Some next) rules (past rules (GiveBack n None BackAnswer.Settled ∷ h) n.circ.0)
    → RelayOfPast (slot_at relays d) rules (past rules h d) →
    RelayOfPast (slot_at after d) rules (past rules (GiveBack n None BackAnswer.Settled ∷ h) d)
relays-at rules h n relays after next d true same puts own old =
    let is : d ≡ n.circ.0 = same-number d n.circ.0 same in
    subst (λ m. RelayOfPast (slot_at after m) rules (past rules (GiveBack n None BackAnswer.Settled ∷ h) m)) (sym is)
    (subst (λ x. RelayOfPast x rules (past rules (GiveBack n None BackAnswer.Settled ∷ h) n.circ.0)) (sym puts.put) own)
relays-at rules h n relays after next d false other puts own old =
    subst (λ x. RelayOfPast x rules (past rules (GiveBack n None BackAnswer.Settled ∷ h) d)) (sym (puts.others d other))
    (subst (λ p. RelayOfPast (slot_at relays d) rules p) (sym (other-past rules h n BackAnswer.Settled d other)) old)

pub relays_put : (rules : Rules) (h : List Step) (n : ClaimNote) (relays after : List (Option Relay)) (next : Relay)
    → PutsRelay relays after n.circ.0 next
    → RelayOfPast (Some next) rules (past rules (GiveBack n None BackAnswer.Settled ∷ h) n.circ.0) →
    RelaysStand rules relays (circuits h) (λ e. past rules h e)
    → RelaysStand rules after (circuits h) (λ e. past rules (GiveBack n None BackAnswer.Settled ∷ h) e)
relays_put rules h n relays after next puts own old = record {
  count_is = puts.count ∙ old.count_is;
  relay = λ d. relays-at rules h n relays after next d (d == n.circ.0) refl puts own (old.relay d);
}

relays-settled : (start : SwitchStart) (s : State) (h : List Step) (relays after : List (Option Relay)) (done : DoneParts)
    (x : CircuitState) (k : KeptClaim) (relay next : Relay) → IsHomeForth start.name s relays done x k relay → Stands start s h →
    RelaysStand start.rules relays (circuits h) (λ e. past start.rules h e)
    → done_by (settling_reason start.rules x.sent_count (events start.rules h done.note.circ.0) k.cells) ≡ BackAnswer.Settled
    →
    IsCircuit next.circuit start.rules (events_behind (events start.rules h done.note.circ.0) k.cells) → next.forth ≡ done.end
    → next.back ≡ relay.back → CallsGrow (length k.cells) relay.circuit next.circuit
    → PutsRelay relays after done.note.circ.0 next →
    RelaysStand start.rules after (circuits h) (λ e. past start.rules (GiveBack done.note None BackAnswer.Settled ∷ h) e)
relays-settled start s h relays after done x k relay next home st old settled_is circuit forth back grown puts =
    let c = done.note.circ.0 in
    let ev = events start.rules h c in
    let own = circuit_stands start s h c x st home.live in
    let stands : RelayStands relay start.rules ev (past start.rules h c).sealed_count =
    relay_of _ (slot_at relays c) relay start.rules ev _ (old.relay c) own.live home.relay_there in
    let cells : kept_cells x.forth.claim_out ≡ k.cells = ap kept_cells home.out in
    let end : done.end ≡ forth_cipher (opener_of (next_layer (log start.rules (events_behind ev k.cells)))) =
    end_is start.rules ev x done home.job (home.start ∙ stands.forth) (home.input ∙ ap (map body_of) (sym cells))
    ∙ ap (λ l. forth_cipher (opener_of (next_layer (log start.rules (events_behind ev l))))) cells in
    let behind_is = events_settled start s h done.note x k st home.live home.forth home.out home.its settled_is in
    let own_next : RelayStands next start.rules (events_behind ev k.cells) (past start.rules h c).sealed_count =
    relay-behind start.rules ev _ relay next done k.cells stands circuit (forth ∙ end) back grown in
    relays_put start.rules h done.note relays after next puts
    (home_at start.rules _ (Some next) next _ _ (stays_live start.rules h done.note own.live) refl
    (subst (λ n. RelayStands next start.rules (events start.rules (GiveBack done.note None BackAnswer.Settled ∷ h) c) n)
    (sym (sealed-stays start.rules h done.note BackAnswer.Settled home.forth))
    (subst (λ e. RelayStands next start.rules e (past start.rules h c).sealed_count) (sym behind_is) own_next)))
    old

no_gone : (reason : Option ℕ) → BackAnswer.Gone ≡ done_by reason → ⊥
no_gone None is = cc
no_gone (Some reason) is = cc

no_stranger : (reason : Option ℕ) (why : Difference) → BackAnswer.Stranger why ≡ done_by reason → ⊥
no_stranger None why is = cc
no_stranger (Some reason) why is = cc

relays-by : (start : SwitchStart) (s : State) (h : List Step) (relays after : List (Option Relay)) (done : DoneParts)
    (x : CircuitState) (k : KeptClaim) (relay next : Relay) (a : BackAnswer) → IsHomeForth start.name s relays done x k relay
    → Stands start s h →
    RelaysStand start.rules relays (circuits h) (λ e. past start.rules h e)
    → a ≡ done_by (settling_reason start.rules x.sent_count (events start.rules h done.note.circ.0) k.cells) →
    (a ≡ BackAnswer.Settled → IsCircuit next.circuit start.rules (events_behind (events start.rules h done.note.circ.0) k.cells))
    → next.forth ≡ done.end → next.back ≡ relay.back → CallsGrow (length k.cells) relay.circuit next.circuit →
    RelayHome a relays after done.note.circ.0 next
    → RelaysStand start.rules after (circuits h) (λ e. past start.rules (GiveBack done.note None a ∷ h) e)
relays-by start s h relays after done x k relay next BackAnswer.Settled home st old said circuit forth back grown puts =
    relays-settled start s h relays after done x k relay next home st old (sym said) (circuit refl) forth back grown puts
relays-by start s h relays after done x k relay next (BackAnswer.Down reason) home st old said circuit forth back grown forgets =
    relays_torn start.rules h (GiveBack done.note None (BackAnswer.Down reason)) done.note.circ.0 relays after refl
    (torn-live start.rules h done.note reason)
    (λ e other. other-past start.rules h done.note (BackAnswer.Down reason) e other) forgets old
relays-by start s h relays after done x k relay next BackAnswer.Gone home st old said circuit forth back grown puts =
    absurd (no_gone _ said)
relays-by start s h relays after done x k relay next (BackAnswer.Stranger why) home st old said circuit forth back grown puts =
    absurd (no_stranger _ why said)

-- what came out of the bodies, and what they make of the circuit

outputs-are : (start : SwitchStart) (old : State) (h : List Step) (relays : List (Option Relay)) (done : DoneParts)
    (x : CircuitState) (k : KeptClaim) (relay : Relay) → IsHomeForth start.name old relays done x k relay
    → SwitchStands (started start old relays) h →
    AreOpened done.output.items start.rules (events start.rules h done.note.circ.0) x
outputs-are start old h relays done x k relay home st =
    let c = done.note.circ.0 in
    let ev = events start.rules h c in
    let own = circuit_stands start old h c x st.state home.live in
    let stands : RelayStands relay start.rules ev (past start.rules h c).sealed_count =
    relay_of _ (slot_at relays c) relay start.rules ev _ (st.relays.relay c) own.live home.relay_there in
    are_opened start.rules ev x done home.job (home.start ∙ stands.forth)
    (home.input ∙ ap (map body_of) (sym (ap kept_cells home.out)))

pub settles_of : (start : SwitchStart) (old new : State) (h : List Step) (relays : List (Option Relay)) (done : DoneParts)
    (x : CircuitState) (k : KeptClaim) (relay next : Relay) (a : BackAnswer) → IsHomeForth start.name old relays done x k relay
    → SwitchStands (started start old relays) h →
    PartsSettle start.rules old new done.note.circ.0 relay.circuit next.circuit done.output.items a
    → Settles start.rules (events start.rules h done.note.circ.0) old new done.note.circ.0 x next.circuit a
settles_of start old new h relays done x k relay next a home st parts =
    let c = done.note.circ.0 in
    let ev = events start.rules h c in
    let own = circuit_stands start old h c x st.state home.live in
    let stands : RelayStands relay start.rules ev (past start.rules h c).sealed_count =
    relay_of _ (slot_at relays c) relay start.rules ev _ (st.relays.relay c) own.live home.relay_there in
    let is = relay_is start.rules old.last_closes x c (past start.rules h c) (λ j. holds_id h c j) (edge_past start.rules h c)
    relay own stands in
    parts x ev home.live is (outputs-are start old h relays done x k relay home st)

-- the step

pub forth_whole : (start : SwitchStart) (old new : State) (relays after : List (Option Relay)) (done : DoneParts)
    (x : CircuitState) (k : KeptClaim) (relay next : Relay) (a : BackAnswer) → IsHomeForth start.name old relays done x k relay →
    PartsSettle start.rules old new done.note.circ.0 relay.circuit next.circuit done.output.items a → new.steps ≡ old.steps + 1
    → next.forth ≡ done.end → next.back ≡ relay.back → CallsGrow (length done.output.items) relay.circuit next.circuit →
    RelayHome a relays after done.note.circ.0 next
    → SwitchAdds (started start old relays) (started start new after) (GiveBack done.note None a)
unfolding SwitchAdds AddsTo
forth_whole start old new relays after done x k relay next a home parts steps forth back grown relay_home = record {
  start = refl;
  steps = steps;
  stands = λ h st.
      let c = done.note.circ.0 in
      let ev = events start.rules h c in
      let cells : kept_cells x.forth.claim_out ≡ k.cells = ap kept_cells home.out in
      let outputs : AreOpened done.output.items start.rules ev x = outputs-are start old h relays done x k relay home st in
      let settles = settles_of start old new h relays done x k relay next a home st parts in
      let result = result-is start.name start.rules (λ d. events start.rules h d) old relays done x k relay home in
      let answer : a ≡ give_back_result start.name start.rules (λ d. events start.rules h d) old done.note None =
      settles.answer_is ∙ sym result in
      let state : new ≡ give_back_state start.name start.rules (λ d. events start.rules h d) old done.note None =
      settles.state ∙ ap (settled_by start.rules ev old c x) settles.answer_is
      ∙ state-by start.name start.rules (λ d. events start.rules h d) old done.note x
      (settling_reason start.rules x.sent_count ev (kept_cells x.forth.claim_out)) home.live home.forth result in
      let count : length done.output.items ≡ length k.cells =
      ap length outputs ∙ length-map (opened_each start.rules ev (kept_cells x.forth.claim_out)) opened_from
      ∙ opened-count start.rules ev (kept_cells x.forth.claim_out) ∙ ap length cells in
      record {
        state = (give_back_adds start h old new done.note None a state answer).stands st.state;
        relays = relays-by start old h relays after done x k relay next a home st.state st.relays
            (settles.answer_is ∙ ap (λ l. done_by (settling_reason start.rules x.sent_count ev l)) cells)
            (λ same. subst (λ l. IsCircuit next.circuit start.rules (events_behind ev l)) cells (settles.relay_is same)) forth
            back (subst (λ n. CallsGrow n relay.circuit next.circuit) count grown) relay_home;
      };
}
