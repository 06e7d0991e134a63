-- In a legal history, where a circuit is at rest, all that the one-thread relay sends was sent, on each leg that
-- neither the peer nor its channel ended.
use Rattle.std.proofs.Common.{◌≡◌, ℕ, ◌+◌, ◌-◌, ◌<◌, ◌≤◌, ◌&&◌, Bool, true, false, nat_lt, nat_le, if◌then◌else◌, is_some, is_none, List, [], ◌∷◌, ◌++◌, length, Option, Some, None, option_to_list, refl, sym, ◌∙◌, ap, subst, append_assoc, arith, inl, inr, zero, suc}
use Rattle.std.proofs.lemmas.Bool.Decides.{nat_tests, eqb_tells}
use Rattle.std.proofs.lemmas.List.{append-nil, length-append, take_all}
use Rattle.circuit_model.specs.Events.{CircuitCell}
use Rattle.circuit_model.specs.Log.{Log}
use Rattle.circuit_model.specs.Opened.{born_keys, born_reply}
use Rattle.circuit_model.specs.Packaged.{back_bodies}
use Rattle.circuit_model.specs.Rules.{Rules}
use Rattle.circuit_model.specs.Sent.{leg_cells, all_sealed, sent_to_client}
use Rattle.tr_io.specs.declared.names.ClaimNote.{ClaimNote}
use Rattle.tr_io.specs.declared.names.Dir.TheVariants.{Back}
use Rattle.tr_io.specs.declared.step.Step.{Step}
use Rattle.switch_model.specs.Start.{SwitchStart}
use Rattle.switch_model.specs.Names.{Leg, is_leg}
use Rattle.switch_model.specs.History.Legs.{Port, port, on_channel, circuits, hops, at, holds_id}
use Rattle.switch_model.specs.History.LegEnds.{is_ended_by_us, is_ended_outside}
use Rattle.switch_model.specs.History.Circuit.{is_live_circuit, sent, events}
use Rattle.switch_model.specs.Waiting.Queues.{circuit_log, sealed_count, sendable, queue}
use Rattle.switch_model.specs.Waiting.Claims.{claimed_count, claim_out}
use Rattle.switch_model.specs.Waiting.Contents.{bodies_with_room}
use Rattle.switch_model.specs.Waiting.Counts.{some_in, waiting_leg, waiting_of, waiting_below, waiting_legs}
use Rattle.switch_model.specs.Waiting.Rest.{queues_of, IsAtRest}
use Rattle.switch_model.specs.Legal.{IsLegal}
use Rattle.switch_model.proofs.Common.{self_eq}
use Rattle.switch_model.proofs.Ported.{no-hop-leg}
use Rattle.switch_model.proofs.Ways.{WayHas}
use Rattle.switch_model.proofs.WaysHold.{ways}
use Rattle.switch_model.proofs.LogGrows.{hop-one}
use Rattle.switch_model.proofs.LaneIds.{leg-opened, leg-some}
use Rattle.switch_model.proofs.SentBegins.{sent_is_prefix}
use Rattle.switch_model.proofs.LegsAtRest.{all_sent}
use Rattle.switch_model.proofs.DestroyLast.{no_leg_nothing, destroy_is_last, client_without_destroy}
use Rattle.switch_model.proofs.EventsFit.{events_fit}
use Rattle.switch_model.proofs.LinkCounts.{hops_are_counted}
use Rattle.switch_model.proofs.LegLives.{client_port, hop_port, has_its_id, at_live_channel}
use Rattle.switch_model.proofs.DestroySent.{destroy_was_sent}

below-other : (k m : ℕ) → k < suc m → (k ≡ m → ⊥) → k < m
below-other k m inside other = grind (arith, nat_tests)

-- a queue on a live channel is empty
none-first : (xs ys : List CircuitCell) → xs ++ ys ≡ [] → xs ≡ []
none-first [] ys none = refl
none-first (x ∷ xs) ys none = absurd cc

none-second : (xs ys : List CircuitCell) → xs ++ ys ≡ [] → ys ≡ []
none-second [] ys none = none
none-second (x ∷ xs) ys none = absurd cc

queues-both : (rules : Rules) (h : List Step) (xs ys : List Leg)
    → queues_of rules h (xs ++ ys) ≡ queues_of rules h xs ++ queues_of rules h ys
queues-both rules h [] ys = refl
queues-both rules h (leg ∷ xs) ys =
    rw (queues-both rules h xs ys)
    (sym (append_assoc (queue rules h leg.circ leg.number) (queues_of rules h xs) (queues_of rules h ys)))

one-empty : (rules : Rules) (h : List Step) (leg : Leg) (on : Bool) (q : List CircuitCell) → queue rules h leg.circ leg.number ≡ q
    → on ≡ true → queues_of rules h (if on && some_in q then leg ∷ [] else []) ≡ [] → q ≡ []
one-empty rules h leg true [] is on none = refl
one-empty rules h leg true (cell ∷ q) is on none = sym is ∙ none-first _ [] none
one-empty rules h leg false q is on none = absurd cc

empty-of : (rules : Rules) (h : List Step) (chan c k m : ℕ) → queues_of rules h (waiting_of rules h chan c m) ≡ [] → k < m
    → on_channel chan (port h c k) ≡ true → queue rules h c k ≡ []
empty-of rules h chan c k zero none inside on = absurd (omega arith)
empty-of rules h chan c k (suc m) none inside on =
    let both = sym (queues-both rules h (waiting_of rules h chan c m) (waiting_leg rules h chan c m)) ∙ none in
    elim (eqb_tells k m) [
      | inl (is, same) ↦ one-empty rules h (record { circ = c; number = k }) (on_channel chan (port h c k)) (queue rules h c k)
          refl on
          (subst (λ n. queues_of rules h (waiting_leg rules h chan c n) ≡ []) (sym same)
          (none-second (queues_of rules h (waiting_of rules h chan c m)) _ both))
      | inr (is, other) ↦ empty-of rules h chan c k m (none-first _ (queues_of rules h (waiting_leg rules h chan c m)) both)
          (below-other k m inside other) on
    ]

empty-below : (rules : Rules) (h : List Step) (chan c k n : ℕ) → queues_of rules h (waiting_below rules h chan n) ≡ [] → c < n
    → k < hops h c + 1 → on_channel chan (port h c k) ≡ true → queue rules h c k ≡ []
empty-below rules h chan c k zero none inside legs on = absurd (omega arith)
empty-below rules h chan c k (suc n) none inside legs on =
    let both = sym (queues-both rules h (waiting_below rules h chan n) (waiting_of rules h chan n (hops h n + 1))) ∙ none in
    elim (eqb_tells c n) [
      | inl (is, same) ↦ empty-of rules h chan c k (hops h c + 1)
          (subst (λ m. queues_of rules h (waiting_of rules h chan m (hops h m + 1)) ≡ []) (sym same)
          (none-second (queues_of rules h (waiting_below rules h chan n)) _ both)) legs on
      | inr (is, other) ↦ empty-below rules h chan c k n
          (none-first _ (queues_of rules h (waiting_of rules h chan n (hops h n + 1))) both) (below-other c n inside other) legs
          on
    ]

none-made : (p : Option Port) (place : Port) → p ≡ None → p ≡ Some place → ⊥
none-made p place none some = let no : None ≡ Some place = sym none ∙ some in cc

made-below : (h : List Step) (c k : ℕ) (place : Port) (b : Bool) → nat_le k (hops h c) ≡ b → port h c k ≡ Some place
    → k < hops h c + 1
made-below h c k place true is lies = grind (arith, nat_tests)
made-below h c k place false is lies = absurd (none-made (port h c k) place (no-hop-leg h c k (grind (arith, nat_tests))) lies)

empty-at : (start : SwitchStart) (h : List Step) (c k : ℕ) (place : Port) → IsLegal start h → IsAtRest start.rules h c
    → port h c k ≡ Some place → is_leg c k (at h place.chan place.id) ≡ true → queue start.rules h c k ≡ []
empty-at start h c k place legal rest lies named =
    let on_live = at_live_channel start h legal place.chan place.id (leg-some c k (at h place.chan place.id) named) in
    let none = none-second _ (queues_of start.rules h (waiting_legs start.rules h place.chan)) (rest.empty place.chan on_live) in
    empty-below start.rules h place.chan c k (circuits h) none (leg-opened start h legal c k place.chan place.id named)
    (made-below h c k place _ refl lies) (rw lies (self_eq place.chan))

-- all bodies that went back are sealed
sealed-all : (key : List ℕ) (n : ℕ) (bodies : List (List ℕ)) → length (all_sealed key n bodies) ≡ length bodies
sealed-all key n [] = refl
sealed-all key n (body ∷ bodies) = rw (sealed-all key (n + 1) bodies) refl

one-most : (o : Option CircuitCell) → length (option_to_list o) ≤ 1
one-most None = omega arith
one-most (Some cell) = omega arith

client-whole : (l : Log) (n : ℕ) → length (back_bodies l) ≤ n → sendable l n 0 ≡ leg_cells l 0
client-whole l n most =
    let size : length (sent_to_client l) ≤ 1 + n = let a = one-most (born_reply l) in let b =
    sealed-all (born_keys l).kb 0 (back_bodies l) in
    let c = length-append (option_to_list (born_reply l)) (all_sealed (born_keys l).kb 0 (back_bodies l)) in
    omega (arith, a, b, c, most) in
    take_all (1 + n) (sent_to_client l) size

leg-whole : (l : Log) (n k : ℕ) → length (back_bodies l) ≤ n → sendable l n k ≡ leg_cells l k
leg-whole l n zero most = client-whole l n most
leg-whole l n (suc k) most = refl

idle-by : (live : Bool) (o : Option ClaimNote) (given count : ℕ) → live ≡ true → o ≡ None
    → (live && (is_none o && nat_lt 0 (given - count))) ≡ false → given ≤ count
idle-by live o given count alive none idle = let no : nat_lt 0 (given - count) ≡ false =
    rw (alive, none) at idle in grind (arith, nat_tests)

back-home : (start : SwitchStart) (h : List Step) (c : ℕ) → IsLegal start h → IsAtRest start.rules h c
    → length (back_bodies (circuit_log start.rules h c)) ≤ sealed_count h c
back-home start h c legal rest =
    let has : WayHas start.rules h c Back = ways start h legal c Back in
    let home = rest.home Back in
    let most = idle-by (is_live_circuit start.rules h c) (claim_out h (record { circ = c; dir = Back }))
    (length (back_bodies (circuit_log start.rules h c))) (claimed_count h (record { circ = c; dir = Back })) rest.live home
    (rest.idle (record { circ = c; dir = Back })) in
    let came : claimed_count h (record { circ = c; dir = Back }) ≡ sealed_count h c + 0 =
    subst (λ o. claimed_count h (record { circ = c; dir = Back }) ≡ sealed_count h c + bodies_with_room o) home
    (has.home rest.live) in
    omega (arith, most, came)

-- a leg that has its CircID
leg-with-id : (start : SwitchStart) (h : List Step) (c k : ℕ) (place : Port) → IsLegal start h → IsAtRest start.rules h c
    → port h c k ≡ Some place → is_leg c k (at h place.chan place.id) ≡ true
    → sent start.rules h c k ≡ leg_cells (circuit_log start.rules h c) k
leg-with-id start h c k place legal rest lies named =
    let holds : holds_id h c k ≡ true = rw lies named in
    all_sent start h c k legal rest.live holds (empty-at start h c k place legal rest lies named)
    ∙ leg-whole (circuit_log start.rules h c) (sealed_count h c) k (back-home start h c legal rest)

-- one that this side's DESTROY ended
all-by : (xs rest ys : List CircuitCell) → xs ++ rest ≡ ys → rest ≡ [] → xs ≡ ys
all-by xs rest ys is none = sym (append-nil xs) ∙ ap (λ l. xs ++ l) (sym none) ∙ is

ended-leg : (start : SwitchStart) (h : List Step) (c k : ℕ) → IsLegal start h → is_live_circuit start.rules h c ≡ true
    → is_ended_by_us h c k ≡ true → sent start.rules h c k ≡ leg_cells (circuit_log start.rules h c) k
ended-leg start h c zero legal alive ended =
    let begins = sent_is_prefix start h legal c 0 in
    absurd (client_without_destroy start.rules (events start.rules h c) (sent start.rules h c 0) begins.0
    (events_fit start h legal c) begins.1 (destroy_was_sent start h legal c 0 alive ended))
ended-leg start h c (suc k) legal alive ended =
    let begins = sent_is_prefix start h legal c (suc k) in
    let none = destroy_is_last start.rules (events start.rules h c) (suc k) (sent start.rules h c (suc k)) begins.0
    (events_fit start h legal c) (begins.1 ∙ hop-one (circuit_log start.rules h c) k)
    (destroy_was_sent start h legal c (suc k) alive ended) in
    all-by (sent start.rules h c (suc k)) begins.0 _ begins.1 none

-- one that wasn't made
no-port : (p : Option Port) → is_some p ≡ true → p ≡ None → ⊥
no-port (Some place) some none = cc
no-port None some none = cc

unmade-above : (h : List Step) (c k : ℕ) (b : Bool) → nat_le (suc k) (hops h c) ≡ b → port h c (suc k) ≡ None → hops h c < suc k
unmade-above h c k true is none =
    absurd (no-port (port h c (suc k)) (hop_port h c (suc k) (omega arith) (grind (arith, nat_tests))) none)
unmade-above h c k false is none = grind (arith, nat_tests)

unmade-leg : (start : SwitchStart) (h : List Step) (c k : ℕ) → IsLegal start h → is_live_circuit start.rules h c ≡ true
    → port h c k ≡ None → sent start.rules h c k ≡ leg_cells (circuit_log start.rules h c) k
unmade-leg start h c zero legal alive none = absurd (no-port (port h c 0) (client_port start.rules h c alive) none)
unmade-leg start h c (suc k) legal alive none =
    let count = hops_are_counted start.rules h c in
    let above = unmade-above h c k _ refl none in
    let nothing =
    hop-one (circuit_log start.rules h c) k
    ∙ no_leg_nothing (circuit_log start.rules h c) (suc k) (omega (arith, count, above)) in
    let begins = sent_is_prefix start h legal c (suc k) in
    none-first (sent start.rules h c (suc k)) begins.0 (begins.1 ∙ nothing) ∙ sym nothing

ends-by : (start : SwitchStart) (h : List Step) (c k : ℕ) (place : Port) (b : Bool) → is_ended_by_us h c k ≡ b → IsLegal start h
    → IsAtRest start.rules h c → port h c k ≡ Some place → is_ended_outside h c k ≡ false
    → sent start.rules h c k ≡ leg_cells (circuit_log start.rules h c) k
ends-by start h c k place true is legal rest lies outside = ended-leg start h c k legal rest.live is
ends-by start h c k place false is legal rest lies outside =
    leg-with-id start h c k place legal rest lies (has_its_id start h legal c k place lies is outside)

port-by : (start : SwitchStart) (h : List Step) (c k : ℕ) (p : Option Port) → port h c k ≡ p → IsLegal start h
    → IsAtRest start.rules h c → is_ended_outside h c k ≡ false
    → sent start.rules h c k ≡ leg_cells (circuit_log start.rules h c) k
port-by start h c k (Some place) lies legal rest outside = ends-by start h c k place _ refl legal rest lies outside
port-by start h c k None none legal rest outside = unmade-leg start h c k legal rest.live none

pub at_rest_all_sent : (start : SwitchStart) (h : List Step) (c k : ℕ) → IsLegal start h → IsAtRest start.rules h c
    → is_ended_outside h c k ≡ false → sent start.rules h c k ≡ leg_cells (circuit_log start.rules h c) k
at_rest_all_sent start h c k legal rest outside = port-by start h c k _ refl legal rest outside
