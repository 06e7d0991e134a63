-- In a legal history a leg that was made has its CircID until one of its ends, and its channel is live until then.
use Rattle.std.proofs.Common.{◌≡◌, ℕ, ◌+◌, ◌<◌, ◌≤◌, ◌==◌, ◌&&◌, Bool, true, false, if◌then◌else◌, is_some, List, [], ◌∷◌, Option, Some, None, refl, sym, ◌∙◌, ap, subst, arith}
use Rattle.std.proofs.lemmas.Bool.Decides.{nat_tests}
use Rattle.cell_codec.specs.declared.cell.Cell.{Cell}
use Rattle.circuit_model.specs.Rules.{Rules}
use Rattle.tr_io.specs.declared.answers.BackAnswer.{BackAnswer}
use Rattle.tr_io.specs.declared.answers.DialAnswer.{DialAnswer}
use Rattle.tr_io.specs.declared.answers.OpenAnswer.TheVariants.{Opened}
use Rattle.tr_io.specs.declared.answers.UpAnswer.{UpAnswer}
use Rattle.tr_io.specs.declared.dials.DialOutcome.{DialOutcome}
use Rattle.tr_io.specs.declared.names.ChanNo.{ChanNo}
use Rattle.tr_io.specs.declared.step.Step.{Step}
use Rattle.tr_io.specs.declared.step.Step.TheVariants.{ChannelUp, ChannelDown, OpenCircuit, Take, NextCell, DialDone}
use Rattle.switch_model.specs.Start.{SwitchStart}
use Rattle.switch_model.specs.Names.{Leg, is_leg}
use Rattle.switch_model.specs.History.Channels.{Channel, channel_at, is_live_channel, next_given_id}
use Rattle.switch_model.specs.History.Legs.{Port, port, hops, at, is_destroy_for, holds_id, on_channel}
use Rattle.switch_model.specs.History.LegEnds.{is_ended_by_us, is_ended_outside}
use Rattle.switch_model.specs.History.Circuit.{is_live_circuit}
use Rattle.switch_model.specs.Legal.{IsLegal}
use Rattle.switch_model.proofs.Common.{self_eq, and-first, and-second, same-number, or-first}
use Rattle.switch_model.proofs.Ways.{was-live}
use Rattle.switch_model.proofs.Ported.{makes_leg, port-before, turned, link-same}
use Rattle.switch_model.proofs.GivenIds.{opened-fits, linked-over}
use Rattle.switch_model.proofs.LegIds.{at-given, was-some, some-live}
use Rattle.switch_model.proofs.LaneIds.{leg-some, link-untaken}

-- legs that were made have a port
some-if : {A : Type 0} (b : Bool) (x : A) (y : Option A) → is_some y ≡ true → is_some (if b then Some x else y) ≡ true
some-if true x y is = refl
some-if false x y is = is

opened-port : (b live : Bool) (x : Port) (y : Option Port) → (live ≡ true → is_some y ≡ true) → (if b then true else live) ≡ true
    → is_some (if b && true then Some x else y) ≡ true
opened-port true live x y before alive = refl
opened-port false live x y before alive = before alive

pub client_port : (rules : Rules) (h : List Step) (c : ℕ) → is_live_circuit rules h c ≡ true → is_some (port h c 0) ≡ true
client_port rules [] c alive = absurd cc
client_port rules (OpenCircuit chan id reply keys pad (Opened n) ∷ h) c alive =
    opened-port (n.0 == c) (is_live_circuit rules h c) _ (port h c 0) (client_port rules h c) alive
client_port rules (DialDone order outcome (DialAnswer.Up n) ∷ h) c alive =
    some-if _ _ (port h c 0) (client_port rules h c (was-live rules h (DialDone order outcome (DialAnswer.Up n)) c refl alive))
client_port rules (s ∷ h) c alive = client_port rules h c (was-live rules h s c refl alive)

below-last : (count k : ℕ) → (k == count + 1) ≡ false → k ≤ count + 1 → k ≤ count
below-last count k other below = grind (arith, nat_tests)

last-port : (b : Bool) (count k : ℕ) (x : Port) (y : Option Port) → (k == count + 1) ≡ b → (k ≤ count → is_some y ≡ true)
    → k ≤ count + 1 → is_some (if b then Some x else y) ≡ true
last-port true count k x y is before below = refl
last-port false count k x y is before below = before (below-last count k is below)

linked-port : (b : Bool) (count k : ℕ) (x : Port) (y : Option Port) → (k ≤ count → is_some y ≡ true)
    → k ≤ (if b then count + 1 else count) → is_some (if b && (k == count + 1) then Some x else y) ≡ true
linked-port true count k x y before below = last-port (k == count + 1) count k x y refl before below
linked-port false count k x y before below = before below

pub hop_port : (h : List Step) (c k : ℕ) → 0 < k → k ≤ hops h c → is_some (port h c k) ≡ true
hop_port [] c k above below = absurd (omega (arith, above, below))
hop_port (OpenCircuit chan id reply keys pad (Opened n) ∷ h) c k above below =
    some-if _ _ (port h c k) (hop_port h c k above below)
hop_port (DialDone order outcome (DialAnswer.Up n) ∷ h) c k above below =
    linked-port (order.circ.0 == c) (hops h c) k _ (port h c k) (hop_port h c k above) below
hop_port (s ∷ h) c k above below = hop_port h c k above below

-- a leg without an end has its CircID
unless : (b e : Bool) → (if b then true else e) ≡ false → e ≡ false
unless true e is = absurd cc
unless false e is = is

for-leg : (c k : ℕ) (h : List Step) (n : ChanNo) (cell : Cell) (chan id : ℕ) (e b : Bool) → is_destroy_for n cell chan id ≡ b
    → is_leg c k (at h chan id) ≡ true → (if is_leg c k (at h n.0 cell.circ) && (cell.command == 4) then true else e) ≡ false →
    is_leg c k (if b then None else at h chan id) ≡ true
for-leg c k h n cell chan id e true is here none =
    let same_chan = same-number n.0 chan (and-first (n.0 == chan) _ is) in
    let rest = and-second (n.0 == chan) _ is in
    let same_id = same-number cell.circ id (and-first (cell.circ == id) _ rest) in
    let destroys : (cell.command == 4) ≡ true = and-second (cell.circ == id) _ rest in
    let named : is_leg c k (at h n.0 cell.circ) ≡ true =
    subst (λ x. is_leg c k (at h x cell.circ) ≡ true) (sym same_chan)
    (subst (λ x. is_leg c k (at h chan x) ≡ true) (sym same_id) here) in
    let no : true ≡ false = rw (named, destroys) at none in
    absurd cc
for-leg c k h n cell chan id e false is here none = here

down-leg : (c k : ℕ) (h : List Step) (n : ℕ) (place : Port) (e b : Bool) → (n == place.chan) ≡ b → port h c k ≡ Some place
    → is_leg c k (at h place.chan place.id) ≡ true → (if holds_id h c k && on_channel n (port h c k) then true else e) ≡ false →
    is_leg c k (if b then None else at h place.chan place.id) ≡ true
down-leg c k h n place e true is lies here none =
    let turned : (place.chan == n) ≡ true = rw (same-number n place.chan is) (self_eq place.chan) in
    let no : true ≡ false = rw (lies, here, turned) at none in
    absurd cc
down-leg c k h n place e false is lies here none = here

unused-id : (b : Bool) (n chan i id : ℕ) (h : List Step) → ((n == chan) && (i == id)) ≡ b → is_some (at h n i) ≡ false
    → is_some (at h chan id) ≡ true → b ≡ false
unused-id true n chan i id h is unused used =
    let same_chan = same-number n chan (and-first (n == chan) _ is) in
    let same_id = same-number i id (and-second (n == chan) _ is) in
    let no : true ≡ false =
    sym used ∙ subst (λ x. is_some (at h chan x) ≡ false) same_id
    (subst (λ x. is_some (at h x i) ≡ false) same_chan unused) in
    absurd cc
unused-id false n chan i id h is unused used = refl

stays-at : (start : SwitchStart) (h : List Step) (s : Step) (c k : ℕ) (place : Port) → IsLegal start (s ∷ h)
    → port h c k ≡ Some place → is_leg c k (at h place.chan place.id) ≡ true → is_ended_by_us (s ∷ h) c k ≡ false
    → is_ended_outside (s ∷ h) c k ≡ false →
    is_leg c k (at (s ∷ h) place.chan place.id) ≡ true
stays-at start h (OpenCircuit n i reply keys pad (Opened m)) c k place legal lies here ours outside =
    let unused = or-first (is_some (at h n.0 i)) _ (opened-fits start h n.0 i keys m legal.0.1).unused in
    rw (unused-id _ n.0 place.chan i place.id h refl unused (leg-some c k (at h place.chan place.id) here)) here
stays-at start h (DialDone order outcome (DialAnswer.Up n)) c k place legal lies here ours outside =
    let given = at-given start h legal.1 place.chan place.id (leg-some c k (at h place.chan place.id) here) in
    rw (link-untaken h outcome n.0 place.chan place.id (linked-over start h order outcome n legal) given) here
stays-at start h (NextCell n tick (Some cell)) c k place legal lies here ours outside =
    for-leg c k h n cell place.chan place.id (is_ended_by_us h c k) _ refl here ours
stays-at start h (Take n cell answer) c k place legal lies here ours outside =
    for-leg c k h n cell place.chan place.id (is_ended_outside h c k) _ refl here outside
stays-at start h (ChannelDown n BackAnswer.Settled) c k place legal lies here ours outside =
    down-leg c k h n.0 place (is_ended_outside h c k) _ refl lies here outside
stays-at start h s c k place legal lies here ours outside = here

before-ours : (h : List Step) (s : Step) (c k : ℕ) → is_ended_by_us (s ∷ h) c k ≡ false → is_ended_by_us h c k ≡ false
before-ours h (NextCell n tick (Some cell)) c k none = unless _ _ none
before-ours h s c k none = none

before-outside : (h : List Step) (s : Step) (c k : ℕ) → is_ended_outside (s ∷ h) c k ≡ false → is_ended_outside h c k ≡ false
before-outside h (Take n cell answer) c k none = unless _ _ none
before-outside h (ChannelDown n BackAnswer.Settled) c k none = unless _ _ none
before-outside h s c k none = none

-- as the step that makes it gives it one
same-place : {x y : Port} → ◌≡◌ {A = Option Port} (Some x) (Some y) → x ≡ y
same-place e = cc

new-at : (h : List Step) (s : Step) (c k : ℕ) (place : Port) → makes_leg h c k s ≡ true → port (s ∷ h) c k ≡ Some place
    → is_leg c k (at (s ∷ h) place.chan place.id) ≡ true
new-at h (OpenCircuit n i reply keys pad (Opened m)) c k place makes lies =
    let own : record { chan = n.0; id = i } ≡ place = same-place (rw makes at lies) in
    subst (λ (p : Port). is_leg c k (at (OpenCircuit n i reply keys pad (Opened m) ∷ h) p.chan p.id) ≡ true) own
    (rw (self_eq n.0, self_eq i) (ap (λ b. (m.0 == c) && b) (turned 0 k) ∙ makes))
new-at h (DialDone order outcome (DialAnswer.Up n)) c k place makes lies =
    let own : record { chan = n.0; id = next_given_id h n.0 } ≡ place = same-place (rw makes at lies) in
    subst (λ (p : Port). is_leg c k (at (DialDone order outcome (DialAnswer.Up n) ∷ h) p.chan p.id) ≡ true) own
    (rw (self_eq n.0, self_eq (next_given_id h n.0)) (link-same (order.circ.0 == c) h order.circ.0 c k refl ∙ makes))
new-at h s c k place makes lies = absurd cc

at-by : (start : SwitchStart) (h : List Step) (s : Step) (c k : ℕ) (place : Port) (b : Bool) → makes_leg h c k s ≡ b
    → IsLegal start (s ∷ h) → (port h c k ≡ Some place → is_leg c k (at h place.chan place.id) ≡ true)
    → port (s ∷ h) c k ≡ Some place →
    is_ended_by_us (s ∷ h) c k ≡ false → is_ended_outside (s ∷ h) c k ≡ false → is_leg c k (at (s ∷ h) place.chan place.id) ≡ true
at-by start h s c k place true makes legal before lies ours outside = new-at h s c k place makes lies
at-by start h s c k place false makes legal before lies ours outside =
    let was = sym (port-before h s c k makes) ∙ lies in
    stays-at start h s c k place legal was (before was) ours outside

pub has_its_id : (start : SwitchStart) (h : List Step) → IsLegal start h → (c k : ℕ) (place : Port) → port h c k ≡ Some place
    → is_ended_by_us h c k ≡ false → is_ended_outside h c k ≡ false → is_leg c k (at h place.chan place.id) ≡ true
has_its_id start [] legal c k place lies ours outside = absurd cc
has_its_id start (s ∷ h) legal c k place lies ours outside =
    at-by start h s c k place _ refl legal
    (λ was. has_its_id start h legal.1 c k place was (before-ours h s c k ours) (before-outside h s c k outside)) lies ours
    outside

-- and a live channel
down-live : (b : Bool) (x : Option Leg) (y : Option Channel) → (is_some x ≡ true → is_some y ≡ true)
    → is_some (if b then None else x) ≡ true → is_some (if b then None else y) ≡ true
down-live true x y before is = absurd cc
down-live false x y before is = before is

opened-live : (b d : Bool) (n chan : ℕ) (leg : Leg) (x : Option Leg) (h : List Step) → (n == chan) ≡ b
    → is_live_channel h n ≡ true → (is_some x ≡ true → is_live_channel h chan ≡ true)
    → is_some (if b && d then Some leg else x) ≡ true → is_live_channel h chan ≡ true
opened-live true d n chan leg x h is up before some = subst (λ m. is_live_channel h m ≡ true) (same-number n chan is) up
opened-live false d n chan leg x h is up before some = before some

linked-live : (b d : Bool) (leg : Leg) (x : Option Leg) (channel : Channel) (y : Option Channel)
    → (is_some x ≡ true → is_some y ≡ true) → is_some (if b && d then Some leg else x) ≡ true
    → is_some (if b then Some channel else y) ≡ true
linked-live true d leg x channel y before some = refl
linked-live false d leg x channel y before some = before some

pub at_live_channel : (start : SwitchStart) (h : List Step) → IsLegal start h → (chan id : ℕ) → is_some (at h chan id) ≡ true
    → is_live_channel h chan ≡ true
at_live_channel start [] legal chan id is = absurd cc
at_live_channel start (ChannelUp slot side (UpAnswer.Up n) ∷ h) legal chan id is =
    some-if (n.0 == chan) _ (channel_at h chan) (at_live_channel start h legal.1 chan id is)
at_live_channel start (OpenCircuit n i reply keys pad (Opened m) ∷ h) legal chan id is =
    opened-live (n.0 == chan) (i == id) n.0 chan _ (at h chan id) h refl (opened-fits start h n.0 i keys m legal.0.1).channel
    (at_live_channel start h legal.1 chan id) is
at_live_channel start (DialDone order (DialOutcome.Opened slot) (DialAnswer.Up n) ∷ h) legal chan id is =
    linked-live (n.0 == chan) (next_given_id h chan == id) _ (at h chan id) _ (channel_at h chan)
    (at_live_channel start h legal.1 chan id) is
at_live_channel start (DialDone order (DialOutcome.Over over) (DialAnswer.Up n) ∷ h) legal chan id is =
    opened-live (n.0 == chan) (next_given_id h chan == id) n.0 chan _ (at h chan id) h refl
    (some-live (channel_at h n.0) (linked-over start h order (DialOutcome.Over over) n legal))
    (at_live_channel start h legal.1 chan id) is
at_live_channel start (DialDone order DialOutcome.Failed (DialAnswer.Up n) ∷ h) legal chan id is =
    absurd (linked-over start h order DialOutcome.Failed n legal)
at_live_channel start (NextCell n tick (Some cell) ∷ h) legal chan id is =
    at_live_channel start h legal.1 chan id (was-some (is_destroy_for n cell chan id) (at h chan id) is)
at_live_channel start (Take n cell answer ∷ h) legal chan id is =
    at_live_channel start h legal.1 chan id (was-some (is_destroy_for n cell chan id) (at h chan id) is)
at_live_channel start (ChannelDown n BackAnswer.Settled ∷ h) legal chan id is =
    down-live (n.0 == chan) (at h chan id) (channel_at h chan) (at_live_channel start h legal.1 chan id) is
at_live_channel start (s ∷ h) legal chan id is = at_live_channel start h legal.1 chan id is
