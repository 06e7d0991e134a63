-- In a legal history no DESTROY waits at a CircID of a leg of a live circuit.
use Rattle.std.proofs.Common.{◌≡◌, ℕ, ◌+◌, ◌<◌, ◌≤◌, ◌==◌, ◌&&◌, Bool, true, false, not, nat_le, nat_lt, if◌then◌else◌, is_some, is_none, List, [], ◌∷◌, Option, Some, None, refl, sym, ◌∙◌, subst, arith, zero, suc}
use Rattle.std.specs.Prelude.{Contains}
use Rattle.std.specs.List.{AllByRecursion, list_any}
use Rattle.std.proofs.lemmas.Bool.Decides.{nat_tests}
use Rattle.circuit_model.specs.Rules.{Rules}
use Rattle.kdf_tor.specs.declared.LayerKeys.{LayerKeys}
use Rattle.tr_io.specs.declared.answers.BackAnswer.{BackAnswer}
use Rattle.tr_io.specs.declared.answers.DialAnswer.{DialAnswer}
use Rattle.tr_io.specs.declared.answers.OpenAnswer.TheVariants.{Opened, Refused}
use Rattle.tr_io.specs.declared.answers.OpenRefusal.{OpenRefusal}
use Rattle.tr_io.specs.declared.dials.DialOutcome.{DialOutcome}
use Rattle.tr_io.specs.declared.names.CircNo.{CircNo}
use Rattle.tr_io.specs.declared.names.Dir.TheVariants.{Forth}
use Rattle.tr_io.specs.declared.step.Step.{Step}
use Rattle.tr_io.specs.declared.step.Step.TheVariants.{ChannelDown, OpenCircuit, Take, NextCell, DialDone}
use Rattle.switch_model.specs.Start.{SwitchStart}
use Rattle.switch_model.specs.Names.{Leg, is_leg, circ_no}
use Rattle.switch_model.specs.History.Channels.{channels, channel_at, is_live_channel, opened_by_us, next_given_id}
use Rattle.switch_model.specs.History.Legs.{circuits, at, is_destroy_for}
use Rattle.switch_model.specs.History.Circuit.{is_live_circuit}
use Rattle.switch_model.specs.Waiting.Lanes.{Destroy, refusal_reason, lane}
use Rattle.switch_model.specs.Answers.OpenCircuit.{is_in_use, is_peers_id, live_circuits, open_answer}
use Rattle.switch_model.specs.Legal.{IsLegal}
use Rattle.switch_model.proofs.Common.{and-first, same-number, or-first, or-second, all-then, all-two, all-any}
use Rattle.switch_model.proofs.Unopened.{opened-number, not-yet, stays-torn}
use Rattle.switch_model.proofs.Ported.{none-leg}
use Rattle.switch_model.proofs.StaysTorn.{not-opened}
use Rattle.switch_model.proofs.GivenIds.{IsGiven, IsLinkedOver, opened-fits, linked-over, dial-live, given-stays, peers-given}
use Rattle.switch_model.proofs.LegIds.{takes_id, at-given}
use Rattle.switch_model.proofs.LaneStays.{Refuses, lane-all}

-- an opening that is refused by a DESTROY is at a CircID that isn't in use
pub record IsOwed (live used peers ours : Bool) : Type 0 where
  pub channel : live ≡ true
  pub unused : used ≡ false
  pub side : ours ≡ true → peers ≡ true

bad-owed : (ours : Bool) (id : ℕ) (b : Bool) → (id == 0) ≡ b → is_some (refusal_reason ours id OpenRefusal.BadId) ≡ true
    → (ours ≡ false) × (b ≡ false)
bad-owed true id b is owed = absurd cc
bad-owed false id true is owed = let no : false ≡ true = rw is at owed in absurd cc
bad-owed false id false is owed = (refl, refl)

owed-by : (live zero_id used peers keyless full ours : Bool) (id : ℕ) (m : CircNo) (limit : ℕ) (why : OpenRefusal)
    → (id == 0) ≡ zero_id → is_some (refusal_reason ours id why) ≡ true →
    Refused why ≡ (if not live then Refused OpenRefusal.NoChannel else if zero_id then Refused OpenRefusal.BadId else if used
    then Refused OpenRefusal.InUse else if not peers then Refused OpenRefusal.BadId
    else if keyless then Refused OpenRefusal.BadHandshake else if full then Refused (OpenRefusal.Full limit) else Opened m)
    → IsOwed live used peers ours
owed-by false zero_id used peers keyless full ours id m limit OpenRefusal.NoChannel zero_is owed is = absurd cc
owed-by false zero_id used peers keyless full ours id m limit why zero_is owed is = absurd cc
owed-by true true used peers keyless full ours id m limit OpenRefusal.BadId zero_is owed is = let no =
    (bad-owed ours id true zero_is owed).1 in absurd cc
owed-by true true used peers keyless full ours id m limit why zero_is owed is = absurd cc
owed-by true false true peers keyless full ours id m limit OpenRefusal.InUse zero_is owed is = absurd cc
owed-by true false true peers keyless full ours id m limit why zero_is owed is = absurd cc
owed-by true false false false keyless full ours id m limit OpenRefusal.BadId zero_is owed is =
    let other = (bad-owed ours id false zero_is owed).0 in
    record { channel = refl; unused = refl; side = λ own. let no : false ≡ true = sym other ∙ own in absurd cc }
owed-by true false false false keyless full ours id m limit why zero_is owed is = absurd cc
owed-by true false false true keyless full ours id m limit why zero_is owed is =
    record { channel = refl; unused = refl; side = λ own. refl }

refused-owed : (start : SwitchStart) (h : List Step) (chan id : ℕ) (keys : Option LayerKeys) (why : OpenRefusal)
    → is_some (refusal_reason (opened_by_us (channel_at h chan)) id why) ≡ true → Refused why ≡ open_answer start h chan id keys →
    IsOwed (is_live_channel h chan) (is_in_use start.rules h chan id) (is_peers_id (channel_at h chan) id)
    (opened_by_us (channel_at h chan))
refused-owed start h chan id keys why owed is =
    owed-by (is_live_channel h chan) (id == 0) (is_in_use start.rules h chan id) (is_peers_id (channel_at h chan) id)
    (is_none keys) (nat_le start.circuits (live_circuits start.rules h)) (opened_by_us (channel_at h chan)) id
    (circ_no (circuits h)) start.circuits why refl owed is

-- the CircIDs of a lane were given out
refused-given : (start : SwitchStart) (h : List Step) (s : Step) (chan : ℕ) (d : Destroy) → IsLegal start (s ∷ h)
    → Refuses h s chan d → IsGiven (s ∷ h) chan d.id
refused-given start h (OpenCircuit n id reply keys pad (Refused why)) chan d legal refused =
    let owed = refused-owed start h n.0 id keys why refused.owed legal.0.1 in
    let given : IsGiven h n.0 id = peers-given start h legal.1 n.0 id owed.channel owed.side in
    given-stays start h (OpenCircuit n id reply keys pad (Refused why)) chan d.id legal
    (subst (λ x. IsGiven h chan x) (sym refused.same_id) (subst (λ x. IsGiven h x id) refused.channel given))
refused-given start h s chan d legal refused = absurd refused

pub leg-some : (c k : ℕ) (x : Option Leg) → is_leg c k x ≡ true → is_some x ≡ true
leg-some c k (Some leg) is = refl
leg-some c k None is = absurd cc

lane-given : (start : SwitchStart) (h : List Step) → IsLegal start h → (chan : ℕ)
    → AllByRecursion (λ d. IsGiven h chan d.id) (lane start.rules h chan)
lane-given start [] legal chan = tt
lane-given start (s ∷ h) legal chan =
    lane-all start.rules h s chan (λ d. IsGiven (s ∷ h) chan d.id)
    (all-then (λ d. IsGiven h chan d.id) (λ d. IsGiven (s ∷ h) chan d.id) (λ d given. given-stays start h s chan d.id legal given)
    (lane start.rules h chan) (lane-given start h legal.1 chan))
    (λ d refused. refused-given start h s chan d legal refused)
    (λ d torn. at-given start (s ∷ h) legal chan d.id (leg-some torn.circ torn.leg (at (s ∷ h) chan d.id) torn.named))

-- so no step gives a leg one of them
not-any : (id : ℕ) (xs : List Destroy) → list_any (λ d. d.id == id) xs ≡ false → AllByRecursion (λ d. (d.id == id) ≡ false) xs
not-any id [] none = tt
not-any id (d ∷ xs) none = (
  or-first (d.id == id) (list_any (λ d. d.id == id) xs) none,
  not-any id xs (or-second (d.id == id) (list_any (λ d. d.id == id) xs) none),
)

untaken : (b : Bool) (i id : ℕ) → (id == i) ≡ false → (b && (i == id)) ≡ false
untaken true i id other = grind (arith, nat_tests)
untaken false i id other = refl

opened-untaken : (start : SwitchStart) (h : List Step) (n chan i : ℕ) (b : Bool) → (n == chan) ≡ b
    → is_in_use start.rules h n i ≡ false → AllByRecursion (λ d. ((n == chan) && (i == d.id)) ≡ false) (lane start.rules h chan)
opened-untaken start h n chan i true is unused =
    let none : list_any (λ d. d.id == i) (lane start.rules h chan) ≡ false =
    subst (λ x. list_any (λ d. d.id == i) (lane start.rules h x) ≡ false) (same-number n chan is)
    (or-second (is_some (at h n i)) _ unused) in
    all-then (λ d. (d.id == i) ≡ false) (λ d. ((n == chan) && (i == d.id)) ≡ false) (λ d other. untaken (n == chan) i d.id other)
    (lane start.rules h chan) (not-any i (lane start.rules h chan) none)
opened-untaken start h n chan i false is unused =
    all-any (λ d. ((n == chan) && (i == d.id)) ≡ false) (λ d. rw is refl) (lane start.rules h chan)

above : (b : Bool) (n id : ℕ) → id < n → (b && (n == id)) ≡ false
above true n id below = grind (arith, nat_tests)
above false n id below = refl

new-channel : (b : Bool) (n chan m id : ℕ) (next : ℕ) → (n == chan) ≡ b → n ≡ m → chan < m → (b && (next == id)) ≡ false
new-channel true n chan m id next is number up = let same = same-number n chan is in absurd (omega (arith, same, number, up))
new-channel false n chan m id next is number up = refl

over-channel : (h : List Step) (b : Bool) (n chan id : ℕ) → (n == chan) ≡ b → opened_by_us (channel_at h n) ≡ true
    → IsGiven h chan id → (b && (next_given_id h chan == id)) ≡ false
over-channel h true n chan id is ours given =
    above true (next_given_id h chan) id
    (given.below (subst (λ x. opened_by_us (channel_at h x) ≡ true) (same-number n chan is) ours))
over-channel h false n chan id is ours given = refl

pub link-untaken : (h : List Step) (outcome : DialOutcome) (n chan id : ℕ) → IsLinkedOver h outcome n → IsGiven h chan id
    → ((n == chan) && (next_given_id h chan == id)) ≡ false
link-untaken h (DialOutcome.Opened slot) n chan id linked given =
    new-channel (n == chan) n chan (channels h) id (next_given_id h chan) refl linked given.up
link-untaken h (DialOutcome.Over over) n chan id linked given = over-channel h (n == chan) n chan id refl linked given
link-untaken h DialOutcome.Failed n chan id linked given = absurd linked

lane-untaken : (start : SwitchStart) (h : List Step) (s : Step) (chan : ℕ) → IsLegal start (s ∷ h)
    → AllByRecursion (λ d. takes_id h s chan d.id ≡ false) (lane start.rules h chan)
lane-untaken start h (OpenCircuit n i reply keys pad (Opened c)) chan legal =
    opened-untaken start h n.0 chan i (n.0 == chan) refl (opened-fits start h n.0 i keys c legal.0.1).unused
lane-untaken start h (DialDone order outcome (DialAnswer.Up n)) chan legal =
    all-then (λ d. IsGiven h chan d.id) (λ d. ((n.0 == chan) && (next_given_id h chan == d.id)) ≡ false)
    (λ d given. link-untaken h outcome n.0 chan d.id (linked-over start h order outcome n legal) given)
    (lane start.rules h chan) (lane-given start h legal.1 chan)
lane-untaken start h s chan legal = all-any (λ d. false ≡ false) (λ d. refl) (lane start.rules h chan)

-- a leg that a step gives no CircID had its before
was-at : (h : List Step) (s : Step) (c k chan id : ℕ) → takes_id h s chan id ≡ false → is_leg c k (at (s ∷ h) chan id) ≡ true
    → is_leg c k (at h chan id) ≡ true
was-at h (OpenCircuit n i reply keys pad (Opened m)) c k chan id none is = rw none at is
was-at h (DialDone order outcome (DialAnswer.Up n)) c k chan id none is = rw none at is
was-at h (NextCell n tick (Some cell)) c k chan id none is = none-leg c k (is_destroy_for n cell chan id) (at h chan id) is
was-at h (Take n cell answer) c k chan id none is = none-leg c k (is_destroy_for n cell chan id) (at h chan id) is
was-at h (ChannelDown n BackAnswer.Settled) c k chan id none is = none-leg c k (n.0 == chan) (at h chan id) is
was-at h s c k chan id none is = is

-- legs are of circuits that were opened
opened-or : (c k m count : ℕ) (b : Bool) (lk : ℕ) (x : Option Leg) → (m ≡ c → c < count) → (is_leg c k x ≡ true → c < count)
    → is_leg c k (if b then Some (record { circ = m; number = lk }) else x) ≡ true → c < count
opened-or c k m count true lk x here there is = here (same-number m c (and-first (m == c) _ is))
opened-or c k m count false lk x here there is = there is

live-opened : (start : SwitchStart) (h : List Step) (c : ℕ) (b : Bool) → IsLegal start h → nat_lt c (circuits h) ≡ b
    → is_live_circuit start.rules h c ≡ true → c < circuits h
live-opened start h c true legal is alive = grind (arith, nat_tests)
live-opened start h c false legal is alive =
    let beyond : circuits h ≤ c = grind (arith, nat_tests) in
    let no : true ≡ false = sym alive ∙ (not-yet start h legal c Forth beyond).torn in
    absurd cc

pub leg-opened : (start : SwitchStart) (h : List Step) → IsLegal start h → (c k chan id : ℕ) → is_leg c k (at h chan id) ≡ true
    → c < circuits h
leg-opened start [] legal c k chan id is = absurd cc
leg-opened start (OpenCircuit n i reply keys pad (Opened m) ∷ h) legal c k chan id is =
    let number = opened-number start h n.0 i keys m legal.0.1 in
    opened-or c k m.0 (circuits h + 1) ((n.0 == chan) && (i == id)) 0 (at h chan id) (λ same. omega (arith, same, number))
    (λ was. let before = leg-opened start h legal.1 c k chan id was in omega (arith, before)) is
leg-opened start (DialDone order outcome (DialAnswer.Up n) ∷ h) legal c k chan id is =
    let alive = dial-live start h order outcome n legal in
    opened-or c k order.circ.0 (circuits h) ((n.0 == chan) && (next_given_id h chan == id)) _ (at h chan id)
    (λ same. live-opened start h c _ legal.1 refl (subst (λ x. is_live_circuit start.rules h x ≡ true) same alive))
    (leg-opened start h legal.1 c k chan id) is
leg-opened start (NextCell n tick (Some cell) ∷ h) legal c k chan id is =
    leg-opened start h legal.1 c k chan id (none-leg c k (is_destroy_for n cell chan id) (at h chan id) is)
leg-opened start (Take n cell answer ∷ h) legal c k chan id is =
    leg-opened start h legal.1 c k chan id (none-leg c k (is_destroy_for n cell chan id) (at h chan id) is)
leg-opened start (ChannelDown n BackAnswer.Settled ∷ h) legal c k chan id is =
    leg-opened start h legal.1 c k chan id (none-leg c k (n.0 == chan) (at h chan id) is)
leg-opened start (s ∷ h) legal c k chan id is = leg-opened start h legal.1 c k chan id is

-- a DESTROY that waits is for no leg of a live circuit
abbrev pub IsApart : Rules → List Step → ℕ → Destroy → Type 0
IsApart rules h chan d = (c k : ℕ) → is_leg c k (at h chan d.id) ≡ true → is_live_circuit rules h c ≡ false

stays-apart : (start : SwitchStart) (h : List Step) (s : Step) (chan : ℕ) → IsLegal start (s ∷ h) → (d : Destroy)
    → IsApart start.rules h chan d → takes_id h s chan d.id ≡ false → IsApart start.rules (s ∷ h) chan d
stays-apart start h s chan legal d apart none c k is =
    let was = was-at h s c k chan d.id none is in
    stays-torn start.rules h s c _ refl (not-opened start h s c legal (leg-opened start h legal.1 c k chan d.id was))
    (apart c k was)

none-some : (c k : ℕ) (x : Option Leg) → is_some x ≡ false → is_leg c k x ≡ true → ⊥
none-some c k (Some leg) none is = cc
none-some c k None none is = cc

refused-apart : (start : SwitchStart) (h : List Step) (s : Step) (chan : ℕ) (d : Destroy) → IsLegal start (s ∷ h)
    → Refuses h s chan d → IsApart start.rules (s ∷ h) chan d
refused-apart start h (OpenCircuit n id reply keys pad (Refused why)) chan d legal refused c k is =
    let owed = refused-owed start h n.0 id keys why refused.owed legal.0.1 in
    let none : is_some (at h n.0 id) ≡ false = or-first (is_some (at h n.0 id)) _ owed.unused in
    absurd (none-some c k (at h chan d.id)
    (subst (λ x. is_some (at h chan x) ≡ false) (sym refused.same_id)
    (subst (λ x. is_some (at h x id) ≡ false) refused.channel none)) is)
refused-apart start h s chan d legal refused c k is = absurd refused

same-circuit : (c k lc lk : ℕ) (x : Option Leg) → is_leg lc lk x ≡ true → is_leg c k x ≡ true → lc ≡ c
same-circuit c k lc lk (Some leg) one other =
    sym (same-number leg.circ lc (and-first (leg.circ == lc) _ one)) ∙ same-number leg.circ c (and-first (leg.circ == c) _ other)
same-circuit c k lc lk None one other = absurd cc

pub apart : (start : SwitchStart) (h : List Step) → IsLegal start h → (chan : ℕ)
    → AllByRecursion (IsApart start.rules h chan) (lane start.rules h chan)
apart start [] legal chan = tt
apart start (s ∷ h) legal chan =
    lane-all start.rules h s chan (IsApart start.rules (s ∷ h) chan)
    (all-two (IsApart start.rules h chan) (λ d. takes_id h s chan d.id ≡ false) (IsApart start.rules (s ∷ h) chan)
    (stays-apart start h s chan legal) (lane start.rules h chan) (apart start h legal.1 chan)
    (lane-untaken start h s chan legal))
    (λ d refused. refused-apart start h s chan d legal refused)
    (λ d torn c k is. subst (λ x. is_live_circuit start.rules (s ∷ h) x ≡ false)
    (same-circuit c k torn.circ torn.leg (at (s ∷ h) chan d.id) torn.named is) torn.torn)

all-contains : (P : Destroy → Type 0) (xs : List Destroy) → AllByRecursion P xs → (d : Destroy) → Contains xs d → P d
all-contains P [] all d (k, below, is) = absurd (omega (arith, below))
all-contains P (x ∷ xs) all d (zero, below, is) = subst P is all.0
all-contains P (x ∷ xs) all d (suc k, below, is) = all-contains P xs all.1 d (k, omega (arith, below), is)

pub waiting_destroy_apart : (start : SwitchStart) (h : List Step) (chan c k : ℕ) (d : Destroy) → IsLegal start h
    → Contains (lane start.rules h chan) d → is_leg c k (at h chan d.id) ≡ true → is_live_circuit start.rules h c ≡ false
waiting_destroy_apart start h chan c k d legal waits is =
    all-contains (IsApart start.rules h chan) (lane start.rules h chan) (apart start h legal chan) d waits c k is
