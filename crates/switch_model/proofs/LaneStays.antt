-- What a step puts into a channel's lane: the DESTROY of an opening that it refuses, and those of the legs of
-- circuits that it tears down. The others were there before it.
use Rattle.std.proofs.Common.{◌≡◌, ℕ, ◌+◌, ◌==◌, Bool, true, false, not, nat_le, if◌then◌else◌, cond, is_some, List, [], ◌∷◌, drop, Option, Some, None, refl, sym, ◌∙◌, ap, subst, zero, suc}
use Rattle.std.specs.Prelude.{filter, count_by}
use Rattle.std.specs.List.{AllByRecursion}
use Rattle.circuit_model.specs.Rules.{Rules}
use Rattle.tr_io.specs.declared.answers.BackAnswer.{BackAnswer}
use Rattle.tr_io.specs.declared.answers.DialAnswer.{DialAnswer}
use Rattle.tr_io.specs.declared.answers.OpenAnswer.TheVariants.{Opened, Refused}
use Rattle.tr_io.specs.declared.step.Step.{Step}
use Rattle.tr_io.specs.declared.step.Step.TheVariants.{ChannelDown, OpenCircuit, Take, NextCell, DialDone}
use Rattle.switch_model.specs.Limits.{refusal_limit}
use Rattle.switch_model.specs.Names.{is_leg}
use Rattle.switch_model.specs.History.Channels.{channel_at, opened_by_us}
use Rattle.switch_model.specs.History.Legs.{Port, port, circuits, hops, at, is_destroy_for, holds_id, holds_port}
use Rattle.switch_model.specs.History.Teardowns.{Teardown, NoTeardown, OneCircuit, OnChannel, teardown, reason_of}
use Rattle.switch_model.specs.History.Circuit.{is_live_circuit, opens, current_leg, lies_on}
use Rattle.switch_model.specs.Waiting.Queues.{circuit_log}
use Rattle.switch_model.specs.Waiting.Lanes.{Destroy, refusal_reason, with_refusal, lane_left, leg_reason, destroy_at, leg_destroys, circuit_destroys, all_destroys, with_torn, lane}
use Rattle.switch_model.proofs.Common.{self_eq, same-number, all-append}
use Rattle.switch_model.proofs.Ported.{makes_leg, port-before}

-- the DESTROY of an opening that a step refuses
pub record IsRefused (h : List Step) (n id : ℕ) (o : Option ℕ) (chan : ℕ) (d : Destroy) : Type 0 where
  pub channel : n ≡ chan
  pub same_id : d.id ≡ id
  pub owed : is_some o ≡ true

abbrev pub Refuses : List Step → Step → ℕ → Destroy → Type 0
Refuses h (OpenCircuit n id reply keys pad (Refused why)) chan d =
    IsRefused h n.0 id (refusal_reason (opened_by_us (channel_at h n.0)) id why) chan d
Refuses h s chan d = ⊥

-- the DESTROY of a leg of a circuit that isn't live any more
pub record IsOfTorn (rules : Rules) (h : List Step) (chan : ℕ) (d : Destroy) : Type 0 where
  pub circ : ℕ
  pub leg : ℕ
  pub named : is_leg circ leg (at h chan d.id) ≡ true
  pub torn : is_live_circuit rules h circ ≡ false

-- what stays
drop-all : (P : Destroy → Type 0) (xs : List Destroy) → AllByRecursion P xs → AllByRecursion P (drop 1 xs)
drop-all P [] all = tt
drop-all P (x ∷ xs) all = all.1

cond-all : (P : Destroy → Type 0) (b : Bool) (x : Destroy) (xs : List Destroy) → P x → AllByRecursion P xs
    → AllByRecursion P (cond b (x ∷ xs) xs)
cond-all P true x xs here all = (here, all)
cond-all P false x xs here all = all

filter-all : (P : Destroy → Type 0) (test : Destroy → Bool) (xs : List Destroy) → AllByRecursion P xs
    → AllByRecursion P (filter test xs)
filter-all P test [] all = tt
filter-all P test (x ∷ xs) all = cond-all P (test x) x (filter test xs) all.0 (filter-all P test xs all.1)

if-all : (P : Destroy → Type 0) (b : Bool) (xs ys : List Destroy) → AllByRecursion P xs → AllByRecursion P ys
    → AllByRecursion P (if b then xs else ys)
if-all P true xs ys one other = one
if-all P false xs ys one other = other

left-all : (P : Destroy → Type 0) (s : Step) (chan : ℕ) (xs : List Destroy) → AllByRecursion P xs
    → AllByRecursion P (lane_left s chan xs)
left-all P (NextCell n tick (Some cell)) chan xs all = if-all P (n.0 == chan) (drop 1 xs) xs (drop-all P xs all) all
left-all P (Take n cell answer) chan xs all = filter-all P (λ d. not (is_destroy_for n cell chan d.id)) xs all
left-all P (ChannelDown n BackAnswer.Settled) chan xs all = if-all P (n.0 == chan) [] xs tt all
left-all P s chan xs all = all

-- what a teardown puts
dead : (rules : Rules) (h : List Step) (s : Step) (c : ℕ) → opens c s ≡ false
    → is_some (reason_of c (λ chan. lies_on h c (circuit_log rules h c) chan) (teardown s)) ≡ true
    → is_live_circuit rules (s ∷ h) c ≡ false
dead rules h s c none some = rw (none, some) refl

abbrev FromTorn : Rules → List Step → ℕ → (Destroy → Type 0) → Type 0
FromTorn rules h chan P = (d : Destroy) → IsOfTorn rules h chan d → P d

place-all : (rules : Rules) (after : List Step) (c k chan reason : ℕ) (P : Destroy → Type 0) (place : Port) (b : Bool)
    → (place.chan == chan) ≡ b → is_live_circuit rules after c ≡ false → is_leg c k (at after place.chan place.id) ≡ true
    → FromTorn rules after chan P →
    AllByRecursion P (if b then record { id = place.id; reason = reason; refusal = false } ∷ [] else [])
place-all rules after c k chan reason P place true is torn named own = (
  own _ (record {
    circ = c;
    leg = k;
    named = subst (λ n. is_leg c k (at after n place.id) ≡ true) (same-number place.chan chan is) named;
    torn = torn;
  }),
  tt,
)
place-all rules after c k chan reason P place false is torn named own = tt

port-all : (rules : Rules) (after : List Step) (c k chan reason : ℕ) (P : Destroy → Type 0) (p : Option Port)
    → is_live_circuit rules after c ≡ false → holds_port after c k p ≡ true → FromTorn rules after chan P
    → AllByRecursion P (destroy_at chan reason p)
port-all rules after c k chan reason P (Some place) torn holds own =
    place-all rules after c k chan reason P place (place.chan == chan) refl torn holds own
port-all rules after c k chan reason P None torn holds own = tt

leg-all : (rules : Rules) (before after : List Step) (c k chan reason : ℕ) (P : Destroy → Type 0) (b : Bool)
    → holds_id after c k ≡ b → port after c k ≡ port before c k → is_live_circuit rules after c ≡ false
    → FromTorn rules after chan P →
    AllByRecursion P (if b then destroy_at chan reason (port before c k) else [])
leg-all rules before after c k chan reason P true holds same torn own =
    port-all rules after c k chan reason P (port before c k) torn (subst (λ p. holds_port after c k p ≡ true) same holds) own
leg-all rules before after c k chan reason P false holds same torn own = tt

legs-all : (rules : Rules) (before after : List Step) (c chan : ℕ) (current : Option ℕ) (reason n : ℕ) (P : Destroy → Type 0)
    → ((k : ℕ) → port after c k ≡ port before c k) → is_live_circuit rules after c ≡ false → FromTorn rules after chan P →
    AllByRecursion P (leg_destroys before after c chan current reason n)
legs-all rules before after c chan current reason zero P same torn own = tt
legs-all rules before after c chan current reason (suc k) P same torn own =
    all-append P (leg_destroys before after c chan current reason k) _
    (legs-all rules before after c chan current reason k P same torn own)
    (leg-all rules before after c k chan (leg_reason current reason k) P (holds_id after c k) refl (same k) torn own)

circuit-all : (rules : Rules) (before after : List Step) (c chan : ℕ) (o : Option ℕ) (P : Destroy → Type 0)
    → ((k : ℕ) → port after c k ≡ port before c k) → (is_some o ≡ true → is_live_circuit rules after c ≡ false)
    → FromTorn rules after chan P →
    AllByRecursion P (circuit_destroys rules before after c chan o)
circuit-all rules before after c chan None P same torn own = tt
circuit-all rules before after c chan (Some reason) P same torn own =
    if-all P (is_live_circuit rules before c) _ []
    (legs-all rules before after c chan (current_leg (circuit_log rules after c)) reason (hops before c + 1) P same
    (torn refl) own) tt

circuits-all : (rules : Rules) (h : List Step) (s : Step) (chan n : ℕ) (P : Destroy → Type 0)
    → ((c k : ℕ) → port (s ∷ h) c k ≡ port h c k) → ((c : ℕ) → opens c s ≡ false) → FromTorn rules (s ∷ h) chan P →
    AllByRecursion P (all_destroys rules h (s ∷ h) chan (teardown s) n)
circuits-all rules h s chan zero P same none own = tt
circuits-all rules h s chan (suc c) P same none own =
    all-append P (all_destroys rules h (s ∷ h) chan (teardown s) c) _ (circuits-all rules h s chan c P same none own)
    (circuit-all rules h (s ∷ h) c chan (reason_of c (lies_on h c (circuit_log rules h c)) (teardown s)) P (same c)
    (dead rules h s c (none c)) own)

-- a step that tears down neither opens nor links
abbrev is_torn : Teardown → Bool
is_torn NoTeardown = false
is_torn (OneCircuit c reason) = true
is_torn (OnChannel n) = true

makes-none : (h : List Step) (s : Step) (c k : ℕ) → is_torn (teardown s) ≡ true → makes_leg h c k s ≡ false
makes-none h (OpenCircuit chan id reply keys pad (Opened n)) c k tears = absurd cc
makes-none h (DialDone order outcome (DialAnswer.Up n)) c k tears = absurd cc
makes-none h s c k tears = refl

opens-none : (s : Step) → is_torn (teardown s) ≡ true → (c : ℕ) → opens c s ≡ false
opens-none (OpenCircuit chan id reply keys pad (Opened n)) tears c = absurd cc
opens-none s tears c = refl

torn-all : (rules : Rules) (h : List Step) (s : Step) (chan : ℕ) (P : Destroy → Type 0) (t : Teardown) (xs : List Destroy)
    → teardown s ≡ t → AllByRecursion P xs → FromTorn rules (s ∷ h) chan P
    → AllByRecursion P (with_torn rules h (s ∷ h) chan t xs)
torn-all rules h s chan P NoTeardown xs is all own = all
torn-all rules h s chan P (OneCircuit c reason) xs is all own =
    let tears : is_torn (teardown s) ≡ true = ap is_torn is in
    all-append P xs _ all
    (circuit-all rules h (s ∷ h) c chan (Some reason) P (λ k. port-before h s c k (makes-none h s c k tears))
    (λ some. dead rules h s c (opens-none s tears c) (rw (is, self_eq c) refl)) own)
torn-all rules h s chan P (OnChannel n) xs is all own =
    let tears : is_torn (teardown s) ≡ true = ap is_torn is in
    all-append P xs _ all (subst (λ t. AllByRecursion P (all_destroys rules h (s ∷ h) chan t (circuits h))) is
    (circuits-all rules h s chan (circuits h) P (λ c k. port-before h s c k (makes-none h s c k tears)) (opens-none s tears) own))

-- what a refusal puts
refused-all : (P : Destroy → Type 0) (id : ℕ) (o : Option ℕ) (xs : List Destroy) → AllByRecursion P xs
    → ((d : Destroy) → d.id ≡ id → is_some o ≡ true → P d) → AllByRecursion P (with_refusal id o xs)
refused-all P id None xs all own = all
refused-all P id (Some reason) xs all own =
    if-all P (nat_le refusal_limit (count_by (λ d. d.refusal) xs)) xs _ all (all-append P xs _ all (own _ refl refl, tt))

refused-on : (P : Destroy → Type 0) (h : List Step) (b : Bool) (n chan id : ℕ) (o p : Option ℕ) (xs : List Destroy)
    → (n == chan) ≡ b → (n ≡ chan → p ≡ o) → AllByRecursion P xs → ((d : Destroy) → IsRefused h n id o chan d → P d) →
    AllByRecursion P (if b then with_refusal id p xs else xs)
refused-on P h true n chan id o p xs is same all own =
    let here = same-number n chan is in
    refused-all P id p xs all
    (λ d same_id owed. own d (record { channel = here; same_id = same_id; owed = ap is_some (sym (same here)) ∙ owed }))
refused-on P h false n chan id o p xs is same all own = all

pub lane-all : (rules : Rules) (h : List Step) (s : Step) (chan : ℕ) (P : Destroy → Type 0) → AllByRecursion P (lane rules h chan)
    → ((d : Destroy) → Refuses h s chan d → P d) → ((d : Destroy) → IsOfTorn rules (s ∷ h) chan d → P d) →
    AllByRecursion P (lane rules (s ∷ h) chan)
lane-all rules h (OpenCircuit n id reply keys pad (Refused why)) chan P all refused torn =
    refused-on P h (n.0 == chan) n.0 chan id (refusal_reason (opened_by_us (channel_at h n.0)) id why) _ (lane rules h chan) refl
    (λ same. ap (λ x. refusal_reason (opened_by_us (channel_at h x)) id why) (sym same)) all refused
lane-all rules h s chan P all refused torn =
    torn-all rules h s chan P (teardown s) (lane_left s chan (lane rules h chan)) refl (left-all P s chan (lane rules h chan) all)
    torn
