-- A circuit that is torn down, group by group.
use Rattle.std.proofs.Common.{◌≡◌, ℕ, ◌+◌, ◌==◌, ◌||◌, ◌<◌, Bool, true, false, if◌then◌else◌, is_some, List, [], ◌∷◌, ◌++◌, length, Option, Some, None, option_map, refl, ◌∙◌, ap, subst, arith, inl, inr, zero, suc}
use Rattle.std.proofs.lemmas.Bool.Decides.{eqb_tells}
use Rattle.std.proofs.lemmas.List.{append-nil}
use Rattle.std.specs.List.{list_any}
use Rattle.circuit_model.specs.Events.{CircuitCell}
use Rattle.tr_io.specs.declared.step.Step.{Step}
use Rattle.switch_model.specs.Names.{Leg}
use Rattle.switch_model.specs.History.Legs.{Port, port, holds_id}
use Rattle.switch_model.specs.Waiting.Lanes.{Destroy, leg_reason, destroy_at, leg_destroys}
use Rattle.switch_machine.specs.State.{ChannelState, LegState, CircuitState, State, slot_at, with_slot}
use Rattle.switch_machine.specs.Machine.{leg_at, leg_in, has_port, dial_at, dial_in}
use Rattle.switch_machine.specs.Calls.TearDown.{destroy_of, destroys_of, with_lanes}
use Rattle.switch_machine.specs.Stands.Channels.{ChannelPast, ChannelAt, ChannelsStand}
use Rattle.switch_machine.specs.Stands.OneLeg.{LegBy}
use Rattle.switch_machine.specs.Stands.CircIds.{IsUsed, CircIdsStand}
use Rattle.switch_machine.specs.Stands.Legs.{LiesOn}
use Rattle.switch_machine.specs.Stands.Counts.{CountAt, CountsStand}
use Rattle.switch_model.proofs.Common.{and-first, and-second}
use Rattle.switch_machine.proofs.Slots.{slot_at-with, slot_at-inside, or-true}

-- the legs of the circuit

pub old-leg : (s : State) (c : ℕ) (x : CircuitState) → slot_at s.circuits c ≡ Some x → (leg : Leg) → leg.circ ≡ c
    → leg_in s leg ≡ slot_at x.legs leg.number
old-leg s c x found leg here = rw (here, found) refl

pub gone-leg : (s : State) (c : ℕ) (x : CircuitState) → slot_at s.circuits c ≡ Some x → (leg : Leg)
    → leg_at (slot_at (with_slot s.circuits c None) leg.circ) leg.number ≡ (if leg.circ == c then None else leg_in s leg)
gone-leg s c x found leg = elim (eqb_tells leg.circ c) [
  | inl (is, here) ↦ rw (slot_at-with s.circuits c None leg.circ (slot_at-inside s.circuits c x found), is) refl
  | inr (is, other) ↦ rw (slot_at-with s.circuits c None leg.circ (slot_at-inside s.circuits c x found), is) refl
]

pub gone-dial : (s : State) (c : ℕ) (x : CircuitState) → slot_at s.circuits c ≡ Some x → (d : ℕ)
    → dial_at (slot_at (with_slot s.circuits c None) d) ≡ (if d == c then None else dial_in s d)
gone-dial s c x found d = elim (eqb_tells d c) [
  | inl (is, here) ↦ rw (slot_at-with s.circuits c None d (slot_at-inside s.circuits c x found), is) refl
  | inr (is, other) ↦ rw (slot_at-with s.circuits c None d (slot_at-inside s.circuits c x found), is) refl
]

pub port-inside : (slots : List (Option LegState)) (chan id k : ℕ) (y : Option LegState) → slot_at slots k ≡ y
    → has_port chan id y ≡ true → k < length slots
port-inside slots chan id k None found has = absurd cc
port-inside slots chan id k (Some leg) found has = slot_at-inside slots k leg found

destroy-off : (y : Option LegState) (chan reason : ℕ) → ((leg : LegState) → y ≡ Some leg → (leg.chan == chan) ≡ false)
    → destroy_of chan reason y ≡ []
destroy-off None chan reason off = refl
destroy-off (Some leg) chan reason off = rw (off leg refl) refl

pub none-put : (slots : List (Option LegState)) (chan : ℕ) (current : Option ℕ) (reason : ℕ)
    → ((k : ℕ) (y : LegState) → slot_at slots k ≡ Some y → (y.chan == chan) ≡ false) → (n : ℕ)
    → destroys_of slots chan current reason n ≡ []
none-put slots chan current reason off zero = refl
none-put slots chan current reason off (suc k) =
    rw (none-put slots chan current reason off k) (destroy-off (slot_at slots k) chan (leg_reason current reason k) (off k))

-- the DESTROYs that are put are those of the history
destroy-one : (y : Option LegState) (chan reason : ℕ) (sent may_leave : List CircuitCell) (lies : Option Port) (has_id : Bool)
    → LegBy y sent may_leave lies has_id →
    destroy_of chan reason y ≡ (if has_id then destroy_at chan reason lies else [])
destroy-one None chan reason sent may_leave lies has_id own = rw own refl
destroy-one (Some leg) chan reason sent may_leave lies has_id own = rw (own.holds, own.port) refl

pub destroys-said : (legs : List (Option LegState)) (before after : List Step) (c chan : ℕ) (current : Option ℕ) (reason : ℕ)
    (sent may_leave : ℕ → List CircuitCell) →
    ((k : ℕ) → LegBy (slot_at legs k) (sent k) (may_leave k) (port before c k) (holds_id after c k)) → (n : ℕ) →
    destroys_of legs chan current reason n ≡ leg_destroys before after c chan current reason n
destroys-said legs before after c chan current reason sent may_leave own zero = refl
destroys-said legs before after c chan current reason sent may_leave own (suc k) =
    rw (
      destroys-said legs before after c chan current reason sent may_leave own k,
      destroy-one (slot_at legs k) chan (leg_reason current reason k) (sent k) (may_leave k) (port before c k)
          (holds_id after c k) (own k),
    ) refl

-- channels
abbrev pub with_lane : ℕ → (ℕ → List Destroy) → ChannelState → ChannelState
with_lane n put channel = record channel { lane = channel.lane ++ put n }

slot_at-lanes : (put : ℕ → List Destroy) (n : ℕ) (channels : List (Option ChannelState)) (m : ℕ)
    → slot_at (with_lanes put n channels) m ≡ option_map (with_lane (n + m) put) (slot_at channels m)
unfolding slot_at
slot_at-lanes put n [] m = refl
slot_at-lanes put n (None ∷ channels) zero = refl
slot_at-lanes put n (Some channel ∷ channels) zero = let e : n + 0 ≡ n = omega arith in rw e refl
slot_at-lanes put n (None ∷ channels) (suc m) = let e : n + suc m ≡ n + 1 + m =
    omega arith in rw e (slot_at-lanes put (n + 1) channels m)
slot_at-lanes put n (Some channel ∷ channels) (suc m) = let e : n + suc m ≡ n + 1 + m =
    omega arith in rw e (slot_at-lanes put (n + 1) channels m)

pub length-lanes : (put : ℕ → List Destroy) (n : ℕ) (channels : List (Option ChannelState))
    → length (with_lanes put n channels) ≡ length channels
length-lanes put n [] = refl
length-lanes put n (None ∷ channels) = ap suc (length-lanes put (n + 1) channels)
length-lanes put n (Some channel ∷ channels) = ap suc (length-lanes put (n + 1) channels)

some-mapped : (x : Option ChannelState) (put : ℕ → List Destroy) (n : ℕ) → is_some x ≡ true
    → is_some (option_map (with_lane n put) x) ≡ true
some-mapped (Some x) put n some = refl
some-mapped None put n some = absurd cc

pub lies-lanes : (slots : List (Option ChannelState)) (put : ℕ → List Destroy) (leg : Option LegState) → LiesOn slots leg
    → LiesOn (with_lanes put 0 slots) leg
lies-lanes slots put None lies = tt
lies-lanes slots put (Some leg) lies =
    rw (slot_at-lanes put 0 slots leg.chan) (some-mapped (slot_at slots leg.chan) put (0 + leg.chan) lies)

channel-torn : (x : Option ChannelState) (p : ChannelPast) (put : ℕ → List Destroy) (n : ℕ) → (x ≡ None → put n ≡ [])
    → ChannelAt x p →
    ChannelAt (option_map (with_lane n put) x) (record p { lane = p.lane ++ put n })
channel-torn None p put n none at = record { channel = at.channel; lane = rw (none refl) (append-nil p.lane ∙ at.lane) }
channel-torn (Some x) p put n none at =
    record { channel = at.channel; given_count = at.given_count; lane = ap (λ l. l ++ put n) at.lane }

pub channels-torn : (slots : List (Option ChannelState)) (p q : ℕ → ChannelPast) (put : ℕ → List Destroy)
    → ((n : ℕ) → q n ≡ record (p n) { lane = (p n).lane ++ put n }) → ((n : ℕ) → slot_at slots n ≡ None → put n ≡ []) →
    ChannelsStand slots p → ChannelsStand (with_lanes put 0 slots) q
channels-torn slots p q put same none own = record {
  channel = λ n. let zero_more : 0 + n ≡ n =
      omega arith in
      rw (slot_at-lanes put 0 slots n, zero_more, same n) (channel-torn (slot_at slots n) (p n) put n (none n) (own.channel n));
  no_channel = λ n beyond. rw (same n) (own.no_channel n (omega (arith, beyond, length-lanes put 0 slots)));
}

any-after : (test : Destroy → Bool) (xs ys : List Destroy) → list_any test ys ≡ true → list_any test (xs ++ ys) ≡ true
any-after test [] ys some = some
any-after test (x ∷ xs) ys some = rw (any-after test xs ys some) (or-true (test x))

any-one : (b x y : Bool) → (b || x) ≡ true → (x ≡ true → y ≡ true) → (b || y) ≡ true
any-one true x y some more = refl
any-one false x y some more = more some

any-before : (test : Destroy → Bool) (xs ys : List Destroy) → list_any test xs ≡ true → list_any test (xs ++ ys) ≡ true
any-before test [] ys some = absurd cc
any-before test (x ∷ xs) ys some = any-one (test x) (list_any test xs) (list_any test (xs ++ ys)) some (any-before test xs ys)

used-torn : (legs more : Leg → Option LegState) (lane put : List Destroy) (c chan id : ℕ) (x : Option Leg)
    → ((leg : Leg) → more leg ≡ (if leg.circ == c then None else legs leg)) →
    ((leg : Leg) → leg.circ ≡ c → has_port chan id (legs leg) ≡ true → list_any (λ d. d.id == id) put ≡ true)
    → IsUsed legs lane chan id x → IsUsed more (lane ++ put) chan id x
used-torn legs more lane put c chan id None gone waits used = tt
used-torn legs more lane put c chan id (Some leg) gone waits (inr some) = inr (any-before (λ d. d.id == id) lane put some)
used-torn legs more lane put c chan id (Some leg) gone waits (inl has) = elim (eqb_tells leg.circ c) [
  | inl (is, same) ↦ inr (any-after (λ d. d.id == id) lane put (waits leg same has))
  | inr (is, other) ↦ inl (rw (gone leg, is) has)
]

-- CircIDs: the circuit has no legs any more, and the DESTROY of each that had its CircID waits
pub ids-torn : (legs more : Leg → Option LegState) (lanes put : ℕ → List Destroy) (at_id : ℕ → ℕ → Option Leg) (c : ℕ)
    → ((leg : Leg) → more leg ≡ (if leg.circ == c then None else legs leg)) →
    ((leg : Leg) (chan id : ℕ) → leg.circ ≡ c → has_port chan id (legs leg) ≡ true → list_any (λ d. d.id == id) (put chan) ≡ true)
    → CircIdsStand legs lanes at_id → CircIdsStand more (λ n. lanes n ++ put n) at_id
ids-torn legs more lanes put at_id c gone waits own =
    record {
      used =
          λ chan id. used-torn legs more (lanes chan) (put chan) c chan id (at_id chan id) gone (λ leg. waits leg chan id)
          (own.used chan id);
    }

pub count-if : (b : Bool) (y : Option LegState) (n now : ℕ) → CountAt y n now → CountAt (if b then None else y) n now
count-if true y n now own = tt
count-if false y n now own = own

pub counts-torn : (legs more : Leg → Option LegState) (count : ℕ → ℕ → ℕ) (now many c : ℕ)
    → ((leg : Leg) → more leg ≡ (if leg.circ == c then None else legs leg)) → CountsStand legs count now many
    → CountsStand more count now many
counts-torn legs more count now many c gone own =
    record { counts = λ leg. rw (gone leg) (count-if (leg.circ == c) (legs leg) _ now (own.counts leg)); no_count = own.no_count }

-- the DESTROYs that a circuit's legs put, by the state's legs

has-waits : (y : Option LegState) (chan id reason : ℕ) → has_port chan id y ≡ true
    → list_any (λ d. d.id == id) (destroy_of chan reason y) ≡ true
has-waits None chan id reason has = absurd cc
has-waits (Some leg) chan id reason has = rw (and-first (leg.chan == chan) _ has, and-second (leg.chan == chan) _ has) refl

pub put-waits : (slots : List (Option LegState)) (chan id : ℕ) (current : Option ℕ) (reason n k : ℕ) → k < n
    → has_port chan id (slot_at slots k) ≡ true → list_any (λ d. d.id == id) (destroys_of slots chan current reason n) ≡ true
put-waits slots chan id current reason zero k below has = absurd (omega (arith, below))
put-waits slots chan id current reason (suc n) k below has = elim (eqb_tells k n) [
  | inl (is, same) ↦ any-after (λ d. d.id == id) (destroys_of slots chan current reason n)
      (destroy_of chan (leg_reason current reason n) (slot_at slots n))
      (subst (λ i. list_any (λ d. d.id == id) (destroy_of chan (leg_reason current reason n) (slot_at slots i)) ≡ true) same
      (has-waits (slot_at slots k) chan id (leg_reason current reason n) has))
  | inr (is, other) ↦ any-before (λ d. d.id == id) (destroys_of slots chan current reason n)
      (destroy_of chan (leg_reason current reason n) (slot_at slots n))
      (put-waits slots chan id current reason n k (omega arith) has)
]
