-- Legs on which more cells wait: what a state stands for by its legs stays.
use Rattle.std.proofs.Common.{Bool, List, None, Option, Some, [], ap, append_assoc, arith, false, inl, inr, length, nat_lt, option_map, refl, subst, suc, sym, true, zero, ℕ, ◌++◌, ◌∙◌, ◌≡◌}
use Rattle.std.proofs.lemmas.Bool.Decides.{eqb_tells, nat_tests}
use Rattle.std.proofs.lemmas.List.{append-nil}
use Rattle.circuit_model.specs.Events.{CircuitCell}
use Rattle.switch_model.specs.Names.{Leg}
use Rattle.switch_model.specs.Waiting.Lanes.{Destroy}
use Rattle.switch_machine.proofs.Slots.{slot_at-inside, slot_at-outside, slot_at-with}
use Rattle.switch_machine.specs.Calls.Settling.{hop_queued, more_queued, queued_on}
use Rattle.switch_machine.specs.Machine.{has_port, leg_at, leg_in}
use Rattle.switch_machine.specs.Stands.CircIds.{CircIdsStand, IsUsed}
use Rattle.switch_machine.specs.Stands.Counts.{CountAt, CountsStand}
use Rattle.switch_machine.specs.Stands.Legs.{LegsStand, LiesOn}
use Rattle.switch_machine.specs.State.{ChannelState, CircuitState, LegState, State, slot_at, with_slot}

-- The leg, with some cells more if it has its CircID.
abbrev pub Grew : Option LegState → Option LegState → Type 0
Grew a b = (cells : List CircuitCell) × (b ≡ option_map (more_queued cells) a)

none-more : (y : Option LegState) → option_map (more_queued []) y ≡ y
none-more None = refl
none-more (Some leg) = ap (λ q. Some (record leg { queue = q })) (append-nil leg.queue)

pub grew-none : (y : Option LegState) → Grew y y
grew-none y = ([], sym (none-more y))

both-more : (y : Option LegState) (c d : List CircuitCell) →
    option_map (more_queued d) (option_map (more_queued c) y) ≡ option_map (more_queued (c ++ d)) y
both-more None c d = refl
both-more (Some leg) c d = ap (λ q. Some (record leg { queue = q })) (append_assoc leg.queue c d)

pub grew-both : (a b c : Option LegState) → Grew a b → Grew b c → Grew a c
grew-both a b c f g = (f.0 ++ g.0, g.1 ∙ ap (option_map (more_queued g.0)) f.1 ∙ both-more a f.0 g.0)

-- the legs of a circuit

queued-by : (legs : List (Option LegState)) (k : ℕ) (cells : List CircuitCell) (j : ℕ) (b : Bool) → nat_lt k (length legs) ≡ b →
    Grew (slot_at legs j) (slot_at (queued_on legs k cells) j)
queued-by legs k cells j true is = elim (eqb_tells j k) [
  | inl (here, same) ↦ (
    cells,
    slot_at-with legs k (option_map (more_queued cells) (slot_at legs k)) j (grind (arith, nat_tests)) ∙ rw (
      here,
      same,
    ) refl,
  )
  | inr (here, other) ↦ (
    [],
    slot_at-with legs k (option_map (more_queued cells) (slot_at legs k)) j (grind (arith, nat_tests)) ∙ rw here (sym
        (none-more (slot_at legs j))),
  )
]
queued-by legs k cells j false is = (
  [],
  slot_at-outside legs k (option_map (more_queued cells) (slot_at legs k)) j (grind (arith, nat_tests)) ∙ sym (none-more
      (slot_at legs j)),
)

pub hop-grew : (legs : List (Option LegState)) (n : ℕ) (cells : List CircuitCell) (j : ℕ) →
    Grew (slot_at legs j) (slot_at (hop_queued legs n cells) j)
hop-grew legs zero cells j = grew-none (slot_at legs j)
hop-grew legs (suc n) cells j = queued-by legs (suc n) cells j (nat_lt (suc n) (length legs)) refl

-- the legs of the switch, where those of one circuit grew
pub legs-grew : (s : State) (c : ℕ) (x y : CircuitState) → slot_at s.circuits c ≡ Some x →
    ((j : ℕ) → Grew (slot_at x.legs j) (slot_at y.legs j)) → (leg : Leg) →
    Grew (leg_in s leg) (leg_at (slot_at (with_slot s.circuits c (Some y)) leg.circ) leg.number)
legs-grew s c x y found grew leg = elim (eqb_tells leg.circ c) [
  | inl (is, here) ↦
      let old : leg_in s leg ≡ slot_at x.legs leg.number = rw (here, found) refl in
      rw (slot_at-with s.circuits c (Some y) leg.circ (slot_at-inside s.circuits c x found), is)
      (subst (λ a. Grew a (slot_at y.legs leg.number)) (sym old) (grew leg.number))
  | inr (is, other) ↦
      rw (slot_at-with s.circuits c (Some y) leg.circ (slot_at-inside s.circuits c x found), is) (grew-none (leg_in s leg))
]

-- CircIDs, counts and channels

pub port-grew : (chan id : ℕ) (a b : Option LegState) → Grew a b → has_port chan id a ≡ true → has_port chan id b ≡ true
port-grew chan id None b grew has = absurd cc
port-grew chan id (Some leg) b grew has = rw grew.1 has

pub used-alike : (legs more : Leg → Option LegState) (waits : List Destroy) (chan id : ℕ) (x : Option Leg) →
    ((leg : Leg) → has_port chan id (legs leg) ≡ true → has_port chan id (more leg) ≡ true) →
    IsUsed legs waits chan id x → IsUsed more waits chan id x
used-alike legs more waits chan id None same used = tt
used-alike legs more waits chan id (Some leg) same (inl has) = inl (same leg has)
used-alike legs more waits chan id (Some leg) same (inr some) = inr some

pub ids-grew : (f g : Leg → Option LegState) (lanes : ℕ → List Destroy) (at_id : ℕ → ℕ → Option Leg) →
    ((leg : Leg) → Grew (f leg) (g leg)) → CircIdsStand f lanes at_id → CircIdsStand g lanes at_id
ids-grew f g lanes at_id grew own = record {
  used = λ chan id. used-alike f g (lanes chan) chan id (at_id chan id)
      (λ leg. port-grew chan id (f leg) (g leg) (grew leg)) (own.used chan id);
}

count-grew : (a b : Option LegState) (n now : ℕ) → Grew a b → CountAt a n now → CountAt b n now
count-grew None b n now grew own = rw grew.1 tt
count-grew (Some leg) b n now grew own = rw grew.1 (record { since = own.since; count = own.count })

pub counts-grew : (f g : Leg → Option LegState) (count : ℕ → ℕ → ℕ) (now m n : ℕ) → ((leg : Leg) → Grew (f leg) (g leg)) →
    m ≡ n → CountsStand f count now n → CountsStand g count now m
counts-grew f g count now m n grew size own = record {
  counts = λ leg. count-grew (f leg) (g leg) (count leg.circ leg.number) now (grew leg) (own.counts leg);
  no_count = λ c k beyond. own.no_count c k (omega (arith, beyond, size));
}

lie-grew : (slots : List (Option ChannelState)) (a b : Option LegState) → Grew a b → LiesOn slots a → LiesOn slots b
lie-grew slots None b grew lies = rw grew.1 tt
lie-grew slots (Some leg) b grew lies = rw grew.1 lies

pub lies-grew : (slots : List (Option ChannelState)) (f g : Leg → Option LegState) → ((leg : Leg) → Grew (f leg) (g leg)) →
    LegsStand slots f → LegsStand slots g
lies-grew slots f g grew own = record { lie = λ leg. lie-grew slots (f leg) (g leg) (grew leg) (own.lie leg) }
