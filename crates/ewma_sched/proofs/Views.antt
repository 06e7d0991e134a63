-- What the calls mean for the states of the legs.
use Rattle.std.proofs.Common.{◌≡◌, ℕ, ◌-◌, ◌≤◌, Bool, false, cond, [], Option, Some, None, refl, sym, ap, ◌∙◌, subst, inl, inr, arith}
use Rattle.std.proofs.lemmas.Bool.{cases_Bool}
use Rattle.std.specs.FinMap as finite
use Rattle.std.specs.Option.{option_map, is_some}
use Rattle.hashed_maps.specs.Pairs.{pair_eq}
use Rattle.hashed_maps.proofs.Keys.{pair_keys, same_key, eq-itself}
use Rattle.ewma_sched.specs.declared.legs.CountedLeg.{CountedLeg}
use Rattle.ewma_sched.specs.Counts.{halved}
use Rattle.ewma_sched.specs.Legs.{LegName, ScheduledLeg, SchedState, leg_at, with_leg, without_leg, at_tick, new_leg, with_leg_by, with_leg_as, charged_leg, queued_leg, IsNext, NoneWaits, IsServedFirst}
use Rattle.ewma_sched.specs.Tables.{Legs, leg_in, state_of, states, queued_as, charged_at, Becomes, Changes, SameLegs, Charges, IsFirst, NoneWaitsOn}
use Rattle.ewma_sched.proofs.Halving.{halved_none}
use Rattle.ewma_sched.proofs.States.{states_at, later_at, same_states, leg_gone, leg_changed, same_later, changed_later, kept_leg}

abbrev pub CountedBy : Legs → ℕ → Type 0
CountedBy legs now = (leg : LegName) (x : CountedLeg) → leg_in legs leg ≡ Some x → x.count.tick ≤ now

pub tick_of : (legs : Legs) (tick : ℕ) (s : SchedState) → states legs tick ≡ s → tick ≡ s.tick
unfolding states
tick_of legs tick s is = ap (λ t. t.tick) is

pub states_tick : (legs : Legs) (tick : ℕ) → (states legs tick).tick ≡ tick
unfolding states
states_tick legs tick = refl

pub no_legs : (legs : Legs) (tick : ℕ) → legs ≡ [] → tick ≡ 0 → states legs tick ≡ record { legs = finite.empty; tick = 0 }
unfolding states
no_legs legs tick none zero = ap (λ l. states l tick) none ∙ ap (states []) zero

pub states_same : (legs legs' : Legs) (tick tick' : ℕ) → legs' ≡ legs → tick' ≡ tick → states legs' tick' ≡ states legs tick
states_same legs legs' tick tick' same ticks = ap (λ l. states l tick') same ∙ ap (states legs) ticks

-- a leg that joins, through the room that was taken and the leg of its name that is gone
pub joined_view : (old roomy gone new : Legs) (now tick chan : ℕ) (leg : LegName) → now ≤ tick → CountedBy old now
    → SameLegs old roomy → Becomes roomy gone leg None
    → Changes gone new leg None (Some (record { chan = chan; count = record { value = 0; tick = tick }; has_cells = false }))
    → states new tick ≡ with_leg (at_tick (states old now) tick) leg (new_leg chan)
joined_view old roomy gone new now tick chan leg le ticks same left put =
    let x : CountedLeg = record { chan = chan; count = record { value = 0; tick = tick }; has_cells = false } in
    let becomes : Becomes old new leg (Some x)
    = λ other.
    elim (cases_Bool (pair_eq leg other)) [
      | inl named ↦
          put.after other ∙ ap (λ b. cond {A = Option CountedLeg} b (Some x) (leg_in gone other)) named
          ∙ sym (ap (λ b. cond {A = Option CountedLeg} b (Some x) (leg_in old other)) named)
      | inr apart ↦
          put.after other ∙ ap (λ b. cond {A = Option CountedLeg} b (Some x) (leg_in gone other)) apart
          ∙ left other ∙ ap (λ b. cond {A = Option CountedLeg} b None (leg_in roomy other)) apart
          ∙ same.legs other
          ∙ sym (ap (λ b. cond {A = Option CountedLeg} b (Some x) (leg_in old other)) apart)
    ] in
    let none : tick - tick ≡ 0 = omega arith in
    let zero : halved 0 (tick - tick) ≡ 0 = halved_none 0 (tick - tick) none in
    changed_later old new now tick le ticks leg x becomes
    ∙ ap (λ n. with_leg (at_tick (states old now) tick) leg (record { chan = chan; count = n; has_cells = false })) zero

-- a leg that is gone, through a change of what it has queued
pub left_view : (old new : Legs) (now : ℕ) (leg : LegName) → Becomes old new leg None
    → states new now ≡ without_leg (states old now) leg
left_view old new now leg gone = leg_gone old new now leg gone

queued_by : (old new : Legs) (now : ℕ) (leg : LegName) (some : Bool) (o : Option CountedLeg) → leg_in old leg ≡ o
    → Becomes old new leg (option_map (queued_as some) o)
    → states new now ≡ with_leg_as (queued_leg some) (states old now) leg (option_map (state_of now) o)
queued_by old new now leg some None there becomes =
    same_states old new now (λ other.
    elim (cases_Bool (pair_eq leg other)) [
      | inl named ↦
          becomes other ∙ ap (λ b. cond {A = Option CountedLeg} b None (leg_in old other)) named
          ∙ sym there ∙ ap (leg_in old) (same_key pair_keys leg other named)
      | inr apart ↦ becomes other ∙ ap (λ b. cond {A = Option CountedLeg} b None (leg_in old other)) apart
    ])
queued_by old new now leg some (Some x) there becomes = leg_changed old new now leg (queued_as some x) becomes

pub queued_view : (old new : Legs) (now : ℕ) (leg : LegName) (some : Bool)
    → Becomes old new leg (option_map (queued_as some) (leg_in old leg))
    → states new now ≡ with_leg_by (queued_leg some) (states old now) leg
queued_view old new now leg some becomes =
    queued_by old new now leg some (leg_in old leg) refl becomes
    ∙ ap (with_leg_as (queued_leg some) (states old now) leg) (sym (states_at old now leg))

module _ (old : Legs) (now tick : ℕ) (le : now ≤ tick) (ticks : CountedBy old now) where
  there_later : (leg : LegName) (x : CountedLeg) → leg_in old leg ≡ Some x
      → leg_at (at_tick (states old now) tick) leg ≡ Some (state_of tick x)
  there_later leg x there = later_at old now tick leg le ticks ∙ ap (option_map (state_of tick)) there

  pub charged_view : (new : Legs) (leg : LegName) → Charges old new tick leg
      → states new tick ≡ with_leg_by charged_leg (at_tick (states old now) tick) leg
  charged_view new leg charges =
      let x = charges.state in
      let s = at_tick (states old now) tick in
      let none : tick - tick ≡ 0 = omega arith in
      let count = (charged_at tick x).count.value in
      let same : halved count (tick - tick) ≡ count = halved_none count (tick - tick) none in
      changed_later old new now tick le ticks leg (charged_at tick x) charges.change.after
      ∙ ap (λ n. with_leg s leg (record { chan = x.chan; count = n; has_cells = x.has_cells })) same
      ∙ ap (with_leg_as charged_leg s leg) (sym (there_later leg x charges.change.before))

  pub next_view : (chan : ℕ) (leg : LegName) → IsFirst old tick chan leg → IsNext (at_tick (states old now) tick) chan leg
  next_view chan leg first =
      record {
        state = state_of tick first.state;
        there = there_later leg first.state first.there;
        waits = record { chan = first.waits.chan; has_cells = first.waits.has_cells };
        first = λ other y there waits.
            let table = kept_leg tick (leg_in old other) y (sym (later_at old now tick other le ticks) ∙ there) in
            let x = table.0 in
            subst (λ z. IsServedFirst leg (state_of tick first.state) other z) table.2
            (first.first other x table.1
            (record {
              chan = ap (λ z. z.chan) table.2 ∙ waits.chan;
              has_cells =
                  ap (λ z. z.has_cells) table.2 ∙ waits.has_cells;
            }));
      }

  pub count_view : (leg : LegName) (x : CountedLeg) → leg_in old leg ≡ Some x
      → option_map (λ y. y.count) (leg_at (at_tick (states old now) tick) leg)
      ≡ Some (halved x.count.value (tick - x.count.tick))
  count_view leg x there = ap (option_map (λ (y : ScheduledLeg). y.count)) (there_later leg x there)

  pub same_view : (new : Legs) → SameLegs old new → states new tick ≡ at_tick (states old now) tick
  same_view new same = same_later old new now tick le ticks same.legs

pub none_view : (old : Legs) (now chan : ℕ) → NoneWaitsOn old chan → NoneWaits (states old now) chan
none_view old now chan none leg y there waits =
    let table = kept_leg now (leg_in old leg) y (sym (states_at old now leg) ∙ there) in
    none leg table.0 table.1
    (record { chan = ap (λ z. z.chan) table.2 ∙ waits.chan; has_cells = ap (λ z. z.has_cells) table.2 ∙ waits.has_cells })

-- a leg that is there is kept
pub kept_there : (old : Legs) (now : ℕ) (leg : LegName)
    → is_some (leg_at (states old now) leg) ≡ is_some (leg_in old leg)
kept_there old now leg = ap is_some (states_at old now leg) ∙ mapped_some (leg_in old leg) where
  mapped_some : (o : Option CountedLeg) → is_some (option_map (state_of now) o) ≡ is_some o
  mapped_some None = refl
  mapped_some (Some x) = refl

pub gone_itself : (old new : Legs) (leg : LegName) → Becomes old new leg None → leg_in new leg ≡ None
gone_itself old new leg gone =
    gone leg ∙ ap (λ b. cond {A = Option CountedLeg} b None (leg_in old leg)) (eq-itself pair_keys leg)
