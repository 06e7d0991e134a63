-- What the kept legs mean.
use Rattle.std.proofs.Common.{◌≡◌, ℕ, ◌-◌, ◌≤◌, Bool, true, false, cond, List, map, Option, Some, None, refl, sym, ap, ◌∙◌}
use Rattle.std.proofs.lemmas.Map.Made.{lookup-map_values}
use Rattle.std.specs.FinMap as finite
use Rattle.std.specs.Map.{lookup}
use Rattle.std.specs.Option.{option_map}
use Rattle.hashed_maps.specs.Pairs.{pair_cmp, pair_eq}
use Rattle.hashed_maps.proofs.Keys.{pair_keys, agrees_back}
use Rattle.hashed_maps.proofs.Entries.{get-entries}
use Rattle.ewma_sched.specs.declared.legs.CountedLeg.{CountedLeg}
use Rattle.ewma_sched.specs.Legs.{LegName, ScheduledLeg, SchedState, leg_at, with_leg, without_leg, halved_leg, at_tick}
use Rattle.ewma_sched.specs.Tables.{Becomes, Legs, leg_in, state_of, states}
use Rattle.ewma_sched.proofs.Halving.{halved_from}

-- a leg's name is found where the map of the same entries has it
found_by_name : {X : Type 0} (leg : LegName) (es : List (LegName × X))
    → finite.find pair_cmp leg es ≡ lookup (pair_eq leg) es
found_by_name leg es = sym (finite.get-from_entries pair_keys.total es leg) ∙ get-entries pair_keys es leg

-- the state of a leg

pub states_at : (legs : Legs) (tick : ℕ) (leg : LegName)
    → leg_at (states legs tick) leg ≡ option_map (state_of tick) (leg_in legs leg)
unfolding states
states_at legs tick leg =
    let es = map (λ (e : LegName × CountedLeg). (e.0, state_of tick e.1)) legs in
    get-entries pair_keys es leg
    ∙ lookup-map_values (state_of tick) (pair_eq leg) legs

pub ticked_at : (s : SchedState) (tick : ℕ) (leg : LegName)
    → leg_at (at_tick s tick) leg ≡ option_map (halved_leg (tick - s.tick)) (leg_at s leg)
unfolding at_tick
ticked_at s tick leg =
    let es = finite.entries s.legs in
    let halve = halved_leg (tick - s.tick) in
    let halved_es = map (λ (e : LegName × ScheduledLeg). (e.0, halve e.1)) es in
    get-entries pair_keys halved_es leg
    ∙ lookup-map_values halve (pair_eq leg) es
    ∙ ap (option_map halve) (sym (found_by_name leg es) ∙ sym (finite.get-entries s.legs leg))

pub same_state : (s t : SchedState) → s.tick ≡ t.tick → ((leg : LegName) → leg_at s leg ≡ leg_at t leg) → s ≡ t
same_state s t ticks legs =
    let same = finite.same_map pair_keys.total pair_keys.exact s.legs t.legs legs in
    λ i. record { legs = same i; tick = ticks i }

halved_later : (now tick : ℕ) (o : Option CountedLeg) → now ≤ tick → ((x : CountedLeg) → o ≡ Some x → x.count.tick ≤ now)
    → option_map (state_of tick) o ≡ option_map (halved_leg (tick - now)) (option_map (state_of now) o)
halved_later now tick None le ticks = refl
halved_later now tick (Some x) le ticks =
    let count = sym (halved_from x.count.value x.count.tick now tick (ticks x refl) le) in
    λ i. Some (record { chan = x.chan; count = count i; has_cells = x.has_cells })

-- what the kept legs mean at a later tick
pub later_at : (legs : Legs) (now tick : ℕ) (leg : LegName) → now ≤ tick
    → ((name : LegName) (x : CountedLeg) → leg_in legs name ≡ Some x → x.count.tick ≤ now)
    → leg_at (at_tick (states legs now) tick) leg ≡ option_map (state_of tick) (leg_in legs leg)
unfolding states
later_at legs now tick leg le ticks =
    ticked_at (states legs now) tick leg
    ∙ ap (option_map (halved_leg (tick - now))) (states_at legs now leg)
    ∙ sym (halved_later now tick (leg_in legs leg) le (ticks leg))

mapped_cond : {A B : Type 0} (f : A → B) (b : Bool) (x y : Option A)
    → option_map f (cond b x y) ≡ cond b (option_map f x) (option_map f y)
mapped_cond f true x y = refl
mapped_cond f false x y = refl

module _ (old new : Legs) (now : ℕ) where
  pub same_states : ((leg : LegName) → leg_in new leg ≡ leg_in old leg) → states new now ≡ states old now
  unfolding states
  same_states same =
      same_state (states new now) (states old now) refl (λ leg.
      states_at new now leg ∙ ap (option_map (state_of now)) (same leg) ∙ sym (states_at old now leg))

  pub leg_gone : (leg : LegName) → Becomes old new leg None → states new now ≡ without_leg (states old now) leg
  unfolding states
  leg_gone leg gone =
      same_state (states new now) (without_leg (states old now) leg) refl (λ other.
      states_at new now other
      ∙ ap (option_map (state_of now)) (gone other)
      ∙ mapped_cond (state_of now) (pair_eq leg other) None (leg_in old other)
      ∙ sym (finite.get-remove pair_keys.total (states old now).legs leg other
      ∙ ap (λ b. cond {A = Option ScheduledLeg} b None (leg_at (states old now) other)) (sym (agrees_back pair_keys leg other))
      ∙ ap (λ o. cond {A = Option ScheduledLeg} (pair_eq leg other) None o) (states_at old now other)))

  pub leg_changed : (leg : LegName) (x : CountedLeg) → Becomes old new leg (Some x)
      → states new now ≡ with_leg (states old now) leg (state_of now x)
  unfolding states
  leg_changed leg x changed =
      same_state (states new now) (with_leg (states old now) leg (state_of now x)) refl (λ other.
      states_at new now other
      ∙ ap (option_map (state_of now)) (changed other)
      ∙ mapped_cond (state_of now) (pair_eq leg other) (Some x) (leg_in old other)
      ∙ sym (finite.get-insert pair_keys.total (states old now).legs leg (state_of now x) other
      ∙ ap (λ b. cond {A = Option ScheduledLeg} b (Some (state_of now x)) (leg_at (states old now) other))
      (sym (agrees_back pair_keys leg other))
      ∙ ap (λ o. cond {A = Option ScheduledLeg} (pair_eq leg other) (Some (state_of now x)) o) (states_at old now other)))

  module _ (tick : ℕ) (le : now ≤ tick)
      (ticks : (name : LegName) (x : CountedLeg) → leg_in old name ≡ Some x → x.count.tick ≤ now) where
    pub same_later : ((leg : LegName) → leg_in new leg ≡ leg_in old leg) → states new tick ≡ at_tick (states old now) tick
    unfolding states at_tick
    same_later same =
        same_state (states new tick) (at_tick (states old now) tick) refl (λ leg.
        states_at new tick leg ∙ ap (option_map (state_of tick)) (same leg) ∙ sym (later_at old now tick leg le ticks))

    pub changed_later : (leg : LegName) (x : CountedLeg) → Becomes old new leg (Some x)
        → states new tick ≡ with_leg (at_tick (states old now) tick) leg (state_of tick x)
    unfolding states at_tick
    changed_later leg x changed =
        let s = at_tick (states old now) tick in
        same_state (states new tick) (with_leg s leg (state_of tick x)) refl (λ other.
        states_at new tick other
        ∙ ap (option_map (state_of tick)) (changed other)
        ∙ mapped_cond (state_of tick) (pair_eq leg other) (Some x) (leg_in old other)
        ∙ sym (finite.get-insert pair_keys.total s.legs leg (state_of tick x) other
        ∙ ap (λ b. cond {A = Option ScheduledLeg} b (Some (state_of tick x)) (leg_at s other))
        (sym (agrees_back pair_keys leg other))
        ∙ ap (λ o. cond {A = Option ScheduledLeg} (pair_eq leg other) (Some (state_of tick x)) o)
        (later_at old now tick other le ticks)))

-- a leg that has a state is kept
pub kept_leg : (tick : ℕ) (o : Option CountedLeg) (y : ScheduledLeg) → option_map (state_of tick) o ≡ Some y
    → (x : CountedLeg) × (o ≡ Some x) × (state_of tick x ≡ y)
kept_leg tick None y is = absurd (let never : ⊥ = cc in never)
kept_leg tick (Some x) y is = (x, refl, cc)
