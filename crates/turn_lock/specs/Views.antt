-- What a pass knows of its lock, and how it changes.
use Rattle.std.specs.Prelude.{◌≡◌, ℕ, ◌-◌, ◌+◌, ◌^◌, ◌<◌, ◌≤◌, nat_lt, Bool, true, false, if◌then◌else◌, List, [], ◌∷◌, ◌++◌, length, All, Option, Some, None, option_to_list}
use Rattle.std.specs.List.Sorted.{IsStrictlyIncreasing}
use mathlib.Core.List.{IsPrefix}
use Rattle.turn_lock.specs.declared.view.View.{View}
use Rattle.turn_lock.specs.Shares.{times_in, once_below, steps_at, steps_of_each, to_first}

module _ {E : Type 0} where
  -- the step of an answer that counts
  abbrev pub step_if : Bool → E → Option E
  step_if true e = Some e
  step_if false e = None

  -- the steps of each share after a step of the pass, where it counts: the first share has it too
  abbrev pub with_step : List (List E) → Option E → List (List E)
  with_step steps None = steps
  with_step steps (Some e) = to_first steps e

  abbrev pub longer : List E → List E → List E
  longer xs ys = if nat_lt (length xs) (length ys) then ys else xs

  abbrev pub shorter : List E → List E → List E
  shorter xs ys = if nat_lt (length xs) (length ys) then xs else ys

module _ {T E : Type 0} where
  -- the steps that were made with the pass, in the order of the history
  abbrev pub own_steps : View T E → List E
  own_steps v = steps_at v.shares 0 v.seen

  -- the steps of each of its shares
  abbrev pub steps_by_share : View T E → List (List E)
  steps_by_share v = steps_of_each v.shares v.seen

  -- the places of its steps lie in what it saw
  abbrev pub IsPlaced : View T E → Type 0
  IsPlaced v = (p : ℕ) → length v.seen ≤ p → times_in p v.shares ≡ 0

  -- and the places of each share rise
  abbrev pub IsRising : View T E → Type 0
  IsRising v = All IsStrictlyIncreasing v.shares

  abbrev pub HasAllParts : View T E → Type 0
  HasAllParts v = v.parts ≡ v.seats

  -- every place of what it saw is one of its own, once, and so its own steps are all steps
  pub record HasAllSteps (v : View T E) : Type 0 where
    pub places : (p : ℕ) → times_in p v.shares ≡ once_below p (length v.seen)
    pub steps : own_steps v ≡ v.seen

  -- the first pass of a lock
  abbrev pub opening_view : T → ℕ → View T E
  opening_view t seats =
      record {
        opening = Some t;
        seats = seats;
        seen = [];
        shorter = [];
        shares = [] ∷ [];
        parts = seats;
        has_turn =
            false;
        is_closed = false;
      }

  -- the history so far is seen
  abbrev pub caught_up : View T E → List E → View T E
  caught_up v log = record v { seen = log }

  -- the history so far is seen, and the turn taken
  abbrev pub with_turn : View T E → List E → View T E
  with_turn v log = record v { seen = log; has_turn = true }

  -- the turn is given back, after a step that counted or after none
  abbrev pub released : View T E → Option E → View T E
  released v None = record v { has_turn = false }
  released v (Some e) = record v { seen = v.seen ++ e ∷ []; shares = to_first v.shares (length v.seen); has_turn = false }

  -- one part goes to a new pass, which has seen as much and made no step
  abbrev pub one_part_less : View T E → View T E
  one_part_less v = record v { parts = v.parts - 1 }

  abbrev pub new_part : View T E → View T E
  new_part v =
      record {
        opening = v.opening;
        seats = v.seats;
        seen = v.seen;
        shorter = [];
        shares = [] ∷ [];
        parts = 1;
        has_turn =
            false;
        is_closed = false;
      }

  -- two passes become one
  abbrev pub joined : View T E → View T E → View T E
  joined v w =
      record v {
        seen = longer v.seen w.seen;
        shorter = shorter v.seen w.seen;
        shares = v.shares ++ w.shares;
        parts =
            v.parts + w.parts;
      }

  abbrev pub settled : View T E → View T E
  settled v = record v { shorter = [] }

  -- what is left of a pass that was joined to another
  abbrev pub spent_view : View T E
  spent_view =
      record { opening = None; seats = 0; seen = []; shorter = []; shares = []; parts = 0; has_turn = false; is_closed = false }

  -- the lock is closed
  abbrev pub closed : View T E → View T E
  closed v = record v { is_closed = true }

  abbrev pub witness : View T E → View T E
  witness v =
      record {
        opening = v.opening;
        seats = v.seats;
        seen = v.seen;
        shorter = [];
        shares = [];
        parts = 0;
        has_turn =
            false;
        is_closed = v.is_closed;
      }

module _ {T E B : Type 0} (stands : T → B → List E → Type 0) (legal : B → List E → Type 0) where
  -- the state that the lock began with stood for no step from the start b
  abbrev pub BeginsFrom : Option T → B → Type 0
  BeginsFrom None b = ⊥
  BeginsFrom (Some t) b = stands t b []

  -- the state stands for the steps, from each start that the lock may have begun from, and there is one
  abbrev pub StandsForHistory : Option T → T → List E → Type 0
  StandsForHistory opening t log = ((b : B) × BeginsFrom opening b) × ((b : B) → BeginsFrom opening b → stands t b log)

  -- the steps are legal from each start that the lock may have begun from
  abbrev pub IsLegal : Option T → List E → Type 0
  IsLegal opening log = (b : B) → BeginsFrom opening b → legal b log

  -- what a turn does to a pass: the history so far is seen, and its step added where it counts
  pub record Turned (v : View T E) (step : Option E) (w : View T E) : Type 0 where
    pub log : List E
    pub older : IsPrefix v.seen log
    pub room : length log < 2 ^ 62
    pub after : w ≡ released (with_turn v log) step
    pub legal_is : IsLegal v.opening w.seen
    pub mine : own_steps w ≡ own_steps v ++ option_to_list step
    pub by_share : steps_by_share w ≡ with_step (steps_by_share v) step

  -- what a look at the history does to a pass
  pub record CaughtUp (v w : View T E) : Type 0 where
    pub log : List E
    pub older : IsPrefix v.seen log
    pub after : w ≡ caught_up v log
    pub legal_is : IsLegal v.opening w.seen
    pub mine : own_steps w ≡ own_steps v
    pub by_share : steps_by_share w ≡ steps_by_share v
