-- What each kind of atomic step tells the seat that makes it: m is the seat before, m' after, r the number that it found.
use Rattle.std.specs.Prelude.{◌≡◌, ◌≢◌, ℕ, ◌*◌, ◌/◌, ◌^◌, ◌≤◌, true, List, [], ◌∷◌, length, Option}
use mathlib.Core.List.{IsPrefix}
use Rattle.atomic_table.specs.Table.{Me, Step, rest}
use Rattle.turn_lock.specs.declared.view.View.{View}
use Rattle.turn_lock.specs.Shares.{times_in, once_below}
use Rattle.turn_lock.specs.Views.{HasAllParts, caught_up, with_turn, released, settled, closed, StandsForHistory, IsLegal}

module _ {T E : Type 0} where
  -- the turn was given back
  abbrev pub Gave : Option E → Me T (View T E) → Me T (View T E) → Type 0
  Gave step m m' = m' ≡ (released m.0 step, rest m.1)

  -- what one of the joined passes saw begins what the other saw, and no place is a step of both
  pub record Settled (m m' : Me T (View T E)) : Type 0 where
    pub after : m' ≡ (settled m.0, m.1)
    pub older : IsPrefix m.0.shorter m.0.seen
    pub once : (p : ℕ) → times_in p m.0.shares ≤ 1

  -- the lock was closed: the own steps are all steps
  pub record Closed (m m' : Me T (View T E)) : Type 0 where
    pub after : m' ≡ (closed m.0, m.1)
    pub places : (p : ℕ) → times_in p m.0.shares ≡ once_below p (length m.0.seen)

  -- the seat may have looked at the history
  pub record Looked (m m' : Me T (View T E)) : Type 0 where
    pub log : List E
    pub after : m' ≡ (caught_up m.0 log, m.1)
    pub older : IsPrefix m.0.seen log

module _ {T E B : Type 0} (stands : T → B → List E → Type 0) (legal : B → List E → Type 0) where
  -- the history so far was seen
  pub record Met (m : Me T (View T E)) (r : ℕ) (m' : Me T (View T E)) : Type 0 where
    pub log : List E
    pub after : m' ≡ (caught_up m.0 log, m.1)
    pub older : IsPrefix m.0.seen log
    pub count : r / 2 ≡ length log
    pub small : length log ≤ 2 ^ 62
    pub legal_is : IsLegal stands legal m.0.opening log
    pub places : HasAllParts m.0 → (p : ℕ) → times_in p m.0.shares ≡ once_below p (length log)

  -- the turn was taken, with the state
  pub record Took (m : Me T (View T E)) (r : ℕ) (m' : Me T (View T E)) : Type 0 where
    pub log : List E
    pub state : T
    pub after : m' ≡ (with_turn m.0 log, (0, state) ∷ [])
    pub older : IsPrefix m.0.seen log
    pub count : r ≡ 2 * length log
    pub stands_is : StandsForHistory stands legal m.0.opening state log

  -- the history was seen, and has all the steps that are counted
  pub record CaughtUpFull (m m' : Me T (View T E)) : Type 0 where
    pub log : List E
    pub after : m' ≡ (caught_up m.0 log, [])
    pub older : IsPrefix m.0.seen log
    pub full : length log ≡ 2 ^ 62
    pub legal_is : IsLegal stands legal m.0.opening log

  -- a compare and exchange takes the turn, and changes nothing where it finds another number
  pub record TookIf (st : Step T) (m : Me T (View T E)) (r : ℕ) (m' : Me T (View T E)) : Type 0 where
    pub missed : r ≢ st.first → m' ≡ m
    pub hit : r ≡ st.first → Took m r m'

  -- the turn is held, with a state that stands for the history
  pub record Holds (m : Me T (View T E)) : Type 0 where
    pub state : T
    pub slot : m ≡ (m.0, (0, state) ∷ [])
    pub turn : m.0.has_turn ≡ true
    pub stands_is : StandsForHistory stands legal m.0.opening state m.0.seen

  -- the step was made on the state, in place
  pub record Ran (m : Me T (View T E)) (step : Option E) (m' : Me T (View T E)) : Type 0 where
    pub state : T
    pub after : m' ≡ (m.0, (0, state) ∷ [])
    pub stands_is : StandsForHistory stands legal m.0.opening state (released m.0 step).seen

  -- the turn is held, with a state that stands for the history with the step added
  pub record Holding (step : Option E) (m : Me T (View T E)) : Type 0 where
    pub state : T
    pub slot : m.1 ≡ (0, state) ∷ []
    pub turn : m.0.has_turn ≡ true
    pub stands_is : StandsForHistory stands legal m.0.opening state (released m.0 step).seen
    pub legal_is : IsLegal stands legal m.0.opening (released m.0 step).seen
