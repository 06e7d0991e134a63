-- What holds of a lock between any two atomic steps.
use Rattle.std.specs.Prelude.{◌≡◌, ℕ, ◌+◌, ◌*◌, ◌^◌, ◌<◌, ◌≤◌, true, List, [], ◌∷◌, length, sum_by, Option as Maybe}
use mathlib.Core.List.{IsPrefix}
use mathlib.Core.Option.{Option, none, some}
use lib.ListN.{get_elem?}
use Rattle.atomic_table.specs.Table.{State}
use Rattle.turn_lock.specs.declared.view.View.{View}
use Rattle.turn_lock.specs.Shares.{times_in, once_below}
use Rattle.turn_lock.specs.Views.{IsPlaced, StandsForHistory, IsLegal}

-- nobody has the turn; a pass has it, and the state is out of its slot; the lock is closed
pub data LockPhase : Type 0 where
  free : LockPhase
  out : LockPhase
  shut : LockPhase

-- the held bit
abbrev pub held_bit : LockPhase → ℕ
held_bit free = 0
held_bit out = 1
held_bit shut = 1

module _ {T E : Type 0} where
  -- Where the state is, where it is to stand for the history by `fits`: while nobody has the turn it lies in
  -- the slot, and so once the lock is closed; it is out exactly while a pass has the turn.
  abbrev pub IsHome : (T → List E → Type 0) → List E → LockPhase → List (Option T) → Type 0
  IsHome fits log out homes = homes ≡ none ∷ []
  IsHome fits log free homes = (t : T) × (homes ≡ some t ∷ []) × fits t log
  IsHome fits log shut homes = (t : T) × (homes ≡ some t ∷ []) × fits t log

  -- The view v of the seat j, where the seat `holder` has the turn if the state is out.
  pub record IsView (opening : Maybe T) (seats : ℕ) (log : List E) (phase : LockPhase) (holder j : ℕ) (v : View T E) : Type 0
    where
      -- a view that isn't spent carries the one start
      pub start : 0 < v.parts → (v.opening ≡ opening) × (v.seats ≡ seats)
      -- what was seen begins the history
      pub seen_is : IsPrefix v.seen log
      pub shorter_is : IsPrefix v.shorter v.seen
      -- the places of its shares lie below the length of what was seen
      pub placed : IsPlaced v
      -- one seat at most has the turn, one that isn't spent and has seen the whole history, and then the state is out
      pub turn : v.has_turn ≡ true → (phase ≡ out) × (j ≡ holder) × (v.seen ≡ log) × (0 < v.parts)
      pub closing : v.is_closed ≡ true → (phase ≡ shut) × (v.seen ≡ log) × (v.opening ≡ opening)
      -- a spent view has no part, no share and, by `turn`, not the turn
      pub spent : v.parts ≡ 0 → (p : ℕ) → times_in p v.shares ≡ 0

  -- All views. `parts` and `place_count` say how many parts, and how often each place, they have together.
  pub record AreViews (opening : Maybe T) (seats : ℕ) (log : List E) (phase : LockPhase) (holder : ℕ) (parts : ℕ)
      (place_count : ℕ → ℕ) (views : List (View T E)) : Type 0 where
    pub each : (j : ℕ) (v : View T E) → get_elem? views j ≡ some v → IsView opening seats log phase holder j v
    -- while the state is out, a seat has the turn
    pub holding : phase ≡ out → (v : View T E) × (get_elem? views holder ≡ some v) × (v.has_turn ≡ true)
    pub all_parts : sum_by (λ (v : View T E). v.parts) views ≡ parts
    pub all_places : (p : ℕ) → sum_by (λ (v : View T E). times_in p v.shares) views ≡ place_count p
    -- some view that isn't spent has seen the whole history
    pub whole : (j : ℕ) × (v : View T E) × (get_elem? views j ≡ some v) × (0 < v.parts) × (v.seen ≡ log)

module _ {T E B : Type 0} (stands : T → B → List E → Type 0) (legal : B → List E → Type 0) where
  -- The words and the slot.
  pub record IsStored (opening : Maybe T) (log : List E) (phase : LockPhase) (words : List ℕ) (homes : List (Option T)) : Type 0
    where
      -- the history is legal from the start
      pub legal_is : IsLegal stands legal opening log
      -- the count is the length of the history; `sleep_words` are the words that count and ring sleepers
      pub sleep_words : List ℕ
      pub count : words ≡ (2 * length log + held_bit phase) ∷ sleep_words
      pub small : length log ≤ 2 ^ 62
      pub room : phase ≡ out → length log < 2 ^ 62
      pub home : IsHome (StandsForHistory stands legal opening) log phase homes

  -- The rule: one history, for which the state stands; the parts are `seats` together; each place below the
  -- history's end is one own step of one pass.
  pub record IsOneHistory (opening : Maybe T) (seats : ℕ) (s : State T (View T E)) : Type 0 where
    pub log : List E
    pub phase : LockPhase
    pub holder : ℕ
    pub stored : IsStored opening log phase s.words s.homes
    pub viewed : AreViews opening seats log phase holder seats (λ p. once_below p (length log)) s.views
