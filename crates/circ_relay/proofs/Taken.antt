-- As many places of the state are taken as places of the log aren't freed: both lists have the same
-- serials, each once.
use Rattle.std.proofs.Common.{◌≡◌, ◌≢◌, ℕ, suc, ◌+◌, List, [], ◌∷◌, length, Bool, true, false, if◌then◌else◌, not, cond, Option, Some, None, refl, sym, ap, ◌∙◌, arith, nat_le, nat_lt, option_map, filter}
use Rattle.std.specs.Prelude.{position, is_some, is_none}
use Rattle.std.specs.List.{position_or_len}
use Rattle.std.proofs.lemmas.Option.{slice_get_within, get_or_from_slice_get, slice_get-get_or}
use Rattle.std.proofs.lemmas.List.Filters.{length-filter_both}
use Rattle.circuit_model.specs.Log.{Log, StreamKey}
use Rattle.circuit_model.specs.declared.places.Phase.{Phase}
use Rattle.circuit_model.specs.declared.places.Phase.TheVariants.{Reaching, Joined, Ending, Free}
use Rattle.circuit_model.specs.Places.{Place, places, phase, is_taken_phase, taken_places}
use Rattle.circuit_model.specs.Streams.{place_limit}
use Rattle.stream_edge.specs.declared.placed_stream.PlacedStream.{PlacedStream}
use Rattle.stream_edge.specs.PlacesState.{PlacesState, held_at}
use Rattle.stream_edge.specs.Streams.{is_free}
use Rattle.stream_edge.proofs.Holding.{taken_within}
use Rattle.circ_relay.specs.PlacesOfLog.{model_phase, taken_count, IsOfLog, IsHeld, ArePlaces, AreNamed}
use Rattle.circ_relay.proofs.Lists.{same_some}
use Rattle.circ_relay.proofs.Reports.{held_lasts}
use Rattle.circ_relay.proofs.NamedNumbers.{AreApart, IsNamed, length-named, same-count}

-- The serials of the state and those of the log.

abbrev serial_held : Option PlacedStream → Option ℕ
serial_held held = option_map (λ (h : PlacedStream). h.serial) held

abbrev serial_taken : Log → Place → Option ℕ
serial_taken log place = if is_taken_phase (phase log place.key.serial) then Some place.key.serial else None

-- What an element names.
record Names (held : Option PlacedStream) (n : ℕ) : Type 0 where
  stream : PlacedStream
  holds : held ≡ Some stream
  serial : stream.serial ≡ n

names-held : (held : Option PlacedStream) (n : ℕ) → serial_held held ≡ Some n → Names held n
names-held None n is = cc
names-held (Some h) n is = record { stream = h; holds = refl; serial = same_some h.serial n is }

names-taken : (b : Bool) (m n : ℕ) → (if b then Some m else None) ≡ Some n → (b ≡ true) × (m ≡ n)
names-taken true m n is = (refl, same_some m n is)
names-taken false m n is = cc

taken-not_free : (p : Phase) → is_taken_phase p ≡ true → p ≢ Free
taken-not_free Reaching is free = cc
taken-not_free Joined is free = cc
taken-not_free Ending is free = cc
taken-not_free Free is free = cc

not_free-taken : (p : Phase) → p ≢ Free → is_taken_phase p ≡ true
not_free-taken Reaching other = refl
not_free-taken Joined other = refl
not_free-taken Ending other = refl
not_free-taken Free other = absurd (other refl)

apart-held : (state : PlacesState) (log : Log) → ArePlaces state log → AreApart serial_held state.streams
apart-held state log are i j x y n got also is named =
    let one : Names x n = names-held x n is in
    let other : Names y n = names-held y n named in
    are.once i j one.stream other.stream
    (get_or_from_slice_get state.streams i x None got ∙ one.holds)
    (get_or_from_slice_get state.streams j y None also ∙ other.holds)
    (one.serial ∙ sym other.serial)

apart-taken : (log : Log) → AreNamed log → AreApart (serial_taken log) (places log)
apart-taken log named i j p q n got also is other =
    sym (named.numbered i p got) ∙ (names-taken (is_taken_phase (phase log p.key.serial)) p.key.serial n is).1
    ∙ sym (names-taken (is_taken_phase (phase log q.key.serial)) q.key.serial n other).1 ∙ named.numbered j q also

if-true : (b : Bool) (n : ℕ) → b ≡ true → (if b then Some n else None) ≡ Some n
if-true true n is = refl
if-true false n is = cc

held-taken : (state : PlacesState) (log : Log) → ArePlaces state log → (n : ℕ) → IsNamed serial_held state.streams n
    → IsNamed (serial_taken log) (places log) n
held-taken state log are n is =
    let named : Names is.element n = names-held is.element n is.names in
    let of_log : IsOfLog log named.stream =
    are.streams is.place named.stream (get_or_from_slice_get state.streams is.place is.element None is.got ∙ named.holds) in
    let serial : of_log.place.key.serial ≡ named.stream.serial = ap (λ (k : StreamKey). k.serial) of_log.key in
    record {
      place = named.stream.serial;
      element = of_log.place;
      got = of_log.found;
      names = if-true (is_taken_phase (phase log of_log.place.key.serial)) of_log.place.key.serial
          (ap (λ m. is_taken_phase (phase log m)) serial ∙ ap is_taken_phase of_log.phase
          ∙ not_free-taken (model_phase named.stream.phase) (held_lasts named.stream.phase))
          ∙ ap Some (serial ∙ named.serial);
    }

taken-held : (state : PlacesState) (log : Log) → ArePlaces state log → AreNamed log → (n : ℕ)
    → IsNamed (serial_taken log) (places log) n → IsNamed serial_held state.streams n
taken-held state log are named n is =
    let names = names-taken (is_taken_phase (phase log is.element.key.serial)) is.element.key.serial n is.names in
    let serial : is.element.key.serial ≡ is.place = named.numbered is.place is.element is.got in
    let kept : IsHeld state is.place = are.whole is.place (slice_get_within (places log) is.place is.element is.got)
    (taken-not_free (phase log is.place) (ap (λ m. is_taken_phase (phase log m)) (sym serial) ∙ names.0)) in
    record {
      place = kept.place;
      element = held_at state kept.place;
      got = slice_get-get_or state.streams kept.place None (taken_within state kept.place kept.stream kept.holds);
      names = ap serial_held kept.holds ∙ ap Some (kept.named ∙ sym serial ∙ names.1);
    }

tests-held : (held : Option PlacedStream) → is_some (serial_held held) ≡ not (is_free held)
tests-held None = refl
tests-held (Some h) = refl

tests-if : (b : Bool) (n : ℕ) → is_some (if b then Some n else None) ≡ b
tests-if true n = refl
tests-if false n = refl

pub taken_by_the_log : (state : PlacesState) (log : Log) → ArePlaces state log → AreNamed log
    → taken_count state ≡ taken_places log
unfolding taken_places
taken_by_the_log state log are named =
    sym (length-named serial_held (λ held. not (is_free held)) tests-held state.streams)
    ∙ same-count serial_held (serial_taken log) state.streams (places log) (apart-held state log are) (apart-taken log named)
    (held-taken state log are) (taken-held state log are named)
    ∙ length-named (serial_taken log) (λ place. is_taken_phase (phase log place.key.serial))
    (λ place. tests-if (is_taken_phase (phase log place.key.serial)) place.key.serial) (places log)

-- The state is full.

shifted : (n m : ℕ) (b : Bool) → nat_lt n m ≡ b → nat_lt (1 + n) (suc m) ≡ b
shifted n m true is = grind arith
shifted n m false is = grind arith

shifted-first : (m : ℕ) → nat_lt 0 (suc m) ≡ true
shifted-first m = grind arith

first-by : {A : Type 0} (b : Bool) (x : A) (n m : ℕ) (ys : List A) → nat_lt n m ≡ nat_lt 0 (length ys) →
    nat_lt (cond (not b) (1 + n) 0) (suc m) ≡ nat_lt 0 (length (cond b (x ∷ ys) ys))
first-by true x n m ys is = shifted-first m ∙ sym (shifted-first (length ys))
first-by false x n m ys is = shifted n m (nat_lt n m) refl ∙ is

first-counted : {A : Type 0} (p : A → Bool) (xs : List A)
    → nat_lt (position_or_len p xs) (length xs) ≡ nat_lt 0 (length (filter p xs))
first-counted p [] = refl
first-counted p (x ∷ xs) = first-by (p x) x (position_or_len p xs) (length xs) (filter p xs) (first-counted p xs)

none-cond : (b : Bool) (n : ℕ) → is_none (cond b (Some n) None) ≡ not b
none-cond true n = refl
none-cond false n = refl

full-by : (free taken all : ℕ) (b : Bool) → nat_lt 0 free ≡ b → free + taken ≡ all → all ≡ 32 → not b ≡ nat_le 32 taken
full-by free taken all true is sum_is all_is = grind arith
full-by free taken all false is sum_is all_is = grind arith

pub full_by_the_log : (state : PlacesState) (log : Log) → ArePlaces state log → AreNamed log → length state.streams ≡ 32 →
    is_none (position is_free state.streams) ≡ nat_le place_limit (taken_places log)
full_by_the_log state log are named whole =
    none-cond (nat_lt (position_or_len is_free state.streams) (length state.streams)) (position_or_len is_free state.streams)
    ∙ ap not (first-counted is_free state.streams)
    ∙ full-by (length (filter is_free state.streams)) (taken_count state) (length state.streams)
    (nat_lt 0 (length (filter is_free state.streams))) refl
    (length-filter_both is_free (λ held. not (is_free held)) (λ held. refl) state.streams) whole
    ∙ ap (λ n. nat_le 32 n) (taken_by_the_log state log are named)
