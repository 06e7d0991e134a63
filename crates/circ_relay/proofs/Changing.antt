-- How places go on with a log, where an entry says something of one place at most.
use Rattle.std.proofs.Common.{◌≡◌, ◌≢◌, ◌<◌, ℕ, ◌==◌, List, ◌∷◌, length, get_or, Bool, true, false, Option, Some, None, refl, sym, ap, subst, ◌∙◌, arith}
use Rattle.std.proofs.lemmas.Option.{slice_get_within}
use Rattle.circuit_model.specs.Log.{Entry, Log}
use Rattle.circuit_model.specs.declared.places.Phase.TheVariants.{Free}
use Rattle.circuit_model.specs.Places.{Place, places, place_of, phase}
use Rattle.stream_edge.specs.declared.placed_stream.PlacedStream.{PlacedStream}
use Rattle.stream_edge.specs.PlacesState.{PlacesState, held_at, with_held}
use Rattle.stream_edge.proofs.Holding.{held_there, held_elsewhere}
use Rattle.circ_relay.specs.PlacesOfLog.{IsOfLog, IsHeld, IsSilent, ArePlaces}
use Rattle.circ_relay.proofs.Lists.{same_some}
use Rattle.circ_relay.proofs.Telling.{places_stay, untold_stays, silent_phase, stream_stays}

-- No place is told of.

pub silent_entry_leaves_places : (state new : PlacesState) (log : Log) (entry : Entry) →
    new.streams ≡ state.streams → new.next_serial ≡ state.next_serial → place_of entry.effects.edge ≡ None →
    ((serial : ℕ) → IsSilent entry serial) → ArePlaces state log → ArePlaces new (entry ∷ log)
silent_entry_leaves_places state new log entry held next none silent are =
    let same : (place : ℕ) → held_at new place ≡ held_at state place =
    λ place. ap (λ (xs : List (Option PlacedStream)). get_or xs place None) held in
    let count : length (places (entry ∷ log)) ≡ length (places log) =
    ap (λ (xs : List Place). length xs) (places_stay entry log none) in
    record {
      next = next ∙ are.next ∙ sym count;
      streams = λ place h holds. stream_stays entry log h none (silent h.serial) (are.streams place h (sym (same place) ∙ holds));
      once = λ one other g h holds also equal. are.once one other g h (sym (same one) ∙ holds) (sym (same other) ∙ also) equal;
      whole = λ serial below lasts.
          let old : IsHeld state serial =
          are.whole serial (omega (arith, count, below)) (λ free. lasts (silent_phase entry log serial (silent serial) ∙ free)) in
          record { place = old.place; stream = old.stream; holds = same old.place ∙ old.holds; named = old.named };
      untold = λ serial beyond. untold_stays entry log serial (silent serial) (are.untold serial (omega (arith, count, beyond)));
    }

-- One place changes: to another stream with the same serial, or to none where the log has freed it.

pub record IsChange (state : PlacesState) (log : Log) (entry : Entry) (place : ℕ) (g : PlacedStream)
    (holds : Option PlacedStream) : Type 0 where
  pub at : held_at state place ≡ Some g
  pub makes_none : place_of entry.effects.edge ≡ None
  pub silent : (serial : ℕ) → serial ≢ g.serial → IsSilent entry serial
  pub fits : (h : PlacedStream) → holds ≡ Some h → (h.serial ≡ g.serial) × IsOfLog (entry ∷ log) h
  pub lasts : phase (entry ∷ log) g.serial ≢ Free → (h : PlacedStream) × (holds ≡ Some h) × (h.serial ≡ g.serial)
  pub are : ArePlaces state log

pub same_by : (a b : ℕ) → (a == b) ≡ true → a ≡ b
same_by a b is = grind arith

pub apart_by : (a b : ℕ) → (a == b) ≡ false → a ≢ b
apart_by a b is same = grind arith

-- What a place holds after the change, it held before with the same serial.
before-by : (state : PlacesState) (log : Log) (entry : Entry) (place : ℕ) (g : PlacedStream) (holds : Option PlacedStream)
    → IsChange state log entry place g holds →
    (other : ℕ) (h : PlacedStream) → held_at (with_held state place holds) other ≡ Some h → (b : Bool) → (other == place) ≡ b →
    (x : PlacedStream) × (held_at state other ≡ Some x) × (x.serial ≡ h.serial)
before-by state log entry place g holds change other h is true same =
    let there : other ≡ place = same_by other place same in
    let fits =
    change.fits h (sym (held_there state place g holds change.at) ∙ sym (ap (λ p. held_at (with_held state place holds) p) there)
    ∙ is) in
    (g, ap (λ p. held_at state p) there ∙ change.at, sym fits.0)
before-by state log entry place g holds change other h is false same =
    (h, sym (held_elsewhere state place other holds (apart_by other place same)) ∙ is, refl)

before : (state : PlacesState) (log : Log) (entry : Entry) (place : ℕ) (g : PlacedStream) (holds : Option PlacedStream)
    → IsChange state log entry place g holds →
    (other : ℕ) (h : PlacedStream) → held_at (with_held state place holds) other ≡ Some h →
    (x : PlacedStream) × (held_at state other ≡ Some x) × (x.serial ≡ h.serial)
before state log entry place g holds change other h is =
    before-by state log entry place g holds change other h is (other == place) refl

streams-by : (state : PlacesState) (log : Log) (entry : Entry) (place : ℕ) (g : PlacedStream) (holds : Option PlacedStream)
    → IsChange state log entry place g holds →
    (other : ℕ) (h : PlacedStream) → held_at (with_held state place holds) other ≡ Some h → (b : Bool) → (other == place) ≡ b
    → IsOfLog (entry ∷ log) h
streams-by state log entry place g holds change other h is true same =
    let there : other ≡ place = same_by other place same in
    (change.fits h (sym (held_there state place g holds change.at) ∙ sym (ap (λ p. held_at (with_held state place holds) p) there)
    ∙ is)).1
streams-by state log entry place g holds change other h is false same =
    let apart : other ≢ place = apart_by other place same in
    let old : held_at state other ≡ Some h = sym (held_elsewhere state place other holds apart) ∙ is in
    stream_stays entry log h change.makes_none
    (change.silent h.serial (λ equal. apart (change.are.once other place h g old change.at equal)))
    (change.are.streams other h old)

whole-by : (state : PlacesState) (log : Log) (entry : Entry) (place : ℕ) (g : PlacedStream) (holds : Option PlacedStream)
    → IsChange state log entry place g holds →
    (serial : ℕ) → serial < length (places log) → phase (entry ∷ log) serial ≢ Free → (b : Bool) → (serial == g.serial) ≡ b
    → IsHeld (with_held state place holds) serial
whole-by state log entry place g holds change serial below lasts true same =
    let named : serial ≡ g.serial = same_by serial g.serial same in
    let still = change.lasts (λ free. lasts (ap (λ n. phase (entry ∷ log) n) named ∙ free)) in
    record {
      place = place;
      stream = still.0;
      holds = held_there state place g holds change.at ∙ still.1;
      named =
          still.2 ∙ sym named;
    }
whole-by state log entry place g holds change serial below lasts false same =
    let apart : serial ≢ g.serial = apart_by serial g.serial same in
    let old : IsHeld state serial =
    change.are.whole serial below (λ free. lasts (silent_phase entry log serial (change.silent serial apart) ∙ free)) in
    let elsewhere : old.place ≢ place =
    λ there. apart
    (sym old.named
    ∙ ap (λ (x : PlacedStream). x.serial)
    (same_some old.stream g (sym old.holds ∙ ap (λ p. held_at state p) there ∙ change.at))) in
    record {
      place = old.place;
      stream = old.stream;
      holds = held_elsewhere state place old.place holds elsewhere ∙ old.holds;
      named = old.named;
    }

pub one_place_changes : (state : PlacesState) (log : Log) (entry : Entry) (place : ℕ) (g : PlacedStream)
    (holds : Option PlacedStream) →
    IsChange state log entry place g holds → ArePlaces (with_held state place holds) (entry ∷ log)
one_place_changes state log entry place g holds change =
    let are : ArePlaces state log = change.are in
    let count : length (places (entry ∷ log)) ≡ length (places log) =
    ap (λ (xs : List Place). length xs) (places_stay entry log change.makes_none) in
    record {
      next = are.next ∙ sym count;
      streams = λ other h is. streams-by state log entry place g holds change other h is (other == place) refl;
      once = λ one other a b is also equal.
          let x = before state log entry place g holds change one a is in
          let y = before state log entry place g holds change other b also in
          are.once one other x.0 y.0 x.1 y.1 (x.2 ∙ equal ∙ sym y.2);
      whole =
          λ serial below lasts. whole-by state log entry place g holds change serial (omega (arith, count, below)) lasts
          (serial == g.serial) refl;
      untold = λ serial beyond.
          let within : g.serial < length (places log) =
          slice_get_within (places log) g.serial (are.streams place g change.at).place (are.streams place g change.at).found in
          untold_stays entry log serial (change.silent serial (λ same. omega (arith, count, beyond, within, same)))
          (are.untold serial (omega (arith, count, beyond)));
    }

-- The place holds the stream as it has become.
pub stream_changes : (state : PlacesState) (log : Log) (entry : Entry) (place : ℕ) (g h : PlacedStream) →
    held_at state place ≡ Some g → place_of entry.effects.edge ≡ None
    → ((serial : ℕ) → serial ≢ g.serial → IsSilent entry serial) →
    h.serial ≡ g.serial → IsOfLog (entry ∷ log) h → ArePlaces state log → ArePlaces (with_held state place (Some h)) (entry ∷ log)
stream_changes state log entry place g h at none silent named becomes are =
    one_place_changes state log entry place g (Some h) (record {
      at = at;
      makes_none = none;
      silent = silent;
      fits = λ x is. subst (λ y. (y.serial ≡ g.serial) × IsOfLog (entry ∷ log) y) (same_some h x is) (named, becomes);
      lasts = λ lasts. (h, refl, named);
      are = are;
    })

pub none-held : (h : PlacedStream) → ◌≡◌ {A = Option PlacedStream} None (Some h) → ⊥
none-held h is = cc

-- The place holds nothing.
pub stream_goes : (state : PlacesState) (log : Log) (entry : Entry) (place : ℕ) (g : PlacedStream) →
    held_at state place ≡ Some g → place_of entry.effects.edge ≡ None
    → ((serial : ℕ) → serial ≢ g.serial → IsSilent entry serial) →
    phase (entry ∷ log) g.serial ≡ Free → ArePlaces state log → ArePlaces (with_held state place None) (entry ∷ log)
stream_goes state log entry place g at none silent free are =
    one_place_changes state log entry place g None (record {
      at = at;
      makes_none = none;
      silent = silent;
      fits = λ x is. absurd (none-held x is);
      lasts = λ lasts. absurd (lasts free);
      are = are;
    })

-- Calls that change no place say nothing of the log.
pub calls_say_nothing : (state new : PlacesState) (log : Log) → new.streams ≡ state.streams → new.next_serial ≡ state.next_serial
    → ArePlaces state log → ArePlaces new log
calls_say_nothing state new log held next are =
    let same : (place : ℕ) → held_at new place ≡ held_at state place =
    λ place. ap (λ (xs : List (Option PlacedStream)). get_or xs place None) held in
    record {
      next = next ∙ are.next;
      streams = λ place h holds. are.streams place h (sym (same place) ∙ holds);
      once = λ one other g h holds also equal. are.once one other g h (sym (same one) ∙ holds) (sym (same other) ∙ also) equal;
      whole = λ serial below lasts.
          let old : IsHeld state serial = are.whole serial below lasts in
          record { place = old.place; stream = old.stream; holds = same old.place ∙ old.holds; named = old.named };
      untold = are.untold;
    }
