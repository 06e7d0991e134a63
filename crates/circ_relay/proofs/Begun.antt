-- An accepted BEGIN: it makes the next place of the log, and takes a free place of the state.
use Rattle.std.proofs.Common.{◌≡◌, ◌≢◌, ◌<◌, ◌⊎◌, inl, inr, ℕ, ◌+◌, ◌==◌, List, [], ◌∷◌, ◌++◌, length, Bool, true, false, Option, Some, None, refl, sym, ap, subst, ◌∙◌, arith, length-append}
use Rattle.std.specs.Prelude.{slice_get, position}
use Rattle.std.proofs.Math.Seq.{get_or-set_same, get_or-set_other}
use Rattle.std.proofs.lemmas.Option.{slice_get_within}
use Rattle.std.proofs.lemmas.List.Quantifiers.{position-Some}
use Rattle.tor_spec.specs.RelayCell.{begin_command, sendme_command}
use Rattle.tor_spec.specs.Extend.{Address}
use Rattle.circuit_model.specs.Events.{Event}
use Rattle.circuit_model.specs.Rules.{Rules}
use Rattle.circuit_model.specs.Log.{Entry, Log, Message, pushed}
use Rattle.circuit_model.specs.declared.effects.Order.TheVariants.{Reach}
use Rattle.circuit_model.specs.declared.places.Phase.TheVariants.{Free}
use Rattle.circuit_model.specs.Places.{Place, places, place_at, place_of, phase, closes_place}
use Rattle.circuit_model.specs.Windows.{carries}
use Rattle.circuit_model.specs.Received.{message_at}
use Rattle.circuit_model.specs.Effects.{effects_after}
use Rattle.circuit_model.specs.Words.{entry_after}
use Rattle.stream_edge.specs.declared.placed_stream.PlacedStream.{PlacedStream}
use Rattle.stream_edge.specs.PlacesState.{PlacesState, held_at, with_held}
use Rattle.stream_edge.specs.Streams.{begun, is_free}
use Rattle.circ_relay.specs.PlacesOfLog.{IsOfLog, IsUntold, IsHeld, IsSilent, ArePlaces}
use Rattle.circ_relay.proofs.Lists.{same_some, got_before, got_last}
use Rattle.circ_relay.proofs.Telling.{stream_at_its_place, untold_stays, silent_phase, packaged_stays, sendmes_stay, carried_stays, drained_stays}
use Rattle.circ_relay.proofs.Changing.{same_by, apart_by, none-held}
use Rattle.circ_relay.proofs.Messages.{IsNoReport, message_is_no_report, other_command_credits}

-- The list of the places with the place of a Reach order.

pub places_more : (entry : Entry) (log : Log) (place : Place) → place_of entry.effects.edge ≡ Some place
    → places (entry ∷ log) ≡ places log ++ place ∷ []
places_more entry log place made = ap (λ (x : Option Place). pushed (places log) x) made

-- The entry begins a stream: it makes the next place and says nothing else.
pub record IsBegun (state : PlacesState) (log : Log) (entry : Entry) (place : ℕ) (id : ℕ) (to : Address) : Type 0 where
  pub order : entry.effects.edge ≡ Some (Reach (record { stream = id; serial = length (places log) }) to)
  pub silent : (serial : ℕ) → IsSilent entry serial
  pub free : held_at state place ≡ None
  pub within : place < length state.streams
  pub are : ArePlaces state log

abbrev pub after_begin : PlacesState → ℕ → ℕ → PlacesState
after_begin state place id =
    record (with_held state place (Some (begun id state.next_serial))) { next_serial = state.next_serial + 1 }

abbrev pub place_made : Log → ℕ → Address → Place
place_made log id to = record { key = record { stream = id; serial = length (places log) }; to = to }

length-more : (entry : Entry) (log : Log) (place : Place) → place_of entry.effects.edge ≡ Some place
    → length (places (entry ∷ log)) ≡ length (places log) + 1
length-more entry log place made =
    ap (λ (xs : List Place). length xs) (places_more entry log place made) ∙ length-append (places log) (place ∷ [])

found-before : (entry : Entry) (log : Log) (made x : Place) (serial : ℕ) → place_of entry.effects.edge ≡ Some made
    → place_at log serial ≡ Some x → place_at (entry ∷ log) serial ≡ Some x
found-before entry log made x serial makes found =
    ap (λ (xs : List Place). slice_get xs serial) (places_more entry log made makes) ∙ got_before (places log) made x serial found

there : (state : PlacesState) (log : Log) (entry : Entry) (place id : ℕ) (to : Address) → IsBegun state log entry place id to →
    held_at (after_begin state place id) place ≡ Some (begun id state.next_serial)
there state log entry place id to begins =
    get_or-set_same state.streams place (Some (begun id state.next_serial)) None begins.within

elsewhere : (state : PlacesState) (place id other : ℕ) → other ≢ place
    → held_at (after_begin state place id) other ≡ held_at state other
elsewhere state place id other apart = get_or-set_other state.streams place other (Some (begun id state.next_serial)) None apart

-- What the state holds afterwards: at this place the stream that has begun, elsewhere what it held.
holds-by : (state : PlacesState) (log : Log) (entry : Entry) (place id : ℕ) (to : Address) → IsBegun state log entry place id to →
    (other : ℕ) (h : PlacedStream) → held_at (after_begin state place id) other ≡ Some h → (b : Bool) → (other == place) ≡ b →
    ((other ≡ place) × (h ≡ begun id state.next_serial)) ⊎ (held_at state other ≡ Some h)
holds-by state log entry place id to begins other h is true same =
    let here : other ≡ place = same_by other place same in
    inl (
      here,
      same_some h (begun id state.next_serial)
          (sym is ∙ ap (λ p. held_at (after_begin state place id) p) here ∙ there state log entry place id to begins),
    )
holds-by state log entry place id to begins other h is false same =
    inr (sym (elsewhere state place id other (apart_by other place same)) ∙ is)

holds : (state : PlacesState) (log : Log) (entry : Entry) (place id : ℕ) (to : Address) → IsBegun state log entry place id to →
    (other : ℕ) (h : PlacedStream) → held_at (after_begin state place id) other ≡ Some h →
    ((other ≡ place) × (h ≡ begun id state.next_serial)) ⊎ (held_at state other ≡ Some h)
holds state log entry place id to begins other h is = holds-by state log entry place id to begins other h is (other == place) refl

begun-is : (state : PlacesState) (log : Log) (entry : Entry) (place id : ℕ) (to : Address) → IsBegun state log entry place id to
    → IsOfLog (entry ∷ log) (begun id state.next_serial)
begun-is state log entry place id to begins =
    let made : Place = place_made log id to in
    let makes : place_of entry.effects.edge ≡ Some made = ap place_of begins.order in
    let next : state.next_serial ≡ length (places log) = begins.are.next in
    let silent : IsSilent entry state.next_serial = begins.silent state.next_serial in
    let untold : IsUntold log state.next_serial = begins.are.untold state.next_serial (omega (arith, next)) in
    record {
      place = made;
      found = ap (λ (xs : List Place). slice_get xs state.next_serial) (places_more entry log made makes)
          ∙ ap (λ n. slice_get (places log ++ made ∷ []) n) next ∙ got_last (places log) made;
      key = ap (λ (n : ℕ). record { stream = id; serial = n }) (sym next);
      phase = silent_phase entry log state.next_serial silent ∙ untold.phase;
      packed = sym (packaged_stays entry log state.next_serial silent.packs ∙ untold.packed);
      credits = sym (sendmes_stay entry log state.next_serial silent.credits ∙ untold.credits);
      accepted = sym (carried_stays entry log state.next_serial silent.carries ∙ untold.accepted);
      drained = sym (drained_stays entry log state.next_serial silent.drains ∙ untold.drained);
    }

old-is : (log : Log) (entry : Entry) (made : Place) (h : PlacedStream) → place_of entry.effects.edge ≡ Some made
    → IsSilent entry h.serial → IsOfLog log h → IsOfLog (entry ∷ log) h
old-is log entry made h makes silent is =
    stream_at_its_place entry log h is (found-before entry log made is.place h.serial makes is.found) silent

streams-by : (state : PlacesState) (log : Log) (entry : Entry) (place id : ℕ) (to : Address)
    → IsBegun state log entry place id to →
    (other : ℕ) (h : PlacedStream) → ((other ≡ place) × (h ≡ begun id state.next_serial)) ⊎ (held_at state other ≡ Some h)
    → IsOfLog (entry ∷ log) h
streams-by state log entry place id to begins other h (inl new) =
    subst (λ x. IsOfLog (entry ∷ log) x) (sym new.1) (begun-is state log entry place id to begins)
streams-by state log entry place id to begins other h (inr old) =
    old-is log entry (place_made log id to) h (ap place_of begins.order) (begins.silent h.serial) (begins.are.streams other h old)

below : (state : PlacesState) (log : Log) → ArePlaces state log → (place : ℕ) (h : PlacedStream) → held_at state place ≡ Some h
    → h.serial < length (places log)
below state log are place h at =
    slice_get_within (places log) h.serial (are.streams place h at).place (are.streams place h at).found

once-by : (state : PlacesState) (log : Log) (entry : Entry) (place id : ℕ) (to : Address) → IsBegun state log entry place id to →
    (one other : ℕ) (g h : PlacedStream) →
    ((one ≡ place) × (g ≡ begun id state.next_serial)) ⊎ (held_at state one ≡ Some g) →
    ((other ≡ place) × (h ≡ begun id state.next_serial)) ⊎ (held_at state other ≡ Some h) → g.serial ≡ h.serial → one ≡ other
once-by state log entry place id to begins one other g h (inl new) (inl also) equal = new.0 ∙ sym also.0
once-by state log entry place id to begins one other g h (inl new) (inr old) equal =
    let serial : g.serial ≡ state.next_serial = ap (λ (x : PlacedStream). x.serial) new.1 in
    absurd (omega (arith, serial, begins.are.next, equal, below state log begins.are other h old))
once-by state log entry place id to begins one other g h (inr old) (inl new) equal =
    let serial : h.serial ≡ state.next_serial = ap (λ (x : PlacedStream). x.serial) new.1 in
    absurd (omega (arith, serial, begins.are.next, equal, below state log begins.are one g old))
once-by state log entry place id to begins one other g h (inr old) (inr also) equal = begins.are.once one other g h old also equal

whole-by : (state : PlacesState) (log : Log) (entry : Entry) (place id : ℕ) (to : Address) → IsBegun state log entry place id to →
    (serial : ℕ) → serial < length (places log) + 1 → phase (entry ∷ log) serial ≢ Free → (b : Bool)
    → (serial == length (places log)) ≡ b → IsHeld (after_begin state place id) serial
whole-by state log entry place id to begins serial short lasts true same = record {
  place = place;
  stream = begun id state.next_serial;
  holds = there state log entry place id to begins;
  named = begins.are.next ∙ sym (same_by serial (length (places log)) same);
}
whole-by state log entry place id to begins serial short lasts false same =
    let apart : serial ≢ length (places log) = apart_by serial (length (places log)) same in
    let old : IsHeld state serial =
    begins.are.whole serial (omega (arith, short, apart))
    (λ free. lasts (silent_phase entry log serial (begins.silent serial) ∙ free)) in
    let other : old.place ≢ place =
    λ here. none-held old.stream (sym begins.free ∙ sym (ap (λ p. held_at state p) here) ∙ old.holds) in
    record {
      place = old.place;
      stream = old.stream;
      holds = elsewhere state place id old.place other ∙ old.holds;
      named =
          old.named;
    }

pub begun_takes_a_place : (state : PlacesState) (log : Log) (entry : Entry) (place id : ℕ) (to : Address)
    → IsBegun state log entry place id to → ArePlaces (after_begin state place id) (entry ∷ log)
begun_takes_a_place state log entry place id to begins =
    let count : length (places (entry ∷ log)) ≡ length (places log) + 1 =
    length-more entry log (place_made log id to) (ap place_of begins.order) in
    record {
      next = ap (λ n. n + 1) begins.are.next ∙ sym count;
      streams =
          λ other h is. streams-by state log entry place id to begins other h
          (holds state log entry place id to begins other h is);
      once = λ one other g h is also equal.
          once-by state log entry place id to begins one other g h (holds state log entry place id to begins one g is)
          (holds state log entry place id to begins other h also) equal;
      whole =
          λ serial short lasts. whole-by state log entry place id to begins serial (omega (arith, count, short)) lasts
          (serial == length (places log)) refl;
      untold =
          λ serial beyond. untold_stays entry log serial (begins.silent serial)
          (begins.are.untold serial (omega (arith, count, beyond)));
    }

free-is : (held : Option PlacedStream) → is_free held ≡ true → held ≡ None
free-is None is = refl
free-is (Some h) is = cc

pub begin_takes_a_place : (state : PlacesState) (rules : Rules) (log : Log) (e : Event) (m : Message) (place id : ℕ)
    (to : Address) →
    ArePlaces state log → message_at log e ≡ Some m → m.command ≡ begin_command →
    (effects_after rules log e).edge ≡ Some (Reach (record { stream = id; serial = length (places log) }) to)
    → position is_free state.streams ≡ Some place →
    ArePlaces (record (with_held state place (Some (begun id state.next_serial))) { next_serial = state.next_serial + 1 })
    (entry_after rules log e ∷ log)
begin_takes_a_place state rules log e m place id to are found command order first =
    let entry : Entry = entry_after rules log e in
    let no_report : IsNoReport e = message_is_no_report log e m found in
    let at = position-Some is_free state.streams place None first in
    begun_takes_a_place state log entry place id to (record {
      order = order;
      silent = λ serial. record {
        connects = no_report.connects serial;
        frees = no_report.frees serial;
        closes = ap (closes_place serial) order;
        packs = no_report.packs serial;
        credits = other_command_credits entry m serial found (ap (λ n. n == sendme_command) command);
        carries = ap (carries serial) order;
        drains = no_report.drains serial;
      };
      free = free-is (held_at state place) at.1;
      within = at.0;
      are = are;
    })
