-- What the edge reports of a held stream: the place is connected, gave bytes, drained a DATA, or is
-- given back.
use Rattle.std.proofs.Common.{◌≡◌, ◌≢◌, ℕ, ◌+◌, ◌==◌, ◌&&◌, List, ◌∷◌, Bool, true, false, if◌then◌else◌, Option, Some, None, refl, sym, ap, subst, ◌∙◌, arith}
use Rattle.tor_spec.specs.RelayCell.{sendme_command}
use Rattle.circuit_model.specs.declared.event.Event.TheVariants.{Connected, Data, Drained, Freed}
use Rattle.circuit_model.specs.Rules.{Rules}
use Rattle.circuit_model.specs.Log.{Entry, Log, Message, Effects, no_effects, is_closed}
use Rattle.circuit_model.specs.declared.places.Phase.TheVariants.{Free}
use Rattle.circuit_model.specs.Places.{Place, place_of, place_at, connects, frees, closes_place}
use Rattle.circuit_model.specs.Windows.{is_data_of, is_accepted, has_place, carries, drains}
use Rattle.circuit_model.specs.Streams.{connected_effects, edge_data_effects, drained_effects}
use Rattle.circuit_model.specs.Effects.{open_effects, effects_after}
use Rattle.circuit_model.specs.Words.{entry_after}
use Rattle.stream_edge.specs.declared.placed_stream.PlacedStream.{PlacedStream}
use Rattle.stream_edge.specs.declared.placed_stream.Phase.{Phase as HeldPhase}
use Rattle.stream_edge.specs.declared.placed_stream.Phase.TheVariants.{Reaching as held_reaching, Joined as held_joined, Ending as held_ending}
use Rattle.stream_edge.specs.PlacesState.{PlacesState, held_at, with_held}
use Rattle.stream_edge.specs.Streams.{after_packaging, after_draining, may_drain}
use Rattle.circ_relay.specs.PlacesOfLog.{model_phase, IsOfLog, IsSilent, ArePlaces}
use Rattle.circ_relay.proofs.Telling.{place_stays, phase_stays, phase_freed, phase_joined, packaged_stays, packaged_more, sendmes_stay, carried_stays, drained_stays, drained_more, no_message_credits}
use Rattle.circ_relay.proofs.Changing.{stream_changes, stream_goes}

pub equal_to : (n : ℕ) → (n == n) ≡ true
equal_to n = grind arith

pub unequal : (n m : ℕ) → m ≢ n → (n == m) ≡ false
unequal n m apart = grind arith

pub held_lasts : (p : HeldPhase) → model_phase p ≢ Free
held_lasts held_reaching is = cc
held_lasts held_joined is = cc
held_lasts held_ending is = cc

pub nothing_by : (closed : Bool) → ◌≡◌ {A = Option Message} (if closed then None else None) None
nothing_by true = refl
nothing_by false = refl

-- An entry without an order for the edge.
pub orderless_is_silent : (entry : Entry) (serial : ℕ) → entry.effects.edge ≡ None →
    (is_accepted sendme_command entry && has_place serial entry.message) ≡ false →
    connects serial entry.event ≡ false → frees serial entry.event ≡ false → is_data_of serial entry.event ≡ false
    → drains serial entry.event ≡ false →
    IsSilent entry serial
orderless_is_silent entry serial none credits connects frees packs drains = record {
  connects = connects;
  frees = frees;
  closes = ap (closes_place serial) none;
  packs = packs;
  credits = credits;
  carries = ap (carries serial) none;
  drains = drains;
}

-- Connected.

pub closed-edge : (closed : Bool) (x : Effects) → x.edge ≡ None → (if closed then no_effects else x).edge ≡ None
closed-edge true x none = refl
closed-edge false x none = none

connected-edge : (log : Log) (place : Option Place) → (connected_effects log place).edge ≡ None
connected-edge log None = refl
connected-edge log (Some place) = refl

pub connected-orders : (rules : Rules) (log : Log) (serial : ℕ) → (effects_after rules log (Connected serial)).edge ≡ None
unfolding open_effects
connected-orders rules log serial = closed-edge (is_closed log) _ (connected-edge log (place_at log serial))

pub connected_joins : (state : PlacesState) (rules : Rules) (log : Log) (place : ℕ) (h : PlacedStream) →
    ArePlaces state log → held_at state place ≡ Some h → h.phase ≡ held_reaching →
    ArePlaces (with_held state place (Some (record h { phase = held_joined }))) (entry_after rules log (Connected h.serial) ∷ log)
connected_joins state rules log place h are at reaching =
    let entry : Entry = entry_after rules log (Connected h.serial) in
    let none : entry.effects.edge ≡ None = connected-orders rules log h.serial in
    let makes_none : place_of entry.effects.edge ≡ None = ap place_of none in
    let quiet : (serial : ℕ) → (is_accepted sendme_command entry && has_place serial entry.message) ≡ false =
    λ serial. no_message_credits entry serial (nothing_by (is_closed log)) in
    let is : IsOfLog log h = are.streams place h at in
    let joined : PlacedStream = record h { phase = held_joined } in
    let becomes : IsOfLog (entry ∷ log) joined = record {
      place = is.place;
      found = place_stays entry log h.serial makes_none ∙ is.found;
      key = is.key;
      phase =
          phase_joined entry log h.serial (is.phase ∙ ap model_phase reaching) (equal_to h.serial) refl
          (ap (closes_place h.serial) none);
      packed = is.packed ∙ sym (packaged_stays entry log h.serial refl);
      credits = is.credits ∙ sym (sendmes_stay entry log h.serial (quiet h.serial));
      accepted = is.accepted ∙ sym (carried_stays entry log h.serial (ap (carries h.serial) none));
      drained = is.drained ∙ sym (drained_stays entry log h.serial refl);
    } in
    stream_changes state log entry place h joined at makes_none
    (λ serial apart. orderless_is_silent entry serial none (quiet serial) (unequal h.serial serial apart) refl refl refl)
    refl becomes are

-- Bytes of the connection.

data-edge : (log : Log) (bytes : List ℕ) (place : Option Place) → (edge_data_effects log bytes place).edge ≡ None
data-edge log bytes None = refl
data-edge log bytes (Some place) = refl

pub data-orders : (rules : Rules) (log : Log) (serial : ℕ) (bytes : List ℕ)
    → (effects_after rules log (Data serial bytes)).edge ≡ None
unfolding open_effects
data-orders rules log serial bytes = closed-edge (is_closed log) _ (data-edge log bytes (place_at log serial))

pub bytes_package : (state : PlacesState) (rules : Rules) (log : Log) (place : ℕ) (h : PlacedStream) (bytes : List ℕ) →
    ArePlaces state log → held_at state place ≡ Some h →
    ArePlaces (with_held state place (Some (after_packaging h))) (entry_after rules log (Data h.serial bytes) ∷ log)
bytes_package state rules log place h bytes are at =
    let entry : Entry = entry_after rules log (Data h.serial bytes) in
    let none : entry.effects.edge ≡ None = data-orders rules log h.serial bytes in
    let makes_none : place_of entry.effects.edge ≡ None = ap place_of none in
    let quiet : (serial : ℕ) → (is_accepted sendme_command entry && has_place serial entry.message) ≡ false =
    λ serial. no_message_credits entry serial (nothing_by (is_closed log)) in
    let is : IsOfLog log h = are.streams place h at in
    let becomes : IsOfLog (entry ∷ log) (after_packaging h) = record {
      place = is.place;
      found = place_stays entry log h.serial makes_none ∙ is.found;
      key = is.key;
      phase = phase_stays entry log h.serial refl refl (ap (closes_place h.serial) none) ∙ is.phase;
      packed = ap (λ n. n + 1) is.packed ∙ sym (packaged_more entry log h.serial (equal_to h.serial));
      credits = is.credits ∙ sym (sendmes_stay entry log h.serial (quiet h.serial));
      accepted = is.accepted ∙ sym (carried_stays entry log h.serial (ap (carries h.serial) none));
      drained = is.drained ∙ sym (drained_stays entry log h.serial refl);
    } in
    stream_changes state log entry place h (after_packaging h) at makes_none
    (λ serial apart. orderless_is_silent entry serial none (quiet serial) refl refl (unequal h.serial serial apart) refl)
    refl becomes are

-- Drained.

pub if-edge : (b : Bool) (x y : Effects) → x.edge ≡ None → y.edge ≡ None → (if b then x else y).edge ≡ None
if-edge true x y one other = one
if-edge false x y one other = other

drained-edge : (log : Log) (place : Option Place) → (drained_effects log place).edge ≡ None
drained-edge log None = refl
drained-edge log (Some place) = if-edge _ _ _ refl refl

pub drained-orders : (rules : Rules) (log : Log) (serial : ℕ) → (effects_after rules log (Drained serial)).edge ≡ None
unfolding open_effects
drained-orders rules log serial = closed-edge (is_closed log) _ (drained-edge log (place_at log serial))

one_drained : (h : PlacedStream) → may_drain h ≡ true → after_draining h ≡ record h { drained = h.drained + 1 }
one_drained h may = rw may refl

pub drained_drains : (state : PlacesState) (rules : Rules) (log : Log) (place : ℕ) (h : PlacedStream) →
    ArePlaces state log → held_at state place ≡ Some h → may_drain h ≡ true →
    ArePlaces (with_held state place (Some (after_draining h))) (entry_after rules log (Drained h.serial) ∷ log)
drained_drains state rules log place h are at may =
    let entry : Entry = entry_after rules log (Drained h.serial) in
    let none : entry.effects.edge ≡ None = drained-orders rules log h.serial in
    let makes_none : place_of entry.effects.edge ≡ None = ap place_of none in
    let quiet : (serial : ℕ) → (is_accepted sendme_command entry && has_place serial entry.message) ≡ false =
    λ serial. no_message_credits entry serial (nothing_by (is_closed log)) in
    let is : IsOfLog log h = are.streams place h at in
    let fewer : PlacedStream = record h { drained = h.drained + 1 } in
    let becomes : IsOfLog (entry ∷ log) fewer = record {
      place = is.place;
      found = place_stays entry log h.serial makes_none ∙ is.found;
      key = is.key;
      phase = phase_stays entry log h.serial refl refl (ap (closes_place h.serial) none) ∙ is.phase;
      packed = is.packed ∙ sym (packaged_stays entry log h.serial refl);
      credits = is.credits ∙ sym (sendmes_stay entry log h.serial (quiet h.serial));
      accepted = is.accepted ∙ sym (carried_stays entry log h.serial (ap (carries h.serial) none));
      drained = ap (λ n. n + 1) is.drained ∙ sym (drained_more entry log h.serial (equal_to h.serial));
    } in
    subst (λ x. ArePlaces (with_held state place (Some x)) (entry ∷ log)) (sym (one_drained h may))
    (stream_changes state log entry place h fewer at makes_none
    (λ serial apart. orderless_is_silent entry serial none (quiet serial) refl refl refl (unequal h.serial serial apart))
    refl becomes are)

-- Freed.

pub freed-orders : (rules : Rules) (log : Log) (serial : ℕ) → (effects_after rules log (Freed serial)).edge ≡ None
unfolding open_effects
freed-orders rules log serial = closed-edge (is_closed log) no_effects refl

pub freed_frees : (state : PlacesState) (rules : Rules) (log : Log) (place : ℕ) (h : PlacedStream) →
    ArePlaces state log → held_at state place ≡ Some h →
    ArePlaces (with_held state place None) (entry_after rules log (Freed h.serial) ∷ log)
freed_frees state rules log place h are at =
    let entry : Entry = entry_after rules log (Freed h.serial) in
    let none : entry.effects.edge ≡ None = freed-orders rules log h.serial in
    let quiet : (serial : ℕ) → (is_accepted sendme_command entry && has_place serial entry.message) ≡ false =
    λ serial. no_message_credits entry serial (nothing_by (is_closed log)) in
    stream_goes state log entry place h at (ap place_of none)
    (λ serial apart. orderless_is_silent entry serial none (quiet serial) refl (unequal h.serial serial apart) refl refl)
    (phase_freed entry log h.serial (equal_to h.serial)) are
