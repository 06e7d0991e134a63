-- Finding the place that holds the stream of a name.
use Rattle.std.proofs.Common.{◌≡◌, ◌≢◌, ◌≤◌, ◌==◌, ◌&&◌, ℕ, zero, suc, ◌+◌, [], ◌∷◌, List, Bool, true, false, not, length, get_or, Option, Some, None, refl, sym, ap, ◌∙◌, arith, nat_lt, option_map, cond}
use Rattle.std.specs.Prelude.{position, IfSome, IfNone}
use Rattle.std.specs.List.{position_or_len}
use Rattle.std.proofs.lemmas.List.Quantifiers.{position-Some}
use Rattle.tr_io.specs.declared.names.StreamKey.{StreamKey}
use Rattle.stream_edge.specs.PlacesState.{held_at}
use Rattle.stream_edge.specs.Streams.{is_stream}
use Rattle.stream_edge.specs.declared.placed_stream.PlacedStream.{PlacedStream}
use Rattle.circ_relay.specs.declared.circuit.Circuit.{Circuit}
use Rattle.circ_relay.specs.CircuitOfLog.{HasStream}
use Rattle.circ_relay.proofs.Bools.{not_both}

-- It has the name.
both_true : (a b : Bool) → (a && b) ≡ true → (a ≡ true) × (b ≡ true)
both_true true true is = (refl, refl)
both_true true false is = cc
both_true false b is = cc

same_number : (n m : ℕ) → (n == m) ≡ true → n ≡ m
same_number n m is = grind arith

pub has_name : (h : PlacedStream) (id serial : ℕ) → is_stream id serial (Some h) ≡ true → (h.stream ≡ id) × (h.serial ≡ serial)
has_name h id serial is =
    let both : (((h.stream == id) ≡ true) × ((h.serial == serial) ≡ true)) = both_true (h.stream == id) (h.serial == serial) is in
    (same_number h.stream id both.0, same_number h.serial serial both.1)

name_has : (h : PlacedStream) (id serial : ℕ) → h.stream ≡ id → h.serial ≡ serial → is_stream id serial (Some h) ≡ true
name_has h id serial one other = grind arith

-- Where it is found.
phase_held : (c : Circuit) (key : StreamKey) (place : ℕ) (held : Option PlacedStream)
    → position (is_stream key.id key.serial) c.places.streams ≡ Some place → held_at c.places place ≡ held →
    is_stream key.id key.serial held ≡ true
    → IfSome (option_map (λ (h : PlacedStream). h.phase) held) (λ phase. HasStream c key phase)
phase_held c key place None first holds is = cc
phase_held c key place (Some h) first holds is = record {
  place = place;
  stream = h;
  at = record { first = first; held = holds };
  now = refl;
}

phase_there : (P : Type 0) (id serial : ℕ) (held : Option PlacedStream) → is_stream id serial held ≡ true
    → IfNone (option_map (λ (h : PlacedStream). h.phase) held) P
phase_there P id serial None is = cc
phase_there P id serial (Some h) is = tt

pub passes : (c : Circuit) (key : StreamKey) (place : ℕ) → position (is_stream key.id key.serial) c.places.streams ≡ Some place
    → is_stream key.id key.serial (held_at c.places place) ≡ true
passes c key place at = (position-Some (is_stream key.id key.serial) c.places.streams place None at).1

pub found_has_phase : (c : Circuit) (key : StreamKey) (place : ℕ)
    → position (is_stream key.id key.serial) c.places.streams ≡ Some place →
    IfSome (option_map (λ (h : PlacedStream). h.phase) (held_at c.places place)) (λ phase. HasStream c key phase)
found_has_phase c key place at = phase_held c key place (held_at c.places place) at refl (passes c key place at)

pub found_has_some : (P : Type 0) (c : Circuit) (key : StreamKey) (place : ℕ)
    → position (is_stream key.id key.serial) c.places.streams ≡ Some place →
    IfNone (option_map (λ (h : PlacedStream). h.phase) (held_at c.places place)) P
found_has_some P c key place at = phase_there P key.id key.serial (held_at c.places place) (passes c key place at)

-- Where none is.
none_before : (b : Bool) (n m : ℕ) → nat_lt n m ≡ b → cond b (Some n) None ≡ None → m ≤ n
none_before true n m is none = cc
none_before false n m is none = grind arith

fails_first : (b : Bool) (n m : ℕ) → suc m ≤ cond (not b) (1 + n) 0 → (b ≡ false) × (m ≤ n)
fails_first true n m long = absurd (omega (arith, long))
fails_first false n m long = (refl, omega (arith, long))

all_fail : (t : Option PlacedStream → Bool) (xs : List (Option PlacedStream)) (place : ℕ) → t None ≡ false
    → length xs ≤ position_or_len t xs
    → t (get_or xs place None) ≡ false
all_fail t [] place off long = off
all_fail t (x ∷ xs) zero off long = (fails_first (t x) (position_or_len t xs) (length xs) long).0
all_fail t (x ∷ xs) (suc place) off long = all_fail t xs place off (fails_first (t x) (position_or_len t xs) (length xs) long).1

pub none_has_name : (c : Circuit) (key : StreamKey) → None ≡ position (is_stream key.id key.serial) c.places.streams
    → (place : ℕ) (stream : PlacedStream) →
    held_at c.places place ≡ Some stream → stream.stream ≡ key.id → stream.serial ≢ key.serial
none_has_name c key none place stream holds id serial =
    let t : (Option PlacedStream → Bool) = is_stream key.id key.serial in
    not_both (t (held_at c.places place))
    (ap t holds ∙ name_has stream key.id key.serial id serial)
    (all_fail t c.places.streams place refl
    (none_before (nat_lt (position_or_len t c.places.streams) (length c.places.streams)) (position_or_len t c.places.streams)
    (length c.places.streams) refl (sym none)))
