-- What the places hold after a call.
use Rattle.std.proofs.lemmas.Bool.{ltb-true, ltb-false}
use Rattle.std.proofs.Common.{ltb, ◌≡◌, ◌≢◌, ℕ, ◌<◌, ◌≤◌, Bool, true, false, Option, Some, None, length, sym, ap, subst, ◌∙◌, refl}
use Rattle.std.proofs.Math.Seq.{get_or-set_same, get_or-set_other}
use Rattle.std.proofs.Math.ListN.{get_or-eq_default}
use Rattle.stream_edge.specs.declared.placed_stream.PlacedStream.{PlacedStream}
use Rattle.stream_edge.specs.declared.placed_stream.Phase.TheVariants.{Ending}
use Rattle.stream_edge.specs.PlacesState.{PlacesState, IsLive, held_at, with_held}

within_by : (s : PlacesState) (place : ℕ) (h : PlacedStream) → held_at s place ≡ Some h → (b : Bool)
    → ltb place (length s.streams) ≡ b → place < length s.streams
within_by s place h is true test = ltb-true place (length s.streams) test
within_by s place h is false test =
    let beyond : length s.streams ≤ place = ltb-false place (length s.streams) test in
    let never : ◌≡◌ {A = Option PlacedStream} None (Some h) = sym (get_or-eq_default s.streams None beyond) ∙ is in
    cc

-- a place that is taken is one of the places
pub taken_within : (s : PlacesState) (place : ℕ) (h : PlacedStream) → held_at s place ≡ Some h → place < length s.streams
taken_within s place h is = within_by s place h is (ltb place (length s.streams)) refl

-- the place that was changed holds what was put there
pub held_there : (s : PlacesState) (place : ℕ) (h : PlacedStream) (content : Option PlacedStream) → held_at s place ≡ Some h
    → held_at (with_held s place content) place ≡ content
held_there s place h content is = get_or-set_same s.streams place content None (taken_within s place h is)

-- every other place holds what it held
pub held_elsewhere : (s : PlacesState) (place other : ℕ) (content : Option PlacedStream) → other ≢ place
    → held_at (with_held s place content) other ≡ held_at s other
held_elsewhere s place other content apart = get_or-set_other s.streams place other content None apart

-- a stream stays live where a call leaves its phase
pub stays_live : (s t : PlacesState) (place : ℕ) (f : PlacedStream → PlacedStream) → ((h : PlacedStream) → (f h).phase ≡ h.phase)
    → ((h : PlacedStream) → held_at s place ≡ Some h → t ≡ with_held s place (Some (f h)))
    → IsLive s place → IsLive t place
stays_live s t place f same changed live =
    let h = live.0 in
    let there = held_there s place h (Some (f h)) live.1 in
    (f h, ap (λ u. held_at u place) (changed h live.1) ∙ there, subst (λ p. p ≢ Ending) (sym (same h)) live.2)
