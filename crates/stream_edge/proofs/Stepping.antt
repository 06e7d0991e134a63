-- How the places stay in step with the calls.
use Rattle.std.proofs.Common.{◌≡◌, ℕ, ◌+◌, ◌<◌, ◌≤◌, ◌^◌, Option, Some, None, length, position, sym, ap, subst, ◌∙◌, arith, inl, inr}
use Rattle.std.specs.Prelude.{IsTrue, get_or, set}
use Rattle.std.proofs.lemmas.Bool.{cases_eq, ltb-true}
use Rattle.std.proofs.lemmas.List.{length-set}
use Rattle.std.proofs.lemmas.Option.{same_Some}
use Rattle.std.proofs.Math.Seq.{get_or-set_same, get_or-set_other}
use Rattle.stream_edge.specs.declared.placed_stream.PlacedStream.{PlacedStream}
use Rattle.stream_edge.specs.Streams.{after_packaging, begun, is_live_as, may_package, pack_grant}
use Rattle.stream_edge.specs.PlacesState.{PlacesState, IsCounted, IsInStep, held_at, with_held}
use Rattle.stream_edge.proofs.Living.{LivesOnce-set, LivesOnce-begun}

-- One call more.
counted_more : (h : PlacedStream) (calls : ℕ) → IsCounted h calls → IsCounted h (calls + 1)
counted_more h calls is = record {
  packed = is.packed;
  window = is.window;
  accepted = is.accepted;
  drained = is.drained;
  serial_within = omega (arith, is.serial_within);
  packed_within = omega (arith, is.packed_within);
  accepted_within = omega (arith, is.accepted_within);
}

-- What the places hold behind a change of one of them is counted, where what is put there is.
counted_put : (s : PlacesState) (place : ℕ) (content : Option PlacedStream) → place < length s.streams
    → ((h : PlacedStream) → content ≡ Some h → IsCounted h (s.calls + 1))
    → ((k : ℕ) (h : PlacedStream) → held_at s k ≡ Some h → IsCounted h s.calls)
    → (k : ℕ) (h : PlacedStream) → get_or (set s.streams place content) k None ≡ Some h → IsCounted h (s.calls + 1)
counted_put s place content within put rest k h is = elim (cases_eq k place) [
  | inl same ↦
      let there : get_or (set s.streams place content) k None ≡ content =
      ap (λ i. get_or (set s.streams place content) i None) same ∙ get_or-set_same s.streams place content None within in
      put h (sym there ∙ is)
  | inr apart ↦ counted_more h s.calls (rest k h (sym (get_or-set_other s.streams place k content None apart) ∙ is))
]

-- A call that changes one place.
pub IsInStep-put : (s : PlacesState) (place : ℕ) (content : Option PlacedStream) → IsInStep s → s.calls < 2 ^ 63 → place < 32
    → ((h : PlacedStream) → content ≡ Some h → IsCounted h (s.calls + 1))
    → ((id : ℕ) → IsTrue (is_live_as id content) → IsTrue (is_live_as id (held_at s place)))
    → IsInStep (with_held s place content)
IsInStep-put s place content is fewer within put lives =
    let there : place < length s.streams = omega (arith, is.places) in
    record {
      places = length-set s.streams place content ∙ is.places;
      next_serial = omega (arith, is.next_serial);
      calls = omega arith;
      live_once = LivesOnce-set s.streams place content is.live_once there lives;
      counted = counted_put s place content there put is.counted;
    }

-- A call that changes none.
pub IsInStep-called : (s : PlacesState) → IsInStep s → s.calls < 2 ^ 63 → IsInStep (record s { calls = s.calls + 1 })
IsInStep-called s is fewer = record {
  places = is.places;
  next_serial = omega (arith, is.next_serial);
  calls = omega arith;
  live_once = is.live_once;
  counted = λ place h there. counted_more h s.calls (is.counted place h there);
}

fresh_counted : (id serial calls : ℕ) → serial ≤ calls → IsCounted (begun id serial) (calls + 1)
fresh_counted id serial calls low = record {
  packed = omega arith;
  window = omega arith;
  accepted = omega arith;
  drained = omega arith;
  serial_within = omega arith;
  packed_within = omega arith;
  accepted_within = omega arith;
}

-- A stream that was accepted takes a place.
pub IsInStep-begun : (s : PlacesState) (place id : ℕ) → IsInStep s → s.calls < 2 ^ 63 → place < 32
    → position (is_live_as id) s.streams ≡ None
    → IsInStep (record (with_held s place (Some (begun id s.next_serial))) { next_serial = s.next_serial + 1 })
IsInStep-begun s place id is fewer within new =
    let there : place < length s.streams = omega (arith, is.places) in
    let content : Option PlacedStream = Some (begun id s.next_serial) in
    record {
      places = length-set s.streams place content ∙ is.places;
      next_serial = omega (arith, is.next_serial);
      calls = omega arith;
      live_once = LivesOnce-begun s.streams place id s.next_serial is.live_once there new;
      counted = counted_put s place content there
          (λ h same. subst (λ g. IsCounted g (s.calls + 1)) (same_Some (begun id s.next_serial) h same)
          (fresh_counted id s.next_serial s.calls is.next_serial))
          is.counted;
    }

-- A DATA cell that is packaged, where the window allows it.
pub packaged_counted : (h : PlacedStream) (calls : ℕ) → IsCounted h calls → IsTrue (may_package h)
    → IsCounted (after_packaging h) (calls + 1)
packaged_counted h calls is room =
    let below : h.packed < pack_grant h = ltb-true h.packed (pack_grant h) room in
    record {
      packed = omega arith;
      window = omega (arith, is.window);
      accepted = is.accepted;
      drained = is.drained;
      serial_within = omega (arith, is.serial_within);
      packed_within = omega (arith, is.packed_within);
      accepted_within = omega (arith, is.accepted_within);
    }
