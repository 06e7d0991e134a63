use Rattle.std.proofs.Common.{◌≡◌, ℕ, Option, Some, None, get_or, replicate, refl, zero, suc, arith, sym, ap, false, ◌∙◌}
use Rattle.std.specs.Prelude.{IsTrue}
use Rattle.stream_edge.specs.declared.placed_stream.PlacedStream.{PlacedStream}
use Rattle.stream_edge.specs.Streams.{is_live_as}
use Rattle.stream_edge.proofs.places.Places.new.Goals as goal

-- a free place holds nothing
all_free : (n place : ℕ) → ◌≡◌ {A = Option PlacedStream} (get_or (replicate n None) place None) None
all_free zero place = refl
all_free (suc n) zero = refl
all_free (suc n) (suc place) = all_free n place

none_live : (id : ℕ) (stream : Option PlacedStream) → stream ≡ None → IsTrue (is_live_as id stream) → ⊥
none_live id stream free live =
    let off : is_live_as id stream ≡ false = ap (is_live_as id) free in
    cc

pub invariant_of-result : goal.invariant_of-result
invariant_of-result c = record {
  places = refl;
  next_serial = omega arith;
  calls = omega arith;
  live_once = λ one other id a b. absurd (none_live id (get_or (replicate 32 None) one None) (all_free 32 one) a);
  counted = λ place h is.
      let never : ◌≡◌ {A = Option PlacedStream} None (Some h) = sym (all_free 32 place) ∙ is in
      cc;
}
