-- A circuit without events.
use Rattle.std.proofs.Common.{◌≡◌, ℕ, zero, suc, [], Option, None, refl, sym, ◌∙◌, arith, get_or, replicate}
use Rattle.circuit_model.specs.Places.{phase}
use Rattle.stream_edge.specs.declared.placed_stream.PlacedStream.{PlacedStream}
use Rattle.circ_relay.specs.PlacesOfLog.{IsUntold, ArePlaces}
use Rattle.circ_relay.proofs.Changing.{none-held}

nothing-told : (serial : ℕ) → IsUntold [] serial
unfolding phase
nothing-told serial = record { phase = refl; packed = refl; credits = refl; accepted = refl; drained = refl }

nothing-held : (n place : ℕ) → ◌≡◌ {A = Option PlacedStream} (get_or (replicate n None) place None) None
nothing-held zero place = refl
nothing-held (suc n) zero = refl
nothing-held (suc n) (suc place) = nothing-held n place

pub nothing_is_held : ArePlaces (record { streams = replicate 32 None; next_serial = 0; calls = 0 }) []
nothing_is_held = record {
  next = refl;
  streams = λ place h is. absurd (none-held h (sym (nothing-held 32 place) ∙ is));
  once = λ one other g h is also equal. absurd (none-held g (sym (nothing-held 32 one) ∙ is));
  whole = λ serial short lasts. absurd (omega (arith, short));
  untold = λ serial beyond. nothing-told serial;
}
