-- What a claim's answer says of the direction that it took.
use Rattle.std.proofs.Common.{◌≡◌, ℕ, Bool, true, false, if◌then◌else◌, is_none, List, [], ◌∷◌, Option, Some, None, option_map, refl}
use Rattle.std.specs.Option.{option_or}
use Rattle.circuit_model.specs.Rules.{Rules}
use Rattle.tr_io.specs.declared.names.ClaimNote.{ClaimNote}
use Rattle.tr_io.specs.declared.step.Step.{Step}
use Rattle.switch_model.specs.Start.{SwitchStart}
use Rattle.switch_model.specs.Names.{Way, way_of}
use Rattle.switch_model.specs.History.Circuit.{is_live_circuit}
use Rattle.switch_model.specs.Waiting.Claims.{claimed_count, claim_out, is_ready, born_bodies, waits_here, first_waiting, claim_count}
use Rattle.switch_model.specs.Answers.Claim.{claim_answer, note_for}
use Rattle.switch_model.proofs.Common.{and-first, and-second}

-- it was ready, and its note says which bodies the worker has
pub record Claimed (start : SwitchStart) (h : List Step) (note : ClaimNote) : Type 0 where
  pub live : is_live_circuit start.rules h note.circ.0 ≡ true
  pub home : claim_out h (way_of note) ≡ None
  pub first : note.first ≡ claimed_count h (way_of note)
  pub count : note.count ≡ claim_count start.rules h (way_of note)

ready-either : (rules : Rules) (h : List Step) (way w : Way) (o : Option Way) (b : Bool) → (b ≡ true → is_ready rules h w ≡ true)
    → (o ≡ Some way → is_ready rules h way ≡ true) →
    option_or o (if b then Some w else None) ≡ Some way → is_ready rules h way ≡ true
ready-either rules h way w (Some x) b here older is = older is
ready-either rules h way w None true here older is = let same : w ≡ way = cc in rw (← same) (here refl)
ready-either rules h way w None false here older is = absurd cc

first-ready : (rules : Rules) (h : List Step) (way : Way) (bodies_listed : List Way)
    → first_waiting rules h bodies_listed ≡ Some way → is_ready rules h way ≡ true
first-ready rules h way [] is = absurd cc
first-ready rules h way (w ∷ older) is =
    ready-either rules h way w (first_waiting rules h older) (waits_here rules h w older)
    (λ waits. and-first (is_ready rules h w) _ waits) (first-ready rules h way older) is

none-is : {A : Type 0} (o : Option A) → is_none o ≡ true → o ≡ None
none-is None is = refl
none-is (Some x) is = absurd cc

for-way : (start : SwitchStart) (h : List Step) (worker : ℕ) (way : Way) → is_ready start.rules h way ≡ true
    → Claimed start h (note_for start h worker way)
for-way start h worker way ready = record {
  live = and-first (is_live_circuit start.rules h way.circ) _ ready;
  home = none-is (claim_out h way)
      (and-first (is_none (claim_out h way)) _ (and-second (is_live_circuit start.rules h way.circ) _ ready));
  first = refl;
  count = refl;
}

by-way : (start : SwitchStart) (h : List Step) (worker : ℕ) (note : ClaimNote) (o : Option Way)
    → ((way : Way) → o ≡ Some way → is_ready start.rules h way ≡ true) → Some note ≡ option_map (note_for start h worker) o
    → Claimed start h note
by-way start h worker note None ready is = absurd cc
by-way start h worker note (Some way) ready is = let same : note ≡ note_for start h worker way =
    cc in rw same (for-way start h worker way (ready way refl))

pub claimed-by : (start : SwitchStart) (h : List Step) (worker : ℕ) (note : ClaimNote) → Some note ≡ claim_answer start h worker
    → Claimed start h note
claimed-by start h worker note is =
    by-way start h worker note (first_waiting start.rules h (born_bodies start.rules h))
    (λ way found. first-ready start.rules h way (born_bodies start.rules h) found) is
