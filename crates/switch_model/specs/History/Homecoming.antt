-- What the return of a claim adds to its circuit, where it is accepted: exactly the bodies of the claim, which
-- are the next of their direction.
use Rattle.std.specs.Prelude.{ℕ, ◌≡◌, ◌+◌, List, [], ◌∷◌, ◌++◌, length, take, Option}
use Rattle.circuit_model.specs.Events.{CircuitCell}
use Rattle.circuit_model.specs.Packaged.{back_bodies}
use Rattle.circuit_model.specs.Rules.{Rules}
use Rattle.tr_io.specs.declared.answers.BackAnswer.{BackAnswer}
use Rattle.tr_io.specs.declared.answers.BackAnswer.TheVariants.{Settled}
use Rattle.tr_io.specs.declared.names.ClaimNote.{ClaimNote}
use Rattle.tr_io.specs.declared.step.Step.{Step}
use Rattle.tr_io.specs.declared.step.Step.TheVariants.{GiveBack}
use Rattle.switch_model.specs.History.Taken.{taken_forth, claimed_cells}
use Rattle.switch_model.specs.History.Circuit.{events}
use Rattle.switch_model.specs.Waiting.Queues.{circuit_log, sealed_count}
use Rattle.circuit_model.specs.Batches.{events_behind}
use Rattle.switch_model.specs.Waiting.Contents.{claimed_bodies}
use Rattle.switch_model.specs.History.Relayed.{settled_forth}

-- Forth: the claim has the next cells that were taken, all of them settle in their order, and where the
-- circuit closes those behind the body that closes are no events.
pub record AddsNext (rules : Rules) (h : List Step) (note : ClaimNote) (place : Option ℕ) (answer : BackAnswer) : Type 0 where
  pub settling_cells : List CircuitCell
  pub unsettled_cells : List CircuitCell
  pub rest : List CircuitCell
  pub claim : settling_cells ++ unsettled_cells ≡ claimed_cells h note
  pub all : answer ≡ Settled → unsettled_cells ≡ []
  pub count : length (claimed_cells h note) ≡ note.count
  pub next : settled_forth (circuit_log rules h note.circ.0) ++ claimed_cells h note ++ rest ≡ taken_forth h note.circ.0
  pub events : events rules (GiveBack note place answer ∷ h) note.circ.0 ≡ events_behind (events rules h note.circ.0)
      settling_cells

-- Back: the claim has the next bodies that went back, and they are sealed now.
pub record SealsNext (rules : Rules) (h : List Step) (note : ClaimNote) (place : Option ℕ) : Type 0 where
  pub count : length (claimed_bodies rules h note) ≡ note.count
  pub sealed : sealed_count (GiveBack note place Settled ∷ h) note.circ.0 ≡ sealed_count h note.circ.0 + note.count
  pub next : take (sealed_count h note.circ.0) (back_bodies (circuit_log rules h note.circ.0)) ++ claimed_bodies rules h note
      ≡ take (sealed_count h note.circ.0 + note.count) (back_bodies (circuit_log rules h note.circ.0))
