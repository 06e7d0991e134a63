-- What the calls of a port add to the steps that were made with a pass.
use Rattle.std.specs.Prelude.{◌≡◌, ℕ, ◌^◌, ◌≤◌, ⊤, List, [], ◌∷◌, ◌++◌, length, Option, Some, None}
use Rattle.cell_codec.specs.declared.cell.Cell.{Cell}
use Rattle.kdf_tor.specs.declared.LayerKeys.{LayerKeys}
use Rattle.tr_io.specs.declared.answers.UpAnswer.{UpAnswer}
use Rattle.tr_io.specs.declared.answers.OpenAnswer.{OpenAnswer}
use Rattle.tr_io.specs.declared.answers.TakeAnswer.{TakeAnswer}
use Rattle.tr_io.specs.declared.answers.ClaimAnswer.{ClaimAnswer}
use Rattle.tr_io.specs.declared.answers.ClaimAnswer.TheVariants as Claims
use Rattle.tr_io.specs.declared.answers.EdgeAnswer.{EdgeAnswer}
use Rattle.tr_io.specs.declared.answers.DialAnswer.{DialAnswer}
use Rattle.tr_io.specs.declared.dials.DialOrder.{DialOrder as Dial}
use Rattle.tr_io.specs.declared.dials.DialStep.{DialStep}
use Rattle.tr_io.specs.declared.dials.DialOutcome.{DialOutcome}
use Rattle.tr_io.specs.declared.edges.EdgeEvent.{EdgeEvent}
use Rattle.tr_io.specs.declared.edges.EdgeEvent.TheVariants as Events
use Rattle.tr_io.specs.declared.edges.EdgeOrder.{EdgeOrder}
use Rattle.tr_io.specs.declared.edges.EdgeOrder.TheVariants as Orders
use Rattle.tr_io.specs.declared.names.ChanNo.{ChanNo}
use Rattle.tr_io.specs.declared.names.ClaimNote.{ClaimNote}
use Rattle.tr_io.specs.declared.names.Side.{Side}
use Rattle.tr_io.specs.declared.names.StreamKey.{StreamKey}
use Rattle.tr_io.specs.declared.step.EventStep.{EventStep}
use Rattle.tr_io.specs.declared.step.EventStep.TheVariants as EventSteps
use Rattle.tr_io.specs.declared.step.OrderStep.{OrderStep}
use Rattle.tr_io.specs.declared.step.OrderStep.TheVariants as OrderSteps
use Rattle.tr_io.specs.declared.step.Step.{Step}
use Rattle.tr_io.specs.declared.step.Step.TheVariants.{ChannelUp, OpenCircuit, Take, Claim, EdgeIn, EdgeOut, Drained, DialDone}
use Rattle.tr_io.specs.declared.stepping.Turn.{Turn}
use Rattle.tr_io.specs.declared.stepping.Turn.TheVariants.{Did, Spent}

-- These steps stand behind those made before, and there are never more than 2 ^ 62.
pub record Adds (before steps after : List Step) : Type 0 where
  pub behind : after ≡ before ++ steps
  pub few : length after ≤ 2 ^ 62

-- A call adds the steps of its answer. Where no step was left, none is added.
abbrev pub CallAdds : {A : Type 0} → (A → List Step) → List Step → Turn A → List Step → Type 0
CallAdds steps before (Did a) after = Adds before (steps a) after
CallAdds steps before Spent after = after ≡ before

-- What holds of the answer, where the turn was made.
abbrev pub IfDid : {A : Type 0} → Turn A → (A → Type 0) → Type 0
IfDid (Did a) P = P a
IfDid Spent P = ⊤

-- What holds where no step was left.
abbrev pub IfSpent : {A : Type 0} → Turn A → Type 0 → Type 0
IfSpent (Did a) P = ⊤
IfSpent Spent P = P

-- The steps of each call, by its answer: one, with this answer. A call that wanted memory is none.

abbrev pub up_steps : ℕ → Side → UpAnswer → List Step
up_steps slot side UpAnswer.Memory = []
up_steps slot side answer = ChannelUp slot side answer ∷ []

abbrev pub open_steps : ChanNo → ℕ → Cell → Option LayerKeys → Option (List ℕ) → OpenAnswer → List Step
open_steps chan id reply keys pad OpenAnswer.Memory = []
open_steps chan id reply keys pad answer = OpenCircuit chan id reply keys pad answer ∷ []

abbrev pub take_steps : ChanNo → Cell → TakeAnswer → List Step
take_steps chan cell TakeAnswer.Memory = []
take_steps chan cell answer = Take chan cell answer ∷ []

abbrev pub claim_steps : {J : Type 0} → (J → ClaimNote) → ℕ → ClaimAnswer J → List Step
claim_steps note worker (Claims.Job job) = Claim worker (Some (note job)) ∷ []
claim_steps note worker Claims.Nothing = Claim worker None ∷ []
claim_steps note worker Claims.Memory = []

-- What holds of the job, where a claim gave one.
abbrev pub IfJob : {J : Type 0} → (J → Type 0) → ClaimAnswer J → Type 0
IfJob P (Claims.Job job) = P job
IfJob P Claims.Nothing = ⊤
IfJob P Claims.Memory = ⊤

abbrev pub drained_steps : StreamKey → EdgeAnswer → List Step
drained_steps key EdgeAnswer.Memory = []
drained_steps key answer = Drained key answer ∷ []

abbrev pub dial_done_steps : DialStep → DialOutcome → DialAnswer → List Step
dial_done_steps order outcome DialAnswer.Memory = []
dial_done_steps order outcome answer = DialDone order outcome answer ∷ []

-- What a step keeps of an order to dial.
abbrev pub dial_step_of : Dial → DialStep
dial_step_of dial = record { order = dial.order; circ = dial.circ; to = dial.to; over = dial.over }

-- The step keeps what the edge reported.
abbrev pub IsEventStep : EdgeEvent → EventStep → Type 0
IsEventStep Events.Connected event = event ≡ EventSteps.Connected
IsEventStep (Events.Data bytes) (EventSteps.Data octets) = octets.bytes.items ≡ bytes.items
IsEventStep (Events.Data bytes) event = ⊥
IsEventStep (Events.Ended reason) event = event ≡ EventSteps.Ended reason

abbrev pub EdgeInAdds : StreamKey → EdgeEvent → List Step → Turn EdgeAnswer → List Step → Type 0
EdgeInAdds key event before (Did EdgeAnswer.Memory) after = Adds before [] after
EdgeInAdds key event before (Did answer) after =
    (step : EventStep) × IsEventStep event step × Adds before (EdgeIn key step answer ∷ []) after
EdgeInAdds key event before Spent after = after ≡ before

-- The step keeps what was ordered.
abbrev pub IsOrderStep : EdgeOrder → OrderStep → Type 0
IsOrderStep (Orders.Reach key to) order = order ≡ OrderSteps.Reach key to
IsOrderStep (Orders.Carry key bytes) (OrderSteps.Carry other octets) = (other ≡ key) × (octets.bytes.items ≡ bytes.items)
IsOrderStep (Orders.Carry key bytes) order = ⊥
IsOrderStep (Orders.Close key reason) order = order ≡ OrderSteps.Close key reason

abbrev pub KeepsOrder : Option EdgeOrder → Option OrderStep → Type 0
KeepsOrder None step = step ≡ None
KeepsOrder (Some order) None = ⊥
KeepsOrder (Some order) (Some step) = IsOrderStep order step

abbrev pub EdgeOutAdds : ℕ → List Step → Turn (Option EdgeOrder) → List Step → Type 0
EdgeOutAdds slot before (Did order) after =
    (step : Option OrderStep) × KeepsOrder order step × Adds before (EdgeOut slot step ∷ []) after
EdgeOutAdds slot before Spent after = after ≡ before

-- The bytes of one DATA, where the edge reports some (tor-spec, "Relay cells").
abbrev pub FitsCell : EdgeEvent → Type 0
FitsCell Events.Connected = ⊤
FitsCell (Events.Data bytes) = (1 ≤ length bytes.items) × (length bytes.items ≤ 498)
FitsCell (Events.Ended reason) = ⊤
