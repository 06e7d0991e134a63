-- What a cell that is taken leaves as it was: events and body numbers.
use Rattle.std.proofs.Common.{◌++◌, ◌==◌, ◌∙◌, ◌∷◌, ◌≡◌, Bool, List, None, Option, Some, [], ap, false, if◌then◌else◌, length, refl, true, ℕ}
use Rattle.cell_codec.specs.declared.cell.Cell.{Cell}
use Rattle.circuit_model.specs.Events.{CircuitCell, Event}
use Rattle.circuit_model.specs.Packaged.{back_bodies}
use Rattle.circuit_model.specs.Rules.{Rules}
use Rattle.circuit_model.specs.Words.{log}
use Rattle.tr_io.specs.declared.answers.TakeAnswer.{TakeAnswer}
use Rattle.tr_io.specs.declared.answers.TakeAnswer.TheVariants.{PassedOver}
use Rattle.tr_io.specs.declared.answers.Why.{Why}
use Rattle.tr_io.specs.declared.names.Dir.{Dir}
use Rattle.tr_io.specs.declared.names.Dir.TheVariants.{Back, Forth}
use Rattle.tr_io.specs.declared.step.Step.{Step}
use Rattle.tr_io.specs.declared.step.Step.TheVariants.{Take}
use Rattle.switch_model.specs.History.Circuit.{events}
use Rattle.switch_model.specs.History.EdgePast.{EdgePast, edge_past, numbers_of}
use Rattle.switch_model.specs.History.Legs.{at}
use Rattle.switch_model.specs.History.Taken.{is_hop_leg, taken_forth}
use Rattle.switch_model.specs.Names.{Way, chan_no}
use Rattle.switch_model.specs.Waiting.Claims.{born_bodies, circuit_at, new_at}
use Rattle.switch_model.specs.Waiting.Orders.{left_orders, waiting_orders}
use Rattle.switch_model.proofs.Common.{and-false}
use Rattle.switch_machine.proofs.NewBodies.{all-new, new-none}

if-same : (b : Bool) (ev : List Event) → (if b then ev else ev) ≡ ev
if-same true ev = refl
if-same false ev = refl

-- a cell that is passed over is no event
pub events-passed : (rules : Rules) (h : List Step) (chan : ℕ) (cell : Cell) (why : Why) (d : ℕ)
    → events rules (Take (chan_no chan) cell (PassedOver why) ∷ h) d ≡ events rules h d
events-passed rules h chan cell why d = if-same (is_hop_leg d (at h chan cell.circ)) (events rules h d)

-- nor is one on leg 0
pub events-first : (rules : Rules) (h : List Step) (chan : ℕ) (cell : Cell) (a : TakeAnswer) (c d : ℕ)
    → at h chan cell.circ ≡ Some (record { circ = c; number = 0 }) →
    events rules (Take (chan_no chan) cell a ∷ h) d ≡ events rules h d
events-first rules h chan cell a c d here = rw (here, and-false (c == d)) refl

-- no new bodies

new-at : (rules : Rules) (h after : List Step) (o : Option ℕ) (all : List Way)
    → ((c : ℕ) → back_bodies (log rules (events rules after c)) ≡ back_bodies (log rules (events rules h c)))
    → ((c : ℕ) → taken_forth after c ≡ taken_forth h c) →
    new_at rules h after o ++ all ≡ all
new-at rules h after None all same_behind same_forth = refl
new-at rules h after (Some c) all same_behind same_forth =
    all-new _ _ all [] (new-none (record { circ = c; dir = Back }) _ _ (ap (λ (l : List (List ℕ)). length l) (same_behind c)))
    (new-none (record { circ = c; dir = Forth }) _ _ (ap (λ (l : List CircuitCell). length l) (same_forth c)))

pub born-alike : (rules : Rules) (h : List Step) (chan : ℕ) (cell : Cell) (a : TakeAnswer)
    → ((c : ℕ) → back_bodies (log rules (events rules (Take (chan_no chan) cell a ∷ h) c))
    ≡ back_bodies (log rules (events rules h c))) →
    ((c : ℕ) → taken_forth (Take (chan_no chan) cell a ∷ h) c ≡ taken_forth h c)
    → born_bodies rules (Take (chan_no chan) cell a ∷ h) ≡ born_bodies rules h
born-alike rules h chan cell a same_behind same_forth =
    new-at rules h (Take (chan_no chan) cell a ∷ h) (circuit_at (at h chan cell.circ)) (born_bodies rules h) same_behind
    same_forth

pub born-same : (rules : Rules) (h : List Step) (chan : ℕ) (cell : Cell) (a : TakeAnswer)
    → ((c : ℕ) → events rules (Take (chan_no chan) cell a ∷ h) c ≡ events rules h c) →
    ((c : ℕ) → taken_forth (Take (chan_no chan) cell a ∷ h) c ≡ taken_forth h c)
    → born_bodies rules (Take (chan_no chan) cell a ∷ h) ≡ born_bodies rules h
born-same rules h chan cell a same_events same_forth =
    born-alike rules h chan cell a (λ c. ap (λ ev. back_bodies (log rules ev)) (same_events c)) same_forth

-- what the edge sees of a circuit follows from its events and the body numbers

abbrev edge_past_of : Rules → List Step → ℕ → List Event → List Way → EdgePast
edge_past_of rules h d ev born = record (edge_past rules h d) {
  waiting_order_lists = λ serial. waiting_orders h d serial (log rules ev);
  left = λ serial. left_orders h d serial (log rules ev);
  numbers = λ dir. numbers_of (record { circ = d; dir = dir }) born;
}

pub edge-taken : (rules : Rules) (h : List Step) (chan : ℕ) (cell : Cell) (a : TakeAnswer) (d : ℕ)
    → events rules (Take (chan_no chan) cell a ∷ h) d ≡ events rules h d →
    ◌≡◌ {A = Dir → List ℕ}
    (λ dir. numbers_of (record { circ = d; dir = dir }) (born_bodies rules (Take (chan_no chan) cell a ∷ h)))
    (λ dir. numbers_of (record { circ = d; dir = dir }) (born_bodies rules h)) →
    edge_past rules (Take (chan_no chan) cell a ∷ h) d ≡ edge_past rules h d
edge-taken rules h chan cell a d same_events same_numbers =
    ap (λ ev. edge_past_of rules h d ev (born_bodies rules (Take (chan_no chan) cell a ∷ h))) same_events
    ∙ ap (λ f. record (edge_past rules h d) { numbers = f }) same_numbers
