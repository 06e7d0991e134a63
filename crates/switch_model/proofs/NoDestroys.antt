-- Events that bring no DESTROY, and CREATED2 only while it is awaited: they pass no DESTROY on, and a next hop that
-- is given up has no leg until another is linked.
use Rattle.std.specs.Prelude.{⊤}
use Rattle.std.proofs.Common.{◌≡◌, ℕ, ◌==◌, ◌⊎◌, Bool, true, false, if◌then◌else◌, is_some, unwrap_or, List, [], ◌∷◌, option_to_list, Option, Some, None, refl, sym, ◌∙◌, subst, inl, inr}
use Rattle.std.specs.List.{AllByRecursion}
use Rattle.std.specs.Option.{option_or}
use Rattle.tor_spec.specs.Extend.{Extend, handshake_reply}
use Rattle.circuit_model.specs.Events.{CircuitCell, Event}
use Rattle.circuit_model.specs.declared.event.Event.TheVariants.{Born, Forward, Backward, Connected, Data, Ended, Drained, Freed, Linked, Answered, Failed}
use Rattle.circuit_model.specs.declared.message.Received.TheVariants.{TooManyEarly, Unrecognised, TooLong, ForUs}
use Rattle.circuit_model.specs.declared.next_hop.NextHop.{NextHop}
use Rattle.circuit_model.specs.declared.next_hop.NextHop.TheVariants.{Absent, Dialling, Waiting, There}
use Rattle.circuit_model.specs.Effects.{passed_on, forward_effects, open_effects}
use Rattle.circuit_model.specs.Extending.{create2, creating, extending, accepted_request}
use Rattle.circuit_model.specs.Log.{Log, Effects, no_effects, is_closed, newest}
use Rattle.circuit_model.specs.NextHop.{next_hop, hop_by, has_leg, is_linked}
use Rattle.circuit_model.specs.Places.{Place, place_at}
use Rattle.circuit_model.specs.Received.{Received, received}
use Rattle.circuit_model.specs.Rules.{Rules}
use Rattle.circuit_model.specs.Streams.{edge_data_effects}
use Rattle.circuit_model.specs.Words.{log, effects}
use Rattle.circuit_model.proofs.Tame.{message-tame, connected-tame, ended-tame, drained-tame, extending-tame}
use Rattle.switch_model.specs.History.Circuit.{is_waiting}

abbrev pub IsNoDestroy : CircuitCell → Type 0
IsNoDestroy cell = (cell.command == 4) ≡ false

-- an event that may come behind some others
abbrev pub FitsBehind : Rules → List Event → Event → Type 0
FitsBehind rules ev (Born reply keys pad) = (reply.command == 4) ≡ false
FitsBehind rules ev (Forward command body) = (command == 4) ≡ false
FitsBehind rules ev (Answered payload) = is_waiting (next_hop (log rules ev)) ≡ true
FitsBehind rules ev e = ⊤

abbrev pub AllFit : Rules → List Event → Type 0
AllFit rules [] = ⊤
AllFit rules (e ∷ ev) = FitsBehind rules ev e × AllFit rules ev

-- such an event passes no DESTROY on
abbrev pub GivesNone : Effects → Type 0
GivesNone does = AllByRecursion IsNoDestroy (option_to_list does.forth)

none-given : (given : Option CircuitCell) → given ≡ None → AllByRecursion IsNoDestroy (option_to_list given)
none-given given none = subst (λ (o : Option CircuitCell). AllByRecursion IsNoDestroy (option_to_list o)) (sym none) tt

passed-none : (hop : NextHop) (cell : CircuitCell) → IsNoDestroy cell → GivesNone (passed_on hop cell)
passed-none There cell other = (other, tt)
passed-none Absent cell other = tt
passed-none Dialling cell other = tt
passed-none Waiting cell other = tt

forward-none : (rules : Rules) (l : Log) (command : ℕ) (r : Received) → (command == 4) ≡ false
    → GivesNone (forward_effects rules l command r)
forward-none rules l command TooManyEarly other = tt
forward-none rules l command (Unrecognised plain) other = passed-none (next_hop l) _ other
forward-none rules l command TooLong other = tt
forward-none rules l command (ForUs message) other = none-given _ (message-tame rules l message).no_cell

data-none : (l : Log) (bytes : List ℕ) (place : Option Place) → GivesNone (edge_data_effects l bytes place)
data-none l bytes None = tt
data-none l bytes (Some place) = tt

creating-none : (request : Option Extend) → GivesNone (creating request)
unfolding create2
creating-none None = tt
creating-none (Some request) = (refl, tt)

open-none : (rules : Rules) (ev : List Event) (e : Event) → FitsBehind rules ev e
    → GivesNone (open_effects rules (log rules ev) e)
unfolding open_effects
open-none rules ev (Forward command body) fits =
    forward-none rules (log rules ev) command (received (log rules ev) command body) fits
open-none rules ev (Born reply keys pad) fits = tt
open-none rules ev (Backward body) fits = tt
open-none rules ev (Connected serial) fits = none-given _ (connected-tame (log rules ev) (place_at (log rules ev) serial)).no_cell
open-none rules ev (Data serial bytes) fits = data-none (log rules ev) bytes (place_at (log rules ev) serial)
open-none rules ev (Ended serial reason) fits =
    none-given _ (ended-tame (log rules ev) reason (place_at (log rules ev) serial)).no_cell
open-none rules ev (Drained serial) fits = none-given _ (drained-tame (log rules ev) (place_at (log rules ev) serial)).no_cell
open-none rules ev (Freed serial) fits = tt
open-none rules ev Linked fits = creating-none (newest accepted_request (log rules ev))
open-none rules ev (Answered payload) fits = none-given _ (extending-tame (log rules ev) (handshake_reply payload)).no_cell
open-none rules ev Failed fits = tt

if-none : (b : Bool) (x : Effects) → GivesNone x → GivesNone (if b then no_effects else x)
if-none true x none = tt
if-none false x none = none

pub gives-none : (rules : Rules) (ev : List Event) (e : Event) → FitsBehind rules ev e → GivesNone (effects rules ev e)
gives-none rules ev e fits = if-none (is_closed (log rules ev)) _ (open-none rules ev e fits)

-- nor do Linked and Answered give a next hop up
if-cut : (b : Bool) (x y : Effects) → x.cut ≡ false → y.cut ≡ false → (if b then x else y).cut ≡ false
if-cut true x y one other = one
if-cut false x y one other = other

creating-cut : (request : Option Extend) → (creating request).cut ≡ false
creating-cut None = refl
creating-cut (Some request) = refl

extending-cut : (l : Log) (handshake : Option (List ℕ)) → (extending l handshake).cut ≡ false
extending-cut l None = refl
extending-cut l (Some handshake) = if-cut _ _ _ refl refl

pub linked-cut : (rules : Rules) (ev : List Event) → (effects rules ev Linked).cut ≡ false
unfolding open_effects
linked-cut rules ev = if-cut (is_closed (log rules ev)) no_effects _ refl (creating-cut (newest accepted_request (log rules ev)))

answered-cut : (rules : Rules) (ev : List Event) (payload : List ℕ) → (effects rules ev (Answered payload)).cut ≡ false
unfolding open_effects
answered-cut rules ev payload =
    if-cut (is_closed (log rules ev)) no_effects _ refl (extending-cut (log rules ev) (handshake_reply payload))

-- a next hop that is given up has no leg until another is linked
gone-by : (dials cut : Bool) (old : Option NextHop) → (cut ≡ true) ⊎ (has_leg (unwrap_or old Absent) ≡ false) →
    has_leg (unwrap_or (option_or (if dials then Some Dialling else (if cut then Some Absent else None)) old) Absent) ≡ false
gone-by true cut old why = refl
gone-by false true old why = refl
gone-by false false old (inl cuts) = absurd cc
gone-by false false old (inr gone) = gone

waiting-leg : (hop : NextHop) → is_waiting hop ≡ true → has_leg hop ≡ true
waiting-leg Waiting waits = refl
waiting-leg There waits = refl
waiting-leg Absent waits = absurd cc
waiting-leg Dialling waits = absurd cc

answered-by : (rules : Rules) (ev : List Event) (payload : List ℕ) → is_waiting (next_hop (log rules ev)) ≡ true
    → ((effects rules ev (Answered payload)).cut ≡ true) ⊎ (has_leg (next_hop (log rules ev)) ≡ false) → ⊥
answered-by rules ev payload waits (inl cuts) = let no : false ≡ true = sym (answered-cut rules ev payload) ∙ cuts in cc
answered-by rules ev payload waits (inr gone) = let no : true ≡ false =
    sym (waiting-leg (next_hop (log rules ev)) waits) ∙ gone in cc

pub hop-gone : (rules : Rules) (ev : List Event) (e : Event) → is_linked e ≡ false → FitsBehind rules ev e
    → ((effects rules ev e).cut ≡ true) ⊎ (has_leg (next_hop (log rules ev)) ≡ false)
    → has_leg (next_hop (log rules (e ∷ ev))) ≡ false
hop-gone rules ev Linked other fits why = absurd cc
hop-gone rules ev (Answered payload) other fits why = absurd (answered-by rules ev payload fits why)
hop-gone rules ev e other fits why =
    gone-by (is_some (effects rules ev e).dial) (effects rules ev e).cut
    (newest (λ entry. hop_by entry.event entry.effects) (log rules ev)) why
