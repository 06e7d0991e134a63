-- What leaves on a channel, by the history alone: nothing exactly where nothing is owed, and on the leg of a
-- torn circuit a DESTROY of the lane.
use Rattle.std.proofs.Common.{◌≡◌, ℕ, ◌+◌, ◌==◌, ◌&&◌, Bool, true, false, if◌then◌else◌, List, [], ◌∷◌, ◌++◌, map, Option, Some, None, refl, sym, ◌∙◌, ap, subst, zero, suc}
use Rattle.std.specs.List.{AllByRecursion}
use Rattle.cell_codec.specs.declared.cell.Cell.{Cell}
use Rattle.circuit_model.specs.Events.{CircuitCell}
use Rattle.circuit_model.specs.Rules.{Rules}
use Rattle.circuit_model.specs.Sent.{destroy}
use Rattle.tr_io.specs.declared.step.Step.{Step}
use Rattle.switch_model.specs.Names.{Leg, Way, is_leg}
use Rattle.switch_model.specs.Start.{SwitchStart}
use Rattle.switch_model.specs.Waiting.Claims.{is_ready, born_bodies, first_waiting}
use Rattle.switch_model.specs.Answers.Claim.{claim_answer}
use Rattle.switch_model.specs.History.Channels.{is_live_channel}
use Rattle.switch_model.specs.History.Legs.{Port, port, on_channel, circuits, hops, at, holds_id}
use Rattle.switch_model.specs.History.Circuit.{is_live_circuit}
use Rattle.switch_model.specs.Waiting.Lanes.{Destroy, lane}
use Rattle.switch_model.specs.Waiting.Queues.{queue}
use Rattle.switch_model.specs.Waiting.Counts.{some_in, count_at, waiting_of, waiting_below, waiting_legs, least_of, lesser}
use Rattle.switch_model.specs.Answers.NextCell.{first_queued, first_of, destroy_or, next_cell_answer, IsOldestDestroy}
use Rattle.switch_model.specs.Waiting.Rest.{queues_of, owed_cells}
use Rattle.switch_model.proofs.Least.{least-has}
use Rattle.switch_model.proofs.Common.{and-first, and-second, same-number, all-append}

-- a leg that waits on a channel
abbrev pub WaitsThere : Rules → List Step → ℕ → Leg → Type 0
WaitsThere rules h chan leg = (on_channel chan (port h leg.circ leg.number) && some_in (queue rules h leg.circ leg.number)) ≡ true

one-waits : (P : Leg → Type 0) (b : Bool) (leg : Leg) → (b ≡ true → P leg) → AllByRecursion P (if b then leg ∷ [] else [])
one-waits P true leg own = (own refl, tt)
one-waits P false leg own = tt

waits-of : (rules : Rules) (h : List Step) (chan c k : ℕ) → AllByRecursion (WaitsThere rules h chan) (waiting_of rules h chan c k)
waits-of rules h chan c zero = tt
waits-of rules h chan c (suc k) =
    all-append (WaitsThere rules h chan) (waiting_of rules h chan c k) _ (waits-of rules h chan c k)
    (one-waits (WaitsThere rules h chan) (on_channel chan (port h c k) && some_in (queue rules h c k))
    (record { circ = c; number = k }) (λ it. it))

pub waits-below : (rules : Rules) (h : List Step) (chan c : ℕ)
    → AllByRecursion (WaitsThere rules h chan) (waiting_below rules h chan c)
waits-below rules h chan zero = tt
waits-below rules h chan (suc c) =
    all-append (WaitsThere rules h chan) (waiting_below rules h chan c) _ (waits-below rules h chan c)
    (waits-of rules h chan c (hops h c + 1))

and-none : (b : Bool) → (b && false) ≡ false
and-none true = refl
and-none false = refl

-- its first cell
first-some : (chan : ℕ) (p : Option Port) (q : List CircuitCell) → (on_channel chan p && some_in q) ≡ true
    → (cell : Cell) × (first_queued p q ≡ Some cell)
first-some chan (Some place) (cell ∷ cells) waits = (_, refl)
first-some chan (Some place) [] waits = let none : false ≡ true = sym (and-none (place.chan == chan)) ∙ waits in absurd cc
first-some chan None q waits = absurd cc

nothing-owed : (rules : Rules) (h : List Step) (chan : ℕ) (f : Leg → ℕ) (waits : List Destroy) (legs : List Leg)
    → AllByRecursion (WaitsThere rules h chan) legs →
    destroy_or waits (first_of rules h (least_of f legs)) ≡ None
    → map (λ d. destroy d.reason) waits ++ queues_of rules h legs ≡ []
nothing-owed rules h chan f (d ∷ waits) legs all none = absurd cc
nothing-owed rules h chan f [] [] all none = refl
nothing-owed rules h chan f [] (leg ∷ legs) all none =
    let picked = lesser f leg (least_of f legs) in
    let own : WaitsThere rules h chan picked = least-has (WaitsThere rules h chan) f (leg ∷ legs) all picked refl in
    let some = first-some chan (port h picked.circ picked.number) (queue rules h picked.circ picked.number) own in
    let both : Some some.0 ≡ None = sym some.1 ∙ none in
    absurd cc

some-queued : (q more : List CircuitCell) → some_in q ≡ true → q ++ more ≡ [] → ⊥
some-queued [] more some none = cc
some-queued (cell ∷ q) more some none = cc

nothing-sent : (rules : Rules) (h : List Step) (chan : ℕ) (f : Leg → ℕ) (waits : List Destroy) (legs : List Leg)
    → AllByRecursion (WaitsThere rules h chan) legs →
    map (λ d. destroy d.reason) waits ++ queues_of rules h legs ≡ []
    → destroy_or waits (first_of rules h (least_of f legs)) ≡ None
nothing-sent rules h chan f (d ∷ waits) legs all none = absurd cc
nothing-sent rules h chan f [] [] all none = refl
nothing-sent rules h chan f [] (leg ∷ legs) all none =
    absurd (some-queued (queue rules h leg.circ leg.number) (queues_of rules h legs)
    (and-second (on_channel chan (port h leg.circ leg.number)) _ all.0) none)

pub none_is_owed : (rules : Rules) (h : List Step) (chan tick : ℕ) → is_live_channel h chan ≡ true
    → next_cell_answer rules h chan tick ≡ None → owed_cells rules h chan ≡ []
none_is_owed rules h chan tick on_live none =
    nothing-owed rules h chan (count_at rules h tick) (lane rules h chan) (waiting_legs rules h chan)
    (waits-below rules h chan (circuits h)) (rw on_live at none)

pub none_leaves : (rules : Rules) (h : List Step) (chan tick : ℕ) → is_live_channel h chan ≡ true → owed_cells rules h chan ≡ []
    → next_cell_answer rules h chan tick ≡ None
none_leaves rules h chan tick on_live none =
    rw on_live (nothing-sent rules h chan (count_at rules h tick) (lane rules h chan) (waiting_legs rules h chan)
    (waits-below rules h chan (circuits h)) none)

pub no_channel_sends : (rules : Rules) (h : List Step) (chan tick : ℕ) → is_live_channel h chan ≡ false
    → next_cell_answer rules h chan tick ≡ None
no_channel_sends rules h chan tick gone = rw gone refl

-- a cell that isn't of the lane is of a live circuit
pub if-some : (b : Bool) (cells : List CircuitCell) → some_in (if b then cells else []) ≡ true → b ≡ true
if-some true cells some = refl
if-some false cells some = some

abbrev pub circ-of : Cell → ℕ
circ-of cell = cell.circ

pub some-same : {A : Type 0} {x y : A} → ◌≡◌ {A = Option A} (Some x) (Some y) → x ≡ y
some-same e = cc

same-leg : (lc lk c k : ℕ) (x : Option Leg) → is_leg lc lk x ≡ true → is_leg c k x ≡ true → lc ≡ c
same-leg lc lk c k None here there = absurd cc
same-leg lc lk c k (Some leg) here there =
    sym (same-number leg.circ lc (and-first (leg.circ == lc) _ here)) ∙ same-number leg.circ c (and-first (leg.circ == c) _ there)

leg-live : (h : List Step) (chan lc lk c k : ℕ) (p : Option Port) (q : List CircuitCell) (cell : Cell)
    → (on_channel chan p && some_in q) ≡ true → first_queued p q ≡ Some cell →
    ((place : Port) → p ≡ Some place → is_leg lc lk (at h place.chan place.id) ≡ true) → is_leg c k (at h chan cell.circ) ≡ true
    → lc ≡ c
leg-live h chan lc lk c k (Some place) (first ∷ cells) cell waits given named of_leg =
    let same_chan : place.chan ≡ chan = same-number place.chan chan (and-first (place.chan == chan) _ waits) in
    let is : place.id ≡ cell.circ = ap circ-of (some-same given) in
    same-leg lc lk c k (at h chan cell.circ)
    (subst (λ n. is_leg lc lk (at h chan n) ≡ true) is
    (subst (λ n. is_leg lc lk (at h n place.id) ≡ true) same_chan (named place refl))) of_leg
leg-live h chan lc lk c k (Some place) [] cell waits given named of_leg = absurd cc
leg-live h chan lc lk c k None q cell waits given named of_leg = absurd cc

by-lane : (rules : Rules) (h : List Step) (chan c k : ℕ) (f : Leg → ℕ) (waits : List Destroy) (legs : List Leg) (cell : Cell)
    → lane rules h chan ≡ waits → AllByRecursion (WaitsThere rules h chan) legs →
    destroy_or waits (first_of rules h (least_of f legs)) ≡ Some cell → is_leg c k (at h chan cell.circ) ≡ true
    → is_live_circuit rules h c ≡ false → IsOldestDestroy rules h chan cell
by-lane rules h chan c k f (d ∷ waits) legs cell is all left of_leg torn =
    record { oldest = d; later = waits; lane_is = is; cell_is = sym (some-same left) }
by-lane rules h chan c k f [] [] cell is all left of_leg torn = absurd cc
by-lane rules h chan c k f [] (leg ∷ legs) cell is all left of_leg torn =
    let picked = lesser f leg (least_of f legs) in
    let own : WaitsThere rules h chan picked = least-has (WaitsThere rules h chan) f (leg ∷ legs) all picked refl in
    let both : (is_live_circuit rules h picked.circ && holds_id h picked.circ picked.number) ≡ true =
    if-some _ _ (and-second (on_channel chan (port h picked.circ picked.number)) _ own) in
    let named : (place : Port) → port h picked.circ picked.number ≡ Some place → is_leg picked.circ picked.number
    (at h place.chan place.id) ≡ true =
    λ place lies. rw lies at (and-second (is_live_circuit rules h picked.circ) _ both) in
    let same : picked.circ ≡ c =
    leg-live h chan picked.circ picked.number c k (port h picked.circ picked.number) (queue rules h picked.circ picked.number)
    cell own left named of_leg in
    let alive : is_live_circuit rules h c ≡ true =
    subst (λ n. is_live_circuit rules h n ≡ true) same (and-first (is_live_circuit rules h picked.circ) _ both) in
    let no : true ≡ false = sym alive ∙ torn in
    absurd cc

torn-by : (rules : Rules) (h : List Step) (chan tick c k : ℕ) (cell : Cell) (b : Bool) → is_live_channel h chan ≡ b
    → next_cell_answer rules h chan tick ≡ Some cell →
    is_leg c k (at h chan cell.circ) ≡ true → is_live_circuit rules h c ≡ false → IsOldestDestroy rules h chan cell
torn-by rules h chan tick c k cell true on_live left of_leg torn =
    by-lane rules h chan c k (count_at rules h tick) (lane rules h chan) (waiting_legs rules h chan) cell refl
    (waits-below rules h chan (circuits h)) (rw on_live at left) of_leg torn
torn-by rules h chan tick c k cell false on_live left of_leg torn = let none : None ≡ Some cell = rw on_live at left in absurd cc

pub torn_sends_destroy : (rules : Rules) (h : List Step) (chan tick c k : ℕ) (cell : Cell)
    → next_cell_answer rules h chan tick ≡ Some cell →
    is_leg c k (at h chan cell.circ) ≡ true → is_live_circuit rules h c ≡ false → IsOldestDestroy rules h chan cell
torn_sends_destroy rules h chan tick c k cell left of_leg torn =
    torn-by rules h chan tick c k cell (is_live_channel h chan) refl left of_leg torn

-- where no direction is ready, a claim finds nothing
none-waits : (rules : Rules) (h : List Step) → ((way : Way) → is_ready rules h way ≡ false) → (bodies : List Way)
    → first_waiting rules h bodies ≡ None
none-waits rules h none [] = refl
none-waits rules h none (way ∷ older) = rw (none-waits rules h none older, none way) refl

pub claim_finds_nothing : (start : SwitchStart) (h : List Step) (worker : ℕ) → ((way : Way) → is_ready start.rules h way ≡ false)
    → claim_answer start h worker ≡ None
claim_finds_nothing start h worker none = rw (none-waits start.rules h none (born_bodies start.rules h)) refl
