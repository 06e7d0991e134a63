-- In a legal history what left on a leg is the beginning of what the one-thread relay sends there, and the cell
-- that leaves next is the next of it.
use Rattle.std.proofs.Common.{◌≡◌, ℕ, ◌+◌, ◌≤◌, ◌==◌, ◌&&◌, Bool, true, false, if◌then◌else◌, List, [], ◌∷◌, ◌++◌, length, drop, slice_get, Option, Some, None, refl, sym, ◌∙◌, ap, subst, append_assoc, arith, zero, suc}
use Rattle.std.specs.List.{AllByRecursion}
use Rattle.std.proofs.lemmas.List.{take-append-drop}
use Rattle.cell_codec.specs.declared.cell.Cell.{Cell}
use Rattle.circuit_model.specs.Events.{CircuitCell}
use Rattle.circuit_model.specs.Log.{Log}
use Rattle.circuit_model.specs.Rules.{Rules}
use Rattle.circuit_model.specs.Sent.{leg_cells}
use Rattle.tr_io.specs.declared.answers.OpenAnswer.TheVariants.{Opened}
use Rattle.tr_io.specs.declared.names.ChanNo.{ChanNo}
use Rattle.tr_io.specs.declared.names.Dir.TheVariants.{Forth}
use Rattle.tr_io.specs.declared.step.Step.{Step}
use Rattle.tr_io.specs.declared.step.Step.TheVariants.{OpenCircuit, NextCell}
use Rattle.switch_model.specs.Start.{SwitchStart}
use Rattle.switch_model.specs.Names.{Leg, is_leg, circuit_cell}
use Rattle.switch_model.specs.History.Channels.{is_live_channel}
use Rattle.switch_model.specs.History.Legs.{Port, port, on_channel, circuits, at, holds_id}
use Rattle.switch_model.specs.History.Circuit.{is_live_circuit, sent, opens}
use Rattle.switch_model.specs.Waiting.Queues.{circuit_log, sealed_count, sendable, queue}
use Rattle.switch_model.specs.Waiting.Lanes.{Destroy, lane}
use Rattle.switch_model.specs.Waiting.Counts.{some_in, count_at, waiting_legs, least_of, lesser}
use Rattle.switch_model.specs.Answers.NextCell.{cell_at, first_queued, first_of, destroy_or, next_cell_answer}
use Rattle.switch_model.specs.Legal.{IsLegal}
use Rattle.switch_model.proofs.Common.{Begins, same-list, none-begins, both-begin, and-first, and-second, same-number}
use Rattle.switch_model.proofs.Least.{least-has}
use Rattle.switch_model.proofs.Leaving.{WaitsThere, waits-below, if-some, circ-of, some-same}
use Rattle.switch_model.proofs.Waits.{sent_and_queued}
use Rattle.switch_model.proofs.Unopened.{opened-number, not-yet}
use Rattle.switch_model.proofs.LogGrows.{sendable-grows}
use Rattle.switch_model.proofs.LaneIds.{IsApart, apart}

-- a cell that leaves on a leg of a live circuit is the first that waits there
pub record IsFirst (rules : Rules) (h : List Step) (c k : ℕ) (cell : Cell) : Type 0 where
  pub holds : holds_id h c k ≡ true
  pub later : List CircuitCell
  pub queue_is : queue rules h c k ≡ circuit_cell cell ∷ later

same-leg : (lc lk c k : ℕ) (x : Option Leg) → is_leg lc lk x ≡ true → is_leg c k x ≡ true → (lc ≡ c) × (lk ≡ k)
same-leg lc lk c k None here there = absurd cc
same-leg lc lk c k (Some leg) here there = (
  sym (same-number leg.circ lc (and-first (leg.circ == lc) _ here)) ∙ same-number leg.circ c (and-first (leg.circ == c) _ there),
  sym (same-number leg.number lk (and-second (leg.circ == lc) _ here))
      ∙ same-number leg.number k (and-second (leg.circ == c) _ there),
)

record IsQueued (lc lk c k : ℕ) (q : List CircuitCell) (cell : Cell) : Type 0 where
  pub same : (lc ≡ c) × (lk ≡ k)
  pub later : List CircuitCell
  pub queue_is : q ≡ circuit_cell cell ∷ later

queued-by : (h : List Step) (chan lc lk c k : ℕ) (p : Option Port) (q : List CircuitCell) (cell : Cell)
    → (on_channel chan p && some_in q) ≡ true → first_queued p q ≡ Some cell →
    ((place : Port) → p ≡ Some place → is_leg lc lk (at h place.chan place.id) ≡ true) → is_leg c k (at h chan cell.circ) ≡ true
    → IsQueued lc lk c k q cell
queued-by h chan lc lk c k (Some place) (first ∷ cells) cell waits given named of_leg =
    let same_chan : place.chan ≡ chan = same-number place.chan chan (and-first (place.chan == chan) _ waits) in
    let it : cell_at place.id first ≡ cell = some-same given in
    let is : place.id ≡ cell.circ = ap circ-of it in
    let first_is : first ≡ circuit_cell cell = ap circuit_cell it in
    record {
      same = same-leg lc lk c k (at h chan cell.circ)
          (subst (λ n. is_leg lc lk (at h chan n) ≡ true) is
          (subst (λ n. is_leg lc lk (at h n place.id) ≡ true) same_chan (named place refl))) of_leg;
      later = cells;
      queue_is = ap (λ x. x ∷ cells) first_is;
    }
queued-by h chan lc lk c k (Some place) [] cell waits given named of_leg = absurd cc
queued-by h chan lc lk c k None q cell waits given named of_leg = absurd cc

first-by : (rules : Rules) (h : List Step) (leg : Leg) (c k : ℕ) (cell : Cell) → leg.circ ≡ c → leg.number ≡ k
    → IsFirst rules h leg.circ leg.number cell → IsFirst rules h c k cell
first-by rules h leg c k cell same_circ same_leg first =
    subst (λ n. IsFirst rules h c n cell) same_leg (subst (λ n. IsFirst rules h n leg.number cell) same_circ first)

by-lane : (rules : Rules) (h : List Step) (chan c k : ℕ) (f : Leg → ℕ) (waits : List Destroy) (legs : List Leg) (cell : Cell)
    → AllByRecursion (IsApart rules h chan) waits → AllByRecursion (WaitsThere rules h chan) legs →
    destroy_or waits (first_of rules h (least_of f legs)) ≡ Some cell → is_leg c k (at h chan cell.circ) ≡ true
    → is_live_circuit rules h c ≡ true → IsFirst rules h c k cell
by-lane rules h chan c k f (d ∷ waits) legs cell away all left of_leg alive =
    let is : d.id ≡ cell.circ = ap circ-of (some-same left) in
    let torn = away.0 c k (subst (λ n. is_leg c k (at h chan n) ≡ true) (sym is) of_leg) in
    let no : true ≡ false = sym alive ∙ torn in
    absurd cc
by-lane rules h chan c k f [] [] cell away all left of_leg alive = absurd cc
by-lane rules h chan c k f [] (leg ∷ legs) cell away all left of_leg alive =
    let picked = lesser f leg (least_of f legs) in
    let own : WaitsThere rules h chan picked = least-has (WaitsThere rules h chan) f (leg ∷ legs) all picked refl in
    let both : (is_live_circuit rules h picked.circ && holds_id h picked.circ picked.number) ≡ true =
    if-some _ _ (and-second (on_channel chan (port h picked.circ picked.number)) _ own) in
    let holds = and-second (is_live_circuit rules h picked.circ) _ both in
    let named : (place : Port) → port h picked.circ picked.number ≡ Some place → is_leg picked.circ picked.number
    (at h place.chan place.id) ≡ true = λ place lies. rw lies at holds in
    let first =
    queued-by h chan picked.circ picked.number c k (port h picked.circ picked.number)
    (queue rules h picked.circ picked.number) cell own left named of_leg in
    first-by rules h picked c k cell first.same.0 first.same.1
    (record { holds = holds; later = first.later; queue_is = first.queue_is })

first-if : (start : SwitchStart) (h : List Step) (chan tick c k : ℕ) (cell : Cell) (b : Bool) → is_live_channel h chan ≡ b
    → IsLegal start h → next_cell_answer start.rules h chan tick ≡ Some cell →
    is_leg c k (at h chan cell.circ) ≡ true → is_live_circuit start.rules h c ≡ true → IsFirst start.rules h c k cell
first-if start h chan tick c k cell true on_live legal left of_leg alive =
    by-lane start.rules h chan c k (count_at start.rules h tick) (lane start.rules h chan) (waiting_legs start.rules h chan) cell
    (apart start h legal chan) (waits-below start.rules h chan (circuits h)) (rw on_live at left) of_leg alive
first-if start h chan tick c k cell false on_live legal left of_leg alive = let none : None ≡ Some cell =
    rw on_live at left in absurd cc

pub first-leaves : (start : SwitchStart) (h : List Step) (chan : ChanNo) (tick : ℕ) (cell : Cell) (c k : ℕ)
    → IsLegal start (NextCell chan tick (Some cell) ∷ h) → is_leg c k (at h chan.0 cell.circ) ≡ true
    → is_live_circuit start.rules h c ≡ true →
    IsFirst start.rules h c k cell
first-leaves start h chan tick cell c k legal of_leg alive =
    first-if start h chan.0 tick c k cell (is_live_channel h chan.0) refl legal.1 (sym legal.0.1) of_leg alive

-- nothing left on a leg of a circuit that isn't opened yet
unsent : (b : Bool) (live : Bool) (xs : List CircuitCell) (cell : CircuitCell) → live ≡ false → xs ≡ []
    → (if b && live then xs ++ cell ∷ [] else xs) ≡ []
unsent true true xs cell torn none = absurd cc
unsent true false xs cell torn none = none
unsent false live xs cell torn none = none

none-sent : (start : SwitchStart) (h : List Step) → IsLegal start h → (c k : ℕ) → circuits h ≤ c → sent start.rules h c k ≡ []
none-sent start [] legal c k beyond = refl
none-sent start (NextCell chan tick (Some cell) ∷ h) legal c k beyond =
    unsent (is_leg c k (at h chan.0 cell.circ)) (is_live_circuit start.rules h c) (sent start.rules h c k) (circuit_cell cell)
    (not-yet start h legal.1 c Forth beyond).torn (none-sent start h legal.1 c k beyond)
none-sent start (OpenCircuit chan id reply keys pad (Opened n) ∷ h) legal c k beyond =
    none-sent start h legal.1 c k (omega (arith, beyond))
none-sent start (s ∷ h) legal c k beyond = none-sent start h legal.1 c k beyond

-- what left begins what may leave
abbrev SentBegins : Rules → List Step → ℕ → ℕ → Type 0
SentBegins rules h c k = Begins (sent rules h c k) (sendable (circuit_log rules h c) (sealed_count h c) k)

pub queued-next : (rules : Rules) (h : List Step) (c k : ℕ) (cell : Cell) → is_live_circuit rules h c ≡ true
    → IsFirst rules h c k cell → SentBegins rules h c k →
    (later : List CircuitCell)
    × (sent rules h c k ++ circuit_cell cell ∷ later ≡ sendable (circuit_log rules h c) (sealed_count h c) k)
queued-next rules h c k cell alive first begins = (
  first.later,
  ap (λ l. sent rules h c k ++ l) (sym first.queue_is)
      ∙ sent_and_queued rules h c k begins.rest alive first.holds begins.all,
)

left-begins : (start : SwitchStart) (h : List Step) (chan : ChanNo) (tick : ℕ) (cell : Cell) (c k : ℕ) (b : Bool)
    → (is_leg c k (at h chan.0 cell.circ) && is_live_circuit start.rules h c) ≡ b
    → IsLegal start (NextCell chan tick (Some cell) ∷ h) →
    SentBegins start.rules h c k
    → Begins (if b then sent start.rules h c k ++ circuit_cell cell ∷ [] else sent start.rules h c k)
    (sendable (circuit_log start.rules h c) (sealed_count h c) k)
left-begins start h chan tick cell c k true is legal begins =
    let alive = and-second (is_leg c k (at h chan.0 cell.circ)) _ is in
    let next = queued-next start.rules h c k cell alive
    (first-leaves start h chan tick cell c k legal (and-first (is_leg c k (at h chan.0 cell.circ)) _ is) alive) begins in
    record { rest = next.0; all = append_assoc (sent start.rules h c k) (circuit_cell cell ∷ []) next.0 ∙ next.1 }
left-begins start h chan tick cell c k false is legal begins = begins

opened-begins : (start : SwitchStart) (h : List Step) (s : Step) (c k n : ℕ) (b : Bool) → (n == c) ≡ b → opens c s ≡ (n == c)
    → n ≡ circuits h → IsLegal start h → sent start.rules (s ∷ h) c k ≡ sent start.rules h c k → SentBegins start.rules h c k
    → SentBegins start.rules (s ∷ h) c k
opened-begins start h s c k n true is opened number legal same begins =
    let same_number = same-number n c is in
    none-begins _ _ (same ∙ none-sent start h legal c k (omega (arith, same_number, number)))
opened-begins start h s c k n false is opened number legal same begins =
    subst (λ l. Begins l (sendable (circuit_log start.rules (s ∷ h) c) (sealed_count (s ∷ h) c) k)) (sym same)
    (both-begin _ _ _ begins (sendable-grows start.rules h s c k (opened ∙ is)))

pub sent-begins : (start : SwitchStart) (h : List Step) → IsLegal start h → (c k : ℕ) → SentBegins start.rules h c k
sent-begins start [] legal c k = none-begins _ _ refl
sent-begins start (NextCell chan tick (Some cell) ∷ h) legal c k =
    left-begins start h chan tick cell c k _ refl legal (sent-begins start h legal.1 c k)
sent-begins start (OpenCircuit chan id reply keys pad (Opened n) ∷ h) legal c k =
    opened-begins start h (OpenCircuit chan id reply keys pad (Opened n)) c k n.0 (n.0 == c) refl refl
    (opened-number start h chan.0 id keys n legal.0.1) legal.1 refl (sent-begins start h legal.1 c k)
sent-begins start (s ∷ h) legal c k = both-begin _ _ _ (sent-begins start h legal.1 c k) (sendable-grows start.rules h s c k refl)

-- and so what the one-thread relay sends
pub sendable-one : (l : Log) (bodies k : ℕ) → Begins (sendable l bodies k) (leg_cells l k)
sendable-one l bodies zero =
    record { rest = drop (1 + bodies) (leg_cells l 0); all = take-append-drop (1 + bodies) (leg_cells l 0) }
sendable-one l bodies (suc k) = same-list (leg_cells l (suc k))

pub sent_is_prefix : (start : SwitchStart) (h : List Step) → IsLegal start h → (c k : ℕ)
    → (rest : List CircuitCell) × (sent start.rules h c k ++ rest ≡ leg_cells (circuit_log start.rules h c) k)
sent_is_prefix start h legal c k =
    let begins =
    both-begin _ _ _ (sent-begins start h legal c k) (sendable-one (circuit_log start.rules h c) (sealed_count h c) k) in
    (begins.rest, begins.all)

get-seam : (xs ys : List CircuitCell) (y : CircuitCell) → slice_get (xs ++ y ∷ ys) (length xs) ≡ Some y
get-seam [] ys y = refl
get-seam (x ∷ xs) ys y = get-seam xs ys y

next-of : (xs more ys zs : List CircuitCell) (y : CircuitCell) → xs ++ y ∷ more ≡ ys → Begins ys zs
    → slice_get zs (length xs) ≡ Some y
next-of xs more ys zs y is begins =
    let all : xs ++ y ∷ (more ++ begins.rest) ≡ zs = sym (append_assoc xs (y ∷ more) begins.rest) ∙ ap (λ l. l ++ begins.rest) is
    ∙ begins.all in
    subst (λ l. slice_get l (length xs) ≡ Some y) all (get-seam xs (more ++ begins.rest) y)

pub next_leaves : (start : SwitchStart) (h : List Step) (chan : ChanNo) (tick : ℕ) (cell : Cell) (c k : ℕ)
    → IsLegal start (NextCell chan tick (Some cell) ∷ h) → is_leg c k (at h chan.0 cell.circ) ≡ true
    → is_live_circuit start.rules h c ≡ true →
    slice_get (leg_cells (circuit_log start.rules h c) k) (length (sent start.rules h c k)) ≡ Some (circuit_cell cell)
next_leaves start h chan tick cell c k legal of_leg alive =
    let next = queued-next start.rules h c k cell alive (first-leaves start h chan tick cell c k legal of_leg alive)
    (sent-begins start h legal.1 c k) in
    next-of (sent start.rules h c k) next.0 _ _ (circuit_cell cell) next.1
    (sendable-one (circuit_log start.rules h c) (sealed_count h c) k)
