-- A switch makes at most as many dial orders as steps: a forward body that comes home makes one at most, and each
-- was taken in a step of its own. So an order's number fits 64 bits.
use Rattle.std.proofs.Common.{◌≡◌, ℕ, ◌+◌, ◌<◌, ◌≤◌, ◌^◌, ◌==◌, ◌&&◌, Bool, true, false, if◌then◌else◌, zero, suc, drop, List, [], ◌∷◌, ◌++◌, length, Option, Some, None, IfSome, refl, sym, ◌∙◌, ap, subst, arith}
use Rattle.std.proofs.lemmas.List.{length-append}
use Rattle.std.specs.Prelude.{⊤}
use Rattle.tor_spec.specs.Extend.{Address}
use Rattle.circuit_model.specs.Batches.{events_behind, forward_of}
use Rattle.circuit_model.specs.Events.{CircuitCell, Event}
use Rattle.circuit_model.specs.Log.{pushed}
use Rattle.circuit_model.specs.Rules.{Rules}
use Rattle.circuit_model.specs.Words.{log}
use Rattle.tr_io.specs.declared.answers.BackAnswer.{BackAnswer}
use Rattle.tr_io.specs.declared.answers.TakeAnswer.TheVariants.{Queued}
use Rattle.tr_io.specs.declared.names.ClaimNote.{ClaimNote}
use Rattle.tr_io.specs.declared.names.Dir.TheVariants.{Forth}
use Rattle.tr_io.specs.declared.step.Step.{Step}
use Rattle.tr_io.specs.declared.step.Step.TheVariants.{GiveBack, Take}
use Rattle.switch_model.specs.History.Circuit.{events, returns_forth}
use Rattle.switch_model.specs.History.Homecoming.{AddsNext}
use Rattle.switch_model.specs.History.Legs.{at}
use Rattle.switch_model.specs.History.Relayed.{settled_forth}
use Rattle.switch_model.specs.History.Taken.{taken_forth}
use Rattle.switch_model.specs.Legal.{IsLegal}
use Rattle.switch_model.specs.Names.{Leg, circuit_cell, is_leg, same_dir}
use Rattle.switch_model.specs.Start.{SwitchStart}
use Rattle.switch_model.specs.Waiting.Dials.{asked, dials_made, numbered}
use Rattle.switch_model.specs.Waiting.Queues.{circuit_log}
use Rattle.switch_model.proofs.ClaimFinds.{dir-is}
use Rattle.switch_model.proofs.Common.{and-first, and-second, same-number}
use Rattle.switch_model.proofs.ForthInOrder.{forth-begins, return_adds_next}
use Rattle.switch_model.proofs.ForthSame.{forth-same}
use Rattle.switch_model.proofs.Returning.{forth-behind}
use Rattle.switch_core.proofs.Sums.{none-all, sum_below, sum-more, sum-most, sum-up}

-- the bodies that were taken

abbrev taken_in : List Step → ℕ → ℕ
taken_in h c = length (taken_forth h c)

one-more : (b : Bool) (xs : List CircuitCell) (cell : CircuitCell) →
    length (if b then xs ++ cell ∷ [] else xs) ≤ length xs + 1
one-more true xs cell = let more = length-append xs (cell ∷ []) in omega (arith, more)
one-more false xs cell = omega arith

no-more : (b : Bool) (xs : List CircuitCell) (cell : CircuitCell) → b ≡ false →
    length (if b then xs ++ cell ∷ [] else xs) ≤ length xs
no-more true xs cell is = absurd cc
no-more false xs cell is = omega arith

on-leg : (h : List Step) (cell : CircuitCell) (x : Option Leg) (n : ℕ) →
    sum_below (λ c. length (if is_leg c 0 x then taken_forth h c ++ cell ∷ [] else taken_forth h c)) n
    ≤ sum_below (taken_in h) n + 1
on-leg h cell None n = omega (arith, sum-most (taken_in h) (taken_in h) (λ c. omega arith) n)
on-leg h cell (Some leg) n =
    sum-more (taken_in h)
    (λ c. length (if is_leg c 0 (Some leg) then taken_forth h c ++ cell ∷ [] else taken_forth h c)) leg.circ
    (λ c other. no-more (is_leg c 0 (Some leg)) (taken_forth h c) cell (rw other refl))
    (one-more (is_leg leg.circ 0 (Some leg)) (taken_forth h leg.circ) cell) n

longer : (s : Step) (h : List Step) (m : ℕ) → m ≤ length h → m ≤ length (s ∷ h)
longer s h m most = omega (arith, most)

one-longer : (s : Step) (h : List Step) (m k : ℕ) → m ≤ k + 1 → k ≤ length h → m ≤ length (s ∷ h)
one-longer s h m k more most = omega (arith, more, most)

sum-taken : (h : List Step) (n : ℕ) → sum_below (taken_in h) n ≤ length h
sum-taken [] n = none-all n
sum-taken (Take chan cell Queued ∷ h) n =
    one-longer (Take chan cell Queued) h _ (sum_below (taken_in h) n)
    (on-leg h (circuit_cell cell) (at h chan.0 cell.circ) n) (sum-taken h n)
sum-taken (s ∷ h) n = longer s h (sum_below (taken_in h) n) (sum-taken h n)

-- the orders that bodies make when they come home

pushed-one : {A : Type 0} (xs : List A) (o : Option A) → length (pushed xs o) ≤ length xs + 1
pushed-one xs None = omega arith
pushed-one xs (Some x) = let more = length-append xs (x ∷ []) in omega (arith, more)

asked-behind : (rules : Rules) (ev : List Event) (cells : List CircuitCell) →
    length (asked (log rules (events_behind ev cells))) ≤ length (asked (log rules ev)) + length cells
asked-behind rules ev [] = omega arith
asked-behind rules ev (cell ∷ cells) =
    let one : length (asked (log rules (forward_of cell ∷ ev))) ≤ length (asked (log rules ev)) + 1 =
    pushed-one (asked (log rules ev)) _ in
    let later = asked-behind rules (forward_of cell ∷ ev) cells in
    omega (arith, one, later)

numbered-length : (n c : ℕ) (to : List Address) → length (numbered n c to) ≡ length to
numbered-length n c [] = refl
numbered-length n c (first ∷ to) = let more = numbered-length (n + 1) c to in omega (arith, more)

drop-most : {A : Type 0} (n k : ℕ) (xs : List A) → length xs ≤ n + k → length (drop n xs) ≤ k
drop-most zero k xs most = omega (arith, most)
drop-most (suc n) k [] most = omega arith
drop-most (suc n) k (x ∷ xs) most = drop-most n k xs (omega (arith, most))

abbrev asked_in : Rules → List Step → ℕ → List Address
asked_in rules h c = asked (circuit_log rules h c)

made-more : (rules : Rules) (h : List Step) (note : ClaimNote) (place : Option ℕ) (a : BackAnswer) (k : ℕ) →
    length (asked_in rules (GiveBack note place a ∷ h) note.circ.0) ≤ length (asked_in rules h note.circ.0) + k →
    length (dials_made rules (GiveBack note place a ∷ h)) ≤ length (dials_made rules h) + k
made-more rules h note place a k more =
    let new = drop (length (asked_in rules h note.circ.0)) (asked_in rules (GiveBack note place a ∷ h) note.circ.0) in
    let all = length-append (dials_made rules h) (numbered (length (dials_made rules h)) note.circ.0 new) in
    let count = numbered-length (length (dials_made rules h)) note.circ.0 new in
    let few = drop-most (length (asked_in rules h note.circ.0)) k
    (asked_in rules (GiveBack note place a ∷ h) note.circ.0) more in
    omega (arith, all, count, few)

abbrev home_in : Rules → List Step → ℕ → ℕ
home_in rules h c = length (settled_forth (circuit_log rules h c))

-- a return of forward bodies
home-more : (start : SwitchStart) (h : List Step) (note : ClaimNote) (place : Option ℕ) (a : BackAnswer) →
    (adds : AddsNext start.rules h note place a) →
    home_in start.rules h note.circ.0 + length adds.settling_cells ≤ home_in start.rules (GiveBack note place a ∷ h) note.circ.0
home-more start h note place a adds =
    let grown = ap (λ l. length (settled_forth (log start.rules l))) adds.events
    ∙ ap (λ (l : List CircuitCell). length l) (forth-behind start.rules (events start.rules h note.circ.0) adds.settling_cells)
    ∙ length-append (settled_forth (circuit_log start.rules h note.circ.0)) adds.settling_cells in
    omega (arith, grown)

asked-more : (start : SwitchStart) (h : List Step) (note : ClaimNote) (place : Option ℕ) (a : BackAnswer) →
    (adds : AddsNext start.rules h note place a) →
    length (asked_in start.rules (GiveBack note place a ∷ h) note.circ.0)
    ≤ length (asked_in start.rules h note.circ.0) + length adds.settling_cells
asked-more start h note place a adds =
    subst (λ ev. length (asked (log start.rules ev)) ≤ length (asked_in start.rules h note.circ.0) + length adds.settling_cells)
    (sym adds.events) (asked-behind start.rules (events start.rules h note.circ.0) adds.settling_cells)

adds-by : (start : SwitchStart) (h : List Step) (note : ClaimNote) (place : Option ℕ) (a : BackAnswer) (c : ℕ) →
    IsLegal start (GiveBack note place a ∷ h) → returns_forth c note a ≡ true → AddsNext start.rules h note place a
adds-by start h note place a c legal is =
    let both = and-second (note.circ.0 == c) _ is in
    return_adds_next start h note place a legal (and-second (same_dir note.dir Forth) _ both)
    (dir-is note.dir Forth (and-first (same_dir note.dir Forth) _ both))

home-up : (start : SwitchStart) (h : List Step) (note : ClaimNote) (place : Option ℕ) (a : BackAnswer) (c : ℕ) (b : Bool) →
    IsLegal start (GiveBack note place a ∷ h) → returns_forth c note a ≡ b →
    home_in start.rules h c ≤ home_in start.rules (GiveBack note place a ∷ h) c
home-up start h note place a c true legal is =
    let adds = adds-by start h note place a c legal is in
    let more = home-more start h note place a adds in
    let own : home_in start.rules h note.circ.0 ≤ home_in start.rules (GiveBack note place a ∷ h) note.circ.0 =
    omega (arith, more) in
    subst (λ d. home_in start.rules h d ≤ home_in start.rules (GiveBack note place a ∷ h) d)
    (same-number note.circ.0 c (and-first (note.circ.0 == c) _ is)) own
home-up start h note place a c false legal is =
    let same = ap (λ (l : List CircuitCell). length l) (forth-same start.rules h (GiveBack note place a) c is) in
    omega (arith, same)

made-by : (start : SwitchStart) (h : List Step) (note : ClaimNote) (place : Option ℕ) (a : BackAnswer) (n : ℕ) (b : Bool) →
    IsLegal start (GiveBack note place a ∷ h) → returns_forth note.circ.0 note a ≡ b → note.circ.0 < n →
    length (dials_made start.rules h) ≤ sum_below (home_in start.rules h) n →
    length (dials_made start.rules (GiveBack note place a ∷ h)) ≤ sum_below (home_in start.rules (GiveBack note place a ∷ h)) n
made-by start h note place a n true legal is below few =
    let adds = adds-by start h note place a note.circ.0 legal is in
    let made = made-more start.rules h note place a (length adds.settling_cells) (asked-more start h note place a adds) in
    let sum = sum-up (home_in start.rules h) (home_in start.rules (GiveBack note place a ∷ h)) note.circ.0
    (length adds.settling_cells) (λ c. home-up start h note place a c (returns_forth c note a) legal refl)
    (home-more start h note place a adds) n below in
    omega (arith, made, sum, few)
made-by start h note place a n false legal is below few =
    let same : length (asked_in start.rules (GiveBack note place a ∷ h) note.circ.0) ≤ length (asked_in start.rules h note.circ.0)
    + 0 =
    rw is (omega arith) in
    let made = made-more start.rules h note place a 0 same in
    let sum = sum-most (home_in start.rules h) (home_in start.rules (GiveBack note place a ∷ h))
    (λ c. home-up start h note place a c (returns_forth c note a) legal refl) n in
    omega (arith, made, sum, few)

-- Each return is one of the first n circuits.
abbrev AreBelow : ℕ → List Step → Type 0
AreBelow n [] = ⊤
AreBelow n (GiveBack note place a ∷ h) = (note.circ.0 < n) × AreBelow n h
AreBelow n (s ∷ h) = AreBelow n h

abbrev top : List Step → ℕ
top [] = 0
top (GiveBack note place a ∷ h) = top h + note.circ.0 + 1
top (s ∷ h) = top h

below-top : (h : List Step) (n : ℕ) → top h ≤ n → AreBelow n h
below-top [] n most = tt
below-top (GiveBack note place a ∷ h) n most = (omega (arith, most), below-top h n (omega (arith, most)))
below-top (s ∷ h) n most = below-top h n most

home-same : (rules : Rules) (h : List Step) (s : Step) (c : ℕ) →
    settled_forth (circuit_log rules (s ∷ h) c) ≡ settled_forth (circuit_log rules h c) →
    home_in rules h c ≤ home_in rules (s ∷ h) c
home-same rules h s c is = let same = ap (λ (l : List CircuitCell). length l) is in omega (arith, same)

other-made : (rules : Rules) (h : List Step) (s : Step) (n m : ℕ) → m ≤ sum_below (home_in rules h) n →
    ((c : ℕ) → settled_forth (circuit_log rules (s ∷ h) c) ≡ settled_forth (circuit_log rules h c)) →
    m ≤ sum_below (home_in rules (s ∷ h)) n
other-made rules h s n m few same =
    let sum = sum-most (home_in rules h) (home_in rules (s ∷ h)) (λ c. home-same rules h s c (same c)) n in
    omega (arith, few, sum)

made-few : (start : SwitchStart) (h : List Step) (n : ℕ) → IsLegal start h → AreBelow n h →
    length (dials_made start.rules h) ≤ sum_below (home_in start.rules h) n
made-few start [] n legal below = omega arith
made-few start (GiveBack note place a ∷ h) n legal below =
    made-by start h note place a n (returns_forth note.circ.0 note a) legal refl below.0 (made-few start h n legal.1 below.1)
made-few start (s ∷ h) n legal below =
    other-made start.rules h s n (length (dials_made start.rules h)) (made-few start h n legal.1 below)
    (λ c. forth-same start.rules h s c refl)

home-taken : (start : SwitchStart) (h : List Step) → IsLegal start h → (c : ℕ) → home_in start.rules h c ≤ taken_in h c
home-taken start h legal c =
    let begins = forth-begins start h c legal in
    let all = length-append (settled_forth (circuit_log start.rules h c)) begins.rest in
    let same = ap (λ (l : List CircuitCell). length l) begins.cells in
    omega (arith, all, same)

pub dials_few : (start : SwitchStart) (h : List Step) → IsLegal start h → length (dials_made start.rules h) ≤ length h
dials_few start h legal =
    let made = made-few start h (top h) legal (below-top h (top h) (omega arith)) in
    let home = sum-most (home_in start.rules h) (taken_in h) (home-taken start h legal) (top h) in
    omega (arith, made, home, sum-taken h (top h))
