-- Bodies are added to a direction at its end alone, so those of a claim stay what they were.
use Rattle.std.proofs.Common.{◌≡◌, ℕ, ◌+◌, ◌≤◌, Bool, true, false, if◌then◌else◌, List, [], ◌∷◌, ◌++◌, length, take, drop, map, Option, Some, None, refl, sym, ◌∙◌, ap, subst, arith, zero, suc}
use Rattle.circuit_model.specs.Events.{CircuitCell, Event}
use Rattle.circuit_model.specs.Log.{pushed}
use Rattle.circuit_model.specs.Packaged.{back_bodies}
use Rattle.circuit_model.specs.Rules.{Rules}
use Rattle.circuit_model.specs.Words.{log, effects}
use Rattle.tr_io.specs.declared.answers.TakeAnswer.{TakeAnswer}
use Rattle.tr_io.specs.declared.names.ClaimNote.{ClaimNote}
use Rattle.tr_io.specs.declared.names.Dir.{Dir}
use Rattle.tr_io.specs.declared.names.Dir.TheVariants.{Forth, Back}
use Rattle.tr_io.specs.declared.step.Step.{Step}
use Rattle.tr_io.specs.declared.step.Step.TheVariants.{Take, Claim}
use Rattle.switch_model.specs.Start.{SwitchStart}
use Rattle.switch_model.specs.Names.{way_of, is_leg, circuit_cell}
use Rattle.switch_model.specs.History.Legs.{at}
use Rattle.switch_model.specs.History.Taken.{taken_forth}
use Rattle.switch_model.specs.History.Circuit.{events}
use Rattle.switch_model.specs.Waiting.Queues.{circuit_log}
use Rattle.switch_model.specs.Waiting.Claims.{claimed_count, bodies}
use Rattle.switch_model.specs.Waiting.Contents.{body_of, bodies_in, claimed_bodies}
use Rattle.switch_model.specs.Legal.{IsLegal}
use Rattle.switch_model.proofs.Common.{Begins, same-list, both-begin}
use Rattle.switch_model.proofs.FirstSteps.{first_steps_legal}
use Rattle.switch_model.proofs.Claiming.{claimed-by}
use Rattle.switch_model.proofs.Ways.{WayHas, within-limit}
use Rattle.switch_model.proofs.WaysHold.{ways}
use Rattle.switch_model.proofs.LogGrows.{events-longer}

pushed-begins : {A : Type 0} (xs : List A) (o : Option A) → Begins xs (pushed xs o)
pushed-begins xs None = same-list xs
pushed-begins xs (Some x) = record { rest = x ∷ []; all = refl }

-- forth
taken-if : (b : Bool) (xs : List CircuitCell) (cell : CircuitCell) → Begins xs (if b then xs ++ cell ∷ [] else xs)
taken-if true xs cell = record { rest = cell ∷ []; all = refl }
taken-if false xs cell = same-list xs

taken-begins : (h : List Step) (s : Step) (c : ℕ) → Begins (taken_forth h c) (taken_forth (s ∷ h) c)
taken-begins h (Take chan cell TakeAnswer.Queued) c =
    taken-if (is_leg c 0 (at h chan.0 cell.circ)) (taken_forth h c) (circuit_cell cell)
taken-begins h s c = same-list (taken_forth h c)

-- back
abbrev More : Rules → List Event → List Event → Type 0
More rules ev x = Begins (back_bodies (log rules ev)) (back_bodies (log rules x))

more-one : (rules : Rules) (e : Event) (ev : List Event) → More rules ev (e ∷ ev)
more-one rules e ev = pushed-begins (back_bodies (log rules ev)) (effects rules ev e).back

more-none : (rules : Rules) (ev : List Event) → More rules ev ev
more-none rules ev = same-list (back_bodies (log rules ev))

more-over : (rules : Rules) (new ev : List Event) → More rules ev (new ++ ev)
more-over rules [] ev = more-none rules ev
more-over rules (e ∷ new) ev = both-begin _ _ _ (more-over rules new ev) (more-one rules e (new ++ ev))

back-begins : (rules : Rules) (h : List Step) (s : Step) (c : ℕ) → More rules (events rules h c) (events rules (s ∷ h) c)
back-begins rules h s c =
    let longer = events-longer rules h s c in
    subst (λ ev. More rules (events rules h c) ev) longer.all (more-over rules longer.new (events rules h c))

-- over any further steps
taken-later : (newer older : List Step) (c : ℕ) → Begins (taken_forth older c) (taken_forth (newer ++ older) c)
taken-later [] older c = same-list (taken_forth older c)
taken-later (s ∷ newer) older c = both-begin _ _ _ (taken-later newer older c) (taken-begins (newer ++ older) s c)

back-later : (rules : Rules) (newer older : List Step) (c : ℕ)
    → More rules (events rules older c) (events rules (newer ++ older) c)
back-later rules [] older c = more-none rules (events rules older c)
back-later rules (s ∷ newer) older c = both-begin _ _ _ (back-later rules newer older c) (back-begins rules (newer ++ older) s c)

-- a part that is there stays
take-same : {A : Type 0} (count : ℕ) (xs rest : List A) → count ≤ length xs → take count (xs ++ rest) ≡ take count xs
take-same zero xs rest within = refl
take-same (suc count) [] rest within = absurd (omega (arith, within))
take-same (suc count) (x ∷ xs) rest within = ap (λ l. x ∷ l) (take-same count xs rest (omega (arith, within)))

part-same : {A : Type 0} (first count : ℕ) (xs rest : List A) → first + count ≤ length xs
    → take count (drop first (xs ++ rest)) ≡ take count (drop first xs)
part-same zero count xs rest within = take-same count xs rest (omega (arith, within))
part-same (suc first) count [] rest within = absurd (omega (arith, within))
part-same (suc first) count (x ∷ xs) rest within = part-same first count xs rest (omega (arith, within))

part-begins : {A : Type 0} (first count : ℕ) (xs ys : List A) → Begins xs ys → first + count ≤ length xs
    → take count (drop first ys) ≡ take count (drop first xs)
part-begins first count xs ys begins within =
    ap (λ l. take count (drop first l)) (sym begins.all) ∙ part-same first count xs begins.rest within

-- a claim's bodies are there when it is made
claim-there : (start : SwitchStart) (h : List Step) (worker : ℕ) (note : ClaimNote) → IsLegal start (Claim worker (Some note) ∷ h)
    → note.first + note.count ≤ bodies start.rules h (way_of note) note.dir
claim-there start h worker note legal =
    let taken = claimed-by start h worker note legal.0.1 in
    let has : WayHas start.rules h note.circ.0 note.dir = ways start h legal.1 note.circ.0 note.dir in
    let below : claimed_count h (way_of note) + note.count ≤ bodies start.rules h (way_of note) note.dir =
    within-limit (claimed_count h (way_of note)) (bodies start.rules h (way_of note) note.dir) note.count
    (has.within taken.live) taken.count in
    let first = taken.first in
    omega (arith, first, below)

stay-by : (start : SwitchStart) (newer older : List Step) (worker : ℕ) (note : ClaimNote) (dir : Dir) → note.dir ≡ dir
    → note.first + note.count ≤ bodies start.rules older (record { circ = note.circ.0; dir = dir }) dir →
    bodies_in start.rules (newer ++ Claim worker (Some note) ∷ older) note dir
    ≡ bodies_in start.rules (Claim worker (Some note) ∷ older) note dir
stay-by start newer older worker note Forth is within =
    ap (λ l. map body_of l)
    (part-begins note.first note.count (taken_forth older note.circ.0) _
    (taken-later newer (Claim worker (Some note) ∷ older) note.circ.0) within)
stay-by start newer older worker note Back is within =
    part-begins note.first note.count (back_bodies (circuit_log start.rules older note.circ.0)) _
    (back-later start.rules newer (Claim worker (Some note) ∷ older) note.circ.0) within

pub claimed_bodies_stay : (start : SwitchStart) (newer older : List Step) (worker : ℕ) (note : ClaimNote)
    → IsLegal start (newer ++ Claim worker (Some note) ∷ older) →
    claimed_bodies start.rules (newer ++ Claim worker (Some note) ∷ older) note
    ≡ claimed_bodies start.rules (Claim worker (Some note) ∷ older) note
claimed_bodies_stay start newer older worker note legal =
    stay-by start newer older worker note note.dir refl
    (claim-there start older worker note (first_steps_legal start newer (Claim worker (Some note) ∷ older) legal))
