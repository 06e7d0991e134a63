-- In a legal history an accepted return adds exactly the next bodies of its direction. So the forward cells of
-- each circuit are the beginning of those taken.
use Rattle.std.proofs.Common.{◌≡◌, ℕ, ◌+◌, ◌≤◌, ◌==◌, Bool, true, false, if◌then◌else◌, List, [], ◌∷◌, ◌++◌, length, take, drop, Option, refl, sym, ◌∙◌, ap, subst, append_assoc, arith, zero, suc}
use Rattle.std.proofs.lemmas.List.{append-nil, take-append-drop}
use Rattle.std.proofs.lemmas.Grind.{common_steps}
use Rattle.circuit_model.specs.Events.{CircuitCell}
use Rattle.circuit_model.specs.Packaged.{back_bodies}
use Rattle.circuit_model.specs.Rules.{Rules}
use Rattle.circuit_model.specs.Words.{log}
use Rattle.tr_io.specs.declared.answers.BackAnswer.{BackAnswer}
use Rattle.tr_io.specs.declared.answers.BackAnswer.TheVariants.{Settled, Down}
use Rattle.tr_io.specs.declared.answers.TakeAnswer.TheVariants.{Queued}
use Rattle.tr_io.specs.declared.names.ClaimNote.{ClaimNote}
use Rattle.tr_io.specs.declared.names.Dir.TheVariants.{Forth, Back}
use Rattle.tr_io.specs.declared.step.Step.{Step}
use Rattle.tr_io.specs.declared.step.Step.TheVariants.{Take, GiveBack}
use Rattle.switch_model.specs.Start.{SwitchStart}
use Rattle.switch_model.specs.Names.{same_dir, is_leg, circuit_cell}
use Rattle.switch_model.specs.History.Legs.{at}
use Rattle.switch_model.specs.History.Taken.{taken_forth, taken_back, claimed_cells}
use Rattle.switch_model.specs.History.Circuit.{events, sent, is_accepted_return, returns_forth}
use Rattle.switch_model.specs.Waiting.Queues.{circuit_log, sealed_count}
use Rattle.switch_model.specs.History.Returns.{settled}
use Rattle.switch_model.specs.Waiting.Contents.{claimed_bodies, bodies_in}
use Rattle.switch_model.specs.History.Homecoming.{AddsNext, SealsNext}
use Rattle.switch_model.specs.History.Relayed.{settled_forth, BeginsTaken, IsRelayed}
use Rattle.switch_model.specs.Legal.{IsLegal}
use Rattle.switch_model.proofs.Common.{self_eq, drop-front, and-first, and-second, same-number}
use Rattle.switch_model.proofs.ClaimFinds.{dir-is}
use Rattle.switch_model.proofs.ForthSame.{settles_forth, forth-same}
use Rattle.switch_model.proofs.Returning.{settles, forth-behind}
use Rattle.switch_model.proofs.BackInOrder.{back_in_order}
use Rattle.switch_model.proofs.WindowsKept.{windows_kept}
use Rattle.switch_model.proofs.Ways.{count-part}
use Rattle.switch_model.proofs.Unopened.{home-passed}
use Rattle.switch_model.proofs.WaysHold.{ways, all-there, own-same, settles-all}

-- the cells of a claim that is home are those behind the ones that came home before
next-part : (came cells rest taken : List CircuitCell) (first count : ℕ) → came ++ rest ≡ taken → first ≡ length came
    → take count (drop first taken) ≡ cells →
    (more : List CircuitCell) × (came ++ cells ++ more ≡ taken)
next-part came cells rest taken first count begins is_first is =
    let behind_is : drop first taken ≡ rest = rw is_first (ap (λ l. drop (length came) l) (sym begins) ∙ drop-front came rest) in
    let cells_are : take count rest ≡ cells = ap (λ l. take count l) (sym behind_is) ∙ is in (
      drop count rest,
      append_assoc came cells (drop count rest) ∙ ap (λ l. came ++ (l ++ drop count rest)) (sym cells_are)
          ∙ ap (λ l. came ++ l) (take-append-drop count rest) ∙ begins,
    )

events-by : (start : SwitchStart) (h : List Step) (note : ClaimNote) (place : Option ℕ) (a : BackAnswer) → note.dir ≡ Forth
    → is_accepted_return a ≡ true →
    events start.rules (GiveBack note place a ∷ h) note.circ.0 ≡ settled start.rules (length (sent start.rules h note.circ.0 0))
    (events start.rules h note.circ.0) (claimed_cells h note)
events-by start h note place a is accepted = rw (self_eq note.circ.0, is, accepted) refl

adds-by : (start : SwitchStart) (h : List Step) (note : ClaimNote) (place : Option ℕ) (a : BackAnswer) → note.dir ≡ Forth
    → IsLegal start (GiveBack note place a ∷ h) → is_accepted_return a ≡ true →
    BeginsTaken (settled_forth (circuit_log start.rules h note.circ.0)) (taken_forth h note.circ.0)
    → AddsNext start.rules h note place a
adds-by start h note place Settled is legal accepted begins =
    let inside = all-there start h note place Settled Forth is legal accepted (ways start h legal.1 note.circ.0 Forth) in
    let checked = home-passed start h note place Settled legal accepted in
    let next = next-part (settled_forth (circuit_log start.rules h note.circ.0)) (claimed_cells h note) begins.rest
    (taken_forth h note.circ.0) note.first note.count begins.cells inside.0 refl in
    record {
      settling_cells = claimed_cells h note;
      unsettled_cells = [];
      rest = next.0;
      claim = append-nil (claimed_cells h note);
      all = λ settled_all. refl;
      count = count-part (taken_forth h note.circ.0) note.first note.count inside.1;
      next = next.1;
      events = events-by start h note place Settled is accepted ∙ settles-all start h note is (legal.0.1 ∙ checked.answer_is);
    }
adds-by start h note place (Down reason) is legal accepted begins =
    let inside = all-there start h note place (Down reason) Forth is legal accepted (ways start h legal.1 note.circ.0 Forth) in
    let part = settles start.rules (length (sent start.rules h note.circ.0 0)) (events start.rules h note.circ.0)
    (claimed_cells h note) in
    let next = next-part (settled_forth (circuit_log start.rules h note.circ.0)) (claimed_cells h note) begins.rest
    (taken_forth h note.circ.0) note.first note.count begins.cells inside.0 refl in
    record {
      settling_cells = part.some;
      unsettled_cells = part.later;
      rest = next.0;
      claim = part.cells_are;
      all = λ settled_all. absurd cc;
      count = count-part (taken_forth h note.circ.0) note.first note.count inside.1;
      next = next.1;
      events = events-by start h note place (Down reason) is accepted ∙ part.events_are;
    }
adds-by start h note place a is legal accepted begins = absurd cc

-- so what came home still begins what was taken
still-begins : (start : SwitchStart) (h : List Step) (note : ClaimNote) (place : Option ℕ) (a : BackAnswer)
    → AddsNext start.rules h note place a →
    BeginsTaken (settled_forth (circuit_log start.rules (GiveBack note place a ∷ h) note.circ.0)) (taken_forth h note.circ.0)
still-begins start h note place a adds =
    let came = settled_forth (circuit_log start.rules h note.circ.0) in
    let grown : settled_forth (circuit_log start.rules (GiveBack note place a ∷ h) note.circ.0) ≡ came ++ adds.settling_cells =
    ap (λ l. settled_forth (log start.rules l)) adds.events
    ∙ forth-behind start.rules (events start.rules h note.circ.0) adds.settling_cells in
    let all : came ++ adds.settling_cells ++ (adds.unsettled_cells ++ adds.rest) ≡ taken_forth h note.circ.0 =
    sym (append_assoc (came ++ adds.settling_cells) adds.unsettled_cells adds.rest)
    ∙ ap (λ l. l ++ adds.rest) (append_assoc came adds.settling_cells adds.unsettled_cells ∙ ap (λ l. came ++ l) adds.claim)
    ∙ adds.next in
    record { rest = adds.unsettled_cells ++ adds.rest; cells = ap (λ l. l ++ (adds.unsettled_cells ++ adds.rest)) grown ∙ all }

more-taken : (came taken : List CircuitCell) (b : Bool) (cell : CircuitCell) → BeginsTaken came taken
    → BeginsTaken came (if b then taken ++ cell ∷ [] else taken)
more-taken came taken true cell begins =
    record {
      rest = begins.rest ++ cell ∷ [];
      cells =
          sym (append_assoc came begins.rest (cell ∷ [])) ∙ ap (λ l. l ++ cell ∷ []) begins.cells;
    }
more-taken came taken false cell begins = begins

same-begins : (rules : Rules) (h : List Step) (s : Step) (c : ℕ) (taken : List CircuitCell) → settles_forth c s ≡ false
    → BeginsTaken (settled_forth (circuit_log rules h c)) taken → BeginsTaken (settled_forth (circuit_log rules (s ∷ h) c)) taken
same-begins rules h s c taken none begins = subst (λ l. BeginsTaken l taken) (sym (forth-same rules h s c none)) begins

return-begins : (start : SwitchStart) (h : List Step) (note : ClaimNote) (place : Option ℕ) (a : BackAnswer) (c : ℕ) (b : Bool)
    → returns_forth c note a ≡ b → IsLegal start (GiveBack note place a ∷ h) →
    BeginsTaken (settled_forth (circuit_log start.rules h c)) (taken_forth h c)
    → BeginsTaken (settled_forth (circuit_log start.rules (GiveBack note place a ∷ h) c)) (taken_forth h c)
return-begins start h note place a c true is legal begins =
    let same : note.circ.0 ≡ c = same-number note.circ.0 c (and-first (note.circ.0 == c) _ is) in
    let both = and-second (note.circ.0 == c) _ is in
    let forth = dir-is note.dir Forth (and-first (same_dir note.dir Forth) _ both) in
    let accepted = and-second (same_dir note.dir Forth) _ both in
    let here = subst (λ n. BeginsTaken (settled_forth (circuit_log start.rules h n)) (taken_forth h n)) (sym same) begins in
    subst (λ n. BeginsTaken (settled_forth (circuit_log start.rules (GiveBack note place a ∷ h) n)) (taken_forth h n)) same
    (still-begins start h note place a (adds-by start h note place a forth legal accepted here))
return-begins start h note place a c false is legal begins =
    same-begins start.rules h (GiveBack note place a) c (taken_forth h c) is begins

pub forth-begins : (start : SwitchStart) (h : List Step) (c : ℕ) → IsLegal start h
    → BeginsTaken (settled_forth (circuit_log start.rules h c)) (taken_forth h c)
forth-begins start [] c legal = record { rest = []; cells = refl }
forth-begins start (Take chan cell Queued ∷ h) c legal =
    more-taken _ (taken_forth h c) (is_leg c 0 (at h chan.0 cell.circ)) (circuit_cell cell)
    (same-begins start.rules h (Take chan cell Queued) c (taken_forth h c) refl (forth-begins start h c legal.1))
forth-begins start (GiveBack note place a ∷ h) c legal =
    return-begins start h note place a c (returns_forth c note a) refl legal (forth-begins start h c legal.1)
forth-begins start (s ∷ h) c legal = same-begins start.rules h s c (taken_forth h c) refl (forth-begins start h c legal.1)

pub always_relayed_in_order : (start : SwitchStart) (h : List Step) (c : ℕ) → IsLegal start h
    → IsRelayed start.rules (events start.rules h c) (taken_forth h c) (taken_back h c)
always_relayed_in_order start h c legal = record {
  forth_begins = forth-begins start h c legal;
  back_is = back_in_order start.rules h c;
  windows = windows_kept start h c legal;
}

pub return_adds_next : (start : SwitchStart) (h : List Step) (note : ClaimNote) (place : Option ℕ) (answer : BackAnswer)
    → IsLegal start (GiveBack note place answer ∷ h) → is_accepted_return answer ≡ true → note.dir ≡ Forth →
    AddsNext start.rules h note place answer
return_adds_next start h note place answer legal accepted is =
    adds-by start h note place answer is legal accepted (forth-begins start h note.circ.0 legal.1)

-- and back
take-none : {A : Type 0} (k : ℕ) → ◌≡◌ {A = List A} (take k []) []
take-none zero = refl
take-none (suc k) = refl

take-both : {A : Type 0} (n m : ℕ) (xs : List A) → take n xs ++ take m (drop n xs) ≡ take (n + m) xs
take-both zero m xs = ap (λ k. take k xs) (omega arith)
take-both (suc n) m [] = sym (take-none (suc n + m) ∙ sym (take-none m))
take-both (suc n) m (x ∷ xs) = let sum : suc (n + m) ≡ suc n + m =
    omega arith in ap (λ l. x ∷ l) (take-both n m xs) ∙ ap (λ k. take k (x ∷ xs)) sum

part-count : {A : Type 0} (xs : List A) (first count : ℕ) → first + count ≤ length xs
    → length (take count (drop first xs)) ≡ count
part-count xs first count within = grind (arith, common_steps)

pub return_seals_next : (start : SwitchStart) (h : List Step) (note : ClaimNote) (place : Option ℕ)
    → IsLegal start (GiveBack note place Settled ∷ h) → note.dir ≡ Back → SealsNext start.rules h note place
return_seals_next start h note place legal is =
    let inside = all-there start h note place Settled Back is legal refl (ways start h legal.1 note.circ.0 Back) in
    let all = back_bodies (circuit_log start.rules h note.circ.0) in
    let bodies_are : claimed_bodies start.rules h note ≡ take note.count (drop note.first all) =
    ap (λ d. bodies_in start.rules h note d) is in
    record {
      count = ap (λ (l : List (List ℕ)). length l) bodies_are ∙ part-count all note.first note.count inside.1;
      sealed = rw (own-same note Back is) refl;
      next = rw bodies_are (rw inside.0 (take-both (sealed_count h note.circ.0) note.count all));
    }
