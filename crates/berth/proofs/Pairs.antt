-- The notes of two ends that are joined.
use Rattle.std.proofs.Common.{◌≡◌, ◌+◌, true, false, List, [], ◌∷◌, ◌++◌, sym, refl, ap, ◌∙◌, subst, Option, Some, None, arith}
use Rattle.std.specs.Prelude.{flat_map}
use mathlib.Core.List.{IsPrefix}
use Rattle.turn_lock.specs.declared.view.View.{View}
use Rattle.turn_lock.specs.Shares.{Interleaves}
use Rattle.turn_lock.specs.Views.{own_steps, Turned, CaughtUp, BeginsFrom, HasAllSteps}
use Rattle.turn_lock.specs.Passes.{TurnCase}
use Rattle.turn_lock.proofs.Laws.{Interleaves-swap, flat_map-Interleaves}
use Rattle.tr_io.specs.declared.stepping.Turn.{Turn}
use Rattle.tr_io.specs.declared.stepping.Turn.TheVariants.{Did, Spent}
use Rattle.berth.specs.declared.note.NoteBox.{NoteBox}
use Rattle.berth.specs.declared.note.BoxStep.{BoxStep}
use Rattle.berth.specs.Notes.{StandsForSteps, AnswersAreRight, AreRight, put_by, taken_by}
use Rattle.berth.specs.Ends.{notes_put, notes_taken, empty_box, IsEnd, AnswersStep}
use Rattle.berth.proofs.Boxes.{taken_begins, last_right}

abbrev V : Type 0
V = View NoteBox BoxStep

-- v and w are the ends, j the joined pass, and k that pass once it has seen the whole history
pub ends_meet : (v w j k : V) → IsEnd true v → IsEnd false w → j.opening ≡ v.opening
    → Interleaves (own_steps v) (own_steps w) (own_steps j) → CaughtUp StandsForSteps AnswersAreRight j k → HasAllSteps k
    → IsPrefix (notes_taken w) (notes_put v)
ends_meet v w j k e f same both met all = let own : own_steps j ≡ k.seen = sym met.mine ∙ all.steps in
    let puts : flat_map put_by (own_steps j) ≡ notes_put v =
    flat_map-Interleaves put_by (own_steps v) (own_steps w) (own_steps j) both (f.second refl) in
    let takes : flat_map taken_by (own_steps j) ≡ notes_taken w =
    flat_map-Interleaves taken_by (own_steps w) (own_steps v) (own_steps j)
    (Interleaves-swap (own_steps v) (own_steps w) (own_steps j) both) (e.first refl) in
    let right : AreRight None k.seen =
    met.legal_is tt
    (subst (λ (o : Option NoteBox). BeginsFrom StandsForSteps AnswersAreRight o tt) (sym (same ∙ e.opening)) (refl, tt)) in
    let r = taken_begins k.seen right in
    subst (λ (x : List _ × List _). IsPrefix x.0 x.1)
    (λ i. ((ap (flat_map taken_by) (sym own) ∙ takes) i, (ap (flat_map put_by) (sym own) ∙ puts) i)) r

pub answers_step : (v w : V) (e : BoxStep) → v.opening ≡ Some empty_box → Turned StandsForSteps AnswersAreRight v (Some e) w
    → AnswersStep v e w
answers_step v w e opening t = let last : w.seen ≡ t.log ++ e ∷ [] = ap (λ (x : V). x.seen) t.after in
    let right : AreRight None w.seen =
    t.legal_is tt (subst (λ (o : Option NoteBox). BeginsFrom StandsForSteps AnswersAreRight o tt) (sym opening) (refl, tt)) in
    record {
      log = t.log;
      older = t.older;
      room = t.room;
      last = last;
      legal = right;
      right = last_right None t.log e (subst (λ (l : List BoxStep). AreRight None l) last right);
    }

pub TurnCase-map : {A : Type 0} (r : Turn A) (P P' : Type 0) (Q Q' : A → Type 0) → (P → P') → ((a : A) → Q a → Q' a)
    → TurnCase r P Q → TurnCase r P' Q'
TurnCase-map (Did a) P P' Q Q' p q c = q a c
TurnCase-map Spent P P' Q Q' p q c = p c
