-- The cells that wait stay well formed.
use Rattle.std.specs.Prelude.{◌≡◌, Bool, true, false, cond, List, [], ◌∷◌, ◌++◌, drop, Option, Some, None, IsSome, IfSome, Result, Ok, Err, refl}
use Rattle.std.proofs.Common.{◌∙◌, sym, subst}
use Rattle.std.specs.HashMap.{HashMap, WritesThrough, Updates}
use Rattle.std.specs.Map.{lookup}
use Rattle.std.specs.Result.{OnErr, OnOk}
use Rattle.cell_codec.specs.Cells.{IsWellFormed}
use Rattle.cell_codec.specs.Roomy.{Roomy}
use Rattle.cell_codec.specs.declared.cell.Cell.{Cell}
use Rattle.hashed_maps.specs.Pairs.{pair_eq}
use Rattle.out_lanes.specs.Forms.{EachWellFormed, AreWellFormed}
use Rattle.out_lanes.specs.Waiting.{LegName}

each-append : (cells : List Cell) (cell : Cell) → EachWellFormed cells → IsWellFormed cell → EachWellFormed (cells ++ cell ∷ [])
each-append [] cell each form = (form, tt)
each-append (first ∷ cells) cell each form = (each.0, each-append cells cell each.1 form)

each-drop : (cells : List Cell) → EachWellFormed cells → EachWellFormed (drop 1 cells)
each-drop [] each = tt
each-drop (first ∷ cells) each = each.1

-- A queue after a cell was added, or not for want of memory.
pub each-pushed : {T E : Type 0} (r : Result T E) (old new : Roomy Cell) (cell : Cell)
    → OnOk r (new.items ≡ old.items ++ cell ∷ []) → OnErr r (new ≡ old) → IsWellFormed cell → EachWellFormed old.items
    → EachWellFormed new.items
each-pushed (Ok x) old new cell more same form each = subst EachWellFormed (sym more) (each-append old.items cell each form)
each-pushed (Err e) old new cell more same form each = subst (λ queue. EachWellFormed queue.items) (sym same) each

pub each-pushed_reserved : (old new : List Cell) (cell : Cell) → new ≡ old ++ cell ∷ [] → IsWellFormed cell
    → EachWellFormed old → EachWellFormed new
each-pushed_reserved old new cell more form each = subst EachWellFormed (sym more) (each-append old cell each form)

pub each-taken : (old new : List Cell) → new ≡ drop 1 old → EachWellFormed old → EachWellFormed new
each-taken old new fewer each = subst EachWellFormed (sym fewer) (each-drop old each)

pub each-same : (old new : List Cell) → new ≡ old → EachWellFormed old → EachWellFormed new
each-same old new same each = subst EachWellFormed (sym same) each

-- The cell that is taken off.
pub first_formed : (first : Option Cell) (cells rest : List Cell) → IfSome first (λ cell. cells ≡ cell ∷ rest)
    → EachWellFormed cells → IfSome first IsWellFormed
first_formed None cells rest is each = tt
first_formed (Some cell) cells rest is each = (subst EachWellFormed is each).0

-- The map as one queue of it changes.
are-moved : (before after : List (LegName × Roomy Cell)) (key : LegName) (now : Option (Roomy Cell)) → AreWellFormed before
    → ((q : LegName) → lookup (pair_eq q) after ≡ cond (pair_eq key q) now (lookup (pair_eq q) before))
    → ((queue : Roomy Cell) → now ≡ Some queue → EachWellFormed queue.items) → AreWellFormed after
are-moved before after key now were moved formed leg queue found = cases (pair_eq key leg) (sym (moved leg) ∙ found)
  where
    cases : (here : Bool) → cond here now (lookup (pair_eq leg) before) ≡ Some queue → EachWellFormed queue.items
    cases true is = formed queue is
    cases false is = were leg queue is

module _ {S : Type 0} (m n : HashMap LegName (Roomy Cell) S) (key : LegName) (were : AreWellFormed m.entries) where
  pub are-written : (old_queue new_queue : Roomy Cell) → WritesThrough pair_eq (pair_eq key) m new_queue n
      → Some old_queue ≡ lookup (pair_eq key) m.entries → (EachWellFormed old_queue.items → EachWellFormed new_queue.items)
      → AreWellFormed n.entries
  are-written old_queue new_queue writes found keeps =
      are-moved m.entries n.entries key (Some new_queue) were ((writes.3 (subst IsSome found refl)).0)
      (λ queue same. let it : new_queue ≡ queue =
      cc in subst (λ q. EachWellFormed q.items) it (keeps (were key old_queue (sym found))))

  pub are-added : (new_queue : Roomy Cell) → Updates pair_eq m n key (Some new_queue) → EachWellFormed new_queue.items
      → AreWellFormed n.entries
  are-added new_queue updates each =
      are-moved m.entries n.entries key (Some new_queue) were updates.0 (λ queue same. let it : new_queue ≡ queue = cc in
      subst (λ q. EachWellFormed q.items) it each)

  pub are-removed : Updates pair_eq m n key None → AreWellFormed n.entries
  are-removed updates = are-moved m.entries n.entries key None were updates.0 (λ queue same. absurd (cc))
