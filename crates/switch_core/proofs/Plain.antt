-- The machine's words over lists in which nothing is gone.
use Rattle.std.proofs.Common.{◌≡◌, ◌≤◌, ◌<◌, ◌||◌, ℕ, Bool, true, false, List, [], ◌∷◌, length, get_or, Option, Some, None, slice_get, refl, ◌∙◌, arith, zero, suc}
use Rattle.cell_codec.specs.declared.cell.Cell.{Cell}
use Rattle.kdf_tor.specs.declared.LayerKeys.{LayerKeys}
use Rattle.tr_io.specs.declared.answers.OpenAnswer.TheVariants.{Opened, Refused}
use Rattle.tr_io.specs.declared.answers.OpenRefusal.{OpenRefusal}
use Rattle.tr_io.specs.declared.names.CircNo.{CircNo}
use Rattle.switch_machine.specs.State.{ChannelState, State, slot_at}
use Rattle.switch_machine.specs.Machine.{counted}
use Rattle.switch_machine.specs.Calls.OpenCircuit.{open_result_on, open_state_by, with_circuit}
use Rattle.switch_core.specs.Meaning.{refused_on}
pub use Rattle.switch_machine.specs.State.{all_there}
pub use Rattle.switch_machine.proofs.PlainLists.{length-all_there, slot_at-all_there, with_slot-all_there, all_there-push, filled-all_there, list_any-all_there}

pub ruleset plain_lists =
    (length-all_there, slot_at-all_there, with_slot-all_there, all_there-push, filled-all_there, list_any-all_there)

pub or_false : (b : Bool) → (b || false) ≡ b
or_false true = refl
or_false false = refl

none : {A : Type 0} (xs : List A) (n : ℕ) → length xs ≤ n → slice_get xs n ≡ None
none [] n far = refl
none (x ∷ xs) zero far = absurd (omega arith)
none (x ∷ xs) (suc n) far = none xs n (omega arith)

-- beyond the last there is nothing
pub beyond : {A : Type 0} (xs : List A) (n : ℕ) → length xs ≤ n → slot_at (all_there xs) n ≡ None
beyond xs n far = slot_at-all_there xs n ∙ none xs n far

got : {A : Type 0} (xs : List A) (n : ℕ) (d : A) → n < length xs → slice_get xs n ≡ Some (get_or xs n d)
got [] n d here = absurd (omega arith)
got (x ∷ xs) zero d here = refl
got (x ∷ xs) (suc n) d here = got xs n d (omega arith)

-- before it, there is what the list has
pub there : {A : Type 0} (xs : List A) (n : ℕ) (d : A) → n < length xs → slot_at (all_there xs) n ≡ Some (get_or xs n d)
there xs n d here = slot_at-all_there xs n ∙ got xs n d here

-- the state behind an opening, by its answer
pub refused_state : (s : State) (chan id : ℕ) (reply : Cell) (keys : Option LayerKeys) (x : Option ChannelState)
    (why : OpenRefusal) → open_state_by s chan id reply keys x (Refused why) ≡ counted (refused_on s chan id why x)
refused_state s chan id reply keys (Some channel) why = refl
refused_state s chan id reply keys None why = refl

pub opened_state : (most : ℕ) (s : State) (chan id : ℕ) (reply : Cell) (keys : Option LayerKeys) (x : Option ChannelState)
    (n : CircNo) → Opened n ≡ open_result_on most s chan id keys x
    → open_state_by s chan id reply keys x (Opened n) ≡ with_circuit s chan id reply keys
opened_state most s chan id reply keys (Some channel) n answer = refl
opened_state most s chan id reply keys None n answer = cc
