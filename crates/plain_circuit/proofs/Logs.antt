-- Words over a log, by the list of entries that it is, the oldest first.
use Rattle.std.proofs.Common.{◌≡◌, ℕ, ◌+◌, ◌||◌, List, [], ◌∷◌, ◌++◌, Bool, true, false, if◌then◌else◌, cond, refl, ◌∙◌, ap, map, count_by, arith, ◌<◌, length, take, get_or}
use Rattle.std.specs.List.{list_any}
use Rattle.std.proofs.lemmas.List.{take_more, map-append}
use Rattle.std.proofs.lemmas.List.Recursion.{is_count_by}
use Rattle.std.proofs.lemmas.List.Folds.{list_any-append}
use Rattle.circuit_model.specs.Events.{Event}
use Rattle.circuit_model.specs.Log.{Entry as ModelEntry, Log, count_of}
use Rattle.circuit_model.specs.Words.{in_order}
use Rattle.plain_circuit.specs.declared.log.Entry.{Entry}
use Rattle.plain_circuit.specs.Values.{entry_of, log_of}

-- One more that is counted, before or behind another one.
counted-before : (this that : Bool) (n m : ℕ) → m ≡ cond this (1 + n) n
    → (if that then m + 1 else m) ≡ cond this (1 + (if that then n + 1 else n)) (if that then n + 1 else n)
counted-before true true n m is = omega arith
counted-before true false n m is = is
counted-before false true n m is = omega arith
counted-before false false n m is = is

count_of-oldest : (t : ModelEntry → Bool) (log : Log) (x : ModelEntry)
    → count_of t (log ++ x ∷ []) ≡ cond (t x) (1 + count_of t log) (count_of t log)
count_of-oldest t [] x = refl
count_of-oldest t (y ∷ log) x = counted-before (t x) (t y) (count_of t log) (count_of t (log ++ x ∷ [])) (count_of-oldest t log x)

pub count_of-log_of : (t : ModelEntry → Bool) (entries : List Entry)
    → count_of t (log_of entries) ≡ count_by (λ e. t (entry_of e)) entries
count_of-log_of t entries =
    is_count_by (λ xs. count_of t (log_of xs)) (λ e. t (entry_of e)) refl (λ x xs. count_of-oldest t (log_of xs) (entry_of x))
    entries

swapped : (a b : Bool) → (a || (b || false)) ≡ (b || a)
swapped true true = refl
swapped true false = refl
swapped false true = refl
swapped false false = refl

pub list_any-log_of : (t : ModelEntry → Bool) (entries : List Entry)
    → list_any t (log_of entries) ≡ list_any (λ e. t (entry_of e)) entries
list_any-log_of t [] = refl
list_any-log_of t (x ∷ entries) =
    list_any-append t (log_of entries) (entry_of x ∷ [])
    ∙ swapped (list_any t (log_of entries)) (t (entry_of x))
    ∙ ap (λ b. t (entry_of x) || b) (list_any-log_of t entries)

pub list_any_log_of : (t : ModelEntry → Bool) (entries : List Entry)
    → list_any t (log_of entries) ≡ list_any (λ e. t (entry_of e)) entries
list_any_log_of t entries = list_any-log_of t entries

-- One more entry at the new end of a log.

in_order-newest : {A : Type 0} (xs : List A) (x : A) → in_order (xs ++ x ∷ []) ≡ x ∷ in_order xs
in_order-newest [] x = refl
in_order-newest (y ∷ xs) x = rw (in_order-newest xs x)

pub log_of_pushed : (entries : List Entry) (entry : Entry) → log_of (entries ++ entry ∷ []) ≡ entry_of entry ∷ log_of entries
log_of_pushed entries entry =
    rw (map-append entry_of entries (entry ∷ [])) (in_order-newest (map entry_of entries) (entry_of entry))

-- The first part lets `grind` find the entry that was read.
pub log_of_more : (entries : List Entry) (i : ℕ) (d : Entry) → i < length entries →
    (get_or entries i d ≡ get_or entries i d)
    × (log_of (take (i + 1) entries) ≡ entry_of (get_or entries i d) ∷ log_of (take i entries))
log_of_more entries i d inside = (refl, rw (take_more entries i d inside) (log_of_pushed (take i entries) (get_or entries i d)))

pub in_order_more : (events : List Event) (i : ℕ) (d : Event) → i < length events →
    (get_or events i d ≡ get_or events i d) × (in_order (take (i + 1) events) ≡ get_or events i d ∷ in_order (take i events))
in_order_more events i d inside = (refl, rw (take_more events i d inside) (in_order-newest (take i events) (get_or events i d)))
