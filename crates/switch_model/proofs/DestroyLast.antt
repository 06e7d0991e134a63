-- The one-thread relay sends nothing behind the DESTROY of a leg towards a next hop, and none on the client's leg,
-- where no event brings a DESTROY and CREATED2 comes only while it is awaited.
use Rattle.std.proofs.Common.{◌≡◌, ℕ, ◌+◌, ◌<◌, ◌==◌, ◌&&◌, ◌||◌, ◌⊎◌, Bool, true, false, if◌then◌else◌, List, [], ◌∷◌, ◌++◌, option_to_list, Option, None, refl, sym, ◌∙◌, ap, subst, append_assoc, inl, inr, arith}
use Rattle.std.specs.List.{AllByRecursion, list_any}
use Rattle.std.specs.Option.{option_or}
use Rattle.std.proofs.lemmas.Bool.Decides.{nat_tests}
use Rattle.std.proofs.lemmas.List.{append-nil}
use Rattle.circuit_model.specs.Events.{CircuitCell, Event}
use Rattle.circuit_model.specs.declared.event.Event.TheVariants.{Born, Linked}
use Rattle.circuit_model.specs.Log.{Log}
use Rattle.circuit_model.specs.NextHop.{next_hop, has_leg, is_linked, leg_count}
use Rattle.circuit_model.specs.Opened.{reply_in, born_keys, born_reply}
use Rattle.circuit_model.specs.Packaged.{back_bodies}
use Rattle.circuit_model.specs.Rules.{Rules}
use Rattle.circuit_model.specs.Sent.{destroy, given_forth, sent_to_hop, sent_to_client, all_sealed}
use Rattle.circuit_model.specs.Words.{log, effects, entry_after}
use Rattle.circuit_model.proofs.Legs.{no_leg_no_cells}
use Rattle.switch_model.proofs.Common.{and-false, all-append}
use Rattle.switch_model.proofs.NoDestroys.{IsNoDestroy, FitsBehind, AllFit, gives-none, linked-cut, hop-gone}

-- a leg that wasn't linked yet is sent nothing
none-yet : (b : Bool) (xs : List CircuitCell) (given : List CircuitCell) → b ≡ false → xs ≡ []
    → xs ++ (if b then given else []) ≡ []
none-yet true xs given other none = absurd cc
none-yet false xs given other none = append-nil xs ∙ none

count-before : (b : Bool) (n leg : ℕ) → (if b then n + 1 else n) < leg → n < leg
count-before true n leg above = omega (arith, above)
count-before false n leg above = above

other-leg : (n leg : ℕ) → n < leg → (n == leg) ≡ false
other-leg n leg above = grind (arith, nat_tests)

pub no_leg_nothing : (l : Log) (leg : ℕ) → leg_count l < leg → sent_to_hop l leg ≡ []
no_leg_nothing [] leg above = refl
no_leg_nothing (entry ∷ l) leg above =
    none-yet (leg_count (entry ∷ l) == leg) (sent_to_hop l leg) (given_forth l entry)
    (other-leg (leg_count (entry ∷ l)) leg above)
    (no_leg_nothing l leg (count-before (is_linked entry.event) (leg_count l) leg above))

-- a leg without a DESTROY, or with one as its last cell and no more to come
record IsOver (l : Log) (leg : ℕ) (cells : List CircuitCell) : Type 0 where
  pub front : List CircuitCell
  pub last : CircuitCell
  pub none : AllByRecursion IsNoDestroy front
  pub all : cells ≡ front ++ last ∷ []
  pub over : ((leg_count l == leg) && has_leg (next_hop l)) ≡ false

abbrev LegIs : Log → ℕ → List CircuitCell → Type 0
LegIs l leg cells = AllByRecursion IsNoDestroy cells ⊎ IsOver l leg cells

both-over : (l m : Log) (leg : ℕ) (cells more : List CircuitCell) → more ≡ cells
    → ((leg_count m == leg) && has_leg (next_hop m)) ≡ false → LegIs l leg cells → LegIs m leg more
both-over l m leg cells more same over (inl none) = inl (subst (AllByRecursion IsNoDestroy) (sym same) none)
both-over l m leg cells more same over (inr is) =
    inr (record { front = is.front; last = is.last; none = is.none; all = same ∙ is.all; over = over })

linked-leg : (rules : Rules) (ev : List Event) (leg : ℕ) (b : Bool) → (leg_count (log rules (Linked ∷ ev)) == leg) ≡ b
    → LegIs (log rules ev) leg (sent_to_hop (log rules ev) leg) →
    LegIs (log rules (Linked ∷ ev)) leg
    (sent_to_hop (log rules ev) leg
    ++ (if b then given_forth (log rules ev) (record { event = Linked; message = None; effects = effects rules ev Linked })
    else []))
linked-leg rules ev leg true is before =
    let nothing : sent_to_hop (log rules ev) leg ≡ [] = no_leg_nothing (log rules ev) leg (grind (arith, nat_tests)) in
    inl (rw (nothing, linked-cut rules ev)
    (all-append IsNoDestroy (option_to_list (effects rules ev Linked).forth) [] (gives-none rules ev Linked tt) tt))
linked-leg rules ev leg false is before =
    both-over (log rules ev) (log rules (Linked ∷ ev)) leg _ _ (append-nil _) (rw is refl) before

was-over : (l : Log) (leg : ℕ) (cells : List CircuitCell) → ((leg_count l == leg) && has_leg (next_hop l)) ≡ true
    → LegIs l leg cells → AllByRecursion IsNoDestroy cells
was-over l leg cells on (inl none) = none
was-over l leg cells on (inr is) = let no : true ≡ false = sym on ∙ is.over in absurd cc

cut-leg : (rules : Rules) (ev : List Event) (e : Event) (leg : ℕ) (cells : List CircuitCell) (b : Bool)
    → (effects rules ev e).cut ≡ b → is_linked e ≡ false → FitsBehind rules ev e → AllByRecursion IsNoDestroy cells →
    LegIs (log rules (e ∷ ev)) leg
    (cells ++ (option_to_list (effects rules ev e).forth ++ (if b && true then destroy 3 ∷ [] else [])))
cut-leg rules ev e leg cells true is other fits none = inr (record {
  front = cells ++ option_to_list (effects rules ev e).forth;
  last = destroy 3;
  none = all-append IsNoDestroy cells _ none (gives-none rules ev e fits);
  all = sym (append_assoc cells (option_to_list (effects rules ev e).forth) (destroy 3 ∷ []));
  over = rw (hop-gone rules ev e other fits (inl is)) (and-false _);
})
cut-leg rules ev e leg cells false is other fits none =
    inl (all-append IsNoDestroy cells _ none
    (all-append IsNoDestroy (option_to_list (effects rules ev e).forth) [] (gives-none rules ev e fits) tt))

none-more : (b : Bool) (xs given : List CircuitCell) → b ≡ false → xs ++ (if b then given else []) ≡ xs
none-more true xs given none = absurd cc
none-more false xs given none = append-nil xs

and-left : (a b : Bool) → a ≡ false → (a && b) ≡ false
and-left true b none = absurd cc
and-left false b none = refl

same-count : (rules : Rules) (ev : List Event) (e : Event) → is_linked e ≡ false
    → leg_count (log rules (e ∷ ev)) ≡ leg_count (log rules ev)
same-count rules ev e other = rw other refl

event-leg : (rules : Rules) (ev : List Event) (e : Event) (leg : ℕ) (b m : Bool) → (leg_count (log rules ev) == leg) ≡ b
    → has_leg (next_hop (log rules ev)) ≡ m → is_linked e ≡ false → FitsBehind rules ev e →
    LegIs (log rules ev) leg (sent_to_hop (log rules ev) leg)
    → LegIs (log rules (e ∷ ev)) leg (sent_to_hop (log rules (e ∷ ev)) leg)
event-leg rules ev e leg true true is has other fits before =
    let none = was-over (log rules ev) leg _ (rw (is, has) refl) before in
    rw (same-count rules ev e other, is, has)
    (cut-leg rules ev e leg (sent_to_hop (log rules ev) leg) (effects rules ev e).cut refl other fits none)
event-leg rules ev e leg true false is has other fits before =
    both-over (log rules ev) (log rules (e ∷ ev)) leg _ _ (no_leg_no_cells rules ev e leg other has)
    (rw (hop-gone rules ev e other fits (inr has)) (and-false _)) before
event-leg rules ev e leg false m is has other fits before =
    let apart : (leg_count (log rules (e ∷ ev)) == leg) ≡ false = ap (λ n. n == leg) (same-count rules ev e other) ∙ is in
    both-over (log rules ev) (log rules (e ∷ ev)) leg _ _
    (none-more _ (sent_to_hop (log rules ev) leg) (given_forth (log rules ev) (entry_after rules (log rules ev) e)) apart)
    (and-left _ _ apart) before

leg-is : (rules : Rules) (ev : List Event) → AllFit rules ev → (leg : ℕ)
    → LegIs (log rules ev) leg (sent_to_hop (log rules ev) leg)
leg-is rules [] fits leg = inl tt
leg-is rules (Linked ∷ ev) fits leg = linked-leg rules ev leg _ refl (leg-is rules ev fits.1 leg)
leg-is rules (e ∷ ev) fits leg = event-leg rules ev e leg _ _ refl refl refl fits.0 (leg-is rules ev fits.1 leg)

-- so what was sent up to a DESTROY is all
nothing-more : (xs rest : List CircuitCell) → xs ++ rest ≡ [] → rest ≡ []
nothing-more [] rest none = none
nothing-more (x ∷ xs) rest none = absurd cc

first-of : {x y : CircuitCell} {xs ys : List CircuitCell} → x ∷ xs ≡ y ∷ ys → x ≡ y
first-of e = cc

others-of : {x y : CircuitCell} {xs ys : List CircuitCell} → x ∷ xs ≡ y ∷ ys → xs ≡ ys
others-of e = cc

or-right : (a b : Bool) → a ≡ false → (a || b) ≡ true → b ≡ true
or-right true b none some = absurd cc
or-right false b none some = some

whole-over : (xs rest front : List CircuitCell) (last : CircuitCell) → AllByRecursion IsNoDestroy front
    → xs ++ rest ≡ front ++ last ∷ [] → list_any (λ cell. cell.command == 4) xs ≡ true → rest ≡ []
whole-over [] rest front last none all some = absurd cc
whole-over (x ∷ xs) rest [] last none all some = nothing-more xs rest (others-of all)
whole-over (x ∷ xs) rest (y ∷ front) last none all some =
    let other : (x.command == 4) ≡ false = subst IsNoDestroy (sym (first-of all)) none.0 in
    whole-over xs rest front last none.1 (others-of all) (or-right (x.command == 4) _ other some)

none-of : (xs rest : List CircuitCell) → AllByRecursion IsNoDestroy (xs ++ rest) → list_any (λ cell. cell.command == 4) xs ≡ true
    → ⊥
none-of [] rest none some = cc
none-of (x ∷ xs) rest none some = none-of xs rest none.1 (or-right (x.command == 4) _ none.0 some)

whole-by : (l : Log) (leg : ℕ) (xs rest : List CircuitCell) → xs ++ rest ≡ sent_to_hop l leg
    → list_any (λ cell. cell.command == 4) xs ≡ true → LegIs l leg (sent_to_hop l leg) → rest ≡ []
whole-by l leg xs rest all some (inl none) = absurd (none-of xs rest (subst (AllByRecursion IsNoDestroy) (sym all) none) some)
whole-by l leg xs rest all some (inr is) = whole-over xs rest is.front is.last is.none (all ∙ is.all) some

pub destroy_is_last : (rules : Rules) (ev : List Event) (leg : ℕ) (xs rest : List CircuitCell) → AllFit rules ev
    → xs ++ rest ≡ sent_to_hop (log rules ev) leg → list_any (λ cell. cell.command == 4) xs ≡ true → rest ≡ []
destroy_is_last rules ev leg xs rest fits all some = whole-by (log rules ev) leg xs rest all some (leg-is rules ev fits leg)

-- on leg 0 there is none
sealed-none : (key : List ℕ) (n : ℕ) (bodies : List (List ℕ)) → AllByRecursion IsNoDestroy (all_sealed key n bodies)
sealed-none key n [] = tt
sealed-none key n (body ∷ bodies) = (refl, sealed-none key (n + 1) bodies)

reply-or : (e : Event) (old : Option CircuitCell) → AllByRecursion IsNoDestroy (option_to_list (reply_in e))
    → AllByRecursion IsNoDestroy (option_to_list old) → AllByRecursion IsNoDestroy (option_to_list (option_or (reply_in e) old))
reply-or (Born reply keys pad) old one none = one
reply-or e old one none = none

reply-in : (rules : Rules) (ev : List Event) (e : Event) → FitsBehind rules ev e
    → AllByRecursion IsNoDestroy (option_to_list (reply_in e))
reply-in rules ev (Born reply keys pad) fits = (fits, tt)
reply-in rules ev e fits = tt

reply-none : (rules : Rules) (ev : List Event) → AllFit rules ev
    → AllByRecursion IsNoDestroy (option_to_list (born_reply (log rules ev)))
reply-none rules [] fits = tt
reply-none rules (e ∷ ev) fits = reply-or e (born_reply (log rules ev)) (reply-in rules ev e fits.0) (reply-none rules ev fits.1)

pub client_without_destroy : (rules : Rules) (ev : List Event) (xs rest : List CircuitCell) → AllFit rules ev
    → xs ++ rest ≡ sent_to_client (log rules ev) → list_any (λ cell. cell.command == 4) xs ≡ true → ⊥
client_without_destroy rules ev xs rest fits all some =
    none-of xs rest
    (subst (AllByRecursion IsNoDestroy) (sym all)
    (all-append IsNoDestroy (option_to_list (born_reply (log rules ev))) _ (reply-none rules ev fits)
    (sealed-none (born_keys (log rules ev)).kb 0 (back_bodies (log rules ev))))) some
