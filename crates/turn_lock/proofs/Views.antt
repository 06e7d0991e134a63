-- How the views of a lock may change under its rule.
use Rattle.std.proofs.Common.{◌≡◌, ℕ, ◌+◌, ◌<◌, ◌≢◌, true, false, List, [], ◌∷◌, ◌++◌, set, sym, refl, ap, ◌∙◌, subst, ⊎_elim, arith, Option as Maybe}
use Rattle.std.proofs.lemmas.Bool.{true≢false}
use Rattle.std.proofs.lemmas.List.Sums.{sum_by_push}
use mathlib.Core.Logic.{dite}
use mathlib.Core.Option.{some, some-injective}
use mathlib.Core.List.{IsPrefix}
use native.Mathlib.Decide.{ℕ_discrete}
use lib.ListN.{get_elem?}
use Rattle.atomic_table.proofs.Lists.{at_set, at_snoc, set_else, at_longer}
use Rattle.turn_lock.specs.declared.view.View.{View}
use Rattle.turn_lock.specs.Shares.{times_in}
use Rattle.turn_lock.specs.Views.{IsPlaced, spent_view}
use Rattle.turn_lock.specs.Rule.{LockPhase, free, out, shut, IsView, AreViews}
use Rattle.turn_lock.proofs.Sums.{set-here, sum_by-changed, sum_by-two, sum_by-only, prefix-through}

-- which number a phase has, to tell two apart
abbrev rank : LockPhase → ℕ
rank free = 0
rank out = 1
rank shut = 2

pub out-free : out ≡ free → ⊥
out-free e = let z : rank out ≡ rank free = ap rank e in omega arith

pub out-shut : out ≡ shut → ⊥
out-shut e = let z : rank out ≡ rank shut = ap rank e in omega arith

pub shut-free : shut ≡ free → ⊥
shut-free e = let z : rank shut ≡ rank free = ap rank e in omega arith

module _ {T E : Type 0} (opening : Maybe T) (seats : ℕ) where
  abbrev One : List E → LockPhase → ℕ → ℕ → View T E → Type 0
  One = IsView opening seats

  abbrev All : List E → LockPhase → ℕ → ℕ → (ℕ → ℕ) → List (View T E) → Type 0
  All = AreViews opening seats

  abbrev pub Whole : List E → List (View T E) → Type 0
  Whole log vs = (j : ℕ) × (u : View T E) × (get_elem? vs j ≡ some u) × (0 < u.parts) × (u.seen ≡ log)

  abbrev pub Turning : LockPhase → ℕ → List (View T E) → Type 0
  Turning phase holder vs = phase ≡ out → (u : View T E) × (get_elem? vs holder ≡ some u) × (u.has_turn ≡ true)

  pub same_view : (vs : List (View T E)) (i j : ℕ) (u v : View T E) → i ≡ j → get_elem? vs i ≡ some u → get_elem? vs j ≡ some v
      → u ≡ v
  same_view vs i j u v same a b = some-injective u v (sym a ∙ (ap (get_elem? vs) same ∙ b))

  -- a view of another seat, where the history grew or the phase changed
  pub carried : (log log' : List E) (phase phase' : LockPhase) (holder holder' j : ℕ) (u : View T E) → One log phase holder j u
      → IsPrefix log log'
      → (u.has_turn ≡ true → (phase' ≡ out) × (j ≡ holder') × (u.seen ≡ log') × (0 < u.parts))
      → (u.is_closed ≡ true → (phase' ≡ shut) × (u.seen ≡ log') × (u.opening ≡ opening)) → One log' phase' holder' j u
  carried log log' phase phase' holder holder' j u k more turn closing = record {
    start = k.start;
    seen_is = prefix-through u.seen log log' k.seen_is more;
    shorter_is = k.shorter_is;
    placed = k.placed;
    turn = turn;
    closing = closing;
    spent = k.spent;
  }

  -- a view that keeps its start and some parts
  pub renewed : (log log' : List E) (phase phase' : LockPhase) (holder holder' id : ℕ) (v w : View T E)
      → One log phase holder id v
      → 0 < v.parts → w.opening ≡ v.opening → w.seats ≡ v.seats → 0 < w.parts
      → IsPrefix w.seen log' → IsPrefix w.shorter w.seen → IsPlaced w
      → (w.has_turn ≡ true → (phase' ≡ out) × (id ≡ holder') × (w.seen ≡ log') × (0 < w.parts))
      → (w.is_closed ≡ true → (phase' ≡ shut) × (w.seen ≡ log') × (w.opening ≡ opening)) → One log' phase' holder' id w
  renewed log log' phase phase' holder holder' id v w k some_part opening_is seats_is left seen_is shorter_is placed turn
      closing =
      record {
        start = λ _. let e = k.start some_part in (opening_is ∙ e.0, seats_is ∙ e.1);
        seen_is = seen_is;
        shorter_is = shorter_is;
        placed = placed;
        turn = turn;
        closing = closing;
        spent = λ z. absurd (omega arith);
      }

  -- a view with no part and no share
  pub partless : (log : List E) (phase : LockPhase) (holder j : ℕ) (w : View T E) → w.parts ≡ 0 → w.shares ≡ []
      → IsPrefix w.seen log
      → IsPrefix w.shorter w.seen → w.has_turn ≡ false
      → (w.is_closed ≡ true → (phase ≡ shut) × (w.seen ≡ log) × (w.opening ≡ opening)) → One log phase holder j w
  partless log phase holder j w parts shares seen_is shorter_is off closing = record {
    start = λ n. absurd (omega arith);
    seen_is = seen_is;
    shorter_is = shorter_is;
    placed = λ p _. ap (times_in p) shares;
    turn = λ on. absurd (true≢false (sym on ∙ off));
    closing = closing;
    spent = λ _ p. ap (times_in p) shares;
  }

  pub spent_is : (log : List E) (phase : LockPhase) (holder j : ℕ) → One log phase holder j spent_view
  spent_is log phase holder j =
      partless log phase holder j spent_view refl refl (log, refl) ([], refl) refl (λ on. absurd (true≢false (sym on)))

  -- one view changes
  pub change : (log log' : List E) (phase phase' : LockPhase) (holder holder' parts parts' : ℕ) (once once' : ℕ → ℕ)
      (vs : List (View T E)) (id : ℕ) (v w : View T E)
      → All log phase holder parts once vs → get_elem? vs id ≡ some v
      → One log' phase' holder' id w → ((j : ℕ) (u : View T E) → j ≢ id → One log phase holder j u → One log' phase' holder' j u)
      → Turning phase' holder' (set vs id w)
      → parts + w.parts ≡ parts' + v.parts → ((p : ℕ) → once p + times_in p w.shares ≡ once' p + times_in p v.shares)
      → Whole log' (set vs id w)
      → All log' phase' holder' parts' once' (set vs id w)
  change log log' phase phase' holder holder' parts parts' once once' vs id v w r at mine others holding same places whole =
      record {
        each =
            λ j u e. ⊎_elim
            (λ (t : (j ≡ id) × (w ≡ u)). subst (λ (x : ℕ × View T E). One log' phase' holder' x.0 x.1)
            (λ i. (sym t.0 i, t.1 i)) mine)
            (λ (t : (j ≢ id) × (get_elem? vs j ≡ some u)). others j u t.0 (r.each j u t.1)) (at_set vs id j w u e);
        holding = holding;
        all_parts = let t = sum_by-changed (λ (u : View T E). u.parts) vs id v w at in let p = r.all_parts in omega arith;
        all_places =
            λ p. let t = sum_by-changed (λ (u : View T E). times_in p u.shares) vs id v w at in let q = r.all_places p in let g =
            places p in omega arith;
        whole = whole;
      }

  -- a view is added that has no place
  pub add : (log : List E) (phase : LockPhase) (holder parts parts' : ℕ) (once : ℕ → ℕ) (vs : List (View T E)) (w : View T E)
      → All log phase holder parts once vs → ((j : ℕ) → One log phase holder j w)
      → parts' ≡ parts + w.parts → ((p : ℕ) → times_in p w.shares ≡ 0) → All log phase holder parts' once (vs ++ w ∷ [])
  add log phase holder parts parts' once vs w r mine same none = record {
    each =
        λ j u e. ⊎_elim (λ (there : get_elem? vs j ≡ some u). r.each j u there)
        (λ (is : w ≡ u). subst (One log phase holder j) is (mine j)) (at_snoc vs w u j e);
    holding = λ h. let t = r.holding h in (t.0, at_longer vs (w ∷ []) holder t.0 t.1, t.2);
    all_parts = let a = sum_by_push (λ (u : View T E). u.parts) vs w in let p = r.all_parts in omega arith;
    all_places =
        λ p. let a = sum_by_push (λ (u : View T E). times_in p u.shares) vs w in let q = r.all_places p in let n =
        none p in omega arith;
    whole = let x = r.whole in (x.0, x.1, at_longer vs (w ∷ []) x.0 x.1 x.2, x.3, x.4);
  }

  module _ (log : List E) (phase : LockPhase) (holder parts : ℕ) (once : ℕ → ℕ) (vs : List (View T E))
      (r : All log phase holder parts once vs) (id : ℕ) (v : View T E) (at : get_elem? vs id ≡ some v) where
    -- a seat that hasn't the turn is another than the one that has it
    apart : v.has_turn ≡ false → phase ≡ out → holder ≢ id
    apart off h same =
        let t = r.holding h in
        true≢false (sym t.2 ∙ (ap (λ (u : View T E). u.has_turn) (same_view vs holder id t.0 v same t.1 at) ∙ off))

    pub still_turning : (w : View T E) → v.has_turn ≡ false → Turning phase holder (set vs id w)
    still_turning w off h = let t = r.holding h in (t.0, set_else vs id holder w (apart off h) ∙ t.1, t.2)

    -- the changed view has seen the whole history
    pub whole_here : (w : View T E) → 0 < w.parts → w.seen ≡ log → Whole log (set vs id w)
    whole_here w some_part all = (id, w, set-here vs id v w at, some_part, all)

    -- the changed view has seen no less
    pub still_whole : (w : View T E) → 0 < w.parts → (v.seen ≡ log → w.seen ≡ log) → Whole log (set vs id w)
    still_whole w some_part more = let x = r.whole in dite (ℕ_discrete x.0 id)
        (λ is. whole_here w some_part (more (ap (λ (u : View T E). u.seen) (sym (same_view vs x.0 id x.1 v is x.2 at)) ∙ x.4)))
        (λ not_id. (x.0, x.1, set_else vs id x.0 w not_id ∙ x.2, x.3, x.4))

    -- where one view has all parts, the others have none
    pub alone : v.parts ≡ parts → (j : ℕ) (u : View T E) → j ≢ id → get_elem? vs j ≡ some u → u.parts ≡ 0
    alone all j u n e = let a = sum_by-two (λ (x : View T E). x.parts) vs id j v u at e n in let p = r.all_parts in omega arith

    pub places_alone : v.parts ≡ parts → (p : ℕ) → times_in p v.shares ≡ once p
    places_alone all p =
        sym (sum_by-only (λ (u : View T E). times_in p u.shares) vs id v at
        (λ j u n e. (r.each j u e).spent (alone all j u n e) p))
        ∙ r.all_places p

    pub seen_alone : v.parts ≡ parts → v.seen ≡ log
    seen_alone all = let x = r.whole in dite (ℕ_discrete x.0 id)
        (λ same. ap (λ (u : View T E). u.seen) (sym (same_view vs x.0 id x.1 v same x.2 at)) ∙ x.4)
        (λ n. let z = alone all x.0 x.1 n x.2 in let y = x.3 in absurd (omega arith))

    pub not_out_alone : v.parts ≡ parts → v.has_turn ≡ false → phase ≢ out
    not_out_alone all off h =
        let t = r.holding h in let z = alone all holder t.0 (apart off h) t.1 in let x = ((r.each holder t.0 t.1).turn t.2).3 in
        absurd (omega arith)
