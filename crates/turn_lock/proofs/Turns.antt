-- How a pass's views in one call follow from one another.
use Rattle.std.proofs.Common.{◌≡◌, ℕ, ◌^◌, ◌<◌, ◌≤◌, false, max, List, [], ◌∷◌, ◌++◌, length, sym, refl, ap, ◌∙◌, subst, append-nil, Option, Some, None, option_to_list, arith}
use Rattle.std.specs.List.Sorted.{IsStrictlyIncreasing}
use Rattle.std.proofs.lemmas.List.Elements.{All-append}
use mathlib.Core.List.{IsPrefix}
use Rattle.atomic_table.specs.Table.{Me}
use Rattle.turn_lock.specs.declared.view.View.{View}
use Rattle.turn_lock.specs.Shares.{times_in, to_first, Interleaves}
use Rattle.turn_lock.specs.Views.{caught_up, with_turn, IsPlaced, IsRising, own_steps, steps_by_share, with_step, longer, shorter, joined, settled, released, Turned, CaughtUp, BeginsFrom, StandsForHistory, IsLegal}
use Rattle.turn_lock.specs.Plays.{Looked, Met, CaughtUpFull, Took, Ran, Settled}
use Rattle.turn_lock.proofs.Sums.{times_in-append, prefix-length, prefix-through, prefix-self, rising-to_first}
use Rattle.turn_lock.proofs.Laws.{steps_at-more, steps_at-own, steps_at-both, steps_of_each-more, steps_of_each-own, steps_of_each-both}
use Rattle.turn_lock.proofs.Keeps.{Releases, releases, by_longer}

abbrev M : Type 0 → Type 0 → Type 0
M T E = Me T (View T E)

module _ {T E : Type 0} where
  pub look_start : (m : M T E) → Looked m m
  look_start m = record { log = m.0.seen; after = refl; older = prefix-self m.0.seen }

  rising_released : (v : View T E) (st : Option E) → IsPlaced v → IsRising v → IsRising (released v st)
  rising_released v None low up = up
  rising_released v (Some e) low up = rising-to_first v.shares (length v.seen) low up

  -- a seat that may have looked is the same but for what it saw
  pub look_turn : (m n : M T E) → Looked m n → m.0.has_turn ≡ false → n.0.has_turn ≡ false
  look_turn m n k e = ap (λ (x : M T E). x.0.has_turn) k.after ∙ e

  pub look_parts : (m n : M T E) → Looked m n → 0 < m.0.parts → 0 < n.0.parts
  look_parts m n k l = let e : n.0.parts ≡ m.0.parts = ap (λ (x : M T E). x.0.parts) k.after in omega arith

  pub look_bare : (m n : M T E) → Looked m n → m.1 ≡ [] → n.1 ≡ []
  look_bare m n k e = ap (λ (x : M T E). x.1) k.after ∙ e

  longer_on : (m n : M T E) (log : List E) → Looked m n → IsPrefix n.0.seen log → IsPrefix m.0.seen log
  longer_on m n log k more =
      prefix-through m.0.seen n.0.seen log (subst (IsPrefix m.0.seen) (ap (λ (x : M T E). x.0.seen) (sym k.after)) k.older) more

module _ {T E B : Type 0} (stands : T → B → List E → Type 0) (legal : B → List E → Type 0) where
  -- a look after a look
  pub look_on : (m n o : M T E) (r : ℕ) → Looked m n → Met stands legal n r o → Looked m o
  look_on m n o r k l =
      record {
        log = l.log;
        after = l.after ∙ ap (λ (x : M T E). (caught_up x.0 l.log, x.1)) k.after;
        older =
            longer_on m n l.log k l.older;
      }

  -- the turn taken after a look
  pub took_on : (m n o : M T E) (r : ℕ) → Looked m n → Took stands legal n r o → Took stands legal m r o
  took_on m n o r k t = record {
    log = t.log;
    state = t.state;
    after = t.after ∙ ap (λ (x : M T E). (with_turn x.0 t.log, (0, t.state) ∷ [])) k.after;
    older = longer_on m n t.log k t.older;
    count = t.count;
    stands_is =
        subst (λ (b : Option T). StandsForHistory stands legal b t.state t.log) (ap (λ (x : M T E). x.0.opening) k.after)
        t.stands_is;
  }

  -- a full history found after a look
  pub full_on : (m n o : M T E) (r : ℕ) → Looked m n → Met stands legal n r o → m.1 ≡ [] → 2 ^ 63 ≤ r
      → CaughtUpFull stands legal m o
  full_on m n o r k l bare big = record {
    log = l.log;
    after =
        l.after ∙ ap (λ (x : M T E). (caught_up x.0 l.log, x.1)) k.after
        ∙ ap (λ (c : List (ℕ × T)). (caught_up m.0 l.log, c)) bare;
    older = longer_on m n l.log k l.older;
    full = let a = l.count in let b = l.small in omega arith;
    legal_is = subst (λ (b : Option T). IsLegal stands legal b l.log) (ap (λ (x : M T E). x.0.opening) k.after) l.legal_is;
  }

  -- where the history was seen
  pub caught_on : (v w : View T E) (log : List E) → w ≡ caught_up v log → IsPrefix v.seen log
      → IsLegal stands legal v.opening log → IsPlaced v → CaughtUp stands legal v w
  caught_on v w log is more lg low = record {
    log = log;
    older = more;
    after = is;
    legal_is = subst (λ (x : View T E). IsLegal stands legal v.opening x.seen) (sym is) lg;
    mine = ap own_steps is ∙ steps_at-more v.shares v.seen log low more;
    by_share = ap steps_by_share is ∙ steps_of_each-more v.shares v.seen log low more;
  }

  own_on : (v : View T E) (log : List E) (st : Option E) → IsPlaced v → IsPrefix v.seen log
      → own_steps (released (with_turn v log) st) ≡ own_steps v ++ option_to_list st
  own_on v log None low more = steps_at-more v.shares v.seen log low more ∙ sym (append-nil (own_steps v))
  own_on v log (Some e) low more =
      steps_at-own v.shares log e ∙ ap (λ (l : List E). l ++ e ∷ []) (steps_at-more v.shares v.seen log low more)

  each_on : (v : View T E) (log : List E) (st : Option E) → IsPlaced v → IsPrefix v.seen log
      → steps_by_share (released (with_turn v log) st) ≡ with_step (steps_by_share v) st
  each_on v log None low more = steps_of_each-more v.shares v.seen log low more
  each_on v log (Some e) low more =
      steps_of_each-own v.shares log e (λ p l. low p (let n = prefix-length v.seen log more in omega arith))
      ∙ ap (λ (ls : List (List E)). to_first ls e) (steps_of_each-more v.shares v.seen log low more)

  -- a whole turn: taken from m to n, the step made to o, given back to p
  module _ (only : (s : T) (b : B) (h : List E) → stands s b h → legal b h) (m n o p : M T E) (st : Option E) (word : ℕ)
      (t : Took stands legal m word n) (r : Ran stands legal n st o) (last : p ≡ (released o.0 st, [])) (low : IsPlaced m.0) where
    kept : p.0 ≡ released n.0 st
    kept = ap (λ (x : M T E). x.0) last ∙ ap (λ (x : M T E). released x.0 st) r.after

    after : p.0 ≡ released (with_turn m.0 t.log) st
    after = kept ∙ ap (λ (x : M T E). released x.0 st) t.after

    release : Releases (with_turn m.0 t.log) p.0
    release = subst (Releases (with_turn m.0 t.log)) (sym after) (releases (with_turn m.0 t.log) st)

    pub turned_on : word < 2 ^ 63 → Turned stands legal m.0 st p.0
    turned_on small = record {
      log = t.log;
      older = t.older;
      room = let a = t.count in omega arith;
      after = after;
      legal_is = λ b begins. only r.state b p.0.seen (subst (λ (x : View T E). stands r.state b x.seen) (sym kept)
          (r.stands_is.1 b
          (subst (λ (x : Option T). BeginsFrom stands legal x b) (ap (λ (x : M T E). x.0.opening) (sym t.after)) begins)));
      mine = ap own_steps after ∙ own_on m.0 t.log st low t.older;
      by_share = ap steps_by_share after ∙ each_on m.0 t.log st low t.older;
    }

    pub rests_on : 0 < m.0.parts → (p.1 ≡ []) × (p.0.has_turn ≡ false) × (0 < p.0.parts)
    rests_on some_part = (ap (λ (x : M T E). x.1) last, release.turn, let e = release.parts in omega arith)

    pub rising_on : IsRising m.0 → IsRising p.0
    rising_on up =
        subst IsRising (sym after)
        (rising_released (with_turn m.0 t.log) st (λ q l. low q (let n = prefix-length m.0.seen t.log t.older in omega arith))
        up)

    pub placed_on : IsPlaced p.0
    placed_on = release.placed (λ q l. low q (let n = prefix-length m.0.seen t.log t.older in omega arith))

module _ {E : Type 0} where
  pub length-longer : (xs ys : List E)
      → (length xs ≤ length (longer xs ys)) × (length ys ≤ length (longer xs ys))
      × (max (length xs) (length ys) ≡ length (longer xs ys))
  length-longer xs ys =
      by_longer xs ys (λ a b. (length xs ≤ length a) × (length ys ≤ length a) × (max (length xs) (length ys) ≡ length a))
      (λ l. (omega arith, omega arith, omega arith)) (λ l. (omega arith, omega arith, omega arith))

  both_older : (xs ys : List E) → IsPrefix (shorter xs ys) (longer xs ys)
      → IsPrefix xs (longer xs ys) × IsPrefix ys (longer xs ys)
  both_older xs ys =
      by_longer xs ys (λ a b. IsPrefix b a → IsPrefix xs a × IsPrefix ys a) (λ l p. (p, prefix-self ys))
      (λ l p. (prefix-self xs, p))

module _ {T E : Type 0} where
  pub joined_placed : (v w : View T E) → IsPlaced v → IsPlaced w → IsPlaced (settled (joined v w))
  joined_placed v w a b p l =
      let n = length-longer v.seen w.seen in let i = n.0 in let j = n.1 in let x = a p (omega arith) in let y =
      b p (omega arith) in let t = times_in-append p v.shares w.shares in omega arith

  pub joined_rising : (v w : View T E) → IsRising v → IsRising w → IsRising (settled (joined v w))
  joined_rising v w = All-append IsStrictlyIncreasing v.shares w.shares

  -- what a join tells
  pub record Joins (v w k : View T E) : Type 0 where
    pub older : IsPrefix v.seen k.seen × IsPrefix w.seen k.seen
    pub once : (p : ℕ) → times_in p k.shares ≤ 1
    pub mine : Interleaves (own_steps v) (own_steps w) (own_steps k)
    pub by_share : steps_by_share k ≡ steps_by_share v ++ steps_by_share w

  pub joins_on : (v w : View T E) (m n : Me T (View T E)) → IsPlaced v → IsPlaced w → m.0 ≡ joined v w → Settled m n
      → Joins v w n.0
  joins_on v w m n a b is s = subst (Joins v w) (sym (ap (λ (x : Me T (View T E)). x.0) s.after ∙ ap settled is)) (
      let once : (p : ℕ) → times_in p (v.shares ++ w.shares) ≤ 1 =
      subst (λ (x : View T E). (p : ℕ) → times_in p x.shares ≤ 1) is s.once in
      let older =
      both_older v.seen w.seen (subst (λ (x : View T E). IsPrefix x.shorter x.seen) is s.older) in let log : List E =
      longer v.seen w.seen in record {
        older = older;
        once = once;
        mine =
            subst (λ (x : List E × List E). Interleaves x.0 x.1 (own_steps (settled (joined v w))))
            (λ i. (steps_at-more v.shares v.seen log a older.0 i, steps_at-more w.shares w.seen log b older.1 i))
            (steps_at-both v.shares w.shares 0 log once);
        by_share = steps_of_each-both v.shares w.shares v.seen w.seen log a b older.0 older.1;
      })
