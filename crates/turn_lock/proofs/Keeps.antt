-- Each atomic step of a lock keeps its rule.
use Rattle.std.proofs.Common.{◌≡◌, ℕ, zero, suc, ◌+◌, ◌-◌, ◌*◌, ◌%◌, ◌^◌, ◌<◌, ◌≤◌, eqb, ◌≢◌, Bool, true, false, List, [], ◌∷◌, ◌++◌, length, get_or, set, cond, nat_lt, sym, refl, ap, ◌∙◌, subst, arith, eq-eqb, ne_eqb, Option as Maybe, Some, None}
use Rattle.std.proofs.lemmas.Bool.{true≢false}
use Rattle.std.proofs.lemmas.Bool.Decides.{nat_tests}
use mathlib.Core.Logic.{dite}
use mathlib.Core.Option.{Option, none, some, some-injective, some-ne-none}
use mathlib.Core.List.{IsPrefix}
use native.Mathlib.Decide.{ℕ_discrete}
use lib.ListN.{get_elem?}
use lib.Seq.{set-get_or}
use prog.Atomic.{either}
use Rattle.atomic_table.specs.Table.{State, Me, Step, opening, Final, Seen, stepped, put_back, keeps, takes, gives, Allows, Enters, Splits, Joins}
use Rattle.atomic_table.proofs.Lists.{set_again, set_else}
use Rattle.turn_lock.specs.declared.view.View.{View}
use Rattle.turn_lock.specs.Shares.{times_in, once_below}
use Rattle.turn_lock.specs.Views.{opening_view, one_part_less, new_part, joined, longer, shorter, settled, closed, witness, spent_view, caught_up, with_turn, released, IsPlaced, HasAllParts, StandsForHistory, IsLegal}
use Rattle.turn_lock.specs.Plays.{Met, TookIf, Gave, Settled, Closed}
use Rattle.turn_lock.specs.Rule.{LockPhase, free, out, shut, held_bit, IsHome, IsStored, IsView, IsOneHistory}
use Rattle.turn_lock.proofs.Sums.{set-here, times-above, times_in-append, times_in-to_first, once_below-suc, once_below-le, once_below-zero, sum_by-one, length-snoc, prefix-self, prefix-length, prefix-through, prefix-both, prefix-whole}
use Rattle.turn_lock.proofs.Views.{out-free, out-shut, shut-free, carried, renewed, partless, spent_is, change, add, still_turning, whole_here, still_whole, places_alone, seen_alone, not_out_alone}

module _ {E : Type 0} where
  by_length : (b : Bool) (xs ys : List E) (P : List E → List E → Type 0) → (b ≡ true → P ys xs) → (b ≡ false → P xs ys)
      → P (cond b ys xs) (cond b xs ys)
  by_length true xs ys P less more = less refl
  by_length false xs ys P less more = more refl

  -- by which of two lists is the longer
  pub by_longer : (xs ys : List E) (P : List E → List E → Type 0) → (length xs < length ys → P ys xs)
      → (length ys ≤ length xs → P xs ys) → P (longer xs ys) (shorter xs ys)
  by_longer xs ys P less more =
      by_length (nat_lt (length xs) (length ys)) xs ys P (λ e. less (grind (arith, nat_tests)))
      (λ e. more (grind (arith, nat_tests)))

  pub record ArePrefixes (xs ys log long short : List E) : Type 0 where
    pub long_is : IsPrefix long log
    pub short_is : IsPrefix short long
    pub left : length xs ≤ length long
    pub right : length ys ≤ length long

  are_prefixes : (xs ys log : List E) → IsPrefix xs log → IsPrefix ys log → ArePrefixes xs ys log (longer xs ys) (shorter xs ys)
  are_prefixes xs ys log p q = by_longer xs ys (ArePrefixes xs ys log)
      (λ l. record { long_is = q; short_is = prefix-both xs ys log p q (omega arith); left = omega arith; right = omega arith })
      (λ l. record { long_is = p; short_is = prefix-both ys xs log q p l; left = omega arith; right = l })

module _ {T E : Type 0} where
  -- what a release leaves as it was
  pub record Releases (v w : View T E) : Type 0 where
    pub parts : w.parts ≡ v.parts
    pub opening : w.opening ≡ v.opening
    pub seats : w.seats ≡ v.seats
    pub closed : w.is_closed ≡ v.is_closed
    pub turn : w.has_turn ≡ false
    pub seen : IsPrefix v.seen w.seen
    pub shorter : w.shorter ≡ v.shorter
    pub places : (p : ℕ) → times_in p w.shares + once_below p (length v.seen) ≡ times_in p v.shares + once_below p (length w.seen)
    pub placed : IsPlaced v → IsPlaced w

  pub releases : (v : View T E) (st : Maybe E) → Releases v (released v st)
  releases v None =
      record {
        parts = refl;
        opening = refl;
        seats = refl;
        closed = refl;
        turn = refl;
        seen = prefix-self v.seen;
        shorter =
            refl;
        places = λ p. refl;
        placed = λ low. low;
      }
  releases v (Some e) = let n = length-snoc v.seen e in record {
    parts = refl;
    opening = refl;
    seats = refl;
    closed = refl;
    turn = refl;
    seen = (e ∷ [], refl);
    shorter = refl;
    places =
        λ p. let a = times_in-to_first p (length v.seen) v.shares in let b = once_below-suc p (length v.seen) in
        let c : once_below p (length (v.seen ++ e ∷ [])) ≡ once_below p (suc (length v.seen)) =
        ap (once_below p) n in omega arith;
    placed =
        λ low p l. let z = low p (omega arith) in let a = times_in-to_first p (length v.seen) v.shares in let b =
        times-above p (length v.seen) (omega arith) in omega arith;
  }

module _ {T E B : Type 0} (stands : T → B → List E → Type 0) (legal : B → List E → Type 0) (begun : Maybe T) (seats : ℕ) where
  abbrev V : Type 0
  V = View T E

  abbrev Rule : State T V → Type 0
  Rule = IsOneHistory stands legal begun seats

  abbrev Stored : List E → LockPhase → List ℕ → List (Option T) → Type 0
  Stored = IsStored stands legal begun

  abbrev Fits : T → List E → Type 0
  Fits = StandsForHistory stands legal begun

  count_is : (s : State T V) (r : Rule s) → get_or s.words 0 0 ≡ 2 * length r.log + held_bit r.phase
  count_is s r = ap (λ (ws : List ℕ). get_or ws 0 0) r.stored.count

  bit_small : (phase : LockPhase) → held_bit phase < 2
  bit_small free = omega arith
  bit_small out = omega arith
  bit_small shut = omega arith

  set_count : (ws os : List ℕ) (x new y : ℕ) → ws ≡ x ∷ os → new ≡ y → set ws 0 new ≡ y ∷ os
  set_count ws os x new y e f = ap (λ (l : List ℕ). set l 0 new) e ∙ ap (λ (n : ℕ). n ∷ os) f

  -- the words as they are
  again : (s : State T V) (r : Rule s) → Stored r.log r.phase (set s.words 0 (get_or s.words 0 0)) s.homes
  again s r = subst (λ (ws : List ℕ). Stored r.log r.phase ws s.homes) (sym (set-get_or s.words 0 0)) r.stored

  -- a step that changes nothing
  still : (s : State T V) (r : Rule s) (id : ℕ) (cs : List (ℕ × T)) (v : V) → get_elem? s.views id ≡ some v
      → Rule (stepped s 0 (get_or s.words 0 0) id cs v keeps)
  still s r id cs v at =
      subst (λ (x : List ℕ × List V). Rule record { words = x.0; homes = s.homes; views = x.1 })
      (λ i. (sym (set-get_or s.words 0 0) i, sym (set_again s.views id v at) i)) r

  -- the history so far is seen
  pub meets : (slots id : ℕ) (m : Me T V) → m.0.has_turn ≡ false → 0 < m.0.parts
      → Allows Rule slots id m 0 (λ n. n) (Met stands legal m)
  meets slots id m off some_part s r wide at low =
      let v : V = m.0 in let w : V = caught_up v r.log in let a = r.viewed in let k = a.each id v at in let count =
      count_is s r in let bit = bit_small r.phase in (
        w,
        keeps,
        tt,
        record {
          log = r.log;
          phase = r.phase;
          holder = r.holder;
          stored = again s r;
          viewed =
              change begun seats r.log r.log r.phase r.phase r.holder r.holder seats seats (λ p. once_below p (length r.log))
              (λ p. once_below p (length r.log)) s.views id v w a at
              (renewed begun seats r.log r.log r.phase r.phase r.holder r.holder id v w k some_part refl refl some_part
              (prefix-self r.log) (prefix-through v.shorter v.seen r.log k.shorter_is k.seen_is)
              (λ p l. k.placed p (let n = prefix-length v.seen r.log k.seen_is in omega arith))
              (λ on. absurd (true≢false (sym on ∙ off))) (λ h. ((k.closing h).0, refl, (k.closing h).2)))
              (λ j u other x. x)
              (still_turning begun seats r.log r.phase r.holder seats (λ p. once_below p (length r.log)) s.views a id v at w
              off) refl (λ p. refl)
              (whole_here begun seats r.log r.phase r.holder seats (λ p. once_below p (length r.log)) s.views a id v at w
              some_part refl);
        },
        record {
          log = r.log;
          after = refl;
          older = k.seen_is;
          count = omega arith;
          small = r.stored.small;
          legal_is = subst (λ (b : Maybe T). IsLegal stands legal b r.log) (sym (k.start some_part).0) r.stored.legal_is;
          places =
              λ all. places_alone begun seats r.log r.phase r.holder seats (λ p. once_below p (length r.log)) s.views a id v at
              (all ∙ (k.start some_part).1);
        },
      )

  free_home : (log : List E) (phase : LockPhase) (homes : List (Option T)) (n : ℕ) → n ≡ 2 * length log + held_bit phase
      → n % 2 ≡ 0
      → IsHome Fits log phase homes → (phase ≡ free) × ((t : T) × (homes ≡ some t ∷ []) × Fits t log)
  free_home log out homes n is even home = absurd (omega arith)
  free_home log shut homes n is even home = absurd (omega arith)
  free_home log free homes n is even home = (refl, home)

  -- the turn is taken, with the state
  pub takes_turn : (slots id : ℕ) (m : Me T V) (st : Step T) (new : ℕ) → m.0.has_turn ≡ false → 0 < m.0.parts → m.1 ≡ []
      → st.first % 2 ≡ 0 → st.first < 2 ^ 63 → new ≡ st.first + 1
      → Allows Rule slots id m 0 (λ n. either (eqb n st.first) new n) (TookIf stands legal st m)
  takes_turn slots id m st new off some_part bare even low up s r wide at small =
      let n : ℕ = get_or s.words 0 0 in let v : V = m.0 in let a = r.viewed in let k = a.each id v at in let count =
      count_is s r in dite (ℕ_discrete n st.first)
      (λ hit. let h = free_home r.log r.phase s.homes n count (ap (λ (z : ℕ). z % 2) hit ∙ even) r.stored.home in let t : T =
      h.1.0 in let w : V = with_turn v r.log in
      let no_bit : held_bit r.phase ≡ 0 = ap held_bit h.0 in let plain : n ≡ 2 * length r.log = omega arith in (
        w,
        takes 0 t,
        ap (λ (hs : List (Option T)). get_elem? hs 0) h.1.1,
        subst (λ b. Rule (stepped s 0 (either b new n) id m.1 w (takes 0 t))) (sym (eq-eqb n st.first hit)) record {
          log = r.log;
          phase = out;
          holder = id;
          stored = record {
            legal_is = r.stored.legal_is;
            sleep_words = r.stored.sleep_words;
            count =
                set_count s.words r.stored.sleep_words (2 * length r.log + held_bit r.phase) new (2 * length r.log + 1)
                r.stored.count (omega arith);
            small = r.stored.small;
            room = λ _. omega arith;
            home = ap (λ (hs : List (Option T)). set hs 0 none) h.1.1;
          };
          viewed =
              change begun seats r.log r.log r.phase out r.holder id seats seats (λ p. once_below p (length r.log))
              (λ p. once_below p (length r.log)) s.views id v w a at
              (renewed begun seats r.log r.log r.phase out r.holder id id v w k some_part refl refl some_part (prefix-self r.log)
              (prefix-through v.shorter v.seen r.log k.shorter_is k.seen_is)
              (λ p l. k.placed p (let n = prefix-length v.seen r.log k.seen_is in omega arith))
              (λ on. (refl, refl, refl, some_part)) (λ c. absurd (shut-free (sym (k.closing c).0 ∙ h.0))))
              (λ j u other x. carried begun seats r.log r.log r.phase out r.holder id j u x (prefix-self r.log)
              (λ on. absurd (out-free (sym (x.turn on).0 ∙ h.0))) (λ c. absurd (shut-free (sym (x.closing c).0 ∙ h.0))))
              (λ _. (w, set-here s.views id v w at, refl)) refl (λ p. refl)
              (whole_here begun seats r.log r.phase r.holder seats (λ p. once_below p (length r.log)) s.views a id v at w
              some_part refl);
        },
        record {
          missed = λ miss. absurd (miss hit);
          hit = λ _. record {
            log = r.log;
            state = t;
            after = ap (λ (c : List (ℕ × T)). (w, (0, t) ∷ c)) bare;
            older = k.seen_is;
            count = plain;
            stands_is = subst (λ (b : Maybe T). StandsForHistory stands legal b t r.log) (sym (k.start some_part).0) h.1.2;
          };
        },
      ))
      (λ miss. (
        v,
        keeps,
        tt,
        subst (λ b. Rule (stepped s 0 (either b new n) id m.1 v keeps)) (sym (ne_eqb n st.first miss)) (still s r id m.1 v at),
        record { missed = λ _. refl; hit = λ hit. absurd (miss hit) },
      ))

  out_home : (log : List E) (phase : LockPhase) (homes : List (Option T)) → phase ≡ out → IsHome Fits log phase homes
      → homes ≡ none ∷ []
  out_home log out homes h home = home
  out_home log free homes h home = absurd (out-free (sym h))
  out_home log shut homes h home = absurd (out-shut (sym h))

  -- the turn is given back, with the state
  pub gives_turn : (slots id : ℕ) (m : Me T V) (t : T) (st : Maybe E) (new : ℕ) → m.0.has_turn ≡ true → m.1 ≡ (0, t) ∷ []
      → new ≡ 2 * length (released m.0 st).seen → new ≤ 2 ^ 63
      → StandsForHistory stands legal m.0.opening t (released m.0 st).seen
      → IsLegal stands legal m.0.opening (released m.0 st).seen
      → Allows Rule slots id m 0 (λ _. new) (λ _. Gave st m)
  gives_turn slots id m t st new on has count top fit lg s r wide at small =
      let v : V = m.0 in let a = r.viewed in let k = a.each id v at in let w : V = released v st in let mine =
      k.turn on in let g = releases v st in
      let log : List E =
      w.seen in let more : IsPrefix r.log log = subst (λ (l : List E). IsPrefix l log) mine.2 g.seen in let some_part =
      mine.3 in let b = k.start some_part in let n = g.parts in (
        w,
        gives,
        tt,
        record {
          log = log;
          phase = free;
          holder = 0;
          stored = record {
            legal_is = subst (λ (b : Maybe T). IsLegal stands legal b log) b.0 lg;
            sleep_words = r.stored.sleep_words;
            count =
                set_count s.words r.stored.sleep_words (2 * length r.log + held_bit r.phase) new (2 * length log + 0)
                r.stored.count (omega arith);
            small = omega arith;
            room = λ h. absurd (out-free (sym h));
            home = (
              t,
              ap (put_back s.homes) has
                  ∙ ap (λ (hs : List (Option T)). set hs 0 (some t)) (out_home r.log r.phase s.homes mine.0 r.stored.home),
              subst (λ (b : Maybe T). StandsForHistory stands legal b t log) b.0 fit,
            );
          };
          viewed =
              change begun seats r.log log r.phase free r.holder 0 seats seats (λ p. once_below p (length r.log))
              (λ p. once_below p (length log)) s.views id v w a at
              (renewed begun seats r.log log r.phase free r.holder 0 id v w k some_part g.opening g.seats (omega arith)
              (prefix-self log)
              (subst (λ (l : List E). IsPrefix l log) (sym g.shorter)
              (prefix-through v.shorter v.seen log k.shorter_is g.seen))
              (g.placed k.placed) (λ h. absurd (true≢false (sym h ∙ g.turn)))
              (λ c. absurd (out-shut (sym mine.0 ∙ (k.closing (sym g.closed ∙ c)).0))))
              (λ j u other x. carried begun seats r.log log r.phase free r.holder 0 j u x more
              (λ h. absurd (other ((x.turn h).1 ∙ sym mine.1))) (λ c. absurd (out-shut (sym mine.0 ∙ (x.closing c).0))))
              (λ h. absurd (out-free (sym h))) (omega arith)
              (λ p. let q : times_in p w.shares + once_below p (length r.log) ≡ times_in p v.shares + once_below p (length log) =
              subst (λ (l : List E). times_in p w.shares + once_below p (length l) ≡ times_in p v.shares
              + once_below p (length log)) mine.2 (g.places p) in omega arith)
              (id, w, set-here s.views id v w at, omega arith, refl);
        },
        refl,
      )

  -- one part goes to a new pass
  pub splits : (id : ℕ) (v : V) → v.has_turn ≡ false → 2 ≤ v.parts → Splits Rule id v (one_part_less v) (new_part v)
  splits id v off two s r at =
      let l : V = one_part_less v in let w : V = new_part v in let a = r.viewed in let k = a.each id v at in let once =
      λ (p : ℕ). once_below p (length r.log) in
      let first = change begun seats r.log r.log r.phase r.phase r.holder r.holder seats (seats - 1) once once s.views id v l a at
      (renewed begun seats r.log r.log r.phase r.phase r.holder r.holder id v l k (omega arith) refl refl (omega arith) k.seen_is
      k.shorter_is k.placed (λ on. absurd (true≢false (sym on ∙ off))) k.closing)
      (λ j u other x. x) (still_turning begun seats r.log r.phase r.holder seats once s.views a id v at l off) (let n =
      sum_by-one (λ (u : V). u.parts) s.views id v at in let p = a.all_parts in omega arith) (λ p. refl)
      (still_whole begun seats r.log r.phase r.holder seats once s.views a id v at l (omega arith) (λ e. e)) in record {
        log = r.log;
        phase = r.phase;
        holder = r.holder;
        stored = r.stored;
        viewed = add begun seats r.log r.phase r.holder (seats - 1) seats once (set s.views id l) w first
            (λ j. renewed begun seats r.log r.log r.phase r.phase r.holder r.holder j v w record {
              start = k.start;
              seen_is = k.seen_is;
              shorter_is = k.shorter_is;
              placed = k.placed;
              turn = λ on. absurd (true≢false (sym on ∙ off));
              closing = k.closing;
              spent = k.spent;
            } (omega arith) refl refl (omega arith) k.seen_is (v.seen, refl) (λ p _. refl) (λ on. absurd (true≢false (sym on)))
            (λ on. absurd (true≢false (sym on))))
            (let n = sum_by-one (λ (u : V). u.parts) s.views id v at in let p = a.all_parts in omega arith) (λ p. refl);
      }

  -- two passes become one
  pub joins : (id : ℕ) (v : V) (other : ℕ) (w : V) → v.has_turn ≡ false → w.has_turn ≡ false → 0 < v.parts → 0 < w.parts
      → Joins Rule id v other w (joined v w) spent_view
  joins id v other w off off' some_part some_part' s r at apart_is there =
      let l : V = joined v w in let vs : List V = set s.views id l in let a = r.viewed in let k = a.each id v at in
      let q =
      a.each other w (sym (set_else s.views id other l apart_is) ∙ there) in let once = λ (p : ℕ). once_below p (length r.log) in
      let twice = λ (p : ℕ). once_below p (length r.log) + times_in p w.shares in
      let pre = are_prefixes v.seen w.seen r.log k.seen_is q.seen_is in
      let first =
      change begun seats r.log r.log r.phase r.phase r.holder r.holder seats (seats + w.parts) once twice s.views id v l a at
      (renewed begun seats r.log r.log r.phase r.phase r.holder r.holder id v l k some_part refl refl (omega arith) pre.long_is
      pre.short_is
      (λ p n. let i = pre.left in let j = pre.right in let x = k.placed p (omega arith) in let y =
      q.placed p (omega arith) in let t = times_in-append p v.shares w.shares in omega arith)
      (λ on. absurd (true≢false (sym on ∙ off)))
      (λ c. let t =
      k.closing c in (
        t.0,
        prefix-whole l.seen r.log pre.long_is (let n : length v.seen ≡ length r.log = ap length t.1 in let i = pre.left in
            omega arith),
        t.2,
      )))
      (λ j u other x. x) (still_turning begun seats r.log r.phase r.holder seats once s.views a id v at l off) (omega arith)
      (λ p. let t = times_in-append p v.shares w.shares in omega arith)
      (still_whole begun seats r.log r.phase r.holder seats once s.views a id v at l (omega arith)
      (λ e. prefix-whole l.seen r.log pre.long_is (let n : length v.seen ≡ length r.log = ap length e in let i = pre.left in
      omega arith))) in record {
        log = r.log;
        phase = r.phase;
        holder = r.holder;
        stored = r.stored;
        viewed =
            change begun seats r.log r.log r.phase r.phase r.holder r.holder (seats + w.parts) seats twice once vs other w
            spent_view first there (spent_is begun seats r.log r.phase r.holder other)
            (λ j u other x. x)
            (still_turning begun seats r.log r.phase r.holder (seats + w.parts) twice vs first other w there spent_view off')
            (omega arith) (λ p. omega arith)
            (let x = first.whole in
            let mine : length r.log ≤ length l.seen → (j : ℕ) × (u : V) × (get_elem? (set vs other spent_view) j ≡ some u)
            × (0 < u.parts) × (u.seen ≡ r.log) = λ n. (
              id,
              l,
              set_else vs other id spent_view (λ e. apart_is (sym e)) ∙ set-here s.views id v l at,
              omega arith,
              prefix-whole l.seen r.log pre.long_is n,
            ) in
            dite (ℕ_discrete x.0 other)
            (λ is. mine (let e : x.1 ≡ w = some-injective x.1 w (sym x.2 ∙ (ap (get_elem? vs) is ∙ there)) in
            let n : length w.seen ≡ length r.log = ap length (ap (λ (u : V). u.seen) (sym e) ∙ x.4) in let i =
            pre.right in omega arith))
            (λ not_other. (x.0, x.1, set_else vs other x.0 spent_view not_other ∙ x.2, x.3, x.4)));
      }

  -- a joined pass is told how the two that became it stood
  pub settles : (slots id : ℕ) (m : Me T V) → m.0.has_turn ≡ false → 0 < m.0.parts
      → Allows Rule slots id m 0 (λ n. n) (λ _. Settled m)
  settles slots id m off some_part s r wide at low =
      let v : V = m.0 in let w : V = settled v in let a = r.viewed in let k = a.each id v at in let once =
      λ (p : ℕ). once_below p (length r.log) in (
        w,
        keeps,
        tt,
        record {
          log = r.log;
          phase = r.phase;
          holder = r.holder;
          stored = again s r;
          viewed = change begun seats r.log r.log r.phase r.phase r.holder r.holder seats seats once once s.views id v w a at
              (renewed begun seats r.log r.log r.phase r.phase r.holder r.holder id v w k some_part refl refl some_part k.seen_is
              (v.seen, refl) k.placed k.turn k.closing)
              (λ j u other x. x) (still_turning begun seats r.log r.phase r.holder seats once s.views a id v at w off) refl
              (λ p. refl)
              (still_whole begun seats r.log r.phase r.holder seats once s.views a id v at w some_part (λ e. e));
        },
        record {
          after = refl;
          older = k.shorter_is;
          once =
              λ p. let t = sum_by-one (λ (u : V). times_in p u.shares) s.views id v at in let q = a.all_places p in let o =
              once_below-le p (length r.log) in omega arith;
        },
      )

  shut_home : (log : List E) (phase : LockPhase) (homes : List (Option T)) → phase ≢ out → IsHome Fits log phase homes
      → IsHome Fits log shut homes
  shut_home log out homes n home = absurd (n refl)
  shut_home log free homes n home = home
  shut_home log shut homes n home = home

  -- the pass with all parts closes the lock
  pub closes : (slots id : ℕ) (m : Me T V) (new : ℕ) → m.0.has_turn ≡ false → HasAllParts m.0 → 0 < m.0.parts
      → new ≡ 2 * length m.0.seen + 1 → Allows Rule slots id m 0 (λ _. new) (λ _. Closed m)
  closes slots id m new off all some_part is s r wide at low =
      let v : V = m.0 in let w : V = closed v in let a = r.viewed in let k = a.each id v at in let once =
      λ (p : ℕ). once_below p (length r.log) in
      let every : v.parts ≡ seats =
      all
      ∙ (k.start some_part).1 in let up : v.seen ≡ r.log =
      seen_alone begun seats r.log r.phase r.holder seats once s.views a id v at every in
      let not_out = not_out_alone begun seats r.log r.phase r.holder seats once s.views a id v at every off in (
        w,
        keeps,
        tt,
        record {
          log = r.log;
          phase = shut;
          holder = r.holder;
          stored = record {
            legal_is = r.stored.legal_is;
            sleep_words = r.stored.sleep_words;
            count =
                set_count s.words r.stored.sleep_words (2 * length r.log + held_bit r.phase) new (2 * length r.log + 1)
                r.stored.count (is ∙ ap (λ (l : List E). 2 * length l + 1) up);
            small = r.stored.small;
            room = λ h. absurd (out-shut (sym h));
            home = shut_home r.log r.phase s.homes not_out r.stored.home;
          };
          viewed = change begun seats r.log r.log r.phase shut r.holder r.holder seats seats once once s.views id v w a at
              (renewed begun seats r.log r.log r.phase shut r.holder r.holder id v w k some_part refl refl some_part k.seen_is
              k.shorter_is k.placed (λ on. absurd (true≢false (sym on ∙ off))) (λ _. (refl, up, (k.start some_part).0)))
              (λ j u n x. carried begun seats r.log r.log r.phase shut r.holder r.holder j u x (prefix-self r.log)
              (λ on. absurd (not_out (x.turn on).0)) (λ c. (refl, (x.closing c).1, (x.closing c).2)))
              (λ h. absurd (out-shut (sym h))) refl (λ p. refl)
              (whole_here begun seats r.log r.phase r.holder seats once s.views a id v at w some_part up);
        },
        record {
          after = refl;
          places = λ p. places_alone begun seats r.log r.phase r.holder seats once s.views a id v at every p
              ∙ ap (λ (l : List E). once_below p (length l)) (sym up);
        },
      )

  -- a seat that shows that the lock is closed
  pub witnesses : (id : ℕ) (v : V) → v.is_closed ≡ true → Splits Rule id v v (witness v)
  witnesses id v is s r at =
      let w : V = witness v in let a = r.viewed in let k =
      a.each id v at in
      subst (λ (vs : List V). Rule record { words = s.words; homes = s.homes; views = vs ++ w ∷ [] })
      (sym (set_again s.views id v at)) record {
        log = r.log;
        phase = r.phase;
        holder = r.holder;
        stored = r.stored;
        viewed =
            add begun seats r.log r.phase r.holder seats seats (λ p. once_below p (length r.log)) s.views w a
            (λ j. partless begun seats r.log r.phase r.holder j w refl refl k.seen_is (v.seen, refl) refl (λ _. k.closing is))
            (omega arith) (λ p. refl);
      }

  closed_home : (log : List E) (phase : LockPhase) (homes : List (Option T)) → phase ≡ shut → IsHome Fits log phase homes
      → (t : T) × (homes ≡ some t ∷ []) × Fits t log
  closed_home log out homes e home = absurd (out-shut e)
  closed_home log free homes e home = home
  closed_home log shut homes e home = home

  -- what a closed lock leaves
  pub leaves : (id : ℕ) (v : V) (ws : List ℕ) (xs : List T) (t : T) → Final (Seen Rule id v) ws xs → v.is_closed ≡ true
      → get_elem? xs 0 ≡ some t → StandsForHistory stands legal v.opening t v.seen
  leaves id v ws xs t f is e =
      let s = f.0 in let r = f.1.0 in let k = (r.viewed.each id v f.1.1).closing is in let h =
      closed_home r.log r.phase s.homes k.0 r.stored.home in
      let same : h.0 ≡ t = some-injective h.0 t (sym (f.4 0 h.0 (ap (λ (hs : List (Option T)). get_elem? hs 0) h.1)) ∙ e) in
      subst (λ (x : T × List E × Maybe T). StandsForHistory stands legal x.2 x.0 x.1) (λ i. (same i, sym k.1 i, sym k.2 i)) h.2

  -- a new lock
  pub opens : (t : T) → begun ≡ Some t → 0 < seats → Fits t [] → IsLegal stands legal begun []
      → Rule (opening (0 ∷ 0 ∷ 0 ∷ 0 ∷ 0 ∷ []) (t ∷ []) (opening_view t seats))
  opens t is some_part fit lg = let v : V = opening_view t seats in record {
    log = [];
    phase = free;
    holder = 0;
    stored =
        record {
          legal_is = lg;
          sleep_words = 0 ∷ 0 ∷ 0 ∷ 0 ∷ [];
          count = refl;
          small = omega arith;
          room =
              λ h. absurd (out-free (sym h));
          home = (t, refl, fit);
        };
    viewed = record {
      each = first t is some_part;
      holding = λ h. absurd (out-free (sym h));
      all_parts = omega arith;
      all_places = λ p. let o = once_below-zero p in omega arith;
      whole = (0, v, refl, some_part, refl);
    };
  } where
    first : (t : T) → begun ≡ Some t → 0 < seats → (j : ℕ) (u : V) → get_elem? (opening_view t seats ∷ []) j ≡ some u
        → IsView begun seats [] free 0 j u
    first t is some_part zero u e = subst (IsView begun seats [] free 0 zero) (some-injective (opening_view t seats) u e) record {
      start = λ _. (sym is, refl);
      seen_is = ([], refl);
      shorter_is = ([], refl);
      placed = λ p _. refl;
      turn = λ on. absurd (true≢false (sym on));
      closing = λ on. absurd (true≢false (sym on));
      spent = λ _ p. refl;
    }
    first t is some_part (suc j) u e = absurd (some-ne-none u (sym e))

  -- the words that count and ring sleepers may change at any time
  pub sleeps : (slots id i : ℕ) (m : Me T V) (f : ℕ → ℕ) → Allows Rule slots id m (suc i) f (λ _ m'. m' ≡ m)
  sleeps slots id i m f s r wide at small = let new : ℕ = f (get_or s.words (suc i) 0) in (
    m.0,
    keeps,
    tt,
    subst (λ (vs : List V). Rule record { words = set s.words (suc i) new; homes = s.homes; views = vs })
        (sym (set_again s.views id m.0 at)) record {
          log = r.log;
          phase = r.phase;
          holder = r.holder;
          stored = record {
            legal_is = r.stored.legal_is;
            sleep_words = set r.stored.sleep_words i new;
            count = ap (λ (ws : List ℕ). set ws (suc i) new) r.stored.count;
            small = r.stored.small;
            room = r.stored.room;
            home = r.stored.home;
          };
          viewed = r.viewed;
        },
    refl,
  )

  -- a new seat, which no pass has
  pub enters : (slots i : ℕ) → Enters Rule slots i (λ _ _. Unit {0})
  enters slots i s r wide small = (
    spent_view,
    record {
      log = r.log;
      phase = r.phase;
      holder = r.holder;
      stored = r.stored;
      viewed =
          add begun seats r.log r.phase r.holder seats seats (λ p. once_below p (length r.log)) s.views spent_view r.viewed
          (λ j. spent_is begun seats r.log r.phase r.holder j) (omega arith) (λ p. refl);
    },
    tt,
  )
