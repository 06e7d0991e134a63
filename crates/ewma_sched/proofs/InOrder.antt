-- Lists of legs in the order in which they are served.
use Rattle.std.proofs.Common.{◌≡◌, ℕ, suc, ◌+◌, ◌-◌, ◌<◌, ◌≤◌, Bool, true, false, List, ◌∷◌, length, get_or, refl, sym, ap, ◌∙◌, inl, inr, arith, Err}
use Rattle.std.proofs.lemmas.Bool.{cases_lt, cases_order}
use Rattle.std.proofs.lemmas.Cmp.{on_total, then_total, nat_cmp_total, tied_itself, alike_right}
use Rattle.std.proofs.lemmas.List.Edits.{length-insert, get_or-insert_below, get_or-insert_at, get_or-insert_above, length-remove, get_or-remove_below, get_or-remove_above}
use Rattle.std.proofs.lemmas.Map.Lookups.{exact_pairs, exact_unsigned}
use Rattle.std.proofs.lemmas.List.{get_or_default}
use Rattle.std.proofs.lemmas.List.Sorted.{sorted_far, ranks_by, searchable_from_sorted}
use Rattle.std.specs.declared.cmp.Ordering.{Ordering}
use Rattle.std.specs.declared.cmp.Ordering.TheVariants.{Less, Equal, Greater}
use Rattle.std.specs.Ordering.{nat_cmp, ordering_then, ordering_reverse, is_lt, ordering_index}
use Rattle.std.specs.Cmp.{IsTotalOrder, IsStrictWeakOrder}
use Rattle.std.specs.List.{insert, remove, HoldsAt, AllWithin, Contains}
use Rattle.std.specs.List.Sorted.{IsSorted, IsNonDecreasingBy, IsPartitionPoint, IsBinarySearchResult}
use Rattle.ewma_sched.specs.declared.roster.ReadyLeg.{ReadyLeg}
use Rattle.ewma_sched.specs.Order.{ready_cmp, is_before, IsInOrder}

pub total : IsTotalOrder ready_cmp
total =
    then_total (on_total (λ (w : ReadyLeg). w.count) nat_cmp_total)
    (then_total (on_total (λ (w : ReadyLeg). w.circ) nat_cmp_total) (on_total (λ (w : ReadyLeg). w.number) nat_cmp_total))

pub not_before_itself : (w : ReadyLeg) → is_before w w ≡ false
not_before_itself w = ap is_lt (tied_itself total w)

pub order : IsStrictWeakOrder is_before
order = ranks_by total (λ (w : ReadyLeg). w)

-- what a sort leaves
pub in_order_from_sorted : (legs : List ReadyLeg) → IsSorted ready_cmp legs → IsInOrder legs
unfolding IsInOrder
in_order_from_sorted legs sorted i j d le lt = sorted_far is_before order legs sorted i j d le lt

pub sorted_from_in_order : (legs : List ReadyLeg) → IsInOrder legs → IsSorted ready_cmp legs
unfolding IsInOrder
sorted_from_in_order legs ordered k d low within = ordered k (k + 1) d (omega arith) within

pub searchable : (legs : List ReadyLeg) (leg : ReadyLeg) → IsInOrder legs
    → IsNonDecreasingBy (λ w. ordering_index (ready_cmp w leg)) legs
searchable legs leg ordered =
    searchable_from_sorted total (λ (w : ReadyLeg). w) legs leg (sorted_from_in_order legs ordered)

at_both : (a b u v : ReadyLeg) → a ≡ u → b ≡ v → is_before u v ≡ false → is_before a b ≡ false
at_both a b u v e f h = ap (λ w. is_before w b) e ∙ ap (λ w. is_before u w) f ∙ h

module _ (legs : List ReadyLeg) (leg : ReadyLeg) (place : ℕ) where
  abbrev Behind : Type 0
  Behind = (k : ℕ) (d : ReadyLeg) → k < place → is_before leg (get_or legs k d) ≡ false

  abbrev Ahead : Type 0
  Ahead = (k : ℕ) (d : ReadyLeg) → place ≤ k → k < length legs → is_before (get_or legs k d) leg ≡ false

  -- a place behind the new leg is that of an old one
  above : (k : ℕ) (d : ReadyLeg) → place ≤ length legs → place < k
      → get_or (insert legs place leg) k d ≡ get_or legs (k - 1) d
  above k d within h =
      let e : k - 1 + 1 ≡ k = omega arith in
      ap (λ n. get_or (insert legs place leg) n d) (sym e)
      ∙ get_or-insert_above legs place leg d (k - 1) (omega arith) within

  pub insert_in_order : IsInOrder legs → place ≤ length legs → Behind → Ahead → IsInOrder (insert legs place leg)
  unfolding IsInOrder
  insert_in_order ordered within behind ahead i j d le lt =
      let long : length (insert legs place leg) ≡ length legs + 1 = length-insert legs place leg within in
      let below = λ (k : ℕ) (h : k < place). get_or-insert_below legs place leg d k h within in
      let here = get_or-insert_at legs place leg d within in
      elim (cases_order j place) [
        | inl j_here ↦
            let at_j = ap (λ n. get_or (insert legs place leg) n d) j_here ∙ here in
            elim (cases_lt i place) [
              | inl i_below ↦ at_both _ _ _ _ at_j (below i i_below) (behind i d i_below)
              | inr i_past ↦
                  let i_here : i ≡ place = omega arith in
                  at_both _ _ _ _ at_j (ap (λ n. get_or (insert legs place leg) n d) i_here ∙ here) (not_before_itself leg)
            ]
        | inr (inl j_below) ↦
            at_both _ _ _ _ (below j j_below) (below i (omega arith)) (ordered i j d le (omega arith))
        | inr (inr j_above) ↦
            let at_j = above j d within j_above in
            elim (cases_order i place) [
              | inl i_here ↦
                  at_both _ _ _ _ at_j (ap (λ n. get_or (insert legs place leg) n d) i_here ∙ here)
                  (ahead (j - 1) d (omega arith) (omega arith))
              | inr (inl i_below) ↦
                  at_both _ _ _ _ at_j (below i i_below) (ordered i (j - 1) d (omega arith) (omega arith))
              | inr (inr i_above) ↦
                  at_both _ _ _ _ at_j (above i d within i_above) (ordered (i - 1) (j - 1) d (omega arith) (omega arith))
            ]
      ]

-- the place that a leg of the shorter list had
pub remove_in_order : (legs : List ReadyLeg) (place : ℕ) → IsInOrder legs → place < length legs
    → IsInOrder (remove legs place)
unfolding IsInOrder
remove_in_order legs place ordered within i j d le lt =
    let long : length (remove legs place) + 1 ≡ length legs = length-remove legs place within in
    elim (cases_lt j place) [
      | inl j_below ↦
          at_both _ _ _ _ (get_or-remove_below legs place d j j_below within)
          (get_or-remove_below legs place d i (omega arith) within) (ordered i j d le (omega arith))
      | inr j_past ↦
          let at_j = get_or-remove_above legs place d j j_past within in
          elim (cases_lt i place) [
            | inl i_below ↦
                at_both _ _ _ _ at_j (get_or-remove_below legs place d i i_below within)
                (ordered i (j + 1) d (omega arith) (omega arith))
            | inr i_past ↦
                at_both _ _ _ _ at_j (get_or-remove_above legs place d i i_past within)
                (ordered (i + 1) (j + 1) d (omega arith) (omega arith))
          ]
    ]

pub rest_in_order : (leg : ReadyLeg) (legs : List ReadyLeg) → IsInOrder (leg ∷ legs) → IsInOrder legs
unfolding IsInOrder
rest_in_order leg legs ordered i j d le lt = ordered (suc i) (suc j) d (omega arith) (omega arith)

-- the order of two legs by that of a third

less_from_before : (r : Ordering) → is_lt r ≡ true → r ≡ Less
less_from_before Less h = refl
less_from_before Equal h = cc
less_from_before Greater h = cc

not_before_by : (b : Bool) → (b ≡ true → false ≡ true) → b ≡ false
not_before_by false h = refl
not_before_by true h = sym (h refl)

-- what is not behind a stays behind what a goes before
not_before_later : (a b c : ReadyLeg) → is_before a b ≡ true → is_before a c ≡ false → is_before b c ≡ false
not_before_later a b c first apart =
    not_before_by (is_before b c) (λ second.
    sym apart ∙ ap is_lt (total.trans a b c (less_from_before _ first) (less_from_before _ second)))

not_before_earlier : (a b c : ReadyLeg) → is_before b c ≡ true → is_before a c ≡ false → is_before a b ≡ false
not_before_earlier a b c second apart =
    not_before_by (is_before a b) (λ first.
    sym apart ∙ ap is_lt (total.trans a b c (less_from_before _ first) (less_from_before _ second)))

-- where a leg belongs

pub behind_last : (legs : List ReadyLeg) (n : ℕ) (leg last : ReadyLeg) → IsInOrder legs → n ≡ length legs
    → last ≡ get_or legs (n - 1) last → is_before last leg ≡ true
    → (k : ℕ) (d : ReadyLeg) → k < length legs → is_before leg (get_or legs k d) ≡ false
unfolding IsInOrder
behind_last legs n leg last ordered long is before k d within =
    not_before_later last leg (get_or legs k d) before
    (at_both _ _ _ _ (is ∙ get_or_default legs (n - 1) last d (omega arith)) refl
    (ordered k (n - 1) d (omega arith) (omega arith)))

pub ahead_first : (legs : List ReadyLeg) (leg first : ReadyLeg) → IsInOrder legs
    → first ≡ get_or legs 0 first → is_before leg first ≡ true
    → (k : ℕ) (d : ReadyLeg) → k < length legs → is_before (get_or legs k d) leg ≡ false
unfolding IsInOrder
ahead_first legs leg first ordered is before k d within =
    not_before_earlier (get_or legs k d) leg first before
    (at_both _ _ _ _ refl (is ∙ get_or_default legs 0 first d (omega arith))
    (ordered 0 k d (omega arith) within))

pub behind_equal : (legs : List ReadyLeg) (leg : ReadyLeg) (place : ℕ) → IsInOrder legs → place < length legs
    → HoldsAt (λ w. ready_cmp w leg ≡ Equal) legs place
    → (k : ℕ) (d : ReadyLeg) → k < place → is_before leg (get_or legs k d) ≡ false
unfolding IsInOrder
behind_equal legs leg place ordered within equal k d h =
    ap is_lt (sym (total.congr (get_or legs place d) leg (get_or legs k d) (equal d)))
    ∙ ordered k place d (omega arith) within

pub ahead_equal : (legs : List ReadyLeg) (leg : ReadyLeg) (place : ℕ) → IsInOrder legs
    → HoldsAt (λ w. ready_cmp w leg ≡ Equal) legs place
    → (k : ℕ) (d : ReadyLeg) → place ≤ k → k < length legs → is_before (get_or legs k d) leg ≡ false
unfolding IsInOrder
ahead_equal legs leg place ordered equal k d h within =
    ap is_lt (sym (alike_right total (get_or legs place d) leg (get_or legs k d) (equal d)))
    ∙ ordered place k d h within

turned : (r : Ordering) → r ≡ Less → is_lt (ordering_reverse r) ≡ false
turned Less h = refl
turned Equal h = refl
turned Greater h = cc

pub behind_gap : (legs : List ReadyLeg) (leg : ReadyLeg) (place : ℕ)
    → AllWithin (λ w. ready_cmp w leg ≡ Less) legs 0 place
    → (k : ℕ) (d : ReadyLeg) → k < place → is_before leg (get_or legs k d) ≡ false
behind_gap legs leg place less k d h =
    ap is_lt (total.antisymm leg (get_or legs k d)) ∙ turned _ (less k d (omega arith) h)

pub ahead_gap : (legs : List ReadyLeg) (leg : ReadyLeg) (place : ℕ)
    → AllWithin (λ w. ready_cmp w leg ≡ Greater) legs place (length legs)
    → (k : ℕ) (d : ReadyLeg) → place ≤ k → k < length legs → is_before (get_or legs k d) leg ≡ false
ahead_gap legs leg place greater k d h within = ap is_lt (greater k d h within)

pub gap : (legs : List ReadyLeg) (leg : ReadyLeg) (place : ℕ) → IsInOrder legs
    → IsBinarySearchResult (λ w. ready_cmp w leg) legs (Err place)
    → IsPartitionPoint (λ w. ready_cmp w leg ≡ Less) (λ w. ready_cmp w leg ≡ Greater) legs place
gap legs leg place ordered searched = searched (searchable legs leg ordered)

-- legs that tie are the same
exact : (a b : ReadyLeg) → ready_cmp a b ≡ Equal → a ≡ b
exact a b tied =
    let parts = exact_pairs nat_cmp (λ (p q : ℕ × ℕ). ordering_then (nat_cmp p.0 q.0) (nat_cmp p.1 q.1)) exact_unsigned
    (exact_pairs nat_cmp nat_cmp exact_unsigned exact_unsigned) (a.count, (a.circ, a.number)) (b.count, (b.circ, b.number))
    tied in
    λ i. record { count = (parts i).0; circ = (parts i).1.0; number = (parts i).1.1 }

-- a leg that stands in the list is found, at a place where it stands
pub found : (legs : List ReadyLeg) (leg : ReadyLeg) (place : ℕ) (d : ReadyLeg)
    → HoldsAt (λ w. ready_cmp w leg ≡ Equal) legs place → leg ≡ get_or legs place d
found legs leg place d equal = sym (exact (get_or legs place d) leg (equal d))

pub not_missed : (legs : List ReadyLeg) (leg : ReadyLeg) (place : ℕ) → IsInOrder legs → Contains legs leg
    → IsBinarySearchResult (λ w. ready_cmp w leg) legs (Err place) → ⊥
not_missed legs leg place ordered waits searched =
    let parts = gap legs leg place ordered searched in
    let k = waits.0 in
    let tied : ready_cmp (get_or legs k leg) leg ≡ Equal = ap (λ w. ready_cmp w leg) waits.2 ∙ tied_itself total leg in
    elim (cases_lt k place) [
      | inl below ↦ let less = parts.0 k leg (omega arith) below in cc
      | inr past ↦ let greater = parts.1 k leg past waits.1 in cc
    ]
