-- The leg in front is the one that is served next.
use Rattle.std.proofs.Common.{◌≡◌, ℕ, ◌+◌, ◌-◌, ◌<◌, ◌≤◌, false, cond, ◌&&◌, eqb, List, [], ◌∷◌, get_or, Option, Some, None, count_by, refl, sym, ap, ◌∙◌, subst, inl, inr, arith}
use Rattle.std.proofs.lemmas.Bool.{eqb-true, and_parts, cases_Bool}
use Rattle.std.proofs.lemmas.Cmp.{ranked}
use Rattle.std.specs.List.{All}
use Rattle.std.specs.declared.cmp.Ordering.{Ordering}
use Rattle.std.specs.declared.cmp.Ordering.TheVariants.{Less, Equal, Greater}
use Rattle.std.specs.Ordering.{nat_cmp, ordering_then, is_lt, MatchOrdering}
use Rattle.hashed_maps.proofs.Keys.{pair_keys, eq-itself}
use Rattle.ewma_sched.specs.declared.roster.Roster.{Roster}
use Rattle.ewma_sched.specs.declared.roster.ReadyLeg.{ReadyLeg}
use Rattle.ewma_sched.specs.declared.legs.CountedLeg.{CountedLeg}
use Rattle.ewma_sched.specs.Counts.{halved}
use Rattle.ewma_sched.specs.Legs.{LegName, IsServedFirst}
use Rattle.ewma_sched.specs.Tables.{Legs, has_name, leg_in, waits_on, state_of, HasCount, IsRoster, IsWithoutLegs, Waits, IsFirst, NoneWaitsOn}
use Rattle.ewma_sched.specs.Order.{is_before, IsInOrder}
use Rattle.ewma_sched.proofs.Weights.{waits_one}
use Rattle.ewma_sched.proofs.Standing.{ready_at, stands}
use Rattle.ewma_sched.proofs.Names.{count_cons}

first_part : (b a : ℕ) (rest r : Ordering) → MatchOrdering r (b < a) (b ≡ a) (a < b)
    → is_lt (ordering_then r rest) ≡ false → (a ≤ b) × (a ≡ b → is_lt rest ≡ false)
first_part b a rest Less m h = absurd (let never : ⊥ = cc in never)
first_part b a rest Equal m h = (omega arith, λ e. h)
first_part b a rest Greater m h = (omega arith, λ e. absurd (omega arith))

-- what is said of two numbers by the first of which is not before
compared : (b a : ℕ) (rest : Ordering) → is_lt (ordering_then (nat_cmp b a) rest) ≡ false
    → (a ≤ b) × (a ≡ b → is_lt rest ≡ false)
compared b a rest h = first_part b a rest (nat_cmp b a) (ranked b a (nat_cmp b a) refl) h

last_part : (b a : ℕ) (r : Ordering) → MatchOrdering r (b < a) (b ≡ a) (a < b) → is_lt r ≡ false → a ≤ b
last_part b a Less m h = absurd (let never : ⊥ = cc in never)
last_part b a Equal m h = omega arith
last_part b a Greater m h = omega arith

pub not_before_gives : (a b : ReadyLeg) (leg other : LegName) (now : ℕ) (x y : CountedLeg)
    → a ≡ ready_at leg x now → b ≡ ready_at other y now → is_before b a ≡ false
    → IsServedFirst leg (state_of now x) other (state_of now y)
not_before_gives a b leg other now x y first second h =
    let p = ready_at leg x now in
    let q = ready_at other y now in
    let apart : is_before q p ≡ false
    = sym (ap (λ w. is_before w a) second ∙ ap (λ w. is_before q w) first) ∙ h in
    let counts = compared q.count p.count _ apart in
    record {
      count = counts.0;
      circuit = λ e. (compared q.circ p.circ _ (counts.1 e)).0;
      number = λ e f.
          last_part q.number p.number _ (ranked q.number p.number (nat_cmp q.number p.number) refl)
          ((compared q.circ p.circ _ (counts.1 e)).1 f);
    }

weighs_some : (chan : ℕ) (o : Option CountedLeg) → 1 ≤ waits_on chan o → (x : CountedLeg) × (o ≡ Some x) × Waits chan x
weighs_some chan None some = absurd (omega arith)
weighs_some chan (Some x) some =
    elim (cases_Bool (eqb x.chan chan && x.has_cells)) [
      | inl both ↦
          let parts = and_parts (eqb x.chan chan) x.has_cells both in
          (x, refl, record { chan = eqb-true x.chan chan parts.0; has_cells = parts.1 })
      | inr apart ↦
          let none : waits_on chan (Some x) ≡ 0 = ap (λ b. cond {A = ℕ} b 1 0) apart in absurd (omega arith)
    ]

-- the leg in front of a roster
pub record Front (legs : Legs) (chan now : ℕ) (first : ReadyLeg) : Type 0 where
  pub state : CountedLeg
  pub there : leg_in legs (first.circ, first.number) ≡ Some state
  pub waits : Waits chan state
  pub is : first ≡ ready_at (first.circ, first.number) state now

pub front_of_roster : (legs : Legs) (chan now : ℕ) (roster : Roster) (first : ReadyLeg) (rest : List ReadyLeg)
    → IsRoster legs now chan roster → roster.tick ≡ now → roster.ready_queue.items ≡ first ∷ rest → Front legs chan now first
front_of_roster legs chan now roster first rest is ticked was =
    let leg : LegName = (first.circ, first.number) in
    let items = roster.ready_queue.items in
    let parts : count_by (has_name leg) items ≡ cond {A = ℕ} (has_name leg first) 1 0 + count_by (has_name leg) rest
    = ap (count_by (has_name leg)) was ∙ count_cons (has_name leg) first rest in
    let here : cond {A = ℕ} (has_name leg first) 1 0 ≡ 1 = ap (λ b. cond {A = ℕ} b 1 0) (eq-itself pair_keys leg) in
    let names : count_by (has_name leg) items ≡ waits_on chan (leg_in legs leg) = is.names leg in
    let some = weighs_some chan (leg_in legs leg) (omega arith) in
    let x = some.0 in
    let has : HasCount (Some x) roster.tick first.count
    = subst (λ o. HasCount o roster.tick first.count) some.1
    (subst (λ l. All (λ w. HasCount (leg_in legs (w.circ, w.number)) roster.tick w.count) l) was is.counts 0 first
    (omega arith)) in
    let value = x.count.value in
    let from = x.count.tick in
    let counted : first.count ≡ halved value (now - from) = has.1 ∙ ap (λ t. halved value (t - from)) ticked in
    record {
      state = x;
      there = some.1;
      waits = some.2;
      is = λ i. record { count = counted i; circ = first.circ; number = first.number };
    }

pub first_of_roster : (legs : Legs) (chan now : ℕ) (roster : Roster) (first : ReadyLeg) (rest : List ReadyLeg)
    → IsRoster legs now chan roster → roster.tick ≡ now → roster.ready_queue.items ≡ first ∷ rest → Front legs chan now first
    → IsFirst legs now chan (first.circ, first.number)
unfolding IsInOrder
first_of_roster legs chan now roster first rest is ticked was front =
    let leg : LegName = (first.circ, first.number) in
    let items = roster.ready_queue.items in
    record {
      state = front.state;
      there = front.there;
      waits = front.waits;
      first = λ other y there waits.
          let s = stands legs chan now roster other y is there waits.chan waits.has_cells in
          not_before_gives first (get_or items s.place first) leg other now front.state y front.is
          (s.entry first ∙ ap (ready_at other y) ticked)
          (ap (λ w. is_before (get_or items s.place first) w) (ap (λ l. get_or l 0 first) (sym was))
          ∙ is.order 0 s.place first (omega arith) s.within);
    }

pub none_in_roster : (legs : Legs) (chan now : ℕ) (roster : Roster) → IsRoster legs now chan roster
    → roster.ready_queue.items ≡ [] → NoneWaitsOn legs chan
none_in_roster legs chan now roster is items leg x there waits =
    let one = waits_one chan x waits.chan waits.has_cells in
    let weight : waits_on chan (Some x) ≡ 0
    = ap (waits_on chan) (sym there) ∙ sym (is.names leg) ∙ ap (count_by (has_name leg)) items in
    omega arith

pub none_without : (legs : Legs) (chan : ℕ) → IsWithoutLegs legs chan → NoneWaitsOn legs chan
none_without legs chan without leg x there waits = without.none leg x there waits.chan
