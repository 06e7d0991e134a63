-- A roster at a later tick, with more room, or without legs.
use Rattle.std.proofs.Common.{◌≡◌, ℕ, ◌+◌, ◌-◌, ◌≤◌, [], map, Option, Some, None, count_by, refl, sym, ap, ◌∙◌, subst, inl, inr, arith}
use Rattle.std.proofs.lemmas.Bool.{cases_Bool}
use Rattle.std.proofs.lemmas.List.Sorted.{All-permutation}
use Rattle.std.proofs.lemmas.List.Elements.{All-map, All-weaker}
use Rattle.std.specs.List.{All}
use Rattle.std.specs.List.Sorted.{IsPermutation}
use Rattle.std.specs.VecDeque.{deque_len, deque_capacity}
use Rattle.ewma_sched.specs.declared.roster.Roster.{Roster}
use Rattle.ewma_sched.specs.declared.roster.ReadyLeg.{ReadyLeg}
use Rattle.ewma_sched.specs.declared.legs.CountedLeg.{CountedLeg}
use Rattle.ewma_sched.specs.Counts.{halved}
use Rattle.ewma_sched.specs.Tables.{Legs, has_name, leg_in, waits_on, HasCount, IsRoster, IsWithoutLegs}
use Rattle.ewma_sched.specs.Order.{IsInOrder, Serves, charged_ready_leg}
use Rattle.ewma_sched.specs.Order as order
use Rattle.ewma_sched.proofs.Halving.{halved_from}
use Rattle.ewma_sched.proofs.Names.{count_moved, count_map}
use Rattle.ewma_sched.proofs.Weights.{waits_one, idle_one, weighs_nothing, idle_least}

-- a count at a later tick
pub later : (o : Option CountedLeg) (a b count : ℕ) → a ≤ b → HasCount o a count → HasCount o b (halved count (b - a))
later None a b count le has = has
later (Some x) a b count le has =
    let value = x.count.value in
    let from = x.count.tick in
    (omega (arith, has.0), ap (λ n. halved n (b - a)) has.1 ∙ halved_from value from a b has.0 le)

module _ (legs : Legs) (chan : ℕ) where
  -- a roster that went on to a later tick
  pub went_on : (roster next : Roster) (now tick : ℕ) → IsRoster legs now chan roster → now ≤ tick
      → IsPermutation (map (order.halved_ready_leg (tick - roster.tick)) roster.ready_queue.items) next.ready_queue.items
      → IsInOrder next.ready_queue.items → next.idle ≡ roster.idle → next.tick ≡ tick
      → deque_len next.ready_queue ≡ deque_len roster.ready_queue
      → deque_capacity next.ready_queue ≡ deque_capacity roster.ready_queue
      → IsRoster legs tick chan next
  went_on roster next now tick is le moved ordered idle ticked long wide =
      let halve = order.halved_ready_leg (tick - roster.tick) in
      let HasIts : ReadyLeg → Type 0 = λ w. HasCount (leg_in legs (w.circ, w.number)) tick w.count in
      let at_tick : All HasIts next.ready_queue.items
      = All-permutation HasIts (map halve roster.ready_queue.items) next.ready_queue.items moved
      (All-map HasIts halve roster.ready_queue.items
      (All-weaker (λ w. HasCount (leg_in legs (w.circ, w.number)) roster.tick w.count) (λ w. HasIts (halve w))
      (λ w has. later (leg_in legs (w.circ, w.number)) roster.tick tick w.count (let t = is.tick in omega arith) has)
      roster.ready_queue.items is.counts)) in
      let room = is.room in
      record {
        tick = omega arith;
        order = ordered;
        names = λ name.
            count_moved (has_name name) (map halve roster.ready_queue.items) next.ready_queue.items moved
            ∙ count_map (has_name name) halve (λ w. refl) roster.ready_queue.items ∙ is.names name;
        counts =
            subst (λ t. All (λ w. HasCount (leg_in legs (w.circ, w.number)) t w.count) next.ready_queue.items) (sym ticked)
            at_tick;
        idle = idle ∙ is.idle;
        room = omega arith;
      }

-- a roster with more room
pub roomier_roster : (legs : Legs) (chan now : ℕ) (roster next : Roster) → IsRoster legs now chan roster
    → next.ready_queue.items ≡ roster.ready_queue.items → next.idle ≡ roster.idle → next.tick ≡ roster.tick
    → deque_len next.ready_queue + next.idle ≤ deque_capacity next.ready_queue
    → IsRoster legs now chan next
roomier_roster legs chan now roster next is items idle ticked room =
    let tick = is.tick in
    record {
      tick = omega arith;
      order = subst IsInOrder (sym items) is.order;
      names = λ name. ap (count_by (has_name name)) items ∙ is.names name;
      counts =
          subst (λ t. All (λ w. HasCount (leg_in legs (w.circ, w.number)) t w.count) next.ready_queue.items) (sym ticked)
          (subst (λ l. All (λ w. HasCount (leg_in legs (w.circ, w.number)) roster.tick w.count) l) (sym items) is.counts);
      idle = idle ∙ is.idle;
      room = omega arith;
    }

-- a roster of a channel without legs
pub empty_roster : (legs : Legs) (chan now : ℕ) (roster : Roster) → IsWithoutLegs legs chan
    → roster.ready_queue.items ≡ [] → roster.idle ≡ 0 → roster.tick ≤ now
    → deque_len roster.ready_queue + roster.idle ≤ deque_capacity roster.ready_queue → IsRoster legs now chan roster
unfolding IsInOrder
empty_roster legs chan now roster without items idle tick room =
    record {
      tick = tick;
      order = subst IsInOrder (sym items) (λ i j d le lt. absurd (omega arith));
      names = λ name.
          ap (count_by (has_name name)) items ∙ sym (weighs_nothing chan (leg_in legs name) (without.none name));
      counts =
          subst (λ l. All (λ w. HasCount (leg_in legs (w.circ, w.number)) roster.tick w.count) l) (sym items)
          (λ k d within. absurd (omega arith));
      idle = idle ∙ sym without.idle;
      room = room;
    }

-- a roster that is empty has no legs
pub without_legs : (legs : Legs) (chan now : ℕ) (roster : Roster) → IsRoster legs now chan roster
    → roster.ready_queue.items ≡ [] → roster.idle ≡ 0 → IsWithoutLegs legs chan
without_legs legs chan now roster is items idle =
    let none_idle = is.idle in
    record {
      none = λ name x there on.
          let weight : waits_on chan (Some x) ≡ 0
          = ap (waits_on chan) (sym there) ∙ sym (is.names name) ∙ ap (count_by (has_name name)) items in
          elim (cases_Bool x.has_cells) [
            | inl queued ↦ let one = waits_one chan x on queued in absurd (omega arith)
            | inr rests ↦
                let one = idle_one chan x on rests in
                let least = idle_least legs name x chan there in
                absurd (omega arith)
          ];
      idle = sym none_idle ∙ idle;
    }
