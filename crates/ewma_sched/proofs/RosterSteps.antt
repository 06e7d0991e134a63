-- What a roster is once a leg was served, begins to wait or waits no more.
use Rattle.std.proofs.Common.{◌≡◌, ℕ, ◌+◌, ◌-◌, ◌≤◌, true, false, cond, ◌∷◌, Some, count_by, refl, sym, ap, ◌∙◌, subst, arith}
use Rattle.std.proofs.lemmas.List.Sorted.{All-permutation}
use Rattle.std.proofs.lemmas.List.Elements.{All-cons, All-tail}
use Rattle.std.specs.List.{All}
use Rattle.std.specs.List.Sorted.{IsPermutation}
use Rattle.std.specs.VecDeque.{deque_len, deque_capacity}
use Rattle.hashed_maps.proofs.Keys.{pair_keys, eq-itself}
use Rattle.ewma_sched.specs.declared.roster.Roster.{Roster}
use Rattle.ewma_sched.specs.declared.roster.ReadyLeg.{ReadyLeg}
use Rattle.ewma_sched.specs.declared.legs.CountedLeg.{CountedLeg}
use Rattle.ewma_sched.specs.Counts.{halved}
use Rattle.ewma_sched.specs.Legs.{LegName}
use Rattle.ewma_sched.specs.Tables.{Legs, has_name, leg_in, waits_on, idle_count, idle_on, HasCount, IsRoster, Changes}
use Rattle.ewma_sched.specs.Order.{IsInOrder, Serves}
use Rattle.ewma_sched.proofs.Halving.{halved_none}
use Rattle.ewma_sched.proofs.Keeping.{at_leg, at_other, by_name}
use Rattle.ewma_sched.proofs.Names.{count_cons, count_moved}
use Rattle.ewma_sched.proofs.Weights.{waits_one, waits_none, idle_one, idle_none, apart_back, others_stay, same_weight}
use Rattle.ewma_sched.proofs.Standing.{ready_at}

-- the leg in front was charged
pub served_roster : (old new : Legs) (chan now : ℕ) (roster next : Roster) (served_leg : ReadyLeg) (x : CountedLeg)
    → IsRoster old now chan roster → roster.tick ≡ now → Serves roster.ready_queue.items next.ready_queue.items served_leg
    → x.chan ≡ chan → x.has_cells ≡ true
    → Changes old new (served_leg.circ, served_leg.number) (Some x)
    (Some (record x { count = record { value = served_leg.count; tick = now } }))
    → IsInOrder next.ready_queue.items → next.idle ≡ roster.idle → next.tick ≡ roster.tick
    → deque_len next.ready_queue ≡ deque_len roster.ready_queue
    → deque_capacity roster.ready_queue ≤ deque_capacity next.ready_queue
    → IsRoster new now chan next
served_roster old new chan now roster next served_leg x is ticked serves on queued change ordered idle same long wide =
    let leg : LegName = (served_leg.circ, served_leg.number) in
    let first = serves.first in
    let rest = serves.rest in
    let charged : CountedLeg = record x { count = record { value = served_leg.count; tick = now } } in
    let named : (name : LegName) → has_name name served_leg ≡ has_name name first
    = λ name. ap (has_name name) serves.charged in
    let counted : (name : LegName)
    → count_by (has_name name) next.ready_queue.items ≡ count_by (has_name name) roster.ready_queue.items
    = λ name.
    count_moved (has_name name) (served_leg ∷ rest) next.ready_queue.items serves.moved
    ∙ count_cons (has_name name) served_leg rest
    ∙ ap (λ b. cond {A = ℕ} b 1 0 + count_by (has_name name) rest) (named name)
    ∙ sym (count_cons (has_name name) first rest)
    ∙ ap (count_by (has_name name)) (sym serves.was) in
    let weighs : waits_on chan (Some x) ≡ 1 = waits_one chan x on queued in
    let gone : count_by (has_name leg) rest ≡ 0
    = (let all : count_by (has_name leg) roster.ready_queue.items ≡ 1 =
    is.names leg ∙ ap (waits_on chan) change.before ∙ weighs in
    let parts : count_by (has_name leg) roster.ready_queue.items ≡ cond {A = ℕ} (has_name leg first) 1 0
    + count_by (has_name leg) rest
    = ap (count_by (has_name leg)) serves.was ∙ count_cons (has_name leg) first rest in
    let here : cond {A = ℕ} (has_name leg first) 1 0 ≡ 1
    = ap (λ b. cond {A = ℕ} b 1 0) (sym (named leg) ∙ eq-itself pair_keys leg) in
    omega arith) in
    let HasIts : ReadyLeg → Type 0 = λ w. HasCount (leg_in new (w.circ, w.number)) next.tick w.count in
    let old_counts : All (λ w. HasCount (leg_in old (w.circ, w.number)) next.tick w.count) (first ∷ rest)
    = subst (λ t. All (λ w. HasCount (leg_in old (w.circ, w.number)) t w.count) (first ∷ rest)) (sym same)
    (subst (λ l. All (λ w. HasCount (leg_in old (w.circ, w.number)) roster.tick w.count) l) serves.was is.counts) in
    let later_ones : All HasIts rest
    = others_stay change next.tick rest gone
    (All-tail (λ w. HasCount (leg_in old (w.circ, w.number)) next.tick w.count) first rest old_counts) in
    let none : next.tick - now ≡ 0 = omega arith in
    let front : HasIts served_leg
    = subst (λ o. HasCount o next.tick served_leg.count) (sym (at_leg change))
    (omega arith, sym (halved_none served_leg.count (next.tick - now) none)) in
    let tick = is.tick in
    let room = is.room in
    let idle_same : idle_on chan new + idle_count chan x ≡ idle_on chan old + idle_count chan charged = change.idle chan in
    let was_idle = idle_none chan x queued in
    let is_idle_now = idle_none chan charged queued in
    let counts_idle = is.idle in
    record {
      tick = omega arith;
      order = ordered;
      names = λ name.
          counted name ∙ is.names name
          ∙ sym (same_weight change chan (waits_one chan charged on queued ∙ sym weighs) name);
      counts =
          All-permutation HasIts (served_leg ∷ rest) next.ready_queue.items serves.moved
          (All-cons HasIts served_leg rest front later_ones);
      idle = omega arith;
      room = omega arith;
    }

-- a leg of the channel has something queued from now on
pub began_roster : (old new : Legs) (chan now : ℕ) (roster next : Roster) (leg : LegName) (x : CountedLeg)
    → IsRoster old now chan roster → roster.tick ≡ now → x.count.tick ≤ now → x.chan ≡ chan → x.has_cells ≡ false
    → Changes old new leg (Some x) (Some (record x { has_cells = true }))
    → IsPermutation (ready_at leg x now ∷ roster.ready_queue.items) next.ready_queue.items
    → IsInOrder next.ready_queue.items → next.idle + 1 ≡ roster.idle → next.tick ≡ roster.tick
    → deque_len next.ready_queue + next.idle ≤ deque_capacity next.ready_queue
    → IsRoster new now chan next
began_roster old new chan now roster next leg x is ticked counted on queued change moved ordered idle same room =
    let entry = ready_at leg x now in
    let begun : CountedLeg = record x { has_cells = true } in
    let gone : count_by (has_name leg) roster.ready_queue.items ≡ 0
    = is.names leg ∙ ap (waits_on chan) change.before ∙ waits_none chan x queued in
    let split : (name : LegName)
    → count_by (has_name name) next.ready_queue.items ≡ cond {A = ℕ} (has_name name entry) 1 0
    + count_by (has_name name) roster.ready_queue.items
    = λ name.
    count_moved (has_name name) (entry ∷ roster.ready_queue.items) next.ready_queue.items moved
    ∙ count_cons (has_name name) entry roster.ready_queue.items in
    let HasIts : ReadyLeg → Type 0 = λ w. HasCount (leg_in new (w.circ, w.number)) next.tick w.count in
    let at_now : next.tick ≡ now = same ∙ ticked in
    let front : HasIts entry
    = subst (λ o. HasCount o next.tick entry.count) (sym (at_leg change))
    (omega arith, ap (λ t. halved x.count.value (t - x.count.tick)) (sym at_now)) in
    let behind : All HasIts roster.ready_queue.items
    = others_stay change next.tick roster.ready_queue.items gone
    (subst (λ t. All (λ w. HasCount (leg_in old (w.circ, w.number)) t w.count) roster.ready_queue.items) (sym same) is.counts) in
    let idle_same : idle_on chan new + idle_count chan x ≡ idle_on chan old + idle_count chan begun = change.idle chan in
    let was_idle = idle_one chan x on queued in
    let is_idle_now = idle_none chan begun refl in
    let counts_idle = is.idle in
    record {
      tick = omega arith;
      order = ordered;
      names = λ name.
          by_name change (λ n. count_by (has_name n) next.ready_queue.items ≡ waits_on chan (leg_in new n)) name
          (split leg ∙ ap (λ b. cond {A = ℕ} b 1 0 + count_by (has_name leg) roster.ready_queue.items) (eq-itself pair_keys leg)
          ∙ ap (λ n. 1 + n) gone ∙ sym (ap (waits_on chan) (at_leg change) ∙ waits_one chan begun on refl))
          (λ off.
          split name ∙ ap (λ b. cond {A = ℕ} b 1 0 + count_by (has_name name) roster.ready_queue.items) (apart_back leg name off)
          ∙ (let e : 0 + count_by (has_name name) roster.ready_queue.items ≡ count_by (has_name name) roster.ready_queue.items =
          omega arith in e)
          ∙ is.names name ∙ ap (waits_on chan) (sym (at_other change name off)));
      counts =
          All-permutation HasIts (entry ∷ roster.ready_queue.items) next.ready_queue.items moved
          (All-cons HasIts entry roster.ready_queue.items front behind);
      idle = omega arith;
      room = room;
    }

-- a leg of the channel has nothing queued from now on
pub ended_roster : (old new : Legs) (chan now : ℕ) (roster next : Roster) (leg : LegName) (x : CountedLeg)
    → IsRoster old now chan roster → x.chan ≡ chan → x.has_cells ≡ true
    → Changes old new leg (Some x) (Some (record x { has_cells = false }))
    → IsPermutation roster.ready_queue.items (ready_at leg x roster.tick ∷ next.ready_queue.items)
    → IsInOrder next.ready_queue.items → next.idle ≡ roster.idle + 1 → next.tick ≡ roster.tick
    → deque_len next.ready_queue + next.idle ≤ deque_capacity next.ready_queue
    → IsRoster new now chan next
ended_roster old new chan now roster next leg x is on queued change moved ordered idle same room =
    let entry = ready_at leg x roster.tick in
    let resting : CountedLeg = record x { has_cells = false } in
    let split : (name : LegName)
    → cond {A = ℕ} (has_name name entry) 1 0 + count_by (has_name name) next.ready_queue.items
    ≡ count_by (has_name name) roster.ready_queue.items
    = λ name.
    sym (count_cons (has_name name) entry next.ready_queue.items)
    ∙ count_moved (has_name name) roster.ready_queue.items (entry ∷ next.ready_queue.items) moved in
    let gone : count_by (has_name leg) next.ready_queue.items ≡ 0
    = (let all : count_by (has_name leg) roster.ready_queue.items ≡ 1
    = is.names leg ∙ ap (waits_on chan) change.before ∙ waits_one chan x on queued in
    let parts = split leg in
    let here : cond {A = ℕ} (has_name leg entry) 1 0 ≡ 1 = ap (λ b. cond {A = ℕ} b 1 0) (eq-itself pair_keys leg) in
    omega arith) in
    let old_counts : All (λ w. HasCount (leg_in old (w.circ, w.number)) next.tick w.count) next.ready_queue.items
    = All-tail (λ w. HasCount (leg_in old (w.circ, w.number)) next.tick w.count) entry next.ready_queue.items
    (All-permutation (λ w. HasCount (leg_in old (w.circ, w.number)) next.tick w.count) roster.ready_queue.items
    (entry ∷ next.ready_queue.items) moved
    (subst (λ t. All (λ w. HasCount (leg_in old (w.circ, w.number)) t w.count) roster.ready_queue.items) (sym same) is.counts)) in
    let idle_same : idle_on chan new + idle_count chan x ≡ idle_on chan old + idle_count chan resting = change.idle chan in
    let was_idle = idle_none chan x queued in
    let is_idle_now = idle_one chan resting on refl in
    let counts_idle = is.idle in
    let tick = is.tick in
    record {
      tick = omega arith;
      order = ordered;
      names = λ name.
          by_name change (λ n. count_by (has_name n) next.ready_queue.items ≡ waits_on chan (leg_in new n)) name
          (gone ∙ sym (ap (waits_on chan) (at_leg change) ∙ waits_none chan resting refl))
          (λ off.
          (let e : 0 + count_by (has_name name) next.ready_queue.items ≡ count_by (has_name name) next.ready_queue.items =
          omega arith in sym e)
          ∙ ap (λ b. cond {A = ℕ} b 1 0 + count_by (has_name name) next.ready_queue.items) (sym (apart_back leg name off))
          ∙ split name ∙ is.names name ∙ ap (waits_on chan) (sym (at_other change name off)));
      counts = others_stay change next.tick next.ready_queue.items gone old_counts;
      idle = omega arith;
      room = room;
    }
