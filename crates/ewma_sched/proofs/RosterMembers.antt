-- What a roster is once a leg has joined its channel or left it.
use Rattle.std.proofs.Common.{◌≡◌, ℕ, ◌+◌, ◌≤◌, false, Some, None, count_by, sym, ap, ◌∙◌, arith}
use Rattle.std.specs.VecDeque.{deque_len, deque_capacity}
use Rattle.ewma_sched.specs.declared.roster.Roster.{Roster}
use Rattle.ewma_sched.specs.declared.legs.CountedLeg.{CountedLeg}
use Rattle.ewma_sched.specs.Legs.{LegName}
use Rattle.ewma_sched.specs.Tables.{Legs, has_name, waits_on, idle_count, idle_on, IsRoster, Changes}
use Rattle.ewma_sched.proofs.Weights.{waits_none, idle_one, others_stay, same_weight}

-- a leg of the channel that has nothing queued is gone
pub left_roster : (old new : Legs) (chan now : ℕ) (roster : Roster) (leg : LegName) (x : CountedLeg) (idle : ℕ)
    → IsRoster old now chan roster → x.chan ≡ chan → x.has_cells ≡ false → Changes old new leg (Some x) None
    → idle + 1 ≡ roster.idle → IsRoster new now chan (record roster { idle = idle })
left_roster old new chan now roster leg x idle is on queued change fewer =
    let gone : count_by (has_name leg) roster.ready_queue.items ≡ 0
    = is.names leg ∙ ap (waits_on chan) change.before ∙ waits_none chan x queued in
    let idle_same : idle_on chan new + idle_count chan x ≡ idle_on chan old + 0 = change.idle chan in
    let was_idle = idle_one chan x on queued in
    let counts_idle = is.idle in
    let room = is.room in
    record {
      tick = is.tick;
      order = is.order;
      names = λ name. is.names name ∙ sym (same_weight change chan (sym (waits_none chan x queued)) name);
      counts = others_stay change roster.tick roster.ready_queue.items gone is.counts;
      idle = omega arith;
      room = omega arith;
    }

-- a leg of the channel is new
pub joined_roster : (old new : Legs) (chan now later : ℕ) (roster : Roster) (leg : LegName) (x : CountedLeg)
    → IsRoster old now chan roster → now ≤ later → x.chan ≡ chan → x.has_cells ≡ false → Changes old new leg None (Some x)
    → deque_len roster.ready_queue + roster.idle + 1 ≤ deque_capacity roster.ready_queue
    → IsRoster new later chan (record roster { idle = roster.idle + 1 })
joined_roster old new chan now later roster leg x is le on queued change room =
    let gone : count_by (has_name leg) roster.ready_queue.items ≡ 0
    = is.names leg ∙ ap (waits_on chan) change.before in
    let idle_same : idle_on chan new + 0 ≡ idle_on chan old + idle_count chan x = change.idle chan in
    let now_idle = idle_one chan x on queued in
    let counts_idle = is.idle in
    let tick = is.tick in
    record {
      tick = omega arith;
      order = is.order;
      names = λ name. is.names name ∙ sym (same_weight change chan (waits_none chan x queued) name);
      counts = others_stay change roster.tick roster.ready_queue.items gone is.counts;
      idle = omega arith;
      room = omega arith;
    }
