use Rattle.std.proofs.Common.{◌+◌, ◌≤◌, sym, ◌∙◌, ap, arith, subst, Some}
use Rattle.std.specs.VecDeque.{deque_len, deque_capacity}
use Rattle.ewma_sched.proofs.Keeping.{RosterChanges, roster_same}
use Rattle.ewma_sched.proofs.Maps.{reordered}
use Rattle.ewma_sched.proofs.RosterRoom.{roomier_roster, empty_roster}
use Rattle.ewma_sched.proofs.TableRosters.{roster_table, roster_missing, roster_written, table_roster, table_same}
use Rattle.ewma_sched.proofs.table.LegTable.reserve.Goals as goal

pub returns-in-Some-clause-table : goal.returns-in-Some-clause-table
returns-in-Some-clause-table c =
    let s = c.args.self.now in
    let legs = c.reserve.new.self.entries in
    let same = reordered s.legs.entries legs c.reserve.ensures.entries.2 c.reserve.ensures.entries.0 in
    let roster = c.in-Some.roster.now in
    let next = c.reserve-in-Some.new.self in
    let there = sym c.in-Some.ensures.value in
    let e = c.reserve-in-Some.ensures in
    let is = roster_table c.args.chan roster c.requires there in
    let room : deque_len next.ready_queue + next.idle ≤ deque_capacity next.ready_queue =
    omega (arith, is.room, e.idle, e.len, e.capacity) in
    table_roster s.legs.entries legs s.rosters.entries _ c.args.chan s.tick s.tick (Some next) c.requires same (omega arith)
    (roster_written s.rosters.entries _ c.args.chan roster next there (c.get_mut.follows.holds next).0)
    (roster_same same c.args.chan s.tick s.tick (omega arith) (Some next)
    (roomier_roster s.legs.entries c.args.chan s.tick roster next is e.queue e.idle e.tick room))

pub returns-in-Some-clause-legs : goal.returns-in-Some-clause-legs
returns-in-Some-clause-legs c = reordered _ _ c.reserve.ensures.entries.2 c.reserve.ensures.entries.0

pub returns-in_err-reserve-2-clause-table : goal.returns-in_err-reserve-2-clause-table
returns-in_err-reserve-2-clause-table c =
    let s = c.args.self.now in
    table_same s.legs.entries c.reserve.new.self.entries s.rosters.entries _ s.tick c.requires
    (reordered s.legs.entries c.reserve.new.self.entries c.reserve.ensures.entries.2 c.reserve.ensures.entries.0)
    (ap (λ m. m.entries) c.get_mut.follows.holds-at-none)

pub returns-in_err-reserve-2-clause-legs : goal.returns-in_err-reserve-2-clause-legs
returns-in_err-reserve-2-clause-legs c = reordered _ _ c.reserve.ensures.entries.2 c.reserve.ensures.entries.0

pub returns-in_err-insert-clause-table : goal.returns-in_err-insert-clause-table
returns-in_err-insert-clause-table c =
    let s = c.args.self.now in
    table_same s.legs.entries c.reserve.new.self.entries s.rosters.entries _ s.tick c.requires
    (reordered s.legs.entries c.reserve.new.self.entries c.reserve.ensures.entries.2 c.reserve.ensures.entries.0)
    (c.in_err-insert.ensures.err ∙ ap (λ m. m.entries) c.get_mut.follows.holds-at-none)

pub returns-in_err-insert-clause-legs : goal.returns-in_err-insert-clause-legs
returns-in_err-insert-clause-legs c = reordered _ _ c.reserve.ensures.entries.2 c.reserve.ensures.entries.0

pub returns-clause-table : goal.returns-clause-table
returns-clause-table c =
    let s = c.args.self.now in
    let legs = c.reserve.new.self.entries in
    let same = reordered s.legs.entries legs c.reserve.ensures.entries.2 c.reserve.ensures.entries.0 in
    let next = c.reserve-2.new.self in
    let n = c.new-roster.ensures in
    let e = c.reserve-2.ensures in
    let none = c.in_default.ensures.value in
    let without = roster_missing c.args.chan c.requires (sym none) in
    let room : deque_len next.ready_queue + next.idle ≤ deque_capacity next.ready_queue =
    omega (arith, e.idle, n.idle, next.ready_queue.small.1) in
    table_roster s.legs.entries legs s.rosters.entries _ c.args.chan s.tick s.tick (Some next) c.requires same (omega arith)
    (subst (λ m. RosterChanges m.entries c.insert.new.self.entries c.args.chan (Some next)) c.get_mut.follows.holds-at-none
    c.in_ok-insert.ensures.updates.0)
    (roster_same same c.args.chan s.tick s.tick (omega arith) (Some next)
    (empty_roster s.legs.entries c.args.chan s.tick next without (e.queue ∙ n.queue) (e.idle ∙ n.idle)
    (omega (arith, e.tick, n.tick)) room))

pub returns-clause-legs : goal.returns-clause-legs
returns-clause-legs c = reordered _ _ c.reserve.ensures.entries.2 c.reserve.ensures.entries.0
