use Rattle.std.proofs.Common.{sym, ◌∙◌, ◌+◌, ◌≤◌, refl, arith, rules}
use Rattle.ewma_sched.proofs.Cases.{if_none}
use Rattle.ewma_sched.proofs.RosterRoom.{roomier_roster}
use Rattle.ewma_sched.proofs.Maps.{unchanged}
use Rattle.ewma_sched.proofs.Picks.{none_in_roster, none_without}
use Rattle.ewma_sched.proofs.TableRosters.{roster_table, roster_missing, roster_written, table_roster}
use Rattle.ewma_sched.proofs.Serving.{WentOn, gone_on, ServedOne, served_first, served_charges, served_table}
use Rattle.std.specs.VecDeque.{deque_len, deque_capacity}
use Rattle.ewma_sched.proofs.table.LegTable.pick.Goals as goal

pub returns-in_err-roster-clause-none : goal.returns-in_err-roster-clause-none
returns-in_err-roster-clause-none c =
    if_none _ (none_without _ _ (roster_missing c.args.chan c.requires.table (sym c.in_err-roster.ensures.value)))

pub go_on-requires-clause-order : goal.go_on-requires-clause-order
go_on-requires-clause-order c =
    (roster_table c.args.chan c.in_ok-roster.roster.now c.requires.table (sym c.in_ok-roster.ensures.value)).order

pub go_on-requires-clause-tick : goal.go_on-requires-clause-tick
go_on-requires-clause-tick c =
    let is = roster_table c.args.chan c.in_ok-roster.roster.now c.requires.table (sym c.in_ok-roster.ensures.value) in
    omega (arith, is.tick, c.requires.tick)

pub returns-in_err-next : goal.returns-in_err-next
returns-in_err-next c =
    let s = c.args.self.now in
    let roster = c.in_ok-roster.roster.now in
    let next = c.go_on.new.self in
    let last = c.serve.new.self in
    let there = sym c.in_ok-roster.ensures.value in
    let e = c.go_on.ensures in
    let went : WentOn roster next c.args.tick =
    record { legs = e.legs; order = e.order; idle = e.idle; ticked = e.tick; len = e.len; capacity = e.capacity } in
    let is = gone_on (roster_table c.args.chan roster c.requires.table there) c.requires.tick went in
    let f = c.in_err-next.ensures in
    let room : deque_len last.ready_queue + last.idle ≤ deque_capacity last.ready_queue =
    omega (arith, is.room, f.idle, f.len, f.capacity) in
    record {
      table =
          table_roster s.legs.entries s.legs.entries s.rosters.entries _ c.args.chan s.tick c.args.tick _ c.requires.table
          (unchanged _ _ refl) c.requires.tick
          (roster_written s.rosters.entries _ c.args.chan roster last there (c.get_mut.follows.holds last).0)
          (roomier_roster s.legs.entries c.args.chan c.args.tick next last is (f.same ∙ sym f.none) f.idle f.tick room);
      tick = search rules;
      first = search rules;
      charged = search rules;
      none = if_none _ (none_in_roster s.legs.entries c.args.chan c.args.tick next is f.none);
      same = if_none _ (unchanged _ _ refl);
    }

pub returns : goal.returns
returns c =
    let s = c.args.self.now in
    let roster = c.in_ok-roster.roster.now in
    let next = c.go_on.new.self in
    let last = c.serve.new.self in
    let there = sym c.in_ok-roster.ensures.value in
    let e = c.go_on.ensures in
    let went : WentOn roster next c.args.tick =
    record { legs = e.legs; order = e.order; idle = e.idle; ticked = e.tick; len = e.len; capacity = e.capacity } in
    let is = gone_on (roster_table c.args.chan roster c.requires.table there) c.requires.tick went in
    let f = c.in_ok-next.ensures in
    let one : ServedOne next last c.in_ok-next.next
    = record { serves = f.some; order = f.order; idle = f.idle; ticked = f.tick; len = f.len; capacity = f.capacity } in
    record {
      table =
          served_table s.legs.entries c.set_count.new.legs.entries c.args.chan c.args.tick next last c.in_ok-next.next is
          e.tick one s.rosters.entries _ s.tick c.requires.table c.requires.tick c.set_count.ensures
          (roster_written s.rosters.entries _ c.args.chan roster last there (c.get_mut.follows.holds last).0);
      tick = search rules;
      first =
          served_first s.legs.entries c.set_count.new.legs.entries c.args.chan c.args.tick next last c.in_ok-next.next is e.tick
          one;
      charged =
          served_charges s.legs.entries c.set_count.new.legs.entries c.args.chan c.args.tick next last c.in_ok-next.next is e.tick
          one
          c.set_count.ensures;
      none = search rules;
      same = search rules;
    }
