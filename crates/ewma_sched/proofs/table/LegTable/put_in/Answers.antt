use Rattle.std.proofs.Common.{◌+◌, sym, refl, arith, subst, false, IsOk}
use Rattle.ewma_sched.specs.declared.roster.Roster.{Roster}
use Rattle.ewma_sched.specs.declared.legs.CountedLeg.{CountedLeg}
use Rattle.ewma_sched.specs.Tables.{RosterHasRoom}
use Rattle.ewma_sched.proofs.Maps.{inserted}
use Rattle.ewma_sched.proofs.TableRosters.{roster_written}
use Rattle.ewma_sched.proofs.Membership.{joined_table, put_moves, on_ok}
use Rattle.ewma_sched.proofs.table.LegTable.put_in.Goals as goal

pub overflow_add-roster : goal.overflow_add-roster
overflow_add-roster c =
    let roster = c.in-Some.roster.now in
    let room = subst RosterHasRoom (sym c.in-Some.ensures.value) c.requires.room in
    omega (arith, room, roster.ready_queue.small.0)

pub unreachable-requires : goal.unreachable-requires
unreachable-requires c = subst RosterHasRoom (sym c.in_default.ensures.value) c.requires.room

pub returns-clause-table : goal.returns-clause-table
returns-clause-table c =
    let s = c.args.self.now in
    let leg : CountedLeg = record { chan = c.args.chan; count = record { value = 0; tick = c.args.tick }; has_cells = false } in
    let e = c.insert.ensures in
    let fine : IsOk c.insert.result = e.succeeds (omega (arith, c.requires.spare)) in
    let change = inserted s.legs.entries c.insert.new.self.entries c.args.name leg c.requires.new
    (on_ok c.insert.result fine e.updates).0
    (put_moves s.legs.entries c.insert.new.self.entries c.args.name leg c.insert.result fine e.old c.requires.new e.entries) in
    let roster = c.in-Some.roster.now in
    let next : Roster = record roster { idle = roster.idle + 1 } in
    let there = sym c.in-Some.ensures.value in
    joined_table s.legs.entries c.insert.new.self.entries s.rosters.entries _ s.tick c.args.tick c.args.chan c.args.name leg
    roster
    c.requires.table c.requires.tick there
    (roster_written s.rosters.entries _ c.args.chan roster next there (c.get_mut.follows.holds next).0)
    refl refl refl change c.requires.room

pub returns-clause-leg : goal.returns-clause-leg
returns-clause-leg c =
    let s = c.args.self.now in
    let leg : CountedLeg = record { chan = c.args.chan; count = record { value = 0; tick = c.args.tick }; has_cells = false } in
    let e = c.insert.ensures in
    let fine : IsOk c.insert.result = e.succeeds (omega (arith, c.requires.spare)) in
    inserted s.legs.entries c.insert.new.self.entries c.args.name leg c.requires.new
    (on_ok c.insert.result fine e.updates).0
    (put_moves s.legs.entries c.insert.new.self.entries c.args.name leg c.insert.result fine e.old c.requires.new e.entries)
