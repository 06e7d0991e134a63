use Rattle.std.proofs.Common.{◌-◌, ◌≤◌, sym, refl, arith, false}
use Rattle.ewma_sched.specs.declared.roster.Roster.{Roster}
use Rattle.ewma_sched.proofs.TableRosters.{roster_missing, roster_written, room_table, table_same}
use Rattle.ewma_sched.proofs.Membership.{rested_by, becomes_gone, becomes_absent, left_table, one_idle}
use Rattle.ewma_sched.proofs.table.LegTable.take_out.Goals as goal

pub overflow_sub-roster : goal.overflow_sub-roster
overflow_sub-roster c =
    let x = c.in_ok-leg.leg in
    let s = c.queued.new.self in
    let rests =
    rested_by c.args.self.now.legs.entries s.legs.entries c.args.name false x c.queued.ensures.leg
    c.in_ok-leg.ensures.some.before in
    one_idle s.legs.entries s.rosters.entries s.tick c.args.name x c.in-Some.roster.now c.queued.ensures.table
    (sym c.in-Some.ensures.value) c.in_ok-leg.ensures.some.before rests

pub unreachable-requires : goal.unreachable-requires
unreachable-requires c =
    (roster_missing c.in_ok-leg.leg.chan c.queued.ensures.table (sym c.in_default.ensures.value)).none c.args.name c.in_ok-leg.leg
    c.in_ok-leg.ensures.some.before refl

pub returns-clause-table : goal.returns-clause-table
returns-clause-table c =
    let x = c.in_ok-leg.leg in
    let s = c.queued.new.self in
    let roster = c.in-Some.roster.now in
    let there = sym c.in-Some.ensures.value in
    let before = c.in_ok-leg.ensures.some.before in
    let rests = rested_by c.args.self.now.legs.entries s.legs.entries c.args.name false x c.queued.ensures.leg before in
    let one : 1 ≤ roster.idle
    = one_idle s.legs.entries s.rosters.entries s.tick c.args.name x roster c.queued.ensures.table there before rests in
    let next : Roster = record roster { idle = roster.idle - 1 } in
    left_table s.legs.entries c.remove.new.legs.entries s.rosters.entries _ s.tick c.args.name x roster (roster.idle - 1)
    c.queued.ensures.table there (roster_written s.rosters.entries _ x.chan roster next there (c.get_mut.follows.holds next).0)
    rests c.in_ok-leg.ensures.some (omega arith)

pub returns-clause-leg : goal.returns-clause-leg
returns-clause-leg c =
    becomes_gone c.args.self.now.legs.entries c.queued.new.self.legs.entries c.remove.new.legs.entries c.args.name _
    c.queued.ensures.leg c.in_ok-leg.ensures.some.after

pub returns-clause-room : goal.returns-clause-room
returns-clause-room c =
    let s = c.queued.new.self in
    let roster = c.in-Some.roster.now in
    let next : Roster = record roster { idle = roster.idle - 1 } in
    let there = sym c.in-Some.ensures.value in
    λ chan had.
    room_table s.rosters.entries _ c.in_ok-leg.leg.chan roster next there
    (roster_written s.rosters.entries _ c.in_ok-leg.leg.chan roster next there (c.get_mut.follows.holds next).0)
    (λ room. omega (arith, room)) chan (c.queued.ensures.room chan had)

pub returns-in_err-leg-clause-table : goal.returns-in_err-leg-clause-table
returns-in_err-leg-clause-table c =
    let s = c.queued.new.self in
    table_same s.legs.entries c.remove.new.legs.entries s.rosters.entries s.rosters.entries s.tick c.queued.ensures.table
    c.in_err-leg.ensures.none refl

pub returns-in_err-leg-clause-leg : goal.returns-in_err-leg-clause-leg
returns-in_err-leg-clause-leg c =
    becomes_absent c.args.self.now.legs.entries c.queued.new.self.legs.entries c.remove.new.legs.entries c.args.name _
    c.queued.ensures.leg c.in_err-leg.ensures.gone c.in_err-leg.ensures.none
