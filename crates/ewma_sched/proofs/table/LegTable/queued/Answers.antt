use Rattle.std.proofs.Common.{not, ◌≡◌, ◌∷◌, sym, ◌∙◌, ap, subst, refl, arith, true, false, Some}
use Rattle.std.specs.List.{Contains}
use Rattle.std.specs.List.Sorted.{IsPermutation}
use Rattle.ewma_sched.specs.Tables.{Changes}
use Rattle.ewma_sched.proofs.Standing.{stands, stands_in, ready_at}
use Rattle.ewma_sched.proofs.Weights.{idle_least, idle_one}
use Rattle.ewma_sched.proofs.TableRosters.{roster_table, roster_missing, roster_written, room_table}
use Rattle.ewma_sched.proofs.Serving.{WentOn}
use Rattle.ewma_sched.proofs.Queueing.{began_table, ended_table, becomes_queued}
use Rattle.ewma_sched.proofs.table.LegTable.queued.Goals as goal

pub go_on-requires-clause-order : goal.go_on-requires-clause-order
go_on-requires-clause-order c =
    (roster_table c.in-Some.leg.chan c.in-Some-get_mut.roster.now c.requires (sym c.in-Some-get_mut.ensures.value)).order

pub go_on-requires-clause-tick : goal.go_on-requires-clause-tick
go_on-requires-clause-tick c =
    (roster_table c.in-Some.leg.chan c.in-Some-get_mut.roster.now c.requires (sym c.in-Some-get_mut.ensures.value)).tick

pub at-requires : goal.at-requires
at-requires c = c.requires.ticks c.args.name c.in-Some.leg c.in-Some.ensures.some.before

pub begin-requires-clause-idle : goal.begin-requires-clause-idle
begin-requires-clause-idle c =
    let x = c.in-Some.leg in
    let legs = c.args.self.now.legs.entries in
    let is = roster_table x.chan c.in-Some-get_mut.roster.now c.requires (sym c.in-Some-get_mut.ensures.value) in
    let rested : x.has_cells ≡ false = c.in-Some.ensures.news ∙ ap not c.if-some.true in
    omega (
      arith,
      is.idle,
      c.go_on.ensures.idle,
      idle_one x.chan x refl rested,
      idle_least legs c.args.name x x.chan c.in-Some.ensures.some.before,
    )

pub begin-requires-clause-room : goal.begin-requires-clause-room
begin-requires-clause-room c =
    let e = c.go_on.ensures in
    let is = roster_table c.in-Some.leg.chan c.in-Some-get_mut.roster.now c.requires (sym c.in-Some-get_mut.ensures.value) in
    omega (arith, is.room, e.idle, e.len, e.capacity)

pub at-requires-else-some : goal.at-requires-else-some
at-requires-else-some c =
    let x = c.in-Some.leg in
    let s = c.args.self.now in
    let roster = c.in-Some-get_mut.roster.now in
    let is = roster_table x.chan roster c.requires (sym c.in-Some-get_mut.ensures.value) in
    let waited : x.has_cells ≡ true = c.in-Some.ensures.news ∙ ap not c.if-some.false in
    (stands s.legs.entries x.chan s.tick roster c.args.name x is c.in-Some.ensures.some.before refl waited).counted

pub end-requires-clause-order : goal.end-requires-clause-order
end-requires-clause-order c =
    (roster_table c.in-Some.leg.chan c.in-Some-get_mut.roster.now c.requires (sym c.in-Some-get_mut.ensures.value)).order

pub end-requires-clause-waits : goal.end-requires-clause-waits
end-requires-clause-waits c =
    let x = c.in-Some.leg in
    let s = c.args.self.now in
    let roster = c.in-Some-get_mut.roster.now in
    let is = roster_table x.chan roster c.requires (sym c.in-Some-get_mut.ensures.value) in
    let waited : x.has_cells ≡ true = c.in-Some.ensures.news ∙ ap not c.if-some.false in
    let entry : c.ready_leg-else-some.result ≡ ready_at c.args.name x roster.tick
    = c.ready_leg-else-some.ensures
    ∙ ap (λ n. record { count = n; circ = c.args.name.0; number = c.args.name.1 }) c.at-else-some.ensures in
    subst (Contains roster.ready_queue.items) (sym entry)
    (stands_in roster c.args.name x
    (stands s.legs.entries x.chan s.tick roster c.args.name x is c.in-Some.ensures.some.before refl waited))

pub end-requires-clause-room : goal.end-requires-clause-room
end-requires-clause-room c =
    (roster_table c.in-Some.leg.chan c.in-Some-get_mut.roster.now c.requires (sym c.in-Some-get_mut.ensures.value)).room

pub unreachable-requires : goal.unreachable-requires
unreachable-requires c =
    (roster_missing c.in-Some.leg.chan c.requires (sym c.in_default-get_mut.ensures.value)).none c.args.name c.in-Some.leg
    c.in-Some.ensures.some.before refl

pub returns-then-some-clause-table : goal.returns-then-some-clause-table
returns-then-some-clause-table c =
    let x = c.in-Some.leg in
    let s = c.args.self.now in
    let roster = c.in-Some-get_mut.roster.now in
    let next = c.go_on.new.self in
    let last = c.begin.new.self in
    let there = sym c.in-Some-get_mut.ensures.value in
    let e = c.go_on.ensures in
    let f = c.begin.ensures in
    let went : WentOn roster next s.tick =
    record { legs = e.legs; order = e.order; idle = e.idle; ticked = e.tick; len = e.len; capacity = e.capacity } in
    let rested : x.has_cells ≡ false = c.in-Some.ensures.news ∙ ap not c.if-some.true in
    let entry : c.ready_leg.result ≡ ready_at c.args.name x s.tick
    = c.ready_leg.ensures ∙ ap (λ n. record { count = n; circ = c.args.name.0; number = c.args.name.1 }) c.at.ensures in
    began_table s.legs.entries c.set_queued.new.legs.entries s.rosters.entries _ s.tick c.args.name x roster last c.requires there
    (roster_written s.rosters.entries _ x.chan roster last there (c.get_mut.follows.holds last).0) next rested
    (subst (λ b. Changes s.legs.entries c.set_queued.new.legs.entries c.args.name (Some x) (Some (record x { has_cells = b })))
    c.if-some.true c.in-Some.ensures.some)
    went (subst (λ w. IsPermutation (w ∷ next.ready_queue.items) last.ready_queue.items) entry f.legs) f.order f.idle f.tick
    f.room

pub returns-then-some-clause-room : goal.returns-then-some-clause-room
returns-then-some-clause-room c =
    let s = c.args.self.now in
    let roster = c.in-Some-get_mut.roster.now in
    let last = c.begin.new.self in
    let there = sym c.in-Some-get_mut.ensures.value in
    let e = c.go_on.ensures in
    let f = c.begin.ensures in
    room_table s.rosters.entries _ c.in-Some.leg.chan roster last there
    (roster_written s.rosters.entries _ c.in-Some.leg.chan roster last there (c.get_mut.follows.holds last).0)
    (λ had. omega (arith, had, e.idle, e.len, e.capacity, f.len, f.capacity))

pub returns-then-some-clause-leg : goal.returns-then-some-clause-leg
returns-then-some-clause-leg c =
    becomes_queued c.args.self.now.legs.entries c.set_queued.new.legs.entries c.args.name c.in-Some.leg c.args.some
    c.in-Some.ensures.some

pub returns-else-some-clause-table : goal.returns-else-some-clause-table
returns-else-some-clause-table c =
    let x = c.in-Some.leg in
    let s = c.args.self.now in
    let roster = c.in-Some-get_mut.roster.now in
    let last = c.end.new.self in
    let there = sym c.in-Some-get_mut.ensures.value in
    let f = c.end.ensures in
    let waited : x.has_cells ≡ true = c.in-Some.ensures.news ∙ ap not c.if-some.false in
    let entry : c.ready_leg-else-some.result ≡ ready_at c.args.name x roster.tick
    = c.ready_leg-else-some.ensures
    ∙ ap (λ n. record { count = n; circ = c.args.name.0; number = c.args.name.1 }) c.at-else-some.ensures in
    ended_table s.legs.entries c.set_queued.new.legs.entries s.rosters.entries _ s.tick c.args.name x roster last c.requires there
    (roster_written s.rosters.entries _ x.chan roster last there (c.get_mut.follows.holds last).0) waited
    (subst (λ b. Changes s.legs.entries c.set_queued.new.legs.entries c.args.name (Some x) (Some (record x { has_cells = b })))
    c.if-some.false c.in-Some.ensures.some)
    (subst (λ w. IsPermutation roster.ready_queue.items (w ∷ last.ready_queue.items)) entry f.legs) f.order f.idle f.tick f.room

pub returns-else-some-clause-room : goal.returns-else-some-clause-room
returns-else-some-clause-room c =
    let s = c.args.self.now in
    let roster = c.in-Some-get_mut.roster.now in
    let last = c.end.new.self in
    let there = sym c.in-Some-get_mut.ensures.value in
    let f = c.end.ensures in
    room_table s.rosters.entries _ c.in-Some.leg.chan roster last there
    (roster_written s.rosters.entries _ c.in-Some.leg.chan roster last there (c.get_mut.follows.holds last).0)
    (λ had. omega (arith, had, f.len, f.capacity))

pub returns-else-some-clause-leg : goal.returns-else-some-clause-leg
returns-else-some-clause-leg c =
    becomes_queued c.args.self.now.legs.entries c.set_queued.new.legs.entries c.args.name c.in-Some.leg c.args.some
    c.in-Some.ensures.some
