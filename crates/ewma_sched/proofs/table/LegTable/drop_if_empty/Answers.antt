use Rattle.std.proofs.Common.{sym, ◌∙◌}
use Rattle.std.proofs.lemmas.Bool.{eqb-true}
use Rattle.std.specs.VecDeque.{deque_len}
use Rattle.ewma_sched.proofs.TableRosters.{dropped_table}
use Rattle.ewma_sched.proofs.table.LegTable.drop_if_empty.Goals as goal

pub returns-then-roster-eq0-clause-table : goal.returns-then-roster-eq0-clause-table
returns-then-roster-eq0-clause-table c =
    let s = c.args.self.now in
    let roster = c.in-Some.roster.now in
    dropped_table s.legs.entries s.rosters.entries c.remove.new.self.entries s.tick c.args.chan roster c.requires
    (sym c.in-Some.ensures.value) c.remove.ensures.updates.0
    (eqb-true (deque_len roster.ready_queue) 0 (sym c.is_empty.ensures ∙ c.if-is_empty.true)) c.if-roster-eq0.true
