use Rattle.std.proofs.Common.{◌<◌, ◌∷◌, ◌++◌, [], sym, ap, ◌∙◌, subst, arith}
use Rattle.out_lanes.specs.Forms.{EachWellFormed}
use Rattle.out_lanes.specs.Lines.{line_at}
use Rattle.hashed_maps.proofs.Keys.{pair_keys}
use Rattle.out_lanes.proofs.Changes.{written, rewritten, added, line_absent, OnErr-by}
use Rattle.out_lanes.proofs.WellFormed.{are-written, are-added, each-pushed}
use Rattle.out_lanes.proofs.queues.Queues.push.Goals as goal

pub invariant_of-self : goal.invariant_of-self
invariant_of-self c =
    are-written c.self.inside.queues (c.get_mut.follows.lender c.push.new.self) c.args.leg c.self.invariant _ _
    (c.get_mut.follows.holds c.push.new.self) c.in-Some.ensures.value
    (each-pushed c.push.result _ _ c.args.cell c.push.ensures.ok c.push.ensures.err c.requires)

pub returns-in-Some-clause-ok : goal.returns-in-Some-clause-ok
returns-in-Some-clause-ok c =
    let w = written pair_keys c.self.inside.queues (c.get_mut.follows.lender c.push.new.self) c.args.leg _ _
    (c.get_mut.follows.holds c.push.new.self) c.in-Some.ensures.value in
    rw (← c.self.view_is) (rw (w.is_line, w.was_line) c.push.ensures.ok)

pub returns-in-Some-clause-spare : goal.returns-in-Some-clause-spare
returns-in-Some-clause-spare c =
    let w = written pair_keys c.self.inside.queues (c.get_mut.follows.lender c.push.new.self) c.args.leg _ _
    (c.get_mut.follows.holds c.push.new.self) c.in-Some.ensures.value in
    rw (← c.self.view_is) (rw (w.is_line, w.was_line) c.push.ensures.spare)

pub returns-in-Some-clause-others : goal.returns-in-Some-clause-others
returns-in-Some-clause-others c =
    let w = written pair_keys c.self.inside.queues (c.get_mut.follows.lender c.push.new.self) c.args.leg _ _
    (c.get_mut.follows.holds c.push.new.self) c.in-Some.ensures.value in
    rw (← c.self.view_is) w.others

pub returns-in-Some-clause-err : goal.returns-in-Some-clause-err
returns-in-Some-clause-err c =
    OnErr-by c.push.result
    (λ same. rewritten pair_keys c.self.inside.queues (c.get_mut.follows.lender c.push.new.self) c.args.leg _ _
    (c.get_mut.follows.holds c.push.new.self) c.in-Some.ensures.value same ∙ c.self.view_is)
    c.push.ensures.err

pub returns-in-Some-clause-room : goal.returns-in-Some-clause-room
returns-in-Some-clause-room c =
    let w = written pair_keys c.self.inside.queues (c.get_mut.follows.lender c.push.new.self) c.args.leg _ _
    (c.get_mut.follows.holds c.push.new.self) c.in-Some.ensures.value in
    rw (← c.self.view_is) (rw w.was_line c.push.ensures.room)

pub returns-in_err-push-clause-room : goal.returns-in_err-push-clause-room
returns-in_err-push-clause-room c =
    λ fits. let none = ap (λ m. line_at m c.args.leg) (sym c.self.view_is) ∙ line_absent pair_keys
    c.self.inside.queues.entries c.args.leg (sym c.in_default.ensures.value) in
    let some : 0 < 0 = subst (λ line. 0 < line.spare) none fits in
    absurd (omega arith)

pub returns-in_err-insert-clause-room : goal.returns-in_err-insert-clause-room
returns-in_err-insert-clause-room c =
    λ fits. let none = ap (λ m. line_at m c.args.leg) (sym c.self.view_is) ∙ line_absent pair_keys
    c.self.inside.queues.entries c.args.leg (sym c.in_default.ensures.value) in
    let some : 0 < 0 = subst (λ line. 0 < line.spare) none fits in
    absurd (omega arith)

pub invariant_of-self-2 : goal.invariant_of-self-2
invariant_of-self-2 c =
    are-added (c.get_mut.follows.lender-at-none) c.insert.new.self c.args.leg
    (rw c.get_mut.follows.holds-at-none c.self.invariant) _ c.in_ok-insert.ensures.updates
    (subst EachWellFormed (sym (c.in_ok-push.ensures.ok ∙ ap (λ cells. cells ++ c.args.cell ∷ []) c.new-queue.ensures))
    (c.requires, tt))

pub returns-clause-ok : goal.returns-clause-ok
returns-clause-ok c =
    let w = added pair_keys (c.get_mut.follows.lender-at-none) c.insert.new.self c.args.leg c.self.inside.queues _
    c.get_mut.follows.holds-at-none c.in_ok-insert.ensures.updates c.in_default.ensures.value in
    rw (← c.self.view_is)
    (rw (w.is_line, w.was_line) (c.in_ok-push.ensures.ok ∙ ap (λ cells. cells ++ c.args.cell ∷ []) c.new-queue.ensures))

pub returns-clause-spare : goal.returns-clause-spare
returns-clause-spare c =
    let w = added pair_keys (c.get_mut.follows.lender-at-none) c.insert.new.self c.args.leg c.self.inside.queues _
    c.get_mut.follows.holds-at-none c.in_ok-insert.ensures.updates c.in_default.ensures.value in
    rw (← c.self.view_is) (rw (w.is_line, w.was_line) (omega arith))

pub returns-clause-others : goal.returns-clause-others
returns-clause-others c =
    let w = added pair_keys (c.get_mut.follows.lender-at-none) c.insert.new.self c.args.leg c.self.inside.queues _
    c.get_mut.follows.holds-at-none c.in_ok-insert.ensures.updates c.in_default.ensures.value in
    rw (← c.self.view_is) w.others
