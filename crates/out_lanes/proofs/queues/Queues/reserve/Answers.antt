use Rattle.std.proofs.Common.{sym, ap, ◌∙◌, subst, arith}
use Rattle.std.proofs.lemmas.Result.{err_from_is_err_and}
use Rattle.std.specs.FinMap.{from_entries}
use Rattle.out_lanes.specs.Forms.{EachWellFormed}
use Rattle.hashed_maps.proofs.Keys.{pair_keys}
use Rattle.out_lanes.proofs.Calls.{reserves, reserves-nothing, reserves-refused, reserves-added, none_at}
use Rattle.out_lanes.proofs.WellFormed.{are-written, are-added, each-same}
use Rattle.out_lanes.proofs.queues.Queues.reserve.Goals as goal

pub returns-in-Some : goal.returns-in-Some
returns-in-Some c =
    reserves pair_keys c.self.inside.queues (c.get_mut.follows.lender c.reserve.new.self) c.args.leg c.self.view_is _ _
    (c.get_mut.follows.holds c.reserve.new.self) c.in-Some.ensures.value _ c.reserve.result
    c.reserve.ensures.items c.reserve.ensures.ok c.reserve.ensures.kept c.reserve.ensures.err c.reserve.ensures.room

pub returns-then-more-eq0 : goal.returns-then-more-eq0
returns-then-more-eq0 c =
    reserves-nothing tt (ap (λ m. from_entries m.entries) c.get_mut.follows.holds-at-none ∙ c.self.view_is) c.if-more-eq0.true

pub returns-in_err-reserve : goal.returns-in_err-reserve
returns-in_err-reserve c =
    let failed = err_from_is_err_and c.from_residual.result c.from_residual.ensures.1 in
    reserves-refused _ failed.1
    (ap (λ m. from_entries m.entries) c.get_mut.follows.holds-at-none ∙ c.self.view_is)
    (none_at pair_keys c.self.inside.queues c.args.leg c.self.view_is c.in_default.ensures.value)
    (omega (arith, c.if-more-eq0.false))

pub returns-in_err-insert : goal.returns-in_err-insert
returns-in_err-insert c =
    let failed = err_from_is_err_and c.from_residual-in_err-insert.result c.from_residual-in_err-insert.ensures.1 in
    reserves-refused _ failed.1
    (ap from_entries c.in_err-insert.ensures.err ∙ ap (λ m. from_entries m.entries) c.get_mut.follows.holds-at-none
    ∙ c.self.view_is)
    (none_at pair_keys c.self.inside.queues c.args.leg c.self.view_is c.in_default.ensures.value)
    (omega (arith, c.if-more-eq0.false))

pub returns : goal.returns
returns c =
    reserves-added pair_keys c.self.inside.queues (c.get_mut.follows.lender-at-none) c.insert.new.self c.args.leg
    c.self.view_is _ c.get_mut.follows.holds-at-none c.in_ok-insert.ensures.updates c.in_default.ensures.value
    _ tt (c.reserve-2.ensures.items ∙ c.new-queue.ensures) c.in_ok-reserve.ensures.ok

pub invariant_of-self : goal.invariant_of-self
invariant_of-self c =
    are-written c.self.inside.queues (c.get_mut.follows.lender c.reserve.new.self) c.args.leg c.self.invariant _ _
    (c.get_mut.follows.holds c.reserve.new.self) c.in-Some.ensures.value
    (each-same _ _ c.reserve.ensures.items)

pub invariant_of-self-2 : goal.invariant_of-self-2
invariant_of-self-2 c =
    are-added (c.get_mut.follows.lender-at-none) c.insert.new.self c.args.leg
    (rw c.get_mut.follows.holds-at-none c.self.invariant) _ c.in_ok-insert.ensures.updates
    (subst EachWellFormed (sym (c.reserve-2.ensures.items ∙ c.new-queue.ensures)) tt)
