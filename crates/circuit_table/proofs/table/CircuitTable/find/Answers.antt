use Rattle.std.proofs.Common.{sym, ap, ◌∙◌}
use Rattle.std.specs.FinMap as map
use Rattle.circuit_table.proofs.Places.{find-none, find-some}
use Rattle.circuit_table.proofs.table.CircuitTable.find.Goals as goal

pub returns-in_err-place : goal.returns-in_err-place
returns-in_err-place c =
    c.from_residual.ensures
    ∙ sym (find-none c.self.inside.legs c.self.inside.places.entries (c.args.chan.0, c.args.id)
    (sym c.in_err-place.ensures.value))
    ∙ ap (λ m. map.get m (c.args.chan.0, c.args.id)) c.self.view_is

pub returns : goal.returns
returns c =
    let used = sym c.in_ok-place.ensures.value in
    c.copied.ensures
    ∙ c.get-2.ensures
    ∙ sym (find-some c.self.inside.legs c.self.inside.places.entries (c.args.chan.0, c.args.id) c.in_ok-place.place.now used
    (c.self.invariant.has_leg _ _ used))
    ∙ ap (λ m. map.get m (c.args.chan.0, c.args.id)) c.self.view_is
