use Rattle.std.proofs.Common.{◌≡◌, ℕ, sym, ap, ◌∙◌, refl, arith, rules}
use Rattle.std.specs.FinMap as map
use Rattle.circuit_table.specs.Indexing.{place_of}
use Rattle.circuit_table.proofs.Places.{ports_of-removed, ports_of-absent, is_indexed-removed, counted_port}
use Rattle.circuit_table.proofs.table.CircuitTable.remove.Goals as goal

pub returns-in_default : goal.returns-in_default
returns-in_default c =
    ports_of-absent c.self.inside.legs c.self.inside.places.entries c.remove.new.self.entries (c.args.chan.0, c.args.id)
    (sym c.in_default.ensures.value) (λ q. ap (λ places. place_of places q) c.in_default.ensures.unchanged)
    ∙ ap (λ m. map.remove m (c.args.chan.0, c.args.id)) c.self.view_is

pub remove-requires-2 : goal.remove-requires-2
remove-requires-2 c = c.self.invariant.has_leg _ _ (sym c.in-Some.ensures.value)

pub count_down-requires : goal.count_down-requires
count_down-requires c =
    counted_port c.self.inside.legs c.self.inside.places.entries c.self.inside.counts.entries
    (c.args.chan.0, c.args.id) c.in-Some.place c.self.invariant (sym c.in-Some.ensures.value)

pub invariant_of-self-2 : goal.invariant_of-self-2
invariant_of-self-2 c =
    is_indexed-removed c.self.inside.legs c.remove-2.new.self c.self.inside.places.entries c.remove.new.self.entries
    (c.args.chan.0, c.args.id) c.in-Some.place
    (sym c.in-Some.ensures.value) c.remove-2.ensures.updates c.remove.ensures.updates.0 c.self.invariant.apart
    c.self.invariant.has_leg
    c.self.inside.counts.entries c.count_down.new.counts.entries c.self.invariant.counted c.count_down.ensures

pub returns : goal.returns
returns c =
    ports_of-removed c.self.inside.legs c.remove-2.new.self c.self.inside.places.entries c.remove.new.self.entries
    (c.args.chan.0, c.args.id) c.in-Some.place
    (sym c.in-Some.ensures.value) c.remove-2.ensures.updates c.remove.ensures.updates.0 c.self.invariant.apart
    ∙ ap (λ m. map.remove m (c.args.chan.0, c.args.id)) c.self.view_is
